-- What the survey owes: each name of the grammar has a demand on the survey's state before it, and a promise of the state behind it, of the
-- sort of what it stands for and of its faults.
-- Assumes nothing.
use Prim.Native.Nat.{ℕ, suc, ◌≤◌, max}
use mathlib.Core.Path.{◌≡◌}
use mathlib.Core.Bool.{Bool, true, false, ◌||◌, cond}
use mathlib.Core.List.{List, [], ◌∷◌}
use lib.Dec.{T}
use Rattle.text.specs.declared.Sort.{Sort}
use Rattle.text.specs.declared.Sort.TheVariants.{Nodes, Unheld}
use Rattle.text.specs.declared.Level.{Level}
use Rattle.text.specs.Grammar.{Token}
use Rattle.text.specs.Syntax.{Syntax, begin}
use Rattle.text.specs.Machine.{Mode, has, beginning, signing, stepping, testing, ending, continuing}
use Rattle.text.specs.Machine as M
use Rattle.text.specs.Limited.{Source, place, sort, arity}
use Rattle.text.specs.Survey.{noted, end_faults, Survey, survey, survey_token, begins, path_begun, joined_on, fresh}
use Rattle.text.proofs.Machine.{Each, each}
use Rattle.text.proofs.Scheme.{View, a_name}
use Rattle.text.proofs.Surveying.Urgent.{mark, worst_in}
use Rattle.text.proofs.Surveying.Seen.{Seen, behind}

-- ---- demands that know no text

-- the level and the sort once a path has begun
abbrev pub pathed : Mode → Level → Level
pathed m l = cond (begins m) (path_begun l) l

abbrev pub path_sort : Mode → Sort → Sort
path_sort m v = cond (begins m) Nodes v

-- a step is due
pub data Stepping : Survey → Type 0 where
  stepping_on :
      {m : Mode} {l : Level} {ls : List Level} {v : Sort} {n found : ℕ} → T (has stepping m) → (pathed m l).inpath ≡ true
      → Stepping (survey m l ls v n found)

-- a node test is due
pub data Testing : Survey → Type 0 where
  testing_on : {m : Mode} {l : Level} {ls : List Level} {v : Sort} {n found : ℕ} → T (has testing m) → Testing (survey m l ls v n found)

-- predicates may follow
pub data Following : Survey → Type 0 where
  following : {l : Level} {ls : List Level} {v : Sort} {n found : ℕ} → Following (survey M.part l ls v n found)

-- a step's predicates may follow
pub data InPath : Survey → Type 0 where
  in_path : {l : Level} {ls : List Level} {v : Sort} {n found : ℕ} → l.inpath ≡ true → InPath (survey M.part l ls v n found)

module _ (s : Source) where
  -- ---- expressions

  -- an operand is due at token i, where a sign may stand; the level is At its first byte
  pub data Before (At : ℕ → Level → Type 0) (i : ℕ) : Survey → Type 0 where
    before :
        {m : Mode} {l : Level} {ls : List Level} {v : Sort} {n found : ℕ} → T (has signing m) → At (place s i) l
        → Before At i (survey m l ls v n found)

  -- x was read at token i: operators that bind no more strongly than k see it as one operand of its sort, with its faults
  pub data Whole (k : ℕ) (l : Level) (ls : List Level) (found i : ℕ) (x : Syntax) : Survey → Type 0 where
    whole :
        {m' : Mode} {l' : Level} {v' : Sort} {n' found' : ℕ} → T (has ending m') → begin x ≡ i
        → Seen s k l (sort s x) (max (worst_in s x) found) l' v' found' → Whole k l ls found i x (survey m' l' ls v' n' found')

  abbrev pub Wholly : ℕ → Survey → ℕ → Syntax → Survey → Type 0
  Wholly k (survey m l ls v n found) i x g' = Whole k l ls found i x g'

  abbrev pub expression : (ℕ → Level → Type 0) → ℕ → View Survey
  expression At k = a_name (λ g i. Before At i g) (λ g i g' j x. Wholly k g i x g')

  -- ---- operands

  -- an operand, or a part of a union, is due at token i, and the level knows its first byte
  pub data Due (i : ℕ) : Survey → Type 0 where
    due :
        {m : Mode} {l : Level} {ls : List Level} {v : Sort} {n found : ℕ} → T (has beginning m) → l.m ≡ place s i
        → Due i (survey m l ls v n found)

  -- x was read at token i, and v' is its sort; but if c holds then it is unheld, and its own fault is at its first byte
  pub record Operand (found i : ℕ) (x : Syntax) (c : Bool) (v' : Sort) (found' : ℕ) : Type 0 where
    pub sorted : sort s x ≡ cond c Unheld v'
    pub begins_at : begin x ≡ i
    pub marked : max (mark s c (place s i)) (worst_in s x) ≡ worst_in s x
    pub finds : found' ≡ max (worst_in s x) found

  -- a path or another operand was read: of the level only the operand's flags have changed
  pub data Exact (l : Level) (ls : List Level) (found i : ℕ) (x : Syntax) : Survey → Type 0 where
    exact :
        {m' : Mode} {d b : Bool} {v' : Sort} {n' found' : ℕ} → T (has ending m') → (c : Bool) → d ≡ (l.joined || c)
        → Operand found i x c v' found' → Exact l ls found i x (survey m' (behind d b l.m l) ls v' n' found')

  abbrev pub Exactly : Survey → ℕ → Syntax → Survey → Type 0
  Exactly (survey m l ls v n found) i x g' = Exact l ls found i x g'

  abbrev pub path : View Survey
  path = a_name (λ g i. Due i g) (λ g i g' j x. Exactly g i x g')

  -- so too, and it is no path: its predicates, or steps from it, may follow
  pub data Primary (l : Level) (ls : List Level) (found i : ℕ) (x : Syntax) : Survey → Type 0 where
    primary :
        {d : Bool} {v' : Sort} {n' found' : ℕ} → (c : Bool) → d ≡ (l.joined || c) → Operand found i x c v' found'
        → Primary l ls found i x (survey M.part (behind d false l.m l) ls v' n' found')

  abbrev pub Primarily : Survey → ℕ → Syntax → Survey → Type 0
  Primarily (survey m l ls v n found) i x g' = Primary l ls found i x g'

  abbrev pub primary_view : View Survey
  primary_view = a_name (λ g i. Due i g) (λ g i g' j x. Primarily g i x g')

  -- parts of a union were read; behind the first, the level knows the first byte of the last part
  pub data United (l : Level) (ls : List Level) (found i : ℕ) (x : Syntax) : Survey → Type 0 where
    united :
        {m' : Mode} {c b : Bool} {r : ℕ} {v' : Sort} {n' found' : ℕ} → T (has ending m') → (c ≡ false → r ≡ place s i)
        → Operand found i x c v' found' → United l ls found i x (survey m' (behind c b r l) ls v' n' found')

  abbrev pub Unitedly : Survey → ℕ → Syntax → Survey → Type 0
  Unitedly (survey m l ls v n found) i x g' = United l ls found i x g'

  -- ---- steps and predicates

  -- steps or predicates were read: what was a path's sort is one, and their faults are found
  pub data Walked (ms : List Mode) (l : Level) (ls : List Level) (v : Sort) (found : ℕ) (x : Syntax) : Survey → Type 0 where
    walked :
        {m' : Mode} {v' : Sort} {n' found' : ℕ} → T (has ms m') → (v ≡ Nodes → v' ≡ Nodes) → found' ≡ max (worst_in s x) found
        → Walked ms l ls v found x (survey m' l ls v' n' found')

  abbrev pub Walks : Survey → Syntax → Survey → Type 0
  Walks (survey m l ls v n found) x g' = Walked continuing (pathed m l) ls (path_sort m v) found x g'

  abbrev pub walk : View Survey
  walk = a_name (λ g i. Stepping g) (λ g i g' j x. Walks g x g')

  abbrev pub Filters : Survey → Syntax → Survey → Type 0
  Filters (survey m l ls v n found) x g' = Walked (M.part ∷ []) l ls v found x g'

  -- an axis was read, or none
  pub data Specified (l : Level) (ls : List Level) (v : Sort) (found : ℕ) (x : Syntax) : Survey → Type 0 where
    specified :
        {m' : Mode} {l' : Level} {v' : Sort} {n' found' : ℕ} → T (has testing m') → pathed m' l' ≡ l → path_sort m' v' ≡ v
        → found' ≡ max (worst_in s x) found → Specified l ls v found x (survey m' l' ls v' n' found')

  abbrev pub Specifies : Survey → Syntax → Survey → Type 0
  Specifies (survey m l ls v n found) x g' = Specified (pathed m l) ls (path_sort m v) found x g'

  abbrev pub specifier : View Survey
  specifier = a_name (λ g i. Stepping g) (λ g i g' j x. Specifies g x g')

  -- a node test was read
  pub data Tested (l : Level) (ls : List Level) (v : Sort) (found : ℕ) (x : Syntax) : Survey → Type 0 where
    tested : {n' found' : ℕ} → found' ≡ max (worst_in s x) found → Tested l ls v found x (survey M.part l ls v n' found')

  abbrev pub Tests : Survey → Syntax → Survey → Type 0
  Tests (survey m l ls v n found) x g' = Tested (pathed m l) ls (path_sort m v) found x g'

  -- a predicate was read, in a path or behind another operand, whose own fault is then noted
  pub data Filtered (l : Level) (ls : List Level) (found : ℕ) (x : Syntax) : Bool → Survey → Type 0 where
    of_step_lem : {n' found' : ℕ} → found' ≡ max (worst_in s x) found → Filtered l ls found x true (survey M.part l ls Nodes n' found')
    of_operand :
        {n' found' : ℕ} → found' ≡ max (worst_in s x) (noted s true l.m found)
        → Filtered l ls found x false (survey M.part (joined_on l) ls Nodes n' found')

  abbrev pub Predicated : Survey → Syntax → Survey → Type 0
  Predicated (survey m l ls v n found) x g' = Filtered l ls found x l.inpath g'

  -- ---- calls

  -- the arguments of a call are due at token i; o is the level of the call's operand, which begins before them
  pub data Arguing (i : ℕ) : Survey → Type 0 where
    arguing :
        {m : Mode} {kind : ℕ} {o : Level} {ls : List Level} {v : Sort} {n found : ℕ} → T (has signing m) → o.m ≤ place s i
        → Arguing i (survey m (fresh kind (place s i)) (o ∷ ls) v n found)

  -- one argument was read, or several: no call of several is held, and its fault was noted at the first comma
  pub data Argued (kind : ℕ) (o : Level) (ls : List Level) (found i : ℕ) (x : Syntax) : Survey → Type 0 where
    single :
        {m' : Mode} {l' : Level} {v' : Sort} {n' found' : ℕ} → T (has ending m') → arity x ≡ 1 → begin x ≡ i
        → Seen s 1 (fresh kind (place s i)) (sort s x) (max (worst_in s x) found) l' v' found'
        → Argued kind o ls found i x (survey m' l' (o ∷ ls) v' n' found')
    several :
        {m' : Mode} {l' : Level} {v' : Sort} {n' found' : ℕ} → T (has ending m') → 2 ≤ arity x → l'.kind ≡ 9
        → end_faults (noted s) l' v' found' ≡ max (mark s true o.m) (max (worst_in s x) found)
        → Argued kind o ls found i x (survey m' l' (o ∷ ls) v' n' found')

  abbrev pub Argues : Survey → ℕ → Syntax → Survey → Type 0
  Argues (survey m l [] v n found) i x g' = ⊥
  Argues (survey m l (o ∷ ls) v n found) i x g' = Argued l.kind o ls found i x g'

  -- ---- tokens

  -- in this mode, or in each of these modes, the token is read so
  abbrev pub ReadsIn : Mode → Token → (Level → List Level → Sort → ℕ → ℕ → ℕ → Survey) → Type 0
  ReadsIn m t F = (l : Level) (ls : List Level) (v : Sort) (n found i : ℕ) → survey_token s (survey m l ls v n found) i t ≡ F l ls v n found i

  abbrev pub Reads : List Mode → Token → (Level → List Level → Sort → ℕ → ℕ → ℕ → Survey) → Type 0
  Reads ms t F =
      (m : Mode) (l : Level) (ls : List Level) (v : Sort) (n found i : ℕ) → T (has ms m)
      → survey_token s (survey m l ls v n found) i t ≡ F l ls v n found i

  pub read_so :
      (ms : List Mode) (t : Token) (F : Level → List Level → Sort → ℕ → ℕ → ℕ → Survey) → Each (λ m. ReadsIn m t F) ms → Reads ms t F
  read_so ms t F here m l ls v n found i e = each (λ m. ReadsIn m t F) ms m here e l ls v n found i

  -- two tokens and three, the first at i
  abbrev pub read_two : Survey → ℕ → Token → Token → Survey
  read_two g i t u = survey_token s (survey_token s g i t) (suc i) u

  abbrev pub read_three : Survey → ℕ → Token → Token → Token → Survey
  read_three g i t u v = survey_token s (read_two g i t u) (suc (suc i)) v
