-- The machine accepts every text of the grammar. Each symbol has a shape: the modes in which it may begin, the modes in which it may end, and
-- the brackets that it stands in. That each production keeps the shape of its name is computed, and an induction on the derivation does the rest.
-- Assumes nothing.
use Prim.Native.Nat.{ℕ}
use mathlib.Core.Path.{◌≡◌, refl, sym, ◌∙◌, ap, ap₂, subst}
use mathlib.Core.Bool.{Bool, true, false, ◌&&◌}
use mathlib.Core.List.{List, [], ◌∷◌, ◌++◌, append_assoc, cons≢nil}
use lib.Dec.{T, eqb, eqb→eq}
use lib.ListN.{get_or}
use Rattle.text.specs.Grammar.{Token}
use Rattle.text.specs.Grammar.{Symbol, the, LocationPath, AbsoluteLocationPath, RelativeLocationPath, Step, AxisSpecifier, NodeTest, Predicates, Predicate, PredicateExpr, AbbreviatedAbsoluteLocationPath, AbbreviatedRelativeLocationPath, AbbreviatedStep, AbbreviatedAxisSpecifier, Expr, PrimaryExpr, FunctionCall, Arguments, Argument, UnionExpr, PathExpr, FilterExpr, OrExpr, AndExpr, EqualityExpr, RelationalExpr, AdditiveExpr, MultiplicativeExpr, UnaryExpr, productions, Among, first, later, Derives, none, token, by, Sentence}
use Rattle.text.specs.Machine.{inner, Mode, operand, part, number, beginning, signing, stepping, testing, ending, continuing, Bracket, group, arguments, predicate, rows, has, pick, State, stuck, reading, done, next, run, start, accepting, accepts}
use Rattle.text.proofs.Machine.{and_l, and_r, Each, each, run_append, over, Alive, done_over}

-- ---- tests over lists

abbrev all : {A : Type 0} → (A → Bool) → List A → Bool
all f [] = true
all f (x ∷ xs) = f x && all f xs

all_rows : (f : List Symbol → Bool) {r : List Symbol} {l : List (List Symbol)} → T (all f l) → Among r l → T (f r)
all_rows f h (first {rows = l}) = and_l (f _) (all f l) h
all_rows f h (later {q = q} {rows = l} a) = all_rows f (and_r (f q) (all f l) h) a

all_modes : (f : Mode → Bool) (ms : List Mode) (m : Mode) → T (all f ms) → T (has ms m) → T (f m)
all_modes f ms m h k = each (λ n. T (f n)) ms m (there ms h) k
  where
    there : (ms : List Mode) → T (all f ms) → Each (λ n. T (f n)) ms
    there [] h = tt
    there (n ∷ ms) h = (and_l (f n) (all f ms) h, there ms (and_r (f n) (all f ms) h))

-- ---- brackets

abbrev code : Bracket → ℕ
code group = 0
code arguments = 1
code predicate = 2

code_tells : (b c : Bracket) → T (eqb (code b) (code c)) → b ≡ c
code_tells b c h = sym (decoded b) ∙ ap (λ (k : ℕ). get_or (group ∷ arguments ∷ predicate ∷ []) k group) (eqb→eq (code b) (code c) h) ∙ decoded c
  where
    decoded : (b : Bracket) → get_or (group ∷ arguments ∷ predicate ∷ []) (code b) group ≡ b
    decoded group = refl
    decoded arguments = refl
    decoded predicate = refl

-- the brackets w stand in front
abbrev fits : List Bracket → List Bracket → Bool
fits [] around = true
fits (b ∷ w) [] = false
fits (b ∷ w) (c ∷ around) = eqb (code b) (code c) && fits w around

abbrev alike : List Bracket → List Bracket → Bool
alike [] [] = true
alike [] (c ∷ x) = false
alike (b ∷ w) [] = false
alike (b ∷ w) (c ∷ x) = eqb (code b) (code c) && alike w x

fitting : (w around : List Bracket) → T (fits w around) → (below : List Bracket) × (around ≡ w ++ below)
fitting [] around h = (around, refl)
fitting (b ∷ w) [] h = absurd h
fitting (b ∷ w) (c ∷ around) h =
    let (below, e) = fitting w around (and_r (eqb (code b) (code c)) (fits w around) h) in
    (below, ap₂ ◌∷◌ (sym (code_tells b c (and_l (eqb (code b) (code c)) (fits w around) h))) e)

alike_same : (w x : List Bracket) → T (alike w x) → w ≡ x
alike_same [] [] h = refl
alike_same [] (c ∷ x) h = absurd h
alike_same (b ∷ w) [] h = absurd h
alike_same (b ∷ w) (c ∷ x) h = rw (code_tells b c (and_l (eqb (code b) (code c)) (alike w x) h), alike_same w x (and_r (eqb (code b) (code c)) (alike w x) h))

-- ---- shapes

data Kind : Type 0 where
  single : Token → Kind
  shape : List Mode → List Mode → List Bracket → Kind

kind : Symbol → Kind
kind (the t) = single t
kind LocationPath = shape beginning ending []
kind AbsoluteLocationPath = shape beginning ending []
kind RelativeLocationPath = shape stepping continuing []
kind Step = shape stepping continuing []
kind AxisSpecifier = shape stepping testing []
kind NodeTest = shape testing (part ∷ []) []
kind Predicates = shape (part ∷ []) (part ∷ []) []
kind Predicate = shape (part ∷ []) (part ∷ []) []
kind PredicateExpr = shape signing ending []
kind AbbreviatedAbsoluteLocationPath = shape beginning continuing []
kind AbbreviatedRelativeLocationPath = shape stepping continuing []
kind AbbreviatedStep = shape stepping continuing []
kind AbbreviatedAxisSpecifier = shape stepping testing []
kind Expr = shape signing ending []
kind PrimaryExpr = shape beginning (part ∷ []) []
kind FunctionCall = shape beginning (part ∷ []) []
kind Arguments = shape signing ending (arguments ∷ [])
kind Argument = shape signing ending []
kind UnionExpr = shape beginning ending []
kind PathExpr = shape beginning ending []
kind FilterExpr = shape beginning (part ∷ []) []
kind OrExpr = shape signing ending []
kind AndExpr = shape signing ending []
kind EqualityExpr = shape signing ending []
kind RelationalExpr = shape signing ending []
kind AdditiveExpr = shape signing ending []
kind MultiplicativeExpr = shape signing ending []
kind UnaryExpr = shape signing ending []

Test : Type 0
Test = Mode → List Bracket → Bool

abbrev at_state : (Mode → List Bracket → Bool) → State → Bool
at_state f stuck = false
at_state f (reading m around) = f m around

-- wherever this symbol ends, f holds
abbrev through : Kind → (Mode → List Bracket → Bool) → Mode → List Bracket → Bool
through (single t) f m around = at_state f (next (reading m around) t)
through (shape from to w) f m around = has from m && (fits w around && all (λ n. f n around) to)

abbrev ok : List Symbol → (Mode → List Bracket → Bool) → Mode → List Bracket → Bool
ok [] f = f
ok (n ∷ s) f = through (kind n) (ok s f)

abbrev final : List Mode → List Bracket → Mode → List Bracket → Bool
final to w m around = has to m && alike around w

abbrev kept : List Mode → List Mode → List Bracket → List (List Symbol) → Bool
kept from to w l = all (λ r. all (λ m. ok r (final to w) m w) from) l

-- the rows of a name keep its shape; a token has none
abbrev Kept : Kind → List (List Symbol) → Type 0
Kept (single t) l = l ≡ []
Kept (shape from to w) l = T (kept from to w l)

every_production_keeps_its_shape : (n : Symbol) → Kept (kind n) (productions n)
unfolding kind productions has number next done inner pick rows
every_production_keeps_its_shape (the t) = refl
every_production_keeps_its_shape LocationPath = tt
every_production_keeps_its_shape AbsoluteLocationPath = tt
every_production_keeps_its_shape RelativeLocationPath = tt
every_production_keeps_its_shape Step = tt
every_production_keeps_its_shape AxisSpecifier = tt
every_production_keeps_its_shape NodeTest = tt
every_production_keeps_its_shape Predicates = tt
every_production_keeps_its_shape Predicate = tt
every_production_keeps_its_shape PredicateExpr = tt
every_production_keeps_its_shape AbbreviatedAbsoluteLocationPath = tt
every_production_keeps_its_shape AbbreviatedRelativeLocationPath = tt
every_production_keeps_its_shape AbbreviatedStep = tt
every_production_keeps_its_shape AbbreviatedAxisSpecifier = tt
every_production_keeps_its_shape Expr = tt
every_production_keeps_its_shape PrimaryExpr = tt
every_production_keeps_its_shape FunctionCall = tt
every_production_keeps_its_shape Arguments = tt
every_production_keeps_its_shape Argument = tt
every_production_keeps_its_shape UnionExpr = tt
every_production_keeps_its_shape PathExpr = tt
every_production_keeps_its_shape FilterExpr = tt
every_production_keeps_its_shape OrExpr = tt
every_production_keeps_its_shape AndExpr = tt
every_production_keeps_its_shape EqualityExpr = tt
every_production_keeps_its_shape RelationalExpr = tt
every_production_keeps_its_shape AdditiveExpr = tt
every_production_keeps_its_shape MultiplicativeExpr = tt
every_production_keeps_its_shape UnaryExpr = tt

nowhere : {r : List Symbol} {l : List (List Symbol)} → Among r l → l ≡ [] → ⊥
nowhere first e = cons≢nil e
nowhere (later a) e = cons≢nil e

-- a row of a name, begun where the name may begin
row :
    (k : Kind) (l : List (List Symbol)) → Kept k l
    → (r : List Symbol) (f : Mode → List Bracket → Bool) (m : Mode) (around : List Bracket) → Among r l → T (through k f m around)
    → (to : List Mode) × (w below : List Bracket) × (around ≡ w ++ below) × T (ok r (final to w) m w) × ((k : Mode) → T (has to k) → T (f k around))
row (single t) l c r f m around a h = absurd (nowhere a c)
row (shape from to w) l c r f m around a h =
    let rest : Bool = all (λ n. f n around) to in
    let begun : T (has from m) = and_l (has from m) (fits w around && rest) h in
    let after : T (fits w around && rest) = and_r (has from m) (fits w around && rest) h in
    let (below, e) = fitting w around (and_l (fits w around) rest after) in (
      to,
      w,
      below,
      e,
      all_modes (λ m. ok r (final to w) m w) from m (all_rows (λ r. all (λ m. ok r (final to w) m w) from) c a) begun,
      (λ k g. all_modes (λ n. f n around) to k (and_r (fits w around) rest after) g),
    )

-- the machine lives on where a test holds
living : (s : State) (f : Mode → List Bracket → Bool) → T (at_state f s) → Alive s
living stuck f h = h
living (reading m around) f h = tt

onward : (s : State) (below : List Bracket) (f : Mode → List Bracket → Bool) → T (at_state f s) → (k : Mode) × (inner : List Bracket) × (over below s ≡ reading k (inner ++ below)) × T (f k inner)
onward stuck below f h = absurd h
onward (reading k inner) below f h = (k, inner, refl, h)

-- what derives from symbols that are fine from here can be read from here, and what stands below the brackets stays
reads :
    {s : List Symbol} {ts : List Token} → Derives s ts → (f : Mode → List Bracket → Bool) (m : Mode) (around below : List Bracket) → T (ok s f m around)
    → (k : Mode) × (inner : List Bracket) × (run (reading m (around ++ below)) ts ≡ reading k (inner ++ below)) × T (f k inner)
unfolding run kind next
reads none f m around below h = (m, around, refl, h)
reads (token {t = t} {s = s} {ts = ts} d) f m around below h =
    let here : State = done (pick (rows t) m) around in
    let (k, inner, e, g) = onward here below (ok s f) h in
    let moved : done (pick (rows t) m) (around ++ below) ≡ reading k (inner ++ below) = done_over (pick (rows t) m) around below (living here (ok s f) h) ∙ e in
    let (k', inner', e', g') = reads d f k inner below g in
    (k', inner', ap (λ (x : State). run x ts) moved ∙ e', g')
reads (by {n = n} {r = r} {s = s} {xs = xs} {ts = ts} a d e) f m around below h =
    let (to, w, rest, same, fine, after) = row (kind n) (productions n) (every_production_keeps_its_shape n) r (ok s f) m around a h in
    let (k, inner, ran, ended) = reads d (final to w) m w (rest ++ below) fine in
    let back : inner ++ (rest ++ below) ≡ around ++ below =
    ap (λ (x : List Bracket). x ++ (rest ++ below)) (alike_same inner w (and_r (has to k) (alike inner w) ended)) ∙ (sym (append_assoc w rest below) ∙ ap (λ (x : List Bracket). x ++ below) (sym same)) in
    let out : w ++ (rest ++ below) ≡ around ++ below = sym (append_assoc w rest below) ∙ ap (λ (x : List Bracket). x ++ below) (sym same) in
    let there : run (reading m (around ++ below)) xs ≡ reading k (around ++ below) =
    ap (λ (x : List Bracket). run (reading m x) xs) (sym out) ∙ (ran ∙ ap (λ (x : List Bracket). reading k x) back) in
    let (k', inner', ran', g') = reads e f k around below (after k (and_l (has to k) (alike inner w) ended)) in
    (k', inner', run_append (reading m (around ++ below)) xs ts ∙ (ap (λ (x : State). run x ts) there ∙ ran'), g')

accepted : (s : State) (k : Mode) (inner : List Bracket) → s ≡ reading k (inner ++ []) → T (final ending [] k inner) → T (accepting s)
unfolding accepting
accepted s k [] e h = subst (λ (x : State). T (accepting x)) (sym e) (and_l (has ending k) (alike [] []) h)
accepted s k (b ∷ inner) e h = absurd (and_r (has ending k) (alike (b ∷ inner) []) h)

-- a text of the grammar is accepted
pub sentence_accepted : (ts : List Token) → Sentence ts → T (accepts ts)
unfolding kind has number
sentence_accepted ts d =
    let (k, inner, e, h) = reads d (final ending []) operand [] [] tt in
    accepted (run start ts) k inner e h
