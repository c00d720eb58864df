-- One token of the survey, by the numbers of its class and of the mode, for each kind of act: it leads to a mode, it opens a bracket, it
-- closes one, it parts two arguments. The level, the operand's sort and the fault behind it are those that the code computes.
-- Assumes nothing.
use Prim.Native.Nat.{ℕ, suc, ◌+◌, ◌-◌, ◌≤◌, ◌<◌}
use mathlib.Core.Path.{◌≡◌, refl, ◌∙◌, ap, sym, subst}
use mathlib.Core.Bool.{Bool, true, false, not, cond}
use mathlib.Core.List.{List, ◌∷◌}
use lib.Dec.{T, eqb}
use lib.ListN.{length}
use Rattle.std.specs.Prelude.{Option}
use borrow.Author.Tests.{eqb-true}
use Rattle.meaning.proofs.Bools.{not_e, eq→eqb}
use Rattle.text.specs.declared.Fault.{Fault}
use Rattle.text.specs.declared.Level.{Level}
use Rattle.text.specs.declared.Sort.{Sort}
use Rattle.text.specs.Tokens.{code, class_of}
use Rattle.text.specs.Machine.{Mode, Act, operand, part, number, has, rows, pick}
use Rattle.text.specs.Limited.{Source, place}
use Rattle.text.specs.Survey.{noted, fresh, end_faults, level_sort, sort_behind, fault_behind, Survey, survey, after, left, comma_read, survey_token}
use Rattle.modes.specs.Acts.{opened, act_number, act_of}
use Rattle.modes.proofs.Table.{every, at}
use Rattle.levels.specs.Levels.{group_of, tightness_of, level_in, sort_in, lowered, own_of, name_in, fault_in, urgency_of, sound}
use Rattle.levels.proofs.Modes.{numbers, mode_at, code_class, number_mode, is_go, is_enter, goes, enters, leaves, parts}
use Rattle.levels.proofs.Urgent.{Tells, Inside, sound_tells, lowered_tells, end_faults_tell}
use Rattle.levels.proofs.Acting.{Known, Behind, Goes, Enters, goes_behind, enters_behind, leaves_behind, parts_behind}

-- ---- what is behind a token of class k in mode q

-- the fault behind token i, which leads to a mode or opens a bracket
abbrev pub fault_beyond : Source → ℕ → Level → Sort → ℕ → ℕ → ℕ → Option Fault → Option Fault
fault_beyond s i l v n k q f = fault_in (group_of k) k (tightness_of k) q l v n (place s i) (own_of s k (place s i)) f

-- of a level that closes: how many arguments it holds, none or one; its sort; is it at fault; the fault behind it, o being the level around
abbrev pub arity_in : ℕ → ℕ
arity_in q = cond (eqb q 1) 0 1

abbrev pub sort_closed : ℕ → Level → Sort → Sort
sort_closed q l v = sort_behind l.kind (arity_in q) (level_sort l v)

abbrev pub is_faulty : ℕ → Level → Sort → Bool
is_faulty q l v = fault_behind l.kind (arity_in q) (level_sort l v)

abbrev pub fault_closed : ℕ → Level → Level → Sort → Option Fault → Option Fault
fault_closed q l o v f = lowered (is_faulty q l v) o.m (cond (eqb (arity_in q) 0) f (end_faults lowered l v f))

-- the fault behind the first of two arguments
abbrev pub fault_parted : Level → Level → Sort → Option Fault → Option Fault
fault_parted l o v f = lowered true o.m (end_faults lowered l v f)

-- the act of class k in mode q
abbrev act : ℕ → ℕ → Act
act k q = pick (rows (class_of k)) (mode_at q)

-- what holds by the numbers of a class and of a mode, and of the mode behind
by_numbers :
    (P : Mode → ℕ → ℕ → Type 0) (k q : ℕ) {m : Mode} → k < 34 → q < 14 → after (act k q) (mode_at q) ≡ m
    → P (after (act k q) (mode_at q)) (code (class_of k)) (number (mode_at q)) → P m k q
by_numbers P k q {m} class mode e h =
    subst (λ (m' : Mode). P m' k q) e
    (subst (λ (k' : ℕ). P (after (act k q) (mode_at q)) k' q) (code_class k class)
    (subst (λ (q' : ℕ). P (after (act k q) (mode_at q)) (code (class_of k)) q') (number_mode q mode) h))

-- ---- a token that leads to a mode, or opens a bracket

module _ (s : Source) (i : ℕ) (l : Level) (ls : List Level) (v : Sort) (n : ℕ) (f : Option Fault) (k q : ℕ) (class : k < 34) (mode : q < 14)
    (safe : T (sound s f)) (known : Known s i l n q) where
  settled :
      {y : ℕ → Survey} {z : Survey} → Behind s i l ls v n (urgency_of s f) k q y z
      → (z ≡ y (urgency_of s (fault_beyond s i l v n k q f))) × T (sound s (fault_beyond s i l v n k q f))
  settled {y} b =
      let told : Tells s (fault_beyond s i l v n k q f) b.urgency = b.tells f (sound_tells s f safe) known in
      (b.equation ∙ ap y (sym told.urgent), told.safe)

  pub token_goes :
      1 ≤ act_of k q → act_of k q ≤ 14
      → (survey_token s (survey (mode_at q) l ls v n (urgency_of s f)) i (class_of k)
      ≡ survey (mode_at (act_of k q - 1)) (level_in (group_of k) (tightness_of k) q (place s (suc i)) l) ls (sort_in (group_of k) k q v)
      (name_in s k (place s i) n) (urgency_of s (fault_beyond s i l v n k q f)))
      × T (sound s (fault_beyond s i l v n k q f))
  unfolding act_of
  token_goes least most =
      let x : ℕ = urgency_of s f in
      let told : T (is_go (act k q)) × (after (act k q) (mode_at q) ≡ mode_at (act_number (act k q) - 1)) =
      goes (act k q) (mode_at q) least most in
      settled
      (by_numbers (Goes s i l ls v n x (class_of k) (mode_at q)) k q class mode told.1
      (goes_behind s i l ls v n x (class_of k) (mode_at q) told.0))

  pub token_enters :
      15 ≤ act_of k q → act_of k q ≤ 17
      → (survey_token s (survey (mode_at q) l ls v n (urgency_of s f)) i (class_of k)
      ≡ survey (mode_at (cond (eqb (act_of k q) 16) 1 0))
      (fresh (cond (eqb (act_of k q) 15) 1 (cond (eqb (act_of k q) 16) (4 + n) 2)) (place s (suc i)))
      (level_in (group_of k) (tightness_of k) q (place s (suc i)) l ∷ ls) v n (urgency_of s (fault_beyond s i l v n k q f)))
      × T (sound s (fault_beyond s i l v n k q f))
  unfolding act_of
  token_enters least most =
      let x : ℕ = urgency_of s f in
      let a : ℕ = act_number (act k q) in
      let told : T (is_enter (act k q)) × (after (act k q) (mode_at q) ≡ mode_at (cond (eqb (act_number (act k q)) 16) 1 0)) =
      enters (act k q) (mode_at q) least most in
      settled
      (by_numbers (λ (m' : Mode) (k' q' : ℕ). Enters s i l ls v n x (class_of k) (mode_at q) m' a k' q') k q class mode told.1
      (enters_behind s i l ls v n x (class_of k) (mode_at q) told.0))

-- ---- `]` never stands behind the `(` of a call: with it the arity below is 1

no_square : ℕ → ℕ → Bool
no_square k x = not (eqb (act_of k 1) 19)

every_square : T (every no_square 0 numbers)
unfolding no_square act_of act_number opened number rows has pick
every_square = tt

pub square_arity : (k q : ℕ) → k < 34 → act_of k q ≡ 19 → arity_in q ≡ 1
unfolding no_square
square_arity k q class e = by (eqb q 1) refl
  where
    by : (b : Bool) → eqb q 1 ≡ b → ◌≡◌ {A = ℕ} (cond b 0 1) 1
    by true f =
        absurd (not_e (eqb (act_of k 1) 19) (at no_square numbers every_square k class)
        (eq→eqb (act_of k 1) 19 (ap (λ (r : ℕ). act_of k r) (sym (eqb-true q 1 f)) ∙ e)))
    by false f = refl

-- ---- a token that closes a bracket, or parts two arguments; o is the level around

module _ (s : Source) (i : ℕ) (l o : Level) (ls : List Level) (v : Sort) (n : ℕ) (k q : ℕ) (mode : q < 14) where
  -- the survey behind the token
  abbrev beyond : ℕ → Survey
  beyond x = survey_token s (survey (mode_at q) l (o ∷ ls) v n x) i (class_of k)

  pub token_closes :
      (x : ℕ) → 18 ≤ act_of k q → act_of k q ≤ 19
      → survey_token s (survey (mode_at q) l (o ∷ ls) v n x) i (class_of k)
      ≡ left part (arity_in q) s (survey (mode_at q) l (o ∷ ls) v n x)
  unfolding act_of
  token_closes x least most =
      subst (λ (q' : ℕ). beyond x ≡ left part (arity_in q') s (survey (mode_at q) l (o ∷ ls) v n x)) (number_mode q mode)
      (leaves_behind s i l (o ∷ ls) v n x (class_of k) (mode_at q) (leaves (act k q) least most))

  module _ (f : Option Fault) (safe : T (sound s f)) (inside : Inside s l) (around : o.m ≤ length s.text) where
    ended : (b : Bool) → Tells s (cond b f (end_faults lowered l v f)) (cond b (urgency_of s f) (end_faults (noted s) l v (urgency_of s f)))
    ended true = sound_tells s f safe
    ended false = end_faults_tell s v inside (sound_tells s f safe)

    pub token_leaves :
        18 ≤ act_of k q → act_of k q ≤ 19
        → (survey_token s (survey (mode_at q) l (o ∷ ls) v n (urgency_of s f)) i (class_of k) ≡ survey part o ls (sort_closed q l v) n (urgency_of s (fault_closed q l o v f)))
        × T (sound s (fault_closed q l o v f))
    unfolding left
    token_leaves least most =
        let x : ℕ = urgency_of s f in
        let told : Tells s (fault_closed q l o v f) (noted s (is_faulty q l v) o.m (cond (eqb (arity_in q) 0) x (end_faults (noted s) l v x))) =
        lowered_tells s (is_faulty q l v) around (ended (eqb (arity_in q) 0)) in
        (token_closes x least most ∙ ap (survey part o ls (sort_closed q l v) n) (sym told.urgent), told.safe)

    pub token_parts :
        act_of k q ≡ 20
        → (survey_token s (survey (mode_at q) l (o ∷ ls) v n (urgency_of s f)) i (class_of k)
        ≡ survey operand (fresh 9 (place s (suc i))) (o ∷ ls) v n (urgency_of s (fault_parted l o v f)))
        × T (sound s (fault_parted l o v f))
    unfolding act_of comma_read
    token_parts e =
        let x : ℕ = urgency_of s f in
        let told : Tells s (fault_parted l o v f) (noted s true o.m (end_faults (noted s) l v x)) = lowered_tells s true around (ended false) in (
          parts_behind s i l (o ∷ ls) v n x (class_of k) (mode_at q) (parts (act k q) e)
              ∙ ap (survey operand (fresh 9 (place s (suc i))) (o ∷ ls) v n) (sym told.urgent),
          told.safe,
        )
