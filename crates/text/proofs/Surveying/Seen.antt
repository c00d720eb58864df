-- What the tokens behind an operand see of it: the survey's level, sort and fault behind an expression look as if one operand had been read.
-- An operator between two operands keeps that, for all operators that bind as strongly or less.
-- Assumes nothing.
use Prim.Native.Nat.{ℕ, zero, suc, ◌≤◌, max}
use mathlib.Core.Path.{◌≡◌, refl, sym, ◌∙◌}
use mathlib.Core.Bool.{Bool, true, false, ◌&&◌, ◌||◌, not, cond}
use native.Mathlib.Omega.{arith}
use lib.Dec.{eqb, leb}
use Rattle.text.specs.declared.Sort.{Sort}
use Rattle.text.specs.declared.Sort.TheVariants.{Numeral, Truth, Unheld}
use Rattle.text.specs.declared.Level.{Level}
use Rattle.text.specs.Limited.{Source, number_taken}
use Rattle.text.specs.Survey.{wants_path, bare, level_sort, operated, operator_faults, sign_faults, end_faults, noted}
use Rattle.text.proofs.Surveying.Urgent.{max_assoc, maxima, mark, noted_mark}

-- ---- tests

and_false : (b : Bool) → (b && false) ≡ false
and_false true = refl
and_false false = refl

pub and_true : (b : Bool) → (b && true) ≡ b
and_true true = refl
and_true false = refl

pub or_false : (b : Bool) → (b || false) ≡ b
or_false true = refl
or_false false = refl

pub or_true : (b : Bool) → (b || true) ≡ true
or_true true = refl
or_true false = refl

-- ---- levels before an operand

abbrev pub level_of : ℕ → ℕ → Bool → Bool → Bool → ℕ → ℕ → ℕ → Level
level_of kind rank joined inpath andor e g m =
    record { kind = kind; rank = rank; joined = joined; inpath = inpath; andor = andor; e = e; g = g; m = m }

-- an operand of `or` and `and` begins at p
pub data Low (p : ℕ) : Level → Type 0 where
  low : {kind : ℕ} {inpath andor : Bool} → Low p (level_of kind 0 false inpath andor p p p)

-- an operand of `=` and `!=`
pub data Middle (p : ℕ) : Level → Type 0 where
  alone : {kind : ℕ} {inpath andor : Bool} → Middle p (level_of kind 0 false inpath andor p p p)
  compared : {kind e : ℕ} {inpath andor : Bool} → Middle p (level_of kind 2 false inpath andor e p p)

-- an operand of any operator
pub data High (p : ℕ) : Level → Type 0 where
  rank_none : {kind e g : ℕ} {inpath andor : Bool} → High p (level_of kind 0 false inpath andor e g p)
  rank_number : {kind e g : ℕ} {inpath andor : Bool} → High p (level_of kind 1 false inpath andor e g p)
  rank_truth : {kind e g : ℕ} {inpath andor : Bool} → High p (level_of kind 2 false inpath andor e g p)

pub middle : {p : ℕ} {l : Level} → Low p l → Middle p l
middle low = alone

pub high : {p : ℕ} {l : Level} → Middle p l → High p l
high alone = rank_none
high compared = rank_truth

-- ---- what is seen

-- behind it the state is l', v', found'; operators that bind no more strongly than k, and the end of the level, see l, v, found
pub record Seen (s : Source) (k : ℕ) (l : Level) (v : Sort) (found : ℕ) (l' : Level) (v' : Sort) (found' : ℕ) : Type 0 where
  pub kinds : l'.kind ≡ l.kind
  pub moves : (j p : ℕ) → j ≤ k → operated j p l' ≡ operated j p l
  pub shows : (j : ℕ) → j ≤ k → operator_faults (noted s) j l' v' found' ≡ operator_faults (noted s) j l v found
  pub ends : end_faults (noted s) l' v' found' ≡ end_faults (noted s) l v found
  pub sorts : level_sort l' v' ≡ level_sort l v

pub seen_less :
    {s : Source} {k m found found' : ℕ} {l l' : Level} {v v' : Sort} → m ≤ k → Seen s k l v found l' v' found'
    → Seen s m l v found l' v' found'
seen_less h w = record {
  kinds = w.kinds;
  moves = λ j p b. w.moves j p (omega arith);
  shows = λ j b. w.shows j (omega arith);
  ends = w.ends;
  sorts = w.sorts;
}

pub seen_through :
    {s : Source} {k f f1 f2 : ℕ} {l l1 l2 : Level} {v v1 v2 : Sort} → Seen s k l v f l1 v1 f1 → Seen s k l1 v1 f1 l2 v2 f2
    → Seen s k l v f l2 v2 f2
seen_through w u = record {
  kinds = u.kinds ∙ w.kinds;
  moves = λ j p b. u.moves j p b ∙ w.moves j p b;
  shows = λ j b. u.shows j b ∙ w.shows j b;
  ends = u.ends ∙ w.ends;
  sorts = u.sorts ∙ w.sorts;
}

-- ---- operators

ruleset tests = (and_false, and_true)

ruleset reckon = (noted_mark, tests, maxima)

-- the faults of two operands that have to be numbers
abbrev pub operand_marks : Source → Sort → Sort → ℕ → ℕ → ℕ
operand_marks s va vc p q = max (mark s (not (number_taken va)) p) (mark s (not (number_taken vc)) q)

-- one operand at p, an operator that binds as strongly as k, another operand at q: as one operand
abbrev pub Joined : Source → ℕ → (ℕ → Level → Type 0) → Type 0
Joined s k At =
    (p q : ℕ) (l : Level) → At p l → (va vc : Sort) (wa wc found : ℕ)
    → Seen s k l (cond (leb 5 k) Numeral Truth) (max (max (cond (leb 3 k) (operand_marks s va vc p q) 0) (max wa wc)) found)
    (operated k q l) vc
    (max wc (operator_faults (noted s) k l va (max wa found)))

-- what holds of 0 to k
abbrev Upto : ℕ → (ℕ → Type 0) → Type 0
Upto zero P = P zero
Upto (suc k) P = P zero × Upto k (λ j. P (suc j))

upto : (k : ℕ) (P : ℕ → Type 0) → Upto k P → (j : ℕ) → j ≤ k → P j
upto zero P h zero b = h
upto zero P h (suc j) b = let z : ⊥ = omega arith in absurd z
upto (suc k) P h zero b = h.0
upto (suc k) P h (suc j) b = upto k (λ j. P (suc j)) h.1 j (omega arith)

seen_by :
    {s : Source} {l l' : Level} {v v' : Sort} {found found' : ℕ} (k : ℕ) → l'.kind ≡ l.kind
    → Upto k (λ j. (p : ℕ) → operated j p l' ≡ operated j p l)
    → Upto k (λ j. operator_faults (noted s) j l' v' found' ≡ operator_faults (noted s) j l v found) → end_faults (noted s) l' v' found' ≡ end_faults (noted s) l v found
    → level_sort l' v' ≡ level_sort l v → Seen s k l v found l' v' found'
seen_by {s} {l} {l'} {v} {v'} {found} {found'} k e move show end sort = record {
  kinds = e;
  moves = λ j p b. upto k (λ i. (p : ℕ) → operated i p l' ≡ operated i p l) move j b p;
  shows = λ j b. upto k (λ i. operator_faults (noted s) i l' v' found' ≡ operator_faults (noted s) i l v found) show j b;
  ends = end;
  sorts = sort;
}

-- the sort of a level with a comparison, and of one whose operand is a truth
compared_sort : (b : Bool) (v : Sort) → cond (b || true) Truth v ≡ Truth
compared_sort true v = refl
compared_sort false v = refl

truth_sort : (b : Bool) → cond b Truth Truth ≡ Truth
truth_sort true = refl
truth_sort false = refl

-- no operator stood on the level, which has to be a path
abbrev no_path : ℕ → Bool → Bool
no_path kind andor = (eqb kind 0 || eqb kind 6) && not andor

-- the operand is none that can stand for a number
abbrev no_number : Sort → Bool
no_number v = not (number_taken v)

pub or_joined : (s : Source) → Joined s 1 Low
unfolding operated operator_faults end_faults level_sort
or_joined s p q l (low {andor = andor}) va vc wa wc found =
    seen_by 1 refl ((λ r. refl), (λ r. refl)) (simp reckon, simp reckon) (simp reckon) (sym (truth_sort (andor || false)))

pub and_joined : (s : Source) → Joined s 2 Low
unfolding operated operator_faults end_faults level_sort
and_joined s p q l (low {andor = andor}) va vc wa wc found =
    seen_by 2 refl ((λ r. refl), ((λ r. refl), (λ r. refl))) (simp reckon, (simp reckon, simp reckon)) (simp reckon)
    (sym (truth_sort (andor || false)))

-- what was noted, in another order: a and c are for the operands, w for a level that has to be a path, t and u for a comparison compared
weak_marks :
    (s : Source) (a c w : Bool) (p q wa wc found : ℕ)
    → noted s c q (max wc (noted s a p (noted s w p (max wa found))))
    ≡ noted s w p (max (max (max (mark s a p) (mark s c q)) (max wa wc)) found)
weak_marks s a c w p q wa wc found = simp (noted_mark, maxima)

first_marks :
    (s : Source) (a c w : Bool) (p q wa wc found : ℕ)
    → noted s c q (noted s true p (max wc (noted s a p (noted s w p (max wa found)))))
    ≡ noted s true p (noted s w p (max (max (max (mark s a p) (mark s c q)) (max wa wc)) found))
first_marks s a c w p q wa wc found = simp (noted_mark, maxima)

again_marks :
    (s : Source) (a c t u : Bool) (p q e wa wc found : ℕ)
    → noted s c q (noted s t e (noted s u p (max wc (noted s a p (noted s true p (max wa found))))))
    ≡ noted s true p (noted s t e (noted s u p (max (max (max (mark s a p) (mark s c q)) (max wa wc)) found)))
again_marks s a c t u p q e wa wc found = simp (noted_mark, maxima)

number_marks :
    (s : Source) (c w t u : Bool) (q e g wc found : ℕ)
    → noted s c q (noted s t e (noted s u g (max wc (noted s w e found))))
    ≡ noted s w e (noted s t e (noted s u g (max (mark s c q) (max wc found))))
number_marks s c w t u q e g wc found = simp (noted_mark, maxima)

pub equality_joined : (s : Source) → Joined s 3 Low
unfolding operated operator_faults end_faults level_sort noted
equality_joined s p q l (low {kind = kind} {andor = andor}) va vc wa wc found =
    let weak = weak_marks s (no_number va) (no_number vc) (no_path kind andor) p q wa wc found in
    let first = first_marks s (no_number va) (no_number vc) (no_path kind andor) p q wa wc found in
    seen_by 3 refl ((λ r. refl), ((λ r. refl), ((λ r. refl), (λ r. refl))))
    (simp tests weak, (simp tests weak, (simp tests weak, simp tests first))) (simp tests weak)
    (compared_sort andor vc ∙ sym (truth_sort (andor || false)))

pub relational_joined : (s : Source) → Joined s 4 Middle
unfolding operated operator_faults end_faults level_sort noted
relational_joined s p q l (alone {kind = kind} {andor = andor}) va vc wa wc found =
    let weak = weak_marks s (no_number va) (no_number vc) (no_path kind andor) p q wa wc found in
    let first = first_marks s (no_number va) (no_number vc) (no_path kind andor) p q wa wc found in
    seen_by 4 refl ((λ r. refl), ((λ r. refl), ((λ r. refl), ((λ r. refl), (λ r. refl)))))
    (simp tests weak, (simp tests weak, (simp tests weak, (simp tests first, simp tests first)))) (simp tests weak)
    (compared_sort andor vc ∙ sym (truth_sort (andor || false)))
relational_joined s p q l (compared {e = e} {andor = andor}) va vc wa wc found =
    let none = again_marks s (no_number va) (no_number vc) false false p q e wa wc found in
    let equal = again_marks s (no_number va) (no_number vc) true false p q e wa wc found in
    let less = again_marks s (no_number va) (no_number vc) false true p q e wa wc found in
    seen_by 4 refl ((λ r. refl), ((λ r. refl), ((λ r. refl), ((λ r. refl), (λ r. refl)))))
    (simp tests none, (simp tests none, (simp tests none, (simp tests equal, simp tests less)))) (simp tests none)
    (compared_sort andor vc ∙ sym (compared_sort andor Truth))

-- an operand of a sign, a sum or a product at q: as one number
numbered :
    (s : Source) (k p q : ℕ) (l : Level) → High p l → (v : Sort) (w found : ℕ)
    → Seen s k l Numeral (max (mark s (no_number v) q) (max w found)) (operated 5 q l) v (max w (sign_faults (noted s) l found))
unfolding operated operator_faults sign_faults end_faults level_sort noted
numbered s k p q l (rank_none {kind = kind} {e = e} {g = g} {andor = andor}) v w found = record {
  kinds = refl;
  moves = λ j r b. refl;
  shows = λ j b. simp tests (number_marks s (no_number v) (no_path kind andor) false false q e g w found);
  ends = simp tests (number_marks s (no_number v) (no_path kind andor) false false q e g w found);
  sorts = refl;
}
numbered s k p q l (rank_number {e = e} {g = g} {andor = andor}) v w found = record {
  kinds = refl;
  moves = λ j r b. refl;
  shows = λ j b. simp tests (number_marks s (no_number v) false false false q e g w found);
  ends = simp tests (number_marks s (no_number v) false false false q e g w found);
  sorts = refl;
}
numbered s k p q l (rank_truth {e = e} {g = g} {andor = andor}) v w found = record {
  kinds = refl;
  moves = λ j r b. refl;
  shows = λ j b. simp tests (number_marks s (no_number v) false (eqb j 3) (eqb j 4) q e g w found);
  ends = simp tests (number_marks s (no_number v) false false false q e g w found);
  sorts = compared_sort andor v ∙ sym (compared_sort andor Numeral);
}

pub sign_joined :
    (s : Source) (p q : ℕ) (l : Level) → High p l → (v : Sort) (w found : ℕ)
    → Seen s 7 l Numeral (max (max (mark s (no_number v) q) w) found) (operated 5 q l) v (max w (sign_faults (noted s) l found))
sign_joined s p q l h v w found = rw max_assoc (numbered s 7 p q l h v w found)

-- a left operand at p is noted first
swapped : (s : Source) (a w : Bool) (p e f : ℕ) → noted s a p (noted s w e f) ≡ noted s w e (max (mark s a p) f)
swapped s a w p e f = simp (noted_mark, maxima)

shows_left :
    (s : Source) (p : ℕ) (l : Level) → High p l → (va : Sort) (f : ℕ)
    → operator_faults (noted s) 5 l va f ≡ sign_faults (noted s) l (max (mark s (no_number va) p) f)
unfolding operator_faults sign_faults noted
shows_left s p l (rank_none {kind = kind} {e = e} {g = g} {inpath = inpath} {andor = andor}) va f =
    let l0 : Level = level_of kind 0 false inpath andor e g p in
    swapped s (no_number va) (wants_path l0 && bare l0) p e f
shows_left s p l (rank_number {kind = kind} {e = e} {g = g} {inpath = inpath} {andor = andor}) va f =
    let l0 : Level = level_of kind 1 false inpath andor e g p in
    swapped s (no_number va) (wants_path l0 && bare l0) p e f
shows_left s p l (rank_truth {kind = kind} {e = e} {g = g} {inpath = inpath} {andor = andor}) va f =
    let l0 : Level = level_of kind 2 false inpath andor e g p in
    swapped s (no_number va) (wants_path l0 && bare l0) p e f

total : (a c wa wc found : ℕ) → max (max (max a c) (max wa wc)) found ≡ max c (max wc (max a (max wa found)))
total a c wa wc found = simp maxima

sums :
    (s : Source) (k p q : ℕ) (l : Level) → High p l → (va vc : Sort) (wa wc found : ℕ)
    → Seen s k l Numeral (max (max (operand_marks s va vc p q) (max wa wc)) found) (operated 5 q l) vc
    (max wc (operator_faults (noted s) 5 l va (max wa found)))
sums s k p q l h va vc wa wc found =
    rw (total (mark s (no_number va) p) (mark s (no_number vc) q) wa wc found, shows_left s p l h va (max wa found))
    (numbered s k p q l h vc wc (max (mark s (no_number va) p) (max wa found)))

pub sum_joined : (s : Source) → Joined s 5 High
sum_joined s = sums s 5

pub product_joined : (s : Source) → Joined s 6 High
unfolding operated operator_faults
product_joined s = sums s 6

-- ---- operands without an operator

-- the level behind an operand: is it joined, is it a path, and the first byte of its last part
abbrev pub behind : Bool → Bool → ℕ → Level → Level
behind joined inpath m l = level_of l.kind l.rank joined inpath l.andor l.e l.g m

joined_seen :
    (s : Source) (k : ℕ) (kind rank e g p : ℕ) (inpath andor b : Bool) (r : ℕ) (v : Sort) (found : ℕ)
    → Seen s k (level_of kind rank false inpath andor e g p) Unheld found (level_of kind rank true b andor e g r) v found
unfolding operated operator_faults end_faults level_sort noted
joined_seen s k kind rank e g p inpath andor b r v found =
    record { kinds = refl; moves = λ j q h. refl; shows = λ j h. simp and_false; ends = simp and_false; sorts = refl }

plain_seen :
    (s : Source) (k : ℕ) (kind rank e g p : ℕ) (inpath andor b : Bool) (v : Sort) (found : ℕ)
    → Seen s k (level_of kind rank false inpath andor e g p) v found (level_of kind rank false b andor e g p) v found
unfolding operated operator_faults end_faults level_sort
plain_seen s k kind rank e g p inpath andor b v found =
    record { kinds = refl; moves = λ j q h. refl; shows = λ j h. refl; ends = refl; sorts = refl }

either_seen :
    (s : Source) (k : ℕ) (kind rank e g p : ℕ) (inpath andor c b : Bool) (r : ℕ) (v : Sort) (found : ℕ) → (c ≡ false → r ≡ p)
    → Seen s k (level_of kind rank false inpath andor e g p) (cond c Unheld v) found (level_of kind rank c b andor e g r) v found
either_seen s k kind rank e g p inpath andor true b r v found h = joined_seen s k kind rank e g p inpath andor b r v found
either_seen s k kind rank e g p inpath andor false b r v found h = rw (h refl) (plain_seen s k kind rank e g p inpath andor b v found)

pub operand_seen :
    (s : Source) (k p : ℕ) (l : Level) → High p l → (c b : Bool) (r : ℕ) (v : Sort) (found : ℕ) → (c ≡ false → r ≡ p)
    → Seen s k l (cond c Unheld v) found (behind c b r l) v found
operand_seen s k p l (rank_none {kind = kind} {e = e} {g = g} {inpath = inpath} {andor = andor}) c b r v found h =
    either_seen s k kind 0 e g p inpath andor c b r v found h
operand_seen s k p l (rank_number {kind = kind} {e = e} {g = g} {inpath = inpath} {andor = andor}) c b r v found h =
    either_seen s k kind 1 e g p inpath andor c b r v found h
operand_seen s k p l (rank_truth {kind = kind} {e = e} {g = g} {inpath = inpath} {andor = andor}) c b r v found h =
    either_seen s k kind 2 e g p inpath andor c b r v found h
