-- What a token keeps of a level: its kind, a rank below 3, and bytes that are at most what the token's are; and of the last name, a byte.
-- Assumes nothing.
use Prim.Native.Nat.{ℕ, ◌≤◌, ◌<◌, max}
use mathlib.Core.Path.{◌≡◌, refl}
use mathlib.Core.Bool.{Bool, true, false, ◌&&◌, ◌||◌, not, cond}
use lib.Dec.{T, eqb, leb, leb→le}
use native.Mathlib.Omega.{arith}
use borrow.Author.Tests.{le-leb}
use Rattle.meaning.proofs.Bools.{and_l, and_r, or_e, is_true}
use Rattle.levels.specs.declared.Group.{Group}
use Rattle.levels.specs.declared.Group.TheVariants.{Other, StepToken, Operand, Slash, Bar, Operator, Quoted, Round, Square}
use Rattle.text.specs.declared.Level.{Level}
use Rattle.text.specs.Machine.{number, rows, has, pick}
use Rattle.text.specs.Limited.{Source, word_at, function_names}
use Rattle.names.specs.Names.{position}
use Rattle.text.specs.Survey.{fresh, path_begun, other_begun, operated}
use Rattle.levels.specs.Levels.{is_due, goes_on, stepped, slashed, grouped, bracketed, quoted, level_in, name_in}
use Rattle.modes.specs.Acts.{opened, act_number, act_of}
use Rattle.modes.proofs.Table.{every, at}
use Rattle.levels.proofs.Modes.{numbers, fourteen}
use Rattle.levels.proofs.Urgent.{Within}

-- the level k is behind a token that ends before p, and l before it
pub record Kept (p : ℕ) (l k : Level) : Type 0 where
  pub same_kind : k.kind ≡ l.kind
  pub low_rank : l.rank < 3 → k.rank < 3
  pub bytes : (top : ℕ) → p ≤ top → Within top l → Within top k

module _ (p : ℕ) (l : Level) where
  kept_cond : (b : Bool) {k j : Level} → Kept p l k → Kept p l j → Kept p l (cond b k j)
  kept_cond true x y = x
  kept_cond false x y = y

  unchanged : Kept p l l
  unchanged = record { same_kind = refl; low_rank = λ h. h; bytes = λ top h w. w }

  -- the operand in progress goes on, with other flags
  flagged :
      (j i : Bool)
      → Kept p l (record { kind = l.kind; rank = l.rank; joined = j; inpath = i; andor = l.andor; e = l.e; g = l.g; m = l.m })
  flagged j i = record {
    same_kind = refl;
    low_rank = λ h. h;
    bytes = λ top h w. record { e_inside = w.e_inside; g_inside = w.g_inside; m_inside = w.m_inside };
  }

  -- an operand begins at p; the first bytes of those around it are kept, or are p
  begun :
      (r : ℕ) (j a x y : Bool) → (l.rank < 3 → r < 3)
      → Kept p l (record { kind = l.kind; rank = r; joined = j; inpath = false; andor = a; e = cond x p l.e; g = cond y p l.g; m = p })
  begun r j a x y low = record {
    same_kind = refl;
    low_rank = low;
    bytes = λ top h w. record { e_inside = first top x h w.e_inside; g_inside = first top y h w.g_inside; m_inside = h };
  }
    where
      first : (top : ℕ) (b : Bool) {q : ℕ} → p ≤ top → q ≤ top → cond b p q ≤ top
      first top true h k = h
      first top false h k = k

  operated_kept : (t : ℕ) → Kept p l (operated t p l)
  unfolding operated
  operated_kept t =
      kept_cond (leb t 2) (begun 0 false true true true (λ h. omega arith))
      (kept_cond (eqb t 3) (begun 2 false l.andor false true (λ h. omega arith))
      (kept_cond (eqb t 4) (begun 2 false l.andor false false (λ h. omega arith))
      (begun (max 1 l.rank) false l.andor false false (λ h. omega arith))))

  path : Kept p l (path_begun l)
  path = flagged l.joined true

  other : Kept p l (other_begun l)
  other = flagged l.joined false

  pub level_kept : (g : Group) (t q : ℕ) → Kept p l (level_in g t q p l)
  unfolding level_in stepped slashed grouped bracketed quoted
  level_kept Other t q = unchanged
  level_kept StepToken t q = kept_cond (is_due q) path unchanged
  level_kept Operand t q = other
  level_kept Slash t q = kept_cond (is_due q) path (kept_cond (goes_on q && not l.inpath) (flagged true true) unchanged)
  level_kept Bar t q = begun l.rank true l.andor false false (λ h. h)
  level_kept Operator t q = operated_kept t
  level_kept Quoted t q = kept_cond (eqb q 10) unchanged other
  level_kept Round t q = kept_cond (is_due q || eqb q 11) other unchanged
  level_kept Square t q = kept_cond l.inpath unchanged (flagged true l.inpath)

  -- the bytes of a level behind a token, and of one that opens
  pub level_bytes : (top : ℕ) (g : Group) (t q : ℕ) → p ≤ top → Within top l → Within top (level_in g t q p l)
  level_bytes top g t q h w = (level_kept g t q).bytes top h w

pub fresh_bytes : (top kind p : ℕ) → p ≤ top → Within top (fresh kind p)
fresh_bytes top kind p h = record { e_inside = h; g_inside = h; m_inside = h }

-- ---- the last name: between the token of a processing-instruction and what follows its `(` it is that token's byte

-- a token that leads to these modes, 9 and 10, is a processing-instruction, or it stands in them and is no name
keeps_name : ℕ → ℕ → Bool
keeps_name k q = not (leb 10 (act_of k q) && leb (act_of k q) 11) || (eqb k 11 || (leb 9 q && (leb q 10 && not (eqb k 12))))

keeps_in : ℕ → ℕ → Bool
keeps_in k y = every (λ q x. keeps_name k q) 0 fourteen

every_keeps : T (every keeps_in 0 numbers)
unfolding keeps_in keeps_name fourteen act_of act_number opened number rows has pick
every_keeps = tt

keeps_name_lem : (k q : ℕ) → k < 34 → q < 14 → T (keeps_name k q)
unfolding keeps_in fourteen
keeps_name_lem k q class mode = at (λ (r x : ℕ). keeps_name k r) fourteen (at keeps_in numbers every_keeps k class) q mode

name_by : (top b n w : ℕ) (x y : Bool) → b ≤ top → n ≤ top → T (not y) → cond x b (cond y w n) ≤ top
name_by top b n w true y h k none = h
name_by top b n w false true h k none = absurd none
name_by top b n w false false h k none = k

pub name_bytes :
    (s : Source) (top k q b n : ℕ) → k < 34 → q < 14 → b ≤ top → (9 ≤ q → q ≤ 10 → n ≤ top) → 10 ≤ act_of k q → act_of k q ≤ 11
    → name_in s k b n ≤ top
unfolding keeps_name name_in
name_bytes s top k q b n class mode h known least most =
    let a : ℕ = act_of k q in
    let within : T (leb 9 q && (leb q 10 && not (eqb k 12))) → T (leb q 10 && not (eqb k 12)) = and_r (leb 9 q) (leb q 10 && not (eqb k 12)) in
    let kept : T (eqb k 11 || (leb 9 q && (leb q 10 && not (eqb k 12)))) = rw (le-leb 10 a least, le-leb a 11 most) at (keeps_name_lem k q class mode) in
    or_e (eqb k 11) (leb 9 q && (leb q 10 && not (eqb k 12))) kept (λ e. rw (is_true (eqb k 11) e) h)
    (λ e.
    let low : 9 ≤ q = leb→le 9 q (and_l (leb 9 q) (leb q 10 && not (eqb k 12)) e) in
    let high : q ≤ 10 = leb→le q 10 (and_l (leb q 10) (not (eqb k 12)) (within e)) in
    name_by top b n (position function_names (word_at s.text b)) (eqb k 11) (eqb k 12) h (known low high) (and_r (leb q 10) (not (eqb k 12)) (within e)))
