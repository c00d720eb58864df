-- A level that is stored in the window is read back, and stands in the way of no other of its span; what the window holds when a level is
-- opened and when one is closed.
-- Assumes nothing.
use Prim.Native.Nat.{ℕ, suc, ◌+◌, ◌-◌, ◌%◌, ◌≤◌, ◌<◌}
use mathlib.Core.Path.{◌≡◌, sym, ◌∙◌, ap}
use mathlib.Core.List.{List, [], ◌∷◌}
use mathlib.Core.Logic.{◌⊎◌, ⊎_elim}
use Rattle.meaning.proofs.Bools.{lt_or_ge}
use native.Mathlib.Omega.{arith}
use lib.ListN.{length, get_or, length-set}
use lib.Seq.{get_or-set_same, get_or-set_other}
use Rattle.text.specs.declared.Level.{Level}
use Rattle.text.specs.Survey.{fresh}
use Rattle.survey.specs.declared.window.Slot.{Slot}
use Rattle.survey.specs.Window.{span, slot_of, level_of, level_at, stored, on_level, Holds}

-- ---- the window

-- what was stored is read back
pub stored_here : (w : List Slot) (i : ℕ) (l : Level) → length w ≡ span → level_at (stored w i l) i ≡ l
unfolding level_at stored
stored_here w i l h = ap level_of (get_or-set_same w (i % span) (slot_of l) (slot_of (fresh 0 0)) (omega arith))

-- and the other levels are as they were
pub stored_elsewhere : (w : List Slot) (i j : ℕ) (l : Level) → (i % span ≡ j % span → ⊥) → level_at (stored w i l) j ≡ level_at w j
unfolding level_at stored
stored_elsewhere w i j l h = ap level_of (get_or-set_other w (i % span) (j % span) (slot_of l) (slot_of (fresh 0 0)) (λ q. h (sym q)))

pub stored_length : (w : List Slot) (i : ℕ) (l : Level) → length (stored w i l) ≡ length w
unfolding stored
stored_length w i l = length-set w (i % span) (slot_of l)

-- ---- levels are opened and closed

on_level_below : (o : Level) (around : List Level) (i : ℕ) → i < length around → on_level (o ∷ around) i ≡ on_level around i
on_level_below o around i h =
    let e : length (o ∷ around) - 1 - i ≡ suc (length around - 1 - i) = omega arith in
    ap (λ (k : ℕ). get_or (o ∷ around) k (fresh 0 0)) e

on_level_top : (o : Level) (around : List Level) → on_level (o ∷ around) (length around) ≡ o
on_level_top o around =
    let e : length (o ∷ around) - 1 - length around ≡ 0 = omega arith in
    ap (λ (k : ℕ). get_or (o ∷ around) k (fresh 0 0)) e

-- nothing is open
pub holds_none : (w : List Slot) (lo hi : ℕ) → Holds w lo hi []
unfolding Holds
holds_none w lo hi i a b c = absurd (omega arith)

-- one level more is open and stored; the lowest may have had to give way
pub holds_stored :
    (w : List Slot) (lo hi lo' hi' : ℕ) (o : Level) (around : List Level) → length w ≡ span → lo ≤ lo' → length around ≤ hi
    → length around < lo' + span → Holds w lo hi around → Holds (stored w (length around) o) lo' hi' (o ∷ around)
unfolding Holds
holds_stored w lo hi lo' hi' o around n h m k held i a b c =
    ⊎_elim
    (λ (l : i < length around).
    let apart : length around % span ≡ i % span → ⊥ = (λ q. omega (arith, q)) in
    stored_elsewhere w (length around) i o apart ∙ (held i (omega arith) (omega arith) l ∙ sym (on_level_below o around i l)))
    (λ (l : length around ≤ i).
    let e : i ≡ length around = omega arith in
    rw e (stored_here w (length around) o n ∙ sym (on_level_top o around)))
    (lt_or_ge i (length around))

pub holds_opened :
    (w : List Slot) (lo lo' : ℕ) (o : Level) (around : List Level) → length w ≡ span → lo ≤ lo' → length around ≤ lo + span
    → length around < lo' + span → Holds w lo (lo + span) around → Holds (stored w (length around) o) lo' (lo' + span) (o ∷ around)
holds_opened w lo lo' o around = holds_stored w lo (lo + span) lo' (lo' + span) o around

-- one level more is open, outside the window
pub holds_passed :
    (w : List Slot) (lo hi : ℕ) (o : Level) (around : List Level) → (length around < lo) ⊎ (hi ≤ length around) → Holds w lo hi around
    → Holds w lo hi (o ∷ around)
unfolding Holds
holds_passed w lo hi o around out held i a b c =
    ⊎_elim
    (λ (l : i < length around). held i a b l ∙ sym (on_level_below o around i l))
    (λ (l : length around ≤ i).
    ⊎_elim (λ (k : length around < lo). absurd (omega arith)) (λ (k : hi ≤ length around). absurd (omega arith)) out)
    (lt_or_ge i (length around))

-- the innermost of them closes
pub holds_closed : (w : List Slot) (lo hi : ℕ) (o : Level) (around : List Level) → Holds w lo hi (o ∷ around) → Holds w lo hi around
unfolding Holds
holds_closed w lo hi o around held i a b c = held i a b (omega arith) ∙ on_level_below o around i c

-- and can be read, if the window holds it
pub holds_top :
    (w : List Slot) (lo hi : ℕ) (o : Level) (around : List Level) → lo ≤ length around → length around < hi → Holds w lo hi (o ∷ around)
    → level_at w (length around) ≡ o
unfolding Holds
holds_top w lo hi o around a b held = held (length around) a b (omega arith) ∙ on_level_top o around
