-- Laws of what a chain of steps may come by: no steps, one step more, and from the active rows.
-- Assumes nothing.
use Rattle.std.proofs.Common.{◌≡◌, refl, ◌∙◌, ℕ, ◌-◌, ◌<◌, Bool, true, false, ◌&&◌, List, get_or, eqb}
use mathlib.Core.Bool.{or-true}
use Rattle.meaning.specs.Table.{rows}
use Rattle.meaning.specs.Axis.{axis_of, test_of, on}
use Rattle.meaning.specs.declared.Axis.{Axis}
use Rattle.meaning.specs.declared.Test.{Test}
use Rattle.meaning.specs.Rows.{first_link}
use Rattle.meaning.specs.Tree.{Tree, tree, index_or_axis, test_at}
use Rattle.meaning.proofs.Windows.{some_below}
use Rattle.meaning.proofs.Near.{ahead, Covers, covers_agree, covers_more, ahead_none, covers_none, ahead_row, covers_row}
use Rattle.marks.specs.Sets.{Sifted, Joined}
use Rattle.reach.specs.Reach.{hit, Hits}
use Rattle.sieve.specs.Sieve.{state, Retained}
use Rattle.cover.specs.Covered.{Covered, CoversActive}

module _ (edition : ℕ) (t p : List ℕ) (l : ℕ) where
  -- no steps: the set itself, and nothing on the way
  pub covered_none : (marks near : List Bool) → l ≡ 0 → Covered edition t (tree p l) marks marks near near
  covered_none marks near e = record {
    reached = λ y k. ahead_none edition t p l (λ x. get_or marks x false) y e;
    kept = λ y k h. h;
    covers = covers_none edition t p l (λ y. get_or near y false) (λ x. get_or marks x false) e;
  }

  -- those before it, then its axis and its test; what they reach is near too
  pub covered_row : (some-row : (l ≡ 0) → ⊥) (a : ℕ) (axis : Axis) (asked : Test) → a ≡ first_link p (l - 1) → axis ≡ axis_of (index_or_axis p (l - 1)) → asked ≡ test_of (test_at p (l - 1)) → (entry mid hits exit before between after : List Bool)
      → Covered edition t (tree p a) entry mid before between → Hits t (on t axis) mid hits → Sifted edition t axis asked hits exit → Joined t exit between after → Covered edition t (tree p l) entry exit before after
  unfolding Hits hit Sifted Joined
  covered_row some-row a axis asked is-first e f entry mid hits exit before between after first h s j = record { reached = marked; kept = λ y k r. more y k (first.kept y k r); covers = near }
    where
      from : ℕ → Bool
      from = λ x. get_or entry x false

      marked : (y : ℕ) → y < rows t → get_or exit y false ≡ ahead edition t (tree p l) from y
      marked y k =
          s y k
          ∙ rw (h y k, some_below (λ x. get_or mid x false && on t axis x y) (λ x. ahead edition t (tree p a) from x && on t axis x y) (rows t) (λ x m. rw (first.reached x m)), e, f) (ahead_row edition t p l some-row a is-first _ _ refl refl from y)

      more : (y : ℕ) → y < rows t → get_or between y false ≡ true → get_or after y false ≡ true
      more y k r = j y k ∙ rw r

      near : Covers edition t (λ y. get_or after y false) (tree p l) from
      near = covers_row edition t p l some-row a is-first (λ y. get_or after y false) from (covers_more edition t (tree p a) (λ y. get_or between y false) (λ y. get_or after y false) from first.covers more)
          (λ y k r. j y k ∙ rw (marked y k, r) (or-true (get_or between y false)))

-- what covers the rows that are retained from all covers the active ones
pub covers_active : (edition : ℕ) (t : List ℕ) (s : Tree) (n active : ℕ) (states : List ℕ) (full reached ahead before near : List Bool) → n ≡ rows t → ((y : ℕ) → y < rows t → get_or full y false ≡ true)
    → Retained n active states full reached → Covered edition t s reached ahead before near → CoversActive edition t s active states near
unfolding Retained CoversActive
covers_active edition t s n active states full reached ahead before near all is-full r c =
    covers_agree edition t s (λ y. get_or near y false) (λ x. get_or reached x false) (λ x. eqb (state states x) active) (λ x k. r x (rw all k) ∙ rw (is-full x k)) c.covers
