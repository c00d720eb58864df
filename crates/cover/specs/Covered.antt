-- What a chain of steps may come by in an edition, as marks: before and after.
-- Assumes nothing: these are definitions.
use Rattle.std.specs.Prelude.{ℕ, ◌<◌, ◌≡◌, Bool, true, false, List, eqb, get_or}
use Rattle.meaning.specs.Table.{rows}
use Rattle.meaning.specs.Tree.{Tree}
use Rattle.meaning.proofs.Near.{ahead, Covers}
use Rattle.sieve.specs.Sieve.{state}

-- what a chain of steps may reach from the marked rows, by its axes and tests alone, is marked; every row it comes by is near,
-- besides those that were
pub record Covered (edition : ℕ) (t : List ℕ) (s : Tree) (entry exit before after : List Bool) : Type 0 where
  pub reached : (y : ℕ) → y < rows t → get_or exit y false ≡ ahead edition t s (λ x. get_or entry x false) y
  pub kept : (y : ℕ) → y < rows t → get_or before y false ≡ true → get_or after y false ≡ true
  pub covers : Covers edition t (λ y. get_or after y false) s (λ x. get_or entry x false)

-- every row that a chain of steps may come by from the active rows is near
unfoldable pub CoversActive : ℕ → List ℕ → Tree → ℕ → List ℕ → List Bool → Type 0
CoversActive edition t s active states near = Covers edition t (λ y. get_or near y false) s (λ x. eqb (state states x) active)
