-- Sets of nodes, as marks, before and after a part of the evaluator's work in an edition.
-- Assumes nothing: these are definitions.
use Rattle.std.specs.Prelude.{ℕ, ◌<◌, ◌≡◌, Bool, false, ◌&&◌, List, eqb, get_or, Float}
use Rattle.meaning.specs.Table.{rows}
use Rattle.meaning.specs.Tree.{Tree}
use Rattle.meaning.specs.declared.Axis.{Axis}
use Rattle.meaning.specs.declared.Test.{Test}
use Rattle.meaning.proofs.Free.{ok}
use Rattle.meaning.proofs.Backward.{before}
use Rattle.meaning.proofs.Near.{backs_near}
use Rattle.sieve.specs.Sieve.{state}

-- of the rows those stay marked at which all predicates of a chain hold
unfoldable pub Narrowed : ℕ → List ℕ → List Float → Tree → List Bool → List Bool → Type 0
Narrowed edition t literals e entry exit = (y : ℕ) → y < rows t → get_or exit y false ≡ (get_or entry y false && ok edition t literals e y)

-- the same of the rows that are active at the first level, 2
unfoldable pub Thinned : ℕ → List ℕ → List Float → Tree → List ℕ → List ℕ → Type 0
Thinned edition t literals e entry exit = (y : ℕ) → y < rows t → eqb (state exit y) 2 ≡ (eqb (state entry y) 2 && ok edition t literals e y)

-- the rows from which one step leads to a marked row that is near
unfoldable pub LedBy : ℕ → List ℕ → List Float → List Bool → Tree → Axis → Test → List Bool → List Bool → Type 0
LedBy edition t literals near e axis test entry exit = (y : ℕ) → y < rows t → get_or exit y false ≡ before edition t literals axis test e (λ z. get_or entry z false && get_or near z false) y

-- the rows from which a chain of steps leads, over rows that are near alone, to a marked row
unfoldable pub Led : ℕ → List ℕ → List Float → List Bool → Tree → List Bool → List Bool → Type 0
Led edition t literals near s entry exit = (y : ℕ) → y < rows t → get_or exit y false ≡ backs_near edition t literals (λ z. get_or near z false) s (λ z. get_or entry z false) y
