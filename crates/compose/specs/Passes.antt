-- What the pass over the tokens of a text leaves.
-- Assumes nothing: these are definitions.
use Rattle.std.specs.Prelude.{ℕ, ◌+◌, ◌<◌, ◌≤◌, ◌≡◌, true, false, List, length, Float}
use Rattle.text.specs.declared.Sort.TheVariants.{Unheld}
use Rattle.text.specs.Tokens.{tokens}
use Rattle.compose.specs.declared.State.{State}
use Rattle.compose.specs.declared.Passed.{Passed}
use Rattle.compose.specs.Standing.{draft_of}
use Rattle.compose.specs.Composes.{committed, draft_at}

-- nothing was read
unfoldable pub nothing_read : State
nothing_read =
    record {
      mode = 0;
      axis = 1;
      literals = 0;
      deepest = 0;
      bench = record { hand = record { link = 0; sort = Unheld; rows = 0 }; height = 1 };
    }

-- too many rows are committed behind some token; or all tokens were read, and what stands in the slices is the draft behind them
pub record Passes (text list : List ℕ) (r : Passed) (rows ops opens : List ℕ) (values : List Float) : Type 0 where
  pub stopped : r.full ≡ true → (k : ℕ) × (k ≤ length (tokens text)) × (257 < committed (draft_at text list k))
  pub read : r.full ≡ false → draft_of r.state rows ops opens values ≡ draft_at text list (length (tokens text))
  pub few : r.full ≡ false → r.state.literals ≤ r.state.bench.hand.rows
  pub light : r.full ≡ false → r.state.bench.hand.rows + r.state.bench.height ≤ 257
