-- What `tokens::next_token` promises.
-- Assumes nothing: these are definitions.
use Rattle.text.specs.declared.Run.TheVariants.{Spaces}
use Rattle.std.specs.Prelude.{ℕ, ◌<◌, ◌≤◌, ◌≡◌, Bool, List, length}
use Rattle.text.specs.Tokens.{run_end, lexeme}
use Rattle.tokens.specs.declared.Next.{Next}

-- in the text the token that begins there; at its end class 34; and a token that is known takes a byte at least and ends in the text
unfoldable pub Read : List ℕ → Bool → Next → Type 0
Read text due r =
    (r.begin < length text → (r.kind ≡ (lexeme text r.begin due).kind) × (r.end ≡ (lexeme text r.begin due).end) × (r.kind < 34))
    × (r.begin ≡ length text → r.kind ≡ 34)
    × (r.kind < 33 → (r.begin < r.end) × (r.end ≤ length text))

-- what is found from byte `at` on, behind spaces
pub record Found (text : List ℕ) (at : ℕ) (due : Bool) (r : Next) : Type 0 where
  pub begins : r.begin ≡ run_end Spaces text at
  pub within : r.begin ≤ length text
  pub class : r.kind ≤ 34
  pub read : Read text due r
