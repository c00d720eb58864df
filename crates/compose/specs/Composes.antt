-- What `compose::compose` promises, of the composing machine.
-- Assumes nothing: these are definitions.
use Rattle.std.specs.Prelude.{ℕ, ◌+◌, ◌*◌, ◌<◌, ◌≤◌, ◌≡◌, ◌⊎◌, List, length, take, Float}
use Rattle.text.specs.Tokens.{tokens, classes_of}
use Rattle.text.specs.Syntax.{read_all}
use Rattle.text.specs.Limited.{source}
use Rattle.text.specs.Composing.{pen, desk, Draft, draft, compose_token, unwritten, composed, composed_of}
use Rattle.compose.specs.declared.Composed.{Composed}

-- the rows written and those to come, and the frame at the bottom
unfoldable pub committed : Draft → ℕ
committed (draft m x l deepest (desk fs (pen link u n out))) = n + length fs

-- the draft behind the first k tokens
unfoldable pub draft_at : List ℕ → List ℕ → ℕ → Draft
draft_at text list k = read_all (compose_token (source text list)) unwritten 0 (take k (classes_of text))

-- Too many rows are committed behind some token, which is told as 257 rows; or so many rows and literals as are told stand at the front of the
-- slices, and they and the depth are what is composed of the text. Then too there may be more than 256 rows, as the last frames were filled.
unfoldable pub Composes : List ℕ → List ℕ → List ℕ → List Float → Composed → Type 0
Composes text list rows values r =
    ((r.rows ≡ 257) × ((k : ℕ) × (k ≤ length (tokens text)) × (257 < committed (draft_at text list k))))
    ⊎ ((5 * r.rows ≤ length rows)
    × (r.literals ≤ r.rows)
    × (composed_of (source text list) (classes_of text) ≡ composed (take (5 * r.rows) rows) (take r.literals values) r.depth))
