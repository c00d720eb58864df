-- What `look` promises: the next token of a text, and what it does in a mode.
-- Assumes nothing: these are definitions.
use Rattle.text.specs.declared.Run.TheVariants.{Spaces}
use Rattle.std.specs.Prelude.{ℕ, ◌<◌, ◌≤◌, ◌≡◌, Bool, List, length}
use Rattle.text.specs.Tokens.{run_end, lexeme}
use Rattle.text.proofs.Cutting.{Stands}
use Rattle.modes.specs.Acts.{act_of}
use Rattle.survey.specs.declared.look.Seen.{Seen}

-- a token that can be read: it stands there, does what the table says, and the next one begins behind it
pub record Known (text : List ℕ) (at : ℕ) (due : Bool) (mode : ℕ) (r : Seen) : Type 0 where
  pub stands : Stands text at due r.kind r.begin r.end
  pub acts : r.act ≡ act_of r.kind mode
  pub follows : r.behind ≡ run_end Spaces text r.end
  pub longer : r.begin < r.end
  pub within : r.end ≤ length text

pub record Sees (text : List ℕ) (at : ℕ) (due : Bool) (mode : ℕ) (r : Seen) : Type 0 where
  pub begins : r.begin ≡ run_end Spaces text at
  pub class : r.kind ≤ 34
  pub known : r.kind < 33 → Known text at due mode r
  pub unknown : r.kind ≡ 33 → Stands text at due r.kind r.begin (lexeme text r.begin due).end
  pub refused : 33 ≤ r.kind → r.act ≡ 0
  pub last : r.kind ≡ 34 → r.begin ≡ length text
