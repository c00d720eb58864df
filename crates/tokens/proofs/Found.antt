-- What `tokens::next_token` found: how it is made, and what a caller reads off it.
-- Assumes nothing.
use Rattle.text.specs.declared.Run.TheVariants.{Spaces}
use Prim.Native.Nat.{ℕ, ◌≤◌, ◌<◌}
use native.Mathlib.Omega.{arith}
use mathlib.Core.Path.{◌≡◌, refl, ap}
use mathlib.Core.Bool.{Bool}
use mathlib.Core.List.{List}
use lib.ListN.{length}
use Rattle.text.specs.declared.Lexeme.{Lexeme}
use Rattle.text.specs.Tokens.{run_end, lexeme}
use Rattle.text.proofs.Lexemes.{Ended, lexeme_end}
use Rattle.tokens.specs.declared.Next.{Next}
use Rattle.tokens.specs.Found.{Read, Found}

module _ (text : List ℕ) (at : ℕ) (due : Bool) (begin : ℕ) (behind : begin ≡ run_end Spaces text at) where
  pub found_token :
      (x : Lexeme) → begin < length text → x ≡ lexeme text begin due
      → Found text at due (record { kind = x.kind; begin = begin; end = x.end })
  unfolding Read
  found_token x h e =
      let ended : Ended text begin x = rw e (lexeme_end text begin h due) in
      record {
        begins = behind;
        within = omega arith;
        class = omega (arith, ended.class);
        read = (λ _. (ap (λ (y : Lexeme). y.kind) e, ap (λ (y : Lexeme). y.end) e, ended.class), λ z. absurd (omega arith), λ k. ended.ends (λ z. omega arith));
      }

  pub found_end : begin ≡ length text → Found text at due (record { kind = 34; begin = begin; end = begin })
  unfolding Read
  found_end e = record {
    begins = behind;
    within = omega arith;
    class = omega arith;
    read = (λ h. absurd (omega arith), λ _. refl, λ k. absurd (omega arith));
  }

module _ (text : List ℕ) (at : ℕ) (due : Bool) (r : Next) (f : Found text at due r) where
  -- in the text it is the token that begins there
  pub token_kind : r.begin < length text → r.kind ≡ (lexeme text r.begin due).kind
  unfolding Read
  token_kind h = (f.read.0 h).0

  pub token_end : r.begin < length text → r.end ≡ (lexeme text r.begin due).end
  unfolding Read
  token_end h = (f.read.0 h).1

  pub token_class : r.begin < length text → r.kind < 34
  unfolding Read
  token_class h = (f.read.0 h).2

  -- at the end of the text its class is 34
  pub end_class : r.begin ≡ length text → r.kind ≡ 34
  unfolding Read
  end_class e = f.read.1 e

  -- a token that is known takes a byte at least and ends in the text
  pub token_within : r.kind < 33 → (r.begin < r.end) × (r.end ≤ length text)
  unfolding Read
  token_within k = f.read.2 k
