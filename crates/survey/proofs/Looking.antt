-- What `survey::look::look` found, from what `tokens::next_token` did.
-- Assumes nothing.
use Rattle.text.specs.declared.Run.TheVariants.{Spaces}
use Prim.Native.Nat.{ℕ, ◌<◌, ◌≤◌}
use native.Mathlib.Omega.{arith}
use mathlib.Core.Path.{◌≡◌, refl}
use mathlib.Core.Bool.{Bool}
use mathlib.Core.List.{List}
use mathlib.Core.Logic.{⊎_elim}
use lib.ListN.{length}
use Rattle.meaning.proofs.Bools.{lt_or_ge}
use Rattle.text.specs.Tokens.{run_end, lexeme}
use Rattle.text.proofs.Cutting.{Stands}
use Rattle.tokens.specs.declared.Next.{Next}
use Rattle.tokens.specs.Found.{Found}
use Rattle.tokens.proofs.Found.{token_kind, token_end, token_class, end_class, token_within}
use Rattle.modes.specs.Acts.{act_of}
use Rattle.survey.specs.Looking.{Sees}

module _ (text : List ℕ) (at : ℕ) (due : Bool) (mode : ℕ) (r : Next) (f : Found text at due r) where
  -- only the end of the text has a class above 33
  in_text : r.kind < 34 → r.begin < length text
  in_text h =
      ⊎_elim (λ l. l) (λ l. absurd (omega (arith, end_class text at due r f (omega (arith, f.within))))) (lt_or_ge r.begin (length text))

  at_end : r.kind ≡ 34 → r.begin ≡ length text
  at_end h =
      ⊎_elim (λ l. absurd (omega (arith, token_class text at due r f l))) (λ l. omega (arith, f.within)) (lt_or_ge r.begin (length text))

  stands : r.kind < 34 → Stands text at due r.kind r.begin (lexeme text r.begin due).end
  stands h = record { begins = f.begins; inside = in_text h; kind_is = token_kind text at due r f (in_text h); behind_is = refl }

  -- a token that can be read
  pub seen :
      (behind act : ℕ) → r.kind < 33 → act ≡ act_of r.kind mode → behind ≡ run_end Spaces text r.end
      → Sees text at due mode (record { kind = r.kind; begin = r.begin; end = r.end; behind = behind; act = act })
  seen behind act h a b =
      let there : r.begin < length text = in_text (omega arith) in
      record {
        begins = f.begins;
        class = f.class;
        known = λ _. record {
          stands = record {
            begins = f.begins;
            inside = there;
            kind_is = token_kind text at due r f there;
            behind_is = token_end text at due r f there;
          };
          acts = a;
          follows = b;
          longer = (token_within text at due r f h).0;
          within = (token_within text at due r f h).1;
        };
        unknown = λ e. absurd (omega arith);
        refused = λ l. absurd (omega arith);
        last = λ e. absurd (omega arith);
      }

  -- one that cannot, or the end of the text
  pub unseen : 33 ≤ r.kind → Sees text at due mode (record { kind = r.kind; begin = r.begin; end = r.begin; behind = r.begin; act = 0 })
  unseen h = record {
    begins = f.begins;
    class = f.class;
    known = λ l. absurd (omega arith);
    unknown = λ e. stands (omega arith);
    refused = λ _. refl;
    last = at_end;
  }
