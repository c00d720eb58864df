-- The tokens from a byte on depend on the bytes from there on alone: where two texts go on alike, so do their tokens.
-- Assumes nothing.
use Rattle.text.specs.declared.Run.{Run}
use Rattle.text.specs.declared.Run.TheVariants.{Spaces, Digits, NameBytes, Until}
use Prim.Native.Nat.{ℕ, zero, suc, ◌+◌, ◌-◌}
use mathlib.Core.Path.{◌≡◌, refl, sym, ◌∙◌, ap, ap₂}
use mathlib.Core.Bool.{Bool, true, false, ◌&&◌, cond}
use mathlib.Core.List.{List, ◌∷◌, map}
use lib.Dec.{eqb, ltb, eqb→eq, ltb→lt, lt→ltb}
use lib.ListN.{length, get_or, drop}
use lib.Seq.{drop-drop, get_or-drop}
use native.Mathlib.Omega.{arith}
use Rattle.meaning.proofs.Bools.{same, eq→eqb}
use Rattle.names.specs.Names.{is_letter}
use Rattle.text.specs.declared.Lexeme.{Lexeme}
use Rattle.text.specs.Grammar.{unknown}
use Rattle.text.specs.Tokens.{code, class_of, many, byte, run_end, between, pair_class, mark_class, name_end, star_at, opens_at, axis_at, name_class, named, number_end, quoted, punctuation, number_at, quote_at, letter_at, variable_at, lexeme, class, tokens_from}

-- two choices by one test are related where their sides are
pub choices : {A B : Type 0} (P : A → B → Type 0) {b c : Bool} {x y : A} {x' y' : B} → b ≡ c → P x x' → P y y' → P (cond b x y) (cond c x' y')
choices P {b = true} {c = true} e p q = p
choices P {b = true} {c = false} e p q = absurd (let z : ◌≡◌ {A = ℕ} 0 1 = cc in omega arith)
choices P {b = false} {c = true} e p q = absurd (let z : ◌≡◌ {A = ℕ} 0 1 = cc in omega arith)
choices P {b = false} {c = false} e p q = q

-- `::` stands at i
abbrev pub colons_at : List ℕ → ℕ → Bool
colons_at text i = eqb (byte text i) 58 && eqb (byte text (i + 1)) 58

-- byte i of u is byte j of v, d bytes before it, and the texts go on alike
pub record Meets (u v : List ℕ) (d i j : ℕ) : Type 0 where
  pub apart : i ≡ d + j
  pub alike : drop i u ≡ drop j v

-- tokens of one class that end alike
abbrev Alike : List ℕ → List ℕ → ℕ → Lexeme → Lexeme → Type 0
Alike u v d f g = (f.kind ≡ g.kind) × Meets u v d f.end g.end

module _ {u v : List ℕ} {d : ℕ} where
  pub meets_byte : {i j : ℕ} → Meets u v d i j → byte u i ≡ byte v j
  meets_byte {i} {j} m =
      let a : i + 0 ≡ i = omega arith in
      let b : j + 0 ≡ j = omega arith in
      ap (byte u) (sym a) ∙ sym (get_or-drop i u 0 0) ∙ ap (λ (l : List ℕ). get_or l 0 0) m.alike ∙ get_or-drop j v 0 0 ∙ ap (byte v) b

  pub meets_on : {i j : ℕ} → Meets u v d i j → (k : ℕ) → Meets u v d (i + k) (j + k)
  meets_on {i} {j} m k =
      record { apart = omega (arith, m.apart); alike = sym (drop-drop k i u) ∙ ap (drop k) m.alike ∙ drop-drop k j v }

  pub meets_run : {i j : ℕ} → Meets u v d i j → (q : Run) → Meets u v d (run_end q u i) (run_end q v j)
  unfolding run_end
  meets_run {i} {j} m q = rw m.alike (meets_on m (many q (drop j v)))

  -- what stands one byte further
  next_byte : {i j : ℕ} → Meets u v d i j → byte u (i + 1) ≡ byte v (j + 1)
  next_byte m = meets_byte (meets_on m 1)

  meets_number : {i j : ℕ} → Meets u v d i j → Meets u v d (number_end u i) (number_end v j)
  unfolding number_end
  meets_number m =
      let r = meets_run m Digits in
      choices (Meets u v d) (ap (λ (b : ℕ). eqb b 46) (meets_byte r)) (meets_run (meets_on r 1) Digits) r

  pub meets_name : {i j : ℕ} → Meets u v d i j → Meets u v d (name_end u i) (name_end v j)
  unfolding name_end
  meets_name m =
      let r = meets_run m NameBytes in
      choices (Meets u v d) (ap₂ (λ (b c : ℕ). eqb b 58 && is_letter c) (meets_byte r) (next_byte r)) (meets_run (meets_on r 1) NameBytes) r

  between_meets : {i j e f : ℕ} → Meets u v d i j → Meets u v d e f → between u i e ≡ between v j f
  between_meets {i} {j} {e} {f} m n =
      let k : e - i ≡ f - j = omega (arith, m.apart, n.apart) in
      rw (k, m.alike)

  pub opens_meets : {i j : ℕ} → Meets u v d i j → opens_at u i ≡ opens_at v j
  unfolding opens_at
  opens_meets m = rw (meets_byte m)

  pub colons_meets : {i j : ℕ} → Meets u v d i j → colons_at u i ≡ colons_at v j
  colons_meets m = rw (meets_byte m, next_byte m)

  equal_meets : {i j e f : ℕ} → Meets u v d i j → Meets u v d e f → eqb e i ≡ eqb f j
  equal_meets {i} {j} {e} {f} m n =
      same (eqb e i) (eqb f j)
      (λ h. eq→eqb f j (omega (arith, m.apart, n.apart, eqb→eq e i h)))
      (λ h. eq→eqb e i (omega (arith, m.apart, n.apart, eqb→eq f j h)))

  number_at_lem : {i j : ℕ} → Meets u v d i j → number_at u i ≡ number_at v j
  unfolding number_at
  number_at_lem m = rw (meets_byte m, next_byte m)

  quote_at_lem : {i j : ℕ} → Meets u v d i j → quote_at u i ≡ quote_at v j
  unfolding quote_at
  quote_at_lem m = rw (meets_byte m)

  letter_at_lem : {i j : ℕ} → Meets u v d i j → letter_at u i ≡ letter_at v j
  unfolding letter_at
  letter_at_lem m = rw (meets_byte m)

  variable_at_lem : {i j : ℕ} → Meets u v d i j → variable_at u i ≡ variable_at v j
  unfolding variable_at
  variable_at_lem m = rw (meets_byte m, next_byte m)

  module _ (lengths : length u ≡ d + length v) where
    inside_meets : {i j : ℕ} → Meets u v d i j → ltb i (length u) ≡ ltb j (length v)
    inside_meets {i} {j} m =
        same (ltb i (length u)) (ltb j (length v))
        (λ h. lt→ltb j (length v) (omega (arith, m.apart, ltb→lt i (length u) h)))
        (λ h. lt→ltb i (length u) (omega (arith, m.apart, ltb→lt j (length v) h)))

    quoted_meets : {i j : ℕ} → Meets u v d i j → (q : ℕ) → Alike u v d (quoted u i q) (quoted v j q)
    unfolding quoted
    quoted_meets m q = let r = meets_run (meets_on m 1) (Until q) in choices (Alike u v d) (inside_meets r) (refl, meets_on r 1) (refl, m)

    named_meets : {i j : ℕ} → Meets u v d i j → (due : Bool) → Alike u v d (named u i due) (named v j due)
    unfolding named star_at name_class axis_at
    named_meets m due =
        let r = meets_run m NameBytes in
        let e = meets_name m in
        let n = meets_run e Spaces in
        choices (Alike u v d) (ap₂ (λ (b c : ℕ). eqb b 58 && eqb c 42) (meets_byte r) (next_byte r))
        (refl, meets_on r 2)
        (rw (between_meets m e, opens_meets n, colons_meets n, equal_meets r e), e)

    punctuation_meets : {i j : ℕ} → Meets u v d i j → (due : Bool) → Alike u v d (punctuation u i due) (punctuation v j due)
    unfolding punctuation
    punctuation_meets m due =
        let p = ap₂ pair_class (meets_byte m) (next_byte m) in
        choices (Alike u v d) (ap (λ (k : ℕ). eqb k (code unknown)) p)
        (ap (λ (b : ℕ). mark_class b due) (meets_byte m), meets_on m 1)
        (p, meets_on m 2)

    lexeme_meets : {i j : ℕ} → Meets u v d i j → (due : Bool) → Alike u v d (lexeme u i due) (lexeme v j due)
    unfolding lexeme
    lexeme_meets m due =
        choices (Alike u v d) (number_at_lem m) (refl, meets_number m)
        (choices (Alike u v d) (quote_at_lem m) (rw (meets_byte m) (quoted_meets m _))
        (choices (Alike u v d) (letter_at_lem m) (named_meets m due)
        (choices (Alike u v d) (variable_at_lem m) (refl, meets_name (meets_on m 1))
        (punctuation_meets m due))))

    -- so are the classes from there on
    pub tokens_meet :
        (fuel : ℕ) {i j : ℕ} → Meets u v d i j → (due : Bool)
        → map class (tokens_from fuel u i due) ≡ map class (tokens_from fuel v j due)
    unfolding tokens_from
    tokens_meet zero m due = refl
    tokens_meet (suc fuel) m due =
        let b = meets_run m Spaces in
        let (k, e) = lexeme_meets b due in
        choices (λ x y. map class x ≡ map class y) (inside_meets b)
        (ap₂ ◌∷◌ (ap class_of k)
        (choices (λ x y. map class x ≡ map class y) (ap (λ (n : ℕ). eqb n (code unknown)) k) refl (rw k (tokens_meet fuel e _))))
        refl
