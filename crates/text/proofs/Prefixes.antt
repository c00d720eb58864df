-- A token depends on the bytes up to its end and, if it is a name, on what follows: where a text is cut behind a token and goes on with a
-- space, the token stays.
-- Assumes nothing.
use Rattle.text.specs.declared.Run.{Run}
use Rattle.text.specs.declared.Run.TheVariants.{Spaces, Digits, NameBytes, Until}
use Prim.Native.Nat.{ℕ, suc, ◌+◌, ◌-◌, ◌<◌, ◌≤◌}
use mathlib.Core.Path.{◌≡◌, refl, sym, ◌∙◌, ap, ap₂}
use mathlib.Core.Bool.{Bool, true, false, ◌&&◌, ◌||◌, cond, true≢false, or-true, and-false}
use mathlib.Core.List.{List, [], ◌∷◌, ◌++◌}
use mathlib.Core.Logic.{⊎_elim}
use lib.Dec.{eqb, ltb}
use lib.ListN.{length, drop, length-append, length-drop, get_or-append}
use lib.Seq.{drop-cons, drop-append-le, take-append-le, get_or-append_seam}
use native.Mathlib.Omega.{arith}
use borrow.Author.Tests.{lt-ltb, eqb-true, eq-eqb}
use Rattle.meaning.proofs.Bools.{lt_or_ge}
use Rattle.decimal.specs.Decimal.{is_digit}
use Rattle.names.specs.Names.{is_letter, position, same}
use Rattle.text.specs.declared.Lexeme.{Lexeme}
use Rattle.text.specs.Grammar.{Literal, unknown}
use Rattle.text.specs.Tokens.{code, passes, many, byte, run_end, between, class_among, pairs, pair_class, mark_class, name_end, star_at, name_class, token, named, number_end, quoted, punctuation, number_at, quote_at, letter_at, variable_at, lexeme}
use Rattle.text.proofs.Lexemes.{choice, both_l, both_r, there, run_behind, run_takes, name_behind}

-- ---- tests and choices

-- two choices are equal where their tests are and the sides that are taken, of which Q is known
branch :
    {A : Type 0} (Q : A → Type 0) (b c : Bool) {x y x' y' : A} → ((b ≡ true → Q x) → (b ≡ false → Q y) → c ≡ b)
    → (b ≡ true → Q x → x' ≡ x) → (b ≡ false → Q y → y' ≡ y) → Q (cond b x y) → cond c x' y' ≡ cond b x y
branch Q true c f g h k = rw (f (λ _. k) (λ e. absurd (true≢false e))) (g refl k)
branch Q false c f g h k = rw (f (λ e. absurd (true≢false (sym e))) (λ _. k)) (h refl k)

-- a test that would say too much fails
fails : (b : Bool) → (b ≡ true → ⊥) → b ≡ false
fails true f = absurd (f refl)
fails false f = refl

-- ---- numbers

run_none : (q : Run) (text : List ℕ) (i : ℕ) → i < length text → passes q (byte text i) ≡ false → run_end q text i ≡ i
unfolding run_end many
run_none q text i h e = rw (drop-cons text i 0 h, e) (omega arith)

number_behind : (text : List ℕ) (i : ℕ) → run_end Digits text i ≤ number_end text i
unfolding number_end
number_behind text i =
    choice (λ n. run_end Digits text i ≤ n) (eqb (byte text (run_end Digits text i)) 46)
    (λ _. omega (arith, run_behind Digits text (run_end Digits text i + 1)))
    (λ _. omega arith)

-- a point before a digit
pointed : List ℕ → ℕ → Bool
pointed text i = eqb (byte text i) 46 && is_digit (byte text (i + 1))

-- they are part of the number
point_end : (text : List ℕ) (i : ℕ) → i < length text → pointed text i ≡ true → i + 1 < number_end text i
unfolding number_end pointed
point_end text i h e =
    let p : eqb (byte text i) 46 ≡ true = both_l (eqb (byte text i) 46) (is_digit (byte text (i + 1))) e in
    let n : is_digit (byte text (i + 1)) ≡ true = both_r (eqb (byte text i) 46) (is_digit (byte text (i + 1))) e in
    let r : run_end Digits text i ≡ i = run_none Digits text i h (rw (eqb-true (byte text i) 46 p)) in
    rw (r, p) (run_takes Digits text (i + 1) (there is_digit refl text (i + 1) n) n)

-- ---- runs

many_same :
    (q : Run) (a x z : List ℕ) → many q (a ++ x) ≤ length a → (many q (a ++ x) ≡ length a → passes q 32 ≡ false)
    → many q (a ++ (32 ∷ z)) ≡ many q (a ++ x)
unfolding many
many_same q [] x z h f = rw (f (omega arith)) (omega arith)
many_same q (b ∷ a) x z h f = by (passes q b) (many_same q a x z) h f
  where
    by :
        (t : Bool)
        → (many q (a ++ x) ≤ length a → (many q (a ++ x) ≡ length a → passes q 32 ≡ false) → many q (a ++ (32 ∷ z)) ≡ many q (a ++ x))
        → cond t (suc (many q (a ++ x))) 0 ≤ suc (length a) → (cond t (suc (many q (a ++ x))) 0 ≡ suc (length a) → passes q 32 ≡ false)
        → cond t (suc (many q (a ++ (32 ∷ z)))) 0 ≡ cond t (suc (many q (a ++ x))) 0
    by true r h f = ap suc (r (omega arith) (λ e. f (ap suc e)))
    by false r h f = refl

-- w, a space, and what follows
abbrev pub spaced : List ℕ → List ℕ → List ℕ
spaced w z = w ++ (32 ∷ z)

-- no token of two bytes ends with a space
pair_space : (b : ℕ) → pair_class b 32 ≡ code unknown
unfolding pair_class class_among pairs position same
pair_space b = simp and-false

-- a token is known and ends with w or before
abbrev pub Stays : List ℕ → Lexeme → Type 0
Stays w f = (f.kind ≡ code unknown → ⊥) × (f.end ≤ length w)

module _ (w x z : List ℕ) where
  pub byte_same : (i : ℕ) → i < length w → byte (spaced w z) i ≡ byte (w ++ x) i
  byte_same i h = get_or-append w (32 ∷ z) 0 i h ∙ sym (get_or-append w x 0 i h)

  byte_space : (i : ℕ) → i ≡ length w → byte (spaced w z) i ≡ 32
  byte_space i e = ap (byte (spaced w z)) e ∙ get_or-append_seam w 32 z 0

  -- a test of a byte, and of two, that a space fails
  test_same :
      (p : ℕ → Bool) → p 32 ≡ false → (r : ℕ) → r ≤ length w → (p (byte (w ++ x) r) ≡ true → r < length w)
      → p (byte (spaced w z) r) ≡ p (byte (w ++ x) r)
  test_same p s r h f =
      ⊎_elim
      (λ l. ap p (byte_same r l))
      (λ l. ap p (byte_space r (omega arith)) ∙ s ∙ sym (fails (p (byte (w ++ x) r)) (λ e. omega (arith, f e))))
      (lt_or_ge r (length w))

  pub pair_same :
      (p q : ℕ → Bool) → p 32 ≡ false → q 32 ≡ false → (r : ℕ) → r ≤ length w
      → ((p (byte (w ++ x) r) && q (byte (w ++ x) (r + 1))) ≡ true → r + 1 < length w)
      → (p (byte (spaced w z) r) && q (byte (spaced w z) (r + 1))) ≡ (p (byte (w ++ x) r) && q (byte (w ++ x) (r + 1)))
  pair_same p q s t r h f =
      ⊎_elim
      (λ l. rw (byte_same r l) (by (p (byte (w ++ x) r)) l f))
      (λ l. rw (byte_space r (omega arith), s) (sym (fails (p (byte (w ++ x) r) && q (byte (w ++ x) (r + 1))) (λ e. omega (arith, f e)))))
      (lt_or_ge r (length w))
    where
      by :
          (b : Bool) → r < length w → ((b && q (byte (w ++ x) (r + 1))) ≡ true → r + 1 < length w)
          → (b && q (byte (spaced w z) (r + 1))) ≡ (b && q (byte (w ++ x) (r + 1)))
      by true l f = test_same q t (r + 1) (omega arith) f
      by false l f = refl

  pub run_same :
      (q : Run) (i : ℕ) → run_end q (w ++ x) i ≤ length w → (run_end q (w ++ x) i ≡ length w → passes q 32 ≡ false)
      → run_end q (spaced w z) i ≡ run_end q (w ++ x) i
  unfolding run_end
  run_same q i h f =
      let l : i ≤ length w = omega arith in
      let a = drop-append-le i w x l in
      let h' : i + many q (drop i w ++ x) ≤ length w = rw a at h in
      let f' : i + many q (drop i w ++ x) ≡ length w → passes q 32 ≡ false = rw a at f in
      rw (a, drop-append-le i w (32 ∷ z) l)
      (ap (λ (n : ℕ). i + n)
      (many_same q (drop i w) x z (omega (arith, length-drop i w)) (λ e. f' (omega (arith, length-drop i w)))))

  pub between_same : (i e : ℕ) → i ≤ e → e ≤ length w → between (spaced w z) i e ≡ between (w ++ x) i e
  between_same i e l h =
      let d : e - i ≤ length (drop i w) = omega (arith, length-drop i w) in
      rw (drop-append-le i w x (omega arith), drop-append-le i w (32 ∷ z) (omega arith))
      (take-append-le (e - i) (drop i w) (32 ∷ z) d ∙ sym (take-append-le (e - i) (drop i w) x d))

  -- ---- ends

  number_same : (i : ℕ) → number_end (w ++ x) i ≤ length w → number_end (spaced w z) i ≡ number_end (w ++ x) i
  unfolding number_end
  number_same i h =
      let r : ℕ = run_end Digits (w ++ x) i in
      let l : r ≤ length w = omega (arith, number_behind (w ++ x) i) in
      rw (run_same Digits i l (λ _. refl))
      (branch (λ n. n ≤ length w) (eqb (byte (w ++ x) r) 46) (eqb (byte (spaced w z) r) 46)
      (λ f g. test_same (λ b. eqb b 46) refl r l (λ e. omega (arith, f e, run_behind Digits (w ++ x) (r + 1))))
      (λ _ k. run_same Digits (r + 1) k (λ _. refl))
      (λ _ _. refl)
      h)

  pub name_same : (i : ℕ) → name_end (w ++ x) i ≤ length w → name_end (spaced w z) i ≡ name_end (w ++ x) i
  unfolding name_end
  name_same i h =
      let r : ℕ = run_end NameBytes (w ++ x) i in
      let l : r ≤ length w = omega (arith, name_behind (w ++ x) i) in
      rw (run_same NameBytes i l (λ _. refl))
      (branch (λ n. n ≤ length w) (eqb (byte (w ++ x) r) 58 && is_letter (byte (w ++ x) (r + 1)))
      (eqb (byte (spaced w z) r) 58 && is_letter (byte (spaced w z) (r + 1)))
      (λ f g. pair_same (λ b. eqb b 58) is_letter refl refl r l (λ e. further r (both_r (eqb (byte (w ++ x) r) 58) _ e) (f e)))
      (λ _ k. run_same NameBytes (r + 1) k (λ _. refl))
      (λ _ _. refl)
      h)
    where
      further : (r : ℕ) → is_letter (byte (w ++ x) (r + 1)) ≡ true → run_end NameBytes (w ++ x) (r + 1) ≤ length w → r + 1 < length w
      further r e k = omega (arith, run_takes NameBytes (w ++ x) (r + 1) (there is_letter refl (w ++ x) (r + 1) e) (rw e))

  -- ---- each kind of token

  module _ (i : ℕ) (in-w : i < length w) where
    in_text : i < length (w ++ x)
    in_text = omega (arith, length-append w x)

    number_at_same : (number_at (w ++ x) i ≡ true → number_end (w ++ x) i ≤ length w) → number_at (spaced w z) i ≡ number_at (w ++ x) i
    unfolding number_at pointed
    number_at_same f =
        ap₂ ◌||◌ (ap is_digit (byte_same i in-w))
        (pair_same (λ b. eqb b 46) is_digit refl refl i (omega arith)
        (λ e. omega (
          arith,
          point_end (w ++ x) i in_text e,
          f (ap (λ (t : Bool). is_digit (byte (w ++ x) i) || t) e ∙ or-true (is_digit (byte (w ++ x) i))),
        )))

    quoted_same : (q : ℕ) → Stays w (quoted (w ++ x) i q) → quoted (spaced w z) i q ≡ quoted (w ++ x) i q
    unfolding quoted
    quoted_same q =
        branch (Stays w) (ltb r (length (w ++ x))) (ltb (run_end (Until q) (spaced w z) (i + 1)) (length (spaced w z)))
        (λ f g. closed (ltb r (length (w ++ x))) refl f g)
        (λ _ k. ap (λ (n : ℕ). token (code Literal) (n + 1)) (run k.1))
        (λ _ k. absurd (k.0 refl))
      where
        r : ℕ
        r = run_end (Until q) (w ++ x) (i + 1)

        run : r + 1 ≤ length w → run_end (Until q) (spaced w z) (i + 1) ≡ r
        run h = run_same (Until q) (i + 1) (omega arith) (λ e. absurd (omega arith))

        closed :
            (b : Bool) → ltb r (length (w ++ x)) ≡ b → (b ≡ true → Stays w (token (code Literal) (r + 1)))
            → (b ≡ false → Stays w (token (code unknown) i))
            → ltb (run_end (Until q) (spaced w z) (i + 1)) (length (spaced w z)) ≡ b
        closed true e f g =
            let h : r + 1 ≤ length w = (f refl).1 in
            rw (run h) (lt-ltb r (length (spaced w z)) (omega (arith, length-append w (32 ∷ z))))
        closed false e f g = absurd ((g refl).0 refl)

    variable_at_same : (variable_at (w ++ x) i ≡ true → name_end (w ++ x) (i + 1) ≤ length w) → variable_at (spaced w z) i ≡ variable_at (w ++ x) i
    unfolding variable_at
    variable_at_same f = pair_same (λ b. eqb b 36) is_letter refl refl i (omega arith) (λ e. further e (f e))
      where
        further : (eqb (byte (w ++ x) i) 36 && is_letter (byte (w ++ x) (i + 1))) ≡ true → name_end (w ++ x) (i + 1) ≤ length w → i + 1 < length w
        further e k =
            let l : is_letter (byte (w ++ x) (i + 1)) ≡ true = both_r (eqb (byte (w ++ x) i) 36) (is_letter (byte (w ++ x) (i + 1))) e in
            omega (arith, name_behind (w ++ x) (i + 1), run_takes NameBytes (w ++ x) (i + 1) (there is_letter refl (w ++ x) (i + 1) l) (rw l))

    punctuation_same : (due : Bool) → Stays w (punctuation (w ++ x) i due) → punctuation (spaced w z) i due ≡ punctuation (w ++ x) i due
    unfolding punctuation
    punctuation_same due =
        branch (Stays w) (eqb (pair (w ++ x)) (code unknown)) (eqb (pair (spaced w z)) (code unknown))
        (λ f g. ⊎_elim
        (λ l. ap (λ (n : ℕ). eqb n (code unknown)) (pairs_same l))
        (λ l. alone (omega arith) ∙ sym (not_pair (eqb (pair (w ++ x)) (code unknown)) (λ e. omega (arith, (g e).1))))
        (lt_or_ge (i + 1) (length w)))
        (λ _ _. ap (λ (b : ℕ). token (mark_class b due) (i + 1)) (byte_same i in-w))
        (λ _ k. ap (λ (n : ℕ). token n (i + 2)) (pairs_same (omega (arith, k.1))))
      where
        pair : List ℕ → ℕ
        pair text = pair_class (byte text i) (byte text (i + 1))

        pairs_same : i + 1 < length w → pair (spaced w z) ≡ pair (w ++ x)
        pairs_same l = ap₂ pair_class (byte_same i in-w) (byte_same (i + 1) l)

        alone : i + 1 ≡ length w → eqb (pair (spaced w z)) (code unknown) ≡ true
        alone e =
            eq-eqb (pair (spaced w z)) (code unknown)
            (ap (pair_class (byte (spaced w z) i)) (byte_space (i + 1) e) ∙ pair_space (byte (spaced w z) i))

        not_pair : (b : Bool) → (b ≡ false → ⊥) → b ≡ true
        not_pair true f = refl
        not_pair false f = absurd (f refl)

    -- what follows a name makes it what it was
    abbrev pub Followed : Bool → Type 0
    Followed due =
        lexeme (w ++ x) i due ≡ token (name_class (w ++ x) i (name_end (w ++ x) i) (run_end Spaces (w ++ x) (name_end (w ++ x) i)) due) (name_end (w ++ x) i)
        → name_class (spaced w z) i (name_end (w ++ x) i) (run_end Spaces (spaced w z) (name_end (w ++ x) i)) due
        ≡ name_class (w ++ x) i (name_end (w ++ x) i) (run_end Spaces (w ++ x) (name_end (w ++ x) i)) due

    named_same :
        (due : Bool) → lexeme (w ++ x) i due ≡ named (w ++ x) i due → Followed due → Stays w (named (w ++ x) i due)
        → named (spaced w z) i due ≡ named (w ++ x) i due
    unfolding named star_at
    named_same due e follows k =
        rw (run_same NameBytes i (reach k) (λ _. refl))
        (branch (Stays w) (star_at (w ++ x) r) (star_at (spaced w z) r)
        (λ f g. pair_same (λ b. eqb b 58) (λ b. eqb b 42) refl refl r (reach k) (λ t. omega (arith, (f t).1)))
        (λ _ _. refl)
        (λ s m. rw (name_same i m.1) (ap (λ (n : ℕ). token n (name_end (w ++ x) i)) (follows (e ∙ rw s))))
        k)
      where
        r : ℕ
        r = run_end NameBytes (w ++ x) i

        reach : Stays w (named (w ++ x) i due) → r ≤ length w
        reach k =
            let l : r ≤ (named (w ++ x) i due).end =
            choice (λ (f : Lexeme). r ≤ f.end) (star_at (w ++ x) r) (λ _. omega arith) (λ _. name_behind (w ++ x) i) in
            omega (arith, k.1)

    pub lexeme_same : (due : Bool) → Followed due → Stays w (lexeme (w ++ x) i due) → lexeme (spaced w z) i due ≡ lexeme (w ++ x) i due
    unfolding lexeme quote_at letter_at
    lexeme_same due follows =
        branch (Stays w) (number_at (w ++ x) i) (number_at (spaced w z) i)
        (λ f g. number_at_same (λ e. (f e).1))
        (λ _ k. ap (token _) (number_same i k.1))
        (λ n. branch (Stays w) (quote_at (w ++ x) i) (quote_at (spaced w z) i)
        (λ f g. rw (byte_same i in-w))
        (λ _ k. rw (byte_same i in-w) (quoted_same (byte (w ++ x) i) k))
        (λ q. branch (Stays w) (letter_at (w ++ x) i) (letter_at (spaced w z) i)
        (λ f g. rw (byte_same i in-w))
        (λ l k. named_same due (rw (n, q, l)) follows k)
        (λ l. branch (Stays w) (variable_at (w ++ x) i) (variable_at (spaced w z) i)
        (λ f g. variable_at_same (λ e. (f e).1))
        (λ _ k. ap (token _) (name_same (i + 1) k.1))
        (λ _ k. punctuation_same due k))))
