-- How a loop over a text cuts it into tokens: where it stands behind the first k tokens (`Cut`), what the next token adds, and where the
-- tokens end; so the places of tokens ascend, and so do the bytes behind them.
-- Assumes nothing.
use Rattle.text.specs.declared.Run.TheVariants.{Spaces}
use Prim.Native.Nat.{ℕ, zero, suc, ◌+◌, ◌-◌, ◌<◌, ◌≤◌}
use mathlib.Core.Path.{◌≡◌, refl, sym, ◌∙◌, ap, subst}
use mathlib.Core.Bool.{Bool, true, false, cond}
use mathlib.Core.List.{List, [], ◌∷◌, ◌++◌, map}
use mathlib.Core.Logic.{⊎_elim}
use lib.Dec.{eqb, ltb}
use lib.ListN.{length, get_or, take, drop, length-map, length-drop, get_or-map}
use lib.Seq.{drop-drop, take-suc, get_or-drop}
use native.Mathlib.Omega.{arith}
use native.Mathlib.Numerals.{add-one}
use borrow.Author.Tests.{lt-ltb, le-ltb, eq-eqb, ne_eqb, ltb-true, eqb-false}
use Rattle.meaning.proofs.Bools.{lt_or_ge}
use Rattle.text.specs.declared.Lexeme.{Lexeme}
use Rattle.text.specs.Grammar.{Token, unknown}
use Rattle.text.specs.Tokens.{code, class_of, run_end, lexeme, operator_due, Placed, placed, tokens_from, tokens, classes_of, place_in}
use Rattle.text.specs.Tokens as X
use Rattle.text.specs.Limited.{source}
use Rattle.text.specs.Limited as L
use Rattle.text.specs.Reading.{byte_of}
use Rattle.text.proofs.Lexemes.{run_behind, lexeme_takes, lexeme_known, class_of_code}

-- ---- fuel

-- no token stands behind the last byte
none_past : (fuel : ℕ) (text : List ℕ) (i : ℕ) (due : Bool) → length text ≤ run_end Spaces text i → tokens_from fuel text i due ≡ []
unfolding tokens_from
none_past zero text i due h = refl
none_past (suc fuel) text i due h = rw (le-ltb (run_end Spaces text i) (length text) h)

-- the tokens don't depend on the fuel once there is one for each byte
pub more_fuel :
    (fuel more : ℕ) (text : List ℕ) (i : ℕ) (due : Bool) → length text ≤ fuel + i → length text ≤ more + i
    → tokens_from fuel text i due ≡ tokens_from more text i due
unfolding tokens_from
more_fuel zero more text i due h k = sym (none_past more text i due (omega (arith, run_behind Spaces text i)))
more_fuel (suc fuel) zero text i due h k = none_past (suc fuel) text i due (omega (arith, run_behind Spaces text i))
more_fuel (suc fuel) (suc more) text i due h k =
    let f : Lexeme = lexeme text (run_end Spaces text i) due in
    by f (ltb (run_end Spaces text i) (length text)) refl (eqb f.kind (code unknown)) refl
    (λ l n.
    let t : run_end Spaces text i < f.end = (lexeme_takes text (run_end Spaces text i) due l n).0 in
    more_fuel fuel more text f.end (operator_due f.kind) (omega (arith, run_behind Spaces text i)) (omega (arith, run_behind Spaces text i)))
  where
    by :
        (f : Lexeme) (b : Bool) → ltb (run_end Spaces text i) (length text) ≡ b → (c : Bool) → eqb f.kind (code unknown) ≡ c
        → (run_end Spaces text i < length text → (f.kind ≡ code unknown → ⊥)
        → tokens_from fuel text f.end (operator_due f.kind) ≡ tokens_from more text f.end (operator_due f.kind))
        → cond b (placed (class_of f.kind) (run_end Spaces text i) f.end ∷ cond c [] (tokens_from fuel text f.end (operator_due f.kind))) []
        ≡ cond b (placed (class_of f.kind) (run_end Spaces text i) f.end ∷ cond c [] (tokens_from more text f.end (operator_due f.kind))) []
    by f false e c d r = refl
    by f true e true d r = refl
    by f true e false d r =
        ap (λ l. placed (class_of f.kind) (run_end Spaces text i) f.end ∷ l)
        (r (ltb-true (run_end Spaces text i) (length text) e) (eqb-false f.kind (code unknown) d))

-- ---- where a loop stands

-- the byte behind the first k tokens
unfoldable pub raw : List ℕ → ℕ → ℕ
raw text k = get_or (0 ∷ map X.end (tokens text)) k 0

-- the tokens from a byte on
abbrev pub tokens_behind : List ℕ → ℕ → Bool → List Placed
tokens_behind text i due = tokens_from (length text) text i due

-- k tokens stand before byte i, and the others are those that are read from i on
pub record Cut (text : List ℕ) (k i : ℕ) (due : Bool) : Type 0 where
  pub count : k ≤ length (tokens text)
  pub within : i ≤ length text
  pub rest : drop k (tokens text) ≡ tokens_behind text i due
  pub ends : i ≡ raw text k

-- the next token: the number of its class, its first byte and the byte behind it
pub record Stands (text : List ℕ) (i : ℕ) (due : Bool) (kind begin behind : ℕ) : Type 0 where
  pub begins : begin ≡ run_end Spaces text i
  pub inside : begin < length text
  pub kind_is : kind ≡ (lexeme text begin due).kind
  pub behind_is : behind ≡ (lexeme text begin due).end

pub stands_there :
    (text : List ℕ) (i : ℕ) (due : Bool) → run_end Spaces text i < length text
    → Stands text i due (lexeme text (run_end Spaces text i) due).kind (run_end Spaces text i) (lexeme text (run_end Spaces text i) due).end
stands_there text i due h = record { begins = refl; inside = h; kind_is = refl; behind_is = refl }

pub cut_start : (text : List ℕ) → Cut text 0 0 false
unfolding raw tokens
cut_start text = record { count = omega arith; within = omega arith; rest = refl; ends = refl }

-- ---- the next token

unfolded :
    (text : List ℕ) (i : ℕ) (due : Bool) {kind begin behind : ℕ} → Stands text i due kind begin behind
    → tokens_behind text i due ≡ placed (class_of kind) begin behind ∷ cond (eqb kind (code unknown)) [] (tokens_behind text behind (operator_due kind))
unfolding tokens_from
unfolded text i due n =
    more_fuel (length text) (suc (length text)) text i due (omega arith) (omega arith)
    ∙ rw (n.kind_is, n.behind_is, n.begins, lt-ltb (run_end Spaces text i) (length text) (omega (arith, n.begins, n.inside)))

nothing : Placed
nothing = placed unknown 0 0

pub classes_length : (text : List ℕ) → length (classes_of text) ≡ length (tokens text)
unfolding classes_of
classes_length text = length-map (tokens text) X.class

-- the first byte of a token of a list, and what is given behind the last
place_in_lem : (ts : List Placed) (n k : ℕ) (d : Placed) → k < length ts → place_in ts n k ≡ X.place (get_or ts k d)
unfolding place_in
place_in_lem [] n k d h = absurd (omega arith)
place_in_lem (t ∷ ts) n zero d h = refl
place_in_lem (t ∷ ts) n (suc k) d h = place_in_lem ts n k d (omega arith)

place_behind : (ts : List Placed) (n k : ℕ) → length ts ≤ k → place_in ts n k ≡ n + (k - length ts)
unfolding place_in
place_behind [] n k h = omega arith
place_behind (t ∷ ts) n zero h = absurd (omega arith)
place_behind (t ∷ ts) n (suc k) h =
    let ih : place_in ts n k ≡ n + (k - length ts) = place_behind ts n k (omega arith) in
    omega (arith, ih)

-- behind the last token the byte of a refusal is the length of the text
pub byte_end : (text : List ℕ) → byte_of text (length (tokens text)) ≡ length text
unfolding byte_of
byte_end text = let e = place_behind (tokens text) (length text) (length (tokens text)) (omega arith) in omega (arith, e)

-- it is what faults speak of
pub byte_place : (text list : List ℕ) (k : ℕ) → byte_of text k ≡ L.place (source text list) k
unfolding byte_of source
byte_place text list k = refl

module _ {text : List ℕ} {k i : ℕ} {due : Bool} (c : Cut text k i due) where
  -- behind the last byte there is no token more
  pub cut_end : length text ≤ run_end Spaces text i → k ≡ length (tokens text)
  cut_end h = omega (arith, c.count, length-drop k (tokens text), ap length (c.rest ∙ none_past (length text) text i due h))

  module _ {kind begin behind : ℕ} (n : Stands text i due kind begin behind) where
    next_rest :
        drop k (tokens text)
        ≡ placed (class_of kind) begin behind ∷ cond (eqb kind (code unknown)) [] (tokens_behind text behind (operator_due kind))
    next_rest = c.rest ∙ unfolded text i due n

    pub cut_count : k < length (tokens text)
    cut_count = omega (arith, length-drop k (tokens text), ap length next_rest)

    pub cut_token : (d : Placed) → get_or (tokens text) k d ≡ placed (class_of kind) begin behind
    cut_token d =
        let z : k + 0 ≡ k = omega arith in
        ap (λ (j : ℕ). get_or (tokens text) j d) (sym z) ∙ sym (get_or-drop k (tokens text) 0 d) ∙ ap (λ (l : List Placed). get_or l 0 d) next_rest

    pub cut_raw : raw text (k + 1) ≡ behind
    unfolding raw nothing
    cut_raw = rw (add-one k) (get_or-map X.end (tokens text) k nothing ∙ ap X.end (cut_token nothing))

    -- a token that is known is passed
    pub cut_next : (kind ≡ code unknown → ⊥) → Cut text (k + 1) behind (operator_due kind)
    cut_next u =
        let next-drop : drop (k + 1) (tokens text) ≡ cond (eqb kind (code unknown)) [] (tokens_behind text behind (operator_due kind)) =
        sym (drop-drop 1 k (tokens text)) ∙ ap (drop 1) next_rest in
        record {
          count = omega (arith, cut_count);
          within = rw n.behind_is (lexeme_takes text begin due n.inside (λ e. u (n.kind_is ∙ e))).1;
          rest = next-drop ∙ rw (ne_eqb kind (code unknown) u);
          ends = sym cut_raw;
        }

    -- where no token can be read the tokens end
    pub cut_unknown : kind ≡ code unknown → k + 1 ≡ length (tokens text)
    cut_unknown u =
        let last : drop k (tokens text) ≡ placed (class_of kind) begin behind ∷ [] = next_rest ∙ rw (eq-eqb kind (code unknown) u) in
        omega (arith, cut_count, length-drop k (tokens text), ap length last)

    -- ---- the same for classes and places

    pub cut_class : (d : Token) → get_or (classes_of text) k d ≡ class_of kind
    unfolding classes_of
    cut_class d = get_or-map X.class (tokens text) k (placed d 0 0) ∙ ap X.class (cut_token (placed d 0 0))

    pub cut_classes : take (k + 1) (classes_of text) ≡ take k (classes_of text) ++ (class_of kind ∷ [])
    cut_classes =
        rw (add-one k)
        (take-suc (classes_of text) k unknown (omega (arith, cut_count, classes_length text))
        ∙ ap (λ (t : Token). take k (classes_of text) ++ (t ∷ [])) (cut_class unknown))

    pub cut_place : (list : List ℕ) → L.place (source text list) k ≡ begin
    unfolding source
    cut_place list = place_in_lem (tokens text) (length text) k nothing cut_count ∙ ap X.place (cut_token nothing)

    pub cut_byte : byte_of text k ≡ begin
    cut_byte = byte_place text [] k ∙ cut_place []

-- ---- every token is cut so

-- where tokens are left, one begins within the text
pub cut_inside : {text : List ℕ} {k i : ℕ} {due : Bool} → Cut text k i due → k < length (tokens text) → run_end Spaces text i < length text
cut_inside {text} {k} {i} c h = ⊎_elim (λ l. l) (λ l. absurd (omega (arith, cut_end c l))) (lt_or_ge (run_end Spaces text i) (length text))

-- every token of a text, as a loop meets it
pub record Met (text : List ℕ) (k : ℕ) : Type 0 where
  pub due : Bool
  pub kind : ℕ
  pub begin : ℕ
  pub behind : ℕ
  pub cut : Cut text k (raw text k) due
  pub stands : Stands text (raw text k) due kind begin behind

-- only the last can be unknown
pub met_known : {text : List ℕ} {k : ℕ} (m : Met text k) → k + 1 < length (tokens text) → m.kind ≡ code unknown → ⊥
met_known m h u = omega (arith, cut_unknown m.cut m.stands u)

met_cut : {text : List ℕ} {k i : ℕ} {due : Bool} → Cut text k i due → k < length (tokens text) → Met text k
met_cut {text} {k} {i} {due} c h =
    let c' : Cut text k (raw text k) due = subst (λ (i : ℕ). Cut text k i due) c.ends c in
    record { due = due; kind = _; begin = _; behind = _; cut = c'; stands = stands_there text (raw text k) due (cut_inside c' h) }

pub met : (text : List ℕ) (k : ℕ) → k < length (tokens text) → Met text k
met text zero h = met_cut (cut_start text) h
met text (suc k) h =
    let m = met text k (omega arith) in
    let c = cut_next m.cut m.stands (met_known m (omega arith)) in
    met_cut (subst (λ (j : ℕ). Cut text j m.behind (operator_due m.kind)) (add-one k) c) h

module _ (text list : List ℕ) where
  -- a token's place is behind the spaces behind the token before it
  pub raw_place : (k : ℕ) → k < length (tokens text) → L.place (source text list) k ≡ run_end Spaces text (raw text k)
  raw_place k h = let m = met text k h in cut_place m.cut m.stands list ∙ m.stands.begins

  pub raw_before : (k : ℕ) → k < length (tokens text) → raw text k ≤ L.place (source text list) k
  raw_before k h = omega (arith, raw_place k h, run_behind Spaces text (raw text k))

  -- every token but the last is known
  pub known_before : (k : ℕ) → k + 1 < length (tokens text) → get_or (classes_of text) k unknown ≡ unknown → ⊥
  known_before k h e =
      let m = met text k (omega arith) in
      lexeme_known text m.begin m.due (λ u. met_known m h (m.stands.kind_is ∙ u))
      (ap class_of (sym m.stands.kind_is) ∙ sym (cut_class m.cut m.stands unknown) ∙ e)

  -- a known token ends behind its place
  pub place_ends :
      (k : ℕ) → k < length (tokens text) → (get_or (classes_of text) k unknown ≡ unknown → ⊥)
      → L.place (source text list) k < raw text (k + 1)
  place_ends k h u =
      let m = met text k h in
      let v : m.kind ≡ code unknown → ⊥ = λ e. u (cut_class m.cut m.stands unknown ∙ ap class_of e ∙ class_of_code unknown) in
      let t = lexeme_takes text m.begin m.due m.stands.inside (λ e. v (m.stands.kind_is ∙ e)) in
      omega (arith, t.0, m.stands.behind_is, cut_place m.cut m.stands list, cut_raw m.cut m.stands)

  raw_step : (k : ℕ) → k < length (tokens text) → (get_or (classes_of text) k unknown ≡ unknown → ⊥) → raw text k < raw text (k + 1)
  raw_step k h u = omega (arith, raw_before k h, place_ends k h u)

  place_step : (k : ℕ) → k + 1 < length (tokens text) → L.place (source text list) k < L.place (source text list) (k + 1)
  place_step k h = omega (arith, place_ends k (omega arith) (known_before k h), raw_before (k + 1) h)

  -- the bytes behind the tokens ascend, if the last of them is known
  pub raw_ascends :
      (i j : ℕ) → i < j → j ≤ length (tokens text) → (get_or (classes_of text) (j - 1) unknown ≡ unknown → ⊥) → raw text i < raw text j
  raw_ascends i zero h k u = absurd (omega arith)
  raw_ascends i (suc j) h k u =
      let z : suc j - 1 ≡ j = omega arith in
      let s : raw text j < raw text (suc j) = rw add-one at (raw_step j (omega arith) (rw z at u)) in
      ⊎_elim
      (λ l. omega (arith, raw_ascends i j l (omega arith) (known_before (j - 1) (omega arith))))
      (λ l. let e : i ≡ j = omega arith in rw e s)
      (lt_or_ge i j)

  -- and so do the places of all tokens
  pub places_ascend : (i j : ℕ) → i < j → j < length (tokens text) → L.place (source text list) i < L.place (source text list) j
  places_ascend i zero h k = absurd (omega arith)
  places_ascend i (suc j) h k =
      let s : L.place (source text list) j < L.place (source text list) (suc j) = rw add-one at (place_step j (omega arith)) in
      ⊎_elim
      (λ l. omega (arith, places_ascend i j l (omega arith)))
      (λ l. let e : i ≡ j = omega arith in rw e s)
      (lt_or_ge i j)

  -- every token begins within the text
  pub place_inside : (k : ℕ) → k < length (tokens text) → L.place (source text list) k < length text
  place_inside k h = let m = met text k h in omega (arith, cut_place m.cut m.stands list, m.stands.inside)

  place_past : (k : ℕ) → length (tokens text) ≤ k → L.place (source text list) k ≡ length text + (k - length (tokens text))
  unfolding source
  place_past k h = place_behind (tokens text) (length text) k h

  -- places ascend, also behind the last token
  pub source_ascends : (i j : ℕ) → i < j → L.place (source text list) i < L.place (source text list) j
  source_ascends i j h =
      ⊎_elim
      (λ l. places_ascend i j h l)
      (λ l.
      let there = place_past j l in
      ⊎_elim
      (λ k. omega (arith, place_inside i k, there))
      (λ k. omega (arith, place_past i k, there))
      (lt_or_ge i (length (tokens text))))
      (lt_or_ge j (length (tokens text)))
