-- "No text of the grammar goes on" is literal, over bytes: tokens with which a text of the grammar goes on are the first tokens of a text of
-- the grammar that has the same bytes up to the end of the last of them. Behind that token it has a space, and then what leads the machine
-- to an end.
-- Assumes nothing.
use Rattle.text.specs.declared.Run.TheVariants.{Spaces, NameBytes}
use Prim.Native.Nat.{ℕ, zero, suc, ◌+◌, ◌-◌, ◌<◌, ◌≤◌}
use mathlib.Core.Path.{◌≡◌, refl, sym, ◌∙◌, ap, ap₂, subst}
use mathlib.Core.Bool.{Bool, true, false, ◌&&◌, not, cond, true≢false}
use mathlib.Core.List.{List, [], ◌∷◌, ◌++◌, map}
use mathlib.Core.Logic.{⊎_elim}
use lib.Dec.{T, eqb, ltb, eqb→eq}
use lib.ListN.{length, get_or, take, drop, length-append, take-append-drop}
use lib.Seq.{take-suc, take-append_seam, drop-append_seam, length-take-le}
use native.Mathlib.Omega.{arith}
use native.Mathlib.Numerals.{add-one}
use borrow.Author.Tests.{eqb-true}
use Rattle.meaning.proofs.Bools.{or_e, not_e, lt_or_ge}
use Rattle.names.specs.Names.{position, same}
use Rattle.text.specs.declared.Lexeme.{Lexeme}
use Rattle.text.specs.Grammar.{Token, NameTest, NodeType, 'processing_instruction', FunctionName, AxisName, unknown, Sentence, Viable}
use Rattle.text.specs.Tokens.{code, class_of, byte, run_end, between, class_among, node_types, operator_name, node_type, axis_names, axis_name, pairs, pair_class, name_end, opens_at, axis_at, name_class, punctuation, number_at, quote_at, letter_at, variable_at, lexeme, operator_due, class, tokens, classes_of}
use Rattle.text.specs.Machine.{Mode, Bracket, rows, pick, State, stuck, reading, done, next, run, start, accepting, is_stuck, accepts}
use Rattle.text.proofs.Machine.{and_l, and_r, run_append}
use Rattle.text.proofs.Sound.{accepted_sentence}
use Rattle.text.proofs.Viable.{viable_not_stuck, viable_before, finish, shut, completed}
use Rattle.text.proofs.Lexemes.{both_l, both_r, class_of_code, lexeme_takes, lexeme_code, run_behind, name_behind}
use Rattle.text.proofs.Cutting.{raw, Cut, Stands, stands_there, cut_start, cut_next, cut_class, cut_classes, cut_raw, cut_inside, met, classes_length, raw_ascends}
use Rattle.text.proofs.Shifts.{colons_at, Meets, meets_run, opens_meets, colons_meets, tokens_meet}
use Rattle.text.proofs.Prefixes.{spaced, byte_same, pair_same, run_same, between_same, Followed, lexeme_same}
use Rattle.text.proofs.Leads.{Holds, all_at, is_name, look_of, due_fits, look_fits, next_look, due_after, due_last, run_due}
use Rattle.text.proofs.Spelling.{spelled_reads, look, completion_bytes, completion_ahead}

-- ---- what follows a name

look_is : (t : Token) (j k : ℕ) → T (is_name t && eqb (look_of t) j) → T (look_fits t k) → k ≡ j
look_is t j k h f =
    let named : T (is_name t) = and_l (is_name t) (eqb (look_of t) j) h in
    let e : T (eqb k (look_of t)) = or_e (not (is_name t)) (eqb k (look_of t)) f (λ n. absurd (not_e (is_name t) n named)) (λ e. e) in
    eqb→eq k (look_of t) e ∙ eqb→eq (look_of t) j (and_r (is_name t) (eqb (look_of t) j) h)

-- the rules for names where no operator is due, by what follows: `(`, or `::` behind a name without a colon
abbrev name_by : List ℕ → Bool → Bool → ℕ
name_by v o a = cond o (node_type v) (cond a (axis_name v) (code NameTest))

-- of the word a node type or a function's name is made
abbrev called_by : ℕ → Token
called_by n = get_or (NodeType ∷ NodeType ∷ 'processing_instruction' ∷ NodeType ∷ []) n FunctionName

called_look : (n : ℕ) → T (is_name (called_by n) && eqb (look_of (called_by n)) 1)
unfolding code
called_look n = all_at (λ t. is_name t && eqb (look_of t) 1) (NodeType ∷ NodeType ∷ 'processing_instruction' ∷ NodeType ∷ []) n FunctionName tt tt

node_look : (v : List ℕ) (k : ℕ) → T (look_fits (class_of (node_type v)) k) → k ≡ 1
unfolding node_type class_among
node_look v k f =
    let n : ℕ = position node_types v in
    look_is (called_by n) 1 k (called_look n) (subst (λ (t : Token). T (look_fits t k)) (class_of_code (called_by n)) f)

axis_look : (v : List ℕ) (k : ℕ) → (axis_name v ≡ code unknown → ⊥) → T (look_fits (class_of (axis_name v)) k) → k ≡ 2
unfolding axis_name code
axis_look v k = by (ltb (position axis_names v) (length axis_names))
  where
    by :
        (b : Bool) → (cond b (code AxisName) (code unknown) ≡ code unknown → ⊥)
        → T (look_fits (class_of (cond b (code AxisName) (code unknown))) k) → k ≡ 2
    by true u f = look_is AxisName 2 k tt f
    by false u f = absurd (u refl)

test_look : (k : ℕ) → T (look_fits (class_of (code NameTest)) k) → k ≡ 0
unfolding code
test_look k f = look_is NameTest 0 k tt f

-- a name keeps its class where what follows it is what its class wants
name_kept :
    (v : List ℕ) (o c s o' c' : Bool) (k : ℕ) → (name_by v o (c && s) ≡ code unknown → ⊥) → T (look_fits (class_of (name_by v o (c && s))) k)
    → o' ≡ eqb k 1 → c' ≡ eqb k 2 → name_by v o' (c' && s) ≡ name_by v o (c && s)
name_kept v true c s o' c' k u f p q = rw (p, node_look v k f)
name_kept v false true true o' c' k u f p q = rw (p, q, axis_look v k u f)
name_kept v false true false o' c' k u f p q = rw (p, q, test_look k f)
name_kept v false false s o' c' k u f p q = rw (p, q, test_look k f)

-- `::` is a token
colons_end : (text : List ℕ) (i : ℕ) (due : Bool) → colons_at text i ≡ true → (lexeme text i due).end ≡ i + 2
unfolding lexeme number_at quote_at letter_at variable_at punctuation pair_class class_among pairs position same code
colons_end text i due e =
    let a : byte text i ≡ 58 = eqb-true (byte text i) 58 (both_l (eqb (byte text i) 58) (eqb (byte text (i + 1)) 58) e) in
    let b : byte text (i + 1) ≡ 58 = eqb-true (byte text (i + 1)) 58 (both_r (eqb (byte text i) 58) (eqb (byte text (i + 1)) 58) e) in
    rw (a, b)

module _ (w x z : List ℕ) (i e : ℕ) (begun : i ≤ e) (fits : e ≤ length w) (run : run_end NameBytes (w ++ x) i ≤ e) where
  -- a name before another token keeps its class
  followed_token :
      (due : Bool) → run_end Spaces (w ++ x) e < length w → (colons_at (w ++ x) (run_end Spaces (w ++ x) e) ≡ true → run_end Spaces (w ++ x) e + 1 < length w)
      → name_class (spaced w z) i e (run_end Spaces (spaced w z) e) due ≡ name_class (w ++ x) i e (run_end Spaces (w ++ x) e) due
  unfolding name_class opens_at axis_at
  followed_token due h f =
      let next : ℕ = run_end Spaces (w ++ x) e in
      rw (
        run_same w x z Spaces e (omega arith) (λ q. absurd (omega arith)),
        between_same w x z i e begun fits,
        pair_same w x z (λ b. eqb b 58) (λ b. eqb b 58) refl refl next (omega arith) f,
        byte_same w x z next h,
        run_same w x z NameBytes i (omega arith) (λ _. refl),
      )

  -- and so does one before what its class wants
  followed_last :
      (due : Bool) (k : ℕ) → (name_class (w ++ x) i e (run_end Spaces (w ++ x) e) due ≡ code unknown → ⊥)
      → T (look_fits (class_of (name_class (w ++ x) i e (run_end Spaces (w ++ x) e) due)) k) → opens_at (spaced w z) (run_end Spaces (spaced w z) e) ≡ eqb k 1
      → colons_at (spaced w z) (run_end Spaces (spaced w z) e) ≡ eqb k 2
      → name_class (spaced w z) i e (run_end Spaces (spaced w z) e) due ≡ name_class (w ++ x) i e (run_end Spaces (w ++ x) e) due
  unfolding name_class axis_at
  followed_last true k u f p q = ap operator_name (between_same w x z i e begun fits)
  followed_last false k u f p q =
      rw (between_same w x z i e begun fits, run_same w x z NameBytes i (omega arith) (λ _. refl))
      (name_kept (between (w ++ x) i e) (opens_at (w ++ x) (run_end Spaces (w ++ x) e)) (colons_at (w ++ x) (run_end Spaces (w ++ x) e))
      (eqb e (run_end NameBytes (w ++ x) i)) _ _ k u f p q)

-- ---- the same tokens, cut the same way

-- is an operator due behind the first k tokens?
abbrev due_at : List ℕ → ℕ → Bool
due_at text k = due_after false (take k (classes_of text))

-- the first k tokens of two texts are the same
record Both (text u : List ℕ) (k : ℕ) : Type 0 where
  first : Cut text k (raw text k) (due_at text k)
  second : Cut u k (raw text k) (due_at text k)
  alike : take k (classes_of u) ≡ take k (classes_of text)

both_start : (text u : List ℕ) → Both text u 0
unfolding due_after
both_start text u =
    let e = (cut_start text).ends in
    record { first = subst (λ i. Cut text 0 i false) e (cut_start text); second = subst (λ i. Cut u 0 i false) e (cut_start u); alike = refl }

-- a known token that stands next in both is passed in both
both_next :
    {text u : List ℕ} {k kind begin behind : ℕ} → Both text u k → Stands text (raw text k) (due_at text k) kind begin behind
    → Stands u (raw text k) (due_at text k) kind begin behind → (kind ≡ code unknown → ⊥) → Both text u (k + 1)
both_next {text} {u} {k} {kind} {begin} b n n' known =
    let r = cut_raw b.first n in
    let c : kind ≡ code (class_of kind) = subst (λ (j : ℕ). j ≡ code (class_of j)) (sym n.kind_is) (lexeme_code text begin (due_at text k)) in
    let d : due_at text (k + 1) ≡ operator_due kind =
    ap (due_after false) (cut_classes b.first n) ∙ due_last false (take k (classes_of text)) (class_of kind) ∙ ap operator_due (sym c) in
    record {
      first = rw (r, d) (cut_next b.first n known);
      second = rw (r, d) (cut_next b.second n' known);
      alike = cut_classes b.second n' ∙ ap (λ l. l ++ (class_of kind ∷ [])) b.alike ∙ sym (cut_classes b.first n);
    }

module _ (w x z : List ℕ) (n a : ℕ) (count : n ≤ length (tokens (w ++ x))) (ends : raw (w ++ x) n ≡ length w)
    (known : (k : ℕ) → k < n → get_or (classes_of (w ++ x)) k unknown ≡ unknown → ⊥)
    (fits : (k : ℕ) → k + 1 ≡ n → T (look_fits (get_or (classes_of (w ++ x)) k unknown) a))
    (opens : opens_at (spaced w z) (run_end Spaces (spaced w z) (length w)) ≡ eqb a 1)
    (colons : colons_at (spaced w z) (run_end Spaces (spaced w z) (length w)) ≡ eqb a 2) where
  raw_fits : (k : ℕ) → k ≤ n → raw (w ++ x) k ≤ length w
  raw_fits k h =
      ⊎_elim
      (λ l. omega (arith, ends, raw_ascends (w ++ x) [] k n l count (known (n - 1) (omega arith))))
      (λ l. let e : k ≡ n = omega arith in omega (arith, ends, ap (raw (w ++ x)) e))
      (lt_or_ge k n)

  kind_known :
      {k i kind begin behind : ℕ} {due : Bool} → Cut (w ++ x) k i due → Stands (w ++ x) i due kind begin behind → k < n → kind ≡ code unknown → ⊥
  kind_known {k} c m h e = known k h (cut_class c m unknown ∙ ap class_of e ∙ class_of_code unknown)

  -- where token k begins
  token_begins :
      (k : ℕ) → k < n
      → (run_end Spaces (w ++ x) (raw (w ++ x) k) < length w)
      × (colons_at (w ++ x) (run_end Spaces (w ++ x) (raw (w ++ x) k)) ≡ true → run_end Spaces (w ++ x) (raw (w ++ x) k) + 1 < length w)
  token_begins k h =
      let m = met (w ++ x) k (omega arith) in
      let e = cut_raw m.cut m.stands in
      let l = raw_fits (k + 1) (omega arith) in
      let t = lexeme_takes (w ++ x) m.begin m.due m.stands.inside (λ u. kind_known m.cut m.stands h (m.stands.kind_is ∙ u)) in (
        omega (arith, t.0, m.stands.behind_is, m.stands.begins),
        λ c.
            let d : colons_at (w ++ x) m.begin ≡ true = subst (λ (i : ℕ). colons_at (w ++ x) i ≡ true) (sym m.stands.begins) c in
            omega (arith, colons_end (w ++ x) m.begin m.due d, m.stands.behind_is, m.stands.begins),
      )

  module _ (k : ℕ) (h : k < n) (b : Both (w ++ x) (spaced w z) k) where
    due : Bool
    due = due_at (w ++ x) k

    begin : ℕ
    begin = run_end Spaces (w ++ x) (raw (w ++ x) k)

    found : Lexeme
    found = lexeme (w ++ x) begin due

    there : Stands (w ++ x) (raw (w ++ x) k) (due_at (w ++ x) k) found.kind begin found.end
    unfolding found begin due
    there = stands_there (w ++ x) (raw (w ++ x) k) due (cut_inside b.first (omega arith))

    ends_there : raw (w ++ x) (k + 1) ≡ found.end
    ends_there = cut_raw b.first there

    found_known : found.kind ≡ code unknown → ⊥
    found_known = kind_known b.first there h

    begins_in : begin < length w
    unfolding begin
    begins_in = (token_begins k h).0

    follows : Followed w x z begin begins_in due
    unfolding found
    follows e =
        let f : ℕ = name_end (w ++ x) begin in
        let s : raw (w ++ x) (k + 1) ≡ f = ends_there ∙ ap (λ (l : Lexeme). l.end) e in
        let t : found.kind ≡ name_class (w ++ x) begin f (run_end Spaces (w ++ x) f) due = ap (λ (l : Lexeme). l.kind) e in
        let g : run_end NameBytes (w ++ x) begin ≤ f = name_behind (w ++ x) begin in
        let l : f ≤ length w = omega (arith, raw_fits (k + 1) (omega arith)) in
        let i : begin ≤ f = omega (arith, run_behind NameBytes (w ++ x) begin) in
        ⊎_elim
        (λ m.
        let q = rw s at (token_begins (k + 1) m) in
        followed_token w x z begin f i l g due q.0 q.1)
        (λ m.
        let j : k + 1 ≡ n = omega arith in
        let o : f ≡ length w = sym s ∙ ap (raw (w ++ x)) j ∙ ends in
        let c : get_or (classes_of (w ++ x)) k unknown ≡ class_of (name_class (w ++ x) begin f (run_end Spaces (w ++ x) f) due) =
        cut_class b.first there unknown ∙ ap class_of t in
        followed_last w x z begin f i l g due a (λ u. found_known (t ∙ u)) (subst (λ (t : Token). T (look_fits t a)) c (fits k j))
        (ap (λ (j : ℕ). opens_at (spaced w z) (run_end Spaces (spaced w z) j)) o ∙ opens)
        (ap (λ (j : ℕ). colons_at (spaced w z) (run_end Spaces (spaced w z) j)) o ∙ colons))
        (lt_or_ge (k + 1) n)

    there_too : Stands (spaced w z) (raw (w ++ x) k) (due_at (w ++ x) k) found.kind begin found.end
    unfolding found begin due
    there_too =
        let l = raw_fits (k + 1) (omega arith) in
        let same : lexeme (spaced w z) begin due ≡ lexeme (w ++ x) begin due =
        lexeme_same w x z begin begins_in due follows (found_known, omega (arith, ends_there)) in
        record {
          begins = sym (run_same w x z Spaces (raw (w ++ x) k) (omega (arith, begins_in)) (λ e. absurd (omega (arith, begins_in))));
          inside = omega (arith, begins_in, length-append w (32 ∷ z));
          kind_is = ap (λ (f : Lexeme). f.kind) (sym same);
          behind_is = ap (λ (f : Lexeme). f.end) (sym same);
        }

  both : (k : ℕ) → k ≤ n → Both (w ++ x) (spaced w z) k
  both zero h = both_start (w ++ x) (spaced w z)
  both (suc k) h =
      let b = both k (omega arith) in
      let l : k < n = omega arith in
      subst (Both (w ++ x) (spaced w z)) (add-one k) (both_next b (there k l b) (there_too k l b) (found_known k l b))

-- ---- the text

drop_map : {A B : Type 0} (f : A → B) (n : ℕ) (l : List A) → drop n (map f l) ≡ map f (drop n l)
drop_map f zero l = refl
drop_map f (suc n) [] = refl
drop_map f (suc n) (x ∷ l) = drop_map f n l

alive : (s : State) → is_stuck s ≡ false → (m : Mode) × (around : List Bracket) × (s ≡ reading m around)
unfolding is_stuck
alive stuck e = absurd (true≢false e)
alive (reading m around) e = (m, around, refl)

-- no token with which a text of the grammar goes on is unknown
viable_known : (ts : List Token) (n k : ℕ) → n ≤ length ts → Viable (take n ts) → k < n → get_or ts k unknown ≡ unknown → ⊥
unfolding is_stuck run next rows pick done
viable_known ts n k h v l e =
    let t : take (suc k) ts ≡ take k ts ++ (unknown ∷ []) = take-suc ts k unknown (omega arith) ∙ ap (λ t. take k ts ++ (t ∷ [])) e in
    let r : run start (take (suc k) ts) ≡ next (run start (take k ts)) unknown = ap (run start) t ∙ run_append start (take k ts) (unknown ∷ []) in
    true≢false (sym (ap is_stuck r ∙ refused (run start (take k ts))) ∙ viable_not_stuck (take (suc k) ts) (viable_before (suc k) n ts l v))
  where
    refused : (s : State) → is_stuck (next s unknown) ≡ true
    refused stuck = refl
    refused (reading m around) = refl

-- a text of the grammar with the first n tokens of this one, and the same bytes up to their end
pub record Literally (text : List ℕ) (n : ℕ) : Type 0 where
  pub whole : List ℕ
  pub sentence : Sentence (classes_of whole)
  pub bytes : take (raw text n) whole ≡ take (raw text n) text
  pub tokens_same : take n (classes_of whole) ≡ take n (classes_of text)

module _ (w x : List ℕ) (n : ℕ) (count : n ≤ length (tokens (w ++ x))) (goes_on : Viable (take n (classes_of (w ++ x))))
    (ends : raw (w ++ x) n ≡ length w) where
  many_classes : n ≤ length (classes_of (w ++ x))
  many_classes = omega (arith, classes_length (w ++ x))

  -- the last token leads to a mode whose end begins with what the token wants
  last_fits :
      (m : Mode) (around : List Bracket) → run start (take n (classes_of (w ++ x))) ≡ reading m around
      → (k : ℕ) → k + 1 ≡ n → T (look_fits (get_or (classes_of (w ++ x)) k unknown) (look m))
  unfolding run
  last_fits m around ran k e =
      let ts = classes_of (w ++ x) in
      let t = get_or ts k unknown in
      let c : take n ts ≡ take k ts ++ (t ∷ []) =
      ap (λ (j : ℕ). take j ts) (sym e ∙ add-one k) ∙ take-suc ts k unknown (omega (arith, many_classes)) in
      let r : next (run start (take k ts)) t ≡ reading m around = sym (ap (run start) c ∙ run_append start (take k ts) (t ∷ [])) ∙ ran in
      subst (Holds (λ m. look_fits t (look m))) r (next_look (run start (take k ts)) t)

  ended : (m : Mode) (around : List Bracket) → run start (take n (classes_of (w ++ x))) ≡ reading m around → Literally (w ++ x) n
  unfolding classes_of
  ended m around ran =
      let ts = take n (classes_of (w ++ x)) in
      let due : Bool = due_at (w ++ x) n in
      let (v, s) = completion_bytes due m around (subst (Holds (due_fits due)) ran (run_due false start ts tt)) in
      let u : List ℕ = spaced w v in
      let l : length u ≡ length w + length (32 ∷ v) = length-append w (32 ∷ v) in
      let seam : Meets u (32 ∷ v) (length w) (length w) 0 = record { apart = omega arith; alike = drop-append_seam w (32 ∷ v) } in
      let ahead = completion_ahead m around s in
      let b = both w x v n (look m) count ends (λ k. viable_known (classes_of (w ++ x)) n k many_classes goes_on) (last_fits m around ran)
      (opens_meets (meets_run seam Spaces) ∙ ahead.0) (colons_meets (meets_run seam Spaces) ∙ ahead.1) n (omega arith) in
      let rest : drop n (classes_of u) ≡ finish m ++ shut around =
      drop_map class n (tokens u)
      ∙ ap (map class) b.second.rest
      ∙ rw ends (tokens_meet l (length u) seam due ∙ spelled_reads s (length u) (omega arith)) in
      let whole : classes_of u ≡ ts ++ (finish m ++ shut around) = sym (take-append-drop n (classes_of u)) ∙ ap₂ ◌++◌ b.alike rest in
      let accepted : T (accepts (ts ++ (finish m ++ shut around))) =
      subst (λ s. T (accepting s)) (sym (run_append start ts (finish m ++ shut around) ∙ ap (λ s. run s (finish m ++ shut around)) ran))
      (completed m around) in
      record {
        whole = u;
        sentence = accepted_sentence (classes_of u) (subst (λ l. T (accepts l)) (sym whole) accepted);
        bytes = rw ends (take-append_seam w (32 ∷ v) ∙ sym (take-append_seam w x));
        tokens_same = b.alike;
      }

  literal_at : Literally (w ++ x) n
  literal_at =
      let (m, around, ran) = alive (run start (take n (classes_of (w ++ x)))) (viable_not_stuck (take n (classes_of (w ++ x))) goes_on) in
      ended m around ran

-- the end of known tokens is within the text
raw_within : (text : List ℕ) (n : ℕ) → n ≤ length (tokens text) → Viable (take n (classes_of text)) → raw text n ≤ length text
raw_within text zero h v = let c = cut_start text in omega (arith, c.ends)
raw_within text (suc k) h v =
    let m = met text k (omega arith) in
    let known : m.kind ≡ code unknown → ⊥ =
    λ e. viable_known (classes_of text) (suc k) k (omega (arith, classes_length text)) v (omega arith)
    (cut_class m.cut m.stands unknown ∙ ap class_of e ∙ class_of_code unknown) in
    let c = cut_next m.cut m.stands known in
    omega (arith, c.within, cut_raw m.cut m.stands, ap (raw text) (add-one k))

-- tokens with which a text of the grammar goes on begin a text of the grammar, byte by byte
pub literal : (text : List ℕ) (n : ℕ) → n ≤ length (tokens text) → Viable (take n (classes_of text)) → Literally text n
literal text n h v =
    let e : ℕ = raw text n in
    let p : take e text ++ drop e text ≡ text = take-append-drop e text in
    let l : length (take e text) ≡ e = length-take-le e text (raw_within text n h v) in
    subst (λ t. Literally t n) p
    (literal_at (take e text) (drop e text) n
    (subst (λ t. n ≤ length (tokens t)) (sym p) h)
    (subst (λ t. Viable (take n (classes_of t))) (sym p) v)
    (ap (λ t. raw t n) p ∙ sym l))

-- and only those do
pub literal_back : (text : List ℕ) (n : ℕ) → Literally text n → Viable (take n (classes_of text))
literal_back text n l =
    let ts = classes_of l.whole in
    (drop n ts, subst Sentence (sym (take-append-drop n ts) ∙ ap (λ (front : List Token). front ++ drop n ts) l.tokens_same) l.sentence)
