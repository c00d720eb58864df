-- No two accepted spellings that differ in spaces or needless brackets alone give different rows (document 02, W-202).
-- Two constructs are spelled alike (`Alike`) if they are the same, part by part, and the tokens that are numbers or words in them have the
-- same bytes, where round brackets on either side may be left out. A text stands for the construct of its derivation, and brackets are
-- needless where the text without them has a derivation that groups alike: so of two texts of the grammar that differ in spaces and
-- needless brackets alone the constructs are alike. Where a construct stands in its text doesn't matter, so spaces don't: of two texts with
-- the same tokens (`Respaced`) it is proved that they are spelled alike (`spaces_alike`). Constructs that are alike have the same sort, the
-- same values in order and the same tree, hence the same rows and literals (`spelled_alike`), and the reader gives the same (`read_alike`).
-- The proof goes from bytes to words, by the shapes of constructs, and then by induction over what is alike.
-- Assumes nothing.
use Prim.Native.Nat.{ℕ, suc}
use mathlib.Core.Path.{◌≡◌, refl, sym, subst, ap, ◌∙◌}
use mathlib.Core.Bool.{Bool, true, false, ◌&&◌, ◌||◌, not, cond, or-true, true≢false}
use mathlib.Core.List.{List, [], ◌∷◌, map}
use lib.ListN.{length, get_or, get_or-map}
use lib.Dec.{eqb}
use lib.Ieee.{Float}
use borrow.Author.Tests.{eqb-false, not-true}
use Rattle.meaning.specs.declared.Op.TheVariants.{Predicate}
use Rattle.meaning.specs.Tree.{Tree, none, node}
use Rattle.meaning.specs.Turning.{weight, written}
use Rattle.meaning.specs.Answers.{answer}
use Rattle.meaning.specs.declared.Answer.{Answer}
use Rattle.decimal.specs.Decimal.{ascii}
use Rattle.names.specs.Names as N
use Rattle.text.specs.declared.Sort.TheVariants.{Unheld}
use Rattle.text.specs.Grammar.{Token, unknown, Sentence}
use Rattle.text.specs.Tokens.{code, between, Placed, placed, tokens, classes_of}
use Rattle.text.specs.Tokens as X
use Rattle.text.specs.Syntax.{Kind, word, number, string, variable, group, call, arguments, negative, binary, union, filter, onward, relative, absolute, chain, step, self, parent, axis, attribute, named, typed, instruction, target, predicates, is_kind, Syntax, blank, part, stand_for}
use Rattle.text.specs.Syntax as S
use Rattle.text.specs.Growing.{syntax_of}
use Rattle.text.specs.Growing as G
use Rattle.text.specs.Machine.{accepts}
use Rattle.text.specs.Machine as M
use Rattle.text.specs.Limited.{Source, source, place, word_of, is_star, axis_number, number_at, value_at, arity, call_sort, sort}
use Rattle.text.specs.Reading.{values, literals_of, held, tree_of, descended, axis_of, name_number, test_of, type_number, as_predicate, inside, HasForm, rows_of, literals, literal_count, ReadsPath}
use Rattle.text.proofs.Lexemes.{both_l, both_r}
use Rattle.text.proofs.Forms.{form_of_lem, form_unique, form_accepted}
use Rattle.text.proofs.Words.{is_number_class, is_word_class, spelling, word_in, number_spelled, word_spelled, star_spelled}
use Rattle.text.proofs.Shapes.{Standing, expression, of_call, of_axis, elsewhere, can_stand, first_of, last_of, is_word, is_spelled, class_for, Formed, sentence_formed}
use Rattle.text.proofs.Limits.{accepts_limited, accepted_answer}

-- ---- spelled alike

-- Two constructs are the same but for the numbers of their tokens, which R relates for what stands somewhere and is of a kind; where an
-- expression stands, brackets may stand on one side and not on the other.
pub data AlikeBy (R : Standing → Kind → ℕ → ℕ → Type 0) : Standing → Syntax → Syntax → Type 0 where
  nothing : {p : Standing} → AlikeBy R p blank blank
  left_bracketed : {t : Token} {i : ℕ} {c e : Syntax} → AlikeBy R expression c e → AlikeBy R expression (part group t i blank blank c) e
  right_bracketed : {t : Token} {i : ℕ} {e c : Syntax} → AlikeBy R expression e c → AlikeBy R expression e (part group t i blank blank c)
  parts : {p : Standing} {k : Kind} {t : Token} {i i' : ℕ} {a b c a' b' c' : Syntax}
      → R p k i i' → AlikeBy R (first_of k) a a' → AlikeBy R elsewhere b b' → AlikeBy R (last_of k) c c'
      → AlikeBy R p (part k t i a b c) (part k t i' a' b' c')

-- numbers, functions, axes, names and node types have the same bytes
abbrev pub SameBytes : Source → Source → Standing → Kind → ℕ → ℕ → Type 0
SameBytes s s' p k i i' = is_spelled k ≡ true → spelling s i ≡ spelling s' i'

-- the constructs e and e' of two texts are spelled alike
abbrev pub Alike : Source → Source → Syntax → Syntax → Type 0
Alike s s' e e' = AlikeBy (SameBytes s s') expression e e'

-- ---- bytes and words

-- what stands there can, its words are the same or both are `*`, and so are its numbers
record SameWords (s s' : Source) (p : Standing) (k : Kind) (i i' : ℕ) : Type 0 where
  stands : can_stand p k ≡ true
  words : is_word k ≡ true → word_of s i ≡ word_of s' i'
  stars : is_kind k named ≡ true → is_star s.text (place s i) ≡ is_star s'.text (place s' i')
  numbers : is_kind k number ≡ true → number_at s.text (place s i) ≡ number_at s'.text (place s' i')

-- the classes of numbers and of words, and that both are known
abbrev number_right : Kind → Bool
number_right k = cond (is_kind k number) (is_number_class (code (class_for k))) true

abbrev word_right : Kind → Bool
word_right k = cond (is_word k) (is_word_class (code (class_for k))) true

abbrev known : Kind → Bool
known k = cond (is_spelled k) (not (eqb (code (class_for k)) (code unknown))) true

classes_right : (k : Kind) → (number_right k && (word_right k && known k)) ≡ true
unfolding code
classes_right word = refl
classes_right number = refl
classes_right string = refl
classes_right variable = refl
classes_right group = refl
classes_right call = refl
classes_right arguments = refl
classes_right negative = refl
classes_right binary = refl
classes_right union = refl
classes_right filter = refl
classes_right onward = refl
classes_right relative = refl
classes_right absolute = refl
classes_right chain = refl
classes_right step = refl
classes_right self = refl
classes_right parent = refl
classes_right axis = refl
classes_right attribute = refl
classes_right named = refl
classes_right typed = refl
classes_right instruction = refl
classes_right target = refl
classes_right predicates = refl

-- a test of one kind holds of that kind
of_true : {b c : Bool} → b ≡ true → cond b c true ≡ true → c ≡ true
of_true {b = true} e h = h
of_true {b = false} e h = absurd (true≢false (sym e))

number_class : (k : Kind) → is_kind k number ≡ true → is_number_class (code (class_for k)) ≡ true
number_class k e = of_true e (both_l (number_right k) (word_right k && known k) (classes_right k))

word_class : (k : Kind) → is_word k ≡ true → is_word_class (code (class_for k)) ≡ true
word_class k e = of_true e (both_l (word_right k) (known k) (both_r (number_right k) (word_right k && known k) (classes_right k)))

known_class : (k : Kind) → is_spelled k ≡ true → class_for k ≡ unknown → ⊥
known_class k e u =
    let h : not (eqb (code (class_for k)) (code unknown)) ≡ true =
    of_true e (both_r (word_right k) (known k) (both_r (number_right k) (word_right k && known k) (classes_right k))) in
    eqb-false (code (class_for k)) (code unknown) (not-true (eqb (code (class_for k)) (code unknown)) h) (ap code u)

-- ---- what is alike stands for the same

-- what holds only of one kind
of_kind : {A : Type 0} (b : Bool) (x y z : A) → (b ≡ true → x ≡ y) → cond b x z ≡ cond b y z
of_kind true x y z h = h refl
of_kind false x y z h = refl

-- nothing stands before an expression
abbrev front : Standing → Tree → Tree
front expression before = none
front of_call before = none
front of_axis before = none
front elsewhere before = before

module _ (s s' : Source) (same_names : s.names ≡ s'.names) where
  abbrev Worded : Standing → Syntax → Syntax → Type 0
  Worded p e e' = AlikeBy (SameWords s s') p e e'

  -- calls that are alike have as many arguments
  arity_alike : {p : Standing} {e e' : Syntax} → p ≡ of_call → Worded p e e' → arity e ≡ arity e'
  unfolding arity
  arity_alike h nothing = refl
  arity_alike h (left_bracketed x) = cc
  arity_alike h (right_bracketed x) = cc
  arity_alike h (parts {k = k} w x y z) =
      let is : is_kind k arguments ≡ true = rw h at w.stands in
      ap suc (arity_alike (rw is) x)

  call_alike : (i i' : ℕ) (c c' : Syntax) → word_of s i ≡ word_of s' i' → arity c ≡ arity c' → call_sort s i c ≡ call_sort s' i' c'
  unfolding call_sort
  call_alike i i' c c' w n = rw (w, n)

  sort_alike : {p : Standing} {e e' : Syntax} → Worded p e e' → sort s e ≡ sort s' e'
  unfolding sort
  sort_alike nothing = refl
  sort_alike (left_bracketed h) = sort_alike h
  sort_alike (right_bracketed h) = sort_alike h
  sort_alike (parts {k = k} {i = i} {i' = i'} {c = c} {c' = c'} w x y z) =
      rw (
        sort_alike z,
        of_kind (is_kind k call) (call_sort s i c) (call_sort s' i' c') Unheld
            (λ e. call_alike i i' c c' (w.words (rw e)) (arity_alike (rw e) z)),
      )

  value_alike :
      (i i' : ℕ) → number_at s.text (place s i) ≡ number_at s'.text (place s' i')
      → value_at s.text (place s i) ≡ value_at s'.text (place s' i')
  unfolding value_at
  value_alike i i' w = rw w

  values_alike : {p : Standing} {e e' : Syntax} → Worded p e e' → values s e ≡ values s' e'
  unfolding values
  values_alike nothing = refl
  values_alike (left_bracketed h) = values_alike h
  values_alike (right_bracketed h) = values_alike h
  values_alike (parts {k = k} {i = i} {i' = i'} w x y z) =
      rw (values_alike x, values_alike y, values_alike z)
      (of_kind (is_kind k number) _ _ _ (λ e. ap (λ (v : Float). v ∷ []) (value_alike i i' (w.numbers e))))

  -- a step's axis and its test
  axis_alike : {p : Standing} {e e' : Syntax} → p ≡ of_axis → Worded p e e' → axis_of s e ≡ axis_of s' e'
  unfolding axis_of
  axis_alike h nothing = refl
  axis_alike h (left_bracketed x) = cc
  axis_alike h (right_bracketed x) = cc
  axis_alike h (parts {k = k} {i = i} {i' = i'} w x y z) = by (is_kind k axis) (is_kind k attribute) refl (rw h at w.stands)
    where
      by :
          (b d : Bool) → is_kind k axis ≡ b → (b || d) ≡ true
          → cond d 11 (axis_number (word_of s i)) ≡ cond d 11 (axis_number (word_of s' i'))
      by b true q h = refl
      by true false q h = ap axis_number (w.words (rw (q, or-true (is_kind k call))))
      by false false q h = cc

  name_alike : (p : Standing) (k : Kind) (i i' : ℕ) → SameWords s s' p k i i' → is_kind k named ≡ true → name_number s i ≡ name_number s' i'
  unfolding name_number
  name_alike p k i i' w q =
      let same_word : word_of s i ≡ word_of s' i' = w.words (rw (q, or-true (is_kind k call || is_kind k axis))) in
      rw (same_names, same_word, w.stars q)

  type_alike :
      (p : Standing) (k : Kind) (i i' : ℕ) → SameWords s s' p k i i' → is_kind k typed ≡ true
      → type_number (word_of s i) ≡ type_number (word_of s' i')
  type_alike p k i i' w q = ap type_number (w.words (rw (q, or-true (is_kind k call || is_kind k axis || is_kind k named))))

  test_alike : {p : Standing} {e e' : Syntax} → p ≡ elsewhere → Worded p e e' → test_of s e ≡ test_of s' e'
  unfolding test_of
  test_alike h nothing = refl
  test_alike h (left_bracketed x) = cc
  test_alike h (right_bracketed x) = cc
  test_alike {p} h (parts {k = k} {i = i} {i' = i'} w x y z) =
      rw (of_kind (is_kind k typed) (type_number (word_of s i)) (type_number (word_of s' i')) 4 (type_alike p k i i' w))
      (of_kind (is_kind k named) (name_number s i) (name_number s' i') _ (name_alike p k i i' w))

  -- the trees, with the same literals, behind the same steps or predicates
  held_alike :
      {p : Standing} {e e' : Syntax} (l : List Float) (before : Tree) → Worded p e e'
      → held s l (front p before) e ≡ held s' l (front p before) e'
  unfolding held
  held_alike l before nothing = refl
  held_alike l before (left_bracketed x) = held_alike l before x
  held_alike l before (right_bracketed x) = held_alike l before x
  held_alike l before (parts {k = word} w x y z) = refl
  held_alike l before (parts {k = number} {i = i} {i' = i'} w x y z) = rw (value_alike i i' (w.numbers refl))
  held_alike l before (parts {k = string} w x y z) = refl
  held_alike l before (parts {k = variable} w x y z) = refl
  held_alike l before (parts {k = group} w x y z) = held_alike l none z
  held_alike l before (parts {k = call} {i = i} {i' = i'} w x y z) =
      rw (w.words refl, sort_alike z, held_alike l none z)
  held_alike l before (parts {k = arguments} w x y z) = held_alike l none z
  held_alike l before (parts {k = negative} w x y z) = rw (held_alike l none z)
  held_alike l before (parts {k = binary} w x y z) = rw (sort_alike x, sort_alike z, held_alike l none x, held_alike l none z)
  held_alike l before (parts {k = union} w x y z) = refl
  held_alike l before (parts {k = filter} w x y z) = refl
  held_alike l before (parts {k = onward} w x y z) = refl
  held_alike l before (parts {k = relative} w x y z) = rw (held_alike l none z)
  held_alike l before (parts {k = absolute} {t = t} w x y z) = rw (held_alike l (descended t none) z)
  held_alike {p} l before (parts {k = chain} {t = t} {a' = a'} w x y z) =
      rw (held_alike l (front p before) x, held_alike l (descended t (held s' l (front p before) a')) z)
  held_alike {p} l before (parts {k = step} w x y z) = rw (held_alike l none z, axis_alike refl x, test_alike refl y)
  held_alike l before (parts {k = self} w x y z) = refl
  held_alike l before (parts {k = parent} w x y z) = refl
  held_alike l before (parts {k = axis} w x y z) = refl
  held_alike l before (parts {k = attribute} w x y z) = refl
  held_alike l before (parts {k = named} w x y z) = refl
  held_alike l before (parts {k = typed} w x y z) = refl
  held_alike l before (parts {k = instruction} w x y z) = refl
  held_alike l before (parts {k = target} w x y z) = refl
  held_alike {p} l before (parts {k = predicates} {a' = a'} w x y z) =
      let inner : Tree = as_predicate (sort s' a') (held s' l none a') in
      rw (sort_alike x, held_alike l none x, held_alike l (node Predicate (front p before) inner 0 0) z)

  -- the literals and the tree of a text
  literals_alike : {e e' : Syntax} → Worded expression e e' → literals_of s e ≡ literals_of s' e'
  unfolding literals_of
  literals_alike h = rw (values_alike h)

  tree_alike : {e e' : Syntax} → Worded expression e e' → tree_of s e ≡ tree_of s' e'
  unfolding tree_of
  tree_alike {e' = e'} h = rw (literals_alike h) (held_alike (literals_of s' e') none h)

-- ---- texts

module _ (text text' list : List ℕ) where
  -- of constructs of two texts that are alike the words and numbers are the same
  bytes_words :
      (p : Standing) (k : Kind) (i i' : ℕ) → can_stand p k ≡ true → (is_spelled k ≡ true → get_or (classes_of text) i unknown ≡ class_for k)
      → (is_spelled k ≡ true → get_or (classes_of text') i' unknown ≡ class_for k) → SameBytes (source text list) (source text' list) p k i i'
      → SameWords (source text list) (source text' list) p k i i'
  unfolding source
  bytes_words p k i i' can here here' same = record {
    stands = can;
    words = λ e.
        let w : is_spelled k ≡ true = rw (e, or-true (is_kind k number)) in
        word_spelled text list i (class_for k) (here w) (known_class k w) (word_class k e)
        ∙ (ap word_in (same w) ∙ sym (word_spelled text' list i' (class_for k) (here' w) (known_class k w) (word_class k e)));
    stars = λ e.
        let w : is_spelled k ≡ true = rw (e, or-true (is_kind k call || is_kind k axis), or-true (is_kind k number)) in
        star_spelled text list i (class_for k) (here w) (known_class k w)
        ∙ (ap (λ (b : List ℕ). is_star b 0) (same w) ∙ sym (star_spelled text' list i' (class_for k) (here' w) (known_class k w)));
    numbers = λ e.
        let w : is_spelled k ≡ true = rw e in
        number_spelled text list i (class_for k) (here w) (known_class k w) (number_class k e)
        ∙ (same w ∙ sym (number_spelled text' list i' (class_for k) (here' w) (known_class k w) (number_class k e)));
  }

  worded :
      {p : Standing} {e e' : Syntax} → Formed (classes_of text) p e → Formed (classes_of text') p e'
      → AlikeBy (SameBytes (source text list) (source text' list)) p e e'
      → AlikeBy (SameWords (source text list) (source text' list)) p e e'
  worded f g nothing = nothing
  worded f g (left_bracketed x) = left_bracketed (worded f.4 g x)
  worded f g (right_bracketed x) = right_bracketed (worded f g.4 x)
  worded {p} f g (parts {k = k} {i = i} {i' = i'} w x y z) =
      parts (bytes_words p k i i' f.0 f.1 g.1 w) (worded f.2 g.2 x) (worded f.3 g.3 y) (worded f.4 g.4 z)

-- the constructs of two texts of the grammar are alike
pub record SpelledAlike (text text' list : List ℕ) : Type 0 where
  pub construct : Syntax
  pub construct' : Syntax
  pub form : HasForm text (inside construct)
  pub form' : HasForm text' (inside construct')
  pub alike : Alike (source text list) (source text' list) construct construct'

module _ (text text' list : List ℕ) (h : SpelledAlike text text' list) where
  same_list : (source text list).names ≡ (source text' list).names
  unfolding source
  same_list = refl

  same_words : AlikeBy (SameWords (source text list) (source text' list)) expression h.construct h.construct'
  unfolding HasForm
  same_words =
      worded text text' list (sentence_formed (classes_of text) h.form.0 h.construct h.form.1)
      (sentence_formed (classes_of text') h.form'.0 h.construct' h.form'.1) h.alike

  -- they give the same rows and the same literals
  pub spelled_alike :
      let s : Source = source text list in
      let s' : Source = source text' list in
      (rows_of (inside h.construct) s ≡ rows_of (inside h.construct') s')
      × (literals (inside h.construct) s ≡ literals (inside h.construct') s')
  unfolding rows_of literals
  spelled_alike =
      let s : Source = source text list in
      let s' : Source = source text' list in
      (ap (written 0) (tree_alike s s' same_list same_words), literals_alike s s' same_list same_words)

  -- so where the reader accepts both, it gives the same answer and writes the same
  pub read_alike :
      (rows : List ℕ) (out : List Float) {r r' : Answer} {count count' : ℕ} {rows₁ rows₂ : List ℕ} {out₁ out₂ : List Float}
      → ReadsPath text list rows out r count rows₁ out₁ → ReadsPath text' list rows out r' count' rows₂ out₂
      → r.number ≡ 0 → r'.number ≡ 0
      → (r ≡ r') × (count ≡ count') × (rows₁ ≡ rows₂) × (out₁ ≡ out₂)
  unfolding literal_count
  read_alike rows out {r = r₁} {r' = r₂} (f, x, r, n, rs, os) (f', x', r', n', rs', os') z z' =
      let s : Source = source text list in
      let s' : Source = source text' list in
      let same-form : f ≡ inside h.construct = form_unique text f (inside h.construct) x h.form in
      let same-form' : f' ≡ inside h.construct' = form_unique text' f' (inside h.construct') x' h.form' in
      let told : r₁ ≡ answer 0 (weight (tree_of s h.construct)) =
      r ∙ accepted_answer text list (length rows) (length out) f h.construct x h.form (rw r at z) in
      let told' : r₂ ≡ answer 0 (weight (tree_of s' h.construct')) =
      r' ∙ accepted_answer text' list (length rows) (length out) f' h.construct' x' h.form' (rw r' at z') in
      let same-tree : tree_of s h.construct ≡ tree_of s' h.construct' = tree_alike s s' same_list same_words in
      let same_rows : rows_of f s ≡ rows_of f' s' = rw (same-form, same-form') spelled_alike.0 in
      let same-literals : literals f s ≡ literals f' s' = rw (same-form, same-form') spelled_alike.1 in
      let same_answer : r₁ ≡ r₂ = cc in
      let same_count : literal_count r₁ f s ≡ literal_count r₂ f' s' = rw (same_answer, same-literals) in
      (same_answer, cc, cc, cc)

-- ---- spaces

-- the tokens of a text, each by its class and its bytes
pub record SpelledToken : Type 0 where
  pub class : Token
  pub bytes : List ℕ

abbrev spelled : List ℕ → Placed → SpelledToken
spelled text t = record { class = X.class t; bytes = between text (X.place t) (X.end t) }

unfoldable pub spelled_tokens : List ℕ → List SpelledToken
spelled_tokens text = map (spelled text) (tokens text)

-- two texts differ in spaces alone: they have the same tokens
abbrev pub Respaced : List ℕ → List ℕ → Type 0
Respaced text text' = spelled_tokens text ≡ spelled_tokens text'

spelled_classes : (text : List ℕ) (ts : List Placed) → map X.class ts ≡ map (λ (x : SpelledToken). x.class) (map (spelled text) ts)
spelled_classes text [] = refl
spelled_classes text (t ∷ ts) = ap (λ (l : List Token). X.class t ∷ l) (spelled_classes text ts)

spelled_bytes :
    (text list : List ℕ) (i : ℕ) → spelling (source text list) i ≡ (get_or (spelled_tokens text) i (record { class = unknown; bytes = [] })).bytes
unfolding spelling source spelled_tokens
spelled_bytes text list i = ap (λ (x : SpelledToken). x.bytes) (sym (get_or-map (spelled text) (tokens text) i (placed unknown 0 0)))

module _ (text text' list : List ℕ) (h : Respaced text text') where
  same_classes : classes_of text ≡ classes_of text'
  unfolding classes_of spelled_tokens
  same_classes = spelled_classes text (tokens text) ∙ (ap (map (λ (x : SpelledToken). x.class)) h ∙ sym (spelled_classes text' (tokens text')))

  same_bytes : (i : ℕ) → spelling (source text list) i ≡ spelling (source text' list) i
  same_bytes i =
      spelled_bytes text list i
      ∙ (ap (λ (l : List SpelledToken). (get_or l i (record { class = unknown; bytes = [] })).bytes) h ∙ sym (spelled_bytes text' list i))

  itself : (p : Standing) (e : Syntax) → AlikeBy (SameBytes (source text list) (source text' list)) p e e
  itself p blank = nothing
  itself p (part k t i a b c) = parts (λ _. same_bytes i) (itself (first_of k) a) (itself elsewhere b) (itself (last_of k) c)

  -- such texts have the same construct, so they are spelled alike
  pub spaces_alike : (e : Syntax) → HasForm text (inside e) → SpelledAlike text text' list
  unfolding HasForm
  spaces_alike e f = record {
    construct = e;
    construct' = e;
    form = f;
    form' = subst (λ (ts : List Token). (d : Sentence ts) × (stand_for d 0 ≡ e ∷ [])) same_classes f;
    alike = itself expression e;
  }

  -- and where the reader accepts both, it gives the same
  pub spaces_read :
      (rows : List ℕ) (out : List Float) {r r' : Answer} {count count' : ℕ} {rows₁ rows₂ : List ℕ} {out₁ out₂ : List Float}
      → ReadsPath text list rows out r count rows₁ out₁ → ReadsPath text' list rows out r' count' rows₂ out₂
      → r.number ≡ 0 → r'.number ≡ 0
      → (r ≡ r') × (count ≡ count') × (rows₁ ≡ rows₂) × (out₁ ≡ out₂)
  unfolding HasForm
  spaces_read rows out (f, x, r, n, rs, os) reads z z' =
      let (e, fits) = (accepts_limited text list (length rows) (length out) f x).0 (rw r at z) in
      read_alike text text' list (spaces_alike e (fits.limited.sentence, fits.limited.stands)) rows out (f, x, r, n, rs, os) reads z z'

-- ---- two pairs of texts, computed

abbrev names : List ℕ
names = ascii "a\nb\n"

-- the construct of a text that the machine accepts
construct_of : (text : List ℕ) → accepts (classes_of text) ≡ true → HasForm text (inside (syntax_of (classes_of text)))
construct_of text e = subst (HasForm text) (form_accepted text e) (form_of_lem text)

-- what is not spelled has no bytes of its own
unspelled : {A : Type 0} → false ≡ true → A
unspelled e = absurd (true≢false (sym e))

-- spaces alone; spaces and needless brackets
pairs_alike :
    SpelledAlike (ascii " / a ") (ascii "/a") names
    × SpelledAlike (ascii "a[ ( 1 ) + 2 ]") (ascii "a[1+2]") names
unfolding N.all_name_bytes N.good_name N.same N.position
    X.code X.many X.run_end X.class_among X.operator_names X.operator_name X.node_types X.node_type X.axis_names X.axis_name X.pairs X.pair_class
    X.marks X.mark_class X.name_end X.star_at X.opens_at X.axis_at X.name_class X.named X.number_end X.quoted X.punctuation X.number_at
    X.quote_at X.letter_at X.variable_at X.lexeme X.operator_due X.tokens_from X.tokens X.classes_of X.place_in M.number M.rows M.has M.pick
    M.inner M.done M.next M.run M.accepting M.is_stuck M.readable S.token_of S.begin G.tightness G.strength G.settle G.top_strength G.with_axis
    G.with_test G.with_point G.with_operand G.with_string G.with_opening G.fill G.for_arguments G.for_filter G.is_blank G.close_round
    G.with_closing G.with_bracket G.close_square G.with_square G.close_argument G.with_comma G.with_call G.goes_on G.with_slash G.join
    G.with_operator G.with_minus G.grow S.read_all G.settled G.ended G.syntax_of spelling source spelled_tokens
pairs_alike = (
  spaces_alike (ascii " / a ") (ascii "/a") names refl _ (construct_of (ascii " / a ") refl),
  record {
    construct = syntax_of (classes_of (ascii "a[ ( 1 ) + 2 ]"));
    construct' = syntax_of (classes_of (ascii "a[1+2]"));
    form = construct_of (ascii "a[ ( 1 ) + 2 ]") refl;
    form' = construct_of (ascii "a[1+2]") refl;
    alike =
        parts unspelled nothing nothing
        (parts unspelled nothing (parts (λ _. refl) nothing nothing nothing)
        (parts unspelled
        (parts unspelled (left_bracketed (parts (λ _. refl) nothing nothing nothing)) nothing (parts (λ _. refl) nothing nothing nothing))
        nothing nothing));
  },
)
