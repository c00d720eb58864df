-- Numbers given back by the reader of path text, both ways (document 02, W-202): an answer is given exactly when its sentence of the
-- request says so (`numbers_exactly`). In particular the reader accepts exactly the limited grammar's texts that fit document 01's limits,
-- and the rooms (`accepts_limited`), where those limits are what document 01's path checker asks for (`limits_checked`); and what it answers
-- and writes is determined by its inputs (`reads_once`).
-- First the sentences: each constructor is one, with its condition, that those before it do not apply, and its place.
-- Assumes nothing.
use Prim.Native.Nat.{ℕ, ◌+◌, ◌*◌, ◌<◌, ◌≤◌}
use mathlib.Core.Path.{◌≡◌, refl, sym, subst, ap, ◌∙◌}
use mathlib.Core.Logic.{◌⊎◌, inl, inr, ◌↔◌}
use mathlib.Core.Bool.{Bool, true, false, ◌&&◌, ◌||◌, cond}
use mathlib.Core.List.{List, [], ◌∷◌}
use lib.ListN.{length}
use lib.Dec.{eqb, ltb, leb}
use lib.Ieee.{Float}
use native.Mathlib.Omega.{arith}
use borrow.Author.Tests.{ltb-true, ltb-false, leb-true, leb-false, eqb-true, eqb-false, lt-ltb, le-ltb}
use Rattle.meaning.specs.Rows.{most_path_rows, most_literals}
use Rattle.meaning.specs.Rows as R
use Rattle.meaning.specs.Tree.{Tree, depth, most_depth}
use Rattle.meaning.specs.Turning.{weight, written}
use Rattle.meaning.specs.Answers.{answer, check, path_answer}
use Rattle.meaning.specs.declared.Answer.{Answer}
use Rattle.meaning.proofs.Lists.{IsLowest, lowest_found, found_lowest, found_some}
use Rattle.names.specs.Names.{bad_line, bad_names, bad_line_number, names_of}
use Rattle.text.specs.declared.Fault.{Fault}
use Rattle.text.specs.Grammar.{Sentence, Longest}
use Rattle.text.specs.Tokens.{classes_of}
use Rattle.text.specs.Syntax.{Syntax, stand_for}
use Rattle.text.specs.Growing.{syntax_of}
use Rattle.text.specs.Limited.{Source, source, text_faults, before, least}
use Rattle.text.specs.Reading.{tree_of, literals_of, Form, outside, inside, byte_of, HasForm, fault_check, limit_checks, room_checks, form_checks, reading, ReadsPath}
use Rattle.text.proofs.Tree.{the_tree}
use Rattle.text.proofs.Forms.{form_unique}
use Rattle.text.proofs.Faults.{fault_free}
use Rattle.text.proofs.Accepted.{accepted_path}
use Rattle.text.proofs.Surveying.Least.{InText, AllInText, least_in_text, faults_in_text}

-- ---- the lowest fault

-- f is one of the faults
abbrev pub OneOf : Fault → List Fault → Type 0
OneOf f [] = ⊥
OneOf f (g ∷ gs) = (f ≡ g) ⊎ OneOf f gs

-- f is not behind g: its byte is lower, or it is the same and its number is no higher
abbrev pub NotBehind : Fault → Fault → Type 0
NotBehind f g = (f.place < g.place) ⊎ ((f.place ≡ g.place) × (f.number ≤ g.number))

-- f is one of the faults, and none stands before it: lowest byte first, and at one byte the lowest number
pub record IsLeast (f : Fault) (fs : List Fault) : Type 0 where
  pub one_of : OneOf f fs
  pub first : (g : Fault) → OneOf g fs → NotBehind f g

-- what `before` says
ordered : (f g : Fault) → cond (before f g) (NotBehind f g) (NotBehind g f)
ordered f g = by (ltb f.place g.place) (eqb f.place g.place) (leb f.number g.number) refl refl refl
  where
    by :
        (a b c : Bool) → ltb f.place g.place ≡ a → eqb f.place g.place ≡ b → leb f.number g.number ≡ c
        → cond (a || (b && c)) (NotBehind f g) (NotBehind g f)
    by true b c x y z = inl (ltb-true f.place g.place x)
    by false true true x y z = inr (eqb-true f.place g.place y, leb-true f.number g.number z)
    by false true false x y z =
        let same : f.place ≡ g.place = eqb-true f.place g.place y in
        let less : g.number < f.number = leb-false f.number g.number z in
        inr (omega arith, omega arith)
    by false false c x y z =
        let less : g.place ≤ f.place = ltb-false f.place g.place x in
        let other : f.place ≡ g.place → ⊥ = eqb-false f.place g.place y in
        inl (omega arith)

behind_none : (f g h : Fault) → NotBehind f g → NotBehind g h → NotBehind f h
behind_none f g h (inl x) (inl y) = inl (omega arith)
behind_none f g h (inl x) (inr y) = inl (omega arith)
behind_none f g h (inr x) (inl y) = inl (omega arith)
behind_none f g h (inr x) (inr y) = inr (omega arith, omega arith)

-- the lowest of a list is one of it, and none stands before it
pub least_is : (f : Fault) (fs : List Fault) → IsLeast (least f fs) (f ∷ fs)
unfolding least
least_is f [] = record { one_of = inl refl; first = only }
  where
    only : (g : Fault) → OneOf g (f ∷ []) → NotBehind f g
    only g (inl e) = inr (rw e, omega (arith, ap (λ (x : Fault). x.number) e))
    only g (inr h) = absurd h
least_is f (g ∷ gs) = by (before f g) (ordered f g) (least_is (cond (before f g) f g) gs)
  where
    by :
        (b : Bool) → cond b (NotBehind f g) (NotBehind g f) → IsLeast (least (cond b f g) gs) (cond b f g ∷ gs)
        → IsLeast (least (cond b f g) gs) (f ∷ (g ∷ gs))
    by true h k = record { one_of = member k.one_of; first = each }
      where
        member : OneOf (least f gs) (f ∷ gs) → OneOf (least f gs) (f ∷ (g ∷ gs))
        member (inl e) = inl e
        member (inr m) = inr (inr m)

        each : (x : Fault) → OneOf x (f ∷ (g ∷ gs)) → NotBehind (least f gs) x
        each x (inl e) = k.first x (inl e)
        each x (inr (inl e)) = rw e (behind_none (least f gs) f g (k.first f (inl refl)) h)
        each x (inr (inr m)) = k.first x (inr m)
    by false h k = record { one_of = inr k.one_of; first = each }
      where
        each : (x : Fault) → OneOf x (f ∷ (g ∷ gs)) → NotBehind (least g gs) x
        each x (inl e) = rw e (behind_none (least g gs) g f (k.first g (inl refl)) h)
        each x (inr m) = k.first x m

-- and there is no other
same_fault : (f g : Fault) → NotBehind f g → NotBehind g f → answer f.number f.place ≡ answer g.number g.place
same_fault f g (inl x) (inl y) = absurd (omega arith)
same_fault f g (inl x) (inr y) = absurd (omega arith)
same_fault f g (inr x) (inl y) = absurd (omega arith)
same_fault f g (inr x) (inr y) =
    let n : f.number ≡ g.number = omega arith in
    let p : f.place ≡ g.place = omega arith in
    rw (n, p)

-- ---- the sentences of the request

-- a text of the limited grammar, beside names that are not refused: the construct that it stands for has no faults
pub record Limited (text list : List ℕ) (e : Syntax) : Type 0 where
  pub names : bad_names (names_of list) ≡ false
  pub sentence : Sentence (classes_of text)
  pub stands : stand_for sentence 0 ≡ e ∷ []
  pub faultless : text_faults (source text list) e ≡ []

-- and the rows, the literals and the depth of a construct fit document 01's limits
pub record InLimits (s : Source) (e : Syntax) : Type 0 where
  pub few_rows : weight (tree_of s e) ≤ most_path_rows
  pub few_literals : length (literals_of s e) ≤ most_literals
  pub shallow : depth (tree_of s e) ≤ most_depth

-- a text of the limited grammar that fits document 01's limits, and has the rooms that it needs
pub record Fits (text list : List ℕ) (room literalRoom : ℕ) (e : Syntax) : Type 0 where
  pub limited : Limited text list e
  pub in_limits : InLimits (source text list) e
  pub has_room : 5 * weight (tree_of (source text list) e) ≤ room
  pub has_literal_room : length (literals_of (source text list) e) ≤ literalRoom

module _ (text list : List ℕ) (room literalRoom : ℕ) where
  -- 22: the first malformed, repeated or 65,536th name, its line; 23: outside the unlimited grammar, the first byte of the first token with
  -- which no text of it goes on, or the length; 24 to 26: lowest byte first and in this order at one byte; then 01's 3, 4 and 6, 21 and 27
  pub data ReadingGives : Answer → Type 0 where
    name_refused : {i : ℕ} → IsLowest (bad_line (names_of list)) (length (names_of list)) i → ReadingGives (answer 22 (i + 1))
    outside_grammar : {n : ℕ} → bad_names (names_of list) ≡ false → (Sentence (classes_of text) → ⊥) → Longest (classes_of text) n
        → ReadingGives (answer 23 (byte_of text n))
    has_fault : {e : Syntax} {f : Fault} → bad_names (names_of list) ≡ false → (d : Sentence (classes_of text)) → stand_for d 0 ≡ e ∷ []
        → IsLeast f (text_faults (source text list) e) → InText (source text list) f → ReadingGives (answer f.number f.place)
    many_rows : {e : Syntax} → Limited text list e → most_path_rows < weight (tree_of (source text list) e) → ReadingGives (answer 3 0)
    many_literals : {e : Syntax} → Limited text list e → weight (tree_of (source text list) e) ≤ most_path_rows
        → most_literals < length (literals_of (source text list) e) → ReadingGives (answer 4 most_literals)
    deep : {e : Syntax} → Limited text list e → weight (tree_of (source text list) e) ≤ most_path_rows
        → length (literals_of (source text list) e) ≤ most_literals → most_depth < depth (tree_of (source text list) e)
        → ReadingGives (answer 6 0)
    no_room : {e : Syntax} → Limited text list e → InLimits (source text list) e → room < 5 * weight (tree_of (source text list) e)
        → ReadingGives (answer 21 (5 * weight (tree_of (source text list) e)))
    no_literal_room : {e : Syntax} → Limited text list e → InLimits (source text list) e → 5 * weight (tree_of (source text list) e) ≤ room
        → literalRoom < length (literals_of (source text list) e) → ReadingGives (answer 27 (length (literals_of (source text list) e)))
    accepts : {e : Syntax} → Fits text list room literalRoom e → ReadingGives (answer 0 (weight (tree_of (source text list) e)))

-- ---- from answers to sentences: what holds of each refusal, and of what follows where there is none, holds of what is given

module _ (P : Answer → Type 0) where
  check_cases :
      (applies : Bool) (number place : ℕ) (next : Answer) → (applies ≡ true → P (answer number place)) → (applies ≡ false → P next)
      → P (check applies number place next)
  check_cases true number place next f g = f refl
  check_cases false number place next f g = g refl

  fault_cases :
      (s : Source) (fs : List Fault) (next : Answer) → AllInText s fs
      → ((f : Fault) → IsLeast f fs → InText s f → P (answer f.number f.place)) → (fs ≡ [] → P next) → P (fault_check fs next)
  unfolding fault_check
  fault_cases s [] next h stop pass = pass refl
  fault_cases s (f ∷ fs) next h stop pass = stop (least f fs) (least_is f fs) (least_in_text s f fs h)

  limit_cases :
      (s : Source) (e : Syntax) (next : Answer) → (most_path_rows < weight (tree_of s e) → P (answer 3 0))
      → (weight (tree_of s e) ≤ most_path_rows → most_literals < length (literals_of s e) → P (answer 4 most_literals))
      → (weight (tree_of s e) ≤ most_path_rows → length (literals_of s e) ≤ most_literals → most_depth < depth (tree_of s e) → P (answer 6 0))
      → (InLimits s e → P next) → P (limit_checks (tree_of s e) (literals_of s e) next)
  unfolding limit_checks
  limit_cases s e next long numerous nested pass =
      let t : Tree = tree_of s e in
      let l : List Float = literals_of s e in
      check_cases (ltb most_path_rows (weight t)) 3 0 _ (λ q. long (ltb-true most_path_rows (weight t) q)) (λ q.
      let few : weight t ≤ most_path_rows = ltb-false most_path_rows (weight t) q in
      check_cases (ltb most_literals (length l)) 4 most_literals _ (λ q. numerous few (ltb-true most_literals (length l) q)) (λ q.
      let few-too : length l ≤ most_literals = ltb-false most_literals (length l) q in
      check_cases (ltb most_depth (depth t)) 6 0 next
      (λ q. nested few few-too (ltb-true most_depth (depth t) q))
      (λ q. pass (record { few_rows = few; few_literals = few-too; shallow = ltb-false most_depth (depth t) q }))))

-- the faults of the construct that a text stands for have numbers from 24 to 26, and bytes of the text
construct_in_text :
    (text list : List ℕ) (e : Syntax) (d : Sentence (classes_of text)) → stand_for d 0 ≡ e ∷ []
    → AllInText (source text list) (text_faults (source text list) e)
construct_in_text text list e d h =
    let one : syntax_of (classes_of text) ∷ [] ≡ e ∷ [] = sym (the_tree (classes_of text) d) ∙ h in
    let same : syntax_of (classes_of text) ≡ e = cc in
    subst (λ (x : Syntax). AllInText (source text list) (text_faults (source text list) x)) same (faults_in_text text list d)

module _ (text list : List ℕ) (room literalRoom : ℕ) where
  -- what a refusal or an acceptance has to show
  abbrev Gives : Answer → Type 0
  Gives a = ReadingGives text list room literalRoom a

  limited_to :
      (e : Syntax) → Limited text list e
      → let t : Tree = tree_of (source text list) e in
      let l : List Float = literals_of (source text list) e in
      Gives (limit_checks t l (room_checks t l room literalRoom))
  unfolding room_checks
  limited_to e h =
      let t : Tree = tree_of (source text list) e in
      let l : List Float = literals_of (source text list) e in
      limit_cases Gives (source text list) e _ (λ q. many_rows h q) (λ p q. many_literals h p q) (λ p q r. deep h p q r) (λ fit.
      check_cases Gives (ltb room (5 * weight t)) 21 (5 * weight t) _ (λ q. no_room h fit (ltb-true room (5 * weight t) q)) (λ q.
      let wide : 5 * weight t ≤ room = ltb-false room (5 * weight t) q in
      check_cases Gives (ltb literalRoom (length l)) 27 (length l) (answer 0 (weight t))
      (λ q. no_literal_room h fit wide (ltb-true literalRoom (length l) q))
      (λ q. accepts (record {
        limited = h;
        in_limits = fit;
        has_room = wide;
        has_literal_room = ltb-false literalRoom (length l) q;
      }))))

  form_to :
      (f : Form) → bad_names (names_of list) ≡ false → HasForm text f → Gives (form_checks f (source text list) room literalRoom)
  unfolding HasForm form_checks
  form_to (outside p) good (none, h) = rw h.2 (outside_grammar good none h.1)
  form_to (inside e) good (d, h) =
      fault_cases Gives (source text list) (text_faults (source text list) e) _ (construct_in_text text list e d h)
      (λ f least in-text. has_fault good d h least in-text)
      (λ free. limited_to e (record { names = good; sentence = d; stands = h; faultless = free }))

  reading_to : (f : Form) → HasForm text f → Gives (reading f text list room literalRoom)
  unfolding reading bad_names bad_line_number
  reading_to f h =
      check_cases Gives (bad_names (names_of list)) 22 (bad_line_number (names_of list)) _
      (λ bad. name_refused (lowest_found (bad_line (names_of list)) (length (names_of list)) bad))
      (λ good. form_to f good h)

-- ---- from sentences to answers

-- the lowest fault is given, whatever follows
least_given : (fs : List Fault) (g : Fault) (next : Answer) → IsLeast g fs → fault_check fs next ≡ answer g.number g.place
unfolding fault_check
least_given [] g next l = absurd l.one_of
least_given (f ∷ fs) g next l =
    same_fault (least f fs) g ((least_is f fs).first g l.one_of) (l.first (least f fs) (least_is f fs).one_of)

-- what fits the limits is let through
in_limits_lets : (s : Source) (e : Syntax) (next : Answer) → InLimits s e → limit_checks (tree_of s e) (literals_of s e) next ≡ next
unfolding limit_checks
in_limits_lets s e next w =
    rw (
      le-ltb most_path_rows (weight (tree_of s e)) w.few_rows,
      le-ltb most_literals (length (literals_of s e)) w.few_literals,
      le-ltb most_depth (depth (tree_of s e)) w.shallow,
    )

module _ (text list : List ℕ) (room literalRoom : ℕ) where
  -- behind good names the checks are those of the text's form
  form_checked :
      (f : Form) (a : Answer) → bad_names (names_of list) ≡ false → form_checks f (source text list) room literalRoom ≡ a
      → reading f text list room literalRoom ≡ a
  unfolding reading
  form_checked f a good e = rw good e

  -- and of a text of the limited grammar the limits and the rooms
  limited_from :
      (f : Form) (e : Syntax) (a : Answer) → HasForm text f → Limited text list e
      → let t : Tree = tree_of (source text list) e in
      let l : List Float = literals_of (source text list) e in
      limit_checks t l (room_checks t l room literalRoom) ≡ a → reading f text list room literalRoom ≡ a
  unfolding HasForm form_checks
  limited_from f e a h x q =
      let same : f ≡ inside e = form_unique text f (inside e) h (x.sentence, x.stands) in
      form_checked f a x.names (rw same (fault_free (text_faults (source text list) e) _ x.faultless ∙ q))

  reading_from :
      {a : Answer} (f : Form) → HasForm text f → ReadingGives text list room literalRoom a → reading f text list room literalRoom ≡ a
  unfolding reading bad_names bad_line_number form_checks HasForm limit_checks room_checks fault_check
  reading_from f h (name_refused l) = rw (found_some l, found_lowest l)
  reading_from f h (outside_grammar {n} good none l) =
      let same : f ≡ outside (byte_of text n) = form_unique text f (outside (byte_of text n)) h (none, (n, l, refl)) in
      form_checked f _ good (rw same)
  reading_from f h (has_fault {e} {f = g} good d x l w) =
      let same : f ≡ inside e = form_unique text f (inside e) h (d, x) in
      form_checked f _ good (rw same (least_given (text_faults (source text list) e) g _ l))
  reading_from f h (many_rows {e} x q) = limited_from f e _ h x (rw (lt-ltb most_path_rows (weight (tree_of (source text list) e)) q))
  reading_from f h (many_literals {e} x p q) =
      let t : Tree = tree_of (source text list) e in
      limited_from f e _ h x
      (rw (le-ltb most_path_rows (weight t) p, lt-ltb most_literals (length (literals_of (source text list) e)) q))
  reading_from f h (deep {e} x p q r) =
      let t : Tree = tree_of (source text list) e in
      limited_from f e _ h x
      (rw (
        le-ltb most_path_rows (weight t) p,
        le-ltb most_literals (length (literals_of (source text list) e)) q,
        lt-ltb most_depth (depth t) r,
      ))
  reading_from f h (no_room {e} x w q) =
      limited_from f e _ h x (in_limits_lets (source text list) e _ w ∙ rw (lt-ltb room (5 * weight (tree_of (source text list) e)) q))
  reading_from f h (no_literal_room {e} x w p q) =
      limited_from f e _ h x
      (in_limits_lets (source text list) e _ w
      ∙ rw (le-ltb room (5 * weight (tree_of (source text list) e)) p, lt-ltb literalRoom (length (literals_of (source text list) e)) q))
  reading_from f h (accepts {e} x) =
      limited_from f e _ h x.limited
      (in_limits_lets (source text list) e _ x.in_limits
      ∙ rw (
        le-ltb room (5 * weight (tree_of (source text list) e)) x.has_room,
        le-ltb literalRoom (length (literals_of (source text list) e)) x.has_literal_room,
      ))

  -- ---- each answer exactly when its sentence says so

  -- the reader gives 0, 3, 4, 6 and 21 to 27
  pub numbers_exactly :
      (f : Form) → HasForm text f → (a : Answer) → (reading f text list room literalRoom ≡ a) ↔ ReadingGives text list room literalRoom a
  numbers_exactly f h a =
      (λ e. subst (ReadingGives text list room literalRoom) e (reading_to text list room literalRoom f h), reading_from f h)

  -- it accepts exactly the limited grammar's texts that fit document 01's limits, and the rooms
  pub accepts_limited :
      (f : Form) → HasForm text f → ((reading f text list room literalRoom).number ≡ 0) ↔ ((e : Syntax) × Fits text list room literalRoom e)
  accepts_limited f h = (
    accepted (reading_to text list room literalRoom f h),
    λ x. ap (λ (a : Answer). a.number) (reading_from f h (accepts x.1)),
  )
    where
      accepted : {a : Answer} → ReadingGives text list room literalRoom a → a.number ≡ 0 → (e : Syntax) × Fits text list room literalRoom e
      accepted (name_refused l) z = absurd (omega arith)
      accepted (outside_grammar good none l) z = absurd (omega arith)
      accepted (has_fault good d x l w) z = absurd (omega (arith, w.from_24))
      accepted (many_rows x q) z = absurd (omega arith)
      accepted (many_literals x p q) z = absurd (omega arith)
      accepted (deep x p q r) z = absurd (omega arith)
      accepted (no_room x w q) z = absurd (omega arith)
      accepted (no_literal_room x w p q) z = absurd (omega arith)
      accepted (accepts {e} x) z = (e, x)

  -- and tells how many rows it wrote
  pub accepted_answer :
      (f : Form) (e : Syntax) → HasForm text f → HasForm text (inside e) → (reading f text list room literalRoom).number ≡ 0
      → reading f text list room literalRoom ≡ answer 0 (weight (tree_of (source text list) e))
  unfolding HasForm
  accepted_answer f e h k z =
      let (x, fits) = (accepts_limited f h).0 z in
      let same : inside x ≡ inside e = form_unique text (inside x) (inside e) (fits.limited.sentence, fits.limited.stands) k in
      let same-construct : x ≡ e = cc in
      (numbers_exactly f h _).1 (accepts fits) ∙ rw same-construct

-- document 01's limits are those of its path checker: it accepts the rows and literals of a text of the limited grammar exactly if they fit
pub limits_checked :
    (text list : List ℕ) (e : Syntax) → Limited text list e
    → ((path_answer (written 0 (tree_of (source text list) e)) (literals_of (source text list) e)).number ≡ 0) ↔ InLimits (source text list) e
unfolding path_answer source
limits_checked text list e x =
    let s : Source = source text list in
    let t : Tree = tree_of s e in
    let l : List Float = literals_of s e in
    let one : syntax_of (classes_of text) ∷ [] ≡ e ∷ [] = sym (the_tree (classes_of text) x.sentence) ∙ x.stands in
    let same : syntax_of (classes_of text) ≡ e = cc in
    let Checked : Syntax → Type 0 = λ y.
    text_faults s y ≡ [] → path_answer (written 0 (tree_of s y)) (literals_of s y)
    ≡ limit_checks (tree_of s y) (literals_of s y) (answer 0 (R.rows_of (written 0 (tree_of s y)))) in
    let checked : path_answer (written 0 t) l ≡ limit_checks t l (answer 0 (R.rows_of (written 0 t))) =
    subst Checked same (λ none. accepted_path s (classes_of text) x.sentence none x.names _) x.faultless in (
      (λ z. within s e _ (sym (ap (λ (a : Answer). a.number) checked) ∙ z)),
      (λ w. ap (λ (a : Answer). a.number) (checked ∙ in_limits_lets s e _ w)),
    )
  where
    within : (s : Source) (e : Syntax) (next : Answer) → (limit_checks (tree_of s e) (literals_of s e) next).number ≡ 0 → InLimits s e
    within s e next =
        limit_cases (λ a. a.number ≡ 0 → InLimits s e) s e next (λ q z. absurd (omega arith)) (λ p q z. absurd (omega arith))
        (λ p q r z. absurd (omega arith)) (λ w z. w)

-- what the reader answers and what it writes are determined by its inputs
pub reads_once :
    (text list rows : List ℕ) (out : List Float) {r r' : Answer} {count count' : ℕ} {rows₁ rows₂ : List ℕ} {out₁ out₂ : List Float}
    → ReadsPath text list rows out r count rows₁ out₁ → ReadsPath text list rows out r' count' rows₂ out₂
    → (r ≡ r') × (count ≡ count') × (rows₁ ≡ rows₂) × (out₁ ≡ out₂)
reads_once text list rows out (f, h, r, n, rs, os) (f', h', r', n', rs', os') =
    let same : f ≡ f' = form_unique text f f' h h' in
    (cc, cc, cc, cc)
