-- What is handed over of a text in which nothing is wrong is what the reader promises.
-- Assumes nothing.
use Prim.Native.Nat.{ℕ, ◌+◌, ◌*◌, ◌≤◌, ◌<◌}
use mathlib.Core.Path.{◌≡◌, refl, sym, ◌∙◌, ap, subst}
use mathlib.Core.Bool.{Bool, true, false, cond, true≢false}
use mathlib.Core.Logic.{⊎_elim}
use mathlib.Core.List.{List, ◌++◌}
use Rattle.std.specs.Prelude.{Some}
use native.Mathlib.Omega.{arith}
use lib.Dec.{ltb}
use lib.ListN.{length, take, drop, take-append-drop}
use lib.Seq.{length-take-le}
use lib.Ieee.{Float}
use borrow.Author.Tests.{lt-ltb, eq-eqb, ne_eqb}
use Rattle.meaning.proofs.Bools.{lt_or_ge}
use Rattle.meaning.specs.Answers.{answer}
use Rattle.meaning.specs.declared.Answer.{Answer}
use Rattle.meaning.specs.Rows.{most_path_rows, most_literals}
use Rattle.meaning.specs.Tree.{Tree, depth, most_depth}
use Rattle.meaning.specs.Turning.{weight, written}
use Rattle.names.specs.Names.{names_of, bad_names, bad_line_number}
use Rattle.text.specs.declared.Fault.{Fault}
use Rattle.text.specs.Grammar.{Token, Sentence}
use Rattle.text.specs.Tokens.{classes_of}
use Rattle.text.specs.Growing.{syntax_of}
use Rattle.text.specs.Syntax.{read_all}
use Rattle.text.specs.Limited.{source, text_faults}
use Rattle.text.specs.Reading.{tree_of, literals_of, reading, rows_of, literals, literal_count, output_of, ReadsPath}
use Rattle.text.specs.Composing.{Draft, draft, desk, pen, compose_token, unwritten, composed, composed_of}
use Rattle.text.specs.Composing.{Composed as C}
use Rattle.text.specs.Forms.{form_of, found}
use Rattle.text.proofs.Viable.{accepts_exactly}
use Rattle.text.proofs.Forms.{form_of_lem}
use Rattle.text.proofs.Cutting.{classes_length}
use Rattle.text.proofs.Composition.Composing.{composed_right}
use Rattle.text.proofs.Composition.Committed.{enough_room}
use Rattle.text.proofs.Composition.Committed as Law
use Rattle.meaning.proofs.ReadBack.{length_written}
use Rattle.text.proofs.Surveying.Plain.{name_known, number_short}
use Rattle.compose.specs.declared.Composed.{Composed}
use Rattle.compose.specs.Composes.{Composes, committed, draft_at}
use Rattle.compose.specs.Words.{Plain}
use Rattle.reader.specs.Handing.{Clean, handed, literals_told, Hands}
use Rattle.reader.proofs.Answered.{names_refused, found_refused, found_numbered, clean_reading, many_handed}

-- ---- handing over

-- on 0 there is room
pub room_enough :
    (rows held deep room literalRoom : ℕ) → (handed rows held deep room literalRoom).number ≡ 0 → (5 * rows ≤ room) × (held ≤ literalRoom)
unfolding handed
room_enough rows held deep room literalRoom e =
    first (ltb most_path_rows rows) (ltb most_literals held) (ltb most_depth deep) (ltb room (5 * rows)) (ltb literalRoom held) refl refl e
  where
    first :
        (a b c p q : Bool) → ltb room (5 * rows) ≡ p → ltb literalRoom held ≡ q
        → (cond a (answer 3 0) (cond b (answer 4 most_literals) (cond c (answer 6 0) (cond p (answer 21 (5 * rows)) (cond q (answer 27 held) (answer 0 rows)))))).number ≡ 0
        → (5 * rows ≤ room) × (held ≤ literalRoom)
    first true b c p q x y z = absurd (omega (arith, z))
    first false true c p q x y z = absurd (omega (arith, z))
    first false false true p q x y z = absurd (omega (arith, z))
    first false false false true q x y z = absurd (omega (arith, z))
    first false false false false true x y z = absurd (omega (arith, z))
    first false false false false false x y z = (
      ⊎_elim (λ (l : room < 5 * rows). absurd (true≢false (sym (lt-ltb room (5 * rows) l) ∙ x))) (λ (l : 5 * rows ≤ room). l) (lt_or_ge room (5 * rows)),
      ⊎_elim (λ (l : literalRoom < held). absurd (true≢false (sym (lt-ltb literalRoom held l) ∙ y))) (λ (l : held ≤ literalRoom). l) (lt_or_ge literalRoom held),
    )

module _ (count held deep : ℕ) (drafted : List ℕ) (values : List Float) (rows : List ℕ) (out : List Float) (r : Answer) (told : ℕ) where
  pub hands_refused :
      r ≡ handed count held deep (length rows) (length out) → told ≡ literals_told r held → (r.number ≡ 0 → ⊥) → Hands count held deep drafted values rows out r told rows out
  unfolding output_of
  hands_refused e t n = record {
    answers = e;
    tells = t;
    writes = rw (ne_eqb r.number 0 n);
    writes_literals = rw (ne_eqb r.number 0 n);
  }

  pub hands_written :
      {rows' : List ℕ} {out' : List Float} → r ≡ handed count held deep (length rows) (length out)
      → told ≡ literals_told r held → r.number ≡ 0
      → rows' ≡ take (5 * count) drafted ++ drop (length (take (5 * count) drafted)) rows
      → out' ≡ take held values ++ drop (length (take held values)) out
      → Hands count held deep drafted values rows out r told rows' out'
  unfolding output_of
  hands_written e t n w v = record {
    answers = e;
    tells = t;
    writes = w ∙ sym (rw (eq-eqb r.number 0 n));
    writes_literals = v ∙ sym (rw (eq-eqb r.number 0 n));
  }

-- ---- a text in which nothing is wrong

same_committed : (d : Draft) → committed d ≡ Law.committed d
unfolding committed
same_committed (draft m x l deep (desk fs (pen k u n o))) = refl

abbrev rows_in : C → List ℕ
rows_in (composed rows l d) = rows

abbrev literals_in : C → List Float
literals_in (composed rows l d) = l

abbrev depth_in : C → ℕ
depth_in (composed rows l d) = d

pub clean_sentence : (text list : List ℕ) → Clean text list → Sentence (classes_of text)
clean_sentence text list c = (accepts_exactly (classes_of text)).0 (rw c.accepted tt)

pub clean_plain : (text list : List ℕ) → Clean text list → Plain text list
clean_plain text list c =
    let d : Sentence (classes_of text) = clean_sentence text list c in
    record {
      named = λ k h. name_known text list d c.faultless k (omega (arith, h, classes_length text));
      short = λ k h. number_short text list d c.faultless k (omega (arith, h, classes_length text));
    }

-- what is composed is in the slices
pub composes_bounds :
    (text list rows : List ℕ) (values : List Float) (r : Composed) → length rows ≡ 2600 → length values ≡ 258 → Composes text list rows values r
    → (r.rows ≤ 520) × (5 * r.rows ≤ length rows)
unfolding Composes
composes_bounds text list rows values r n m w =
    ⊎_elim (λ h. (omega (arith, h.0), omega (arith, h.0, n))) (λ h. (omega (arith, h.0, n), h.0)) w

module _ (text list rows : List ℕ) (values : List Float) (c : Clean text list) (r : Composed) (w : Composes text list rows values r) where
  abbrev tree : Tree
  tree = tree_of (source text list) (syntax_of (classes_of text))

  abbrev held : List Float
  held = literals_of (source text list) (syntax_of (classes_of text))

  right : composed_of (source text list) (classes_of text) ≡ composed (written 0 tree) held (depth tree)
  right = composed_right (source text list) (classes_of text) (clean_sentence text list c) c.faultless

  -- what is committed behind k tokens is to be written
  committed_fits : (k : ℕ) → committed (draft_at text list k) ≤ weight tree + 1
  unfolding draft_at
  committed_fits k =
      let us : List Token = take k (classes_of text) in
      let vs : List Token = drop k (classes_of text) in
      let whole : us ++ vs ≡ classes_of text = take-append-drop k (classes_of text) in
      let room : Law.committed (read_all (compose_token (source text list)) unwritten 0 us) ≤ weight (tree_of (source text list) (syntax_of (us ++ vs))) + 1 =
      enough_room (source text list) us vs (subst Sentence (sym whole) (clean_sentence text list c))
      (ap (λ (l : List Token). text_faults (source text list) (syntax_of l)) whole ∙ c.faultless) in
      let same : committed (read_all (compose_token (source text list)) unwritten 0 us) ≡ Law.committed (read_all (compose_token (source text list)) unwritten 0 us) =
      same_committed (read_all (compose_token (source text list)) unwritten 0 us) in
      let t : tree_of (source text list) (syntax_of (us ++ vs)) ≡ tree = ap (λ (l : List Token). tree_of (source text list) (syntax_of l)) whole in
      omega (arith, room, same, ap weight t)

  -- what was composed is the text's
  pub record Told : Type 0 where
    pub weighs : weight tree ≡ r.rows
    pub rows_are : written 0 tree ≡ take (5 * r.rows) rows
    pub literals_are : held ≡ take r.literals values
    pub depth_is : depth tree ≡ r.depth
    pub fits : 5 * r.rows ≤ length rows
    pub few : r.literals ≤ r.rows

  told_so :
      5 * r.rows ≤ length rows → r.literals ≤ r.rows
      → composed_of (source text list) (classes_of text) ≡ composed (take (5 * r.rows) rows) (take r.literals values) r.depth → Told
  told_so h k e =
      let z : composed (written 0 tree) held (depth tree) ≡ composed (take (5 * r.rows) rows) (take r.literals values) r.depth = sym right ∙ e in
      let a : written 0 tree ≡ take (5 * r.rows) rows = ap rows_in z in
      let n : 5 * weight tree ≡ 5 * r.rows = sym (length_written 0 tree) ∙ (ap length a ∙ length-take-le (5 * r.rows) rows h) in
      record { weighs = omega (arith, n); rows_are = a; literals_are = ap literals_in z; depth_is = ap depth_in z; fits = h; few = k }

  -- above 256 rows
  pub composed_full : 256 < r.rows → 256 < weight tree
  unfolding Composes
  composed_full h =
      ⊎_elim
      (λ o. let f = committed_fits o.1.0 in omega (arith, o.1.2, f))
      (λ o. let t = told_so o.0 o.1 o.2 in omega (arith, t.weighs))
      w

  pub composed_told : r.rows ≤ 256 → Told
  unfolding Composes
  composed_told h = ⊎_elim (λ o. absurd (omega (arith, o.0))) (λ o. told_so o.0 o.1 o.2) w

  module _ (fine : bad_names (names_of list) ≡ false) (rows₀ : List ℕ) (out₀ : List Float) where
    -- above 256 rows 3 is given, and nothing is written
    pub reads_full : 256 < r.rows → ReadsPath text list rows₀ out₀ (answer 3 0) 0 rows₀ out₀
    unfolding output_of literal_count
    reads_full h = (
      form_of text,
      form_of_lem text,
      sym (clean_reading text list (length rows₀) (length out₀) c fine ∙ many_handed (weight tree) (length held) (depth tree) (length rows₀) (length out₀) (composed_full h)),
      refl,
      refl,
      refl,
    )

    -- else what is handed over is what is promised
    pub reads_handed :
        (a : Answer) (count : ℕ) {rows' : List ℕ} {out' : List Float} → r.rows ≤ 256
        → Hands r.rows r.literals r.depth rows values rows₀ out₀ a count rows' out'
        → length values ≡ 258 → ReadsPath text list rows₀ out₀ a count rows' out'
    unfolding literal_count literals_told rows_of literals
    reads_handed a count h t m =
        let o : Told = composed_told h in
        let lits : length held ≡ r.literals =
        ap length o.literals_are ∙ length-take-le r.literals values (omega (arith, o.few, h, m)) in (
          form_of text,
          form_of_lem text,
          t.answers ∙ sym (clean_reading text list (length rows₀) (length out₀) c fine ∙ rw (o.weighs, lits, o.depth_is)),
          t.tells ∙ rw (c.formed, lits),
          t.writes ∙ rw (c.formed, o.rows_are),
          t.writes_literals ∙ rw (c.formed, o.literals_are),
        )

-- ---- refusals before that

-- a refusal leaves both outputs as they were
pub reads_refused :
    (text list : List ℕ) (rows : List ℕ) (out : List Float) (r : Answer)
    → r ≡ reading (form_of text) text list (length rows) (length out) → (r.number ≡ 0 → ⊥) → ReadsPath text list rows out r 0 rows out
unfolding output_of literal_count
reads_refused text list rows out r e n =
    (form_of text, form_of_lem text, e, sym (rw (ne_eqb r.number 0 n)), sym (rw (ne_eqb r.number 0 n)), sym (rw (ne_eqb r.number 0 n)))

module _ (text list rows : List ℕ) (out : List Float) where
  -- a bad list of names
  pub reads_bad_names :
      (line : ℕ) → bad_names (names_of list) ≡ true → line ≡ bad_line_number (names_of list) → ReadsPath text list rows out (answer 22 line) 0 rows out
  reads_bad_names line bad e =
      rw e
      (reads_refused text list rows out (answer 22 (bad_line_number (names_of list)))
      (sym (names_refused text list (length rows) (length out) (form_of text) bad)) (λ z. omega (arith, z)))

  -- what is wrong in the text
  pub reads_wrong :
      (x : Fault) → found (form_of text) text list ≡ Some x → bad_names (names_of list) ≡ false
      → ReadsPath text list rows out (answer x.number x.place) 0 rows out
  reads_wrong x e fine =
      reads_refused text list rows out (answer x.number x.place)
      (sym (found_refused text list (length rows) (length out) (form_of text) x fine e)) (found_numbered text list x e)
