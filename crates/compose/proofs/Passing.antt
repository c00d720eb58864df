-- The pass over the tokens: behind the first k tokens the slices hold the machine's draft.
-- Assumes nothing.
use Rattle.text.specs.declared.Run.TheVariants.{Spaces}
use Prim.Native.Nat.{ℕ, zero, suc, ◌+◌, ◌*◌, ◌<◌, ◌≤◌}
use native.Mathlib.Omega.{arith}
use mathlib.Core.Path.{◌≡◌, refl, sym, ◌∙◌, ap, subst}
use mathlib.Core.Bool.{Bool, false}
use mathlib.Core.Logic.{inl, inr, ⊎_elim}
use mathlib.Core.List.{List, [], ◌∷◌}
use lib.ListN.{length, take, replicate}
use lib.Seq.{take_all, length-take-le}
use lib.Ieee.{Float}
use Rattle.meaning.proofs.Bools.{lt_or_ge}
use Rattle.text.specs.Grammar.{Token}
use Rattle.text.specs.Tokens.{code, class_of, run_end, operator_due, tokens, classes_of}
use Rattle.text.specs.Syntax.{read_all, past}
use Rattle.text.specs.Limited.{source, place}
use Rattle.text.specs.Composing.{Draft, settled, completed, rows_on, composed, composed_of, compose_token, unwritten}
use Rattle.text.proofs.Scheme.{read_append}
use Rattle.text.proofs.Lexemes.{run_behind}
use Rattle.text.proofs.Cutting.{Cut, Stands, cut_start, cut_next, cut_end, cut_unknown, cut_classes, cut_count, cut_place, classes_length}
use Rattle.tokens.specs.declared.Next.{Next}
use Rattle.tokens.specs.Found as Tokens
use Rattle.tokens.specs.Found.{Found}
use Rattle.compose.specs.declared.Bench.{Bench}
use Rattle.compose.specs.declared.State.{State}
use Rattle.compose.specs.declared.Composed.{Composed}
use Rattle.compose.specs.Standing.{pen_of, frame_at, frames_of, desk_of, draft_of, row_room, op_room, open_room, value_room, load, Countable, Worked, Read}
use Rattle.compose.specs.Deals.{Roomy}
use Rattle.compose.specs.Words.{Plain, Spelled}
use Rattle.compose.specs.Composes.{committed, draft_at, Composes}
use Rattle.compose.specs.Passes.{nothing_read}
use Rattle.compose.proofs.Spelling.{spelled}
use Rattle.compose.proofs.Opens.{countable}

-- ---- the draft behind tokens

past_is : (xs : List Token) (i : ℕ) → past i xs ≡ i + length xs
unfolding past
past_is [] i = omega arith
past_is (t ∷ xs) i = let e = past_is xs (suc i) in omega (arith, e)

pub draft_next :
    (list : List ℕ) {text : List ℕ} {k i : ℕ} {due : Bool} {kind begin behind : ℕ} (c : Cut text k i due)
    (n : Stands text i due kind begin behind)
    → draft_at text list (k + 1) ≡ compose_token (source text list) (draft_at text list k) k (class_of kind)
unfolding draft_at read_all
draft_next list {text} {k} {kind = kind} c n =
    let many : length (take k (classes_of text)) ≡ k = length-take-le k (classes_of text)
    (omega (arith, classes_length text, cut_count c n)) in
    let here : past 0 (take k (classes_of text)) ≡ k = omega (arith, past_is (take k (classes_of text)) 0, many) in
    rw (cut_classes c n)
    (read_append (compose_token (source text list)) (take k (classes_of text)) (class_of kind ∷ []) unwritten 0
    ∙ ap (λ (j : ℕ). compose_token (source text list) (read_all (compose_token (source text list)) unwritten 0 (take k (classes_of text))) j
    (class_of kind)) here)

length_frames : (ops opens : List ℕ) (n : ℕ) → length (frames_of ops opens n) ≡ n
unfolding frames_of
length_frames ops opens zero = refl
length_frames ops opens (suc n) = ap suc (length_frames ops opens n)

pub committed_is :
    (s : State) (rows ops opens : List ℕ) (values : List Float) → committed (draft_of s rows ops opens values)
    ≡ s.bench.hand.rows + s.bench.height
unfolding committed draft_of desk_of pen_of
committed_is s rows ops opens values = ap (λ (n : ℕ). s.bench.hand.rows + n) (length_frames ops opens s.bench.height)

-- ---- tokens that were found

module _ {text : List ℕ} {at : ℕ} {due : Bool} {r : Next} (f : Found text at due r) where
  pub found_inside : r.kind < 34 → r.begin < length text
  unfolding Tokens.Read
  found_inside h =
      ⊎_elim (λ l. l) (λ l. let e = f.read.1 (omega (arith, f.within)) in absurd (omega (arith, e))) (lt_or_ge r.begin (length text))

  pub found_stands : r.kind < 34 → Stands text at due r.kind r.begin r.end
  unfolding Tokens.Read
  found_stands h =
      let inside = found_inside h in
      let told = f.read.0 inside in
      record { begins = f.begins; inside = inside; kind_is = told.0; behind_is = told.1 }

  pub found_takes : r.kind < 33 → (r.begin < r.end) × (r.end ≤ length text)
  unfolding Tokens.Read
  found_takes h = f.read.2 h

  pub found_end : 34 ≤ r.kind → length text ≤ run_end Spaces text at
  unfolding Tokens.Read
  found_end h =
      ⊎_elim (λ l. let told = f.read.0 l in absurd (omega (arith, told.2))) (λ l. omega (arith, l, f.begins)) (lt_or_ge r.begin (length text))

-- ---- the loop

-- k tokens were read, and `next` is the one behind them
pub record Passing (text list rows ops opens : List ℕ) (values : List Float) (state : State) (next : Next) : Type 0 where
  pub k : ℕ
  pub at : ℕ
  pub due : Bool
  pub cut : Cut text k at due
  pub passed : k ≤ at
  pub found : Found text at due next
  pub is_draft : draft_of state rows ops opens values ≡ draft_at text list k
  pub few : state.literals ≤ state.bench.hand.rows
  pub light : state.bench.hand.rows + state.bench.height ≤ 257
  pub known : state.mode < 14
  pub rows_room : length rows ≡ row_room
  pub values_room : length values ≡ value_room

nothing_drafted :
    (text list rows : List ℕ) (values : List Float) → draft_of nothing_read rows (replicate op_room 0) (replicate open_room 0) values ≡ draft_at
    text list 0
unfolding draft_of nothing_read desk_of pen_of frames_of frame_at draft_at read_all
nothing_drafted text list rows values = refl

pub passing_start :
    (text list rows ops opens : List ℕ) (values : List Float) (s : State) (next : Next) → s ≡ nothing_read → ops ≡ replicate op_room 0
    → opens ≡ replicate open_room 0 → length rows ≡ row_room → length values ≡ value_room → Found text 0 false next
    → Passing text list rows ops opens values s next
unfolding nothing_read
passing_start text list rows ops opens values s next z o p l v f =
    rw (z, o, p)
    (record {
      k = 0;
      at = 0;
      due = false;
      cut = cut_start text;
      passed = omega arith;
      found = f;
      is_draft = nothing_drafted text list rows values;
      few = omega arith;
      light = omega arith;
      known = omega arith;
      rows_room = l;
      values_room = v;
    })

module _ {text list rows ops opens : List ℕ} {values : List Float} {state : State} {next : Next}
    (p : Passing text list rows ops opens values state next)
  where
    -- what reading the next token wants
    module _ (h : next.kind < 33) where
      stands : Stands text p.at p.due next.kind next.begin next.end
      stands = found_stands p.found (omega arith)

      pub next_spelled : Plain text list → Spelled text list next.kind next.begin next.end
      next_spelled plain = spelled plain p.cut stands h

      pub next_place : place (source text list) p.k ≡ next.begin
      next_place = cut_place p.cut stands list

      pub next_roomy : Roomy 514 state.bench rows
      next_roomy = record { light = omega (arith, p.light); rows_room = p.rows_room }

      pub next_countable : length text ≤ 18446744073709551615 → Countable state.bench.height opens
      unfolding draft_at
      next_countable l =
          let many : length (take p.k (classes_of text)) ≡ p.k =
          length-take-le p.k (classes_of text) (omega (arith, classes_length text, p.cut.count)) in
          let inside = found_inside p.found (omega arith) in
          countable state rows ops opens values (source text list) (take p.k (classes_of text)) p.is_draft
          (omega (arith, many, inside, p.passed, p.found.begins, run_behind Spaces text p.at))

      -- one token more
      module _ {rows' ops' opens' : List ℕ} {values' : List Float} {r : State}
          (w : Read state rows ops opens values (λ w. compose_token (source text list) w p.k (class_of next.kind)) r rows' ops' opens'
          values' 4) where
        next_draft : draft_of r rows' ops' opens' values' ≡ draft_at text list (p.k + 1)
        next_draft =
            w.draft_is ∙ ap (λ (d : Draft). compose_token (source text list) d p.k (class_of next.kind)) p.is_draft
            ∙ sym (draft_next list p.cut stands)

        pub passing_full :
            257 < r.bench.hand.rows + r.bench.height → (k : ℕ) × (k ≤ length (tokens text)) × (257 < committed (draft_at text list k))
        passing_full l =
            let e : committed (draft_at text list (p.k + 1)) ≡ r.bench.hand.rows + r.bench.height =
            ap committed (sym next_draft) ∙ committed_is r rows' ops' opens' values' in
            (p.k + 1, omega (arith, cut_count p.cut stands), omega (arith, e))

        pub passing_next :
            (next' : Next) → r.mode < 14 → r.bench.hand.rows + r.bench.height ≤ 257 → length rows' ≡ row_room → length values' ≡ value_room → {due : Bool} → due ≡ operator_due next.kind → Found text
            next.end due next'
            → Passing text list rows' ops' opens' values' r next'
        unfolding code
        passing_next next' m l a d e f =
            let takes = found_takes p.found h in
            record {
              k = p.k + 1;
              at = next.end;
              due = operator_due next.kind;
              cut = cut_next p.cut stands (λ z. omega arith);
              passed = omega (arith, takes.0, p.passed, p.found.begins, run_behind Spaces text p.at);
              found = subst (λ (t : Bool). Found text next.end t next') e f;
              is_draft = next_draft;
              few = omega (arith, w.few, p.few);
              light = l;
              known = m;
              rows_room = a;
              values_room = d;
            }

    -- nothing is left
    pub passing_done : 33 ≤ next.kind → draft_of state rows ops opens values ≡ draft_at text list (length (tokens text))
    unfolding code compose_token
    passing_done h =
        ⊎_elim
        (λ l. unknown_last (omega arith))
        (λ l. p.is_draft ∙ ap (draft_at text list) (cut_end p.cut (found_end p.found l)))
        (lt_or_ge next.kind 34)
      where
        unknown_last : next.kind ≡ 33 → draft_of state rows ops opens values ≡ draft_at text list (length (tokens text))
        unknown_last e =
            let there = found_stands p.found (omega arith) in
            let last : p.k + 1 ≡ length (tokens text) = cut_unknown p.cut there e in
            let same : compose_token (source text list) (draft_at text list p.k) p.k (class_of next.kind) ≡ draft_at text list
            p.k = rw e in
            p.is_draft ∙ sym same ∙ sym (draft_next list p.cut there) ∙ ap (draft_at text list) last

-- ---- the end

-- too many rows were committed
pub composes_stopped :
    (text list rows : List ℕ) (values : List Float) (r : Composed) → r.rows ≡ 257
    → (k : ℕ) × (k ≤ length (tokens text)) × (257 < committed (draft_at text list k)) → Composes text list rows values r
unfolding Composes
composes_stopped text list rows values r e t = inl (e, t)

module _ (text list rows ops opens rows' : List ℕ) (values : List Float) (s : State) (b : Bench)
    (d : draft_of s rows ops opens values ≡ draft_at text list (length (tokens text)))
    (w : Worked s.bench rows ops opens (settled 1) b rows' ops opens 0) where
  rows_on_lem : rows_on (settled 1 (desk_of s.bench rows ops opens)) ≡ take (5 * b.hand.rows) rows'
  unfolding rows_on desk_of pen_of
  rows_on_lem = ap rows_on (sym w.desk_is)

  drafted : read_all (compose_token (source text list)) unwritten 0 (classes_of text) ≡ draft_of s rows ops opens values
  unfolding draft_at
  drafted =
      ap (read_all (compose_token (source text list)) unwritten 0)
      (sym (take_all (length (tokens text)) (classes_of text) (omega (arith, classes_length text))))
      ∙ sym d

  -- the last frames were filled
  pub composes_done :
      s.literals ≤ s.bench.hand.rows → load s.bench ≤ 520 → length rows' ≡ row_room
      → Composes text list rows' values (record { rows = b.hand.rows; literals = s.literals; depth = s.deepest })
  unfolding Composes composed_of completed draft_of
  composes_done l k h =
      inr (
        omega (arith, w.most, h),
        omega (arith, w.grown),
        ap completed drafted ∙ ap (λ (out : List ℕ). composed out (take s.literals values) s.deepest) rows_on_lem,
      )

-- where at most 256 rows are told, they and the literals are what is composed of the text
pub composes_few :
    (text list rows : List ℕ) (values : List Float) (r : Composed) → Composes text list rows values r → r.rows ≤ 256
    → (r.literals ≤ 256)
    × (composed_of (source text list) (classes_of text) ≡ composed (take (5 * r.rows) rows) (take r.literals values) r.depth)
unfolding Composes
composes_few text list rows values r c h = ⊎_elim (λ t. absurd (omega (arith, t.0))) (λ t. (omega (arith, t.1), t.2)) c
