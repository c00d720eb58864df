-- One token of the survey: where it stands behind a token that leads to a mode, opens a level, closes one or parts two arguments, and what
-- is found where a token is refused. The state behind is the one that the code computes.
-- Assumes nothing.
use Rattle.text.specs.declared.Run.TheVariants.{Spaces}
use Prim.Native.Nat.{ℕ, suc, ◌+◌, ◌-◌, ◌≤◌, ◌<◌}
use mathlib.Core.Path.{◌≡◌, refl, sym, ◌∙◌, ap, subst, subst⁻¹}
use mathlib.Core.Bool.{Bool, true, false, not, cond}
use mathlib.Core.List.{List, [], ◌∷◌}
use native.Mathlib.Omega.{arith}
use native.Mathlib.Numerals.{add-one}
use lib.Dec.{T, eqb, ltb, eqb→eq}
use lib.ListN.{length, take}
use borrow.Author.Tests.{ltb-true, eqb-true, eqb-false}
use Rattle.meaning.proofs.Bools.{and_l}
use Rattle.text.specs.declared.Level.{Level}
use Rattle.text.specs.Tokens.{class_of, classes_of}
use Rattle.text.specs.Machine.{State, reading, next, run, start, is_stuck, rows, pick}
use Rattle.text.specs.Limited.{source, place}
use Rattle.text.specs.Reading.{Form}
use Rattle.text.specs.Forms.{form_of, found}
use Rattle.text.specs.Survey.{fresh, Survey, survey_token, unread}
use Rattle.text.proofs.Cutting.{Stands, cut_place, byte_place}
use Rattle.text.proofs.Forms.{form_refused}
use Rattle.text.proofs.Lexemes.{run_behind, run_within}
use Rattle.modes.specs.Acts.{act_of}
use Rattle.levels.specs.Levels.{group_of, tightness_of, name_in, own_of}
use Rattle.levels.proofs.Modes.{mode_at}
use Rattle.levels.proofs.Acting as A
use Rattle.levels.proofs.Nesting.{brackets_of, is_bracket, nested, bracket_closes, brackets_stand}
use Rattle.levels.proofs.Nesting as N
use Rattle.levels.proofs.Steps.{token_goes, token_enters, token_leaves, token_parts}
use Rattle.survey.specs.declared.walk.State as W
use Rattle.survey.specs.declared.look.Seen.{Seen}
use Rattle.survey.specs.declared.window.Slot.{Slot}
use Rattle.survey.specs.Window.{span, level_at, stored, Holds}
use Rattle.survey.specs.Looking.{Known}
use Rattle.survey.specs.Standing.{trail, name_at, trailed, trail_of, Goes, Small, Smalls, one, Left, Refilled, refusal, level_past, fault_past, gone_on, lowest, opened_by, Called, Opens, taken, is_bracketed, left_by, parted_by, surveyed_to, survey_of, Standing, Closing, Ready}
use Rattle.survey.specs.Standing as S
use Rattle.survey.proofs.Stored.{stored_length, holds_opened, holds_closed, holds_top}
use Rattle.survey.proofs.Trail.{small_kept, table_says, trailed_goes, trailed_opens, trailed_parts, trailed_closes, trail_is_left}
use Rattle.survey.proofs.Retrace.{byte_behind, cut_behind, trail_next}
use Rattle.survey.proofs.Taking.{act_stuck, taken_some, taken_whole, run_next, read_next}

-- ---- the window's levels are those of the trail

pub held :
    (text : List ℕ) (w : List Slot) (k lo hi : ℕ) {q n : ℕ} {l : Level} {ls : List Level} → Refilled text k w lo hi → trail_of text k ≡ trail q l ls n
    → Holds w lo hi ls
unfolding Refilled
held text w k lo hi {q} {n} {l} {ls} r e = r q l ls n e

pub refilled :
    (text : List ℕ) (w : List Slot) (k lo hi : ℕ) {q n : ℕ} {l : Level} {ls : List Level} → trail_of text k ≡ trail q l ls n → Holds w lo hi ls
    → Refilled text k w lo hi
unfolding Refilled
refilled text w k lo hi {ls = ls} e h q' l' ls' n' e' = let same : ls ≡ ls' = cc in subst (Holds w lo hi) same h

name_same : (text list : List ℕ) (k b n : ℕ) → name_in (source text list) k b n ≡ name_at text k b n
unfolding name_in name_at source
name_same text list k b n = refl

pub goes_is : (text : List ℕ) (k : ℕ) → Goes text k → is_stuck (run start (take k (classes_of text))) ≡ false
unfolding Goes
goes_is text k g = g

is_goes : (text : List ℕ) (k : ℕ) → is_stuck (run start (take k (classes_of text))) ≡ false → Goes text k
unfolding Goes
is_goes text k e = e

-- what is taken and closes has a level around
some_around :
    (l : Level) (ls : List Level) (a : ℕ) → T (nested l ls) → 18 ≤ a → taken a l.kind ≡ true
    → (o : Level) × (os : List Level) × (ls ≡ o ∷ os)
unfolding nested
some_around l [] a h g e = absurd (taken_whole a g (subst (λ (k : ℕ). taken a k ≡ true) (eqb→eq l.kind 0 h) e))
some_around l (o ∷ os) a h g e = (o, os, refl)

is_bracketed_lem : (l o : Level) (os : List Level) → T (nested l (o ∷ os)) → T (is_bracketed l.kind)
unfolding nested
is_bracketed_lem l o os h = bracket_closes l.kind (and_l (is_bracket l.kind) (nested o os) h)

first_small : {n : ℕ} {o : Level} {os : List Level} → Smalls n (o ∷ os) → Small n o
first_small (one h hs) = h

-- ---- where the survey stands

module _ {text list : List ℕ} {w : List Slot} {s : W.State} (h : Standing text list w s) where
  pub left_of : Left (length text) s.mode s.level h.around s.name
  left_of = trail_is_left text s.count s.mode s.level h.around s.name h.cut.count h.trails

  -- the grammar's machine stands there too
  pub machine :
      (run start (take s.count (classes_of text)) ≡ reading (mode_at s.mode) (brackets_of s.level h.around))
      × T (nested s.level h.around)
  machine =
      let stands = subst (λ (y : Survey). N.Stands (run start (take s.count (classes_of text))) y) h.surveys
      (brackets_stand (source text list) (take s.count (classes_of text)) (goes_is text s.count h.goes)) in
      (stands.0, stands.1.0)

  -- it stops at the next token exactly if that is not taken
  module _ {kind begin behind : ℕ} (n : Stands text s.at s.due kind begin behind) where
    stuck_next : is_stuck (run start (take (s.count + 1) (classes_of text))) ≡ not (taken (act_of kind s.mode) s.level.kind)
    unfolding next act_of
    stuck_next =
        ap is_stuck (run_next h.cut n ∙ ap (λ (z : State). next z (class_of kind)) machine.0)
        ∙ act_stuck (pick (rows (class_of kind)) (mode_at s.mode)) s.level h.around machine.1

    pub standing_refused : taken (act_of kind s.mode) s.level.kind ≡ false → refusal begin ≡ found (form_of text) text list
    unfolding found
    standing_refused e =
        sym
        (ap (λ (f : Form). found f text list)
        (form_refused text h.cut n (goes_is text s.count h.goes) (stuck_next ∙ ap not e)))

  -- ---- the next token is taken

  module _
      {t : Seen} (n : Known text s.at s.due s.mode t) (class : t.kind < 33) (on : taken t.act s.level.kind ≡ true) where
    goes_next : Goes text (s.count + 1)
    goes_next =
        is_goes text (s.count + 1) (stuck_next n.stands ∙ ap not (ap (λ (a : ℕ). taken a s.level.kind) (sym n.acts) ∙ on))

    pub further : s.count < t.end
    further = omega (arith, h.few, n.longer, n.stands.begins, run_behind Spaces text s.at)

    -- where it and what follows it begin
    here : place (source text list) s.count ≡ t.begin
    here = cut_place h.cut n.stands list

    known : A.Known (source text list) s.count s.level s.name s.mode
    unfolding source
    known = record {
      inside = record { e_inside = left_of.small.e; g_inside = left_of.small.g; m_inside = left_of.small.m };
      here = omega (arith, here, n.stands.inside);
      name = left_of.byte_behind;
    }

    there : place (source text list) (suc s.count) ≡ t.behind
    there =
        ap (place (source text list)) (sym (add-one s.count))
        ∙ (sym (byte_place text list (s.count + 1)) ∙ (byte_behind (cut_behind h.cut n class) ∙ sym n.follows))

    -- the survey and the trail behind it
    surveyed_next :
        surveyed_to text list (s.count + 1)
        ≡ survey_token (source text list) (survey_of (source text list) s h.around) s.count (class_of t.kind)
    surveyed_next =
        read_next h.cut n.stands (survey_token (source text list)) (unread (source text list))
        ∙ ap (λ (y : Survey). survey_token (source text list) y s.count (class_of t.kind)) h.surveys

    trails_next :
        trail_of text (s.count + 1)
        ≡ trailed text t.kind t.act t.begin t.behind (trail s.mode s.level h.around s.name)
    trails_next = trail_next h.cut n class s.level h.around s.name h.trails

    holds_now : Holds w s.low (s.low + span) h.around
    holds_now = held text w s.count s.low (s.low + span) h.holds h.trails

    -- a token that leads to a mode
    pub standing_goes : t.act < 15 → Standing text list w (gone_on text (own_of (source text list) t.kind t.begin) s t)
    unfolding gone_on level_past fault_past
    standing_goes less =
        let some : 0 < t.act = taken_some t.act s.level.kind on in
        let step =
        rw (here, there, ← n.acts, name_same text list t.kind t.begin s.name) at
        (token_goes (source text list) s.count s.level h.around s.sort s.name s.fault t.kind s.mode
        (omega arith) left_of.mode h.sounds known (omega (arith, n.acts)) (omega (arith, n.acts))) in
        let trails =
        trails_next ∙ trailed_goes text t.kind t.act t.begin t.behind s.mode s.level h.around s.name less in
        record {
          cut = cut_behind h.cut n class;
          goes = goes_next;
          few = omega (arith, further);
          around = h.around;
          trails = trails;
          surveys = surveyed_next ∙ step.0;
          deep = h.deep;
          shallow = omega (arith, h.shallow);
          holds = refilled text w (s.count + 1) s.low (s.low + span) trails holds_now;
          least = h.least;
          most = h.most;
          size = h.size;
          sounds = step.1;
        }

    -- ---- a token that opens a level

    level_small : Small (length text) (level_past s t)
    unfolding level_past
    level_small =
        small_kept (length text) (group_of t.kind) (tightness_of t.kind) s.mode t.behind s.level
        (omega (arith, n.follows, run_within Spaces text t.end n.within)) left_of.small

    pub opens : Opens s t
    unfolding Called
    opens = record {
      class = class;
      further = further;
      shallow = h.shallow;
      least = h.least;
      kind = level_small.kind;
      rank = level_small.rank;
      called = λ e. left_of.function ((table_says t.kind s.mode (omega arith) left_of.mode).call_mode (sym n.acts ∙ e));
    }

    -- a lowest level from which on the window has room for those that are then open
    abbrev Fits : ℕ → Type 0
    Fits low = (low ≤ s.depth + 1) × (s.low ≤ low) × (s.depth < low + span)

    lowest_fits : Fits (lowest s.depth s.low)
    unfolding lowest
    lowest_fits = by (ltb (s.depth - s.low) span) refl
      where
        by : (b : Bool) → ltb (s.depth - s.low) span ≡ b → Fits (cond b s.low (s.low + 1))
        by true e = let few = ltb-true (s.depth - s.low) span e in (omega (arith, h.least), omega arith, omega (arith, h.least, few))
        by false e = (omega (arith, h.least), omega arith, omega (arith, h.most))

    pub standing_enters :
        15 ≤ t.act → t.act < 18
        → Standing text list (stored w s.depth (level_past s t)) (opened_by (own_of (source text list) t.kind t.begin) s t)
    unfolding opened_by level_past fault_past
    standing_enters least most =
        let low : ℕ = lowest s.depth s.low in
        let step =
        rw (here, there, ← n.acts) at
        (token_enters (source text list) s.count s.level h.around s.sort s.name s.fault t.kind s.mode (omega arith)
        left_of.mode h.sounds known (omega (arith, n.acts)) (omega (arith, n.acts))) in
        let trails =
        trails_next ∙ trailed_opens text t.kind t.act t.begin t.behind s.mode s.level h.around s.name least most in
        let holds : Holds (stored w s.depth (level_past s t)) low (low + span) (level_past s t ∷ h.around) =
        subst⁻¹ (λ (d : ℕ). Holds (stored w d (level_past s t)) low (low + span) (level_past s t ∷ h.around)) h.deep
        (holds_opened w s.low low (level_past s t) h.around h.size lowest_fits.1
        (omega (arith, h.deep, h.most)) (omega (arith, h.deep, lowest_fits.2)) holds_now) in
        record {
          cut = cut_behind h.cut n class;
          goes = goes_next;
          few = omega (arith, further);
          around = level_past s t ∷ h.around;
          trails = trails;
          surveys = surveyed_next ∙ step.0;
          deep = omega (arith, h.deep);
          shallow = omega (arith, h.shallow);
          holds = refilled text (stored w s.depth (level_past s t)) (s.count + 1) low (low + span) trails holds;
          least = lowest_fits.0;
          most = omega (arith, lowest_fits.2);
          size = stored_length w s.depth (level_past s t) ∙ h.size;
          sounds = step.1;
        }

    -- ---- a token that closes a level or parts two arguments

    module _ (closing : 18 ≤ t.act) where
      someone : (o : Level) × (os : List Level) × (h.around ≡ o ∷ os)
      someone = some_around s.level h.around t.act machine.1 closing on

      pub closes : Closing text s.count s.depth s.low w
      closes = record {
        goes = h.goes;
        fits = h.cut.count;
        holds = h.holds;
        some = omega (arith, h.deep, ap length someone.2);
        most = h.most;
        size = h.size;
      }

      pub bracketed : T (is_bracketed s.level.kind)
      bracketed =
          is_bracketed_lem s.level someone.0 someone.1
          (subst (λ (ls : List Level). T (nested s.level ls)) someone.2 machine.1)

      module _
          {v : List Slot} {low : ℕ} {outer : Level} (ready : Ready text s.count s.depth low v)
          (loaded : outer ≡ level_at v (s.depth - 1)) where
        beyond : List Level
        beyond = someone.1

        ready_holds : Holds v low (low + span) h.around
        ready_holds = held text v s.count low (low + span) ready.holds h.trails

        -- the level that was loaded is the one around
        is_around : h.around ≡ outer ∷ beyond
        unfolding beyond
        is_around =
            let o : Level = someone.0 in
            let os : List Level = someone.1 in
            let deep : s.depth ≡ suc (length os) = h.deep ∙ ap length someone.2 in
            let top : level_at v (length os) ≡ o =
            holds_top v low (low + span) o os (omega (arith, ready.least)) (omega (arith, ready.most))
            (subst (Holds v low (low + span)) someone.2 ready_holds) in
            let depth : s.depth - 1 ≡ length os = omega arith in
            someone.2 ∙ ap (λ (l : Level). l ∷ os) (sym (loaded ∙ (ap (level_at v) depth ∙ top)))

        outer_small : Small (length text) outer
        outer_small = first_small (subst (Smalls (length text)) is_around left_of.smalls)

        surveyed_around :
            surveyed_to text list (s.count + 1)
            ≡ survey_token (source text list) (survey_of (source text list) s (outer ∷ beyond)) s.count (class_of t.kind)
        surveyed_around =
            surveyed_next
            ∙ ap (λ (ls : List Level). survey_token (source text list) (survey_of (source text list) s ls) s.count (class_of t.kind))
            is_around

        outer_inside : outer.m ≤ length (source text list).text
        unfolding source
        outer_inside = outer_small.m

        standing_leaves : t.act < 20 → Standing text list v (left_by s t low outer)
        unfolding left_by
        standing_leaves less =
            let step =
            token_leaves (source text list) s.count s.level outer beyond s.sort s.name t.kind s.mode left_of.mode
            s.fault h.sounds known.inside outer_inside (omega (arith, n.acts)) (omega (arith, n.acts)) in
            let trails =
            trails_next
            ∙ (trailed_closes text t.kind t.act t.begin t.behind s.mode s.level h.around s.name closing less
            ∙ ap (λ (ls : List Level). trail 13 (S.outer ls) (S.others ls) s.name) is_around) in
            record {
              cut = cut_behind h.cut n class;
              goes = goes_next;
              few = omega (arith, further);
              around = beyond;
              trails = trails;
              surveys = surveyed_around ∙ step.0;
              deep = omega (arith, h.deep, ap length is_around);
              shallow = omega (arith, h.shallow);
              holds =
                  refilled text v (s.count + 1) low (low + span) trails
                  (holds_closed v low (low + span) outer beyond (subst (Holds v low (low + span)) is_around ready_holds));
              least = omega (arith, ready.least);
              most = omega (arith, ready.most);
              size = ready.size;
              sounds = step.1;
            }

        standing_parts : t.act ≡ 20 → Standing text list v (parted_by s t low outer)
        unfolding parted_by
        standing_parts e =
            let step =
            rw there at
            (token_parts (source text list) s.count s.level outer beyond s.sort s.name t.kind s.mode left_of.mode
            s.fault h.sounds known.inside outer_inside (sym n.acts ∙ e)) in
            let trails =
            trails_next
            ∙ (trailed_parts text t.kind t.act t.begin t.behind s.mode s.level h.around s.name e
            ∙ ap (λ (ls : List Level). trail 0 (fresh 9 t.behind) ls s.name) is_around) in
            record {
              cut = cut_behind h.cut n class;
              goes = goes_next;
              few = omega (arith, further);
              around = outer ∷ beyond;
              trails = trails;
              surveys = surveyed_around ∙ step.0;
              deep = h.deep ∙ ap length is_around;
              shallow = omega (arith, h.shallow);
              holds = refilled text v (s.count + 1) low (low + span) trails (subst (Holds v low (low + span)) is_around ready_holds);
              least = omega (arith, ready.least);
              most = ready.most;
              size = ready.size;
              sounds = step.1;
            }

        pub standing_closes : Standing text list v (cond (eqb t.act 20) (parted_by s t low outer) (left_by s t low outer))
        standing_closes = by (eqb t.act 20) refl
          where
            most : t.act ≤ 20
            most = omega (arith, n.acts, (table_says t.kind s.mode (omega arith) left_of.mode).most)

            by : (b : Bool) → eqb t.act 20 ≡ b → Standing text list v (cond b (parted_by s t low outer) (left_by s t low outer))
            by true e = standing_parts (eqb-true t.act 20 e)
            by false e = let other = eqb-false t.act 20 e in standing_leaves (omega (arith, most, other))
