-- The survey advances: by a token that was seen, to where it stands behind it, or to its end with what is found. The laws are over what the
-- code read, a law for each way on.
-- Assumes nothing.
use Rattle.text.specs.declared.Run.TheVariants.{Spaces}
use Prim.Native.Nat.{ℕ, ◌+◌, ◌-◌, ◌≤◌, ◌<◌}
use mathlib.Core.Path.{◌≡◌, refl, sym, ◌∙◌, ap, subst⁻¹}
use mathlib.Core.Bool.{Bool, true, false, not, cond, true≢false}
use mathlib.Core.List.{List, []}
use mathlib.Core.Logic.{⊎_elim}
use native.Mathlib.Omega.{arith}
use Rattle.std.specs.Prelude.{Option}
use lib.Dec.{T, eqb}
use lib.ListN.{length}
use Rattle.meaning.proofs.Bools.{lt_or_ge}
use Rattle.text.specs.declared.Level.{Level}
use Rattle.text.specs.declared.Sort.TheVariants.{Unheld}
use Rattle.text.specs.Machine.{operand, rows, pick, run, is_stuck}
use Rattle.text.specs.Tokens.{run_end}
use Rattle.text.specs.Syntax.{read_all}
use Rattle.text.specs.Limited.{source}
use Rattle.text.specs.Reading.{byte_of}
use Rattle.text.specs.Forms.{form_of, found}
use Rattle.text.specs.Survey.{fresh, survey}
use Rattle.text.proofs.Cutting.{cut_start, byte_place}
use Rattle.modes.specs.Acts.{act_number, act_of}
use Rattle.levels.specs.Levels.{own_of, urgency_of, sound}
use Rattle.survey.specs.declared.walk.State.{State}
use Rattle.survey.specs.declared.look.Seen.{Seen}
use Rattle.survey.specs.declared.window.Slot.{Slot}
use Rattle.survey.specs.Window.{span, level_at, stored}
use Rattle.survey.specs.Looking.{Known, Sees}
use Rattle.survey.specs.Standing.{trail, trail_of, Goes, Reads, at_start, refusal, level_past, gone_on, opened_by, Opens, taken, is_bracketed, left_by, parted_by, last_fault, Standing, Closing, Ready, Surveyed, Advanced}
use Rattle.survey.proofs.Stored.{holds_none}
use Rattle.survey.proofs.Retrace.{byte_behind}
use Rattle.survey.proofs.Taking.{taken_some}
use Rattle.survey.proofs.Standing.{refilled, standing_refused, further, standing_goes, opens, standing_enters, closes, bracketed, standing_closes}
use Rattle.survey.proofs.Ending.{standing_ends}

-- ---- tests of what is not so

pub not_so : (b : Bool) → not b ≡ true → b ≡ false
not_so true e = sym e
not_so false e = refl

pub is_so : (b : Bool) → not b ≡ false → b ≡ true
is_so true e = refl
is_so false e = sym e

-- ---- it goes on, or it ends

module _ (text list : List ℕ) (w : List Slot) (k : ℕ) (r : State) where
  goes_on : Standing text list w r → r.ended ≡ false → r.count ≡ k + 1 → Advanced text list w k r
  goes_on h e n = record {
    surveyed = record { goes_on = λ _. h; ends = λ d. absurd (true≢false (sym d ∙ e)); size = h.size };
    further = λ _. n;
  }

  has_ended : r.ended ≡ true → r.fault ≡ found (form_of text) text list → length w ≡ span → Advanced text list w k r
  has_ended e f n = record {
    surveyed = record { goes_on = λ d. absurd (true≢false (sym e ∙ d)); ends = λ _. f; size = n };
    further = λ d. absurd (true≢false (sym e ∙ d));
  }

-- ---- nothing was read

module _ (text list : List ℕ) (w : List Slot) (n : length w ≡ span) where
  first : byte_of text 0 ≡ run_end Spaces text 0
  first = byte_behind (cut_start text)

  trails_first : trail_of text 0 ≡ trail 0 (fresh 0 (run_end Spaces text 0)) [] 0
  unfolding trail_of
  trails_first = ap (λ (p : ℕ). trail 0 (fresh 0 p) [] 0) first

  standing_start : Standing text list w (at_start (run_end Spaces text 0))
  unfolding Goes run is_stuck read_all urgency_of sound
  standing_start = record {
    cut = cut_start text;
    goes = refl;
    few = omega arith;
    around = [];
    trails = trails_first;
    surveys = ap (λ (p : ℕ). survey operand (fresh 0 p) [] Unheld 0 0) (sym (byte_place text list 0) ∙ first);
    deep = refl;
    shallow = omega arith;
    holds = refilled text w 0 0 span trails_first (holds_none w 0 span);
    least = omega arith;
    most = omega arith;
    size = n;
    sounds = tt;
  }

  pub surveyed_start : (s : State) → s ≡ at_start (run_end Spaces text 0) → Surveyed text list w s
  surveyed_start s e =
      subst⁻¹ (Surveyed text list w) e (record { goes_on = λ _. standing_start; ends = λ d. absurd (true≢false (sym d)); size = n })

-- ---- a token was seen

unknown_refused : (q : ℕ) → act_of 33 q ≡ 0
unfolding act_of act_number rows pick
unknown_refused q = refl

module _
    {text list : List ℕ} {w : List Slot} {s : State} (h : Standing text list w s) {t : Seen} (v : Sees text s.at s.due s.mode t) where
  -- it is the end of the text
  pub advanced_ends :
      (r : State) → t.kind ≡ 34 → (r.ended ≡ true) × (r.fault ≡ last_fault (length text) s) → Advanced text list w s.count r
  advanced_ends r e (d, f) =
      has_ended text list w s.count r d (f ∙ standing_ends h (omega (arith, v.last e, v.begins))) h.size

  -- it is not taken
  pub advanced_refused :
      (r : State) → (t.kind ≡ 34 → ⊥) → taken t.act s.level.kind ≡ false → (r.ended ≡ true) × (r.fault ≡ refusal t.begin)
      → Advanced text list w s.count r
  advanced_refused r more off (d, f) = has_ended text list w s.count r d (f ∙ lost) h.size
    where
      lost : refusal t.begin ≡ found (form_of text) text list
      lost =
          ⊎_elim
          (λ (l : t.kind < 33).
          let n : Known text s.at s.due s.mode t = v.known l in
          standing_refused h n.stands (ap (λ (a : ℕ). taken a s.level.kind) (sym n.acts) ∙ off))
          (λ (l : 33 ≤ t.kind).
          let e : t.kind ≡ 33 = omega (arith, v.class, more) in
          let none : act_of t.kind s.mode ≡ t.act =
          ap (λ (z : ℕ). act_of z s.mode) e ∙ (unknown_refused s.mode ∙ sym (v.refused l)) in
          standing_refused h (v.unknown e) (ap (λ (a : ℕ). taken a s.level.kind) none ∙ off))
          (lt_or_ge t.kind 33)

  module _ (on : taken t.act s.level.kind ≡ true) where
    class : t.kind < 33
    class =
        ⊎_elim (λ (l : t.kind < 33). l)
        (λ (l : 33 ≤ t.kind). absurd (omega (arith, v.refused l, taken_some t.act s.level.kind on)))
        (lt_or_ge t.kind 33)

    known : Known text s.at s.due s.mode t
    known = v.known class

    pub seen_further : s.count < t.end
    seen_further = further h known class on

    pub seen_reads : Reads text t.kind t.begin t.end
    seen_reads = record {
      due = s.due;
      inside = known.stands.inside;
      known = class;
      class = known.stands.kind_is;
      ends = known.stands.behind_is;
    }

    pub seen_opens : Opens s t
    seen_opens = opens h known class on

    pub seen_closes : 18 ≤ t.act → Closing text s.count s.depth s.low w
    seen_closes = closes h known class on

    pub seen_bracketed : 18 ≤ t.act → T (is_bracketed s.level.kind)
    seen_bracketed = bracketed h known class on

    -- it leads to a mode
    pub advanced_goes :
        (r : State) (own : Option ℕ) → own ≡ own_of (source text list) t.kind t.begin → t.act < 15 → r ≡ gone_on text own s t
        → Advanced text list w s.count r
    unfolding gone_on
    advanced_goes r own o less e =
        subst⁻¹ (Advanced text list w s.count) (e ∙ ap (λ (n : Option ℕ). gone_on text n s t) o)
        (goes_on text list w s.count (gone_on text (own_of (source text list) t.kind t.begin) s t)
        (standing_goes h known class on less) refl refl)

    -- it opens a level
    pub advanced_enters :
        (r : State) (own : Option ℕ) (w' : List Slot) → own ≡ own_of (source text list) t.kind t.begin → 15 ≤ t.act → t.act < 18
        → (r ≡ opened_by own s t) × (w' ≡ stored w s.depth (level_past s t)) → Advanced text list w' s.count r
    unfolding opened_by
    advanced_enters r own w' o least most (e, d) =
        subst⁻¹ (λ (u : List Slot). Advanced text list u s.count r) d
        (subst⁻¹ (Advanced text list (stored w s.depth (level_past s t)) s.count) (e ∙ ap (λ (n : Option ℕ). opened_by n s t) o)
        (goes_on text list (stored w s.depth (level_past s t)) s.count (opened_by (own_of (source text list) t.kind t.begin) s t)
        (standing_enters h known class on least most) refl refl))

    -- it closes a level or parts two arguments
    pub advanced_closes :
        (r : State) (w' : List Slot) (low : ℕ) (outer : Level) → 18 ≤ t.act → Ready text s.count s.depth low w'
        → outer ≡ level_at w' (s.depth - 1)
        → r ≡ cond (eqb t.act 20) (parted_by s t low outer) (left_by s t low outer) → Advanced text list w' s.count r
    unfolding left_by parted_by
    advanced_closes r w' low outer closing ready loaded e =
        subst⁻¹ (Advanced text list w' s.count) e
        (by (eqb t.act 20) (standing_closes h known class on closing ready loaded))
      where
        by :
            (b : Bool) → Standing text list w' (cond b (parted_by s t low outer) (left_by s t low outer))
            → Advanced text list w' s.count (cond b (parted_by s t low outer) (left_by s t low outer))
        by true st = goes_on text list w' s.count (parted_by s t low outer) st refl refl
        by false st = goes_on text list w' s.count (left_by s t low outer) st refl refl

-- ---- the survey ends

-- how many steps are left at most: the bytes left, and one for the end
abbrev pub steps_left : List ℕ → State → ℕ
steps_left text s = cond s.ended 0 (length text + 1 - s.count)

pub advanced_less :
    {text list : List ℕ} {w w' : List Slot} {s r : State} → s.ended ≡ false → Standing text list w s → Advanced text list w' s.count r
    → steps_left text r < steps_left text s
advanced_less {text = text} {s = s} {r = r} e h a = rw e (by r.ended refl)
  where
    inside : s.count ≤ length text
    inside = omega (arith, h.few, h.cut.within)

    by : (b : Bool) → r.ended ≡ b → cond b 0 (length text + 1 - r.count) < length text + 1 - s.count
    by true d = omega (arith, inside)
    by false d = omega (arith, inside, a.further d)
