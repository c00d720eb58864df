-- The end of the survey: where the text ends it is whole or refused there, and the fault that was found is the lowest of the text's.
-- Assumes nothing.
use Rattle.text.specs.declared.Run.TheVariants.{Spaces}
use Prim.Native.Nat.{ℕ, suc, ◌≤◌, ◌<◌}
use mathlib.Core.Path.{◌≡◌, refl, sym, ◌∙◌, ap, subst}
use mathlib.Core.Bool.{Bool, true, false, ◌&&◌, ◌||◌, cond}
use mathlib.Core.List.{List, [], ◌∷◌}
use Rattle.std.specs.Prelude.{Option, None, Some}
use native.Mathlib.Omega.{arith}
use lib.Dec.{T, eqb, leb, eqb→eq}
use lib.ListN.{length, take}
use lib.Seq.{take-length}
use borrow.Author.Tests.{ne_eqb}
use Rattle.meaning.proofs.Bools.{truly}
use Rattle.text.specs.declared.Fault.{Fault}
use Rattle.text.specs.declared.Level.{Level}
use Rattle.text.specs.Grammar.{Token, Sentence}
use Rattle.text.specs.Tokens.{classes_of, run_end}
use Rattle.text.specs.Machine.{Mode, reading, run, start, is_stuck, accepting, accepts, has, ending, number}
use Rattle.text.specs.Syntax.{read_all}
use Rattle.text.specs.Growing.{syntax_of}
use Rattle.text.specs.Limited.{Source, source, text_faults, least}
use Rattle.text.specs.Reading.{Form}
use Rattle.text.specs.Forms.{form_of, lowest_of, found}
use Rattle.text.specs.Survey.{worst, noted, end_faults, survey_token, unread, finished, surveyed}
use Rattle.text.proofs.Cutting.{cut_end, classes_length, source_ascends}
use Rattle.text.proofs.Forms.{form_accepted, form_unended}
use Rattle.text.proofs.Viable.{accepts_exactly}
use Rattle.text.proofs.Surveying.Survey.{survey_right}
use Rattle.text.proofs.Surveying.Least.{InText, AllInText, worst_least, least_in_text, urgency_positive, urgency_tells, faults_in_text}
use Rattle.levels.specs.Levels.{lowered, urgency_of}
use Rattle.levels.proofs.Modes.{mode_at, fourteen}
use Rattle.levels.proofs.Urgent.{Possible, Tells, sound_is, none_urgent, there_urgent, same_fault, sound_tells, end_faults_tell}
use Rattle.levels.proofs.Nesting.{brackets_of}
use Rattle.modes.proofs.Table.{every, at}
use Rattle.survey.specs.declared.walk.State.{State}
use Rattle.survey.specs.declared.window.Slot.{Slot}
use Rattle.survey.specs.Standing.{refusal, last_fault, Standing}
use Rattle.survey.proofs.Standing.{goes_is, left_of, machine}

-- ---- the lowest fault, by how urgent it is

module _ (s : Source) where
  possible_in_text : (f : Fault) → Possible s f.number f.place → InText s f
  possible_in_text f p = record { from_24 = p.least; to_26 = p.most; within = p.within }

  pub told_lowest : (f : Option Fault) (fs : List Fault) → AllInText s fs → Tells s f (worst s fs) → f ≡ lowest_of fs
  unfolding lowest_of worst
  told_lowest None [] all told = refl
  told_lowest (Some f) [] all told =
      absurd (omega (arith, there_urgent s f, told.urgent, urgency_positive s f (possible_in_text f (sound_is s f told.safe))))
  told_lowest None (g ∷ gs) all told =
      absurd (omega (arith, none_urgent s, told.urgent, worst_least s g gs all, urgency_positive s (least g gs) (least_in_text s g gs all)))
  told_lowest (Some f) (g ∷ gs) all told =
      let tells =
      urgency_tells s f (least g gs) (possible_in_text f (sound_is s f told.safe)) (least_in_text s g gs all)
      (sym (there_urgent s f) ∙ (told.urgent ∙ worst_least s g gs all)) in
      ap Some (same_fault s f (least g gs) tells.0 tells.1)

-- ---- where an operand is whole

is_whole : ℕ → Bool
is_whole q = eqb q 3 || leb 12 q

-- a truth as a number
abbrev bit : Bool → ℕ
bit b = cond b 1 0

is_ending : ℕ → ℕ → Bool
is_ending q x = eqb (bit (has ending (mode_at q))) (bit (is_whole q))

every_ending : T (every is_ending 0 fourteen)
unfolding is_ending is_whole fourteen has number
every_ending = tt

bit_tells : (a b : Bool) → bit a ≡ bit b → a ≡ b
bit_tells true true e = refl
bit_tells true false e = absurd (omega (arith, e))
bit_tells false true e = absurd (omega (arith, e))
bit_tells false false e = refl

ending_mode : (q : ℕ) → q < 14 → has ending (mode_at q) ≡ is_whole q
unfolding is_ending fourteen
ending_mode q h =
    bit_tells (has ending (mode_at q)) (is_whole q) (eqb→eq (bit (has ending (mode_at q))) (bit (is_whole q)) (at is_ending fourteen every_ending q h))

-- a text ends there, and with no bracket open
accepting_is : (m : Mode) (l : Level) (ls : List Level) → accepting (reading m (brackets_of l ls)) ≡ (has ending m && eqb (length ls) 0)
unfolding accepting brackets_of
accepting_is m l [] = by (has ending m)
  where
    by : (b : Bool) → b ≡ (b && true)
    by true = refl
    by false = refl
accepting_is m l (o ∷ ls) = rw (ne_eqb (suc (length ls)) 0 (λ e. omega arith)) (by (has ending m))
  where
    by : (b : Bool) → false ≡ (b && false)
    by true = refl
    by false = refl

-- ---- the end of the text

module _ {text list : List ℕ} {w : List Slot} {s : State} (h : Standing text list w s) (last : length text ≤ run_end Spaces text s.at) where
  all_read : take s.count (classes_of text) ≡ classes_of text
  all_read =
      let e : s.count ≡ length (classes_of text) = cut_end h.cut last ∙ sym (classes_length text) in
      ap (λ (k : ℕ). take k (classes_of text)) e ∙ take-length (classes_of text)

  accepts_is : accepts (classes_of text) ≡ (is_whole s.mode && eqb s.depth 0)
  accepts_is =
      ap (λ (ts : List Token). accepting (run start ts)) (sym all_read)
      ∙ (ap accepting (machine h).0
      ∙ (accepting_is (mode_at s.mode) s.level h.around
      ∙ (ap (λ (b : Bool). b && eqb (length h.around) 0) (ending_mode s.mode (left_of h).mode)
      ∙ ap (λ (d : ℕ). is_whole s.mode && eqb d 0) (sym h.deep))))

  -- the fault behind the whole text, and how urgent the survey has it
  abbrev ended : Option Fault
  ended = end_faults lowered s.level s.sort s.fault

  abbrev urgent : ℕ
  urgent = end_faults (noted (source text list)) s.level s.sort (urgency_of (source text list) s.fault)

  ends_surveyed : surveyed (source text list) (classes_of text) ≡ urgent
  unfolding surveyed finished
  ends_surveyed =
      ap (finished (source text list))
      (ap (read_all (survey_token (source text list)) (unread (source text list)) 0) (sym all_read) ∙ h.surveys)

  ends_tell : Tells (source text list) ended urgent
  unfolding source
  ends_tell =
      end_faults_tell (source text list) s.sort
      (record { e_inside = (left_of h).small.e; g_inside = (left_of h).small.g; m_inside = (left_of h).small.m })
      (sound_tells (source text list) s.fault h.sounds)

  -- a text of the grammar: its lowest fault
  ends_lowest : Sentence (classes_of text) → ended ≡ lowest_of (text_faults (source text list) (syntax_of (classes_of text)))
  ends_lowest d =
      let faults : List Fault = text_faults (source text list) (syntax_of (classes_of text)) in
      let worsts : urgent ≡ worst (source text list) faults =
      sym ends_surveyed ∙ survey_right (source text list) (source_ascends text list) (classes_of text) d in
      told_lowest (source text list) ended faults (faults_in_text text list d) (subst (Tells (source text list) ended) worsts ends_tell)

  pub standing_ends : last_fault (length text) s ≡ found (form_of text) text list
  unfolding last_fault found is_whole
  standing_ends = by (is_whole s.mode && eqb s.depth 0) accepts_is
    where
      by : (b : Bool) → accepts (classes_of text) ≡ b → cond b ended (refusal (length text)) ≡ found (form_of text) text list
      by true e =
          ends_lowest ((accepts_exactly (classes_of text)).0 (truly e)) ∙ sym (ap (λ (f : Form). found f text list) (form_accepted text e))
      by false e =
          sym
          (ap (λ (f : Form). found f text list)
          (form_unended text (ap (λ (ts : List Token). is_stuck (run start ts)) (sym all_read) ∙ goes_is text s.count h.goes) e))
