-- The answers of `decimal::read`: what its code leaves to show, by the invariant beside this file. Assumes nothing.
use Rattle.std.proofs.Common.{◌≡◌, ℕ, List, true, false, length, take, get_or, ◌<◌, refl, sym, ◌∙◌, arith, length-take-le}
use mathlib.Core.Logic.{⊎_elim}
use Rattle.std.proofs.lemmas.Slice.{between_to_end}
use Rattle.decimal.specs.Decimal.{is_digit, most_number, leading, number, plain}
use Rattle.decimal.proofs.Decimals.{reading_starts, reading_more, reading_large, no_digit_outside, read_large, read_done, read_outside}
use Rattle.decimal.proofs.read.Goals as goal
use Rattle.decimal.proofs.read.Goals.{else-loop-byte-test, then-loop-byte-test+then-not-is_ascii_digit}

pub returns-in_err-rest : goal.returns-in_err-rest
returns-in_err-rest c =
    let outside : length c.args.text.now < c.args.at = ⊎_elim (λ (h : length c.args.text.now < c.args.at). h) (λ (h : length c.args.text.now < length c.args.text.now). absurd (omega arith)) c.in_err-rest.ensures.lookup.0 in
    rw (c.from_residual.ensures, read_outside c.args.text.now c.args.at outside)

pub loop-byte-init : goal.loop-byte-init
loop-byte-init c =
    let h = c.in_ok-rest.ensures.lookup.0 in
    record {
      from = h.2 ∙ between_to_end c.args.text.now c.args.at _ (omega arith);
      within = omega arith;
      inside = omega arith;
      counts = refl;
      bounded = omega arith;
      reading = reading_starts _;
    }

pub returns-then-value-ge-TOO_LARGE : goal.returns-then-value-ge-TOO_LARGE
returns-then-value-ge-TOO_LARGE c =
    let l = c.loop-byte.invariant in
    let rest : List ℕ = c.in_ok-rest.rest.now in
    let digit = sym c.is_ascii_digit.ensures.value ∙ c.if-not-is_ascii_digit.false in
    let more = reading_more rest c.loop-byte.value c.loop-byte.byte-index l.reading digit in
    let large : most_number < number (leading rest) = reading_large rest _ _ more (omega arith) in
    sym (read_large c.args.text.now c.args.at (rw (← l.from) large))

pub loop-byte-preserved : goal.loop-byte-preserved
loop-byte-preserved c =
    let l = c.loop-byte.invariant in
    let digit = sym c.is_ascii_digit.ensures.value ∙ c.if-not-is_ascii_digit.false in
    record {
      from = l.from;
      within = l.within;
      inside = omega arith;
      counts = omega arith;
      bounded = omega arith;
      reading = reading_more c.in_ok-rest.rest.now c.loop-byte.value c.loop-byte.byte-index l.reading digit;
    }

pub slice_bounds-is_plain-end : goal.slice_bounds-is_plain-end
slice_bounds-is_plain-end c = sym (length-take-le c.loop-byte.count c.in_ok-rest.rest.now (omega arith))

pub overflow_add-result : goal.overflow_add-result
overflow_add-result c = omega arith

pub returns-then-is_plain : goal.returns-then-is_plain
returns-then-is_plain c =
    let l = c.loop-byte.invariant in
    let rest : List ℕ = c.in_ok-rest.rest.now in
    let last : is_digit (get_or rest c.loop-byte.byte-index 0) ≡ false =
    elim c.loop-byte-test.branch [
      | else-loop-byte-test w ↦ no_digit_outside rest c.loop-byte.byte-index w.loop-byte-test.false
      | then-loop-byte-test+then-not-is_ascii_digit w ↦ sym w.is_ascii_digit.ensures.value ∙ w.if-not-is_ascii_digit.true
    ]
    in
    let plain_so : plain (take c.loop-byte.byte-index rest) ≡ true = rw (← l.counts) (sym c.is_plain.ensures ∙ c.if-is_plain.true) in
    rw l.counts (sym (read_done c.args.text.now c.args.at rest c.loop-byte.value c.loop-byte.byte-index l.from l.reading last l.bounded ∙ rw plain_so))

pub returns-else-is_plain : goal.returns-else-is_plain
returns-else-is_plain c =
    let l = c.loop-byte.invariant in
    let rest : List ℕ = c.in_ok-rest.rest.now in
    let last : is_digit (get_or rest c.loop-byte.byte-index 0) ≡ false =
    elim c.loop-byte-test.branch [
      | else-loop-byte-test w ↦ no_digit_outside rest c.loop-byte.byte-index w.loop-byte-test.false
      | then-loop-byte-test+then-not-is_ascii_digit w ↦ sym w.is_ascii_digit.ensures.value ∙ w.if-not-is_ascii_digit.true
    ]
    in
    let plain_so : plain (take c.loop-byte.byte-index rest) ≡ false = rw (← l.counts) (sym c.is_plain.ensures ∙ c.if-is_plain.false) in
    sym (read_done c.args.text.now c.args.at rest c.loop-byte.value c.loop-byte.byte-index l.from l.reading last l.bounded ∙ rw plain_so)
