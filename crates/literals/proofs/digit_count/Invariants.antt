-- The loop's invariant of `literals::digit_count`: what is counted, with the digits that are left, is all of them. Assumes nothing.
use Rattle.std.proofs.Common.{◌+◌, ◌≤◌, ◌≡◌, length, drop}
use Rattle.text.specs.Limited.{digits}
use Rattle.literals.proofs.digit_count.Given as goal

abbrev pub invariant-loop-b : goal.invariant-loop-b
invariant-loop-b l = (l.count ≤ l.b-index) × (l.count + length (digits (drop l.b-index l.word)) ≡ length (digits l.word))
