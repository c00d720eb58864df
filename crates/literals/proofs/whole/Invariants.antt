-- The loop's invariant of `literals::whole`: the digits that are left, behind those of n, make the whole number, which is small enough for n to
-- be so too. Assumes nothing.
use Rattle.std.proofs.Common.{◌≡◌, drop}
use Rattle.decimal.specs.Decimal.{number_from, number}
use Rattle.text.specs.Limited.{digits}
use Rattle.literals.proofs.whole.Given as goal

abbrev pub invariant-loop-b : goal.invariant-loop-b
invariant-loop-b l = number_from l.n (digits (drop l.b-index l.word)) ≡ number (digits l.word)
