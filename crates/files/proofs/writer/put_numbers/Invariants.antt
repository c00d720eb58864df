-- `files::writer::put_numbers` meets its contract. The loop's invariant: the lines of the first i numbers are laid from where it began.
-- Assumes nothing.
use Rattle.std.proofs.Common.{◌≡◌, ◌+◌, length, take}
use Rattle.decimal.specs.Decimal.{laid}
use Rattle.files.specs.Files.{number_lines, joined}
use Rattle.files.proofs.writer.put_numbers.Given as goal

abbrev pub invariant-loop-i : goal.invariant-loop-i
invariant-loop-i l =
    (l.at ≡ l.from + length (joined (number_lines 0 (take l.i l.table)))) × (l.out ≡ laid l.initial.out l.from (joined (number_lines 0 (take l.i l.table))))
