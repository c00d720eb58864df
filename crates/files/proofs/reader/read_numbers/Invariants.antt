-- `files::reader::read_numbers` meets its contract. The loop's invariant: the lines before number i have been read (`Passed`).
-- Assumes nothing.
use Rattle.files.specs.Parts.{Passed}
use Rattle.files.proofs.reader.read_numbers.Given as goal

abbrev pub invariant-loop-i : goal.invariant-loop-i
invariant-loop-i l = Passed l.file l.at l.i l.numbers
