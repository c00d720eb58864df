-- `files::writer::bytes_needed` meets its contract. The loop's invariant: the sum is the bytes of the lines before number i, of which a
-- number's has at most 18. Assumes nothing.
use Rattle.std.proofs.Common.{◌≡◌, ◌+◌, ◌*◌, ◌≤◌, length}
use Rattle.files.specs.Files.{joined}
use Rattle.files.specs.Parts.{lines_before}
use Rattle.files.proofs.writer.bytes_needed.Given as goal

abbrev pub invariant-loop-i : goal.invariant-loop-i
invariant-loop-i l = (l.sum ≡ length (joined (lines_before l.i l.table))) × (l.sum ≤ 27 + 18 * l.i)
