-- The bytes behind the loop are what those of the text stand for.
use Rattle.std.proofs.Common.{◌≡◌, map, take}
use Rattle.lines.specs.Files.{file_byte}
use Rattle.lines.proofs.read_file.Given as goal

abbrev pub invariant-loop-i : goal.invariant-loop-i
invariant-loop-i l = take l.i l.entry-items ≡ map file_byte (take l.i l.text)
