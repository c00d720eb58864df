-- A file as a line holds it.
use Rattle.std.specs.Prelude.{ℕ, eqb, if◌then◌else◌}

-- what a byte of a line stands for in a file: a slash (47) for a line feed (10)
abbrev pub file_byte : ℕ → ℕ
file_byte b = if eqb b 47 then 10 else b
