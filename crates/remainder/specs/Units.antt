-- Sizes of doubles as whole numbers of units, the smallest of them, 2 ^ -1074.
-- Assumes nothing: these are definitions.
use Rattle.std.specs.Prelude.{ℕ, ◌*◌, ◌^◌}

-- digits times 2 to the shift
abbrev pub size_of : ℕ → ℕ → ℕ
size_of digits shift = digits * 2 ^ shift
