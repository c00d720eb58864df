-- Kinds are compared by their numbers.
-- Assumes nothing.
use Rattle.std.proofs.Common.{ℕ, zero, suc, ◌≡◌, ◌<◌, eqb, leb, min, refl, arith}
use Rattle.std.proofs.lemmas.Bool.Decides.{nat_tests}
use denote.Enum.Declared.{tag_of}
use Rattle.table.specs.contracts.Kind.{the_type}
use Rattle.table.specs.Kinds.{kind_of}

-- a kind's tag is its number, up to 5
kind_tag : (n : ℕ) → tag_of the_type (kind_of n) ≡ min n 6
unfolding kind_of
kind_tag zero = refl
kind_tag (suc zero) = refl
kind_tag (suc (suc zero)) = refl
kind_tag (suc (suc (suc zero))) = refl
kind_tag (suc (suc (suc (suc zero)))) = refl
kind_tag (suc (suc (suc (suc (suc zero))))) = refl
kind_tag (suc (suc (suc (suc (suc (suc n)))))) = omega arith

-- so the kind with a number is one of the six exactly if the number is that one's
pub same_kind : (n k : ℕ) → k < 6 → eqb (tag_of the_type (kind_of n)) k ≡ eqb n k
same_kind n k l = rw kind_tag (grind (arith, nat_tests))

-- and it is unknown exactly if the number is above theirs
pub unknown_kind : (n : ℕ) → eqb (tag_of the_type (kind_of n)) 6 ≡ leb 6 n
unknown_kind n = rw kind_tag (grind (arith, nat_tests))
