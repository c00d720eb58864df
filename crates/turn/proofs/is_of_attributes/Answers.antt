-- `turn::is_of_attributes` meets its contract: 11 is the attribute axis's number, and no other is. Assumes nothing.
use Rattle.std.proofs.Common.{ℕ, ◌≡◌, Bool, true, false, cond, eqb, refl, sym, ◌∙◌, inl, inr, arith}
use borrow.Author.Tests.{ne_eqb}
use Rattle.meaning.specs.Axis.{axis_of, last_axis, principal}
use Rattle.meaning.specs.declared.Axis.TheVariants.{Attribute}
use Rattle.meaning.proofs.Bools.{eq_or_ne}
use Rattle.meaning.proofs.Decoding.{principal_kind}
use Rattle.turn.proofs.is_of_attributes.Goals as goal

five : (b : Bool) → ◌≡◌ {A = ℕ} 5 (cond b 5 1) → true ≡ b
five true h = refl
five false h = absurd (omega arith)

attribute_number : (n : ℕ) → Attribute ≡ axis_of n → true ≡ eqb n last_axis
unfolding principal
attribute_number n e = five (eqb n last_axis) (rw (← e) at (principal_kind n))

other_number : (n : ℕ) → (axis_of n ≡ Attribute → ⊥) → false ≡ eqb n last_axis
unfolding axis_of
other_number n f = elim (eq_or_ne n last_axis) [
  | inl e ↦ absurd (f (rw e))
  | inr z ↦ sym (ne_eqb n last_axis z)
]

pub returns-in-Attribute : goal.returns-in-Attribute
returns-in-Attribute c = attribute_number _ c.in-Attribute.ensures

pub returns-in_default : goal.returns-in_default
returns-in_default c = other_number _ (λ e. c.in_default.not-Attribute (c.axis_at.ensures ∙ e))
