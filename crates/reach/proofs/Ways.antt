-- The way back along an axis: what a pass says of two rows, with the attributes that it leaves out, is what `on` says of them the other way
-- round. The way along an axis is a pass by definition.
-- Assumes nothing.
use Rattle.std.proofs.Common.{◌≡◌, ◌∙◌, ℕ, true, false, ◌&&◌, ◌||◌, not, List, eqb}
use mathlib.Core.Bool.{and-true, and_comm}
use Rattle.meaning.specs.Table.{is_attribute}
use Rattle.meaning.specs.Axis.{under, inside, after, on}
use Rattle.meaning.specs.declared.Axis.TheVariants.{Ancestor, AncestorOrSelf, Attribute, Child, Descendant, DescendantOrSelf, Following, Parent, Preceding}
use Rattle.meaning.proofs.Bools.{eqb_sym}
use Rattle.reach.specs.declared.Asked.TheVariants.{All, Plain, Attributes}
use Rattle.reach.specs.Reach.{admitted}

-- from x to the rows y on whose axis it is
module _ (t : List ℕ) (x y : ℕ) where
  pub back_child : (admitted t Plain x && under t y x) ≡ on t Child y x
  unfolding on admitted
  back_child = and_comm (not (is_attribute t x)) (under t y x)

  pub back_parent : (under t x y && admitted t All y) ≡ on t Parent y x
  unfolding on admitted
  back_parent = and-true (under t x y)

  pub back_descendant : ((false && eqb x y) || (admitted t Plain x && inside t y x)) ≡ on t Descendant y x
  unfolding on admitted
  back_descendant = and_comm (not (is_attribute t x)) (inside t y x)

  pub back_ancestor : ((false && eqb x y) || (inside t x y && admitted t All y)) ≡ on t Ancestor y x
  unfolding on admitted
  back_ancestor = and-true (inside t x y)

  pub back_descendant_or_self : ((true && eqb x y) || (admitted t Plain x && inside t y x)) ≡ on t DescendantOrSelf y x
  unfolding on admitted
  back_descendant_or_self = rw (eqb_sym x y, and_comm (not (is_attribute t x)) (inside t y x))

  pub back_ancestor_or_self : ((true && eqb x y) || (inside t x y && admitted t All y)) ≡ on t AncestorOrSelf y x
  unfolding on admitted
  back_ancestor_or_self = rw (eqb_sym x y, and-true (inside t x y))

  pub back_following : ((admitted t Plain x && after t y x) && admitted t All y) ≡ on t Following y x
  unfolding on admitted
  back_following = and-true (not (is_attribute t x) && after t y x) ∙ and_comm (not (is_attribute t x)) (after t y x)

  pub back_preceding : ((admitted t Plain x && after t x y) && admitted t All y) ≡ on t Preceding y x
  unfolding on admitted
  back_preceding = and-true (not (is_attribute t x) && after t x y) ∙ and_comm (not (is_attribute t x)) (after t x y)

  pub back_attribute : (admitted t Attributes x && under t y x) ≡ on t Attribute y x
  unfolding on admitted
  back_attribute = and_comm (is_attribute t x) (under t y x)
