-- `reach::reach_back` meets its contract: one answer for each axis.
-- Assumes nothing.
use Rattle.meaning.specs.Axis.{on}
use Rattle.reach.specs.Reach.{Hits, hit}
use Rattle.reach.proofs.Sweep.{hits_alike, self_hits_back}
use Rattle.reach.proofs.Ways.{back_child, back_parent, back_descendant, back_ancestor, back_descendant_or_self, back_ancestor_or_self, back_following, back_preceding, back_attribute}
use Rattle.reach.proofs.reach_back.Goals as goal

pub returns-in-Itself : goal.returns-in-Itself
returns-in-Itself c = rw c.in-Itself.is (self_hits_back _ _)

pub returns-in-Child : goal.returns-in-Child
returns-in-Child c = rw c.in-Child.is (hits_alike _ _ _ _ _ c.mark_over.ensures (λ x y. back_child _ x y))

pub returns-in-Parent : goal.returns-in-Parent
returns-in-Parent c = rw c.in-Parent.is (hits_alike _ _ _ _ _ c.mark_under.ensures (λ x y. back_parent _ x y))

pub returns-in-Descendant : goal.returns-in-Descendant
returns-in-Descendant c = rw c.in-Descendant.is (hits_alike _ _ _ _ _ c.mark_around.ensures (λ x y. back_descendant _ x y))

pub returns-in-Ancestor : goal.returns-in-Ancestor
returns-in-Ancestor c = rw c.in-Ancestor.is (hits_alike _ _ _ _ _ c.mark_inside.ensures (λ x y. back_ancestor _ x y))

pub returns-in-DescendantOrSelf : goal.returns-in-DescendantOrSelf
returns-in-DescendantOrSelf c = rw c.in-DescendantOrSelf.is (hits_alike _ _ _ _ _ c.mark_around-in-DescendantOrSelf.ensures (λ x y. back_descendant_or_self _ x y))

pub returns-in-AncestorOrSelf : goal.returns-in-AncestorOrSelf
returns-in-AncestorOrSelf c = rw c.in-AncestorOrSelf.is (hits_alike _ _ _ _ _ c.mark_inside-in-AncestorOrSelf.ensures (λ x y. back_ancestor_or_self _ x y))

pub returns-in-Following : goal.returns-in-Following
returns-in-Following c = rw c.in-Following.is (hits_alike _ _ _ _ _ c.mark_before.ensures (λ x y. back_following _ x y))

pub returns-in-Preceding : goal.returns-in-Preceding
returns-in-Preceding c = rw c.in-Preceding.is (hits_alike _ _ _ _ _ c.mark_after.ensures (λ x y. back_preceding _ x y))

pub returns-in-FollowingSibling : goal.returns-in-FollowingSibling
unfolding on Hits hit
returns-in-FollowingSibling c = rw c.in-FollowingSibling.is c.mark_earlier_siblings.ensures

pub returns-in-PrecedingSibling : goal.returns-in-PrecedingSibling
unfolding on Hits hit
returns-in-PrecedingSibling c = rw c.in-PrecedingSibling.is c.mark_later_siblings.ensures

pub returns-in-Attribute : goal.returns-in-Attribute
returns-in-Attribute c = rw c.in-Attribute.is (hits_alike _ _ _ _ _ c.mark_over-in-Attribute.ensures (λ x y. back_attribute _ x y))
