-- The twelve axes, an axis's nodes and their places, the tests and an axis's candidates (document 01, "The path form" and "Meaning";
-- document 02, W-203, W-209 and W-210).
-- Assumes nothing: these are definitions.
use Rattle.std.specs.Prelude.{ℕ, ◌-◌, Bool, true, false, ◌&&◌, ◌||◌, not, cond, List, [], ◌∷◌, get_or, leb, ltb, eqb}
use Rattle.meaning.specs.Lists.{up_to, down_from, keep, place_from}
use Rattle.meaning.specs.Table.{kind, name, parent_of, rows, end, is_text, is_attribute, sibling_before}
use Rattle.meaning.specs.declared.Axis.{Axis}
use Rattle.meaning.specs.declared.Axis.TheVariants.{Ancestor, AncestorOrSelf, Attribute, Child, Descendant, DescendantOrSelf, Following, FollowingSibling, Itself, Parent, Preceding, PrecedingSibling}
use Rattle.meaning.specs.declared.Test.{Test}
use Rattle.meaning.specs.declared.Test.TheVariants.{AnyNode, Comment, Instruction, Named, Star, Text}

-- axes 0 to 11, each at its number
abbrev pub axes : List Axis
axes =
    Itself ∷ Child ∷ Parent ∷ Descendant ∷ Ancestor ∷ DescendantOrSelf ∷ AncestorOrSelf
    ∷ Following ∷ Preceding ∷ FollowingSibling ∷ PrecedingSibling ∷ Attribute ∷ []

-- the number of the last one, attribute
abbrev pub last_axis : ℕ
last_axis = 11

-- the axis with a number; no axis has a number above the last, and no accepted path names one
unfoldable pub axis_of : ℕ → Axis
axis_of n = get_or axes n Itself

-- is x the parent of y? The root has none
unfoldable pub under : List ℕ → ℕ → ℕ → Bool
under t x y = ltb 0 y && eqb (parent_of t y) x

-- does y stand inside x, below it in the tree?
unfoldable pub inside : List ℕ → ℕ → ℕ → Bool
inside t x y = ltb x y && leb y (end t x)

-- is y later than x, and not inside it?
unfoldable pub after : List ℕ → ℕ → ℕ → Bool
after t x y = ltb x y && not (inside t x y)

-- is y on the axis of x? following is every later node that is not a descendant, preceding every earlier node that
-- is not an ancestor; siblings share a parent, the root has none. An attribute lies on no child, descendant, following, preceding or sibling
-- axis of any node, and has no siblings; it does lie on its own self and both -or-self axes
unfoldable pub on : List ℕ → Axis → ℕ → ℕ → Bool
on t Itself x y = eqb x y
on t Child x y = under t x y && not (is_attribute t y)
on t Parent x y = under t y x
on t Descendant x y = inside t x y && not (is_attribute t y)
on t Ancestor x y = inside t y x
on t DescendantOrSelf x y = eqb x y || (inside t x y && not (is_attribute t y))
on t AncestorOrSelf x y = eqb x y || inside t y x
on t Following x y = after t x y && not (is_attribute t y)
on t Preceding x y = after t y x && not (is_attribute t y)
on t FollowingSibling x y = sibling_before t y x
on t PrecedingSibling x y = sibling_before t x y
on t Attribute x y = under t x y && is_attribute t y

-- descending order for axes 2, 4, 6, 8, 10, ascending order for the others
unfoldable pub is_reverse : Axis → Bool
is_reverse Itself = false
is_reverse Child = false
is_reverse Parent = true
is_reverse Descendant = false
is_reverse Ancestor = true
is_reverse DescendantOrSelf = false
is_reverse AncestorOrSelf = true
is_reverse Following = false
is_reverse Preceding = true
is_reverse FollowingSibling = false
is_reverse PrecedingSibling = true
is_reverse Attribute = false

-- the rows in document order, or in reverse
unfoldable pub ordered : Bool → ℕ → List ℕ
ordered reverse n = cond reverse (down_from n) (up_to n)

-- the nodes on the axis of x, in axis order
unfoldable pub axis_nodes : List ℕ → Axis → ℕ → List ℕ
axis_nodes t axis x = keep (on t axis x) (ordered (is_reverse axis) (rows t))

-- the place of y on the axis of x, from 1 in axis order, before any test; 0 where it is not there
unfoldable pub place : List ℕ → Axis → ℕ → ℕ → ℕ
place t axis x y = place_from 1 (axis_nodes t axis x) y

-- the kind that names, and in edition 2 `*`, match on an axis: attributes on the attribute axis, elements on all others
unfoldable pub principal : Axis → ℕ
principal Itself = 1
principal Child = 1
principal Parent = 1
principal Descendant = 1
principal Ancestor = 1
principal DescendantOrSelf = 1
principal AncestorOrSelf = 1
principal Following = 1
principal Preceding = 1
principal FollowingSibling = 1
principal PrecedingSibling = 1
principal Attribute = 5

-- tests 0 to 4, and 16 + k for the name k
unfoldable pub test_of : ℕ → Test
test_of n = cond (leb n 4) (get_or (AnyNode ∷ Star ∷ Text ∷ Comment ∷ Instruction ∷ []) n AnyNode) (Named (n - 16))

-- does node y pass the test, where names match the kind k? `*` matches any node in edition 1, and the kind k in edition 2
unfoldable pub passes : ℕ → List ℕ → ℕ → Test → ℕ → Bool
passes edition t k AnyNode y = true
passes edition t k Star y = eqb edition 1 || eqb (kind t y) k
passes edition t k Text y = is_text t y
passes edition t k Comment y = eqb (kind t y) 3
passes edition t k Instruction y = eqb (kind t y) 4
passes edition t k (Named n) y = eqb (kind t y) k && eqb (name t y) n

-- the axis nodes of x that pass the test, in axis order
unfoldable pub candidates : ℕ → List ℕ → Axis → Test → ℕ → List ℕ
candidates edition t axis test x = keep (passes edition t (principal axis) test) (axis_nodes t axis x)
