-- The five parts of the tree (document 02, W-208): self, ancestors, descendants, what precedes and what follows hold every node that is
-- no attribute once, as axes and as what evaluation answers for them; and each -or-self axis is the union of its two parts.
-- Assumes nothing.
use Prim.Native.Nat.{ℕ, ◌<◌, ◌≤◌}
use mathlib.Core.Path.{◌≡◌, refl, sym, ap, ◌∙◌}
use mathlib.Core.Logic.{inl, inr}
use mathlib.Core.Bool.{Bool, true, false, ◌&&◌, ◌||◌, not, cond, and-true, and-false, true≢false}
use mathlib.Core.List.{List, [], ◌∷◌, map}
use lib.ListN.{length, take}
use lib.Dec.{leb, eqb}
use lib.Seq.{take-append_seam}
use native.Mathlib.Omega.{arith}
use borrow.Author.Tests.{lt-ltb, le-ltb, eq-eqb, ne_eqb, le-leb}
use Rattle.meaning.specs.Lists.{keep, some, up_to, has}
use Rattle.meaning.specs.Table.{rows, end, is_attribute, accepted}
use Rattle.meaning.specs.Axis.{axis_of, last_axis, inside, after, on, test_of, passes}
use Rattle.meaning.specs.declared.Axis.{Axis}
use Rattle.meaning.specs.declared.Axis.TheVariants.{Ancestor, AncestorOrSelf, Descendant, DescendantOrSelf, Following, Itself, Preceding}
use Rattle.meaning.specs.declared.Op.TheVariants.{Relative, Step}
use Rattle.meaning.specs.Answers.{answer, path_tree, path_checks, path_answer, is_edition, selected, evaluation, output, evaluated}
use Rattle.meaning.specs.Rows.{path_length_allowed, op_of, fields_of, code, is_path, is_step, is_literal, is_unknown, is_link, takes, may_miss, good_link, good_test, good_field, good_fields, follow, first_link, second_link, links, linked_below, links_again, misplaced, broken_row}
use Rattle.meaning.specs.Tree.{none, node, index_or_axis, test_at, linked, tree, depth}
use Rattle.meaning.specs.Meaning.{is_absolute, start_of, select, walk}
use Rattle.meaning.specs.Turning.{counting}
use Rattle.meaning.specs.Cases.{line}
use Rattle.meaning.specs.declared.Answer.{Answer}
use Rattle.meaning.proofs.Bools.{lt_or_ge, is_true, is_false}
use Rattle.meaning.proofs.Lists.{has_keep, has_up_to_from, length_up_to, keep_up_to, keep_shorter}
use Rattle.meaning.proofs.Tables.{Plain}
use Rattle.meaning.proofs.Places.{placed, placed_on}
use Rattle.meaning.proofs.Attributes.{inside_plain}
use Rattle.meaning.proofs.Free.{ok, free_walk}
use Rattle.meaning.proofs.Windows.{some_one}
use Rattle.meaning.proofs.Exactly.{selects, evaluation_exactly}
use Rattle.meaning.proofs.Checks.{path_accepted}

-- ---- exactly one of five

-- self, ancestor, descendant, preceding and following, by their numbers
abbrev pub five_parts : List ℕ
five_parts = 0 ∷ 4 ∷ 3 ∷ 8 ∷ 7 ∷ []

pub five_names : map axis_of five_parts ≡ Itself ∷ Ancestor ∷ Descendant ∷ Preceding ∷ Following ∷ []
unfolding axis_of
five_names = refl

-- of a test and its opposite one holds
one_of_two : (b : Bool) (m n : ℕ) → length (cond b (m ∷ cond (not b) (n ∷ []) []) (cond (not b) (n ∷ []) [])) ≡ 1
one_of_two true m n = refl
one_of_two false m n = refl

-- a y that is no attribute lies on exactly one of them: the axes of x on which it lies are one in number. Less than an accepted table and
-- two of its nodes is needed: for any two numbers one is below the other or they are equal, and `inside` parts the later ones and the
-- earlier ones in two
pub five_parts_lem : (t : List ℕ) (x y : ℕ) → is_attribute t y ≡ false → length (keep (λ axis. on t (axis_of axis) x y) five_parts) ≡ 1
unfolding axis_of on inside after keep
five_parts_lem t x y p = elim (lt_or_ge x y) [
  | inl l ↦ rw (ne_eqb x y (λ e. omega arith), lt-ltb x y l, le-ltb y x (omega arith), p, and-true (leb y (end t x)), and-true (not (leb y (end t x)))) (one_of_two (leb y (end t x)) 3 7)
  | inr g ↦ elim (lt_or_ge y x) [
    | inl l ↦ rw (ne_eqb x y (λ e. omega arith), le-ltb x y g, lt-ltb y x l, p, and-true (not (leb x (end t y)))) (one_of_two (leb x (end t y)) 4 8)
    | inr h ↦ rw (eq-eqb x y (omega arith), le-ltb x y g, le-ltb y x h)
  ]
]

-- an attribute of an accepted table lies on none of them but its own self
pub five_parts_attribute : (t : List ℕ) → accepted t ≡ true → (x y : ℕ) → x < rows t → is_attribute t y ≡ true → keep (λ axis. on t (axis_of axis) x y) five_parts ≡ cond (eqb x y) (0 ∷ []) []
unfolding axis_of on keep
five_parts_attribute t acc x y h a =
    let around : inside t y x ≡ false = is_false (inside t y x) (λ k. true≢false (sym a ∙ inside_plain t acc x y h k)) in
    rw (a, around, and-false (inside t x y), and-false (after t y x), and-false (after t x y))

-- ---- -or-self

-- the -or-self axis of an axis
pub data OrSelf : Axis → Axis → Type 0 where
  descendants : OrSelf Descendant DescendantOrSelf
  ancestors : OrSelf Ancestor AncestorOrSelf

-- it is the union of self and that axis, on every table and for any two numbers
pub or_self_is_union : {axis or_self : Axis} → OrSelf axis or_self → (t : List ℕ) (x y : ℕ) → on t or_self x y ≡ (on t Itself x y || on t axis x y)
unfolding on
or_self_is_union descendants t x y = refl
or_self_is_union ancestors t x y = refl

-- ---- the five answers

-- the path of one step: any node on the axis with this number
abbrev pub axis_path : ℕ → List ℕ
axis_path axis = line 24 0 0 axis 0 (line 22 1 0 0 0 [])

-- what evaluation of that path from x in an edition writes to the output: its front, as long as the place says
abbrev pub answered : ℕ → List ℕ → ℕ → ℕ → List ℕ → List ℕ
answered edition t axis x out = take (evaluation edition t (axis_path axis) [] x (length out)).place (evaluated edition t (axis_path axis) [] x out)

axis_path_good : (axis : ℕ) → axis ≤ last_axis → path_answer (axis_path axis) [] ≡ answer 0 2
unfolding path_answer path_checks some up_to path_length_allowed op_of fields_of code is_path is_step is_unknown is_link takes may_miss good_link good_test good_field good_fields follow first_link second_link links linked_below links_again misplaced broken_row linked tree depth
axis_path_good axis h = rw (le-leb axis last_axis h)

axis_path_tree : (axis : ℕ) → path_tree (axis_path axis) ≡ node Relative (node Step none none axis 0) none 0 0
unfolding tree op_of linked fields_of is_link is_literal is_step code follow first_link second_link index_or_axis test_at
axis_path_tree axis = refl

module _ (edition : ℕ) (t : List ℕ) (axis x : ℕ) (below : x < rows t) where
  -- it selects the nodes that have a place on the axis
  axis_path_selects : selected edition t (axis_path axis) [] x ≡ keep (placed t (axis_of axis) x) (up_to (rows t))
  unfolding select walk start_of is_absolute code counting test_of passes ok
  axis_path_selects =
      rw (axis_path_tree axis)
      (free_walk edition t [] Step none none axis 0 (keep (eqb x) (up_to (rows t))) refl
      ∙ keep_up_to _ _ (rows t) (λ y l. some_one (λ z. placed t (axis_of axis) z y && true) (rows t) x below ∙ and-true (placed t (axis_of axis) x y)))

  module _ (known : is_edition edition ≡ true) (h : axis ≤ last_axis) (acc : accepted t ≡ true) (out : List ℕ) (room : rows t ≤ length out) where
    -- where there is room for every node it is answered 0, with their count, and the nodes are written
    pub axis_path_answered : evaluation edition t (axis_path axis) [] x (length out) ≡ answer 0 (length (selected edition t (axis_path axis) [] x))
    axis_path_answered =
        (evaluation_exactly edition t (axis_path axis) [] x (length out) _).1
        (selects known acc (path_accepted (axis_path axis) [] (ap (λ (a : Answer). a.number) (axis_path_good axis h))) below
        (rw axis_path_selects (omega (arith, keep_shorter (placed t (axis_of axis) x) (up_to (rows t)), length_up_to (rows t)))))

    answered_nodes : answered edition t axis x out ≡ selected edition t (axis_path axis) [] x
    unfolding evaluated output
    answered_nodes = rw axis_path_answered (take-append_seam (selected edition t (axis_path axis) [] x) _)

    answered_has : (y : ℕ) → y < rows t → has (answered edition t axis x out) y ≡ on t (axis_of axis) x y
    answered_has y l =
        rw (answered_nodes, axis_path_selects)
        (has_keep (placed t (axis_of axis) x) (up_to (rows t)) y
        ∙ rw (is_true (has (up_to (rows t)) y) (has_up_to_from (rows t) y l)) (placed_on t (axis_of axis) x y l))

-- the five answers from x, each 0 where there is room for every node (`axis_path_answered`), together list every node once: it is in
-- exactly one of them if it is no attribute, and each of them ascends (`evaluate_ascending`)
pub five_answers : (edition : ℕ) → is_edition edition ≡ true → (t : List ℕ) → accepted t ≡ true → (x : ℕ) → x < rows t → (out : List ℕ) → rows t ≤ length out
    → (y : ℕ) → Plain t y → length (keep (λ axis. has (answered edition t axis x out) y) five_parts) ≡ 1
unfolding keep
five_answers edition known t acc x h out room y l =
    let lies : (axis : ℕ) → axis ≤ last_axis → has (answered edition t axis x out) y ≡ on t (axis_of axis) x y = λ axis k. answered_has edition t axis x h known k acc out room y l.0 in
    rw (lies 0 (omega arith), lies 4 (omega arith), lies 3 (omega arith), lies 8 (omega arith), lies 7 (omega arith)) (five_parts_lem t x y l.1)
