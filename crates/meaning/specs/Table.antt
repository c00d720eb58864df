-- The node table (document 01, "The node table"; document 02, W-206, W-209 and W-211): four numbers a row; row i is node i, and row order is
-- document order.
-- Assumes nothing: these are definitions.
use Rattle.std.specs.Prelude.{ℕ, ◌+◌, ◌-◌, ◌*◌, ◌/◌, ◌%◌, Bool, ◌&&◌, ◌||◌, not, cond, List, length, get_or, leb, ltb, eqb}
use Rattle.meaning.specs.Lists.{up_to, some}

-- the most rows of a table (document 02, W-211)
abbrev pub most_rows : ℕ
most_rows = 8192

-- kind, name, parent and size of row i; 0 past the end
abbrev pub kind : List ℕ → ℕ → ℕ
kind t i = get_or t (4 * i) 0

abbrev pub name : List ℕ → ℕ → ℕ
name t i = get_or t (4 * i + 1) 0

abbrev pub parent_of : List ℕ → ℕ → ℕ
parent_of t i = get_or t (4 * i + 2) 0

abbrev pub size : List ℕ → ℕ → ℕ
size t i = get_or t (4 * i + 3) 0

abbrev pub rows : List ℕ → ℕ
rows t = length t / 4

-- is row i an element, of kind 1? A text, of kind 2? An attribute, of kind 5?
abbrev pub is_element : List ℕ → ℕ → Bool
is_element t i = eqb (kind t i) 1

abbrev pub is_text : List ℕ → ℕ → Bool
is_text t i = eqb (kind t i) 2

abbrev pub is_attribute : List ℕ → ℕ → Bool
is_attribute t i = eqb (kind t i) 5

-- 1 to so many rows, and a multiple of 4
unfoldable pub length_within : ℕ → List ℕ → Bool
length_within most t = eqb (length t % 4) 0 && leb 1 (rows t) && leb (rows t) most

-- the lengths of tables: within the most rows
abbrev pub length_allowed : List ℕ → Bool
length_allowed t = length_within most_rows t

-- the last row of i's subtree: size is the number of rows below it, attributes included
abbrev pub end : List ℕ → ℕ → ℕ
end t i = i + size t i

-- has the table an element: a row of kind 1, whatever else is wrong with it?
unfoldable pub has_element : List ℕ → Bool
has_element t = some (is_element t) (up_to (rows t))

-- row 0: kind 0, name 0, parent 0, size rows minus 1; and the table has an element
unfoldable pub good_root : List ℕ → Bool
good_root t =
    eqb (kind t 0) 0 && eqb (name t 0) 0 && eqb (parent_of t 0) 0 && eqb (size t 0) (rows t - 1)
    && has_element t

-- name is 1 to 65,535 for kinds 1, 4 and 5, else 0
unfoldable pub good_name : ℕ → ℕ → Bool
good_name k n = cond (eqb k 1 || eqb k 4 || eqb k 5) (leb 1 n && leb n 65535) (eqb n 0)

-- size is 0 for kinds 2 to 5
unfoldable pub good_size : ℕ → ℕ → Bool
good_size k s = eqb k 1 || eqb s 0

-- is j the largest number below i with j + size(j) at least i?
unfoldable pub nearest : List ℕ → ℕ → ℕ → Bool
nearest t i j = ltb j i && leb i (end t j) && not (some (λ k. ltb j k && leb i (end t k)) (up_to i))

-- parent is that j, and i + size(i) is at most j + size(j)
unfoldable pub good_parent : List ℕ → ℕ → Bool
good_parent t i = nearest t i (parent_of t i) && leb (end t i) (end t (parent_of t i))

-- is row i a text child of the root?
unfoldable pub text_of_root : List ℕ → ℕ → Bool
text_of_root t i = is_text t i && eqb (parent_of t i) 0

-- is row i an element child of the root?
unfoldable pub element_of_root : List ℕ → ℕ → Bool
element_of_root t i = is_element t i && eqb (parent_of t i) 0

-- is it one after another element child of the root?
unfoldable pub later_element : List ℕ → ℕ → Bool
later_element t i = element_of_root t i && some (element_of_root t) (up_to i)

-- is j a sibling of i that stands before it? Siblings share a parent; the root is nobody's sibling, and no attribute is
abbrev pub sibling_before : List ℕ → ℕ → ℕ → Bool
sibling_before t i j = ltb 0 j && ltb j i && eqb (parent_of t j) (parent_of t i) && not (is_attribute t i) && not (is_attribute t j)

-- is j the previous sibling of i, the nearest of those?
unfoldable pub previous_sibling : List ℕ → ℕ → ℕ → Bool
previous_sibling t i j = sibling_before t i j && not (some (λ k. ltb j k && sibling_before t i k) (up_to i))

-- is row i a text whose previous sibling is text?
unfoldable pub text_after_text : List ℕ → ℕ → Bool
text_after_text t i = is_text t i && some (λ j. previous_sibling t i j && is_text t j) (up_to i)

-- does row i stand straight after the element that is its parent, or after another attribute of it?
unfoldable pub among_attributes : List ℕ → ℕ → Bool
among_attributes t i =
    (is_element t (i - 1) && eqb (parent_of t i) (i - 1))
    || (is_attribute t (i - 1) && eqb (parent_of t i) (parent_of t (i - 1)))

-- is row i an attribute that does not?
unfoldable pub stray_attribute : List ℕ → ℕ → Bool
stray_attribute t i = is_attribute t i && not (among_attributes t i)

-- is row j an attribute with the parent and the name of row i?
unfoldable pub same_attribute : List ℕ → ℕ → ℕ → Bool
same_attribute t i j = is_attribute t j && eqb (parent_of t j) (parent_of t i) && eqb (name t j) (name t i)

-- is row i an attribute after another of one name with it?
unfoldable pub attribute_again : List ℕ → ℕ → Bool
attribute_again t i = is_attribute t i && some (same_attribute t i) (up_to i)

-- other rows: kinds 1 to 5
unfoldable pub good_row : List ℕ → ℕ → Bool
good_row t i =
    leb 1 (kind t i) && leb (kind t i) 5
    && good_name (kind t i) (name t i)
    && good_size (kind t i) (size t i)
    && good_parent t i
    && not (text_of_root t i)
    && not (later_element t i)
    && not (text_after_text t i)
    && not (stray_attribute t i)
    && not (attribute_again t i)

-- a row is broken if a rule for it fails
unfoldable pub broken : List ℕ → ℕ → Bool
broken t i = not (cond (eqb i 0) (good_root t) (good_row t i))

-- a table with no broken row is accepted
unfoldable pub accepted : List ℕ → Bool
accepted t = length_allowed t && not (some (broken t) (up_to (rows t)))
