-- Laws of a pass, where it stands at a row: what it knows decides each rule for that row, and it knows as much of the next row once that one
-- is passed. That it knows it is a fact of which nothing is taken out but truths.
-- Assumes nothing.
use Rattle.std.proofs.Common.{ℕ, ◌+◌, ◌-◌, ◌<◌, ◌≤◌, ◌≡◌, ◌∙◌, sym, true, false, ◌&&◌, List, length, get_or, eqb, ltb, leb, arith, refl, Option, Some, None}
use Rattle.std.proofs.Math.Logic.{∥∥₁_elim, ∥∥₁_map}
use Rattle.std.proofs.Props.{props}
use Rattle.std.proofs.Math.ListN.{set, replicate}
use Rattle.meaning.specs.Lists.{lowest}
use Rattle.meaning.specs.Table.{rows, most_rows, kind, name, size, parent_of, end, is_element, is_text, is_attribute, good_root, later_element, text_after_text, among_attributes, attribute_again, broken}
use Rattle.meaning.proofs.Bools.{truly}
use Rattle.meaning.proofs.Checks.{Passed, passed_more, passed_found, passed_all}
use Rattle.meaning.proofs.Tables.{good_child_lem}
use Rattle.table_check.specs.Next.{first_element, good_numbers, well_placed, Next, Behind, Lowest}
use Rattle.table_check.specs.Names.{stopped}
use Rattle.table_check.specs.Passes.{Passing}
use Rattle.table_check.proofs.Next.{next_start, placed, placed_parent, passed_behind, parent_stands, next_more, sound_more}
use Rattle.table_check.proofs.Siblings.{later_than_first, text_before}
use Rattle.table_check.proofs.Names.{seen_start, again_seen, seen_more, seen_other}
use Rattle.table_check.proofs.Stops.{passed_root, passed_sound, passed_good, passed_listed, stops_at_broken, large_broken}

-- at row 1, behind a sound root
pub passing_start : (t : List ℕ) (k : ℕ) → 0 < rows t → good_root t ≡ true → ∥ Passing t k 1 (replicate most_rows 0) (replicate k 0) ∥₁
unfolding Passed
passing_start t k some-row root = ∣ record {
  passed = passed_root t k root;
  known = next_start t (replicate most_rows 0) some-row root refl;
  names = seen_start t k root;
} ∣₁

-- where it stops it found the lowest row to stop at, and none where it stands behind all
pub stops : (t : List ℕ) (k i : ℕ) (last seen : List ℕ) → ∥ Passing t k i last seen ∥₁ → i < rows t → stopped t k i ≡ true → i ≡ lowest (stopped t k) (rows t)
unfolding Passed
stops t k i last seen h l e = ∥∥₁_elim h (search props) (λ p. passed_found (stopped t k) (rows t) i p.passed l e)

pub stops_nowhere : (t : List ℕ) (k i : ℕ) (last seen : List ℕ) → ∥ Passing t k i last seen ∥₁ → i ≡ rows t → rows t ≡ lowest (stopped t k) (rows t)
unfolding Passed
stops_nowhere t k i last seen h e = ∥∥₁_elim h (search props) (λ p. sym e ∙ passed_all (stopped t k) (rows t) i p.passed e)

-- with room for all names it stops at broken rows alone
pub stops_broken : (t : List ℕ) (r : Option ℕ) → Lowest (stopped t 65536) (rows t) r → Lowest (broken t) (rows t) r
stops_broken t (Some i) s = (s.0, stops_at_broken t 65536 i s.1 (λ l u. large_broken t i u))
stops_broken t None s = stops_at_broken t 65536 (rows t) s (λ l u. absurd (omega arith))

-- a row that is passed stands behind its parent
pub parent_before : (t : List ℕ) (k i : ℕ) → 0 < i → stopped t k i ≡ false → parent_of t i < i
parent_before t k i h e = (good_child_lem t i (truly (passed_good t k i h e))).below

module _ (t : List ℕ) (k i : ℕ) (last seen : List ℕ) where
  behind : Passing t k i last seen → 0 < i → i < rows t → Behind t i
  unfolding Passed
  behind p h l = passed_behind t i h l (passed_sound t k i p.passed)

  -- it is well placed exactly if it stands where its parent's last child must and ends inside it
  pub placed_here : ∥ Passing t k i last seen ∥₁ → parent_of t i < i
      → well_placed t i ≡ (good_numbers (kind t i) (name t i) (size t i) && (eqb (get_or last (parent_of t i) 0 + 1) i && leb (end t i) (end t (parent_of t i))))
  unfolding Next
  placed_here h l = ∥∥₁_elim h (search props) (λ p. rw (placed t i (get_or last (parent_of t i) 0 + 1) l (p.known (parent_of t i) l)))

  module _ (h : ∥ Passing t k i last seen ∥₁) (inner : 0 < i) (row : i < rows t) where
    -- it is a later element exactly if it is an element child of the root behind the first element
    pub later_here : later_element t i ≡ (is_element t i && eqb (parent_of t i) 0 && ltb (first_element t) i)
    later_here = ∥∥₁_elim h (search props) (λ p. later_than_first t i (behind p inner row).sound row)

    -- it is a text after a text exactly if the row before is one with the same parent
    pub text_here : well_placed t i ≡ true → text_after_text t i ≡ (is_text t i && is_text t (i - 1) && eqb (parent_of t (i - 1)) (parent_of t i))
    text_here w = ∥∥₁_elim h (search props) (λ p. text_before t i (behind p inner row).sound inner (placed_parent t i w))

    -- an attribute has another of its name before it exactly if its element is the last one with the name
    pub again_here : well_placed t i ≡ true → is_attribute t i ≡ true → among_attributes t i ≡ true → attribute_again t i ≡ eqb (get_or seen (name t i) 0) (parent_of t i)
    again_here w a m = ∥∥₁_elim h (search props) (λ p. again_seen t i seen p.names (behind p inner row) (placed_parent t i w) (truly a) (truly m))

    module _ (e : stopped t k i ≡ false) where
      -- once it is passed it ends in the table
      pub ends_inside : end t i < rows t
      ends_inside = ∥∥₁_elim h (search props) (λ p.
          let good = passed_good t k i inner e in
          omega (arith, (good_child_lem t i (truly good)).within, (parent_stands t i last p.known good).within))

      module _ (room : i < length last) where
        -- what is known of the next row, behind an attribute and behind any other row
        pub pass_attribute : is_attribute t i ≡ true → k ≤ length seen
            → ∥ Passing t k (i + 1) (set (set last i i) (parent_of t i) (end t i)) (set seen (name t i) (parent_of t i)) ∥₁
        unfolding Passed
        pass_attribute a long = ∥∥₁_map h (λ p.
            let good = passed_good t k i inner e in
            record {
              passed = passed_more (stopped t k) i p.passed e;
              known = next_more t i last p.known good room;
              names = seen_more t i seen p.names inner (sound_more t i inner (passed_sound t k i p.passed) good) (truly a) (omega (arith, passed_listed t k i e (truly a)));
            })

        pub pass_other : is_attribute t i ≡ false → ∥ Passing t k (i + 1) (set (set last i i) (parent_of t i) (end t i)) seen ∥₁
        unfolding Passed
        pass_other plain = ∥∥₁_map h (λ p. record {
          passed = passed_more (stopped t k) i p.passed e;
          known = next_more t i last p.known (passed_good t k i inner e) room;
          names = seen_other t i seen p.names plain;
        })
