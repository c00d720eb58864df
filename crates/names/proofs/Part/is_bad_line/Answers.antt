-- The answers of `names::Part::is_bad_line`: each way out rewrites with the tests that led there.
use Rattle.std.proofs.Common.{sym, ◌∙◌, arith}
use mathlib.Core.Bool.{or-true, or-false}
use borrow.Author.Tests.{le-leb, lt-leb}
use Rattle.names.specs.Names.{most_names}
use Rattle.names.proofs.Matching.{line_limits, bad_at_end, bad_by_word, found_among}
use Rattle.names.proofs.Part.is_bad_line.Goals as goal
use Rattle.names.proofs.Part.is_bad_line.Goals.{then-end-self-via-then-end-self, then-end-self-via-else-end-self+then-line-ge-MOST_NAMES}

pub returns-then-end-self : goal.returns-then-end-self
returns-then-end-self c =
    elim c.then-end-self.branch [
      | then-end-self-via-then-end-self w ↦ sym (bad_at_end _ _ _ _ c.requires.1 (omega arith))
      | then-end-self-via-else-end-self+then-line-ge-MOST_NAMES w ↦
          let by_word = bad_by_word _ _ _ _ c.requires.1 (omega (arith, (line_limits _ _ _ _ c.requires.1).2)) in
          sym (by_word ∙ rw (le-leb most_names c.args.line (omega arith), or-true))
    ]

pub slice_bounds-word-end : goal.slice_bounds-word-end
slice_bounds-word-end c = (line_limits _ _ _ _ c.requires.1).2

pub returns-then-not-is_good : goal.returns-then-not-is_good
returns-then-not-is_good c =
    let by_word = bad_by_word _ _ _ _ c.requires.1 (omega (arith, (line_limits _ _ _ _ c.requires.1).2)) in
    let malformed = sym c.is_good.ensures ∙ c.if-not-is_good.true in
    rw c.if-not-is_good.true (sym (by_word ∙ rw malformed))

pub returns-else-not-is_good : goal.returns-else-not-is_good
returns-else-not-is_good c =
    let by_word = bad_by_word _ _ _ _ c.requires.1 (omega (arith, (line_limits _ _ _ _ c.requires.1).2)) in
    let x = c.args.self.now.indexed in
    let good = sym c.is_good.ensures ∙ c.if-not-is_good.false in
    let few = lt-leb most_names c.args.line (omega arith) in
    let new = found_among _ _ _ _ x.ended c.find.ensures in
    c.is_some.ensures ∙ sym (by_word ∙ rw (good, few, ← c.requires.0, new, or-false))
