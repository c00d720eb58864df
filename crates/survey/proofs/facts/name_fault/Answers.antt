-- `survey::facts::name_fault` meets its contract: each answer by the tests that led there; a name without a prefix is the whole token.
-- Assumes nothing.
use Rattle.std.proofs.Common.{refl, sym, ap, ◌∙◌, not, is_some}
use Rattle.levels.specs.Levels.{own_of}
use Rattle.text.specs.Limited.{source}
use Rattle.survey.proofs.Words.{reads_within, name_word, nameless, has_name}
use Rattle.survey.proofs.facts.name_fault.Goals as goal

pub returns-then-is_star : goal.returns-then-is_star
unfolding own_of source
returns-then-is_star c = rw (← c.is_star.ensures, c.if-is_star.true)

pub returns-then-has_prefix : goal.returns-then-has_prefix
unfolding own_of source
returns-then-has_prefix c = rw (sym c.is_star.ensures ∙ c.if-is_star.false, ← c.has_prefix.ensures, c.if-has_prefix.true)

pub slice_bounds-number_of-count : goal.slice_bounds-number_of-count
slice_bounds-number_of-count c = (reads_within c.requires).0

pub slice_bounds-number_of-start : goal.slice_bounds-number_of-start
slice_bounds-number_of-start c = (reads_within c.requires).0

pub slice_bounds-number_of-end : goal.slice_bounds-number_of-end
slice_bounds-number_of-end c = (reads_within c.requires).1

pub returns-then-is_none : goal.returns-then-is_none
unfolding own_of source
returns-then-is_none c =
    rw (
      sym c.is_star.ensures ∙ c.if-is_star.false,
      sym c.has_prefix.ensures ∙ c.if-has_prefix.false,
      ← name_word c.requires refl (sym c.is_star.ensures ∙ c.if-is_star.false) (sym c.has_prefix.ensures ∙ c.if-has_prefix.false),
      nameless _ _ (ap is_some (sym c.number_of.ensures) ∙ (c.is_none.ensures ∙ ap not c.if-is_none.true)),
    )

pub returns : goal.returns
unfolding own_of source
returns c =
    rw (
      sym c.is_star.ensures ∙ c.if-is_star.false,
      sym c.has_prefix.ensures ∙ c.if-has_prefix.false,
      ← name_word c.requires refl (sym c.is_star.ensures ∙ c.if-is_star.false) (sym c.has_prefix.ensures ∙ c.if-has_prefix.false),
      has_name _ _ (ap is_some (sym c.number_of.ensures) ∙ (c.is_none.ensures ∙ ap not c.if-is_none.false)),
    )
