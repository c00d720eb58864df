-- The answers of `reader::read_within`: the names first, then what is wrong in the text, then the rest.
use Rattle.std.proofs.Common.{sym, ◌∙◌}
use Rattle.reader.proofs.Answered.{nothing_found, found_between}
use Rattle.reader.proofs.Handed.{reads_bad_names, reads_wrong}
use Rattle.reader.proofs.read_within.Goals as goal

pub returns-in-Err : goal.returns-in-Err
returns-in-Err g c = (reads_bad_names _ _ _ _ _ c.in-Err.ensures.indexed.0 c.in-Err.ensures.indexed.1, tt)

pub read_clean-requires : goal.read_clean-requires
read_clean-requires g c = nothing_found _ _ (sym c.survey_text.ensures ∙ c.in-None.is)

pub returns-in-Some : goal.returns-in-Some
returns-in-Some g c =
    let wrong = sym c.survey_text.ensures ∙ c.in-Some.is in
    (reads_wrong _ _ _ _ c.in-Some.fault wrong c.in_default.ensures.indexed.fine, found_between _ _ c.in-Some.fault wrong)
