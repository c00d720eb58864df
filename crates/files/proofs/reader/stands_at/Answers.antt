-- `files::reader::stands_at` meets its contract: the library tells what a text begins with as the definition does.
-- Assumes nothing.
use Rattle.std.proofs.Common.{◌∙◌, length, arith}
use Rattle.std.proofs.lemmas.Slice.{between_to_end}
use Rattle.files.proofs.Keyed.{begins_starts}
use Rattle.files.proofs.reader.stands_at.Goals as goal

pub returns : goal.returns
returns c = c.starts_with.ensures.value ∙ begins_starts c.args.word.now _ ∙ rw (between_to_end c.args.text.now c.args.at (length c.args.text.now) (omega arith))
