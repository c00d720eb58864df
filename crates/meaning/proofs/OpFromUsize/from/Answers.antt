-- The answers of `Op::from`: past the table of ops a number names none. Assumes nothing.
use Rattle.std.proofs.Common.{sym}
use Rattle.meaning.proofs.Decoding.{op_past}
use Rattle.meaning.proofs.OpFromUsize.from.Goals as goal

pub returns-else-number-lt26 : goal.returns-else-number-lt26
returns-else-number-lt26 c = sym (op_past c.args.number c.if-number-lt26.false)
