-- `files::reader::read_number` meets its contract: the key by the number's remainder.
-- Assumes nothing.
use Rattle.files.specs.Files.{key}
use Rattle.files.proofs.Lines.{key_at, last_key}
use Rattle.files.proofs.reader.read_number.Goals as goal

pub returns-in-0 : goal.returns-in-0
unfolding key
returns-in-0 c = rw (key_at c.args.i 0 c.in-0.is) c.read_line.ensures

pub returns-in-1 : goal.returns-in-1
unfolding key
returns-in-1 c = rw (key_at c.args.i 1 c.in-1.is) c.read_line-in-1.ensures

pub returns-in-2 : goal.returns-in-2
unfolding key
returns-in-2 c = rw (key_at c.args.i 2 c.in-2.is) c.read_line-in-2.ensures

pub returns-in_default : goal.returns-in_default
unfolding key
returns-in_default c =
    let r = c.in_default.in_default-own.rest in
    rw (key_at c.args.i 3 (last_key c.args.i r.0.0.1 r.0.1 r.1)) c.read_line-in_default.ensures
