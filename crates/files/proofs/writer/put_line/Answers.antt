-- `files::writer::put_line` meets its contract: its three parts are laid one behind the other.
-- Assumes nothing.
use native.Mathlib.Omega.{arith}
use mathlib.Core.Path.{◌∙◌}
use lib.ListN.{length-set}
use Rattle.files.proofs.Written.{keyed_length, line_laid}
use Rattle.files.proofs.writer.put_line.Goals as goal

pub put-behind-requires : goal.put-behind-requires
put-behind-requires c = omega (arith, keyed_length c.args.word.now c.args.n)

pub write-end-requires : goal.write-end-requires
write-end-requires c = omega (arith, keyed_length c.args.word.now c.args.n, c.put-behind.auto.out)

pub bounds-out-end : goal.bounds-out-end
bounds-out-end c = omega (arith, keyed_length c.args.word.now c.args.n, c.put-behind.auto.out, c.write-end.auto.out)

pub overflow_add-result : goal.overflow_add-result
overflow_add-result c = omega (arith, keyed_length c.args.word.now c.args.n)

pub shape_of-out : goal.shape_of-out
shape_of-out c = simp length-set (c.write-end.auto.out ∙ c.put-behind.auto.out)

pub returns : goal.returns
returns c =
    let a = c.args in
    let put = c.put-behind.ensures in
    let write = c.write-end.ensures in (
      omega (arith, keyed_length a.word.now a.n),
      rw (write.1, put.1, write.0, put.0) (line_laid a.out.now a.word.now a.at a.n c.requires),
    )
