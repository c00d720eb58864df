-- The answers of `names::Part::line_start`: each pass goes to where the next line begins.
use Rattle.std.proofs.Common.{◌≡◌, sym, ap, ◌∙◌, suc, ◌+◌, ◌*◌, ◌/◌, drop, add-one, arith}
use Rattle.names.specs.Index.{line_length, line_start}
use Rattle.names.proofs.Words.{rest}
use Rattle.names.proofs.Lines.{next_start, starts_rise}
use Rattle.names.proofs.Part.line_start.Goals as goal

pub loop-init : goal.loop-init
loop-init c =
    let list = c.args.self.now.list.now in
    let line = c.args.line in
    let pre = c.requires in
    (pre.begins, pre.ended, omega (arith, pre.begins, pre.ended, starts_rise list (line / 8 * 8) (suc line) (omega arith)))

pub loop-preserved : goal.loop-preserved
loop-preserved c =
    let list = c.args.self.now.list.now in
    let line = c.args.line in
    let passed = c.loop.counter in
    let inv = c.loop.invariant in
    let e : c.line_length.result ≡ line_length (drop (line_start list passed) list) =
    c.line_length.ensures.0 ∙ ap line_length (rest list _) ∙ ap (λ k. line_length (drop k list)) inv.0 in
    let n = next_start list passed in
    let rise = starts_rise list (suc passed) line (omega arith) in
    let end : c.loop.at + (c.line_length.result + 1) ≡ line_start list (suc passed) = omega arith in
    (end ∙ ap (line_start list) (sym (add-one passed)), inv.1, omega (arith, next_start list line))

pub returns : goal.returns
returns c = let e : c.loop.counter ≡ c.args.line = omega arith in c.loop.invariant.0 ∙ ap (line_start _) e
