-- The answers of `names::Part::is_line`: the line is found, and its bytes are compared.
use Rattle.std.proofs.Common.{ap, ◌∙◌, ◌+◌, ◌≤◌, length, length-drop, arith}
use Rattle.names.specs.Names.{same}
use Rattle.names.specs.Index.{line_length}
use Rattle.names.proofs.Words.{rest, by_bytes}
use Rattle.names.proofs.Lines.{next_start, line_part}
use Rattle.names.proofs.Part.is_line.Goals as goal

pub slice_bounds-line_length-count : goal.slice_bounds-line_length-count
slice_bounds-line_length-count c =
    omega (arith, c.line_start-at.ensures, c.requires.ended, next_start c.args.self.now.list.now c.args.line)

pub slice_bounds-line_length-start : goal.slice_bounds-line_length-start
slice_bounds-line_length-start c =
    omega (arith, c.line_start-at.ensures, c.requires.ended, next_start c.args.self.now.list.now c.args.line)

pub slice_bounds-eq-end : goal.slice_bounds-eq-end
slice_bounds-eq-end c =
    let list = c.args.self.now.list.now in
    let at = c.line_start-at.result in
    let count : at ≤ length list = omega (arith, c.line_start-at.ensures, c.requires.ended, next_start list c.args.line) in
    omega (arith, c.line_length.ensures.1, count, ap length (rest list at), length-drop at list)

pub returns : goal.returns
returns c =
    let list = c.args.self.now.list.now in
    let line = c.args.line in
    let at = c.line_start-at.result in
    let end = ap (◌+◌ at) (c.line_length.ensures.0 ∙ ap line_length (rest list at)) in
    c.eq.ensures ∙ by_bytes _ c.args.word.now ∙ ap (λ l. same l c.args.word.now) (line_part list line at _ c.line_start-at.ensures end)
