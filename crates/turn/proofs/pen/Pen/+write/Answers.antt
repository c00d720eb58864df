-- The answers of `Pen::write`: the whole of a, the whole of b and the row are runs of stores one behind the other, so they are one run, the
-- tree's rows. There is room since a row's tree has the rows of its links' trees and one more. Assumes nothing.
use Rattle.std.proofs.Common.{◌+◌, ◌≡◌, refl, ◌∙◌, arith}
use Rattle.meaning.specs.Tree.{tree}
use Rattle.meaning.specs.Turning.{weight}
use Rattle.meaning.proofs.Written.{write_none, write_row, weight_row}
use Rattle.turn.proofs.Chain.{wrote_length}
use Rattle.turn.proofs.pen.Pen.+write.Goals as goal

pub returns-then-from-eq0 : goal.returns-then-from-eq0
returns-then-from-eq0 t c =
    let n = write_none _ _ c.args.self.now.out.now c.args.self.now.at (omega arith) in
    record { same = refl; next = n.0; stored = n.1 }

pub write-requires : goal.write-requires
write-requires t c =
    let w = weight_row _ _ (λ e. omega arith) _ _ c.first_link-a.ensures.0 c.second_link-b.ensures.0 in
    (omega arith, record { few = omega arith; holds = omega arith })

pub write-requires-2 : goal.write-requires-2
write-requires-2 t c =
    let w = weight_row _ _ (λ e. omega arith) _ _ c.first_link-a.ensures.0 c.second_link-b.ensures.0 in
    let l = wrote_length _ _ _ _ c.write.ensures in
    (omega arith, record { few = omega (arith, c.write.ensures.next); holds = omega (arith, c.write.ensures.next) })

pub copy_row-requires : goal.copy_row-requires
copy_row-requires t c =
    let w = weight_row _ _ (λ e. omega arith) _ _ c.first_link-a.ensures.0 c.second_link-b.ensures.0 in
    let l = wrote_length _ _ _ _ c.write.ensures in
    let m = wrote_length _ _ _ _ c.write-2.ensures in
    let at : c.write-2.new.self.at + 1 ≡ c.args.self.now.at + weight (tree c.args.path.now c.args.from) = omega (arith, c.write.ensures.next, c.write-2.ensures.next) in
    (omega (arith, c.write.ensures.next, c.write-2.ensures.next), omega arith, omega arith, omega arith)

pub returns : goal.returns
returns t c =
    let r =
    write_row _ _ (λ e. omega arith) _ _ c.first_link-a.ensures.0 c.second_link-b.ensures.0 _ _ _ _ _ _ _ _ _
    (c.write.ensures.next, c.write.ensures.stored) (c.write-2.ensures.next, c.write-2.ensures.stored) c.link_to-first.ensures.0 c.link_to-second.ensures.0
    c.copy_row.ensures.stored in
    record { same = c.copy_row.ensures.same ∙ c.write-2.ensures.same ∙ c.write.ensures.same; next = c.copy_row.ensures.next ∙ r.0; stored = r.1 }
