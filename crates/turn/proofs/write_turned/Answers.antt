-- `turn::write_turned` meets its contract: the chain's rows, then the path's own row, are the turned path's rows.
-- Assumes nothing.
use Rattle.std.proofs.Common.{refl, sym, ◌∙◌, rules, arith}
use Rattle.meaning.specs.Rows.{code}
use Rattle.turn.proofs.Answered.{chain_fits, row_fits, turned_stored}
use Rattle.turn.proofs.Chain.{wrote_length}
use Rattle.turn.proofs.write_turned.Goals as goal

pub write_chain-requires : goal.write_chain-requires
write_chain-requires c = (refl, chain_fits _ _ _ c.row_count.ensures c.first_link-last.ensures.0 _ c.requires)

pub overflow_cast-steps : goal.overflow_cast-steps
overflow_cast-steps c = omega (arith, row_fits _ _ _ c.row_count.ensures c.first_link-last.ensures.0 _ c.requires _ c.write_chain.ensures.next)

pub put_row-requires : goal.put_row-requires
put_row-requires c =
    let f = row_fits _ _ _ c.row_count.ensures c.first_link-last.ensures.0 _ c.requires _ c.write_chain.ensures.next in
    let l = wrote_length _ _ _ _ c.write_chain.ensures in
    (omega arith, omega arith)

pub returns : goal.returns
unfolding code
returns c =
    let s = turned_stored _ _ _ c.row_count.ensures c.first_link-last.ensures.0 _ c.requires _ _ _ (c.write_chain.ensures.next, c.write_chain.ensures.stored) (rw c.code_of.ensures at c.put_row.ensures.stored) in
    let n = sym (c.put_row.ensures.same ∙ c.write_chain.ensures.same) in
    rw (← s) (search rules)
