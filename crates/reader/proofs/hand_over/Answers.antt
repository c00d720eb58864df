-- The answers of `reader::hand_over`: a refusal leaves both outputs as they were; else both are copied.
use Rattle.std.proofs.Common.{sym, ap, refl, arith}
use lib.Seq.{length-take-le}
use Rattle.std.proofs.lemmas.Result.{err_from_is_err_and}
use Rattle.meaning.specs.declared.Answer.{Answer}
use Rattle.reader.proofs.Handed.{room_enough, hands_refused, hands_written}
use Rattle.reader.proofs.hand_over.Goals as goal

pub returns-in_err-written : goal.returns-in_err-written
returns-in_err-written c =
    let told = c.in_err-written.ensures in
    let p = err_from_is_err_and c.from_residual.result c.from_residual.ensures.1 in
    rw (p.1, p.2) (hands_refused _ _ _ _ _ _ _ _ _ told.0 told.1 (λ z. omega (arith, told.2.0, z)), told.2.1)

pub slice_bounds-copy-end : goal.slice_bounds-copy-end
slice_bounds-copy-end c = sym (length-take-le _ _ (omega arith))

pub copy-requires : goal.copy-requires
copy-requires c =
    let room = room_enough _ _ _ _ _ (ap (λ (a : Answer). a.number) (sym c.in_ok-written.ensures.0)) in
    rw (length-take-le _ c.args.drafted.now c.requires.2) room.0

pub slice_bounds-copy-end-2 : goal.slice_bounds-copy-end-2
slice_bounds-copy-end-2 c = sym (length-take-le _ _ (omega arith))

pub copy-requires-2 : goal.copy-requires-2
copy-requires-2 c =
    let room = room_enough _ _ _ _ _ (ap (λ (a : Answer). a.number) (sym c.in_ok-written.ensures.0)) in
    rw (length-take-le _ c.args.values.now c.requires.3) room.1

pub returns : goal.returns
returns c =
    let told = c.in_ok-written.ensures in
    (hands_written _ _ _ _ _ _ _ _ _ told.0 told.1 refl c.copy.ensures c.copy-2.ensures, tt)
