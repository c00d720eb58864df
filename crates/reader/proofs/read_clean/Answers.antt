-- The answers of `reader::read_clean`: what is composed is the text's, and what is handed over is what the reader promises of it.
use Rattle.std.proofs.Common.{refl, arith}
use Rattle.reader.proofs.Handed.{clean_plain, composed_told, reads_full, reads_handed}
use Rattle.reader.proofs.read_clean.Goals as goal

pub compose-composed-requires : goal.compose-composed-requires
compose-composed-requires c = (clean_plain _ _ c.requires, refl, refl)

pub returns-then-composed-gt256 : goal.returns-then-composed-gt256
returns-then-composed-gt256 c =
    (reads_full _ _ _ _ c.requires _ c.compose-composed.ensures c.args.names.now.indexed.fine _ _ c.if-composed-gt256.true, tt)

pub hand_over-requires : goal.hand_over-requires
hand_over-requires c =
    let few = c.if-composed-gt256.false in
    let o = composed_told _ _ _ _ c.requires _ c.compose-composed.ensures few in
    (few, omega (arith, o.few, few), o.fits, omega (arith, o.few, few, c.values-2-1))

pub returns : goal.returns
returns c =
    let handed = c.hand_over.ensures in (
      reads_handed _ _ _ _ c.requires _ c.compose-composed.ensures c.args.names.now.indexed.fine _ _ _ _ c.if-composed-gt256.false handed.0
          (omega (arith, c.values-2-1)),
      handed.1,
    )
