-- `Pen::put_row` meets its contract: what is copied over five entries is stored there. Assumes nothing.
use Rattle.std.proofs.Common.{ℕ, ◌+◌, ◌-◌, ◌*◌, ◌≤◌, List, ◌++◌, length, take, drop, ◌≡◌, refl, append_assoc, arith}
use Rattle.std.proofs.lemmas.List.{drop-drop}
use Rattle.std.proofs.lemmas.List.Edits.{sets, sets-eq}
use Rattle.turn.proofs.pen.Pen.put_row.Goals as goal

-- five entries in the place of five
over : (l row : List ℕ) (i n : ℕ) → length row ≡ 5 → n ≡ 5 → i + 5 ≤ length l → take i l ++ (row ++ drop n (drop i l)) ≡ sets l i row
over l row i n e f h =
    let fits : i + length row ≤ length l = omega arith in
    let k : n ≡ length row = omega arith in
    rw (sets-eq row l i fits, k, drop-drop, append_assoc)

pub returns : goal.returns
returns c = record {
  same = refl;
  next = refl;
  stored = rw c.copy_from_slice.ensures.after (over c.args.self.now.out.now c.args.row (5 * c.args.self.now.at) (5 * c.args.self.now.at + 5 - 5 * c.args.self.now.at) (omega arith) (omega arith) (omega arith));
}
