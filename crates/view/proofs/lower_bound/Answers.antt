-- `view::lower_bound` meets its contract: a list that rises is parted by its entries below v.
-- Assumes nothing.
use Rattle.std.proofs.Common.{ℕ, rules}
use lib.Dec.{ltb}
use Rattle.std.proofs.lemmas.List.Sorted.{IsPartitionedBy-ltb, IsPartitionPoint-from_clause}
use Rattle.view.proofs.Halves.{rises, parted}
use Rattle.view.proofs.lower_bound.Goals as goal

pub returns : goal.returns
returns c =
    let part = c.partition_point in
    let l = c.args.list.now in
    let v = c.args.v in
    parted l v part.result part.ensures.bound
    (IsPartitionPoint-from_clause (λ (y : ℕ). ltb y v) l part.result part.ensures.partitioned (IsPartitionedBy-ltb (λ (y : ℕ). y) l v (rises l c.requires)) (λ x b f' k. search rules))
