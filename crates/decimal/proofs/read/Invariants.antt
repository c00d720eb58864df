-- `decimal::read` meets its contract. The loop's invariant: the text from the index on has been read as far as the count. Assumes nothing.
use Rattle.std.proofs.Common.{◌≡◌, ◌+◌, ◌≤◌, length, drop}
use Rattle.decimal.specs.Decimal.{most_number}
use Rattle.decimal.proofs.Decimals.{Reading}
use Rattle.decimal.proofs.read.Given as goal

abbrev pub invariant-loop-byte : goal.invariant-loop-byte
invariant-loop-byte l = record {
  from : l.rest ≡ drop l.at l.text;
  within : l.at + length l.rest ≤ length l.text;
  inside : l.byte-index ≤ length l.rest;
  counts : l.count ≡ l.byte-index;
  bounded : l.value ≤ most_number;
  reading : Reading l.rest l.value l.byte-index;
}
