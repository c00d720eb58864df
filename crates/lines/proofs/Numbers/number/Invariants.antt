-- What is still to be read makes the same number behind the value, and leaves the same text.
use Rattle.std.proofs.Common.{◌≡◌, ◌^◌, ◌<◌, length}
use Rattle.lines.specs.Numbers.{number_behind, number_of, behind_number}
use Rattle.lines.proofs.Numbers.number.Given as goal

abbrev pub invariant-loop-byte : goal.invariant-loop-byte
invariant-loop-byte l = record {
  value : number_of l.fn.self.unread.now < 2 ^ 64 → number_behind l.value l.self.unread.now ≡ number_of l.fn.self.unread.now;
  unread : behind_number l.self.unread.now ≡ behind_number l.fn.self.unread.now;
}

abbrev pub decreases-loop-byte : goal.decreases-loop-byte
decreases-loop-byte l = length l.self.unread.now
