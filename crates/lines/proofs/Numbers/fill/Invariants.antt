-- The entries behind the loop are what the function gives of their numbers, and what is unread lies behind these.
use Rattle.std.proofs.Common.{◌≡◌, ℕ, ◌^◌, ◌<◌, get_or}
use Rattle.lines.specs.Numbers.{number_at, behind_numbers}
use Rattle.lines.proofs.Numbers.fill.Given as goal

abbrev pub invariant-loop-entry : goal.invariant-loop-entry
invariant-loop-entry g l = record {
  unread : l.self.unread.now ≡ behind_numbers l.entry-index l.fn.self.unread.now;
  values : (i : ℕ) (d : _) → i < l.entry-index → number_at i l.fn.self.unread.now < 2 ^ 64 → goal.F-post g l.read (number_at i l.fn.self.unread.now) (get_or l.entries i d);
}
