-- Each digit keeps what the invariant says.
use Rattle.std.proofs.Common.{◌∙◌}
use Rattle.lines.proofs.Reading.{next_digit, digit_passed}
use Rattle.lines.proofs.Numbers.number.Goals as goal

pub loop-byte-preserved : goal.loop-byte-preserved
loop-byte-preserved c =
    let begins = c.in-Some.ensures.cases.0 in
    let digit = c.in-Some-digit_of.ensures in
    record {
      value = λ fits. next_digit _ _ _ _ _ _ _ begins digit.0 digit.1 c.extended-value.ensures c.loop-byte.invariant.value fits;
      unread = digit_passed _ _ _ begins digit.0 ∙ c.loop-byte.invariant.unread;
    }
