use Rattle.std.proofs.Common.{arith, lit<}
use Rattle.sock_pair.proofs.ScriptNumbers.{digit_at, power-more, value-more, value-none}
use Rattle.sock_pair.proofs.script.values.value.Goals as goal

pub loop-digit-init : goal.loop-digit-init
loop-digit-init c = record { read = value-none; small = lit< tt }

pub loop-digit-preserved : goal.loop-digit-preserved
loop-digit-preserved c =
    let i = c.loop-digit.digit-index in
    let digit = digit_at c.args.digits.now i c.requires.digits (omega arith) in
    record {
      read = omega (arith, c.loop-digit.invariant.read, value-more c.args.digits.now i (omega arith), digit);
      small = omega (arith, c.loop-digit.invariant.small, power-more i, digit);
    }
