use Rattle.std.proofs.Common.{arith}
use Rattle.std.proofs.lemmas.Fmt.{decimal_step, decimal_digit}
use Rattle.sock_pair.proofs.ReplaySinks.{takes_after}
use Rattle.sock_pair.proofs.script.output.+put_number.Goals as goal

pub returns-then-number-lt10 : goal.returns-then-number-lt10
returns-then-number-lt10 g t c = rw (decimal_digit c.args.number (omega (arith, c.if-number-lt10.true))) c.put_byte.ensures

pub returns : goal.returns
returns g t c =
    rw (decimal_step c.args.number (omega (arith, c.if-number-lt10.false)) (omega (arith, c.ranges.number.fits)))
    (takes_after _ _ _ _ _ _ _ c.in_ok-put_number.ensures.0 c.put_byte-2.ensures)
