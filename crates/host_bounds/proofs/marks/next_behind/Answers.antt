use Rattle.std.proofs.Common.{rules, ◌≡◌, ◌*◌, min}
use Rattle.host_bounds.proofs.Bits.{none_there}
use Rattle.host_bounds.proofs.marks.next_behind.Goals as goal

pub returns : goal.returns
returns c =
    let is : c.saturating_mul.result ≡ min (c.loop-word.word * 64) 18446744073709551615 = search rules in
    none_there c.args.marks.now c.args.start c.loop-word.word c.saturating_mul.result c.ranges.start.fits c.loop-word.invariant.behind c.loop-word-test.false c.loop-word.invariant.zeros is
