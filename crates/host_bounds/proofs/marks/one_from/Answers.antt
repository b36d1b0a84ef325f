use Rattle.std.proofs.Common.{rules, ◌≡◌, ◌/◌, ◌^◌, ◌<◌}
use Rattle.host_bounds.proofs.Bits.{none_found, one_found}
use Rattle.host_bounds.proofs.marks.one_from.Goals as goal

pub returns-then-rest-eq0 : goal.returns-then-rest-eq0
returns-then-rest-eq0 c =
    let none : c.args.word / 2 ^ c.args.bit ≡ 0 = search rules in
    none_found c.args.word c.args.bit c.ranges.word.fits none

pub returns : goal.returns
returns c =
    let some : 0 < c.args.word / 2 ^ c.args.bit = search rules in
    one_found c.args.word c.args.bit c.ranges.word.fits some
