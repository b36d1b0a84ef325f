use Rattle.std.proofs.Common.{sym, ◌∙◌}
use Rattle.ip_wire.proofs.Sums.{pseudo}
use Rattle.ip_wire.proofs.sum.pseudo_sum.Goals as goal

pub returns : goal.returns
returns c =
    c.word_of.ensures
    ∙ sym (pseudo c.args.src.now c.args.dst.now c.args.protocol c.args.length _ c.ranges.protocol.fits c.addresses_sum.ensures.value)
