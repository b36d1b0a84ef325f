use Rattle.std.proofs.Common.{ap, ◌∙◌}
use Rattle.ip_wire.proofs.Sums.{both_sums}
use Rattle.ip_wire.specs.Address.{octets_of}
use Rattle.ip_wire.specs.Sum.{sum_after, word_of}
use Rattle.ip_wire.proofs.sum.addresses_sum.Goals as goal

pub returns-in-Ipv4-Ipv4-clause-value : goal.returns-in-Ipv4-Ipv4-clause-value
returns-in-Ipv4-Ipv4-clause-value c total =
    let src = c.in-Ipv4-Ipv4.src.0 in
    ap (λ a. sum_after (sum_after (word_of total) (octets_of a)) (octets_of c.args.dst.now)) c.in-Ipv4-Ipv4.is-0
    ∙ ap (λ a. sum_after (sum_after (word_of total) src) (octets_of a)) c.in-Ipv4-Ipv4.is-1
    ∙ both_sums src c.in-Ipv4-Ipv4.dst.0 _ _ c.four_octets.ensures.value c.four_octets-in-Ipv4-Ipv4.ensures.value total
