use Rattle.std.proofs.Common.{◌+◌, ◌<◌, ◌∙◌, rules}
use Rattle.ip_wire.specs.Sum.{swapped_word}
use Rattle.ip_wire.proofs.Sums.{twenty_octets}
use Rattle.ip_wire.proofs.sum.sum_of_twenty_after.Goals as goal

pub returns : goal.returns
returns c =
    let small : c.args.start < 65536 = search rules in
    c.swapped_word.ensures
    ∙ (λ i. swapped_word c.args.start (c.le32_at.ensures.value i + c.le32_at-2.ensures.value i
    + c.le32_at-3.ensures.value i + c.le32_at-4.ensures.value i + c.le32_at-5.ensures.value i))
    ∙ twenty_octets c.args.start c.args.octets.now small (λ k h. (c.type_inv.octets k).fits) c.requires
