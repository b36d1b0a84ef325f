use Rattle.std.proofs.Common.{rules, ap, ◌∙◌, ◌≡◌, length, take}
use Rattle.std.proofs.lemmas.List.{take_at, take_min}
use Rattle.host_link.proofs.packet.Packet.put.Goals as goal

-- src/packet.rt:45:5
pub returns : goal.returns
returns c =
    let as_long : length c.copy_from_slice.new.self ≡ c.min-len.result = search rules in
    let same : c.copy_from_slice.new.self ≡ take c.min-len.result c.args.packet.now = search rules in
    take_at c.copy_from_slice.new.self _ c.min-len.result as_long ∙ (same
    ∙ (ap (λ n. take n c.args.packet.now) c.min-len.ensures ∙ take_min 1500 c.args.packet.now))
