use Rattle.std.proofs.Common.{◌≡◌, length, ◌∙◌, ap}
use Rattle.control_wire.specs.Icmp.{icmpv6_octets, message_v6}
use Rattle.sock_dgram.specs.Datagrams.{stored_as}
use Rattle.sock_dgram.specs.IcmpFilter.{octets_v6}
use Rattle.sock_dgram.proofs.Claimed.{left_long, left_whole}
use Rattle.sock_dgram.proofs.icmp.process.store_v6.Goals as goal

pub returns : goal.returns
returns c =
    let a = c.claim-taken in let size = c.buffer_len-size.result in let w = c.emit.new.buffer in let ip = c.args.ip_repr.now in let m = message_v6 c.args.icmp_repr.now in
    let is : w ≡ octets_v6 ip m = c.emit.ensures ∙ ap (λ caps. icmpv6_octets caps ip.src_addr ip.dst_addr m) c.default-caps.ensures in
    let long : length w ≡ size = left_long size c.args.remote c.args.buffer.now a.new.self a.result.0 a.result.1 a.ensures c.if-not-taken.false c.part_mut-lent.result.now w c.part_mut-lent.ensures.value c.emit.auto.buffer in
    left_whole size c.args.remote c.args.buffer.now a.new.self a.result.0 a.result.1 a.ensures c.if-not-taken.false w long
    ∙ (λ i. stored_as (c.buffer_len-size.ensures i) c.args.remote (is i) c.args.buffer.now)
