use Rattle.host_context.specs.Outbox.{octets}
use Rattle.host_context.proofs.Puts.{icmp_over_ipv4}
use Rattle.host_context.proofs.outbox.Outbox.emit_icmp.Goals as goal

pub returns-in-Ipv4-Ipv4-clause-added : goal.returns-in-Ipv4-Ipv4-clause-added
returns-in-Ipv4-Ipv4-clause-added c =
    icmp_over_ipv4 c.args.caps.now (octets c.args.self.now.packets.items) (octets c.emit_icmpv4.new.self.packets.items) c.emit_icmpv4.result c.args.ip.now c.in-Ipv4-Ipv4.field-0-0 c.args.repr.now c.in-Ipv4-Ipv4.message c.in-Ipv4-Ipv4.is-0 c.in-Ipv4-Ipv4.is-1 c.emit_icmpv4.ensures.added
