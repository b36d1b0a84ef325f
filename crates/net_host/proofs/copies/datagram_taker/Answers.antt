use Rattle.std.proofs.Common.{subst}
use Rattle.net_host.specs.Datagrams.{TakesDatagram}
use Rattle.net_host.specs.Entries.{FindsListed}
use Rattle.net_host.specs.Filing.{keys_of, udp_key}
use Rattle.net_host.proofs.Keyed.{datagram_in, found}
use Rattle.net_host.proofs.Places.{all_filed}
use Rattle.net_host.proofs.copies.datagram_taker.Goals as goal

pub returns-then-sockets : goal.returns-then-sockets
returns-then-sockets g c =
    found (λ x. TakesDatagram (g.C.Context.facts c.args.cx.now) c.args.ip.now c.args.repr.now x) c.args.sockets.now.slots.items c.args.sockets.now.index.entries (udp_key c.args.repr.now.dst_port) (all_filed (λ s. keys_of s) c.args.sockets.now.complete c.args.sockets.now.slots.items c.args.sockets.now.index.entries c.args.sockets.now.free c.if-sockets.true c.requires) (λ k x e h. datagram_in c.args.sockets.now.index.entries k (g.C.Context.facts c.args.cx.now) c.args.ip.now c.args.repr.now x.socket e h) c.first_under.result
    (subst (λ key. FindsListed (λ x. TakesDatagram (g.C.Context.facts c.args.cx.now) c.args.ip.now c.args.repr.now x) c.args.sockets.now.slots.items c.args.sockets.now.index.entries key c.first_under.result) c.udp_key-key.ensures.value
    (subst (λ xs. FindsListed (λ x. TakesDatagram (g.C.Context.facts c.args.cx.now) c.args.ip.now c.args.repr.now x) xs c.args.sockets.now.index.entries c.udp_key-key.result c.first_under.result) c.deref.ensures.value c.first_under.ensures))
