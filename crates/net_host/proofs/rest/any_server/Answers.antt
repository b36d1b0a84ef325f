use Rattle.std.proofs.Common.{◌+◌, ◌≤◌, subst}
use Rattle.control_wire.specs.Segment.{segment_of}
use Rattle.net_host.specs.Asking.{under}
use Rattle.net_host.specs.Filing.{keys_of, server_key}
use Rattle.net_host.specs.Entries.{FindsListed}
use Rattle.net_host.specs.Resting.{Serves}
use Rattle.net_host.proofs.Keyed.{found}
use Rattle.net_host.proofs.Places.{all_filed}
use Rattle.net_host.proofs.Rested.{server_in}
use Rattle.net_host.proofs.rest.any_server.Goals as goal

pub returns-then-sockets-clause-first : goal.returns-then-sockets-clause-first
returns-then-sockets-clause-first g c =
    found (λ x. Serves c.args.ip.now (segment_of c.args.repr.now) x) c.args.sockets.now.slots.items c.args.sockets.now.index.entries (server_key c.args.repr.now.dst_port) (all_filed (λ s. keys_of s) c.args.sockets.now.complete c.args.sockets.now.slots.items c.args.sockets.now.index.entries c.args.sockets.now.free c.if-sockets.true c.requires) (λ k x f h. server_in c.args.sockets.now.index.entries k c.args.ip.now (segment_of c.args.repr.now) x.socket f h) c.first_in.result
    (subst (λ key. FindsListed (λ x. Serves c.args.ip.now (segment_of c.args.repr.now) x) c.args.sockets.now.slots.items c.args.sockets.now.index.entries key c.first_in.result) c.server_key-key.ensures.value
    (subst (λ xs. FindsListed (λ x. Serves c.args.ip.now (segment_of c.args.repr.now) x) xs c.args.sockets.now.index.entries c.server_key-key.result c.first_in.result) c.deref.ensures.value c.first_in.ensures.found))

pub returns-then-sockets-clause-asked : goal.returns-then-sockets-clause-asked
returns-then-sockets-clause-asked g c = λ whole. subst (λ key. c.first_in.new.asked.count ≤ c.args.asked.now.count + (under c.args.sockets.now.index.entries key + 1)) c.server_key-key.ensures.value c.first_in.ensures.asked
