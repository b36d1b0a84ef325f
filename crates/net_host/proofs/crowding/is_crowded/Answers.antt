use Rattle.std.proofs.Common.{rules, ◌≡◌, ◌<◌, ◌≤◌, ◌^◌, length, true, false, arith}
use Rattle.ip_wire.specs.IpHeader.{src_addr_of}
use Rattle.net_host.specs.Crowding.{first_of, last_of}
use Rattle.net_host.specs.Filing.{number_of}
use Rattle.net_host.specs.Spans.{LieWithin}
use Rattle.net_host.proofs.Crowded.{few_in}
use Rattle.net_host.proofs.crowding.is_crowded.Goals as goal

pub returns-clause-few : goal.returns-clause-few
returns-clause-few g c = λ e some.
    let whole : c.args.sockets.now.complete ≡ true = search rules in
    let small : length c.args.sockets.now.slots.items ≤ 2 ^ 64 = search rules in
    let span : LieWithin c.args.sockets.now.index.entries (first_of (number_of (src_addr_of c.args.ip.now))) (last_of (number_of (src_addr_of c.args.ip.now))) c.args.most = search rules in
    few_in c.args.sockets.now.complete c.args.sockets.now.slots.items c.args.sockets.now.index.entries c.args.sockets.now.free (number_of (src_addr_of c.args.ip.now)) c.args.most whole c.requires some small span
