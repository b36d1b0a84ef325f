use Rattle.std.proofs.Common.{rules, ◌≡◌, Some, ap, option_map}
use Rattle.control_wire.specs.Fits.{FitsPacket}
use Rattle.control_wire.specs.Segment.{segment_of}
use Rattle.sock_tcp.specs.Process.{reply_of}
use Rattle.pair_core.proofs.Captured.{reply_fits}
use Rattle.pair_core.proofs.wire.store_reply.Goals as goal

pub of_reply-requires : goal.of_reply-requires
of_reply-requires c =
    let ip = c.in-Some.ip_repr in
    let repr = c.in-Some.repr in
    let is : c.args.reply ≡ Some (ip, repr) = search rules in
    let fits : FitsPacket ip (segment_of repr) = c.requires.fits (reply_of (ip, repr)) (ap (option_map reply_of) is) in
    reply_fits c.of-header.result ip (segment_of repr) c.of-header.ensures (c.requires.empty (ip, repr) is) fits
