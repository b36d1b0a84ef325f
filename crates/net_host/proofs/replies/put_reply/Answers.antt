use Rattle.std.proofs.Common.{◌≡◌, Some, ap, arith, rules, option_map}
use Rattle.control_wire.specs.Segment.{segment_of}
use Rattle.sock_tcp.specs.Process.{reply_of}
use Rattle.net_host.proofs.Bare.{bare_len, counted}
use Rattle.net_host.proofs.replies.put_reply.Goals as goal

pub put_segment-requires-clause-counted : goal.put_segment-requires-clause-counted
put_segment-requires-clause-counted c =
    let is : c.args.reply.now ≡ Some (c.in-Some.ip, c.in-Some.repr) = search rules in
    counted _ _ (c.requires.fits (reply_of (c.in-Some.ip, c.in-Some.repr)) (ap (option_map reply_of) is))

pub put_segment-requires-clause-room : goal.put_segment-requires-clause-room
put_segment-requires-clause-room c =
    let is : c.args.reply.now ≡ Some (c.in-Some.ip, c.in-Some.repr) = search rules in
    let n = bare_len c.in-Some.ip (segment_of c.in-Some.repr) (c.requires.fits (reply_of (c.in-Some.ip, c.in-Some.repr)) (ap (option_map reply_of) is)) (c.requires.bare _ is) in
    omega (arith, n)
