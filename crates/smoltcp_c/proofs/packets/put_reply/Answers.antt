use Rattle.std.proofs.Common.{◌≡◌, pos, Some, ap, arith, rules, option_map, sym, ◌∙◌, to_z, w64}
use Rattle.control_wire.specs.Segment.{segment_of}
use Rattle.sock_tcp.specs.Process.{reply_of}
use Rattle.smoltcp_c.specs.Packets.{size_of}
use Rattle.smoltcp_c.proofs.Emitting.{counted, bare_len}
use Rattle.smoltcp_c.proofs.packets.put_reply.Goals as goal

pub put_packet-requires-clause-counted : goal.put_packet-requires-clause-counted
put_packet-requires-clause-counted c =
    let is : c.args.answer.now ≡ Some (c.in-Some.ip, c.in-Some.repr) = search rules in
    counted _ _ (c.requires.fits (reply_of (c.in-Some.ip, c.in-Some.repr)) (ap (option_map reply_of) is))

pub put_packet-requires-clause-room : goal.put_packet-requires-clause-room
put_packet-requires-clause-room c =
    let is : c.args.answer.now ≡ Some (c.in-Some.ip, c.in-Some.repr) = search rules in
    let n = bare_len c.in-Some.ip (segment_of c.in-Some.repr) (c.requires.fits (reply_of (c.in-Some.ip, c.in-Some.repr)) (ap (option_map reply_of) is)) (c.requires.bare _ is) in
    omega (arith, n)

pub returns-in-Some-clause-answer : goal.returns-in-Some-clause-answer
returns-in-Some-clause-answer c =
    let is : c.args.answer.now ≡ Some (c.in-Some.ip, c.in-Some.repr) = search rules in
    let e : to_z w64 c.put_packet.result ≡ pos c.put_packet.result = search rules in
    e ∙ ap pos c.put_packet.ensures.len ∙ ap (λ o. pos (size_of (option_map reply_of o))) (sym is)
