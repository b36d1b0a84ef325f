use Rattle.std.proofs.Common.{subst}
use Rattle.std.proofs.lemmas.Option.{same_Some}
use Rattle.ip_wire.specs.declared.repr.IpRepr.{IpRepr}
use Rattle.control_wire.specs.Fits.{FitsPacket}
use Rattle.control_wire.specs.Segment.{Segment, segment_of}
use Rattle.sock_tcp.specs.Process.{reply_of}
use Rattle.sock_tcp.proofs.FittingReplies.{ack_sent}
use Rattle.sock_tcp.proofs.socket.Socket.reply_by.Goals as goal

pub returns-in-Ack-clause-fits : goal.returns-in-Ack-clause-fits
returns-in-Ack-clause-fits g c x e =
    subst (λ (r : IpRepr × Segment). FitsPacket r.0 r.1) (same_Some (reply_of c.answer.result) x e)
    (ack_sent _ c.args.ip_repr.now _ c.args.self.now.control_block (segment_of c.args.repr.now) (segment_of c.ack_reply-reply.result) (segment_of c.with_duplicate-reply.result) (segment_of c.number_reply-reply.result) c.in-Ack.count (reply_of c.answer.result) c.ack_reply-reply.ensures.segment c.with_duplicate-reply.ensures.segment c.number_reply-reply.ensures.segment c.answer.ensures.sent)
