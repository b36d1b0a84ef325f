use Rattle.sock_dgram.specs.IcmpDispatch.{outgoing, outgoing_of}
use Rattle.sock_dgram.proofs.Emitting.{emitted}
use Rattle.sock_dgram.proofs.icmp.socket.Socket.emit_first.Goals as goal

pub returns-in-Some : goal.returns-in-Some
returns-in-Some g c = emitted g.F.FnOnce outgoing_of c.args.emit (outgoing c.args.self.now (g.C.Context.facts c.args.cx.now)) c.in-Some.outgoing _ _ _ c.in-Some.ensures c.emit.ensures
