use Rattle.std.proofs.Common.{ap, ◌∙◌, subst, Some}
use Rattle.std.specs.Fn.{FnOnceReturnsAtMut}
use Rattle.net_base.specs.Packets.{packets, AppendsWith}
use Rattle.net_base.proofs.PacketLists.{made_room_packets, enqueues}
use Rattle.net_base.proofs.packet_buffer.PacketBuffer.enqueue_with_infallible.Goals as goal

pub returns-then-not-make_room-clause-kept : goal.returns-then-not-make_room-clause-kept
returns-then-not-make_room-clause-kept g c = ap (λ q. packets q.entries) c.make_room.ensures.after ∙ made_room_packets c.args.max_size c.args.self.now

pub returns-clause-ok : goal.returns-clause-ok
returns-clause-ok g c =
    enqueues (FnOnceReturnsAtMut g.F.FnOnce c.args.f) _ _ _ _ _
    (subst (λ q. AppendsWith (FnOnceReturnsAtMut g.F.FnOnce c.args.f) c.args.max_size (Some c.args.header) q c.append_with.result c.append_with.new.self) c.make_room.ensures.after c.append_with.ensures)
