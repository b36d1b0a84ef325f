use Rattle.std.proofs.Common.{rules, ◌≡◌, IfSome, Some, None, refl, subst, sym}
use Rattle.net_host.specs.Slots.{Fills, IsFree}
use Rattle.net_host.specs.Walks.{ChangesAt, Finds}
use Rattle.smoltcp_socket.specs.declared.socket.Socket.TheVariants as kinds
use Rattle.smoltcp_c.specs.Host.{named, slots, slots_of}
use Rattle.smoltcp_c.proofs.host_sockets.smoltcp_host_add_tcp_nonnull.Goals as goal

pub returns-in-Ok-clause-filled : goal.returns-in-Ok-clause-filled
returns-in-Ok-clause-filled c =
    let is : c.args.room.now.made ≡ Some c.take.result = search rules in
    let id : named c.id_of.result ≡ c.in-Ok.handle = search rules in
    let filled : ChangesAt (Fills (kinds.Tcp c.take.result) c.in-Ok.handle) (slots c.args.h.now) c.in-Ok.handle.index c.add.new.self.slots.items = subst (λ w. ChangesAt (Fills (kinds.Tcp c.take.result) c.in-Ok.handle) (slots_of w) c.in-Ok.handle.index c.add.new.self.slots.items) c.host.ensures.value c.in-Ok.ensures.filled in
    λ e. subst (λ o. IfSome o (λ s. ChangesAt (Fills (kinds.Tcp s) (named c.id_of.result)) (slots c.args.h.now) (named c.id_of.result).index c.add.new.self.slots.items)) (sym is)
    (subst (λ n. ChangesAt (Fills (kinds.Tcp c.take.result) n) (slots c.args.h.now) n.index c.add.new.self.slots.items) (sym id) filled)

pub returns-in-Tcp-clause-full : goal.returns-in-Tcp-clause-full
returns-in-Tcp-clause-full c =
    λ no. (refl, subst (λ w. Finds IsFree (slots_of w) None) c.host.ensures.value c.in-Err.ensures.full)
