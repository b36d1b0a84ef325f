use Rattle.std.proofs.Common.{subst, sym, true, ap, ◌∙◌, ◌++◌}
use Rattle.std.specs.Prelude.{min, Ok}
use Rattle.pair_core.specs.PairCalls.{Receives}
use Rattle.pair_core.specs.PairViews.{HostView}
use Rattle.pair_core.specs.Pieces.{ReceivesPiece}
use Rattle.pair_core.specs.declared.outcome.Outcome.TheVariants as outcome
use Rattle.pair_core.proofs.HostPieces.{host_receives}
use Rattle.pair_core.proofs.host.Host.recv_piece.Goals as goal

pub returns-in-Ok-clause-step : goal.returns-in-Ok-clause-step
returns-in-Ok-clause-step g c =
    let h : HostView _ = record { control_block = c.self.inside.socket.control_block; endpoint = c.self.inside.endpoint; opening = c.self.inside.opening; accepted = c.self.inside.accepted.items; handed_out = c.self.inside.handed_out.items; released = c.self.inside.released; taken = c.self.inside.taken; closed = c.self.inside.closed; source = c.self.inside.socket.tsval_generator } in
    subst (λ x. Receives true c.args.size x (outcome.Read c.in-Ok.bytes) (record h { control_block = c.take_piece.new.socket.control_block; handed_out = c.append.new.list.items; source = c.take_piece.new.socket.tsval_generator })) c.self.view_is
    (subst (λ b. Receives true c.args.size h (outcome.Read c.in-Ok.bytes) (record h { control_block = c.take_piece.new.socket.control_block; handed_out = c.append.new.list.items; source = b })) (sym c.take_piece.ensures.generator)
    (host_receives c.args.size h c.in-Ok.bytes c.take_piece.new.socket.control_block c.append.new.list.items (subst (λ n. ReceivesPiece n h.control_block (Ok c.in-Ok.bytes) c.take_piece.new.socket.control_block) (c.in_ok-bytes.ensures.answer ∙ c.min-count.ensures ∙ ap (min c.args.size) c.recv_queue.ensures.value) c.in-Ok.ensures.call)
    (c.append.ensures ∙ (λ i. c.room.ensures.same i ++ c.as_slice.ensures.value i))))
