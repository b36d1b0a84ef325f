-- The effects of a delivery and of a dispatch keep the invariant.
use Rattle.std.proofs.Common.{◌≡◌, ◌+◌, ◌-◌, ◌%◌, ◌^◌, ◌<◌, false, refl, sym, ap, subst, ◌∙◌, arith, [], length, length-drop}
use Rattle.std.specs.List.{Contains}
use Rattle.sock_core.proofs.Numbers.{number_add, number_below}
use Rattle.pair_core.specs.Network.{Arrives, IsStamped, Network, emitted, heard_by, with_local, with_view}
use Rattle.pair_core.specs.NetworkInvariant.{IsInvariant}
use Rattle.pair_core.specs.StreamCalls.{Acknowledgement, Data, DispatchEffect, EmitEffect, Ends, FallBack, HearEffect, IsOver, MovesSndNxt, Nothing, ReplyEffect, ResetReply, Same, Segment, EmitsSegment, EmitsReset, Syn, SynAck, SynAlone}
use Rattle.pair_core.specs.StreamTables.{HasSendingBounds}
use Rattle.pair_core.specs.StreamViews.{HasIss, IsNonSynchronized, SocketView, StreamSegment}
use Rattle.pair_core.proofs.NetworkCalls.{dies, moves_snd_nxt}
use Rattle.pair_core.proofs.NetworkEndpoints.{acked_young, crossed, fallen_back, known_young, synchronized_young, synchronizing}
use Rattle.pair_core.proofs.NetworkOpening.{falls_back, hears_syn, hears_syn_ack, hears_syn_alone}
use Rattle.pair_core.proofs.NetworkSegments.{answers_wrong_ack, emits, emits_reset, hears_acknowledgement, hears_segment}

-- a segment that changed no queue is counted as nothing
pub heard_none : (w : Network) (v : SocketView) → v.transmit_queue ≡ w.local.view.transmit_queue → v.receive_queue ≡ w.local.view.receive_queue → with_local w (with_view w.local v) ≡ with_local w (heard_by w.local v)
heard_none w v tx rx = λ i. with_local w (record w.local { view = v; released = none_released i; taken = none_taken i })
  where
    none_released : w.local.released ≡ w.local.released + (length w.local.view.transmit_queue - length v.transmit_queue)
    none_released = omega (arith, ap length tx)

    none_taken : w.local.taken ≡ w.local.taken + (length v.receive_queue - length w.local.view.receive_queue)
    none_taken = omega (arith, ap length rx)

-- a view with the same queues
by_view : (w : Network) (u v : SocketView) → v ≡ u → u.transmit_queue ≡ w.local.view.transmit_queue → u.receive_queue ≡ w.local.view.receive_queue → IsInvariant (with_local w (with_view w.local u)) → IsInvariant (with_local w (heard_by w.local v))
by_view w u v is tx rx i = subst (λ (z : SocketView). IsInvariant (with_local w (heard_by w.local z))) (sym is) (subst IsInvariant (heard_none w u tx rx) i)

-- what a segment does that is heard
pub hear_keeps : (w : Network) (g : StreamSegment) (v : SocketView) → Arrives w g → HearEffect w.local.listener w.local.view v g → IsInvariant w → IsInvariant (with_local w (heard_by w.local v))
hear_keeps w g v come (Nothing is) i = by_view w w.local.view v is refl refl i
hear_keeps w g v come (Data plain live came same) i = hears_segment w g v (record { sent = come.sent; plain = plain; may = synchronized_young w.local.view g _ live plain come.may }) live came same i
hear_keeps w g v come (Acknowledgement plain knows came ack live) i = hears_acknowledgement w g v (record { sent = come.sent; plain = plain; may = known_young w.local.view g _ knows plain come.may }) knows came ack live i
hear_keeps w g v come (FallBack reset ph listener is) i = by_view w (fallen_back w.local).view v is refl refl (falls_back w g come.sent reset ph listener i)
hear_keeps w g v come (Syn iss small plain syn ph is) i = by_view w (synchronizing w.local g iss).view v is refl refl (hears_syn w g iss small come.sent plain syn ph i)
hear_keeps w g v come (SynAlone n within plain syn ph is) i = by_view w (crossed w.local g n).view v is refl refl (hears_syn_alone w g n within come.sent plain syn ph i)
hear_keeps w g v come (SynAck plain syn ph ack to nxt queue held fin) i = hears_syn_ack w g v (record { sent = come.sent; plain = plain; may = acked_young w.local.view g _ v ph ack plain come.may }) syn ph ack to nxt queue held fin i

-- its answer
pub reply_keeps : (w : Network) (g answer : StreamSegment) → Contains w.remote_segments g → (answer.rst ≡ false → IsStamped w.local answer) → ReplyEffect w.local.view g answer → IsInvariant w → IsInvariant (emitted w answer)
reply_keeps w g answer sent stamps (Segment may) i = emits w answer (stamps may.plain) may i
reply_keeps w g answer sent stamps (ResetReply a reset plain ph ack wrong) i = answers_wrong_ack w g answer a sent plain ph ack wrong reset i

-- the end of a connection
pub ends_keep : (w : Network) (v : SocketView) → Ends w.local.view v → IsInvariant w → IsInvariant (with_local w (with_view w.local v))
ends_keep w v e i = dies w v e.phase e.receive_queue e.fin i

-- what a dispatch does, before it emits and after that
pub dispatch_keeps : (w : Network) (v : SocketView) → DispatchEffect w.local.view v → IsInvariant w → IsInvariant (with_local w (with_view w.local v))
dispatch_keeps w v (Same is) i = subst (λ (z : SocketView). IsInvariant (with_local w (with_view w.local z))) (sym is) i
dispatch_keeps w v (MovesSndNxt n within is) i = subst (λ (z : SocketView). IsInvariant (with_local w (with_view w.local z))) (sym is) (moves_snd_nxt w n within i)
dispatch_keeps w v (IsOver e) i = ends_keep w v e i

-- what it emits
pub emission_keeps : (w : Network) (g : StreamSegment) → (g.rst ≡ false → IsStamped w.local g) → EmitEffect w.local.view g → IsInvariant w → IsInvariant (emitted w g)
emission_keeps w g stamps (EmitsSegment may) i = emits w g (stamps may.plain) may i
emission_keeps w g stamps (EmitsReset reset dead) i = emits_reset w g reset dead i

-- the numbers of a socket with an initial sequence number
pub sending_bounds : (w : Network) → IsInvariant w → HasIss w.local.view.phase → HasSendingBounds w.local.view
sending_bounds w i iss =
    let t = i.outgoing_holds.sending iss in
    record {
      snd_una = subst (λ n. n < 2 ^ 32) (sym t.snd_una) (number_below i.local_origin t.place);
      room = omega (arith, ap length t.queue, length-drop i.outgoing.released i.outgoing.accepted, i.outgoing_holds.fits.room);
      flight = t.flight;
      snd_nxt = t.snd_nxt ∙ sym (number_add i.local_origin t.place t.flight) ∙ ap (λ n. (n + t.flight) % 2 ^ 32) (sym t.snd_una);
      flight_le = t.flight_le;
    }

-- the queue of a socket that no byte can have reached
pub nothing_received : (w : Network) → IsInvariant w → IsNonSynchronized w.local.view.phase → w.local.view.receive_queue ≡ []
nothing_received w i early = (i.incoming_holds.nothing_yet early).receive_queue
