-- Each step of a side keeps the invariant and only adds, and a closed side accepts nothing more.
use Rattle.std.proofs.Common.{◌≡◌, ◌+◌, ◌≤◌, ◌⊎◌, true, false, refl, sym, subst, ◌∙◌, arith, [], ◌∷◌, take, inl, inr, ⊎_elim}
use Rattle.std.proofs.lemmas.List.{append-nil}
use Rattle.sock_core.specs.Streams.{IsPrefix}
use Rattle.sock_core.proofs.Streams.{prefix_self}
use Rattle.pair_core.specs.Network.{Accepts, AnswersRefused, Closes, ClosesUnacknowledged, Connects, Dies, Dispatches, Emits, Endpoint, Finishes, HandsOut, Hears, Listens, Network, Replies, Step, closed_after, closed_unacknowledged, connected, emitted, heard_by, listened, swapped, with_accepted, with_local, with_read, with_view}
use Rattle.pair_core.specs.NetworkInvariant.{IsInvariant, PhaseAllows}
use Rattle.pair_core.specs.NetworkRuns.{EitherSteps, StreamEnded, OnlyAdds}
use Rattle.pair_core.specs.StreamViews.{HasIss, Open, SocketView, StreamSegment}
use Rattle.pair_core.proofs.NetworkCalls.{accepts, closes, closes_unacknowledged, hands_out}
use Rattle.pair_core.proofs.NetworkDeliveries.{dispatch_keeps, emission_keeps, ends_keep, hear_keeps, reply_keeps}
use Rattle.pair_core.proofs.NetworkOpening.{connects, listens}
use Rattle.pair_core.proofs.NetworkSegments.{answers_refused}

-- a step of the local side
pub step_keeps : (w v : Network) → Step w v → IsInvariant w → IsInvariant v
step_keeps w v (Listens e is) i = subst IsInvariant (sym is) (listens w e i)
step_keeps w v (Connects iss small e is) i = subst IsInvariant (sym is) (connects w iss small e i)
step_keeps w v (Accepts bytes e small within is) i = subst IsInvariant (sym is) (accepts w bytes e small within i)
step_keeps w v (HandsOut n is) i = subst IsInvariant (sym is) (hands_out w n i)
step_keeps w v (Finishes done is) i = subst IsInvariant (sym is) i
step_keeps w v (Closes e is) i = subst IsInvariant (sym is) (closes w e i)
step_keeps w v (ClosesUnacknowledged e is) i = subst IsInvariant (sym is) (closes_unacknowledged w e i)
step_keeps w v (Dies u ends is) i = subst IsInvariant (sym is) (ends_keep w u ends i)
step_keeps w v (Hears g u come heard is) i = subst IsInvariant (sym is) (hear_keeps w g u come heard i)
step_keeps w v (Replies g answer sent stamps reply is) i = subst IsInvariant (sym is) (reply_keeps w g answer sent stamps reply i)
step_keeps w v (AnswersRefused g k sent plain ph reset is) i = subst IsInvariant (sym is) (answers_refused w g k sent plain ph reset i)
step_keeps w v (Dispatches u does is) i = subst IsInvariant (sym is) (dispatch_keeps w u does i)
step_keeps w v (Emits g stamps may is) i = subst IsInvariant (sym is) (emission_keeps w g stamps may i)

-- the network as the other side sees it
pub swapped_keeps : (w : Network) → IsInvariant w → IsInvariant (swapped w)
swapped_keeps w i = record {
  local_origin = i.remote_origin;
  remote_origin = i.local_origin;
  local_acked_origin = i.remote_acked_origin;
  remote_acked_origin = i.local_acked_origin;
  outgoing = i.incoming;
  incoming = i.outgoing;
  outgoing_holds = i.incoming_holds;
  incoming_holds = i.outgoing_holds;
  local_true = i.remote_true;
  remote_true = i.local_true;
  local_numbers = i.remote_numbers;
  remote_numbers = i.local_numbers;
  local_connects = i.remote_connects;
  remote_connects = i.local_connects;
  local_unspoken = i.remote_unspoken;
  remote_unspoken = i.local_unspoken;
  limited = i.limited;
  local_within = i.remote_within;
  remote_within = i.local_within;
}

-- a step of either side
pub either_keeps : (w v : Network) → EitherSteps w v → IsInvariant w → IsInvariant v
either_keeps w v (inl step) i = step_keeps w v step i
either_keeps w v (inr step) i = swapped_keeps (swapped v) (step_keeps (swapped w) (swapped v) step (swapped_keeps w i))

-- the local side changes in its view, its counts and what it handed out
adds_counts : (w : Network) (e : Endpoint) → e.accepted ≡ w.local.accepted → e.closed ≡ w.local.closed → IsPrefix w.local.handed_out e.handed_out → w.local.released ≤ e.released → w.local.taken ≤ e.taken → OnlyAdds w (with_local w e)
adds_counts w e accepted closed handed_out released taken = record {
  remote = refl;
  remote_segments = refl;
  limit = refl;
  local_segments = ([], sym (append-nil w.local_segments));
  handed_out = handed_out;
  released = released;
  taken = taken;
  accepted = inl accepted;
  closed = inl closed;
}

-- it changes in its view alone
adds_none : (w : Network) (e : Endpoint) → e.accepted ≡ w.local.accepted → e.closed ≡ w.local.closed → e.handed_out ≡ w.local.handed_out → e.released ≡ w.local.released → e.taken ≡ w.local.taken → OnlyAdds w (with_local w e)
adds_none w e accepted closed handed_out released taken = adds_counts w e accepted closed ([], append-nil w.local.handed_out ∙ sym handed_out) (omega (arith, released)) (omega (arith, taken))

-- a segment was heard
adds_heard : (w : Network) (v : SocketView) → OnlyAdds w (with_local w (heard_by w.local v))
adds_heard w v = adds_counts w (heard_by w.local v) refl refl (prefix_self w.local.handed_out) (omega arith) (omega arith)

-- a segment went out
adds_segment : (w : Network) (g : StreamSegment) → OnlyAdds w (emitted w g)
adds_segment w g = record {
  remote = refl;
  remote_segments = refl;
  limit = refl;
  local_segments = (g ∷ [], refl);
  handed_out = prefix_self w.local.handed_out;
  released = omega arith;
  taken = omega arith;
  accepted = inl refl;
  closed = inl refl;
}

-- the sending side accepts more, or is closed
adds_stream : (w : Network) (e : Endpoint) → w.local.view.phase ≡ Open → IsPrefix w.local.accepted e.accepted → (e.closed ≡ w.local.closed) ⊎ (e.closed ≡ true) → e.handed_out ≡ w.local.handed_out → e.released ≡ w.local.released → e.taken ≡ w.local.taken → OnlyAdds w (with_local w e)
adds_stream w e sends more closes handed_out released taken = record {
  remote = refl;
  remote_segments = refl;
  limit = refl;
  local_segments = ([], sym (append-nil w.local_segments));
  handed_out = ([], append-nil w.local.handed_out ∙ sym handed_out);
  released = omega (arith, released);
  taken = omega (arith, taken);
  accepted = inr (sends, more);
  closed = ⊎_elim (λ same. inl same) (λ closed. inr (sends, closed)) closes;
}

-- what each step adds
pub step_adds : (w v : Network) → Step w v → OnlyAdds w v
step_adds w v (Listens e is) = subst (OnlyAdds w) (sym is) (adds_none w (listened w.local) refl refl refl refl refl)
step_adds w v (Connects iss small e is) = subst (OnlyAdds w) (sym is) (adds_none w (connected w.local iss) refl refl refl refl refl)
step_adds w v (Accepts bytes e small within is) = subst (OnlyAdds w) (sym is) (adds_stream w (with_accepted w.local bytes) e (bytes, refl) (inl refl) refl refl refl)
step_adds w v (HandsOut n is) = subst (OnlyAdds w) (sym is) (adds_counts w (with_read w.local n) refl refl (take n w.local.view.receive_queue, refl) (omega arith) (omega arith))
step_adds w v (Finishes done is) = subst (OnlyAdds w) (sym is) (adds_none w w.local refl refl refl refl refl)
step_adds w v (Closes e is) = subst (OnlyAdds w) (sym is) (adds_stream w (closed_after w.local) e (prefix_self w.local.accepted) (inr refl) refl refl refl)
step_adds w v (ClosesUnacknowledged e is) = subst (OnlyAdds w) (sym is) (adds_none w (closed_unacknowledged w.local) refl refl refl refl refl)
step_adds w v (Dies u ends is) = subst (OnlyAdds w) (sym is) (adds_none w (with_view w.local u) refl refl refl refl refl)
step_adds w v (Hears g u come heard is) = subst (OnlyAdds w) (sym is) (adds_heard w u)
step_adds w v (Replies g answer sent stamps reply is) = subst (OnlyAdds w) (sym is) (adds_segment w answer)
step_adds w v (AnswersRefused g k sent plain ph reset is) = subst (OnlyAdds w) (sym is) (adds_segment w k)
step_adds w v (Dispatches u does is) = subst (OnlyAdds w) (sym is) (adds_none w (with_view w.local u) refl refl refl refl refl)
step_adds w v (Emits g stamps may is) = subst (OnlyAdds w) (sym is) (adds_segment w g)

-- a side that was closed does not send, so its stream has ended
pub closed_stays : (w v : Network) → Step w v → IsInvariant w → w.local.closed ≡ true → StreamEnded w.local v.local
closed_stays w v step i c =
    let adds = step_adds w v step in
    record {
      closed = ⊎_elim (λ same. same ∙ c) (λ closes. closes.1) adds.closed;
      accepted = ⊎_elim (λ same. same) (λ more. absurd (silent more.0)) adds.accepted;
    }
  where
    silent : w.local.view.phase ≡ Open → ⊥
    silent e =
        let t = i.outgoing_holds.sending (subst HasIss (sym e) tt) in
        let says : (t.place ≡ i.outgoing.released + 2) × (i.outgoing.closed ≡ false) = subst (λ p. PhaseAllows p i.outgoing t.place) e t.phase in
        let no : true ≡ false = sym c ∙ sym i.outgoing_holds.closed ∙ says.1 in cc
