-- Where a side has no work, the other took all that it accepted.
use Rattle.std.proofs.Common.{◌≡◌, ℕ, ◌-◌, ◌≤◌, length, drop, refl, sym, ap, subst, ◌∙◌, arith, length-drop}
use Rattle.sock_tcp.specs.View.{View}
use Rattle.tcp_laws.specs.Polling.{NoWorkNoBytes}
use Rattle.sock_tcp.specs.declared.state.State.{State}
use Rattle.sock_tcp.specs.declared.state.State.TheVariants as state
use Rattle.tcp_laws.proofs.Awake.{reached_by_own}
use Rattle.pair_core.specs.NetworkInvariant.{StreamInvariant}
use Rattle.pair_core.specs.PairInvariant.{IsHost, IsPair}
use Rattle.pair_core.specs.PairNetwork.{endpoint_of, phase_of, shown}
use Rattle.pair_core.specs.PairPromises.{IsReleased}
use Rattle.pair_core.specs.PairQuiet.{NoWorkMeansTaken}
use Rattle.pair_core.specs.PairViews.{HostView, PairView}
use Rattle.pair_core.specs.StreamModel.{Stream}
use Rattle.pair_core.specs.StreamViews.{HasIss, HasNoIss, SocketView}
use Rattle.pair_core.proofs.PairAgrees.{shows}
use Rattle.pair_core.proofs.PairPromises.{keeps_release}

module _ {G : Type 0} (law : NoWorkNoBytes) (sender receiver : HostView G) (o : ℕ) (f : Stream) (i : IsHost sender) (s : StreamInvariant (endpoint_of sender) (endpoint_of receiver) o f) where
  abbrev v : View
  v = sender.control_block

  -- the transmit queue is what was accepted less what was released
  sent_all : length v.tx_buffer.bytes ≡ 0 → (endpoint_of sender).view ≡ shown v → HasIss (phase_of v.state) → length sender.accepted ≤ sender.released
  sent_all none e h =
      let m = s.sending (subst (λ (x : SocketView). HasIss x.phase) (sym e) h) in
      let q : v.tx_buffer.bytes ≡ drop f.released f.accepted = sym (ap (λ (x : SocketView). x.transmit_queue) e) ∙ m.queue in
      let long : length v.tx_buffer.bytes ≡ length f.accepted - f.released = ap length q ∙ length-drop f.released f.accepted in
      let a : length f.accepted ≡ length sender.accepted = ap length s.accepted in
      let r : f.released ≡ sender.released = s.released in
      omega (arith, none, long, a, r)

  sent_nothing : (endpoint_of sender).view ≡ shown v → HasNoIss (phase_of v.state) → length sender.accepted ≤ sender.released
  sent_nothing e h =
      let m = s.unsent (subst (λ (x : SocketView). HasNoIss x.phase) (sym e) h) in
      let a : length f.accepted ≡ length sender.accepted = ap length s.accepted in
      let z : length f.accepted ≡ 0 = ap length m.accepted in
      omega (arith, a, z)

  took_all : IsReleased sender receiver → NoWorkMeansTaken sender receiver
  took_all r alive idle =
      let l : length sender.accepted ≤ sender.released = go v.state refl in
      record { taken = omega (arith, l, r.released, r.taken); released = omega (arith, l, r.released, r.taken) }
    where
      none : length v.tx_buffer.bytes ≡ 0
      none = law v (reached_by_own v i.reached) alive idle

      has : HasIss (phase_of v.state) → length sender.accepted ≤ sender.released
      has h = sent_all none (shows sender i alive) h

      at : (st : State) → v.state ≡ st → HasIss (phase_of st) → length sender.accepted ≤ sender.released
      at st e h = has (subst (λ x. HasIss (phase_of x)) (sym e) h)

      go : (st : State) → v.state ≡ st → length sender.accepted ≤ sender.released
      go state.Closed e = absurd (alive e)
      go state.Listen e = sent_nothing (shows sender i alive) (subst (λ x. HasNoIss (phase_of x)) (sym e) tt)
      go state.SynSent e = at state.SynSent e tt
      go state.SynReceived e = at state.SynReceived e tt
      go state.Established e = at state.Established e tt
      go state.FinWait1 e = at state.FinWait1 e tt
      go state.FinWait2 e = at state.FinWait2 e tt
      go state.CloseWait e = at state.CloseWait e tt
      go state.Closing e = at state.Closing e tt
      go state.LastAck e = at state.LastAck e tt
      go state.TimeWait e = at state.TimeWait e tt

pub no_work_taken_by_b : {G : Type 0} → NoWorkNoBytes → (p : PairView G) → IsPair p → NoWorkMeansTaken p.a p.b
no_work_taken_by_b law p i = took_all law p.a p.b i.network.local_origin i.network.outgoing i.a i.network.outgoing_holds (keeps_release p i).of_a

pub no_work_taken_by_a : {G : Type 0} → NoWorkNoBytes → (p : PairView G) → IsPair p → NoWorkMeansTaken p.b p.a
no_work_taken_by_a law p i = took_all law p.b p.a i.network.remote_origin i.network.incoming i.b i.network.incoming_holds (keeps_release p i).of_b
