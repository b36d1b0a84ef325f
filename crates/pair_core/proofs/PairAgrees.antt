-- How the numbers of a pair's two sockets stand to each other.
use Rattle.std.proofs.Common.{◌≡◌, ℕ, ◌+◌, ◌-◌, ◌%◌, ◌^◌, ◌≤◌, ◌⊎◌, Bool, true, false, List, ◌++◌, length, drop, refl, sym, ap, subst, ◌∙◌, arith, inl, inr, ⊎_elim, Some}
use Rattle.std.proofs.Math.Seq.{drop-append_seam}
use Rattle.std.proofs.lemmas.List.{drop-drop}
use Rattle.control_wire.specs.Seq.{seq_of}
use Rattle.sock_core.specs.Places.{number_at}
use Rattle.sock_core.specs.Streams.{ByteAt, fin_length}
use Rattle.sock_core.proofs.Numbers.{number_add}
use Rattle.sock_core.proofs.Streams.{byte_drop, byte_right, le_from_at}
use Rattle.sock_tcp.specs.Content.{carries_data}
use Rattle.sock_tcp.specs.Due.{is_closing}
use Rattle.sock_tcp.specs.Verdict.{fin_place}
use Rattle.sock_tcp.specs.View.{View}
use Rattle.sock_tcp.specs.declared.state.State.{State}
use Rattle.sock_tcp.specs.declared.state.State.TheVariants as state
use Rattle.pair_core.specs.Network.{Endpoint}
use Rattle.pair_core.specs.NetworkInvariant.{PhaseAllows, ReceivingMatches, SendingMatches, StreamInvariant}
use Rattle.pair_core.specs.PairAgrees.{SidesAgree, SynchronizedSidesAgree}
use Rattle.pair_core.specs.PairInvariant.{IsHost, IsPair}
use Rattle.pair_core.specs.PairNetwork.{endpoint_of, phase_of, seen, shown}
use Rattle.pair_core.specs.PairViews.{HostView, PairView}
use Rattle.pair_core.specs.StreamModel.{Stream, counted}
use Rattle.pair_core.specs.StreamViews.{FinQueued, HasIss, IsSynchronized, KnowsPeer, Open, Phase, Silent, SocketView}
use Rattle.pair_core.specs.declared.host.Opening.{Opening}
use Rattle.pair_core.specs.declared.host.Opening.TheVariants as opening
use Rattle.pair_core.proofs.StreamGrowth.{fin_length_le, sound_front}
use Rattle.pair_core.proofs.StreamSending.{queue_length}

-- an opened socket is shown as it is
pub shows : {G : Type 0} (h : HostView G) → IsHost h → (h.control_block.state ≡ state.Closed → ⊥) → (endpoint_of h).view ≡ shown h.control_block
shows h i alive = go h.opening refl
  where
    go : (e : Opening) → h.opening ≡ e → seen e h.control_block ≡ shown h.control_block
    go opening.Unopened e = absurd (alive (i.idle e).state)
    go opening.Listener e = refl
    go opening.Connector e = refl

-- ---- one stream

-- what the receiver took of the queue, in the words of `SidesAgree`
record Taken (v w : SocketView) (handed_out accepted : List ℕ) : Type 0 where
  count : ℕ
  within : count ≤ length v.transmit_queue
  there : w.rcv_nxt ≡ (v.snd_una + (count + fin_length w.fin_counted)) % 2 ^ 32
  fin : w.fin_counted ≡ true → count ≡ length v.transmit_queue
  whole : handed_out ++ w.receive_queue ++ drop count v.transmit_queue ≡ accepted
  held : (k b : ℕ) → w.held k ≡ Some b → ByteAt v.transmit_queue (count + k) b

-- what the receiver counted past SND.UNA
record Heard (v w : SocketView) (most : ℕ) : Type 0 where
  count : ℕ
  within : count ≤ length v.transmit_queue + most
  there : w.rcv_nxt ≡ (v.snd_una + count) % 2 ^ 32

abbrev fins : Phase → ℕ
fins FinQueued = 1
fins _ = 0

module _ (x y : Endpoint) (o : ℕ) (f : Stream) (s : StreamInvariant x y o f) (iss : HasIss x.view.phase) (knows : KnowsPeer y.view.phase) where
  abbrev m : SendingMatches x.view o f
  m = s.sending iss

  abbrev r : ReceivingMatches y.view y.handed_out o f
  r = s.receiving knows

  room : length x.view.transmit_queue + f.released ≡ length f.accepted
  room = queue_length o f x.view s.sound m

  joined_le : length f.joined ≤ length f.accepted
  joined_le = le_from_at f.joined f.accepted s.sound.joined

  no_fin_of_open : f.closed ≡ false → f.fin_counted ≡ false
  no_fin_of_open open_yet = go f.fin_counted refl
    where
      go : (b : Bool) → f.fin_counted ≡ b → b ≡ false
      go true e = let no : true ≡ false = sym (s.sound.fin e).0 ∙ open_yet in cc
      go false e = refl

  taken_of : m.place ≡ f.released + 2 → Taken x.view y.view y.handed_out x.accepted
  taken_of two =
      let n : ℕ = length f.joined - f.released in
      let front = sound_front f s.sound in
      let all : f.released + n ≡ length f.joined = omega (arith, s.sound.released) in
      let at : counted f + 2 ≡ m.place + (n + fin_length f.fin_counted) = omega (arith, two, s.sound.released) in
      let rest : drop n x.view.transmit_queue ≡ front.0 =
      ap (drop n) m.queue ∙ drop-drop n f.released f.accepted ∙ (λ i. drop (all i) (sym front.1 i)) ∙ drop-append_seam f.joined front.0 in
      record {
        count = n;
        within = omega (arith, room, joined_le);
        there = r.rcv_nxt ∙ ap (number_at o) at ∙ sym (number_add o m.place (n + fin_length f.fin_counted)) ∙ (λ i. (sym m.snd_una i + (n + fin_length (sym r.fin i))) % 2 ^ 32);
        fin = λ e. omega (arith, (s.sound.fin (sym r.fin ∙ e)).1, room);
        whole = (λ i. r.queue i ++ rest i) ∙ front.1 ∙ s.accepted;
        held = λ k b e.
            let there : ByteAt (f.joined ++ front.0) (length f.joined + k) b = subst (λ xs. ByteAt xs (length f.joined + k) b) (sym front.1) (s.sound.held (length f.joined + k) b (omega arith) (r.held k b e)) in
            let behind : ByteAt front.0 (length f.joined + k - length f.joined) b = byte_right f.joined front.0 (length f.joined + k) b (omega arith) there in
            let here : ByteAt (drop n x.view.transmit_queue) k b = subst (λ xs. ByteAt xs k b) (sym rest) (subst (λ j. ByteAt front.0 j b) (omega arith) behind) in
            byte_drop x.view.transmit_queue n k b here;
      }

  heard_by_place : (most : ℕ) → counted f + 2 ≤ m.place + length x.view.transmit_queue + most → Heard x.view y.view most
  heard_by_place most le =
      let n : ℕ = counted f + 2 - m.place in
      let at : counted f + 2 ≡ m.place + n = omega (arith, m.acked) in
      record {
        count = n;
        within = omega (arith, le);
        there = r.rcv_nxt ∙ ap (number_at o) at ∙ sym (number_add o m.place n) ∙ ap (λ u. (u + n) % 2 ^ 32) (sym m.snd_una);
      }

  heard_of : IsSynchronized x.view.phase → Heard x.view y.view (fins x.view.phase)
  heard_of synced = heard_by_place (fins x.view.phase) (go x.view.phase refl synced)
    where
      bound : counted f ≤ length f.accepted + fin_length f.fin_counted
      bound = omega (arith, joined_le)

      none : f.closed ≡ false → fin_length f.fin_counted ≡ 0
      none open_yet = ap fin_length (no_fin_of_open open_yet)

      says : (p : Phase) → x.view.phase ≡ p → PhaseAllows p f m.place
      says p e = subst (λ q. PhaseAllows q f m.place) e m.phase

      go : (p : Phase) → x.view.phase ≡ p → IsSynchronized p → counted f + 2 ≤ m.place + length x.view.transmit_queue + fins p
      go Open e t = let h = says Open e in omega (arith, h.0, none h.1, room, bound)
      go FinQueued e t = ⊎_elim
          (λ h. omega (arith, h.0, none h.1, room, bound, at_syn h.0))
          (λ h. omega (arith, h.0, room, bound, fin_length_le f.fin_counted))
          (says FinQueued e)
        where
          at_syn : m.place ≡ 1 → length f.accepted ≡ 0
          at_syn one = ⊎_elim (λ a. ap length a.1) (λ h. ⊎_elim (λ a. absurd (omega (arith, one, a))) (λ a. absurd (omega (arith, one, a.0))) h) m.at
      go Silent e t = ⊎_elim
          (λ h. omega (arith, h.0, none h.1, room, bound))
          (λ h. omega (arith, h.0, h.1, room, bound, fin_length_le f.fin_counted))
          (says Silent e)
      go _ e t = absurd t

-- ---- the two sides

fins_of : (st : State) → fins (phase_of st) ≡ fin_place st
fins_of state.Closed = refl
fins_of state.Listen = refl
fins_of state.SynSent = refl
fins_of state.SynReceived = refl
fins_of state.Established = refl
fins_of state.FinWait1 = refl
fins_of state.FinWait2 = refl
fins_of state.CloseWait = refl
fins_of state.Closing = refl
fins_of state.LastAck = refl
fins_of state.TimeWait = refl

-- a side that sends is open, or closing
sends : (st : State) → carries_data st ≡ true → (phase_of st ≡ Open) ⊎ ((phase_of st ≡ FinQueued) × (is_closing st ≡ true))
sends state.Established e = inl refl
sends state.CloseWait e = inl refl
sends state.FinWait1 e = inr (refl, refl)
sends state.Closing e = inr (refl, refl)
sends state.LastAck e = inr (refl, refl)
sends state.Closed e = let no : false ≡ true = e in cc
sends state.Listen e = let no : false ≡ true = e in cc
sends state.SynSent e = let no : false ≡ true = e in cc
sends state.SynReceived e = let no : false ≡ true = e in cc
sends state.FinWait2 e = let no : false ≡ true = e in cc
sends state.TimeWait e = let no : false ≡ true = e in cc

synced_iss : (p : Phase) → IsSynchronized p → HasIss p
synced_iss Open t = tt
synced_iss FinQueued t = tt
synced_iss Silent t = tt
synced_iss _ t = absurd t

synced_knows : (p : Phase) → IsSynchronized p → KnowsPeer p
synced_knows Open t = tt
synced_knows FinQueued t = tt
synced_knows Silent t = tt
synced_knows _ t = absurd t

module _ {G : Type 0} (h o : HostView G) (i : IsHost h) (j : IsHost o) (oh oo : ℕ) (f g : Stream) (s : StreamInvariant (endpoint_of h) (endpoint_of o) oh f) (t : StreamInvariant (endpoint_of o) (endpoint_of h) oo g) where
  abbrev v : View
  v = h.control_block

  abbrev w : View
  w = o.control_block

  agree : carries_data v.state ≡ true → (is_closing v.state ≡ true → h.closed ≡ true) → IsSynchronized (phase_of w.state) → SidesAgree h o
  agree carries closed synced = record {
    taken = a.count;
    taken_within = a.within;
    there = ap seq_of a.there;
    fin = a.fin;
    whole = a.whole;
    held = a.held;
    heard = b.count;
    heard_within = subst (λ n. b.count ≤ length w.tx_buffer.bytes + n) (fins_of w.state) b.within;
    back = ap seq_of b.there;
  }
    where
      sender : IsSynchronized (phase_of v.state)
      sender = ⊎_elim (λ e. subst IsSynchronized (sym e) tt) (λ e. subst IsSynchronized (sym e.0) tt) (sends v.state carries)

      seen_h : (endpoint_of h).view ≡ shown v
      seen_h = shows h i (λ e. subst (λ x. IsSynchronized (phase_of x)) e sender)

      seen_o : (endpoint_of o).view ≡ shown w
      seen_o = shows o j (λ e. subst (λ x. IsSynchronized (phase_of x)) e synced)

      synced_h : IsSynchronized (endpoint_of h).view.phase
      synced_h = subst (λ (x : SocketView). IsSynchronized x.phase) (sym seen_h) sender

      synced_o : IsSynchronized (endpoint_of o).view.phase
      synced_o = subst (λ (x : SocketView). IsSynchronized x.phase) (sym seen_o) synced

      iss_h : HasIss (endpoint_of h).view.phase
      iss_h = synced_iss (endpoint_of h).view.phase synced_h

      knows_o : KnowsPeer (endpoint_of o).view.phase
      knows_o = synced_knows (endpoint_of o).view.phase synced_o

      says : (p : Phase) → phase_of v.state ≡ p → PhaseAllows p f (s.sending iss_h).place
      says p e = subst (λ q. PhaseAllows q f (s.sending iss_h).place) (ap (λ (x : SocketView). x.phase) seen_h ∙ e) (s.sending iss_h).phase

      two : (s.sending iss_h).place ≡ f.released + 2
      two = ⊎_elim
          (λ e. let c = says Open e in c.0)
          (λ e. ⊎_elim
          (λ c. let no : true ≡ false = sym (closed e.1) ∙ sym s.closed ∙ c.1 in cc)
          (λ c. c.0)
          (says FinQueued e.0))
          (sends v.state carries)

      a : Taken (shown v) (shown w) o.handed_out h.accepted
      a = subst (λ x. Taken x (shown w) o.handed_out h.accepted) seen_h (subst (λ y. Taken (endpoint_of h).view y o.handed_out h.accepted) seen_o (taken_of (endpoint_of h) (endpoint_of o) oh f s iss_h knows_o two))

      b : Heard (shown w) (shown v) (fins (phase_of w.state))
      b = subst (λ x. Heard x (shown v) (fins x.phase)) seen_o (subst (λ y. Heard (endpoint_of o).view y (fins (endpoint_of o).view.phase)) seen_h (heard_of (endpoint_of o) (endpoint_of h) oo g t (synced_iss (endpoint_of o).view.phase synced_o) (synced_knows (endpoint_of h).view.phase synced_h) synced_o))

pub b_agrees : {G : Type 0} → (p : PairView G) → IsPair p → SynchronizedSidesAgree p.a p.b
b_agrees p i = agree p.a p.b i.a i.b i.network.local_origin i.network.remote_origin i.network.outgoing i.network.incoming i.network.outgoing_holds i.network.incoming_holds

pub a_agrees : {G : Type 0} → (p : PairView G) → IsPair p → SynchronizedSidesAgree p.b p.a
a_agrees p i = agree p.b p.a i.b i.a i.network.remote_origin i.network.local_origin i.network.incoming i.network.outgoing i.network.incoming_holds i.network.outgoing_holds
