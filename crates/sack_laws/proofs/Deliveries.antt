-- What a delivery keeps.
use Rattle.std.proofs.Common.{◌≡◌, ◌⊎◌, ℕ, ◌+◌, ◌-◌, ◌<◌, ◌≤◌, ◌%◌, ◌^◌, arith, List, [], ◌∷◌, length, Bool, true, false, true≢false, refl, sym, ap, subst, ◌∙◌, Option, Some, None, inl, inr, length-drop}
use Rattle.std.specs.Prelude.{IsTrue, nat_le, ◌||◌, slice_get, option_map}
use Rattle.std.proofs.lemmas.Bool.Decides.{nat_tests}
use Rattle.ip_wire.specs.declared.repr.IpRepr.{IpRepr}
use Rattle.net_base.specs.declared.time.Instant.{Instant}
use Rattle.control_wire.specs.Segment.{Segment}
use Rattle.control_wire.specs.declared.seq_number.TcpSeqNumber.{TcpSeqNumber}
use Rattle.control_wire.specs.declared.tcp.TcpControl.{TcpControl}
use Rattle.control_wire.specs.declared.tcp.TcpControl.TheVariants as control
use Rattle.control_wire.specs.declared.tcp.TcpTimestampRepr.{TcpTimestampRepr}
use Rattle.sock_core.specs.Places.{number_at}
use Rattle.sock_core.specs.Received.{byte_at}
use Rattle.sock_tcp.specs.Process.{Accepts, processed_by}
use Rattle.sock_tcp.specs.Replies.{Answers, IsReplyStamp, echoed}
use Rattle.sock_tcp.specs.Rfc.Numbers.{reply_numbered}
use Rattle.sock_tcp.specs.Rfc.Recovery.{tellable}
use Rattle.sock_tcp.specs.View.{View}
use Rattle.sock_tcp.specs.Window.{next_ack}
use Rattle.sock_tcp.specs.declared.rules.Rules.{Rules}
use Rattle.sock_tcp.specs.declared.rules.Rules.TheVariants as rules
use Rattle.sock_tcp.specs.declared.state.State.{State}
use Rattle.sock_tcp.specs.declared.state.State.TheVariants as state
use Rattle.tcp_laws.specs.Laws.{MayTake}
use Rattle.tcp_laws.specs.Loss.{FollowsSegment, IsInAny, Tells, una_moved}
use Rattle.tcp_laws.specs.Telling.{AllHeld, TellsHeld, TellsRanges, TellsTwice}
use Rattle.tcp_laws.proofs.Awake.{reached_by_own}
use Rattle.tcp_laws.proofs.LossFollows.{scoreboard_follows}
use Rattle.tcp_laws.proofs.Pointed.{IsPointed, reached_pointed}
use Rattle.tcp_laws.proofs.Receiving.{only_appends}
use Rattle.tcp_laws.proofs.Ruled.{process_ruled}
use Rattle.tcp_laws.proofs.Telling.{process_says}
use Rattle.pair_core.specs.Holding.{kept_at}
use Rattle.pair_core.specs.Network.{Endpoint}
use Rattle.pair_core.specs.NetworkInvariant.{IsInvariant}
use Rattle.pair_core.specs.PairInvariant.{IsHost, IsPair, IsSocket}
use Rattle.pair_core.specs.PairLaws.{IsBounded}
use Rattle.pair_core.specs.PairNetwork.{IsSmall, endpoint_of, is_passive, network_at, network_of, phase_of, seen, shown, shown_segment, stream_segment}
use Rattle.pair_core.specs.PairSteps.{DeliversIf, DeliversTo, IsProcessed, IsRefused, delivered_to, exchanged, is_old, refusal_of, refusal_reply}
use Rattle.pair_core.specs.PairViews.{HostView, StoredView, PairView, host_of}
use Rattle.pair_core.specs.Sides.{other_side}
use Rattle.pair_core.specs.StreamCalls.{ClosesLate, EndsWithQueues, HearEffect, Nothing, Data, Acknowledgement, FallBack, Syn, SynAlone, SynAck, ProcessEffect}
use Rattle.pair_core.specs.StreamEffects.{AcksBytes, AcksFin, AcksSyn}
use Rattle.pair_core.specs.StreamTables.{HasSendingBounds}
use Rattle.pair_core.specs.StreamViews.{Dead, FinQueued, HasIss, HasNoIss, IsNonSynchronized, IsSynchronized, Open, Silent, SocketView, StreamSegment, SynSent, SynReceived, Listening}
use Rattle.pair_core.specs.declared.host.Opening.{Opening}
use Rattle.pair_core.specs.declared.host.Opening.TheVariants as opening
use Rattle.pair_core.specs.declared.moment.Moment.{Moment}
use Rattle.pair_core.specs.declared.outcome.Outcome.{Outcome}
use Rattle.pair_core.specs.declared.side.Side.{Side}
use Rattle.pair_core.specs.declared.side.Side.TheVariants.{A, B}
use Rattle.pair_core.proofs.NetworkDeliveries.{nothing_received, sending_bounds}
use Rattle.pair_core.proofs.PairHosts.{closed_accepts_none}
use Rattle.pair_core.proofs.ShownNetworks.{from_side}
use Rattle.pair_core.proofs.ShownProcess.{process_heard}
use Rattle.sack_laws.specs.Told.{AllToldBy, IsTold, IsTwiceRange, NoRange, ScoreboardIsTrue, TrueIn, has_byte, keeps_scoreboard}
use Rattle.sack_laws.proofs.Boards.{Placed, in_these, iss_is, moves, placed, placed_number}
use Rattle.sack_laws.proofs.Events.{alike_grows}
use Rattle.sack_laws.proofs.Growing.{AllOf, Follows, Grows, acts_storing, all_true, dead_true, no_range, nothing_in, phase_is, same_scoreboard, told_at, true_in, twice_moves}
use Rattle.sack_laws.proofs.Heard.{answer_true, has_accepted, has_none, hears_follows, joined_le, may_keeps, others_true}
use Rattle.sack_laws.proofs.Twice.{heeds_synced, twice_is}

-- ---- states and phases

dead_closed : (st : State) → phase_of st ≡ Dead → st ≡ state.Closed
dead_closed state.Closed d = refl
dead_closed state.Listen d = cc
dead_closed state.SynSent d = cc
dead_closed state.SynReceived d = cc
dead_closed state.Established d = cc
dead_closed state.FinWait1 d = cc
dead_closed state.FinWait2 d = cc
dead_closed state.CloseWait d = cc
dead_closed state.Closing d = cc
dead_closed state.LastAck d = cc
dead_closed state.TimeWait d = cc

not_silent : (st : State) → keeps_scoreboard st ≡ true → phase_of st ≡ Silent → ⊥
not_silent state.FinWait2 k d = true≢false (sym k)
not_silent state.TimeWait k d = true≢false (sym k)
not_silent state.Closed k d = cc
not_silent state.Listen k d = cc
not_silent state.SynSent k d = cc
not_silent state.SynReceived k d = cc
not_silent state.Established k d = cc
not_silent state.FinWait1 k d = cc
not_silent state.CloseWait k d = cc
not_silent state.Closing k d = cc
not_silent state.LastAck k d = cc

not_dead : (st : State) → keeps_scoreboard st ≡ true → phase_of st ≡ Dead → ⊥
not_dead st k d = true≢false (sym (ap keeps_scoreboard (sym (dead_closed st d)) ∙ k))

kept_of : (st : State) → (phase_of st ≡ Silent → ⊥) → (phase_of st ≡ Dead → ⊥) → keeps_scoreboard st ≡ true
kept_of state.Closed s d = absurd (d refl)
kept_of state.Listen s d = refl
kept_of state.SynSent s d = refl
kept_of state.SynReceived s d = refl
kept_of state.Established s d = refl
kept_of state.FinWait1 s d = refl
kept_of state.FinWait2 s d = absurd (s refl)
kept_of state.CloseWait s d = refl
kept_of state.Closing s d = refl
kept_of state.LastAck s d = refl
kept_of state.TimeWait s d = absurd (s refl)

-- once the own FIN is acknowledged it stays so
hears_silent : (b : Bool) (v w : SocketView) (g : StreamSegment) → HearEffect b v w g → v.phase ≡ Silent → w.phase ≡ Silent
hears_silent b v w g (Nothing is) e = ap (λ (y : SocketView). y.phase) is ∙ e
hears_silent b v w g (Data plain was d same) e = same.phase ∙ e
hears_silent b v w g (Acknowledgement plain knows d (AcksBytes a n ack le is phase una queue within) now) e = phase ∙ e
hears_silent b v w g (Acknowledgement plain knows d (AcksSyn a ack is (inl was) opened una queue within) now) e = let no : SynSent ≡ Silent = sym was ∙ e in cc
hears_silent b v w g (Acknowledgement plain knows d (AcksSyn a ack is (inr was) opened una queue within) now) e = let no : SynReceived ≡ Silent = sym was ∙ e in cc
hears_silent b v w g (Acknowledgement plain knows d (AcksFin a ack is was over una queue within) now) e = over
hears_silent b v w g (FallBack r was l is) e = let no : SynReceived ≡ Silent = sym was ∙ e in cc
hears_silent b v w g (Syn iss less plain syn was is) e = let no : Listening ≡ Silent = sym was ∙ e in cc
hears_silent b v w g (SynAlone n within plain syn was is) e = let no : SynSent ≡ Silent = sym was ∙ e in cc
hears_silent b v w g (SynAck plain syn was a now nxt queue held fin) e = let no : SynSent ≡ Silent = sym was ∙ e in cc

-- an opened side is shown as it is
opened_as : (x : Opening) → (x ≡ opening.Unopened → ⊥) → (u : View) → seen x u ≡ shown u
opened_as opening.Unopened shut u = absurd (shut refl)
opened_as opening.Listener shut u = refl
opened_as opening.Connector shut u = refl

pub same_grows : (e : Endpoint) → Grows e e
same_grows e = alike_grows e e (λ d. d) (λ s. inr s) (record { held = λ n. refl; rcv_nxt = refl; fin = refl; taken = refl })

-- the network after the event, as the side sees it
pub side_after : {G : Type 0} (s : Side) (p : PairView G) (k : HostView G) (ks : List StoredView) → IsInvariant (network_of (exchanged s p k ks)) → IsInvariant (network_at s k (host_of (other_side s) p) ks p.limit)
side_after A p k ks i = from_side A (exchanged A p k ks) i
side_after B p k ks i = from_side B (exchanged B p k ks) i

module _ {G : Type 0} (tells : G → ℕ → Type 0) (p : PairView G) (i : IsPair p) (told : IsTold p) (s : Side) (host : IsHost (host_of s p)) (m : Moment) (t : StoredView) (small : IsSmall t.segment) (sock : IsSocket (host_of s p).control_block) (j : ℕ) (there : slice_get p.segments j ≡ Some t) (own : t.emitter ≡ other_side s) (young : is_old (host_of (other_side s) p) t ≡ false) (accepted : Accepts (host_of s p).control_block t.ip t.segment) where
  abbrev h : HostView G
  h = host_of s p

  abbrev o : HostView G
  o = host_of (other_side s) p

  abbrev v : View
  v = h.control_block

  abbrev now : Instant
  now = record { micros = m.now.micros }

  abbrev w : View
  w = (processed_by v.rules v now m.word t.ip t.segment).view

  abbrev k : HostView G
  k = delivered_to h m t

  abbrev g : StreamSegment
  g = shown_segment t

  inv : IsInvariant (network_at s h o p.segments p.limit)
  inv = from_side s p i.network

  alive : v.state ≡ state.Closed → ⊥
  alive c = closed_accepts_none v t c accepted

  shut : h.opening ≡ opening.Unopened → ⊥
  shut u = alive (host.idle u).state

  at_first : (endpoint_of h).view ≡ shown v
  at_first = opened_as h.opening shut v

  at_last : (endpoint_of k).view ≡ shown w
  at_last = opened_as h.opening shut w

  bounded : IsBounded v
  bounded = record {
    sending = subst (λ (y : SocketView). HasIss y.phase → HasSendingBounds y) at_first (sending_bounds _ inv);
    unread = subst (λ (y : SocketView). IsNonSynchronized y.phase → y.receive_queue ≡ []) at_first (nothing_received _ inv);
  }

  effect : ProcessEffect (is_passive v) (shown v) (shown w) g (option_map (λ r. stream_segment r 0 0) (reply_numbered w (processed_by v.rules v now m.word t.ip t.segment).reply))
  effect = process_heard v now m.word t.ip t.segment t.released_at t.taken_at 0 0 m.fits small sock.receive sock.fin bounded accepted

  -- it is heard, where a close that waited may be done then, or the connection is over
  abbrev opened_again : SocketView
  opened_again = record (shown w) { phase = Open }

  abbrev HeardLate : Type 0
  HeardLate = HearEffect (is_passive v) (shown v) opened_again g × (phase_of w.state ≡ FinQueued)

  heard_or_over : HearEffect (is_passive v) (shown v) (shown w) g ⊎ HeardLate ⊎ (phase_of w.state ≡ Dead)
  heard_or_over = by effect.ends
    where
      by : (shown w ≡ effect.heard) ⊎ EndsWithQueues effect.heard (shown w) ⊎ ClosesLate effect.heard (shown w) → HearEffect (is_passive v) (shown v) (shown w) g ⊎ HeardLate ⊎ (phase_of w.state ≡ Dead)
      by (inl is) = inl (subst (λ y. HearEffect (is_passive v) (shown v) y g) (sym is) effect.hears)
      by (inr (inl x)) = inr (inr x.phase)
      by (inr (inr c)) =
          let is : effect.heard ≡ opened_again = (λ j. record effect.heard { phase = c.phase j }) ∙ ap (λ (y : SocketView). record y { phase = Open }) (sym c.is) in
          inr (inl (subst (λ y. HearEffect (is_passive v) (shown v) y g) is effect.hears, ap (λ (y : SocketView). y.phase) c.is))

  -- ---- what it has

  abbrev first : Endpoint
  first = record (endpoint_of h) { view = shown v }

  abbrev last : Endpoint
  last = record (endpoint_of k) { view = shown w }

  may : MayTake v.rules v t.segment w
  may = only_appends v.rules v now m.word t.ip t.segment sock.receive small.seq small.payload

  shown_grow : Grows first last
  shown_grow = record {
    dead = λ d. absurd (alive (dead_closed v.state d));
    follows = λ synced. by synced heard_or_over;
    bytes = inr (λ n x. may_keeps v w h.taken v.rules t.segment may n x);
  }
    where
      late : (f : Follows first (record last { view = opened_again })) → phase_of w.state ≡ FinQueued → Follows first last
      late f e = record { synced = subst IsSynchronized (sym e) tt; more = f.more; counted = f.counted; rcv_nxt = f.rcv_nxt }

      by : IsSynchronized (phase_of v.state) → HearEffect (is_passive v) (shown v) (shown w) g ⊎ HeardLate ⊎ (phase_of w.state ≡ Dead) → (phase_of w.state ≡ Dead) ⊎ Follows first last
      by synced (inl x) = inr (hears_follows first last g (is_passive v) refl x synced)
      by synced (inr (inl x)) = inr (late (hears_follows first (record last { view = opened_again }) g (is_passive v) refl x.0 synced) x.1)
      by synced (inr (inr d)) = inl d

  pub grows : Grows (endpoint_of h) (endpoint_of k)
  grows = subst (λ e. Grows e (endpoint_of k)) (λ j. record (endpoint_of h) { view = sym at_first j }) (subst (Grows first) (λ j. record (endpoint_of k) { view = sym at_last j }) shown_grow)

  -- ---- what it answers

  module _ (ks : List StoredView) (after : IsInvariant (network_at s k o ks p.limit)) where
    near_before : k.taken ≤ h.taken + 2 ^ 30
    near_before =
        let a = after.incoming_holds in
        let b = inv.incoming_holds in
        omega (arith, joined_le (endpoint_of o) (endpoint_of k) after.remote_origin after.incoming a, a.fits.room, a.taken, a.released, b.released, b.sound.released, b.taken, ap length a.accepted)

    numbers_last : (endpoint_of k).view.rcv_nxt ≡ (next_ack w).0
    numbers_last = ap (λ (y : SocketView). y.rcv_nxt) at_last

    holds_last : (endpoint_of k).view.held ≡ byte_at w.rx_buffer.held
    holds_last = ap (λ (y : SocketView). y.held) at_last

    held_true : (rs : List (Option (ℕ × ℕ))) → AllHeld w rs → TrueIn (endpoint_of k).view.phase (endpoint_of k) k.taken rs
    held_true rs says = answer_true (endpoint_of k) (next_ack w) w.rx_buffer.held numbers_last holds_last (endpoint_of o) after.remote_origin after.incoming after.incoming_holds rs says

    -- the first is of bytes that came twice
    twice_true : (rs : List (Option (ℕ × ℕ))) → TellsTwice v t.segment w rs → TrueIn (endpoint_of k).view.phase (endpoint_of k) k.taken rs
    twice_true rs says = moved (grows.follows synced)
      where
        synced : IsSynchronized (endpoint_of h).view.phase
        synced = subst (λ (y : SocketView). IsSynchronized y.phase) (sym at_first) (heeds_synced v.state says.heeds)

        before : IsTwiceRange (endpoint_of h) k.taken says.first
        before = twice_is (endpoint_of h) v t.segment says.first (ap (λ (y : SocketView). y.rcv_nxt) at_first) (ap (λ (y : SocketView). y.held) at_first) (ap (λ (y : SocketView). y.fin_counted) at_first) sock.receive small.seq k.taken near_before (endpoint_of o) inv.remote_origin inv.incoming inv.incoming_holds synced says.twice

        kept : Follows (endpoint_of h) (endpoint_of k) → ((endpoint_of k).view.phase ≡ Dead) ⊎ ((n : ℕ) → has_byte (endpoint_of h) n ≡ true → has_byte (endpoint_of k) n ≡ true) → TrueIn (endpoint_of k).view.phase (endpoint_of k) k.taken rs
        kept m (inl d) = dead_true (endpoint_of k).view.phase (endpoint_of k) k.taken rs d
        kept m (inr keeps) = true_in (endpoint_of k).view.phase (endpoint_of k) k.taken rs m.synced (inr (record {
          first = says.first;
          others = says.others;
          are = says.are;
          twice = twice_moves (endpoint_of h) (endpoint_of k) k.taken says.first m keeps before;
          all = others_true (endpoint_of k) (next_ack w) w.rx_buffer.held numbers_last holds_last (endpoint_of o) after.remote_origin after.incoming after.incoming_holds says.others says.held m.synced;
        }))

        moved : ((endpoint_of k).view.phase ≡ Dead) ⊎ Follows (endpoint_of h) (endpoint_of k) → TrueIn (endpoint_of k).view.phase (endpoint_of k) k.taken rs
        moved (inl d) = dead_true (endpoint_of k).view.phase (endpoint_of k) k.taken rs d
        moved (inr m) = kept m grows.bytes

    ranges_true : (q : Rules) (rs : List (Option (ℕ × ℕ))) → TellsRanges q v t.segment w rs → TrueIn (endpoint_of k).view.phase (endpoint_of k) k.taken rs
    ranges_true rules.Smoltcp rs h = held_true rs h
    ranges_true rules.Rfc rs (inl h) = held_true rs h
    ranges_true rules.Rfc rs (inr h) = twice_true rs h

    reply_true : (stamped : TcpControl → Option TcpTimestampRepr → Type 0) (x : Option Segment) → TellsHeld v.rules v t.segment w x → (r : Option (IpRepr × Segment)) → Answers stamped t.ip (reply_numbered w x) r → AllToldBy s (endpoint_of k) (kept_at s r k.released k.taken)
    reply_true stamped None says None a = tt
    reply_true stamped None says (Some r) a = absurd a
    reply_true stamped (Some x) says None a = absurd a
    reply_true stamped (Some x) says (Some r) a =
        let same : r.1.sack_ranges ≡ x.sack_ranges = ap (λ (z : IpRepr × Segment). z.1.sack_ranges) a.is in (
          λ lets. subst (TrueIn (endpoint_of k).view.phase (endpoint_of k) k.taken) (sym same)
              (ranges_true v.rules x.sack_ranges says),
          tt,
        )

    reply_own : (r : Option (IpRepr × Segment)) → AllOf s (kept_at s r k.released k.taken)
    reply_own None = tt
    reply_own (Some r) = (refl, tt)

  -- ---- what it heard

  abbrev e : Endpoint
  e = endpoint_of o

  ranges : TrueIn e.view.phase e t.taken_at t.segment.sack_ranges
  ranges = told_at (other_side s) e p.segments j t there own (told (other_side s)).told

  not_told : (n : ℕ) (una : TcpSeqNumber) (rs : List (Option (ℕ × ℕ))) (x : ℕ) → NoRange rs → IsInAny n una rs x → ⊥
  not_told n una [] x nil is = is
  not_told n una (None ∷ rs) x nil (inl is) = is
  not_told n una (None ∷ rs) x nil (inr is) = not_told n una rs x nil is
  not_told n una (Some r ∷ rs) x nil is = nil

  pointed : IsPointed v
  pointed = reached_pointed v (reached_by_own v host.reached)

  module _ (ruled : w.rules ≡ rules.Rfc) (keeps : keeps_scoreboard w.state ≡ true) where
    was_ruled : v.rules ≡ rules.Rfc
    was_ruled = sym (process_ruled v.rules v.rules v now m.word t.ip t.segment refl) ∙ ruled

    follows : FollowsSegment v t.segment w
    follows = subst (λ r. FollowsSegment v t.segment (processed_by r v now m.word t.ip t.segment).view) (sym was_ruled) (scoreboard_follows v now m.word t.ip t.segment pointed.0.una_small)

    speaking : phase_of v.state ≡ Silent → ⊥
    speaking d = by heard_or_over
      where
        by : HearEffect (is_passive v) (shown v) (shown w) g ⊎ HeardLate ⊎ (phase_of w.state ≡ Dead) → ⊥
        by (inl x) = not_silent w.state keeps (hears_silent (is_passive v) (shown v) (shown w) g x d)
        by (inr (inl x)) = let no : Open ≡ Silent = hears_silent (is_passive v) (shown v) opened_again g x.0 d in cc
        by (inr (inr x)) = not_dead w.state keeps x

    living : phase_of v.state ≡ Dead → ⊥
    living d = alive (dead_closed v.state d)

    kept_before : keeps_scoreboard v.state ≡ true
    kept_before = kept_of v.state speaking living

    here : (n : ℕ) → n < length h.accepted → Placed (endpoint_of h) e inv.local_origin inv.outgoing inv.outgoing_holds
    here n some = placed (endpoint_of h) e inv.local_origin inv.outgoing inv.outgoing_holds
        (λ d. living (ap (λ (y : SocketView). y.phase) (sym at_first) ∙ d)) (λ d. speaking (ap (λ (y : SocketView). y.phase) (sym at_first) ∙ d)) n some

    number_here : (n : ℕ) → n < length h.accepted → v.local_seq_no.0 ≡ number_at inv.local_origin (h.released + 2)
    number_here n some = ap (λ (y : SocketView). y.snd_una) (sym at_first) ∙ placed_number (endpoint_of h) e inv.local_origin inv.outgoing inv.outgoing_holds (here n some)

    queued : (length v.tx_buffer.bytes ≤ length h.accepted) × (length v.tx_buffer.bytes ≤ 2 ^ 30)
    queued = by (iss_is (endpoint_of h).view.phase)
      where
        same : v.tx_buffer.bytes ≡ (endpoint_of h).view.transmit_queue
        same = ap (λ (y : SocketView). y.transmit_queue) (sym at_first)

        by : HasNoIss (endpoint_of h).view.phase ⊎ (HasIss (endpoint_of h).view.phase ⊎ ((endpoint_of h).view.phase ≡ Dead)) → (length v.tx_buffer.bytes ≤ length h.accepted) × (length v.tx_buffer.bytes ≤ 2 ^ 30)
        by (inl none) =
            let zero : length v.tx_buffer.bytes ≡ 0 = ap length (same ∙ (inv.outgoing_holds.unsent none).transmit_queue) in
            (omega (arith, zero), omega (arith, zero))
        by (inr (inl iss)) =
            let i = inv.outgoing_holds in
            let len : length v.tx_buffer.bytes ≡ length inv.outgoing.accepted - inv.outgoing.released = ap length (same ∙ (i.sending iss).queue) ∙ length-drop inv.outgoing.released inv.outgoing.accepted in
            (omega (arith, len, ap length i.accepted), omega (arith, len, i.fits.room))
        by (inr (inr d)) = absurd (living (ap (λ (y : SocketView). y.phase) (sym at_first) ∙ d))

    few : tellable v ≤ 2 ^ 30 + 1
    few = omega (arith, queued.1)

    most : tellable v ≤ length h.accepted + 1
    most = omega (arith, queued.0)

    is_young : e.taken < t.taken_at + 2 ^ 29
    is_young = let two = neither (nat_le (2 ^ 29) (o.released - t.released_at)) (nat_le (2 ^ 29) (o.taken - t.taken_at)) young in grind (arith, nat_tests, two)
      where
        neither : (a b : Bool) → (a || b) ≡ false → b ≡ false
        neither true b x = cc
        neither false b x = x

    module _ (synced : IsSynchronized e.view.phase) where
      told_there : (x : ℕ) → Tells v.sacked x → has_byte e (h.released + x) ≡ true
      told_there x h0 = by (told s).heard
        where
          by : ScoreboardIsTrue h e → has_byte e (h.released + x) ≡ true
          by (inl d) = absurd (subst IsSynchronized d synced)
          by (inr b) = b was_ruled kept_before x h0

      came_there : (x : ℕ) → IsInAny (tellable v) v.local_seq_no t.segment.sack_ranges x → has_byte e (h.released + x) ≡ true
      came_there x a = in_these (endpoint_of h) e inv.local_origin inv.outgoing inv.outgoing_holds v.local_seq_no t.taken_at (tellable v) is_young few most synced number_here t.segment.sack_ranges (all_true e.view.phase e t.taken_at t.segment.sack_ranges synced ranges) x a

      moves_on : Placed (endpoint_of h) e inv.local_origin inv.outgoing inv.outgoing_holds → HearEffect (is_passive v) (shown v) (shown w) g ⊎ HeardLate ⊎ (phase_of w.state ≡ Dead) → (w.local_seq_no.0 + (2 ^ 32 - (endpoint_of h).view.snd_una)) % 2 ^ 32 ≡ length (endpoint_of h).view.transmit_queue - length w.tx_buffer.bytes
      moves_on q (inl y) = moves (endpoint_of h) e inv.local_origin inv.outgoing inv.outgoing_holds (shown w) (is_passive v) g q (subst (λ z. HearEffect (is_passive v) z (shown w) g) (sym at_first) y) (not_silent w.state keeps)
      moves_on q (inr (inl y)) = moves (endpoint_of h) e inv.local_origin inv.outgoing inv.outgoing_holds opened_again (is_passive v) g q (subst (λ z. HearEffect (is_passive v) z opened_again g) (sym at_first) y.0) (λ d. let no : Open ≡ Silent = d in cc)
      moves_on q (inr (inr d)) = absurd (not_dead w.state keeps d)

      scoreboard_there : (x : ℕ) → Tells w.sacked x → has_byte e (k.released + x) ≡ true
      scoreboard_there x h0 = moved (by (follows x h0))
        where
          d : ℕ
          d = una_moved v w

          by : Tells v.sacked (x + d) ⊎ IsInAny (tellable v) v.local_seq_no t.segment.sack_ranges (x + d) → has_byte e (h.released + (x + d)) ≡ true
          by (inl a) = told_there (x + d) a
          by (inr a) = came_there (x + d) a

          moved : has_byte e (h.released + (x + d)) ≡ true → has_byte e (k.released + x) ≡ true
          moved has =
              let some : h.released + (x + d) < length h.accepted = has_accepted (endpoint_of h) e inv.local_origin inv.outgoing inv.outgoing_holds (h.released + (x + d)) synced has in
              let n = moves_on (here (h.released + (x + d)) some) heard_or_over in
              subst (λ z. has_byte e z ≡ true) {x = h.released + (x + d)} {y = k.released + x} (omega (arith, n, ap (λ (y : SocketView). y.snd_una) at_first, ap (λ (y : SocketView). length y.transmit_queue) at_first)) has

  pub heard : ScoreboardIsTrue k e
  heard = by (phase_is e.view.phase)
    where
      none : IsNonSynchronized e.view.phase → (n : ℕ) → has_byte e n ≡ true → ⊥
      none early n = has_none (endpoint_of h) e inv.local_origin inv.outgoing inv.outgoing_holds n early

      early_none : IsNonSynchronized e.view.phase → (r : w.rules ≡ rules.Rfc) (st : keeps_scoreboard w.state ≡ true) (x : ℕ) → Tells w.sacked x → ⊥
      early_none early r st x h0 = go (follows r st x h0)
        where
          board : (y : ℕ) → Tells v.sacked y → ScoreboardIsTrue h e → ⊥
          board y a (inl d) = let no : IsNonSynchronized Dead = subst IsNonSynchronized d early in no
          board y a (inr b) = none early (h.released + y) (b (was_ruled r st) (kept_before r st) y a)

          go : Tells v.sacked (x + una_moved v w) ⊎ IsInAny (tellable v) v.local_seq_no t.segment.sack_ranges (x + una_moved v w) → ⊥
          go (inl a) = board (x + una_moved v w) a (told s).heard
          go (inr a) = not_told (tellable v) v.local_seq_no t.segment.sack_ranges (x + una_moved v w) (no_range e.view.phase e t.taken_at t.segment.sack_ranges early ranges) a

      by : IsNonSynchronized e.view.phase ⊎ (IsSynchronized e.view.phase ⊎ (e.view.phase ≡ Dead)) → ScoreboardIsTrue k e
      by (inl early) = inr (λ r st x h0. absurd (early_none early r st x h0))
      by (inr (inl synced)) = inr (λ r st x h0. scoreboard_there r st synced x h0)
      by (inr (inr d)) = inl d

-- ---- the delivery of a segment of the other side

refused_nothing : (s : Side) (t : StoredView) (e : Endpoint) (c : TcpControl) (released taken : ℕ) → AllOf s (kept_at s (refusal_reply c t) released taken) × AllToldBy s e (kept_at s (refusal_reply c t) released taken)
refused_nothing s t e control.Rst released taken = (tt, tt)
refused_nothing s t e control.None released taken = ((refl, tt), (λ own. nothing_in e.view.phase e taken _ tt, tt))
refused_nothing s t e control.Psh released taken = ((refl, tt), (λ own. nothing_in e.view.phase e taken _ tt, tt))
refused_nothing s t e control.Fin released taken = ((refl, tt), (λ own. nothing_in e.view.phase e taken _ tt, tt))
refused_nothing s t e control.Syn released taken = ((refl, tt), (λ own. nothing_in e.view.phase e taken _ tt, tt))

module _ {G : Type 0} (tells : G → ℕ → Type 0) (p : PairView G) (i : IsPair p) (told : IsTold p) (s : Side) (host : IsHost (host_of s p)) (m : Moment) (t : StoredView) (small : IsSmall t.segment) (sock : IsSocket (host_of s p).control_block) (j : ℕ) (there : slice_get p.segments j ≡ Some t) (own : t.emitter ≡ other_side s) where
  itself : (s : Side) → exchanged s p (host_of s p) p.segments ≡ p
  itself A = refl
  itself B = refl

  pub delivers : (o : Outcome) (k : HostView G) (ks : List StoredView) → IsInvariant (network_of (exchanged s p k ks)) → DeliversTo tells (is_old (host_of t.emitter p) t) s m t o (host_of s p) p.segments k ks → IsTold (exchanged s p k ks)
  delivers o k ks after d = go (is_old (host_of t.emitter p) t) refl d
    where
      unchanged : k ≡ host_of s p → ks ≡ p.segments → IsTold (exchanged s p k ks)
      unchanged x y = subst IsTold (sym ((λ n. exchanged s p (x n) (y n)) ∙ itself s)) told

      heard_as : is_old (host_of t.emitter p) t ≡ false → Accepts (host_of s p).control_block t.ip t.segment → IsProcessed tells s m t o (host_of s p) p.segments k ks → IsTold (exchanged s p k ks)
      heard_as young lets y =
          let h : HostView G = host_of s p in
          let n : HostView G = delivered_to h m t in
          let late : is_old (host_of (other_side s) p) t ≡ false = subst (λ r. is_old (host_of r p) t ≡ false) own young in
          let more : List StoredView = kept_at s y.reply n.released n.taken in
          let inv : IsInvariant (network_at s n (host_of (other_side s) p) ks p.limit) = subst (λ z. IsInvariant (network_at s z (host_of (other_side s) p) ks p.limit)) y.host (side_after s p k ks after) in
          let says = process_says h.control_block.rules h.control_block (record { micros = m.now.micros }) m.word t.ip t.segment in
          subst (λ z. IsTold (exchanged s p z ks)) (sym y.host)
          (subst (λ ts. IsTold (exchanged s p n ts)) (sym y.stored)
          (acts_storing p n more s told
          (grows tells p i told s host m t small sock j there own late lets)
          (reply_own tells p i told s host m t small sock j there own late lets ks inv y.reply)
          (reply_true tells p i told s host m t small sock j there own late lets ks inv (IsReplyStamp tells n.source (echoed n.control_block t.segment.timestamp)) _ says y.reply y.is_reply)
          (heard tells p i told s host m t small sock j there own late lets)))

      refused_as : IsRefused s t o (host_of s p) p.segments k ks → IsTold (exchanged s p k ks)
      refused_as y =
          let h : HostView G = host_of s p in
          let more : List StoredView = kept_at s (refusal_of t) h.released h.taken in
          let none = refused_nothing s t (endpoint_of h) t.segment.control h.released h.taken in
          subst (λ z. IsTold (exchanged s p z ks)) (sym y.host)
          (subst (λ ts. IsTold (exchanged s p h ts)) (sym y.stored)
          (acts_storing p h more s told (same_grows (endpoint_of h)) none.0 none.1
          (same_scoreboard p h more s told (record { rules = λ r st. (r, st); sacked = λ x z. z; released = refl }))))

      by_accepts : is_old (host_of t.emitter p) t ≡ false → (b : Bool) → (IsTrue b → Accepts (host_of s p).control_block t.ip t.segment) → DeliversIf tells b s m t o (host_of s p) p.segments k ks → IsTold (exchanged s p k ks)
      by_accepts young true says y = heard_as young (says refl) y
      by_accepts young false says y = refused_as y

      go : (old : Bool) → is_old (host_of t.emitter p) t ≡ old → DeliversTo tells old s m t o (host_of s p) p.segments k ks → IsTold (exchanged s p k ks)
      go true x d = unchanged d.1.0 d.1.1
      go false x d = by_accepts x d.accepted d.says.0 d.does
