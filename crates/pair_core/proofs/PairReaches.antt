-- Each event of a pair is a run of steps of the theorem on two streams.
use Rattle.std.proofs.Common.{◌≡◌, ℕ, ◌+◌, ◌<◌, ◌≤◌, ◌^◌, List, [], ◌∷◌, length, take, ◌++◌, Bool, true, false, Option, Some, None, refl, sym, ap, subst, ◌∙◌, arith, inl, inr, ◌⊎◌, length-append, length-take}
use Rattle.std.specs.Prelude.{IsTrue, not, if◌then◌else◌, option_map, slice_get, Result, Ok, Err, IfOk, OnErr}
use Rattle.std.proofs.lemmas.Bool.Decides.{nat_tests}
use Rattle.std.proofs.lemmas.List.{append-nil}
use Rattle.std.specs.List.{Contains}
use Rattle.ip_wire.specs.declared.endpoint.IpEndpoint.{IpEndpoint}
use Rattle.ip_wire.specs.declared.repr.IpRepr.{IpRepr}
use Rattle.net_base.specs.declared.time.Instant.{Instant}
use Rattle.control_wire.specs.Segment.{Segment}
use Rattle.sock_core.specs.Facts.{Facts}
use Rattle.sock_tcp.specs.Rfc.Numbers.{numbered, outgoing}
use Rattle.sock_tcp.specs.Queue.{capacity}
use Rattle.sock_tcp.specs.View.{View, moment_of}
use Rattle.sock_tcp.specs.Queues.{may_send, may_recv, queued}
use Rattle.sock_tcp.specs.Begin.{Begun, before_emit, peer_of}
use Rattle.sock_tcp.specs.Content.{Sending, content}
use Rattle.sock_tcp.specs.Sent.{left_by}
use Rattle.control_wire.specs.declared.tcp.TcpControl.{TcpControl}
use Rattle.control_wire.specs.declared.tcp.TcpControl.TheVariants as control
use Rattle.control_wire.specs.declared.tcp.TcpTimestampRepr.{TcpTimestampRepr}
use Rattle.sock_tcp.specs.Closing.{closed_in}
use Rattle.sock_tcp.specs.Process.{Accepts}
use Rattle.sock_tcp.specs.Replies.{Answers, IsReplyStamp, echoed, rst_segment, with_header}
use Rattle.sock_tcp.specs.declared.rules.Rules.{Rules}
use Rattle.sock_tcp.specs.declared.rules.Rules.TheVariants as rules
use Rattle.sock_tcp.specs.declared.state.State.{State}
use Rattle.sock_tcp.specs.declared.state.State.TheVariants as state
use Rattle.sock_tcp.specs.declared.tuple.Tuple.{Tuple}
use Rattle.pair_core.specs.Holding.{kept_at, segment_at}
use Rattle.pair_core.specs.Moments.{facts_of}
use Rattle.pair_core.specs.NetworkRuns.{Reaches, answered, start, unopened}
use Rattle.pair_core.specs.Network.{Accepts as TakesBytes, AnswersRefused, Arrives, Closes as EndsStream, ClosesUnacknowledged, Connects, Dies, HandsOut, IsStamped, IsWithin, Listens, Endpoint, Network}
use Rattle.pair_core.specs.PairLaws.{IsBounded, MayEmit}
use Rattle.pair_core.specs.declared.event.Event.{Event}
use Rattle.pair_core.specs.declared.event.Event.TheVariants as event
use Rattle.pair_core.specs.declared.host.Call.{Call}
use Rattle.pair_core.specs.declared.host.Call.TheVariants as call
use Rattle.pair_core.specs.declared.host.Opening.{Opening}
use Rattle.pair_core.specs.declared.host.Opening.TheVariants as opening
use Rattle.pair_core.proofs.NetworkDeliveries.{sending_bounds, nothing_received}
use Rattle.pair_core.proofs.NetworkReaches.{begins_reach, delivery_reaches, emission_reaches, one_step, reach_keeps, reach_then, stays_there}
use Rattle.pair_core.proofs.Addresses.{accepted_in, one_goes}
use Rattle.pair_core.proofs.PairHosts.{cannot_send, cannot_recv, closed_accepts_none, host_at, no_peer_readies, peer_at}
use Rattle.pair_core.proofs.PairReturns.{contains_at}
use Rattle.pair_core.proofs.ShownCalls.{listened_shows, connected_shows, queued_shows, read_shows, sends_open, set_shows}
use Rattle.pair_core.proofs.ShownDispatch.{begun_shows, emission_plans}
use Rattle.pair_core.proofs.ShownNetworks.{between, side_network, from_side, exchanged_reached, with_reached, stays_reached, unchanged_reached, stored_is, sent_has, may_arrive}
use Rattle.pair_core.proofs.ShownProcess.{process_heard}
use Rattle.pair_core.specs.NetworkInvariant.{IsInvariant}
use Rattle.pair_core.specs.PairAddresses.{GoesFrom, HasPeer, endpoint_at}
use Rattle.pair_core.specs.PairInvariant.{IsSocket, IsIdle, IsHost, IsPair, IsSized}
use Rattle.pair_core.specs.PairNetwork.{phase_of, seen, is_listener, is_rst, is_passive, shown, stream_segment, endpoint_of, shown_segment, network_at, network_of, IsSmall}
use Rattle.pair_core.specs.PairViews.{HostView, StoredView, PairView, host_of, with_host, new_host, new_pair}
use Rattle.pair_core.specs.PairCalls.{listening, connecting, OpensAs, is_over, sending, Sends, SendsIf, SendsUnder, receiving, Receives, ReceivesIf, closing, Closes, aborting, Aborts, setting, Sets, Calls}
use Rattle.pair_core.specs.declared.setting.Setting.{Setting}
use Rattle.pair_core.proofs.PairAmounts.{takes_some, hands_some}
use Rattle.pair_core.specs.PairSteps.{EventStep, refusal_of, refusal_reply, Delivers, Dispatches, stored_at, DeliversTo, DeliversIf, is_old, exchanged, processed_by, delivered_to, reply_out}
use Rattle.pair_core.specs.Captures.{Records, SendsTo, SendsFrom, SocketDispatches}
use Rattle.pair_core.specs.StreamCalls.{ProcessEffect}
use Rattle.pair_core.specs.StreamViews.{Dead, HasNoIss, SocketView, StreamSegment}
use Rattle.pair_core.specs.Sides.{other_side}
use Rattle.pair_core.specs.declared.moment.Moment.{Moment}
use Rattle.pair_core.specs.declared.outcome.Outcome.{Outcome}
use Rattle.pair_core.specs.declared.outcome.PairError.{PairError}
use Rattle.pair_core.specs.declared.capture.Sent.{Sent}
use Rattle.pair_core.specs.declared.capture.Sent.TheVariants as sent
use Rattle.pair_core.specs.declared.side.Side.{Side}
use Rattle.pair_core.specs.declared.side.Side.TheVariants.{A, B}

-- ---- deliveries

-- what an opened host shows, where its socket is v
abbrev opened : {G : Type 0} → HostView G → Bool → View → Endpoint
opened h b v = record (endpoint_of h) { view = shown v; listener = b }

abbrev opened_network : {G : Type 0} → Side → HostView G → Bool → View → HostView G → List StoredView → Option ℕ → Network
opened_network s h b v o ks limit = between s (opened h b v) (endpoint_of o) ks limit

bounded : {G : Type 0} (s : Side) (h : HostView G) (b : Bool) (v : View) (o : HostView G) (ks : List StoredView) (limit : Option ℕ) → IsInvariant (opened_network s h b v o ks limit) → IsBounded v
bounded s h b v o ks limit i = record { sending = λ d. sending_bounds _ i d; unread = λ e. nothing_received _ i e }

-- header and timestamp of a reply are not seen
reply_shows : (stamped : TcpControl → Option TcpTimestampRepr → Type 0) (ip : IpRepr) (x : Option Segment) (r : Option (IpRepr × Segment)) (released taken : ℕ) → Answers stamped ip x r → option_map (λ (z : Segment). stream_segment z released taken) x ≡ option_map (λ (z : IpRepr × Segment). stream_segment z.1 released taken) r
reply_shows stamped ip None None released taken a = refl
reply_shows stamped ip None (Some r) released taken a = absurd a
reply_shows stamped ip (Some x) None released taken a = absurd a
reply_shows stamped ip (Some x) (Some r) released taken a = ap (λ (z : IpRepr × Segment). Some (stream_segment z.1 released taken)) (sym a.is)

-- a reply as the other side sees it
abbrev shown_reply : ℕ → ℕ → Option (IpRepr × Segment) → Option StreamSegment
shown_reply released taken r = option_map (λ (x : IpRepr × Segment). stream_segment x.1 released taken) r

stored_reply : (s : Side) (x y : Endpoint) (ks : List StoredView) (limit : Option ℕ) (r : Option (IpRepr × Segment)) (released taken : ℕ) → answered (between s x y ks limit) (shown_reply released taken r) ≡ between s x y (ks ++ kept_at s r released taken) limit
stored_reply s x y ks limit None released taken = ap (λ ts. between s x y ts limit) (sym (append-nil ks))
stored_reply s x y ks limit (Some r) released taken = stored_is s x y ks (record { emitter = s; ip = r.0; segment = r.1; released_at = released; taken_at = taken }) limit refl

reply_stamped : (e : Endpoint) (r : Option (IpRepr × Segment)) (a : StreamSegment) → shown_reply e.released e.taken r ≡ Some a → IsStamped e a
reply_stamped e None a is = let no : None ≡ Some a = is in cc
reply_stamped e (Some x) a is =
    let same : stream_segment x.1 e.released e.taken ≡ a = cc in
    subst (IsStamped e) same (record { released = omega arith; taken = omega arith })

module _ {G : Type 0} (s : Side) (h o : HostView G) (ks : List StoredView) (limit : Option ℕ) (m : Moment) (t : StoredView) (w : m.word < 2 ^ 32) (small : IsSmall t.segment) (there : Contains ks t) (from_other : t.emitter ≡ other_side s) (sock : IsSocket h.control_block) (young : is_old o t ≡ false) (accepted : Accepts h.control_block t.ip t.segment) (reply : Option (IpRepr × Segment)) (tells : G → ℕ → Type 0) (is_reply : Answers (IsReplyStamp tells (delivered_to h m t).source (echoed (delivered_to h m t).control_block t.segment.timestamp)) t.ip (reply_out h m t) reply) where
  -- the segments, once the reply is stored
  abbrev with_reply : List StoredView
  with_reply = ks ++ kept_at s reply (delivered_to h m t).released (delivered_to h m t).taken

  -- an opened side hears it
  hears_as : (b : Bool) → is_passive h.control_block ≡ b → IsInvariant (opened_network s h b h.control_block o ks limit) → Reaches (opened_network s h b h.control_block o ks limit) (opened_network s (delivered_to h m t) b (processed_by h m t).view o with_reply limit)
  hears_as b e i =
      let k : HostView _ = delivered_to h m t in
      let n : Network = opened_network s h b h.control_block o ks limit in
      let come : Arrives n (shown_segment t) = record { sent = sent_has (other_side s) ks t there from_other; may = inr (may_arrive limit o t young) } in
      let does : ProcessEffect b (shown h.control_block) (shown (processed_by h m t).view) (shown_segment t) (shown_reply k.released k.taken reply) =
      subst (λ x. ProcessEffect x (shown h.control_block) (shown (processed_by h m t).view) (shown_segment t) (shown_reply k.released k.taken reply)) e
      (subst (λ r. ProcessEffect (is_passive h.control_block) (shown h.control_block) (shown (processed_by h m t).view) (shown_segment t) r) (reply_shows (IsReplyStamp tells (delivered_to h m t).source (echoed (delivered_to h m t).control_block t.segment.timestamp)) t.ip (reply_out h m t) reply k.released k.taken is_reply)
      (process_heard h.control_block (record { micros = m.now.micros }) m.word t.ip t.segment t.released_at t.taken_at k.released k.taken w small sock.receive sock.fin (bounded s h b h.control_block o ks limit i) accepted)) in
      subst (Reaches n) (stored_reply s (opened k b (processed_by h m t).view) (endpoint_of o) ks limit reply k.released k.taken)
      (delivery_reaches n (shown_segment t) come (shown (processed_by h m t).view) (shown_reply k.released k.taken reply) does
      (λ a is. let t = reply_stamped (opened k b (processed_by h m t).view) reply a is in record { released = t.released; taken = t.taken }))

  hears_in : (e : Opening) → (e ≡ opening.Unopened → ⊥) → is_passive h.control_block ≡ is_listener e → IsInvariant (network_at s (record h { opening = e }) o ks limit) → Reaches (network_at s (record h { opening = e }) o ks limit) (network_at s (record (delivered_to h m t) { opening = e }) o with_reply limit)
  hears_in opening.Unopened shut p i = absurd (shut refl)
  hears_in opening.Listener shut p i = hears_as true p i
  hears_in opening.Connector shut p i = hears_as false p i

  hears : (h.opening ≡ opening.Unopened → ⊥) → is_passive h.control_block ≡ is_listener h.opening → IsInvariant (network_at s h o ks limit) → Reaches (network_at s h o ks limit) (network_at s (delivered_to h m t) o with_reply limit)
  hears shut p i = hears_in h.opening shut p i

-- ---- segments that are refused

-- a side that refuses a segment of the other is CLOSED or in LISTEN
refused_phase : {G : Type 0} (h : HostView G) (remote : IpEndpoint) (t : StoredView) → HasPeer h remote → GoesFrom t remote h.endpoint → (Accepts h.control_block t.ip t.segment → ⊥) → HasNoIss (endpoint_of h).view.phase ⊎ ((endpoint_of h).view.phase ≡ Dead)
refused_phase h remote t p g shut = go h.opening
  where
    by : (st : State) → h.control_block.state ≡ st → HasNoIss (phase_of st) ⊎ (phase_of st ≡ Dead)
    by state.Closed e = inr refl
    by state.Listen e = inl tt
    by state.SynSent e = absurd (shut (accepted_in h.control_block.state h.control_block t h.endpoint remote (λ c. let no : state.SynSent ≡ state.Closed = sym e ∙ c in cc) (λ l. let no : state.SynSent ≡ state.Listen = sym e ∙ l in cc) p g))
    by state.SynReceived e = absurd (shut (accepted_in h.control_block.state h.control_block t h.endpoint remote (λ c. let no : state.SynReceived ≡ state.Closed = sym e ∙ c in cc) (λ l. let no : state.SynReceived ≡ state.Listen = sym e ∙ l in cc) p g))
    by state.Established e = absurd (shut (accepted_in h.control_block.state h.control_block t h.endpoint remote (λ c. let no : state.Established ≡ state.Closed = sym e ∙ c in cc) (λ l. let no : state.Established ≡ state.Listen = sym e ∙ l in cc) p g))
    by state.FinWait1 e = absurd (shut (accepted_in h.control_block.state h.control_block t h.endpoint remote (λ c. let no : state.FinWait1 ≡ state.Closed = sym e ∙ c in cc) (λ l. let no : state.FinWait1 ≡ state.Listen = sym e ∙ l in cc) p g))
    by state.FinWait2 e = absurd (shut (accepted_in h.control_block.state h.control_block t h.endpoint remote (λ c. let no : state.FinWait2 ≡ state.Closed = sym e ∙ c in cc) (λ l. let no : state.FinWait2 ≡ state.Listen = sym e ∙ l in cc) p g))
    by state.CloseWait e = absurd (shut (accepted_in h.control_block.state h.control_block t h.endpoint remote (λ c. let no : state.CloseWait ≡ state.Closed = sym e ∙ c in cc) (λ l. let no : state.CloseWait ≡ state.Listen = sym e ∙ l in cc) p g))
    by state.Closing e = absurd (shut (accepted_in h.control_block.state h.control_block t h.endpoint remote (λ c. let no : state.Closing ≡ state.Closed = sym e ∙ c in cc) (λ l. let no : state.Closing ≡ state.Listen = sym e ∙ l in cc) p g))
    by state.LastAck e = absurd (shut (accepted_in h.control_block.state h.control_block t h.endpoint remote (λ c. let no : state.LastAck ≡ state.Closed = sym e ∙ c in cc) (λ l. let no : state.LastAck ≡ state.Listen = sym e ∙ l in cc) p g))
    by state.TimeWait e = absurd (shut (accepted_in h.control_block.state h.control_block t h.endpoint remote (λ c. let no : state.TimeWait ≡ state.Closed = sym e ∙ c in cc) (λ l. let no : state.TimeWait ≡ state.Listen = sym e ∙ l in cc) p g))

    go : (e : Opening) → HasNoIss (seen e h.control_block).phase ⊎ ((seen e h.control_block).phase ≡ Dead)
    go opening.Unopened = inl tt
    go opening.Listener = by h.control_block.state refl
    go opening.Connector = by h.control_block.state refl

refuses : {G : Type 0} (s : Side) (h o : HostView G) (ks : List StoredView) (limit : Option ℕ) (t : StoredView) → Contains ks t → t.emitter ≡ other_side s → HasNoIss (endpoint_of h).view.phase ⊎ ((endpoint_of h).view.phase ≡ Dead) → Reaches (network_at s h o ks limit) (network_at s h o (ks ++ kept_at s (refusal_of t) h.released h.taken) limit)
refuses s h o ks limit t there from_other ph = go t.segment.control refl
  where
    answers : (c : TcpControl) → t.segment.control ≡ c → is_rst c ≡ false → refusal_reply c t ≡ Some (with_header t.ip (rst_segment t.segment)) → Reaches (network_at s h o ks limit) (network_at s h o (ks ++ kept_at s (refusal_of t) h.released h.taken) limit)
    answers c e plain is =
        subst (λ r. Reaches (network_at s h o ks limit) (network_at s h o (ks ++ kept_at s r h.released h.taken) limit)) (sym (ap (λ x. refusal_reply x t) e ∙ is))
        (subst (Reaches (network_at s h o ks limit)) (stored_is s (endpoint_of h) (endpoint_of o) ks (record { emitter = s; ip = (with_header t.ip (rst_segment t.segment)).0; segment = rst_segment t.segment; released_at = h.released; taken_at = h.taken }) limit refl)
        (one_step _ _ (AnswersRefused (shown_segment t) (stream_segment (rst_segment t.segment) h.released h.taken) (sent_has (other_side s) ks t there from_other) (ap is_rst e ∙ plain) ph refl refl)))

    go : (c : TcpControl) → t.segment.control ≡ c → Reaches (network_at s h o ks limit) (network_at s h o (ks ++ kept_at s (refusal_of t) h.released h.taken) limit)
    go control.Rst e = stays_there _ _ (ap (λ ts. network_at s h o ts limit) (sym (append-nil ks) ∙ ap (λ r. ks ++ kept_at s r h.released h.taken) (sym (ap (λ x. refusal_reply x t) e))))
    go control.None e = answers control.None e refl refl
    go control.Psh e = answers control.Psh e refl refl
    go control.Syn e = answers control.Syn e refl refl
    go control.Fin e = answers control.Fin e refl refl

-- ---- dispatches

-- what was stored of an emit
records_stored : (s : Side) (c : Sending) (r : Sent) (released taken : ℕ) → Records false (Some c) r → stored_at s r released taken ≡ record { emitter = s; ip = c.ip; segment = c.segment; released_at = released; taken_at = taken } ∷ []
records_stored s c sent.Quiet released taken e = absurd e
records_stored s c sent.Failed released taken e = absurd e
records_stored s c (sent.Emitted h bytes) released taken e = λ i. record { emitter = s; ip = e.0.ip_repr i; segment = (ap (segment_at h) e.1 ∙ e.0.fields) i; released_at = released; taken_at = taken } ∷ []

failed_stored : (s : Side) (c : Option Sending) (r : Sent) (released taken : ℕ) → Records true c r → stored_at s r released taken ≡ []
failed_stored s None r released taken e = ap (λ x. stored_at s x released taken) e
failed_stored s (Some c) r released taken e = ap (λ x. stored_at s x released taken) e

module _ {G : Type 0} (s : Side) (h o : HostView G) (ks : List StoredView) (limit : Option ℕ) (b : Bool) where
  -- the same host, its socket as v
  abbrev at_view : View → List StoredView → Network
  at_view v ts = opened_network s h b v o ts limit

  none_stored : (v : View) (xs : List StoredView) → xs ≡ [] → Reaches (at_view v ks) (at_view v (ks ++ xs))
  none_stored v xs e = stays_there _ _ (ap (at_view v) (sym (append-nil ks) ∙ ap (λ zs. ks ++ zs) (sym e)))

  -- a segment that may be emitted goes out
  emits_one : (v : View) (c : Sending) (now : Instant) → MayEmit v c now h.released h.taken → Reaches (at_view v ks) (at_view (left_by (Some c) v now true) (ks ++ record { emitter = s; ip = c.ip; segment = numbered v c.segment; released_at = h.released; taken_at = h.taken } ∷ []))
  emits_one v c now may =
      subst (Reaches (at_view v ks)) (stored_is s (opened h b (left_by (Some c) v now true)) (endpoint_of o) ks (record { emitter = s; ip = c.ip; segment = numbered v c.segment; released_at = h.released; taken_at = h.taken }) limit refl)
      (emission_reaches (at_view v ks) (shown (left_by (Some c) v now true)) (stream_segment (numbered v c.segment) h.released h.taken) (record { released = omega arith; taken = omega arith }) may.sends may.leaves)

  sends_to : (tells : G → ℕ → Type 0) (source : Option G) (v w : View) (t : Tuple) (f : Facts) (fail : Bool) (r : Sent) → SendsTo tells source v t f fail r w → IsInvariant (at_view v ks) → Reaches (at_view v ks) (at_view w (ks ++ stored_at s r h.released h.taken))
  sends_to tells source v w t f fail r d i = subst (λ u. Reaches (at_view v ks) (at_view u (ks ++ stored_at s r h.released h.taken))) (sym d.view) (go fail (content v t f d.stamp d.bytes) refl d.records)
    where
      go : (fail : Bool) (c : Option Sending) → content v t f d.stamp d.bytes ≡ c → Records fail (outgoing v c) r → Reaches (at_view v ks) (at_view (left_by c v (moment_of f) (not fail)) (ks ++ stored_at s r h.released h.taken))
      go true None e x = none_stored v _ (failed_stored s None r h.released h.taken x)
      go true (Some c) e x = none_stored v _ (failed_stored s (Some c) r h.released h.taken x)
      go false None e x = none_stored v _ (ap (λ y. stored_at s y h.released h.taken) x)
      go false (Some c) e x = subst (λ xs. Reaches (at_view v ks) (at_view (left_by (Some c) v (moment_of f) true) (ks ++ xs))) (sym (records_stored s (record c { segment = numbered v c.segment }) r h.released h.taken x)) (emits_one v c (moment_of f) (emission_plans v h.released h.taken (bounded s h b v o ks limit i) t f d.stamp d.bytes d.lent c e))

  sends_from : (tells : G → ℕ → Type 0) (source : Option G) (peer : Option Tuple) (v w : View) (f : Facts) (fail : Bool) (r : Sent) → SendsFrom tells source peer v f fail r w → IsInvariant (at_view v ks) → Reaches (at_view v ks) (at_view w (ks ++ stored_at s r h.released h.taken))
  sends_from tells source None v w f fail r d i = subst (λ u. Reaches (at_view v ks) (at_view u (ks ++ stored_at s r h.released h.taken))) (sym d.1) (none_stored v _ (ap (λ y. stored_at s y h.released h.taken) d.0))
  sends_from tells source (Some t) v w f fail r d i = sends_to tells source v w t f fail r d i

  dispatches_as : (tells : G → ℕ → Type 0) (source : Option G) (w : View) (f : Facts) (fail : Bool) (r : Sent) → SocketDispatches tells source h.control_block f fail r w → IsInvariant (at_view h.control_block ks) → Reaches (at_view h.control_block ks) (at_view w (ks ++ stored_at s r h.released h.taken))
  unfolding SocketDispatches
  dispatches_as tells source w f fail r d i =
      let u : View = (before_emit h.control_block f).view in
      let begins : Reaches (at_view h.control_block ks) (at_view u ks) = begins_reach (at_view h.control_block ks) (shown u) (begun_shows h.control_block f (bounded s h b h.control_block o ks limit i)) in
      reach_then _ (at_view u ks) _ begins (sends_from tells source (peer_of (before_emit h.control_block f)) u w f fail r d (reach_keeps _ _ begins i))

-- a dispatch of a socket without a peer stores nothing
pub idle_stores : {G : Type 0} (tells : G → ℕ → Type 0) (source : Option G) (v w : View) (f : Facts) (fail : Bool) (r : Sent) → v.tuple ≡ None → SocketDispatches tells source v f fail r w → r ≡ sent.Quiet
unfolding SocketDispatches
idle_stores tells source v w f fail r e d = (subst (λ (b : Begun). SendsFrom tells source (peer_of b) b.view f fail r w) (no_peer_readies v f e) d).0

dispatches_in : {G : Type 0} (tells : G → ℕ → Type 0) (source : Option G) (s : Side) (h o : HostView G) (ks : List StoredView) (limit : Option ℕ) (w : View) (f : Facts) (fail : Bool) (r : Sent) → SocketDispatches tells source h.control_block f fail r w → (e : Opening) → (e ≡ opening.Unopened → IsIdle h.control_block) → IsInvariant (network_at s (record h { opening = e }) o ks limit)
    → Reaches (network_at s (record h { opening = e }) o ks limit) (network_at s (record h { opening = e; control_block = w }) o (ks ++ stored_at s r h.released h.taken) limit)
dispatches_in tells source s h o ks limit w f fail r d opening.Unopened idle i =
    stays_there _ _ (ap (λ ts. network_at s (record h { opening = opening.Unopened }) o ts limit) (sym (append-nil ks) ∙ ap (λ x. ks ++ stored_at s x h.released h.taken) (sym (idle_stores tells source h.control_block w f fail r (idle refl).tuple d))))
dispatches_in tells source s h o ks limit w f fail r d opening.Listener idle i = dispatches_as s h o ks limit true tells source w f fail r d i
dispatches_in tells source s h o ks limit w f fail r d opening.Connector idle i = dispatches_as s h o ks limit false tells source w f fail r d i

-- ---- the calls of the application

-- a side that was not opened before opens as k
opens_in : {G : Type 0} (s : Side) (h k n : HostView G) (oc : Outcome) (o : HostView G) (ks : List StoredView) (limit : Option ℕ) (e : Opening) → OpensAs e h n oc k → (e ≡ opening.Unopened → Reaches (network_at s h o ks limit) (network_at s n o ks limit)) → Reaches (network_at s h o ks limit) (network_at s k o ks limit)
opens_in s h k n oc o ks limit opening.Unopened d new = subst (λ x. Reaches (network_at s h o ks limit) (network_at s x o ks limit)) (sym d.1) (new refl)
opens_in s h k n oc o ks limit opening.Listener d new = stays_there _ _ (ap (λ x. network_at s x o ks limit) (sym d.1))
opens_in s h k n oc o ks limit opening.Connector d new = stays_there _ _ (ap (λ x. network_at s x o ks limit) (sym d.1))

-- what an unopened side shows
abbrev unopened_network : {G : Type 0} → Side → HostView G → HostView G → List StoredView → Option ℕ → Network
unopened_network s h o ks limit = between s (record (endpoint_of h) { view = unopened.view; listener = false }) (endpoint_of o) ks limit

unopened_as : {G : Type 0} (s : Side) (h o : HostView G) (ks : List StoredView) (limit : Option ℕ) → h.opening ≡ opening.Unopened → network_at s h o ks limit ≡ unopened_network s h o ks limit
unopened_as s h o ks limit e = ap (λ x. between s (record (endpoint_of h) { view = seen x h.control_block; listener = is_listener x }) (endpoint_of o) ks limit) e

module _ {G : Type 0} (s : Side) (h o : HostView G) (ks : List StoredView) (limit : Option ℕ) where
  opened_by : (n : HostView G) → h.opening ≡ opening.Unopened → Reaches (unopened_network s h o ks limit) (network_at s n o ks limit) → Reaches (network_at s h o ks limit) (network_at s n o ks limit)
  opened_by n e r = subst (λ z. Reaches z (network_at s n o ks limit)) (sym (unopened_as s h o ks limit e)) r

  listens_reach : h.opening ≡ opening.Unopened → Reaches (network_at s h o ks limit) (network_at s (listening h) o ks limit)
  listens_reach e =
      opened_by (listening h) e
      (one_step _ _ (Listens refl (ap (λ (v : SocketView). between s (record (endpoint_of h) { view = v; listener = true }) (endpoint_of o) ks limit) (listened_shows h.control_block _))))

  connects_reach : (m : Moment) (remote : IpEndpoint) → m.word < 2 ^ 32 → h.opening ≡ opening.Unopened → Reaches (network_at s h o ks limit) (network_at s (connecting h m remote) o ks limit)
  connects_reach m remote w e =
      opened_by (connecting h m remote) e
      (one_step _ _ (Connects m.word w refl (ap (λ (v : SocketView). between s (record (endpoint_of h) { view = v; listener = false }) (endpoint_of o) ks limit) (connected_shows h.control_block _ m.word))))

  -- ---- send

  sends_as : (b : Bool) (n : ℕ) (bs : List ℕ) → may_send h.control_block.state ≡ true → length h.control_block.tx_buffer.bytes + length (take n bs) ≤ 2 ^ 30 → IsWithin limit (h.accepted ++ take n bs) → Reaches (between s (opened h b h.control_block) (endpoint_of o) ks limit) (between s (opened (sending h n bs) b (queued h.control_block n bs)) (endpoint_of o) ks limit)
  sends_as b n bs may room within =
      one_step _ _ (TakesBytes (take n bs) (sends_open h.control_block.state may) room within
      (ap (λ (v : SocketView). between s (record (endpoint_of (sending h n bs)) { view = v; listener = b }) (endpoint_of o) ks limit) (queued_shows h.control_block n bs)))

  sends_in : (e : Opening) (n : ℕ) (bs : List ℕ) → (e ≡ opening.Unopened → ⊥) → may_send h.control_block.state ≡ true → length h.control_block.tx_buffer.bytes + length (take n bs) ≤ 2 ^ 30 → IsWithin limit (h.accepted ++ take n bs) → Reaches (network_at s (record h { opening = e }) o ks limit) (network_at s (record (sending h n bs) { opening = e }) o ks limit)
  sends_in opening.Unopened n bs shut may room within = absurd (shut refl)
  sends_in opening.Listener n bs shut may room within = sends_as true n bs may room within
  sends_in opening.Connector n bs shut may room within = sends_as false n bs may room within

  -- ---- recv

  reads_as : (b : Bool) (n : ℕ) → n ≤ length h.control_block.rx_buffer.bytes → Reaches (between s (opened h b h.control_block) (endpoint_of o) ks limit) (between s (opened (receiving h n) b (receiving h n).control_block) (endpoint_of o) ks limit)
  reads_as b n within =
      one_step _ _ (HandsOut n
      (ap (λ (v : SocketView). between s (record (endpoint_of (receiving h n)) { view = v; listener = b }) (endpoint_of o) ks limit) (read_shows h.control_block n within)))

  reads_in : (e : Opening) (n : ℕ) → n ≤ length h.control_block.rx_buffer.bytes → (e ≡ opening.Unopened → ⊥) → Reaches (network_at s (record h { opening = e }) o ks limit) (network_at s (record (receiving h n) { opening = e }) o ks limit)
  reads_in opening.Unopened n within shut = absurd (shut refl)
  reads_in opening.Listener n within shut = reads_as true n within
  reads_in opening.Connector n within shut = reads_as false n within

  -- ---- close and abort

  -- what a close leaves of a socket in the state st
  abbrev closed_there : Bool → State → Rules → Network
  closed_there b st r = between s (record (endpoint_of h) { view = record (shown h.control_block) { phase = phase_of (closed_in st r) }; listener = b; closed = if may_send st then true else h.closed }) (endpoint_of o) ks limit

  abbrev open_in : Bool → State → Network
  open_in b st = between s (record (endpoint_of h) { view = record (shown h.control_block) { phase = phase_of st }; listener = b }) (endpoint_of o) ks limit

  -- the connection ends, with its queues as they are
  ends_there : (b : Bool) (st : State) → Reaches (open_in b st) (open_in b state.Closed)
  ends_there b st = one_step _ _ (Dies (record (shown h.control_block) { phase = Dead }) (record { phase = refl; receive_queue = inl refl; fin = λ f. (f, refl) }) refl)

  closes_as : (b : Bool) (st : State) (r : Rules) → Reaches (open_in b st) (closed_there b st r)
  closes_as b state.Established r = one_step _ _ (EndsStream refl refl)
  closes_as b state.CloseWait r = one_step _ _ (EndsStream refl refl)
  closes_as b state.SynReceived rules.Smoltcp = one_step _ _ (ClosesUnacknowledged refl refl)
  closes_as b state.SynReceived rules.Rfc = stays_there _ _ refl
  closes_as b state.Listen r = ends_there b state.Listen
  closes_as b state.SynSent r = ends_there b state.SynSent
  closes_as b state.Closed r = stays_there _ _ refl
  closes_as b state.FinWait1 r = stays_there _ _ refl
  closes_as b state.FinWait2 r = stays_there _ _ refl
  closes_as b state.Closing r = stays_there _ _ refl
  closes_as b state.LastAck r = stays_there _ _ refl
  closes_as b state.TimeWait r = stays_there _ _ refl

  closes_in : (e : Opening) → (e ≡ opening.Unopened → h.control_block.state ≡ state.Closed) → Reaches (network_at s (record h { opening = e }) o ks limit) (network_at s (record (closing h) { opening = e }) o ks limit)
  closes_in opening.Unopened idle = stays_there _ _ (ap (λ st. network_at s (record h { opening = opening.Unopened; closed = if may_send st then true else h.closed }) o ks limit) (sym (idle refl)))
  closes_in opening.Listener idle = closes_as true h.control_block.state h.control_block.rules
  closes_in opening.Connector idle = closes_as false h.control_block.state h.control_block.rules

  aborts_in : (e : Opening) → Reaches (network_at s (record h { opening = e }) o ks limit) (network_at s (record (aborting h) { opening = e }) o ks limit)
  aborts_in opening.Unopened = stays_there _ _ refl
  aborts_in opening.Listener = ends_there true h.control_block.state
  aborts_in opening.Connector = ends_there false h.control_block.state

  -- ---- settings

  sets_in : (e : Opening) (x : Setting) → network_at s (record h { opening = e }) o ks limit ≡ network_at s (record (setting h x) { opening = e }) o ks limit
  sets_in opening.Unopened x = refl
  sets_in opening.Listener x = ap (λ (v : SocketView). between s (record (endpoint_of h) { view = v; listener = true }) (endpoint_of o) ks limit) (sym (set_shows x h.control_block))
  sets_in opening.Connector x = ap (λ (v : SocketView). between s (record (endpoint_of h) { view = v; listener = false }) (endpoint_of o) ks limit) (sym (set_shows x h.control_block))

-- within the limit
not_over : {G : Type 0} (limit : Option ℕ) (h : HostView G) (n : ℕ) (bs : List ℕ) → is_over limit (length h.accepted + length bs) ≡ false → IsWithin limit (h.accepted ++ take n bs)
not_over None h n bs e = tt
not_over (Some limit) h n bs e =
    let le : length h.accepted + length bs ≤ limit = grind (arith, nat_tests, e) in
    omega (arith, le, length-append h.accepted (take n bs), length-take n bs)

module _ {G : Type 0} (s : Side) (p : PairView G) (host : IsHost (host_of s p)) (i : IsInvariant (network_of p)) where
  pub listen_reaches : (o : Outcome) (k : HostView G) → OpensAs (host_of s p).opening (host_of s p) (listening (host_of s p)) o k → Reaches (network_of p) (network_of (with_host s p k))
  listen_reaches o k e = with_reached s p k (opens_in s (host_of s p) k (listening (host_of s p)) o (host_of (other_side s) p) p.segments p.limit (host_of s p).opening e (λ u. listens_reach s (host_of s p) (host_of (other_side s) p) p.segments p.limit u))

  pub connect_reaches : (m : Moment) (remote : IpEndpoint) (o : Outcome) (k : HostView G) → m.word < 2 ^ 32 → OpensAs (host_of s p).opening (host_of s p) (connecting (host_of s p) m remote) o k → Reaches (network_of p) (network_of (with_host s p k))
  connect_reaches m remote o k w e = with_reached s p k (opens_in s (host_of s p) k (connecting (host_of s p) m remote) o (host_of (other_side s) p) p.segments p.limit (host_of s p).opening e (λ u. connects_reach s (host_of s p) (host_of (other_side s) p) p.segments p.limit m remote w u))

  -- the transmit buffer has at most 2^30 bytes
  pub send_reaches : (size : Option ℕ) (bs : List ℕ) (o : Outcome) (k : HostView G) → capacity (host_of s p).control_block.tx_buffer ≤ 2 ^ 30 → Sends p.limit size bs (host_of s p) o k → Reaches (network_of p) (network_of (with_host s p k))
  send_reaches size bs o k room e = go (is_over p.limit (length (host_of s p).accepted + length bs)) refl e
    where
      take_some : (b : Bool) → may_send (host_of s p).control_block.state ≡ b → is_over p.limit (length (host_of s p).accepted + length bs) ≡ false → SendsIf b size bs (host_of s p) o k → Reaches (network_of p) (network_of (with_host s p k))
      take_some false may x d = stays_reached s p k d.1
      take_some true may x d =
          let t = takes_some size bs (host_of s p) o k d in
          with_reached s p k (subst (λ z. Reaches (side_network s p (host_of s p) p.segments) (side_network s p z p.segments)) (sym t.host)
          (sends_in s (host_of s p) (host_of (other_side s) p) p.segments p.limit (host_of s p).opening t.count bs (cannot_send (host_of s p) host may) may (omega (arith, room, t.fits, length-take t.count bs)) (not_over p.limit (host_of s p) t.count bs x)))

      go : (b : Bool) → is_over p.limit (length (host_of s p).accepted + length bs) ≡ b → SendsUnder b size bs (host_of s p) o k → Reaches (network_of p) (network_of (with_host s p k))
      go true x d = stays_reached s p k d.1
      go false x d = take_some (may_send (host_of s p).control_block.state) refl x d

  pub recv_reaches : (piece : Bool) (size : ℕ) (o : Outcome) (k : HostView G) → Receives piece size (host_of s p) o k → Reaches (network_of p) (network_of (with_host s p k))
  recv_reaches piece size o k e = go (may_recv (host_of s p).control_block) refl e
    where
      go : (b : Bool) → may_recv (host_of s p).control_block ≡ b → ReceivesIf b piece size (host_of s p) o k → Reaches (network_of p) (network_of (with_host s p k))
      go false may d = stays_reached s p k d.1
      go true may d =
          let t = hands_some piece size (host_of s p) o k d in
          with_reached s p k (subst (λ z. Reaches (side_network s p (host_of s p) p.segments) (side_network s p z p.segments)) (sym t.does.host)
          (reads_in s (host_of s p) (host_of (other_side s) p) p.segments p.limit (host_of s p).opening t.count t.within (cannot_recv (host_of s p) host may)))

  pub close_reaches : (o : Outcome) (k : HostView G) → Closes (host_of s p) o k → Reaches (network_of p) (network_of (with_host s p k))
  close_reaches o k e =
      with_reached s p k (subst (λ z. Reaches (side_network s p (host_of s p) p.segments) (side_network s p z p.segments)) (sym e.1)
      (closes_in s (host_of s p) (host_of (other_side s) p) p.segments p.limit (host_of s p).opening (λ u. (host.idle u).state)))

  pub abort_reaches : (o : Outcome) (k : HostView G) → Aborts (host_of s p) o k → Reaches (network_of p) (network_of (with_host s p k))
  abort_reaches o k e =
      with_reached s p k (subst (λ z. Reaches (side_network s p (host_of s p) p.segments) (side_network s p z p.segments)) (sym e.1)
      (aborts_in s (host_of s p) (host_of (other_side s) p) p.segments p.limit (host_of s p).opening))

  pub set_reaches : (x : Setting) (o : Outcome) (k : HostView G) → Sets x (host_of s p) o k → Reaches (network_of p) (network_of (with_host s p k))
  set_reaches x o k e =
      with_reached s p k (subst (λ z. Reaches (side_network s p (host_of s p) p.segments) (side_network s p z p.segments)) (sym e.1)
      (stays_there _ _ (sets_in s (host_of s p) (host_of (other_side s) p) p.segments p.limit (host_of s p).opening x)))

  pub dispatch_reaches : (tells : G → ℕ → Type 0) (m : Moment) (fail : Bool) (o : Outcome) (k : HostView G) (ks : List StoredView) → Dispatches tells s m fail o (host_of s p) p.segments k ks → Reaches (network_of p) (network_of (exchanged s p k ks))
  dispatch_reaches tells m fail o k ks e =
      exchanged_reached s p k ks (subst (λ h. Reaches (side_network s p (host_of s p) p.segments) (side_network s p h ks)) (sym e.does.same)
      (subst (λ ts. Reaches (side_network s p (host_of s p) p.segments) (side_network s p (record (host_of s p) { control_block = k.control_block }) ts)) (sym e.stored)
      (dispatches_in tells (host_of s p).source s (host_of s p) (host_of (other_side s) p) p.segments p.limit k.control_block (facts_of m) fail e.sent e.does.socket (host_of s p).opening host.idle (from_side s p i))))

  -- t is a segment of the other side
  pub deliver_reaches : (tells : G → ℕ → Type 0) (m : Moment) (t : StoredView) (o : Outcome) (k : HostView G) (ks : List StoredView) → m.word < 2 ^ 32 → IsSmall t.segment → Contains p.segments t → t.emitter ≡ other_side s → IsSocket (host_of s p).control_block → HasPeer (host_of s p) (host_of (other_side s) p).endpoint → GoesFrom t (host_of (other_side s) p).endpoint (host_of s p).endpoint
      → DeliversTo tells (is_old (host_of t.emitter p) t) s m t o (host_of s p) p.segments k ks → Reaches (network_of p) (network_of (exchanged s p k ks))
  deliver_reaches tells m t o k ks w small there from_other sock peer goes e = go (is_old (host_of t.emitter p) t) refl e
    where
      go : (old : Bool) → is_old (host_of t.emitter p) t ≡ old → DeliversTo tells old s m t o (host_of s p) p.segments k ks → Reaches (network_of p) (network_of (exchanged s p k ks))
      go true x d = unchanged_reached s p k ks d.1.0 d.1.1
      go false x d = by_accepts d.accepted d.says.0 d.says.1 d.does
        where
          by_accepts : (b : Bool) → (IsTrue b → Accepts (host_of s p).control_block t.ip t.segment) → (Accepts (host_of s p).control_block t.ip t.segment → IsTrue b) → DeliversIf tells b s m t o (host_of s p) p.segments k ks → Reaches (network_of p) (network_of (exchanged s p k ks))
          by_accepts false a says y =
              exchanged_reached s p k ks (subst (λ h. Reaches (side_network s p (host_of s p) p.segments) (side_network s p h ks)) (sym y.host)
              (subst (λ ts. Reaches (side_network s p (host_of s p) p.segments) (side_network s p (host_of s p) ts)) (sym y.stored)
              (refuses s (host_of s p) (host_of (other_side s) p) p.segments p.limit t there from_other (refused_phase (host_of s p) (host_of (other_side s) p).endpoint t peer goes (λ yes. let no : false ≡ true = says yes in cc)))))
          by_accepts true a says y =
              let shut : (host_of s p).opening ≡ opening.Unopened → ⊥ = (λ u. closed_accepts_none (host_of s p).control_block t (host.idle u).state (a refl)) in
              exchanged_reached s p k ks (subst (λ h. Reaches (side_network s p (host_of s p) p.segments) (side_network s p h ks)) (sym y.host)
              (subst (λ ts. Reaches (side_network s p (host_of s p) p.segments) (side_network s p (delivered_to (host_of s p) m t) ts)) (sym y.stored)
              (hears s (host_of s p) (host_of (other_side s) p) p.segments p.limit m t w small there from_other sock (subst (λ r. is_old (host_of r p) t ≡ false) from_other x) (a refl) y.reply tells y.is_reply shut
              (host.passive shut (λ c. closed_accepts_none (host_of s p).control_block t c (a refl))) (from_side s p i))))

  -- ---- so each keeps the invariant

  pub call_keeps : (x : Call) (o : Outcome) (k : HostView G) → Calls x (host_of s p) o k → IsInvariant (network_of (with_host s p k))
  call_keeps call.Listen o k e = reach_keeps _ _ (listen_reaches o k e) i
  call_keeps call.Close o k e = reach_keeps _ _ (close_reaches o k e) i
  call_keeps call.Abort o k e = reach_keeps _ _ (abort_reaches o k e) i
  call_keeps (call.Set x) o k e = reach_keeps _ _ (set_reaches x o k e) i

  pub connect_keeps : (m : Moment) (remote : IpEndpoint) (o : Outcome) (k : HostView G) → m.word < 2 ^ 32 → OpensAs (host_of s p).opening (host_of s p) (connecting (host_of s p) m remote) o k → IsInvariant (network_of (with_host s p k))
  connect_keeps m remote o k w e = reach_keeps _ _ (connect_reaches m remote o k w e) i

  pub send_keeps : (size : Option ℕ) (bs : List ℕ) (o : Outcome) (k : HostView G) → capacity (host_of s p).control_block.tx_buffer ≤ 2 ^ 30 → Sends p.limit size bs (host_of s p) o k → IsInvariant (network_of (with_host s p k))
  send_keeps size bs o k room e = reach_keeps _ _ (send_reaches size bs o k room e) i

  pub recv_keeps : (piece : Bool) (size : ℕ) (o : Outcome) (k : HostView G) → Receives piece size (host_of s p) o k → IsInvariant (network_of (with_host s p k))
  recv_keeps piece size o k e = reach_keeps _ _ (recv_reaches piece size o k e) i

  pub dispatch_keeps : (tells : G → ℕ → Type 0) (m : Moment) (fail : Bool) (o : Outcome) (k : HostView G) (ks : List StoredView) → Dispatches tells s m fail o (host_of s p) p.segments k ks → IsInvariant (network_of (exchanged s p k ks))
  dispatch_keeps tells m fail o k ks e = reach_keeps _ _ (dispatch_reaches tells m fail o k ks e) i

  pub deliver_keeps : (tells : G → ℕ → Type 0) (m : Moment) (t : StoredView) (o : Outcome) (k : HostView G) (ks : List StoredView) → m.word < 2 ^ 32 → IsSmall t.segment → Contains p.segments t → t.emitter ≡ other_side s → IsSocket (host_of s p).control_block → HasPeer (host_of s p) (host_of (other_side s) p).endpoint → GoesFrom t (host_of (other_side s) p).endpoint (host_of s p).endpoint
      → DeliversTo tells (is_old (host_of t.emitter p) t) s m t o (host_of s p) p.segments k ks → IsInvariant (network_of (exchanged s p k ks))
  deliver_keeps tells m t o k ks w small there from_other sock peer goes e = reach_keeps _ _ (deliver_reaches tells m t o k ks w small there from_other sock peer goes e) i

-- ---- any event

buffers_at : {G : Type 0} (s : Side) (p : PairView G) (e : Event) → IsSized e p → IsSocket (host_of s p).control_block
buffers_at A p e z = z.a
buffers_at B p e z = z.b

to_q : {G : Type 0} (p q r : PairView G) → q ≡ r → Reaches (network_of p) (network_of r) → Reaches (network_of p) (network_of q)
to_q p q r e d = subst (λ z. Reaches (network_of p) (network_of z)) (sym e) d

emitter_twice : (s : Side) → s ≡ other_side (other_side s)
emitter_twice A = refl
emitter_twice B = refl

goes_to : {G : Type 0} (p : PairView G) → IsPair p → (j : ℕ) (t : StoredView) → slice_get p.segments j ≡ Some t → GoesFrom t (host_of (other_side (other_side t.emitter)) p).endpoint (host_of (other_side t.emitter) p).endpoint
goes_to p i j t at = subst (λ x. GoesFrom t (host_of x p).endpoint (host_of (other_side t.emitter) p).endpoint) (emitter_twice t.emitter) (one_goes (endpoint_at p) p.segments j t i.segments at)

delivers_reach : {G : Type 0} (tells : G → ℕ → Type 0) (j : ℕ) (t : Option StoredView) (m : Moment) (p q : PairView G) (o : Outcome) → IsPair p → IsSized (event.Deliver j m) p → slice_get p.segments j ≡ t → Delivers tells t m p o q → Reaches (network_of p) (network_of q)
delivers_reach tells j None m p q o i z at x = to_q p q p x.1 (stays_there _ _ refl)
delivers_reach tells j (Some t) m p q o i z at x =
    to_q p q (exchanged (other_side t.emitter) p x.host x.segments) x.same
    (deliver_reaches (other_side t.emitter) p (host_at (other_side t.emitter) p i) i.network tells m t o x.host x.segments m.fits (z.delivered t at) (contains_at p.segments j t at) (emitter_twice t.emitter) (buffers_at (other_side t.emitter) p (event.Deliver j m) z) (peer_at (other_side t.emitter) p i) (goes_to p i j t at) x.does)

pub event_reaches : {G : Type 0} (tells : G → ℕ → Type 0) (e : Event) (p : PairView G) (o : Outcome) (q : PairView G) → IsPair p → IsSized e p → EventStep tells e p o q → Reaches (network_of p) (network_of q)
event_reaches tells (event.Listen s) p o q i z x = to_q p q (with_host s p x.host) x.same (listen_reaches s p (host_at s p i) i.network o x.host x.does)
event_reaches tells (event.Connect s m) p o q i z x = to_q p q (with_host s p x.host) x.same (connect_reaches s p (host_at s p i) i.network m (host_of (other_side s) p).endpoint o x.host m.fits x.does)
event_reaches tells (event.SendSlice s bytes) p o q i z x = to_q p q (with_host s p x.host) x.same (send_reaches s p (host_at s p i) i.network None bytes.items o x.host (buffers_at s p (event.SendSlice s bytes) z).transmit x.does)
event_reaches tells (event.Send s bytes size) p o q i z x = to_q p q (with_host s p x.host) x.same (send_reaches s p (host_at s p i) i.network (Some size) bytes.items o x.host (buffers_at s p (event.Send s bytes size) z).transmit x.does)
event_reaches tells (event.RecvSlice s size) p o q i z x = to_q p q (with_host s p x.host) x.same (recv_reaches s p (host_at s p i) i.network false size o x.host x.does)
event_reaches tells (event.Recv s size) p o q i z x = to_q p q (with_host s p x.host) x.same (recv_reaches s p (host_at s p i) i.network true size o x.host x.does)
event_reaches tells (event.Close s) p o q i z x = to_q p q (with_host s p x.host) x.same (close_reaches s p (host_at s p i) i.network o x.host x.does)
event_reaches tells (event.Abort s) p o q i z x = to_q p q (with_host s p x.host) x.same (abort_reaches s p (host_at s p i) i.network o x.host x.does)
event_reaches tells (event.Set s y) p o q i z x = to_q p q (with_host s p x.host) x.same (set_reaches s p (host_at s p i) i.network y o x.host x.does)
event_reaches tells (event.Dispatch s m fail) p o q i z x = to_q p q (exchanged s p x.host x.segments) x.same (dispatch_reaches s p (host_at s p i) i.network tells m fail o x.host x.segments x.does)
event_reaches tells (event.Deliver j m) p o q i z x = delivers_reach tells j (slice_get p.segments j) m p q o i z refl x

-- as a pair answers it
pub event_reaches_if : {G : Type 0} (tells : G → ℕ → Type 0) (e : Event) (p q : PairView G) (r : Result Outcome PairError) → IsPair p → IsSized e p → IfOk r (λ o. EventStep tells e p o q) → OnErr r (q ≡ p) → Reaches (network_of p) (network_of q)
event_reaches_if tells e p q (Ok o) i z x same = event_reaches tells e p o q i z x
event_reaches_if tells e p q (Err x) i z y same = stays_there _ _ (ap network_of (sym same))

-- a new pair
pub new_shows : {G : Type 0} (v w : View) (a b : IpEndpoint) (x y : Option G) (limit : Option ℕ) → network_of (new_pair (new_host v a x) (new_host w b y) limit) ≡ start limit
new_shows v w a b x y limit = refl
