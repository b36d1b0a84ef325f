-- What an event does to a pair.
use Rattle.std.specs.Prelude.{ℕ, ◌≡◌, ◌+◌, ◌-◌, ◌<◌, ◌^◌, ◌++◌, ◌↔◌, ◌⊎◌, IsTrue, List, [], ◌∷◌, length, min, slice_get}
use Rattle.std.specs.Prelude.{Option, Some, None, option_map, Bool, true, false, nat_le, ◌||◌}
use Rattle.ip_wire.specs.declared.repr.IpRepr.{IpRepr}
use Rattle.control_wire.specs.Segment.{Segment}
use Rattle.control_wire.specs.declared.tcp.TcpControl.{TcpControl}
use Rattle.control_wire.specs.declared.tcp.TcpControl.TheVariants as control
use Rattle.sock_tcp.specs.Rfc.Numbers.{reply_numbered}
use Rattle.sock_tcp.specs.Process.{Accepts, Outcome as Processed, processed, source_kept}
use Rattle.sock_tcp.specs.View.{View}
use Rattle.sock_tcp.specs.declared.state.State.{State}
use Rattle.sock_tcp.specs.Replies.{Answers, IsReplyStamp, echoed, rst_segment, with_header}
use Rattle.pair_core.specs.Moments.{facts_of}
use Rattle.pair_core.specs.Network.{closed_late}
use Rattle.pair_core.specs.PairNetwork.{phase_of}
use Rattle.pair_core.specs.PairViews.{HostView, StoredView, PairView, host_of, with_host}
use Rattle.pair_core.specs.Holding.{stored_segment, kept_at}
use Rattle.pair_core.specs.PairCalls.{listening, connecting, OpensAs, is_over, Sends, Receives, Closes, Aborts, Sets}
use Rattle.pair_core.specs.Captures.{SocketDispatches}
use Rattle.pair_core.specs.Sides.{other_side}
use Rattle.pair_core.specs.declared.event.Event.{Event}
use Rattle.pair_core.specs.declared.event.Event.TheVariants as event
use Rattle.pair_core.specs.declared.moment.Moment.{Moment}
use Rattle.pair_core.specs.declared.outcome.Outcome.{Outcome}
use Rattle.pair_core.specs.declared.outcome.Outcome.TheVariants as outcome
use Rattle.pair_core.specs.declared.capture.Sent.{Sent}
use Rattle.pair_core.specs.declared.capture.Sent.TheVariants as sent
use Rattle.pair_core.specs.declared.side.Side.{Side}

-- ---- an event of one side: the other side stays as it was

-- and so do the segments
pub record OneSide {G : Type 0} (s : Side) (p q : PairView G)
    (Changes : HostView G → HostView G → Type 0) : Type 0 where
  pub host : HostView G
  pub does : Changes (host_of s p) host
  pub same : q ≡ with_host s p host

abbrev pub exchanged : {G : Type 0} → Side → PairView G → HostView G → List StoredView → PairView G
exchanged s p h ks = record (with_host s p h) { segments = ks }

-- the list of segments changes too
pub record OneSideAndSegments {G : Type 0} (s : Side) (p q : PairView G)
    (Changes : HostView G → List StoredView → HostView G → List StoredView → Type 0) : Type 0 where
  pub host : HostView G
  pub segments : List StoredView
  pub does : Changes (host_of s p) p.segments host segments
  pub same : q ≡ exchanged s p host segments

-- ---- dispatch

abbrev pub dispatch_outcome : Sent → ℕ → Outcome
dispatch_outcome sent.Quiet n = outcome.Quiet
dispatch_outcome sent.Failed n = outcome.EmitFailed
dispatch_outcome (sent.Emitted h bytes) n = outcome.Emitted n

-- the segment that went out is stored with the counts of its emitter
abbrev pub stored_at : Side → Sent → ℕ → ℕ → List StoredView
stored_at s sent.Quiet released taken = []
stored_at s sent.Failed released taken = []
stored_at s (sent.Emitted header bytes) released taken = stored_segment s header bytes.items released taken ∷ []

pub record HostDispatches {G : Type 0} (tells : G → ℕ → Type 0) (m : Moment) (fail : Bool) (h : HostView G) (r : Sent)
    (k : HostView G) : Type 0 where
  pub socket : SocketDispatches tells h.source h.control_block (facts_of m) fail r k.control_block
  pub same : k ≡ record h { control_block = k.control_block }

pub record Dispatches {G : Type 0} (tells : G → ℕ → Type 0) (s : Side) (m : Moment) (fail : Bool) (o : Outcome)
    (h : HostView G) (ks : List StoredView) (h' : HostView G) (ks' : List StoredView) : Type 0 where
  pub sent : Sent
  pub does : HostDispatches tells m fail h sent h'
  pub answer : o ≡ dispatch_outcome sent (length ks)
  pub stored : ks' ≡ ks ++ stored_at s sent h.released h.taken

-- ---- delivery, to the side that did not emit the segment

-- one of the emitter's counts grew by 2^29 or more since
abbrev pub is_too_old : ℕ → ℕ → ℕ → ℕ → Bool
is_too_old released_at released_now taken_at taken_now =
    nat_le (2 ^ 29) (released_now - released_at) || nat_le (2 ^ 29) (taken_now - taken_at)

abbrev pub is_old : {G : Type 0} → HostView G → StoredView → Bool
is_old emitter t = is_too_old t.released_at emitter.released t.taken_at emitter.taken

abbrev pub processed_at : View → Moment → StoredView → Processed
processed_at v m t = processed v (record { micros = m.now.micros }) m.word t.ip t.segment

abbrev pub processed_by : {G : Type 0} → HostView G → Moment → StoredView → Processed
processed_by h m t = processed_at h.control_block m t

-- the answer, with its number by the socket's rules
abbrev pub reply_out : {G : Type 0} → HostView G → Moment → StoredView → Option Segment
reply_out h m t = reply_numbered (processed_by h m t).view (processed_by h m t).reply

-- a close that waited for the acknowledgement of the SYN may be done by a segment
abbrev pub closed_by_segment : State → State → Bool → Bool
closed_by_segment before after closed = closed_late (phase_of before) (phase_of after) closed

-- the counts grow by the bytes that left the transmit queue and joined the receive queue; a SYN without a timestamp
-- takes the source of timestamps away
abbrev pub delivered_to : {G : Type 0} → HostView G → Moment → StoredView → HostView G
delivered_to h m t =
    record h {
      control_block = (processed_by h m t).view;
      released = h.released +
          (length h.control_block.tx_buffer.bytes - length (processed_by h m t).view.tx_buffer.bytes);
      taken = h.taken + (length (processed_by h m t).view.rx_buffer.bytes - length h.control_block.rx_buffer.bytes);
      closed = closed_by_segment h.control_block.state (processed_by h m t).view.state h.closed;
      source = source_kept (processed_by h m t).view.stamps h.source;
    }

abbrev pub reply_index : ℕ → Option (IpRepr × Segment) → Option ℕ
reply_index n r = option_map (λ _. n) r

abbrev pub IsUnchanged : {G : Type 0} → HostView G → List StoredView → HostView G → List StoredView → Type 0
IsUnchanged h ks h' ks' = (h' ≡ h) × (ks' ≡ ks)

-- the segment is processed, and the reply is stored with the counts after that
pub record IsProcessed {G : Type 0} (tells : G → ℕ → Type 0) (s : Side) (m : Moment) (t : StoredView) (o : Outcome)
    (h : HostView G) (ks : List StoredView) (h' : HostView G) (ks' : List StoredView) : Type 0 where
  pub reply : Option (IpRepr × Segment)
  pub is_reply : Answers (IsReplyStamp tells (delivered_to h m t).source
      (echoed (delivered_to h m t).control_block t.segment.timestamp)) t.ip (reply_out h m t) reply
  pub answer : o ≡ outcome.Delivered (reply_index (length ks) reply)
  pub host : h' ≡ delivered_to h m t
  pub stored : ks' ≡ ks ++ kept_at s reply (delivered_to h m t).released (delivered_to h m t).taken

-- the RST that answers a segment which the side refuses, unless that is an RST itself
abbrev pub refusal_reply : TcpControl → StoredView → Option (IpRepr × Segment)
refusal_reply control.Rst t = None
refusal_reply c t = Some (with_header t.ip (rst_segment t.segment))

abbrev pub refusal_of : StoredView → Option (IpRepr × Segment)
refusal_of t = refusal_reply t.segment.control t

-- the side stays as it was, and the reply is stored with its counts
pub record IsRefused {G : Type 0} (s : Side) (t : StoredView) (o : Outcome) (h : HostView G) (ks : List StoredView)
    (h' : HostView G) (ks' : List StoredView) : Type 0 where
  pub answer : o ≡ outcome.NotAccepted (reply_index (length ks) (refusal_of t))
  pub host : h' ≡ h
  pub stored : ks' ≡ ks ++ kept_at s (refusal_of t) h.released h.taken

abbrev pub DeliversIf : {G : Type 0} → (G → ℕ → Type 0) → Bool → Side → Moment → StoredView → Outcome → HostView G
    → List StoredView → HostView G → List StoredView → Type 0
DeliversIf tells true s m t o h ks h' ks' = IsProcessed tells s m t o h ks h' ks'
DeliversIf tells false s m t o h ks h' ks' = IsRefused s t o h ks h' ks'

-- what `accepts` answers decides
pub record DeliversYoung {G : Type 0} (tells : G → ℕ → Type 0) (s : Side) (m : Moment) (t : StoredView) (o : Outcome)
    (h : HostView G) (ks : List StoredView) (h' : HostView G) (ks' : List StoredView) : Type 0 where
  pub accepted : Bool
  pub says : IsTrue accepted ↔ Accepts h.control_block t.ip t.segment
  pub does : DeliversIf tells accepted s m t o h ks h' ks'

abbrev pub DeliversTo : {G : Type 0} → (G → ℕ → Type 0) → Bool → Side → Moment → StoredView → Outcome → HostView G
    → List StoredView → HostView G → List StoredView → Type 0
DeliversTo tells true s m t o h ks h' ks' = (o ≡ outcome.TooOld) × IsUnchanged h ks h' ks'
DeliversTo tells false s m t o h ks h' ks' = DeliversYoung tells s m t o h ks h' ks'

abbrev pub Delivers : {G : Type 0} → (G → ℕ → Type 0) → Option StoredView → Moment → PairView G → Outcome → PairView G
    → Type 0
Delivers tells None m p o q = (o ≡ outcome.NoSegment) × (q ≡ p)
Delivers tells (Some t) m p o q =
    OneSideAndSegments (other_side t.emitter) p q
    (DeliversTo tells (is_old (host_of t.emitter p) t) (other_side t.emitter) m t o)

-- ---- which events take memory

-- a delivery of a young segment that the side accepts, or that it refuses and that is no RST
abbrev pub TakesRoom : {G : Type 0} → Bool → HostView G → StoredView → Type 0
TakesRoom old h t =
    (old ≡ false) × (Accepts h.control_block t.ip t.segment ⊎ (t.segment.control ≡ control.Rst → ⊥))

abbrev pub DeliveryTakesMemory : {G : Type 0} → Option StoredView → PairView G → Type 0
DeliveryTakesMemory None p = ⊥
DeliveryTakesMemory (Some t) p = TakesRoom (is_old (host_of t.emitter p) t) (host_of (other_side t.emitter) p) t

-- a read that hands out a byte at least
abbrev pub ReadTakesMemory : {G : Type 0} → ℕ → HostView G → Type 0
ReadTakesMemory size h = 0 < min size (length h.control_block.rx_buffer.bytes)

-- the others are done, or refused by an outcome, without any
abbrev pub TakesMemory : {G : Type 0} → Event → PairView G → Type 0
TakesMemory (event.Listen s) p = ⊥
TakesMemory (event.Connect s m) p = ⊥
TakesMemory (event.SendSlice s bytes) p = is_over p.limit (length (host_of s p).accepted + length bytes.items) ≡ false
TakesMemory (event.Send s bytes size) p = is_over p.limit (length (host_of s p).accepted + length bytes.items) ≡ false
TakesMemory (event.RecvSlice s size) p = ReadTakesMemory size (host_of s p)
TakesMemory (event.Recv s size) p = ReadTakesMemory size (host_of s p)
TakesMemory (event.Close s) p = ⊥
TakesMemory (event.Abort s) p = ⊥
TakesMemory (event.Set s x) p = ⊥
TakesMemory (event.Dispatch s m fail) p = Unit {0}
TakesMemory (event.Deliver i m) p = DeliveryTakesMemory (slice_get p.segments i) p

-- ---- a step

-- What an event does to a pair, with its outcome, where its sources of timestamps tell this
abbrev pub EventStep : {G : Type 0} → (G → ℕ → Type 0) → Event → PairView G → Outcome → PairView G → Type 0
EventStep tells (event.Listen s) p o q = OneSide s p q (λ h k. OpensAs h.opening h (listening h) o k)
EventStep tells (event.Connect s m) p o q =
    OneSide s p q (λ h k. OpensAs h.opening h (connecting h m (host_of (other_side s) p).endpoint) o k)
EventStep tells (event.SendSlice s bytes) p o q = OneSide s p q (λ h k. Sends p.limit None bytes.items h o k)
EventStep tells (event.Send s bytes size) p o q = OneSide s p q (λ h k. Sends p.limit (Some size) bytes.items h o k)
EventStep tells (event.RecvSlice s size) p o q = OneSide s p q (λ h k. Receives false size h o k)
EventStep tells (event.Recv s size) p o q = OneSide s p q (λ h k. Receives true size h o k)
EventStep tells (event.Close s) p o q = OneSide s p q (λ h k. Closes h o k)
EventStep tells (event.Abort s) p o q = OneSide s p q (λ h k. Aborts h o k)
EventStep tells (event.Set s x) p o q = OneSide s p q (λ h k. Sets x h o k)
EventStep tells (event.Dispatch s m fail) p o q = OneSideAndSegments s p q (Dispatches tells s m fail o)
EventStep tells (event.Deliver i m) p o q = Delivers tells (slice_get p.segments i) m p o q
