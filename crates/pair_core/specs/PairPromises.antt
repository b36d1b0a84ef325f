-- What is promised of a pair.
use Rattle.std.specs.Prelude.{ℕ, ◌≡◌, ◌==◌, ◌≤◌, ◌<◌, true, false, List, ◌++◌, length, slice_get, Option, Some}
use Rattle.std.specs.List.{starts_with}
use Rattle.sock_core.specs.Received.{JoinsAtOnce}
use Rattle.sock_core.specs.Seq.{is_before}
use Rattle.sock_core.specs.Streams.{IsPrefix}
use Rattle.ip_wire.specs.declared.repr.IpRepr.{IpRepr}
use Rattle.net_base.specs.declared.time.Instant.{Instant}
use Rattle.control_wire.specs.Segment.{Segment}
use Rattle.sock_tcp.specs.Rfc.Windows.{windowed}
use Rattle.sock_tcp.specs.Arrival.{arrival}
use Rattle.sock_tcp.specs.Acked.{acked_of}
use Rattle.sock_tcp.specs.Advance.{Advance, advanced, counted_control}
use Rattle.sock_tcp.specs.Process.{has_window, tuple_of}
use Rattle.sock_tcp.specs.Rfc.Checks.{verdict_by}
use Rattle.sock_tcp.specs.View.{View}
use Rattle.sock_tcp.specs.Window.{next_ack, accepted_window, is_inside, cut_of, cut_bytes}
use Rattle.sock_tcp.specs.declared.advance.Next.TheVariants as next
use Rattle.sock_tcp.specs.declared.error.RecvError.TheVariants as recv_error
use Rattle.sock_tcp.specs.declared.verdict.Verdict.TheVariants as verdicts
use Rattle.pair_core.specs.PairViews.{HostView, StoredView, PairView, host_of}
use Rattle.pair_core.specs.Sides.{other_side}
use Rattle.pair_core.specs.declared.event.Event.{Event}
use Rattle.pair_core.specs.declared.event.Event.TheVariants as event
use Rattle.pair_core.specs.declared.moment.Moment.{Moment}
use Rattle.pair_core.specs.declared.side.Side.{Side}
use Rattle.pair_core.specs.declared.outcome.Outcome.{Outcome}
use Rattle.pair_core.specs.declared.outcome.Outcome.TheVariants as outcome

-- ---- Prefix

-- what a side handed out, followed by its receive queue
abbrev pub delivered : {G : Type 0} → HostView G → List ℕ
delivered h = h.handed_out ++ h.control_block.rx_buffer.bytes

-- that is a prefix of what the other side accepted
pub record Prefix {G : Type 0} (p : PairView G) : Type 0 where
  pub to_b : IsPrefix (delivered p.b) p.a.accepted
  pub to_a : IsPrefix (delivered p.a) p.b.accepted

-- The same in the words of slices: `accepted(A).starts_with(handed_out(B))`, and the other way
pub record Begins {G : Type 0} (p : PairView G) : Type 0 where
  pub of_a : starts_with ◌==◌ p.a.accepted p.b.handed_out ≡ true
  pub of_b : starts_with ◌==◌ p.b.accepted p.a.handed_out ≡ true

-- ---- Release

-- acknowledgements released only bytes that the receiver took, and it took only bytes that the sender accepted
pub record IsReleased {G : Type 0} (sender receiver : HostView G) : Type 0 where
  pub released : sender.released ≤ receiver.taken
  pub taken : receiver.taken ≤ length sender.accepted

pub record Release {G : Type 0} (p : PairView G) : Type 0 where
  pub of_a : IsReleased p.a p.b
  pub of_b : IsReleased p.b p.a

-- ---- Complete

-- a read of the one side that answers Finished found the other closed by its caller, and all its bytes handed out
pub record IsComplete {G : Type 0} (reader sender : HostView G) : Type 0 where
  pub closed : sender.closed ≡ true
  pub handed_out : reader.handed_out ≡ sender.accepted

abbrev pub CompleteAt : {G : Type 0} → Outcome → Side → PairView G → Type 0
CompleteAt (outcome.RecvRefused recv_error.Finished) s p = IsComplete (host_of s p) (host_of (other_side s) p)
CompleteAt _ s p = Unit {0}

abbrev pub CompleteRead : {G : Type 0} → Event → Outcome → PairView G → Type 0
CompleteRead (event.RecvSlice s size) o p = CompleteAt o s p
CompleteRead (event.Recv s size) o p = CompleteAt o s p
CompleteRead _ o p = Unit {0}

-- a side that was closed stays so, and accepts nothing more
pub record HasEnded {G : Type 0} (h k : HostView G) : Type 0 where
  pub closed : k.closed ≡ true
  pub accepted : k.accepted ≡ h.accepted

pub record Complete {G : Type 0} (e : Event) (p : PairView G) (o : Outcome) (q : PairView G) : Type 0 where
  pub read : CompleteRead e o q
  pub ended : (s : Side) → (host_of s p).closed ≡ true → HasEnded (host_of s p) (host_of s q)

-- ---- Prompt

-- the state table for a segment inside the window in which it is taken
abbrev pub table_for : View → Instant → ℕ → IpRepr → Segment → Advance
table_for v now word ip s =
    advanced (record v { local_rx_last_seq = Some s.seq_number })
    (counted_control s.control (accepted_window v.rules v) s.seq_number (length s.payload))
    (arrival now (tuple_of ip s) word s) (acked_of v s.control s.ack_number)

-- The segment s is in order for the socket v: the state has a receive window, the acknowledgement passes, the segment
-- lies inside the one in which the socket takes segments by its rules, the state table goes on with it, as it counts,
-- and it starts at RCV.NXT, the next number expected, or before it
pub record IsInOrder (v : View) (now : Instant) (word : ℕ) (ip : IpRepr) (s : Segment) : Type 0 where
  pub window : has_window v.state ≡ true
  pub passes : verdict_by v.rules v now s ≡ verdicts.Pass
  pub inside : is_inside (accepted_window v.rules v) s.seq_number (length s.payload) ≡ true
  pub goes_on : (table_for v now word ip (windowed v.rules v s)).next ≡ next.Continue
  pub starts : is_before (next_ack v) s.seq_number ≡ false

-- the bytes of the segment that lie in the window
abbrev pub in_window : View → Segment → List ℕ
in_window v s = cut_bytes (cut_of (accepted_window v.rules v) s.seq_number (length s.payload)) s.payload

-- a delivery of the segment t at the moment m found the receiver as old, and left it as new: the in-window bytes of
-- such a segment joined the receive queue, and behind them what was held there
pub record IsPrompt {G : Type 0} (m : Moment) (t : StoredView) (old new : HostView G) : Type 0 where
  pub queued : IsInOrder old.control_block (record { micros = m.now.micros }) m.word t.ip t.segment
      → 0 < length (in_window old.control_block t.segment)
      → JoinsAtOnce old.control_block.rx_buffer new.control_block.rx_buffer (in_window old.control_block t.segment)

-- so at each delivery of a pair that a side accepts
abbrev pub IsPromptAt : {G : Type 0} → ℕ → Moment → PairView G → Outcome → PairView G → Type 0
IsPromptAt i m p o q = (t : StoredView) (reply : Option ℕ) → slice_get p.segments i ≡ Some t
    → o ≡ outcome.Delivered reply → IsPrompt m t (host_of (other_side t.emitter) p) (host_of (other_side t.emitter) q)

abbrev pub Prompt : {G : Type 0} → Event → PairView G → Outcome → PairView G → Type 0
Prompt (event.Deliver i m) p o q = IsPromptAt i m p o q
Prompt (event.Listen s) p o q = Unit {0}
Prompt (event.Connect s m) p o q = Unit {0}
Prompt (event.SendSlice s bytes) p o q = Unit {0}
Prompt (event.Send s bytes size) p o q = Unit {0}
Prompt (event.RecvSlice s size) p o q = Unit {0}
Prompt (event.Recv s size) p o q = Unit {0}
Prompt (event.Close s) p o q = Unit {0}
Prompt (event.Abort s) p o q = Unit {0}
Prompt (event.Set s x) p o q = Unit {0}
Prompt (event.Dispatch s m fail) p o q = Unit {0}
