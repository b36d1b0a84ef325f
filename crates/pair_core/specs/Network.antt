-- Two endpoints and every segment that they ever emitted, and what one call on one endpoint may do.
use Rattle.std.specs.Prelude.{ℕ, ◌≡◌, ◌+◌, ◌-◌, ◌^◌, ◌<◌, ◌≤◌, ◌⊎◌, Bool, true, false, List, [], ◌∷◌, ◌++◌, length}
use Rattle.std.specs.Prelude.{take, drop, not, ◌&&◌, if◌then◌else◌}
use Rattle.std.specs.List.{Contains}
use Rattle.std.specs.declared.option.Option.{Option}
use Rattle.std.specs.declared.option.Option.TheVariants.{Some, None}
use Rattle.pair_core.specs.StreamViews.{Unopened, Listening, SynSent, SynReceived, Open, FinQueued, Dead, SocketView}
use Rattle.pair_core.specs.StreamViews.{Phase, StreamSegment, HasNoIss, is_fin_queued}
use Rattle.pair_core.specs.StreamCalls.{Ends, HearEffect, ReplyEffect, DispatchEffect, EmitEffect}

-- one side: its socket, and what was counted of it since the start
pub record Endpoint : Type 0 where
  pub view : SocketView
  pub accepted : List ℕ  -- the bytes that its calls of send took, in order
  pub handed_out : List ℕ  -- the bytes that its calls of recv gave out, in order
  pub released : ℕ  -- how many bytes left its transmit queue by acknowledgement
  pub taken : ℕ  -- how many bytes joined its receive queue
  pub closed : Bool  -- a close was done in ESTABLISHED or CLOSE-WAIT
  pub listener : Bool  -- it was opened by listen, and not by connect

-- Local is the side that acts, remote the other. Of the segments each side ever emitted none is forgotten and any may
-- arrive at any time, so loss, delay, repetition and reordering are all there. The limit, where there is one, bounds
-- the length of each stream
pub record Network : Type 0 where
  pub local : Endpoint
  pub remote : Endpoint
  pub local_segments : List StreamSegment
  pub remote_segments : List StreamSegment
  pub limit : Option ℕ

-- the same network, as the other side sees it
abbrev pub swapped : Network → Network
swapped w =
    record w {
      local = w.remote;
      remote = w.local;
      local_segments = w.remote_segments;
      remote_segments = w.local_segments;
    }

abbrev pub with_local : Network → Endpoint → Network
with_local w e = record w { local = e }

abbrev pub with_view : Endpoint → SocketView → Endpoint
with_view e v = record e { view = v }

-- one more segment of the local side
abbrev pub emitted : Network → StreamSegment → Network
emitted w g = record w { local_segments = w.local_segments ++ g ∷ [] }

-- what each call and each event leaves of the endpoint
abbrev pub listened : Endpoint → Endpoint
listened e = record e { view = record e.view { phase = Listening }; listener = true }

abbrev pub connected : Endpoint → ℕ → Endpoint
connected e iss = record e { view = record e.view { phase = SynSent; snd_una = iss; snd_nxt = iss }; listener = false }

abbrev pub with_accepted : Endpoint → List ℕ → Endpoint
with_accepted e bytes =
    record e {
      view = record e.view { transmit_queue = e.view.transmit_queue ++ bytes };
      accepted = e.accepted ++ bytes;
    }

abbrev pub with_read : Endpoint → ℕ → Endpoint
with_read e n =
    record e {
      view = record e.view { receive_queue = drop n e.view.receive_queue };
      handed_out = e.handed_out ++ take n e.view.receive_queue;
    }

abbrev pub closed_after : Endpoint → Endpoint
closed_after e = record e { view = record e.view { phase = FinQueued }; closed = true }

-- a close before the SYN was acknowledged does not count as one that ends the stream
abbrev pub closed_unacknowledged : Endpoint → Endpoint
closed_unacknowledged e = with_view e (record e.view { phase = FinQueued })

-- a segment came, with what it released of the transmit queue and added to the receive queue
abbrev pub heard_by : Endpoint → SocketView → Endpoint
heard_by e v =
    record e {
      view = v;
      released = e.released + (length e.view.transmit_queue - length v.transmit_queue);
      taken = e.taken + (length v.receive_queue - length e.view.receive_queue);
    }

-- and a close that waited for the acknowledgement of the SYN may be done with it
abbrev pub closed_late : Phase → Phase → Bool → Bool
closed_late before after closed = if is_fin_queued after && not (is_fin_queued before) then true else closed

abbrev pub delivered_by : Endpoint → SocketView → Endpoint
delivered_by e v = record (heard_by e v) { closed = closed_late e.view.phase v.phase e.closed }

-- Since the segment went out neither count of its emitter grew by 2^29 or more. The counts are those of now
pub record IsYoung (g : StreamSegment) (released_now taken_now : ℕ) : Type 0 where
  pub released : released_now < g.released_at + 2 ^ 29
  pub taken : taken_now < g.taken_at + 2 ^ 29

-- Which segments may arrive: with a limit on the streams any, without one only young ones
abbrev pub MayArrive : Option ℕ → StreamSegment → Endpoint → Type 0
MayArrive None g emitter = IsYoung g emitter.released emitter.taken
MayArrive (Some limit) g emitter = Unit {0}

-- a stream within the limit
abbrev pub IsWithin : Option ℕ → List ℕ → Type 0
IsWithin None bytes = Unit {0}
IsWithin (Some limit) bytes = length bytes ≤ limit

-- An RST, any segment in LISTEN, and in SYN-SENT one without an acknowledgement: no number of theirs is compared with
-- one of the socket
abbrev pub IsOfAnyAge : SocketView → StreamSegment → Type 0
IsOfAnyAge v g = (g.rst ≡ true) ⊎ (v.phase ≡ Listening) ⊎ ((v.phase ≡ SynSent) × (g.ack ≡ None))

-- the segment g of the remote side arrives at the local one
pub record Arrives (w : Network) (g : StreamSegment) : Type 0 where
  pub sent : Contains w.remote_segments g
  pub may : IsOfAnyAge w.local.view g ⊎ MayArrive w.limit g w.remote

-- a read has nothing more to give: the queue is empty and the FIN counted, so the read answers Finished
pub record AnswersFinished (reader : Endpoint) : Type 0 where
  pub counted : reader.view.fin_counted ≡ true
  pub empty : reader.view.receive_queue ≡ []

-- the stamps on a segment that goes out
pub record IsStamped (e : Endpoint) (g : StreamSegment) : Type 0 where
  pub released : g.released_at ≤ e.released
  pub taken : g.taken_at ≤ e.taken

-- What one call on the local side may do to the network: the calls of the application, and the effects of a delivery
-- and of a dispatch. A call may be several steps; one that does nothing is none
pub data Step (old new : Network) : Type 0 where
  -- listen
  Listens : old.local.view.phase ≡ Unopened
      → new ≡ with_local old (listened old.local)
      → Step old new
  -- connect, with the initial sequence number iss
  Connects : (iss : ℕ) → iss < 2 ^ 32 → old.local.view.phase ≡ Unopened
      → new ≡ with_local old (connected old.local iss)
      → Step old new
  -- send takes bytes, in ESTABLISHED and CLOSE-WAIT alone
  Accepts : (bytes : List ℕ)
      → old.local.view.phase ≡ Open
      → length old.local.view.transmit_queue + length bytes ≤ 2 ^ 30
      → IsWithin old.limit (old.local.accepted ++ bytes)
      → new ≡ with_local old (with_accepted old.local bytes)
      → Step old new
  -- recv gives out the first n bytes of the queue, in any state
  HandsOut : (n : ℕ)
      → new ≡ with_local old (with_read old.local n)
      → Step old new
  -- recv answers Finished
  Finishes : AnswersFinished old.local → new ≡ old → Step old new
  -- close in ESTABLISHED or CLOSE-WAIT
  Closes : old.local.view.phase ≡ Open
      → new ≡ with_local old (closed_after old.local)
      → Step old new
  -- close in SYN-RECEIVED
  ClosesUnacknowledged : old.local.view.phase ≡ SynReceived
      → new ≡ with_local old (closed_unacknowledged old.local)
      → Step old new
  -- an abort, or a close before any SYN came; and where a delivery or a dispatch ends the connection
  Dies : (v : SocketView)
      → Ends old.local.view v
      → new ≡ with_local old (with_view old.local v)
      → Step old new
  -- a segment comes, and is heard
  Hears : (g : StreamSegment) (v : SocketView)
      → Arrives old g
      → HearEffect old.local.listener old.local.view v g
      → new ≡ with_local old (heard_by old.local v)
      → Step old new
  -- a segment that was heard is answered
  Replies : (g answer : StreamSegment)
      → Contains old.remote_segments g
      → (answer.rst ≡ false → IsStamped old.local answer)
      → ReplyEffect old.local.view g answer
      → new ≡ emitted old answer
      → Step old new
  -- a segment that the side does not accept, CLOSED or in LISTEN, is answered by an RST
  AnswersRefused : (g answer : StreamSegment)
      → Contains old.remote_segments g
      → g.rst ≡ false
      → HasNoIss old.local.view.phase ⊎ (old.local.view.phase ≡ Dead)
      → answer.rst ≡ true
      → new ≡ emitted old answer
      → Step old new
  -- a dispatch, before it emits and after that
  Dispatches : (v : SocketView)
      → DispatchEffect old.local.view v
      → new ≡ with_local old (with_view old.local v)
      → Step old new
  -- a segment goes out: data or none, an acknowledgement, a SYN, a FIN, a keep-alive, or an RST
  Emits : (g : StreamSegment)
      → (g.rst ≡ false → IsStamped old.local g)
      → EmitEffect old.local.view g
      → new ≡ emitted old g
      → Step old new
