-- What whole calls may do to one socket: the laws of a socket's case tables say that they do no more than this.
use Rattle.std.specs.Prelude.{ℕ, ◌≡◌, ◌+◌, ◌%◌, ◌^◌, ◌<◌, ◌⊎◌, Bool, true, false, []}
use Rattle.std.specs.declared.option.Option.{Option}
use Rattle.std.specs.declared.option.Option.TheVariants.{Some, None}
use Rattle.pair_core.specs.StreamViews.{Listening, SynSent, SynReceived, Open, FinQueued, Dead, SocketView}
use Rattle.pair_core.specs.StreamViews.{StreamSegment}
use Rattle.pair_core.specs.StreamViews.{HasIss, KnowsPeer, IsSynchronized}
use Rattle.pair_core.specs.StreamEffects.{HearsData, HearsAck, SndNxtWithin, MaySend, StaysSending}

-- ---- the end of a connection

-- It is CLOSED. The receive queue stays or is emptied, and a counted FIN is kept only with the queue
pub record Ends (v w : SocketView) : Type 0 where
  pub phase : w.phase ≡ Dead
  pub receive_queue : (w.receive_queue ≡ v.receive_queue) ⊎ (w.receive_queue ≡ [])
  pub fin : w.fin_counted ≡ true → (v.fin_counted ≡ true) × (w.receive_queue ≡ v.receive_queue)

-- it is CLOSED, with both queues as they were
pub record EndsWithQueues (v w : SocketView) : Type 0 where
  pub phase : w.phase ≡ Dead
  pub transmit_queue : w.transmit_queue ≡ v.transmit_queue
  pub receive_queue : w.receive_queue ≡ v.receive_queue
  pub fin : w.fin_counted ≡ true → v.fin_counted ≡ true

-- a close that waited for the acknowledgement of the SYN is done
pub record ClosesLate (v w : SocketView) : Type 0 where
  pub phase : v.phase ≡ Open
  pub is : w ≡ record v { phase = FinQueued }

-- ---- process

-- what a socket may do when it hears the segment g, where it was opened by listen or not
pub data HearEffect (listener : Bool) (v w : SocketView) (g : StreamSegment) : Type 0 where
  -- the segment is dropped
  Nothing : w ≡ v → HearEffect listener v w g
  -- its data is heard, and its acknowledgement is ignored
  Data :
      g.rst ≡ false → IsSynchronized v.phase
      → HearsData v w g
      → StaysSending v w
      → HearEffect listener v w g
  -- its data and its acknowledgement are heard, in a state that knows the peer's number
  Acknowledgement :
      g.rst ≡ false → KnowsPeer v.phase
      → HearsData v w g
      → HearsAck v w g
      → IsSynchronized w.phase
      → HearEffect listener v w g
  -- an RST sends a listener from SYN-RECEIVED back to LISTEN
  FallBack :
      g.rst ≡ true → v.phase ≡ SynReceived
      → listener ≡ true
      → w ≡ record v { phase = Listening }
      → HearEffect listener v w g
  -- a SYN comes in LISTEN, and the initial sequence number iss is chosen, anew after each fall-back
  Syn : (iss : ℕ)
      → iss < 2 ^ 32
      → g.rst ≡ false → g.syn ≡ true → v.phase ≡ Listening
      → w ≡ record v { phase = SynReceived; snd_una = iss; snd_nxt = iss; rcv_nxt = (g.seq + 1) % 2 ^ 32 }
      → HearEffect listener v w g
  -- a SYN comes in SYN-SENT that acknowledges nothing: both sides connect at once
  SynAlone : (n : ℕ)
      → SndNxtWithin (record v { snd_nxt = n })
      → g.rst ≡ false → g.syn ≡ true → v.phase ≡ SynSent
      → w ≡ record v { phase = SynReceived; snd_nxt = n; rcv_nxt = (g.seq + 1) % 2 ^ 32 }
      → HearEffect listener v w g
  -- a SYN comes in SYN-SENT that acknowledges the own one
  SynAck :
      g.rst ≡ false → g.syn ≡ true → v.phase ≡ SynSent
      → HearsAck v w g
      → w.phase ≡ Open
      → w.rcv_nxt ≡ (g.seq + 1) % 2 ^ 32
      → w.receive_queue ≡ v.receive_queue
      → w.held ≡ v.held
      → w.fin_counted ≡ v.fin_counted
      → HearEffect listener v w g

-- what may be answered to the segment g, once the socket is as v shows
pub data ReplyEffect (v : SocketView) (g answer : StreamSegment) : Type 0 where
  -- an acknowledgement, a challenge too
  Segment : MaySend v answer → ReplyEffect v g answer
  -- an RST, to an acknowledgement of something other than the SYN
  ResetReply : (a : ℕ)
      → answer.rst ≡ true
      → g.rst ≡ false
      → (v.phase ≡ SynSent) ⊎ (v.phase ≡ SynReceived)
      → g.ack ≡ Some a
      → (a ≡ (v.snd_una + 1) % 2 ^ 32 → ⊥)
      → ReplyEffect v g answer

abbrev pub Answers : SocketView → StreamSegment → Option StreamSegment → Type 0
Answers v g None = Unit {0}
Answers v g (Some answer) = ReplyEffect v g answer

-- What process may do with the segment g: the socket hears it, may answer it as it then is, and with that the
-- connection may be over: by an RST, or since the FIN is acknowledged in LAST-ACK; or a close that waited is done
pub record ProcessEffect (listener : Bool) (v w : SocketView) (g : StreamSegment)
    (answer : Option StreamSegment) : Type 0 where
  pub heard : SocketView
  pub hears : HearEffect listener v heard g
  pub answers : Answers heard g answer
  pub ends : (w ≡ heard) ⊎ EndsWithQueues heard w ⊎ ClosesLate heard w

-- ---- dispatch

-- What a dispatch may do before it emits and after that: nothing, SND.NXT moves forward by what was sent or back for a
-- retransmission, or the connection is over, by a timeout, for want of an address or with an RST
pub data DispatchEffect (v w : SocketView) : Type 0 where
  Same : w ≡ v → DispatchEffect v w
  MovesSndNxt : (n : ℕ) → (HasIss v.phase → SndNxtWithin (record v { snd_nxt = n })) → w ≡ record v { snd_nxt = n }
      → DispatchEffect v w
  IsOver : Ends v w → DispatchEffect v w

-- What a dispatch may emit, once the socket is as v shows: a segment, or an RST after an abort
pub data EmitEffect (v : SocketView) (g : StreamSegment) : Type 0 where
  EmitsSegment : MaySend v g → EmitEffect v g
  EmitsReset : g.rst ≡ true → v.phase ≡ Dead → EmitEffect v g
