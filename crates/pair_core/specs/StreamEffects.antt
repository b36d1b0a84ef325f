-- What a segment may do to one socket, and what a segment of one socket may contain, in 32-bit numbers.
use Rattle.std.specs.Prelude.{ℕ, ◌≡◌, ◌+◌, ◌-◌, ◌%◌, ◌^◌, ◌<◌, ◌≤◌, ◌⊎◌, true, false, List, [], ◌++◌, length, drop}
use Rattle.std.specs.declared.option.Option.TheVariants.{Some}
use Rattle.sock_core.specs.Streams.{ByteAt, fin_length}
use Rattle.pair_core.specs.StreamViews.{SynSent, SynReceived, Open, FinQueued, Silent, SocketView, StreamSegment}
use Rattle.pair_core.specs.StreamViews.{HasIss, KnowsPeer}

-- ---- receiving

-- The byte k past RCV.NXT is b: it was held there, or the segment's payload has it at that number
abbrev pub Brings : SocketView → StreamSegment → ℕ → ℕ → Type 0
Brings v g k b = (v.held k ≡ Some b)
    ⊎ ((i : ℕ) × (k < 2 ^ 31) × ((g.seq + i) % 2 ^ 32 ≡ (v.rcv_nxt + k) % 2 ^ 32) × ByteAt g.payload i b)

-- What a segment may do to the receiving half: bytes join the queue's end, each at its number; others are held at
-- theirs; the FIN may be counted where the segment's end is reached; and RCV.NXT grows by what joined and by the FIN
pub record HearsData (v w : SocketView) (g : StreamSegment) : Type 0 where
  pub more : List ℕ  -- the bytes that join
  pub receive_queue : w.receive_queue ≡ v.receive_queue ++ more
  pub joined : (k b : ℕ) → ByteAt more k b → Brings v g k b
  pub held : (k b : ℕ) → w.held k ≡ Some b → Brings v g (length more + k) b
  pub fin : w.fin_counted ≡ true
      → (v.fin_counted ≡ true)
      ⊎ ((d : ℕ) × (g.fin ≡ true) × (d ≤ length more) × (d < 2 ^ 31)
      × ((g.seq + length g.payload) % 2 ^ 32 ≡ (v.rcv_nxt + d) % 2 ^ 32))
  pub kept : v.fin_counted ≡ true → w.fin_counted ≡ true
  pub fins : ℕ  -- 1 where this segment's FIN is counted, else 0
  pub fin_counts : fin_length w.fin_counted ≡ fin_length v.fin_counted + fins
  pub rcv_nxt : w.rcv_nxt ≡ (v.rcv_nxt + length more + fins) % 2 ^ 32

-- the receiving half stays
pub record SameReceiving (v w : SocketView) : Type 0 where
  pub rcv_nxt : w.rcv_nxt ≡ v.rcv_nxt
  pub receive_queue : w.receive_queue ≡ v.receive_queue
  pub held : w.held ≡ v.held
  pub fin : w.fin_counted ≡ v.fin_counted

-- the sending half stays
pub record SameSending (v w : SocketView) : Type 0 where
  pub phase : w.phase ≡ v.phase
  pub snd_una : w.snd_una ≡ v.snd_una
  pub snd_nxt : w.snd_nxt ≡ v.snd_nxt
  pub transmit_queue : w.transmit_queue ≡ v.transmit_queue

-- ---- acknowledgements

-- SND.NXT is at most one number, a FIN's or a SYN's, past the end of the transmit queue
pub record SndNxtWithin (w : SocketView) : Type 0 where
  pub flight : ℕ  -- how many numbers are in flight
  pub is : w.snd_nxt ≡ (w.snd_una + flight) % 2 ^ 32
  pub le : flight ≤ length w.transmit_queue + 1

-- its sending half stays, but for SND.NXT
pub record StaysSending (v w : SocketView) : Type 0 where
  pub phase : w.phase ≡ v.phase
  pub snd_una : w.snd_una ≡ v.snd_una
  pub transmit_queue : w.transmit_queue ≡ v.transmit_queue
  pub snd_nxt : SndNxtWithin w

-- What an acknowledgement may do to the sending half: release a beginning of the transmit queue, acknowledge the SYN,
-- or acknowledge the FIN and with it the whole queue
pub data HearsAck (v w : SocketView) (g : StreamSegment) : Type 0 where
  AcksBytes : (a n : ℕ)
      → g.ack ≡ Some a
      → n ≤ length v.transmit_queue
      → a ≡ (v.snd_una + n) % 2 ^ 32
      → w.phase ≡ v.phase
      → w.snd_una ≡ a
      → w.transmit_queue ≡ drop n v.transmit_queue
      → SndNxtWithin w
      → HearsAck v w g
  AcksSyn : (a : ℕ)
      → g.ack ≡ Some a
      → a ≡ (v.snd_una + 1) % 2 ^ 32
      → (v.phase ≡ SynSent) ⊎ (v.phase ≡ SynReceived)
      → w.phase ≡ Open
      → w.snd_una ≡ a
      → w.transmit_queue ≡ v.transmit_queue
      → SndNxtWithin w
      → HearsAck v w g
  AcksFin : (a : ℕ)
      → g.ack ≡ Some a
      → a ≡ (v.snd_una + length v.transmit_queue + 1) % 2 ^ 32
      → v.phase ≡ FinQueued
      → w.phase ≡ Silent
      → w.snd_una ≡ a
      → w.transmit_queue ≡ []
      → SndNxtWithin w
      → HearsAck v w g

-- ---- sending

-- A segment whose payload is a part of the transmit queue, which may be empty, at the number of that part. A FIN is
-- sent only while closing, at the queue's end
pub record SendsPayload (v : SocketView) (g : StreamSegment) : Type 0 where
  pub skip : ℕ  -- where the part begins in the queue
  pub seq : g.seq ≡ (v.snd_una + skip) % 2 ^ 32
  pub bytes : (i b : ℕ) → ByteAt g.payload i b → ByteAt v.transmit_queue (skip + i) b
  pub within : skip + length g.payload ≤ length v.transmit_queue + 1
  pub fin : g.fin ≡ true → (v.phase ≡ FinQueued) × (skip + length g.payload ≡ length v.transmit_queue)

-- A keep-alive: at most one byte, of any value, at the number before SND.UNA
pub record SendsKeepAlive (v : SocketView) (g : StreamSegment) : Type 0 where
  pub seq : g.seq ≡ (v.snd_una + (2 ^ 32 - 1)) % 2 ^ 32
  pub bytes : length g.payload ≤ 1
  pub fin : g.fin ≡ false

-- the only acknowledgement that a segment carries is RCV.NXT, once the peer's SYN has come
pub record AcksRcvNxt (v : SocketView) (g : StreamSegment) : Type 0 where
  pub says : (a : ℕ) → g.ack ≡ Some a → KnowsPeer v.phase × (a ≡ v.rcv_nxt)

-- A segment of a socket that is no RST: a part of the transmit queue or none, or a keep-alive; a SYN only at the
-- initial number, before it is acknowledged
pub record MaySend (v : SocketView) (g : StreamSegment) : Type 0 where
  pub plain : g.rst ≡ false
  pub iss : HasIss v.phase
  pub content : SendsPayload v g ⊎ SendsKeepAlive v g
  pub acks : AcksRcvNxt v g
  pub opens : g.syn ≡ true → ((v.phase ≡ SynSent) ⊎ (v.phase ≡ SynReceived)) × (g.seq ≡ v.snd_una)
