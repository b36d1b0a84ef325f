-- One socket's window, acknowledgements and contents in 32-bit numbers, as the case tables of a socket have them.
use Rattle.std.specs.Prelude.{ℕ, ◌≡◌, ◌+◌, ◌-◌, ◌%◌, ◌^◌, ◌<◌, ◌≤◌, ◌⊎◌, true, false, ◌&&◌, List, [], ◌++◌, length}
use Rattle.std.specs.Prelude.{slice_get, take, drop, if◌then◌else◌, nat_le, nat_lt}
use Rattle.std.specs.declared.option.Option.{Option}
use Rattle.std.specs.declared.option.Option.TheVariants.{Some, None}
use Rattle.sock_core.specs.Places.{number_distance, number_is_before, later_number, sooner_number}
use Rattle.sock_core.specs.Streams.{IsPrefix, fin_length}
use Rattle.pair_core.specs.StreamViews.{SynSent, SynReceived, Open, FinQueued, Silent, SocketView, StreamSegment}

-- ---- the receive window: l is its left edge RCV.NXT, r its right edge, win its size

-- the number after the segment's last byte
abbrev pub segment_end : StreamSegment → ℕ
segment_end g = (g.seq + length g.payload) % 2 ^ 32

-- the number of the first byte that is cut out of the segment, and how far past the left edge it lies
abbrev pub cut_from : ℕ → StreamSegment → ℕ
cut_from l g = later_number l g.seq

abbrev pub cut_offset : ℕ → StreamSegment → ℕ
cut_offset l g = number_distance (cut_from l g) l

-- the part of the payload between the edges
abbrev pub cut : ℕ → ℕ → StreamSegment → List ℕ
cut l r g = take (number_distance (sooner_number (segment_end g) r) (cut_from l g))
    (drop (number_distance (cut_from l g) g.seq) g.payload)

-- A segment of n bytes from the number s lies inside the window (RFC 9293, section 3.10.7.4)
abbrev pub IsInside : ℕ → ℕ → ℕ → ℕ → Type 0
IsInside l win s n =
    ((n ≡ 0) × (win ≡ 0) × (s ≡ l))
    ⊎ ((n ≡ 0) × (0 < win) × (number_is_before s l ≡ false) × (number_is_before s ((l + win) % 2 ^ 32) ≡ true))
    ⊎ ((0 < n) × (0 < win)
    × (((number_is_before s l ≡ false) × (number_is_before s ((l + win) % 2 ^ 32) ≡ true))
    ⊎ ((number_is_before l ((s + n) % 2 ^ 32) ≡ true)
    × (number_is_before ((l + win) % 2 ^ 32) ((s + n) % 2 ^ 32) ≡ false))))

-- what is held once bytes were written at the offset o from RCV.NXT
abbrev pub merged : (ℕ → Option ℕ) → ℕ → List ℕ → ℕ → Option ℕ
merged held o bytes k = if nat_le o k && nat_lt k (o + length bytes) then slice_get bytes (k - o) else held k

-- the gapless run of held bytes from offset 0 joins the receive queue
pub record Gathers (v w : SocketView) (o : ℕ) (bytes : List ℕ) : Type 0 where
  pub more : List ℕ
  pub receive_queue : w.receive_queue ≡ v.receive_queue ++ more
  pub run : (k : ℕ) → k < length more → slice_get more k ≡ merged v.held o bytes k
  pub stops : merged v.held o bytes (length more) ≡ None
  pub held : (k : ℕ) → w.held k ≡ merged v.held o bytes (length more + k)

-- the bytes join the queue at once, and behind them what was held there
pub record JoinsWithHeld (v w : SocketView) (bytes : List ℕ) : Type 0 where
  pub then_held : List ℕ
  pub queue : w.receive_queue ≡ v.receive_queue ++ (bytes ++ then_held)
  pub were_held : (k : ℕ) → k < length then_held → slice_get then_held k ≡ v.held (length bytes + k)
  pub stops : v.held (length bytes + length then_held) ≡ None

-- A segment inside the window is taken: its cut is written at its offset and the run from offset 0 joins, or nothing
-- changes, where the cut is empty or out of order and refused. A FIN counts only where the segment is in order and ends
-- within the window
pub record TakesPayload (v w : SocketView) (g : StreamSegment) (win : ℕ) : Type 0 where
  pub rcv_nxt_small : v.rcv_nxt < 2 ^ 32
  pub seq_small : g.seq < 2 ^ 32
  pub win_small : win ≤ 2 ^ 30
  pub payload : length g.payload ≤ 65535
  pub inside : IsInside v.rcv_nxt win g.seq (length g.payload)
  pub joins :
      ((w.receive_queue ≡ v.receive_queue) × (w.held ≡ v.held)
      × ((cut v.rcv_nxt ((v.rcv_nxt + win) % 2 ^ 32) g ≡ []) ⊎ (0 < cut_offset v.rcv_nxt g)))
      ⊎ ((0 < length (cut v.rcv_nxt ((v.rcv_nxt + win) % 2 ^ 32) g))
      × Gathers v w (cut_offset v.rcv_nxt g) (cut v.rcv_nxt ((v.rcv_nxt + win) % 2 ^ 32) g))
  pub fin : w.fin_counted ≡ true
      → (v.fin_counted ≡ true)
      ⊎ ((g.fin ≡ true) × (number_is_before v.rcv_nxt g.seq ≡ false)
      × (number_is_before ((v.rcv_nxt + win) % 2 ^ 32) (segment_end g) ≡ false))
  pub kept : v.fin_counted ≡ true → w.fin_counted ≡ true
  pub fins : ℕ
  pub fin_counts : fin_length w.fin_counted ≡ fin_length v.fin_counted + fins
  pub rcv_nxt : w.rcv_nxt ≡ (v.rcv_nxt + (length w.receive_queue - length v.receive_queue) + fins) % 2 ^ 32

-- nothing comes
pub record GathersNothing (v w : SocketView) (bytes : List ℕ) : Type 0 where
  pub none : bytes ≡ []
  pub receive_queue : w.receive_queue ≡ v.receive_queue
  pub held : w.held ≡ v.held

-- A segment at RCV.NXT is taken whole
pub record TakesWhole (v w : SocketView) (g : StreamSegment) : Type 0 where
  pub in_order : g.seq ≡ v.rcv_nxt
  pub short : length g.payload ≤ 2 ^ 30
  pub joins : GathersNothing v w g.payload ⊎ Gathers v w 0 g.payload
  pub fin : w.fin_counted ≡ true → (v.fin_counted ≡ true) ⊎ (g.fin ≡ true)
  pub kept : v.fin_counted ≡ true → w.fin_counted ≡ true
  pub fins : ℕ
  pub fin_counts : fin_length w.fin_counted ≡ fin_length v.fin_counted + fins
  pub rcv_nxt : w.rcv_nxt ≡ (v.rcv_nxt + (length w.receive_queue - length v.receive_queue) + fins) % 2 ^ 32

-- ---- the sending half

-- what a socket with an initial sequence number keeps of its sending half
pub record HasSendingBounds (v : SocketView) : Type 0 where
  pub snd_una : v.snd_una < 2 ^ 32
  pub room : length v.transmit_queue ≤ 2 ^ 30
  pub flight : ℕ
  pub snd_nxt : v.snd_nxt ≡ (v.snd_una + flight) % 2 ^ 32
  pub flight_le : flight ≤ length v.transmit_queue + 1

-- An acknowledgement that the case tables let pass: it releases bytes, it acknowledges the SYN, or it acknowledges the
-- FIN
pub data AckPasses (v w : SocketView) (g : StreamSegment) : Type 0 where
  OfBytes : (a : ℕ)
      → g.ack ≡ Some a
      → a < 2 ^ 32
      → number_distance a v.snd_una ≤ length v.transmit_queue
      → w.phase ≡ v.phase
      → w.snd_una ≡ a
      → w.transmit_queue ≡ drop (number_distance a v.snd_una) v.transmit_queue
      → w.snd_nxt ≡ later_number v.snd_nxt a
      → AckPasses v w g
  OfSyn : (a : ℕ)
      → g.ack ≡ Some a
      → a ≡ (v.snd_una + 1) % 2 ^ 32
      → (v.phase ≡ SynSent) ⊎ (v.phase ≡ SynReceived)
      → w.phase ≡ Open
      → w.snd_una ≡ a
      → w.transmit_queue ≡ v.transmit_queue
      → (w.snd_nxt ≡ later_number v.snd_nxt a) ⊎ (w.snd_nxt ≡ a)
      → AckPasses v w g
  OfFin : (a : ℕ)
      → g.ack ≡ Some a
      → a < 2 ^ 32
      → number_distance a v.snd_una ≡ length v.transmit_queue + 1
      → v.phase ≡ FinQueued
      → w.phase ≡ Silent
      → w.snd_una ≡ a
      → w.transmit_queue ≡ []
      → w.snd_nxt ≡ later_number v.snd_nxt a
      → AckPasses v w g

-- What a successful dispatch sends, of a socket that is not CLOSED: a SYN at the initial number, the first of the
-- queue's bytes from offset o, with a FIN at their end while closing, or a keep-alive
pub data Content (v : SocketView) (g : StreamSegment) : Type 0 where
  Syn : g.fin ≡ false → g.seq ≡ v.snd_una → g.payload ≡ [] → Content v g
  Bytes : (o : ℕ)
      → g.seq ≡ (v.snd_una + o) % 2 ^ 32
      → o ≤ length v.transmit_queue + 1
      → IsPrefix g.payload (drop o v.transmit_queue)
      → (g.fin ≡ true → (v.phase ≡ FinQueued) × (o + length g.payload ≡ length v.transmit_queue))
      → Content v g
  KeepAlive : g.fin ≡ false → g.seq ≡ (v.snd_una + (2 ^ 32 - 1)) % 2 ^ 32 → length g.payload ≤ 1 → Content v g
