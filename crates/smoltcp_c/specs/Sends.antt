-- What a dispatch of a datagram socket writes into a buffer.
use Rattle.std.specs.Prelude.{ℕ, ℤ, zero, pos, ◌≡◌, ◌≤◌, ◌&&◌, nat_le, Bool, true, List, ◌++◌, length, drop}
use Rattle.std.specs.Prelude.{Option, Some, None, Result, Ok, Err, cond, false, if◌then◌else◌}
use Rattle.net_base.specs.Packets.{Dequeues, skipped}
use Rattle.sock_dgram.specs.Addressed.{View, waiting}
use Rattle.sock_dgram.specs.Datagrams.{has_entry}
use Rattle.smoltcp_c.specs.Answers.{error_address, error_room}
use Rattle.smoltcp_c.specs.declared.wire.Full.{Full}
use Rattle.smoltcp_c.specs.declared.wire.Wire.{Wire}

-- a packet of n bytes was written to the beginning of the buffer
pub record IsPut (n : ℕ) (packet : List ℕ) (old new : Wire) : Type 0 where
  pub room : n ≤ length old.out.now
  pub short : n ≤ 65535
  pub len : new.len ≡ n
  pub bytes : new.out.now ≡ packet ++ drop n old.out.now
  pub moment : new.moment ≡ old.moment
  pub sourced : new.unsourced ≡ old.unsourced
  pub same_buffer : new.out.ghost_name ≡ old.out.ghost_name

-- it is written where it is one and fits; else nothing changes
abbrev pub Puts : Type 0 → ℕ → List ℕ → Wire → Result (Unit {0}) Full → Wire → Type 0
Puts IsPacket n packet old (Ok u) new = IsPut n packet old new
Puts IsPacket n packet old (Err e) new = (IsPacket → n ≤ length old.out.now → ⊥) × (new ≡ old)

-- of what goes out, of type O, how many bytes its packet has, and these
module _ {O : Type 0} (len : O → ℕ) (packet : O → List ℕ) where
  abbrev pub size_of : Option O → ℕ
  size_of None = 0
  size_of (Some o) = len o

  -- a buffer with the packet at its beginning
  abbrev pub written_over : Option O → List ℕ → List ℕ
  written_over None out = out
  written_over (Some o) out = packet o ++ drop (len o) out

  -- the buffer is long enough for it, and it has 65535 bytes at most
  abbrev pub has_room : Option O → List ℕ → Bool
  has_room None out = true
  has_room (Some o) out = nat_le (len o) 65535 && nat_le (len o) (length out)

  -- what is due is written where it fits
  pub record SendsInto (due : Option O) (out : List ℕ) (result : ℤ) (out' : List ℕ) : Type 0 where
    pub answer : result ≡ (if has_room due out then pos (size_of due) else error_room)
    pub written : out' ≡ (if has_room due out then written_over due out else out)

  -- a dispatch of a UDP or an ICMP socket, of which this is due: it is written where it fits. The first packet leaves
  -- the queue, but for where it does not fit: it stays first then
  pub record DispatchesInto {E M : Type 0} (due : Option O) (v : View E M) (out : List ℕ) (result : ℤ) (w : View E M)
      (out' : List ℕ) : Type 0 where
    pub sends : SendsInto due out result out'
    pub queue : waiting w ≡ cond (has_room due out) (drop 1 (waiting v)) (waiting v)
    pub sent : has_room due out ≡ true → Dequeues v.tx_buffer w.tx_buffer
    pub failed : has_room due out ≡ false → w.tx_buffer ≡ skipped v.tx_buffer
    pub same : w ≡ record v { tx_buffer = w.tx_buffer }

-- where a place of the queue was taken and nothing was written, the first packet left the queue all the same
abbrev pub told_unsent : Bool → ℤ → ℤ
told_unsent true (pos zero) = error_address
told_unsent waits n = n

-- a dispatch, and what it answers: 0 only where no place of the queue was taken
pub record DispatchesOrDrops {O E M : Type 0} (len : O → ℕ) (packet : O → List ℕ) (due : Option O) (v : View E M)
    (out : List ℕ) (result : ℤ) (w : View E M) (out' : List ℕ) : Type 0 where
  pub sent : ℤ
  pub dispatches : DispatchesInto len packet due v out sent w out'
  pub answer : result ≡ told_unsent (has_entry v.tx_buffer) sent
