-- What contracts see of a socket whose packets have an address, which is a UDP or an ICMP socket: E is what it can be
-- bound to, and M the metadata of a packet.
use Rattle.std.specs.Prelude.{ℕ, ◌≡◌, List, drop, cond, Option, None, Some, Result, Ok, Err, is_ok, true}
use Rattle.std.specs.Prelude.{false}
use Rattle.net_base.specs.Packets.{Packets, packets, Dequeues, skipped}
use Rattle.sock_core.specs.Emission.{Emit, Emits}
use Rattle.sock_dgram.specs.Datagrams.{TakesBy}
use Rattle.sock_dgram.specs.declared.error.BindError.{BindError}

pub record View (E M : Type 0) : Type 0 where
  pub endpoint : E  -- what the socket is bound to
  pub rx_buffer : Packets M
  pub tx_buffer : Packets M
  pub hop_limit : Option ℕ

-- the hop limit where none is set (RFC 1122, section 3.2.1.7)
abbrev pub hops_of : Option ℕ → ℕ
hops_of None = 64
hops_of (Some n) = n

module _ {E M : Type 0} where
  -- a socket that is bound so, with the hop limit not set
  abbrev pub bound_to : E → Packets M → Packets M → View E M
  bound_to e rx tx = record { endpoint = e; rx_buffer = rx; tx_buffer = tx; hop_limit = None }

  abbrev pub with_rx : View E M → Packets M → View E M
  with_rx v p = record v { rx_buffer = p }

  abbrev pub with_tx : View E M → Packets M → View E M
  with_tx v p = record v { tx_buffer = p }

  -- the packets that came and were not read, and those that were not emitted yet, the oldest first
  abbrev pub received : View E M → List (M × List ℕ)
  received v = packets v.rx_buffer.entries

  abbrev pub waiting : View E M → List (M × List ℕ)
  waiting v = packets v.tx_buffer.entries

  -- a refusal changes nothing
  abbrev pub after_bind : Result (Unit {0}) BindError → View E M → E → View E M
  after_bind (Ok u) v e = record v { endpoint = e }
  after_bind (Err x) v e = v

  -- the first packet of the receive queue left, if there was one
  abbrev pub Takes : View E M → View E M → Type 0
  Takes = TakesBy (λ v. v.rx_buffer) with_rx

  -- a dispatch, where `outgoing` is what is emitted of a socket: at Ok the first packet leaves; at Err it stays first,
  -- and the next dispatch in the same context offers it again
  pub record Dispatches {F C S A O : Type 0} (outgoing : View E M → Option O) (meaning : S → O) (g : Emit F C S A)
      (f : F) (v : View E M) (c : C) (r : Result (Unit {0}) A) (c' : C) (w : View E M) : Type 0 where
    pub emits : Emits g meaning f (outgoing v) c r c'
    pub queue : waiting w ≡ cond (is_ok r) (drop 1 (waiting v)) (waiting v)
    pub sent : is_ok r ≡ true → Dequeues v.tx_buffer w.tx_buffer
    pub failed : is_ok r ≡ false → w.tx_buffer ≡ skipped v.tx_buffer
    pub again : is_ok r ≡ false → outgoing w ≡ outgoing v
    pub same : w ≡ record v { tx_buffer = w.tx_buffer }
