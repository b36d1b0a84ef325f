-- A connection hears a segment, and what it answers is written as a packet.
use Rattle.std.specs.Prelude.{ℕ, ◌≡◌, List, [], Option, option_map}
use Rattle.std.specs.Option.{ForSome}
use Rattle.ip_wire.specs.declared.repr.IpRepr.{IpRepr}
use Rattle.control_wire.specs.Fits.{FitsPacket}
use Rattle.control_wire.specs.Segment.{Segment}
use Rattle.control_wire.specs.declared.tcp.TcpControl.{TcpControl}
use Rattle.control_wire.specs.declared.tcp.TcpRepr.{TcpRepr}
use Rattle.control_wire.specs.declared.tcp.TcpTimestampRepr.{TcpTimestampRepr}
use Rattle.sock_core.specs.Facts.{Facts}
use Rattle.sock_tcp.specs.Process.{Outcome, reply_of}
use Rattle.sock_tcp.specs.Replies.{Answers}
use Rattle.sock_tcp.specs.Rfc.Numbers.{reply_numbered}
use Rattle.sock_tcp.specs.View.{View, moment_of}
use Rattle.net_host.specs.Segments.{Hears, SendsWithin, as_is, no_more}
use Rattle.net_host.specs.Wire.{reply_len, with_reply}
use Rattle.net_host.specs.declared.limit.Limit.{Limit}
use Rattle.net_host.specs.declared.slot.Slot.{Slot}

-- what goes out of what an outcome answers, with the view that it leaves, as a packet at the beginning of a buffer
pub record PutsAnswer (stamped : TcpControl → Option TcpTimestampRepr → Type 0) (f : Facts) (l : Limit) (ip : IpRepr)
    (o : Outcome) (w : View) (out : List ℕ) (n : ℕ) (l' : Limit) (out' : List ℕ) : Type 0 where
  pub reply : Option (IpRepr × TcpRepr)
  pub view : w ≡ o.view
  pub answer : Answers stamped ip (reply_numbered w o.reply) (option_map reply_of reply)
  pub bare : ForSome reply (λ r. r.1.payload.now ≡ [])
  pub fits : ForSome (option_map reply_of reply) (λ r. FitsPacket r.0 r.1)
  pub sent : Option (IpRepr × TcpRepr)
  pub within : SendsWithin l (moment_of f) ip reply sent l'
  pub len : n ≡ reply_len (option_map reply_of sent)
  pub octets : out' ≡ with_reply f.checksums (option_map reply_of sent) out

module _ {C G : Type 0} (facts : C → Facts) (word_at : C → ℕ → ℕ) (tells : G → ℕ → Type 0) where
  -- the slot hears the segment, and what goes out of what its socket answers is a packet at the beginning of a buffer
  pub record HearsOut (before : Slot G) (cx : C) (l : Limit) (ip : IpRepr) (s : Segment) (out : List ℕ) (n : ℕ)
      (after : Slot G) (cx' : C) (l' : Limit) (out' : List ℕ) : Type 0 where
    pub reply : Option (IpRepr × TcpRepr)
    pub heard : Hears facts word_at tells as_is no_more before cx ip s reply after cx'
    pub sent : Option (IpRepr × TcpRepr)
    pub within : SendsWithin l (moment_of (facts cx)) ip reply sent l'
    pub len : n ≡ reply_len (option_map reply_of sent)
    pub octets : out' ≡ with_reply (facts cx).checksums (option_map reply_of sent) out
