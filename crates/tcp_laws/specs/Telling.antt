-- What a socket tells by SACK (RFC 2018): what it holds, and what came twice.
use Rattle.std.specs.Prelude.{ℕ, ◌≡◌, ◌+◌, ◌<◌, ◌≤◌, ◌⊎◌, List, [], ◌∷◌, length, Option, Some, None, is_some, true}
use Rattle.ip_wire.specs.declared.repr.IpRepr.{IpRepr}
use Rattle.net_base.specs.declared.time.Instant.{Instant}
use Rattle.control_wire.specs.Segment.{Segment}
use Rattle.control_wire.specs.Seq.{seq_add, seq_sub}
use Rattle.control_wire.specs.declared.seq_number.TcpSeqNumber.{TcpSeqNumber}
use Rattle.sock_core.specs.Facts.{Facts}
use Rattle.sock_core.specs.Received.{byte_at, room_of}
use Rattle.sock_core.specs.Streams.{fin_length}
use Rattle.sock_tcp.specs.Content.{Sending}
use Rattle.sock_tcp.specs.Process.{processed_by}
use Rattle.sock_tcp.specs.Rfc.Windows.{is_heeding}
use Rattle.sock_tcp.specs.View.{View}
use Rattle.sock_tcp.specs.Window.{next_ack}
use Rattle.sock_tcp.specs.declared.rules.Rules.{Rules}
use Rattle.sock_tcp.specs.declared.rules.Rules.TheVariants as rules
use Rattle.tcp_laws.specs.SocketRun.{Dispatched}

-- The numbers from r.0 on and before r.1 are those of bytes that are held, some behind RCV.NXT, which is nxt
pub record IsHeldRange (nxt : TcpSeqNumber) (held : List (Option ℕ)) (r : ℕ × ℕ) : Type 0 where
  pub start : ℕ
  pub len : ℕ
  pub some : 0 < len
  pub begins : r.0 ≡ (seq_add nxt start).0
  pub ends : r.1 ≡ (seq_add nxt (start + len)).0
  pub all : (k : ℕ) → k < len → is_some (byte_at held (start + k)) ≡ true

abbrev pub AllHeldIn : TcpSeqNumber → List (Option ℕ) → List (Option (ℕ × ℕ)) → Type 0
AllHeldIn nxt held [] = Unit {0}
AllHeldIn nxt held (None ∷ rs) = AllHeldIn nxt held rs
AllHeldIn nxt held (Some r ∷ rs) = IsHeldRange nxt held r × AllHeldIn nxt held rs

-- each of the ranges is one that the socket holds
abbrev pub AllHeld : View → List (Option (ℕ × ℕ)) → Type 0
AllHeld v rs = AllHeldIn (next_ack v) v.rx_buffer.held rs

-- ---- what came twice (RFC 2883, section 4)

-- n bytes from this number on lie before RCV.NXT, a receive buffer at most, and before the FIN that it counts
pub record HadCome (v : View) (number : TcpSeqNumber) (n : ℕ) : Type 0 where
  pub near : seq_sub (next_ack v) number ≤ room_of v.rx_buffer
  pub before : n + fin_length v.rx_fin_received ≤ seq_sub (next_ack v) number

-- The range r is that of the first bytes of the segment s, which the socket v had taken, or holds
pub record IsDuplicate (v : View) (s : Segment) (r : ℕ × ℕ) : Type 0 where
  pub len : ℕ
  pub some : 0 < len
  pub carried : len ≤ length s.payload
  pub begins : r.0 ≡ (seq_add s.seq_number 0).0
  pub ends : r.1 ≡ (seq_add s.seq_number len).0
  pub came : HadCome v s.seq_number len ⊎ IsHeldRange (next_ack v) v.rx_buffer.held r

-- The first range is that of bytes of the segment s which came before, when the socket was v, and its own SYN was
-- acknowledged; all others are of bytes that it holds now, as w
pub record TellsTwice (v : View) (s : Segment) (w : View) (rs : List (Option (ℕ × ℕ))) : Type 0 where
  pub first : ℕ × ℕ
  pub others : List (Option (ℕ × ℕ))
  pub are : rs ≡ Some first ∷ others
  pub heeds : is_heeding v.state ≡ true
  pub twice : IsDuplicate v s first
  pub held : AllHeld w others

-- by smoltcp's rules nothing else than what is held is told
abbrev pub TellsRanges : Rules → View → Segment → View → List (Option (ℕ × ℕ)) → Type 0
TellsRanges rules.Smoltcp v s w rs = AllHeld w rs
TellsRanges rules.Rfc v s w rs = AllHeld w rs ⊎ TellsTwice v s w rs

-- of a socket v that the segment s made w, and what it answered
abbrev pub TellsHeld : Rules → View → Segment → View → Option Segment → Type 0
TellsHeld r v s w None = Unit {0}
TellsHeld r v s w (Some x) = TellsRanges r v s w x.sack_ranges

-- whatever segment comes, the answer tells only what the socket holds then, and by the RFCs' rules first what came
-- twice
abbrev pub AnswersTellWhatIsHeld : Type 0
AnswersTellWhatIsHeld =
    (r : Rules) (v : View) (now : Instant) (word : ℕ) (ip : IpRepr) (s : Segment)
    → TellsHeld r v s (processed_by r v now word ip s).view (processed_by r v now word ip s).reply

-- and so does what a dispatch sends
abbrev pub DispatchesTellWhatIsHeld : Type 0
DispatchesTellWhatIsHeld =
    (v w : View) (f : Facts) (out : Sending)
    → Dispatched f v (Some out) w
    → AllHeld w out.segment.sack_ranges

-- which is nothing, by smoltcp's rules
abbrev pub DispatchesTellNothing : Type 0
DispatchesTellNothing =
    (v w : View) (f : Facts) (out : Sending)
    → v.rules ≡ rules.Smoltcp
    → Dispatched f v (Some out) w
    → out.segment.sack_ranges ≡ None ∷ None ∷ None ∷ []
