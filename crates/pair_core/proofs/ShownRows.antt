-- What the rows of `process` share: its numbers, the phases that know the peer, and replies in another phase.
use Rattle.std.proofs.Common.{◌≡◌, ℕ, ◌+◌, ◌-◌, ◌%◌, ◌^◌, ◌≤◌, Bool, true, false, refl, arith, Option, inl, inr}
use Rattle.std.specs.Prelude.{if◌then◌else◌}
use Rattle.control_wire.specs.Segment.{Segment}
use Rattle.control_wire.specs.declared.seq_number.TcpSeqNumber.{TcpSeqNumber}
use Rattle.sock_core.specs.Seq.{is_before, later_of}
use Rattle.pair_core.specs.StreamEffects.{AcksBytes, AcksFin, AcksSyn, HearsAck, SndNxtWithin}
use Rattle.pair_core.specs.StreamViews as phase
use Rattle.pair_core.specs.StreamViews.{Phase, SocketView, StreamSegment, HasIss, KnowsPeer}
use Rattle.pair_core.proofs.ShownReplies.{IsAnswer}

-- RCV.NXT moves by what joins, and by a FIN
pub nxt_joins : (r m k f : ℕ) → m ≤ k → (r + k + f) % 2 ^ 32 ≡ ((r + m) % 2 ^ 32 + (k - m) + f) % 2 ^ 32
nxt_joins r m k f e = omega arith

-- without bytes it is behind the SYN
pub nxt_alone : (r k : ℕ) → k ≡ 0 → ((r + 1) % 2 ^ 32 + k) % 2 ^ 32 ≡ (r + 1) % 2 ^ 32
nxt_alone r k e = omega arith

-- the later of two equal numbers
pub later_same : (a b : TcpSeqNumber) → a.0 ≡ b.0 → (later_of a b).0 ≡ b.0
unfolding later_of
later_same a b e = go (is_before a b)
  where
    go : (t : Bool) → (if t then b else a).0 ≡ b.0
    go true = refl
    go false = e

pub nxt_past_fin : (r m : ℕ) → ((r + 1) % 2 ^ 32 + m) % 2 ^ 32 ≡ (r + m + 1) % 2 ^ 32
nxt_past_fin r m = omega arith

pub knows_iss : (p : Phase) → KnowsPeer p → HasIss p
knows_iss phase.SynReceived k = tt
knows_iss phase.Open k = tt
knows_iss phase.FinQueued k = tt
knows_iss phase.Silent k = tt
knows_iss phase.Unopened k = absurd k
knows_iss phase.Listening k = absurd k
knows_iss phase.SynSent k = absurd k
knows_iss phase.Dead k = absurd k

-- SND.NXT is within its bounds once an acknowledgement is heard
pub heard_within : (v w : SocketView) (g : StreamSegment) → HearsAck v w g → SndNxtWithin w
heard_within v w g (AcksBytes a n ack le is ph una queue nxt) = nxt
heard_within v w g (AcksSyn a ack is from ph una queue nxt) = nxt
heard_within v w g (AcksFin a ack is from ph una queue nxt) = nxt

-- the same reply, in another phase
pub answer_in : (s : Segment) (z : SocketView) (p : Phase) (r : Option Segment) → IsAnswer s z r → IsAnswer s (record z { phase = p }) r
answer_in s z p r (inl e) = inl e
answer_in s z p r (inr h) = inr (h.0, h.1, record { seq = h.2.seq; nxt = h.2.nxt })
