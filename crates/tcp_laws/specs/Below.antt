-- A duplicate acknowledgement whose SACK blocks begin before SND.UNA, as a D-SACK's do (RFC 2883), changes nothing of
-- what is done of a loss, but what it undoes.
use Rattle.std.specs.Prelude.{ℕ, ◌≡◌, ◌≤◌, ◌<◌, ◌^◌, length, List, [], ◌∷◌, Option, Some, None, true, false}
use Rattle.net_base.specs.declared.time.Instant.{Instant}
use Rattle.control_wire.specs.Segment.{Segment}
use Rattle.control_wire.specs.Seq.{seq_of}
use Rattle.control_wire.specs.declared.seq_number.TcpSeqNumber.{TcpSeqNumber}
use Rattle.sock_core.specs.Congestion.{with_remote_window}
use Rattle.sock_core.specs.Seq.{is_before}
use Rattle.sock_tcp.specs.Content.{carries_data}
use Rattle.sock_tcp.specs.Rfc.Recovery.{before_of, gone_on, is_undone, recovered, repeats_by, unless_twice}
use Rattle.sock_tcp.specs.View.{View}
use Rattle.sock_tcp.specs.declared.timer.Timer.TheVariants as timer

abbrev pub AllBefore : TcpSeqNumber → List (Option (ℕ × ℕ)) → Type 0
AllBefore una [] = Unit {0}
AllBefore una (None ∷ rs) = AllBefore una rs
AllBefore una (Some r ∷ rs) = (is_before (seq_of r.0) una ≡ true) × AllBefore una rs

-- The segment s came to v, and w is what it left so far: a duplicate of a peer that tells by SACK, none of whose blocks
-- begins behind SND.UNA, which undoes nothing
pub record IsOfBytesBelow (v : View) (s : Segment) (w : View) : Type 0 where
  pub repeats : repeats_by s.ack_number v s.control (length s.payload) ≡ true
  pub blocks : AllBefore v.local_seq_no s.sack_ranges
  pub permits : w.remote_has_sack ≡ true
  pub una : w.local_seq_no ≡ v.local_seq_no
  pub small : v.local_seq_no.0 < 2 ^ 32
  pub room : length v.tx_buffer.bytes ≤ 2 ^ 30
  pub carries : carries_data w.state ≡ true
  pub undoes : is_undone (before_of v s) w ≡ false

-- what it leaves in the end is x
pub record ChangesNoLoss (v : View) (s : Segment) (w x : View) : Type 0 where
  pub duplicates : x.local_rx_dup_acks ≡ v.local_rx_dup_acks
  pub controller : x.congestion_controller ≡ with_remote_window v.congestion_controller w.remote_win_len
  pub recovery : x.recovery ≡ gone_on (unless_twice v.recovery v s) v.local_seq_no
  pub told : x.sacked ≡ v.sacked
  pub marks : x.pending_fast_retransmit ≡ w.pending_fast_retransmit
  pub waits : x.reordering ≡ w.reordering
  pub timer : x.timer ≡ timer.FastRetransmit → v.timer ≡ timer.FastRetransmit

abbrev pub DuplicatesBelowChangeNoLoss : Type 0
DuplicatesBelowChangeNoLoss =
    (v w : View) (s : Segment) (now : Instant)
    → IsOfBytesBelow v s w
    → ChangesNoLoss v s w (recovered (before_of v s) w now)
