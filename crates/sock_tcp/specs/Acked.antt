-- How much an acknowledgement covers.
use Rattle.std.specs.Prelude.{ℕ, ◌+◌, ◌-◌, length, Option, Some, None, Bool, false, ◌==◌, ◌&&◌, if◌then◌else◌}
use Rattle.control_wire.specs.Seq.{seq_sub}
use Rattle.control_wire.specs.declared.seq_number.TcpSeqNumber.{TcpSeqNumber}
use Rattle.control_wire.specs.declared.tcp.TcpControl.{TcpControl}
use Rattle.control_wire.specs.declared.tcp.TcpControl.TheVariants as control
use Rattle.sock_core.specs.Seq.{is_not_after}
use Rattle.sock_tcp.specs.View.{View}
use Rattle.sock_tcp.specs.Verdict.{fin_place}
use Rattle.sock_tcp.specs.declared.acked.Acked.{Acked}
use Rattle.sock_tcp.specs.declared.state.State.{State}
use Rattle.sock_tcp.specs.declared.state.State.TheVariants as state

-- 1 where a SYN of our own is unacknowledged
abbrev pub syn_place : State → ℕ
syn_place state.SynSent = 1
syn_place state.SynReceived = 1
syn_place _ = 0

-- of n places without the SYN's, the last is that of the own FIN, behind the transmit queue
abbrev pub is_fin_acked : State → ℕ → ℕ → Bool
is_fin_acked st queue n = (fin_place st == 1) && (n == queue + 1)

abbrev pub acked_places : State → TcpSeqNumber → TcpSeqNumber → ℕ → ℕ → Acked
acked_places st ack nxt queue n =
    record {
      len = if is_fin_acked st queue n then n - 1 else n;
      fin = is_fin_acked st queue n;
      all = is_not_after nxt ack;
    }

abbrev pub nothing_acked : Acked
nothing_acked = record { len = 0; fin = false; all = false }

-- with SND.UNA, SND.NXT and the length of the transmit queue; an RST acknowledges nothing
unfoldable pub acked_at : State → TcpControl → Option TcpSeqNumber → TcpSeqNumber → TcpSeqNumber → ℕ → Acked
acked_at st control.Rst ack una nxt queue = nothing_acked
acked_at st c None una nxt queue = nothing_acked
acked_at st c (Some ack) una nxt queue = acked_places st ack nxt queue (seq_sub ack una - syn_place st)

abbrev pub acked_of : View → TcpControl → Option TcpSeqNumber → Acked
acked_of v c ack = acked_at v.state c ack v.local_seq_no v.remote_last_seq (length v.tx_buffer.bytes)
