-- The path MTU: what becomes of a connection of which a router says that its packets are too long (RFC 1191, section
-- 6; RFC 8201, section 5).
use Rattle.std.specs.Prelude.{ℕ, ◌-◌, max, min, nat_lt, length, Option, Some, None, Bool, true, false, not}
use Rattle.std.specs.Prelude.{◌==◌, ◌&&◌, if◌then◌else◌}
use Rattle.control_wire.specs.Seq.{seq_sub}
use Rattle.control_wire.specs.declared.seq_number.TcpSeqNumber.{TcpSeqNumber}
use Rattle.ip_wire.specs.declared.address.IpAddress.{IpAddress}
use Rattle.ip_wire.specs.declared.address.IpAddress.TheVariants as address
use Rattle.net_base.specs.declared.time.Instant.{Instant}
use Rattle.sock_core.specs.Congestion.{with_mss}
use Rattle.sock_core.specs.Estimator.{retransmitted}
use Rattle.sock_tcp.specs.Content.{carries_data}
use Rattle.sock_tcp.specs.Due.{flight}
use Rattle.sock_tcp.specs.Rfc.Recovery.{sent_of, timed_out_by}
use Rattle.sock_tcp.specs.Rfc.Scoreboard.{nothing_told}
use Rattle.sock_tcp.specs.Rfc.Undo.{nothing_to_undo}
use Rattle.sock_tcp.specs.Timers.{retransmit_from}
use Rattle.sock_tcp.specs.View.{View}
use Rattle.sock_tcp.specs.declared.tuple.Tuple.{Tuple}

-- ---- sizes

-- the largest segment without options in a packet of so many octets, header and all: over IPv4 less than 576 counts as
-- that, over IPv6 less than 1280 (RFC 8201, section 4)
abbrev pub path_mss : IpAddress → ℕ → ℕ
path_mss (address.Ipv4 a) mtu = max mtu 576 - 40
path_mss (address.Ipv6 a) mtu = max mtu 1280 - 60

-- the MSS toward this peer, never more than before
abbrev pub mss_by_path : Option Tuple → ℕ → ℕ → ℕ
mss_by_path None mss mtu = mss
mss_by_path (Some t) mss mtu = min mss (path_mss t.remote.addr mtu)

-- ---- what was too long

-- the size in which segments go out gets less; congestion control knows it, and its window stays
unfoldable pub shortened : View → ℕ → View
shortened v mss =
    record v { remote_mss = mss; congestion_controller = with_mss v.congestion_controller (max mss 1) }

-- bytes are in flight
abbrev pub has_sent_bytes : View → Bool
has_sent_bytes v = carries_data v.state && (not (length v.tx_buffer.bytes == 0) && not (flight v == 0))

-- All behind SND.UNA goes out again, at once, as after a retransmission timeout (RFC 1191, section 6.5), but it is no
-- sign of congestion: the window, its threshold and the timeout stay as they are, and there is nothing to undo. The
-- timer runs anew, and no round trip is measured by what goes out twice (RFC 6298, sections 3 and 5)
unfoldable pub all_sent_again : View → Instant → View
all_sent_again v now =
    record v {
      remote_last_seq = v.local_seq_no;
      rtte = retransmitted v.rtte;
      timer = retransmit_from now (retransmitted v.rtte);
      recovery = timed_out_by v.rules v.recovery v.remote_last_seq;
      sacked = nothing_told;
      undo = nothing_to_undo;
    }

abbrev pub again_if : Bool → View → Instant → View
again_if true v now = all_sent_again v now
again_if false v now = v

-- what was in flight may have been too long
abbrev pub narrowed_if : Bool → View → Instant → ℕ → View
narrowed_if true v now mss = again_if (has_sent_bytes v) (shortened v mss) now
narrowed_if false v now mss = v

-- ---- the call: a path MTU that is not below what was known changes nothing

unfoldable pub path_mtu_set : View → Instant → ℕ → View
path_mtu_set v now mtu =
    narrowed_if (nat_lt (mss_by_path v.tuple v.remote_mss mtu) v.remote_mss) v now
    (mss_by_path v.tuple v.remote_mss mtu)

-- ---- whose packet it was

-- the number was sent, and is not acknowledged: from SND.UNA up to SND.MAX (RFC 5927, section 4.1)
unfoldable pub is_outstanding : View → TcpSeqNumber → Bool
is_outstanding v n = nat_lt (seq_sub n v.local_seq_no) (sent_of v)
