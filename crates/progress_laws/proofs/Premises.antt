-- The premises of the laws, each met by two sockets that are opened and take a few segments.
use Rattle.std.proofs.Common.{◌≡◌, ℕ, zero, suc, ◌<◌, ◌^◌, inl, inr, true, false, true≢false, refl, sym, subst, [], ◌∷◌, replicate, Option, Some, None, arith}
use Rattle.std.specs.Prelude.{pos}
use Rattle.std.proofs.lemmas.Option.{none-some, same_Some}
use Rattle.net_base.specs.Ring.{Ring}
use Rattle.net_base.specs.declared.time.Duration.{Duration}
use Rattle.net_base.specs.declared.time.Instant.{Instant}
use Rattle.ip_wire.specs.Checksum.{all_checksums}
use Rattle.ip_wire.specs.declared.address.IpAddress.{IpAddress}
use Rattle.ip_wire.specs.declared.address.IpAddress.TheVariants as address
use Rattle.ip_wire.specs.declared.checksum.Checksum.TheVariants as checksum
use Rattle.ip_wire.specs.declared.endpoint.IpEndpoint.{IpEndpoint}
use Rattle.ip_wire.specs.declared.endpoint.IpListenEndpoint.{IpListenEndpoint}
use Rattle.ip_wire.specs.declared.protocol.IpProtocol.TheVariants as protocol
use Rattle.ip_wire.specs.declared.repr.IpRepr.{IpRepr}
use Rattle.ip_wire.specs.declared.repr.IpRepr.TheVariants as header
use Rattle.control_wire.specs.Segment.{Segment, bare_segment}
use Rattle.control_wire.specs.Seq.{seq_of}
use Rattle.control_wire.specs.declared.seq_number.TcpSeqNumber.{TcpSeqNumber}
use Rattle.control_wire.specs.declared.tcp.TcpControl.{TcpControl}
use Rattle.control_wire.specs.declared.tcp.TcpControl.TheVariants as control
use Rattle.sock_core.specs.Facts.{Facts}
use Rattle.sock_core.specs.Places.{number_distance, number_is_before}
use Rattle.sock_core.specs.Received.{byte_at, cleared, receiving}
use Rattle.sock_core.specs.Seq.{is_before, later_of}
use Rattle.sock_tcp.specs.Acked.{acked_at}
use Rattle.sock_tcp.specs.Advance.{advanced, counted_control, fin_counted, options_taken, syn_answered}
use Rattle.sock_tcp.specs.Closing.{keep_alive_set}
use Rattle.sock_tcp.specs.Opening.{connected, renewed}
use Rattle.sock_tcp.specs.Process.{bytes_taken, processed_inside, processed_by}
use Rattle.progress_laws.specs.Smoltcp.{processed}
use Rattle.sock_tcp.specs.Queue.{queue_of}
use Rattle.sock_tcp.specs.Steps.{ack_counted, acknowledged, duplicate_counted, heard, released, timer_set, timestamp_taken, una_advanced, window_taken}
use Rattle.sock_tcp.specs.Verdict.{verdict_at}
use Rattle.sock_tcp.specs.View.{View, fresh}
use Rattle.sock_tcp.specs.Window.{cut_of, is_inside, receive_window}
use Rattle.sock_tcp.specs.declared.state.State.TheVariants as state
use Rattle.sock_tcp.specs.declared.tuple.Tuple.{Tuple}
use Rattle.tcp_laws.specs.Polling.{IsReached}
use Rattle.tcp_laws.specs.SocketRun.{Ends, IsNumbered, Process, Set, SetKeepAlive, after_segment, starting}
use Rattle.pair_core.specs.PairViews.{HostView, new_host}
use Rattle.progress_laws.specs.Agreement.{AgreeBothWays, ForKeepAlive, IsSpeaker, IsTaking}
use Rattle.progress_laws.specs.Delivery.{HasCounted, HearsOf}
use Rattle.progress_laws.specs.FromOpening.{AreOpened, IsCaller, IsUnopened, mirrored}
use Rattle.progress_laws.specs.Pairs.{BothCanComeOver, MaySpeak, MayTake}
use Rattle.progress_laws.specs.Premises.{PremisesCanBeMet, SomeAreShut}
use Rattle.progress_laws.specs.ShutWindows.{KnowsOne, TowardShut}
use Rattle.progress_laws.specs.BothWays.{BothInStep, Toward}
use Rattle.progress_laws.proofs.Begins.{step_reached}
use Rattle.progress_laws.proofs.Handshakes.{connected_reached, handshake_brings_in_step}
use Rattle.sock_tcp.specs.declared.rules.Rules.TheVariants as rules

-- ---- two sockets over 64 bytes each way, with keep-alives

abbrev interval : Duration
interval = record { micros = 15000000 }

abbrev now : Instant
now = record { micros = pos 0 }

abbrev ring : Ring ℕ
ring = record { queue = []; spare = replicate 64 0; until_end = 64 }

abbrev new : View
new = fresh (receiving ring) (queue_of ring)

abbrev start : View
start = keep_alive_set new (Some interval)

start_reached : IsReached start
start_reached = step_reached new start (starting new) (record { rx = ring; tx = ring; counts = starting new; rx_size = omega arith; tx_size = omega arith; run = Ends new (starting new) }) (Set (SetKeepAlive (Some interval) refl) refl)

-- ---- their endpoints, and contexts that have them

abbrev host : ℕ → IpAddress
host n = address.Ipv4 (record { 0 = 10 ∷ 0 ∷ 0 ∷ n ∷ [] })

abbrev end : ℕ → ℕ → IpEndpoint
end n port = record { addr = host n; port = port }

abbrev ends : Tuple
ends = record { local = end 1 49152; remote = end 2 80 }

abbrev context : Facts
context =
    record {
      now = pos 0;
      mtu = 1500;
      has_address = λ _. true;
      source = λ _. None;
      source_ipv4 = λ _. None;
      source_ipv6 = λ a. a;
      broadcast = λ _. false;
      checksums = all_checksums checksum.Both;
    }

abbrev from_end : IpEndpoint → IpListenEndpoint
from_end e = record { addr = Some e.addr; port = e.port }

-- ---- before they are opened

unopened : IsUnopened start
unfolding fresh
unopened = record { reached = start_reached; not_open = refl; no_timeout = refl; smoltcp = refl; interval = λ d e. subst (λ (q : Duration). 0 < q.micros) (same_Some interval d e) (omega arith); not_paused = refl; some = omega arith }

opened : AreOpened ends context context 1000 5000 start start (end 2 80) (from_end (end 1 49152)) (from_end (end 2 80))
unfolding fresh
opened = record { here = unopened; across = unopened; ends = refl; port = omega arith; has_local = refl; has_remote = refl; number_small = omega arith; word_small = omega arith }

calls : IsCaller ends 1000 start
unfolding fresh
calls = record { unopened = unopened; context = context; remote = end 2 80; local = from_end (end 1 49152); ends = refl; small = omega arith }

calls_back : IsCaller (mirrored ends) 5000 start
unfolding fresh
calls_back = record { unopened = unopened; context = context; remote = end 1 49152; local = from_end (end 2 80); ends = refl; small = omega arith }

-- ---- in step, from the law on the handshake

over_shut : (v w : View) → Toward v w → TowardShut v w
over_shut v w o = record { scale = o.scale; taken = o.taken; taken_within = o.taken_within; there = o.there; window = o.window; at_most = o.at_most }

are_shut : (d e : Option Duration) (t s : Tuple) (v w : View) → BothInStep d e t s v w → SomeAreShut
are_shut d e t s v w i = record {
  d = d;
  e = e;
  t = t;
  s = s;
  v = v;
  w = w;
  shut = record {
    sides = record {
      here = i.here;
      across = i.across;
      over = over_shut v w i.over;
      back = over_shut w v i.back;
      hears_here = KnowsOne i.over.some;
      hears_across = KnowsOne i.back.some;
    };
    in_reach = i.in_reach;
  };
}

-- ---- two sockets in ESTABLISHED, each of which connected and took a SYN|ACK of the other

abbrev packet : IpRepr
packet = header.Ipv4 (record { src_addr = record { 0 = 10 ∷ 0 ∷ 0 ∷ 2 ∷ [] }; dst_addr = record { 0 = 10 ∷ 0 ∷ 0 ∷ 1 ∷ [] }; next_header = protocol.Tcp; payload_len = 20; hop_limit = 64 })

abbrev segment : TcpControl → ℕ → ℕ → Segment
segment c number ack = record (bare_segment 80 49152) { control = c; seq_number = seq_of number; ack_number = Some (seq_of ack); window_len = 64 }

numbered : (c : TcpControl) (number ack : ℕ) → number < 2 ^ 32 → ack < 2 ^ 32 → IsNumbered (segment c number ack)
numbered c number ack small less = record { seq_number = small; ack_number = λ k e. subst (λ (q : TcpSeqNumber). q.0 < 2 ^ 32) (same_Some (seq_of ack) k e) less }

abbrev after_segment_of : View → TcpControl → ℕ → ℕ → View
after_segment_of v c number ack = (processed v now 0 packet (segment c number ack)).view

-- the one connected from 1000 and heard 5000, the other the other way round
abbrev here : View
here = after_segment_of (connected start ends 1000) control.Syn 5000 1001

abbrev across : View
across = after_segment_of (connected start (mirrored ends) 5000) control.Syn 1000 5001

-- and this one took a FIN behind that
abbrev counts : View
counts = after_segment_of here control.Fin 5001 1001

reached_by : (v : View) (c : TcpControl) (number ack : ℕ) → IsReached v → number < 2 ^ 32 → ack < 2 ^ 32 → (v.state ≡ state.Listen → ⊥) → IsReached (after_segment_of v c number ack)
reached_by v c number ack r small less not_listen = step_reached v (after_segment_of v c number ack) (after_segment r.counts v (after_segment_of v c number ack)) r (Process rules.Smoltcp now 0 packet (segment c number ack) (omega arith) (numbered c number ack small less) (omega arith) (λ l. absurd (not_listen l)) refl refl)

here_reached : IsReached here
unfolding connected renewed fresh
here_reached = reached_by (connected start ends 1000) control.Syn 5000 1001 (connected_reached ends context 1000 start (end 2 80) (from_end (end 1 49152)) start_reached (omega arith) refl) (omega arith) (omega arith) (λ e. absurd cc)

across_reached : IsReached across
unfolding connected renewed fresh
across_reached = reached_by (connected start (mirrored ends) 5000) control.Syn 1000 5001 (connected_reached (mirrored ends) context 5000 start (end 1 49152) (from_end (end 2 80)) start_reached (omega arith) refl) (omega arith) (omega arith) (λ e. absurd cc)

counts_reached : IsReached counts
unfolding connected renewed fresh processed_by verdict_at processed_inside advanced syn_answered options_taken acked_at heard window_taken released duplicate_counted ack_counted una_advanced acknowledged timestamp_taken timer_set bytes_taken later_of is_before number_is_before number_distance cleared
counts_reached = reached_by here control.Fin 5001 1001 here_reached (omega arith) (omega arith) (λ e. absurd cc)

-- ---- they agree

none_held : (n k b : ℕ) → byte_at (replicate n None) k ≡ Some b → ⊥
none_held zero k b e = none-some b e
none_held (suc n) zero b e = none-some b e
none_held (suc n) (suc k) b e = none_held n k b e

abbrev due : Instant
due = record { micros = pos 15000000 }

here_speaks : IsSpeaker interval ends here
unfolding connected renewed fresh processed_by verdict_at processed_inside advanced syn_answered options_taken acked_at heard window_taken released duplicate_counted ack_counted una_advanced acknowledged timestamp_taken timer_set bytes_taken later_of is_before number_is_before number_distance cleared
here_speaks = record { reached = here_reached; carries = refl; peer = refl; no_timeout = refl; smoltcp = refl; keep_alive = refl; waits = ForKeepAlive (Some due) refl (inr refl) }

across_speaks : IsSpeaker interval (mirrored ends) across
unfolding connected renewed fresh processed_by verdict_at processed_inside advanced syn_answered options_taken acked_at heard window_taken released duplicate_counted ack_counted una_advanced acknowledged timestamp_taken timer_set bytes_taken later_of is_before number_is_before number_distance cleared
across_speaks = record { reached = across_reached; carries = refl; peer = refl; no_timeout = refl; smoltcp = refl; keep_alive = refl; waits = ForKeepAlive (Some due) refl (inr refl) }

here_takes : IsTaking here
unfolding connected renewed fresh processed_by verdict_at processed_inside advanced syn_answered options_taken acked_at heard window_taken released duplicate_counted ack_counted una_advanced acknowledged timestamp_taken timer_set bytes_taken later_of is_before number_is_before number_distance cleared
here_takes = record { reached = here_reached; state = refl; smoltcp = refl; room = omega arith }

across_takes : IsTaking across
unfolding connected renewed fresh processed_by verdict_at processed_inside advanced syn_answered options_taken acked_at heard window_taken released duplicate_counted ack_counted una_advanced acknowledged timestamp_taken timer_set bytes_taken later_of is_before number_is_before number_distance cleared
across_takes = record { reached = across_reached; state = refl; smoltcp = refl; room = omega arith }

agree : AgreeBothWays interval interval ends (mirrored ends) here across 0 0
unfolding connected renewed fresh processed_by verdict_at processed_inside advanced syn_answered options_taken acked_at heard window_taken released duplicate_counted ack_counted una_advanced acknowledged timestamp_taken timer_set bytes_taken later_of is_before number_is_before number_distance cleared is_inside receive_window counted_control cut_of fin_counted
agree = record {
  over = record {
    speaker = here_speaks;
    taker = across_takes;
    taken_within = omega arith;
    there = refl;
    held = λ k b e. absurd (none_held 64 k b e);
    heard_within = omega arith;
    back = refl;
    in_reach = inl refl;
    last = λ e. absurd cc;
  };
  here = here_takes;
  across = across_speaks;
  heard_within = omega arith;
  held = λ k b e. absurd (none_held 64 k b e);
}

-- ---- as sides of a pair

abbrev side : View → IpEndpoint → HostView (Unit {0})
side v e = record (new_host v e None) { control_block = v }

here_may_speak : MaySpeak interval (side here ends.local)
unfolding connected renewed fresh processed_by verdict_at processed_inside advanced syn_answered options_taken acked_at heard window_taken released duplicate_counted ack_counted una_advanced acknowledged timestamp_taken timer_set bytes_taken later_of is_before number_is_before number_distance cleared
here_may_speak = record { carries = refl; closed = λ e. absurd (true≢false (sym e)); no_timeout = refl; smoltcp = refl; keep_alive = refl; waits = here_speaks.waits }

across_may_speak : MaySpeak interval (side across ends.remote)
unfolding connected renewed fresh processed_by verdict_at processed_inside advanced syn_answered options_taken acked_at heard window_taken released duplicate_counted ack_counted una_advanced acknowledged timestamp_taken timer_set bytes_taken later_of is_before number_is_before number_distance cleared
across_may_speak = record { carries = refl; closed = λ e. absurd (true≢false (sym e)); no_timeout = refl; smoltcp = refl; keep_alive = refl; waits = across_speaks.waits }

here_may_take : MayTake (side here ends.local)
unfolding connected renewed fresh processed_by verdict_at processed_inside advanced syn_answered options_taken acked_at heard window_taken released duplicate_counted ack_counted una_advanced acknowledged timestamp_taken timer_set bytes_taken later_of is_before number_is_before number_distance cleared
here_may_take = record { receives = refl; smoltcp = refl; types = record { receive = omega arith; transmit = omega arith; fin = refl }; place = omega arith }

across_may_take : MayTake (side across ends.remote)
unfolding connected renewed fresh processed_by verdict_at processed_inside advanced syn_answered options_taken acked_at heard window_taken released duplicate_counted ack_counted una_advanced acknowledged timestamp_taken timer_set bytes_taken later_of is_before number_is_before number_distance cleared
across_may_take = record { receives = refl; smoltcp = refl; types = record { receive = omega arith; transmit = omega arith; fin = refl }; place = omega arith }

over : BothCanComeOver interval interval (side here ends.local) (side across ends.remote)
unfolding connected renewed fresh processed_by verdict_at processed_inside advanced syn_answered options_taken acked_at heard window_taken released duplicate_counted ack_counted una_advanced acknowledged timestamp_taken timer_set bytes_taken later_of is_before number_is_before number_distance cleared
over = record {
  over = record { speaks = here_may_speak; takes = across_may_take; in_reach = agree.over.in_reach; last = λ e. absurd cc };
  speaks_back = across_may_speak;
  takes_back = here_may_take;
}

-- ---- what one hears of the other

hears_of : HearsOf here across 0
unfolding connected renewed fresh processed_by verdict_at processed_inside advanced syn_answered options_taken acked_at heard window_taken released duplicate_counted ack_counted una_advanced acknowledged timestamp_taken timer_set bytes_taken later_of is_before number_is_before number_distance cleared
hears_of = record { reached = across_reached; receives = refl; smoltcp = refl; room = omega arith; taken_within = omega arith; there = refl; heard = 0; heard_within = omega arith; back = refl }

has_counted : HasCounted across counts
unfolding connected renewed fresh processed_by verdict_at processed_inside advanced syn_answered options_taken acked_at heard window_taken released duplicate_counted ack_counted una_advanced acknowledged timestamp_taken timer_set bytes_taken later_of is_before number_is_before number_distance cleared is_inside receive_window counted_control cut_of fin_counted
has_counted = record { reached = counts_reached; state = refl; there = refl; heard = 0; heard_within = omega arith; back = refl }

-- ---- the law

shut : SomeAreShut
shut =
    let new = (handshake_brings_in_step ends context context now 1000 5000 start start (end 2 80) (from_end (end 1 49152)) (from_end (end 2 80)) opened).new in
    are_shut (Some interval) (Some interval) ends new.peer _ _ new.in_step

pub premises_can_be_met : PremisesCanBeMet
premises_can_be_met = record {
  opened = record { t = ends; f = context; g = context; number = 1000; word = 5000; a = start; b = start; remote = end 2 80; local = from_end (end 1 49152); e = from_end (end 2 80); opened = opened };
  callers = record { t = ends; number = 1000; word = 5000; a = start; b = start; here = calls; across = calls_back };
  hears = record { v = here; w = across; n = 0; hears = hears_of; u = across; z = counts; counted = has_counted };
  shut = shut;
  come_over = record { d = interval; e = interval; t = ends; s = mirrored ends; here = side here ends.local; across = side across ends.remote; taken = 0; heard = 0; agree = agree; over = over };
}
