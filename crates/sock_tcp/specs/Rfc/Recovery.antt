-- What the RFCs' rules do of loss, once a segment was heard as by either rules: recovery by SACK (RFC 6675) and by
-- partial acknowledgements (RFC 6582), duplicates (RFC 5681, section 3.2; RFC 5827), and the retransmission timer (RFC
-- 6298, section 5).
use Rattle.std.specs.Prelude.{ℕ, nat_lt, nat_le, ◌+◌, ◌*◌, ◌^◌, length, max, min, Option, Some, None, is_some, Bool}
use Rattle.std.specs.Prelude.{true, false, not, List, slice_index_or}
use Rattle.std.specs.Prelude.{◌==◌, ◌&&◌, ◌||◌, if◌then◌else◌}
use Rattle.std.specs.Int.{div_ceil}
use Rattle.net_base.specs.declared.time.Duration.{Duration}
use Rattle.net_base.specs.declared.time.Instant.{Instant}
use Rattle.control_wire.specs.Segment.{Segment}
use Rattle.control_wire.specs.Seq.{seq_eq, seq_of, seq_sub}
use Rattle.control_wire.specs.declared.seq_number.TcpSeqNumber.{TcpSeqNumber}
use Rattle.control_wire.specs.declared.tcp.TcpControl.{TcpControl}
use Rattle.control_wire.specs.declared.tcp.TcpControl.TheVariants as control
use Rattle.sock_core.specs.Congestion.{bytes_acked, congestion_window, dup_acked, lost, opened, partially_acked}
use Rattle.sock_core.specs.Congestion.{recovery_window, undone, with_remote_window}
use Rattle.sock_core.specs.Estimator.{Estimator, begun_anew, is_backed_off, retransmitted}
use Rattle.sock_core.specs.Seq.{is_before, later_of}
use Rattle.sock_core.specs.declared.congestion.AnyController.{AnyController}
use Rattle.sock_tcp.specs.Content.{again_from, carries_data, hole_from}
use Rattle.sock_tcp.specs.Due.{flight, is_opening}
use Rattle.sock_tcp.specs.Inside.{Outcome}
use Rattle.sock_tcp.specs.Rfc.Scoreboard.{all_told, any_news, highest_told, hole_behind, is_blank, moved, nothing_told}
use Rattle.sock_tcp.specs.Rfc.Pipe.{has_room, told_before}
use Rattle.sock_tcp.specs.Rfc.RoundTrips.{echo_of, echo_taken}
use Rattle.sock_tcp.specs.Rfc.Reordering.{is_told, late_set, late_wait, one_more}
use Rattle.sock_tcp.specs.Rfc.SmallSegments.{larger}
use Rattle.sock_tcp.specs.Rfc.Undo.{counted_again, is_older, may_undo, nothing_to_undo}
use Rattle.sock_tcp.specs.Rfc.TailLoss.{is_alone, may_probe, sooner, tail_waits}
use Rattle.sock_tcp.specs.Steps.{is_duplicate, is_window_changed}
use Rattle.sock_tcp.specs.Timers.{idle_from, probe_from, retransmit_from}
use Rattle.sock_tcp.specs.View.{View}
use Rattle.sock_tcp.specs.Window.{has_window, honored_window, is_inside}
use Rattle.sock_tcp.specs.declared.recovery.Before.{Before}
use Rattle.sock_tcp.specs.declared.recovery.Recovery.{Recovery}
use Rattle.sock_tcp.specs.declared.recovery.Recovery.TheVariants as recovery
use Rattle.sock_tcp.specs.declared.rules.Rules.{Rules}
use Rattle.sock_tcp.specs.declared.rules.Rules.TheVariants as rules
use Rattle.sock_tcp.specs.declared.scoreboard.Scoreboard.{Scoreboard}
use Rattle.sock_tcp.specs.declared.state.State.{State}
use Rattle.sock_tcp.specs.declared.state.State.TheVariants as state
use Rattle.sock_tcp.specs.declared.timer.Timer.{Timer}
use Rattle.sock_tcp.specs.declared.timer.Timer.TheVariants as timer
use Rattle.sock_tcp.specs.declared.undo.Undo.{Undo}
pub use Rattle.sock_tcp.specs.Rfc.Reordering.{is_over, may_resend}

-- ---- what is kept of the socket as it was before the segment

-- neither a SYN, an RST nor a FIN
abbrev pub is_bare_control : TcpControl → Bool
is_bare_control control.None = true
is_bare_control control.Psh = true
is_bare_control _ = false

-- a duplicate acknowledgement, whatever its window (RFC 5681, section 2)
abbrev pub repeats_by : Option TcpSeqNumber → View → TcpControl → ℕ → Bool
repeats_by None v c n = false
repeats_by (Some ack) v c n = is_bare_control c && is_duplicate v ack n false

-- the highest number that was sent, and not before SND.NXT
abbrev pub highest_of : Recovery → TcpSeqNumber → TcpSeqNumber
highest_of recovery.Open nxt = nxt
highest_of (recovery.Probe start end again) nxt = nxt
highest_of (recovery.Fast point high_rxt resent_at acked trailed una_lost) nxt = later_of nxt point
highest_of (recovery.Timeout point) nxt = later_of nxt point

-- how many bytes behind SND.UNA were sent, whether SND.NXT went back or not
abbrev pub sent_of : View → ℕ
sent_of v = seq_sub (highest_of v.recovery v.remote_last_seq) v.local_seq_no

-- how many of them the peer may have: no more than are queued, and the FIN
abbrev pub tellable : View → ℕ
tellable v = min (sent_of v) (length v.tx_buffer.bytes + 1)

-- the peer said that it tells, and the segment lies in the window in which it is taken
abbrev pub may_tell : View → Segment → Bool
may_tell v s = v.remote_has_sack && is_inside (honored_window v) s.seq_number (length s.payload)

-- the segment has a block with something new
unfoldable pub is_telling : View → Segment → Bool
is_telling v s = any_news v.sacked (tellable v) v.local_seq_no s.sack_ranges && may_tell v s

abbrev pub sacked_by : Bool → View → Segment → Scoreboard
sacked_by false v s = v.sacked
sacked_by true v s = all_told v.sacked (tellable v) v.local_seq_no s.sack_ranges

-- ---- what the acknowledgement of a tail-loss probe says (RFC 8985, section 7.4.2)

-- a block that ends in the segment which went out again from start to end: where that is acknowledged, it came twice
-- (RFC 2883, section 4)
abbrev pub is_duplicate_of : TcpSeqNumber → TcpSeqNumber → ℕ × ℕ → Bool
is_duplicate_of start end r =
    is_before (seq_of r.0) (seq_of r.1) && (is_before start (seq_of r.1) && not (is_before end (seq_of r.1)))

-- the same acknowledgement with the same window, and nothing else
abbrev pub is_bare_repeat : View → Segment → TcpSeqNumber → Bool
is_bare_repeat v s ack =
    seq_eq ack v.local_seq_no
    && (is_bare_control s.control
    && ((length s.payload == 0) && not (is_window_changed v s.control s.window_len)))

-- by its first block, where it has one
abbrev pub tells_twice : Option (ℕ × ℕ) → View → Segment → TcpSeqNumber → TcpSeqNumber → TcpSeqNumber → Bool
tells_twice None v s ack start end = is_bare_repeat v s ack
tells_twice (Some r) v s ack start end = is_duplicate_of start end r

abbrev pub first_block : List (Option (ℕ × ℕ)) → Option (ℕ × ℕ)
first_block rs = slice_index_or rs 0 None

-- the end is acknowledged, by a segment in the window in which it is taken
abbrev pub came_twice : Option TcpSeqNumber → View → Segment → TcpSeqNumber → TcpSeqNumber → Bool
came_twice None v s start end = false
came_twice (Some ack) v s start end =
    not (is_before ack end)
    && (is_inside (honored_window v) s.seq_number (length s.payload)
    && tells_twice (first_block s.sack_ranges) v s ack start end)

-- a block of bytes that are acknowledged: so many came twice (RFC 2883, section 4)
abbrev pub twice_in : TcpSeqNumber → ℕ × ℕ → ℕ
twice_in ack r =
    if is_before (seq_of r.0) (seq_of r.1) && not (is_before ack (seq_of r.1)) then seq_sub (seq_of r.1) (seq_of r.0)
    else 0

abbrev pub is_told_twice : Option TcpSeqNumber → Option (ℕ × ℕ) → ℕ
is_told_twice (Some ack) (Some r) = twice_in ack r
is_told_twice ack r = 0

-- how many bytes came twice, as the first block of a segment tells that is taken in this window
abbrev pub twice_told : View → Segment → ℕ
twice_told v s = if may_tell v s then is_told_twice s.ack_number (first_block s.sack_ranges) else 0

-- what goes on of a loss, as the segment says: a segment that went out again as a probe, and came twice, was not lost
abbrev pub unless_twice : Recovery → View → Segment → Recovery
unless_twice (recovery.Probe start end again) v s =
    if again && came_twice s.ack_number v s start end then recovery.Open else recovery.Probe start end again
unless_twice r v s = r

unfoldable pub before_of : View → Segment → Before
before_of v s =
    record {
      state = v.state;
      timer = v.timer;
      una = v.local_seq_no;
      window = v.remote_win_len;
      duplicates = v.local_rx_dup_acks;
      recovery = unless_twice v.recovery v s;
      controller = v.congestion_controller;
      repeats = repeats_by s.ack_number v s.control (length s.payload);
      telling = is_telling v s;
      sacked = sacked_by (is_telling v s) v s;
      echo = echo_of s.timestamp;
      twice = twice_told v s;
    }

-- ---- duplicates

-- none, though smoltcp's rules count it or begin the count anew: of a peer that tells by SACK one that tells nothing
-- new (RFC 6675, section 2), of another one a larger window (RFC 5681, section 2)
abbrev pub is_void : Before → View → Bool
is_void b w = b.repeats && (not b.telling && (w.remote_has_sack || nat_lt b.window w.remote_win_len))

abbrev pub is_fast : Timer → Bool
is_fast timer.FastRetransmit = true
is_fast _ = false

-- SND.UNA has moved
abbrev pub is_news : Before → View → Bool
is_news b w = not (seq_eq b.una w.local_seq_no)

-- one that tells something new by SACK is a duplicate with any window and payload (RFC 6675, section 2), though
-- smoltcp's rules count none
abbrev pub is_uncounted : Before → View → Bool
is_uncounted b w = b.telling && (not (is_news b w) && not (b.repeats && (b.window == w.remote_win_len)))

-- smoltcp's rules call for a fast retransmission
abbrev pub is_called : Before → View → Bool
is_called b w = is_fast w.timer && not (is_fast b.timer)

-- how many segments are out
abbrev pub segments_out : View → ℕ
segments_out w = div_ceil (flight w) (max w.remote_mss 1)

-- it was counted as one by smoltcp's rules, and is one
abbrev pub is_counted : Before → View → Bool
is_counted b w =
    b.repeats
    && ((b.window == w.remote_win_len) && (nat_lt b.duplicates w.local_rx_dup_acks && not (is_void b w)))

-- one duplicate less than the segments that are out, where these are fewer than four and all that is queued was sent
-- (RFC 5827, section 3.1)
abbrev pub is_early : Before → View → Bool
is_early b w =
    is_counted b w && (nat_le (length w.tx_buffer.bytes) (flight w)
    && (nat_lt (segments_out w) 4 && (w.local_rx_dup_acks + 1 == segments_out w)))

-- what the peer told, from SND.UNA on
abbrev pub sacked_after : Before → View → Scoreboard
sacked_after b w =
    if carries_data w.state then moved b.sacked (seq_sub w.local_seq_no b.una) else nothing_told

-- it tells something new, and acknowledges nothing
abbrev pub only_tells : Before → View → Bool
only_tells b w = b.telling && not (is_news b w)

-- all up to the end of what was sent before the probe, while that is not acknowledged (RFC 8985, section 7.3)
abbrev pub is_told_to_end : Recovery → Scoreboard → TcpSeqNumber → Bool
is_told_to_end (recovery.Probe start end again) k una =
    is_before una end && nat_le (seq_sub end una) (highest_told k)
is_told_to_end _ k una = false

-- a tail-loss probe shows a hole
abbrev pub is_probe_told : Before → View → Bool
is_probe_told b w = only_tells b w && is_told_to_end b.recovery (sacked_after b w) w.local_seq_no

-- more than two segments behind a hole at SND.UNA (RFC 6675, section 4, IsLost)
abbrev pub is_told_lost : Before → View → Bool
is_told_lost b w = only_tells b w && nat_lt (2 * w.remote_mss) (told_before (sacked_after b w) (2 ^ 32))

-- the third duplicate, or what suffices before it
abbrev pub tells_loss : Before → View → Bool
tells_loss b w =
    (is_called b w && not (is_void b w)) || ((is_uncounted b w && (b.duplicates == 2))
    || (is_early b w || (is_probe_told b w || is_told_lost b w)))

-- what is none leaves the count
abbrev pub duplicates_after : Before → View → ℕ
duplicates_after b w =
    if is_void b w then b.duplicates
    else (if is_uncounted b w then min (b.duplicates + 1) 255 else w.local_rx_dup_acks)

-- ---- a recovery that was for nothing

-- the first echo of something new tells whether it was
abbrev pub is_decided_by : Recovery → Bool
is_decided_by (recovery.Fast point high_rxt resent_at acked trailed una_lost) = true
is_decided_by (recovery.Timeout point) = true
is_decided_by _ = false

-- it was: what is acknowledged came of the first sending (RFC 3522, section 3.2)
abbrev pub undone_by_echo : Before → View → Bool
undone_by_echo b w = is_news b w && (is_decided_by b.recovery && is_older b.echo w.undo.stamp)

-- where there are no timestamps: all that went out again came twice (RFC 3708, section 3)
abbrev pub undone_by_blocks : Before → View → Bool
undone_by_blocks b w = not (is_some b.echo) && (not (w.undo.resent == 0) && nat_le w.undo.resent b.twice)

abbrev pub is_undone : Before → View → Bool
is_undone b w = may_undo w.undo && (undone_by_echo b w || undone_by_blocks b w)

-- the first echo of something new was heard
abbrev pub is_decided : Before → View → Bool
is_decided b w = is_news b w && (is_decided_by b.recovery && is_some b.echo)

-- ---- reordering (RFC 8985, section 6.2)

-- how many quarters of a round trip a loss is waited for: one more for each fast recovery that was for nothing
abbrev pub reordering_after : Before → View → ℕ
reordering_after b w =
    if is_undone b w && not (w.undo.window == 0) then one_more w.reordering else w.reordering

-- a loss was told, and is waited for
abbrev pub is_waited : Before → View → Bool
is_waited b w = is_told (reordering_after b w) (duplicates_after b w) (sacked_after b w) w.remote_mss

-- ---- recovery (RFC 6582, section 3.2; RFC 6675, section 5)

-- of new bytes, but not of all that was sent before a fast retransmission
abbrev pub is_partial_in : Recovery → Bool → TcpSeqNumber → Bool
is_partial_in (recovery.Fast point high_rxt resent_at acked trailed una_lost) news una = news && is_before una point
is_partial_in _ news una = false

abbrev pub is_partial : Before → View → Bool
is_partial b w = is_partial_in b.recovery (is_news b w) w.local_seq_no

-- duplicates begin a recovery, where none goes on, and the loss is not waited for
abbrev pub begins : Before → View → Bool
begins b w = may_resend w && (tells_loss b w && (is_over b.recovery && not (is_waited b w)))

-- there is a hole that was not sent again in this recovery
abbrev pub has_hole : Recovery → Scoreboard → TcpSeqNumber → Bool
has_hole (recovery.Fast point high_rxt resent_at acked trailed una_lost) k una =
    is_some (hole_behind k (hole_from una_lost high_rxt una))
has_hole _ k una = false

-- the segment at SND.UNA was sent again in this recovery
abbrev pub is_sent_again : Recovery → TcpSeqNumber → Bool
is_sent_again (recovery.Fast point high_rxt resent_at acked trailed una_lost) una = is_before una high_rxt
is_sent_again _ una = false

-- a partial acknowledgement shows the next hole, which may be at SND.UNA; without a word of SACK it is there
abbrev pub shows_hole : Recovery → Scoreboard → TcpSeqNumber → Bool
shows_hole r k una = has_hole r k una || (is_blank k || not (is_sent_again r una))

-- the segment at SND.UNA was sent again, and lost again: something that was sent behind it was told (RFC 8985, section
-- 6.2: in a recovery nothing is waited for beyond that)
abbrev pub is_lost_in : Recovery → Scoreboard → TcpSeqNumber → Bool
is_lost_in (recovery.Fast point high_rxt resent_at acked trailed una_lost) k una =
    not una_lost && (is_before una high_rxt && nat_lt (again_from resent_at una) (highest_told k))
is_lost_in _ k una = false

abbrev pub is_lost_again : Before → View → Bool
is_lost_again b w = only_tells b w && is_lost_in b.recovery (sacked_after b w) w.local_seq_no

-- a probe is out until something behind what was sent before it is acknowledged: new bytes that it was, or, where it
-- was the last segment again, what followed it (RFC 8985, section 7.4.2). That is the first acknowledgement beyond its
-- end, so this never lies far behind SND.UNA
abbrev pub unless_beyond : Recovery → TcpSeqNumber → TcpSeqNumber → Recovery
unless_beyond r end una = if is_before end una then recovery.Open else r

-- where SND.UNA has moved, what is told next is measured from now on. Where a segment was lost again, so were all holes
-- that went out again, and they go out once more from SND.UNA on; but where some did so behind new bytes, what is told
-- may be from before that, and the segment at SND.UNA goes alone (RFC 8985, section 6.2)
abbrev pub again_by : Bool → Bool → Recovery → TcpSeqNumber → TcpSeqNumber → Recovery
again_by true lost (recovery.Fast point high_rxt resent_at acked trailed una_lost) una nxt =
    recovery.Fast point high_rxt (later_of nxt point) true false false
again_by false true (recovery.Fast point high_rxt resent_at acked trailed una_lost) una nxt =
    recovery.Fast point (if trailed then high_rxt else una) (later_of nxt point) acked false true
again_by true lost (recovery.Probe start end again) una nxt =
    unless_beyond (recovery.Probe start end again) end una
again_by _ _ r una nxt = r

abbrev pub again : Before → View → Recovery
again b w = again_by (is_news b w) (is_lost_again b w) b.recovery w.local_seq_no w.remote_last_seq

-- the network has room for a hole
abbrev pub has_room_after : Before → View → Bool
has_room_after b w =
    has_room (again b w) (sacked_after b w) w.local_seq_no (flight w) (recovery_window b.controller) w.remote_mss

-- one is still to go out
abbrev pub is_marked : Before → View → Bool
is_marked b w = is_fast b.timer || w.pending_fast_retransmit

-- what is told anew, and acknowledges nothing, lets out the next hole, where there is room, unless one is still to go
-- out. What was lost again has left the network, and needs no room
abbrev pub lets_out : Before → View → Bool
lets_out b w =
    only_tells b w && (not (is_marked b w)
    && (has_hole (again b w) (sacked_after b w) w.local_seq_no && (is_lost_again b w || has_room_after b w)))

-- a hole goes out again, or the segment at SND.UNA: a recovery begins, or goes on
abbrev pub resends : Before → View → Bool
resends b w =
    begins b w
    || (may_resend w
    && ((is_partial b w && shows_hole (again b w) (sacked_after b w) w.local_seq_no) || lets_out b w))

-- the dispatch that sends it tells the controller of a loss: one begins, or that was not told yet
abbrev pub tells_controller : Before → View → Bool
tells_controller b w = begins b w || (is_fast b.timer && resends b w)

-- holes go out again
abbrev pub is_recovering : Recovery → Bool
is_recovering (recovery.Fast point high_rxt resent_at acked trailed una_lost) = true
is_recovering _ = false

-- what goes out again in a recovery that goes on, of which the controller was told, is marked at once
abbrev pub marks : Before → View → Bool
marks b w =
    is_recovering b.recovery && (not (is_fast b.timer) && (may_resend w
    && ((is_partial b w && shows_hole (again b w) (sacked_after b w) w.local_seq_no) || lets_out b w)))

-- an acknowledgement of all that was sent before ends it
abbrev pub reached_by : TcpSeqNumber → Recovery → TcpSeqNumber → Recovery
reached_by una r point = if is_before una point then r else recovery.Open

abbrev pub gone_on : Recovery → TcpSeqNumber → Recovery
gone_on recovery.Open una = recovery.Open
gone_on (recovery.Probe start end again) una = recovery.Probe start end again
gone_on (recovery.Fast point high_rxt resent_at acked trailed una_lost) una =
    reached_by una (recovery.Fast point high_rxt resent_at acked trailed una_lost) point
gone_on (recovery.Timeout point) una = reached_by una (recovery.Timeout point) point

-- ---- what is kept of the time before

abbrev pub undo_after : Before → View → Undo
undo_after b w = if is_undone b w || is_decided b w then nothing_to_undo else counted_again w.undo b.twice

-- a fast recovery is over then. After a timeout what was sent before it goes out again until it is acknowledged
abbrev pub spared : Bool → Recovery → Recovery
spared true (recovery.Fast point high_rxt resent_at acked trailed una_lost) = recovery.Open
spared u r = r

abbrev pub recovery_after : Before → View → Recovery
recovery_after b w =
    if carries_data w.state
    then (if begins b w
    then recovery.Fast w.remote_last_seq w.local_seq_no w.remote_last_seq false false false
    else gone_on (spared (is_undone b w) (again b w)) w.local_seq_no)
    else recovery.Open

-- ---- the congestion controller

-- bytes begin to go out: the SYN is acknowledged (RFC 6298, rule 5.7)
abbrev pub is_opened : Before → View → Bool
is_opened b w = is_opening b.state && not (is_opening w.state)

-- the SYN was not sent again
abbrev pub opens_well : Before → View → Bool
opens_well b w = is_opened b w && not (is_backed_off w.rtte)

-- not all that was sent before a timeout is acknowledged
abbrev pub is_timed_out : Recovery → Bool
is_timed_out (recovery.Timeout point) = true
is_timed_out _ = false

-- the controller as it was, with the window that came
abbrev pub before_it : Before → View → AnyController
before_it b w = with_remote_window b.controller w.remote_win_len

-- a segment that went out again as a probe repaired a loss: something behind it is acknowledged, and nothing said that
-- it came twice (RFC 8985, section 7.4.2)
abbrev pub is_repaired_in : Recovery → TcpSeqNumber → Bool
is_repaired_in (recovery.Probe start end again) una = again && is_before end una
is_repaired_in _ una = false

abbrev pub is_repaired : Before → View → Bool
is_repaired b w = is_repaired_in b.recovery w.local_seq_no

-- what was in flight then, without what went beyond the congestion window
abbrev pub flight_before : Before → View → ℕ
flight_before b w = min (seq_sub w.remote_last_seq b.una) (congestion_window (before_it b w))

-- that loss is told, so that the bytes that are acknowledged end its recovery at once
abbrev pub told_repaired : Before → View → Instant → AnyController
told_repaired b w now = if is_repaired b w then lost (before_it b w) now (flight_before b w) else before_it b w

-- the application holds back what goes out, and not the congestion window: less than half of that was queued, what is
-- acknowledged now among it, and no loss is recovered from (RFC 7661, section 4.2, which asks for half)
abbrev pub is_limited_by_user : Before → View → ℕ → Bool
is_limited_by_user b w window =
    nat_lt (2 * (length w.tx_buffer.bytes + seq_sub w.local_seq_no b.una)) window
    && (is_over b.recovery && not (is_repaired b w))

-- the window does not grow then
abbrev pub bytes_counted : Before → View → ℕ → ℕ
bytes_counted b w window = if is_limited_by_user b w window then 0 else seq_sub w.local_seq_no b.una

abbrev pub told_of_count : Before → View → Instant → AnyController → AnyController
told_of_count b w now c =
    bytes_acked c now (bytes_counted b w (congestion_window c)) (is_timed_out b.recovery) w.rtte

-- of new bytes it hears how many they are (RFC 5681, section 3.1; RFC 3465), and at the opening, unless a SYN was lost,
-- that it may send more (RFC 6928). A SYN moves SND.UNA too, and is no byte
abbrev pub told_of_bytes : Before → View → Instant → AnyController
told_of_bytes b w now =
    if opens_well b w then opened w.congestion_controller w.remote_mss
    else (if is_news b w && carries_data b.state
    then told_of_count b w now (told_repaired b w now)
    else w.congestion_controller)

-- of a partial acknowledgement it hears that, and not that all was acknowledged; of a duplicate that lets out a hole
-- no more than the window, since the hole goes in place of new bytes, and so of what is no duplicate
abbrev pub controller_after : Before → View → Instant → AnyController
controller_after b w now =
    if is_partial b w then partially_acked (before_it b w) now (seq_sub w.local_seq_no b.una)
    else (if lets_out b w || is_void b w then before_it b w
    else (if is_uncounted b w then dup_acked w.congestion_controller now w.remote_mss (flight w)
    else told_of_bytes b w now))

-- window and threshold are at least as before a recovery that was for nothing (RFC 4015, section 3.2)
abbrev pub undone_if : Bool → AnyController → Undo → AnyController
undone_if true c u = undone c u.window u.threshold
undone_if false c u = c

abbrev pub controller_told : Before → View → Instant → AnyController
controller_told b w now = undone_if (is_undone b w) (controller_after b w now) w.undo

-- ---- the timer

-- states whose timer is one for acknowledgements
abbrev pub has_timer : State → Bool
has_timer state.SynReceived = true
has_timer state.FinWait2 = true
has_timer st = carries_data st

-- where no fast retransmission is to come, the retransmission timer goes on as it was
abbrev pub gone_on_from : Timer → Instant → Estimator → Timer
gone_on_from (timer.Retransmit at) now e = timer.Retransmit at
gone_on_from t now e = retransmit_from now e

-- with so much in flight and so many bytes in the transmit queue: it runs whenever something is in flight (rule 5.1),
-- with nothing to send no window is probed, and a probe has a byte: else what is in flight is waited for first (RFC
-- 9293, section 3.8.6.1)
abbrev pub running : Timer → ℕ → ℕ → Option Duration → Estimator → Instant → Timer
running (timer.Idle at) sent queued keep e now = if sent == 0 then timer.Idle at else retransmit_from now e
running (timer.ZeroWindowProbe at delay) sent queued keep e now =
    if nat_le queued sent then (if sent == 0 then idle_from now keep else retransmit_from now e)
    else timer.ZeroWindowProbe at delay
running t sent queued keep e now = t

-- where something new is acknowledged, and bytes are still in flight, a tail-loss probe is waited for
abbrev pub waits_tail : Before → View → Bool
waits_tail b w = is_news b w && may_probe (recovery_after b w) w

-- of the partial acknowledgements the first alone begins the retransmission timer anew (RFC 6582, section 3.2, step 3)
abbrev pub is_acked : Recovery → Bool
is_acked (recovery.Fast point high_rxt resent_at acked trailed una_lost) = acked
is_acked _ = false

abbrev pub is_later_partial : Before → View → Bool
is_later_partial b w = is_partial b w && is_acked b.recovery

abbrev pub kept_if : Bool → Timer → Timer → Timer
kept_if true (timer.Retransmit at) (timer.Retransmit next) = timer.Retransmit at
kept_if _ before t = t

-- a probe that begins comes a retransmission timeout after the last segment that took numbers, where that is sooner: a
-- window that opens and shuts before something went out does not put it off (RFC 9293, section 3.8.6.1)
abbrev pub soonest : Option Instant → Instant → Instant
soonest None at = at
soonest (Some idle) at = sooner at idle

abbrev pub probe_soonest : Option Instant → Timer → Timer
probe_soonest idle (timer.ZeroWindowProbe at delay) = timer.ZeroWindowProbe (soonest idle at) delay
probe_soonest idle t = t

abbrev pub probe_from_last : Timer → Option Instant → Timer → Timer
probe_from_last (timer.ZeroWindowProbe at delay) idle t = t
probe_from_last _ idle t = probe_soonest idle t

-- what runs while nothing is marked
abbrev pub left_running : Before → View → Instant → Timer
left_running b w now =
    probe_from_last b.timer w.idle_at
    (kept_if (is_later_partial b w) b.timer
    (running w.timer (flight w) (length w.tx_buffer.bytes) w.keep_alive w.rtte now))

abbrev pub heard_for : Before → View → Instant → Timer
heard_for b w now =
    if tells_controller b w then timer.FastRetransmit
    else (if is_called b w then gone_on_from b.timer now w.rtte
    else tail_waits (waits_tail b w) (left_running b w now) now w.rtte (is_alone w))

-- a loss is waited for from now on, with the next hole behind SND.UNA
abbrev pub waits_late : Before → View → Bool
waits_late b w = is_waited b w && (may_resend w && is_over (recovery_after b w))

abbrev pub waited_for : Before → View → Instant → Timer
waited_for b w now =
    late_set (waits_late b w) (heard_for b w now) now (late_wait (reordering_after b w) w.rtte)

abbrev pub timer_after : Before → View → Instant → Timer
timer_after b w now = if has_timer w.state then waited_for b w now else w.timer

-- what goes out again is not timed by its number
abbrev pub estimator_after : Before → View → Estimator
estimator_after b w =
    if is_opened b w then begun_anew w.rtte else (if marks b w then retransmitted w.rtte else w.rtte)

-- ---- the whole

-- the estimator knows the segment's echo
abbrev pub echo_known : Before → View → Instant → View
echo_known b w now = echo_taken (is_news b w) b.echo w now

abbrev pub recovered_from : Before → View → Instant → View
recovered_from b w now =
    record w {
      timer = timer_after b w now;
      rtte = estimator_after b w;
      local_rx_dup_acks = duplicates_after b w;
      pending_fast_retransmit = (w.pending_fast_retransmit || marks b w) && not (is_undone b w);
      congestion_controller = controller_told b w now;
      recovery = recovery_after b w;
      sacked = sacked_after b w;
      largest_window = larger (has_window b.state) w.largest_window w.remote_win_len;
      undo = undo_after b w;
      reordering = reordering_after b w;
    }

unfoldable pub recovered : Before → View → Instant → View
recovered b w now = recovered_from b (echo_known b w now) now

-- smoltcp's rules do nothing more
abbrev pub recovered_by : Rules → View → Instant → Segment → Outcome → Outcome
recovered_by rules.Smoltcp v now s o = o
recovered_by rules.Rfc v now s o =
    record { view = recovered (before_of v s) o.view now; reply = o.reply }

-- ---- the retransmission timer is over: where the peer has no window and bytes wait, it is probed for, with the byte
-- at SND.UNA (RFC 9293, section 3.8.6.1)

abbrev pub begun_by : Rules → ℕ → ℕ → Instant → Option Duration → Estimator → Timer
begun_by rules.Smoltcp window queued now keep e = idle_from now keep
begun_by rules.Rfc window queued now keep e =
    if (window == 0) && not (queued == 0) then probe_from now e else idle_from now keep

-- ---- a fast retransmission is due: by the RFCs' rules the timer runs from then on, whatever becomes of its emit (RFC
-- 6298, rule 5.1)

abbrev pub marked_by : Rules → Instant → Option Duration → Estimator → Timer
marked_by rules.Smoltcp now keep e = idle_from now keep
marked_by rules.Rfc now keep e = retransmit_from now e

-- ---- the retransmission timer is over (RFC 6582, section 4): what was sent until now is to be acknowledged before
-- duplicates count again

abbrev pub timed_out_by : Rules → Recovery → TcpSeqNumber → Recovery
timed_out_by rules.Smoltcp r nxt = r
timed_out_by rules.Rfc r nxt = recovery.Timeout (highest_of r nxt)
