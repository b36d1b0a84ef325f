-- What a sender in step says at the moment of its keep-alive.
use Rattle.std.proofs.Common.{◌≡◌, ℕ, ◌⊎◌, ◌^◌, Bool, ◌-◌, ◌/◌, ◌<◌, ◌≤◌, inl, inr, true, false, not, ◌&&◌, refl, sym, ap, subst, ◌∙◌, List, length, take, drop, min, Option, Some, None, arith}
use Rattle.std.proofs.lemmas.Option.{none-some}
use Rattle.std.specs.Prelude.{if◌then◌else◌, pos}
use Rattle.net_base.specs.declared.time.Duration.{Duration}
use Rattle.net_base.specs.declared.time.Instant.{Instant}
use Rattle.control_wire.specs.Segment.{Segment, segment_len}
use Rattle.control_wire.specs.Seq.{seq_add, seq_minus, seq_sub}
use Rattle.sock_core.specs.Bounds.{IsMtu}
use Rattle.sock_core.specs.Facts.{Facts}
use Rattle.sock_core.specs.Seq.{later_of}
use Rattle.sock_tcp.proofs.Lending.{lent_at_most, lent_beginning}
use Rattle.sock_tcp.specs.Begin.{timers_by, after_timer, after_timers, is_paused, readied, retransmission_begun}
use Rattle.sock_tcp.specs.Rfc.TailLoss.{is_retransmission_over, may_probe_by, may_speak, probes_tail}
use Rattle.sock_tcp.specs.Content.{Sending, asked, carries_data, emission_kind, is_probing, offset_of, sent_as, window_left}
use Rattle.sock_tcp.specs.Due.{congestion_left, data_due, effective_mss, flight, is_closed, is_due}
use Rattle.sock_tcp.specs.Rfc.OwnWindow.{space_field}
use Rattle.sock_tcp.specs.declared.rules.Rules.TheVariants as rules
use Rattle.sock_tcp.proofs.UserTimeout.{none_runs}
use Rattle.sock_tcp.specs.Polls.{is_reached, timeout_poll}
use Rattle.sock_tcp.specs.Rfc.UserTimeout.{timeout_of}
use Rattle.sock_tcp.specs.Queue.{Queue}
use Rattle.sock_tcp.specs.Queues.{may_send}
use Rattle.sock_tcp.specs.Timers.{after as moment_after, idle_from, is_close_over, is_keep_alive_over, is_over, is_probe_over, keep_alive_renewed, retransmit_unless_set, rto_of}
use Rattle.sock_tcp.specs.View.{View}
use Rattle.sock_tcp.specs.Window.{next_ack}
use Rattle.sock_tcp.specs.declared.emission.Kind.{Kind}
use Rattle.sock_tcp.specs.declared.emission.Kind.TheVariants as kind
use Rattle.sock_tcp.specs.declared.state.State.TheVariants as state
use Rattle.sock_tcp.specs.declared.timer.Timer.TheVariants as timer
use Rattle.sock_tcp.specs.declared.tuple.Tuple.{Tuple}
use Rattle.tcp_laws.specs.Polling.{IsReached}
use Rattle.tcp_laws.proofs.Ordered.{HasMoment, IsOrdered, no_distance}
use Rattle.tcp_laws.proofs.OrderedCalls.{reached_ordered, readied_ordered, timers_ordered}
use Rattle.tcp_laws.proofs.Sleeping.{congestion_leaves, never_waits, window_sends}
use Rattle.tcp_laws.proofs.Probing.{reached_probing}
use Rattle.progress_laws.specs.InStep.{ForAnswer, ForKeepAlive, ForNothing, ForProbe, IsSender, Rests, told}
use Rattle.progress_laws.specs.Speech.{DispatchesOk, GoesOn}
use Rattle.progress_laws.proofs.Begins.{smoltcp_begins, Same, beginning, begun_idle, carries_runs, dispatch_reached, lent_for, not_zero, quiet_so, readied_alike, same_again, same_then, segment_for, told_for, sends_as, stamp_for}
use Rattle.progress_laws.proofs.Edges.{is_earlier, is_not_before, later_is, later_stays}
use Rattle.progress_laws.proofs.Hears.{IsData, IsOpenTimer, idle_is, idle_moment}
use Rattle.progress_laws.proofs.Lends.{lent_some, mss_short, mss_some}
use Rattle.progress_laws.proofs.Says.{keep_alive_due, no_probe}
use Rattle.progress_laws.proofs.States.{flat_open, is_flat, row_moment, sends_data, sends_flat}
use Rattle.progress_laws.proofs.Sends.{HasTold, SentOf, Untold, kept_nxt, kept_sent, kept_timer, kept_untold, left, plain_sent, plain_timer, plain_told, segment_ack, segment_bit, segment_length, segment_number, segment_window, smoltcp_field, with_bytes, without_bytes}

-- ---- what is left of the sender

-- x is as the sender v but for SND.NXT, and waits for an answer
pub record Waits (v x : View) : Type 0 where
  pub reached : IsReached x
  pub same : Same v x
  pub nothing_marked : x.pending_fast_retransmit ≡ false
  pub timer : IsOpenTimer x.timer

-- the dispatch emits this segment, and leaves x
pub record Speaks (f : Facts) (v : View) (out : Sending) (x : View) : Type 0 where
  pub dispatch : DispatchesOk f v (Some out) x
  pub bit : IsData out.segment.control
  pub ack : out.segment.ack_number ≡ Some (next_ack v)
  pub waits : Waits v x

-- the first bytes of the transmit queue, within the peer's window, or one that probes for it
pub record SpeaksBytes (f : Facts) (v : View) : Type 0 where
  pub out : Sending
  pub after : View
  pub speaks : Speaks f v out after
  pub number : out.segment.seq_number ≡ v.local_seq_no
  pub some : 0 < length out.segment.payload
  pub within : (length out.segment.payload ≤ v.remote_win_len) ⊎ (length out.segment.payload ≡ 1)
  pub queued : length out.segment.payload ≤ length v.tx_buffer.bytes
  pub first : out.segment.payload ≡ take (length out.segment.payload) v.tx_buffer.bytes
  pub sent : ℕ
  pub sent_within : sent ≤ length out.segment.payload
  pub nxt : after.remote_last_seq ≡ seq_add v.local_seq_no sent

-- the same within the peer's window: it tells the own window, and an acknowledgement is waited for
pub record SpeaksPlain (f : Facts) (v : View) : Type 0 where
  pub bytes : SpeaksBytes f v
  pub fits : length bytes.out.segment.payload ≤ v.remote_win_len
  pub short : length bytes.out.segment.payload ≤ 65535
  pub field : bytes.out.segment.window_len ≡ space_field v
  pub at : Instant
  pub timer : bytes.after.timer ≡ timer.Retransmit at
  pub window : bytes.after.remote_win_len ≡ v.remote_win_len
  pub shift : bytes.after.remote_win_shift ≡ v.remote_win_shift
  pub last_ack : bytes.after.remote_last_ack ≡ Some (next_ack v)
  pub last_win : bytes.after.remote_last_win ≡ space_field v

-- a byte before SND.UNA
pub record SpeaksNothing (f : Facts) (v : View) : Type 0 where
  pub out : Sending
  pub after : View
  pub speaks : Speaks f v out after
  pub number : out.segment.seq_number ≡ seq_minus v.local_seq_no 1
  pub one : length out.segment.payload ≡ 1
  pub nxt : after.remote_last_seq ≡ v.local_seq_no
  pub shift : after.remote_win_shift ≡ v.remote_win_shift
  pub untold : Untold v after

-- without a window nothing, or an acknowledgement; it waits for its keep-alive then, with nothing in flight
pub record FallsSilent (f : Facts) (v : View) : Type 0 where
  pub out : Option Sending
  pub after : View
  pub dispatch : DispatchesOk f v out after
  pub waits : Waits v after
  pub moment : Instant
  pub timer : after.timer ≡ timer.Idle (Some moment)
  pub nxt : after.remote_last_seq ≡ after.local_seq_no
  pub window : after.remote_win_len ≡ v.remote_win_len
  pub shift : after.remote_win_shift ≡ v.remote_win_shift
  pub told : Untold v after ⊎ HasTold v after

open_idle : (now : Instant) (keep : Option Duration) → IsOpenTimer (idle_from now keep)
open_idle now None = tt
open_idle now (Some d) = tt

-- ---- how its dispatch begins

-- u has of v all that matters here, with SND.NXT at SND.UNA, and its timer is idle
pub record Front (v u : View) : Type 0 where
  pub same : Same v u
  pub nxt : u.remote_last_seq ≡ v.local_seq_no
  pub untold : Untold v u
  pub marked : u.pending_fast_retransmit ≡ v.pending_fast_retransmit
  pub mss : u.remote_mss ≡ v.remote_mss
  pub moment : Option Instant
  pub idle : u.timer ≡ timer.Idle moment
  pub ordered : IsOrdered u

-- at the moment of a keep-alive
idle_front : (v : View) (now : Instant) (at : Option Instant) → IsReached v → v.timer ≡ timer.Idle at → v.remote_last_seq ≡ v.local_seq_no → Front v (readied v now)
idle_front v now at r idle nxt =
    let al = readied_alike v now in
    record { same = al.same; nxt = al.nxt ∙ nxt; untold = record { last_ack = al.last_ack; last_win = al.last_win }; marked = al.marked; mss = al.mss; moment = at; idle = al.timer ∙ idle; ordered = readied_ordered v now (reached_ordered v r) }

begins_again : (x : View) (now at : Instant) → x.timeout ≡ None → x.rules ≡ rules.Smoltcp → x.timer ≡ timer.Retransmit at → is_over at now ≡ true → after_timers x now ≡ retransmission_begun x now
unfolding after_timers
begins_again x now at none smoltcp waits over = ap (λ b. if b then record x { state = state.Closed } else timers_by (probes_tail x now) x now) alive ∙ ap (λ b. timers_by b x now) no_tail ∙ ap (λ tm. after_timer tm x now) waits ∙ ap (λ c. if c then retransmission_begun x now else x) over
  where
    alive : is_reached (timeout_poll (timeout_of x) x.remote_last_ts) now ≡ false
    alive = ap (λ o. is_reached (timeout_poll o x.remote_last_ts) now) (none_runs x none)

    no_tail : probes_tail x now ≡ false
    no_tail = ap (λ r. may_probe_by r (may_speak x) && is_retransmission_over x.timer now) smoltcp

-- once the retransmission timer is over
again_front : (v : View) (now at : Instant) → IsReached v → v.timeout ≡ None → v.rules ≡ rules.Smoltcp → v.timer ≡ timer.Retransmit at → is_over at now ≡ true → Front v (retransmission_begun (readied v now) now)
unfolding retransmission_begun
again_front v now at r no_timeout smoltcp waits over =
    let al = readied_alike v now in
    record { same = same_then al.same (same_again (readied v now) now); nxt = al.same.una; untold = record { last_ack = al.last_ack; last_win = al.last_win }; marked = al.marked; mss = al.mss; moment = idle_moment now (readied v now).keep_alive; idle = begun_idle (readied v now) now (al.same.same_rules ∙ smoltcp) ∙ idle_is now (readied v now).keep_alive; ordered = subst IsOrdered (begins_again (readied v now) now at (al.same.timeout ∙ no_timeout) (al.same.same_rules ∙ smoltcp) (al.timer ∙ waits) over) (timers_ordered (readied v now) now (readied_ordered v now (reached_ordered v r))) }

-- nothing is in flight then, nothing is marked, and no probe goes out
pub record FromFront (u : View) (now : Instant) : Type 0 where
  pub nothing_marked : u.pending_fast_retransmit ≡ false
  pub mss : 48 ≤ u.remote_mss
  pub no_flight : flight u ≡ 0
  pub no_probing : is_probing u now ≡ false
  pub start : offset_of u ≡ 0

pub from_front : (v u : View) (now : Instant) → Front v u → IsReached v → v.pending_fast_retransmit ≡ false → FromFront u now
from_front v u now fr reached unmarked = record { nothing_marked = marked; mss = subst (λ n. 48 ≤ n) (sym fr.mss) (reached_probing v reached).mss; no_flight = none; no_probing = no_probe u now (ap (λ tm. is_probe_over tm now) fr.idle); start = rw marked none }
  where
    marked : u.pending_fast_retransmit ≡ false
    marked = fr.marked ∙ unmarked

    none : flight u ≡ 0
    none = ap (λ n. seq_sub n u.local_seq_no) (fr.nxt ∙ sym fr.same.una) ∙ no_distance u.local_seq_no fr.ordered.una_small

-- what is asked for keeps to both windows
pub asked_so : (u : View) (t : Tuple) (f : Facts) (now : Instant) → FromFront u now → carries_data u.state ≡ true → asked u t (told f now) ≡ min (min (window_left u) (effective_mss u t (told f now))) (congestion_left u)
unfolding asked
asked_so u t f now ft carries = rw (ft.no_probing, carries, ft.nothing_marked) refl

-- and no more than that is lent, nor than what waits
pub lent_few : (u : View) (t : Tuple) (f : Facts) → length (lent_for u t f) ≤ min (asked u t f) (length u.tx_buffer.bytes - offset_of u)
lent_few u t f = lent_at_most u.tx_buffer (offset_of u) (asked u t f) (lent_for u t f) refl

module _ (d : Option Duration) (t : Tuple) (v : View) (f : Facts) (now : Instant) (mtu : IsMtu f.mtu) (s : IsSender d t v) (on : GoesOn v t (told f now)) (carries : is_paused v.state v.synack_paused ≡ false) (u : View) (fr : Front v u) (u_is : beginning v t (told f now) on carries ≡ u) where
  abbrev fa : Facts
  fa = told f now

  may : may_send u.state ≡ true
  may = ap may_send fr.same.state ∙ s.state

  sends : is_flat u.state ≡ true
  sends = sends_flat u.state may

  opens : is_closed u.state ≡ false
  opens = flat_open u.state sends

  ft : FromFront u now
  ft = from_front v u now fr s.reached s.nothing_marked

  abbrev bytes : List ℕ
  bytes = lent_for u t fa

  asked_is : asked u t fa ≡ min (min (window_left u) (effective_mss u t fa)) (congestion_left u)
  asked_is = asked_so u t f now ft (sends_data u.state may)

  abbrev b : Segment
  b = told_for u t fa (stamp_for u) bytes

  bit : IsData b.control
  bit = segment_bit u t (stamp_for u) bytes sends ft.nothing_marked

  number : b.seq_number ≡ v.local_seq_no
  number = segment_number u t (stamp_for u) bytes sends ft.nothing_marked ∙ fr.nxt

  ack : b.ack_number ≡ Some (next_ack v)
  ack = segment_ack u t (stamp_for u) bytes sends ft.nothing_marked ∙ (λ i. Some (seq_add (fr.same.rcv i) (length ((fr.same.rx i).bytes))))

  told_field : b.window_len ≡ space_field v
  told_field = segment_window u t (stamp_for u) bytes sends ft.nothing_marked ∙ smoltcp_field u (fr.same.same_rules ∙ s.smoltcp) ∙ (λ i. min (length ((fr.same.rx i).held) / 2 ^ fr.same.shift i) 65535)

  carries_on : carries_data u.state ≡ true
  carries_on = sends_data u.state may

  goes_out : (k : Kind) → emission_kind u now b ≡ k → is_due u t fa ≡ true → DispatchesOk fa v (Some (sent_as u t k b)) (left u t now b opens k)
  goes_out = sends_as v t fa on carries u u_is carries_on

  data_is_due : data_due u t fa ≡ true → is_due u t fa ≡ true
  unfolding is_due
  data_is_due e = rw e refl

  waits : (k : Kind) → DispatchesOk fa v (Some (sent_as u t k b)) (left u t now b opens k) → SentOf u (left u t now b opens k) → IsOpenTimer (left u t now b opens k).timer → Waits v (left u t now b opens k)
  waits k h l o = record { reached = dispatch_reached fa v (Some (sent_as u t k b)) (left u t now b opens k) s.reached h; same = same_then fr.same l.same; nothing_marked = l.marked ∙ ap (λ m. m && not (carries_data u.state)) ft.nothing_marked; timer = o }

  renewed : keep_alive_renewed u.timer now u.keep_alive ≡ idle_from now u.keep_alive
  renewed = ap (λ tm. keep_alive_renewed tm now u.keep_alive) fr.idle

  -- with a window and bytes
  speaks_bytes : 0 < v.remote_win_len → 0 < length v.tx_buffer.bytes → SpeaksBytes fa v
  speaks_bytes win queue =
      let win_u : 0 < u.remote_win_len = subst (λ n. 0 < n) (sym fr.same.window) win in
      let queue_u : 0 < length u.tx_buffer.bytes = subst (λ (q : Queue). 0 < length q.bytes) (sym fr.same.tx) queue in
      let asks : 0 < asked u t fa = omega (arith, asked_is, win_u, ft.no_flight, mss_some u t fa mtu.0 ft.mss, congestion_leaves u fr.ordered.congestion ft.no_flight) in
      let some : 0 < length bytes = lent_some u.tx_buffer (offset_of u) (asked u t fa) bytes refl asks (omega (arith, ft.start, queue_u)) in
      let plain : emission_kind u now b ≡ kind.Plain = with_bytes u t (stamp_for u) bytes sends ft.nothing_marked now ft.no_probing some in
      let h = goes_out kind.Plain plain (data_is_due (window_sends u t fa fr.ordered win_u ft.no_flight (never_waits u (fr.same.same_rules ∙ s.smoltcp)) (inl queue_u))) in
      let long : segment_len b ≡ length bytes = segment_length u t (stamp_for u) bytes sends ft.nothing_marked in
      let same : length u.tx_buffer.bytes ≡ length v.tx_buffer.bytes = ap (λ (q : Queue). length q.bytes) fr.same.tx in
      record {
        out = sent_as u t kind.Plain b;
        after = left u t now b opens kind.Plain;
        speaks = record { dispatch = h; bit = bit; ack = ack; waits = waits kind.Plain h (plain_sent u t now b opens (fr.same.same_rules ∙ s.smoltcp)) (timed (omega (arith, long, some))) };
        number = number;
        some = some;
        within = inl (omega (arith, lent_few u t fa, asked_is, fr.same.window));
        queued = omega (arith, lent_few u t fa, same);
        first = lent_beginning u.tx_buffer (offset_of u) (asked u t fa) bytes refl ∙ ap (λ o. take (length bytes) (drop o u.tx_buffer.bytes)) ft.start ∙ ap (λ (q : Queue). take (length bytes) q.bytes) fr.same.tx;
        sent = length bytes;
        sent_within = omega arith;
        nxt = (plain_told u t now b opens).nxt ∙ (λ i. later_of (fr.nxt i) (seq_add (number i) (long i))) ∙ later_is v.local_seq_no (seq_add v.local_seq_no (length bytes)) (is_earlier v.local_seq_no (seq_add v.local_seq_no (length bytes)) (omega (arith, some, lent_few u t fa, fr.ordered.room, (reached_ordered v s.reached).una_small)));
      }
    where
      timed : 0 < segment_len b → IsOpenTimer (left u t now b opens kind.Plain).timer
      timed some = subst IsOpenTimer (sym (plain_timer u t now b opens (fr.same.same_rules ∙ s.smoltcp) false (not_zero (segment_len b) some) ∙ ap (λ tm. retransmit_unless_set tm now u.rtte) renewed)) (by u.keep_alive)
        where
          by : (keep : Option Duration) → IsOpenTimer (retransmit_unless_set (idle_from now keep) now u.rtte)
          by None = tt
          by (Some d) = tt

  speaks_plain : 0 < v.remote_win_len → 0 < length v.tx_buffer.bytes → SpeaksPlain fa v
  unfolding speaks_bytes
  speaks_plain win queue =
      let l = plain_sent u t now b opens (fr.same.same_rules ∙ s.smoltcp) in
      let some : 0 < length bytes = (speaks_bytes win queue).some in
      let long : segment_len b ≡ length bytes = segment_length u t (stamp_for u) bytes sends ft.nothing_marked in
      record {
        bytes = speaks_bytes win queue;
        fits = omega (arith, lent_few u t fa, asked_is, fr.same.window);
        short = omega (arith, lent_few u t fa, asked_is, mss_short u t fa mtu.1);
        field = told_field;
        at = moment_after now (rto_of u.rtte);
        timer = plain_timer u t now b opens (fr.same.same_rules ∙ s.smoltcp) false (not_zero (segment_len b) (omega (arith, long, some))) ∙ ap (λ tm. retransmit_unless_set tm now u.rtte) renewed ∙ waits_again u.keep_alive;
        window = l.same.window ∙ fr.same.window;
        shift = l.same.shift ∙ fr.same.shift;
        last_ack = (plain_told u t now b opens).ack ∙ ack;
        last_win = (plain_told u t now b opens).window ∙ told_field;
      }
    where
      waits_again : (keep : Option Duration) → retransmit_unless_set (idle_from now keep) now u.rtte ≡ timer.Retransmit (moment_after now (rto_of u.rtte))
      waits_again None = refl
      waits_again (Some d) = refl

  -- without a window, at the moment of a keep-alive
  speaks_nothing : v.remote_win_len ≡ 0 → is_keep_alive_over u.timer now ≡ true → SpeaksNothing fa v
  speaks_nothing win keep_over =
      let shut : u.remote_win_len ≡ 0 = fr.same.window ∙ win in
      let none : length bytes ≡ 0 = omega (arith, lent_few u t fa, asked_is, shut) in
      let kept : emission_kind u now b ≡ kind.KeepAlive = without_bytes u t (stamp_for u) bytes sends ft.nothing_marked now ft.no_probing none true keep_over in
      let h = goes_out kind.KeepAlive kept (keep_alive_due u t fa keep_over) in
      record {
        out = sent_as u t kind.KeepAlive b;
        after = left u t now b opens kind.KeepAlive;
        speaks = record { dispatch = h; bit = bit; ack = ack; waits = waits kind.KeepAlive h (kept_sent u t now b opens) (subst IsOpenTimer (sym (kept_timer u t now b opens ∙ renewed)) (open_idle now u.keep_alive)) };
        number = ap (λ n. seq_minus n 1) fr.same.una;
        one = refl;
        nxt = kept_nxt u t now b opens ∙ fr.nxt;
        shift = (kept_sent u t now b opens).same.shift ∙ fr.same.shift;
        untold = let k = kept_untold u t now b opens in record { last_ack = k.last_ack ∙ fr.untold.last_ack; last_win = k.last_win ∙ fr.untold.last_win };
      }

  -- without a window it is silent, or acknowledges
  silent : (e : Duration) → v.keep_alive ≡ Some e → v.remote_win_len ≡ 0 → FallsSilent fa v
  silent e keeps win = by (is_due u t fa) refl
    where
      keep : u.keep_alive ≡ Some e
      keep = fr.same.keep_alive ∙ keeps

      waits_then : idle_from now u.keep_alive ≡ timer.Idle (Some (moment_after now e))
      waits_then = ap (idle_from now) keep

      none : length bytes ≡ 0
      none = omega (arith, lent_few u t fa, asked_is, fr.same.window, win)

      long : segment_len b ≡ 0
      long = segment_length u t (stamp_for u) bytes sends ft.nothing_marked ∙ none

      small : v.local_seq_no.0 < 2 ^ 32
      small = (reached_ordered v s.reached).una_small

      stays : later_of v.local_seq_no (seq_add v.local_seq_no 0) ≡ v.local_seq_no
      stays = later_stays v.local_seq_no (seq_add v.local_seq_no 0) (is_not_before v.local_seq_no (seq_add v.local_seq_no 0) (omega (arith, small)))

      speaks : is_due u t fa ≡ true → (k : Bool) → is_keep_alive_over u.timer now ≡ k → FallsSilent fa v
      speaks due true over =
          let h = goes_out kind.KeepAlive (without_bytes u t (stamp_for u) bytes sends ft.nothing_marked now ft.no_probing none true over) due in
          let l = kept_sent u t now b opens in
          record {
            out = Some (sent_as u t kind.KeepAlive b);
            after = left u t now b opens kind.KeepAlive;
            dispatch = h;
            waits = waits kind.KeepAlive h l (subst IsOpenTimer (sym (kept_timer u t now b opens ∙ renewed)) (open_idle now u.keep_alive));
            moment = moment_after now e;
            timer = kept_timer u t now b opens ∙ renewed ∙ waits_then;
            nxt = kept_nxt u t now b opens ∙ fr.nxt ∙ sym (l.same.una ∙ fr.same.una);
            window = l.same.window ∙ fr.same.window;
            shift = l.same.shift ∙ fr.same.shift;
            told = inl (let k = kept_untold u t now b opens in record { last_ack = k.last_ack ∙ fr.untold.last_ack; last_win = k.last_win ∙ fr.untold.last_win });
          }
      speaks due false over =
          let h = goes_out kind.Plain (without_bytes u t (stamp_for u) bytes sends ft.nothing_marked now ft.no_probing none false over) due in
          let l = plain_sent u t now b opens (fr.same.same_rules ∙ s.smoltcp) in
          let tm : (left u t now b opens kind.Plain).timer ≡ idle_from now u.keep_alive = plain_timer u t now b opens (fr.same.same_rules ∙ s.smoltcp) true (rw long refl) ∙ renewed in
          record {
            out = Some (sent_as u t kind.Plain b);
            after = left u t now b opens kind.Plain;
            dispatch = h;
            waits = waits kind.Plain h l (subst IsOpenTimer (sym tm) (open_idle now u.keep_alive));
            moment = moment_after now e;
            timer = tm ∙ waits_then;
            nxt = (plain_told u t now b opens).nxt ∙ (λ i. later_of (fr.nxt i) (seq_add (number i) (long i))) ∙ stays ∙ sym (l.same.una ∙ fr.same.una);
            window = l.same.window ∙ fr.same.window;
            shift = l.same.shift ∙ fr.same.shift;
            told = inr (record { last_ack = (plain_told u t now b opens).ack ∙ ack; last_win = (plain_told u t now b opens).window ∙ told_field });
          }

      no_moment : u.timer ≡ timer.Idle None → u.keep_alive ≡ None
      no_moment idle = subst (λ tm. HasMoment tm u.keep_alive) idle (row_moment u.state u.timer u.keep_alive (flight u) (length u.tx_buffer.bytes) may fr.ordered.row)

      at_rest : DispatchesOk fa v None u → (o : Option Instant) → u.timer ≡ timer.Idle o → FallsSilent fa v
      at_rest h None idle = absurd (none-some e (sym (no_moment idle) ∙ keep))
      at_rest h (Some m) idle = record {
        out = None;
        after = u;
        dispatch = h;
        waits = record { reached = dispatch_reached fa v None u s.reached h; same = fr.same; nothing_marked = ft.nothing_marked; timer = subst IsOpenTimer (sym idle) tt };
        moment = m;
        timer = idle;
        nxt = fr.nxt ∙ sym fr.same.una;
        window = fr.same.window;
        shift = fr.same.shift;
        told = inl fr.untold;
      }

      by : (due : Bool) → is_due u t fa ≡ due → FallsSilent fa v
      by true due = speaks due (is_keep_alive_over u.timer now) refl
      by false idle =
          let h : DispatchesOk fa v None u = subst (DispatchesOk fa v None) u_is (quiet_so v t fa on carries (ap (λ x. is_due x t fa) u_is ∙ idle)) in
          at_rest h fr.moment fr.idle

-- ---- by the timer

-- the moment for which it waits, if any
abbrev pub wakes : {v : View} → Rests v → Instant
wakes (ForKeepAlive at timer nxt) = at
wakes (ForAnswer at timer) = at
wakes (ForNothing timer nxt some) = record { micros = pos 0 }
wakes (ForProbe at delay timer nxt some) = at

-- not to probe
abbrev pub IsNoProbe : {v : View} → Rests v → Type 0
IsNoProbe (ForProbe at delay timer nxt some) = ⊥
IsNoProbe _ = Unit {0}

-- u is what a dispatch of it begins with
pub record Begins (t : Tuple) (f : Facts) (v : View) (now : Instant) : Type 0 where
  pub view : View
  pub front : Front v view
  pub no_end : is_close_over v.timer now ≡ false
  pub is : (on : GoesOn v t (told f now)) (carries : is_paused v.state v.synack_paused ≡ false) → beginning v t (told f now) on carries ≡ view

pub begins : (t : Tuple) (f : Facts) (v : View) (now : Instant) → IsReached v → v.timeout ≡ None → v.rules ≡ rules.Smoltcp → (r : Rests v) → IsNoProbe r → is_over (wakes r) now ≡ true → Begins t f v now
begins t f v now r none ruled (ForProbe at delay probes nxt some) other over = absurd other
begins t f v now r none ruled (ForKeepAlive at idle nxt) other over = record {
  view = readied v now;
  front = idle_front v now (Some at) r idle nxt;
  no_end = rw idle refl;
  is = λ on carries. smoltcp_begins v t (told f now) on carries ruled ∙ ap (λ tm. after_timer tm (readied v now) now) idle;
}
begins t f v now r none ruled (ForNothing idle nxt some) other over = record {
  view = readied v now;
  front = idle_front v now None r idle nxt;
  no_end = rw idle refl;
  is = λ on carries. smoltcp_begins v t (told f now) on carries ruled ∙ ap (λ tm. after_timer tm (readied v now) now) idle;
}
begins t f v now r none ruled (ForAnswer at again) other over = record {
  view = retransmission_begun (readied v now) now;
  front = again_front v now at r none ruled again over;
  no_end = rw again refl;
  is = λ on carries. smoltcp_begins v t (told f now) on carries ruled ∙ ap (λ tm. after_timer tm (readied v now) now) again ∙ ap (λ c. if c then retransmission_begun (readied v now) now else readied v now) over;
}

module _ (d : Option Duration) (t : Tuple) (v : View) (f : Facts) (now : Instant) (mtu : IsMtu f.mtu) (address : f.has_address t.local.addr ≡ true) (s : IsSender d t v) where
  carries_so : is_paused v.state v.synack_paused ≡ false
  carries_so = carries_runs v.state v.synack_paused (sends_data v.state s.state)

  goes_on : is_close_over v.timer now ≡ false → GoesOn v t (told f now)
  goes_on e = record { peer = s.peer; address = address; alive = rw (none_runs v s.no_timeout) refl; no_end = e }

  pub says_bytes : (r : Rests v) → IsNoProbe r → is_over (wakes r) now ≡ true → 0 < v.remote_win_len → 0 < length v.tx_buffer.bytes → SpeaksBytes (told f now) v
  says_bytes r other over win queue = let b = begins t f v now s.reached s.no_timeout s.smoltcp r other over in speaks_bytes d t v f now mtu s (goes_on b.no_end) carries_so b.view b.front (b.is (goes_on b.no_end) carries_so) win queue

  pub says_plain : (r : Rests v) → IsNoProbe r → is_over (wakes r) now ≡ true → 0 < v.remote_win_len → 0 < length v.tx_buffer.bytes → SpeaksPlain (told f now) v
  says_plain r other over win queue = let b = begins t f v now s.reached s.no_timeout s.smoltcp r other over in speaks_plain d t v f now mtu s (goes_on b.no_end) carries_so b.view b.front (b.is (goes_on b.no_end) carries_so) win queue

  pub says_nothing : (at : Instant) → v.timer ≡ timer.Idle (Some at) → v.remote_last_seq ≡ v.local_seq_no → is_over at now ≡ true → v.remote_win_len ≡ 0 → SpeaksNothing (told f now) v
  says_nothing at idle nxt over win = speaks_nothing d t v f now mtu s (goes_on (rw idle refl)) carries_so (readied v now) (idle_front v now (Some at) s.reached idle nxt) (smoltcp_begins v t (told f now) (goes_on (rw idle refl)) carries_so s.smoltcp ∙ ap (λ tm. after_timer tm (readied v now) now) idle) win (ap (λ tm. is_keep_alive_over tm now) ((readied_alike v now).timer ∙ idle) ∙ over)

  pub falls_silent : (e : Duration) → v.keep_alive ≡ Some e → (r : Rests v) → IsNoProbe r → is_over (wakes r) now ≡ true → v.remote_win_len ≡ 0 → FallsSilent (told f now) v
  falls_silent e keeps r other over win = let b = begins t f v now s.reached s.no_timeout s.smoltcp r other over in silent d t v f now mtu s (goes_on b.no_end) carries_so b.view b.front (b.is (goes_on b.no_end) carries_so) e keeps win
