-- How a receiver in step acknowledges what it took, once that may wait no longer.
use Rattle.std.proofs.Common.{◌≡◌, ℕ, ◌+◌, ◌*◌, ◌/◌, ◌<◌, ◌≤◌, ◌^◌, Bool, true, false, not, ◌&&◌, ◌||◌, refl, sym, ap, subst, ◌∙◌, List, [], ◌∷◌, length, min, Option, Some, None, arith}
use Rattle.std.specs.Prelude.{if◌then◌else◌, ◌==◌}
use Rattle.std.proofs.lemmas.Int.{ints}
use Rattle.std.proofs.lemmas.List.{length-replicate}
use Rattle.std.specs.Option.{ForSome}
use Rattle.net_base.specs.declared.time.Duration.{Duration}
use Rattle.net_base.specs.declared.time.Instant.{Instant}
use Rattle.control_wire.specs.Segment.{Segment, segment_len}
use Rattle.control_wire.specs.Seq.{seq_add}
use Rattle.control_wire.specs.declared.seq_number.TcpSeqNumber.{TcpSeqNumber}
use Rattle.control_wire.specs.declared.tcp.TcpControl.TheVariants as control
use Rattle.sock_core.specs.Facts.{Facts}
use Rattle.sock_core.specs.Received.{Received}
use Rattle.sock_core.specs.Seq.{is_before, later_of}
use Rattle.sock_core.specs.declared.context.PollAt.TheVariants as poll
use Rattle.sock_tcp.proofs.UserTimeout.{none_runs}
use Rattle.sock_tcp.proofs.Lending.{lent_at_most}
use Rattle.sock_tcp.specs.Begin.{after_timer, is_paused, readied}
use Rattle.sock_tcp.specs.Content.{Sending, asked, carries_data, content, emission_kind, is_probing, offset_of, plain_segment, sent_as}
use Rattle.sock_tcp.specs.Due.{ack_due, ack_poll, data_due, held_poll, is_ack_after, is_closed, is_due, window_doubled, window_field}
use Rattle.sock_tcp.specs.Rfc.OwnWindow.{space_field}
use Rattle.sock_tcp.specs.Polls.{delay_poll, is_reached}
use Rattle.sock_tcp.specs.Queue.{Queue}
use Rattle.sock_tcp.specs.Timers.{after as moment_after, idle_from, is_keep_alive_over, is_over, is_probe_over, keep_alive_renewed}
use Rattle.sock_tcp.specs.View.{View}
use Rattle.sock_tcp.specs.Window.{next_ack}
use Rattle.sock_tcp.specs.declared.state.State.{State}
use Rattle.sock_tcp.specs.declared.state.State.TheVariants as state
use Rattle.sock_tcp.specs.declared.emission.Kind.TheVariants as kind
use Rattle.sock_tcp.specs.declared.timer.Timer.TheVariants as timer
use Rattle.sock_tcp.specs.declared.tuple.Tuple.{Tuple}
use Rattle.tcp_laws.proofs.Sleeping.{smoltcp_held}
use Rattle.progress_laws.specs.InStep.{takes_bytes, told}
use Rattle.progress_laws.specs.Speech.{DispatchesOk, GoesOn, SendsOk}
use Rattle.progress_laws.proofs.Begins.{smoltcp_begins, Alike, beginning, content_is, content_waiting, lent_for, readied_alike, segment_for, told_for, sends_so, stamp_for, stamp_is}
use Rattle.progress_laws.proofs.Edges.{is_earlier, is_not_before, later_stays}
use Rattle.progress_laws.proofs.Hears.{idle_is, idle_moment}
use Rattle.progress_laws.proofs.Says.{keep_alive_due, no_probe}
use Rattle.progress_laws.proofs.Sends.{kept_delay, kept_nxt, kept_sent, kept_timer, kept_untold, left, plain_sent, plain_timer, plain_told, segment_ack, segment_bit, segment_length, segment_number, segment_window, smoltcp_field, without_bytes}
use Rattle.progress_laws.proofs.States.{flat_on, flat_open, is_flat, takes_flat, takes_runs}
use Rattle.progress_laws.proofs.Taking.{blank}
use Rattle.progress_laws.proofs.Receives.{Owes, Tells}
use Rattle.progress_laws.proofs.Widths.{told_window, unit, unit_some}

-- ---- the acknowledgement that is owed

pub not_yet : (now : Instant) (d : Duration) → 0 < d.micros → is_over (moment_after now d) now ≡ false
not_yet now d h = go (is_over (moment_after now d) now) refl
  where
    go : (b : Bool) → is_over (moment_after now d) now ≡ b → b ≡ false
    go true e = absurd (grind (arith, ints, e, h))
    go false e = refl

-- what an acknowledgement leaves alone
pub record Kept (y w : View) : Type 0 where
  pub state : w.state ≡ y.state
  pub keep_alive : w.keep_alive ≡ y.keep_alive
  pub window : w.remote_win_len ≡ y.remote_win_len
  pub scale : w.remote_win_scale ≡ y.remote_win_scale
  pub tx : w.tx_buffer ≡ y.tx_buffer
  pub rx : w.rx_buffer ≡ y.rx_buffer

module _ (s : Tuple) (w : View) (room n : ℕ) (y : View) (f : Facts) (now : Instant) (address : f.has_address s.local.addr ≡ true) (o : Owes s w room n y) where
  abbrev fa : Facts
  fa = told f now

  on : GoesOn y s fa
  on = record { peer = o.peer; address = address; alive = rw (none_runs y o.no_timeout) refl; no_end = rw o.timer refl }

  carries : is_paused y.state y.synack_paused ≡ false
  carries = takes_runs y.state y.synack_paused o.state

  abbrev u : View
  u = readied y now

  al : Alike y u
  al = readied_alike y now

  u_is : beginning y s fa on carries ≡ u
  u_is = smoltcp_begins y s fa on carries o.smoltcp ∙ ap (λ tm. after_timer tm u now) o.timer

  takes_on : takes_bytes u.state ≡ true
  takes_on = ap takes_bytes al.same.state ∙ o.state

  pub sends : is_flat u.state ≡ true
  sends = takes_flat u.state takes_on

  pub opens : is_closed u.state ≡ false
  opens = flat_open u.state sends

  idle : u.timer ≡ timer.Idle o.moment
  idle = al.timer ∙ o.timer

  no_probing : is_probing u now ≡ false
  no_probing = no_probe u now (ap (λ tm. is_probe_over tm now) idle)

  next : next_ack u ≡ next_ack y
  next = (λ i. seq_add (al.same.rcv i) (length ((al.same.rx i).bytes)))

  abbrev bytes : List ℕ
  bytes = lent_for u s fa

  none : length bytes ≡ 0
  none = omega (arith, lent_at_most u.tx_buffer (offset_of u) (asked u s fa) bytes refl, ap (λ (q : Queue). length q.bytes) al.same.tx, o.nothing_to_send)

  nothing_marked : u.pending_fast_retransmit ≡ false
  nothing_marked = al.marked ∙ o.nothing_marked

  abbrev b : Segment
  b = told_for u s fa (stamp_for u) bytes

  -- in FIN-WAIT-2 it is an acknowledgement alone
  same_plain : segment_for u s (stamp_for u) bytes ≡ plain_segment u s (stamp_for u)
  unfolding plain_segment
  same_plain = (λ i. record (plain_segment u s (stamp_for u)) { seq_number = at i; control = no_control i; payload = no_bytes bytes none i })
    where
      at : b.seq_number ≡ u.remote_last_seq
      at = rw nothing_marked refl

      go : (a : Bool) → (if a then control.None else control.None) ≡ control.None
      go true = refl
      go false = refl

      no_control : b.control ≡ control.None
      no_control = rw (none, flat_on u.state sends) (go (offset_of u + 0 == length u.tx_buffer.bytes))

      no_bytes : (l : List ℕ) → length l ≡ 0 → l ≡ []
      no_bytes [] e = refl
      no_bytes (x ∷ l) e = absurd (omega (arith, e))

  content_here : content u s fa (stamp_for u) bytes ≡ Some (sent_as u s (emission_kind u now b) b)
  content_here = by u.state refl takes_on
    where
      by : (st : State) → u.state ≡ st → takes_bytes st ≡ true → content u s fa (stamp_for u) bytes ≡ Some (sent_as u s (emission_kind u now b) b)
      by state.Established e h = content_is u s fa (stamp_for u) bytes (ap carries_data e)
      by state.FinWait2 e h = content_waiting u s fa (stamp_for u) bytes e same_plain
      by _ e h = absurd cc

  -- ---- its keep-alive comes first

  module _ (over : is_keep_alive_over y.timer now ≡ true) where
    keeps : emission_kind u now b ≡ kind.KeepAlive
    keeps = without_bytes u s (stamp_for u) bytes sends nothing_marked now no_probing none true (ap (λ tm. is_keep_alive_over tm now) al.timer ∙ over)

    abbrev pub kept_out : Sending
    kept_out = sent_as u s kind.KeepAlive b

    abbrev pub renewed : View
    renewed = left u s now b opens kind.KeepAlive

    pub renews : DispatchesOk fa y (Some kept_out) renewed
    renews = sends_so y s fa on carries (Some kept_out) renewed (ap (λ x. is_due x s fa) u_is ∙ keep_alive_due u s fa (ap (λ tm. is_keep_alive_over tm now) al.timer ∙ over)) (subst (λ x. SendsOk fa s x (Some kept_out) renewed) (sym u_is) (record {
      stamp = stamp_for u;
      told = stamp_is u;
      bytes = bytes;
      lent = refl;
      sends = sym (content_here ∙ ap (λ c. Some (sent_as u s c b)) keeps);
      view = refl;
    }))

    new_timer : renewed.timer ≡ idle_from now y.keep_alive
    new_timer = kept_timer u s now b opens ∙ ap (λ tm. keep_alive_renewed tm now u.keep_alive) idle ∙ ap (idle_from now) al.same.keep_alive

    pub still_owes : Owes s w room n renewed
    still_owes =
        let l = kept_sent u s now b opens in
        record {
          state = ap takes_bytes l.same.state ∙ takes_on;
          peer = l.same.peer ∙ al.same.peer ∙ o.peer;
          no_timeout = l.same.timeout ∙ al.same.timeout ∙ o.no_timeout;
          smoltcp = l.same.same_rules ∙ al.same.same_rules ∙ o.smoltcp;
          interval = subst (λ q. ForSome q (λ e. 0 < e.micros)) (sym (l.same.keep_alive ∙ al.same.keep_alive)) o.interval;
          moment = idle_moment now y.keep_alive;
          timer = new_timer ∙ idle_is now y.keep_alive;
          nothing_to_send = ap (λ (q : Queue). length q.bytes) (l.same.tx ∙ al.same.tx) ∙ o.nothing_to_send;
          una = l.same.una ∙ al.same.una ∙ o.una;
          nxt = kept_nxt u s now b opens ∙ al.nxt ∙ o.nxt;
          nothing_marked = l.marked ∙ ap (λ m. m && not (carries_data u.state)) nothing_marked;
          read = ap (λ (q : Received). q.bytes) (l.same.rx ∙ al.same.rx) ∙ o.read;
          nothing_held = ap (λ (q : Received). q.held) (l.same.rx ∙ al.same.rx) ∙ o.nothing_held;
          shift = l.same.shift ∙ al.same.shift ∙ o.shift;
          last = o.last;
          last_small = o.last_small;
          last_ack = (kept_untold u s now b opens).last_ack ∙ al.last_ack ∙ o.last_ack;
          near = o.near;
          next = ap (λ (k : TcpSeqNumber). k.0) ((λ i. seq_add (l.same.rcv i) (length ((l.same.rx i).bytes))) ∙ next) ∙ o.next;
        }

    pub late_then : is_reached (delay_poll renewed.ack_delay_timer) now ≡ true
    late_then = ap (λ a. is_reached (delay_poll a) now) (kept_delay u s now b opens)

    pub not_over_then : is_keep_alive_over renewed.timer now ≡ false
    not_over_then = ap (λ tm. is_keep_alive_over tm now) new_timer ∙ by y.keep_alive o.interval
      where
        by : (keep : Option Duration) → ForSome keep (λ e. 0 < e.micros) → is_keep_alive_over (idle_from now keep) now ≡ false
        by None h = refl
        by (Some d) h = not_yet now d (h d refl)

  -- ---- the acknowledgement

  module _ (some : 0 < n) (fits : n ≤ room) (narrow : room ≤ 2 ^ 30) (at_least : 2 ^ w.remote_win_shift ≤ room) (una_small : w.local_seq_no.0 < 2 ^ 32) (late : is_reached (delay_poll y.ack_delay_timer) now ≡ true) (not_over : is_keep_alive_over y.timer now ≡ false) where
    owed : ack_due u ≡ true
    unfolding ack_due
    owed = ap (λ a. is_ack_after a (next_ack u)) (al.last_ack ∙ o.last_ack) ∙ ap (is_before o.last) next ∙ is_earlier o.last (next_ack y) (omega (arith, o.next, some, fits, narrow, o.near, o.last_small))

    due : is_due u s fa ≡ true
    unfolding is_due
    due = by (data_due u s fa) (is_reached (held_poll u) now) (ap (λ p. is_reached p now) (smoltcp_held u (al.same.same_rules ∙ o.smoltcp)) ∙ reached)
      where
        reached : is_reached (ack_poll u) now ≡ true
        reached = ap (λ b. is_reached (if b then delay_poll u.ack_delay_timer else poll.Ingress) now) owed ∙ ap (λ a. is_reached (delay_poll a) now) al.delay ∙ late

        by : (a k : Bool) → k ≡ true → (a || k || window_doubled u || is_closed u.state || is_keep_alive_over u.timer now || is_probe_over u.timer now) ≡ true
        by true k e = refl
        by false k e = rw e refl

    plain : emission_kind u now b ≡ kind.Plain
    plain = without_bytes u s (stamp_for u) bytes sends nothing_marked now no_probing none false (ap (λ tm. is_keep_alive_over tm now) al.timer ∙ not_over)

    abbrev pub out_of : Sending
    out_of = sent_as u s kind.Plain b

    abbrev pub after : View
    after = left u s now b opens kind.Plain

    pub acknowledges : DispatchesOk fa y (Some out_of) after
    acknowledges = sends_so y s fa on carries (Some out_of) after (ap (λ x. is_due x s fa) u_is ∙ due) (subst (λ x. SendsOk fa s x (Some out_of) after) (sym u_is) (record {
      stamp = stamp_for u;
      told = stamp_is u;
      bytes = bytes;
      lent = refl;
      sends = sym (content_here ∙ ap (λ c. Some (sent_as u s c b)) plain);
      view = refl;
    }))

    long : segment_len b ≡ 0
    long = segment_length u s (stamp_for u) bytes sends nothing_marked ∙ none

    number : b.seq_number ≡ w.local_seq_no
    number = segment_number u s (stamp_for u) bytes sends nothing_marked ∙ al.nxt ∙ o.nxt

    field : window_field u ≡ min (room / 2 ^ w.remote_win_shift) 65535
    field = smoltcp_field u (al.same.same_rules ∙ o.smoltcp) ∙ (λ i. min (wide i / 2 ^ (al.same.shift ∙ o.shift) i) 65535)
      where
        wide : length u.rx_buffer.held ≡ room
        wide = ap (λ (q : Received). length q.held) al.same.rx ∙ ap (λ (l : List (Option ℕ)). length l) o.nothing_held ∙ length-replicate room None

    pub kept_then : Kept y after
    kept_then = let l = plain_sent u s now b opens (al.same.same_rules ∙ o.smoltcp) in record { state = l.same.state ∙ al.same.state; keep_alive = l.same.keep_alive ∙ al.same.keep_alive; window = l.same.window ∙ al.same.window; scale = l.same.scale ∙ al.same.scale; tx = l.same.tx ∙ al.same.tx; rx = l.same.rx ∙ al.same.rx }

    pub field_is : out_of.segment.window_len ≡ min (room / 2 ^ w.remote_win_shift) 65535
    field_is = segment_window u s (stamp_for u) bytes sends nothing_marked ∙ field

    pub next_is : next_ack after ≡ next_ack y
    next_is = let l = plain_sent u s now b opens (al.same.same_rules ∙ o.smoltcp) in (λ i. seq_add (l.same.rcv i) (length ((l.same.rx i).bytes))) ∙ next

    pub tells : Tells w after s out_of.segment
    tells =
        let l = plain_sent u s now b opens (al.same.same_rules ∙ o.smoltcp) in
        let rcv : next_ack after ≡ next_ack u = (λ i. seq_add (l.same.rcv i) (length ((l.same.rx i).bytes))) in
        let shift : after.remote_win_shift ≡ w.remote_win_shift = l.same.shift ∙ al.same.shift ∙ o.shift in
        let ack : after.remote_last_ack ≡ Some (next_ack after) = (plain_told u s now b opens).ack ∙ segment_ack u s (stamp_for u) bytes sends nothing_marked ∙ ap Some (sym rcv) in
        let held : after.rx_buffer.held ≡ blank room = ap (λ (q : Received). q.held) (l.same.rx ∙ al.same.rx) ∙ o.nothing_held in
        let told_field : b.window_len ≡ min (room / 2 ^ w.remote_win_shift) 65535 = field_is in
        record {
          receiver = record {
            state = ap takes_bytes l.same.state ∙ takes_on;
            peer = l.same.peer ∙ al.same.peer ∙ o.peer;
            no_timeout = l.same.timeout ∙ al.same.timeout ∙ o.no_timeout;
            smoltcp = l.same.same_rules ∙ al.same.same_rules ∙ o.smoltcp;
            interval = subst (λ q. ForSome q (λ e. 0 < e.micros)) (sym (l.same.keep_alive ∙ al.same.keep_alive)) o.interval;
            moment = idle_moment now u.keep_alive;
            timer = plain_timer u s now b opens (al.same.same_rules ∙ o.smoltcp) true (rw long refl) ∙ ap (λ tm. keep_alive_renewed tm now u.keep_alive) idle ∙ idle_is now u.keep_alive;
            nothing_to_send = ap (λ (q : Queue). length q.bytes) (l.same.tx ∙ al.same.tx) ∙ o.nothing_to_send;
            nothing_marked = l.marked ∙ ap (λ m. m && not (carries_data u.state)) nothing_marked;
            nothing_in_flight = (plain_told u s now b opens).nxt ∙ (λ i. later_of ((al.nxt ∙ o.nxt) i) (seq_add (number i) (long i))) ∙ stays ∙ sym (l.same.una ∙ al.same.una ∙ o.una);
            read = ap (λ (q : Received). q.bytes) (l.same.rx ∙ al.same.rx) ∙ o.read;
            room = room;
            nothing_held = held;
            room_at_most = narrow;
            room_at_least = subst (λ k. 2 ^ k ≤ room) (sym shift) at_least;
            last = next_ack after;
            last_small = omega arith;
            acknowledged = ack;
            near = omega arith;
          };
          una = l.same.una ∙ al.same.una ∙ o.una;
          shift = shift;
          bit = segment_bit u s (stamp_for u) bytes sends nothing_marked;
          number = number;
          ack = segment_ack u s (stamp_for u) bytes sends nothing_marked ∙ ap Some (sym rcv);
          empty = none;
          some = subst (λ n. 0 < n * 2 ^ w.remote_win_shift) (sym told_field) (unit_some room w.remote_win_shift at_least);
          window = told_window after room (ap (λ (l : List (Option ℕ)). length l) held ∙ length-replicate room None) narrow ack ((plain_told u s now b opens).window ∙ told_field ∙ ap (λ k. min (room / 2 ^ k) 65535) (sym shift)) ∙ ap (unit room) shift ∙ ap (λ n. n * 2 ^ w.remote_win_shift) (sym told_field);
        }
      where
        stays : later_of w.local_seq_no (seq_add w.local_seq_no 0) ≡ w.local_seq_no
        stays = later_stays w.local_seq_no (seq_add w.local_seq_no 0) (is_not_before w.local_seq_no (seq_add w.local_seq_no 0) (omega (arith, una_small)))
