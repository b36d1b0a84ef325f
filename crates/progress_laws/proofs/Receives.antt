-- What a receiver in step does with a segment.
use Rattle.std.proofs.Common.{◌≡◌, ℕ, ◌+◌, ◌-◌, ◌*◌, ◌/◌, ◌<◌, ◌≤◌, ◌^◌, true, false, refl, sym, ap, subst, ◌∙◌, List, [], length, take, drop, min, Option, Some, None, arith, length-drop}
use Rattle.std.proofs.lemmas.List.{length-replicate}
use Rattle.std.specs.Option.{ForSome}
use Rattle.net_base.specs.declared.time.Instant.{Instant}
use Rattle.ip_wire.specs.declared.repr.IpRepr.{IpRepr}
use Rattle.control_wire.specs.Segment.{Segment}
use Rattle.control_wire.specs.Seq.{seq_add, seq_sub}
use Rattle.control_wire.specs.declared.seq_number.TcpSeqNumber.{TcpSeqNumber}
use Rattle.sock_core.specs.Received.{Received, holds_nothing, taken_in}
use Rattle.sock_core.specs.Seq.{later_of}
use Rattle.sock_tcp.proofs.Windows.{end_small, start_small, window_width}
use Rattle.sock_tcp.specs.Process.{bytes_taken}
use Rattle.progress_laws.specs.Smoltcp.{processed}
use Rattle.sock_tcp.specs.Queue.{Queue}
use Rattle.sock_tcp.specs.Queues.{read_off}
use Rattle.sock_tcp.specs.Replies.{ack_kept, ack_segment}
use Rattle.sock_tcp.specs.Steps.{ack_delayed, heard, joined, scale_of}
use Rattle.sock_tcp.specs.View.{View}
use Rattle.sock_tcp.specs.Window.{cut_bytes, cut_of, is_inside, next_ack, receive_window}
use Rattle.sock_tcp.specs.declared.timer.Timer.TheVariants as timer
use Rattle.sock_tcp.specs.declared.tuple.Tuple.{Tuple}
use Rattle.sock_tcp.specs.declared.window.Cut.{Cut}
use Rattle.progress_laws.specs.InStep.{IsReceiver, takes_bytes}
use Rattle.progress_laws.proofs.Begins.{not_zero}
use Rattle.progress_laws.proofs.Edges.{cut_at, is_not_before, later_stays, old_outside, shut_outside, tail_cut, tail_inside}
use Rattle.progress_laws.proofs.Hears.{HeardAs, IsData, all_no_duplicate, data_is_said, answered_outside, covered, heard_as, heard_inside, heard_rests_empty, idle_is, idle_moment, seen}
use Rattle.progress_laws.proofs.States.{flat_steady, is_steady, takes_flat}
use Rattle.progress_laws.proofs.Taking.{at_once, blank, blank_holds_nothing, read_bytes, read_held, take_all, taken_bytes, taken_held}
use Rattle.progress_laws.proofs.Widths.{start_is, told_window, unit_some}
use Rattle.sock_tcp.specs.declared.rules.Rules.TheVariants as rules
use Rattle.progress_laws.proofs.Sends.{smoltcp_field}

-- ---- what is told

-- the receiver w' has told all, in this segment
pub record Tells (w w' : View) (s : Tuple) (g : Segment) : Type 0 where
  pub receiver : IsReceiver s w'
  pub una : w'.local_seq_no ≡ w.local_seq_no
  pub shift : w'.remote_win_shift ≡ w.remote_win_shift
  pub bit : IsData g.control
  pub number : g.seq_number ≡ w.local_seq_no
  pub ack : g.ack_number ≡ Some (next_ack w')
  pub empty : length g.payload ≡ 0
  pub some : 0 < g.window_len * 2 ^ w.remote_win_shift
  pub window : seq_sub (receive_window w').end (receive_window w').start ≡ g.window_len * 2 ^ w.remote_win_shift

-- y has nothing to send and has read all, but n bytes behind the left edge of w are not acknowledged
pub record Owes (s : Tuple) (w : View) (room n : ℕ) (y : View) : Type 0 where
  pub state : takes_bytes y.state ≡ true
  pub peer : y.tuple ≡ Some s
  pub no_timeout : y.timeout ≡ None
  pub smoltcp : y.rules ≡ rules.Smoltcp
  pub interval : ForSome y.keep_alive (λ e. 0 < e.micros)
  pub moment : Option Instant
  pub timer : y.timer ≡ timer.Idle moment
  pub nothing_to_send : length y.tx_buffer.bytes ≡ 0
  pub una : y.local_seq_no ≡ w.local_seq_no
  pub nxt : y.remote_last_seq ≡ w.local_seq_no
  pub nothing_marked : y.pending_fast_retransmit ≡ false
  pub read : y.rx_buffer.bytes ≡ []
  pub nothing_held : y.rx_buffer.held ≡ blank room
  pub shift : y.remote_win_shift ≡ w.remote_win_shift
  pub last : TcpSeqNumber
  pub last_small : last.0 < 2 ^ 32
  pub last_ack : y.remote_last_ack ≡ Some last
  pub near : seq_sub (next_ack w) last ≤ 2 ^ 30
  pub next : (next_ack y).0 ≡ (seq_add (next_ack w) n).0

-- behind its first j bytes, which w has, the segment g has m bytes that are new and fit
pub record NewPart (w : View) (g : Segment) (j m : ℕ) : Type 0 where
  pub skips : seq_sub (next_ack w) g.seq_number ≡ j
  pub near : j < 2 ^ 31
  pub long : length g.payload ≡ j + m
  pub some : 0 < m
  pub fits : m ≤ seq_sub (receive_window w).end (receive_window w).start
  pub past : seq_sub (seq_add g.seq_number (length g.payload)) (next_ack w) ≡ m

-- it begins at una, of whose queue of q bytes w took n
pub new_part : (w : View) (g : Segment) (una : TcpSeqNumber) (n q : ℕ) → g.seq_number.0 ≡ una.0 → (next_ack w).0 ≡ (seq_add una n).0 → una.0 < 2 ^ 32 → n ≤ q → length g.payload ≤ q → q ≤ 2 ^ 30 → n < length g.payload → length g.payload ≤ n + seq_sub (receive_window w).end (receive_window w).start → NewPart w g n (length g.payload - n)
new_part w g una n q number edge small within queued short new fits = record {
  skips = omega (arith, number, edge, small, within, short);
  near = omega (arith, within, short);
  long = omega (arith, new);
  some = omega (arith, new);
  fits = omega (arith, fits, new);
  past = omega (arith, number, edge, small, within, queued, short, new);
}

module _ (s : Tuple) (w : View) (r : IsReceiver s w) where
  wide : length w.rx_buffer.held ≡ r.room
  wide = ap (λ (l : List (Option ℕ)). length l) r.nothing_held ∙ length-replicate r.room None

  pub width_small : seq_sub (receive_window w).end (receive_window w).start ≤ 2 ^ 30
  width_small = let h = window_width w (omega (arith, wide, r.room_at_most)) in omega (arith, h, wide, r.room_at_most)

  queue_short : length w.tx_buffer.bytes ≤ 2 ^ 30
  queue_short = omega (arith, r.nothing_to_send)

  pub room_for : (n : ℕ) → n ≤ seq_sub (receive_window w).end (receive_window w).start → n ≤ r.room
  room_for n fits = let h = window_width w (omega (arith, wide, r.room_at_most)) in omega (arith, h, wide, fits)

  module _ (now : Instant) (ip : IpRepr) (g : Segment) (una_small : w.local_seq_no.0 < 2 ^ 32) (bit : IsData g.control) (ack : g.ack_number ≡ Some w.local_seq_no) where
    pub flat : is_steady w.state ≡ true
    flat = flat_steady w.state (takes_flat w.state r.state)

    within : seq_sub w.local_seq_no w.local_seq_no ≤ length w.tx_buffer.bytes
    within = omega (arith, una_small)

    -- ---- what lies outside of the window is answered

    pub old_away : 0 < length g.payload → g.seq_number.0 < 2 ^ 32 → 0 < seq_sub (next_ack w) g.seq_number → seq_sub (next_ack w) g.seq_number < 2 ^ 31 → seq_sub (next_ack w) (seq_add g.seq_number (length g.payload)) < 2 ^ 31 → is_inside (receive_window w) g.seq_number (length g.payload) ≡ false
    unfolding is_inside
    old_away some small before near behind = rw (not_zero (length g.payload) some) (old_outside (receive_window w) (start_small w) (end_small w) width_small g.seq_number (seq_add g.seq_number (length g.payload)) small (subst (λ m. 0 < seq_sub m g.seq_number) (sym (start_is w)) before) (subst (λ m. seq_sub m g.seq_number < 2 ^ 31) (sym (start_is w)) near) (subst (λ m. seq_sub m (seq_add g.seq_number (length g.payload)) < 2 ^ 31) (sym (start_is w)) behind))

    pub shut_away : 0 < length g.payload → seq_sub (receive_window w).end (receive_window w).start ≡ 0 → is_inside (receive_window w) g.seq_number (length g.payload) ≡ false
    unfolding is_inside
    shut_away some z = rw (not_zero (length g.payload) some) (shut_outside (receive_window w) (start_small w) (end_small w) width_small g.seq_number (seq_add g.seq_number (length g.payload)) z)

    pub answers : 0 < length g.payload → is_inside (receive_window w) g.seq_number (length g.payload) ≡ false → (processed w now 0 ip g ≡ record { view = ack_kept w; reply = Some (ack_segment w g) }) × Tells w (ack_kept w) s (ack_segment w g)
    unfolding ack_kept ack_segment
    answers some away = (answered_outside w now 0 ip g w.local_seq_no flat ack bit una_small una_small within queue_short away (not_zero (length g.payload) some), tells)
      where
        tells : Tells w (ack_kept w) s (ack_segment w g)
        tells = record {
          receiver = record {
            state = r.state;
            peer = r.peer;
            no_timeout = r.no_timeout;
            smoltcp = r.smoltcp;
            interval = r.interval;
            moment = r.moment;
            timer = r.timer;
            nothing_to_send = r.nothing_to_send;
            nothing_in_flight = r.nothing_in_flight;
            nothing_marked = r.nothing_marked;
            read = r.read;
            room = r.room;
            nothing_held = r.nothing_held;
            room_at_most = r.room_at_most;
            room_at_least = r.room_at_least;
            last = next_ack w;
            last_small = omega arith;
            acknowledged = refl;
            near = omega arith;
          };
          una = refl;
          shift = refl;
          bit = tt;
          number = r.nothing_in_flight;
          ack = refl;
          empty = refl;
          some = subst (λ m. 0 < m * 2 ^ w.remote_win_shift) (sym (smoltcp_field w r.smoltcp)) (subst (λ n. 0 < min (n / 2 ^ w.remote_win_shift) 65535 * 2 ^ w.remote_win_shift) (sym wide) (unit_some r.room w.remote_win_shift r.room_at_least));
          window = told_window (ack_kept w) r.room wide r.room_at_most refl (smoltcp_field w r.smoltcp ∙ ap (λ n. min (n / 2 ^ w.remote_win_shift) 65535) wide) ∙ ap (λ n. min (n / 2 ^ w.remote_win_shift) 65535 * 2 ^ w.remote_win_shift) (sym wide) ∙ ap (λ m. m * 2 ^ w.remote_win_shift) (sym (smoltcp_field w r.smoltcp));
        }

    -- ---- bytes in order are taken

    -- y took them, and owes an acknowledgement
    abbrev x : View
    x = heard (seen w now 0 ip g w.local_seq_no flat ack bit) now (covered w now 0 ip g w.local_seq_no flat ack bit) g

    module _ (j m : ℕ) (np : NewPart w g j m) where
      -- what is new of it
      abbrev pub fresh_bytes : List ℕ
      fresh_bytes = drop j g.payload

      abbrev pub took : View
      took = ack_delayed (joined x 0 fresh_bytes) now

      pub fresh_length : length fresh_bytes ≡ m
      fresh_length = length-drop j g.payload ∙ omega (arith, np.long)

      abbrev k : ℕ
      k = r.room - m

      room_is : r.room ≡ length fresh_bytes + k
      room_is = let h = window_width w (omega (arith, wide, r.room_at_most)) in omega (arith, h, wide, np.fits, fresh_length)

      hears : HeardAs (seen w now 0 ip g w.local_seq_no flat ack bit) w.local_seq_no (seq_sub w.local_seq_no w.local_seq_no) (g.window_len * 2 ^ scale_of w.remote_win_scale) x
      hears = heard_as (seen w now 0 ip g w.local_seq_no flat ack bit) now (covered w now 0 ip g w.local_seq_no flat ack bit) g w.local_seq_no ack (data_is_said g.control bit)

      past_start : seq_sub (seq_add g.seq_number (length g.payload)) (receive_window w).start ≡ m
      past_start = ap (λ e. seq_sub (seq_add g.seq_number (length g.payload)) e) (start_is w) ∙ np.past

      inside : is_inside (receive_window w) g.seq_number (length g.payload) ≡ true
      unfolding is_inside
      inside = rw (not_zero (length g.payload) (omega (arith, np.long, np.some))) (tail_inside (receive_window w) (start_small w) (end_small w) width_small g.seq_number (seq_add g.seq_number (length g.payload)) m (omega arith) np.some np.fits past_start)

      cut_is : cut_of (receive_window w) g.seq_number (length g.payload) ≡ cut_at j m 0
      cut_is = tail_cut (receive_window w) (start_small w) (end_small w) width_small g.seq_number (seq_add g.seq_number (length g.payload)) m (omega arith) np.some np.fits past_start j (length g.payload) (ap (λ e. seq_sub e g.seq_number) (start_is w) ∙ np.skips) np.near refl

      all_taken : bytes_taken x now 0 fresh_bytes g ≡ record { view = took; reply = None }
      unfolding bytes_taken joined ack_delayed
      all_taken = rw (not_zero (length fresh_bytes) (omega (arith, fresh_length, np.some)), at_once x.rx_buffer fresh_bytes, nothing_before, nothing_after) refl
        where
          nothing_before : holds_nothing x.rx_buffer.held ≡ true
          nothing_before = ap (λ (b : Received). holds_nothing b.held) hears.rx ∙ ap holds_nothing r.nothing_held ∙ blank_holds_nothing r.room

          nothing_after : holds_nothing (taken_in x.rx_buffer 0 fresh_bytes).held ≡ true
          nothing_after = ap holds_nothing (taken_held x.rx_buffer r.room k fresh_bytes (ap (λ (b : Received). b.bytes) hears.rx ∙ r.read) (ap (λ (b : Received). b.held) hears.rx ∙ r.nothing_held) room_is) ∙ blank_holds_nothing k

      pub takes : processed w now 0 ip g ≡ record { view = took; reply = None }
      takes = heard_inside w now 0 ip g w.local_seq_no flat ack bit una_small una_small within queue_short inside
          ∙ ap (λ (c : Cut). bytes_taken x now c.offset (cut_bytes c g.payload) g) cut_is
          ∙ ap (λ (l : List ℕ). bytes_taken x now 0 l g) (ap (λ n. take n fresh_bytes) (sym fresh_length) ∙ take_all fresh_bytes)
          ∙ all_taken

      -- what it took is read
      abbrev pub y : View
      y = read_off took (length fresh_bytes)

      pub took_bytes : took.rx_buffer.bytes ≡ fresh_bytes
      unfolding joined ack_delayed
      took_bytes = taken_bytes x.rx_buffer r.room k fresh_bytes (ap (λ (b : Received). b.bytes) hears.rx ∙ r.read) (ap (λ (b : Received). b.held) hears.rx ∙ r.nothing_held) room_is

      took_held : took.rx_buffer.held ≡ blank k
      unfolding joined ack_delayed
      took_held = taken_held x.rx_buffer r.room k fresh_bytes (ap (λ (b : Received). b.bytes) hears.rx ∙ r.read) (ap (λ (b : Received). b.held) hears.rx ∙ r.nothing_held) room_is

      pub owes : Owes s w r.room (length fresh_bytes) y
      unfolding read_off joined ack_delayed
      owes = record {
        state = ap takes_bytes hears.state ∙ r.state;
        peer = hears.peer ∙ r.peer;
        no_timeout = hears.timeout ∙ r.no_timeout;
        smoltcp = hears.same_rules ∙ r.smoltcp;
        interval = subst (λ o. ForSome o (λ e. 0 < e.micros)) (sym hears.keep_alive) r.interval;
        moment = idle_moment now w.keep_alive;
        timer = heard_rests_empty (seen w now 0 ip g w.local_seq_no flat ack bit) now (covered w now 0 ip g w.local_seq_no flat ack bit) g w.local_seq_no ack (data_is_said g.control bit) (all_no_duplicate (seen w now 0 ip g w.local_seq_no flat ack bit) now (covered w now 0 ip g w.local_seq_no flat ack bit) g w.local_seq_no (is_not_before w.local_seq_no w.remote_last_seq (omega (arith, una_small, ap (λ (n : TcpSeqNumber). n.0) r.nothing_in_flight)))) r.moment r.timer r.nothing_to_send ∙ idle_is now w.keep_alive;
        nothing_to_send = ap (λ (q : Queue). length q.bytes) hears.tx ∙ omega (arith, length-drop (seq_sub w.local_seq_no w.local_seq_no) w.tx_buffer.bytes, r.nothing_to_send);
        una = hears.una;
        nxt = hears.nxt ∙ ap (λ n. later_of n w.local_seq_no) r.nothing_in_flight ∙ later_stays w.local_seq_no w.local_seq_no (is_not_before w.local_seq_no w.local_seq_no (omega (arith, una_small)));
        nothing_marked = hears.marked ∙ r.nothing_marked;
        read = read_bytes took.rx_buffer fresh_bytes took_bytes;
        nothing_held = read_held took.rx_buffer k (length fresh_bytes) took_held ∙ ap blank (omega (arith, room_is));
        shift = hears.shift;
        last = r.last;
        last_small = r.last_small;
        last_ack = hears.last_ack ∙ r.acknowledged;
        near = r.near;
        next = omega (arith, ap (λ (n : TcpSeqNumber). n.0) hears.rcv, ap (λ (l : List ℕ). length l) r.read, ap (λ (l : List ℕ). length l) (read_bytes took.rx_buffer fresh_bytes took_bytes));
      }
