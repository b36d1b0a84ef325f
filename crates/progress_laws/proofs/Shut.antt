-- A side that knows a window of 0 asks for it, and is told.
use Rattle.std.proofs.Common.{◌≡◌, ℕ, ◌*◌, ◌<◌, ◌≤◌, ◌^◌, ◌⊎◌, inl, inr, true, false, true≢false, refl, sym, ap, subst, ◌∙◌, List, ◌++◌, length, take, drop, Option, Some, None, arith, append_assoc}
use Rattle.std.specs.Prelude.{◌≤ℤ◌, is_some}
use Rattle.net_base.specs.declared.time.Duration.{Duration}
use Rattle.net_base.specs.declared.time.Instant.{Instant}
use Rattle.control_wire.specs.Seq.{seq_add, seq_sub}
use Rattle.control_wire.specs.declared.seq_number.TcpSeqNumber.{TcpSeqNumber}
use Rattle.sock_core.specs.Bounds.{IsMtu}
use Rattle.sock_core.specs.Facts.{Facts}
use Rattle.sock_core.specs.Received.{Received}
use Rattle.sock_tcp.proofs.Windows.{end_small, start_small, window_width}
use Rattle.sock_tcp.specs.Content.{Sending}
use Rattle.sock_tcp.specs.Rfc.OwnWindow.{space_field}
use Rattle.progress_laws.specs.Smoltcp.{processed}
use Rattle.sock_tcp.specs.Queue.{Queue}
use Rattle.sock_tcp.specs.Queues.{may_send}
use Rattle.sock_tcp.specs.Replies.{ack_kept, ack_segment}
use Rattle.sock_tcp.specs.Steps.{scale_of}
use Rattle.sock_tcp.specs.Timers.{after as moment_after, is_over, twice}
use Rattle.sock_tcp.specs.View.{View}
use Rattle.sock_tcp.specs.Window.{is_inside, next_ack, receive_window}
use Rattle.sock_tcp.specs.declared.timer.Timer.TheVariants as timer
use Rattle.sock_tcp.specs.declared.tuple.Tuple.{Tuple}
use Rattle.tcp_laws.proofs.OrderedCalls.{reached_ordered}
use Rattle.progress_laws.specs.BothWays.{IsSide, Toward, window_told}
use Rattle.progress_laws.specs.InStep.{ForAnswer, ForKeepAlive, ForNothing, ForProbe, GoesAstray, Moves, NoMove, OneMore, Rests, told as told_at}
use Rattle.progress_laws.specs.ShutWindows.{SidesShut, CanHear, KnowsOne, TowardShut, WillAsk, width}
use Rattle.progress_laws.proofs.Begins.{later_moment, not_zero, some_or_none}
use Rattle.progress_laws.proofs.Edges.{empty_inside_so, reach_inside, same_seq, shut_outside}
use Rattle.progress_laws.proofs.Hears.{answered_outside}
use Rattle.progress_laws.proofs.Probes.{probe_again, probe_field, probe_one, probe_shift, probe_tells_nothing, probe_unsent, probe_window_known, says_probe}
use Rattle.progress_laws.proofs.Rounds.{cut_and_rest, joined}
use Rattle.progress_laws.proofs.Sends.{HasTold, Untold, smoltcp_field}
use Rattle.progress_laws.proofs.Sides.{Brought, HearsAnswer, brings_side, caught_side, hears_answer, side_narrow, told_some, wide_so}
use Rattle.progress_laws.proofs.Speaks.{FallsSilent, Speaks, SpeaksBytes, SpeaksNothing, falls_silent, says_nothing, wakes}
use Rattle.progress_laws.proofs.Takes.{IsCaughtUp, Took, old_answered}
use Rattle.progress_laws.proofs.Widths.{same_width, start_is, told_alike, width_told}

-- ---- it asked, and knows a window

shut_of : {v w : View} → Toward v w → TowardShut v w
shut_of o = record { taken = o.taken; taken_within = o.taken_within; there = o.there; scale = o.scale; window = o.window; at_most = o.at_most }

pub record Asked (d e : Option Duration) (t s : Tuple) (f : Facts) (at : Instant) (v w : View) (got : List ℕ) (n m : ℕ) : Type 0 where
  pub end : Instant
  pub here : View
  pub across : View
  pub more : List ℕ
  pub moves : Moves f at v w got end here across more
  pub in_shut : SidesShut d e t s here across
  pub known : 0 < here.remote_win_len
  pub still : 0 < w.remote_win_len → 0 < across.remote_win_len
  pub reach : seq_sub w.remote_last_seq (next_ack v) < window_told v → seq_sub across.remote_last_seq (next_ack here) < window_told here
  pub reach_own : (0 < v.remote_win_len → seq_sub v.remote_last_seq (next_ack w) < window_told w) → seq_sub here.remote_last_seq (next_ack across) < window_told across
  pub whole : more ++ drop in_shut.over.taken here.tx_buffer.bytes ≡ got ++ drop n v.tx_buffer.bytes
  pub others : drop in_shut.back.taken across.tx_buffer.bytes ≡ drop m w.tx_buffer.bytes

-- the side v, which is to ask, and w, which may have to ask later
pub record Asks (d e : Option Duration) (t s : Tuple) (v w : View) : Type 0 where
  pub here : IsSide d t v
  pub across : IsSide e s w
  pub over : TowardShut v w
  pub back : TowardShut w v
  pub later : (0 < w.remote_win_len) ⊎ (((at : Instant) → w.timer ≡ timer.Retransmit at → is_some w.keep_alive ≡ true) × (window_told w ≤ width w))

asks_of : {d e : Option Duration} {t s : Tuple} {v w : View} → SidesShut d e t s v w → Asks d e t s v w
asks_of {d} {e} {t} {s} {v} {w} i = record { here = i.here; across = i.across; over = i.over; back = i.back; later = by i.hears_across }
  where
    by : CanHear w v → (0 < w.remote_win_len) ⊎ (((at : Instant) → w.timer ≡ timer.Retransmit at → is_some w.keep_alive ≡ true) × (window_told w ≤ width w))
    by (KnowsOne h) = inl h
    by (WillAsk not_last h told) = inr (not_last, told)

asked_none : (d e : Option Duration) (t s : Tuple) (f : Facts) (at : Instant) (v w : View) (got : List ℕ) (i : SidesShut d e t s v w) → 0 < v.remote_win_len → Asked d e t s f at v w got i.over.taken i.back.taken
asked_none d e t s f at v w got i known = record { end = at; here = v; across = w; more = got; moves = NoMove at v w got; in_shut = i; known = known; still = λ h. h; reach = λ h. h; reach_own = λ h. h known; whole = refl; others = refl }

module _ (d e : Option Duration) (t s : Tuple) (f : Facts) (at now : Instant) (since : at.micros ≤ℤ now.micros) (v w : View) (got : List ℕ) (i : Asks d e t s v w) where
  v_small : v.local_seq_no.0 < 2 ^ 32
  v_small = (reached_ordered v i.here.sender.reached).una_small

  queue_short : length v.tx_buffer.bytes ≤ 2 ^ 30
  queue_short = omega (arith, (reached_ordered v i.here.sender.reached).room)

  edge : (next_ack w).0 ≡ (seq_add v.local_seq_no i.over.taken).0
  edge = ap (λ (m : TcpSeqNumber). m.0) i.over.there

  width_w : seq_sub (receive_window w).end (receive_window w).start ≤ 2 ^ 30
  width_w = omega (arith, window_width w (omega (arith, wide_so w i.across.room i.across.nothing_held, side_narrow i.across)), wide_so w i.across.room i.across.nothing_held, side_narrow i.across)

  width_v : seq_sub (receive_window v).end (receive_window v).start ≤ 2 ^ 30
  width_v = omega (arith, window_width v (omega (arith, wide_so v i.here.room i.here.nothing_held, side_narrow i.here)), wide_so v i.here.room i.here.nothing_held, side_narrow i.here)

  -- ---- what it said told nothing, and w has it already, or has no place for it

  module _ (hears : (w.remote_last_seq ≡ next_ack v) ⊎ (seq_sub w.remote_last_seq (next_ack v) < window_told v)) (told : window_told v ≤ width v) where
    caught : IsCaughtUp w (next_ack v) i.back.taken i.across.room
    caught = caught_side i.across (next_ack v) i.back.taken i.back.there i.back.taken_within (by hears)
      where
        by : (w.remote_last_seq ≡ next_ack v) ⊎ (seq_sub w.remote_last_seq (next_ack v) < window_told v) → seq_sub w.remote_last_seq (next_ack v) ≤ 2 ^ 30
        by (inl e) = omega (arith, ap (λ (q : TcpSeqNumber). q.0) e)
        by (inr h) = omega (arith, h, told, width_v)

  module _ (out : Sending) (x : View) (speaks : Speaks (told_at f now) v out x) (shift : x.remote_win_shift ≡ v.remote_win_shift) (untold : Untold v x) (short : length out.segment.payload ≤ 65535) (number : out.segment.seq_number.0 < 2 ^ 32) (hears : (w.remote_last_seq ≡ next_ack v) ⊎ (seq_sub w.remote_last_seq (next_ack v) < window_told v)) (told : window_told v ≤ width v) where
    own : next_ack x ≡ next_ack v
    own = (λ j. seq_add (speaks.waits.same.rcv j) (length ((speaks.waits.same.rx j).bytes)))

    width_x : seq_sub (receive_window x).end (receive_window x).start ≡ seq_sub (receive_window v).end (receive_window v).start
    width_x = same_width v x speaks.waits.same.rx speaks.waits.same.rcv shift untold.last_ack untold.last_win

    start_x : (receive_window x).start ≡ next_ack v
    start_x = start_is x ∙ own

    lies : is_inside (receive_window x) w.remote_last_seq 0 ≡ true
    unfolding is_inside
    lies = by hears
      where
        narrow : seq_sub (receive_window x).end (receive_window x).start ≤ 2 ^ 30
        narrow = omega (arith, width_x, width_v)

        by : (w.remote_last_seq ≡ next_ack v) ⊎ (seq_sub w.remote_last_seq (next_ack v) < window_told v) → is_inside (receive_window x) w.remote_last_seq 0 ≡ true
        by (inl e) = ap (λ n. is_inside (receive_window x) n 0) (e ∙ sym start_x) ∙ empty_inside_so (receive_window x) (start_small x) (end_small x) narrow
        by (inr h) = reach_inside (receive_window x) (start_small x) (end_small x) narrow w.remote_last_seq (reached_ordered w i.across.sender.reached).nxt_small (omega (arith, width_x, h, told, ap (λ (q : TcpSeqNumber). q.0) start_x))

    module _ (answer : processed w now 0 out.ip out.segment ≡ record { view = ack_kept w; reply = Some (ack_segment w out.segment) }) (near : seq_sub (next_ack w) x.remote_last_seq ≤ 2 ^ 30) where
      r : HearsAnswer d e t s f now v w x i.over.taken
      r = hears_answer d e t s f now v w i.here i.across i.over.taken i.over.taken_within i.over.there i.over.scale out x speaks shift short number answer lies near

      is_told : Asked d e t s f at v w got i.over.taken i.back.taken
      unfolding ack_kept shut_of
      is_told = record {
        end = now;
        here = r.view;
        across = ack_kept w;
        more = got;
        moves = OneMore at now now v w r.view (ack_kept w) r.view (ack_kept w) got got got since (r.move got) (NoMove now r.view (ack_kept w) got);
        in_shut = record {
          here = r.here;
          across = r.across;
          over = shut_of r.over;
          back = record {
            taken = i.back.taken;
            taken_within = i.back.taken_within;
            there = r.next ∙ i.back.there;
            scale = i.back.scale ∙ sym r.shift;
            window = omega (arith, i.back.window, same_width v r.view r.rx r.rcv r.shift (r.last_ack ∙ untold.last_ack) (r.last_win ∙ untold.last_win));
            at_most = subst (λ m. w.remote_win_len ≤ m) (sym (told_alike v r.view r.rx r.shift)) i.back.at_most;
          };
          hears_here = KnowsOne r.over.some;
          hears_across = by i.later;
        };
        known = r.over.some;
        still = λ h. h;
        reach = λ h. omega (arith, h, ap (λ (q : TcpSeqNumber). q.0) r.next, told_alike v r.view r.rx r.shift);
        reach_own = λ h. omega (arith, ap (λ (q : TcpSeqNumber). q.0) r.nxt, told_some w i.across.room i.across.nothing_held i.across.room_at_least);
        whole = ap (λ k. got ++ drop k r.view.tx_buffer.bytes) r.none ∙ ap (λ (l : List ℕ). got ++ l) r.queue;
        others = refl;
      }
        where
          by : (0 < w.remote_win_len) ⊎ (((at : Instant) → w.timer ≡ timer.Retransmit at → is_some w.keep_alive ≡ true) × (window_told w ≤ width w)) → CanHear (ack_kept w) r.view
          by (inl h) = KnowsOne h
          by (inr h) = WillAsk h.0 (inl r.nxt) (omega (arith, width_told w (ack_kept w) i.across.room (wide_so w i.across.room i.across.nothing_held) (side_narrow i.across) refl refl refl refl (smoltcp_field w i.across.sender.smoltcp)))

  -- ---- a keep-alive

  keeps_alive : (hears : (w.remote_last_seq ≡ next_ack v) ⊎ (seq_sub w.remote_last_seq (next_ack v) < window_told v)) → window_told v ≤ width v → SpeaksNothing (told_at f now) v → Asked d e t s f at v w got i.over.taken i.back.taken
  keeps_alive hears told q =
      let number = ap (λ (m : TcpSeqNumber). m.0) q.number in
      let nxt = ap (λ (m : TcpSeqNumber). m.0) q.nxt in
      let within = i.over.taken_within in
      is_told q.out q.after q.speaks q.shift q.untold (omega (arith, q.one)) (omega (arith, number)) hears told
      (old_answered w (next_ack v) i.back.taken i.across.room now q.out.ip q.out.segment (caught hears told) q.speaks.bit q.speaks.ack (omega (arith, q.one)) (omega (arith, number)) (omega (arith, number, edge, v_small, within, queue_short)) (omega (arith, number, edge, v_small, within, queue_short)) (omega (arith, number, q.one, edge, v_small, within, queue_short)))
      (omega (arith, nxt, edge, v_small, within, queue_short))

  -- ---- a probe

  module _ (hears : (w.remote_last_seq ≡ next_ack v) ⊎ (seq_sub w.remote_last_seq (next_ack v) < window_told v)) (told : window_told v ≤ width v) (p : SpeaksBytes (told_at f now) v) (one : length p.out.segment.payload ≡ 1) (unsent : p.sent ≡ 0) (shift : p.after.remote_win_shift ≡ v.remote_win_shift) (untold : Untold v p.after) where
    number : p.out.segment.seq_number.0 ≡ v.local_seq_no.0
    number = ap (λ (m : TcpSeqNumber). m.0) p.number

    nxt : p.after.remote_last_seq.0 ≡ (seq_add v.local_seq_no 0).0
    nxt = ap (λ (m : TcpSeqNumber). m.0) p.nxt ∙ ap (λ k. (seq_add v.local_seq_no k).0) unsent

    -- of a byte that w has
    probes_old : 0 < i.over.taken → Asked d e t s f at v w got i.over.taken i.back.taken
    probes_old some =
        let within = i.over.taken_within in
        is_told p.out p.after p.speaks shift untold (omega (arith, one)) (omega (arith, number, v_small)) hears told
        (old_answered w (next_ack v) i.back.taken i.across.room now p.out.ip p.out.segment (caught hears told) p.speaks.bit p.speaks.ack p.some (omega (arith, number, v_small)) (omega (arith, number, edge, v_small, within, queue_short, some)) (omega (arith, number, edge, v_small, within, queue_short)) (omega (arith, number, edge, v_small, within, queue_short, some, one)))
        (omega (arith, nxt, edge, v_small, within, queue_short))

    -- where w has told no place
    probes_shut : i.over.taken ≡ 0 → seq_sub (receive_window w).end (receive_window w).start ≡ 0 → Asked d e t s f at v w got i.over.taken i.back.taken
    unfolding is_inside
    probes_shut none z =
        is_told p.out p.after p.speaks shift untold (omega (arith, one)) (omega (arith, number, v_small)) hears told
        (answered_outside w now 0 p.out.ip p.out.segment (next_ack v) (caught hears told).state p.speaks.ack p.speaks.bit (omega arith) (caught hears told).una_small (omega (arith, ap (λ (m : TcpSeqNumber). m.0) (caught hears told).there, (caught hears told).una_small, (caught hears told).queued, (caught hears told).short)) (caught hears told).short away (not_zero (length p.out.segment.payload) p.some))
        (omega (arith, nxt, edge, v_small, none))
      where
        away : is_inside (receive_window w) p.out.segment.seq_number (length p.out.segment.payload) ≡ false
        away = rw (not_zero (length p.out.segment.payload) p.some) (shut_outside (receive_window w) (start_small w) (end_small w) width_w p.out.segment.seq_number (seq_add p.out.segment.seq_number (length p.out.segment.payload)) z)

    -- of a byte that w takes: v goes on probing, and w knows a window
    module _ (field : p.out.segment.window_len ≡ space_field v) (window : p.after.remote_win_len ≡ v.remote_win_len) (shut : v.remote_win_len ≡ 0) (later : Instant) (delay : Duration) (again : p.after.timer ≡ timer.ZeroWindowProbe later delay) (none : i.over.taken ≡ 0) (fits : 1 ≤ seq_sub (receive_window w).end (receive_window w).start) where
      told_is : p.out.segment.window_len * 2 ^ scale_of w.remote_win_scale ≡ window_told v
      told_is = (λ j. field j * 2 ^ i.back.scale j)

      win : 0 < p.out.segment.window_len * 2 ^ scale_of w.remote_win_scale
      win = subst (λ n. 0 < n) (sym told_is) (told_some v i.here.room i.here.nothing_held i.here.room_at_least)

      b : Brought e s f now v w p.after (next_ack v) i.back.taken i.across.room 1 (p.out.segment.window_len * 2 ^ scale_of w.remote_win_scale) (drop 0 p.out.segment.payload)
      b = brings_side e s f now v p.after w p.out p.speaks.dispatch i.across (next_ack v) i.back.taken (caught hears told) p.speaks.bit p.speaks.ack (omega (arith, number, v_small)) (omega (arith, one)) win 0 1 (record { skips = omega (arith, number, edge, none, v_small); near = omega arith; long = omega (arith, one); some = omega arith; fits = fits; past = omega (arith, number, edge, none, one, v_small) })

      k : Took w (next_ack v) i.back.taken i.across.room 1 (p.out.segment.window_len * 2 ^ scale_of w.remote_win_scale) now b.view
      k = b.took

      own_then : next_ack p.after ≡ next_ack v
      own_then = (λ j. seq_add (p.speaks.waits.same.rcv j) (length ((p.speaks.waits.same.rx j).bytes)))

      told_then : window_told p.after ≡ window_told v
      told_then = told_alike v p.after p.speaks.waits.same.rx shift

      width_then : width p.after ≡ width v
      width_then = same_width v p.after p.speaks.waits.same.rx p.speaks.waits.same.rcv shift untold.last_ack untold.last_win

      queue_then : length p.after.tx_buffer.bytes ≡ length v.tx_buffer.bytes
      queue_then = ap (λ (q : Queue). length q.bytes) p.speaks.waits.same.tx

      nxt_then : p.after.remote_last_seq ≡ p.after.local_seq_no
      nxt_then = same_seq p.after.remote_last_seq p.after.local_seq_no (omega (arith, nxt, ap (λ (q : TcpSeqNumber). q.0) p.speaks.waits.same.una, v_small))

      some_then : 0 < length p.after.tx_buffer.bytes
      some_then = omega (arith, queue_then, p.queued, one)

      side_then : IsSide d t p.after
      side_then =
          let h = p.speaks.waits in
          record {
            sender = record { reached = h.reached; state = ap may_send h.same.state ∙ i.here.sender.state; peer = h.same.peer ∙ i.here.sender.peer; no_timeout = h.same.timeout ∙ i.here.sender.no_timeout; smoltcp = h.same.same_rules ∙ i.here.sender.smoltcp; keep_alive = h.same.keep_alive ∙ i.here.sender.keep_alive; nothing_marked = h.nothing_marked; rests = ForProbe later delay again nxt_then some_then };
            established = h.same.state ∙ i.here.established;
            read = ap (λ (q : Received). q.bytes) h.same.rx ∙ i.here.read;
            room = i.here.room;
            nothing_held = ap (λ (q : Received). q.held) h.same.rx ∙ i.here.nothing_held;
            room_at_least = subst (λ m. 2 ^ m ≤ i.here.room) (sym shift) i.here.room_at_least;
          }

      hears_then : (w.remote_last_seq ≡ next_ack v) ⊎ (seq_sub w.remote_last_seq (next_ack v) < window_told v) → (b.view.remote_last_seq ≡ next_ack p.after) ⊎ (seq_sub b.view.remote_last_seq (next_ack p.after) < window_told p.after)
      hears_then (inl h) = inl (k.nxt ∙ h ∙ sym own_then)
      hears_then (inr h) = inr (omega (arith, h, ap (λ (q : TcpSeqNumber). q.0) k.nxt, ap (λ (q : TcpSeqNumber). q.0) own_then, told_then))

      told_before : window_told p.after ≤ width p.after
      told_before = omega (arith, told, told_then, width_then)

      shut_then : Asks d e t s p.after b.view
      shut_then = record {
        here = side_then;
        across = b.side;
        over = record {
          taken = 1;
          taken_within = omega (arith, queue_then, p.queued, one);
          there = same_seq (next_ack b.view) (seq_add p.after.local_seq_no 1) (omega (arith, k.next, edge, none, v_small, ap (λ (q : TcpSeqNumber). q.0) p.speaks.waits.same.una));
          scale = ap scale_of p.speaks.waits.same.scale ∙ i.over.scale ∙ sym k.shift;
          window = omega (arith, window, shut);
          at_most = omega (arith, window, shut);
        };
        back = record {
          taken = 0;
          taken_within = omega arith;
          there = own_then ∙ same_seq (next_ack v) (seq_add (next_ack v) 0) (omega arith) ∙ ap (λ q. seq_add q 0) (sym k.una);
          scale = ap scale_of k.scale ∙ i.back.scale ∙ sym shift;
          window = omega (arith, k.window, told_is, told, width_then);
          at_most = omega (arith, k.window, told_is, told_then);
        };
        later = inl (subst (λ n. 0 < n) (sym k.window) win);
      }

      whole_then : (got ++ drop 0 p.out.segment.payload) ++ drop 1 p.after.tx_buffer.bytes ≡ got ++ drop i.over.taken v.tx_buffer.bytes
      whole_then =
          append_assoc got p.out.segment.payload (drop 1 p.after.tx_buffer.bytes)
          ∙ (λ j. got ++ ((p.first ∙ ap (λ n. take n v.tx_buffer.bytes) one) j ++ drop 1 (p.speaks.waits.same.tx j).bytes))
          ∙ ap (λ (l : List ℕ). got ++ l) (cut_and_rest 0 1 v.tx_buffer.bytes (omega arith))
          ∙ ap (λ n. got ++ drop n v.tx_buffer.bytes) (sym none)

      reach_then : seq_sub w.remote_last_seq (next_ack v) < window_told v → seq_sub b.view.remote_last_seq (next_ack p.after) < window_told p.after
      reach_then h = omega (arith, h, ap (λ (q : TcpSeqNumber). q.0) k.nxt, ap (λ (q : TcpSeqNumber). q.0) own_then, told_then)

      -- and then it is answered
      then_asked : Asked d e t s f now p.after b.view (got ++ drop 0 p.out.segment.payload) 1 0 → Asked d e t s f at v w got i.over.taken i.back.taken
      unfolding shut_then
      then_asked a = record {
        end = a.end;
        here = a.here;
        across = a.across;
        more = a.more;
        moves = joined at now a.end v w p.after b.view a.here a.across got (got ++ drop 0 p.out.segment.payload) a.more (b.moves at since got) a.moves;
        in_shut = a.in_shut;
        known = a.known;
        still = λ h. a.still (subst (λ n. 0 < n) (sym k.window) win);
        reach = λ h. a.reach (reach_then h);
        reach_own = λ h. a.reach_own (λ x. absurd (omega (arith, x, window, shut)));
        whole = a.whole ∙ whole_then;
        others = a.others ∙ k.tx;
      }

-- ---- all its ways to ask

module _ (d e : Option Duration) (t s : Tuple) (f : Facts) (mtu : IsMtu f.mtu) (address : f.has_address t.local.addr ≡ true) where
  probes : (at now : Instant) → at.micros ≤ℤ now.micros → (v w : View) (got : List ℕ) (i : Asks d e t s v w) (hears : (w.remote_last_seq ≡ next_ack v) ⊎ (seq_sub w.remote_last_seq (next_ack v) < window_told v)) → window_told v ≤ width v → (m : Instant) (delay : Duration) → v.timer ≡ timer.ZeroWindowProbe m delay → v.remote_last_seq ≡ v.local_seq_no → 0 < length v.tx_buffer.bytes → is_over m now ≡ true → v.remote_win_len ≡ 0 → Asked d e t s f at v w got i.over.taken i.back.taken
  unfolding shut_then
  probes at now since v w got i hears told m delay waits nxt queue over shut = by (some_or_none i.over.taken) (some_or_none (width w))
    where
      p : SpeaksBytes (told_at f now) v
      p = says_probe d t v f now m delay mtu address i.here.sender waits nxt queue over

      one : length p.out.segment.payload ≡ 1
      one = probe_one d t v f now m delay mtu address i.here.sender waits nxt queue over

      unsent : p.sent ≡ 0
      unsent = probe_unsent d t v f now m delay mtu address i.here.sender waits nxt queue over

      shift : p.after.remote_win_shift ≡ v.remote_win_shift
      shift = probe_shift d t v f now m delay mtu address i.here.sender waits nxt queue over

      untold : Untold v p.after
      untold = probe_tells_nothing d t v f now m delay mtu address i.here.sender waits nxt queue over

      twice_then : i.over.taken ≡ 0 → 0 < width w → Asked d e t s f at v w got i.over.taken i.back.taken
      twice_then none fits =
          let field = probe_field d t v f now m delay mtu address i.here.sender waits nxt queue over in
          let window = probe_window_known d t v f now m delay mtu address i.here.sender waits nxt queue over in
          let again = probe_again d t v f now m delay mtu address i.here.sender waits nxt queue over in
          let x = p.after in
          let y = (b d e t s f at now since v w got i hears told p one unsent shift untold field window shut (moment_after now (twice delay)) (twice delay) again none fits).view in
          let j : Asks d e t s x y = shut_then d e t s f at now since v w got i hears told p one unsent shift untold field window shut (moment_after now (twice delay)) (twice delay) again none fits in
          let h = hears_then d e t s f at now since v w got i hears told p one unsent shift untold field window shut (moment_after now (twice delay)) (twice delay) again none fits hears in
          let r : window_told x ≤ width x = told_before d e t s f at now since v w got i hears told p one unsent shift untold field window shut (moment_after now (twice delay)) (twice delay) again none fits in
          let n = nxt_then d e t s f at now since v w got i hears told p one unsent shift untold field window shut (moment_after now (twice delay)) (twice delay) again none fits in
          let q = some_then d e t s f at now since v w got i hears told p one unsent shift untold field window shut (moment_after now (twice delay)) (twice delay) again none fits in
          let z = later_moment now (moment_after now (twice delay)) in
          let o : SpeaksBytes (told_at f z.0) x = says_probe d t x f z.0 (moment_after now (twice delay)) (twice delay) mtu address j.here.sender again n q z.2 in
          then_asked d e t s f at now since v w got i hears told p one unsent shift untold field window shut (moment_after now (twice delay)) (twice delay) again none fits
          (probes_old d e t s f now z.0 z.1 x y (got ++ drop 0 p.out.segment.payload) j h r o
          (probe_one d t x f z.0 (moment_after now (twice delay)) (twice delay) mtu address j.here.sender again n q z.2)
          (probe_unsent d t x f z.0 (moment_after now (twice delay)) (twice delay) mtu address j.here.sender again n q z.2)
          (probe_shift d t x f z.0 (moment_after now (twice delay)) (twice delay) mtu address j.here.sender again n q z.2)
          (probe_tells_nothing d t x f z.0 (moment_after now (twice delay)) (twice delay) mtu address j.here.sender again n q z.2)
          (omega arith))

      by : (i.over.taken ≡ 0) ⊎ (0 < i.over.taken) → (width w ≡ 0) ⊎ (0 < width w) → Asked d e t s f at v w got i.over.taken i.back.taken
      by (inr some) any = probes_old d e t s f at now since v w got i hears told p one unsent shift untold some
      by (inl none) (inl z) = probes_shut d e t s f at now since v w got i hears told p one unsent shift untold none z
      by (inl none) (inr fits) = twice_then none fits

  -- the retransmission timer runs: what waits is given up, and a keep-alive comes next
  module _ (at now : Instant) (since : at.micros ≤ℤ now.micros) (v w : View) (got : List ℕ) (i : Asks d e t s v w) (hears : (w.remote_last_seq ≡ next_ack v) ⊎ (seq_sub w.remote_last_seq (next_ack v) < window_told v)) (told : window_told v ≤ width v) (shut : v.remote_win_len ≡ 0) (q : FallsSilent (told_at f now) v) where
    abbrev x : View
    x = q.after

    own_x : next_ack x ≡ next_ack v
    own_x = (λ j. seq_add (q.waits.same.rcv j) (length ((q.waits.same.rx j).bytes)))

    told_x : window_told x ≡ window_told v
    told_x = told_alike v x q.waits.same.rx q.shift

    -- it told nothing, or all
    width_or : (width x ≡ width v) ⊎ (width x ≡ window_told v)
    width_or = by q.told
      where
        by : Untold v x ⊎ HasTold v x → (width x ≡ width v) ⊎ (width x ≡ window_told v)
        by (inl u) = inl (same_width v x q.waits.same.rx q.waits.same.rcv q.shift u.last_ack u.last_win)
        by (inr h) = inr (width_told v x i.here.room (wide_so v i.here.room i.here.nothing_held) (side_narrow i.here) q.waits.same.rx q.waits.same.rcv q.shift h.last_ack h.last_win)

    enough : window_told v ≤ width x
    enough = by width_or
      where
        by : (width x ≡ width v) ⊎ (width x ≡ window_told v) → window_told v ≤ width x
        by (inl h) = omega (arith, told, h)
        by (inr h) = omega (arith, h)

    silent : Asks d e t s x w
    silent =
        let h = q.waits in
        record {
          here = record {
            sender = record { reached = h.reached; state = ap may_send h.same.state ∙ i.here.sender.state; peer = h.same.peer ∙ i.here.sender.peer; no_timeout = h.same.timeout ∙ i.here.sender.no_timeout; smoltcp = h.same.same_rules ∙ i.here.sender.smoltcp; keep_alive = h.same.keep_alive ∙ i.here.sender.keep_alive; nothing_marked = h.nothing_marked; rests = ForKeepAlive q.moment q.timer q.nxt };
            established = h.same.state ∙ i.here.established;
            read = ap (λ (b : Received). b.bytes) h.same.rx ∙ i.here.read;
            room = i.here.room;
            nothing_held = ap (λ (b : Received). b.held) h.same.rx ∙ i.here.nothing_held;
            room_at_least = subst (λ m. 2 ^ m ≤ i.here.room) (sym q.shift) i.here.room_at_least;
          };
          across = i.across;
          over = record {
            taken = i.over.taken;
            taken_within = subst (λ (b : Queue). i.over.taken ≤ length b.bytes) (sym h.same.tx) i.over.taken_within;
            there = i.over.there ∙ ap (λ m. seq_add m i.over.taken) (sym h.same.una);
            scale = ap scale_of h.same.scale ∙ i.over.scale;
            window = omega (arith, q.window, shut);
            at_most = omega (arith, q.window, shut);
          };
          back = record {
            taken = i.back.taken;
            taken_within = i.back.taken_within;
            there = own_x ∙ i.back.there;
            scale = i.back.scale ∙ sym q.shift;
            window = omega (arith, i.back.at_most, enough);
            at_most = omega (arith, i.back.at_most, told_x);
          };
          later = i.later;
        }

    hears_x : (w.remote_last_seq ≡ next_ack v) ⊎ (seq_sub w.remote_last_seq (next_ack v) < window_told v) → (w.remote_last_seq ≡ next_ack x) ⊎ (seq_sub w.remote_last_seq (next_ack x) < window_told x)
    hears_x (inl h) = inl (h ∙ sym own_x)
    hears_x (inr h) = inr (omega (arith, h, ap (λ (k : TcpSeqNumber). k.0) own_x, told_x))

    falls_then_asks : Asked d e t s f at v w got i.over.taken i.back.taken
    unfolding silent
    falls_then_asks =
        let z = later_moment now q.moment in
        let a : Asked d e t s f now x w got i.over.taken i.back.taken = keeps_alive d e t s f now z.0 z.1 x w got silent (hears_x hears) (omega (arith, enough, told_x)) (says_nothing d t x f z.0 mtu address silent.here.sender q.moment q.timer q.nxt z.2 (q.window ∙ shut)) in
        record {
          end = a.end;
          here = a.here;
          across = a.across;
          more = a.more;
          moves = OneMore at now a.end v w x w a.here a.across got got a.more since (GoesAstray q.out q.dispatch refl refl) a.moves;
          in_shut = a.in_shut;
          known = a.known;
          still = a.still;
          reach = λ h. a.reach (omega (arith, h, ap (λ (k : TcpSeqNumber). k.0) own_x, told_x));
          reach_own = λ h. a.reach_own (λ some. absurd (omega (arith, some, q.window, shut)));
          whole = a.whole ∙ ap (λ (b : Queue). got ++ drop i.over.taken b.bytes) q.waits.same.tx;
          others = a.others;
        }

  interval : (o : Option Duration) → is_some o ≡ true → (k : Duration) × (o ≡ Some k)
  interval None h = absurd (true≢false (sym h))
  interval (Some k) h = (k, refl)

  pub ask : (at : Instant) (v w : View) (got : List ℕ) (i : SidesShut d e t s v w) → Asked d e t s f at v w got i.over.taken i.back.taken
  unfolding asks_of
  ask at v w got i = by i.hears_here (some_or_none v.remote_win_len)
    where
      a : Asks d e t s v w
      a = asks_of i

      asks : ((z : Instant) → v.timer ≡ timer.Retransmit z → is_some v.keep_alive ≡ true) → (w.remote_last_seq ≡ next_ack v) ⊎ (seq_sub w.remote_last_seq (next_ack v) < window_told v) → window_told v ≤ width v → v.remote_win_len ≡ 0 → (r : Rests v) → (z : Instant) × (at.micros ≤ℤ z.micros) × (is_over (wakes r) z ≡ true) → Asked d e t s f at v w got i.over.taken i.back.taken
      asks keeps hears told none (ForNothing idle nxt some) z = absurd (omega (arith, none, some))
      asks keeps hears told none (ForAnswer m again) z = let k = interval v.keep_alive (keeps m again) in falls_then_asks at z.0 z.1 v w got a hears told none (falls_silent d t v f z.0 mtu address i.here.sender k.0 k.1 (ForAnswer m again) tt z.2 none)
      asks keeps hears told none (ForKeepAlive m idle nxt) z = keeps_alive d e t s f at z.0 z.1 v w got a hears told (says_nothing d t v f z.0 mtu address i.here.sender m idle nxt z.2 none)
      asks keeps hears told none (ForProbe m delay waits nxt queue) z = probes at z.0 z.1 v w got a hears told m delay waits nxt queue z.2 none

      by : CanHear v w → (v.remote_win_len ≡ 0) ⊎ (0 < v.remote_win_len) → Asked d e t s f at v w got i.over.taken i.back.taken
      by (KnowsOne known) any = asked_none d e t s f at v w got i known
      by (WillAsk keeps hears told) (inr known) = asked_none d e t s f at v w got i known
      by (WillAsk keeps hears told) (inl none) = asks keeps hears told none i.here.sender.rests (later_moment at (wakes i.here.sender.rests))
