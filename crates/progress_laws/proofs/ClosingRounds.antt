-- A sender that was closed sends some of what it has, or the last of it with its FIN.
use Rattle.std.proofs.Common.{◌≡◌, ℕ, ◌-◌, ◌*◌, ◌<◌, ◌≤◌, ◌^◌, ◌⊎◌, inl, inr, refl, sym, ap, subst, ◌∙◌, List, [], ◌∷◌, ◌++◌, length, take, drop, Option, Some, None, true, false, arith, append_assoc, length-drop}
use Rattle.std.specs.Prelude.{◌≤ℤ◌}
use Rattle.std.proofs.lemmas.Int.{ints}
use Rattle.std.proofs.lemmas.List.{append-nil}
use Rattle.std.proofs.lemmas.Option.{same_Some}
use Rattle.net_base.specs.declared.time.Duration.{Duration}
use Rattle.net_base.specs.declared.time.Instant.{Instant}
use Rattle.ip_wire.specs.declared.repr.IpRepr.{IpRepr}
use Rattle.control_wire.specs.Segment.{Segment}
use Rattle.control_wire.specs.Seq.{seq_add, seq_sub}
use Rattle.control_wire.specs.declared.seq_number.TcpSeqNumber.{TcpSeqNumber}
use Rattle.sock_core.specs.Facts.{Facts}
use Rattle.sock_core.specs.Seq.{is_not_after}
use Rattle.sock_tcp.proofs.Windows.{end_small, start_small, window_width}
use Rattle.sock_tcp.specs.Acked.{acked_of}
use Rattle.sock_tcp.specs.Content.{Sending, carries_data}
use Rattle.sock_tcp.specs.Due.{is_closing}
use Rattle.sock_tcp.specs.Rfc.OwnWindow.{space_field}
use Rattle.sock_tcp.specs.Process.{Outcome}
use Rattle.progress_laws.specs.Smoltcp.{processed}
use Rattle.sock_tcp.specs.Queue.{Queue}
use Rattle.sock_tcp.specs.Queues.{read_off, receives}
use Rattle.sock_tcp.specs.Replies.{ack_kept, ack_segment, reply_ip}
use Rattle.sock_tcp.specs.Steps.{heard, scale_of}
use Rattle.sock_tcp.specs.View.{View}
use Rattle.sock_tcp.specs.Window.{empty_inside, is_inside, next_ack, receive_window}
use Rattle.sock_tcp.specs.declared.acked.Acked.{Acked}
use Rattle.sock_tcp.specs.declared.state.State.{State}
use Rattle.sock_tcp.specs.declared.state.State.TheVariants as state
use Rattle.sock_tcp.specs.declared.timer.Timer.{Timer}
use Rattle.sock_tcp.specs.declared.timer.Timer.TheVariants as timer
use Rattle.sock_tcp.specs.declared.tuple.Tuple.{Tuple}
use Rattle.tcp_laws.specs.Polling.{IsReached}
use Rattle.tcp_laws.specs.SocketRun.{IsNumbered, Process, after_segment}
use Rattle.tcp_laws.proofs.OrderedCalls.{reached_ordered}
use Rattle.tcp_laws.proofs.SocketSteps.{holds_after}
use Rattle.progress_laws.specs.AfterClose.{AfterClose, BringsAll}
use Rattle.progress_laws.specs.BothWays.{window_told}
use Rattle.progress_laws.specs.InStep.{Carries, ForAnswer, IsAnswered, Moves, NoMove, OneMore, Reads, Rests, told}
use Rattle.progress_laws.proofs.Stamped.{stamped_ack, answer_stamp, ack_stamped}
use Rattle.progress_laws.proofs.Answered.{acked, heard_answer}
use Rattle.progress_laws.proofs.Arrives.{CountsIt, Faces, away, before_window, fin_counts, receives_so}
use Rattle.progress_laws.proofs.Begins.{some_or_none, step_reached}
use Rattle.progress_laws.proofs.Both.{measure}
use Rattle.progress_laws.proofs.Sides.{room_small, told_some, wide_so}
use Rattle.progress_laws.proofs.Closes.{SaysFin, finished}
use Rattle.progress_laws.proofs.ClosingSays.{SaysOn}
use Rattle.progress_laws.proofs.Edges.{empty_inside_so, later_all, reach_inside, same_seq}
use Rattle.progress_laws.proofs.Hears.{ForNone, ForRest, HeardAs, IsOpenTimer, ThenWaits, heard_as, heard_waits}
use Rattle.progress_laws.proofs.LastBytes.{TookLast, took_last}
use Rattle.progress_laws.proofs.Learns.{idle_rests}
use Rattle.progress_laws.proofs.Receives.{NewPart, new_part}
use Rattle.progress_laws.proofs.Rounds.{cut_and_rest}
use Rattle.progress_laws.proofs.Spoken.{IsSaid}
use Rattle.progress_laws.proofs.States.{closing_carries, not_listening as steady_listens, receives_steady}
use Rattle.progress_laws.proofs.Takes.{IsCaughtUp, Took, fresh_bytes, takes, took, took_bytes, took_open, took_reached, took_so, width_kept}
use Rattle.progress_laws.proofs.Taking.{read_out, take_all}
use Rattle.progress_laws.proofs.Widths.{told_alike, unit, unit_within, width_told}
use Rattle.sock_tcp.specs.declared.rules.Rules.TheVariants as rules
use Rattle.progress_laws.proofs.Sends.{smoltcp_field}

-- ---- one step further

pub record Onward (d : Option Duration) (t : Tuple) (f : Facts) (at : Instant) (v w : View) (got : List ℕ) (i : AfterClose d t v w) : Type 0 where
  pub end : Instant
  pub sender : View
  pub receiver : View
  pub more : List ℕ
  pub moves : Moves f at v w got end sender receiver more
  pub in_step : AfterClose d t sender receiver
  pub whole : more ++ drop in_step.over.taken sender.tx_buffer.bytes ≡ got ++ drop i.over.taken v.tx_buffer.bytes
  pub less : measure sender in_step.over.taken < measure v i.over.taken

open_timer : (tm : Timer) → ((at : Instant) → tm ≡ timer.Close at → ⊥) → IsOpenTimer tm
open_timer (timer.Close at) h = h at refl
open_timer (timer.Idle at) h = tt
open_timer (timer.Retransmit at) h = tt
open_timer timer.FastRetransmit h = tt
open_timer (timer.ZeroWindowProbe at delay) h = tt

module _ (d : Option Duration) (t : Tuple) (f : Facts) (at now : Instant) (since : at.micros ≤ℤ now.micros) (v w : View) (got : List ℕ) (i : AfterClose d t v w) where
  abbrev n : ℕ
  n = i.over.taken

  v_small : v.local_seq_no.0 < 2 ^ 32
  v_small = (reached_ordered v i.sender.reached).una_small

  queue_short : length v.tx_buffer.bytes ≤ 2 ^ 30
  queue_short = omega (arith, (reached_ordered v i.sender.reached).room)

  edge : (next_ack w).0 ≡ (seq_add v.local_seq_no n).0
  edge = ap (λ (m : TcpSeqNumber). m.0) i.over.there

  narrow : i.receiver.room ≤ 2 ^ 30
  narrow = room_small w i.receiver.room i.receiver.nothing_held i.receiver.reached

  faces : Faces w (next_ack v)
  faces =
      let o = reached_ordered w i.receiver.reached in
      record {
        state = receives_so w.state i.receiver.state;
        una_small = o.una_small;
        short = omega (arith, o.room);
        heard = i.heard;
        heard_within = omega (arith, i.heard_within);
        back = ap (λ (m : TcpSeqNumber). m.0) i.back;
        room = omega (arith, wide_so w i.receiver.room i.receiver.nothing_held, narrow);
      }

  v_room : length v.rx_buffer.held ≤ 2 ^ 30
  v_room = let r = i.sender.reached in omega (arith, (holds_after r.rx r.tx v r.counts r.rx_size r.run).room)

  told_small : window_told v ≤ 2 ^ 30
  told_small = omega (arith, unit_within (length v.rx_buffer.held) v.remote_win_shift, v_room)

  ahead : seq_sub w.remote_last_seq (next_ack v) ≤ 2 ^ 30
  ahead = by i.in_reach
    where
      by : (w.remote_last_seq ≡ next_ack v) ⊎ (seq_sub w.remote_last_seq (next_ack v) < window_told v) → seq_sub w.remote_last_seq (next_ack v) ≤ 2 ^ 30
      by (inl e) = omega (arith, ap (λ (m : TcpSeqNumber). m.0) e)
      by (inr h) = omega (arith, h, told_small)

  -- the same, once v has sent something or heard of it
  still_in_reach : (y z : View) → next_ack y ≡ next_ack v → window_told y ≡ window_told v → z.remote_last_seq ≡ w.remote_last_seq → (z.remote_last_seq ≡ next_ack y) ⊎ (seq_sub z.remote_last_seq (next_ack y) < window_told y)
  still_in_reach y z own told nxt = by i.in_reach
    where
      by : (w.remote_last_seq ≡ next_ack v) ⊎ (seq_sub w.remote_last_seq (next_ack v) < window_told v) → (z.remote_last_seq ≡ next_ack y) ⊎ (seq_sub z.remote_last_seq (next_ack y) < window_told y)
      by (inl e) = inl (nxt ∙ e ∙ sym own)
      by (inr h) = inr (omega (arith, h, told, ap (λ (m : TcpSeqNumber). m.0) own, ap (λ (m : TcpSeqNumber). m.0) nxt))

  width_small : seq_sub (receive_window w).end (receive_window w).start ≤ 2 ^ 30
  width_small = omega (arith, window_width w faces.room, faces.room)

  -- ---- the FIN alone

  pub fin_alone : (q : SaysFin (told f now) v) → length v.tx_buffer.bytes ≡ 0 → BringsAll d t f at v w got i
  fin_alone q none =
      let number : q.out.segment.seq_number.0 ≡ (next_ack w).0 = omega (arith, ap (λ (m : TcpSeqNumber). m.0) q.number, edge, i.over.taken_within, none, v_small) in
      let c : CountsIt w (processed w now 0 q.out.ip q.out.segment) = fin_counts w (next_ack v) faces now 0 q.out.ip q.out.segment (subst IsSaid (sym q.bit) tt) q.ack q.bit q.empty number i.receiver.state in
      let w' : View = (processed w now 0 q.out.ip q.out.segment).view in
      record {
        end = now;
        sender = q.after;
        receiver = w';
        moves = subst (λ l. Moves f at v w got now q.after w' l) (sym (ap (λ (l : List ℕ). got ++ l) (no_bytes (drop n v.tx_buffer.bytes) (omega (arith, none, length-drop n v.tx_buffer.bytes))) ∙ append-nil got)) (OneMore at now now v w q.after w' q.after w' got got got since (Carries q.out q.dispatch (ap (λ r. record { view = w'; reply = r }) c.reply) refl) (NoMove now q.after w' got));
        finished = finished w (processed w now 0 q.out.ip q.out.segment) (ap (λ (l : List ℕ). length l) i.receiver.read) c;
      }
    where
      no_bytes : (l : List ℕ) → length l ≡ 0 → l ≡ []
      no_bytes [] e = refl
      no_bytes (x ∷ l) e = absurd (omega (arith, e))

  module _ (p : SaysOn d t (told f now) v) where
    abbrev out : Sending
    out = p.out

    abbrev x : View
    x = p.after

    abbrev size : ℕ
    size = length p.out.segment.payload

    number_is : out.segment.seq_number.0 ≡ v.local_seq_no.0
    number_is = ap (λ (m : TcpSeqNumber). m.0) p.number

    own : next_ack x ≡ next_ack v
    own = (λ j. seq_add (p.rcv j) (length ((p.rx j).bytes)))

    numbered : IsNumbered out.segment
    numbered = record { seq_number = omega (arith, number_is, v_small); ack_number = λ m e. subst (λ (q : TcpSeqNumber). q.0 < 2 ^ 32) (same_Some (next_ack v) m (sym p.ack ∙ e)) (omega arith) }

    not_listening : w.state ≡ state.Listen → ⊥
    not_listening = steady_listens w.state (receives_steady w.state i.receiver.state)

    -- ---- w has it already, and answers

    module _ (few : size ≤ n) where
      abbrev g : Segment
      g = stamped_ack w (ack_kept w) out.segment

      abbrev ip : IpRepr
      ip = reply_ip out.ip g

      answer : processed w now 0 out.ip out.segment ≡ record { view = ack_kept w; reply = Some (ack_segment w out.segment) }
      answer =
          let within = i.over.taken_within in
          let some = p.some in
          away w (next_ack v) faces now 0 out.ip out.segment p.said p.ack (before_window w out.segment width_small some (omega (arith, number_is, v_small)) (omega (arith, number_is, edge, v_small, within, queue_short, few, some)) (omega (arith, number_is, edge, v_small, within, queue_short)) (omega (arith, number_is, edge, v_small, within, queue_short, few))) some

      carries : carries_data x.state ≡ true
      carries = closing_carries x.state p.closer.state

      there : next_ack w ≡ seq_add x.local_seq_no n
      there = i.over.there ∙ ap (λ m. seq_add m n) (sym p.una)

      within_x : n ≤ length x.tx_buffer.bytes
      within_x = subst (λ (q : Queue). n ≤ length q.bytes) (sym p.tx) i.over.taken_within

      some_n : 0 < n
      some_n = omega (arith, few, p.some)

      room_x : length x.rx_buffer.held ≤ 2 ^ 30
      room_x = let r = p.closer.reached in omega (arith, (holds_after r.rx r.tx x r.counts r.rx_size r.run).room)

      width_x : seq_sub (receive_window x).end (receive_window x).start ≡ window_told v
      width_x = width_told v x (length v.rx_buffer.held) refl v_room p.rx p.rcv p.shift p.last_ack p.last_win

      edge_x : (receive_window x).start ≡ next_ack v
      unfolding receive_window
      edge_x = own

      lies : is_inside (receive_window x) g.seq_number 0 ≡ true
      unfolding is_inside ack_segment
      lies = by i.in_reach
        where
          by : (w.remote_last_seq ≡ next_ack v) ⊎ (seq_sub w.remote_last_seq (next_ack v) < window_told v) → empty_inside (receive_window x) w.remote_last_seq ≡ true
          by (inl e) = ap (empty_inside (receive_window x)) (e ∙ sym edge_x) ∙ empty_inside_so (receive_window x) (start_small x) (end_small x) (omega (arith, width_x, told_small))
          by (inr h) = reach_inside (receive_window x) (start_small x) (end_small x) (omega (arith, width_x, told_small)) w.remote_last_seq (reached_ordered w i.receiver.reached).nxt_small (omega (arith, width_x, ap (λ (m : TcpSeqNumber). m.0) edge_x, h))

      abbrev z : View
      z = record x { local_rx_last_seq = Some g.seq_number }

      abbrev a : Acked
      a = acked_of x g.control g.ack_number

      abbrev y : View
      y = heard z now a g

      hears : processed x now 0 ip g ≡ record { view = y; reply = None }
      unfolding ack_segment
      hears = heard_answer x p.closer.reached carries (next_ack w) n there within_x (λ e. some_n) now 0 ip g refl refl refl lies

      acked_is : a ≡ record { len = n; fin = false; all = is_not_after x.remote_last_seq (next_ack w) }
      unfolding ack_segment
      acked_is = acked x p.closer.reached carries (next_ack w) n there within_x (λ e. some_n) now 0 ip g refl refl refl lies

      h : HeardAs z (next_ack w) a.len (g.window_len * 2 ^ scale_of x.remote_win_scale) y
      unfolding ack_segment
      h = heard_as z now a g (next_ack w) refl tt

      window_is : g.window_len * 2 ^ scale_of x.remote_win_scale ≡ window_told w
      unfolding ack_segment
      window_is = λ j. smoltcp_field w i.receiver.smoltcp j * 2 ^ (ap scale_of p.scale ∙ i.over.scale) j

      told_back : 0 < g.window_len * 2 ^ scale_of x.remote_win_scale
      told_back = subst (λ m. 0 < m) (sym window_is) (told_some w i.receiver.room i.receiver.nothing_held i.receiver.room_at_least)

      window_then : 0 < y.remote_win_len
      window_then = subst (λ m. 0 < m) (sym h.window) told_back

      waits : ThenWaits now x.keep_alive a.all y.timer
      unfolding ack_segment
      waits = heard_waits z now a g (next_ack w) p.at refl tt p.timer (omega (arith, ap (λ (m : Acked). m.len) acked_is, some_n)) told_back

      rests : Rests y
      rests = by waits
        where
          by : ThenWaits now x.keep_alive a.all y.timer → Rests y
          by (ForNone all idle) = idle_rests y now x.keep_alive idle (h.nxt ∙ later_all x.remote_last_seq (next_ack w) (sym (ap (λ (m : Acked). m.all) acked_is) ∙ all) ∙ sym h.una) window_then
          by (ForRest at again) = ForAnswer at again

      numbered_g : IsNumbered g
      unfolding ack_segment
      numbered_g = record { seq_number = (reached_ordered w i.receiver.reached).nxt_small; ack_number = λ m e. subst (λ (q : TcpSeqNumber). q.0 < 2 ^ 32) (same_Some (next_ack w) m e) (omega arith) }

      reached_y : IsReached y
      unfolding ack_segment
      reached_y = step_reached x y (after_segment p.closer.reached.counts x y) p.closer.reached (Process rules.Smoltcp now 0 ip g (omega arith) numbered_g (omega arith) (λ l. absurd (not_open x.state l p.closer.state)) (sym (ap (λ (o : Outcome). o.view) hears)) refl)
        where
          not_open : (st : State) → st ≡ state.Listen → is_closing st ≡ true → ⊥
          not_open state.Listen e h = cc
          not_open _ e h = cc

      queue : y.tx_buffer.bytes ≡ drop n v.tx_buffer.bytes
      queue = ap (λ (q : Queue). q.bytes) h.tx ∙ ap (λ (m : Acked). drop m.len x.tx_buffer.bytes) acked_is ∙ ap (λ (q : Queue). drop n q.bytes) p.tx

      own_y : next_ack y ≡ next_ack v
      own_y = (λ j. seq_add (h.rcv j) (length ((h.rx j).bytes))) ∙ own

      answered : Onward d t f at v w got i
      unfolding ack_kept
      answered = record {
        end = now;
        sender = y;
        receiver = ack_kept w;
        more = got;
        moves = OneMore at now now v w y (ack_kept w) y (ack_kept w) got got got since (IsAnswered out x (ack_segment w out.segment) (answer_stamp (ack_kept w) out.segment) p.dispatch answer (ack_stamped w (ack_kept w) out.segment) hears refl) (NoMove now y (ack_kept w) got);
        in_step = record {
          sender = record {
            reached = reached_y;
            state = ap is_closing h.state ∙ p.closer.state;
            peer = h.peer ∙ p.closer.peer;
            no_timeout = h.timeout ∙ p.closer.no_timeout;
            smoltcp = h.same_rules ∙ p.closer.smoltcp;
            keep_alive = h.keep_alive ∙ p.closer.keep_alive;
            nothing_marked = h.marked ∙ p.closer.nothing_marked;
            rests = rests;
          };
          receiver = record {
            reached = step_reached w (ack_kept w) (after_segment i.receiver.reached.counts w (ack_kept w)) i.receiver.reached (Process rules.Smoltcp now 0 out.ip out.segment (omega arith) numbered p.short (λ l. absurd (not_listening l)) (sym (ap (λ (o : Outcome). o.view) answer)) refl);
            smoltcp = i.receiver.smoltcp;
            state = i.receiver.state;
            timer = i.receiver.timer;
            read = i.receiver.read;
            room = i.receiver.room;
            nothing_held = i.receiver.nothing_held;
            room_at_least = i.receiver.room_at_least;
          };
          over = record {
            taken = 0;
            taken_within = omega arith;
            there = same_seq (next_ack w) (seq_add (next_ack w) 0) (omega arith) ∙ ap (λ m. seq_add m 0) (sym h.una);
            scale = ap scale_of (h.scale ∙ p.scale) ∙ i.over.scale;
            some = window_then;
            window = omega (arith, h.window, window_is, width_told w (ack_kept w) i.receiver.room (wide_so w i.receiver.room i.receiver.nothing_held) narrow refl refl refl refl (smoltcp_field w i.receiver.smoltcp));
            at_most = omega (arith, h.window, window_is);
          };
          heard = i.heard;
          heard_within = i.heard_within;
          back = own_y ∙ i.back;
          in_reach = still_in_reach y w own_y (told_alike v y (h.rx ∙ p.rx) (h.shift ∙ p.shift)) refl;
        };
        whole = ap (λ (l : List ℕ). got ++ l) queue;
        less = omega (arith, ap (λ (l : List ℕ). length l) queue, length-drop n v.tx_buffer.bytes, i.over.taken_within, few, p.some);
      }

    -- ---- some of it is new

    module _ (new : n < size) where
      abbrev m : ℕ
      m = size - n

      within : n ≤ length v.tx_buffer.bytes
      within = i.over.taken_within

      np : NewPart w out.segment n m
      np = new_part w out.segment v.local_seq_no n (length v.tx_buffer.bytes) number_is edge v_small within p.queued queue_short new (omega (arith, p.fits, i.over.window))

      -- the last of it, with the FIN
      last : size ≡ length v.tx_buffer.bytes → BringsAll d t f at v w got i
      last all = record {
        end = now;
        sender = x;
        receiver = read_off o.view (length ys);
        moves = subst (λ l. Moves f at v w got now x (read_off o.view (length ys)) (got ++ l)) whole (OneMore at now now v w x o.view x (read_off o.view (length ys)) got got (got ++ ys) since (Carries out p.dispatch (ap (λ r. record { view = o.view; reply = r }) k.reply) refl) (OneMore now now now x o.view x (read_off o.view (length ys)) x (read_off o.view (length ys)) got (got ++ ys) (got ++ ys) (grind (arith, ints)) (Reads (length ys) (omega (arith, ap (λ (l : List ℕ). length l) k.bytes)) refl refl (ap (λ (l : List ℕ). got ++ l) (sym (read_out o.view.rx_buffer ys k.bytes)))) (NoMove now x (read_off o.view (length ys)) (got ++ ys))));
        finished = k.finished;
      }
        where
          o : Outcome
          o = processed w now 0 out.ip out.segment

          ys : List ℕ
          ys = drop n out.segment.payload

          k : TookLast ys o
          k = took_last w (next_ack v) faces i.receiver.room i.receiver.read i.receiver.nothing_held now out.ip out.segment (p.fin all) p.ack n m (omega (arith, number_is, v_small)) np i.receiver.state

          whole : ys ≡ drop n v.tx_buffer.bytes
          whole = ap (drop n) (p.first ∙ ap (λ q. take q v.tx_buffer.bytes) all ∙ take_all v.tx_buffer.bytes)

      -- or not yet
      module _ (less : size < length v.tx_buffer.bytes) where
        caught : IsCaughtUp w (next_ack v) i.heard i.receiver.room
        caught = record {
          state = receives_steady w.state i.receiver.state;
          takes = i.receiver.state;
          una_small = faces.una_small;
          short = faces.short;
          there = i.back;
          queued = i.heard_within;
          nxt_small = (reached_ordered w i.receiver.reached).nxt_small;
          ahead = ahead;
          timer = open_timer w.timer i.receiver.timer;
          read = i.receiver.read;
          held = i.receiver.nothing_held;
          narrow = narrow;
        }

        abbrev ys : List ℕ
        ys = fresh_bytes w (next_ack v) i.heard i.receiver.room now out.ip out.segment caught (p.plain less) p.ack n m np

        abbrev w1 : View
        w1 = took w (next_ack v) i.heard i.receiver.room now out.ip out.segment caught (p.plain less) p.ack n m np

        abbrev w2 : View
        w2 = read_off w1 (length ys)

        takes_it : processed w now 0 out.ip out.segment ≡ record { view = w1; reply = None }
        takes_it = takes w (next_ack v) i.heard i.receiver.room now out.ip out.segment caught (p.plain less) p.ack n m np

        bytes : w1.rx_buffer.bytes ≡ ys
        bytes = took_bytes w (next_ack v) i.heard i.receiver.room now out.ip out.segment caught (p.plain less) p.ack n m np

        k : Took w (next_ack v) i.heard i.receiver.room m (out.segment.window_len * 2 ^ scale_of w.remote_win_scale) now w2
        k = took_so w (next_ack v) i.heard i.receiver.room now out.ip out.segment caught (p.plain less) p.ack n m np

        not_close : IsOpenTimer w2.timer
        not_close = took_open w (next_ack v) i.heard i.receiver.room now out.ip out.segment caught (p.plain less) p.ack n m np

        reached_w : IsReached w2
        reached_w = took_reached w (next_ack v) i.heard i.receiver.room now out.ip out.segment caught (p.plain less) p.ack n m np i.receiver.reached (omega (arith, number_is, v_small)) p.short

        wide_w : length w.rx_buffer.held ≡ i.receiver.room
        wide_w = wide_so w i.receiver.room i.receiver.nothing_held

        wide_w2 : length w2.rx_buffer.held ≡ i.receiver.room
        wide_w2 = wide_so w2 i.receiver.room k.held

        told_w2 : window_told w2 ≡ window_told w
        told_w2 = (λ j. unit ((wide_w2 ∙ sym wide_w) j) (k.shift j))

        brings : Onward d t f at v w got i
        brings = record {
          end = now;
          sender = x;
          receiver = w2;
          more = got ++ ys;
          moves =
              OneMore at now now v w x w1 x w2 got got (got ++ ys) since (Carries out p.dispatch takes_it refl)
              (OneMore now now now x w1 x w2 x w2 got (got ++ ys) (got ++ ys) (grind (arith, ints)) (Reads (length ys) (omega (arith, ap (λ (l : List ℕ). length l) bytes)) refl refl (ap (λ (l : List ℕ). got ++ l) (sym (read_out w1.rx_buffer ys bytes)))) (NoMove now x w2 (got ++ ys)));
          in_step = record {
            sender = p.closer;
            receiver = record {
              reached = reached_w;
              smoltcp = k.same_rules ∙ i.receiver.smoltcp;
              state = ap receives k.state ∙ i.receiver.state;
              timer = λ at e. subst IsOpenTimer e not_close;
              read = k.read;
              room = i.receiver.room;
              nothing_held = k.held;
              room_at_least = subst (λ q. 2 ^ q ≤ i.receiver.room) (sym k.shift) i.receiver.room_at_least;
            };
            over = record {
              taken = size;
              taken_within = subst (λ (q : Queue). size ≤ length q.bytes) (sym p.tx) p.queued;
              there = same_seq (next_ack w2) (seq_add x.local_seq_no size) (omega (arith, k.next, edge, new, v_small, ap (λ (q : TcpSeqNumber). q.0) p.una));
              scale = ap scale_of p.scale ∙ i.over.scale ∙ sym k.shift;
              some = subst (λ q. 0 < q) (sym p.window) i.over.some;
              window = omega (arith, p.window, i.over.window, new, width_kept w w2 m i.receiver.room wide_w wide_w2 narrow k.last_ack k.last_win k.shift k.next np.fits);
              at_most = omega (arith, p.window, i.over.at_most, told_w2);
            };
            heard = 0;
            heard_within = omega arith;
            back = own ∙ same_seq (next_ack v) (seq_add (next_ack v) 0) (omega arith) ∙ ap (λ q. seq_add q 0) (sym k.una);
            in_reach = still_in_reach x w2 own (told_alike v x p.rx p.shift) k.nxt;
          };
          whole = append_assoc got ys (drop size x.tx_buffer.bytes) ∙ ap (λ (q : Queue). got ++ (ys ++ drop size q.bytes)) p.tx ∙ ap (λ (l : List ℕ). got ++ (drop n l ++ drop size v.tx_buffer.bytes)) p.first ∙ ap (λ (l : List ℕ). got ++ l) (cut_and_rest n size v.tx_buffer.bytes (omega (arith, new)));
          less = omega (arith, ap (λ (q : Queue). length q.bytes) p.tx, p.queued, within, new);
        }

    pub goes_on : Onward d t f at v w got i ⊎ BringsAll d t f at v w got i
    goes_on = elim (some_or_none (size - n)) [
      | inl z ↦ inl (answered (omega (arith, z)))
      | inr z ↦ elim (some_or_none (length v.tx_buffer.bytes - size)) [
        | inl e ↦ inr (last (omega (arith, z)) (omega (arith, e, p.queued)))
        | inr e ↦ inl (brings (omega (arith, z)) (omega (arith, e)))
      ]
    ]
