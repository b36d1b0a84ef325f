-- Of two sides that both have bytes to send, one sends all that it has, and the other only answers.
use Rattle.std.proofs.Common.{◌≡◌, ℕ, ◌+◌, ◌-◌, ◌*◌, ◌<◌, ◌≤◌, ◌^◌, ◌⊎◌, inl, inr, refl, sym, ap, subst, ◌∙◌, List, ◌++◌, length, drop, min, Option, Some, arith, append_assoc, length-drop, true}
use Rattle.std.specs.Prelude.{◌≤ℤ◌}
use Rattle.net_base.specs.declared.time.Duration.{Duration}
use Rattle.net_base.specs.declared.time.Instant.{Instant}
use Rattle.control_wire.specs.Seq.{seq_add, seq_sub}
use Rattle.control_wire.specs.declared.seq_number.TcpSeqNumber.{TcpSeqNumber}
use Rattle.sock_core.specs.Facts.{Facts}
use Rattle.sock_core.specs.Received.{Received}
use Rattle.sock_tcp.proofs.Windows.{end_small, start_small}
use Rattle.sock_tcp.specs.Content.{Sending}
use Rattle.progress_laws.specs.Smoltcp.{processed}
use Rattle.sock_tcp.specs.Queue.{Queue}
use Rattle.sock_tcp.specs.Queues.{may_send}
use Rattle.sock_tcp.specs.Replies.{ack_kept, ack_segment}
use Rattle.sock_tcp.specs.Steps.{scale_of}
use Rattle.sock_tcp.specs.View.{View}
use Rattle.sock_tcp.specs.Window.{is_inside, next_ack, receive_window}
use Rattle.sock_tcp.specs.declared.tuple.Tuple.{Tuple}
use Rattle.tcp_laws.proofs.OrderedCalls.{reached_ordered}
use Rattle.progress_laws.specs.BothWays.{BothInStep, IsSide, window_told}
use Rattle.progress_laws.specs.InStep.{ForAnswer, IsSender, Moves, NoMove, OneMore, told}
use Rattle.progress_laws.proofs.Begins.{some_or_none}
use Rattle.progress_laws.proofs.Edges.{reach_inside, same_seq}
use Rattle.progress_laws.proofs.Receives.{NewPart, new_part}
use Rattle.progress_laws.proofs.Rounds.{cut_and_rest}
use Rattle.progress_laws.proofs.Sides.{Brought, HearsAnswer, brings_side, caught_side, hears_answer, room_small, told_some, wide_so}
use Rattle.progress_laws.proofs.Speaks.{SpeaksPlain}
use Rattle.progress_laws.proofs.Takes.{IsCaughtUp, Took, old_answered, width_kept}
use Rattle.progress_laws.proofs.Widths.{told_alike, unit, unit_within, width_told}

-- ---- one step further

-- twice what is not taken, and one more where the sender has not heard of something that was
abbrev pub measure : View → ℕ → ℕ
measure v n = 2 * (length v.tx_buffer.bytes - n) + min n 1

pub record Further (d e : Option Duration) (t s : Tuple) (f : Facts) (at : Instant) (v w : View) (got : List ℕ) (i : BothInStep d e t s v w) : Type 0 where
  pub end : Instant
  pub here : View
  pub across : View
  pub more : List ℕ
  pub moves : Moves f at v w got end here across more
  pub in_step : BothInStep d e t s here across
  pub whole : more ++ drop in_step.over.taken here.tx_buffer.bytes ≡ got ++ drop i.over.taken v.tx_buffer.bytes
  pub others : drop in_step.back.taken across.tx_buffer.bytes ≡ drop i.back.taken w.tx_buffer.bytes
  pub fewer : length across.tx_buffer.bytes ≤ length w.tx_buffer.bytes
  pub less : measure here in_step.over.taken < measure v i.over.taken

module _ (d e : Option Duration) (t s : Tuple) (f : Facts) (at now : Instant) (since : at.micros ≤ℤ now.micros) (v w : View) (got : List ℕ) (i : BothInStep d e t s v w) (p : SpeaksPlain (told f now) v) where
  abbrev vs : IsSender d t v
  vs = i.here.sender

  abbrev ws : IsSender e s w
  ws = i.across.sender

  abbrev n : ℕ
  n = i.over.taken

  abbrev out : Sending
  out = p.bytes.out

  abbrev x : View
  x = p.bytes.after

  abbrev size : ℕ
  size = length p.bytes.out.segment.payload

  v_small : v.local_seq_no.0 < 2 ^ 32
  v_small = (reached_ordered v vs.reached).una_small

  queue_short : length v.tx_buffer.bytes ≤ 2 ^ 30
  queue_short = omega (arith, (reached_ordered v vs.reached).room)

  edge : (next_ack w).0 ≡ (seq_add v.local_seq_no n).0
  edge = ap (λ (m : TcpSeqNumber). m.0) i.over.there

  number_is : out.segment.seq_number.0 ≡ v.local_seq_no.0
  number_is = ap (λ (m : TcpSeqNumber). m.0) p.bytes.number

  own : next_ack x ≡ next_ack v
  own = (λ j. seq_add (p.bytes.speaks.waits.same.rcv j) (length ((p.bytes.speaks.waits.same.rx j).bytes)))

  narrow_v : i.here.room ≤ 2 ^ 30
  narrow_v = room_small v i.here.room i.here.nothing_held vs.reached

  narrow_w : i.across.room ≤ 2 ^ 30
  narrow_w = room_small w i.across.room i.across.nothing_held ws.reached

  told_small : window_told v ≤ 2 ^ 30
  told_small = omega (arith, unit_within (length v.rx_buffer.held) v.remote_win_shift, wide_so v i.here.room i.here.nothing_held, narrow_v)

  width_x : seq_sub (receive_window x).end (receive_window x).start ≡ window_told v
  width_x = width_told v x i.here.room (wide_so v i.here.room i.here.nothing_held) narrow_v p.bytes.speaks.waits.same.rx p.bytes.speaks.waits.same.rcv p.shift p.last_ack p.last_win

  caught : IsCaughtUp w (next_ack v) i.back.taken i.across.room
  caught = caught_side i.across (next_ack v) i.back.taken i.back.there i.back.taken_within (omega (arith, i.in_reach, told_small))

  told_is : out.segment.window_len * 2 ^ scale_of w.remote_win_scale ≡ window_told v
  told_is = (λ j. p.field j * 2 ^ i.back.scale j)

  told_there : 0 < out.segment.window_len * 2 ^ scale_of w.remote_win_scale
  told_there = subst (λ m. 0 < m) (sym told_is) (told_some v i.here.room i.here.nothing_held i.here.room_at_least)

  side_then : IsSide d t x
  side_then =
      let k = p.bytes.speaks.waits in
      record {
        sender = record { reached = k.reached; state = ap may_send k.same.state ∙ vs.state; peer = k.same.peer ∙ vs.peer; no_timeout = k.same.timeout ∙ vs.no_timeout; smoltcp = k.same.same_rules ∙ vs.smoltcp; keep_alive = k.same.keep_alive ∙ vs.keep_alive; nothing_marked = k.nothing_marked; rests = ForAnswer p.at p.timer };
        established = k.same.state ∙ i.here.established;
        read = ap (λ (b : Received). b.bytes) k.same.rx ∙ i.here.read;
        room = i.here.room;
        nothing_held = ap (λ (b : Received). b.held) k.same.rx ∙ i.here.nothing_held;
        room_at_least = subst (λ m. 2 ^ m ≤ i.here.room) (sym p.shift) i.here.room_at_least;
      }

  -- ---- w has it already, and answers

  module _ (few : size ≤ n) where
    answer : processed w now 0 out.ip out.segment ≡ record { view = ack_kept w; reply = Some (ack_segment w out.segment) }
    answer =
        let within = i.over.taken_within in
        let some = p.bytes.some in
        old_answered w (next_ack v) i.back.taken i.across.room now out.ip out.segment caught p.bytes.speaks.bit p.bytes.speaks.ack some (omega (arith, number_is, v_small)) (omega (arith, number_is, edge, v_small, within, queue_short, few, some)) (omega (arith, number_is, edge, v_small, within, queue_short)) (omega (arith, number_is, edge, v_small, within, queue_short, few))

    near : seq_sub (next_ack w) x.remote_last_seq ≤ 2 ^ 30
    near =
        let nxt = ap (λ (m : TcpSeqNumber). m.0) p.bytes.nxt in
        omega (arith, nxt, edge, v_small, i.over.taken_within, queue_short, few, p.bytes.sent_within)

    edge_x : (receive_window x).start ≡ next_ack v
    unfolding receive_window
    edge_x = own

    lies : is_inside (receive_window x) w.remote_last_seq 0 ≡ true
    unfolding is_inside
    lies = reach_inside (receive_window x) (start_small x) (end_small x) (omega (arith, width_x, told_small)) w.remote_last_seq (reached_ordered w ws.reached).nxt_small (omega (arith, width_x, ap (λ (q : TcpSeqNumber). q.0) edge_x, i.in_reach))

    r : HearsAnswer d e t s f now v w x n
    r = hears_answer d e t s f now v w i.here i.across n i.over.taken_within i.over.there i.over.scale out x p.bytes.speaks p.shift p.short (omega (arith, number_is, v_small)) answer lies near

    answered : Further d e t s f at v w got i
    unfolding ack_kept
    answered =
        record {
          end = now;
          here = r.view;
          across = ack_kept w;
          more = got;
          moves = OneMore at now now v w r.view (ack_kept w) r.view (ack_kept w) got got got since (r.move got) (NoMove now r.view (ack_kept w) got);
          in_step = record {
            here = r.here;
            across = r.across;
            over = r.over;
            back = record {
              taken = i.back.taken;
              taken_within = i.back.taken_within;
              there = r.next ∙ i.back.there;
              scale = i.back.scale ∙ sym r.shift;
              some = i.back.some;
              window = omega (arith, i.back.at_most, width_told v r.view i.here.room (wide_so v i.here.room i.here.nothing_held) narrow_v r.rx r.rcv r.shift (r.last_ack ∙ p.last_ack) (r.last_win ∙ p.last_win));
              at_most = subst (λ m. w.remote_win_len ≤ m) (sym (told_alike v r.view r.rx r.shift)) i.back.at_most;
            };
            in_reach = omega (arith, i.in_reach, ap (λ (q : TcpSeqNumber). q.0) r.next, told_alike v r.view r.rx r.shift);
          };
          whole = ap (λ k. got ++ drop k r.view.tx_buffer.bytes) r.none ∙ ap (λ (l : List ℕ). got ++ l) r.queue;
          others = refl;
          fewer = omega arith;
          less = omega (arith, r.none, ap (λ (l : List ℕ). length l) r.queue, length-drop n v.tx_buffer.bytes, i.over.taken_within, few, p.bytes.some);
        }

  -- ---- some of it is new, and is read

  module _ (new : n < size) where
    abbrev m : ℕ
    m = size - n

    within : n ≤ length v.tx_buffer.bytes
    within = i.over.taken_within

    np : NewPart w out.segment n m
    np = new_part w out.segment v.local_seq_no n (length v.tx_buffer.bytes) number_is edge v_small within p.bytes.queued queue_short new (omega (arith, p.fits, i.over.window))

    b : Brought e s f now v w x (next_ack v) i.back.taken i.across.room m (out.segment.window_len * 2 ^ scale_of w.remote_win_scale) (drop n out.segment.payload)
    b = brings_side e s f now v x w out p.bytes.speaks.dispatch i.across (next_ack v) i.back.taken caught p.bytes.speaks.bit p.bytes.speaks.ack (omega (arith, number_is, v_small)) p.short told_there n m np

    abbrev w2 : View
    w2 = b.view

    abbrev fresh : List ℕ
    fresh = drop n out.segment.payload

    k : Took w (next_ack v) i.back.taken i.across.room m (out.segment.window_len * 2 ^ scale_of w.remote_win_scale) now w2
    k = b.took

    wide_w : length w.rx_buffer.held ≡ i.across.room
    wide_w = wide_so w i.across.room i.across.nothing_held

    wide_w2 : length w2.rx_buffer.held ≡ i.across.room
    wide_w2 = wide_so w2 i.across.room k.held

    told_w2 : window_told w2 ≡ window_told w
    told_w2 = (λ j. unit ((wide_w2 ∙ sym wide_w) j) (k.shift j))

    told_x : window_told x ≡ window_told v
    told_x = told_alike v x p.bytes.speaks.waits.same.rx p.shift

    brings : Further d e t s f at v w got i
    brings = record {
      end = now;
      here = x;
      across = w2;
      more = got ++ fresh;
      moves = b.moves at since got;
      in_step = record {
        here = side_then;
        across = b.side;
        over = record {
          taken = size;
          taken_within = subst (λ (q : Queue). size ≤ length q.bytes) (sym p.bytes.speaks.waits.same.tx) p.bytes.queued;
          there = same_seq (next_ack w2) (seq_add x.local_seq_no size) (omega (arith, k.next, edge, new, v_small, ap (λ (q : TcpSeqNumber). q.0) p.bytes.speaks.waits.same.una));
          scale = ap scale_of p.bytes.speaks.waits.same.scale ∙ i.over.scale ∙ sym k.shift;
          some = subst (λ q. 0 < q) (sym p.window) i.over.some;
          window = omega (arith, p.window, i.over.window, new, width_kept w w2 m i.across.room wide_w wide_w2 narrow_w k.last_ack k.last_win k.shift k.next np.fits);
          at_most = omega (arith, p.window, i.over.at_most, told_w2);
        };
        back = record {
          taken = 0;
          taken_within = omega arith;
          there = own ∙ same_seq (next_ack v) (seq_add (next_ack v) 0) (omega arith) ∙ ap (λ q. seq_add q 0) (sym k.una);
          scale = ap scale_of k.scale ∙ i.back.scale ∙ sym p.shift;
          some = subst (λ q. 0 < q) (sym k.window) told_there;
          window = omega (arith, k.window, told_is, width_x);
          at_most = omega (arith, k.window, told_is, told_x);
        };
        in_reach = omega (arith, i.in_reach, ap (λ (q : TcpSeqNumber). q.0) k.nxt, ap (λ (q : TcpSeqNumber). q.0) own, told_x);
      };
      whole = append_assoc got fresh (drop size x.tx_buffer.bytes) ∙ ap (λ (q : Queue). got ++ (fresh ++ drop size q.bytes)) p.bytes.speaks.waits.same.tx ∙ ap (λ (l : List ℕ). got ++ (drop n l ++ drop size v.tx_buffer.bytes)) p.bytes.first ∙ ap (λ (l : List ℕ). got ++ l) (cut_and_rest n size v.tx_buffer.bytes (omega (arith, new)));
      others = k.tx;
      fewer = omega (arith, ap (λ (l : List ℕ). length l) k.tx, length-drop i.back.taken w.tx_buffer.bytes);
      less = omega (arith, ap (λ (q : Queue). length q.bytes) p.bytes.speaks.waits.same.tx, p.bytes.queued, within, new);
    }

  pub further : Further d e t s f at v w got i
  further = by (some_or_none (size - n))
    where
      by : (size - n ≡ 0) ⊎ (0 < size - n) → Further d e t s f at v w got i
      by (inl z) = answered (omega (arith, z))
      by (inr z) = brings (omega (arith, z))
