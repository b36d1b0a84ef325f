-- Two sockets that were closed at once, and agree on both streams: first the one speaks, and then the other.
use Rattle.std.proofs.Common.{◌≡◌, ℕ, ◌+◌, ◌<◌, inl, true, refl, sym, ap, subst, ◌∙◌, List, [], ◌++◌, length, drop, slice_get, Some, arith, append_assoc}
use Rattle.std.specs.Prelude.{Err, Ok, if◌then◌else◌, not, ◌==◌}
use Rattle.std.proofs.lemmas.List.{append-nil}
use Rattle.net_base.specs.declared.time.Duration.{Duration}
use Rattle.net_base.specs.declared.time.Instant.{Instant}
use Rattle.control_wire.specs.Seq.{seq_add}
use Rattle.control_wire.specs.declared.seq_number.TcpSeqNumber.{TcpSeqNumber}
use Rattle.sock_core.proofs.Receiving.{held_stays, room_handed_out}
use Rattle.sock_core.specs.Bounds.{IsMtu}
use Rattle.sock_core.specs.Facts.{Facts}
use Rattle.sock_core.specs.Received.{Received, byte_at, room_of}
use Rattle.sock_tcp.specs.Content.{carries_data}
use Rattle.sock_tcp.specs.Due.{is_closing}
use Rattle.sock_tcp.specs.Queue.{Queue}
use Rattle.sock_tcp.specs.Queues.{read_off, receives, recv_check}
use Rattle.sock_tcp.specs.View.{View}
use Rattle.sock_tcp.specs.Window.{next_ack}
use Rattle.sock_tcp.specs.declared.error.RecvError.TheVariants as recv_error
use Rattle.sock_tcp.specs.declared.state.State.{State}
use Rattle.sock_tcp.specs.declared.state.State.TheVariants as state
use Rattle.sock_tcp.specs.declared.tuple.Tuple.{Tuple}
use Rattle.progress_laws.specs.Agreement.{AgreeBothWays, AgreeingClosersFinish, Agreement, BothEnd, EitherWays, IsSpeaker}
use Rattle.tcp_laws.proofs.OrderedCalls.{reached_ordered}
use Rattle.progress_laws.specs.Delivery.{has_counted}
use Rattle.progress_laws.proofs.Acks.{FinAcked, acks_fin}
use Rattle.progress_laws.proofs.Arrivals.{AllEnded, AllSent, Comes, comes, not_both, reads}
use Rattle.progress_laws.proofs.Comes.{Ends}
use Rattle.progress_laws.proofs.Edges.{same_seq}
use Rattle.progress_laws.proofs.Matches.{get_drop}
use Rattle.progress_laws.proofs.Streams.{empty_then, field, joined, over1, speaks_then, this_read, to_that, to_this, v'}
use Rattle.progress_laws.proofs.Taken.{rest_waits}

waits_so : (st : State) → receives st ≡ true → is_closing st ≡ true → st ≡ state.FinWait1
waits_so state.FinWait1 r c = refl
waits_so state.Established r c = absurd cc
waits_so state.FinWait2 r c = absurd cc
waits_so _ r c = absurd cc

same_check : (a b : View) → b.state ≡ a.state → b.rx_buffer ≡ a.rx_buffer → b.rx_fin_received ≡ a.rx_fin_received → recv_check b ≡ recv_check a
same_check a b st rx fin = λ i. if (if receives (st i) then true else not (length ((rx i).bytes) == 0)) then Ok tt else Err (if fin i then recv_error.Finished else recv_error.InvalidState)

module _ (d e : Duration) (t s : Tuple) (f : Facts) (at : Instant) (v w : View) (got back : List ℕ) (n h : ℕ) (mtu : IsMtu f.mtu) (here : f.has_address t.local.addr ≡ true) (there : f.has_address s.local.addr ≡ true) (closing : is_closing v.state ≡ true) (closing_there : is_closing w.state ≡ true) (i : AgreeBothWays d e t s v w n h) where
  abbrev v1 : View
  v1 = v' v

  over : Agreement d t v1 w n h
  over = over1 d e t s f at v w got back n h mtu here there i

  abbrev w1 : View
  w1 = v' w

  abbrev got1 : List ℕ
  got1 = got ++ w.rx_buffer.bytes

  abbrev back1 : List ℕ
  back1 = back ++ v.rx_buffer.bytes

  abbrev got2 : List ℕ
  got2 = got1 ++ drop n v.tx_buffer.bytes

  module _ (c : Ends d t f at v1 w1 got1 n h) where
    abbrev u : View
    u = c.sender

    abbrev z : View
    z = c.receiver

    spoken : IsSpeaker e s z × (has_counted z.state ≡ true) × (is_closing z.state ≡ is_closing w.state) × (z.state ≡ state.LastAck → ⊥)
    unfolding read_off
    spoken = c.speaks e s (speaks_then w e s i.over.taker.state i.across) i.heard_within (field d e t s f at v w got back n h mtu here there i)

    waits : u.state ≡ state.FinWait1
    unfolding read_off
    waits = c.state ∙ waits_so v.state i.here.state closing

    q : FinAcked f c.end u z got2
    unfolding read_off
    q = acks_fin d t f mtu here c.end u z got2 c.speaker waits c.reached spoken.1 c.next c.una c.reach

    abbrev x : View
    x = q.sender

    abbrev y : View
    y = q.receiver

    same_rx : x.rx_buffer ≡ v1.rx_buffer
    same_rx = q.rx ∙ c.nothing_taken

    speaker : IsSpeaker e s y
    speaker =
        let p = spoken.0 in
        record { reached = q.reached_there; carries = ap carries_data q.rest.state ∙ p.carries; peer = q.rest.peer ∙ p.peer; no_timeout = q.rest.timeout ∙ p.no_timeout; smoltcp = q.rest.same_rules ∙ p.smoltcp; keep_alive = q.rest.keep_alive ∙ p.keep_alive; waits = rest_waits z y q.rest p.waits }

    held_then : (k b : ℕ) → byte_at x.rx_buffer.held k ≡ Some b → slice_get y.tx_buffer.bytes (0 + k) ≡ Some b
    unfolding read_off
    held_then k b p = ap (λ (r : Queue). slice_get r.bytes (0 + k)) q.rest.tx ∙ ap (λ (l : List ℕ). slice_get l (0 + k)) c.rest ∙ get_drop w.tx_buffer.bytes h (0 + k) ∙ ap (slice_get w.tx_buffer.bytes) {x = h + (0 + k)} {y = h + k} (omega arith) ∙ i.held k b (sym (held_stays v.rx_buffer (length v.rx_buffer.bytes) k) ∙ ap (λ (r : Received). byte_at r.held k) (sym same_rx) ∙ p)

    some_room : 0 < room_of x.rx_buffer
    unfolding read_off
    some_room = omega (arith, ap room_of same_rx, room_handed_out v.rx_buffer (length v.rx_buffer.bytes) (omega arith), i.here.room)

    next_is : next_ack x ≡ y.local_seq_no
    next_is = q.own ∙ sym c.una ∙ sym q.rest.una

    swapped : Agreement e s y x 0 0
    swapped = record {
      speaker = speaker;
      taker = record { reached = q.reached; state = ap receives q.state; smoltcp = q.smoltcp; room = some_room };
      taken_within = omega arith;
      there = next_is ∙ same_seq y.local_seq_no (seq_add y.local_seq_no 0) (omega (arith, (reached_ordered y q.reached_there).una_small));
      held = held_then;
      heard_within = omega arith;
      back = same_seq (next_ack y) (seq_add x.local_seq_no 0) (omega (arith, ap (λ (m : TcpSeqNumber). m.0) q.una));
      in_reach = inl q.nxt;
      last = λ l. absurd (spoken.3 (sym q.rest.state ∙ l));
    }

    abbrev x1 : View
    x1 = v' x

    abbrev back2 : List ℕ
    back2 = back1 ++ x.rx_buffer.bytes

    no_bytes : x.rx_buffer.bytes ≡ []
    no_bytes = ap (λ (r : Received). r.bytes) same_rx ∙ empty_then v

    whole_got : got2 ≡ got ++ (w.rx_buffer.bytes ++ drop n v.tx_buffer.bytes)
    whole_got = append_assoc got w.rx_buffer.bytes (drop n v.tx_buffer.bytes)

    one : EitherWays f at v w got back q.end x y got2 back1
    unfolding read_off
    one =
        joined at at q.end v w v1 w x y got back got back1 got2 back1 (this_read d e t s f at v w got back n h mtu here there i)
        (joined at at q.end v1 w v1 w1 x y got back1 got1 back1 got2 back1 (to_that at at v1 w v1 w1 got got1 back1 (reads d t f at v1 w got n h mtu here over))
        (joined at c.end q.end v1 w1 u z x y got1 back1 got2 back1 got2 back1 (to_that at c.end v1 w1 u z got1 got2 back1 c.exchanges) (to_that c.end q.end u z x y got2 got2 back1 q.exchanges)))

    rest_back : back2 ++ drop 0 y.tx_buffer.bytes ≡ back1 ++ drop h w.tx_buffer.bytes
    unfolding read_off
    rest_back = ap (λ (l : List ℕ). (back1 ++ l) ++ y.tx_buffer.bytes) no_bytes ∙ ap (λ (l : List ℕ). l ++ y.tx_buffer.bytes) (append-nil back1) ∙ ap (λ (l : List ℕ). back1 ++ l) (ap (λ (r : Queue). r.bytes) q.rest.tx ∙ c.rest)

    second : Comes e s f q.end y x1 back2 0 0 → BothEnd f at v w got back n h
    second (AllSent p sent may) = absurd (not_both y.state may (ap is_closing q.rest.state ∙ spoken.2 ∙ closing_there))
    second (AllEnded closes p) = record {
      mid = q.end;
      here = x;
      across = y;
      one = subst (λ g. EitherWays f at v w got back q.end x y g back1) whole_got one;
      finished_across = same_check z y q.rest.state q.rx_there q.rest.fin ∙ c.finished;
      acknowledged = q.state;
      end = p.end;
      last_here = p.receiver;
      last_across = p.sender;
      other = subst (λ g. EitherWays f q.end x y g back1 p.end p.receiver p.sender g (back1 ++ drop h w.tx_buffer.bytes)) whole_got (subst (λ l. EitherWays f q.end x y got2 back1 p.end p.receiver p.sender got2 l) rest_back (joined q.end q.end p.end x y x1 y p.receiver p.sender got2 back1 got2 back2 got2 (back2 ++ drop 0 y.tx_buffer.bytes) (to_this q.end q.end x y x1 y got2 back1 back2 (reads e s f q.end y x back1 0 0 mtu there swapped)) (to_this q.end p.end x1 y p.receiver p.sender got2 back2 (back2 ++ drop 0 y.tx_buffer.bytes) p.exchanges)));
      finished_here = p.finished;
    }

  first : Comes d t f at v1 w1 got1 n h → BothEnd f at v w got back n h
  unfolding read_off
  first (AllSent o sent may) = absurd (not_both v.state may closing)
  first (AllEnded closes c) = second c (comes e s f (q c).end (q c).receiver (q c).sender back1 0 0 mtu there (swapped c))

pub agreeing_closers_finish : AgreeingClosersFinish
agreeing_closers_finish d e t s f at v w got back n h mtu here there closing closing_there i = first d e t s f at v w got back n h mtu here there closing closing_there i (comes d t f at (v' v) w got n h mtu here (over1 d e t s f at v w got back n h mtu here there i))
