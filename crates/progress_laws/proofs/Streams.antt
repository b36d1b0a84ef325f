-- Two sockets that agree on both streams: first the one speaks, and then the other.
use Rattle.std.proofs.Common.{◌≡◌, ℕ, ◌+◌, ◌*◌, ◌/◌, ◌<◌, ◌≤◌, ◌^◌, inl, inr, Bool, true, false, refl, sym, ap, subst, ◌∙◌, List, [], ◌++◌, length, drop, min, slice_get, Option, Some, None, arith, append_assoc, length-append, div-mul-le_self, mul-le-mul_right}
use Rattle.std.specs.Prelude.{if◌then◌else◌, replicate}
use Rattle.std.proofs.lemmas.Int.{ints}
use Rattle.std.proofs.lemmas.List.{append-nil, drop_all, length-replicate}
use Rattle.std.proofs.lemmas.Nat.{le-div, pow_pos}
use Rattle.net_base.specs.declared.time.Duration.{Duration}
use Rattle.net_base.specs.declared.time.Instant.{Instant}
use Rattle.control_wire.specs.Seq.{seq_add, seq_sub}
use Rattle.control_wire.specs.declared.seq_number.TcpSeqNumber.{TcpSeqNumber}
use Rattle.sock_core.proofs.Receiving.{held_stays, room_handed_out}
use Rattle.sock_core.specs.Bounds.{IsMtu}
use Rattle.sock_core.specs.Facts.{Facts}
use Rattle.sock_core.specs.Received.{Received, byte_at, handed_out, room_of}
use Rattle.sock_core.specs.Seq.{is_before}
use Rattle.sock_tcp.proofs.Windows.{far, not_far}
use Rattle.sock_tcp.specs.Due.{is_closing}
use Rattle.sock_tcp.specs.Rfc.OwnWindow.{space_field}
use Rattle.sock_tcp.specs.Queues.{may_send, read_off, receives}
use Rattle.sock_tcp.specs.View.{View}
use Rattle.sock_tcp.specs.Window.{kept_between, next_ack, receive_window, window_end}
use Rattle.sock_tcp.specs.declared.state.State.{State}
use Rattle.sock_tcp.specs.declared.state.State.TheVariants as state
use Rattle.sock_tcp.specs.declared.timer.Timer.{Timer}
use Rattle.sock_tcp.specs.declared.tuple.Tuple.{Tuple}
use Rattle.tcp_laws.proofs.Ordered.{Row}
use Rattle.tcp_laws.proofs.OrderedCalls.{reached_ordered}
use Rattle.progress_laws.specs.Agreement.{AgreeBothWays, AgreeingStreamsArrive, Agreement, Another, EitherWays, Exchanges, ForAnswer, ForKeepAlive, ForProbe, ForRepeat, InReach, IsMove, IsSpeaker, NextOne, NoMore, NoOther, StreamsArrive, ToThat, ToThis, Waits}
use Rattle.progress_laws.specs.BothWays.{window_told}
use Rattle.progress_laws.specs.InStep.{Reads}
use Rattle.progress_laws.specs.ShutWindows.{width}
use Rattle.progress_laws.proofs.Agrees.{reached_room}
use Rattle.progress_laws.proofs.Answered.{field_some}
use Rattle.progress_laws.proofs.Arrivals.{AllEnded, AllSent, Comes, comes, not_both, reads}
use Rattle.progress_laws.proofs.Arrives.{reads_reached, receives_may}
use Rattle.progress_laws.proofs.Comes.{Onward}
use Rattle.progress_laws.proofs.Edges.{same_seq}
use Rattle.progress_laws.proofs.Matches.{get_drop}
use Rattle.progress_laws.proofs.Taking.{take_all}
use Rattle.tcp_laws.proofs.Scaled.{unit_fits}
use Rattle.progress_laws.proofs.Widths.{unit}

-- ---- lists of both ways

pub to_that : {f : Facts} (at end : Instant) (v w v' w' : View) (got got' back : List ℕ) → Exchanges f at v w got end v' w' got' → EitherWays f at v w got back end v' w' got' back
to_that at end v w v' w' got got' back (NoMore _ _ _ _) = NoOther at v w got back
to_that at end v w v' w' got got' back (NextOne _ now _ _ _ u x _ _ _ more _ l m a) = Another at now end v w u x v' w' got back more back got' back l (ToThat m refl) (to_that now end u x v' w' more got' back a)

pub to_this : {f : Facts} (at end : Instant) (v w v' w' : View) (got back back' : List ℕ) → Exchanges f at w v back end w' v' back' → EitherWays f at v w got back end v' w' got back'
to_this at end v w v' w' got back back' (NoMore _ _ _ _) = NoOther at v w got back
to_this at end v w v' w' got back back' (NextOne _ now _ _ _ u x _ _ _ more _ l m a) = Another at now end v w x u v' w' got back got more got back' l (ToThis m refl) (to_this now end x u v' w' got more back' a)

pub joined : {f : Facts} (at mid end : Instant) (v w v1 w1 v2 w2 : View) (got back got1 back1 got2 back2 : List ℕ) → EitherWays f at v w got back mid v1 w1 got1 back1 → EitherWays f mid v1 w1 got1 back1 end v2 w2 got2 back2 → EitherWays f at v w got back end v2 w2 got2 back2
joined at mid end v w v1 w1 v2 w2 got back got1 back1 got2 back2 (NoOther _ _ _ _ _) b = b
joined at mid end v w v1 w1 v2 w2 got back got1 back1 got2 back2 (Another _ now _ _ _ u x _ _ _ _ more less _ _ l m a) b = Another at now end v w u x v2 w2 got back more less got2 back2 l m (joined now mid end u x v1 w1 v2 w2 more less got1 back1 got2 back2 a b)

-- ---- a read makes no window narrower

unit_wider : (a b n : ℕ) → a ≤ b → unit a n ≤ unit b n
unit_wider a b n h =
    let c = div-mul-le_self a (2 ^ n) in
    let e : a / 2 ^ n ≤ b / 2 ^ n = le-div (a / 2 ^ n) b (2 ^ n) (pow_pos n) (omega (arith, c, h)) in
    mul-le-mul_right {m = min (a / 2 ^ n) 65535} {n = min (b / 2 ^ n) 65535} (2 ^ n) (omega (arith, e))

kept_wider : (start edge : TcpSeqNumber) (a b : ℕ) → start.0 < 2 ^ 32 → edge.0 < 2 ^ 32 → a ≤ b → b ≤ 2 ^ 30 → seq_sub (kept_between start (seq_add start a) edge) start ≤ seq_sub (kept_between start (seq_add start b) edge) start
kept_wider start edge a b hs he more few = go (is_before edge start) refl (is_before (seq_add start a) edge) refl (is_before (seq_add start b) edge) refl
  where
    go : (x : Bool) → is_before edge start ≡ x → (y : Bool) → is_before (seq_add start a) edge ≡ y → (z : Bool) → is_before (seq_add start b) edge ≡ z
        → seq_sub (if x then start else (if y then seq_add start a else edge)) start ≤ seq_sub (if x then start else (if z then seq_add start b else edge)) start
    go true p y q z r = omega arith
    go false p true q true r = omega (arith, hs, more, few)
    go false p true q false r = omega (arith, hs, he, more, few, not_far edge start p, far (seq_add start a) edge q, not_far (seq_add start b) edge r)
    go false p false q true r = omega (arith, hs, he, more, few, not_far edge start p, not_far (seq_add start a) edge q, far (seq_add start b) edge r)
    go false p false q false r = omega arith

module _ (v : View) where
  abbrev pub v' : View
  v' = read_off v (length v.rx_buffer.bytes)

  places : length v'.rx_buffer.held ≡ room_of v.rx_buffer
  unfolding read_off handed_out
  places = omega (arith, length-append v.rx_buffer.held (replicate (length v.rx_buffer.bytes) None), length-replicate {A = Option ℕ} (length v.rx_buffer.bytes) None)

  pub empty_then : v'.rx_buffer.bytes ≡ []
  unfolding read_off handed_out
  empty_then = drop_all (length v.rx_buffer.bytes) v.rx_buffer.bytes (omega arith)

  pub own_then : next_ack v' ≡ next_ack v
  unfolding read_off
  own_then = same_seq (next_ack v') (next_ack v) (omega (arith, ap (λ (l : List ℕ). length l) empty_then))

  told_wider : window_told v ≤ window_told v'
  unfolding read_off
  told_wider = unit_wider (length v.rx_buffer.held) (length v'.rx_buffer.held) v.remote_win_shift (omega (arith, places))

  width_wider : room_of v.rx_buffer ≤ 2 ^ 30 → width v ≤ width v'
  unfolding receive_window read_off
  width_wider few = by v.remote_last_ack
    where
      by : (o : Option TcpSeqNumber) → seq_sub (window_end v o) (next_ack v) ≤ seq_sub (window_end v' o) (next_ack v')
      by None = omega arith
      by (Some a) = subst (λ m. seq_sub (window_end v (Some a)) (next_ack v) ≤ seq_sub (kept_between m (seq_add m (length v'.rx_buffer.held)) (seq_add a (v.remote_last_win * 2 ^ v.remote_win_shift))) m) (sym own_then) (kept_wider (next_ack v) (seq_add a (v.remote_last_win * 2 ^ v.remote_win_shift)) (length v.rx_buffer.held) (length v'.rx_buffer.held) (omega arith) (omega arith) (omega (arith, places)) (omega (arith, places, few)))

  pub waits_then : Waits v → Waits v'
  unfolding read_off
  waits_then (ForAnswer at e) = ForAnswer at e
  waits_then (ForRepeat e) = ForRepeat e
  waits_then (ForKeepAlive o e f) = ForKeepAlive o e f
  waits_then (ForProbe at delay e f) = ForProbe at delay e f

  pub reach_then : (w : View) → room_of v.rx_buffer ≤ 2 ^ 30 → InReach v w → InReach v' w
  reach_then w few (inl e) = inl (e ∙ sym own_then)
  reach_then w few (inr h) = inr (omega (arith, h.0, width_wider few, far_same), omega (arith, h.1, told_wider, far_same))
    where
      far_same : seq_sub w.remote_last_seq (next_ack v') ≡ seq_sub w.remote_last_seq (next_ack v)
      far_same = ap (λ m. seq_sub w.remote_last_seq m) own_then

  pub speaks_then : (e : Duration) (r : Tuple) → receives v.state ≡ true → IsSpeaker e r v → IsSpeaker e r v'
  unfolding read_off
  speaks_then e r takes sp = record { reached = reads_reached v (length v.rx_buffer.bytes) (receives_may v takes) (omega arith) sp.reached; carries = sp.carries; peer = sp.peer; no_timeout = sp.no_timeout; smoltcp = sp.smoltcp; keep_alive = sp.keep_alive; waits = waits_then sp.waits }

-- ---- the one, and then the other

row_flight : (st : State) (t : Timer) (keep : Option Duration) (m n : ℕ) → may_send st ≡ true → Row st t keep m n → m ≤ n
row_flight state.Established t keep m n e r = r.1
row_flight state.CloseWait t keep m n e r = r.1
row_flight _ t keep m n e r = absurd cc

not_last : (st : State) → receives st ≡ true → st ≡ state.LastAck → ⊥
not_last state.Established c e = absurd cc
not_last state.FinWait1 c e = absurd cc
not_last state.FinWait2 c e = absurd cc
not_last _ c e = absurd cc

module _ (d e : Duration) (t s : Tuple) (f : Facts) (at : Instant) (v w : View) (got back : List ℕ) (n h : ℕ) (mtu : IsMtu f.mtu) (here : f.has_address t.local.addr ≡ true) (there : f.has_address s.local.addr ≡ true) (i : AgreeBothWays d e t s v w n h) where
  abbrev v1 : View
  v1 = v' v

  abbrev w1 : View
  w1 = v' w

  abbrev back1 : List ℕ
  back1 = back ++ v.rx_buffer.bytes

  abbrev got1 : List ℕ
  got1 = got ++ w.rx_buffer.bytes

  few : room_of v.rx_buffer ≤ 2 ^ 30
  few = reached_room v i.over.speaker.reached

  pub over1 : Agreement d t v1 w n h
  unfolding read_off
  over1 = record {
    speaker = speaks_then v d t i.here.state i.over.speaker;
    taker = i.over.taker;
    taken_within = i.over.taken_within;
    there = i.over.there;
    held = i.over.held;
    heard_within = i.over.heard_within;
    back = own_then v ∙ i.over.back;
    in_reach = reach_then v w few i.over.in_reach;
    last = i.over.last;
  }

  pub field : 0 < space_field v1
  unfolding read_off
  field = field_some v1 (omega (arith, unit_fits v i.here.reached i.here.room, places v))

  pub this_read : EitherWays f at v w got back at v1 w got back1
  this_read = Another at at at v w v1 w v1 w got back got back1 got back1 (grind (arith, ints)) (ToThis (IsMove (Reads (length v.rx_buffer.bytes) (omega arith) refl refl (ap (λ (l : List ℕ). back ++ l) (sym (take_all v.rx_buffer.bytes))))) refl) (NoOther at v1 w got back1)

  module _ (may : may_send v.state ≡ true) (o : Onward d t f at v1 w1 got1 n h) (sent : length o.sender.tx_buffer.bytes ≡ 0) where
    abbrev x : View
    x = o.sender

    abbrev y : View
    y = o.receiver

    none : o.taken ≡ 0
    none = omega (arith, o.agrees.taken_within, sent)

    agreed : Agreement d t x y 0 o.heard
    agreed = subst (λ k. Agreement d t x y k o.heard) none o.agrees

    speaks : IsSpeaker e s y × (o.heard ≤ length y.tx_buffer.bytes) × (y.state ≡ w.state)
    unfolding read_off
    speaks = o.speaks e s (speaks_then w e s i.over.taker.state i.across) i.heard_within field

    same_state : x.state ≡ v.state
    unfolding read_off
    same_state = o.state

    held_then : (k b : ℕ) → byte_at x.rx_buffer.held k ≡ Some b → slice_get y.tx_buffer.bytes (o.heard + k) ≡ Some b
    unfolding read_off
    held_then k b q = sym (get_drop y.tx_buffer.bytes o.heard k) ∙ ap (λ (l : List ℕ). slice_get l k) o.nothing_lost ∙ get_drop w.tx_buffer.bytes h k ∙ i.held k b (sym (held_stays v.rx_buffer (length v.rx_buffer.bytes) k) ∙ ap (λ (r : Received). byte_at r.held k) (sym o.nothing_taken) ∙ q)

    nxt : x.remote_last_seq ≡ next_ack y
    nxt =
        let r = reached_ordered x o.agrees.speaker.reached in
        let z : seq_sub x.remote_last_seq x.local_seq_no ≤ length x.tx_buffer.bytes = row_flight x.state x.timer x.keep_alive (seq_sub x.remote_last_seq x.local_seq_no) (length x.tx_buffer.bytes) (ap may_send same_state ∙ may) r.row in
        same_seq x.remote_last_seq (next_ack y) (omega (arith, z, sent, r.una_small, r.nxt_small, ap (λ (m : TcpSeqNumber). m.0) agreed.there))

    some_room : 0 < room_of x.rx_buffer
    unfolding read_off
    some_room = omega (arith, ap room_of o.nothing_taken, room_handed_out v.rx_buffer (length v.rx_buffer.bytes) (omega arith), i.here.room)

    swapped : Agreement e s y x o.heard 0
    swapped = record {
      speaker = speaks.0;
      taker = record { reached = o.agrees.speaker.reached; state = ap receives same_state ∙ i.here.state; smoltcp = o.agrees.speaker.smoltcp; room = some_room };
      taken_within = speaks.1;
      there = o.agrees.back;
      held = held_then;
      heard_within = omega arith;
      back = agreed.there;
      in_reach = inl nxt;
      last = λ q. absurd (not_last y.state o.agrees.taker.state q);
    }

    abbrev x1 : View
    x1 = v' x

    abbrev back2 : List ℕ
    back2 = back1 ++ x.rx_buffer.bytes

    no_bytes : x.rx_buffer.bytes ≡ []
    no_bytes = ap (λ (r : Received). r.bytes) o.nothing_taken ∙ empty_then v

    all : o.more ≡ got ++ (w.rx_buffer.bytes ++ drop n v.tx_buffer.bytes)
    unfolding read_off
    all = sym (append-nil o.more) ∙ ap (λ (l : List ℕ). o.more ++ l) (sym (drop_all o.taken x.tx_buffer.bytes (omega (arith, sent)))) ∙ o.whole ∙ append_assoc got w.rx_buffer.bytes (drop n v.tx_buffer.bytes)

    all_back : back2 ++ drop o.heard y.tx_buffer.bytes ≡ back ++ (v.rx_buffer.bytes ++ drop h w.tx_buffer.bytes)
    unfolding read_off
    all_back = ap (λ (l : List ℕ). (back1 ++ l) ++ drop o.heard y.tx_buffer.bytes) no_bytes ∙ ap (λ (l : List ℕ). l ++ drop o.heard y.tx_buffer.bytes) (append-nil back1) ∙ ap (λ (l : List ℕ). back1 ++ l) o.nothing_lost ∙ append_assoc back v.rx_buffer.bytes (drop h w.tx_buffer.bytes)

    before : EitherWays f at v w got back o.end x1 y o.more back2
    before =
        joined at at o.end v w v1 w x1 y got back got back1 o.more back2 this_read
        (joined at at o.end v1 w v1 w1 x1 y got back1 got1 back1 o.more back2 (to_that at at v1 w v1 w1 got got1 back1 (reads d t f at v1 w got n h mtu here over1))
        (joined at o.end o.end v1 w1 x y x1 y got1 back1 o.more back1 o.more back2 (to_that at o.end v1 w1 x y got1 o.more back1 o.exchanges)
        (to_this o.end o.end x y x1 y o.more back1 back2 (reads e s f o.end y x back1 o.heard 0 mtu there swapped))))

    whole : (end : Instant) (a b : View) (last : List ℕ) → Exchanges f o.end y x1 back2 end b a last → last ≡ back2 ++ drop o.heard y.tx_buffer.bytes → EitherWays f at v w got back end a b (got ++ (w.rx_buffer.bytes ++ drop n v.tx_buffer.bytes)) (back ++ (v.rx_buffer.bytes ++ drop h w.tx_buffer.bytes))
    whole end a b last x2 is = subst (λ g. EitherWays f at v w got back end a b g (back ++ (v.rx_buffer.bytes ++ drop h w.tx_buffer.bytes))) all (subst (λ l. EitherWays f at v w got back end a b o.more l) (is ∙ all_back) (joined at o.end end v w x1 y a b got back o.more back2 o.more last before (to_this o.end end x1 y a b o.more back2 last x2)))

    second : Comes e s f o.end y x1 back2 o.heard 0 → StreamsArrive f at v w got back n h
    unfolding read_off
    second (AllSent p sent_too may_too) = record {
      end = p.end;
      here = p.receiver;
      across = p.sender;
      exchanges = whole p.end p.receiver p.sender p.more p.exchanges (sym (append-nil p.more) ∙ ap (λ (l : List ℕ). p.more ++ l) (sym (drop_all p.taken p.sender.tx_buffer.bytes (omega (arith, sent_too)))) ∙ p.whole);
      sent = λ m. (omega (arith, p.fewer, sent), sent_too);
      finished = λ c. absurd (not_both w.state (ap may_send (sym speaks.2) ∙ may_too) c);
    }
    second (AllEnded c p) = record {
      end = p.end;
      here = p.receiver;
      across = p.sender;
      exchanges = whole p.end p.receiver p.sender (back2 ++ drop o.heard y.tx_buffer.bytes) p.exchanges refl;
      sent = λ m. absurd (not_both w.state m (ap is_closing (sym speaks.2) ∙ c));
      finished = λ m. p.finished;
    }

  first : may_send v.state ≡ true → Comes d t f at v1 w1 got1 n h → StreamsArrive f at v w got back n h
  unfolding read_off
  first may (AllEnded c p) = absurd (not_both v.state may c)
  first may (AllSent o sent m) = second may o sent (comes e s f o.end o.receiver o.sender back1 o.heard 0 mtu there (swapped may o sent))

pub agreeing_streams_arrive : AgreeingStreamsArrive
agreeing_streams_arrive d e t s f at v w got back n h mtu here there may i = first d e t s f at v w got back n h mtu here there i may (comes d t f at (v' v) w got n h mtu here (over1 d e t s f at v w got back n h mtu here there i))
