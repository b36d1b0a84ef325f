-- A speaker in FIN-WAIT-1 hears that its FIN was counted.
use Rattle.std.proofs.Common.{◌≡◌, ℕ, zero, suc, ◌+◌, ◌<◌, ◌≤◌, ◌^◌, ◌⊎◌, inl, inr, Bool, true, false, refl, sym, ap, subst, ◌∙◌, List, length, Some, None, arith}
use Rattle.std.specs.Prelude.{◌≤ℤ◌, int_lt}
use Rattle.std.proofs.lemmas.Bool.{eq-eqb}
use Rattle.std.proofs.lemmas.Int.{ints}
use Rattle.net_base.specs.declared.time.Duration.{Duration}
use Rattle.net_base.specs.declared.time.Instant.{Instant}
use Rattle.ip_wire.specs.declared.repr.IpRepr.{IpRepr}
use Rattle.control_wire.specs.Segment.{Segment}
use Rattle.control_wire.specs.Seq.{seq_add, seq_minus, seq_sub}
use Rattle.control_wire.specs.declared.seq_number.TcpSeqNumber.{TcpSeqNumber}
use Rattle.sock_core.specs.Bounds.{IsMtu}
use Rattle.sock_core.specs.Facts.{Facts}
use Rattle.sock_core.specs.Seq.{is_before, later_of}
use Rattle.sock_tcp.proofs.Windows.{not_far}
use Rattle.sock_tcp.specs.Acked.{acked_of}
use Rattle.sock_tcp.specs.Advance.{moved_to}
use Rattle.sock_tcp.specs.Due.{is_closing}
use Rattle.sock_tcp.specs.Process.{Outcome, close_restarted, outside, timer_restarted}
use Rattle.progress_laws.specs.Smoltcp.{processed}
use Rattle.sock_tcp.specs.Replies.{ack_kept, ack_segment, reply_ip}
use Rattle.sock_tcp.specs.Steps.{heard, window_of}
use Rattle.sock_tcp.specs.Timers.{is_over}
use Rattle.sock_tcp.specs.View.{View}
use Rattle.sock_tcp.specs.Window.{is_inside, next_ack, receive_window}
use Rattle.sock_tcp.specs.declared.acked.Acked.{Acked}
use Rattle.sock_tcp.specs.declared.state.State.{State}
use Rattle.sock_tcp.specs.declared.state.State.TheVariants as state
use Rattle.sock_tcp.specs.declared.tuple.Tuple.{Tuple}
use Rattle.tcp_laws.specs.Polling.{IsReached}
use Rattle.tcp_laws.proofs.Kept.{outside_kept}
use Rattle.tcp_laws.proofs.Ordered.{Row}
use Rattle.tcp_laws.proofs.OrderedCalls.{reached_ordered}
use Rattle.progress_laws.specs.Agreement.{Exchanges, InReach, IsMove, IsSpeaker, NextOne, NoMore}
use Rattle.progress_laws.specs.Delivery.{HasSaid, has_counted}
use Rattle.progress_laws.specs.InStep.{IsAnswered, told}
use Rattle.progress_laws.specs.Speech.{FromUna, KeepsAlive, Speech}
use Rattle.progress_laws.proofs.Stamped.{stamped_ack, answer_stamp, ack_stamped}
use Rattle.progress_laws.proofs.Agrees.{carries_listens, left_reach, reach_is_inside, reached_room, width_small}
use Rattle.progress_laws.proofs.Answered.{carries_so}
use Rattle.progress_laws.proofs.Arrives.{Faces, away, away_empty, before_window, from_outside, is_synchronized, synchronized_stays}
use Rattle.progress_laws.proofs.Begins.{dispatch_reached, later_moment, numbered_as, segment_reached}
use Rattle.progress_laws.proofs.Counted.{heard_fin}
use Rattle.progress_laws.proofs.Edges.{later_is, later_stays, same_seq}
use Rattle.progress_laws.proofs.Hears.{HeardAs, heard_any}
use Rattle.progress_laws.proofs.Spoken.{ack, bit, fin_alone, is_fin, queued}
use Rattle.progress_laws.proofs.Taken.{Rest, counted_carries}
use Rattle.progress_laws.proofs.Talks.{AsksOnly, StartsAtUna}
use Rattle.progress_laws.proofs.Utters.{Utters, onward, utters}
use Rattle.sock_tcp.specs.declared.rules.Rules.TheVariants as rules

no_listen : (st : State) → has_counted st ≡ true → st ≡ state.Listen → ⊥
no_listen state.CloseWait c e = absurd cc
no_listen state.Closing c e = absurd cc
no_listen state.LastAck c e = absurd cc
no_listen _ c e = absurd cc

-- ---- the other side answers

abbrev Stays : View → View → Type 0
Stays z u = Rest z u × (u.rx_buffer ≡ z.rx_buffer)

outside_stays : (z : View) (now : Instant) (s : Segment) → is_synchronized z.state ≡ true → Stays z (outside z now s).view
unfolding ack_kept close_restarted
outside_stays z now s sync = outside_kept (Stays z) now s (record {
  challenges = λ w at k. (record { state = k.0.state; fin = k.0.fin; una = k.0.una; nxt = k.0.nxt; tx = k.0.tx; rcv = k.0.rcv; shift = k.0.shift; peer = k.0.peer; timeout = k.0.timeout; same_rules = k.0.same_rules; keep_alive = k.0.keep_alive; marked = k.0.marked; timer = k.0.timer }, k.1);
  acks = λ w k. (record { state = k.0.state; fin = k.0.fin; una = k.0.una; nxt = k.0.nxt; tx = k.0.tx; rcv = k.0.rcv; shift = k.0.shift; peer = k.0.peer; timeout = k.0.timeout; same_rules = k.0.same_rules; keep_alive = k.0.keep_alive; marked = k.0.marked; timer = k.0.timer }, k.1);
}) (λ w k. (record { state = k.0.state; fin = k.0.fin; una = k.0.una; nxt = k.0.nxt; tx = k.0.tx; rcv = k.0.rcv; shift = k.0.shift; peer = k.0.peer; timeout = k.0.timeout; same_rules = k.0.same_rules; keep_alive = k.0.keep_alive; marked = k.0.marked; timer = ap (λ st. timer_restarted st w.timer now) k.0.state ∙ synchronized_stays z.state w.timer now sync ∙ k.0.timer }, k.1)) z (record { state = refl; fin = refl; una = refl; nxt = refl; tx = refl; rcv = refl; shift = refl; peer = refl; timeout = refl; same_rules = refl; keep_alive = refl; marked = refl; timer = refl }, refl)

row_waits : (st : State) (u : View) → st ≡ state.FinWait1 → Row st u.timer u.keep_alive (seq_sub u.remote_last_seq u.local_seq_no) (length u.tx_buffer.bytes) → seq_sub u.remote_last_seq u.local_seq_no ≤ length u.tx_buffer.bytes + 1
row_waits st u e r = (subst (λ st. Row st u.timer u.keep_alive (seq_sub u.remote_last_seq u.local_seq_no) (length u.tx_buffer.bytes)) e r).1

later_reaches : (a b : TcpSeqNumber) → a.0 < 2 ^ 32 → b.0 < 2 ^ 32 → seq_sub b a < 2 ^ 31 → later_of a b ≡ b
later_reaches a b ha hb near = go (is_before a b) refl
  where
    go : (c : Bool) → is_before a b ≡ c → later_of a b ≡ b
    go true e = later_is a b e
    go false e = later_stays a b e ∙ same_seq a b (omega (arith, not_far a b e, ha, hb, near))

-- the sender is in FIN-WAIT-2 then, and the receiver is as it was
pub record FinAcked (f : Facts) (at : Instant) (u z : View) (got : List ℕ) : Type 0 where
  pub end : Instant
  pub sender : View
  pub receiver : View
  pub exchanges : Exchanges f at u z got end sender receiver got
  pub reached : IsReached sender
  pub smoltcp : sender.rules ≡ rules.Smoltcp
  pub state : sender.state ≡ state.FinWait2
  pub rx : sender.rx_buffer ≡ u.rx_buffer
  pub own : next_ack sender ≡ next_ack u
  pub una : sender.local_seq_no ≡ next_ack receiver
  pub nxt : sender.remote_last_seq ≡ next_ack receiver
  pub reached_there : IsReached receiver
  pub rest : Rest z receiver
  pub rx_there : receiver.rx_buffer ≡ z.rx_buffer

module _ (d : Duration) (t : Tuple) (f : Facts) (mtu : IsMtu f.mtu) (here : f.has_address t.local.addr ≡ true) (at : Instant) (v z : View) (got : List ℕ) (sp : IsSpeaker d t v) (waits : v.state ≡ state.FinWait1) (there : IsReached z) (counted : has_counted z.state ≡ true) (next : next_ack z ≡ seq_add v.local_seq_no (length v.tx_buffer.bytes + 1)) (una : z.local_seq_no ≡ next_ack v) (reach : InReach v z) where
  bound : (y : Instant) × (at.micros ≤ℤ y.micros) × (is_over z.challenge_ack_timer y ≡ true)
  bound = later_moment at z.challenge_ack_timer

  p : Utters d t f at bound.0 v z got
  p = utters d t f mtu here at bound.0 bound.1 v z got sp (inr (ap is_closing waits))

  abbrev s : Segment
  s = p.out.segment

  abbrev o : Outcome
  o = processed z p.now 0 p.out.ip s

  abbrev x : View
  x = p.sender

  own : next_ack x ≡ next_ack v
  own = λ i. seq_add (p.earlier.same.rcv i) (length ((p.earlier.same.rx i).bytes))

  abbrev fa : Facts
  fa = told f p.now

  abbrev u : View
  u = p.after

  next_x : next_ack z ≡ seq_add x.local_seq_no (length x.tx_buffer.bytes + 1)
  next_x = next ∙ (λ i. seq_add (sym p.earlier.same.una i) (length ((sym p.earlier.same.tx i).bytes) + 1))

  x_small : x.local_seq_no.0 < 2 ^ 32
  x_small = (reached_ordered x p.speaker.reached).una_small

  x_short : length x.tx_buffer.bytes ≤ 2 ^ 30
  x_short = omega (arith, (reached_ordered x p.speaker.reached).room)

  edge : (next_ack z).0 ≡ (seq_add x.local_seq_no (length x.tx_buffer.bytes + 1)).0
  edge = ap (λ (m : TcpSeqNumber). m.0) next_x

  synchronized : is_synchronized z.state ≡ true
  synchronized = carries_so z.state (counted_carries z.state counted)

  faces : Faces z (next_ack x)
  faces =
      let q = reached_ordered z there in
      record { state = synchronized; una_small = q.una_small; short = omega (arith, q.room); heard = 0; heard_within = omega arith; back = omega (arith, ap (λ (m : TcpSeqNumber). m.0) una, ap (λ (m : TcpSeqNumber). m.0) own, q.una_small); room = omega (arith, reached_room z there) }

  said : Speech x p.out → HasSaid t fa x p.out u
  said q = record { reached = p.speaker.reached; carries = p.speaker.carries; on = p.on; dispatch = p.dispatch; speech = q }

  over : int_lt p.now.micros z.challenge_ack_timer.micros ≡ false
  over = let a = bound.2 in let b = p.long_since in grind (arith, ints, a, b)

  -- ---- and is heard

  u_reached : IsReached u
  u_reached = dispatch_reached fa x (Some p.out) u p.speaker.reached p.dispatch

  u_state : u.state ≡ state.FinWait1
  u_state = p.left.same.state ∙ p.earlier.same.state ∙ waits

  u_reach : InReach u z
  u_reach = left_reach x u z p.speaker.reached p.left (left_reach v x z sp.reached p.earlier reach)

  z_small : z.remote_last_seq.0 < 2 ^ 32
  z_small = (reached_ordered z there).nxt_small

  next_u : next_ack z ≡ seq_add u.local_seq_no (length u.tx_buffer.bytes + 1)
  next_u = next_x ∙ (λ i. seq_add (sym p.left.same.una i) (length ((sym p.left.same.tx i).bytes) + 1))

  module _ (away_so : is_inside (receive_window z) s.seq_number (length s.payload) ≡ false) (reply : o.reply ≡ Some (ack_segment z s)) (h : HasSaid t fa x p.out u) (small : s.seq_number.0 < 2 ^ 32) (short : length s.payload ≤ 65535) where
    abbrev g : Segment
    g = stamped_ack z o.view s

    abbrev ip : IpRepr
    ip = reply_ip p.out.ip g

    abbrev y : View
    y = record u { local_rx_last_seq = Some g.seq_number }

    abbrev a : Acked
    a = acked_of u g.control g.ack_number

    abbrev v' : View
    v' = heard (moved_to state.FinWait2 y) p.now a g

    number : g.ack_number ≡ Some (next_ack z)
    unfolding ack_segment
    number = refl

    seq : g.seq_number ≡ z.remote_last_seq
    unfolding ack_segment
    seq = refl

    empty : length g.payload ≡ 0
    unfolding ack_segment
    empty = refl

    hears : processed u p.now 0 ip g ≡ record { view = v'; reply = None }
    unfolding ack_segment
    hears = heard_fin u u_reached (ap is_closing u_state) (next_ack z) next_u p.now 0 ip g refl refl refl (reach_is_inside u z u_reached z_small u_reach) u_state

    h_as : HeardAs (moved_to state.FinWait2 y) (next_ack z) a.len (window_of g.control g.window_len u.remote_win_scale) v'
    h_as = heard_any (moved_to state.FinWait2 y) p.now a g (next_ack z) number

    kept : Stays z o.view
    kept = subst (λ (r : Outcome). Stays z r.view) (sym (from_outside z (next_ack x) faces p.now 0 p.out.ip s (bit t fa x p.out u h) (ack t fa x p.out u h) away_so)) (outside_stays z p.now s synchronized)

    next_then : next_ack o.view ≡ next_ack z
    next_then = λ i. seq_add (kept.0.rcv i) (length ((kept.1 i).bytes))

    reaches : later_of u.remote_last_seq (next_ack z) ≡ next_ack z
    reaches =
        let r = reached_ordered u u_reached in
        let few : seq_sub u.remote_last_seq u.local_seq_no ≤ length u.tx_buffer.bytes + 1 = row_waits u.state u u_state r.row in
        later_reaches u.remote_last_seq (next_ack z) r.nxt_small (omega arith) (omega (arith, few, ap (λ (m : TcpSeqNumber). m.0) next_u, r.una_small, r.nxt_small, r.room))

    fin_acked : FinAcked f at v z got
    fin_acked = record {
      end = p.now;
      sender = v';
      receiver = o.view;
      exchanges = onward at p.mid p.now v z x z v' o.view got got got p.before (NextOne p.mid p.now p.now x z v' o.view v' o.view got got got p.since (IsMove (IsAnswered p.out u (ack_segment z s) (answer_stamp o.view s) p.dispatch (ap (λ r. record { view = o.view; reply = r }) reply) (ack_stamped z o.view s) hears refl)) (NoMore p.now v' o.view got));
      reached = segment_reached u v' p.now 0 ip g None u_reached (omega arith) (numbered_as g (next_ack z) number (subst (λ (m : TcpSeqNumber). m.0 < 2 ^ 32) (sym seq) z_small) (omega arith)) (omega (arith, empty)) (λ e. absurd (carries_listens x.state p.speaker.carries (sym p.left.same.state ∙ e))) hears;
      smoltcp = h_as.same_rules ∙ p.left.same.same_rules ∙ p.earlier.same.same_rules ∙ sp.smoltcp;
      state = h_as.state;
      rx = h_as.rx ∙ p.left.same.rx ∙ p.earlier.same.rx;
      own = (λ i. seq_add (h_as.rcv i) (length ((h_as.rx i).bytes))) ∙ (λ i. seq_add (p.left.same.rcv i) (length ((p.left.same.rx i).bytes))) ∙ own;
      una = h_as.una ∙ sym next_then;
      nxt = h_as.nxt ∙ reaches ∙ sym next_then;
      reached_there = segment_reached z o.view p.now 0 p.out.ip s o.reply there (omega arith) (numbered_as s (next_ack x) (ack t fa x p.out u h) small (omega arith)) short (λ e. absurd (no_listen z.state counted e)) refl;
      rest = kept.0;
      rx_there = kept.1;
    }

  -- ---- what it says lies before the window

  narrow : seq_sub (receive_window z).end (receive_window z).start ≤ 2 ^ 30
  narrow = width_small z there

  one_before : length s.payload ≡ 0 → s.seq_number.0 ≡ (seq_minus (next_ack z) 1).0 → is_inside (receive_window z) s.seq_number (length s.payload) ≡ false
  unfolding is_inside receive_window
  one_before none at = rw (none, eq-eqb s.seq_number.0 (seq_minus (next_ack z) 1).0 at) refl

  with_bytes : (h : HasSaid t fa x p.out u) → 0 < length s.payload → (small : s.seq_number.0 < 2 ^ 32) → length s.payload ≤ 65535 → 0 < seq_sub (next_ack z) s.seq_number → seq_sub (next_ack z) s.seq_number < 2 ^ 31 → seq_sub (next_ack z) (seq_add s.seq_number (length s.payload)) < 2 ^ 31 → FinAcked f at v z got
  with_bytes h some small short before near behind =
      let e : is_inside (receive_window z) s.seq_number (length s.payload) ≡ false = before_window z s narrow some small before near behind in
      fin_acked e (ap (λ (r : Outcome). r.reply) (away z (next_ack x) faces p.now 0 p.out.ip s (bit t fa x p.out u h) (ack t fa x p.out u h) e some)) h small short

  pub acks_fin : FinAcked f at v z got
  acks_fin = by p.said
    where
      front : StartsAtUna x p.out → (m : ℕ) → length s.payload ≡ m → FinAcked f at v z got
      front q (suc m) e =
          let at : s.seq_number.0 ≡ x.local_seq_no.0 = ap (λ (m : TcpSeqNumber). m.0) q.number in
          let h : HasSaid t fa x p.out u = said (FromUna q.kind q.number q.some) in
          with_bytes h (omega (arith, e)) (omega (arith, at, x_small)) q.short (omega (arith, edge, at, x_small, x_short)) (omega (arith, edge, at, x_small, x_short)) (omega (arith, edge, at, x_small, x_short, queued t fa x p.out u h q.kind))
      front q zero e =
          let at : s.seq_number.0 ≡ x.local_seq_no.0 = ap (λ (m : TcpSeqNumber). m.0) q.number in
          let h : HasSaid t fa x p.out u = said (FromUna q.kind q.number q.some) in
          let none : length x.tx_buffer.bytes ≡ 0 = fin_alone t fa x p.out u h q.kind q.number e (is_fin s.control (bit t fa x p.out u h) (omega (arith, q.some, e))) in
          let out : is_inside (receive_window z) s.seq_number (length s.payload) ≡ false = one_before e (omega (arith, edge, at, x_small, none)) in
          fin_acked out (away_empty z (next_ack x) faces p.now 0 p.out.ip s (bit t fa x p.out u h) (ack t fa x p.out u h) out e over) h (omega (arith, at, x_small)) q.short

      by : StartsAtUna x p.out ⊎ AsksOnly x p.out → FinAcked f at v z got
      by (inl q) = front q (length s.payload) refl
      by (inr q) =
          let at : s.seq_number.0 ≡ (seq_minus x.local_seq_no 1).0 = ap (λ (m : TcpSeqNumber). m.0) q.number in
          let long : length s.payload ≡ 1 = ap (λ (l : List ℕ). length l) q.byte in
          with_bytes (said (KeepsAlive q.kind q.number q.byte)) (omega (arith, long)) (omega (arith, at)) (omega (arith, long)) (omega (arith, edge, at, x_small, x_short)) (omega (arith, edge, at, x_small, x_short)) (omega (arith, edge, at, x_small, x_short, long))
