-- Two sides just after their handshake stand in step.
use Rattle.std.proofs.Common.{◌≡◌, ℕ, zero, suc, ◌+◌, ◌*◌, ◌/◌, ◌<◌, ◌≤◌, ◌^◌, Bool, true, false, refl, sym, ap, subst, ◌∙◌, [], length, min, Option, Some, None, arith, mul-le-mul_right}
use Rattle.std.specs.Prelude.{if◌then◌else◌}
use Rattle.std.proofs.Math.Pow.{pow_mono}
use Rattle.std.proofs.lemmas.Nat.{le-div, pow-add, pow_pos}
use Rattle.net_base.specs.declared.time.Duration.{Duration}
use Rattle.net_base.specs.declared.time.Instant.{Instant}
use Rattle.control_wire.specs.Seq.{seq_add, seq_sub}
use Rattle.control_wire.specs.declared.seq_number.TcpSeqNumber.{TcpSeqNumber}
use Rattle.sock_core.specs.Seq.{is_before}
use Rattle.sock_core.specs.WindowShift.{window_shift}
use Rattle.sock_core.proofs.Shifts.{is_shift_least, shift_at_most}
use Rattle.sock_tcp.specs.Queues.{may_send}
use Rattle.sock_tcp.specs.Steps.{scale_of}
use Rattle.sock_tcp.specs.View.{View}
use Rattle.sock_tcp.specs.Window.{kept_between, next_ack, receive_window, window_end}
use Rattle.sock_tcp.specs.declared.state.State.TheVariants as state
use Rattle.sock_tcp.specs.declared.timer.Timer.TheVariants as timer
use Rattle.sock_tcp.specs.declared.tuple.Tuple.{Tuple}
use Rattle.tcp_laws.specs.Polling.{IsReached}
use Rattle.tcp_laws.proofs.OrderedCalls.{reached_ordered}
use Rattle.progress_laws.specs.BothWays.{BothInStep, IsSide, Toward, window_told}
use Rattle.progress_laws.specs.InStep.{ForKeepAlive, ForNothing, Rests}
use Rattle.progress_laws.proofs.Sides.{room_small, told_some, wide_so}
use Rattle.progress_laws.proofs.Edges.{is_not_before, same_seq}
use Rattle.progress_laws.proofs.Taking.{blank}
use Rattle.progress_laws.proofs.Widths.{unit}
use Rattle.tcp_laws.proofs.Scaled.{shift_within}
use Rattle.sock_tcp.specs.declared.rules.Rules.TheVariants as rules

-- ---- what a SYN tells of a window, which it does not shift

-- it is no more than the window field tells, once that is shifted
pub told_at_least : (n : ℕ) → min n 65535 ≤ unit n (window_shift n)
told_at_least n = by (window_shift n) refl
  where
    by : (r : ℕ) → r ≡ window_shift n → min n 65535 ≤ unit n r
    by zero e = omega arith
    by (suc r) e =
        let least : 2 ^ (15 + suc r) ≤ n = is_shift_least n (suc r) e (omega arith) in
        let parts : 2 ^ (15 + suc r) ≡ 2 ^ 15 * 2 ^ suc r = pow-add 2 15 (suc r) in
        let enough : 2 ^ 15 ≤ n / 2 ^ suc r = le-div (2 ^ 15) n (2 ^ suc r) (pow_pos (suc r)) (omega (arith, least, parts)) in
        let field : 2 ^ 15 ≤ min (n / 2 ^ suc r) 65535 = omega (arith, enough) in
        let whole : 2 ^ 15 * 2 ^ suc r ≤ min (n / 2 ^ suc r) 65535 * 2 ^ suc r = mul-le-mul_right {m = 2 ^ 15} {n = min (n / 2 ^ suc r) 65535} (2 ^ suc r) field in
        let two : 2 ^ 1 ≤ 2 ^ suc r = pow_mono {i = 1} {j = suc r} (omega arith) in
        omega (arith, whole, two)

-- the edge that it tells lies so far at least, within the free places
pub syn_edge : (start : TcpSeqNumber) (room n told : ℕ) → start.0 < 2 ^ 32 → room ≤ 2 ^ 30 → told ≤ room → told ≤ n → n < 2 ^ 31 → told ≤ seq_sub (kept_between start (seq_add start room) (seq_add start n)) start
syn_edge start room n told small narrow fits least far = rw (is_not_before (seq_add start n) start (omega (arith, small, far))) (by (is_before (seq_add start room) (seq_add start n)))
  where
    by : (b : Bool) → told ≤ seq_sub (if b then seq_add start room else seq_add start n) start
    by true = omega (arith, small, narrow, fits)
    by false = omega (arith, small, least, far)

-- so does its window, seen by who told it
pub syn_width : (w : View) (room : ℕ) → length w.rx_buffer.held ≡ room → room ≤ 2 ^ 30 → w.remote_win_shift ≡ window_shift room → w.remote_last_ack ≡ Some (next_ack w) → w.remote_last_win ≡ min room 65535 → min room 65535 ≤ seq_sub (receive_window w).end (receive_window w).start
unfolding receive_window
syn_width w room wide narrow shift ack field = subst (λ n. min room 65535 ≤ n) (sym is) (syn_edge (next_ack w) room (min room 65535 * 2 ^ window_shift room) (min room 65535) (omega arith) narrow (omega arith) least far)
  where
    is : seq_sub (window_end w w.remote_last_ack) (next_ack w) ≡ seq_sub (kept_between (next_ack w) (seq_add (next_ack w) room) (seq_add (next_ack w) (min room 65535 * 2 ^ window_shift room))) (next_ack w)
    is = ap (λ o. seq_sub (window_end w o) (next_ack w)) ack ∙ (λ i. seq_sub (kept_between (next_ack w) (seq_add (next_ack w) (wide i)) (seq_add (next_ack w) (field i * 2 ^ shift i))) (next_ack w))

    least : min room 65535 ≤ min room 65535 * 2 ^ window_shift room
    least = let one : 1 ≤ 2 ^ window_shift room = pow_pos (window_shift room) in let more = mul-le-mul_right {m = 1} {n = 2 ^ window_shift room} (min room 65535) one in omega (arith, more)

    far : min room 65535 * 2 ^ window_shift room < 2 ^ 31
    far =
        let most : 2 ^ window_shift room ≤ 2 ^ 14 = pow_mono {i = window_shift room} {j = 14} (shift_at_most room) in
        let more = mul-le-mul_right {m = 2 ^ window_shift room} {n = 2 ^ 14} (min room 65535) most in
        omega (arith, more)

-- ---- a side after the handshake

pub record IsNew (d : Option Duration) (t : Tuple) (room : ℕ) (v : View) : Type 0 where
  pub reached : IsReached v
  pub established : v.state ≡ state.Established
  pub peer : v.tuple ≡ Some t
  pub no_timeout : v.timeout ≡ None
  pub smoltcp : v.rules ≡ rules.Smoltcp
  pub keep_alive : v.keep_alive ≡ d
  pub nothing_marked : v.pending_fast_retransmit ≡ false
  pub moment : Option Instant
  pub timer : v.timer ≡ timer.Idle moment
  pub nxt : v.remote_last_seq ≡ v.local_seq_no
  pub read : v.rx_buffer.bytes ≡ []
  pub nothing_held : v.rx_buffer.held ≡ blank room
  pub some : 0 < room
  pub shift : v.remote_win_shift ≡ window_shift room

-- v was told a window by a SYN|ACK, and w by an ACK
pub record Agree (here across : ℕ) (v w : View) : Type 0 where
  pub over : next_ack w ≡ v.local_seq_no
  pub back : next_ack v ≡ w.local_seq_no
  pub scale_over : scale_of v.remote_win_scale ≡ window_shift across
  pub scale_back : scale_of w.remote_win_scale ≡ window_shift here
  pub told_over : v.remote_win_len ≡ min across 65535
  pub told_back : w.remote_win_len ≡ unit here (window_shift here)
  pub width_here : seq_sub (receive_window v).end (receive_window v).start ≡ unit here (window_shift here)
  pub last_ack : w.remote_last_ack ≡ Some (next_ack w)
  pub last_win : w.remote_last_win ≡ min across 65535

idle_any : (v : View) (o : Option Instant) → v.timer ≡ timer.Idle o → v.remote_last_seq ≡ v.local_seq_no → 0 < v.remote_win_len → Rests v
idle_any v None idle nxt some = ForNothing idle nxt some
idle_any v (Some at) idle nxt some = ForKeepAlive at idle nxt

module _ (d : Option Duration) (t : Tuple) (room : ℕ) (v : View) (n : IsNew d t room v) where
  at_least : 2 ^ v.remote_win_shift ≤ room
  at_least = subst (λ k. 2 ^ k ≤ room) (sym n.shift) (shift_within room n.some)

  side : 0 < v.remote_win_len → IsSide d t v
  side some = record {
    sender = record { reached = n.reached; state = ap may_send n.established; peer = n.peer; no_timeout = n.no_timeout; smoltcp = n.smoltcp; keep_alive = n.keep_alive; nothing_marked = n.nothing_marked; rests = idle_any v n.moment n.timer n.nxt some };
    established = n.established;
    read = n.read;
    room = room;
    nothing_held = n.nothing_held;
    room_at_least = at_least;
  }

  told_is : window_told v ≡ unit room (window_shift room)
  told_is = (λ i. unit (wide_so v room n.nothing_held i) (n.shift i))

  narrow : room ≤ 2 ^ 30
  narrow = room_small v room n.nothing_held n.reached

  told_any : 0 < window_told v
  told_any = told_some v room n.nothing_held at_least

-- the numbers of a stream of which nothing was sent
edge_at : (x una : TcpSeqNumber) → x ≡ una → una.0 < 2 ^ 32 → x ≡ seq_add una 0
edge_at x una e small = e ∙ same_seq una (seq_add una 0) (omega (arith, small))

module _ (d e : Option Duration) (t s : Tuple) (here across : ℕ) (v w : View) (n : IsNew d t here v) (m : IsNew e s across w) (g : Agree here across v w) where
  some_here : 0 < v.remote_win_len
  some_here = omega (arith, g.told_over, m.some)

  some_across : 0 < w.remote_win_len
  some_across = let k = told_any d t here v n in omega (arith, g.told_back, told_is d t here v n, k)

  over : Toward v w
  over = record {
    taken = 0;
    taken_within = omega arith;
    there = edge_at (next_ack w) v.local_seq_no g.over (reached_ordered v n.reached).una_small;
    scale = g.scale_over ∙ sym m.shift;
    some = some_here;
    window = omega (arith, g.told_over, syn_width w across (wide_so w across m.nothing_held) (narrow e s across w m) m.shift g.last_ack g.last_win);
    at_most = omega (arith, g.told_over, told_is e s across w m, told_at_least across);
  }

  back : Toward w v
  back = record {
    taken = 0;
    taken_within = omega arith;
    there = edge_at (next_ack v) w.local_seq_no g.back (reached_ordered w m.reached).una_small;
    scale = g.scale_back ∙ sym n.shift;
    some = some_across;
    window = omega (arith, g.told_back, g.width_here);
    at_most = omega (arith, g.told_back, told_is d t here v n);
  }

  reach : seq_sub w.remote_last_seq (next_ack v) < window_told v
  reach = omega (arith, ap (λ (q : TcpSeqNumber). q.0) (m.nxt ∙ sym g.back), told_any d t here v n)

  pub new_in_step : BothInStep d e t s v w
  new_in_step = record { here = side d t here v n some_here; across = side e s across w m some_across; over = over; back = back; in_reach = reach }

  pub none_over : new_in_step.over.taken ≡ 0
  unfolding new_in_step over
  none_over = refl

  pub none_back : new_in_step.back.taken ≡ 0
  unfolding new_in_step back
  none_back = refl
