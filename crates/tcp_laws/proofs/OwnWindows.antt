-- Which window a socket tells, and which number it sends, by the RFCs' rules.
use Rattle.std.proofs.Common.{◌≡◌, ℕ, ◌+◌, ◌-◌, ◌*◌, ◌/◌, ◌^◌, ◌<◌, ◌≤◌, Bool, true, false, not, ◌&&◌, refl, sym, ap, subst, ◌∙◌, length, min, arith, div-mul-le_self, mul-le-mul_right}
use Rattle.std.specs.Prelude.{if◌then◌else◌, ◌==◌, nat_le}
use Rattle.std.proofs.Math.Nat.{lt-div-mul-add}
use Rattle.std.proofs.lemmas.Bool.{and_right, eq-eqb, leb-true, leb-false, lt-leb}
use Rattle.std.proofs.lemmas.Bool.Decides.{nat_tests}
use Rattle.std.proofs.lemmas.Nat.{pow_pos}
use Rattle.control_wire.specs.Segment.{segment_len}
use Rattle.control_wire.specs.Seq.{seq_add, seq_sub}
use Rattle.control_wire.specs.declared.seq_number.TcpSeqNumber.{TcpSeqNumber}
use Rattle.sock_core.specs.Received.{room_of}
use Rattle.sock_core.specs.Seq.{is_before, later_of}
use Rattle.sock_tcp.proofs.OwnWindow.{up_covers}
use Rattle.sock_tcp.proofs.Windows.{far, is_not_before, window_width}
use Rattle.sock_tcp.specs.Content.{aside_field}
use Rattle.sock_tcp.specs.Due.{edge_sent, field_left, flight, is_closed, is_doubled, tells_window, window_doubled, window_field}
use Rattle.sock_tcp.specs.Rfc.Numbers.{highest_number, number_out_by, numbered}
use Rattle.sock_tcp.specs.Rfc.OwnWindow.{field_by, field_up, is_grown, kept_field, may_grow, space_field, told_left}
use Rattle.sock_tcp.specs.Rfc.Recovery.{highest_of, sent_of}
use Rattle.sock_tcp.specs.View.{View}
use Rattle.sock_tcp.specs.Window.{has_window}
use Rattle.sock_tcp.specs.declared.recovery.Recovery.{Recovery}
use Rattle.sock_tcp.specs.declared.recovery.Recovery.TheVariants as recovery
use Rattle.sock_tcp.specs.declared.rules.Rules.TheVariants as rules
use Rattle.sock_tcp.specs.declared.state.State.{State}
use Rattle.sock_tcp.specs.declared.state.State.TheVariants as state
use Rattle.sock_tcp.specs.declared.timer.Timer.{Timer}
use Rattle.net_base.specs.declared.time.Duration.{Duration}
use Rattle.std.specs.Prelude.{Option}
use Rattle.tcp_laws.proofs.Pointed.{IsNumbered, numbered_of, reached_pointed}
use Rattle.tcp_laws.specs.Windows.{IsSmallGrowth, KeepAliveMovesNoEdge, NoWindowByBytes, NumberIsNotBehind, OpenedWindowIsTold, RightEdgeStays}
use Rattle.tcp_laws.proofs.Ordered.{IsOrdered, Row}
use Rattle.tcp_laws.proofs.OrderedCalls.{reached_ordered}
use Rattle.tcp_laws.proofs.SocketSteps.{holds_after}

-- ---- what fields reach

-- the field of so much space reaches n places of it, or is the largest
space_covers : (held shift n : ℕ) → n ≤ held → min n (65535 * 2 ^ shift) < min (held / 2 ^ shift) 65535 * 2 ^ shift + 2 ^ shift
space_covers held shift n within = go (nat_le 65535 (held / 2 ^ shift)) refl
  where
    go : (b : Bool) → nat_le 65535 (held / 2 ^ shift) ≡ b → min n (65535 * 2 ^ shift) < min (held / 2 ^ shift) 65535 * 2 ^ shift + 2 ^ shift
    go true e =
        let most = leb-true 65535 (held / 2 ^ shift) e in
        let is : min (held / 2 ^ shift) 65535 ≡ 65535 = omega (arith, most) in
        let times = ap (λ k. k * 2 ^ shift) is in
        omega (arith, times, pow_pos shift)
    go false e =
        let less = leb-false 65535 (held / 2 ^ shift) e in
        let is : min (held / 2 ^ shift) 65535 ≡ held / 2 ^ shift = omega (arith, less) in
        let times = ap (λ k. k * 2 ^ shift) is in
        let whole = lt-div-mul-add {a = held} (pow_pos shift) in
        omega (arith, times, whole, within)

module _ (v : View) (wide : told_left v ≤ length v.rx_buffer.held) where
  abbrev Reaches : ℕ → Type 0
  Reaches field = min (told_left v) (65535 * 2 ^ v.remote_win_shift) < field * 2 ^ v.remote_win_shift + 2 ^ v.remote_win_shift

  space_reaches : Reaches (space_field v)
  space_reaches = space_covers (length v.rx_buffer.held) v.remote_win_shift (told_left v) wide

  kept_reaches : Reaches (kept_field v)
  kept_reaches = go (nat_le (field_up (told_left v) v.remote_win_shift) (space_field v)) refl
    where
      go : (b : Bool) → nat_le (field_up (told_left v) v.remote_win_shift) (space_field v) ≡ b → Reaches (kept_field v)
      go true e =
          let less = leb-true (field_up (told_left v) v.remote_win_shift) (space_field v) e in
          let is : kept_field v ≡ field_up (told_left v) v.remote_win_shift = omega (arith, less) in
          let times = ap (λ k. k * 2 ^ v.remote_win_shift) is in
          let covered = up_covers (told_left v) v.remote_win_shift in
          omega (arith, times, covered, pow_pos v.remote_win_shift)
      go false e =
          let more = leb-false (field_up (told_left v) v.remote_win_shift) (space_field v) e in
          let is : kept_field v ≡ space_field v = omega (arith, more) in
          subst Reaches (sym is) space_reaches

  rfc_reaches : Reaches (field_by rules.Rfc v)
  rfc_reaches = by (is_grown v)
    where
      by : (b : Bool) → Reaches (if b then space_field v else kept_field v)
      by true = space_reaches
      by false = kept_reaches

pub right_edge_stays : RightEdgeStays
right_edge_stays v r is =
    let own = (holds_after r.rx r.tx v r.counts r.rx_size r.run).room in
    let room : length v.rx_buffer.held ≤ 2 ^ 30 = omega (arith, own) in
    subst (λ q. Reaches v (window_width v room) (field_by q v)) (sym is) (rfc_reaches v (window_width v room))

-- what keeps the right edge moves it on by less than a unit
kept_below : (v : View) → kept_field v * 2 ^ v.remote_win_shift < told_left v + 2 ^ v.remote_win_shift
kept_below v =
    let most = mul-le-mul_right {m = kept_field v} {n = field_up (told_left v) v.remote_win_shift} (2 ^ v.remote_win_shift) (omega arith) in
    let up = div-mul-le_self (told_left v + (2 ^ v.remote_win_shift - 1)) (2 ^ v.remote_win_shift) in
    omega (arith, most, up, pow_pos v.remote_win_shift)

pub keep_alive_moves_no_edge : KeepAliveMovesNoEdge
keep_alive_moves_no_edge v s r is =
    let own = (holds_after r.rx r.tx v r.counts r.rx_size r.run).room in
    let room : length v.rx_buffer.held ≤ 2 ^ 30 = omega (arith, own) in
    subst (λ q. Reaches v (window_width v room) (aside_field q v s.window_len) × (aside_field q v s.window_len * 2 ^ v.remote_win_shift < told_left v + 2 ^ v.remote_win_shift)) (sym is) (kept_reaches v (window_width v room), kept_below v)

-- ---- growth

module _ (v : View) where
  abbrev least : ℕ
  least = min (room_of v.rx_buffer / 2) v.remote_mss

  abbrev free : ℕ
  free = length v.rx_buffer.held - told_left v

  no_growth : IsSmallGrowth v → is_grown v ≡ false
  unfolding is_grown
  no_growth small = lt-leb least free small

  growth : (IsSmallGrowth v → ⊥) → is_grown v ≡ true
  unfolding is_grown
  growth large = go (nat_le least free) refl
    where
      go : (b : Bool) → nat_le least free ≡ b → nat_le least free ≡ true
      go true e = e
      go false e = absurd (large (leb-false least free e))

  grown_or_not : (b : Bool) → is_grown v ≡ b → v.rules ≡ rules.Rfc → window_field v ≡ (if b then space_field v else kept_field v)
  grown_or_not b e is = ap (λ r. field_by r v) is ∙ ap (λ c. if c then space_field v else kept_field v) e

pub no_window_by_bytes : NoWindowByBytes
unfolding window_doubled
no_window_by_bytes v is small = (moves, and_right (tells_window v.state) (is_doubled v v.remote_last_ack && may_grow v.rules v) (and_right (is_doubled v v.remote_last_ack) (may_grow v.rules v) still))
  where
    still : may_grow v.rules v ≡ false
    still = ap (λ r. may_grow r v) is ∙ no_growth v small

    moves : window_field v * 2 ^ v.remote_win_shift < told_left v + 2 ^ v.remote_win_shift
    moves =
        let kept = grown_or_not v false (no_growth v small) is in
        let most = mul-le-mul_right {m = window_field v} {n = field_up (told_left v) v.remote_win_shift} (2 ^ v.remote_win_shift) (omega (arith, kept)) in
        let up = div-mul-le_self (told_left v + (2 ^ v.remote_win_shift - 1)) (2 ^ v.remote_win_shift) in
        omega (arith, most, up, pow_pos v.remote_win_shift)

all_three : (a b c : Bool) → a ≡ true → b ≡ true → c ≡ true → (a && (b && c)) ≡ true
all_three a b c x y z = rw (x, y, z) refl

half_at_least : (left field : ℕ) → left ≡ 0 → 0 < field → (not (field == 0) && nat_le left (field / 2)) ≡ true
half_at_least left field none some = grind (arith, nat_tests, none, some)

pub opened_window_is_told : OpenedWindowIsTold
unfolding window_doubled
opened_window_is_told v ack is large tells last none some = all_three (tells_window v.state) (is_doubled v v.remote_last_ack) (may_grow v.rules v) tells doubled grows
  where
    grows : may_grow v.rules v ≡ true
    grows = ap (λ r. may_grow r v) is ∙ growth v large

    doubled : is_doubled v v.remote_last_ack ≡ true
    doubled = ap (is_doubled v) last ∙ half_at_least (field_left v (edge_sent v ack)) (space_field v) none some

-- ---- numbers

flight_within : (st : State) (t : Timer) (keep : Option Duration) (flight n : ℕ) → is_closed st ≡ false → has_window st ≡ true → Row st t keep flight n → flight ≤ n + 1
flight_within state.Closed t keep flight n e w r = absurd cc
flight_within state.Listen t keep flight n e w r = absurd cc
flight_within state.SynSent t keep flight n e w r = absurd cc
flight_within state.SynReceived t keep flight n e w r = omega (arith, r.2)
flight_within state.Established t keep flight n e w r = omega (arith, r.1)
flight_within state.CloseWait t keep flight n e w r = omega (arith, r.1)
flight_within state.FinWait1 t keep flight n e w r = r.1
flight_within state.Closing t keep flight n e w r = r.1
flight_within state.LastAck t keep flight n e w r = r.1
flight_within state.FinWait2 t keep flight n e w r = omega (arith, r.2)
flight_within state.TimeWait t keep flight n e w r = omega (arith, r.2)

-- SND.MAX is not before SND.NXT
module _ (una nxt : TcpSeqNumber) (una_small : una.0 < 2 ^ 32) (nxt_small : nxt.0 < 2 ^ 32) (few : seq_sub nxt una ≤ 2 ^ 30 + 1) where
  later_further : (point : TcpSeqNumber) → point.0 < 2 ^ 32 → seq_sub nxt una ≤ seq_sub (later_of nxt point) una
  unfolding later_of
  later_further point small = go (is_before nxt point) refl
    where
      go : (b : Bool) → is_before nxt point ≡ b → seq_sub nxt una ≤ seq_sub (if b then point else nxt) una
      go true e = omega (arith, far nxt point e, few, small, una_small, nxt_small)
      go false e = omega arith

  highest_further : (r : Recovery) → IsNumbered r → seq_sub nxt una ≤ seq_sub (highest_of r nxt) una
  highest_further recovery.Open h = omega arith
  highest_further (recovery.Probe start end again) h = omega arith
  highest_further (recovery.Fast point high_rxt resent_at acked trailed una_lost) h = later_further point h
  highest_further (recovery.Timeout point) h = later_further point h

  not_behind : (m : ℕ) → seq_sub nxt una ≤ m → m ≤ 2 ^ 30 + 1 → is_before (seq_add una m) nxt ≡ false
  not_behind m more most = is_not_before (seq_add una m) nxt (omega (arith, more, most, una_small, nxt_small))

pub number_is_not_behind : NumberIsNotBehind
number_is_not_behind v s r is not_closed synchronized none =
    ap (λ n. is_before n v.remote_last_seq) number
    ∙ not_behind v.local_seq_no v.remote_last_seq o.una_small o.nxt_small few (min (sent_of v) (length v.tx_buffer.bytes + 1)) (omega (arith, highest_further v.local_seq_no v.remote_last_seq o.una_small o.nxt_small few v.recovery numbers, within)) (omega (arith, o.room))
  where
    o : IsOrdered v
    o = reached_ordered v r

    numbers : IsNumbered v.recovery
    numbers = numbered_of v.recovery (reached_pointed v r).1

    within : flight v ≤ length v.tx_buffer.bytes + 1
    within = flight_within v.state v.timer v.keep_alive (flight v) (length v.tx_buffer.bytes) not_closed synchronized o.row

    few : seq_sub v.remote_last_seq v.local_seq_no ≤ 2 ^ 30 + 1
    few = omega (arith, within, o.room)

    number : (numbered v s).seq_number ≡ highest_number v
    number = (λ i. number_out_by (eq-eqb (segment_len s) 0 none i) (is i) v s.seq_number)
