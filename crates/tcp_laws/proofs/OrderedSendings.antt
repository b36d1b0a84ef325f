-- What a dispatch sends keeps the order of SND.UNA, SND.NXT, the transmit queue and the timer.
use Rattle.std.proofs.Common.{◌||◌, ◌≡◌, ℕ, ◌+◌, ◌-◌, ◌<◌, ◌≤◌, ◌%◌, ◌^◌, max, min, ◌⊎◌, inl, inr, Bool, true, false, true≢false, refl, sym, ap, subst, ◌∙◌, List, length, Option, Some, None, arith}
use Rattle.std.specs.Prelude.{if◌then◌else◌, ◌==◌, option_map}
use Rattle.std.proofs.lemmas.Bool.{eqb-true}
use Rattle.net_base.specs.declared.time.Duration.{Duration}
use Rattle.net_base.specs.declared.time.Instant.{Instant}
use Rattle.control_wire.specs.Segment.{Segment, control_len, segment_len}
use Rattle.control_wire.specs.Seq.{seq_add, seq_sub}
use Rattle.control_wire.specs.declared.seq_number.TcpSeqNumber.{TcpSeqNumber}
use Rattle.control_wire.specs.declared.tcp.TcpControl.TheVariants as control
use Rattle.sock_core.specs.Facts.{Facts}
use Rattle.sock_core.specs.Congestion.{post_transmitted}
use Rattle.sock_core.specs.Estimator.{Estimator}
use Rattle.sock_core.specs.Seq.{later_of}
use Rattle.sock_tcp.specs.Rfc.TailLoss.{tail_armed}
use Rattle.sock_tcp.proofs.Arming.{armed_as}
use Rattle.sock_tcp.proofs.Holes.{number_at, start_within}
use Rattle.sock_tcp.proofs.Lending.{lent_at_most}
use Rattle.sock_tcp.specs.Rfc.Idle.{idle_by, restarted_by}
use Rattle.sock_tcp.specs.Content.{Sending, content, data_control, filled, emission_kind, hole_of, number_of, offset_of, of_kind, plain_segment, sent_as, with_data}
use Rattle.sock_tcp.specs.Due.{flight, is_closed, is_closing}
use Rattle.sock_tcp.specs.Rfc.Scoreboard.{hole_number, hole_start}
use Rattle.sock_tcp.specs.Rfc.RoundTrips.{sending_measured}
use Rattle.sock_tcp.specs.Sent.{goes_on, emitted_as, after_any, after_probe, snd_nxt_moved, sending_timed, after_sending, left_by}
use Rattle.tcp_laws.specs.SocketRun.{SendsTo}
use Rattle.sock_tcp.specs.Timers.{keep_alive_renewed, probe_doubled, retransmit_unless_set}
use Rattle.sock_tcp.specs.View.{View, moment_of}
use Rattle.sock_tcp.specs.declared.emission.Kind.{Kind}
use Rattle.sock_tcp.specs.declared.emission.Kind.TheVariants as kind
use Rattle.sock_tcp.specs.declared.state.State.{State}
use Rattle.sock_tcp.specs.declared.state.State.TheVariants as state
use Rattle.sock_tcp.specs.declared.timer.Timer.{Timer}
use Rattle.sock_tcp.specs.declared.timer.Timer.TheVariants as timer
use Rattle.sock_tcp.specs.declared.tuple.Tuple.{Tuple}
use Rattle.tcp_laws.proofs.Ordered.{HasMoment, IsOpening, IsOrdered, IsPeeredIn, Row, is_close, idle_has_moment, later_small, later_within, post_transmitted_open, restarted_open}

-- ---- timers

renewed_has_moment : (t : Timer) (now : Instant) (keep : Option Duration) → HasMoment t keep → HasMoment (keep_alive_renewed t now keep) keep
renewed_has_moment (timer.Idle at) now keep h = idle_has_moment now keep
renewed_has_moment _ now keep h = h

waits_has_moment : (t : Timer) (now : Instant) (e : Estimator) (keep : Option Duration) → HasMoment t keep → HasMoment (retransmit_unless_set t now e) keep
waits_has_moment (timer.Idle at) now e keep h = tt
waits_has_moment (timer.ZeroWindowProbe at d) now e keep h = tt
waits_has_moment _ now e keep h = h

doubled_has_moment : (t : Timer) (now : Instant) (keep : Option Duration) → HasMoment t keep → HasMoment (probe_doubled t now) keep
doubled_has_moment (timer.ZeroWindowProbe at d) now keep h = tt
doubled_has_moment _ now keep h = h

renewed_close : (t : Timer) (now : Instant) (keep : Option Duration) → is_close t ≡ true → is_close (keep_alive_renewed t now keep) ≡ true
renewed_close (timer.Idle at) now keep h = absurd cc
renewed_close _ now keep h = h

waits_close : (t : Timer) (now : Instant) (e : Estimator) → is_close t ≡ true → is_close (retransmit_unless_set t now e) ≡ true
waits_close (timer.Idle at) now e h = absurd cc
waits_close (timer.ZeroWindowProbe at d) now e h = absurd cc
waits_close _ now e h = h

doubled_close : (t : Timer) (now : Instant) → is_close t ≡ true → is_close (probe_doubled t now) ≡ true
doubled_close (timer.ZeroWindowProbe at d) now h = absurd cc
doubled_close _ now h = h

renewed_opening : (t : Timer) (now : Instant) (keep : Option Duration) (flight : ℕ) → IsOpening t flight → IsOpening (keep_alive_renewed t now keep) flight
renewed_opening (timer.Idle at) now None flight h = h
renewed_opening (timer.Idle at) now (Some d) flight h = h
renewed_opening _ now keep flight h = h

waits_opening : (t : Timer) (now : Instant) (e : Estimator) (i j : ℕ) → IsOpening t i → IsOpening (retransmit_unless_set t now e) j
waits_opening (timer.Idle at) now e i j h = tt
waits_opening (timer.Retransmit at) now e i j h = tt
waits_opening timer.FastRetransmit now e i j h = absurd h
waits_opening (timer.ZeroWindowProbe at d) now e i j h = tt
waits_opening (timer.Close at) now e i j h = absurd h

doubled_opening : (t : Timer) (now : Instant) (i : ℕ) → IsOpening t i → IsOpening (probe_doubled t now) i
doubled_opening (timer.ZeroWindowProbe at d) now i h = absurd h
doubled_opening _ now i h = h

-- a change of the timer that keeps what each state asks of it
record KeepsTimer (t u : Timer) (keep : Option Duration) (i : ℕ) : Type 0 where
  moment : HasMoment t keep → HasMoment u keep
  closing : is_close t ≡ true → is_close u ≡ true
  opening : IsOpening t i → IsOpening u i

timer_row : (st : State) (t u : Timer) (keep : Option Duration) (i n : ℕ) → KeepsTimer t u keep i → Row st t keep i n → Row st u keep i n
timer_row state.Closed t u keep i n k r = tt
timer_row state.Listen t u keep i n k r = r
timer_row state.SynSent t u keep i n k r = (k.opening r.0, r.1)
timer_row state.SynReceived t u keep i n k r = (k.moment r.0, r.1, r.2)
timer_row state.Established t u keep i n k r = (k.moment r.0, r.1)
timer_row state.CloseWait t u keep i n k r = (k.moment r.0, r.1)
timer_row state.FinWait1 t u keep i n k r = (k.moment r.0, r.1)
timer_row state.Closing t u keep i n k r = (k.moment r.0, r.1)
timer_row state.LastAck t u keep i n k r = (k.moment r.0, r.1)
timer_row state.FinWait2 t u keep i n k r = (k.moment r.0, r.1, r.2)
timer_row state.TimeWait t u keep i n k r = (k.closing r.0, r.1, r.2)

renewed_keeps : (t : Timer) (now : Instant) (keep : Option Duration) (i : ℕ) → KeepsTimer t (keep_alive_renewed t now keep) keep i
renewed_keeps t now keep i = record { moment = renewed_has_moment t now keep; closing = renewed_close t now keep; opening = renewed_opening t now keep i }

doubled_keeps : (t : Timer) (now : Instant) (keep : Option Duration) (i : ℕ) → KeepsTimer t (probe_doubled t now) keep i
doubled_keeps t now keep i = record { moment = doubled_has_moment t now keep; closing = doubled_close t now; opening = doubled_opening t now i }

-- ---- where a segment ends

-- by state, with how far the segment's end lies behind SND.UNA, how many numbers it takes, and the length of the queue
abbrev pub Ends : State → ℕ → ℕ → ℕ → Type 0
Ends state.Closed e len n = Unit {0}
Ends state.Listen e len n = ⊥
Ends state.SynSent e len n = len ≡ 1
Ends state.SynReceived e len n = e ≤ 1
Ends state.Established e len n = e ≤ n
Ends state.CloseWait e len n = e ≤ n
Ends state.FinWait1 e len n = e ≤ n + 1
Ends state.Closing e len n = e ≤ n + 1
Ends state.LastAck e len n = e ≤ n + 1
Ends state.FinWait2 e len n = e ≤ 0
Ends state.TimeWait e len n = e ≤ 0

abbrev EndsAs : State → View → Segment → Type 0
EndsAs st u s = Ends st (seq_sub (seq_add s.seq_number (segment_len s)) u.local_seq_no) (segment_len s) (length u.tx_buffer.bytes)

-- a FIN stands at the end of the queue alone, and only where the socket is closed
control_is : (closing : Bool) (o m n : ℕ) → (control_len (if o + m == n then (if closing then control.Fin else (if m == 0 then control.None else control.Psh)) else control.None) ≡ 0)
    ⊎ ((closing ≡ true) × (o + m ≡ n) × (control_len (if o + m == n then (if closing then control.Fin else (if m == 0 then control.None else control.Psh)) else control.None) ≡ 1))
control_is closing o m n = go (o + m == n) refl
  where
    empty : (b : Bool) → control_len (if b then control.None else control.Psh) ≡ 0
    empty true = refl
    empty false = refl

    shut : (c : Bool) → o + m ≡ n → (control_len (if c then control.Fin else (if m == 0 then control.None else control.Psh)) ≡ 0) ⊎ ((c ≡ true) × (o + m ≡ n) × (control_len (if c then control.Fin else (if m == 0 then control.None else control.Psh)) ≡ 1))
    shut true e = inr (refl, e, refl)
    shut false e = inl (empty (m == 0))

    go : (b : Bool) → (o + m == n) ≡ b → (control_len (if b then (if closing then control.Fin else (if m == 0 then control.None else control.Psh)) else control.None) ≡ 0)
        ⊎ ((closing ≡ true) × (o + m ≡ n) × (control_len (if b then (if closing then control.Fin else (if m == 0 then control.None else control.Psh)) else control.None) ≡ 1))
    go true e = shut closing (eqb-true (o + m) n e)
    go false e = inl refl

module _ (u : View) (bytes : List ℕ) (una_small : u.local_seq_no.0 < 2 ^ 32) (nxt_small : u.remote_last_seq.0 < 2 ^ 32) (short : length u.tx_buffer.bytes ≤ 2 ^ 30) (within : flight u ≤ length u.tx_buffer.bytes + 1) (fits : length bytes ≤ length u.tx_buffer.bytes - offset_of u) where
  abbrev at_hole : ℕ
  at_hole = hole_start (hole_of u) (length u.tx_buffer.bytes)

  -- with the length of the control bit
  data_end : (k : ℕ) → k ≤ 1 → seq_sub (seq_add (number_of u) (length bytes + k)) u.local_seq_no ≡ offset_of u + length bytes + k
  data_end k one = go u.pending_fast_retransmit fits
    where
      number : TcpSeqNumber
      number = hole_number (hole_of u) (length u.tx_buffer.bytes) u.local_seq_no

      go : (b : Bool) → length bytes ≤ length u.tx_buffer.bytes - (if b then at_hole else flight u) → seq_sub (seq_add (if b then number else u.remote_last_seq) (length bytes + k)) u.local_seq_no ≡ (if b then at_hole else flight u) + length bytes + k
      go true m =
          let n : number.0 ≡ (u.local_seq_no.0 + at_hole) % 2 ^ 32 = number_at (hole_of u) (length u.tx_buffer.bytes) u.local_seq_no una_small in
          let i : at_hole ≤ min (length u.tx_buffer.bytes - 1) (2 ^ 30) = start_within (hole_of u) (length u.tx_buffer.bytes) in
          omega (arith, una_small, short, n, i, m, one)
      go false m = omega (arith, una_small, nxt_small, short, within, m, one)

  offset_le : offset_of u ≤ max (flight u) (length u.tx_buffer.bytes)
  offset_le = go u.pending_fast_retransmit
    where
      go : (b : Bool) → (if b then at_hole else flight u) ≤ max (flight u) (length u.tx_buffer.bytes)
      go true = let i : at_hole ≤ min (length u.tx_buffer.bytes - 1) (2 ^ 30) = start_within (hole_of u) (length u.tx_buffer.bytes) in omega (arith, i)
      go false = omega arith

  -- a socket that is not closed
  data_within : (s : Segment) → is_closing u.state ≡ false → flight u ≤ length u.tx_buffer.bytes → seq_sub (seq_add (with_data u bytes s).seq_number (segment_len (with_data u bytes s))) u.local_seq_no ≤ length u.tx_buffer.bytes
  data_within s nc inside = go (control_is (is_closing u.state) (offset_of u) (length bytes) (length u.tx_buffer.bytes))
    where
      k : ℕ
      k = control_len (data_control u (length bytes))

      go : (k ≡ 0) ⊎ ((is_closing u.state ≡ true) × (offset_of u + length bytes ≡ length u.tx_buffer.bytes) × (k ≡ 1)) → seq_sub (seq_add (with_data u bytes s).seq_number (length bytes + k)) u.local_seq_no ≤ length u.tx_buffer.bytes
      go (inl z) = omega (arith, z, inside, offset_le, fits, data_end k (omega (arith, z)))
      go (inr z) = absurd (true≢false (sym z.0 ∙ nc))

  fin_within : (s : Segment) → seq_sub (seq_add (with_data u bytes s).seq_number (segment_len (with_data u bytes s))) u.local_seq_no ≤ length u.tx_buffer.bytes + 1
  fin_within s = go (control_is (is_closing u.state) (offset_of u) (length bytes) (length u.tx_buffer.bytes))
    where
      k : ℕ
      k = control_len (data_control u (length bytes))

      go : (k ≡ 0) ⊎ ((is_closing u.state ≡ true) × (offset_of u + length bytes ≡ length u.tx_buffer.bytes) × (k ≡ 1)) → seq_sub (seq_add (with_data u bytes s).seq_number (length bytes + k)) u.local_seq_no ≤ length u.tx_buffer.bytes + 1
      go (inl z) = omega (arith, z, within, offset_le, fits, data_end k (omega (arith, z)))
      go (inr z) = omega (arith, z.1, z.2, data_end k (omega (arith, z.2)))

abbrev EndsIf : State → View → Option Segment → Type 0
EndsIf st u None = Unit {0}
EndsIf st u (Some s) = EndsAs st u s

filled_ends : (st : State) (u : View) (t : Tuple) (f : Facts) (stamp : Option ℕ) (bytes : List ℕ) → u.state ≡ st → IsOrdered u → length bytes ≤ length u.tx_buffer.bytes - offset_of u → EndsIf st u (filled st u t f bytes (plain_segment u t stamp))
unfolding plain_segment
filled_ends st u t f stamp bytes is h fits = by st is (subst (λ z. Row z u.timer u.keep_alive (flight u) (length u.tx_buffer.bytes)) is h.row)
  where
    s : Segment
    s = plain_segment u t stamp

    by : (st : State) → u.state ≡ st → Row st u.timer u.keep_alive (flight u) (length u.tx_buffer.bytes) → EndsIf st u (filled st u t f bytes s)
    by state.Closed is r = tt
    by state.Listen is r = tt
    by state.SynSent is r = refl
    by state.SynReceived is r = omega (arith, h.una_small)
    by state.FinWait2 is r = omega (arith, h.una_small, h.nxt_small, r.2)
    by state.TimeWait is r = omega (arith, h.una_small, h.nxt_small, r.2)
    by state.Established is r = data_within u bytes h.una_small h.nxt_small (omega (arith, h.room)) (omega (arith, r.1)) fits s (ap is_closing is) r.1
    by state.CloseWait is r = data_within u bytes h.una_small h.nxt_small (omega (arith, h.room)) (omega (arith, r.1)) fits s (ap is_closing is) r.1
    by state.FinWait1 is r = fin_within u bytes h.una_small h.nxt_small (omega (arith, h.room)) r.1 fits s
    by state.Closing is r = fin_within u bytes h.una_small h.nxt_small (omega (arith, h.room)) r.1 fits s
    by state.LastAck is r = fin_within u bytes h.una_small h.nxt_small (omega (arith, h.room)) r.1 fits s

-- ---- after it went out

-- SND.NXT moves, and what takes numbers is waited for
plain_row : (st : State) (t : Timer) (now : Instant) (r : Estimator) (keep : Option Duration) (i j e len n : ℕ) → Row st t keep i n → Ends st e len n → ((b : ℕ) → i ≤ b → e ≤ b → j ≤ b) → (z : Bool) → (len == 0) ≡ z
    → Row st (if z then t else retransmit_unless_set t now r) keep j n
plain_row st t now r keep i j e len n row ends up z is = by st row ends
  where
    u : Timer
    u = if z then t else retransmit_unless_set t now r

    moment : HasMoment t keep → HasMoment u keep
    moment h = go z
      where
        go : (z : Bool) → HasMoment (if z then t else retransmit_unless_set t now r) keep
        go true = h
        go false = waits_has_moment t now r keep h

    closing : is_close t ≡ true → is_close u ≡ true
    closing h = go z
      where
        go : (z : Bool) → is_close (if z then t else retransmit_unless_set t now r) ≡ true
        go true = h
        go false = waits_close t now r h

    opening : len ≡ 1 → IsOpening t i → IsOpening u j
    opening one h = go z is
      where
        go : (z : Bool) → (len == 0) ≡ z → IsOpening (if z then t else retransmit_unless_set t now r) j
        go true e = let x : len ≡ 0 = eqb-true len 0 e in absurd (omega (arith, x, one))
        go false e = waits_opening t now r i j h

    by : (st : State) → Row st t keep i n → Ends st e len n → Row st u keep j n
    by state.Closed row ends = tt
    by state.Listen row ends = absurd ends
    by state.SynSent row ends = (opening ends row.0, row.1)
    by state.SynReceived row ends = (moment row.0, row.1, up 1 row.2 ends)
    by state.Established row ends = (moment row.0, up n row.1 ends)
    by state.CloseWait row ends = (moment row.0, up n row.1 ends)
    by state.FinWait1 row ends = (moment row.0, up (n + 1) row.1 ends)
    by state.Closing row ends = (moment row.0, up (n + 1) row.1 ends)
    by state.LastAck row ends = (moment row.0, up (n + 1) row.1 ends)
    by state.FinWait2 row ends = (moment row.0, row.1, omega (arith, up 0 (omega (arith, row.2)) ends))
    by state.TimeWait row ends = (closing row.0, row.1, omega (arith, up 0 (omega (arith, row.2)) ends))

peer_stays : (st : State) (o : Option Tuple) → IsPeeredIn st o → IsPeeredIn st (if is_closed st then None else o)
peer_stays state.Closed o h = tt
peer_stays _ o h = h

-- a retransmission timer with another moment
moment_keeps : (at to : Instant) (keep : Option Duration) (i : ℕ) → KeepsTimer (timer.Retransmit at) (timer.Retransmit to) keep i
moment_keeps at to keep i = record { moment = λ h. h; closing = λ h. h; opening = λ h. h }

armed_ordered : (v : View) (now : Instant) (n : ℕ) → IsOrdered v → IsOrdered (tail_armed v now n)
armed_ordered v now n h = armed_as IsOrdered v now n h (λ at e. record { una_small = h.una_small; nxt_small = h.nxt_small; room = h.room; congestion = h.congestion; peered = h.peered; row = timer_row v.state (timer.Retransmit at) _ v.keep_alive _ _ (moment_keeps at _ v.keep_alive _) (subst (λ t. Row v.state t v.keep_alive (seq_sub v.remote_last_seq v.local_seq_no) (length v.tx_buffer.bytes)) e h.row) })

module _ (u : View) (now : Instant) (h : IsOrdered u) where
  any_ordered : IsOrdered (after_any u now)
  unfolding after_any
  any_ordered = record { una_small = h.una_small; nxt_small = h.nxt_small; room = h.room; congestion = h.congestion; peered = h.peered; row = timer_row u.state u.timer _ u.keep_alive _ _ (renewed_keeps u.timer now u.keep_alive _) h.row }

  plain_ordered : (s : Segment) → EndsAs u.state u s → IsOrdered (sending_timed (snd_nxt_moved (after_any u now) (emitted_as kind.Plain s)) now (emitted_as kind.Plain s))
  unfolding after_any sending_timed snd_nxt_moved
  plain_ordered s ends = go (segment_len s == 0) refl
    where
      end : TcpSeqNumber
      end = seq_add s.seq_number (segment_len s)

      moved : View
      moved = snd_nxt_moved (after_any u now) (emitted_as kind.Plain s)

      up : (b : ℕ) → seq_sub u.remote_last_seq u.local_seq_no ≤ b → seq_sub end u.local_seq_no ≤ b → seq_sub (later_of u.remote_last_seq end) u.local_seq_no ≤ b
      up b = later_within u.remote_last_seq end u.local_seq_no b

      row : (z : Bool) → (segment_len s == 0) ≡ z → Row u.state (if z then moved.timer else retransmit_unless_set moved.timer now moved.rtte) u.keep_alive (seq_sub (later_of u.remote_last_seq end) u.local_seq_no) (length u.tx_buffer.bytes)
      row z e = plain_row u.state moved.timer now moved.rtte u.keep_alive _ _ _ (segment_len s) (length u.tx_buffer.bytes) any_ordered.row ends up z e

      go : (z : Bool) → (segment_len s == 0) ≡ z → IsOrdered (if z then moved else record moved { rtte = sending_measured moved now (emitted_as kind.Plain s); timer = retransmit_unless_set moved.timer now moved.rtte; congestion_controller = post_transmitted (restarted_by moved.rules moved.idle_at now moved.congestion_controller) now (segment_len s); idle_at = idle_by moved.rules moved.idle_at now moved.rtte; pending_fast_retransmit = moved.pending_fast_retransmit || goes_on moved })
      go true e = record { una_small = h.una_small; nxt_small = later_small u.remote_last_seq end h.nxt_small (omega arith); room = h.room; congestion = h.congestion; peered = peer_stays u.state u.tuple h.peered; row = row true e }
      go false e = record { una_small = h.una_small; nxt_small = later_small u.remote_last_seq end h.nxt_small (omega arith); room = h.room; congestion = post_transmitted_open _ _ _ (restarted_open u.rules u.idle_at now u.congestion_controller h.congestion); peered = peer_stays u.state u.tuple h.peered; row = row false e }

  sent_ordered : (k : Kind) (s : Segment) → EndsAs u.state u s → IsOrdered (after_sending u now (emitted_as k (of_kind k u s)))
  unfolding after_sending after_probe after_any
  sent_ordered kind.Plain s ends = armed_ordered (sending_timed (snd_nxt_moved (after_any u now) (emitted_as kind.Plain s)) now (emitted_as kind.Plain s)) now (segment_len s) (plain_ordered s ends)
  sent_ordered kind.KeepAlive s ends = any_ordered
  sent_ordered kind.Probe s ends = let a = any_ordered in record { una_small = a.una_small; nxt_small = a.nxt_small; room = a.room; congestion = a.congestion; peered = a.peered; row = timer_row u.state _ _ u.keep_alive _ _ (doubled_keeps _ now u.keep_alive _) a.row }

  left_ordered : (t : Tuple) (f : Facts) (o : Option Segment) (ok : Bool) → EndsIf u.state u o → IsOrdered (left_by (option_map (λ s. sent_as u t (emission_kind u (moment_of f) s) s) o) u now ok)
  left_ordered t f None ok ends = h
  left_ordered t f (Some s) false ends = h
  left_ordered t f (Some s) true ends = sent_ordered (emission_kind u (moment_of f) s) s ends

pub sends_ordered : (o : Option Tuple) (f : Facts) (u : View) (out : Option Sending) (w : View) → SendsTo o f u out w → IsOrdered u → IsOrdered w
unfolding content
sends_ordered None f u out w h i = subst IsOrdered (sym h.1) i
sends_ordered (Some t) f u out w h i =
    let fits : length h.bytes ≤ length u.tx_buffer.bytes - offset_of u = omega (arith, lent_at_most u.tx_buffer (offset_of u) _ h.bytes h.lent) in
    let left = left_ordered u (moment_of f) i t f (filled u.state u t f h.bytes (plain_segment u t h.stamp)) h.ok (filled_ends u.state u t f h.stamp h.bytes refl i fits) in
    subst IsOrdered (sym h.view) (subst (λ x. IsOrdered (left_by x u (moment_of f) h.ok)) (sym h.sends) left)
