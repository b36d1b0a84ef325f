-- A segment that takes no sequence number, and the socket just before it goes out.
use Rattle.std.proofs.Common.{◌≡◌, ℕ, zero, suc, ◌+◌, ◌-◌, ◌<◌, ◌≤◌, ◌%◌, ◌^◌, ◌⊎◌, inl, inr, Bool, true, false, true≢false, refl, sym, ap, subst, ◌∙◌, List, length, drop, min, Option, Some, None, is_none, arith, length-take, length-drop}
use Rattle.std.specs.Prelude.{count_by, if◌then◌else◌, is_some, nat_lt, ◌==◌}
use Rattle.std.proofs.lemmas.Bool.{and_parts, eq-eqb, ltb-true}
use Rattle.sock_tcp.proofs.Fitting.{room_small}
use Rattle.sock_tcp.specs.Sack.{sack_ranges, tells_by}
use Rattle.std.proofs.lemmas.Option.{none-some, same_Some}
use Rattle.net_base.specs.Ring.{in_one_piece}
use Rattle.net_base.proofs.Cells.{piece_none}
use Rattle.net_base.specs.declared.time.Duration.{Duration}
use Rattle.net_base.specs.declared.time.Instant.{Instant}
use Rattle.ip_wire.specs.declared.address.IpAddress.{IpAddress}
use Rattle.ip_wire.specs.declared.address.IpAddress.TheVariants as address
use Rattle.control_wire.specs.Seq.{seq_add, seq_of}
use Rattle.control_wire.specs.Segment.{Segment, control_len, segment_len}
use Rattle.control_wire.specs.declared.tcp.TcpControl.TheVariants as control
use Rattle.sock_core.specs.Facts.{Facts, IsLawful}
use Rattle.sock_tcp.specs.Begin.{last_ts_set, last_ts_set_at, told_ready, readied, retransmission_begun, fast_retransmission_marked, after_timer, after_timers, begun, begun_to, unless_paused, ended, by_due, before_emit, before_emit_to, peer_of, probing_begun, timers_by}
use Rattle.sock_tcp.specs.Content.{asked, carries_data, data_control, filled, hole_of, is_probing, offset_of, plain_segment, size_of, window_left, with_data, with_ranges, resent_size}
use Rattle.sock_tcp.specs.Due.{congestion_left, effective_mss, flight, ip_header_len, mtu_for, is_closing, is_due, is_opening, own_mss, ranges_room, sendable, tells_ranges, timestamp_room, window_field}
use Rattle.sock_tcp.specs.Opening.{renewed}
use Rattle.sock_tcp.specs.Polls.{is_reached, timeout_poll}
use Rattle.sock_tcp.specs.Rfc.UserTimeout.{timeout_of}
use Rattle.sock_tcp.specs.Queue.{IsLent, Queue}
use Rattle.sock_tcp.specs.Rfc.Scoreboard.{hole_number, hole_start}
use Rattle.sock_tcp.specs.Timers.{idle_from, is_over, retransmit_from, rto_of}
use Rattle.sock_tcp.specs.Rfc.TailLoss.{probes_tail, probed_by, tail_probed}
use Rattle.sock_tcp.specs.declared.scoreboard.Hole.{Hole}
use Rattle.sock_tcp.proofs.Holes.{again_some, start_within}
use Rattle.sock_tcp.specs.View.{View, moment_of}
use Rattle.sock_tcp.specs.Window.{next_ack}
use Rattle.sock_tcp.specs.declared.state.State.{State}
use Rattle.sock_tcp.specs.declared.state.State.TheVariants as state
use Rattle.sock_tcp.specs.declared.rules.Rules.{Rules}
use Rattle.sock_tcp.specs.declared.rules.Rules.TheVariants as rules
use Rattle.sock_tcp.specs.declared.timer.Timer.{Timer}
use Rattle.sock_tcp.specs.declared.timer.Timer.TheVariants as timer
use Rattle.sock_tcp.specs.declared.tuple.Tuple.{Tuple}
use Rattle.tcp_laws.proofs.Ordered.{IsOrdered, Row}
use Rattle.tcp_laws.proofs.Pacing.{fast_paced, not_yet}
use Rattle.tcp_laws.proofs.Probing.{IsProbing}
use Rattle.sock_core.specs.Estimator.{Estimator, backed_off, retransmitted}
use Rattle.sock_tcp.proofs.Recovering.{begun_as, marked_as}

-- ---- how the dispatch begins

-- at this moment no retransmission is over, nor is a fast one to come
abbrev pub IsSet : Timer → Instant → Type 0
IsSet (timer.Retransmit at) now = is_over at now ≡ false
IsSet timer.FastRetransmit now = ⊥
IsSet t now = Unit {0}

-- a last segment came, and either the user timeout is over, or it is not and the timer was looked at
pub record Settled (u : View) (now : Instant) : Type 0 where
  pub known : is_none u.remote_last_ts ≡ false
  pub alive : (u.state ≡ state.Closed) ⊎ ((is_reached (timeout_poll (timeout_of u) u.remote_last_ts) now ≡ false) × IsSet u.timer now)

idle_set : (now : Instant) (keep : Option Duration) → IsSet (idle_from now keep) now
idle_set now None = tt
idle_set now (Some d) = tt

timed_set : (now : Instant) (e : Estimator) → 0 < e.rto → IsSet (retransmit_from now e) now
timed_set now e h = not_yet now (rto_of e) (omega (arith, h))

timer_settles : (t : Timer) (x : View) (now : Instant) → 0 < x.rtte.rto → x.timer ≡ t → is_none x.remote_last_ts ≡ false → is_reached (timeout_poll (timeout_of x) x.remote_last_ts) now ≡ false → Settled (after_timer t x now) now
unfolding retransmission_begun fast_retransmission_marked
timer_settles (timer.Retransmit at) x now paced is known e = go (is_over at now) refl
  where
    go : (b : Bool) → is_over at now ≡ b → Settled (if b then retransmission_begun x now else x) now
    go true o = record { known = known; alive = inr (e, begun_as (λ t. IsSet t now) x.rules x.remote_win_len (length x.tx_buffer.bytes) now x.keep_alive (retransmitted (backed_off x.rtte)) (idle_set now x.keep_alive) (λ z some. tt)) }
    go false o = record { known = known; alive = inr (e, subst (λ t. IsSet t now) (sym is) o) }
timer_settles timer.FastRetransmit x now paced is known e = record { known = known; alive = inr (e, marked_as (λ t. IsSet t now) x.rules now x.keep_alive (retransmitted x.rtte) (idle_set now x.keep_alive) (timed_set now (retransmitted x.rtte) (fast_paced x.rtte paced))) }
timer_settles (timer.Idle at) x now paced is known e = record { known = known; alive = inr (e, subst (λ t. IsSet t now) (sym is) tt) }
timer_settles (timer.ZeroWindowProbe at delay) x now paced is known e = go (is_over at now) x.rules
  where
    as_it_was : IsSet x.timer now
    as_it_was = subst (λ t. IsSet t now) (sym is) tt

    go : (b : Bool) (r : Rules) → Settled (if b then probing_begun r x else x) now
    go true rules.Smoltcp = record { known = known; alive = inr (e, as_it_was) }
    go true rules.Rfc = record { known = known; alive = inr (e, as_it_was) }
    go false r = record { known = known; alive = inr (e, as_it_was) }
timer_settles (timer.Close at) x now paced is known e = record { known = known; alive = inr (e, subst (λ t. IsSet t now) (sym is) tt) }

pub timers_settle : (x : View) (now : Instant) → 0 < x.rtte.rto → is_none x.remote_last_ts ≡ false → Settled (after_timers x now) now
unfolding after_timers tail_probed probed_by
timers_settle x now paced known = go (is_reached (timeout_poll (timeout_of x) x.remote_last_ts) now) refl
  where
    probed : (b : Bool) → is_reached (timeout_poll (timeout_of x) x.remote_last_ts) now ≡ false → Settled (timers_by b x now) now
    probed true e = record { known = known; alive = inr (e, timed_set now (retransmitted x.rtte) (fast_paced x.rtte paced)) }
    probed false e = timer_settles x.timer x now paced refl known e

    go : (b : Bool) → is_reached (timeout_poll (timeout_of x) x.remote_last_ts) now ≡ b → Settled (if b then record x { state = state.Closed } else timers_by (probes_tail x now) x now) now
    go true e = record { known = known; alive = inl refl }
    go false e = probed (probes_tail x now) e

pub readied_knows : (v : View) (now : Instant) → is_none (readied v now).remote_last_ts ≡ false
unfolding readied last_ts_set
readied_knows v now = go v.remote_last_ts refl
  where
    go : (o : Option Instant) → v.remote_last_ts ≡ o → is_none (told_ready (last_ts_set_at o v now) now).remote_last_ts ≡ false
    go None e = refl
    go (Some at) e = ap is_none e

module _ (v : View) (f : Facts) (p : Tuple) where
  abbrev begins : View
  begins = after_timers (readied v (moment_of f)) (moment_of f)

  due_goes : (b : Bool) (u : View) → peer_of (by_due b u f) ≡ Some p → (by_due b u f).view ≡ u
  due_goes true u e = refl
  due_goes false u e = absurd (none-some p e)

  peer_goes : (o : Option Tuple) (u : View) → peer_of (before_emit_to o u f) ≡ Some p → (before_emit_to o u f).view ≡ u
  peer_goes None u e = absurd (none-some p e)
  peer_goes (Some t) u e = due_goes (is_due u t f) u e

  begun_goes : (o : Option Tuple) → peer_of (before_emit_to (peer_of (begun_to o v f)) (begun_to o v f).view f) ≡ Some p → (before_emit_to (peer_of (begun_to o v f)) (begun_to o v f).view f).view ≡ begins
  begun_goes None e = absurd (none-some p e)
  begun_goes (Some t) e = go (f.has_address t.local.addr) e
    where
      go : (b : Bool) → (peer_of (before_emit_to (peer_of (if b then unless_paused begins else ended (renewed v))) (if b then unless_paused begins else ended (renewed v)).view f)) ≡ Some p
          → (before_emit_to (peer_of (if b then unless_paused begins else ended (renewed v))) (if b then unless_paused begins else ended (renewed v)).view f).view ≡ begins
      go true e = peer_goes (peer_of (unless_paused begins)) begins e
      go false e = absurd (none-some p e)

  pub goes : peer_of (before_emit v f) ≡ Some p → (before_emit v f).view ≡ begins
  unfolding before_emit begun
  goes e = begun_goes v.tuple e

-- ---- the segment

lent_none : (q : Queue) (o n : ℕ) (bs : List ℕ) → IsLent q o n bs → length bs ≡ 0 → (n ≡ 0) ⊎ (length q.bytes ≤ o)
lent_none q o n bs lent none = go n refl
  where
    m : ℕ
    m = min n (in_one_piece q.until_end (length q.bytes) o)

    long : length bs ≡ min m (length (drop o q.bytes))
    long = ap (λ (l : List ℕ). length l) lent ∙ length-take m (drop o q.bytes)

    go : (k : ℕ) → n ≡ k → (n ≡ 0) ⊎ (length q.bytes ≤ o)
    go zero e = inl e
    go (suc k) e = inr (go_piece (in_one_piece q.until_end (length q.bytes) o) refl)
      where
        go_piece : (i : ℕ) → in_one_piece q.until_end (length q.bytes) o ≡ i → length q.bytes ≤ o
        go_piece zero z = piece_none q.until_end (length q.bytes) o z
        go_piece (suc i) z = omega (arith, long, none, e, z, length-drop o q.bytes)

-- what a socket with nothing but an acknowledgement to send has not
pub record NothingDue (u : View) : Type 0 where
  pub sent : sendable u ≡ 0
  pub marked : carries_data u.state ≡ false → length u.tx_buffer.bytes ≡ 0
  pub again : u.pending_fast_retransmit ≡ true → length u.tx_buffer.bytes ≡ 0
  pub opened : is_opening u.state ≡ false
  pub no_fin : is_closing u.state ≡ true → u.remote_last_seq.0 ≡ (seq_add u.local_seq_no (length u.tx_buffer.bytes)).0 → ⊥

-- the numbers that an acknowledgement tells
pub record TellsAck (u : View) (b : Segment) : Type 0 where
  pub ack : b.ack_number ≡ Some (next_ack u)
  pub window : b.window_len ≡ window_field u
  pub number : (b.seq_number ≡ u.remote_last_seq) ⊎ (b.seq_number ≡ u.local_seq_no)
  pub empty : segment_len b ≡ 0

-- the states that send an acknowledgement alone
abbrev pub Sends : State → Type 0
Sends st = (st ≡ state.FinWait2) ⊎ ((st ≡ state.TimeWait) ⊎ (carries_data st ≡ true))

pub record AckOf (u : View) (b : Segment) : Type 0 where
  pub quiet : NothingDue u
  pub tells : TellsAck u b
  pub sends : Sends u.state
  pub within : flight u ≤ length u.tx_buffer.bytes + 1

-- an RST of a closed socket, or an acknowledgement
abbrev pub RstOrAck : View → Segment → Type 0
RstOrAck u b = ((u.state ≡ state.Closed) × (b.control ≡ control.Rst)) ⊎ AckOf u b

pub mss_some : (v : View) (t : Tuple) (f : Facts) → 68 ≤ f.mtu → 48 ≤ v.remote_mss → 0 < effective_mss v t f
mss_some v t f mtu mss = by (tells_ranges v t f) refl
  where
    go : (a : IpAddress) (b : Bool) → 0 < min (mtu_for a f.mtu - ip_header_len a - 20) v.remote_mss - timestamp_room b
    go (address.Ipv4 a) true = omega (arith, mtu, mss)
    go (address.Ipv4 a) false = omega (arith, mtu, mss)
    go (address.Ipv6 a) true = omega (arith, mtu, mss)
    go (address.Ipv6 a) false = omega (arith, mtu, mss)

    rest : ℕ
    rest = ranges_room v.stamps (count_by is_some (sack_ranges v))

    by : (b : Bool) → tells_ranges v t f ≡ b → 0 < min (own_mss f t) v.remote_mss - (if b then rest else timestamp_room v.stamps)
    by false e = go t.local.addr v.stamps
    by true e =
        let wide : 36 < own_mss f t = ltb-true 36 (own_mss f t) (and_parts (tells_by v.rules v.remote_has_sack v.rx_buffer.held) (nat_lt 36 (own_mss f t)) e).1 in
        let few : rest ≤ 36 = subst (λ c. (if c then rest else timestamp_room v.stamps) ≤ 36) e (room_small v t f) in
        omega (arith, wide, few, mss)

fin_len : (c : Bool) (m n : ℕ) → c ≡ true → m ≡ n → control_len (if m == n then (if c then control.Fin else control.None) else control.None) ≡ 1
fin_len c m n e i = rw (e, i, eq_same n) refl
  where
    eq_same : (k : ℕ) → (k == k) ≡ true
    eq_same k = eq-eqb k k refl

module _ (u : View) (p : Tuple) (f : Facts) (stamp : Option ℕ) (bytes : List ℕ) (o : IsOrdered u) (q : IsProbing u) (lawful : IsLawful f) (lent : IsLent u.tx_buffer (offset_of u) (asked u p f) bytes) where
  abbrev n : ℕ
  n = length u.tx_buffer.bytes

  abbrev plain : Segment
  plain = plain_segment u p stamp

  mss : 0 < effective_mss u p f
  mss = mss_some u p f lawful.1.0 q.mss

  short : n ≤ 2 ^ 30
  short = omega (arith, o.room)

  -- of a socket that carries data, where the segment is empty
  record NoData : Type 0 where
    all : sendable u ≡ 0
    again : u.pending_fast_retransmit ≡ true → length u.tx_buffer.bytes ≡ 0
    fin : (is_closing u.state ≡ true) → u.remote_last_seq.0 ≡ (seq_add u.local_seq_no n).0 → offset_of u ≡ n

  no_data : carries_data u.state ≡ true → flight u ≤ n + 1 → length bytes ≡ 0 → NoData
  unfolding asked
  no_data c within none = by u.pending_fast_retransmit refl
    where
      size : asked u p f ≡ size_of u p f
      size = rw c refl

      either : (asked u p f ≡ 0) ⊎ (n ≤ offset_of u)
      either = lent_none u.tx_buffer (offset_of u) (asked u p f) bytes lent none

      by : (b : Bool) → u.pending_fast_retransmit ≡ b → NoData
      by true e = again either
        where
          whole : asked u p f ≡ resent_size u (effective_mss u p f)
          whole = size ∙ rw e refl

          some : 0 < resent_size u (effective_mss u p f)
          some = again_some u (effective_mss u p f) mss

          start : offset_of u ≤ min (n - 1) (2 ^ 30)
          start = rw e (start_within (hole_of u) n)

          again : (asked u p f ≡ 0) ⊎ (n ≤ offset_of u) → NoData
          again (inl z) = absurd (omega (arith, z, whole, some))
          again (inr i) = record { all = omega (arith, i, start); again = λ m. omega (arith, i, start); fin = λ d k. omega (arith, i, start) }
      by false e = ahead either
        where
          start : offset_of u ≡ flight u
          start = rw e refl

          at_end : u.remote_last_seq.0 ≡ (seq_add u.local_seq_no n).0 → offset_of u ≡ n
          at_end k = omega (arith, start, k, short, o.una_small, o.nxt_small)

          ahead : (asked u p f ≡ 0) ⊎ (n ≤ offset_of u) → NoData
          ahead (inr i) = record { all = omega (arith, i, start); again = λ m. absurd (true≢false (sym m ∙ e)); fin = λ d k. at_end k }
          ahead (inl z) = probing (is_probing u (moment_of f)) refl
            where
              probing : (b : Bool) → is_probing u (moment_of f) ≡ b → NoData
              probing true i =
                  let one : asked u p f ≡ min 1 (effective_mss u p f) = size ∙ rw (i, e) refl in
                  absurd (omega (arith, one, z, mss))
              probing false i =
                  let some : asked u p f ≡ min (min (window_left u) (effective_mss u p f)) (congestion_left u) = size ∙ rw (i, e) refl in
                  record { all = omega (arith, some, z, mss); again = λ m. absurd (true≢false (sym m ∙ e)); fin = λ d k. at_end k }

  -- of an empty segment of a socket that carries data
  data_ack : carries_data u.state ≡ true → is_opening u.state ≡ false → flight u ≤ n + 1 → segment_len (with_data u bytes plain) ≡ 0 → AckOf u (with_data u bytes plain)
  unfolding plain_segment
  data_ack c shut within none =
      let z : length bytes ≡ 0 = omega (arith, none) in
      let d : NoData = no_data c within z in
      record {
        quiet = record {
          sent = d.all;
          again = d.again;
          marked = λ e. absurd (true≢false (sym c ∙ e));
          opened = shut;
          no_fin = λ e k. absurd (fin_is e (d.fin e k) z);
        };
        tells = record { ack = refl; window = refl; number = numbered u.pending_fast_retransmit d.again; empty = none };
        sends = inr (inr c);
        within = within;
      }
    where
      at_una : n ≡ 0 → hole_number (hole_of u) n u.local_seq_no ≡ u.local_seq_no
      at_una none = by (hole_of u)
        where
          by : (h : Option Hole) → hole_number h n u.local_seq_no ≡ u.local_seq_no
          by None = refl
          by (Some h) =
              let i : hole_start (Some h) n ≤ min (n - 1) (2 ^ 30) = start_within (Some h) n in
              let z : (u.local_seq_no.0 + hole_start (Some h) n) % 2 ^ 32 ≡ u.local_seq_no.0 = omega (arith, none, i, o.una_small) in
              ap seq_of z

      numbered : (b : Bool) → (b ≡ true → n ≡ 0) → ((if b then hole_number (hole_of u) n u.local_seq_no else u.remote_last_seq) ≡ u.remote_last_seq) ⊎ ((if b then hole_number (hole_of u) n u.local_seq_no else u.remote_last_seq) ≡ u.local_seq_no)
      numbered true none = inr (at_una (none refl))
      numbered false none = inl refl

      fin_is : is_closing u.state ≡ true → offset_of u ≡ n → length bytes ≡ 0 → ⊥
      fin_is e k z =
          let i : (offset_of u + length bytes == n) ≡ true = eq-eqb (offset_of u + length bytes) n (omega (arith, k, z)) in
          let x : control_len (data_control u (length bytes)) ≡ 1 = rw (i, e) refl in
          omega (arith, x, none)

  pub rst_or_ack : (st : State) → u.state ≡ st → (b : Segment) → filled st u p f bytes plain ≡ Some b → segment_len b ≡ 0 → RstOrAck u b
  unfolding plain_segment
  rst_or_ack st is b e none = by st is (subst (λ z. Row z u.timer u.keep_alive (flight u) n) is o.row) e
    where
      same : (x : Segment) → Some x ≡ Some b → x ≡ b
      same x e = same_Some x b e

      idle : (st : State) → u.state ≡ st → Sends st → is_opening st ≡ false → is_closing st ≡ false → n ≡ 0 → flight u ≡ 0 → (x : Segment) → TellsAck u x → x ≡ b → RstOrAck u b
      idle st is at shut nc z y x a i = inr (record {
        quiet = record { sent = omega (arith, z); marked = λ e. z; again = λ e. z; opened = ap is_opening is ∙ shut; no_fin = λ e k. absurd (true≢false (sym e ∙ ap is_closing is ∙ nc)) };
        tells = subst (TellsAck u) i a;
        sends = subst Sends (sym is) at;
        within = omega (arith, y);
      })

      beside : AckOf u (with_data u bytes plain) → AckOf u (with_ranges u p f (with_data u bytes plain))
      beside a = record {
        quiet = a.quiet;
        tells = record { ack = a.tells.ack; window = a.tells.window; number = a.tells.number; empty = a.tells.empty };
        sends = a.sends;
        within = a.within;
      }

      with_bytes : (st : State) → u.state ≡ st → carries_data st ≡ true → is_opening st ≡ false → flight u ≤ n + 1 → with_ranges u p f (with_data u bytes plain) ≡ b → RstOrAck u b
      with_bytes st is c shut within i = inr (subst (AckOf u) i (beside (data_ack (ap carries_data is ∙ c) (ap is_opening is ∙ shut) within (ap (λ (x : Segment). segment_len x) i ∙ none))))

      by : (st : State) → u.state ≡ st → Row st u.timer u.keep_alive (flight u) n → filled st u p f bytes plain ≡ Some b → RstOrAck u b
      by state.Closed is r e = inl (is, ap (λ (x : Segment). x.control) (sym (same _ e)))
      by state.Listen is r e = absurd (none-some b e)
      by state.SynSent is r e = let l : 1 ≡ segment_len b = ap (λ (x : Segment). segment_len x) (same _ e) in absurd (omega (arith, l, none))
      by state.SynReceived is r e = let l : 1 ≡ segment_len b = ap (λ (x : Segment). segment_len x) (same _ e) in absurd (omega (arith, l, none))
      by state.FinWait2 is r e = idle state.FinWait2 is (inl refl) refl refl r.1 r.2 _ (record { ack = refl; window = refl; number = inl refl; empty = refl }) (same _ e)
      by state.TimeWait is r e = idle state.TimeWait is (inr (inl refl)) refl refl r.1 r.2 _ (record { ack = refl; window = refl; number = inl refl; empty = refl }) (same _ e)
      by state.Established is r e = with_bytes state.Established is refl refl (omega (arith, r.1)) (same _ e)
      by state.CloseWait is r e = with_bytes state.CloseWait is refl refl (omega (arith, r.1)) (same _ e)
      by state.FinWait1 is r e = with_bytes state.FinWait1 is refl refl r.1 (same _ e)
      by state.Closing is r e = with_bytes state.Closing is refl refl r.1 (same _ e)
      by state.LastAck is r e = with_bytes state.LastAck is refl refl r.1 (same _ e)
