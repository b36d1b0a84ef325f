-- Once its timer is over a socket says what is not acknowledged, at the latest by the third dispatch.
use Rattle.std.proofs.Common.{◌≡◌, ℕ, zero, suc, ◌<◌, ◌^◌, ◌⊎◌, inl, inr, Bool, true, false, true≢false, not, ◌&&◌, ◌||◌, refl, sym, ap, ap₂, subst, ◌∙◌, List, length, Option, Some, None, arith}
use Rattle.std.specs.Prelude.{if◌then◌else◌, ◌==◌}
use Rattle.std.proofs.lemmas.Bool.{eq-eqb}
use Rattle.net_base.specs.declared.time.Duration.{Duration}
use Rattle.net_base.specs.declared.time.Instant.{Instant}
use Rattle.control_wire.specs.Seq.{seq_add, seq_minus, seq_sub}
use Rattle.control_wire.specs.Segment.{Segment, is_empty_segment, segment_len}
use Rattle.control_wire.specs.declared.seq_number.TcpSeqNumber.{TcpSeqNumber}
use Rattle.sock_core.specs.Facts.{Facts}
use Rattle.sock_core.specs.Congestion.{post_transmitted}
use Rattle.sock_core.specs.Seq.{is_before, later_of}
use Rattle.sock_tcp.proofs.Arming.{armed_as, armed_by_none, armed_by_smoltcp}
use Rattle.sock_tcp.specs.Rfc.Idle.{idle_by, restarted_by}
use Rattle.sock_tcp.specs.Begin.{after_timer, readied, retransmission_begun, fast_retransmission_marked}
use Rattle.sock_tcp.specs.Content.{Sending, carries_data, emission_kind, is_probing, plain_segment, sent_as, window_left}
use Rattle.sock_tcp.specs.Due.{held_poll, data_due, flight, is_closed, is_closing, is_due, window_doubled}
use Rattle.sock_tcp.specs.Polls.{is_reached, timer_poll}
use Rattle.sock_tcp.specs.Queue.{Queue}
use Rattle.sock_tcp.specs.Rfc.RoundTrips.{sending_measured}
use Rattle.sock_tcp.specs.Sent.{goes_on, after_any, after_sending, emitted_as, left_by, sending_timed, snd_nxt_moved}
use Rattle.sock_tcp.specs.Timers.{after, idle_from, is_close_over, is_keep_alive_over, is_over, is_probe_over, keep_alive_renewed, retransmit_unless_set, rto_of}
use Rattle.sock_tcp.specs.View.{View, moment_of}
use Rattle.sock_tcp.specs.declared.emission.Emitted.{Emitted}
use Rattle.sock_tcp.specs.declared.emission.Kind.{Kind}
use Rattle.sock_tcp.specs.declared.emission.Kind.TheVariants as kind
use Rattle.sock_tcp.specs.declared.timer.Timer.{Timer}
use Rattle.sock_tcp.specs.declared.timer.Timer.TheVariants as timer
use Rattle.sock_tcp.specs.declared.tuple.Tuple.{Tuple}
use Rattle.tcp_laws.specs.Polling.{IsReached}
use Rattle.tcp_laws.specs.Waking.{HasToSend}
use Rattle.tcp_laws.proofs.OrderedCalls.{reached_ordered}
use Rattle.tcp_laws.proofs.Probing.{IsProbing, ProbesIn, before_probing, reached_probing}
use Rattle.tcp_laws.proofs.Repeating.{empty_parts}
use Rattle.progress_laws.proofs.Again.{number_again}
use Rattle.progress_laws.specs.Speech.{DispatchesOk, FromUna, IsPastTimer, KeepsAlive, Probes, Says, SendsOk, SpeaksPastItsTimers, SpeaksWithin, Speech}
use Rattle.progress_laws.proofs.Lends.{marked_some, probe_byte}
use Rattle.progress_laws.proofs.Sends.{timed_rules}
use Rattle.sock_tcp.specs.declared.rules.Rules.TheVariants as rules
use Rattle.progress_laws.proofs.Begins.{Goes, Alike, and_no, beginning, begun_idle, carries_runs, content_is, dispatch_reached, goes, not_empty, not_zero, readied_alike, segment_for, told_for, probe_alone, marked_idle, smoltcp_begins}

-- ---- a socket that has to say something

pub record HasToSay (d : Duration) (v : View) : Type 0 where
  pub reached : IsReached v
  pub keep_alive : v.keep_alive ≡ Some d
  pub smoltcp : v.rules ≡ rules.Smoltcp
  pub carries : carries_data v.state ≡ true
  pub waits : HasToSend v

-- what is said first stands at SND.UNA
abbrev pub AtFront : View → Type 0
AtFront v = (v.pending_fast_retransmit ≡ true) ⊎ (v.remote_last_seq ≡ v.local_seq_no)

-- ---- what an emission says

-- the number of the segment, where it stands at SND.UNA
pub front_number : (b : Bool) (una nxt : TcpSeqNumber) → (b ≡ true) ⊎ (nxt ≡ una) → (if b then una else nxt) ≡ una
front_number true una nxt h = refl
front_number false una nxt (inl e) = absurd (true≢false (sym e))
front_number false una nxt (inr e) = e

plain_kind : kind.Plain ≡ kind.KeepAlive → ⊥
plain_kind e = cc

module _ (v u : View) (p : Tuple) (f : Facts) (stamp : Option ℕ) (bytes : List ℕ) (una : u.local_seq_no ≡ v.local_seq_no) (ruled : u.rules ≡ rules.Smoltcp) where
  abbrev now : Instant
  now = moment_of f

  abbrev b : Segment
  b = told_for u p f stamp bytes

  kept : Speech v (sent_as u p kind.KeepAlive b)
  kept = KeepsAlive refl (ap (λ (n : TcpSeqNumber). seq_minus n 1) una) refl

  front : AtFront u → 0 < segment_len b → Speech v (sent_as u p kind.Plain b)
  unfolding plain_segment
  front at some = FromUna (λ e. absurd (plain_kind e)) (number_again u ruled ∙ front_number u.pending_fast_retransmit u.local_seq_no u.remote_last_seq at ∙ una) some

  as_kind : (k : Kind) → emission_kind u now b ≡ k → Speech v (sent_as u p k b) → Speech v (sent_as u p (emission_kind u now b) b)
  as_kind k e h = subst (λ k. Speech v (sent_as u p k b)) (sym e) h

  kind_of : (pr k e : Bool) → is_probing u now ≡ pr → is_keep_alive_over u.timer now ≡ k → is_empty_segment b ≡ e → emission_kind u now b ≡ (if pr then kind.Probe else (if k && e then kind.KeepAlive else kind.Plain))
  kind_of pr k e x y z = rw (x, y, z) refl

  -- without a probe it says something, or is an acknowledgement alone
  abbrev OrAck : Type 0
  OrAck = Speech v (sent_as u p (emission_kind u now b) b) ⊎ ((emission_kind u now b ≡ kind.Plain) × (segment_len b ≡ 0))

  says_or_ack : AtFront u → is_probing u now ≡ false → OrAck
  says_or_ack at none = by (is_keep_alive_over u.timer now) refl (is_empty_segment b) refl
    where
      by : (k : Bool) → is_keep_alive_over u.timer now ≡ k → (e : Bool) → is_empty_segment b ≡ e → OrAck
      by k y false z = inl (as_kind kind.Plain (kind_of false k false none y z ∙ ap (λ c. if c then kind.KeepAlive else kind.Plain) (and_no k)) (front at (not_empty u p stamp bytes z)))
      by true y true z = inl (as_kind kind.KeepAlive (kind_of false true true none y z) kept)
      by false y true z = inr (kind_of false false true none y z, (empty_parts b z).0)

  -- at the moment of a keep-alive it is one, or it has a byte or a FIN
  abbrev OrBytes : Type 0
  OrBytes = Speech v (sent_as u p (emission_kind u now b) b) ⊎ ((emission_kind u now b ≡ kind.Plain) × (0 < segment_len b))

  keeps_or_bytes : is_probing u now ≡ false → is_keep_alive_over u.timer now ≡ true → OrBytes
  keeps_or_bytes none over = by (is_empty_segment b) refl
    where
      by : (e : Bool) → is_empty_segment b ≡ e → OrBytes
      by true z = inl (as_kind kind.KeepAlive (kind_of false true true none over z) kept)
      by false z = inr (kind_of false true false none over z, not_empty u p stamp bytes z)

-- ---- what it leaves

record LeftOf (u w : View) : Type 0 where
  state : w.state ≡ u.state
  tx : w.tx_buffer ≡ u.tx_buffer
  keep_alive : w.keep_alive ≡ u.keep_alive
  ruled : w.rules ≡ u.rules
  una : w.local_seq_no ≡ u.local_seq_no

module _ (u : View) (p : Tuple) (now : Instant) (s : Segment) where
  abbrev plain_left : View
  plain_left = left_by (Some (sent_as u p kind.Plain s)) u now true

  left_of : LeftOf u plain_left
  unfolding after_sending sending_timed snd_nxt_moved after_any
  left_of = let l = go (segment_len s == 0) in armed_as (LeftOf u) (sending_timed x now e) now e.len l (λ at t. record { state = l.state; tx = l.tx; keep_alive = l.keep_alive; ruled = l.ruled; una = l.una })
    where
      e : Emitted
      e = emitted_as kind.Plain s

      x : View
      x = snd_nxt_moved (after_any u now) e

      go : (z : Bool) → LeftOf u (if z then x else record x { rtte = sending_measured x now e; timer = retransmit_unless_set x.timer now x.rtte; congestion_controller = post_transmitted (restarted_by x.rules x.idle_at now x.congestion_controller) now e.len; idle_at = idle_by x.rules x.idle_at now x.rtte; pending_fast_retransmit = x.pending_fast_retransmit || goes_on x })
      go true = record { state = refl; tx = refl; keep_alive = refl; ruled = refl; una = refl }
      go false = record { state = refl; tx = refl; keep_alive = refl; ruled = refl; una = refl }

  -- with a byte or a FIN
  timed : u.rules ≡ rules.Smoltcp → 0 < segment_len s → plain_left.timer ≡ retransmit_unless_set (keep_alive_renewed u.timer now u.keep_alive) now u.rtte
  unfolding after_sending sending_timed snd_nxt_moved after_any
  timed smoltcp some = ap (λ (w : View). w.timer) (armed_by_smoltcp (sending_timed (snd_nxt_moved (after_any u now) (emitted_as kind.Plain s)) now (emitted_as kind.Plain s)) now (segment_len s) (timed_rules u now s ∙ smoltcp)) ∙ rw (not_zero (segment_len s) some) refl

  -- without
  untimed : segment_len s ≡ 0 → plain_left ≡ snd_nxt_moved (after_any u now) (emitted_as kind.Plain s)
  unfolding after_sending sending_timed
  untimed none = armed_by_none (sending_timed (snd_nxt_moved (after_any u now) (emitted_as kind.Plain s)) now (emitted_as kind.Plain s)) now (segment_len s) none ∙ rw none refl

not_after_itself : (a b : TcpSeqNumber) → b ≡ a → later_of a b ≡ a
unfolding later_of
not_after_itself a b e = go (is_before a b)
  where
    go : (c : Bool) → (if c then b else a) ≡ a
    go true = e
    go false = refl

-- what a dispatch that goes on leaves still has to be said
still_says : (d : Duration) (f : Facts) (v : View) (out : Option Sending) (w : View) → HasToSay d v → DispatchesOk f v out w → w.state ≡ v.state → w.tx_buffer ≡ v.tx_buffer → w.keep_alive ≡ v.keep_alive → w.rules ≡ v.rules → HasToSay d w
still_says d f v out w s k state tx keep ruled = record {
  reached = dispatch_reached f v out w s.reached k;
  keep_alive = keep ∙ s.keep_alive;
  smoltcp = ruled ∙ s.smoltcp;
  carries = ap carries_data state ∙ s.carries;
  waits = by s.waits;
}
  where
    by : HasToSend v → HasToSend w
    by (inl some) = inl (subst (λ (q : Queue). 0 < length q.bytes) (sym tx) some)
    by (inr c) = inr (ap is_closing state ∙ c)

-- ---- by the timer

-- no probe is due with another timer
pub no_probe : (u : View) (at : Instant) → is_probe_over u.timer at ≡ false → is_probing u at ≡ false
no_probe u at e = ap (λ o. carries_data u.state && not u.pending_fast_retransmit && (window_left u == 0) && o) e ∙ and_no (carries_data u.state && not u.pending_fast_retransmit && (window_left u == 0))

idle_no_probe : (at : Instant) (keep : Option Duration) → is_probe_over (idle_from at keep) at ≡ false
idle_no_probe at None = refl
idle_no_probe at (Some d) = refl

-- the timer of a keep-alive, or of a probe, is a reason to send
pub keep_alive_due : (u : View) (t : Tuple) (f : Facts) → is_keep_alive_over u.timer (moment_of f) ≡ true → is_due u t f ≡ true
unfolding is_due
keep_alive_due u t f e = by (data_due u t f || is_reached (held_poll u) (moment_of f) || window_doubled u || is_closed u.state) e
  where
    by : (a : Bool) → is_keep_alive_over u.timer (moment_of f) ≡ true → (a || is_keep_alive_over u.timer (moment_of f) || is_probe_over u.timer (moment_of f)) ≡ true
    by true e = refl
    by false e = rw e refl

pub probe_due : (u : View) (t : Tuple) (f : Facts) → is_probe_over u.timer (moment_of f) ≡ true → is_due u t f ≡ true
unfolding is_due
probe_due u t f e = by (data_due u t f || is_reached (held_poll u) (moment_of f) || window_doubled u || is_closed u.state || is_keep_alive_over u.timer (moment_of f)) e
  where
    by : (a : Bool) → is_probe_over u.timer (moment_of f) ≡ true → (a || is_probe_over u.timer (moment_of f)) ≡ true
    by true e = refl
    by false e = rw e refl

module _ (d : Duration) (t : Tuple) where
  -- what goes out of u, where v had to say something
  module _ (f : Facts) (v u : View) (out : Option Sending) (w : View) (s : HasToSay d v) (k : DispatchesOk f v out w) (o : SendsOk f t u out w) (state : u.state ≡ v.state) (tx : u.tx_buffer ≡ v.tx_buffer) (keep : u.keep_alive ≡ v.keep_alive) (ruled : u.rules ≡ v.rules) where
    abbrev g : Segment
    g = told_for u t f o.stamp o.bytes

    carries : carries_data u.state ≡ true
    carries = ap carries_data state ∙ s.carries

    out_is : out ≡ Some (sent_as u t (emission_kind u (moment_of f) g) g)
    out_is = o.sends ∙ content_is u t f o.stamp o.bytes carries

    said : Speech v (sent_as u t (emission_kind u (moment_of f) g) g) → Says v out
    said h = subst (Says v) (sym out_is) h

    -- as a plain segment
    left_plain : emission_kind u (moment_of f) g ≡ kind.Plain → w ≡ plain_left u t (moment_of f) g
    left_plain e = o.view ∙ ap (λ x. left_by x u (moment_of f) true) (out_is ∙ ap (λ c. Some (sent_as u t c g)) e)

    plain_says : emission_kind u (moment_of f) g ≡ kind.Plain → HasToSay d w
    plain_says e =
        let l = left_of u t (moment_of f) g in
        let is = left_plain e in
        still_says d f v out w s k (ap (λ (x : View). x.state) is ∙ l.state ∙ state) (ap (λ (x : View). x.tx_buffer) is ∙ l.tx ∙ tx) (ap (λ (x : View). x.keep_alive) is ∙ l.keep_alive ∙ keep) (ap (λ (x : View). x.rules) is ∙ l.ruled ∙ ruled)

    waits : HasToSend u
    waits = by s.waits
      where
        by : HasToSend v → HasToSend u
        by (inl some) = inl (subst (λ (q : Queue). 0 < length q.bytes) (sym tx) some)
        by (inr c) = inr (ap is_closing state ∙ c)

  -- the moment of the keep-alive has come
  module _ (v : View) (at : Instant) (is : v.timer ≡ timer.Idle (Some at)) (f : Facts) (h : IsPastTimer v t f) where
    abbrev idle_view : View
    idle_view = readied v (moment_of f)

    idle_at : idle_view.timer ≡ timer.Idle (Some at)
    idle_at = (readied_alike v (moment_of f)).timer ∙ is

    idle_over : is_keep_alive_over idle_view.timer (moment_of f) ≡ true
    idle_over = ap (λ tm. is_keep_alive_over tm (moment_of f)) idle_at ∙ subst (λ tm. is_reached (timer_poll tm) (moment_of f) ≡ true) is h.over

    idle_quiet : is_probing idle_view (moment_of f) ≡ false
    idle_quiet = no_probe idle_view (moment_of f) (ap (λ tm. is_probe_over tm (moment_of f)) idle_at)

    idle_goes : {R : Type 0} (s : HasToSay d v) (out : Option Sending) (w : View) → DispatchesOk f v out w → (SendsOk f t idle_view out w → R) → R
    idle_goes {R} s out w k sends = by (goes v t f h.on (carries_runs v.state v.synack_paused s.carries) out w k)
      where
        u_is : beginning v t f h.on (carries_runs v.state v.synack_paused s.carries) ≡ idle_view
        u_is = smoltcp_begins v t f h.on (carries_runs v.state v.synack_paused s.carries) s.smoltcp ∙ ap (λ tm. after_timer tm idle_view (moment_of f)) is

        by : Goes v t f h.on (carries_runs v.state v.synack_paused s.carries) out w → R
        by (inl o) = sends (subst (λ x. SendsOk f t x out w) u_is o.0)
        by (inr o) = absurd (true≢false (sym (keep_alive_due idle_view t f idle_over) ∙ ap (λ x. is_due x t f) (sym u_is) ∙ o.1))

  -- a keep-alive, or the first segment behind SND.UNA
  front_says : (n : ℕ) (v : View) (at : Instant) → HasToSay d v → v.timer ≡ timer.Idle (Some at) → AtFront v → SpeaksWithin (suc n) v t
  front_says n v at s is front f out w lawful h k = inl (idle_goes v at is f h s out w k sends)
    where
      u : View
      u = readied v (moment_of f)

      still : Alike v u
      still = readied_alike v (moment_of f)

      at_front : AtFront u
      at_front = by front
        where
          by : AtFront v → AtFront u
          by (inl m) = inl (still.marked ∙ m)
          by (inr e) = inr (still.nxt ∙ e ∙ sym still.same.una)

      sends : SendsOk f t u out w → Says v out
      sends o = elim (says_or_ack v u t f o.stamp o.bytes still.same.una (still.same.same_rules ∙ s.smoltcp) at_front (idle_quiet v at is f h)) [
        | inl h ↦ said f v u out w s k o still.same.state still.same.tx still.same.keep_alive still.same.same_rules h
        | inr q ↦ elim (keeps_or_bytes v u t f o.stamp o.bytes still.same.una (still.same.same_rules ∙ s.smoltcp) (idle_quiet v at is f h) (idle_over v at is f h)) [
          | inl h ↦ said f v u out w s k o still.same.state still.same.tx still.same.keep_alive still.same.same_rules h
          | inr r ↦ absurd (omega (arith, q.1, r.1))
        ]
      ]

  -- the retransmission timer: all is sent again from SND.UNA on, or a keep-alive comes next
  again_says : (n : ℕ) (v : View) (at : Instant) → HasToSay d v → v.timer ≡ timer.Retransmit at → SpeaksWithin (suc (suc n)) v t
  unfolding retransmission_begun snd_nxt_moved after_any plain_segment
  again_says n v at s is f out w lawful h k = by (goes v t f h.on (carries_runs v.state v.synack_paused s.carries) out w k)
    where
      x : View
      x = readied v (moment_of f)

      still : Alike v x
      still = readied_alike v (moment_of f)

      u : View
      u = retransmission_begun x (moment_of f)

      over : is_over at (moment_of f) ≡ true
      over = subst (λ tm. is_reached (timer_poll tm) (moment_of f) ≡ true) is h.over

      u_is : beginning v t f h.on (carries_runs v.state v.synack_paused s.carries) ≡ u
      u_is = smoltcp_begins v t f h.on (carries_runs v.state v.synack_paused s.carries) s.smoltcp ∙ ap (λ tm. after_timer tm x (moment_of f)) is ∙ ap (λ c. if c then u else x) over

      idle_now : u.timer ≡ idle_from (moment_of f) x.keep_alive
      idle_now = begun_idle x (moment_of f) (still.same.same_rules ∙ s.smoltcp)

      kept : u.timer ≡ timer.Idle (Some (after (moment_of f) d))
      kept = idle_now ∙ ap (λ o. idle_from (moment_of f) o) (still.same.keep_alive ∙ s.keep_alive)

      no_probing : is_probing u (moment_of f) ≡ false
      no_probing = no_probe u (moment_of f) (ap (λ tm. is_probe_over tm (moment_of f)) idle_now ∙ idle_no_probe (moment_of f) x.keep_alive)

      small : v.local_seq_no.0 < 2 ^ 32
      small = (reached_ordered v s.reached).una_small

      next : (y : View) → HasToSay d y → y.timer ≡ timer.Idle (Some (after (moment_of f) d)) → AtFront y → SpeaksWithin (suc n) y t
      next y q e a = front_says n y (after (moment_of f) d) q e a

      quiet : w ≡ u → SpeaksWithin (suc n) w t
      quiet e = next w (still_says d f v out w s k (ap (λ (y : View). y.state) e ∙ still.same.state) (ap (λ (y : View). y.tx_buffer) e ∙ still.same.tx) (ap (λ (y : View). y.keep_alive) e ∙ still.same.keep_alive) (ap (λ (y : View). y.rules) e ∙ still.same.same_rules)) (ap (λ (y : View). y.timer) e ∙ kept) (inr (ap (λ (y : View). y.remote_last_seq) e ∙ ap (λ (y : View). y.local_seq_no) (sym e)))

      -- an acknowledgement alone leaves SND.NXT at SND.UNA
      acked : (o : SendsOk f t u out w) → emission_kind u (moment_of f) (told_for u t f o.stamp o.bytes) ≡ kind.Plain → segment_len (told_for u t f o.stamp o.bytes) ≡ 0 → SpeaksWithin (suc n) w t
      acked o e none =
          let b = told_for u t f o.stamp o.bytes in
          let y : View = snd_nxt_moved (after_any u (moment_of f)) (emitted_as kind.Plain b) in
          let w_is : w ≡ y = left_plain f v u out w s k o still.same.state still.same.tx still.same.keep_alive still.same.same_rules e ∙ untimed u t (moment_of f) b none in
          let number : b.seq_number ≡ u.local_seq_no = number_again u (still.same.same_rules ∙ s.smoltcp) ∙ front_number u.pending_fast_retransmit u.local_seq_no u.remote_last_seq (inr refl) in
          let here : seq_add b.seq_number (segment_len b) ≡ u.local_seq_no = ap₂ seq_add number none ∙ ap (λ m. record { 0 = m }) (omega (arith, small, ap (λ (m : TcpSeqNumber). m.0) still.same.una)) in
          next w (plain_says f v u out w s k o still.same.state still.same.tx still.same.keep_alive still.same.same_rules e)
          (ap (λ (z : View). z.timer) w_is ∙ ap (λ tm. keep_alive_renewed tm (moment_of f) x.keep_alive) kept ∙ ap (λ o. idle_from (moment_of f) o) (still.same.keep_alive ∙ s.keep_alive))
          (inr (ap (λ (z : View). z.remote_last_seq) w_is ∙ not_after_itself u.local_seq_no (seq_add b.seq_number (segment_len b)) here ∙ ap (λ (z : View). z.local_seq_no) (sym w_is)))

      sends : SendsOk f t u out w → Says v out ⊎ SpeaksWithin (suc n) w t
      sends o = elim (says_or_ack v u t f o.stamp o.bytes still.same.una (still.same.same_rules ∙ s.smoltcp) (inr refl) no_probing) [
        | inl h ↦ inl (said f v u out w s k o still.same.state still.same.tx still.same.keep_alive still.same.same_rules h)
        | inr q ↦ inr (acked o q.0 q.1)
      ]

      by : Goes v t f h.on (carries_runs v.state v.synack_paused s.carries) out w → Says v out ⊎ SpeaksWithin (suc n) w t
      by (inl o) = sends (subst (λ y. SendsOk f t y out w) u_is o.0)
      by (inr o) = inr (quiet (o.0 ∙ u_is))

  -- between: a keep-alive, or what lies behind the bytes in flight, which is waited for then
  idle_says : (n : ℕ) (v : View) (at : Instant) → HasToSay d v → v.timer ≡ timer.Idle (Some at) → SpeaksWithin (suc (suc (suc n))) v t
  idle_says n v at s is f out w lawful h k = idle_goes v at is f h s out w k sends
    where
      u : View
      u = readied v (moment_of f)

      still : Alike v u
      still = readied_alike v (moment_of f)

      waited_for : keep_alive_renewed u.timer (moment_of f) u.keep_alive ≡ timer.Idle (Some (after (moment_of f) d))
      waited_for = ap (λ tm. keep_alive_renewed tm (moment_of f) u.keep_alive) (idle_at v at is f h) ∙ ap (λ o. idle_from (moment_of f) o) (still.same.keep_alive ∙ s.keep_alive)

      sends : SendsOk f t u out w → Says v out ⊎ SpeaksWithin (suc (suc n)) w t
      sends o = elim (keeps_or_bytes v u t f o.stamp o.bytes still.same.una (still.same.same_rules ∙ s.smoltcp) (idle_quiet v at is f h) (idle_over v at is f h)) [
        | inl h ↦ inl (said f v u out w s k o still.same.state still.same.tx still.same.keep_alive still.same.same_rules h)
        | inr q ↦ inr (again_says n w (after (moment_of f) (rto_of u.rtte)) (plain_says f v u out w s k o still.same.state still.same.tx still.same.keep_alive still.same.same_rules q.0) (ap (λ (z : View). z.timer) (left_plain f v u out w s k o still.same.state still.same.tx still.same.keep_alive still.same.same_rules q.0) ∙ timed u t (moment_of f) (told_for u t f o.stamp o.bytes) (still.same.same_rules ∙ s.smoltcp) q.1 ∙ ap (λ tm. retransmit_unless_set tm (moment_of f) u.rtte) waited_for))
      ]

  -- a fast retransmission stands at SND.UNA, or its mark is left for the next segment
  fast_says : (n : ℕ) (v : View) → HasToSay d v → v.timer ≡ timer.FastRetransmit → SpeaksWithin (suc (suc n)) v t
  unfolding fast_retransmission_marked
  fast_says n v s is f out w lawful h k = by (goes v t f h.on (carries_runs v.state v.synack_paused s.carries) out w k)
    where
      x : View
      x = readied v (moment_of f)

      still : Alike v x
      still = readied_alike v (moment_of f)

      u : View
      u = fast_retransmission_marked x (moment_of f)

      u_is : beginning v t f h.on (carries_runs v.state v.synack_paused s.carries) ≡ u
      u_is = smoltcp_begins v t f h.on (carries_runs v.state v.synack_paused s.carries) s.smoltcp ∙ ap (λ tm. after_timer tm x (moment_of f)) is

      marked : u.timer ≡ idle_from (moment_of f) x.keep_alive
      marked = marked_idle x (moment_of f) (still.same.same_rules ∙ s.smoltcp)

      no_probing : is_probing u (moment_of f) ≡ false
      no_probing = no_probe u (moment_of f) (ap (λ tm. is_probe_over tm (moment_of f)) marked ∙ idle_no_probe (moment_of f) x.keep_alive)

      quiet : w ≡ u → SpeaksWithin (suc n) w t
      quiet e = front_says n w (after (moment_of f) d) (still_says d f v out w s k (ap (λ (y : View). y.state) e ∙ still.same.state) (ap (λ (y : View). y.tx_buffer) e ∙ still.same.tx) (ap (λ (y : View). y.keep_alive) e ∙ still.same.keep_alive) (ap (λ (y : View). y.rules) e ∙ still.same.same_rules)) (ap (λ (y : View). y.timer) e ∙ marked ∙ ap (λ o. idle_from (moment_of f) o) (still.same.keep_alive ∙ s.keep_alive)) (inl (ap (λ (y : View). y.pending_fast_retransmit) e))

      sends : (o : SendsOk f t u out w) → IsProbing u → Says v out
      sends o i = elim (says_or_ack v u t f o.stamp o.bytes still.same.una (still.same.same_rules ∙ s.smoltcp) (inl refl) no_probing) [
        | inl h ↦ said f v u out w s k o still.same.state still.same.tx still.same.keep_alive still.same.same_rules h
        | inr q ↦ let some = marked_some u t f o.stamp o.bytes lawful.1.0 i.mss (ap carries_data still.same.state ∙ s.carries) o.lent refl (waits f v u out w s k o still.same.state still.same.tx still.same.keep_alive still.same.same_rules) in absurd (omega (arith, some, q.1))
      ]

      by : Goes v t f h.on (carries_runs v.state v.synack_paused s.carries) out w → Says v out ⊎ SpeaksWithin (suc n) w t
      by (inl o) = inl (sends (subst (λ y. SendsOk f t y out w) u_is o.0) (subst IsProbing (o.1 ∙ u_is) (before_probing f v (reached_probing v s.reached))))
      by (inr o) = inr (quiet (o.0 ∙ u_is))

  -- a probe, or a fast retransmission in its place
  probe_says : (n : ℕ) (v : View) (at : Instant) (delay : Duration) → HasToSay d v → v.timer ≡ timer.ZeroWindowProbe at delay → SpeaksWithin (suc n) v t
  probe_says n v at delay s is f out w lawful h k = inl (by (goes v t f h.on (carries_runs v.state v.synack_paused s.carries) out w k))
    where
      u : View
      u = readied v (moment_of f)

      still : Alike v u
      still = readied_alike v (moment_of f)

      u_is : beginning v t f h.on (carries_runs v.state v.synack_paused s.carries) ≡ u
      u_is = smoltcp_begins v t f h.on (carries_runs v.state v.synack_paused s.carries) s.smoltcp ∙ ap (λ tm. after_timer tm u (moment_of f)) is ∙ probe_alone u at delay (moment_of f) (still.same.same_rules ∙ s.smoltcp)

      probes : u.timer ≡ timer.ZeroWindowProbe at delay
      probes = still.timer ∙ is

      over : is_probe_over u.timer (moment_of f) ≡ true
      over = ap (λ tm. is_probe_over tm (moment_of f)) probes ∙ subst (λ tm. is_reached (timer_poll tm) (moment_of f) ≡ true) is h.over

      carries_on : carries_data u.state ≡ true
      carries_on = ap carries_data still.same.state ∙ s.carries

      same_flight : flight u ≡ flight v
      same_flight = ap₂ seq_sub still.nxt still.same.una

      probed : (o : SendsOk f t u out w) → u.pending_fast_retransmit ≡ false → (flight u < length u.tx_buffer.bytes → length o.bytes ≡ 1) → Speech v (sent_as u t kind.Probe (told_for u t f o.stamp o.bytes))
      probed o m byte = Probes refl (number_again u (still.same.same_rules ∙ s.smoltcp) ∙ ap (λ c. if c then u.local_seq_no else u.remote_last_seq) m ∙ still.nxt) (subst (λ q. q < length v.tx_buffer.bytes → length o.bytes ≡ 1) same_flight (subst (λ (q : Queue). flight u < length q.bytes → length o.bytes ≡ 1) still.same.tx byte))

      sends : (o : SendsOk f t u out w) → IsProbing u → Says v out
      sends o i = marked u.pending_fast_retransmit refl
        where
          shut : (window_left u == 0) ≡ true
          shut = let z : u.remote_win_len ≡ 0 = subst (λ tm. ProbesIn tm u.remote_win_len) probes i.window in eq-eqb (window_left u) 0 (omega (arith, z))

          marked : (m : Bool) → u.pending_fast_retransmit ≡ m → Says v out
          marked true m = elim (says_or_ack v u t f o.stamp o.bytes still.same.una (still.same.same_rules ∙ s.smoltcp) (inl m) (rw (carries_on, m) refl)) [
            | inl h ↦ said f v u out w s k o still.same.state still.same.tx still.same.keep_alive still.same.same_rules h
            | inr q ↦ let some = marked_some u t f o.stamp o.bytes lawful.1.0 i.mss carries_on o.lent m (waits f v u out w s k o still.same.state still.same.tx still.same.keep_alive still.same.same_rules) in absurd (omega (arith, some, q.1))
          ]
          marked false m =
              let probing : is_probing u (moment_of f) ≡ true = rw (carries_on, m, shut, over) refl in
              let b = told_for u t f o.stamp o.bytes in
              said f v u out w s k o still.same.state still.same.tx still.same.keep_alive still.same.same_rules (as_kind v u t f o.stamp o.bytes still.same.una (still.same.same_rules ∙ s.smoltcp) kind.Probe (rw probing refl) (probed o m (probe_byte u t f o.stamp o.bytes lawful.1.0 i.mss carries_on o.lent m probing)))

      by : Goes v t f h.on (carries_runs v.state v.synack_paused s.carries) out w → Says v out
      by (inl o) = sends (subst (λ y. SendsOk f t y out w) u_is o.0) (subst IsProbing (o.1 ∙ u_is) (before_probing f v (reached_probing v s.reached)))
      by (inr o) = absurd (true≢false (sym (probe_due u t f over) ∙ ap (λ x. is_due x t f) (sym u_is) ∙ o.1))

-- ---- the law

sooner : (n : ℕ) (v : View) (t : Tuple) → SpeaksWithin n v t → SpeaksWithin (suc n) v t
sooner zero v t h = absurd h
sooner (suc n) v t h = λ f out w lawful past k. by w out (h f out w lawful past k) (sooner n w t)
  where
    by : (w : View) (out : Option Sending) → Says v out ⊎ SpeaksWithin n w t → (SpeaksWithin n w t → SpeaksWithin (suc n) w t) → Says v out ⊎ SpeaksWithin (suc n) w t
    by w out (inl s) more = inl s
    by w out (inr r) more = inr (more r)

pub speaks_past_its_timers : SpeaksPastItsTimers
speaks_past_its_timers v t d r keep ruled c w = by v.timer refl
  where
    s : HasToSay d v
    s = record { reached = r; keep_alive = keep; smoltcp = ruled; carries = c; waits = w }

    by : (tm : Timer) → v.timer ≡ tm → SpeaksWithin 3 v t
    by (timer.Idle None) is = λ f out w lawful h k. absurd (true≢false (sym h.over ∙ ap (λ tm. is_reached (timer_poll tm) (moment_of f)) is))
    by (timer.Idle (Some at)) is = idle_says d t 0 v at s is
    by (timer.Retransmit at) is = sooner 2 v t (again_says d t 0 v at s is)
    by timer.FastRetransmit is = sooner 2 v t (fast_says d t 0 v s is)
    by (timer.ZeroWindowProbe at delay) is = probe_says d t 2 v at delay s is
    by (timer.Close at) is = λ f out w lawful h k. absurd (true≢false (sym (subst (λ tm. is_reached (timer_poll tm) (moment_of f) ≡ true) is h.over) ∙ subst (λ tm. is_close_over tm (moment_of f) ≡ false) is h.on.no_end))
