-- What is told of a loss lets the hole go out next.
use Rattle.std.proofs.Common.{◌≡◌, ℕ, ◌<◌, ◌+◌, ◌*◌, ◌^◌, ◌⊎◌, inl, inr, Bool, true, false, true≢false, not, ◌&&◌, ◌||◌, refl, sym, ap, subst, ◌∙◌, arith, List, length, Option, Some, None}
use Rattle.std.specs.Prelude.{if◌then◌else◌, ◌==◌, nat_lt, pos, ◌+ℤ◌, option_map}
use Rattle.std.proofs.lemmas.Bool.{and_from, and_parts, and_right, eq-eqb, eqb-true, ltb-true, lt-ltb}
use Rattle.std.proofs.lemmas.Option.{none-some, same_Some}
use Rattle.ip_wire.specs.declared.repr.IpRepr.{IpRepr}
use Rattle.net_base.specs.declared.time.Instant.{Instant}
use Rattle.control_wire.specs.Segment.{Segment, control_len, is_empty_segment, is_plain, segment_len}
use Rattle.control_wire.specs.Seq.{seq_eq}
use Rattle.control_wire.specs.declared.seq_number.TcpSeqNumber.{TcpSeqNumber}
use Rattle.control_wire.specs.declared.tcp.TcpControl.{TcpControl}
use Rattle.control_wire.specs.declared.tcp.TcpControl.TheVariants as control
use Rattle.sock_core.specs.Estimator.{Estimator, begun_anew, is_backed_off, retransmitted, srtt_of}
use Rattle.sock_core.specs.declared.rtte.Smoothed.{Smoothed}
use Rattle.sock_core.specs.Facts.{Facts, IsLawful}
use Rattle.sock_tcp.proofs.Recovering.{known_as}
use Rattle.sock_tcp.specs.Begin.{Begun, after_timer, after_timers, before_emit, before_emit_to, begun, begun_to, fast_retransmission_marked, going_on, is_paused, last_ts_set, last_ts_set_at, peer_of, readied, timers_by, told_ready, unless_paused}
use Rattle.sock_tcp.specs.Closing.{closed_from, late_from}
use Rattle.sock_tcp.specs.Content.{Sending, asked, carries_data, content, emission_kind, filled, hole_of, is_probing, number_of, of_kind, offset_of, plain_segment, sent_as}
use Rattle.sock_tcp.specs.Due.{data_due, is_due}
use Rattle.sock_tcp.specs.Polls.{is_reached, timeout_poll}
use Rattle.sock_tcp.specs.Process.{Outcome, closed_then, processed, processed_by}
use Rattle.sock_tcp.specs.Queue.{IsLent, Queue}
use Rattle.sock_tcp.specs.Rfc.Pipe.{told_before}
use Rattle.sock_tcp.specs.Rfc.Recovery.{before_of, came_twice, echo_known, estimator_after, is_called, is_counted, is_early, is_fast, is_opened, is_probe_told, is_telling, is_told_lost, is_uncounted, is_void, marks, recovered, recovered_by, sacked_after, tells_loss, unless_twice}
use Rattle.sock_tcp.specs.Rfc.Reordering.{is_over, may_resend}
use Rattle.sock_tcp.specs.Rfc.Scoreboard.{hole_number}
use Rattle.sock_tcp.specs.Rfc.TailLoss.{is_retransmission_over, may_probe_by, may_speak, probes_tail}
use Rattle.sock_tcp.specs.Rfc.UserTimeout.{timeout_of}
use Rattle.sock_tcp.specs.Rfc.Windows.{told_by, windowed}
use Rattle.sock_tcp.specs.Steps.{is_last_ack, is_window_changed, window_of}
use Rattle.sock_tcp.specs.Timers.{is_keep_alive_over}
use Rattle.sock_tcp.specs.View.{View, moment_of}
use Rattle.sock_tcp.specs.declared.emission.Kind.{Kind}
use Rattle.sock_tcp.specs.declared.emission.Kind.TheVariants as kind
use Rattle.sock_tcp.specs.declared.recovery.Before.{Before}
use Rattle.sock_tcp.specs.declared.recovery.Recovery.{Recovery}
use Rattle.sock_tcp.specs.declared.recovery.Recovery.TheVariants as recovery
use Rattle.sock_tcp.specs.declared.rules.Rules.{Rules}
use Rattle.sock_tcp.specs.declared.rules.Rules.TheVariants as rules
use Rattle.sock_tcp.specs.declared.state.State.{State}
use Rattle.sock_tcp.specs.declared.state.State.TheVariants as state
use Rattle.sock_tcp.specs.declared.timer.Timer.{Timer}
use Rattle.sock_tcp.specs.declared.timer.Timer.TheVariants as timer
use Rattle.sock_tcp.specs.declared.tuple.Tuple.{Tuple}
use Rattle.tcp_laws.specs.Holes.{BeginsResending, BlocksTellLoss, DueResendBegins, IsHoleOut, IsResendDue, MarkedHoleGoesOut, MayTellLoss, ThirdDuplicateResends}
use Rattle.tcp_laws.specs.Late.{IsOverBy, IsRunning, quarters_from}
use Rattle.tcp_laws.specs.Waking.{IsThirdDuplicate, TellsWindow}
use Rattle.tcp_laws.specs.Repeating.{Emitted}
use Rattle.tcp_laws.proofs.Hearing.{inside_of, passes_inside, tells, third_is_fast}
use Rattle.tcp_laws.proofs.Late.{no_loss_is_forgotten}
use Rattle.tcp_laws.proofs.Hearing.{not_zero}
use Rattle.tcp_laws.proofs.Ordered.{IsOrdered}
use Rattle.tcp_laws.proofs.OrderedCalls.{before_ordered, reached_ordered}
use Rattle.tcp_laws.proofs.Probing.{IsProbing, before_probing, reached_probing}
use Rattle.tcp_laws.proofs.Speaking.{due_data_goes_out, due_is_long}

-- ---- what is told

carries_late : (c : Bool) (st : State) → carries_data (if c then late_from st else st) ≡ true → carries_data st ≡ true
carries_late false st e = e
carries_late true state.Established e = refl
carries_late true state.CloseWait e = refl
carries_late true state.FinWait1 e = refl
carries_late true state.Closing e = refl
carries_late true state.LastAck e = refl
carries_late true state.Closed e = absurd cc
carries_late true state.Listen e = absurd cc
carries_late true state.SynSent e = absurd cc
carries_late true state.SynReceived e = absurd cc
carries_late true state.FinWait2 e = absurd cc
carries_late true state.TimeWait e = absurd cc

over_unless : (r : Recovery) (v : View) (s : Segment) → is_over r ≡ true → is_over (unless_twice r v s) ≡ true
over_unless recovery.Open v s e = refl
over_unless (recovery.Probe start end again) v s e = by (again && came_twice s.ack_number v s start end)
  where
    by : (b : Bool) → is_over (if b then recovery.Open else recovery.Probe start end again) ≡ true
    by true = refl
    by false = refl
over_unless (recovery.Fast point high_rxt resent_at acked trailed una_lost) v s e = absurd cc
over_unless (recovery.Timeout point) v s e = absurd cc

not_less : (a b : ℕ) → b ≡ a → nat_lt a b ≡ false
not_less a b e = go (nat_lt a b) refl
  where
    go : (x : Bool) → nat_lt a b ≡ x → nat_lt a b ≡ false
    go false i = i
    go true i = let l : a < b = ltb-true a b i in absurd (omega (arith, l, e))

-- the sample stays, whatever is timed
anew_smoothed : (e : Estimator) → (begun_anew e).smoothed ≡ e.smoothed
unfolding begun_anew
anew_smoothed e = by (is_backed_off e)
  where
    by : (b : Bool) → (if b then record e { rto = 3000; backoffs = 0 } else e).smoothed ≡ e.smoothed
    by true = refl
    by false = refl

same_smoothed : (b : Before) (x : View) → (estimator_after b x).smoothed ≡ x.rtte.smoothed
unfolding retransmitted
same_smoothed b x = by (is_opened b x) (marks b x)
  where
    by : (o m : Bool) → (if o then begun_anew x.rtte else (if m then retransmitted x.rtte else x.rtte)).smoothed ≡ x.rtte.smoothed
    by true m = anew_smoothed x.rtte
    by false true = refl
    by false false = refl

first_of_all : (x a b c d : Bool) → x ≡ true → (x || (a || (b || (c || d)))) ≡ true
first_of_all x a b c d e = rw e refl

module _ (v : View) (now : Instant) (y : Segment) (z : View) (fast : z.timer ≡ timer.FastRetransmit) (calm : is_over v.recovery ≡ true) (not_due : is_fast v.timer ≡ false) (counts : (z.remote_has_sack ≡ false) ⊎ (is_telling v y ≡ true)) (window : z.remote_win_len ≡ v.remote_win_len) (bytes : may_resend z ≡ true) where
  abbrev b : Before
  b = before_of v y

  abbrev heard : View
  heard = echo_known b z now

  known : heard.timer ≡ timer.FastRetransmit
  known = known_as (λ t. t ≡ timer.FastRetransmit) b z now (λ at i. let no : timer.Retransmit at ≡ timer.FastRetransmit = i in absurd cc) fast

  not_void : is_void b heard ≡ false
  unfolding before_of
  not_void = by counts
    where
      by : (z.remote_has_sack ≡ false) ⊎ (is_telling v y ≡ true) → is_void b heard ≡ false
      by (inr t) = and_right b.repeats _ (rw t refl)
      by (inl n) = and_right b.repeats _ (and_right (not b.telling) _ (rw (n, not_less v.remote_win_len z.remote_win_len window) refl))

  told : tells_loss b heard ≡ true
  unfolding before_of
  told = first_of_all (is_called b heard && not (is_void b heard)) (is_uncounted b heard && (b.duplicates == 2)) (is_early b heard) (is_probe_told b heard) (is_told_lost b heard) (rw (known, not_due, not_void) refl)

  over : is_over b.recovery ≡ true
  unfolding before_of
  over = over_unless v.recovery v y calm

  pub due_by : IsOverBy (recovered b z now).timer (quarters_from now (recovered b z now).reordering (recovered b z now).rtte)
  unfolding recovered
  due_by = subst (λ (m : Option Smoothed). IsOverBy (recovered b z now).timer (record { micros = now.micros +ℤ pos ((recovered b z now).reordering * (srtt_of m * 250)) })) (sym (same_smoothed b heard)) (no_loss_is_forgotten v z y now (subst IsRunning (sym known) tt) bytes over told)

due_after : (r : Rules) (v : View) (now : Instant) (y : Segment) (o : Outcome) → o.view.timer ≡ timer.FastRetransmit → r ≡ rules.Rfc → is_over v.recovery ≡ true → is_fast v.timer ≡ false → (o.view.remote_has_sack ≡ false) ⊎ (is_telling v y ≡ true) → o.view.remote_win_len ≡ v.remote_win_len → may_resend o.view ≡ true
    → IsOverBy (closed_then r (recovered_by r v now y o)).view.timer (quarters_from now (closed_then r (recovered_by r v now y o)).view.reordering (closed_then r (recovered_by r v now y o)).view.rtte)
due_after rules.Smoltcp v now y o fast rfc calm not_due counts window bytes = absurd cc
due_after rules.Rfc v now y o fast rfc calm not_due counts window bytes = due_by v now y o.view fast calm not_due counts window bytes

-- what the rest of the call leaves of the view
record Rest (o : Outcome) (w : View) : Type 0 where
  sack : w.remote_has_sack ≡ o.view.remote_has_sack
  window : w.remote_win_len ≡ o.view.remote_win_len
  bytes : may_resend w ≡ true → may_resend o.view ≡ true

rest_after : (r : Rules) (v : View) (now : Instant) (y : Segment) (o : Outcome) → r ≡ rules.Rfc → Rest o (closed_then r (recovered_by r v now y o)).view
unfolding recovered
rest_after rules.Smoltcp v now y o e = absurd cc
rest_after rules.Rfc v now y o e = record {
  sack = refl;
  window = refl;
  bytes = λ m. let p = and_parts _ (not (length o.view.tx_buffer.bytes == 0)) m in and_from (carries_data o.view.state) _ (carries_late o.view.close_waits o.view.state p.0) p.1;
}

pub third_duplicate_resends : ThirdDuplicateResends
third_duplicate_resends v now word ip s k r numbered h d l =
    let y : Segment = windowed v.rules v s in
    let o : Outcome = inside_of v now word ip s in
    let is = passes_inside v now word ip s h in
    let rest : Rest o (processed v now word ip s).view = subst (Rest o) (sym is) (rest_after v.rules v now y o l.rfc) in
    let parts = and_parts (is_last_ack v.local_rx_last_ack k) _ d.duplicate in
    let quiet = (and_parts (length s.payload == 0) _ (and_parts _ _ parts.1).1).1 in
    let told : (processed v now word ip s).view.remote_win_len ≡ v.remote_win_len = tells v now word ip s h ∙ eqb-true (window_of s.control (told_by v.rules v s) v.remote_win_scale) v.remote_win_len (not_not _ quiet) in
    subst (λ (w : View). IsOverBy w.timer (quarters_from now w.reordering w.rtte)) (sym is) (due_after v.rules v now y o (third_is_fast v now word ip s k r numbered h d) l.rfc l.calm l.not_due (counted (processed v now word ip s).view o l.counts rest.sack) (sym rest.window ∙ told) (rest.bytes l.bytes))
  where
    not_not : (b : Bool) → not (not b) ≡ true → b ≡ true
    not_not true e = refl
    not_not false e = e

    counted : (w : View) (o : Outcome) → (w.remote_has_sack ≡ false) ⊎ (is_telling v (windowed v.rules v s) ≡ true) → w.remote_has_sack ≡ o.view.remote_has_sack → (o.view.remote_has_sack ≡ false) ⊎ (is_telling v (windowed v.rules v s) ≡ true)
    counted w o (inl n) e = inl (sym e ∙ n)
    counted w o (inr t) e = inr t

last_of_all : (a b c d x : Bool) → x ≡ true → (a || (b || (c || (d || x)))) ≡ true
last_of_all true b c d x e = refl
last_of_all false true c d x e = refl
last_of_all false false true d x e = refl
last_of_all false false false true x e = refl
last_of_all false false false false x e = e

pub blocks_tell_loss : BlocksTellLoss
blocks_tell_loss b w telling una more = last_of_all (is_called b w && not (is_void b w)) (is_uncounted b w && (b.duplicates == 2)) (is_early b w) (is_probe_told b w) (is_told_lost b w) (rw (telling, same, lt-ltb (2 * w.remote_mss) (told_before (sacked_after b w) (2 ^ 32)) more) refl)
  where
    same : seq_eq b.una w.local_seq_no ≡ true
    same = eq-eqb b.una.0 w.local_seq_no.0 (ap (λ (n : TcpSeqNumber). n.0) (sym una))

-- ---- what goes out

record StillOf (v x : View) : Type 0 where
  timer : x.timer ≡ v.timer
  timeout : timeout_of x ≡ timeout_of v
  state : x.state ≡ v.state
  tx : x.tx_buffer ≡ v.tx_buffer
  una : x.local_seq_no ≡ v.local_seq_no
  tuple : x.tuple ≡ v.tuple
  hole : hole_of x ≡ hole_of v

readied_still : (v : View) (now : Instant) → StillOf v (readied v now)
unfolding readied last_ts_set
readied_still v now = go v.remote_last_ts
  where
    go : (o : Option Instant) → StillOf v (told_ready (last_ts_set_at o v now) now)
    go None = record { timer = refl; timeout = refl; state = refl; tx = refl; una = refl; tuple = refl; hole = refl }
    go (Some at) = record { timer = refl; timeout = refl; state = refl; tx = refl; una = refl; tuple = refl; hole = refl }

not_so : (b : Bool) → not b ≡ true → b ≡ false
not_so true e = absurd cc
not_so false e = refl

carries_runs : (st : State) (b : Bool) → carries_data st ≡ true → is_paused st b ≡ false
carries_runs state.SynReceived b c = absurd cc
carries_runs _ b c = refl

module _ (v : View) (t : Tuple) (f : Facts) (h : IsResendDue v t f) where
  abbrev now : Instant
  now = moment_of f

  abbrev x : View
  x = readied v now

  abbrev u : View
  u = fast_retransmission_marked x now

  still : StillOf v x
  still = readied_still v now

  timed : x.timer ≡ timer.FastRetransmit
  timed = still.timer ∙ h.timer

  no_tail : probes_tail x now ≡ false
  no_tail = ap (λ tm. may_probe_by x.rules (may_speak x) && is_retransmission_over tm now) timed ∙ and_right (may_probe_by x.rules (may_speak x)) false refl

  begins_is : after_timers x now ≡ u
  unfolding after_timers
  begins_is = rw (alive, no_tail) (ap (λ tm. after_timer tm x now) timed)
    where
      alive : is_reached (timeout_poll (timeout_of x) x.remote_last_ts) now ≡ false
      alive = ap (λ d. is_reached (timeout_poll d x.remote_last_ts) now) still.timeout ∙ h.alive

  some : (length v.tx_buffer.bytes == 0) ≡ false
  some = not_so (length v.tx_buffer.bytes == 0) (and_parts (carries_data v.state) _ h.bytes).1

  due : data_due u t f ≡ true
  unfolding data_due fast_retransmission_marked
  due = rw (ap (λ (y : Queue). length y.bytes == 0) still.tx ∙ some) refl

  is_due_so : is_due u t f ≡ true
  unfolding is_due
  is_due_so = rw due refl

  goes_on : is_paused u.state u.synack_paused ≡ false
  unfolding fast_retransmission_marked
  goes_on = carries_runs x.state x.synack_paused (ap carries_data still.state ∙ (and_parts (carries_data v.state) _ h.bytes).0)

  not_waiting : (y : View) → is_paused y.state y.synack_paused ≡ false → unless_paused y ≡ going_on y
  not_waiting y e = rw e refl

  with_address : begun_to (Some t) v f ≡ unless_paused (after_timers x now)
  with_address = rw h.address refl

  begun_so : begun_to v.tuple v f ≡ going_on u
  begun_so = ap (λ o. begun_to o v f) h.peer ∙ with_address ∙ ap unless_paused begins_is ∙ not_waiting u goes_on

  to_peer : u.tuple ≡ Some t
  unfolding fast_retransmission_marked
  to_peer = still.tuple ∙ h.peer

  due_so : before_emit_to (Some t) u f ≡ going_on u
  due_so = rw is_due_so refl

  begins_so : before_emit v f ≡ going_on u
  unfolding before_emit begun
  begins_so = ap (λ (b : Begun). before_emit_to (peer_of b) b.view f) begun_so ∙ ap (λ o. before_emit_to o u f) to_peer ∙ due_so

  pub resending : BeginsResending v t f
  unfolding fast_retransmission_marked
  resending = record {
    peer = ap peer_of begins_so ∙ to_peer;
    due = ap (λ (b : Begun). data_due b.view t f) begins_so ∙ due;
    marked = ap (λ (b : Begun). b.view.pending_fast_retransmit) begins_so;
    una = ap (λ (b : Begun). b.view.local_seq_no) begins_so ∙ still.una;
    hole = ap (λ (b : Begun). hole_of b.view) begins_so ∙ still.hole;
  }

pub due_resend_begins : DueResendBegins
due_resend_begins = resending

-- ---- the segment

not_empty : (n : ℕ) (c : TcpControl) → 0 < n + control_len c → ((n == 0) && is_plain c) ≡ false
not_empty n control.Syn h = and_right (n == 0) false refl
not_empty n control.Fin h = and_right (n == 0) false refl
not_empty n control.Rst h = and_right (n == 0) false refl
not_empty n control.None h = rw (not_zero n (omega (arith, h))) refl
not_empty n control.Psh h = rw (not_zero n (omega (arith, h))) refl

module _ (u : View) (f : Facts) (out : Sending) (stamp : Option ℕ) (p : Tuple) (bytes : List ℕ) (carries : carries_data u.state ≡ true) (marked : u.pending_fast_retransmit ≡ true) where
  number_by : (st : State) → carries_data st ≡ true → (b : Segment) → filled st u p f bytes (plain_segment u p stamp) ≡ Some b → b.seq_number ≡ number_of u
  number_by state.Established c b e = sym (ap (λ (y : Segment). y.seq_number) (same_Some _ b e))
  number_by state.CloseWait c b e = sym (ap (λ (y : Segment). y.seq_number) (same_Some _ b e))
  number_by state.FinWait1 c b e = sym (ap (λ (y : Segment). y.seq_number) (same_Some _ b e))
  number_by state.Closing c b e = sym (ap (λ (y : Segment). y.seq_number) (same_Some _ b e))
  number_by state.LastAck c b e = sym (ap (λ (y : Segment). y.seq_number) (same_Some _ b e))
  number_by state.Closed c b e = absurd cc
  number_by state.Listen c b e = absurd cc
  number_by state.SynSent c b e = absurd cc
  number_by state.SynReceived c b e = absurd cc
  number_by state.FinWait2 c b e = absurd cc
  number_by state.TimeWait c b e = absurd cc

  is_number : number_of u ≡ hole_number (hole_of u) (length u.tx_buffer.bytes) u.local_seq_no
  is_number = rw marked refl

  -- no keep-alive: that has no number of its own
  kind_number : (k : Kind) (b : Segment) → (k ≡ kind.KeepAlive → ⊥) → (of_kind k u b).seq_number ≡ b.seq_number
  kind_number kind.Plain b n = refl
  kind_number kind.Probe b n = refl
  kind_number kind.KeepAlive b n = absurd (n refl)

  kind_so : (k a : Bool) (b : Segment) → is_empty_segment b ≡ false → (of_kind (if k then kind.Probe else (if a && is_empty_segment b then kind.KeepAlive else kind.Plain)) u b).seq_number ≡ b.seq_number
  kind_so true a b e = refl
  kind_so false a b e = ap (λ (z : Bool). (of_kind (if z then kind.KeepAlive else kind.Plain) u b).seq_number) (and_right a (is_empty_segment b) e)

  by_filled : (b : Option Segment) → filled u.state u p f bytes (plain_segment u p stamp) ≡ b → ((c : Segment) → b ≡ Some c → is_empty_segment c ≡ false) → option_map (λ s. sent_as u p (emission_kind u (moment_of f) s) s) b ≡ Some out → out.segment.seq_number ≡ number_of u
  by_filled None e long m = absurd (none-some out m)
  by_filled (Some b) e long m = sym (ap (λ (x : Sending). x.segment.seq_number) (same_Some (sent_as u p (emission_kind u (moment_of f) b) b) out m)) ∙ kind_so (is_probing u (moment_of f)) (is_keep_alive_over u.timer (moment_of f)) b (long b refl) ∙ number_by u.state carries b e

  by_content : ((c : Segment) → filled u.state u p f bytes (plain_segment u p stamp) ≡ Some c → is_empty_segment c ≡ false) → content u p f stamp bytes ≡ Some out → out.segment.seq_number ≡ number_of u
  unfolding content
  by_content long m = by_filled (filled u.state u p f bytes (plain_segment u p stamp)) refl long m

carries_open : (st : State) → carries_data st ≡ true → st ≡ state.Closed → ⊥
carries_open state.Closed e i = absurd cc
carries_open _ e i = absurd cc

pub marked_hole_goes_out : MarkedHoleGoesOut
marked_hole_goes_out v u w f out r lawful h carries marked due =
    let o : IsOrdered u = subst IsOrdered (ap (λ (x : Begun). x.view) h.begins) (before_ordered f v (reached_ordered v r)) in
    let q : IsProbing u = subst IsProbing (ap (λ (x : Begun). x.view) h.begins) (before_probing f v (reached_probing v r)) in
    record {
      number = by_content u f out h.stamp h.peer h.bytes carries marked (λ c e. not_empty (length c.payload) c.control (due_is_long u f out h.stamp h.peer h.bytes o q lawful h.lent (carries_open u.state carries) due c e)) h.sends ∙ is_number u f out h.stamp h.peer h.bytes carries marked;
      some = due_data_goes_out v u w f out r lawful h (carries_open u.state carries) due;
    }
