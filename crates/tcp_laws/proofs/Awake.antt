-- By the RFCs' rules any call keeps a timer running, while something is in flight, or bytes wait for a window.
use Rattle.std.proofs.Common.{◌≡◌, ℕ, ◌+◌, ◌<◌, ◌≤◌, ◌^◌, ◌⊎◌, inl, inr, Bool, true, false, true≢false, not, ◌&&◌, refl, sym, ap, subst, ◌∙◌, List, ◌++◌, length, take, Option, Some, None, is_some, Result, arith, length-append, length-take, ◌||◌}
use Rattle.std.specs.Prelude.{if◌then◌else◌, ◌==◌, option_map, pos}
use Rattle.std.proofs.lemmas.Bool.{eq-eqb, eqb-true}
use Rattle.ip_wire.specs.declared.endpoint.IpListenEndpoint.{IpListenEndpoint}
use Rattle.net_base.specs.Ring.{Ring}
use Rattle.net_base.specs.declared.time.Duration.{Duration}
use Rattle.net_base.specs.declared.time.Instant.{Instant}
use Rattle.control_wire.specs.Segment.{Segment, segment_len}
use Rattle.control_wire.specs.Seq.{seq_add, seq_sub}
use Rattle.control_wire.specs.declared.seq_number.TcpSeqNumber.{TcpSeqNumber}
use Rattle.sock_core.specs.Congestion.{post_transmitted}
use Rattle.sock_core.specs.Estimator.{Estimator, backed_off, retransmitted}
use Rattle.sock_core.specs.Facts.{Facts, IsLawful}
use Rattle.sock_core.specs.Received.{receiving}
use Rattle.sock_core.specs.Seq.{later_of}
use Rattle.sock_core.specs.declared.context.PollAt.TheVariants as poll
use Rattle.sock_tcp.proofs.Arming.{armed_as}
use Rattle.sock_tcp.specs.Begin.{before_emit, fast_retransmission_marked, peer_of, retransmission_begun}
use Rattle.sock_tcp.specs.Closing.{waits_in}
use Rattle.sock_tcp.proofs.Late.{called_as}
use Rattle.sock_tcp.specs.Content.{Sending, content, emission_kind, filled, of_kind, plain_segment, sent_as}
use Rattle.sock_tcp.specs.Due.{flight, is_closing}
use Rattle.sock_tcp.specs.Opening.{Listens, connected, endpoints, is_listening, is_open, listened, renewed}
use Rattle.sock_tcp.specs.Poll.{poll_moment, poll_moment_to}
use Rattle.sock_tcp.specs.Process.{processed_by}
use Rattle.sock_tcp.specs.Queue.{queue_of}
use Rattle.sock_tcp.specs.Queues.{first_probe, fitting, may_recv, may_send, queued, read_off, readable}
use Rattle.sock_tcp.specs.Rfc.Idle.{idle_by, restarted_by}
use Rattle.sock_tcp.specs.Rfc.Recovery.{begun_by, marked_by}
use Rattle.sock_tcp.specs.Rfc.TailLoss.{tail_armed, probed_by, tail_probed}
use Rattle.sock_tcp.specs.Rfc.RoundTrips.{sending_measured}
use Rattle.sock_tcp.specs.Sent.{goes_on, after_any, after_probe, after_sending, emitted_as, left_by, sending_timed, snd_nxt_moved}
use Rattle.sock_tcp.specs.Settings.{keep_alive_timer}
use Rattle.sock_tcp.specs.Timers.{idle_from, is_idle, keep_alive_renewed, probe_doubled, probe_from, retransmit_from, retransmit_unless_set}
use Rattle.sock_tcp.specs.View.{View, fresh, moment_of}
use Rattle.sock_tcp.specs.Work.{has_work, works_in}
use Rattle.sock_tcp.specs.declared.emission.Kind.{Kind}
use Rattle.sock_tcp.specs.declared.emission.Kind.TheVariants as kind
use Rattle.sock_tcp.specs.declared.error.ListenError.{ListenError}
use Rattle.sock_tcp.specs.declared.rules.Rules.{Rules}
use Rattle.sock_tcp.specs.declared.rules.Rules.TheVariants as rules
use Rattle.sock_tcp.specs.declared.state.State.{State}
use Rattle.sock_tcp.specs.declared.state.State.TheVariants as state
use Rattle.sock_tcp.specs.declared.timer.Timer.{Timer}
use Rattle.sock_tcp.specs.declared.timer.Timer.TheVariants as timer
use Rattle.sock_tcp.specs.declared.tuple.Tuple.{Tuple}
use Rattle.tcp_laws.specs.Awake.{IsByOwn, IsReachedByOwn, KeepsRules, NeverSleeps, OwnEnds, OwnRun, OwnThen}
use Rattle.tcp_laws.specs.Polling.{IsReached, Sleeps, SleepsIn}
use Rattle.tcp_laws.specs.SocketRun.{Counts, Run, SendsTo, Sets, Step, starting}
use Rattle.tcp_laws.specs.SocketRun.{Listen, Connect, SendSlice, Send, WriteStr, RecvSlice, Recv, Close, Abort, Set, SetPathMtu, Process, Dispatch, Ends, Then, SetCongestionControl, SetTimeout, SetAckDelay, SetNagle, SetKeepAlive, SetHopLimit, PauseSynAck, SetTsvalGenerator, SetRules, SetMinRto}
use Rattle.tcp_laws.proofs.AckAlone.{RstOrAck, rst_or_ack}
use Rattle.tcp_laws.proofs.Narrowing.{narrowed_as}
use Rattle.sock_tcp.specs.PathMtu.{all_sent_again, path_mtu_set, shortened}
use Rattle.tcp_laws.proofs.Kept.{KeptByBeginnings, KeptByUses, before_kept, closure_kept, closure_read_kept, connect_kept, listen_kept, listening_is, slice_kept, slice_read_kept, step_kept}
use Rattle.tcp_laws.proofs.Ordered.{IsOrdered, IsPeeredIn, no_distance}
use Rattle.tcp_laws.proofs.OrderedCalls.{begins_ordered, kept_ordered, reached_ordered, same_flag}
use Rattle.tcp_laws.proofs.Probing.{IsProbing, before_probing, kept_probing, reached_probing}
use Rattle.tcp_laws.proofs.Repeating.{nxt_stays}
use Rattle.tcp_laws.proofs.Ruled.{IsRuled, dispatch_ruled, is_rfc, process_ruled, uses_ruled}
use Rattle.tcp_laws.proofs.Sleeping.{Waits, fin_due, no_peer, sleeps_only_so, waits}
use Rattle.tcp_laws.proofs.Tabled.{AwakeIn, IsAwakeByRfc, Rests, close_row, process_awake}

-- ---- timers

renewed_rests : (t : Timer) (now : Instant) (keep : Option Duration) (flight window n : ℕ) → Rests t flight window n → Rests (keep_alive_renewed t now keep) flight window n
renewed_rests (timer.Idle at) now None flight window n h = h
renewed_rests (timer.Idle at) now (Some d) flight window n h = h
renewed_rests (timer.Retransmit at) now keep flight window n h = tt
renewed_rests timer.FastRetransmit now keep flight window n h = tt
renewed_rests (timer.ZeroWindowProbe at delay) now keep flight window n h = tt
renewed_rests (timer.Close at) now keep flight window n h = tt

doubled_rests : (t : Timer) (now : Instant) (flight window n : ℕ) → Rests t flight window n → Rests (probe_doubled t now) flight window n
doubled_rests (timer.ZeroWindowProbe at delay) now flight window n h = tt
doubled_rests (timer.Idle at) now flight window n h = h
doubled_rests (timer.Retransmit at) now flight window n h = tt
doubled_rests timer.FastRetransmit now flight window n h = tt
doubled_rests (timer.Close at) now flight window n h = tt

keep_rests : (x : Option Duration) (t : Timer) (flight window n : ℕ) → Rests t flight window n → Rests (keep_alive_timer x t) flight window n
keep_rests None t flight window n h = h
keep_rests (Some d) (timer.Idle None) flight window n h = h
keep_rests (Some d) (timer.Idle (Some at)) flight window n h = h
keep_rests (Some d) (timer.Retransmit at) flight window n h = tt
keep_rests (Some d) timer.FastRetransmit flight window n h = tt
keep_rests (Some d) (timer.ZeroWindowProbe at delay) flight window n h = tt
keep_rests (Some d) (timer.Close at) flight window n h = tt

timed_rests : (t : Timer) (now : Instant) (e : Estimator) (flight window n : ℕ) → Rests (retransmit_unless_set t now e) flight window n
timed_rests (timer.Idle at) now e flight window n = tt
timed_rests (timer.Retransmit at) now e flight window n = tt
timed_rests timer.FastRetransmit now e flight window n = tt
timed_rests (timer.ZeroWindowProbe at delay) now e flight window n = tt
timed_rests (timer.Close at) now e flight window n = tt

-- any timer that rests, in any state
rests_row : (st : State) (t : Timer) (flight window n : ℕ) → Rests t flight window n → AwakeIn st t flight window n
rests_row state.SynReceived t flight window n h = h
rests_row state.Established t flight window n h = h
rests_row state.CloseWait t flight window n h = h
rests_row state.FinWait1 t flight window n h = h
rests_row state.Closing t flight window n h = h
rests_row state.LastAck t flight window n h = h
rests_row _ t flight window n h = tt

-- a change of the timer, of what is in flight and of the queue, in any state
change_row : (st : State) (t u : Timer) (i j window n m : ℕ) → (Rests t i window n → Rests u j window m) → AwakeIn st t i window n → AwakeIn st u j window m
change_row state.SynReceived t u i j window n m k h = k h
change_row state.Established t u i j window n m k h = k h
change_row state.CloseWait t u i j window n m k h = k h
change_row state.FinWait1 t u i j window n m k h = k h
change_row state.Closing t u i j window n m k h = k h
change_row state.LastAck t u i j window n m k h = k h
change_row _ t u i j window n m k h = tt

-- ---- the beginning of a dispatch

abbrev Both : View → Type 0
Both v = IsOrdered v × IsAwakeByRfc v

idle_rests : (now : Instant) (keep : Option Duration) (flight window n : ℕ) → flight ≡ 0 → (window ≡ 0 → n ≡ 0) → Rests (idle_from now keep) flight window n
idle_rests now None flight window n f h = (f, h)
idle_rests now (Some d) flight window n f h = (f, h)

begun_rests : (r : Rules) (now : Instant) (keep : Option Duration) (e : Estimator) (flight window n : ℕ) → r ≡ rules.Rfc → flight ≡ 0 → Rests (begun_by r window n now keep e) flight window n
begun_rests rules.Smoltcp now keep e flight window n is f = absurd cc
begun_rests rules.Rfc now keep e flight window n is f = by (window == 0) refl (n == 0) refl
  where
    by : (y : Bool) → (window == 0) ≡ y → (z : Bool) → (n == 0) ≡ z → Rests (if y && not z then probe_from now e else idle_from now keep) flight window n
    by true w false z = tt
    by true w true z = idle_rests now keep flight window n f (λ i. eqb-true n 0 z)
    by false w z i = idle_rests now keep flight window n f (λ q. absurd (true≢false (sym (eq-eqb window 0 q) ∙ w)))

marked_rests : (r : Rules) (now : Instant) (keep : Option Duration) (e : Estimator) (flight window n : ℕ) → r ≡ rules.Rfc → Rests (marked_by r now keep e) flight window n
marked_rests rules.Smoltcp now keep e flight window n is = absurd cc
marked_rests rules.Rfc now keep e flight window n is = tt

begins_both : (now : Instant) → KeptByBeginnings Both now
unfolding retransmission_begun fast_retransmission_marked tail_probed probed_by
begins_both now = record {
  remembers = λ v h. ((begins_ordered now).remembers v h.0, h.1);
  tells = λ v h. ((begins_ordered now).tells v h.0, h.1);
  times_out = λ v h. ((begins_ordered now).times_out v h.0, record { rfc = h.1.rfc; row = tt });
  forgets = λ v h. ((begins_ordered now).forgets v h.0, record { rfc = h.1.rfc; row = tt });
  begins_again = λ v at e h. ((begins_ordered now).begins_again v at e h.0, record { rfc = h.1.rfc; row = rests_row v.state _ _ _ _ (begun_rests v.rules now v.keep_alive (retransmitted (backed_off v.rtte)) (seq_sub v.local_seq_no v.local_seq_no) v.remote_win_len (length v.tx_buffer.bytes) h.1.rfc (no_distance v.local_seq_no h.0.una_small)) });
  marks = λ v e h. ((begins_ordered now).marks v e h.0, record { rfc = h.1.rfc; row = rests_row v.state _ _ _ _ (marked_rests v.rules now v.keep_alive (retransmitted v.rtte) (flight v) v.remote_win_len (length v.tx_buffer.bytes) h.1.rfc) });
  goes_back = λ v at delay e h. ((begins_ordered now).goes_back v at delay e h.0, record { rfc = h.1.rfc; row = rests_row v.state v.timer (seq_sub v.local_seq_no v.local_seq_no) v.remote_win_len (length v.tx_buffer.bytes) (subst (λ t. Rests t (seq_sub v.local_seq_no v.local_seq_no) v.remote_win_len (length v.tx_buffer.bytes)) (sym e) tt) });
  probes_tail = λ v at e h. ((begins_ordered now).probes_tail v at e h.0, record { rfc = h.1.rfc; row = rests_row v.state (retransmit_from now (retransmitted v.rtte)) (flight v) v.remote_win_len (length v.tx_buffer.bytes) tt });
}

renewed_both : (v : View) → IsOrdered (renewed v) → Both v → Both (renewed v)
unfolding renewed fresh
renewed_both v o h = (o, record { rfc = h.1.rfc; row = tt })

-- ---- what goes out

armed_awake : (v : View) (now : Instant) (n : ℕ) → IsAwakeByRfc v → IsAwakeByRfc (tail_armed v now n)
armed_awake v now n h = armed_as IsAwakeByRfc v now n h (λ at e. record { rfc = h.rfc; row = rests_row v.state _ _ _ _ tt })

module _ (u : View) (now : Instant) (o : IsOrdered u) (h : IsAwakeByRfc u) where
  any_row : (st : State) → u.state ≡ st → AwakeIn st (keep_alive_renewed u.timer now u.keep_alive) (flight u) u.remote_win_len (length u.tx_buffer.bytes)
  any_row st is = change_row st u.timer _ (flight u) (flight u) u.remote_win_len (length u.tx_buffer.bytes) (length u.tx_buffer.bytes) (renewed_rests u.timer now u.keep_alive (flight u) u.remote_win_len (length u.tx_buffer.bytes)) (subst (λ z. AwakeIn z u.timer (flight u) u.remote_win_len (length u.tx_buffer.bytes)) is h.row)

  any_awake : IsAwakeByRfc (after_any u now)
  unfolding after_any
  any_awake = record { rfc = h.rfc; row = any_row u.state refl }

  probe_awake : IsAwakeByRfc (after_probe (after_any u now) now)
  unfolding after_any after_probe
  probe_awake = record { rfc = h.rfc; row = change_row u.state _ _ (flight u) (flight u) u.remote_win_len (length u.tx_buffer.bytes) (length u.tx_buffer.bytes) (doubled_rests _ now (flight u) u.remote_win_len (length u.tx_buffer.bytes)) (any_row u.state refl) }

  closed_row : (st : State) (t : Timer) (i window n : ℕ) → st ≡ state.Closed → AwakeIn st t i window n
  closed_row state.Closed t i window n e = tt
  closed_row _ t i window n e = absurd cc

  -- it takes no sequence number, and so moves nothing
  plain_awake : (b : Segment) → (segment_len b ≡ 0 → RstOrAck u b) → IsAwakeByRfc (sending_timed (snd_nxt_moved (after_any u now) (emitted_as kind.Plain b)) now (emitted_as kind.Plain b))
  unfolding after_any sending_timed snd_nxt_moved
  plain_awake b empty = go (segment_len b == 0) refl
    where
      end : TcpSeqNumber
      end = seq_add b.seq_number (segment_len b)

      moved : View
      moved = snd_nxt_moved (after_any u now) (emitted_as kind.Plain b)

      row : RstOrAck u b → AwakeIn u.state (keep_alive_renewed u.timer now u.keep_alive) (seq_sub (later_of u.remote_last_seq end) u.local_seq_no) u.remote_win_len (length u.tx_buffer.bytes)
      row (inl c) = closed_row u.state _ _ _ _ c.0
      row (inr a) = subst (λ k. AwakeIn u.state (keep_alive_renewed u.timer now u.keep_alive) (seq_sub k u.local_seq_no) u.remote_win_len (length u.tx_buffer.bytes)) (sym (nxt_stays u now b a o)) (any_row u.state refl)

      go : (z : Bool) → (segment_len b == 0) ≡ z → IsAwakeByRfc (if z then moved else record moved { rtte = sending_measured moved now (emitted_as kind.Plain b); timer = retransmit_unless_set moved.timer now moved.rtte; congestion_controller = post_transmitted (restarted_by moved.rules moved.idle_at now moved.congestion_controller) now (segment_len b); idle_at = idle_by moved.rules moved.idle_at now moved.rtte; pending_fast_retransmit = moved.pending_fast_retransmit || goes_on moved })
      go true e = record { rfc = h.rfc; row = row (empty (eqb-true (segment_len b) 0 e)) }
      go false e = record { rfc = h.rfc; row = rests_row u.state _ _ _ _ (timed_rests moved.timer now moved.rtte (seq_sub (later_of u.remote_last_seq end) u.local_seq_no) u.remote_win_len (length u.tx_buffer.bytes)) }

  sent_awake : (k : Kind) (b : Segment) → (segment_len b ≡ 0 → RstOrAck u b) → IsAwakeByRfc (after_sending u now (emitted_as k (of_kind k u b)))
  unfolding after_sending
  sent_awake kind.Plain b empty = armed_awake (sending_timed (snd_nxt_moved (after_any u now) (emitted_as kind.Plain b)) now (emitted_as kind.Plain b)) now (segment_len b) (plain_awake b empty)
  sent_awake kind.KeepAlive b empty = any_awake
  sent_awake kind.Probe b empty = probe_awake

  left_awake : (t : Tuple) (b : Option Segment) (ok : Bool) → ((s : Segment) → b ≡ Some s → segment_len s ≡ 0 → RstOrAck u s) → IsAwakeByRfc (left_by (option_map (λ s. sent_as u t (emission_kind u now s) s) b) u now ok)
  left_awake t None ok empty = h
  left_awake t (Some s) false empty = h
  left_awake t (Some s) true empty = sent_awake (emission_kind u now s) s (empty s refl)

sends_awake : (o : Option Tuple) (f : Facts) (u : View) (out : Option Sending) (w : View) → IsLawful f → SendsTo o f u out w → IsOrdered u → IsProbing u → IsAwakeByRfc u → IsAwakeByRfc w
unfolding content
sends_awake None f u out w lawful h o q i = subst IsAwakeByRfc (sym h.1) i
sends_awake (Some t) f u out w lawful h o q i =
    let left = left_awake u (moment_of f) o i t (filled u.state u t f h.bytes (plain_segment u t h.stamp)) h.ok (λ s e z. rst_or_ack u t f h.stamp h.bytes o q lawful h.lent u.state refl s e z) in
    subst IsAwakeByRfc (sym h.view) (subst (λ x. IsAwakeByRfc (left_by x u (moment_of f) h.ok)) (sym h.sends) left)

-- ---- the other calls

-- bytes that join the queue begin the probes, where there is no window
queued_awake : (v : View) (n : ℕ) (bs : List ℕ) → IsAwakeByRfc v → IsAwakeByRfc (queued v n bs)
unfolding queued
queued_awake v n bs h = record { rfc = h.rfc; row = change_row v.state v.timer _ (flight v) (flight v) v.remote_win_len (length v.tx_buffer.bytes) (length (v.tx_buffer.bytes ++ take n bs)) (by v.timer) h.row }
  where
    m : ℕ
    m = length (v.tx_buffer.bytes ++ take n bs)

    either : (b : Bool) (t : Timer) → Rests t (flight v) v.remote_win_len m → Rests (if b then first_probe v.rtte else t) (flight v) v.remote_win_len m
    either true t h = tt
    either false t h = h

    same : (n == 0) ≡ true → length v.tx_buffer.bytes ≡ 0 → m ≡ 0
    same z e = let k = eqb-true n 0 z in omega (arith, length-append v.tx_buffer.bytes (take n bs), length-take n bs, k, e)

    idle : (at : Option Instant) (y : Bool) → (n == 0) ≡ y → (z : Bool) → (v.remote_win_len == 0) ≡ z → Rests (timer.Idle at) (flight v) v.remote_win_len (length v.tx_buffer.bytes) → Rests (if not y && z && true then first_probe v.rtte else timer.Idle at) (flight v) v.remote_win_len m
    idle at true y z w h = (h.0, λ i. same y (h.1 i))
    idle at false y true w h = tt
    idle at false y false w h = (h.0, λ i. absurd (true≢false (sym (eq-eqb v.remote_win_len 0 i) ∙ w)))

    by : (t : Timer) → Rests t (flight v) v.remote_win_len (length v.tx_buffer.bytes) → Rests (if not (n == 0) && (v.remote_win_len == 0) && is_idle t then first_probe v.rtte else t) (flight v) v.remote_win_len m
    by (timer.Idle at) h = idle at (n == 0) refl (v.remote_win_len == 0) refl h
    by (timer.Retransmit at) h = either (not (n == 0) && (v.remote_win_len == 0) && false) (timer.Retransmit at) tt
    by timer.FastRetransmit h = either (not (n == 0) && (v.remote_win_len == 0) && false) timer.FastRetransmit tt
    by (timer.ZeroWindowProbe at delay) h = either (not (n == 0) && (v.remote_win_len == 0) && false) (timer.ZeroWindowProbe at delay) tt
    by (timer.Close at) h = either (not (n == 0) && (v.remote_win_len == 0) && false) (timer.Close at) tt

rfc_is : (r : Rules) → is_rfc r ≡ true → r ≡ rules.Rfc
rfc_is rules.Rfc e = refl
rfc_is rules.Smoltcp e = absurd cc

listen_row : (st : State) (t : Timer) (i window n : ℕ) → st ≡ state.Listen → AwakeIn st t i window n
listen_row state.Listen t i window n e = tt
listen_row _ t i window n e = absurd cc

decided_awake : (v w : View) → v.state ≡ state.Listen → ((w ≡ v → ⊥) → ⊥) → IsAwakeByRfc v → IsAwakeByRfc w
decided_awake v w is n h = record { rfc = rfc_is w.rules (flag (λ x. is_rfc x.rules) ∙ ap is_rfc h.rfc); row = listen_row w.state _ _ _ _ (listening_is w.state (flag (λ x. is_listening x.state) ∙ ap is_listening is)) }
  where
    flag : (f : View → Bool) → f w ≡ f v
    flag f = same_flag (f w) (f v) (λ d. n (λ e. d (ap f e)))

uses_awake : KeptByUses IsAwakeByRfc
unfolding read_off connected listened renewed fresh
uses_awake = record {
  queues = λ v n bs may within h. queued_awake v n bs h;
  reads = λ v n h. h;
  connects = λ v t word small h. record { rfc = h.rfc; row = tt };
  listens = λ v e h. record { rfc = h.rfc; row = tt };
  decided = λ v w is n h. decided_awake v w is n h;
}

-- an open socket keeps its rules, and of another none waits for an acknowledgement
shut_row : (st : State) (t : Timer) (i window n : ℕ) → is_open st ≡ false → AwakeIn st t i window n
shut_row state.Closed t i window n e = tt
shut_row state.TimeWait t i window n e = tt
shut_row _ t i window n e = absurd cc

-- where the rules are the RFCs'
abbrev IsOwnAwake : View → Type 0
IsOwnAwake v = v.rules ≡ rules.Rfc → IsAwakeByRfc v

sets_awake : (v w : View) (x : Sets v w) → KeepsRules x → IsOwnAwake v → IsOwnAwake w
sets_awake v w (SetCongestionControl x e) k a = subst IsOwnAwake (sym e) (λ i. let h = a i in record { rfc = h.rfc; row = h.row })
sets_awake v w (SetTimeout x e) k a = subst IsOwnAwake (sym e) (λ i. let h = a i in record { rfc = h.rfc; row = h.row })
sets_awake v w (SetAckDelay x e) k a = subst IsOwnAwake (sym e) (λ i. let h = a i in record { rfc = h.rfc; row = h.row })
sets_awake v w (SetNagle x e) k a = subst IsOwnAwake (sym e) (λ i. let h = a i in record { rfc = h.rfc; row = h.row })
sets_awake v w (SetKeepAlive x e) k a = subst IsOwnAwake (sym e) (λ i. let h = a i in record { rfc = h.rfc; row = change_row v.state v.timer (keep_alive_timer x v.timer) (flight v) (flight v) v.remote_win_len (length v.tx_buffer.bytes) (length v.tx_buffer.bytes) (keep_rests x v.timer (flight v) v.remote_win_len (length v.tx_buffer.bytes)) h.row })
sets_awake v w (SetHopLimit x e) k a = subst IsOwnAwake (sym e) (λ i. let h = a i in record { rfc = h.rfc; row = h.row })
sets_awake v w (PauseSynAck x e) k a = subst IsOwnAwake (sym e) (λ i. let h = a i in record { rfc = h.rfc; row = h.row })
sets_awake v w (SetTsvalGenerator x e) k a = subst IsOwnAwake (sym e) (λ i. let h = a i in record { rfc = h.rfc; row = h.row })
sets_awake v w (SetRules x d e) k a = subst IsOwnAwake (sym e) (by (is_open v.state) refl)
  where
    by : (b : Bool) → is_open v.state ≡ b → IsOwnAwake (record v { rules = x; timeout = d })
    by true o = λ i. let h = a (sym (k o) ∙ i) in record { rfc = i; row = h.row }
    by false o = λ i. record { rfc = i; row = shut_row v.state v.timer (flight v) v.remote_win_len (length v.tx_buffer.bytes) o }
sets_awake v w (SetMinRto x e) k a = subst IsOwnAwake (sym e) (λ i. let h = a i in record { rfc = h.rfc; row = h.row })

-- what goes out again is waited for
mtu_awake : (v : View) (now : Instant) (mtu : ℕ) → IsOwnAwake v → IsOwnAwake (path_mtu_set v now mtu)
unfolding shortened all_sent_again
mtu_awake v now mtu a = narrowed_as IsOwnAwake v now mtu a (λ mss le i. let h = a i in record { rfc = h.rfc; row = h.row }) (λ u e b i. let h = b i in record { rfc = h.rfc; row = rests_row u.state (retransmit_from now (retransmitted u.rtte)) (seq_sub u.local_seq_no u.local_seq_no) u.remote_win_len (length u.tx_buffer.bytes) tt })

-- ---- any call

record All (v : View) : Type 0 where
  ordered : IsOrdered v
  probing : IsProbing v
  awake : IsOwnAwake v

module _ (v w : View) (i j : Counts) where
  call_ordered : Step v i w j → IsOrdered v → IsOrdered w
  call_ordered s h = step_kept (λ at. IsOrdered) (λ at. Unit {0}) (λ last now. Unit {0}) (λ d. Unit {0}) kept_ordered v w i j (record { micros = pos 0 }) s tt (λ now e. tt) tt h

  call_probing : Step v i w j → IsProbing v → IsProbing w
  call_probing s h = step_kept (λ at. IsProbing) (λ at. Unit {0}) (λ last now. Unit {0}) (λ d. Unit {0}) kept_probing v w i j (record { micros = pos 0 }) s tt (λ now e. tt) tt h

  -- of calls that keep the rules
  by_rules : w.rules ≡ v.rules → (IsAwakeByRfc v → IsAwakeByRfc w) → IsOwnAwake v → IsOwnAwake w
  by_rules same step a e = step (a (sym same ∙ e))

  module _ (a : All v) where
    abbrev Ruled : View → Type 0
    Ruled = IsRuled v.rules

    listens : (e : IpListenEndpoint) (r : Result (Unit {0}) ListenError) → Listens v e r w → IsOwnAwake w
    listens e r h = by_rules (listen_kept Ruled (uses_ruled v.rules) v w e r h refl) (listen_kept IsAwakeByRfc uses_awake v w e r h) a.awake

    slice : (bs : List ℕ) → w ≡ (if may_send v.state then queued v (fitting v (length bs)) bs else v) → IsOwnAwake w
    slice bs h = by_rules (slice_kept Ruled (uses_ruled v.rules) v w bs (may_send v.state) refl h refl) (slice_kept IsAwakeByRfc uses_awake v w bs (may_send v.state) refl h) a.awake

    call_awake : (s : Step v i w j) → IsByOwn s → IsOrdered w → IsOwnAwake w
    call_awake (Listen e r h is) b o = listens e r h
    call_awake (Connect f word remote local small h is) b o = subst IsOwnAwake (sym h) (λ e. connect_kept IsAwakeByRfc uses_awake (endpoints v f remote local) v word small (a.awake (sym (connect_kept Ruled (uses_ruled v.rules) (endpoints v f remote local) v word small refl) ∙ e)))
    call_awake (SendSlice bs r h is) b o = slice bs h.view
    call_awake (Send r h is) b o = by_rules (closure_kept Ruled (uses_ruled v.rules) (may_send v.state) v w r refl h refl) (closure_kept IsAwakeByRfc uses_awake (may_send v.state) v w r refl h) a.awake
    call_awake (WriteStr bs all h is) b o = slice bs h.view
    call_awake (RecvSlice bs bs' r h is) b o = by_rules (slice_read_kept Ruled (uses_ruled v.rules) v w (readable v (length bs)) (may_recv v) h.view refl) (slice_read_kept IsAwakeByRfc uses_awake v w (readable v (length bs)) (may_recv v) h.view) a.awake
    call_awake (Recv r h is) b o = by_rules (closure_read_kept Ruled (uses_ruled v.rules) (may_recv v) v w r h refl) (closure_read_kept IsAwakeByRfc uses_awake (may_recv v) v w r h) a.awake
    call_awake (Close h is) b o = subst IsOwnAwake (sym h) (λ e. let k = a.awake e in record { rfc = k.rfc; row = called_as (λ st. AwakeIn st v.timer (flight v) v.remote_win_len (length v.tx_buffer.bytes)) (waits_in v.state v.rules) v.state k.row (close_row v.state v.timer (flight v) v.remote_win_len (length v.tx_buffer.bytes) k.row) })
    call_awake (Abort h is) b o = subst IsOwnAwake (sym h) (λ e. record { rfc = e; row = tt })
    call_awake (Set x is) b o = sets_awake v w x b a.awake
    call_awake (SetPathMtu now mtu h is) b o = subst IsOwnAwake (sym h) (mtu_awake v now mtu a.awake)
    call_awake (Process r now word ip s small numbered short bare h is) b o = by_rules same step a.awake
      where
        same : w.rules ≡ v.rules
        same = ap (λ (x : View). x.rules) h ∙ process_ruled v.rules r v now word ip s refl

        step : IsAwakeByRfc v → IsAwakeByRfc w
        step k = let is_so : w ≡ (processed_by rules.Rfc v now word ip s).view = h ∙ ap (λ x. (processed_by x v now word ip s).view) (b ∙ k.rfc) in subst IsAwakeByRfc (sym is_so) (process_awake v now word ip s k (subst IsOrdered is_so o))
    call_awake (Dispatch f out h is) b o = by_rules (dispatch_ruled v.rules f v w out h refl) step a.awake
      where
        step : IsAwakeByRfc v → IsAwakeByRfc w
        step k =
            let u = (before_emit v f).view in
            let begun : Both u = before_kept Both f (begins_both (moment_of f)) (λ y k. renewed_both y (kept_ordered.resets (moment_of f) y k.0) k) v (a.ordered, k) in
            sends_awake (peer_of (before_emit v f)) f u out w b h begun.0 (before_probing f v a.probing) begun.1

  call_all : (s : Step v i w j) → IsByOwn s → All v → All w
  call_all s b a = let o = call_ordered s a.ordered in record { ordered = o; probing = call_probing s a.probing; awake = call_awake a s b o }

run_all : (v w : View) (i j : Counts) → OwnRun v i w j → All v → All w
run_all v w i j (OwnEnds _ _) a = a
run_all v w i j (OwnThen _ u _ _ l _ s b r) a = run_all u w l j r (call_all v u i l s b a)

-- ---- from a new socket on

as_run : (v w : View) (i j : Counts) → OwnRun v i w j → Run v i w j
as_run v w i j (OwnEnds _ _) = Ends v i
as_run v w i j (OwnThen _ u _ _ l _ s b r) = Then v u w i l j s (as_run u w l j r)

pub reached_by_own : (v : View) → IsReachedByOwn v → IsReached v
reached_by_own v r = record { rx = r.rx; tx = r.tx; counts = r.counts; rx_size = r.rx_size; tx_size = r.tx_size; run = as_run _ v _ r.counts r.run }

module _ (rx tx : Ring ℕ) where
  abbrev new : View
  new = fresh (receiving rx) (queue_of tx)

  told : length rx.queue + length rx.spare ≤ 2 ^ 30 → length tx.queue + length tx.spare ≤ 2 ^ 30 → IsReached new
  told a b = record { rx = rx; tx = tx; counts = starting new; rx_size = a; tx_size = b; run = Ends new (starting new) }

  new_awake : IsOwnAwake new
  unfolding fresh
  new_awake = λ e. let no : rules.Smoltcp ≡ rules.Rfc = e in absurd cc

awake_by_own : (v : View) → IsReachedByOwn v → IsOwnAwake v
awake_by_own v r =
    let s = told r.rx r.tx r.rx_size r.tx_size in
    (run_all _ v _ r.counts r.run (record { ordered = reached_ordered _ s; probing = reached_probing _ s; awake = new_awake r.rx r.tx })).awake

-- ---- the law

module _ (v : View) (t : Tuple) (f : Facts) (h : IsOrdered v) (a : IsAwakeByRfc v) (w : Waits v t f) (s : Sleeps v) where
  abbrev n : ℕ
  n = length v.tx_buffer.bytes

  row : (st : State) → v.state ≡ st → AwakeIn st (timer.Idle None) (flight v) v.remote_win_len n
  row st is = subst (λ z. AwakeIn z (timer.Idle None) (flight v) v.remote_win_len n) is (subst (λ z. AwakeIn v.state z (flight v) v.remote_win_len n) s.timer a.row)

  emptied : (0 < flight v) ⊎ ((flight v ≡ 0) × (v.remote_win_len ≡ 0)) → Rests (timer.Idle None) (flight v) v.remote_win_len n → n ≡ 0
  emptied (inl some) r = absurd (omega (arith, some, r.0))
  emptied (inr z) r = r.1 z.1

  no_fin : is_closing v.state ≡ true → (0 < flight v) ⊎ ((flight v ≡ 0) × (v.remote_win_len ≡ 0)) → Rests (timer.Idle None) (flight v) v.remote_win_len n → ⊥
  no_fin c q r = fin_due v t f c h.una_small h.nxt_small r.0 (emptied q r) w.quiet.no_data

  some_bytes : (m : ℕ) → not (m == 0) ≡ true → m ≡ 0 → ⊥
  some_bytes m e z = true≢false (sym e ∙ ap not (eq-eqb m 0 z))

  sleeps_not : (st : State) → v.state ≡ st → works_in st (is_some v.tuple) (n == 0) v.synack_paused ≡ true → ⊥
  sleeps_not st is e = by st is (subst (λ z. SleepsIn z (flight v) v.remote_win_len) is s.waits) e
    where
      by : (st : State) → v.state ≡ st → SleepsIn st (flight v) v.remote_win_len → works_in st (is_some v.tuple) (n == 0) v.synack_paused ≡ true → ⊥
      by state.SynReceived is q e = let r = row state.SynReceived is in omega (arith, q, r.0)
      by state.Established is q e = some_bytes n e (emptied q (row state.Established is))
      by state.CloseWait is q e = some_bytes n e (emptied q (row state.CloseWait is))
      by state.FinWait1 is q e = no_fin (ap is_closing is) q (row state.FinWait1 is)
      by state.Closing is q e = no_fin (ap is_closing is) q (row state.Closing is)
      by state.LastAck is q e = no_fin (ap is_closing is) q (row state.LastAck is)
      by _ is q e = absurd q

pub never_sleeps : NeverSleeps
unfolding has_work poll_moment
never_sleeps v f r rfc work e = go v.tuple refl
  where
    reached : IsReached v
    reached = reached_by_own v r

    h : IsOrdered v
    h = reached_ordered v reached

    go : (o : Option Tuple) → v.tuple ≡ o → ⊥
    go None p = no_peer v.state (is_some v.tuple) (length v.tx_buffer.bytes == 0) v.synack_paused (λ q. true≢false (sym q ∙ ap is_some p)) work (subst (IsPeeredIn v.state) p h.peered)
    go (Some t) p = sleeps_not v t f h (awake_by_own v r rfc) (waits v t f (subst (λ o. poll_moment_to o v f ≡ poll.Ingress) p e)) (sleeps_only_so v f reached work e) v.state refl work
