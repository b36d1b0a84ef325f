-- Any call keeps it: the number up to which a recovery lasts has 32 bits. So what was sent behind SND.UNA is less than
-- 2^32 - 2^29 bytes.
use Rattle.std.proofs.Common.{◌≡◌, ℕ, ◌+◌, ◌-◌, ◌<◌, ◌≤◌, ◌^◌, arith, List, [], length, Bool, true, false, refl, ap, ◌∙◌, Some}
use Rattle.std.specs.Prelude.{nat_lt, ◌&&◌, if◌then◌else◌}
use Rattle.std.proofs.lemmas.Bool.{ltb-true}
use Rattle.std.proofs.lemmas.Bool.Decides.{nat_tests}
use Rattle.ip_wire.specs.declared.repr.IpRepr.{IpRepr}
use Rattle.net_base.specs.declared.time.Instant.{Instant}
use Rattle.control_wire.specs.Segment.{Segment}
use Rattle.control_wire.specs.Seq.{seq_sub}
use Rattle.control_wire.specs.declared.seq_number.TcpSeqNumber.{TcpSeqNumber}
use Rattle.control_wire.specs.declared.tcp.TcpControl.{TcpControl}
use Rattle.sock_core.specs.Places.{number_is_before}
use Rattle.sock_core.specs.Seq.{is_before, later_of}
use Rattle.sock_core.proofs.Numbers as numbers
use Rattle.sock_tcp.specs.PathMtu.{all_sent_again, shortened}
use Rattle.sock_tcp.specs.Acked.{acked_of}
use Rattle.sock_tcp.specs.Advance.{advance_in, advanced, counted_control, fallen_back, fin_counted, options_taken, syn_answered, syn_received}
use Rattle.sock_tcp.specs.Arrival.{Arrival, arrival}
use Rattle.sock_tcp.specs.Begin.{retransmission_begun, fast_retransmission_marked}
use Rattle.sock_tcp.specs.Content.{carries_data}
use Rattle.sock_tcp.specs.Opening.{connected, listened, renewed}
use Rattle.sock_tcp.specs.Process.{after_advance, by_verdict, challenged, close_restarted, cut_inside, has_window, outside, processed_by, processed_inside, tested_by, tuple_of}
use Rattle.sock_tcp.specs.Queues.{queued, read_off}
use Rattle.sock_tcp.specs.Replies.{ack_kept}
use Rattle.sock_tcp.specs.Rfc.Checks.{verdict_by}
use Rattle.sock_tcp.specs.Rfc.Recovery.{again, again_by, before_of, begins, came_twice, echo_known, gone_on, highest_of, reached_by, recovered, recovery_after, is_undone, spared, sent_of, timed_out_by, unless_beyond, unless_twice}
use Rattle.sock_tcp.specs.Rfc.Reordering.{is_late}
use Rattle.sock_tcp.specs.Rfc.TailLoss.{probed_by, recovery_probed, tail_probed}
use Rattle.sock_tcp.specs.Rfc.Windows.{windowed}
use Rattle.sock_tcp.specs.Sent.{after_any, after_probe, resent_by, snd_nxt_moved}
use Rattle.sock_tcp.specs.Steps.{ack_counted, ack_delayed, duplicate_counted, heard, joined, released, timer_set, timestamp_taken, una_advanced, window_taken}
use Rattle.sock_tcp.specs.View.{View, fresh}
use Rattle.sock_tcp.specs.Window.{cut_of, is_inside, accepted_window}
use Rattle.sock_tcp.specs.declared.acked.Acked.{Acked}
use Rattle.sock_tcp.specs.declared.advance.Next.{Next}
use Rattle.sock_tcp.specs.declared.advance.Next.TheVariants as next
use Rattle.sock_tcp.specs.declared.emission.Emitted.{Emitted}
use Rattle.sock_tcp.specs.declared.recovery.Before.{Before}
use Rattle.sock_tcp.specs.declared.recovery.Recovery.{Recovery}
use Rattle.sock_tcp.specs.declared.recovery.Recovery.TheVariants as recovery
use Rattle.sock_tcp.specs.declared.rules.Rules.{Rules}
use Rattle.sock_tcp.specs.declared.rules.Rules.TheVariants as rules
use Rattle.sock_tcp.specs.declared.verdict.Verdict.{Verdict}
use Rattle.sock_tcp.specs.declared.verdict.Verdict.TheVariants as verdicts
use Rattle.tcp_laws.specs.Polling.{IsReached}
use Rattle.tcp_laws.proofs.Kept.{Kept, KeptByAnswers, KeptByBeginnings, KeptByCalls, KeptByRows, KeptBySending, bytes_kept, challenged_kept, heard_kept, outside_kept, reached_kept, rows_kept, sends_kept}
use Rattle.tcp_laws.proofs.Ordered.{IsOrdered, later_small}
use Rattle.tcp_laws.proofs.OrderedCalls.{begins_ordered, fresh_ordered, kept_ordered, same_flag}
use Rattle.tcp_laws.proofs.SocketSteps.{setting_leaves}

abbrev pub fits : Recovery → Bool
fits (recovery.Fast point high_rxt resent_at acked trailed una_lost) = nat_lt point.0 (2 ^ 32)
fits (recovery.Timeout point) = nat_lt point.0 (2 ^ 32)
fits _ = true

abbrev pub IsPointed : View → Type 0
IsPointed v = IsOrdered v × (fits v.recovery ≡ true)

-- in other words
abbrev pub IsNumbered : Recovery → Type 0
IsNumbered (recovery.Fast point high_rxt resent_at acked trailed una_lost) = point.0 < 2 ^ 32
IsNumbered (recovery.Timeout point) = point.0 < 2 ^ 32
IsNumbered _ = Unit {0}

pub numbered_of : (r : Recovery) → fits r ≡ true → IsNumbered r
numbered_of recovery.Open f = tt
numbered_of (recovery.Probe start end again) f = tt
numbered_of (recovery.Fast point high_rxt resent_at acked trailed una_lost) f = ltb-true point.0 (2 ^ 32) f
numbered_of (recovery.Timeout point) f = ltb-true point.0 (2 ^ 32) f

is_small : (n : TcpSeqNumber) → n.0 < 2 ^ 32 → nat_lt n.0 (2 ^ 32) ≡ true
is_small n h = grind (arith, nat_tests, h)

-- ---- the highest number that was sent

highest_small : (r : Recovery) (nxt : TcpSeqNumber) → fits r ≡ true → nxt.0 < 2 ^ 32 → (highest_of r nxt).0 < 2 ^ 32
highest_small recovery.Open nxt f h = h
highest_small (recovery.Probe start end again) nxt f h = h
highest_small (recovery.Fast point high_rxt resent_at acked trailed una_lost) nxt f h = later_small nxt point h (ltb-true point.0 (2 ^ 32) f)
highest_small (recovery.Timeout point) nxt f h = later_small nxt point h (ltb-true point.0 (2 ^ 32) f)

later_near : (nxt point una : TcpSeqNumber) → nxt.0 < 2 ^ 32 → point.0 < 2 ^ 32 → una.0 < 2 ^ 32 → seq_sub nxt una ≤ 2 ^ 30 + 1 → seq_sub (later_of nxt point) una < 2 ^ 32 - 2 ^ 29
unfolding later_of is_before
later_near nxt point una n p u near = go (number_is_before nxt.0 point.0) refl
  where
    go : (b : Bool) → number_is_before nxt.0 point.0 ≡ b → seq_sub (if b then point else nxt) una < 2 ^ 32 - 2 ^ 29
    go true e = let far = numbers.is_before nxt.0 point.0 e in omega (arith, n, p, u, near, far)
    go false e = omega (arith, near)

pub sent_near : (v : View) → IsPointed v → seq_sub v.remote_last_seq v.local_seq_no ≤ 2 ^ 30 + 1 → sent_of v < 2 ^ 32 - 2 ^ 29
sent_near v h near = by v.recovery h.1
  where
    by : (r : Recovery) → fits r ≡ true → seq_sub (highest_of r v.remote_last_seq) v.local_seq_no < 2 ^ 32 - 2 ^ 29
    by recovery.Open f = omega (arith, near)
    by (recovery.Probe start end again) f = omega (arith, near)
    by (recovery.Fast point high_rxt resent_at acked trailed una_lost) f = later_near v.remote_last_seq point v.local_seq_no h.0.nxt_small (ltb-true point.0 (2 ^ 32) f) h.0.una_small near
    by (recovery.Timeout point) f = later_near v.remote_last_seq point v.local_seq_no h.0.nxt_small (ltb-true point.0 (2 ^ 32) f) h.0.una_small near

-- ---- a segment, by smoltcp's rules: nothing is done of loss

module _ (v : View) (now : Instant) (word : ℕ) (ip : IpRepr) (s : Segment) where
  abbrev come : Arrival
  come = arrival now (tuple_of ip s) word s

  abbrev Stays : View → Type 0
  Stays w = w.recovery ≡ v.recovery

  answers : KeptByAnswers Stays
  unfolding ack_kept
  answers = record { challenges = λ w at h. h; acks = λ w h. h }

  restarts : (w : View) → Stays w → Stays (close_restarted w now)
  unfolding close_restarted
  restarts w h = h

  rows : KeptByRows Stays now word s
  unfolding fallen_back syn_received syn_answered options_taken fin_counted
  rows = record { falls = λ w h. h; drops = λ w h. h; opens = λ w t h. h; answers = λ w h. h; moves = λ w st h. h; counts = λ w st h. h; waits = λ w h. h }

  joins : (w : View) (o : ℕ) (bs : List ℕ) → Stays w → Stays (ack_delayed (joined w o bs) now)
  unfolding joined ack_delayed
  joins w o bs h = h

  hears : (u : View) (a : Acked) → Stays u → Stays (heard u now a s)
  unfolding window_taken released timestamp_taken timer_set duplicate_counted ack_counted una_advanced
  hears u a h = heard_kept Stays now s u a h (λ k. h) (λ k. h)

  after_stays : (x : Next) (u : View) (a : Acked) (o : ℕ) (bs : List ℕ) → Stays u → Stays (after_advance x u come a o bs).view
  after_stays next.Stop u a o bs h = h
  after_stays next.Challenge u a o bs h = challenged_kept Stays now s answers u h
  after_stays next.Continue u a o bs h = bytes_kept Stays now s answers joins (heard u now a s) o bs (hears u a h)

  inside_stays : (u : View) (c : TcpControl) (o : ℕ) (bs : List ℕ) → Stays u → Stays (processed_inside u come c o bs).view
  unfolding processed_inside advanced
  inside_stays u c o bs h =
      let a = acked_of u s.control s.ack_number in
      let x = advance_in u.state c a.fin u come a.len in
      after_stays x.next x.view a o bs (rows_kept Stays now word s rows u (tuple_of ip s) a.len h u.state c a.fin)

  tested_stays : (b : Bool) → Stays (tested_by rules.Smoltcp b v come).view
  tested_stays false = inside_stays v s.control 0 [] refl
  tested_stays true = go (is_inside (accepted_window rules.Smoltcp v) s.seq_number (length s.payload))
    where
      go : (b : Bool) → Stays (if b then cut_inside (accepted_window rules.Smoltcp v) (cut_of (accepted_window rules.Smoltcp v) s.seq_number (length s.payload)) v come else outside v now s).view
      go false = outside_kept Stays now s answers restarts v refl
      go true = inside_stays (record v { local_rx_last_seq = Some s.seq_number }) (counted_control s.control (accepted_window rules.Smoltcp v) s.seq_number (length s.payload)) _ _ refl

-- ---- and by the RFCs'

beyond_fits : (r : Recovery) (end una : TcpSeqNumber) → fits r ≡ true → fits (unless_beyond r end una) ≡ true
beyond_fits r end una f = go (is_before end una)
  where
    go : (b : Bool) → fits (if b then recovery.Open else r) ≡ true
    go true = refl
    go false = f

again_fits : (news lost : Bool) (r : Recovery) (una nxt : TcpSeqNumber) → fits r ≡ true → fits (again_by news lost r una nxt) ≡ true
again_fits true lost (recovery.Fast point high_rxt resent_at acked trailed una_lost) una nxt f = f
again_fits false true (recovery.Fast point high_rxt resent_at acked trailed una_lost) una nxt f = f
again_fits false false (recovery.Fast point high_rxt resent_at acked trailed una_lost) una nxt f = f
again_fits true lost (recovery.Probe start end again) una nxt f = beyond_fits (recovery.Probe start end again) end una refl
again_fits false true (recovery.Probe start end again) una nxt f = f
again_fits false false (recovery.Probe start end again) una nxt f = f
again_fits true true recovery.Open una nxt f = f
again_fits true true (recovery.Timeout point) una nxt f = f
again_fits true false recovery.Open una nxt f = f
again_fits true false (recovery.Timeout point) una nxt f = f
again_fits false true recovery.Open una nxt f = f
again_fits false true (recovery.Timeout point) una nxt f = f
again_fits false false recovery.Open una nxt f = f
again_fits false false (recovery.Timeout point) una nxt f = f

spared_fits : (u : Bool) (r : Recovery) → fits r ≡ true → fits (spared u r) ≡ true
spared_fits true recovery.Open f = f
spared_fits true (recovery.Probe start end again) f = f
spared_fits true (recovery.Fast point high_rxt resent_at acked trailed una_lost) f = refl
spared_fits true (recovery.Timeout point) f = f
spared_fits false r f = f

reached_fits : (una : TcpSeqNumber) (r : Recovery) (point : TcpSeqNumber) → fits r ≡ true → fits (reached_by una r point) ≡ true
reached_fits una r point f = go (is_before una point)
  where
    go : (b : Bool) → fits (if b then r else recovery.Open) ≡ true
    go true = f
    go false = refl

gone_fits : (r : Recovery) (una : TcpSeqNumber) → fits r ≡ true → fits (gone_on r una) ≡ true
gone_fits recovery.Open una f = refl
gone_fits (recovery.Probe start end again) una f = refl
gone_fits (recovery.Fast point high_rxt resent_at acked trailed una_lost) una f = reached_fits una (recovery.Fast point high_rxt resent_at acked trailed una_lost) point f
gone_fits (recovery.Timeout point) una f = reached_fits una (recovery.Timeout point) point f

twice_fits : (r : Recovery) (v : View) (s : Segment) → fits r ≡ true → fits (unless_twice r v s) ≡ true
twice_fits recovery.Open v s f = refl
twice_fits (recovery.Fast point high_rxt resent_at acked trailed una_lost) v s f = f
twice_fits (recovery.Timeout point) v s f = f
twice_fits (recovery.Probe start end again) v s f = go (again && came_twice s.ack_number v s start end)
  where
    go : (b : Bool) → fits (if b then recovery.Open else recovery.Probe start end again) ≡ true
    go true = refl
    go false = refl

after_fits : (b : Before) (w : View) → fits b.recovery ≡ true → w.remote_last_seq.0 < 2 ^ 32 → fits (recovery_after b w) ≡ true
after_fits b w f small = carries (carries_data w.state)
  where
    begun : (t : Bool) → fits (if t then recovery.Fast w.remote_last_seq w.local_seq_no w.remote_last_seq false false false else gone_on (spared (is_undone b w) (again b w)) w.local_seq_no) ≡ true
    begun true = is_small w.remote_last_seq small
    begun false = gone_fits (spared (is_undone b w) (again b w)) w.local_seq_no (spared_fits (is_undone b w) (again b w) (again_fits _ _ b.recovery w.local_seq_no w.remote_last_seq f))

    carries : (c : Bool) → fits (if c then (if begins b w then recovery.Fast w.remote_last_seq w.local_seq_no w.remote_last_seq false false false else gone_on (spared (is_undone b w) (again b w)) w.local_seq_no) else recovery.Open) ≡ true
    carries true = begun (begins b w)
    carries false = refl

module _ (v : View) (now : Instant) (s : Segment) (f : fits v.recovery ≡ true) where
  challenged_fits : fits (challenged v now s).view.recovery ≡ true
  unfolding ack_kept
  challenged_fits = challenged_kept (λ w. fits w.recovery ≡ true) now s answers_fit v f
    where
      answers_fit : KeptByAnswers (λ w. fits w.recovery ≡ true)
      answers_fit = record { challenges = λ w at h. h; acks = λ w h. h }

  recovered_fits : (w : View) → (recovered (before_of v s) w now).remote_last_seq.0 < 2 ^ 32 → fits (recovered (before_of v s) w now).recovery ≡ true
  unfolding recovered before_of
  recovered_fits w small = after_fits (before_of v s) (echo_known (before_of v s) w now) (twice_fits v.recovery v s f) small

  verdict_fits : (r : Rules) (word : ℕ) (ip : IpRepr) (x : Verdict) → (by_verdict r x v (arrival now (tuple_of ip s) word s)).view.remote_last_seq.0 < 2 ^ 32 → fits (by_verdict r x v (arrival now (tuple_of ip s) word s)).view.recovery ≡ true
  verdict_fits r word ip verdicts.Drop small = f
  verdict_fits r word ip verdicts.Reset small = f
  verdict_fits r word ip verdicts.Challenge small = challenged_fits
  verdict_fits rules.Smoltcp word ip verdicts.Pass small = ap fits (tested_stays v now word ip s (has_window v.state)) ∙ f
  verdict_fits rules.Rfc word ip verdicts.Pass small = recovered_fits (tested_by rules.Rfc (has_window v.state) v (arrival now (tuple_of ip s) word s)).view small

process_fits : (r : Rules) (v : View) (now : Instant) (word : ℕ) (ip : IpRepr) (s : Segment) → fits v.recovery ≡ true → (processed_by r v now word ip s).view.remote_last_seq.0 < 2 ^ 32 → fits (processed_by r v now word ip s).view.recovery ≡ true
unfolding processed_by
process_fits r v now word ip s f small = verdict_fits v now (windowed r v s) f r word ip (verdict_by r v now s) small

-- ---- a dispatch

timed_fits : (r : Rules) (x : Recovery) (nxt : TcpSeqNumber) → fits x ≡ true → nxt.0 < 2 ^ 32 → fits (timed_out_by r x nxt) ≡ true
timed_fits rules.Smoltcp x nxt f h = f
timed_fits rules.Rfc x nxt f h = is_small (highest_of x nxt) (highest_small x nxt f h)

resent_fits : (r : Recovery) (nxt : TcpSeqNumber) (e : Emitted) → fits r ≡ true → fits (resent_by r nxt e) ≡ true
resent_fits recovery.Open nxt e f = f
resent_fits (recovery.Probe start end again) nxt e f = f
resent_fits (recovery.Fast point high_rxt resent_at acked trailed una_lost) nxt e f = f
resent_fits (recovery.Timeout point) nxt e f = f

probed_fits : (b : Bool) (v : View) → v.remote_last_seq.0 < 2 ^ 32 → fits (recovery_probed b v) ≡ true
probed_fits true v h = is_small v.remote_last_seq h
probed_fits false v h = refl

begins_pointed : (now : Instant) → KeptByBeginnings IsPointed now
unfolding retransmission_begun fast_retransmission_marked tail_probed probed_by
begins_pointed now = record {
  remembers = λ v h. ((begins_ordered now).remembers v h.0, h.1);
  tells = λ v h. ((begins_ordered now).tells v h.0, h.1);
  times_out = λ v h. ((begins_ordered now).times_out v h.0, h.1);
  forgets = λ v h. ((begins_ordered now).forgets v h.0, h.1);
  begins_again = λ v at e h. ((begins_ordered now).begins_again v at e h.0, timed_fits v.rules v.recovery v.remote_last_seq h.1 h.0.nxt_small);
  marks = λ v e h. ((begins_ordered now).marks v e h.0, h.1);
  goes_back = λ v at delay e h. ((begins_ordered now).goes_back v at delay e h.0, timed_fits v.rules v.recovery v.remote_last_seq h.1 h.0.nxt_small);
  probes_tail = λ v at e h. ((begins_ordered now).probes_tail v at e h.0, probed_fits (is_late v) v h.0.nxt_small);
}

sends_fit : (now : Instant) → KeptBySending (λ u. fits u.recovery ≡ true) now
unfolding after_any snd_nxt_moved after_probe
sends_fit now = record { renews = λ u h. h; moves = λ u e h. resent_fits u.recovery u.remote_last_seq e h; times = λ u e h. h; probes = λ u h. h; arms = λ u at e h. h }

-- ---- any call

calls_pointed : (last : Instant) → KeptByCalls IsPointed (λ d. Unit {0})
unfolding queued read_off connected listened renewed fresh
calls_pointed last = record {
  queues = λ v n bs may within h. ((kept_ordered.calls last tt).queues v n bs may within h.0, h.1);
  reads = λ v n h. ((kept_ordered.calls last tt).reads v n h.0, h.1);
  connects = λ v t word small h. ((kept_ordered.calls last tt).connects v t word small h.0, refl);
  listens = λ v e h. ((kept_ordered.calls last tt).listens v e h.0, refl);
  decided = λ v w is n h. ((kept_ordered.calls last tt).decided v w is n h.0, same_flag (fits w.recovery) (fits v.recovery) (λ d. n (λ e. d (ap (λ (x : View). fits x.recovery) e))) ∙ h.1);
  closes = λ v h. ((kept_ordered.calls last tt).closes v h.0, h.1);
  aborts = λ v h. ((kept_ordered.calls last tt).aborts v h.0, h.1);
  sets = λ v w x m h. ((kept_ordered.calls last tt).sets v w x tt h.0, setting_leaves (λ u. fits u.recovery ≡ true) v w (λ x. h.1) (λ x. h.1) (λ timeout delay nagle hops paused is_there rules estimator. h.1) x);
}

renewed_fits : (v : View) → fits (renewed v).recovery ≡ true
unfolding renewed fresh
renewed_fits v = refl

kept_pointed : Kept (λ at. IsPointed) (λ at. Unit {0}) (λ last now. Unit {0}) (λ d. Unit {0})
unfolding shortened all_sent_again
kept_pointed = record {
  later = λ last now v c h. h;
  calls = λ last b. calls_pointed last;
  segments = λ r now word ip s v small numbered bare h. let o = kept_ordered.segments r now word ip s v small numbered bare h.0 in (o, process_fits r v now word ip s h.1 o.nxt_small);
  beginnings = λ now. begins_pointed now;
  resets = λ now v h. (kept_ordered.resets now v h.0, renewed_fits v);
  sendings = λ o f u w out h i. (kept_ordered.sendings o f u w out h i.0, sends_kept (λ u. fits u.recovery ≡ true) f (sends_fit _) o u w out h i.1);
  shortens = λ now v mss le h. (kept_ordered.shortens now v mss le h.0, h.1);
  repeats = λ now v e h. (kept_ordered.repeats now v e h.0, timed_fits v.rules v.recovery v.remote_last_seq h.1 h.0.nxt_small);
}

pub reached_pointed : (v : View) → IsReached v → IsPointed v
unfolding fresh
reached_pointed v r = reached_kept IsPointed kept_pointed (λ rx tx size. (fresh_ordered rx tx size, refl)) v r
