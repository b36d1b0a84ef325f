-- A duplicate acknowledgement whose SACK blocks begin before SND.UNA changes nothing but what it undoes.
use Rattle.std.proofs.Common.{◌≡◌, ℕ, ◌+◌, ◌-◌, ◌≤◌, ◌^◌, arith, length, List, [], ◌∷◌, Bool, true, false, not, ◌&&◌, ◌||◌, refl, sym, ap, subst, ◌∙◌, Option, Some, None}
use Rattle.std.specs.Prelude.{if◌then◌else◌, nat_le, nat_lt, ◌==◌}
use Rattle.std.proofs.lemmas.Bool.Decides.{nat_tests}
use Rattle.net_base.specs.declared.time.Instant.{Instant}
use Rattle.net_base.specs.declared.time.Duration.{Duration}
use Rattle.control_wire.specs.Segment.{Segment}
use Rattle.control_wire.specs.Seq.{seq_eq, seq_of, seq_sub}
use Rattle.control_wire.specs.declared.seq_number.TcpSeqNumber.{TcpSeqNumber}
use Rattle.sock_core.specs.Places.{number_is_before, number_distance}
use Rattle.sock_core.specs.Seq.{is_before}
use Rattle.sock_core.specs.Congestion.{partially_acked}
use Rattle.sock_core.specs.Estimator.{Estimator}
use Rattle.sock_tcp.specs.Content.{carries_data}
use Rattle.sock_tcp.specs.Due.{flight}
use Rattle.sock_tcp.specs.Rfc.Recovery.{again, again_by, before_it, before_of, begins, controller_after, echo_known, gone_on, gone_on_from, has_timer, heard_for, is_called, is_fast, is_later_partial, is_news, is_over, is_partial, is_partial_in, is_recovering, is_undone, is_void, is_waited, is_telling, kept_if, left_running, marks, may_resend, may_tell, probe_from_last, probe_soonest, recovered, recovered_from, reordering_after, running, sacked_after, sacked_by, shows_hole, spared, tellable, tells_controller, tells_loss, timer_after, told_of_bytes, twice_told, undone_if, unless_twice, waited_for, waits_late, waits_tail}
use Rattle.sock_tcp.specs.Rfc.Reordering.{late_set, late_wait, one_more}
use Rattle.sock_tcp.specs.Rfc.RoundTrips.{echo_of}
use Rattle.sock_tcp.specs.Rfc.TailLoss.{is_alone, tail_waits}
use Rattle.sock_tcp.specs.Rfc.Scoreboard.{any_news, block_from, is_credible, moved, nothing_told}
use Rattle.sock_tcp.specs.declared.recovery.Before.{Before}
use Rattle.sock_tcp.specs.declared.recovery.Recovery.{Recovery}
use Rattle.sock_tcp.specs.declared.recovery.Recovery.TheVariants as recovery
use Rattle.sock_tcp.specs.declared.state.State.{State}
use Rattle.sock_tcp.specs.declared.state.State.TheVariants as state
use Rattle.sock_tcp.specs.declared.timer.Timer.{Timer}
use Rattle.sock_tcp.specs.declared.timer.Timer.TheVariants as timer
use Rattle.sock_tcp.specs.Timers.{idle_from, retransmit_from}
use Rattle.sock_tcp.specs.View.{View}
use Rattle.sock_tcp.specs.declared.scoreboard.Scoreboard.{Scoreboard}
use Rattle.tcp_laws.specs.Below.{AllBefore, ChangesNoLoss, DuplicatesBelowChangeNoLoss, IsOfBytesBelow}

-- ---- blocks that begin before SND.UNA are not believed

before_far : (a una : TcpSeqNumber) → is_before a una ≡ true → 2 ^ 31 ≤ seq_sub a una
unfolding is_before number_is_before number_distance
before_far a una e = grind (arith, nat_tests, e)

module _ (n : ℕ) (una : TcpSeqNumber) (few : n ≤ 2 ^ 30 + 1) where
  not_believed : (r : ℕ × ℕ) → is_before (seq_of r.0) una ≡ true → is_credible n (block_from una r) ≡ false
  not_believed r e = let far = before_far (seq_of r.0) una e in go (seq_sub (seq_of r.0) una) (seq_sub (seq_of r.1) una) far
    where
      go : (a b : ℕ) → 2 ^ 31 ≤ a → (nat_lt 0 a && (nat_lt a b && nat_le b n)) ≡ false
      go a b far = grind (arith, nat_tests, far, few)

  no_news : (k : Scoreboard) (rs : List (Option (ℕ × ℕ))) → AllBefore una rs → any_news k n una rs ≡ false
  no_news k [] h = refl
  no_news k (None ∷ rs) h = no_news k rs h
  no_news k (Some r ∷ rs) h = rw (not_believed r h.0) (no_news k rs h.1)

tells_nothing : (v w : View) (s : Segment) → IsOfBytesBelow v s w → is_telling v s ≡ false
unfolding is_telling
tells_nothing v w s h = ap (λ b. b && may_tell v s) (no_news (tellable v) v.local_seq_no (omega (arith, h.room)) v.sacked s.sack_ranges h.blocks)

-- ---- small ones

and_false : (a : Bool) → (a && false) ≡ false
and_false true = refl
and_false false = refl

partial_none : (r : Recovery) (una : TcpSeqNumber) → is_partial_in r false una ≡ false
partial_none (recovery.Fast point high_rxt resent_at acked trailed una_lost) una = refl
partial_none _ una = refl

again_none : (r : Recovery) (una nxt : TcpSeqNumber) → again_by false false r una nxt ≡ r
again_none (recovery.Fast point high_rxt resent_at acked trailed una_lost) una nxt = refl
again_none _ una nxt = refl

spared_none : (r : Recovery) → spared false r ≡ r
spared_none (recovery.Fast point high_rxt resent_at acked trailed una_lost) = refl
spared_none _ = refl

runs : (st : State) → carries_data st ≡ true → has_timer st ≡ true
runs state.SynReceived e = refl
runs state.FinWait2 e = refl
runs state.Closed e = e
runs state.Listen e = e
runs state.SynSent e = e
runs state.Established e = e
runs state.FinWait1 e = e
runs state.CloseWait e = e
runs state.Closing e = e
runs state.LastAck e = e
runs state.TimeWait e = e

same_place : (a : TcpSeqNumber) → seq_eq a a ≡ true
same_place a = grind (arith, nat_tests)

not_moved : (k : Scoreboard) (n : ℕ) → n ≡ 0 → moved k n ≡ k
unfolding moved
not_moved k n e = ap (moved k) e ∙ (λ j. record {
  newest = record { start = less k.newest.start j; end = less k.newest.end j };
  second = record { start = less k.second.start j; end = less k.second.end j };
  third = record { start = less k.third.start j; end = less k.third.end j };
  oldest = record { start = less k.oldest.start j; end = less k.oldest.end j };
})
  where
    less : (m : ℕ) → m - 0 ≡ m
    less m = omega arith

is_fast_one : (t : Timer) → is_fast t ≡ true → t ≡ timer.FastRetransmit
is_fast_one timer.FastRetransmit e = refl
is_fast_one _ e = absurd cc

-- ---- which timers are a fast retransmission's

late_fast : (l : Bool) (t : Timer) (now : Instant) (d : Duration) → late_set l t now d ≡ timer.FastRetransmit → t ≡ timer.FastRetransmit
late_fast true (timer.Retransmit at) now d e = absurd cc
late_fast true timer.FastRetransmit now d e = refl
late_fast true (timer.Idle at) now d e = e
late_fast true (timer.ZeroWindowProbe at delay) now d e = e
late_fast true (timer.Close at) now d e = e
late_fast false t now d e = e

tail_fast : (l : Bool) (t : Timer) (now : Instant) (r : Estimator) (alone : Bool) → tail_waits l t now r alone ≡ timer.FastRetransmit → t ≡ timer.FastRetransmit
tail_fast true (timer.Retransmit at) now r alone e = absurd cc
tail_fast true timer.FastRetransmit now r alone e = refl
tail_fast true (timer.Idle at) now r alone e = e
tail_fast true (timer.ZeroWindowProbe at delay) now r alone e = e
tail_fast true (timer.Close at) now r alone e = e
tail_fast false t now r alone e = e

gone_fast : (t : Timer) (now : Instant) (r : Estimator) → gone_on_from t now r ≡ timer.FastRetransmit → ⊥
gone_fast (timer.Retransmit at) now r e = cc
gone_fast (timer.Idle at) now r e = cc
gone_fast timer.FastRetransmit now r e = cc
gone_fast (timer.ZeroWindowProbe at delay) now r e = cc
gone_fast (timer.Close at) now r e = cc

no_idle : (now : Instant) (keep : Option Duration) → idle_from now keep ≡ timer.FastRetransmit → ⊥
no_idle now None e = cc
no_idle now (Some d) e = cc

running_fast : (t : Timer) (sent queued : ℕ) (keep : Option Duration) (r : Estimator) (now : Instant) → running t sent queued keep r now ≡ timer.FastRetransmit → t ≡ timer.FastRetransmit
running_fast (timer.Idle at) sent queued keep r now e = go (sent == 0) e
  where
    go : (b : Bool) → (if b then timer.Idle at else retransmit_from now r) ≡ timer.FastRetransmit → timer.Idle at ≡ timer.FastRetransmit
    go true x = x
    go false x = absurd cc
running_fast (timer.ZeroWindowProbe at delay) sent queued keep r now e = go (nat_le queued sent) (sent == 0) e
  where
    go : (b c : Bool) → (if b then (if c then idle_from now keep else retransmit_from now r) else timer.ZeroWindowProbe at delay) ≡ timer.FastRetransmit → timer.ZeroWindowProbe at delay ≡ timer.FastRetransmit
    go true true x = absurd (no_idle now keep x)
    go true false x = absurd cc
    go false c x = x
running_fast timer.FastRetransmit sent queued keep r now e = refl
running_fast (timer.Retransmit at) sent queued keep r now e = e
running_fast (timer.Close at) sent queued keep r now e = e

kept_fast : (l : Bool) (b t : Timer) → kept_if l b t ≡ timer.FastRetransmit → t ≡ timer.FastRetransmit
kept_fast true (timer.Retransmit at) (timer.Retransmit next) e = absurd cc
kept_fast _ b t e = e

soon_fast : (idle : Option Instant) (t : Timer) → probe_soonest idle t ≡ timer.FastRetransmit → t ≡ timer.FastRetransmit
soon_fast idle (timer.ZeroWindowProbe at delay) e = absurd cc
soon_fast idle _ e = e

probe_fast : (b : Timer) (idle : Option Instant) (t : Timer) → probe_from_last b idle t ≡ timer.FastRetransmit → t ≡ timer.FastRetransmit
probe_fast (timer.ZeroWindowProbe at delay) idle t e = e
probe_fast (timer.Idle at) idle t e = soon_fast idle t e
probe_fast (timer.Retransmit at) idle t e = soon_fast idle t e
probe_fast timer.FastRetransmit idle t e = soon_fast idle t e
probe_fast (timer.Close at) idle t e = soon_fast idle t e

-- ---- the whole

module _ (v w : View) (s : Segment) (now : Instant) (h : IsOfBytesBelow v s w) where
  -- what is kept of the socket before it, with what is known of the segment
  abbrev b : Before
  b = record {
    state = v.state;
    timer = v.timer;
    una = v.local_seq_no;
    window = v.remote_win_len;
    duplicates = v.local_rx_dup_acks;
    recovery = unless_twice v.recovery v s;
    controller = v.congestion_controller;
    repeats = true;
    telling = false;
    sacked = v.sacked;
    echo = echo_of s.timestamp;
    twice = twice_told v s;
  }

  same : before_of v s ≡ b
  unfolding before_of
  same = λ j. record b { repeats = h.repeats j; telling = tells_nothing v w s h j; sacked = sacked_by (tells_nothing v w s h j) v s }

  abbrev z : View
  z = echo_known b w now

  stays : is_news b w ≡ false
  stays = ap (λ a. not (seq_eq v.local_seq_no a)) h.una ∙ ap not (same_place v.local_seq_no)

  undone : is_undone b z ≡ false
  undone = ap (λ y. is_undone y w) (sym same) ∙ h.undoes

  void : is_void b z ≡ true
  void = ap (λ k. k || nat_lt v.remote_win_len w.remote_win_len) h.permits

  partial : is_partial b z ≡ false
  partial = ap (λ n. is_partial_in b.recovery n w.local_seq_no) stays ∙ partial_none b.recovery w.local_seq_no

  no_loss : tells_loss b z ≡ false
  no_loss = go (is_void b z) void (is_called b z) (v.remote_win_len == w.remote_win_len) (nat_lt v.local_rx_dup_acks w.local_rx_dup_acks) _
    where
      go : (o : Bool) → o ≡ true → (c x y q : Bool) → ((c && not o) || (((x && (y && not o)) && q) || false)) ≡ false
      go true e true true true q = refl
      go true e true true false q = refl
      go true e true false y q = refl
      go true e false true true q = refl
      go true e false true false q = refl
      go true e false false y q = refl
      go false e c x y q = absurd cc

  none_begins : begins b z ≡ false
  none_begins = ap (λ l. may_resend z && (l && (is_over b.recovery && not (is_waited b z)))) no_loss ∙ and_false (may_resend z)

  none_again : (may_resend z && ((is_partial b z && shows_hole (again b z) (sacked_after b z) w.local_seq_no) || false)) ≡ false
  none_again = ap (λ p. may_resend z && ((p && shows_hole (again b z) (sacked_after b z) w.local_seq_no) || false)) partial ∙ and_false (may_resend z)

  no_marks : marks b z ≡ false
  no_marks =
      ap (λ m. is_recovering b.recovery && (not (is_fast v.timer) && m)) none_again
      ∙ ap (λ m. is_recovering b.recovery && m) (and_false (not (is_fast v.timer)))
      ∙ and_false (is_recovering b.recovery)

  no_tell : tells_controller b z ≡ false
  no_tell =
      ap (λ g. g || (is_fast v.timer && (g || (may_resend z && ((is_partial b z && shows_hole (again b z) (sacked_after b z) w.local_seq_no) || false))))) none_begins
      ∙ ap (λ x. is_fast v.timer && x) none_again
      ∙ and_false (is_fast v.timer)

  abbrev on : Timer
  on = tail_waits (waits_tail b z) (left_running b z now) now z.rtte (is_alone z)

  no_fast : timer_after b z now ≡ timer.FastRetransmit → v.timer ≡ timer.FastRetransmit
  no_fast e = go (is_called b z) refl called
    where
      waited : waited_for b z now ≡ timer.FastRetransmit
      waited = sym (ap (λ t. if t then waited_for b z now else z.timer) (runs w.state h.carries)) ∙ e

      heard : heard_for b z now ≡ timer.FastRetransmit
      heard = late_fast (waits_late b z) (heard_for b z now) now (late_wait (reordering_after b z) z.rtte) waited

      called : (if is_called b z then gone_on_from v.timer now z.rtte else on) ≡ timer.FastRetransmit
      called = sym (ap (λ t. if t then timer.FastRetransmit else (if is_called b z then gone_on_from v.timer now z.rtte else on)) no_tell) ∙ heard

      was : (t : Bool) → not t ≡ false → t ≡ true
      was true q = refl
      was false q = absurd cc

      go : (c : Bool) → is_called b z ≡ c → (if c then gone_on_from v.timer now z.rtte else on) ≡ timer.FastRetransmit → v.timer ≡ timer.FastRetransmit
      go true q x = absurd (gone_fast v.timer now z.rtte x)
      go false q x =
          let left : left_running b z now ≡ timer.FastRetransmit = tail_fast (waits_tail b z) (left_running b z now) now z.rtte (is_alone z) x in
          let kept = probe_fast v.timer w.idle_at (kept_if (is_later_partial b z) v.timer (running z.timer (flight w) (length w.tx_buffer.bytes) w.keep_alive z.rtte now)) left in
          let run = kept_fast (is_later_partial b z) v.timer (running z.timer (flight w) (length w.tx_buffer.bytes) w.keep_alive z.rtte now) kept in
          let fast = running_fast z.timer (flight w) (length w.tx_buffer.bytes) w.keep_alive z.rtte now run in
          is_fast_one v.timer (was (is_fast v.timer) (sym (ap (λ t. is_fast t && not (is_fast v.timer)) fast) ∙ q))

  keeps : (m : Bool) → ((m || false) && true) ≡ m
  keeps true = refl
  keeps false = refl

  at_una : seq_sub w.local_seq_no v.local_seq_no ≡ 0
  at_una = ap (λ a. seq_sub a v.local_seq_no) h.una ∙ omega (arith, h.small)

  abbrev begun : Recovery
  begun = recovery.Fast w.remote_last_seq w.local_seq_no w.remote_last_seq false false false

  same_recovery : gone_on (spared (is_undone b z) (again b z)) w.local_seq_no ≡ gone_on b.recovery v.local_seq_no
  same_recovery =
      ap (λ u. gone_on (spared u (again b z)) w.local_seq_no) undone
      ∙ ap (λ r. gone_on r w.local_seq_no) (spared_none (again b z) ∙ ap (λ n. again_by n false b.recovery w.local_seq_no w.remote_last_seq) stays ∙ again_none b.recovery w.local_seq_no w.remote_last_seq)
      ∙ ap (gone_on b.recovery) h.una

  changes : ChangesNoLoss v s w (recovered_from b z now)
  changes = record {
    duplicates = ap (λ o. if o then v.local_rx_dup_acks else w.local_rx_dup_acks) void;
    controller =
        ap (λ u. undone_if u (controller_after b z now) w.undo) undone
        ∙ ap (λ p. if p then partially_acked (before_it b z) now (seq_sub w.local_seq_no v.local_seq_no) else (if is_void b z then before_it b z else told_of_bytes b z now)) partial
        ∙ ap (λ o. if o then before_it b z else told_of_bytes b z now) void;
    recovery =
        ap (λ c. if c then (if begins b z then begun else gone_on (spared (is_undone b z) (again b z)) w.local_seq_no) else recovery.Open) h.carries
        ∙ ap (λ g. if g then begun else gone_on (spared (is_undone b z) (again b z)) w.local_seq_no) none_begins
        ∙ same_recovery;
    told = ap (λ c. if c then moved v.sacked (seq_sub w.local_seq_no v.local_seq_no) else nothing_told) h.carries ∙ not_moved v.sacked (seq_sub w.local_seq_no v.local_seq_no) at_una;
    marks =
        ap (λ m. (w.pending_fast_retransmit || m) && not (is_undone b z)) no_marks
        ∙ ap (λ u. (w.pending_fast_retransmit || false) && not u) undone
        ∙ keeps w.pending_fast_retransmit;
    waits = ap (λ u. if u && not (w.undo.window == 0) then one_more w.reordering else w.reordering) undone;
    timer = no_fast;
  }

pub duplicates_below : DuplicatesBelowChangeNoLoss
unfolding recovered
duplicates_below v w s now h = subst (λ b. ChangesNoLoss v s w (recovered_from b (echo_known b w now) now)) (sym (same v w s now h)) (changes v w s now h)
