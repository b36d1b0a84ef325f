-- What a speaker says once its timer is over: from SND.UNA on, or a keep-alive; or nothing, and then it says it at the moment of its keep-alive.
use Rattle.std.proofs.Common.{◌≡◌, ℕ, ◌<◌, ◌≤◌, ◌^◌, ◌⊎◌, inl, inr, Bool, true, false, true≢false, refl, sym, ap, subst, ◌∙◌, List, [], ◌∷◌, length, min, Option, Some, None, arith}
use Rattle.std.specs.Prelude.{if◌then◌else◌, ◌==◌, ◌/◌}
use Rattle.std.proofs.lemmas.Bool.{eq-eqb}
use Rattle.net_base.specs.declared.time.Duration.{Duration}
use Rattle.net_base.specs.declared.time.Instant.{Instant}
use Rattle.control_wire.specs.Segment.{Segment, is_empty_segment, segment_len}
use Rattle.control_wire.specs.Seq.{seq_add, seq_minus, seq_sub}
use Rattle.sock_core.specs.Bounds.{IsMtu}
use Rattle.sock_core.specs.Facts.{Facts}
use Rattle.sock_core.specs.Seq.{later_of}
use Rattle.sock_tcp.proofs.UserTimeout.{none_runs}
use Rattle.sock_tcp.proofs.Lending.{lent_at_most}
use Rattle.sock_tcp.specs.Begin.{after_timer, fast_retransmission_marked, is_paused, readied, retransmission_begun}
use Rattle.sock_tcp.specs.Content.{Sending, asked, carries_data, emission_kind, is_probing, offset_of, plain_segment, resent_size, sent_as, size_of, window_left}
use Rattle.sock_tcp.specs.Due.{congestion_left, effective_mss, flight, is_closed, is_closing, is_due}
use Rattle.sock_tcp.specs.Rfc.OwnWindow.{space_field}
use Rattle.sock_tcp.specs.Polls.{is_reached, timer_poll}
use Rattle.sock_tcp.specs.Queue.{Queue}
use Rattle.sock_tcp.specs.Timers.{after, idle_from, is_close_over, is_keep_alive_over, is_over, is_probe_over, keep_alive_renewed, probe_doubled, retransmit_unless_set, rto_of, twice}
use Rattle.sock_tcp.specs.View.{View}
use Rattle.sock_tcp.specs.declared.emission.Kind.{Kind}
use Rattle.sock_tcp.specs.declared.emission.Kind.TheVariants as kind
use Rattle.sock_tcp.specs.declared.state.State.{State}
use Rattle.sock_tcp.specs.declared.state.State.TheVariants as state
use Rattle.sock_tcp.specs.declared.timer.Timer.TheVariants as timer
use Rattle.sock_tcp.specs.declared.tuple.Tuple.{Tuple}
use Rattle.tcp_laws.specs.Waking.{HasToSend}
use Rattle.tcp_laws.proofs.Ordered.{IsOrdered, no_distance}
use Rattle.tcp_laws.proofs.OrderedCalls.{readied_ordered, reached_ordered, timers_ordered}
use Rattle.tcp_laws.proofs.Probing.{ProbesIn, reached_probing}
use Rattle.tcp_laws.proofs.Repeating.{empty_parts}
use Rattle.progress_laws.proofs.Again.{number_again}
use Rattle.sock_tcp.proofs.Holes.{again_at_most}
use Rattle.progress_laws.specs.Agreement.{ForAnswer, ForKeepAlive, ForProbe, ForRepeat, IsSpeaker, Waits}
use Rattle.progress_laws.specs.InStep.{told}
use Rattle.progress_laws.specs.Speech.{DispatchesOk, GoesOn}
use Rattle.progress_laws.proofs.Begins.{Alike, Same, and_no, beginning, begun_idle, carries_runs, fin_len, lent_for, not_empty, not_zero, quiet_so, readied_alike, same_again, same_then, segment_for, told_for, sends_as, some_or_none, timers_are, stamp_for, probe_alone, marked_idle, smoltcp_begins}
use Rattle.progress_laws.proofs.Edges.{is_not_before, later_stays}
use Rattle.progress_laws.proofs.Lends.{lent_some, marked_some, mss_short, mss_some, probe_byte}
use Rattle.progress_laws.proofs.Says.{AtFront, front_number, keep_alive_due, no_probe, probe_due}
use Rattle.tcp_laws.proofs.Sleeping.{congestion_leaves}
use Rattle.progress_laws.proofs.Sends.{HasTold, Untold, kept_nxt, kept_sent, kept_timer, kept_untold, left, plain_sent, plain_timer, plain_told, probe_nxt, probe_sent, probe_timer, probe_untold, smoltcp_field}

carries_open : (st : State) → carries_data st ≡ true → is_closed st ≡ false
carries_open state.Established e = refl
carries_open state.CloseWait e = refl
carries_open state.FinWait1 e = refl
carries_open state.Closing e = refl
carries_open state.LastAck e = refl
carries_open _ e = absurd cc

-- ---- what is said

-- u is as v but for SND.NXT, the timer and what was told last, which is what v tells now, or as before
pub record Left (v u : View) : Type 0 where
  pub same : Same v u
  pub told : Untold v u ⊎ HasTold v u

-- out begins at SND.UNA, and takes a number
pub record StartsAtUna (v : View) (out : Sending) : Type 0 where
  pub kind : out.kind ≡ kind.KeepAlive → ⊥
  pub number : out.segment.seq_number ≡ v.local_seq_no
  pub some : 0 < segment_len out.segment
  pub short : length out.segment.payload ≤ 65535

-- out is a keep-alive, and the peer has no window
pub record AsksOnly (v : View) (out : Sending) : Type 0 where
  pub kind : out.kind ≡ kind.KeepAlive
  pub number : out.segment.seq_number ≡ seq_minus v.local_seq_no 1
  pub byte : out.segment.payload ≡ 0 ∷ []
  pub shut : v.remote_win_len ≡ 0

-- the dispatch says one of these; or it says nothing of them, and then waits for its keep-alive, which it did not before
pub data Call (f : Facts) (v : View) (now : Instant) : Type 0 where
  Says : (out : Sending) (u : View)
      → DispatchesOk f v (Some out) u
      → StartsAtUna v out ⊎ AsksOnly v out
      → Left v u
      → Waits u
      → Call f v now
  Silent : (out : Option Sending) (u : View)
      → DispatchesOk f v out u
      → Left v u
      → (at : Instant)
      → u.timer ≡ timer.Idle (Some at)
      → AtFront u
      → is_keep_alive_over v.timer now ≡ false
      → Call f v now

-- ---- how its dispatch begins

-- with an idle timer, or to probe
data Ready (b : View) (now : Instant) : Type 0 where
  IsIdle : (at : Instant) → b.timer ≡ timer.Idle (Some at) → Ready b now
  IsProbe : (at : Instant) (delay : Duration)
      → b.timer ≡ timer.ZeroWindowProbe at delay
      → is_over at now ≡ true
      → b.remote_win_len ≡ 0
      → (b.pending_fast_retransmit ≡ true) ⊎ (0 < length b.tx_buffer.bytes)
      → Ready b now

record Started (v b : View) (now : Instant) : Type 0 where
  same : Same v b
  untold : Untold v b
  front : AtFront b
  ready : Ready b now
  mss : 48 ≤ b.remote_mss
  quiet : is_keep_alive_over b.timer now ≡ false → is_keep_alive_over v.timer now ≡ false

module _ (d : Duration) (t : Tuple) (v : View) (f : Facts) (now : Instant) (mtu : IsMtu f.mtu) (s : IsSpeaker d t v) (work : HasToSend v) (on : GoesOn v t (told f now)) (runs : is_paused v.state v.synack_paused ≡ false) (b : View) (st : Started v b now) (b_is : beginning v t (told f now) on runs ≡ b) (ordered : IsOrdered b) where
  abbrev fa : Facts
  fa = told f now

  carries : carries_data b.state ≡ true
  carries = ap carries_data st.same.state ∙ s.carries

  opens : is_closed b.state ≡ false
  opens = carries_open b.state carries

  work_then : HasToSend b
  work_then = by work
    where
      by : HasToSend v → HasToSend b
      by (inl some) = inl (subst (λ (q : Queue). 0 < length q.bytes) (sym st.same.tx) some)
      by (inr c) = inr (ap is_closing st.same.state ∙ c)

  abbrev bytes : List ℕ
  bytes = lent_for b t fa

  abbrev g : Segment
  g = told_for b t fa (stamp_for b) bytes

  goes_out : (k : Kind) → emission_kind b now g ≡ k → is_due b t fa ≡ true → DispatchesOk fa v (Some (sent_as b t k g)) (left b t now g opens k)
  goes_out = sends_as v t fa on runs b b_is carries

  short : length bytes ≤ 65535
  unfolding asked
  short = omega (arith, lent_at_most b.tx_buffer (offset_of b) (asked b t fa) bytes refl, ap (λ c. if c then size_of b t fa else 0) carries, few b.pending_fast_retransmit (is_probing b now))
    where
      few : (m p : Bool) → (if m then resent_size b (effective_mss b t fa) else (if p then min 1 (effective_mss b t fa) else min (min (window_left b) (effective_mss b t fa)) (congestion_left b))) ≤ 65535
      few true p = omega (arith, mss_short b t fa mtu.1, again_at_most b (effective_mss b t fa))
      few false true = omega (arith, mss_short b t fa mtu.1)
      few false false = omega (arith, mss_short b t fa mtu.1)

  keeps : idle_from now b.keep_alive ≡ timer.Idle (Some (after now d))
  keeps = ap (idle_from now) (st.same.keep_alive ∙ s.keep_alive)

  number : g.seq_number ≡ v.local_seq_no
  number = number_again b (st.same.same_rules ∙ s.smoltcp) ∙ front_number b.pending_fast_retransmit b.local_seq_no b.remote_last_seq st.front ∙ st.same.una

  tells : HasTold v (left b t now g opens kind.Plain)
  unfolding plain_segment
  tells = record {
    last_ack = (plain_told b t now g opens).ack ∙ (λ i. Some (seq_add (st.same.rcv i) (length ((st.same.rx i).bytes))));
    last_win = (plain_told b t now g opens).window ∙ smoltcp_field b (st.same.same_rules ∙ s.smoltcp) ∙ (λ i. space_field_of ((st.same.rx i).held) (st.same.shift i));
  }
    where
      space_field_of : List (Option ℕ) → ℕ → ℕ
      space_field_of hs n = min (length hs / 2 ^ n) 65535

  left_plain : Left v (left b t now g opens kind.Plain)
  left_plain = record { same = same_then st.same (plain_sent b t now g opens (st.same.same_rules ∙ s.smoltcp)).same; told = inr tells }

  -- with a byte or the FIN, as a plain segment
  says_plain : is_due b t fa ≡ true → is_probing b now ≡ false → is_empty_segment g ≡ false → 0 < segment_len g → Call fa v now
  says_plain due no_probing full some = Says (sent_as b t kind.Plain g) (left b t now g opens kind.Plain) (goes_out kind.Plain plain due) (inl (record { kind = λ e. absurd cc; number = number; some = some; short = short })) left_plain (ForAnswer (after now (rto_of b.rtte)) (plain_timer b t now g opens (st.same.same_rules ∙ s.smoltcp) false (not_zero (segment_len g) some) ∙ waits st.ready))
    where
      plain : emission_kind b now g ≡ kind.Plain
      plain = rw (no_probing, full) (ap (λ c. if c then kind.KeepAlive else kind.Plain) (and_no (is_keep_alive_over b.timer now)))

      waits : Ready b now → retransmit_unless_set (keep_alive_renewed b.timer now b.keep_alive) now b.rtte ≡ timer.Retransmit (after now (rto_of b.rtte))
      waits (IsIdle at e) = ap (λ tm. retransmit_unless_set (keep_alive_renewed tm now b.keep_alive) now b.rtte) e ∙ ap (λ tm. retransmit_unless_set tm now b.rtte) keeps
      waits (IsProbe at delay e over shut some) = ap (λ tm. retransmit_unless_set (keep_alive_renewed tm now b.keep_alive) now b.rtte) e

  full_or_not : (e : Bool) → is_empty_segment g ≡ e → 0 < segment_len g → is_empty_segment g ≡ false
  full_or_not true e some = absurd (omega (arith, (empty_parts g e).0, some))
  full_or_not false e some = e

  -- a fast retransmission is marked
  says_marked : is_due b t fa ≡ true → b.pending_fast_retransmit ≡ true → Call fa v now
  says_marked due m = says_plain due no_probing (full_or_not (is_empty_segment g) refl some) some
    where
      no_probing : is_probing b now ≡ false
      no_probing = rw (carries, m) refl

      some : 0 < segment_len g
      some = marked_some b t fa (stamp_for b) bytes mtu.0 st.mss carries refl m work_then

  -- ---- nothing is in flight, and nothing marked

  module _ (m : b.pending_fast_retransmit ≡ false) (nxt : b.remote_last_seq ≡ b.local_seq_no) where
    none : flight b ≡ 0
    none = ap (λ n. seq_sub n b.local_seq_no) nxt ∙ no_distance b.local_seq_no ordered.una_small

    start : offset_of b ≡ 0
    start = rw (m, none) refl

    -- with a window there is something to send
    some_then : is_probing b now ≡ false → 0 < b.remote_win_len → 0 < segment_len g
    unfolding asked
    some_then no_probing win = by (some_or_none (length b.tx_buffer.bytes)) work_then
      where
        asked_is : asked b t fa ≡ min (min (window_left b) (effective_mss b t fa)) (congestion_left b)
        asked_is = rw (no_probing, carries, m) refl

        bytes_go : 0 < length b.tx_buffer.bytes → 0 < segment_len g
        bytes_go queue = let h = lent_some b.tx_buffer (offset_of b) (asked b t fa) bytes refl (omega (arith, asked_is, win, none, mss_some b t fa mtu.0 st.mss, congestion_leaves b ordered.congestion none)) (omega (arith, start, queue)) in omega (arith, h)

        no_bytes : length b.tx_buffer.bytes ≡ 0 → length bytes ≡ 0
        no_bytes z = let h = lent_at_most b.tx_buffer (offset_of b) (asked b t fa) bytes refl in omega (arith, h, z)

        by : (length b.tx_buffer.bytes ≡ 0) ⊎ (0 < length b.tx_buffer.bytes) → HasToSend b → 0 < segment_len g
        by (inr queue) h = bytes_go queue
        by (inl z) (inl queue) = absurd (omega (arith, z, queue))
        by (inl z) (inr c) = fin_len b t (stamp_for b) bytes c (omega (arith, start, z, no_bytes z))

    shut_then : is_probing b now ≡ false → segment_len g ≡ 0 → v.remote_win_len ≡ 0
    shut_then no_probing z = by (some_or_none v.remote_win_len)
      where
        by : (v.remote_win_len ≡ 0) ⊎ (0 < v.remote_win_len) → v.remote_win_len ≡ 0
        by (inl e) = e
        by (inr win) = absurd (omega (arith, some_then no_probing (omega (arith, st.same.window, win)), z))

    says_idle : (at : Instant) → b.timer ≡ timer.Idle (Some at) → is_due b t fa ≡ true → Call fa v now
    says_idle at idle due = by (is_empty_segment g) refl (is_keep_alive_over b.timer now) refl
      where
        no_probing : is_probing b now ≡ false
        no_probing = no_probe b now (ap (λ tm. is_probe_over tm now) idle)

        renewed : keep_alive_renewed b.timer now b.keep_alive ≡ timer.Idle (Some (after now d))
        renewed = ap (λ tm. keep_alive_renewed tm now b.keep_alive) idle ∙ keeps

        by : (e : Bool) → is_empty_segment g ≡ e → (k : Bool) → is_keep_alive_over b.timer now ≡ k → Call fa v now
        by false x k y = says_plain due no_probing x (not_empty b t (stamp_for b) bytes x)
        by true x true y = Says (sent_as b t kind.KeepAlive g) (left b t now g opens kind.KeepAlive) (goes_out kind.KeepAlive kept due) (inr (record { kind = refl; number = ap (λ n. seq_minus n 1) st.same.una; byte = refl; shut = shut_then no_probing (empty_parts g x).0 })) (record { same = same_then st.same (kept_sent b t now g opens).same; told = inl (let u = kept_untold b t now g opens in record { last_ack = u.last_ack ∙ st.untold.last_ack; last_win = u.last_win ∙ st.untold.last_win }) }) (ForKeepAlive (Some (after now d)) (kept_timer b t now g opens ∙ renewed) (inr (kept_nxt b t now g opens ∙ nxt ∙ sym (kept_sent b t now g opens).same.una)))
          where
            kept : emission_kind b now g ≡ kind.KeepAlive
            kept = rw (no_probing, y, x) refl
        by true x false y = Silent (Some (sent_as b t kind.Plain g)) (left b t now g opens kind.Plain) (goes_out kind.Plain plain due) left_plain (after now d) (plain_timer b t now g opens (st.same.same_rules ∙ s.smoltcp) true (rw none_len refl) ∙ renewed) (inr stays) (st.quiet y)
          where
            none_len : segment_len g ≡ 0
            none_len = (empty_parts g x).0

            plain : emission_kind b now g ≡ kind.Plain
            plain = rw (no_probing, y) refl

            here : g.seq_number ≡ b.local_seq_no
            here = number ∙ sym st.same.una

            stays : (left b t now g opens kind.Plain).remote_last_seq ≡ (left b t now g opens kind.Plain).local_seq_no
            stays = (plain_told b t now g opens).nxt ∙ (λ i. later_of (nxt i) (seq_add (here i) (none_len i))) ∙ later_stays b.local_seq_no (seq_add b.local_seq_no 0) (is_not_before b.local_seq_no (seq_add b.local_seq_no 0) (omega (arith, ordered.una_small))) ∙ sym (plain_sent b t now g opens (st.same.same_rules ∙ s.smoltcp)).same.una

    -- the byte of a probe
    says_probe : (at : Instant) (delay : Duration) → b.timer ≡ timer.ZeroWindowProbe at delay → is_over at now ≡ true → b.remote_win_len ≡ 0 → 0 < length b.tx_buffer.bytes → is_due b t fa ≡ true → Call fa v now
    says_probe at delay probes over shut queue due = Says (sent_as b t kind.Probe g) (left b t now g opens kind.Probe) (goes_out kind.Probe kind_is due) (inl (record { kind = λ e. absurd cc; number = number; some = omega (arith, byte); short = short })) (record { same = same_then st.same (probe_sent b t now g opens).same; told = inl (let u = probe_untold b t now g opens in record { last_ack = u.last_ack ∙ st.untold.last_ack; last_win = u.last_win ∙ st.untold.last_win }) }) (ForProbe (after now (twice delay)) (twice delay) (probe_timer b t now g opens ∙ ap (λ tm. probe_doubled (keep_alive_renewed tm now b.keep_alive) now) probes) (inr (probe_nxt b t now g opens ∙ nxt ∙ sym l.una, subst (λ (q : Queue). 0 < length q.bytes) (sym l.tx) queue)))
      where
        l : Same b (left b t now g opens kind.Probe)
        l = (probe_sent b t now g opens).same

        probing : is_probing b now ≡ true
        probing = rw (carries, m, no_window, ap (λ tm. is_probe_over tm now) probes ∙ over) refl
          where
            no_window : (window_left b == 0) ≡ true
            no_window = eq-eqb (window_left b) 0 (omega (arith, shut))

        kind_is : emission_kind b now g ≡ kind.Probe
        kind_is = rw probing refl

        byte : length bytes ≡ 1
        byte = probe_byte b t fa (stamp_for b) bytes mtu.0 st.mss carries refl m probing (omega (arith, none, queue))

  -- ---- by the reasons to send

  nxt_or : b.pending_fast_retransmit ≡ false → b.remote_last_seq ≡ b.local_seq_no
  nxt_or m = by st.front
    where
      by : AtFront b → b.remote_last_seq ≡ b.local_seq_no
      by (inl e) = absurd (true≢false (sym e ∙ m))
      by (inr e) = e

  emits : is_due b t fa ≡ true → Call fa v now
  emits due = by b.pending_fast_retransmit refl st.ready
    where
      by : (m : Bool) → b.pending_fast_retransmit ≡ m → Ready b now → Call fa v now
      by true m r = says_marked due m
      by false m (IsIdle at idle) = says_idle m (nxt_or m) at idle due
      by false m (IsProbe at delay probes over shut (inl e)) = absurd (true≢false (sym e ∙ m))
      by false m (IsProbe at delay probes over shut (inr queue)) = says_probe m (nxt_or m) at delay probes over shut queue due

  rests : is_due b t fa ≡ false → Call fa v now
  rests idle = by st.ready
    where
      quiet : DispatchesOk fa v None b
      quiet = subst (DispatchesOk fa v None) b_is (quiet_so v t fa on runs (ap (λ x. is_due x t fa) b_is ∙ idle))

      no_keep_alive : (k : Bool) → is_keep_alive_over b.timer now ≡ k → is_keep_alive_over b.timer now ≡ false
      no_keep_alive true e = absurd (true≢false (sym (keep_alive_due b t fa e) ∙ idle))
      no_keep_alive false e = e

      by : Ready b now → Call fa v now
      by (IsIdle at e) = Silent None b quiet (record { same = st.same; told = inl st.untold }) at e st.front (st.quiet (no_keep_alive (is_keep_alive_over b.timer now) refl))
      by (IsProbe at delay probes over shut some) = absurd (true≢false (sym (probe_due b t fa (ap (λ tm. is_probe_over tm now) probes ∙ over)) ∙ idle))

  called : Call fa v now
  called = by (is_due b t fa) refl
    where
      by : (e : Bool) → is_due b t fa ≡ e → Call fa v now
      by true e = emits e
      by false e = rests e

-- ---- by the timer

-- what it begins with
record Begins (t : Tuple) (f : Facts) (v : View) (now : Instant) : Type 0 where
  view : View
  started : Started v view now
  no_end : is_close_over v.timer now ≡ false
  is : (on : GoesOn v t (told f now)) (runs : is_paused v.state v.synack_paused ≡ false) → beginning v t (told f now) on runs ≡ view

module _ (d : Duration) (t : Tuple) (f : Facts) (v : View) (now : Instant) (s : IsSpeaker d t v) (over : is_reached (timer_poll v.timer) now ≡ true) where
  abbrev x : View
  x = readied v now

  al : Alike v x
  al = readied_alike v now

  mss : 48 ≤ x.remote_mss
  mss = subst (λ n. 48 ≤ n) (sym al.mss) (reached_probing v s.reached).mss

  front_x : AtFront v → AtFront x
  front_x (inl m) = inl (al.marked ∙ m)
  front_x (inr e) = inr (al.nxt ∙ e ∙ sym al.same.una)

  begins : Waits v → Begins t f v now
  unfolding retransmission_begun fast_retransmission_marked
  begins (ForAnswer at is) = record {
    view = retransmission_begun x now;
    started = record { same = same_then al.same (same_again x now); untold = record { last_ack = al.last_ack; last_win = al.last_win }; front = inr refl; ready = IsIdle (after now d) (begun_idle x now (al.same.same_rules ∙ s.smoltcp) ∙ ap (idle_from now) (al.same.keep_alive ∙ s.keep_alive)); mss = mss; quiet = λ e. ap (λ tm. is_keep_alive_over tm now) is };
    no_end = ap (λ tm. is_close_over tm now) is;
    is = λ on runs. smoltcp_begins v t (told f now) on runs s.smoltcp ∙ ap (λ tm. after_timer tm x now) is ∙ ap (λ c. if c then retransmission_begun x now else x) (subst (λ tm. is_reached (timer_poll tm) now ≡ true) is over);
  }
  begins (ForRepeat is) = record {
    view = fast_retransmission_marked x now;
    started = record { same = same_then al.same (record { state = refl; peer = refl; timeout = refl; same_rules = refl; keep_alive = refl; una = refl; tx = refl; rx = refl; rcv = refl; window = refl; scale = refl; shift = refl; paused = refl }); untold = record { last_ack = al.last_ack; last_win = al.last_win }; front = inl refl; ready = IsIdle (after now d) (marked_idle x now (al.same.same_rules ∙ s.smoltcp) ∙ ap (idle_from now) (al.same.keep_alive ∙ s.keep_alive)); mss = mss; quiet = λ e. ap (λ tm. is_keep_alive_over tm now) is };
    no_end = ap (λ tm. is_close_over tm now) is;
    is = λ on runs. smoltcp_begins v t (told f now) on runs s.smoltcp ∙ ap (λ tm. after_timer tm x now) is;
  }
  begins (ForKeepAlive None is front) = absurd (true≢false (sym (subst (λ tm. is_reached (timer_poll tm) now ≡ true) is over)))
  begins (ForKeepAlive (Some at) is front) = record {
    view = x;
    started = record { same = al.same; untold = record { last_ack = al.last_ack; last_win = al.last_win }; front = front_x front; ready = IsIdle at (al.timer ∙ is); mss = mss; quiet = λ e. ap (λ tm. is_keep_alive_over tm now) (sym al.timer) ∙ e };
    no_end = ap (λ tm. is_close_over tm now) is;
    is = λ on runs. smoltcp_begins v t (told f now) on runs s.smoltcp ∙ ap (λ tm. after_timer tm x now) is;
  }
  begins (ForProbe at delay is front) = record {
    view = x;
    started = record { same = al.same; untold = record { last_ack = al.last_ack; last_win = al.last_win }; front = front_x (by front); ready = IsProbe at delay (al.timer ∙ is) (subst (λ tm. is_reached (timer_poll tm) now ≡ true) is over) (al.same.window ∙ subst (λ tm. ProbesIn tm v.remote_win_len) is (reached_probing v s.reached).window) (queued front); mss = mss; quiet = λ e. ap (λ tm. is_keep_alive_over tm now) (sym al.timer) ∙ e };
    no_end = ap (λ tm. is_close_over tm now) is;
    is = λ on runs. smoltcp_begins v t (told f now) on runs s.smoltcp ∙ ap (λ tm. after_timer tm x now) is ∙ probe_alone x at delay now (al.same.same_rules ∙ s.smoltcp);
  }
    where
      by : (v.pending_fast_retransmit ≡ true) ⊎ ((v.remote_last_seq ≡ v.local_seq_no) × (0 < length v.tx_buffer.bytes)) → AtFront v
      by (inl m) = inl m
      by (inr q) = inr q.0

      queued : (v.pending_fast_retransmit ≡ true) ⊎ ((v.remote_last_seq ≡ v.local_seq_no) × (0 < length v.tx_buffer.bytes)) → (x.pending_fast_retransmit ≡ true) ⊎ (0 < length x.tx_buffer.bytes)
      queued (inl m) = inl (al.marked ∙ m)
      queued (inr q) = inr (subst (λ (q : Queue). 0 < length q.bytes) (sym al.same.tx) q.1)

module _ (d : Duration) (t : Tuple) (f : Facts) (v : View) (now : Instant) (mtu : IsMtu f.mtu) (here : f.has_address t.local.addr ≡ true) (s : IsSpeaker d t v) (over : is_reached (timer_poll v.timer) now ≡ true) where
  q : Begins t f v now
  q = begins d t f v now s over s.waits

  pub goes_on : GoesOn v t (told f now)
  goes_on = record { peer = s.peer; address = here; alive = rw (none_runs v s.no_timeout) refl; no_end = q.no_end }

  pub calls : HasToSend v → Call (told f now) v now
  calls work = called d t v f now mtu s work goes_on runs q.view q.started (q.is goes_on runs) (subst IsOrdered (timers_are v t (told f now) goes_on runs ∙ q.is goes_on runs) (timers_ordered (readied v now) now (readied_ordered v now (reached_ordered v s.reached))))
    where
      runs : is_paused v.state v.synack_paused ≡ false
      runs = carries_runs v.state v.synack_paused s.carries
