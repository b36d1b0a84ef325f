-- By the RFCs' rules a segment that is older than the one that told the peer's window makes it no larger.
use Rattle.std.proofs.Common.{◌≡◌, ℕ, ◌-◌, ◌*◌, ◌/◌, ◌^◌, ◌≤◌, Bool, true, false, true≢false, not, ◌&&◌, refl, sym, ap, subst, ◌∙◌, List, [], length, Some, arith, div-mul-le_self, mul-le-mul_right}
use Rattle.std.specs.Prelude.{if◌then◌else◌}
use Rattle.ip_wire.specs.declared.repr.IpRepr.{IpRepr}
use Rattle.net_base.specs.declared.time.Instant.{Instant}
use Rattle.control_wire.specs.Segment.{Segment}
use Rattle.control_wire.specs.declared.seq_number.TcpSeqNumber.{TcpSeqNumber}
use Rattle.control_wire.specs.declared.tcp.TcpControl.{TcpControl}
use Rattle.control_wire.specs.declared.tcp.TcpControl.TheVariants as control
use Rattle.sock_tcp.proofs.KeptSegments.{KeptByAnswers, bytes_kept, challenged_kept, heard_kept, outside_kept}
use Rattle.sock_tcp.proofs.Late.{closed_as}
use Rattle.sock_tcp.proofs.Recovering.{recovered_as}
use Rattle.sock_tcp.proofs.Refusing.{heard_alone, refused_as}
use Rattle.sock_tcp.specs.Acked.{acked_of}
use Rattle.sock_tcp.specs.Advance.{advance_in, advanced, counted_control, fallen_back, fin_counted}
use Rattle.sock_tcp.specs.Arrival.{Arrival, arrival}
use Rattle.sock_tcp.specs.Process.{after_advance, by_verdict, close_restarted, closed_then, cut_inside, has_window, processed_by, processed_inside, tested_by, tuple_of}
use Rattle.sock_tcp.specs.Replies.{ack_kept}
use Rattle.sock_tcp.specs.Rfc.Checks.{verdict_by}
use Rattle.sock_tcp.specs.Rfc.Recovery.{recovered, recovered_by}
use Rattle.sock_tcp.specs.Rfc.Refused.{refused}
use Rattle.sock_tcp.specs.Rfc.Windows.{ack_heeded, field_kept, is_ignored, is_newer, is_newer_by, told_by, windowed}
use Rattle.sock_tcp.specs.Scale.{scale_of}
use Rattle.sock_tcp.specs.Steps.{ack_counted, ack_delayed, duplicate_counted, heard, joined, released, timer_set, timestamp_taken, una_advanced, window_of, window_taken}
use Rattle.sock_tcp.specs.View.{View}
use Rattle.sock_tcp.specs.Window.{cut_of, is_inside, accepted_window}
use Rattle.sock_tcp.specs.declared.acked.Acked.{Acked}
use Rattle.sock_tcp.specs.declared.advance.Next.{Next}
use Rattle.sock_tcp.specs.declared.advance.Next.TheVariants as next
use Rattle.sock_tcp.specs.declared.rules.Rules.{Rules}
use Rattle.sock_tcp.specs.declared.rules.Rules.TheVariants as rules
use Rattle.sock_tcp.specs.declared.state.State.{State}
use Rattle.sock_tcp.specs.declared.state.State.TheVariants as state
use Rattle.sock_tcp.specs.declared.tuple.Tuple.{Tuple}
use Rattle.sock_tcp.specs.declared.verdict.Verdict.{Verdict}
use Rattle.sock_tcp.specs.declared.verdict.Verdict.TheVariants as verdicts
use Rattle.sock_tcp.specs.declared.window.Window.{Window}
use Rattle.tcp_laws.specs.Windows.{OlderWindowIsNotTaken}

-- a control bit that counts is no SYN where the segment is none
counted_no_syn : (c : TcpControl) (w : Window) (n : TcpSeqNumber) (len : ℕ) → (c ≡ control.Syn → ⊥) → counted_control c w n len ≡ control.Syn → ⊥
unfolding counted_control
counted_no_syn control.Syn w n len no_syn e = no_syn refl
counted_no_syn control.Psh w n len no_syn e = absurd cc
counted_no_syn control.None w n len no_syn e = absurd cc
counted_no_syn control.Rst w n len no_syn e = absurd cc
counted_no_syn control.Fin w n len no_syn e = either _ e
  where
    either : (b : Bool) → (if b then control.None else control.Fin) ≡ control.Syn → ⊥
    either true e = absurd cc
    either false e = absurd cc

module _ (v : View) (s : Segment) (is : v.rules ≡ rules.Rfc) (old : is_newer v.snd_wl1 v.snd_wl2 s ≡ false) where
  abbrev left : ℕ
  left = v.remote_win_len - (acked_of v s.control (ack_heeded rules.Rfc v s s.ack_number)).len

  no_syn : s.control ≡ control.Syn → ⊥
  no_syn e = true≢false (sym (ap (λ c. is_newer_by c v.snd_wl1 v.snd_wl2 s.seq_number s.ack_number) e) ∙ old)

  kept : told_by v.rules v s ≡ field_kept v s
  kept = ap (λ r. told_by r v s) is ∙ ap (λ b. if b && not (is_ignored v s s.ack_number) then s.window_len else field_kept v s) old

  within : field_kept v s * 2 ^ scale_of v.remote_win_scale ≤ left
  within =
      let a = mul-le-mul_right {m = field_kept v s} {n = left / 2 ^ scale_of v.remote_win_scale} (2 ^ scale_of v.remote_win_scale) (omega arith) in
      let b = div-mul-le_self left (2 ^ scale_of v.remote_win_scale) in
      omega (arith, a, b)

  by_control : (c : TcpControl) → (c ≡ control.Syn → ⊥) → window_of c (field_kept v s) v.remote_win_scale ≤ left
  by_control control.Syn no_syn = absurd (no_syn refl)
  by_control _ no_syn = within

  told : window_of s.control (told_by v.rules v s) v.remote_win_scale ≤ left
  told = subst (λ n. window_of s.control n v.remote_win_scale ≤ left) (sym kept) (by_control s.control no_syn)

  hears_no_more : (now : Instant) (a : Acked) → (heard v now a (windowed v.rules v s)).remote_win_len ≤ left
  unfolding window_taken released duplicate_counted ack_counted una_advanced timestamp_taken timer_set
  hears_no_more now a = heard_kept (λ w. w.remote_win_len ≤ left) now (windowed v.rules v s) v a told (λ k. told) (λ k. told)

  -- ---- whatever is done

  abbrev Bounded : View → Type 0
  Bounded w = (w.remote_win_scale ≡ v.remote_win_scale) × (w.remote_win_len ≤ v.remote_win_len)

  abbrev g : Segment
  g = windowed v.rules v s

  bound : (u : View) → u.remote_win_scale ≡ v.remote_win_scale → window_of s.control (told_by v.rules v s) u.remote_win_scale ≤ v.remote_win_len
  bound u e = subst (λ o. window_of s.control (told_by v.rules v s) o ≤ v.remote_win_len) (sym e) (omega (arith, told))

  answers : KeptByAnswers Bounded
  unfolding ack_kept
  answers = record { challenges = λ w at h. h; acks = λ w h. h }

  module _ (now : Instant) (word : ℕ) (ip : IpRepr) where
    abbrev come : Arrival
    come = arrival now (tuple_of ip g) word g

    hears : (u : View) (a : Acked) → Bounded u → Bounded (heard u now a g)
    unfolding window_taken released duplicate_counted ack_counted una_advanced timestamp_taken timer_set
    hears u a h = heard_kept Bounded now g u a (h.0, bound u h.0) (λ k. (h.0, bound u h.0)) (λ k. (h.0, bound u h.0))

    joins : (w : View) (o : ℕ) (bs : List ℕ) → Bounded w → Bounded (ack_delayed (joined w o bs) now)
    unfolding joined ack_delayed
    joins w o bs h = h

    restarts : (w : View) → Bounded w → Bounded (close_restarted w now)
    unfolding close_restarted
    restarts w h = h

    row : (u : View) (t : Tuple) (n : ℕ) → Bounded u → (st : State) (c : TcpControl) → (c ≡ control.Syn → ⊥) → (fin : Bool) → Bounded (advance_in st c fin u (arrival now t word g) n).view
    unfolding fallen_back fin_counted
    row u t n h state.SynReceived control.Rst z fin = h
    row u t n h _ control.Rst z fin = h
    row u t n h _ control.Syn z fin = absurd (z refl)
    row u t n h state.SynReceived control.None z fin = h
    row u t n h state.SynReceived control.Fin z fin = h
    row u t n h state.Established control.None z fin = h
    row u t n h state.Established control.Fin z fin = h
    row u t n h state.FinWait1 control.None z true = h
    row u t n h state.FinWait1 control.None z false = h
    row u t n h state.FinWait1 control.Fin z true = h
    row u t n h state.FinWait1 control.Fin z false = h
    row u t n h state.FinWait2 control.None z fin = h
    row u t n h state.FinWait2 control.Fin z fin = h
    row u t n h state.CloseWait control.None z fin = h
    row u t n h state.Closing control.None z true = h
    row u t n h state.Closing control.None z false = h
    row u t n h state.LastAck control.None z true = h
    row u t n h state.LastAck control.None z false = h
    row u t n h _ _ z fin = h

    after : (x : Next) (u : View) (a : Acked) (o : ℕ) (bs : List ℕ) → Bounded u → Bounded (after_advance x u come a o bs).view
    after next.Stop u a o bs h = h
    after next.Challenge u a o bs h = challenged_kept Bounded now g answers u h
    after next.Continue u a o bs h = bytes_kept Bounded now g answers joins (heard u now a g) o bs (hears u a h)

    inside : (u : View) (c : TcpControl) (o : ℕ) (bs : List ℕ) → (c ≡ control.Syn → ⊥) → Bounded u → Bounded (processed_inside u come c o bs).view
    unfolding processed_inside advanced
    inside u c o bs z h =
        let a = acked_of u g.control g.ack_number in
        let x = advance_in u.state c a.fin u come a.len in
        after x.next x.view a o bs (row u (tuple_of ip g) a.len h u.state c z a.fin)

    abbrev start : Bounded v
    start = (refl, omega arith)

    refuses : (r : Rules) → Bounded (refused r v come).view
    refuses r = refused_as (λ o. Bounded o.view) r v come (record {
      answers = outside_kept Bounded now g answers restarts v start;
      counts = λ e. inside v control.Fin 0 [] (λ i. absurd cc) start;
      hears = λ e. alone;
      ends = λ e. alone;
      goes_on = λ e. outside_kept Bounded now g answers restarts (heard_alone v come).view alone;
    })
      where
        alone : Bounded (heard_alone v come).view
        alone = inside v control.None 0 [] (λ i. absurd cc) start

    tests : (r : Rules) (b : Bool) → Bounded (tested_by r b v come).view
    tests r false = inside v g.control 0 [] no_syn start
    tests r true = go (is_inside (accepted_window r v) g.seq_number (length g.payload))
      where
        go : (b : Bool) → Bounded (if b then cut_inside (accepted_window r v) (cut_of (accepted_window r v) g.seq_number (length g.payload)) v come else refused r v come).view
        go false = refuses r
        go true = inside (record v { local_rx_last_seq = Some g.seq_number }) (counted_control g.control (accepted_window r v) g.seq_number (length g.payload)) _ _ (counted_no_syn g.control (accepted_window r v) g.seq_number (length g.payload) no_syn) start

    passes : (r : Rules) (b : Bool) → Bounded (closed_then r (recovered_by r v now g (tested_by r b v come))).view
    unfolding recovered
    passes r b = let i = tests r b in let j = recovered_as (λ o. Bounded o.view) r v now g (tested_by r b v come) i i in closed_as (λ o. Bounded o.view) r (recovered_by r v now g (tested_by r b v come)) j j

    whole : (r : Rules) (x : Verdict) → Bounded (by_verdict r x v come).view
    whole r verdicts.Drop = start
    whole r verdicts.Reset = start
    whole r verdicts.Challenge = challenged_kept Bounded now g answers v start
    whole r verdicts.Pass = passes r (has_window v.state)

pub older_window_is_not_taken : OlderWindowIsNotTaken
unfolding processed_by
older_window_is_not_taken v now word ip s is old = (λ a. hears_no_more v s is old now a, (whole v s is old now word ip v.rules (verdict_by v.rules v now s)).1)
