-- `process` and `connect` in the words of the law on lists of calls: where no random word is drawn, any does.
use Rattle.std.proofs.Common.{◌≡◌, ℕ, ◌<◌, ◌≤◌, ◌^◌, ◌∙◌, List, [], Bool, true, false, Some, None, refl, sym, ap, subst, length, arith, ap₂, Option}
use Rattle.std.specs.Prelude.{Result, Ok, Err, is_ok, if◌then◌else◌}
use Rattle.ip_wire.specs.declared.endpoint.IpEndpoint.{IpEndpoint}
use Rattle.ip_wire.specs.declared.endpoint.IpListenEndpoint.{IpListenEndpoint}
use Rattle.ip_wire.specs.declared.repr.IpRepr.{IpRepr}
use Rattle.net_base.specs.declared.time.Instant.{Instant}
use Rattle.control_wire.specs.Segment.{Segment}
use Rattle.control_wire.specs.declared.tcp.TcpControl.{TcpControl}
use Rattle.control_wire.specs.declared.tcp.TcpControl.TheVariants as control
use Rattle.sock_core.specs.Facts.{Facts}
use Rattle.sock_tcp.specs.Arrival.{arrival}
use Rattle.sock_tcp.specs.Acked.{acked_of}
use Rattle.sock_tcp.specs.Advance.{Advance, advance_in, advanced, counted_control}
use Rattle.sock_tcp.specs.Draw.{draws, Draws}
use Rattle.sock_tcp.specs.Opening.{endpoints, connect_answer, after_connect, Connects}
use Rattle.sock_tcp.specs.Process.{Outcome, AcceptsIn, Accepts, after_advance, after_table, by_verdict, closed_then, cut_inside, has_window, outside, processed, processed_by, processed_inside, tested_by, told_then, tuple_of}
use Rattle.tcp_laws.specs.SocketRun.{Counts, Step, Process, Connect, IsNumbered, after_segment, starting_if}
use Rattle.sock_tcp.specs.Verdict.{verdict_of}
use Rattle.sock_tcp.specs.Rfc.Windows.{ack_heeded, windowed}
use Rattle.tcp_laws.proofs.Heeding.{heeded_draws}
use Rattle.sock_tcp.specs.View.{View}
use Rattle.sock_tcp.specs.Window.{accepted_window, is_inside, cut_of}
use Rattle.sock_tcp.specs.declared.error.ConnectError.{ConnectError}
use Rattle.sock_tcp.specs.declared.state.State.{State}
use Rattle.sock_tcp.specs.declared.state.State.TheVariants as state
use Rattle.sock_tcp.specs.declared.acked.Acked.{Acked}
use Rattle.sock_tcp.specs.declared.advance.Next.{Next}
use Rattle.sock_tcp.specs.declared.advance.Next.TheVariants as next
use Rattle.sock_tcp.specs.declared.tuple.Tuple.{Tuple}
use Rattle.sock_tcp.specs.declared.verdict.Verdict.{Verdict}
use Rattle.sock_tcp.specs.declared.verdict.Verdict.TheVariants as verdicts
use Rattle.sock_tcp.specs.Rfc.Recovery.{recovered_by}
use Rattle.sock_tcp.specs.Rfc.Refused.{answered_if_not, is_heard_outside, refused, rfc_refused, then_answered}
use Rattle.sock_tcp.specs.declared.rules.Rules.{Rules}
use Rattle.sock_tcp.specs.declared.rules.Rules.TheVariants as rules
use Rattle.sock_tcp.proofs.Checking.{verdict_as}
use Rattle.sock_tcp.proofs.Refusing.{counts_fin, heard_alone}

-- ---- a segment that draws no word

module _ (now : Instant) (m n : ℕ) (ip : IpRepr) (s : Segment) where
  rows_alike : (st : State) (c : TcpControl) (fin : Bool) (v : View) (len : ℕ) → draws verdicts.Pass st c ≡ false → advance_in st c fin v (arrival now (tuple_of ip s) m s) len ≡ advance_in st c fin v (arrival now (tuple_of ip s) n s) len
  rows_alike state.Listen control.Syn fin v len e = absurd cc
  rows_alike _ control.Rst fin v len e = refl
  rows_alike state.FinWait1 control.None true v len e = refl
  rows_alike state.FinWait1 control.Fin true v len e = refl
  rows_alike state.Closing control.None true v len e = refl
  rows_alike state.LastAck control.None true v len e = refl
  rows_alike _ _ _ v len e = refl

  -- behind the table no word is drawn
  next_alike : (x : Next) (v : View) (k : Acked) (o : ℕ) (bs : List ℕ) → after_advance x v (arrival now (tuple_of ip s) m s) k o bs ≡ after_advance x v (arrival now (tuple_of ip s) n s) k o bs
  next_alike next.Stop v k o bs = refl
  next_alike next.Challenge v k o bs = refl
  next_alike next.Continue v k o bs = refl

  inside_alike : (v : View) (c : TcpControl) (o : ℕ) (bs : List ℕ) → draws verdicts.Pass v.state c ≡ false → processed_inside v (arrival now (tuple_of ip s) m s) c o bs ≡ processed_inside v (arrival now (tuple_of ip s) n s) c o bs
  unfolding processed_inside advanced
  inside_alike v c o bs e =
      let k = acked_of v s.control s.ack_number in
      let t = advance_in v.state c k.fin v (arrival now (tuple_of ip s) n s) k.len in
      ap (λ (t : Advance). after_table t (arrival now (tuple_of ip s) m s) k o bs) (rows_alike v.state c k.fin v k.len e) ∙ next_alike t.next t.view k o bs

  -- only LISTEN draws
  windowed_draws : (st : State) (c : TcpControl) → has_window st ≡ true → draws verdicts.Pass st c ≡ false
  windowed_draws state.Listen c w = absurd cc
  windowed_draws _ c w = refl

  refused_alike : (r : Rules) (v : View) → has_window v.state ≡ true → refused r v (arrival now (tuple_of ip s) m s) ≡ refused r v (arrival now (tuple_of ip s) n s)
  unfolding rfc_refused
  refused_alike rules.Smoltcp v w = refl
  refused_alike rules.Rfc v w =
      let x = inside_alike v control.Fin 0 [] (windowed_draws v.state _ w) in
      let y = inside_alike v control.None 0 [] (windowed_draws v.state _ w) in
      ap₂ (λ x y. by x (then_answered y (arrival now (tuple_of ip s) m s))) x y ∙ ap (by (processed_inside v (arrival now (tuple_of ip s) n s) control.Fin 0 [])) (answered_alike (heard_alone v (arrival now (tuple_of ip s) n s)).reply (heard_alone v (arrival now (tuple_of ip s) n s)))
    where
      by : Outcome → Outcome → Outcome
      by x y = if counts_fin v (arrival now (tuple_of ip s) n s) then x else (if is_heard_outside v s (acked_of v s.control s.ack_number) then y else outside v now s)

      answered_alike : (r : Option Segment) (o : Outcome) → answered_if_not r o (arrival now (tuple_of ip s) m s) ≡ answered_if_not r o (arrival now (tuple_of ip s) n s)
      answered_alike (Some x) o = refl
      answered_alike None o = refl

  tested_alike : (r : Rules) (v : View) (b : Bool) → has_window v.state ≡ b → draws verdicts.Pass v.state s.control ≡ false → tested_by r b v (arrival now (tuple_of ip s) m s) ≡ tested_by r b v (arrival now (tuple_of ip s) n s)
  tested_alike r v false w e = inside_alike v s.control 0 [] e
  tested_alike r v true w e = go (is_inside (accepted_window r v) s.seq_number (length s.payload))
    where
      go : (b : Bool) → (if b then cut_inside (accepted_window r v) (cut_of (accepted_window r v) s.seq_number (length s.payload)) v (arrival now (tuple_of ip s) m s) else refused r v (arrival now (tuple_of ip s) m s)) ≡ (if b then cut_inside (accepted_window r v) (cut_of (accepted_window r v) s.seq_number (length s.payload)) v (arrival now (tuple_of ip s) n s) else refused r v (arrival now (tuple_of ip s) n s))
      go false = refused_alike r v w
      go true = inside_alike (record v { local_rx_last_seq = Some s.seq_number }) (counted_control s.control (accepted_window r v) s.seq_number (length s.payload)) _ _ (windowed_draws v.state _ w)

  verdict_alike : (r : Rules) (v : View) (x : Verdict) → draws x v.state s.control ≡ false → by_verdict r x v (arrival now (tuple_of ip s) m s) ≡ by_verdict r x v (arrival now (tuple_of ip s) n s)
  verdict_alike r v verdicts.Drop e = refl
  verdict_alike r v verdicts.Reset e = refl
  verdict_alike r v verdicts.Challenge e = refl
  verdict_alike r v verdicts.Pass e = ap (λ o. told_then r v s (closed_then r (recovered_by r v now s o))) (tested_alike r v (has_window v.state) refl e)

processed_alike : (now : Instant) (m n : ℕ) (ip : IpRepr) (s : Segment) (r : Rules) (v : View) → draws (verdict_of v s.control s.ack_number) v.state s.control ≡ false → processed_by r v now m ip s ≡ processed_by r v now n ip s
unfolding processed_by
processed_alike now m n ip s r v e =
    let y : Segment = windowed r v s in
    verdict_as (λ x. by_verdict r x v (arrival now (tuple_of ip s) m y) ≡ by_verdict r x v (arrival now (tuple_of ip s) n y)) r v now s (λ w. refl) (λ w. refl) (verdict_alike now m n ip y r v (verdict_of v s.control (ack_heeded r v s s.ack_number)) (heeded_draws r v s e))

-- ---- the calls

pub segment_is_step : {C : Type 0} (facts : C → Facts) (word_at : C → ℕ → ℕ) (v w : View) (cx cx' : C) (now : Instant) (ip : IpRepr) (s : Segment) (k : Counts) → Accepts v ip s → IsNumbered s → length s.payload ≤ 65535 → w ≡ (processed v now (word_at cx 0) ip s).view → Draws (draws (verdict_of v s.control s.ack_number) v.state s.control) facts word_at cx cx' → Step v k w (after_segment k v w)
segment_is_step facts word_at v w cx cx' now ip s k accepted numbered short view context = go (draws (verdict_of v s.control s.ack_number) v.state s.control) refl context
  where
    bare : v.state ≡ state.Listen → s.ack_number ≡ None
    bare e = (subst (λ st. AcceptsIn st v ip s) e accepted).0.no_ack

    go : (b : Bool) → draws (verdict_of v s.control s.ack_number) v.state s.control ≡ b → Draws b facts word_at cx cx' → Step v k w (after_segment k v w)
    go true e drawn = Process v.rules now (word_at cx 0) ip s drawn.fits numbered short bare view refl
    go false e same = Process v.rules now 0 ip s (omega arith) numbered short bare (view ∙ ap (λ (o : Outcome). o.view) (processed_alike now (word_at cx 0) 0 ip s v.rules v e)) refl

pub connect_is_step : {C : Type 0} (facts : C → Facts) (word_at : C → ℕ → ℕ) (v w : View) (cx cx' : C) (remote : IpEndpoint) (local : IpListenEndpoint) (r : Result (Unit {0}) ConnectError) (k : Counts) → Connects facts word_at v cx remote local r w cx' → Step v k w (starting_if (is_ok r) w k)
connect_is_step facts word_at v w cx cx' remote local r k h = go (endpoints v (facts cx) remote local) refl
  where
    step : (word : ℕ) → word < 2 ^ 32 → w ≡ after_connect (endpoints v (facts cx) remote local) v word → is_ok r ≡ is_ok (endpoints v (facts cx) remote local) → Step v k w (starting_if (is_ok r) w k)
    step word small is ok = Connect (facts cx) word remote local small is (ap (λ b. starting_if b w k) ok)

    go : (x : Result Tuple ConnectError) → endpoints v (facts cx) remote local ≡ x → Step v k w (starting_if (is_ok r) w k)
    go (Ok t) e =
        let answer : r ≡ Ok tt = h.answer ∙ ap connect_answer e in
        step (word_at cx 0) (subst (λ (x : Result (Unit {0}) ConnectError). Draws (is_ok x) facts word_at cx cx') answer h.context).fits h.view (ap is_ok answer ∙ sym (ap is_ok e))
    go (Err x) e =
        let answer : r ≡ Err x = h.answer ∙ ap connect_answer e in
        step 0 (omega arith) (h.view ∙ ap (λ (y : Result Tuple ConnectError). after_connect y v (word_at cx 0)) e ∙ sym (ap (λ (y : Result Tuple ConnectError). after_connect y v 0) e)) (ap is_ok answer ∙ sym (ap is_ok e))
