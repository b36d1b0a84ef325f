-- The acknowledgement that a segment counts as having.
use Rattle.std.proofs.Common.{◌≡◌, ◌<◌, ◌^◌, Bool, true, false, ◌&&◌, refl, ap, ◌∙◌, subst, sym, arith, length, Option, Some, None}
use Rattle.std.specs.Prelude.{if◌then◌else◌, nat_le}
use Rattle.std.specs.Option.{ForSome}
use Rattle.control_wire.specs.Seq.{seq_add, seq_sub}
use Rattle.sock_core.specs.Seq.{is_before}
use Rattle.control_wire.specs.Segment.{Segment}
use Rattle.control_wire.specs.declared.tcp.TcpControl.{TcpControl}
use Rattle.control_wire.specs.declared.seq_number.TcpSeqNumber.{TcpSeqNumber}
use Rattle.sock_tcp.specs.Draw.{draws}
use Rattle.sock_tcp.specs.Rfc.Windows.{ack_heeded, brings, is_heeded, is_heeding}
use Rattle.sock_tcp.specs.Verdict.{verdict_of}
use Rattle.sock_tcp.specs.View.{View}
use Rattle.sock_tcp.specs.Window.{has_window}
use Rattle.sock_tcp.specs.declared.rules.Rules.{Rules}
use Rattle.sock_tcp.specs.declared.rules.Rules.TheVariants as rules
use Rattle.sock_tcp.specs.declared.state.State.{State}
use Rattle.sock_tcp.specs.declared.state.State.TheVariants as state
use Rattle.sock_tcp.specs.declared.verdict.Verdict.{Verdict}
use Rattle.sock_tcp.specs.declared.verdict.Verdict.TheVariants as verdicts
use Rattle.sock_tcp.proofs.Checking.{none_heeded, not_heeding}

-- it is a number of 32 bits
pub heeded_small : (r : Rules) (v : View) (s : Segment) (o : Option TcpSeqNumber) → ForSome o (λ k. k.0 < 2 ^ 32) → ForSome (ack_heeded r v s o) (λ k. k.0 < 2 ^ 32)
heeded_small rules.Smoltcp v s o h = h
heeded_small rules.Rfc v s None h = h
heeded_small rules.Rfc v s (Some a) h = go (is_heeded v s a)
  where
    go : (b : Bool) → ForSome (Some (if b then seq_add v.local_seq_no 0 else a)) (λ k. k.0 < 2 ^ 32)
    go true k e = let same : seq_add v.local_seq_no 0 ≡ k = cc in subst (λ (x : TcpSeqNumber). x.0 < 2 ^ 32) same (omega arith)
    go false k e = h k e

-- where there is none it has none
pub heeded_none : (r : Rules) (v : View) (s : Segment) (o : Option TcpSeqNumber) → o ≡ None → ack_heeded r v s o ≡ None
heeded_none rules.Smoltcp v s o e = e
heeded_none rules.Rfc v s o e = ap (ack_heeded rules.Rfc v s) e

windowed_draws : (st : State) (x : Verdict) (c : TcpControl) → has_window st ≡ true → draws x st c ≡ false
windowed_draws state.Listen x c w = absurd cc
windowed_draws _ verdicts.Pass c w = refl
windowed_draws _ _ c w = refl

-- and draws no number where the segment draws none
pub heeded_draws : (r : Rules) (v : View) (s : Segment) → draws (verdict_of v s.control s.ack_number) v.state s.control ≡ false → draws (verdict_of v s.control (ack_heeded r v s s.ack_number)) v.state s.control ≡ false
heeded_draws r v s e = by (has_window v.state) refl
  where
    by : (b : Bool) → has_window v.state ≡ b → draws (verdict_of v s.control (ack_heeded r v s s.ack_number)) v.state s.control ≡ false
    by true w = windowed_draws v.state (verdict_of v s.control (ack_heeded r v s s.ack_number)) s.control w
    by false w = ap (λ o. draws (verdict_of v s.control o) v.state s.control) (none_heeded r v s s.ack_number (not_heeding v.state w)) ∙ e

-- that of SND.UNA or later stays
pub later_stays : (r : Rules) (v : View) (s : Segment) (k : TcpSeqNumber) → s.ack_number ≡ Some k → is_before k v.local_seq_no ≡ false → ack_heeded r v s s.ack_number ≡ s.ack_number
later_stays rules.Smoltcp v s k e b = refl
later_stays rules.Rfc v s k e b = ap (ack_heeded rules.Rfc v s) e ∙ ap (λ t. Some (if t then seq_add v.local_seq_no 0 else k)) none ∙ sym e
  where
    no_and : (x y : Bool) → (x && (y && false)) ≡ false
    no_and true true = refl
    no_and true false = refl
    no_and false y = refl

    none : is_heeded v s k ≡ false
    none = ap (λ t. is_heeding v.state && (brings s.control (length s.payload) && (t && nat_le (seq_sub v.local_seq_no k) v.largest_window))) b ∙ no_and (is_heeding v.state) (brings s.control (length s.payload))
