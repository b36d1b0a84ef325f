-- A segment that the checks before the acknowledgement do not let go on is answered at most.
use Rattle.std.proofs.Common.{◌≡◌, Bool, true, false, not, ◌&&◌, refl, sym, subst}
use Rattle.std.specs.Prelude.{if◌then◌else◌, int_lt}
use Rattle.std.proofs.lemmas.Bool.{eqb-true}
use Rattle.net_base.specs.declared.time.Instant.{Instant}
use Rattle.control_wire.specs.Segment.{Segment}
use Rattle.control_wire.specs.Seq.{seq_eq}
use Rattle.control_wire.specs.declared.tcp.TcpControl.{TcpControl}
use Rattle.control_wire.specs.declared.tcp.TcpControl.TheVariants as control
use Rattle.sock_tcp.specs.Arrival.{Arrival, arrival}
use Rattle.sock_tcp.specs.Process.{ack_sent, by_verdict, challenged, processed_by, stopped, tuple_of}
use Rattle.sock_tcp.specs.Replies.{ack_kept}
use Rattle.sock_tcp.specs.Rfc.Checks.{ack_checked, acks_unsent, checked, checked_in, is_forgotten, is_older, rst_checked, sent_end, stamp_checked, verdict_by, verdict_then}
use Rattle.sock_tcp.specs.Rfc.Windows.{windowed}
use Rattle.sock_tcp.specs.Timers.{after, challenge_interval}
use Rattle.sock_tcp.specs.View.{View}
use Rattle.sock_tcp.specs.Window.{has_window, next_ack, honored_window, starts_inside}
use Rattle.sock_tcp.specs.declared.advance.Next.{Next}
use Rattle.sock_tcp.specs.declared.advance.Next.TheVariants as next
use Rattle.sock_tcp.specs.declared.state.State.{State}
use Rattle.sock_tcp.specs.declared.state.State.TheVariants as state
use Rattle.sock_tcp.proofs.Windows.{same_seq}
use Rattle.tcp_laws.specs.Blind.{BlindSegmentsChangeNothing, IsBlind, LateReset, Older, OnlyAnswered, Reset, Synchronizes, Unsent}

-- ---- what the checks say

module _ (v : View) (now : Instant) (s : Segment) (P : Next → Type 0) (stop : P next.Stop) (challenge : P next.Challenge) where
  by_number : (s.seq_number ≡ next_ack v → ⊥) → P (rst_checked (honored_window v) s.seq_number)
  unfolding honored_window
  by_number n = go (seq_eq s.seq_number (next_ack v)) refl
    where
      in_or_out : (b : Bool) → P (if b then next.Challenge else next.Stop)
      in_or_out true = challenge
      in_or_out false = stop

      go : (b : Bool) → seq_eq s.seq_number (next_ack v) ≡ b → P (if b then next.Continue else (if starts_inside (honored_window v) s.seq_number then next.Challenge else next.Stop))
      go true e = absurd (n (same_seq s.seq_number (next_ack v) (eqb-true s.seq_number.0 (next_ack v).0 e)))
      go false e = in_or_out (starts_inside (honored_window v) s.seq_number)

  by_reset : (s.seq_number ≡ next_ack v → ⊥) → (st : State) → P (checked_in st control.Rst v now s)
  by_reset n state.TimeWait = stop
  by_reset n _ = by_number n

  by_syn : (st : State) → (st ≡ state.SynReceived → ⊥) → P (checked_in st control.Syn v now s)
  by_syn state.SynReceived n = absurd (n refl)
  by_syn _ n = challenge

  by_ack : P (stamp_checked v now s.timestamp) → P (ack_checked v now s)
  by_ack p = go (acks_unsent s.ack_number (sent_end v))
    where
      go : (b : Bool) → P (if b then next.Challenge else stamp_checked v now s.timestamp)
      go true = challenge
      go false = p

  unsent : (b : Bool) → b ≡ true → P (if b then next.Challenge else stamp_checked v now s.timestamp)
  unsent true e = challenge
  unsent false e = absurd cc

  by_unsent : (st : State) (c : TcpControl) → (c ≡ control.Rst → ⊥) → (st ≡ state.SynReceived → ⊥) → P (ack_checked v now s) → P (checked_in st c v now s)
  by_unsent st control.Rst n m p = absurd (n refl)
  by_unsent state.SynReceived _ n m p = absurd (m refl)
  by_unsent _ control.Syn n m p = challenge
  by_unsent state.TimeWait _ n m p = p
  by_unsent _ _ n m p = p

  by_stamp : (st : State) (c : TcpControl) → (c ≡ control.Rst → ⊥) → P (stamp_checked v now s.timestamp) → P (checked_in st c v now s)
  by_stamp st control.Rst n p = absurd (n refl)
  by_stamp state.SynReceived control.Syn n p = p
  by_stamp _ control.Syn n p = challenge
  by_stamp state.SynReceived _ n p = p
  by_stamp state.TimeWait _ n p = by_ack p
  by_stamp _ _ n p = by_ack p

  older : (a b f : Bool) → a ≡ true → b ≡ true → f ≡ false → P (if a && (b && not f) then next.Challenge else next.Continue)
  older true true false x y z = challenge
  older true true true x y z = absurd cc
  older true false f x y z = absurd cc
  older false b f x y z = absurd cc

  by_kind : IsBlind v now s → P (checked_in v.state s.control v now s)
  by_kind (Reset e n) = subst (λ c. P (checked_in v.state c v now s)) (sym e) (by_reset n v.state)
  by_kind (LateReset e w) = subst (λ c. P (checked_in v.state c v now s)) (sym e) (subst (λ st. P (checked_in st control.Rst v now s)) (sym w) stop)
  by_kind (Synchronizes e n) = subst (λ c. P (checked_in v.state c v now s)) (sym e) (by_syn v.state n)
  by_kind (Unsent n m e) = by_unsent v.state s.control n m (unsent (acks_unsent s.ack_number (sent_end v)) e)
  by_kind (Older n a t e x y) = by_stamp v.state s.control n (subst (λ o. P (stamp_checked v now o)) (sym e) (older v.stamps (is_older t.tsval v.last_remote_tsval) (is_forgotten v.remote_last_ts now) a x y))

  blind_checked : has_window v.state ≡ true → IsBlind v now s → P (checked v now s)
  unfolding checked
  blind_checked w b = subst (λ h. P (if h then checked_in v.state s.control v now s else next.Continue)) (sym w) (by_kind b)

-- ---- what is done then

challenged_answers : (v : View) (now : Instant) (s : Segment) → OnlyAnswered v (challenged v now s).view
unfolding challenged ack_kept
challenged_answers v now s = go (int_lt now.micros v.challenge_ack_timer.micros)
  where
    go : (b : Bool) → OnlyAnswered v (if b then stopped v else ack_sent (record v { challenge_ack_timer = after now challenge_interval }) s).view
    go true = refl
    go false = refl

pub blind_segments_change_nothing : BlindSegmentsChangeNothing
unfolding processed_by
blind_segments_change_nothing v now word ip s is w b =
    subst (λ r. OnlyAnswered v (by_verdict v.rules (verdict_by r v now s) v come).view) (sym is)
    (blind_checked v now s (λ x. OnlyAnswered v (by_verdict v.rules (verdict_then x v s) v come).view) refl (challenged_answers v now (windowed v.rules v s)) w b)
  where
    come : Arrival
    come = arrival now (tuple_of ip s) word (windowed v.rules v s)
