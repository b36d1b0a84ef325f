-- What holds of the states in which a socket may send, and of those in which nothing of its own FIN is in question.
use Rattle.std.proofs.Common.{◌≡◌, ℕ, Bool, true, false, refl, Option}
use Rattle.net_base.specs.declared.time.Duration.{Duration}
use Rattle.net_base.specs.declared.time.Instant.{Instant}
use Rattle.control_wire.specs.Segment.{Segment}
use Rattle.control_wire.specs.declared.tcp.TcpControl.TheVariants as control
use Rattle.sock_tcp.specs.Arrival.{arrival}
use Rattle.sock_tcp.specs.Advance.{advance_in, continues}
use Rattle.sock_tcp.specs.Begin.{is_paused}
use Rattle.sock_tcp.specs.Closing.{closed_in}
use Rattle.sock_tcp.specs.Content.{carries_data}
use Rattle.sock_tcp.specs.Due.{is_closed, is_closing}
use Rattle.sock_tcp.specs.Process.{has_window, timer_restarted}
use Rattle.sock_tcp.specs.Queues.{may_send, receives}
use Rattle.sock_tcp.specs.View.{View}
use Rattle.sock_tcp.specs.declared.rules.Rules.{Rules}
use Rattle.sock_tcp.specs.declared.state.State.{State}
use Rattle.sock_tcp.specs.declared.state.State.TheVariants as state
use Rattle.sock_tcp.specs.declared.timer.Timer.{Timer}
use Rattle.sock_tcp.specs.declared.tuple.Tuple.{Tuple}
use Rattle.progress_laws.specs.InStep.{takes_bytes}
use Rattle.tcp_laws.proofs.Ordered.{HasMoment, Row}

-- ---- ESTABLISHED and CLOSE-WAIT

pub sends_data : (st : State) → may_send st ≡ true → carries_data st ≡ true
sends_data state.Established e = refl
sends_data state.CloseWait e = refl
sends_data _ e = absurd cc

pub sends_closing : (st : State) (r : Rules) → may_send st ≡ true → is_closing (closed_in st r) ≡ true
sends_closing state.Established r e = refl
sends_closing state.CloseWait r e = refl
sends_closing _ r e = absurd cc

pub closing_carries : (st : State) → is_closing st ≡ true → carries_data st ≡ true
closing_carries state.FinWait1 e = refl
closing_carries state.Closing e = refl
closing_carries state.LastAck e = refl
closing_carries _ e = absurd cc

pub closing_open : (st : State) → is_closing st ≡ true → is_closed st ≡ false
closing_open state.FinWait1 e = refl
closing_open state.Closing e = refl
closing_open state.LastAck e = refl
closing_open _ e = absurd cc

pub row_moment : (st : State) (t : Timer) (keep : Option Duration) (i n : ℕ) → may_send st ≡ true → Row st t keep i n → HasMoment t keep
row_moment state.Established t keep i n e r = r.0
row_moment state.CloseWait t keep i n e r = r.0
row_moment _ t keep i n e r = absurd cc

-- ---- with FIN-WAIT-2: no own FIN waits for an acknowledgement

abbrev pub is_flat : State → Bool
is_flat state.Established = true
is_flat state.CloseWait = true
is_flat state.FinWait2 = true
is_flat _ = false

pub sends_flat : (st : State) → may_send st ≡ true → is_flat st ≡ true
sends_flat state.Established e = refl
sends_flat state.CloseWait e = refl
sends_flat _ e = absurd cc

-- what holds in the three
pub flat_by : (P : State → Type 0) → P state.Established → P state.CloseWait → P state.FinWait2 → (st : State) → is_flat st ≡ true → P st
flat_by P a b c state.Established e = a
flat_by P a b c state.CloseWait e = b
flat_by P a b c state.FinWait2 e = c
flat_by P a b c _ e = absurd cc

pub flat_open : (st : State) → is_flat st ≡ true → is_closed st ≡ false
flat_open = flat_by (λ st. is_closed st ≡ false) refl refl refl

pub flat_on : (st : State) → is_flat st ≡ true → is_closing st ≡ false
flat_on = flat_by (λ st. is_closing st ≡ false) refl refl refl

pub takes_by : (P : State → Type 0) → P state.Established → P state.FinWait2 → (st : State) → takes_bytes st ≡ true → P st
takes_by P a b state.Established e = a
takes_by P a b state.FinWait2 e = b
takes_by P a b _ e = absurd cc

pub takes_flat : (st : State) → takes_bytes st ≡ true → is_flat st ≡ true
takes_flat = takes_by (λ st. is_flat st ≡ true) refl refl

pub takes_runs : (st : State) (b : Bool) → takes_bytes st ≡ true → is_paused st b ≡ false
takes_runs st b e = takes_by (λ st. is_paused st b ≡ false) refl refl st e

pub takes_receives : (st : State) → takes_bytes st ≡ true → receives st ≡ true
takes_receives = takes_by (λ st. receives st ≡ true) refl refl

-- ---- with FIN-WAIT-1: of the own FIN, if there is one, nothing new is acknowledged

abbrev pub is_steady : State → Bool
is_steady state.Established = true
is_steady state.CloseWait = true
is_steady state.FinWait1 = true
is_steady state.FinWait2 = true
is_steady _ = false

pub steady_by : (P : State → Type 0) → P state.Established → P state.CloseWait → P state.FinWait1 → P state.FinWait2 → (st : State) → is_steady st ≡ true → P st
steady_by P a b c d state.Established e = a
steady_by P a b c d state.CloseWait e = b
steady_by P a b c d state.FinWait1 e = c
steady_by P a b c d state.FinWait2 e = d
steady_by P a b c d _ e = absurd cc

pub flat_steady : (st : State) → is_flat st ≡ true → is_steady st ≡ true
flat_steady = flat_by (λ st. is_steady st ≡ true) refl refl refl

pub receives_steady : (st : State) → receives st ≡ true → is_steady st ≡ true
receives_steady state.Established e = refl
receives_steady state.FinWait1 e = refl
receives_steady state.FinWait2 e = refl
receives_steady _ e = absurd cc

pub steady_has : (st : State) → is_steady st ≡ true → has_window st ≡ true
steady_has = steady_by (λ st. has_window st ≡ true) refl refl refl refl

pub steady_timer : (st : State) (t : Timer) (now : Instant) → is_steady st ≡ true → timer_restarted st t now ≡ t
steady_timer st t now e = steady_by (λ st. timer_restarted st t now ≡ t) refl refl refl refl st e

pub steady_goes_on : (st : State) → is_steady st ≡ true → (x : View) (now : Instant) (t : Tuple) (word n : ℕ) (s : Segment) → advance_in st control.None false x (arrival now t word s) n ≡ continues x
steady_goes_on st e x now t word n s = steady_by (λ st. advance_in st control.None false x (arrival now t word s) n ≡ continues x) refl refl refl refl st e

pub not_listening : (st : State) → is_steady st ≡ true → st ≡ state.Listen → ⊥
not_listening state.Listen e l = absurd cc
not_listening state.Established e l = absurd cc
not_listening state.CloseWait e l = absurd cc
not_listening state.FinWait1 e l = absurd cc
not_listening state.FinWait2 e l = absurd cc
not_listening _ e l = absurd cc
