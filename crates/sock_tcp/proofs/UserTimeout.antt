-- Where no user timeout is set, none runs.
use Rattle.std.proofs.Common.{◌≡◌, Bool, true, false, refl, sym, ◌∙◌, ap, Option, Some, None, length}
use Rattle.std.specs.Prelude.{◌==◌, if◌then◌else◌}
use Rattle.net_base.specs.declared.time.Duration.{Duration}
use Rattle.net_base.specs.declared.time.Instant.{Instant}
use Rattle.sock_core.specs.declared.context.PollAt.TheVariants as poll
use Rattle.sock_tcp.specs.Polls.{timeout_poll}
use Rattle.sock_tcp.specs.Rfc.UserTimeout.{idle_timeout, may_be_idle, owes_ack, timeout_by, timeout_of}
use Rattle.sock_tcp.specs.View.{View}
use Rattle.sock_tcp.specs.declared.rules.Rules.{Rules}
use Rattle.sock_tcp.specs.declared.rules.Rules.TheVariants as rules
use Rattle.sock_tcp.specs.declared.state.State.{State}

pub none_by : (r : Rules) (st : State) (empty : Bool) (interval : Option Duration) → timeout_by r st empty None interval ≡ None
unfolding timeout_by
none_by rules.Smoltcp st empty interval = refl
none_by rules.Rfc st empty interval = go (owes_ack st empty) (may_be_idle st) interval
  where
    go : (a b : Bool) (i : Option Duration) → (if a then None else (if b then idle_timeout None i else None)) ≡ None
    go true b i = refl
    go false true None = refl
    go false true (Some d) = refl
    go false false i = refl

pub none_runs : (v : View) → v.timeout ≡ None → timeout_of v ≡ None
none_runs v e = ap (λ d. timeout_by v.rules v.state (length v.tx_buffer.bytes == 0) d v.keep_alive) e ∙ none_by v.rules v.state (length v.tx_buffer.bytes == 0) v.keep_alive

pub nothing_runs : (v : View) → v.timeout ≡ None → poll.Ingress ≡ timeout_poll (timeout_of v) v.remote_last_ts
nothing_runs v e = sym (by v.remote_last_ts) ∙ ap (λ d. timeout_poll d v.remote_last_ts) (sym (none_runs v e))
  where
    by : (last : Option Instant) → timeout_poll None last ≡ poll.Ingress
    by None = refl
    by (Some t) = refl
