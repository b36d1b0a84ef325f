-- A socket in TIME-WAIT that listens again accepts the SYN.
use Rattle.std.proofs.Common.{◌≡◌, ◌<◌, ◌∙◌, true, false, Option, Some, None, refl, sym, subst, ap}
use Rattle.std.specs.Prelude.{Result}
use Rattle.ip_wire.specs.declared.endpoint.IpListenEndpoint.{IpListenEndpoint}
use Rattle.ip_wire.specs.declared.repr.IpRepr.{IpRepr}
use Rattle.control_wire.specs.Segment.{Segment}
use Rattle.control_wire.specs.declared.seq_number.TcpSeqNumber.{TcpSeqNumber}
use Rattle.control_wire.specs.declared.tcp.TcpControl.{TcpControl}
use Rattle.control_wire.specs.declared.tcp.TcpControl.TheVariants as control
use Rattle.sock_tcp.specs.Opening.{Listens, is_open, listened, renewed}
use Rattle.sock_tcp.specs.Process.{Accepts, IsToListener}
use Rattle.sock_tcp.specs.View.{View, fresh}
use Rattle.sock_tcp.specs.declared.error.ListenError.{ListenError}
use Rattle.sock_tcp.specs.declared.state.State.{State}
use Rattle.sock_tcp.specs.declared.state.State.TheVariants as state
use Rattle.net_host.specs.Resting.{RestsFor, is_opening, is_resting, opens_by}

no_truth : false ≡ true → ⊥
no_truth e = cc

not_open : (st : State) → is_resting st ≡ true → is_open st ≡ false
not_open state.TimeWait h = refl
not_open state.Closed h = refl
not_open state.Listen h = absurd (no_truth h)
not_open state.SynSent h = absurd (no_truth h)
not_open state.SynReceived h = absurd (no_truth h)
not_open state.Established h = absurd (no_truth h)
not_open state.FinWait1 h = absurd (no_truth h)
not_open state.FinWait2 h = absurd (no_truth h)
not_open state.CloseWait h = absurd (no_truth h)
not_open state.Closing h = absurd (no_truth h)
not_open state.LastAck h = absurd (no_truth h)

pub no_ack : (c : TcpControl) (a : Option TcpSeqNumber) → opens_by c a ≡ true → a ≡ None
no_ack control.Syn None h = refl
no_ack control.Syn (Some n) h = absurd (no_truth h)
no_ack control.None a h = absurd (no_truth h)
no_ack control.Psh a h = absurd (no_truth h)
no_ack control.Fin a h = absurd (no_truth h)
no_ack control.Rst a h = absurd (no_truth h)

pub no_reset : (c : TcpControl) (a : Option TcpSeqNumber) → opens_by c a ≡ true → c ≡ control.Rst → ⊥
no_reset control.Rst a h e = no_truth h
no_reset control.Syn a h e = cc
no_reset control.None a h e = cc
no_reset control.Psh a h e = cc
no_reset control.Fin a h e = cc

accepts : (v : View) (e : IpListenEndpoint) (ip : IpRepr) (s : Segment) → e ≡ v.listen_endpoint → RestsFor v ip s → is_opening s ≡ true → Accepts (listened v e) ip s
unfolding listened renewed fresh
accepts v e ip s is h opening = (record { no_ack = no_ack s.control s.ack_number opening; no_reset = no_reset s.control s.ack_number opening }, subst (λ d. IsToListener d ip s) (sym is) h.served)

pub again : (v w : View) (r : Result (Unit {0}) ListenError) (e : IpListenEndpoint) (ip : IpRepr) (s : Segment) → e ≡ v.listen_endpoint → RestsFor v ip s → is_opening s ≡ true → Listens v e r w → Accepts w ip s
again v w r e ip s is h opening l =
    let port : 0 < e.port = subst (λ n. 0 < n) (h.served.port ∙ ap (λ (d : IpListenEndpoint). d.port) (sym is)) h.served.not_zero in
    let now : w ≡ listened v e = (l.opens port (not_open v.state h.state)).1 in
    subst (λ x. Accepts x ip s) (sym now) (accepts v e ip s is h opening)
