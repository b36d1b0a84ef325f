-- Where a socket listens: no table changes it, but a reset.
use Rattle.std.proofs.Common.{◌≡◌, ℕ, ◌<◌, Bool, true, false, refl, sym, ap, ◌∙◌, arith, List}
use Rattle.std.specs.Prelude.{not, ◌==◌}
use Rattle.std.proofs.lemmas.Bool.{eqb-true}
use Rattle.ip_wire.specs.declared.endpoint.IpListenEndpoint.{IpListenEndpoint}
use Rattle.ip_wire.specs.declared.repr.IpRepr.{IpRepr}
use Rattle.net_base.specs.declared.time.Instant.{Instant}
use Rattle.control_wire.specs.Segment.{Segment}
use Rattle.sock_tcp.specs.View.{View, fresh}
use Rattle.sock_tcp.specs.Opening.{listened, connected, renewed}
use Rattle.sock_tcp.specs.Closing.{closed, aborted, closed_in}
use Rattle.sock_tcp.specs.Queues.{queued, read_off}
use Rattle.tcp_laws.proofs.Frames.{process_brings}
use Rattle.sock_tcp.specs.Process.{processed}
use Rattle.sock_tcp.specs.declared.state.State.TheVariants as state
use Rattle.sock_tcp.specs.declared.tuple.Tuple.{Tuple}
use Rattle.pair_core.specs.PairInvariant.{IsHost}
use Rattle.pair_core.specs.PairNetwork.{is_listener, is_passive}
use Rattle.pair_core.specs.PairViews.{HostView}
use Rattle.pair_core.specs.declared.host.Opening.TheVariants as opening

-- a socket that is not CLOSED afterwards was not before, and listens where it did
abbrev pub KeepsListener : View → View → Type 0
KeepsListener v w = (w.state ≡ state.Closed → ⊥) → (v.state ≡ state.Closed → ⊥) × (w.listen_endpoint ≡ v.listen_endpoint)

-- so it is passive where it was
pub passive_kept : {G : Type 0} (h k : HostView G) → IsHost h → k.opening ≡ h.opening → KeepsListener h.control_block k.control_block → (k.opening ≡ opening.Unopened → ⊥) → (k.control_block.state ≡ state.Closed → ⊥) → is_passive k.control_block ≡ is_listener k.opening
passive_kept h k i e keeps shut live =
    let x = keeps live in
    ap (λ (z : IpListenEndpoint). not (z.port == 0)) x.1 ∙ i.passive (λ u. shut (e ∙ u)) x.0 ∙ ap is_listener (sym e)

-- ---- the calls of the application

port_is_some : (n : ℕ) → 0 < n → not (n == 0) ≡ true
port_is_some n lt = go (n == 0) refl
  where
    go : (b : Bool) → (n == 0) ≡ b → not b ≡ true
    go true e = let none : n ≡ 0 = eqb-true n 0 e in absurd (omega (arith, lt, none))
    go false e = refl

pub listened_passive : (v : View) (e : IpListenEndpoint) → 0 < e.port → is_passive (listened v e) ≡ true
unfolding listened renewed fresh
listened_passive v e lt = port_is_some e.port lt

pub connected_active : (v : View) (t : Tuple) (word : ℕ) → is_passive (connected v t word) ≡ false
unfolding connected renewed fresh
connected_active v t word = refl

pub queued_listens : (v : View) (k : ℕ) (bs : List ℕ) → KeepsListener v (queued v k bs)
unfolding queued
queued_listens v k bs = λ n. (n, refl)

pub read_listens : (v : View) (n : ℕ) → KeepsListener v (read_off v n)
unfolding read_off
read_listens v k = λ n. (n, refl)

-- ---- closing

pub closed_listens : (v : View) → KeepsListener v (closed v)
closed_listens v = λ n. ((λ e. n (ap (λ st. closed_in st v.rules) e)), refl)

pub aborted_listens : (v : View) → KeepsListener v (aborted v)
aborted_listens v = λ n. absurd (n refl)

-- ---- process

pub process_listens : (v : View) (now : Instant) (word : ℕ) (ip : IpRepr) (s : Segment) → (processed v now word ip s).view.listen_endpoint ≡ v.listen_endpoint
process_listens v now word ip s = (process_brings v now word ip s v.rules).listen
