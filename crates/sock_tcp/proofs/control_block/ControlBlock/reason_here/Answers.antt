use Rattle.std.proofs.Common.{◌≡◌, ◌∙◌, ap, ap₂}
use Rattle.net_base.specs.declared.time.Instant.{Instant}
use Rattle.sock_tcp.specs.Next.{reason_by}
use Rattle.sock_tcp.specs.View.{moment_of}
use Rattle.sock_tcp.proofs.control_block.ControlBlock.reason_here.Goals as goal

pub returns : goal.returns
returns g c =
    let m : c.now.result ≡ moment_of (g.C.Context.facts c.args.cx.now) = ap (λ n. record { micros = n }) c.now.ensures.value in
    c.reason.ensures ∙ ap₂ (λ (n : Instant) p. reason_by c.args.self.now c.args.mss n p) m c.poll_at-poll.ensures
