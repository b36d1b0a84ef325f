use Rattle.std.proofs.Common.{◌≡◌, ◌∙◌, sym, ap}
use Rattle.control_wire.specs.Segment.{segment_of}
use Rattle.sock_tcp.specs.Explain.{row_of}
use Rattle.sock_tcp.specs.View.{moment_of}
use Rattle.sock_tcp.proofs.Explaining.{no_row_is_not_accepted}
use Rattle.sock_tcp.proofs.socket.Socket.explain.Goals as goal

pub returns-clause-row : goal.returns-clause-row
returns-clause-row g c accepted = c.row.ensures ∙ ap (λ t. row_of c.args.self.now.control_block t (segment_of c.args.repr.now)) same
  where
    same : c.now.result ≡ moment_of (g.C.Context.facts c.args.cx.now)
    same = λ i. record { micros = c.now.ensures.value i }

pub returns-clause-accepted : goal.returns-clause-accepted
returns-clause-accepted g c accepted is = no_row_is_not_accepted c.args.self.now.control_block c.now.result c.args.ip_repr.now (segment_of c.args.repr.now) (sym c.row.ensures ∙ is)
