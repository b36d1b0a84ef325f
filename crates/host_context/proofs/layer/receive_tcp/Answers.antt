use Rattle.std.proofs.Common.{◌∙◌}
use Rattle.std.proofs.lemmas.Option.{same_Some}
use Rattle.host_context.proofs.layer.receive_tcp.Goals as goal

pub returns-clause-table : goal.returns-clause-table
returns-clause-table g c = λ p k x. c.hear.ensures.table p (same_Some _ _ (c.in-Ok.ensures ∙ k))
