use Rattle.std.proofs.Common.{inl}
use Rattle.sock_pair.proofs.ReplaySinks.{appends_nil}
use Rattle.sock_pair.proofs.script.play.play.Goals as goal

pub returns-in_default-clause-written : goal.returns-in_default-clause-written
returns-in_default-clause-written g c = inl (appends_nil _)
