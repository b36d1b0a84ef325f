use Rattle.std.proofs.Common.{sym, subst}
use Rattle.std.specs.Option.{ForSome}
use Rattle.ip_wire.specs.Address.{SameVersion}
use Rattle.net_host.proofs.Sources.{source_version}
use Rattle.net_host.proofs.environment.Environment.source.Goals as goal

pub returns-clause-version : goal.returns-clause-version
returns-clause-version c = subst (λ o. ForSome o (λ s. SameVersion s c.args.dst.now)) (sym c.chosen.ensures) (source_version c.args.self.now.addresses.items c.args.dst.now)
