use Rattle.net_host.proofs.Believed.{believed, heard, only_awaited}
use Rattle.net_host.proofs.cookies.answers_are_believed.Goals as goal

pub returns-clause-believed : goal.returns-clause-believed
returns-clause-believed c = believed c.answers_are_recognised.ensures c.offers_come_back.ensures

pub returns-clause-heard : goal.returns-clause-heard
returns-clause-heard c = heard c.offers_come_back.ensures

pub returns-clause-awaited : goal.returns-clause-awaited
returns-clause-awaited c = only_awaited
