use Rattle.progress_laws.proofs.Premises.{premises_can_be_met}
use Rattle.progress_laws.proofs.premises_can_be_met.Goals as goal

pub returns : goal.returns
returns c = premises_can_be_met
