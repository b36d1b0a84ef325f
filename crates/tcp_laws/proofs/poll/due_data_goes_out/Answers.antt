use Rattle.tcp_laws.proofs.Speaking.{due_data_goes_out}
use Rattle.tcp_laws.proofs.poll.due_data_goes_out.Goals as goal

pub returns : goal.returns
returns c = due_data_goes_out
