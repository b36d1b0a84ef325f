use Rattle.sock_tcp.proofs.Reasoning.{reasons_say}
use Rattle.sock_tcp.proofs.reasons.reasons_say_what_goes_out.Goals as goal

pub returns : goal.returns
returns c = reasons_say
