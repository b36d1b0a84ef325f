use Rattle.std.proofs.Common.{rules}
use Rattle.sock_pair.proofs.ScriptNumbers.{number_parts}
use Rattle.sock_pair.proofs.script.values.index.Goals as goal

pub value-value-requires-clause-few : goal.value-value-requires-clause-few
value-value-requires-clause-few c = (number_parts c.args.word.now (search rules)).0

pub value-value-requires-clause-digits : goal.value-value-requires-clause-digits
value-value-requires-clause-digits c = (number_parts c.args.word.now (search rules)).1
