use Rattle.std.proofs.Common.{◌≡◌, ◌^◌, ◌<◌, take}
use Rattle.sock_pair.specs.ScriptWords.{value_of}
use Rattle.sock_pair.proofs.script.values.value.Given as goal

abbrev pub invariant-loop-digit : goal.invariant-loop-digit
invariant-loop-digit l = record { read : l.value ≡ value_of (take l.digit-index l.digits); small : l.value < 10 ^ l.digit-index }
