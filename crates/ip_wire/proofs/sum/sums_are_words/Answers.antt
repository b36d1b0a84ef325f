use Rattle.std.proofs.Common.{◌<◌}
use Rattle.std.proofs.lemmas.List.Elements.{recursion_from_All}
use Rattle.ip_wire.proofs.Sums.{sum_small}
use Rattle.ip_wire.proofs.sum.sums_are_words.Goals as goal

pub returns : goal.returns
returns c = λ start octets h o. sum_small start octets h (recursion_from_All (λ octet. octet < 256) octets o)
