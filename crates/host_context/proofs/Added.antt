-- One packet more in an outbox.
use Rattle.std.proofs.Common.{◌≡◌, ℕ, List, [], ◌∷◌, ◌++◌, ap, ◌∙◌}
use Rattle.std.proofs.lemmas.List.{map-append}
use Rattle.std.specs.Prelude.{Vec}
use Rattle.std.specs.Global.{Global}
use Rattle.host_context.specs.Outbox.{octets}

pub octets_added : (old new : List (Vec ℕ Global)) (p : Vec ℕ Global) → new ≡ old ++ p ∷ [] → octets new ≡ octets old ++ p.items ∷ []
octets_added old new p is = ap octets is ∙ map-append (λ (q : Vec ℕ Global). q.items) old (p ∷ [])
