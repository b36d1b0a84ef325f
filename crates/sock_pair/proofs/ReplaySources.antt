-- Calls on a source, one after the other.
use Rattle.std.proofs.Common.{◌≡◌, ℕ, List, [], ◌++◌, Option, None, Some, IfSome, ap, ◌∙◌, append_assoc, append-nil, sym, refl}
use Rattle.std.specs.Io.KnownBytes.{Consumes, IsAtEnd}

pub consumes_nil : (a : Option (List ℕ)) → Consumes a a []
consumes_nil None = tt
consumes_nil (Some x) = refl

pub consumes_both : (a b c : Option (List ℕ)) (bs cs : List ℕ) → Consumes a b bs → Consumes b c cs → Consumes a c (bs ++ cs)
consumes_both None b c bs cs p q = tt
consumes_both (Some x) None c bs cs p q = absurd p
consumes_both (Some x) (Some y) None bs cs p q = absurd q
consumes_both (Some x) (Some y) (Some z) bs cs p q = p ∙ ap (λ l. bs ++ l) q ∙ sym (append_assoc bs cs z)

-- a source that is at its end gave all that it had
pub consumes_all : (a b : Option (List ℕ)) (bs : List ℕ) → Consumes a b bs → IsAtEnd b → IfSome a (λ xs. xs ≡ bs)
consumes_all None b bs p e = tt
consumes_all (Some x) None bs p e = absurd p
consumes_all (Some x) (Some y) bs p e = p ∙ ap (λ l. bs ++ l) e ∙ append-nil bs
