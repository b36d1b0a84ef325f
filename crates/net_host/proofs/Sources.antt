-- A source address is of the version of its destination.
use Rattle.std.proofs.Common.{◌≡◌, ℕ, List, [], ◌∷◌, Bool, true, false, cond, Option, Some, None, refl, subst}
use Rattle.std.specs.Prelude.{IfSome, option_map}
use Rattle.std.specs.Option.{ForSome, option_or}
use Rattle.std.specs.List.{find}
use Rattle.std.proofs.lemmas.Option.{same_Some, none-some}
use Rattle.ip_wire.specs.Address.{SameVersion, same_version}
use Rattle.ip_wire.specs.declared.address.IpAddress.{IpAddress}
use Rattle.ip_wire.specs.declared.address.IpAddress.TheVariants as address
use Rattle.net_host.specs.Addresses.{covers, covers_by, source_of}
use Rattle.net_host.specs.declared.cidr.IpCidr.{IpCidr}

found : {X : Type 0} (P : X → Type 0) (p : X → Bool) → ((x : X) → p x ≡ true → P x) → (xs : List X) → IfSome (find p xs) P
found P p says [] = tt
found P p says (x ∷ xs) = go (p x) refl (found P p says xs)
  where
    go : (b : Bool) → p x ≡ b → IfSome (find p xs) P → IfSome (cond b (Some x) (find p xs)) P
    go true e rest = says x e
    go false e rest = rest

covers_version : (n : ℕ) (a b : IpAddress) → covers_by n a b ≡ true → SameVersion a b
covers_version n (address.Ipv4 a) (address.Ipv4 b) e = refl
covers_version n (address.Ipv6 a) (address.Ipv6 b) e = refl
covers_version n (address.Ipv4 a) (address.Ipv6 b) e = cc
covers_version n (address.Ipv6 a) (address.Ipv4 b) e = cc

version_same : (a b : IpAddress) → same_version a b ≡ true → SameVersion a b
version_same (address.Ipv4 a) (address.Ipv4 b) e = refl
version_same (address.Ipv6 a) (address.Ipv6 b) e = refl
version_same (address.Ipv4 a) (address.Ipv6 b) e = cc
version_same (address.Ipv6 a) (address.Ipv4 b) e = cc

either : {X Y : Type 0} (P : Y → Type 0) (f : X → Y) (o p : Option X) → IfSome o (λ x. P (f x)) → IfSome p (λ x. P (f x)) → IfSome (option_map f (option_or o p)) P
either P f None None h k = tt
either P f None (Some x) h k = k
either P f (Some x) p h k = h

for_some : {X : Type 0} (P : X → Type 0) (o : Option X) → IfSome o P → ForSome o P
for_some P None h x e = absurd (none-some x e)
for_some P (Some y) h x e = subst P (same_Some y x e) h

pub source_version : (cs : List IpCidr) (d : IpAddress) → ForSome (source_of cs d) (λ s. SameVersion s d)
source_version cs d =
    for_some (λ s. SameVersion s d) (source_of cs d)
    (either (λ s. SameVersion s d) (λ c. c.address) (find (λ c. covers c d) cs) (find (λ c. same_version c.address d) cs)
    (found (λ c. SameVersion c.address d) (λ c. covers c d) (λ c e. covers_version c.prefix_len c.address d e) cs)
    (found (λ c. SameVersion c.address d) (λ c. same_version c.address d) (λ c e. version_same c.address d e) cs))
