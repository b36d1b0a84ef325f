-- The source of a datagram that a sending call took.
use Rattle.std.proofs.Common.{◌≡◌, Bool, true, false, Option, Some, None, refl, ap, subst, sym}
use Rattle.std.proofs.lemmas.Bool.{false≢true}
use Rattle.std.proofs.lemmas.Option.{none-some}
use Rattle.std.specs.Prelude.{◌&&◌, ◌==◌, not, ⊤}
use Rattle.std.specs.Option.{ForSome}
use Rattle.ip_wire.specs.Address.{SameVersion, is_unspecified}
use Rattle.ip_wire.specs.declared.address.IpAddress.{IpAddress}
use Rattle.ip_wire.specs.declared.address.IpAddress.TheVariants as address
use Rattle.ip_wire.specs.declared.protocol.IpVersion.{IpVersion}
use Rattle.ip_wire.specs.declared.protocol.IpVersion.TheVariants as version
use Rattle.sock_core.specs.Facts.{Facts}
use Rattle.ip_wire.specs.Address.{same_version}
use Rattle.sock_dgram.specs.Udp.{View, is_open, known_source, is_possible_source, is_sendable}
use Rattle.sock_dgram.specs.UdpDispatch.{chosen_source, source_of}
use Rattle.sock_dgram.specs.declared.udp.socket.UdpMetadata.{UdpMetadata}

abbrev IsIpv4 : IpVersion → Type 0
IsIpv4 version.Ipv4 = ⊤
IsIpv4 version.Ipv6 = ⊥

same : (a b : IpAddress) → SameVersion a b → same_version a b ≡ true
same (address.Ipv4 a) (address.Ipv4 b) h = refl
same (address.Ipv6 a) (address.Ipv6 b) h = refl
same (address.Ipv4 a) (address.Ipv6 b) h = absurd (subst IsIpv4 h tt)
same (address.Ipv6 a) (address.Ipv4 b) h = absurd (subst IsIpv4 (sym h) tt)

last : (a b : Bool) → (a && b) ≡ true → b ≡ true
last true b h = h
last false b h = absurd (false≢true h)

-- what an option holds
abbrev held : IpAddress → Option IpAddress → IpAddress
held a None = a
held a (Some b) = b

-- of a source that is known before the context is asked, and of the context's
from_known : (known asked : Option IpAddress) (dst s : IpAddress) → is_possible_source known dst ≡ true → ForSome asked (λ a. SameVersion a dst) → chosen_source known asked ≡ Some s → same_version s dst ≡ true
from_known (Some a) asked dst s possible lawful is = subst (λ x. same_version x dst ≡ true) (ap (held a) is) possible
from_known None (Some a) dst s possible lawful is = subst (λ x. same_version x dst ≡ true) (ap (held a) is) (same a dst (lawful a refl))
from_known None None dst s possible lawful is = absurd (none-some s is)

pub sources : (v : View) (m : UdpMetadata) (f : Facts) (s : IpAddress) → is_sendable v m ≡ true → ForSome (f.source m.endpoint.addr) (λ a. SameVersion a m.endpoint.addr) → source_of v f m ≡ Some s → same_version s m.endpoint.addr ≡ true
sources v m f s sendable lawful is =
    from_known (known_source m.local_address v.endpoint.addr) (f.source m.endpoint.addr) m.endpoint.addr s (last (not (m.endpoint.port == 0)) _ (last (not (is_unspecified m.endpoint.addr)) _ (last (is_open v) _ sendable))) lawful is
