-- What the numbers of C mean, and the numbers for what C is told.
use Rattle.std.specs.Prelude.{ℕ, ℤ, nat_le, ◌^◌, true, pos, negsuc, ◌≡◌, ◌==◌, Bool, not, Option, Some, None, List, []}
use Rattle.std.specs.Prelude.{◌∷◌, if◌then◌else◌}
use Rattle.ip_wire.specs.declared.address.IpAddress.{IpAddress}
use Rattle.ip_wire.specs.declared.address.IpAddress.TheVariants as address
use Rattle.ip_wire.specs.declared.endpoint.IpEndpoint.{IpEndpoint}
use Rattle.ip_wire.specs.declared.endpoint.IpListenEndpoint.{IpListenEndpoint}
use Rattle.net_base.specs.declared.time.Duration.{Duration}
use Rattle.sock_tcp.specs.declared.rules.Rules.{Rules}
use Rattle.sock_tcp.specs.declared.rules.Rules.TheVariants as rules
use Rattle.sock_tcp.specs.declared.settings.CongestionControl.{CongestionControl}
use Rattle.sock_tcp.specs.declared.settings.CongestionControl.TheVariants as congestion
use Rattle.smoltcp_c.specs.declared.endpoints.Address.{Address}
use Rattle.smoltcp_c.specs.declared.endpoints.Endpoint.{Endpoint}

-- any number but 0 is true
abbrev pub flag_in : ℕ → Bool
flag_in n = not (n == 0)

-- microseconds, or none below 0
abbrev pub micros_in : ℤ → Option Duration
micros_in (pos n) = Some (record { micros = n })
micros_in (negsuc n) = None

-- what a setting may be
abbrev pub is_short : Option Duration → Bool
is_short None = true
is_short (Some d) = nat_le d.micros (2 ^ 61)

-- the same where it is not above 2^61 microseconds
unfoldable pub lasting : ℤ → Option (Option Duration)
lasting n = if is_short (micros_in n) then Some (micros_in n) else None

-- the kind of congestion control with this number
unfoldable pub control_by : ℕ → Option CongestionControl
control_by n =
    if n == 0 then Some congestion.None
    else if n == 1 then Some congestion.Reno
    else if n == 2 then Some congestion.Cubic else None

-- the rules with this number
unfoldable pub rules_by : ℕ → Option Rules
rules_by n = if n == 0 then Some rules.Smoltcp else if n == 1 then Some rules.Rfc else None

-- a byte, or none where it is 0
abbrev pub byte_or_none : ℕ → Option ℕ
byte_or_none n = if n == 0 then None else Some n

abbrev pub address_in : Address → IpAddress
address_in n = if n.version == 4 then address.Ipv4 (record { 0 = n.v4 }) else address.Ipv6 (record { 0 = n.v6 })

abbrev pub endpoint_in : Endpoint → IpEndpoint
endpoint_in n = record { addr = address_in n.addr; port = n.port }

-- without an address where the version is 0
abbrev pub listen_in : Endpoint → IpListenEndpoint
listen_in n = record { addr = if n.addr.version == 0 then None else Some (address_in n.addr); port = n.port }

-- ---- endpoints: the bytes of the other version are 0

abbrev pub zeros_4 : List ℕ
zeros_4 = 0 ∷ 0 ∷ 0 ∷ 0 ∷ []

abbrev pub zeros_16 : List ℕ
zeros_16 = 0 ∷ 0 ∷ 0 ∷ 0 ∷ 0 ∷ 0 ∷ 0 ∷ 0 ∷ 0 ∷ 0 ∷ 0 ∷ 0 ∷ 0 ∷ 0 ∷ 0 ∷ 0 ∷ []

abbrev pub address_told : IpAddress → Address
address_told (address.Ipv4 a) = record { version = 4; v4 = a.0; v6 = zeros_16 }
address_told (address.Ipv6 a) = record { version = 6; v4 = zeros_4; v6 = a.0 }

abbrev pub address_or_none_told : Option IpAddress → Address
address_or_none_told None = record { version = 0; v4 = zeros_4; v6 = zeros_16 }
address_or_none_told (Some a) = address_told a

abbrev pub endpoint_told : IpEndpoint → Endpoint
endpoint_told e = record { addr = address_told e.addr; port = e.port }

abbrev pub listen_told : IpListenEndpoint → Endpoint
listen_told e = record { addr = address_or_none_told e.addr; port = e.port }

-- the endpoint is written where there is one
abbrev pub TellsEnd : Option IpEndpoint → Endpoint → ℤ → Endpoint → Type 0
TellsEnd None out result out' = (result ≡ pos 0) × (out' ≡ out)
TellsEnd (Some e) out result out' = (result ≡ pos 1) × (out' ≡ endpoint_told e)
