-- A host as C holds it: what its numbers mean, and what its calls do.
use Rattle.std.specs.Prelude.{ℕ, ℤ, pos, negsuc, ◌≡◌, ◌==◌, ◌||◌, Bool, true, false, List, Option, Some, None}
use Rattle.std.specs.Prelude.{Result, Ok, Err, length, map}
use Rattle.std.specs.List.{All, list_all}
use Rattle.std.specs.Mem.{type_size}
use Rattle.rand_chacha.specs.ChaCha.{of_seed}
use Rattle.ip_wire.specs.declared.address.IpAddress.{IpAddress}
use Rattle.ip_wire.specs.declared.address.IpAddress.TheVariants as address
use Rattle.host_groups.specs.Joining.{no_groups}
use Rattle.host_groups.specs.declared.joining.MulticastError.{MulticastError}
use Rattle.host_groups.specs.declared.joining.MulticastError.TheVariants as group
use Rattle.net_host.specs.Addresses.{source_of}
use Rattle.net_host.specs.Counts.{no_counts}
use Rattle.net_host.specs.Guards.{usual}
use Rattle.net_host.specs.Limits.{full_limit}
use Rattle.net_host.specs.Slots.{IsFree}
use Rattle.net_host.specs.declared.cidr.IpCidr.{IpCidr}
use Rattle.net_host.specs.declared.counters.Counters as counted
use Rattle.net_host.specs.declared.guard.GuardSettings.{GuardSettings}
use Rattle.net_host.specs.declared.interface.Interface.{Interface}
use Rattle.net_host.specs.declared.secret.Secret.{Secret}
use Rattle.net_host.specs.declared.slot.Slot.{Slot}
use Rattle.net_host.specs.declared.slot.SocketHandle.{SocketHandle}
use Rattle.net_host.specs.declared.wire.TooShort.{TooShort}
use Rattle.smoltcp_c.specs.Answers.{error_address, error_memory, error_room, error_socket}
use Rattle.smoltcp_c.specs.Numbers.{address_in, micros_in, zeros_4, zeros_16}
use Rattle.smoltcp_c.specs.contracts.host.Host.{the_row as host_row}
use Rattle.smoltcp_c.specs.declared.clock.Clock.{Clock}
use Rattle.smoltcp_c.specs.declared.context.Cx.{Cx}
use Rattle.smoltcp_c.specs.declared.endpoints.Address.{Address}
use Rattle.smoltcp_c.specs.declared.host.Host.{Host}
use Rattle.smoltcp_c.specs.declared.host.HostHandle.{HostHandle}
use Rattle.smoltcp_c.specs.declared.host_numbers.Cidr.{Cidr}
use Rattle.smoltcp_c.specs.declared.host_numbers.Counters.{Counters}
use Rattle.smoltcp_c.specs.declared.host_numbers.Guards.{Guards}
use Rattle.smoltcp_c.specs.declared.host_numbers.Key.{Key}
use Rattle.smoltcp_c.specs.declared.host_numbers.SocketId.{SocketId}

abbrev pub host_size : ℕ
host_size = type_size host_row

-- the sockets of a host, in the order of their places
abbrev pub slots_of : Host → List (Slot Clock)
slots_of w = w.sockets.slots.items

abbrev pub slots : HostHandle → List (Slot Clock)
slots h = slots_of h.host

abbrev pub interface : HostHandle → Interface Secret
interface h = h.host.interface

-- ---- numbers

abbrev pub is_address : Address → Bool
is_address n = (n.version == 4) || (n.version == 6)

abbrev pub are_addresses : List Cidr → Bool
are_addresses cs = list_all (λ c. is_address c.address) cs

abbrev pub cidr_in : Cidr → IpCidr
cidr_in n = record { address = address_in n.address; prefix_len = n.prefix_len }

abbrev pub named : SocketId → SocketHandle
named n = record { index = n.index; generation = n.generation }

abbrev pub id_told : SocketHandle → SocketId
id_told h = record { index = h.index; generation = h.generation }

abbrev pub guards_in : Guards → GuardSettings
guards_in n = record {
  handshake = micros_in n.handshake;
  closing = micros_in n.closing;
  window = micros_in n.window;
  timeout = micros_in n.timeout;
}

abbrev pub counters_told : counted.Counters → Counters
counters_told c = record {
  malformed = c.malformed;
  source = c.source;
  destination = c.destination;
  protocol = c.protocol;
  segment = c.segment;
  datagram = c.datagram;
  message = c.message;
  busy = c.busy;
  nobody = c.nobody;
  full = c.full;
  cookies_sent = c.cookies_sent;
  cookies_taken = c.cookies_taken;
  cookies_wrong = c.cookies_wrong;
  too_many = c.too_many;
  too_long = c.too_long;
  unsent = c.unsent;
}

-- 1 where the call wrote what it found, 0 where it found nothing
abbrev pub Tells : {A : Type 0} → Option A → A → ℤ → A → Type 0
Tells None out result out' = (result ≡ pos 0) × (out' ≡ out)
Tells (Some x) out result out' = (result ≡ pos 1) × (out' ≡ x)

-- ---- made, and let go of

abbrev pub init_answer : Bool → Bool → ℤ
init_answer false made = error_address
init_answer true false = error_memory
init_answer true true = pos 0

-- a host with these addresses and room for so many sockets, of which it has none yet
pub record IsMade (n : ℕ) (cs : List Cidr) (key : Key) (w : Host) : Type 0 where
  pub capacity : length (slots_of w) ≡ n
  pub free : All IsFree (slots_of w)
  pub addresses : w.interface.inner.environment.addresses.items ≡ map (λ c. cidr_in c) cs
  pub words : w.interface.inner.words.generator ≡ of_seed key.bytes
  pub now : w.interface.inner.environment.now.micros ≡ pos 0
  pub mtu : w.interface.inner.environment.mtu ≡ 1500
  pub guards : w.interface.guards ≡ usual
  pub cookies : w.interface.cookies ≡ None
  pub groups : w.interface.groups ≡ no_groups
  pub turn : w.interface.turn ≡ 0
  pub resets : w.interface.resets ≡ full_limit
  pub errors : w.interface.errors ≡ full_limit
  pub counters : w.interface.counters ≡ no_counts
  pub most : w.interface.most_of_source ≡ 0
  pub complete : w.sockets.complete ≡ true

-- it has no socket
abbrev pub HasNone : Host → Type 0
HasNone w = All IsFree (slots_of w)

-- ---- settings

-- the sockets, and where the host lies
pub record KeepsSockets (h h' : HostHandle) : Type 0 where
  pub at : h'.at ≡ h.at
  pub sockets : h'.host.sockets ≡ h.host.sockets

abbrev pub group_answer : {U : Type 0} → Result U MulticastError → ℤ
group_answer (Ok u) = pos 0
group_answer (Err group.GroupTableFull) = error_room
group_answer (Err group.Unaddressable) = error_address

-- ---- packets

-- the call answered a count, of which this holds
abbrev pub Counts : ℤ → (ℕ → Type 0) → Type 0
Counts (pos n) holds = holds n
Counts (negsuc n) holds = ⊥

abbrev pub length_answer : Result ℕ TooShort → ℤ
length_answer (Ok n) = pos n
length_answer (Err e) = error_room

-- ---- the context of a connection

abbrev pub v4_of : Option IpAddress → List ℕ
v4_of (Some (address.Ipv4 a)) = a.0
v4_of _ = zeros_4

abbrev pub v6_of : Option IpAddress → List ℕ
v6_of (Some (address.Ipv6 a)) = a.0
v6_of _ = zeros_16

-- the source of packets to the peer
abbrev pub source_for : HostHandle → Address → Option IpAddress
source_for h remote = source_of (interface h).inner.environment.addresses.items (address_in remote)

-- at the host's moment and with its MTU, with this word, and the source of packets to the peer
pub record IsContext (h : HostHandle) (remote : Address) (drawn : ℕ) (cx : Cx) : Type 0 where
  pub now : cx.now ≡ (interface h).inner.environment.now.micros
  pub word : cx.word ≡ drawn
  pub ip_mtu : cx.ip_mtu ≡ (interface h).inner.environment.mtu
  pub v4 : cx.v4 ≡ v4_of (source_for h remote)
  pub v6 : cx.v6 ≡ v6_of (source_for h remote)

-- ---- sockets

-- 0 where the socket was found
abbrev pub found_answer : {A : Type 0} → Option A → ℤ
found_answer None = error_socket
found_answer (Some x) = pos 0
