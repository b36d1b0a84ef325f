-- Connections and ports that sockets of a set have, and a port that none has.
use Rattle.std.specs.Prelude.{ℕ, ◌≡◌, ◌+◌, ◌%◌, ◌<◌, List, Option, Some, None, option_map}
use Rattle.ip_wire.specs.declared.address.IpAddress.{IpAddress}
use Rattle.ip_wire.specs.declared.endpoint.IpEndpoint.{IpEndpoint}
use Rattle.sock_dgram.specs.Udp as udp
use Rattle.sock_tcp.specs.View.{View}
use Rattle.smoltcp_socket.specs.declared.socket.Socket.{Socket}
use Rattle.smoltcp_socket.specs.declared.socket.Socket.TheVariants as socket
use Rattle.net_host.specs.Walks.{Nowhere}
use Rattle.net_host.specs.declared.slot.Slot.{Slot}

-- ---- who has it

-- the connection between these two
pub record IsBetween (l r : IpEndpoint) (v : View) : Type 0 where
  pub local : option_map (λ t. t.local) v.tuple ≡ Some l
  pub remote : option_map (λ t. t.remote) v.tuple ≡ Some r

abbrev pub ConnectsIn : {G : Type 0} → Option (Socket G) → IpEndpoint → IpEndpoint → Type 0
ConnectsIn None local remote = ⊥
ConnectsIn (Some (socket.Raw x)) local remote = ⊥
ConnectsIn (Some (socket.Icmp x)) local remote = ⊥
ConnectsIn (Some (socket.Udp x)) local remote = ⊥
ConnectsIn (Some (socket.Tcp x)) local remote = IsBetween local remote x.control_block

-- a TCP socket with this connection, in any state; one that has an RST to send has it too
abbrev pub Connects : {G : Type 0} → IpEndpoint → IpEndpoint → Slot G → Type 0
Connects local remote s = ConnectsIn s.socket local remote

abbrev pub BindsIn : {G : Type 0} → Option (Socket G) → ℕ → Type 0
BindsIn None port = ⊥
BindsIn (Some (socket.Raw x)) port = ⊥
BindsIn (Some (socket.Icmp x)) port = ⊥
BindsIn (Some (socket.Udp x)) port = x.endpoint.port ≡ port
BindsIn (Some (socket.Tcp x)) port = ⊥

-- a UDP socket that is bound to this port, at any address
abbrev pub Binds : {G : Type 0} → ℕ → Slot G → Type 0
Binds port s = BindsIn s.socket port

-- ---- a port that nobody has (RFC 6056, section 3.3.1; RFC 6335, section 6)

-- the ports of programs that ask for none, beginning anywhere among them
abbrev pub port_after : (start k : ℕ) → ℕ
port_after start k = 49152 + (start + k) % 16384

-- the first of them for which P holds of no slot
pub record IsFirstFree {X : Type 0} (P : ℕ → X → Type 0) (xs : List X) (start n : ℕ) : Type 0 where
  pub tries : ℕ
  pub within : tries < 16384
  pub port : n ≡ port_after start tries
  pub free : Nowhere (P n) xs
  pub before : (k : ℕ) → k < tries → Nowhere (P (port_after start k)) xs → ⊥

abbrev pub FindsFree : {X : Type 0} → (ℕ → X → Type 0) → List X → ℕ → Option ℕ → Type 0
FindsFree P xs start None = (k : ℕ) → k < 16384 → Nowhere (P (port_after start k)) xs → ⊥
FindsFree P xs start (Some port) = IsFirstFree P xs start port

-- with this port at an address
abbrev pub at_port : IpAddress → ℕ → IpEndpoint
at_port a port = record { addr = a; port = port }
