-- Under which keys the socket of a place is filed.
use Rattle.std.specs.Prelude.{ℕ, ◌+◌, ◌*◌, nat_eq, min, false, Option, Some, None, if◌then◌else◌}
use Rattle.std.specs.Int.{from_be_bytes, w32, w128}
use Rattle.ip_wire.specs.declared.address.IpAddress.{IpAddress}
use Rattle.ip_wire.specs.declared.address.IpAddress.TheVariants as address
use Rattle.net_base.specs.declared.time.Instant.{Instant}
use Rattle.sock_tcp.specs.Ends.{close_end}
use Rattle.sock_tcp.specs.View.{View}
use Rattle.sock_tcp.specs.declared.state.State.{State}
use Rattle.sock_tcp.specs.declared.state.State.TheVariants as state
use Rattle.sock_tcp.specs.declared.tuple.Tuple.{Tuple}
use Rattle.smoltcp_socket.specs.declared.socket.Socket.{Socket}
use Rattle.smoltcp_socket.specs.declared.socket.Socket.TheVariants as socket
use Rattle.net_host.specs.Entries.{ordered}
use Rattle.net_host.specs.Indexing.{no_keys}
use Rattle.net_host.specs.declared.key.Key.{Key}
use Rattle.net_host.specs.declared.key.Key.TheVariants as key
use Rattle.net_host.specs.declared.key.Keys.{Keys}
use Rattle.host_index.specs.declared.entry.Entry.{Entry}
use Rattle.net_host.specs.declared.slot.Slot.{Slot}

-- ---- keys

-- An address as a number; one of IPv4 as if it were mapped (RFC 4291, section 2.5.5.2). The last one of IPv6, a
-- multicast address, has the number of the one before it.
unfoldable pub number_of : IpAddress → ℕ
number_of (address.Ipv4 a) = from_be_bytes w32 a.0 + 281470681743360
number_of (address.Ipv6 a) = min (from_be_bytes w128 a.0) 340282366920938463463374607431768211454

abbrev pub connection_key : Tuple → Entry
connection_key t = record {
  major = number_of t.remote.addr;
  minor = t.local.port * 65536 + t.remote.port;
  place = 0;
}

-- Of a socket that listens on a port, of one that did, and of one in TIME-WAIT that did. The second parts of the last
-- two are from 2^32 on, and those of all other keys below.
abbrev pub listener_key : ℕ → Entry
listener_key port = record { major = 0; minor = port; place = 0 }

abbrev pub server_key : ℕ → Entry
server_key port = record { major = 65536; minor = port + 4294967296; place = 0 }

-- of raw sockets, which is the least, and of ICMP sockets
abbrev pub raw_key : Entry
raw_key = record { major = 0; minor = 0; place = 0 }

abbrev pub icmp_key : Entry
icmp_key = record { major = 2; minor = 1; place = 0 }

-- of a UDP socket that is bound to a port
abbrev pub udp_key : ℕ → Entry
udp_key port = record { major = 3; minor = port; place = 0 }

abbrev pub rest_major : ℕ → ℕ
rest_major port = port + 65536

-- one whose TIME-WAIT ends at no moment that has a number never gives way
abbrev pub rest_by : Option ℕ → ℕ → Key
rest_by (Some n) port = key.Under (record { major = rest_major port; minor = n; place = 0 })
rest_by None port = key.Nothing

-- ---- the keys of a TCP socket

abbrev pub listener_by : Option Tuple → ℕ → Key
listener_by None port = key.Under (listener_key port)
listener_by (Some t) port = key.Under (listener_key t.local.port)

abbrev pub connection_by : Option Tuple → Key
connection_by None = key.Nothing
connection_by (Some t) = key.Under (connection_key t)

abbrev pub first_by : State → Option Tuple → ℕ → Key
first_by state.Closed t port = key.Nothing
first_by state.Listen t port = listener_by t port
first_by _ t port = connection_by t

-- of one that was opened on a port
abbrev pub opened_by : State → Option Instant → ℕ → Key
opened_by state.Closed end port = key.Nothing
opened_by state.Listen end port = key.Nothing
opened_by state.TimeWait (Some t) port = rest_by (ordered t) port
opened_by _ end port = key.Under (server_key port)

-- no segment is for a listener on port 0, which is that of those that connected
abbrev pub second_by : State → Option Instant → ℕ → Key
second_by st end port = if nat_eq port 0 then key.Nothing else opened_by st end port

-- of a connection that is not in TIME-WAIT
abbrev pub server_by : ℕ → Key
server_by port = if nat_eq port 0 then key.Nothing else key.Under (server_key port)

abbrev pub keys_by : View → Keys
keys_by v = record {
  first = first_by v.state v.tuple v.listen_endpoint.port;
  second = second_by v.state (close_end v.timer) v.listen_endpoint.port;
  free = false;
}

abbrev pub one_key : Entry → Keys
one_key e = record { first = key.Under e; second = key.Nothing; free = false }

abbrev pub keys_in : {G : Type 0} → Option (Socket G) → Keys
keys_in (Some (socket.Tcp x)) = keys_by x.control_block
keys_in (Some (socket.Raw x)) = one_key raw_key
keys_in (Some (socket.Icmp x)) = one_key icmp_key
keys_in (Some (socket.Udp x)) = one_key (udp_key x.endpoint.port)
keys_in None = no_keys

abbrev pub keys_of : {G : Type 0} → Slot G → Keys
keys_of s = keys_in s.socket
