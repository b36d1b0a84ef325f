-- The sizes of sockets and of places of their queues.
use Rattle.std.specs.Mem.{type_size}
use denote.Signature.{static_lft}
use Rattle.sock_dgram.specs.contracts.icmp.socket.Socket.{the_row as icmp_row}
use Rattle.sock_dgram.specs.contracts.raw.socket.Socket.{the_row as raw_row}
use Rattle.sock_dgram.specs.contracts.udp.socket.Socket.{the_row as udp_row}
use Rattle.sock_tcp.specs.contracts.socket.Socket.{the_row as tcp_row}
use Rattle.smoltcp_c.specs.Places.{icmp_place_row, raw_place_row, udp_place_row}
use Rattle.smoltcp_c.specs.contracts.clock.Clock.{the_row as clock_row}
use Rattle.smoltcp_c.specs.declared.sizes.Sizes.{Sizes}

abbrev pub sizes : Sizes
sizes = record {
  tcp = type_size (tcp_row static_lft clock_row);
  udp = type_size (udp_row static_lft);
  udp_place = type_size udp_place_row;
  raw = type_size (raw_row static_lft);
  raw_place = type_size raw_place_row;
  icmp = type_size (icmp_row static_lft);
  icmp_place = type_size icmp_place_row;
}
