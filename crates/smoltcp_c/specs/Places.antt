-- The places of the queues of datagram sockets, as types.
use denote.Builtin.{unit}
use denote.RattleType.{RattleType}
use Rattle.ip_wire.specs.contracts.address.IpAddress.{the_row as address_row}
use Rattle.net_base.specs.contracts.packet_buffer.PacketMetadata.{the_row as place_row}
use Rattle.sock_dgram.specs.contracts.udp.socket.UdpMetadata.{the_row as udp_row}

abbrev pub icmp_place_row : RattleType
icmp_place_row = place_row address_row

abbrev pub raw_place_row : RattleType
raw_place_row = place_row unit

abbrev pub udp_place_row : RattleType
udp_place_row = place_row udp_row
