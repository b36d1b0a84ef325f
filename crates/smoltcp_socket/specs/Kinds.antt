-- The socket that the enum of all kinds holds, where it is of the kind asked for, and when it wants its next dispatch.
use Rattle.std.specs.Prelude.{Option, Some, None}
use Rattle.sock_core.specs.Facts.{Facts}
use Rattle.sock_core.specs.declared.context.PollAt.{PollAt}
use Rattle.sock_dgram.specs.Datagrams as datagrams
use Rattle.sock_dgram.specs.Raw as raw
use Rattle.sock_dgram.specs.Icmp as icmp
use Rattle.sock_dgram.specs.Udp as udp
use Rattle.sock_tcp.specs.Poll as segments
use Rattle.sock_tcp.specs.declared.socket.Socket as tcp
use Rattle.smoltcp_socket.specs.declared.socket.Socket.{Socket}
use Rattle.smoltcp_socket.specs.declared.socket.Socket.TheVariants.{Raw, Icmp, Udp, Tcp}

abbrev pub raw_of : {G : Type 0} → Socket G → Option raw.View
raw_of (Raw s) = Some s
raw_of (Icmp s) = None
raw_of (Udp s) = None
raw_of (Tcp s) = None

abbrev pub icmp_of : {G : Type 0} → Socket G → Option icmp.View
icmp_of (Raw s) = None
icmp_of (Icmp s) = Some s
icmp_of (Udp s) = None
icmp_of (Tcp s) = None

abbrev pub udp_of : {G : Type 0} → Socket G → Option udp.View
udp_of (Raw s) = None
udp_of (Icmp s) = None
udp_of (Udp s) = Some s
udp_of (Tcp s) = None

abbrev pub tcp_of : {G : Type 0} → Socket G → Option (tcp.Socket G)
tcp_of (Raw s) = None
tcp_of (Icmp s) = None
tcp_of (Udp s) = None
tcp_of (Tcp s) = Some s

-- when a socket wants its next dispatch: as its kind does
abbrev pub polls : {G : Type 0} → Socket G → Facts → PollAt
polls (Raw s) f = datagrams.poll_moment s.tx_buffer
polls (Icmp s) f = datagrams.poll_moment s.tx_buffer
polls (Udp s) f = datagrams.poll_moment s.tx_buffer
polls (Tcp s) f = segments.poll_moment s.control_block f
