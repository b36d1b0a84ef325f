-- What a socket is asked by a number: the numbers are the same for all kinds of sockets.
use Rattle.std.specs.Prelude.{ℕ, ℤ, pos, Some, ◌==◌, ◌*◌, ◌^◌, min, length, if◌then◌else◌}
use Rattle.net_base.specs.Packets.{Packets, taken}
use Rattle.sock_core.specs.Received.{room_of}
use Rattle.sock_dgram.specs.Datagrams.{has_entry, has_place}
use Rattle.sock_dgram.specs.Icmp as icmp
use Rattle.sock_dgram.specs.Raw as raw
use Rattle.sock_dgram.specs.Udp as udp
use Rattle.sock_tcp.specs.Opening.{is_active, is_listening, is_open}
use Rattle.sock_tcp.specs.Queue.{capacity}
use Rattle.sock_tcp.specs.Queues.{may_recv}
use Rattle.sock_tcp.specs.Settings.{kind_of}
use Rattle.sock_tcp.specs.View.{View}
use Rattle.sock_tcp.specs.Work.{has_work}
use Rattle.smoltcp_c.specs.Answers.{error_range, flag_answer}
use Rattle.smoltcp_c.specs.Raw.{protocol_told, version_told}
use Rattle.smoltcp_c.specs.Tcp.{byte_told, kind_told, rules_told, micros_told}

-- how full the two queues of a datagram socket are, and how much they hold: 2^30 at most; or what else it is asked
abbrev pub queues_told : {M : Type 0} → ℕ → Packets M → Packets M → ℤ → ℤ
queues_told n tx rx other =
    if n == 0 then flag_answer (has_place tx)
    else if n == 1 then flag_answer (has_entry rx)
    else if n == 2 then pos (min (taken tx.entries) (2 ^ 30))
    else if n == 3 then pos (min (taken rx.entries) (2 ^ 30))
    else if n == 6 then pos (min tx.places (2 ^ 30))
    else if n == 7 then pos (min rx.places (2 ^ 30))
    else if n == 8 then pos (min (length tx.storage) (2 ^ 30))
    else if n == 9 then pos (min (length rx.storage) (2 ^ 30))
    else other

unfoldable pub udp_told : ℕ → udp.View → ℤ
udp_told n v = queues_told n v.tx_buffer v.rx_buffer
    (if n == 4 then flag_answer (udp.is_open v) else if n == 5 then byte_told v.hop_limit else error_range)

unfoldable pub icmp_told : ℕ → icmp.View → ℤ
icmp_told n v = queues_told n v.tx_buffer v.rx_buffer
    (if n == 4 then flag_answer (icmp.is_open v) else if n == 5 then byte_told v.hop_limit else error_range)

unfoldable pub raw_told : ℕ → raw.View → ℤ
raw_told n v = queues_told n v.tx_buffer v.rx_buffer
    (if n == 10 then version_told v.ip_version else if n == 11 then protocol_told v.ip_protocol else error_range)

-- the settings of a TCP socket
unfoldable pub setting_told : ℕ → View → ℤ
setting_told n v =
    if n == 5 then byte_told v.hop_limit
    else if n == 18 then micros_told v.timeout
    else if n == 19 then micros_told v.keep_alive
    else if n == 20 then micros_told v.ack_delay
    else if n == 21 then flag_answer v.nagle
    else if n == 22 then kind_told (kind_of v.congestion_controller)
    else if n == 23 then flag_answer v.stamps
    else if n == 24 then rules_told v.rules
    else if n == 25 then micros_told (Some (record { micros = v.rtte.least * 1000 }))
    else error_range

-- a TCP socket
unfoldable pub tcp_told : ℕ → View → ℤ
tcp_told n v =
    if n == 2 then pos (length v.tx_buffer.bytes)
    else if n == 3 then pos (length v.rx_buffer.bytes)
    else if n == 4 then flag_answer (is_open v.state)
    else if n == 12 then flag_answer (is_listening v.state)
    else if n == 13 then flag_answer (is_active v.state)
    else if n == 14 then flag_answer (has_work v)
    else if n == 15 then flag_answer (may_recv v)
    else if n == 16 then pos (capacity v.tx_buffer)
    else if n == 17 then pos (room_of v.rx_buffer)
    else setting_told n v
