-- Which window a socket tells: by the RFCs' rules none by a few bytes (RFC 9293, section 3.8.6.2.2).
use Rattle.std.specs.Prelude.{ℕ, ◌+◌, ◌-◌, ◌/◌, ◌^◌, length, min, nat_le, Bool, true, if◌then◌else◌}
use Rattle.control_wire.specs.Seq.{seq_sub}
use Rattle.sock_core.specs.Received.{room_of}
use Rattle.sock_tcp.specs.View.{View}
use Rattle.sock_tcp.specs.Window.{receive_window}
use Rattle.sock_tcp.specs.declared.rules.Rules.{Rules}
use Rattle.sock_tcp.specs.declared.rules.Rules.TheVariants as rules

-- the field that tells the free space
abbrev pub space_field : View → ℕ
space_field v = min (length v.rx_buffer.held / 2 ^ v.remote_win_shift) 65535

-- what is left of the window that was told last
abbrev pub told_left : View → ℕ
told_left v = seq_sub (receive_window v).end (receive_window v).start

-- behind its right edge lies at least half of the receive buffer, or a segment of the connection
unfoldable pub is_grown : View → Bool
is_grown v = nat_le (min (room_of v.rx_buffer / 2) v.remote_mss) (length v.rx_buffer.held - told_left v)

-- the least field that tells n bytes
abbrev pub field_up : ℕ → ℕ → ℕ
field_up n shift = (n + (2 ^ shift - 1)) / 2 ^ shift

-- the field that keeps the right edge, as far as fields and the space do: it moves on by less than 2 ^ shift
abbrev pub kept_field : View → ℕ
kept_field v = min (field_up (told_left v) v.remote_win_shift) (space_field v)

abbrev pub field_by : Rules → View → ℕ
field_by rules.Smoltcp v = space_field v
field_by rules.Rfc v = if is_grown v then space_field v else kept_field v

-- whether the right edge that is told may move on
abbrev pub may_grow : Rules → View → Bool
may_grow rules.Smoltcp v = true
may_grow rules.Rfc v = is_grown v
