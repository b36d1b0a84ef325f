-- What C has back of a socket's memory after it asked for it.
use Rattle.std.specs.Prelude.{ℕ, ℤ, pos, Bool, true, false, ◌&&◌, if◌then◌else◌, Option, Some, None, is_none, ◌≡◌}
use Rattle.std.specs.Prelude.{length}
use Rattle.net_base.specs.Packets.{Packets}
use Rattle.sock_core.specs.Received.{room_of}
use Rattle.sock_tcp.specs.Due.{is_closed}
use Rattle.sock_tcp.specs.Queue.{capacity}
use Rattle.sock_tcp.specs.View.{View}
use Rattle.sock_tcp.specs.declared.socket.Socket.{Socket}
use Rattle.smoltcp_c.specs.declared.clock.Clock.{Clock}
use Rattle.smoltcp_c.specs.declared.memory.BytesBack.{BytesBack}
use Rattle.smoltcp_c.specs.Answers.{error_state}

-- CLOSED, and no peer has yet to be told by an RST
abbrev pub may_release : View → Bool
may_release v = is_closed v.state && is_none v.tuple

abbrev pub is_released : Option (Socket Clock) → Bool
is_released None = true
is_released (Some s) = may_release s.control_block

abbrev pub release_answer : Option (Socket Clock) → ℤ
release_answer made = if is_released made then pos 0 else error_state

-- room for another socket, or the socket as it was
abbrev pub left_by_release : Option (Socket Clock) → Option (Socket Clock)
left_by_release made = if is_released made then None else made

-- so many items are C's again
pub record IsBack (n count : ℕ) (owned : Bool) : Type 0 where
  pub len : count ≡ n
  pub given : owned ≡ true

-- n bytes are, where the socket was let go of; else nothing was written
abbrev pub GivesBack : Bool → ℕ → BytesBack → BytesBack → Type 0
GivesBack true n b b' = IsBack n b'.len b'.given
GivesBack false n b b' = b' ≡ b

-- how many bytes the two buffers have
abbrev pub rx_room : Option (Socket Clock) → ℕ
rx_room None = 0
rx_room (Some s) = room_of s.control_block.rx_buffer

abbrev pub tx_room : Option (Socket Clock) → ℕ
tx_room None = 0
tx_room (Some s) = capacity s.control_block.tx_buffer

-- how many places and bytes a queue of packets has
abbrev pub places_of : {V X : Type 0} → (V → Packets X) → Option V → ℕ
places_of queue None = 0
places_of queue (Some v) = (queue v).places

abbrev pub bytes_of : {V X : Type 0} → (V → Packets X) → Option V → ℕ
bytes_of queue None = 0
bytes_of queue (Some v) = length (queue v).storage
