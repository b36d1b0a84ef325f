-- Of which places a program is told that their connection ended.
use Rattle.std.specs.Prelude.{ℕ, ◌≡◌, ◌<◌, ◌≤◌, Bool, true, false, List, Option, Some, None, slice_get}
use Rattle.host_bounds.specs.Marking.{bit_of}
use Rattle.smoltcp_socket.specs.declared.socket.Socket.{Socket}
use Rattle.smoltcp_socket.specs.declared.socket.Socket.TheVariants as socket
use Rattle.sock_tcp.specs.declared.state.State.{State}
use Rattle.sock_tcp.specs.declared.state.State.TheVariants as state
use Rattle.net_host.specs.declared.slot.Slot.{Slot}

-- whether there is no connection in a state
abbrev pub is_over : State → Bool
is_over state.Closed = true
is_over state.Listen = true
is_over _ = false

-- whether there is a TCP socket with none
abbrev pub is_over_in : {G : Type 0} → Option (Socket G) → Bool
is_over_in (Some (socket.Tcp x)) = is_over x.control_block.state
is_over_in _ = false

abbrev pub is_over_at : {G : Type 0} → Option (Slot G) → Bool
is_over_at None = false
is_over_at (Some s) = is_over_in s.socket

-- a mark stays, and a TCP socket at a place that has none, and has no connection, had no connection before
pub record IsTold {G : Type 0} (ss : List (Slot G)) (ms : List ℕ) (ts : List (Slot G)) (ns : List ℕ) (k : ℕ) : Type 0
  where
    pub kept : bit_of ms k ≡ 1 → bit_of ns k ≡ 1
    pub ended : (bit_of ns k ≡ 1 → ⊥) → is_over_at (slice_get ts k) ≡ true → is_over_at (slice_get ss k) ≡ true

-- so of each place: none loses its connection untold
abbrev pub TellsEnds : {G : Type 0} → List (Slot G) → List ℕ → List (Slot G) → List ℕ → Type 0
TellsEnds ss ms ts ns = (k : ℕ) → IsTold ss ms ts ns k

-- marks stay, and without one at this place there is a connection
pub record TellsHere {G : Type 0} (ss : List (Slot G)) (i : ℕ) (ms ns : List ℕ) : Type 0 where
  pub kept : (k : ℕ) → bit_of ms k ≡ 1 → bit_of ns k ≡ 1
  pub ended : (bit_of ns i ≡ 1 → ⊥) → is_over_at (slice_get ss i) ≡ true → ⊥

-- the first place from one on of which it is told
pub record IsNextEnd (ms : List ℕ) (from count i : ℕ) : Type 0 where
  pub behind : from ≤ i
  pub within : i < count
  pub marked : bit_of ms i ≡ 1
  pub before : (k : ℕ) → from ≤ k → k < i → bit_of ms k ≡ 0

abbrev pub FindsEnd : List ℕ → (from count : ℕ) → Option ℕ → Type 0
FindsEnd ms from count None = (k : ℕ) → from ≤ k → k < count → bit_of ms k ≡ 0
FindsEnd ms from count (Some i) = IsNextEnd ms from count i
