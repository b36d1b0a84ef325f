-- The sockets of a set, in the order of handles.
use Rattle.std.specs.Prelude.{ℕ, ◌≡◌, ◌+◌, ◌-◌, ◌≤◌, ◌<◌, List, length, Option, Some, None, IfSome, slice_get}
use Rattle.std.specs.Borrow.{Bor}
use Rattle.std.specs.Iterator.{Count, at_most}
use Rattle.smoltcp_socket.specs.declared.socket.Socket.{Socket}
use Rattle.net_host.specs.Slots.{IsFree, handle_at}
use Rattle.net_host.specs.declared.iter.Iter.{Iter}
use Rattle.net_host.specs.declared.slot.Slot.{Slot}
use Rattle.net_host.specs.declared.slot.SocketHandle.{SocketHandle}

-- from the place i on, the next socket: its handle, and itself; then the walk goes on behind it
pub record IsNextListed {G : Type 0} (ss : List (Slot G)) (i : ℕ) (h : SocketHandle) (s : Socket G) (j : ℕ)
    : Type 0 where
  pub behind : i ≤ h.index
  pub there : handle_at ss h.index ≡ Some h
  pub socket : IfSome (slice_get ss h.index) (λ x. x.socket ≡ Some s)
  pub before : (k : ℕ) → i ≤ k → k < h.index → IfSome (slice_get ss k) IsFree
  pub goes_on : j ≡ h.index + 1

abbrev pub Lists : {G : Type 0} → List (Slot G) → ℕ → Option (SocketHandle × Bor (Socket G)) → ℕ → Type 0
Lists ss i None j = (k : ℕ) → i ≤ k → IfSome (slice_get ss k) IsFree
Lists ss i (Some p) j = IsNextListed ss i p.0 p.1.now j

abbrev pub ListsNext : {G : Type 0} → Iter G → Option (SocketHandle × Bor (Socket G)) → Iter G → Type 0
ListsNext it item rest = Lists it.slots.now it.index item rest.index × (rest.slots.now ≡ it.slots.now)

abbrev pub left_of : {G : Type 0} → Iter G → Count
left_of it = at_most (length it.slots.now - it.index)
