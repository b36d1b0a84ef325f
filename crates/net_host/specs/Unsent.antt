-- A socket dispatches into nothing what its host has sent for it.
use Rattle.std.specs.Prelude.{ℕ, ◌≡◌, ⊤, List, Option, Some, Result, Ok}
use Rattle.ip_wire.specs.declared.repr.IpRepr.{IpRepr}
use Rattle.control_wire.specs.declared.tcp.TcpRepr.{TcpRepr}
use Rattle.sock_core.specs.Emission.{Emit}
use Rattle.sock_core.specs.Facts.{Facts}
use Rattle.sock_tcp.specs.Dispatch.{Dispatches}
use Rattle.smoltcp_socket.specs.declared.socket.Socket.{Socket}
use Rattle.smoltcp_socket.specs.declared.socket.Socket.TheVariants as socket
use Rattle.net_host.specs.Walks.{ChangesAt}
use Rattle.net_host.specs.declared.slot.Slot.{Slot}
use Rattle.net_host.specs.declared.wire.TooShort.{TooShort}

-- it takes what it is given, and changes nothing
abbrev pub Swallows : {C : Type 0} → C → Result (Unit {0}) TooShort → C → Type 0
Swallows cx r cx' = (r ≡ Ok tt) × (cx' ≡ cx)

-- an emit that does so
abbrev pub swallowing : {C : Type 0} → Emit (Unit {0}) C (IpRepr × TcpRepr) TooShort
swallowing = record {
  pre = λ f a. ⊤;
  post = λ f a b. Swallows a.0.now b.0 b.1.0.now;
}

module _ {C G : Type 0} (facts : C → Facts) (tells : G → ℕ → Type 0) where
  -- the socket's own dispatch, with this emit
  abbrev pub SocketPasses : Option (Socket G) → C → Result (Unit {0}) TooShort → Option (Socket G) → C → Type 0
  SocketPasses (Some (socket.Tcp x)) cx r (Some (socket.Tcp y)) cx' =
      Dispatches swallowing tt (facts cx) tells x.tsval_generator x.control_block cx r y.control_block cx'
      × (y.tsval_generator ≡ x.tsval_generator)
  SocketPasses (Some (socket.Tcp x)) cx r _ cx' = ⊥
  SocketPasses s cx r t cx' = (t ≡ s) × (r ≡ Ok tt) × (cx' ≡ cx)

  pub record Passes (before : Slot G) (cx : C) (r : Result (Unit {0}) TooShort) (after : Slot G) (cx' : C)
      : Type 0 where
    pub generation : after.generation ≡ before.generation
    pub opened : after.opened ≡ before.opened
    pub guard : after.guard ≡ before.guard
    pub passed : SocketPasses before.socket cx r after.socket cx'

  -- the slot at i does so, and no other changes
  abbrev pub PassesAt : List (Slot G) → ℕ → C → Result (Unit {0}) TooShort → List (Slot G) → C → Type 0
  PassesAt ss i cx r ts cx' = ChangesAt (λ before after. Passes before cx r after cx') ss i ts
