-- That what the laws ask for can be met: of each premise two sockets, or two sides, that meet it.
use Rattle.std.specs.Prelude.{ℕ, Option}
use Rattle.ip_wire.specs.declared.endpoint.IpEndpoint.{IpEndpoint}
use Rattle.ip_wire.specs.declared.endpoint.IpListenEndpoint.{IpListenEndpoint}
use Rattle.net_base.specs.declared.time.Duration.{Duration}
use Rattle.sock_core.specs.Facts.{Facts}
use Rattle.sock_tcp.specs.View.{View}
use Rattle.sock_tcp.specs.declared.tuple.Tuple.{Tuple}
use Rattle.pair_core.specs.PairViews.{HostView}
use Rattle.progress_laws.specs.Agreement.{AgreeBothWays}
use Rattle.progress_laws.specs.Delivery.{HasCounted, HearsOf}
use Rattle.progress_laws.specs.FromOpening.{AreOpened, IsCaller, mirrored}
use Rattle.progress_laws.specs.Pairs.{BothCanComeOver}
use Rattle.progress_laws.specs.ShutWindows.{BothShut}

-- what is opened by `connect` and by `listen`
pub record SomeAreOpened : Type 0 where
  pub t : Tuple
  pub f : Facts
  pub g : Facts
  pub number : ℕ
  pub word : ℕ
  pub a : View
  pub b : View
  pub remote : IpEndpoint
  pub local : IpListenEndpoint
  pub e : IpListenEndpoint
  pub opened : AreOpened t f g number word a b remote local e

-- both connect, each to the other
pub record SomeAreCallers : Type 0 where
  pub t : Tuple
  pub number : ℕ
  pub word : ℕ
  pub a : View
  pub b : View
  pub here : IsCaller t number a
  pub across : IsCaller (mirrored t) word b

-- what one is told of the other's stream; and where all of it was taken, and the FIN counted
pub record SomeHears : Type 0 where
  pub v : View
  pub w : View
  pub n : ℕ
  pub hears : HearsOf v w n
  pub u : View
  pub z : View
  pub counted : HasCounted u z

-- two in step, but for their windows
pub record SomeAreShut : Type 0 where
  pub d : Option Duration
  pub e : Option Duration
  pub t : Tuple
  pub s : Tuple
  pub v : View
  pub w : View
  pub shut : BothShut d e t s v w

-- two that agree on their numbers, and two sides of them whose bytes can come over, both ways
pub record SomeCanComeOver : Type 0 where
  pub d : Duration
  pub e : Duration
  pub t : Tuple
  pub s : Tuple
  pub here : HostView (Unit {0})
  pub across : HostView (Unit {0})
  pub taken : ℕ
  pub heard : ℕ
  pub agree : AgreeBothWays d e t s here.control_block across.control_block taken heard
  pub over : BothCanComeOver d e here across

pub record PremisesCanBeMet : Type 0 where
  pub opened : SomeAreOpened
  pub callers : SomeAreCallers
  pub hears : SomeHears
  pub shut : SomeAreShut
  pub come_over : SomeCanComeOver
