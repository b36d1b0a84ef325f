-- Events by value: their moments as numbers, their bytes as a list.
use Rattle.std.specs.Prelude.{ℕ, ℤ, Bool, List}
use Rattle.pair_core.specs.declared.event.Event.{Event}
use Rattle.pair_core.specs.declared.event.Event.TheVariants as event
use Rattle.pair_core.specs.declared.moment.Moment.{Moment}
use Rattle.pair_core.specs.declared.setting.Setting.{Setting}
use Rattle.pair_core.specs.declared.side.Side.{Side}

-- the context of one call, its moment in microseconds
pub record MomentValue : Type 0 where
  pub now : ℤ
  pub word : ℕ
  pub has_address : Bool
  pub ip_mtu : ℕ

abbrev pub moment_value : Moment → MomentValue
moment_value m = record { now = m.now.micros; word = m.word; has_address = m.has_address; ip_mtu = m.ip_mtu }

pub data EventValue : Type 0 where
  listen : Side → EventValue
  connect : Side → MomentValue → EventValue
  send_slice : Side → List ℕ → EventValue
  send : Side → List ℕ → ℕ → EventValue
  recv_slice : Side → ℕ → EventValue
  recv : Side → ℕ → EventValue
  close : Side → EventValue
  abort : Side → EventValue
  set : Side → Setting → EventValue
  dispatch : Side → MomentValue → Bool → EventValue
  deliver : ℕ → MomentValue → EventValue

abbrev pub event_value : Event → EventValue
event_value (event.Listen side) = listen side
event_value (event.Connect side moment) = connect side (moment_value moment)
event_value (event.SendSlice side bytes) = send_slice side bytes.items
event_value (event.Send side bytes take) = send side bytes.items take
event_value (event.RecvSlice side size) = recv_slice side size
event_value (event.Recv side take) = recv side take
event_value (event.Close side) = close side
event_value (event.Abort side) = abort side
event_value (event.Set side setting) = set side setting
event_value (event.Dispatch side moment fail) = dispatch side (moment_value moment) fail
event_value (event.Deliver index moment) = deliver index (moment_value moment)
