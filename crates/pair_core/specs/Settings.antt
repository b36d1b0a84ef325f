-- What setting a value does to a socket.
use Rattle.sock_tcp.specs.Closing.{keep_alive_set}
use Rattle.sock_tcp.specs.Opening.{rules_set}
use Rattle.sock_tcp.specs.Settings.{of_kind}
use Rattle.sock_tcp.specs.View.{View}
use Rattle.pair_core.specs.declared.setting.Setting.{Setting}
use Rattle.pair_core.specs.declared.setting.Setting.TheVariants as setting

abbrev pub set_in : Setting → View → View
set_in (setting.Timeout t) v = record v { timeout = t.duration }
set_in (setting.AckDelay t) v = record v { ack_delay = t.duration }
set_in (setting.KeepAlive t) v = keep_alive_set v t.duration
set_in (setting.Nagle on) v = record v { nagle = on }
set_in (setting.HopLimit n) v = record v { hop_limit = n.hop_limit }
set_in (setting.Congestion c) v = record v { congestion_controller = of_kind c }
set_in (setting.Pause on) v = record v { synack_paused = on }
set_in (setting.Rules x) v = rules_set v x
