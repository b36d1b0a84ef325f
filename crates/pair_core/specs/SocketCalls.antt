-- What an event of a pair is to each of its sockets.
use Rattle.std.specs.Prelude.{◌≡◌, ◌⊎◌}
use Rattle.tcp_laws.specs.Awake.{IsByOwn}
use Rattle.tcp_laws.specs.SocketRun.{Counts, Step}
use Rattle.sock_tcp.specs.View.{View}

-- a call on the socket v leaves w, as the law on any list of calls has it (`Step`), by the socket's own rules, whatever
-- was counted before
abbrev pub IsCall : View → View → Type 0
IsCall v w = (k : Counts) → (j : Counts) × (s : Step v k w j) × IsByOwn s

-- one call, or none
abbrev pub IsCalled : View → View → Type 0
IsCalled v w = (w ≡ v) ⊎ IsCall v w
