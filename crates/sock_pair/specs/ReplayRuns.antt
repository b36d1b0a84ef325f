-- What a replay writes, by how it ends.
use Rattle.std.specs.Prelude.{◌≡◌, ℕ, ◌<◌, List, [], ◌∷◌, ◌++◌, length, replicate, Option, None, Ok, Err, IfSome, ◌⊎◌}
use Rattle.std.specs.Prelude.{slice_index}
use Rattle.std.specs.Io.KnownBytes.{Appends}
use Rattle.ip_wire.specs.declared.address.IpAddress.TheVariants as address
use Rattle.ip_wire.specs.declared.endpoint.IpEndpoint.{IpEndpoint}
use Rattle.sock_core.specs.Received.{Received, received}
use Rattle.sock_tcp.specs.Queue.{Queue}
use Rattle.sock_tcp.specs.View.{fresh}
use Rattle.pair_core.specs.PairRuns.{Ran}
use Rattle.pair_core.specs.PairViews.{HostView, PairView, new_host, new_pair}
use Rattle.sock_pair.specs.ReplayLines.{outcome_lines, side_lines}
use Rattle.sock_pair.specs.ScriptLines.{script_of, script_value}
use Rattle.pair_core.specs.declared.event.Event.{Event}
use Rattle.pair_core.specs.declared.outcome.Outcome.{Outcome}
use Rattle.sock_pair.specs.declared.script.Script.{Script}
use Rattle.sock_pair.specs.declared.script.end.End.{End}
use Rattle.sock_pair.specs.declared.script.end.End.TheVariants as end

-- 10.0.0.1:49152
abbrev pub endpoint_a : IpEndpoint
endpoint_a = record { addr = address.Ipv4 (record { 0 = 10 ∷ 0 ∷ 0 ∷ 1 ∷ [] }); port = 49152 }

-- 10.0.0.2:80
abbrev pub endpoint_b : IpEndpoint
endpoint_b = record { addr = address.Ipv4 (record { 0 = 10 ∷ 0 ∷ 0 ∷ 2 ∷ [] }); port = 80 }

abbrev pub empty_receiver : ℕ → Received
empty_receiver n = received [] (replicate n None) n

abbrev pub empty_queue : ℕ → Queue
empty_queue n = record { bytes = []; window = n; until_end = n }

abbrev pub begun_host : {G : Type 0} → ℕ → ℕ → IpEndpoint → HostView G
begun_host rx tx e = new_host (fresh (empty_receiver rx) (empty_queue tx)) e None

-- two closed sockets with buffers of these sizes and no source of timestamps
abbrev pub begun : {G : Type 0} → ℕ → ℕ → ℕ → ℕ → Option ℕ → PairView G
begun arx atx brx btx limit = new_pair (begun_host arx atx endpoint_a) (begun_host brx btx endpoint_b) limit

-- what a script begins with
abbrev pub begun_of : {G : Type 0} → Script → PairView G
begun_of s = begun (slice_index s.sizes 0) (slice_index s.sizes 1) (slice_index s.sizes 2)
    (slice_index s.sizes 3) s.limit

-- every event was done, the pair is q then, and a line for each outcome and the closing lines were written
pub record IsPlayed {G : Type 0} (tells : G → ℕ → Type 0) (events : List Event) (p q : PairView G)
    (old new : Option (List ℕ)) : Type 0 where
  pub outcomes : List Outcome
  pub ran : Ran tells events p [] outcomes q
  pub all : length outcomes ≡ length events
  pub written : Appends old new (outcome_lines q.segments outcomes ++ side_lines q)

-- some first events were done, the pair is q then, and a line for each of their outcomes was written
pub record IsPlayedInPart {G : Type 0} (tells : G → ℕ → Type 0) (events : List Event) (p q : PairView G)
    (old new : Option (List ℕ)) : Type 0 where
  pub outcomes : List Outcome
  pub ran : Ran tells events p [] outcomes q
  pub fewer : length outcomes < length events
  pub written : Appends old new (outcome_lines q.segments outcomes)

-- what a run wrote that ended so, and left the pair as q. What had gone out when a write failed is not said
abbrev pub PlaysTo : {G : Type 0} → (G → ℕ → Type 0) → List Event → PairView G → PairView G → End → Option (List ℕ)
    → Option (List ℕ) → Type 0
PlaysTo tells events p q end.Done old new = IsPlayed tells events p q old new
PlaysTo tells events p q end.Memory old new = IsPlayedInPart tells events p q old new
PlaysTo tells events p q _ old new = Unit {0}

-- the same with the room for the buffers, where memory may run out first
abbrev pub Plays : {G : Type 0} → (G → ℕ → Type 0) → List Event → PairView G → End → Option (List ℕ) → Option (List ℕ)
    → Type 0
Plays tells events p end.Done old new = (q : PairView _) × IsPlayed tells events p q old new
Plays tells events p end.Memory old new =
    Appends old new [] ⊎ ((q : PairView _) × IsPlayedInPart tells events p q old new)
Plays tells events p _ old new = Unit {0}

-- the script that the text is, where the reader tells it
abbrev pub IsScript : Option (List ℕ) → Script → Type 0
IsScript text s = IfSome text (λ t. script_of t ≡ Ok (script_value s))

-- What a replay writes: nothing where the reader failed or the text is no script. Where memory ran out, nothing if that
-- was before the run, and else the lines of the events that the run did
abbrev pub Replays : {G : Type 0} → (G → ℕ → Type 0) → Option (List ℕ) → End → Option (List ℕ) → Option (List ℕ)
    → Type 0
Replays tells text end.Done old new =
    (s : Script) × IsScript text s × Plays tells s.events.items (begun_of s) end.Done old new
Replays tells text (end.Script e) old new = IfSome text (λ t. script_of t ≡ Err e) × Appends old new []
Replays tells text end.Read old new = Appends old new []
Replays tells text end.Write old new = Unit {0}
Replays tells text end.Memory old new =
    Appends old new [] ⊎ ((s : Script) × IsScript text s × Plays tells s.events.items (begun_of s) end.Memory old new)
