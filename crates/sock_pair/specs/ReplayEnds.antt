-- The exit status of each end of a replay.
use Rattle.std.specs.Prelude.{◌≡◌, ℕ, Bool, true, false, Result, MatchResult}
use Rattle.sock_pair.specs.declared.script.end.End.{End}
use Rattle.sock_pair.specs.declared.script.end.End.TheVariants as end

unfoldable pub status_of : End → ℕ
status_of end.Done = 0
status_of (end.Script e) = 1
status_of end.Read = 2
status_of end.Write = 2
status_of end.Memory = 3

-- what a replay that ends so leaves of its reader and of its writer: whether each has failed
abbrev pub LeavesStreams : End → Bool → Bool → Type 0
LeavesStreams end.Done reader writer = (reader ≡ false) × (writer ≡ false)
LeavesStreams (end.Script e) reader writer = (reader ≡ false) × (writer ≡ false)
LeavesStreams end.Read reader writer = (reader ≡ true) × (writer ≡ false)
LeavesStreams end.Write reader writer = (reader ≡ false) × (writer ≡ true)
LeavesStreams end.Memory reader writer = (reader ≡ false) × (writer ≡ false)

-- the same of the reader alone, once all was read or reading stopped
abbrev pub StopsReading : End → Bool → Type 0
StopsReading end.Read failed = failed ≡ true
StopsReading end.Memory failed = failed ≡ false
StopsReading _ failed = ⊥

abbrev pub Reads : {X : Type 0} → Result X End → Bool → Type 0
Reads r failed = MatchResult r (λ _. failed ≡ false) (λ e. StopsReading e failed)

-- the same of the writer alone, once a script was read
abbrev pub StopsWriting : End → Bool → Type 0
StopsWriting end.Done failed = failed ≡ false
StopsWriting end.Write failed = failed ≡ true
StopsWriting end.Memory failed = failed ≡ false
StopsWriting _ failed = ⊥
