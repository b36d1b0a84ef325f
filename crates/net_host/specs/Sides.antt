-- Where an entry stands, seen from those under a key.
use Rattle.std.specs.Prelude.{ℕ, ◌≡◌, ◌*◌, ◌<◌, ◌≤◌, ◌+◌, ◌^◌}
use Rattle.host_index.specs.declared.entry.Entry.{Entry}
use Rattle.net_host.specs.declared.find.Side.{Side}
use Rattle.net_host.specs.declared.find.Side.TheVariants as side
use Rattle.host_index.specs.Entries.{rank}

abbrev pub IsSide : Entry → Entry → Side → Type 0
IsSide e key side.Before = rank e < rank key
IsSide e key side.Under = (e.major ≡ key.major) × (e.minor ≡ key.minor)
IsSide e key side.Behind = rank key + 2 ^ 64 ≤ rank e

-- the same, of entries of one major
abbrev pub IsSideOf : Entry → ℕ → Side → Type 0
IsSideOf e major side.Before = rank e < (major * 2 ^ 64) * 2 ^ 64
IsSideOf e major side.Under = e.major ≡ major
IsSideOf e major side.Behind = (major + 1) * 2 ^ 64 * 2 ^ 64 ≤ rank e
