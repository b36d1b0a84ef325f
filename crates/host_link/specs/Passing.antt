-- What the calls of a link do.
use Rattle.std.specs.Prelude.{ℕ, List, [], ◌≡◌, length, min, take}
use Rattle.host_link.specs.declared.link.Link.{Link}

-- what was sent at one end arrived at the other, whose own packet is on its way
abbrev pub Passed : Link → Link → Type 0
Passed from to = to ≡ record { arrived = from.sent; sent = [] }

-- n bytes of the packet that arrived stand at the beginning of the buffer, as many as fit
abbrev pub Received : Link → ℕ → List ℕ → Link → Type 0
Received before n buffer after =
    (n ≡ min (length before.arrived) (length buffer)) × (take n buffer ≡ take n before.arrived)
    × (after ≡ record before { arrived = [] })
