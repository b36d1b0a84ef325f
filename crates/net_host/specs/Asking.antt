-- How many places are asked whether a segment is for their socket.
use Rattle.std.specs.Prelude.{ℕ, ◌+◌, ◌&&◌, nat_eq, List, [], ◌∷◌, Bool, true, false, if◌then◌else◌}
use Rattle.ip_wire.specs.declared.repr.IpRepr.{IpRepr}
use Rattle.control_wire.specs.Segment.{Segment}
use Rattle.host_index.specs.declared.entry.Entry.{Entry}
use Rattle.net_host.specs.Filing.{listener_key, rest_major, server_key}
use Rattle.net_host.specs.Finding.{key_of_segment}

-- how many entries have this property
unfoldable pub how_many : (Entry → Bool) → List Entry → ℕ
how_many f [] = 0
how_many f (e ∷ es) = (if f e then 1 else 0) + how_many f es

abbrev pub has_key : Entry → Entry → Bool
has_key key e = nat_eq e.major key.major && nat_eq e.minor key.minor

-- how many entries there are under a key
abbrev pub under : List Entry → Entry → ℕ
under es key = how_many (has_key key) es

-- how many sockets are in TIME-WAIT that were opened on a port
abbrev pub resting : List Entry → ℕ → ℕ
resting es port = how_many (λ e. nat_eq e.major (rest_major port)) es

-- those that can take a SYN of a port in place of a listener: in TIME-WAIT, or with a connection that was opened there
abbrev pub can_renew : List Entry → ℕ → ℕ
can_renew es port = resting es port + under es (server_key port)

abbrev pub can_open : List Entry → ℕ → ℕ
can_open es port = under es (listener_key port) + can_renew es port

-- The sockets that can take a segment by its addresses and ports: its connection, those that listen on its port, and
-- those that were opened there.
abbrev pub can_take : List Entry → IpRepr → Segment → ℕ
can_take es ip s = under es (key_of_segment ip s) + can_open es s.dst_port

-- the key of a connection, or of those that listen
abbrev pub taker_key : (listening : Bool) → IpRepr → Segment → Entry
taker_key true ip s = listener_key s.dst_port
taker_key false ip s = key_of_segment ip s
