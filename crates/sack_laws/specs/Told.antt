-- What the scoreboard of one side of a pair says that the other has, the other has: what each side told by SACK (RFC
-- 2018), and what each heard of it.
use Rattle.std.specs.Prelude.{ℕ, ◌≡◌, ◌+◌, ◌-◌, ◌<◌, ◌≤◌, ◌%◌, ◌^◌, ◌⊎◌, List, [], ◌∷◌, Option, Some, None, is_some}
use Rattle.std.specs.Prelude.{Bool, true, nat_lt, ◌||◌}
use Rattle.sock_core.specs.Streams.{fin_length}
use Rattle.sock_tcp.specs.Content.{carries_data}
use Rattle.sock_tcp.specs.declared.rules.Rules.TheVariants as rules
use Rattle.sock_tcp.specs.declared.state.State.{State}
use Rattle.sock_tcp.specs.declared.state.State.TheVariants as state
use Rattle.tcp_laws.specs.Loss.{Tells}
use Rattle.pair_core.specs.Network.{Endpoint}
use Rattle.pair_core.specs.PairNetwork.{endpoint_of}
use Rattle.pair_core.specs.PairViews.{HostView, StoredView, PairView, host_of}
use Rattle.pair_core.specs.Sides.{other_side}
use Rattle.pair_core.specs.StreamViews.{Phase, Unopened, Listening, SynSent, SynReceived, Open, FinQueued, Silent, Dead}
use Rattle.pair_core.specs.declared.side.Side.{Side}

-- The side has the byte with this count of the stream to it: the byte joined its receive queue, or is held there behind
-- a gap
abbrev pub has_byte : Endpoint → ℕ → Bool
has_byte e n = nat_lt n e.taken || is_some (e.view.held (n - e.taken))

-- ---- what a side told

-- how many numbers of the stream the side has counted, of its bytes and of the FIN
abbrev pub counted_by : Endpoint → ℕ
counted_by e = e.taken + fin_length e.view.fin_counted

-- The range r of numbers is that of bytes that the side has. None of them lies before what it had taken when it told of
-- them
pub record IsTrueRange (e : Endpoint) (taken_at : ℕ) (r : ℕ × ℕ) : Type 0 where
  pub first : ℕ  -- the count of the first byte
  pub len : ℕ
  pub some : 0 < len
  pub since : taken_at ≤ first
  pub small : (r.0 < 2 ^ 32) × (r.1 < 2 ^ 32)
  pub begins : (r.0 + counted_by e) % 2 ^ 32 ≡ (e.view.rcv_nxt + first) % 2 ^ 32
  pub ends : (r.1 + counted_by e) % 2 ^ 32 ≡ (e.view.rcv_nxt + (first + len)) % 2 ^ 32
  pub there : (i : ℕ) → i < len → has_byte e (first + i) ≡ true

abbrev pub AllTrue : Endpoint → ℕ → List (Option (ℕ × ℕ)) → Type 0
AllTrue e taken_at [] = Unit {0}
AllTrue e taken_at (None ∷ rs) = AllTrue e taken_at rs
AllTrue e taken_at (Some r ∷ rs) = IsTrueRange e taken_at r × AllTrue e taken_at rs

-- The range r is that of numbers of which the side had those bytes already that are the stream's when it told of them.
-- It may begin at the number of the SYN, or of a keep-alive's byte before it, so that counts have 2^32 added. No number
-- lies 2^31 or more before what the side had taken then
pub record IsTwiceRange (e : Endpoint) (taken_at : ℕ) (r : ℕ × ℕ) : Type 0 where
  pub first : ℕ  -- the count of the first number, and 2^32
  pub len : ℕ
  pub some : 0 < len
  pub since : taken_at + 2 ^ 31 ≤ first
  pub small : (r.0 < 2 ^ 32) × (r.1 < 2 ^ 32)
  pub begins : (r.0 + counted_by e) % 2 ^ 32 ≡ (e.view.rcv_nxt + first) % 2 ^ 32
  pub ends : (r.1 + counted_by e) % 2 ^ 32 ≡ (e.view.rcv_nxt + (first + len)) % 2 ^ 32
  pub there : (n : ℕ) → first ≤ n + 2 ^ 32 → n + 2 ^ 32 < first + len → has_byte e n ≡ true

-- the first range is one of bytes that came twice (RFC 2883, section 4)
pub record FirstIsTwice (e : Endpoint) (taken_at : ℕ) (rs : List (Option (ℕ × ℕ))) : Type 0 where
  pub first : ℕ × ℕ
  pub others : List (Option (ℕ × ℕ))
  pub are : rs ≡ Some first ∷ others
  pub twice : IsTwiceRange e taken_at first
  pub all : AllTrue e taken_at others

abbrev pub AreTrue : Endpoint → ℕ → List (Option (ℕ × ℕ)) → Type 0
AreTrue e taken_at rs = AllTrue e taken_at rs ⊎ FirstIsTwice e taken_at rs

abbrev pub NoRange : List (Option (ℕ × ℕ)) → Type 0
NoRange [] = Unit {0}
NoRange (None ∷ rs) = NoRange rs
NoRange (Some r ∷ rs) = ⊥

-- before any byte can have come nothing is told; of a side that is CLOSED for good nothing is said
abbrev pub TrueIn : Phase → Endpoint → ℕ → List (Option (ℕ × ℕ)) → Type 0
TrueIn Unopened e taken_at rs = NoRange rs
TrueIn Listening e taken_at rs = NoRange rs
TrueIn SynSent e taken_at rs = NoRange rs
TrueIn SynReceived e taken_at rs = NoRange rs
TrueIn Open e taken_at rs = AreTrue e taken_at rs
TrueIn FinQueued e taken_at rs = AreTrue e taken_at rs
TrueIn Silent e taken_at rs = AreTrue e taken_at rs
TrueIn Dead e taken_at rs = Unit {0}

-- each segment that the side emitted told only of bytes that the side, which is e now, has
abbrev pub AllToldBy : Side → Endpoint → List StoredView → Type 0
AllToldBy s e [] = Unit {0}
AllToldBy s e (t ∷ ts) =
    (t.emitter ≡ s → TrueIn e.view.phase e t.taken_at t.segment.sack_ranges) × AllToldBy s e ts

-- ---- what a side heard

-- a state in which the scoreboard is one of the connection: up to the acknowledgement of the own FIN
abbrev pub keeps_scoreboard : State → Bool
keeps_scoreboard state.Listen = true
keeps_scoreboard state.SynSent = true
keeps_scoreboard state.SynReceived = true
keeps_scoreboard st = carries_data st

-- What the scoreboard of h says, of the x-th byte behind SND.UNA, the other side has, as long as that one is not CLOSED
-- for good
abbrev pub ScoreboardIsTrue : {G : Type 0} → HostView G → Endpoint → Type 0
ScoreboardIsTrue h e = (e.view.phase ≡ Dead)
    ⊎ (h.control_block.rules ≡ rules.Rfc
    → keeps_scoreboard h.control_block.state ≡ true
    → (x : ℕ) → Tells h.control_block.sacked x → has_byte e (h.released + x) ≡ true)

-- ---- both

pub record IsToldOf {G : Type 0} (p : PairView G) (s : Side) : Type 0 where
  pub told : AllToldBy s (endpoint_of (host_of s p)) p.segments
  pub heard : ScoreboardIsTrue (host_of s p) (endpoint_of (host_of (other_side s) p))

-- What holds of a new pair, and what each event of a pair keeps
abbrev pub IsTold : {G : Type 0} → PairView G → Type 0
IsTold p = (s : Side) → IsToldOf p s
