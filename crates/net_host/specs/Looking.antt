-- What a guard has seen of its socket, and until when the socket need not be asked.
use Rattle.std.specs.Prelude.{ℕ, ℤ, negsuc, pos, ◌≡◌, ◌&&◌, ◌==◌, ◌⊎◌, nat_le, nat_lt, int_le, int_lt, not, IfSome}
use Rattle.std.specs.Prelude.{Bool, true}
use Rattle.std.specs.Prelude.{false, List, Option, Some, None, slice_get, if◌then◌else◌}
use Rattle.std.specs.Ordering.{int_eq}
use Rattle.ip_wire.specs.Checksum.{all_checksums}
use Rattle.ip_wire.specs.declared.checksum.Checksum.TheVariants as checksum
use Rattle.net_base.specs.declared.time.Duration.{Duration}
use Rattle.net_base.specs.declared.time.Instant.{Instant}
use Rattle.control_wire.specs.Seq.{seq_eq}
use Rattle.sock_core.specs.Facts.{Facts}
use Rattle.sock_core.specs.declared.context.PollAt.{PollAt}
use Rattle.sock_core.specs.declared.context.PollAt.TheVariants as poll
use Rattle.sock_tcp.specs.View.{View, moment_of}
use Rattle.smoltcp_socket.specs.declared.socket.Socket.{Socket}
use Rattle.smoltcp_socket.specs.declared.socket.Socket.TheVariants as socket
use Rattle.net_host.specs.Addresses.{no_address_v6}
use Rattle.net_host.specs.Guards.{end_of, lawful_limit, limit_of, phase_of}
use Rattle.net_host.specs.Turns.{Watches, asked_of, is_due}
use Rattle.net_host.specs.Walks.{Both, ChangesEach, FindsIn, FindsNext}
use Rattle.net_host.specs.Remembered.{Remembered as Guard}
use Rattle.net_host.specs.declared.guard.GuardSettings.{GuardSettings}
use Rattle.net_host.specs.declared.guard.Phase.{Phase}
use Rattle.net_host.specs.declared.guard.Phase.TheVariants as phase
use Rattle.net_host.specs.declared.slot.Slot.{Slot}
use Rattle.net_host.specs.declared.terms.Terms.{Terms}

-- ---- what a guard has seen

abbrev pub is_phase : Phase → Phase → Bool
is_phase phase.Free phase.Free = true
is_phase phase.Handshake phase.Handshake = true
is_phase phase.FinWait2 phase.FinWait2 = true
is_phase (phase.Closing a) (phase.Closing b) = seq_eq a b
is_phase (phase.Stuck a) (phase.Stuck b) = seq_eq a b
is_phase _ _ = false

abbrev pub is_moment : Option Instant → Option Instant → Bool
is_moment None None = true
is_moment (Some t) (Some u) = int_eq t.micros u.micros
is_moment _ _ = false

-- the user timeout that is set, if any
abbrev pub has_timeout : Option Duration → Option Duration → Bool
has_timeout None t = true
has_timeout (Some d) (Some t) = d.micros == t.micros
has_timeout (Some d) None = false

-- the guard waits for what the peer alone can end, and from when it was first seen on as long as is set
abbrev pub seen_with : GuardSettings → Phase → Option Instant → Option Instant → View → Bool
seen_with st p since end v =
    is_phase p (phase_of v)
    && (is_moment end (end_of (limit_of st p) since) && has_timeout (lawful_limit st.timeout) v.timeout)

abbrev pub seen_in : {G : Type 0} → GuardSettings → Option (Socket G) → Guard → Bool
seen_in st (Some (socket.Tcp x)) g = seen_with st g.phase g.since g.end x.control_block
seen_in st s g = true

-- the guard of a TCP socket has looked at it as it is
abbrev pub is_seen : {G : Type 0} → GuardSettings → Slot G → Bool
is_seen st s = seen_in st s.socket s.guard

-- ---- when it wants to be asked

abbrev pub never : ℤ
never = pos 9223372036854775807

-- the moment behind the least, which marks a place that may have changed
abbrev pub soonest : ℤ
soonest = negsuc 9223372036854775806

-- that moment as a number, which is no mark
abbrev pub bound_of : PollAt → ℤ
bound_of poll.Now = soonest
bound_of (poll.Time t) =
    if int_lt t.micros never then (if int_lt soonest t.micros then t.micros else soonest) else pos 9223372036854775806
bound_of poll.Ingress = never

abbrev pub is_bound : ℤ → PollAt → Bool
is_bound b p = int_eq b (bound_of p)

-- an answer that is not after a moment, and not at once
abbrev pub is_at_most : PollAt → ℤ → Bool
is_at_most poll.Now least = false
is_at_most (poll.Time t) least = int_le t.micros least
is_at_most poll.Ingress least = int_le never least

-- of what a context answers, a socket asks for the MTU alone when it says when it wants to be asked
abbrev pub facts_under : ℕ → Facts
facts_under mtu = record {
  now = pos 0;
  mtu = mtu;
  has_address = λ a. false;
  source = λ d. None;
  source_ipv4 = λ d. None;
  source_ipv6 = λ d. no_address_v6;
  broadcast = λ a. false;
  checksums = all_checksums checksum.Both;
}

abbrev pub asked_under : {G : Type 0} → ℕ → Slot G → PollAt
asked_under mtu s = asked_of s.guard.phase s.guard.end s.guard.last s.socket (facts_under mtu)

-- its guard has looked at it, and it asks for this moment
abbrev pub sleeps : {G : Type 0} → Terms → ℤ → Slot G → Bool
sleeps t b s = is_bound b (asked_under t.mtu s) && is_seen t.guards s

-- ---- a look

-- the guard looks, or does not
abbrev pub MayLook : {G : Type 0} → GuardSettings → Instant → Slot G → Slot G → Type 0
MayLook st now before after = (after ≡ before) ⊎ Watches st now before after

-- it is not due, and its guard has looked at it as it is
abbrev pub rests : {G : Type 0} → Facts → GuardSettings → Slot G → Bool
rests f st s = not (is_due f s) && is_seen st s

-- its guard has not
abbrev pub Unseen : {G : Type 0} → GuardSettings → Slot G → Type 0
Unseen st s = is_seen st s ≡ false

abbrev pub Astir : {G : Type 0} → Facts → GuardSettings → Slot G → Type 0
Astir f st s = rests f st s ≡ false

-- ---- a walk that looks for one that is due

-- it was looked at just before, and is due
abbrev pub DueAt : {G : Type 0} → Facts → GuardSettings → List (Slot G) → Option ℕ → List (Slot G) → Type 0
DueAt f st ss None ts = Unit {0}
DueAt f st ss (Some i) ts =
    Both (Watches st (moment_of f)) (slice_get ss i) (slice_get ts i) × IfSome (slice_get ts i) (λ s. is_due f s ≡ true)

-- Guards look at some of the sockets from one place on and before another, up to the first that is due after that.
-- Those before it rest.
pub record LooksIn {G : Type 0} (f : Facts) (st : GuardSettings) (start end : ℕ) (ss : List (Slot G)) (r : Option ℕ)
    (ts : List (Slot G)) : Type 0 where
  pub changed : ChangesEach (MayLook st (moment_of f)) ss ts
  pub outside : (k : ℕ) → (nat_le start k && nat_lt k end) ≡ false → slice_get ts k ≡ slice_get ss k
  pub found : FindsIn (Astir f st) ts start end r
  pub due : DueAt f st ss r ts

-- the same in turn
pub record LooksNext {G : Type 0} (f : Facts) (st : GuardSettings) (turn : ℕ) (ss : List (Slot G)) (r : Option ℕ)
    (ts : List (Slot G)) : Type 0 where
  pub changed : ChangesEach (MayLook st (moment_of f)) ss ts
  pub found : FindsNext (Astir f st) ts turn r
  pub due : DueAt f st ss r ts
