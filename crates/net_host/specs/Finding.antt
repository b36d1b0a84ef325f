-- What is looked for in an index, for a segment.
use Rattle.std.specs.Prelude.{ℕ, ◌≡◌, ◌+◌, ◌*◌, ◌<◌, true, false, List, length, Option, Some, None, IfSome, slice_get}
use Rattle.std.specs.Prelude.{◌==◌, if◌then◌else◌}
use Rattle.ip_wire.specs.IpHeader.{src_addr_of}
use Rattle.ip_wire.specs.declared.repr.IpRepr.{IpRepr}
use Rattle.net_base.specs.declared.time.Instant.{Instant}
use Rattle.control_wire.specs.Segment.{Segment}
use Rattle.net_host.specs.Entries.{is_ordered, order_of}
use Rattle.net_host.specs.Filing.{number_of}
use Rattle.net_host.specs.Resting.{RestsUntil, Serves}
use Rattle.net_host.specs.Segments.{TakesSegment}
use Rattle.net_host.specs.declared.find.Sought.{Sought}
use Rattle.net_host.specs.declared.find.Sought.TheVariants as sought
use Rattle.host_index.specs.declared.entry.Entry.{Entry}
use Rattle.net_host.specs.declared.slot.Slot.{Slot}

abbrev pub Fits : {G : Type 0} → Sought → IpRepr → Segment → Slot G → Type 0
Fits sought.Connection ip s slot = TakesSegment false ip s slot
Fits sought.Listener ip s slot = TakesSegment true ip s slot
Fits sought.Server ip s slot = Serves ip s slot

-- the key of the connection that a segment is of
abbrev pub key_of_segment : IpRepr → Segment → Entry
key_of_segment ip s = record {
  major = number_of (src_addr_of ip);
  minor = s.dst_port * 65536 + s.src_port;
  place = 0;
}

abbrev pub with_minor : Option ℕ → ℕ → Instant → Option Instant
with_minor None minor t = None
with_minor (Some n) minor t = if n == minor then Some t else None

-- the socket that an entry leads to rests until this moment, which the entry has
pub record RestsSo {G : Type 0} (ip : IpRepr) (s : Segment) (ss : List (Slot G)) (e : Entry) (t : Instant)
    : Type 0 where
  pub within : e.place < length ss
  pub holds : IfSome (slice_get ss e.place) (RestsUntil ip s t)
  pub ordered : is_ordered t ≡ true
  pub same : e.minor ≡ order_of t

abbrev pub RestsAt : {G : Type 0} → IpRepr → Segment → List (Slot G) → Entry → Option Instant → Type 0
RestsAt ip s ss e None =
    (u : Instant) → is_ordered u ≡ true → e.minor ≡ order_of u
    → IfSome (slice_get ss e.place) (λ x. RestsUntil ip s u x → ⊥)
RestsAt ip s ss e (Some t) = RestsSo ip s ss e t
