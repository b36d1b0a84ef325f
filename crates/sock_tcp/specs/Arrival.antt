-- A segment as `process` meets it.
use Rattle.std.specs.Prelude.{ℕ}
use Rattle.net_base.specs.declared.time.Instant.{Instant}
use Rattle.control_wire.specs.Segment.{Segment}
use Rattle.sock_tcp.specs.declared.tuple.Tuple.{Tuple}

-- a segment that comes; the word is the context's next random one
pub record Arrival : Type 0 where
  pub now : Instant
  pub peer : Tuple  -- both endpoints, of the side that it goes to
  pub word : ℕ
  pub segment : Segment

abbrev pub arrival : Instant → Tuple → ℕ → Segment → Arrival
arrival now t word s = record { now = now; peer = t; word = word; segment = s }
