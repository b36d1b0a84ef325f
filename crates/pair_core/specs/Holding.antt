-- Stored segments.
use Rattle.std.specs.Prelude.{ℕ, ◌≡◌, List, [], ◌∷◌, Option, Some, None}
use Rattle.ip_wire.specs.declared.repr.IpRepr.{IpRepr}
use Rattle.control_wire.specs.Segment.{Segment}
use Rattle.pair_core.specs.declared.side.Side.{Side}
use Rattle.pair_core.specs.declared.segment.Header.{Header}
use Rattle.pair_core.specs.declared.segment.Segment.{Segment as Owned}
use Rattle.pair_core.specs.PairViews.{StoredView}
pub use Rattle.pair_core.specs.Headers.{segment_at}

-- h has all of the segment s but its payload, and this IP header
pub record IsHeaderOf (h : Header) (ip : IpRepr) (s : Segment) : Type 0 where
  pub ip_repr : h.ip_repr ≡ ip
  pub fields : segment_at h s.payload ≡ s

abbrev pub stored_segment : Side → Header → List ℕ → ℕ → ℕ → StoredView
stored_segment from_side h payload released taken =
    record {
      emitter = from_side;
      ip = h.ip_repr;
      segment = segment_at h payload;
      released_at = released;
      taken_at = taken;
    }

-- a stored segment by value
abbrev pub stored_of : Owned → StoredView
stored_of t = stored_segment t.from t.header t.payload.items t.released_at t.taken_at

-- what the side s stores of a reply, with its counts
abbrev pub kept_at : Side → Option (IpRepr × Segment) → ℕ → ℕ → List StoredView
kept_at s None released taken = []
kept_at s (Some r) released taken =
    record { emitter = s; ip = r.0; segment = r.1; released_at = released; taken_at = taken } ∷ []
