-- A stored header with a payload.
use Rattle.std.specs.Prelude.{ℕ, List}
use Rattle.control_wire.specs.Segment.{Segment, segment_of}
use Rattle.pair_core.specs.declared.segment.Header.{Header}

abbrev pub segment_at : Header → List ℕ → Segment
segment_at h payload = record (segment_of h.repr) { payload = payload }
