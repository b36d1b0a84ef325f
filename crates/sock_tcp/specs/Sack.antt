-- What a segment tells by SACK (RFC 2018): ranges that are held behind RCV.NXT.
use Rattle.std.specs.Prelude.{ℕ, List, [], ◌∷◌, slice_get, Option, Some, None, option_map}
use Rattle.std.specs.Prelude.{Bool, false, not, ◌==◌, ◌&&◌, ◌||◌, if◌then◌else◌}
use Rattle.control_wire.specs.Seq.{seq_add, seq_sub}
use Rattle.control_wire.specs.declared.seq_number.TcpSeqNumber.{TcpSeqNumber}
use Rattle.net_base.specs.Ranges.{edges}
use Rattle.sock_core.specs.Received.{holds_nothing, ranges_of, range_around}
use Rattle.sock_tcp.specs.View.{View}
use Rattle.sock_tcp.specs.declared.rules.Rules.{Rules}
use Rattle.sock_tcp.specs.declared.rules.Rules.TheVariants as rules
use Rattle.sock_tcp.specs.Window.{next_ack}

abbrev pub first_of : Option (ℕ × ℕ) → Option (ℕ × ℕ) → Option (ℕ × ℕ)
first_of None r = r
first_of (Some r) s = Some r

-- of the ranges held behind a number, the first around the last number in the window, else the first
abbrev pub chosen_range : List (ℕ × ℕ) → TcpSeqNumber → Option TcpSeqNumber → Option (ℕ × ℕ)
chosen_range rs next None = slice_get rs 0
chosen_range rs next (Some number) = first_of (range_around rs (seq_sub number next)) (slice_get rs 0)

-- a range's edges on the wire
abbrev pub wire_edges : TcpSeqNumber → ℕ × ℕ → ℕ × ℕ
wire_edges next r = ((seq_add next r.0).0, (seq_add next r.1).0)

-- they begin at the same place
abbrev pub is_same : Option (ℕ × ℕ) → Option (ℕ × ℕ) → Bool
is_same (Some r) (Some s) = r.0 == s.0
is_same r s = false

-- the first range beside the chosen one, and the one behind that
abbrev pub second_range : Option (ℕ × ℕ) → List (ℕ × ℕ) → Option (ℕ × ℕ)
second_range c rs = if is_same c (slice_get rs 0) then slice_get rs 1 else slice_get rs 0

abbrev pub third_range : Option (ℕ × ℕ) → List (ℕ × ℕ) → Option (ℕ × ℕ)
third_range c rs =
    if is_same c (slice_get rs 0) || is_same c (slice_get rs 1) then slice_get rs 2 else slice_get rs 1

-- by smoltcp's rules the chosen one alone; by the RFCs' up to three, the chosen one first (RFC 2018, section 4)
abbrev pub told_by : Rules → TcpSeqNumber → Option (ℕ × ℕ) → List (ℕ × ℕ) → List (Option (ℕ × ℕ))
told_by rules.Smoltcp next c rs = option_map (wire_edges next) c ∷ None ∷ None ∷ []
told_by rules.Rfc next c rs =
    option_map (wire_edges next) c ∷ option_map (wire_edges next) (second_range c rs)
    ∷ option_map (wire_edges next) (third_range c rs) ∷ []

abbrev pub told_of : Rules → TcpSeqNumber → Option TcpSeqNumber → List (ℕ × ℕ) → List (Option (ℕ × ℕ))
told_of r next last rs = told_by r next (chosen_range rs next last) rs

-- the ranges that tell a peer which permits it what is held
unfoldable pub sack_ranges : View → List (Option (ℕ × ℕ))
sack_ranges v =
    if v.remote_has_sack
    then told_of v.rules (next_ack v) v.local_rx_last_seq (edges (ranges_of v.rx_buffer.held))
    else None ∷ None ∷ None ∷ []

-- ---- a segment that is no reply

-- by smoltcp's rules it tells nothing; by the RFCs' what is held, if anything is
abbrev pub tells_by : Rules → Bool → List (Option ℕ) → Bool
tells_by rules.Smoltcp permits held = false
tells_by rules.Rfc permits held = permits && not (holds_nothing held)
