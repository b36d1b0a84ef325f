-- Which small segments wait by the RFCs' rules, and how long (RFC 9293, section 3.8.6.2.1).
use Rattle.std.specs.Prelude.{ℕ, ◌-◌, ◌/◌, max, min, nat_le, nat_lt, Option, Some, None, is_some, Bool, true, false}
use Rattle.std.specs.Prelude.{not}
use Rattle.std.specs.Prelude.{◌==◌, ◌&&◌, ◌||◌, if◌then◌else◌}
use Rattle.net_base.specs.declared.time.Instant.{Instant}
use Rattle.sock_core.specs.declared.context.PollAt.{PollAt}
use Rattle.sock_core.specs.declared.context.PollAt.TheVariants as poll
use Rattle.sock_tcp.specs.Polls.{earlier}
use Rattle.sock_tcp.specs.declared.recovery.Recovery.{Recovery}
use Rattle.sock_tcp.specs.declared.recovery.Recovery.TheVariants as recovery
use Rattle.sock_tcp.specs.declared.rules.Rules.{Rules}
use Rattle.sock_tcp.specs.declared.rules.Rules.TheVariants as rules

-- ---- which ones

-- after a fast retransmission or a timeout, what goes out at SND.UNA may have been sent before
abbrev pub sends_again : Recovery → Bool
sends_again (recovery.Fast point high_rxt resent_at acked trailed una_lost) = true
sends_again (recovery.Timeout point) = true
sends_again _ = false

-- whether one may wait with nothing in flight: nothing is sent again, the window is less than half of the largest one
-- that the peer told, and there is a moment at which it goes out
abbrev pub waits_alone : Rules → Recovery → Option Instant → ℕ → ℕ → Bool
waits_alone rules.Smoltcp r at window largest = false
waits_alone rules.Rfc r at window largest = nat_lt window (largest / 2) && (is_some at && not (sends_again r))

-- while something is in flight, or it may wait alone: what the peer's window leaves is less than a segment, and less
-- than what waits, and the congestion window does not leave less; flight bytes of the queued ones were sent
abbrev pub is_cut_by_window : Bool → ℕ → ℕ → ℕ → ℕ → ℕ → Bool
is_cut_by_window alone flight window queued congestion mss =
    nat_lt window queued && ((not (flight == 0) || alone)
    && (nat_lt (window - flight) mss && nat_le (window - flight) congestion))

-- what both windows let out
abbrev pub let_out : ℕ → ℕ → ℕ → ℕ → ℕ
let_out flight window queued congestion = min (min window queued - flight) congestion

-- while something is in flight: what the congestion window leaves is less than half of a segment, and less than what
-- else could go out (RFC 6675, section 5, step C; RFC 9293, section 3.8.6.2.1)
abbrev pub is_cut_by_network : ℕ → ℕ → ℕ → ℕ → Bool
is_cut_by_network flight usable out mss = nat_lt out (mss / 2) && (nat_lt out (usable - flight) && not (flight == 0))

abbrev pub is_cut_by : Rules → Bool → ℕ → ℕ → ℕ → ℕ → ℕ → Bool
is_cut_by rules.Smoltcp alone flight window queued congestion mss = false
is_cut_by rules.Rfc alone flight window queued congestion mss =
    is_cut_by_network flight (min window queued) (let_out flight window queued congestion) mss
    || is_cut_by_window alone flight window queued congestion mss

-- ---- how long

abbrev pub moment_at : Option Instant → PollAt
moment_at None = poll.Ingress
moment_at (Some at) = poll.Time at

-- what may go out with nothing in flight does so a retransmission timeout after the last segment that took numbers
abbrev pub small_poll : Bool → Option Instant → PollAt
small_poll may at = if may then moment_at at else poll.Ingress

-- beside an acknowledgement that is due
abbrev pub held_by : Rules → PollAt → PollAt → PollAt
held_by rules.Smoltcp ack small = ack
held_by rules.Rfc ack small = earlier ack small

-- ---- the largest window that the peer told, from the segment on that opens

abbrev pub larger : Bool → ℕ → ℕ → ℕ
larger opened largest window = if opened then max largest window else window
