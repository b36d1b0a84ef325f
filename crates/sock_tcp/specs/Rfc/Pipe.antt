-- How much is in the network while a fast retransmission goes on and the peer tells by SACK (RFC 6675, sections 2 and
-- 4), and what may go out then.
use Rattle.std.specs.Prelude.{ℕ, ◌+◌, ◌-◌, ◌*◌, ◌/◌, ◌^◌, ◌==◌, nat_le, max, min, Bool, false, if◌then◌else◌}
use Rattle.control_wire.specs.Seq.{seq_eq, seq_sub}
use Rattle.control_wire.specs.declared.seq_number.TcpSeqNumber.{TcpSeqNumber}
use Rattle.sock_core.specs.Seq.{is_before}
use Rattle.sock_tcp.specs.Rfc.Scoreboard.{highest_told}
use Rattle.sock_tcp.specs.declared.recovery.Recovery.{Recovery}
use Rattle.sock_tcp.specs.declared.recovery.Recovery.TheVariants as recovery
use Rattle.sock_tcp.specs.declared.rules.Rules.{Rules}
use Rattle.sock_tcp.specs.declared.rules.Rules.TheVariants as rules
use Rattle.sock_tcp.specs.declared.scoreboard.SackBlock.{SackBlock}
use Rattle.sock_tcp.specs.declared.scoreboard.Scoreboard.{Scoreboard}

-- from which byte behind SND.UNA on nothing was sent again in this recovery
abbrev pub again_from : TcpSeqNumber → TcpSeqNumber → ℕ
again_from high_rxt una = if is_before una high_rxt then seq_sub high_rxt una else 0

-- from where on holes go out again: from SND.UNA on, where the segment there was lost again
abbrev pub hole_from : Bool → TcpSeqNumber → TcpSeqNumber → ℕ
hole_from una_lost high_rxt una = if una_lost then 0 else again_from high_rxt una

-- ---- what was told

-- how many bytes of a block lie before a place
abbrev pub before_place : ℕ → SackBlock → ℕ
before_place p b = min b.end p - min b.start p

unfoldable pub told_before : Scoreboard → ℕ → ℕ
told_before k p =
    min p (before_place p k.newest + before_place p k.second + before_place p k.third + before_place p k.oldest)

-- what is no longer in the network, where reordering was seen: so many quarters of a round trip are waited for
abbrev pub told_late : ℕ → Scoreboard → ℕ
told_late n k = if n == 0 then 0 else told_before k (2 ^ 32)

-- ---- what is in the network

-- it is counted in a recovery, where the peer said that it tells
abbrev pub counts : Rules → Recovery → Bool → Bool
counts rules.Rfc (recovery.Fast point high_rxt resent_at acked trailed una_lost) tells = tells
counts _ r tells = false

-- how far holes were sent again, at most up to the highest byte that was told
abbrev pub resent_to : Recovery → Scoreboard → TcpSeqNumber → ℕ
resent_to (recovery.Fast point high_rxt resent_at acked trailed una_lost) k una =
    min (again_from high_rxt una) (highest_told k)
resent_to r k una = 0

-- how many bytes of the holes that is
abbrev pub holes_sent : Recovery → Scoreboard → TcpSeqNumber → ℕ
holes_sent r k una = resent_to r k una - told_before k (resent_to r k una)

-- with so much sent behind SND.UNA: what lies behind the highest byte that was told, and the holes that were sent
-- again; the other holes are lost
unfoldable pub pipe : Recovery → Scoreboard → TcpSeqNumber → ℕ → ℕ
pipe r k una sent = min sent (sent - highest_told k + holes_sent r k una)

-- ---- what may go out

-- before anything new is acknowledged, a segment goes out for each two that were told, so that the window halves in a
-- round trip, and something follows what was sent again (RFC 6937, section 3): less the holes and the new bytes that
-- went out in this recovery
unfoldable pub exchanged : Recovery → Scoreboard → TcpSeqNumber → ℕ → ℕ → ℕ
exchanged (recovery.Fast point high_rxt resent_at acked trailed una_lost) k una sent mss =
    if seq_eq resent_at point
    then told_before k (2 ^ 32) / (2 * max mss 1) * mss
    - (holes_sent (recovery.Fast point high_rxt resent_at acked trailed una_lost) k una + (sent - seq_sub point una))
    else 0
exchanged r k una sent mss = 0

-- what the window leaves beside what is in the network, or that where it is more
abbrev pub room : Recovery → Scoreboard → TcpSeqNumber → ℕ → ℕ → ℕ → ℕ
room r k una sent window mss = max (window - pipe r k una sent) (exchanged r k una sent mss)

-- a segment fits
abbrev pub has_room : Recovery → Scoreboard → TcpSeqNumber → ℕ → ℕ → ℕ → Bool
has_room r k una sent window mss = nat_le (max mss 1) (room r k una sent window mss)
