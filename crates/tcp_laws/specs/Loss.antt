-- What a scoreboard says: what the peer told, and nothing else.
use Rattle.std.specs.Prelude.{ℕ, ◌≡◌, ◌+◌, ◌^◌, ◌≤◌, ◌<◌, ◌⊎◌, Option, Some, None, List, [], ◌∷◌, true}
use Rattle.ip_wire.specs.declared.repr.IpRepr.{IpRepr}
use Rattle.net_base.specs.declared.time.Instant.{Instant}
use Rattle.control_wire.specs.Segment.{Segment}
use Rattle.control_wire.specs.Seq.{seq_sub}
use Rattle.control_wire.specs.declared.seq_number.TcpSeqNumber.{TcpSeqNumber}
use Rattle.sock_tcp.specs.Process.{processed_by}
use Rattle.sock_tcp.specs.Rfc.Recovery.{tellable}
use Rattle.sock_tcp.specs.Rfc.Scoreboard.{all_told, block_from, is_credible}
use Rattle.sock_tcp.specs.View.{View}
use Rattle.sock_tcp.specs.declared.rules.Rules.TheVariants as rules
use Rattle.sock_tcp.specs.declared.scoreboard.SackBlock.{SackBlock}
use Rattle.sock_tcp.specs.declared.scoreboard.Scoreboard.{Scoreboard}

-- the x-th byte behind SND.UNA lies in the block
abbrev pub Covers : SackBlock → ℕ → Type 0
Covers b x = (b.start ≤ x) × (x < b.end)

abbrev pub Tells : Scoreboard → ℕ → Type 0
Tells k x = Covers k.newest x ⊎ (Covers k.second x ⊎ (Covers k.third x ⊎ Covers k.oldest x))

-- a block that is believed, where n bytes were sent, has it
abbrev pub IsIn : ℕ → TcpSeqNumber → Option (ℕ × ℕ) → ℕ → Type 0
IsIn n una None x = ⊥
IsIn n una (Some r) x = (is_credible n (block_from una r) ≡ true) × Covers (block_from una r) x

-- one of the segment's blocks has it
abbrev pub IsInAny : ℕ → TcpSeqNumber → List (Option (ℕ × ℕ)) → ℕ → Type 0
IsInAny n una [] x = ⊥
IsInAny n una (r ∷ rs) x = IsIn n una r x ⊎ IsInAny n una rs x

-- what is told after a segment was told before, or a block of the segment has it
abbrev pub TellsOnlyWhatCame : Type 0
TellsOnlyWhatCame =
    (k : Scoreboard) (n : ℕ) (una : TcpSeqNumber) (rs : List (Option (ℕ × ℕ))) (x : ℕ)
    → Tells (all_told k n una rs) x
    → Tells k x ⊎ IsInAny n una rs x

-- and what its first block has is told
abbrev pub TellsTheNewest : Type 0
TellsTheNewest =
    (k : Scoreboard) (n : ℕ) (una : TcpSeqNumber) (r : Option (ℕ × ℕ)) (rs : List (Option (ℕ × ℕ))) (x : ℕ)
    → IsIn n una r x
    → Tells (all_told k n una (r ∷ rs)) x

-- how far SND.UNA moved
abbrev pub una_moved : View → View → ℕ
una_moved v w = seq_sub w.local_seq_no v.local_seq_no

-- The segment s made w of v. What is told then of a byte was told of it before, or a block of s has it; bytes are
-- counted from the SND.UNA of each
abbrev pub FollowsSegment : View → Segment → View → Type 0
FollowsSegment v s w = (x : ℕ)
    → Tells w.sacked x
    → Tells v.sacked (x + una_moved v w) ⊎ IsInAny (tellable v) v.local_seq_no s.sack_ranges (x + una_moved v w)

abbrev pub ScoreboardFollowsSegments : Type 0
ScoreboardFollowsSegments =
    (v : View) (now : Instant) (word : ℕ) (ip : IpRepr) (s : Segment)
    → v.local_seq_no.0 < 2 ^ 32
    → FollowsSegment v s (processed_by rules.Rfc v now word ip s).view
