-- What the peer told by SACK that it has (RFC 2018), and what is missing before that (RFC 6675, section 4). Bytes are
-- counted from SND.UNA on.
use Rattle.std.specs.Prelude.{ℕ, ◌-◌, ◌^◌, nat_lt, nat_le, max, min, Option, Some, None, Bool, false, not}
use Rattle.std.specs.Prelude.{◌==◌, ◌&&◌, ◌||◌, List, [], ◌∷◌, if◌then◌else◌}
use Rattle.control_wire.specs.Seq.{seq_add, seq_of, seq_sub}
use Rattle.control_wire.specs.declared.seq_number.TcpSeqNumber.{TcpSeqNumber}
use Rattle.sock_tcp.specs.declared.scoreboard.Hole.{Hole}
use Rattle.sock_tcp.specs.declared.scoreboard.SackBlock.{SackBlock}
use Rattle.sock_tcp.specs.declared.scoreboard.Scoreboard.{Scoreboard}

-- ---- blocks

abbrev pub no_block : SackBlock
no_block = record { start = 0; end = 0 }

-- a block ends behind SND.UNA
abbrev pub is_none : SackBlock → Bool
is_none b = b.end == 0

abbrev pub nothing_told : Scoreboard
nothing_told = record { newest = no_block; second = no_block; third = no_block; oldest = no_block }

-- no block
abbrev pub is_blank : Scoreboard → Bool
is_blank k = is_none k.newest && (is_none k.second && (is_none k.third && is_none k.oldest))

-- of bytes behind SND.UNA, of which n were sent (RFC 2018, section 4): nothing else is believed
abbrev pub is_credible : ℕ → SackBlock → Bool
is_credible n b = nat_lt 0 b.start && (nat_lt b.start b.end && nat_le b.end n)

-- b lies in c
abbrev pub is_within : SackBlock → SackBlock → Bool
is_within b c = nat_le c.start b.start && nat_le b.end c.end

abbrev pub is_known : Scoreboard → SackBlock → Bool
is_known k b = is_within b k.newest || (is_within b k.second || (is_within b k.third || is_within b k.oldest))

-- ---- a block is added

-- both with what lies between, where they overlap, or one begins where the other ends
abbrev pub joined : SackBlock → SackBlock → SackBlock
joined b c =
    if nat_le b.start c.end && nat_le c.start b.end
    then record { start = min b.start c.start; end = max b.end c.end }
    else b

unfoldable pub joined_all : Scoreboard → SackBlock → SackBlock
joined_all k b = joined (joined (joined (joined b k.newest) k.second) k.third) k.oldest

-- c, unless it lies in b
abbrev pub unless_within : SackBlock → SackBlock → SackBlock
unless_within b c = if is_within c b then no_block else c

unfoldable pub without : Scoreboard → SackBlock → Scoreboard
without k b =
    record {
      newest = unless_within b k.newest;
      second = unless_within b k.second;
      third = unless_within b k.third;
      oldest = unless_within b k.oldest;
    }

-- the new one comes first; where there is no place left, the oldest is given up
unfoldable pub pushed : Scoreboard → SackBlock → Scoreboard
pushed k b =
    if is_none k.newest then record k { newest = b }
    else (if is_none k.second then record k { newest = b; second = k.newest }
    else (if is_none k.third then record k { newest = b; second = k.newest; third = k.second }
    else record { newest = b; second = k.newest; third = k.second; oldest = k.third }))

abbrev pub added : Scoreboard → SackBlock → Scoreboard
added k b = pushed (without k (joined_all k b)) (joined_all k b)

-- ---- the blocks of a segment, where n bytes were sent

abbrev pub block_from : TcpSeqNumber → ℕ × ℕ → SackBlock
block_from una r = record { start = seq_sub (seq_of r.0) una; end = seq_sub (seq_of r.1) una }

abbrev pub is_news_of : Scoreboard → ℕ → SackBlock → Bool
is_news_of k n b = is_credible n b && not (is_known k b)

abbrev pub tells_news : Scoreboard → ℕ → TcpSeqNumber → Option (ℕ × ℕ) → Bool
tells_news k n una None = false
tells_news k n una (Some r) = is_news_of k n (block_from una r)

abbrev pub told : Scoreboard → ℕ → TcpSeqNumber → Option (ℕ × ℕ) → Scoreboard
told k n una None = k
told k n una (Some r) = if is_news_of k n (block_from una r) then added k (block_from una r) else k

-- the first block is the newest (RFC 2018, section 4)
abbrev pub all_told : Scoreboard → ℕ → TcpSeqNumber → List (Option (ℕ × ℕ)) → Scoreboard
all_told k n una [] = k
all_told k n una (r ∷ rs) = told (all_told k n una rs) n una r

abbrev pub any_news : Scoreboard → ℕ → TcpSeqNumber → List (Option (ℕ × ℕ)) → Bool
any_news k n una [] = false
any_news k n una (r ∷ rs) = tells_news k n una r || any_news k n una rs

-- ---- SND.UNA moves by n bytes: what lies before it is dropped

abbrev pub block_moved : ℕ → SackBlock → SackBlock
block_moved n b = record { start = b.start - n; end = b.end - n }

unfoldable pub moved : Scoreboard → ℕ → Scoreboard
moved k n =
    record {
      newest = block_moved n k.newest;
      second = block_moved n k.second;
      third = block_moved n k.third;
      oldest = block_moved n k.oldest;
    }

-- ---- the next hole

-- behind the block, where p lies in it
abbrev pub passed : ℕ → SackBlock → ℕ
passed p b = if nat_le b.start p && nat_lt p b.end then b.end else p

-- the first place from p on that was not told
unfoldable pub untold : Scoreboard → ℕ → ℕ
untold k p = passed (passed (passed (passed p k.newest) k.second) k.third) k.oldest

-- the sooner start behind p; 0 stands for none
abbrev pub sooner : ℕ → ℕ → SackBlock → ℕ
sooner p best b = if nat_lt p b.start && ((best == 0) || nat_lt b.start best) then b.start else best

unfoldable pub next_told : Scoreboard → ℕ → ℕ
next_told k p = sooner p (sooner p (sooner p (sooner p 0 k.newest) k.second) k.third) k.oldest

abbrev pub hole_between : ℕ → ℕ → Option Hole
hole_between p e = if e == 0 then None else Some (record { start = p; end = e })

-- the first one from p on: bytes that the peer lacks, before some that it has
abbrev pub hole_behind : Scoreboard → ℕ → Option Hole
hole_behind k p = hole_between (untold k p) (next_told k (untold k p))

-- where what was told ends, and 0 where nothing was
abbrev pub highest_told : Scoreboard → ℕ
highest_told k = max (max k.newest.end k.second.end) (max k.third.end k.oldest.end)

-- ---- what goes out of it, of n bytes that are queued

-- a queue has at most 2^30 bytes
abbrev pub begins_in : Hole → ℕ → Bool
begins_in h n = nat_lt h.start (min n (2 ^ 30))

abbrev pub hole_start : Option Hole → ℕ → ℕ
hole_start None n = 0
hole_start (Some h) n = if begins_in h n then h.start else 0

-- at most m bytes, and no byte behind its end
abbrev pub hole_size : Option Hole → ℕ → ℕ → ℕ
hole_size None n m = m
hole_size (Some h) n m = if begins_in h n then min m (max 1 (h.end - h.start)) else m

abbrev pub hole_number : Option Hole → ℕ → TcpSeqNumber → TcpSeqNumber
hole_number None n una = una
hole_number (Some h) n una = seq_add una (hole_start (Some h) n)
