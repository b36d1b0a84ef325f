-- A scoreboard follows the segments that come.
use Rattle.std.proofs.Common.{◌≡◌, ℕ, ◌+◌, ◌-◌, ◌<◌, ◌^◌, ◌%◌, ◌⊎◌, inl, inr, Bool, true, false, subst, ap, arith}
use Rattle.std.specs.Prelude.{if◌then◌else◌, int_lt}
use Rattle.ip_wire.specs.declared.repr.IpRepr.{IpRepr}
use Rattle.net_base.specs.declared.time.Instant.{Instant}
use Rattle.control_wire.specs.Segment.{Segment}
use Rattle.control_wire.specs.Seq.{seq_sub}
use Rattle.sock_tcp.specs.Arrival.{arrival}
use Rattle.sock_tcp.specs.Content.{carries_data}
use Rattle.sock_tcp.specs.Process.{ack_sent, by_verdict, challenged, has_window, processed_by, stopped, tested_by, tuple_of}
use Rattle.sock_tcp.specs.Replies.{ack_kept}
use Rattle.sock_tcp.specs.Rfc.Checks.{verdict_by}
use Rattle.sock_tcp.specs.Rfc.Recovery.{before_of, is_telling, recovered, sacked_by, tellable}
use Rattle.sock_tcp.specs.Rfc.Scoreboard.{block_moved, moved, nothing_told}
use Rattle.sock_tcp.specs.Rfc.Windows.{windowed}
use Rattle.sock_tcp.specs.Timers.{after, challenge_interval}
use Rattle.sock_tcp.specs.View.{View}
use Rattle.sock_tcp.specs.declared.rules.Rules.TheVariants as rules
use Rattle.sock_tcp.specs.declared.scoreboard.SackBlock.{SackBlock}
use Rattle.sock_tcp.specs.declared.scoreboard.Scoreboard.{Scoreboard}
use Rattle.sock_tcp.specs.declared.verdict.Verdict.{Verdict}
use Rattle.sock_tcp.specs.declared.verdict.Verdict.TheVariants as verdicts
use Rattle.tcp_laws.specs.Loss.{Covers, FollowsSegment, IsInAny, ScoreboardFollowsSegments, Tells, una_moved}
use Rattle.tcp_laws.proofs.LossSaid.{tells_only_what_came}

-- ---- SND.UNA moves by n bytes

block_covers : (n x : ℕ) (b : SackBlock) → Covers (block_moved n b) x → Covers b (x + n)
block_covers n x b h = (omega (arith, h.0), omega (arith, h.1))

moved_tells : (k : Scoreboard) (n x : ℕ) → Tells (moved k n) x → Tells k (x + n)
unfolding moved
moved_tells k n x (inl h) = inl (block_covers n x k.newest h)
moved_tells k n x (inr (inl h)) = inr (inl (block_covers n x k.second h))
moved_tells k n x (inr (inr (inl h))) = inr (inr (inl (block_covers n x k.third h)))
moved_tells k n x (inr (inr (inr h))) = inr (inr (inr (block_covers n x k.oldest h)))

pub tells_nothing : (x : ℕ) → Tells nothing_told x → ⊥
tells_nothing x (inl h) = omega (arith, h.1)
tells_nothing x (inr (inl h)) = omega (arith, h.1)
tells_nothing x (inr (inr (inl h))) = omega (arith, h.1)
tells_nothing x (inr (inr (inr h))) = omega (arith, h.1)

-- ---- a segment s comes to v

module _ (v : View) (s : Segment) (small : v.local_seq_no.0 < 2 ^ 32) where
  unmoved : seq_sub v.local_seq_no v.local_seq_no ≡ 0
  unmoved = ap (λ n. n % 2 ^ 32) {x = v.local_seq_no.0 + (2 ^ 32 - v.local_seq_no.0)} {y = 2 ^ 32} (omega (arith, small))

  stays : FollowsSegment v s v
  stays x h = inl (subst (Tells v.sacked) {x = x} {y = x + una_moved v v} (omega (arith, unmoved)) h)

  challenged_follows : (now : Instant) → FollowsSegment v s (challenged v now s).view
  unfolding challenged ack_kept
  challenged_follows now = go (int_lt now.micros v.challenge_ack_timer.micros)
    where
      go : (b : Bool) → FollowsSegment v s (if b then stopped v else ack_sent (record v { challenge_ack_timer = after now challenge_interval }) s).view
      go true = stays
      go false = stays

  recovered_follows : (now : Instant) (w : View) → FollowsSegment v s (recovered (before_of v s) w now)
  unfolding recovered before_of
  recovered_follows now w x h = go (carries_data w.state) h
    where
      d : ℕ
      d = seq_sub w.local_seq_no v.local_seq_no

      came : (t : Bool) → Tells (sacked_by t v s) (x + d) → Tells v.sacked (x + d) ⊎ IsInAny (tellable v) v.local_seq_no s.sack_ranges (x + d)
      came true e = tells_only_what_came v.sacked (tellable v) v.local_seq_no s.sack_ranges (x + d) e
      came false e = inl e

      go : (b : Bool) → Tells (if b then moved (sacked_by (is_telling v s) v s) d else nothing_told) x → Tells v.sacked (x + d) ⊎ IsInAny (tellable v) v.local_seq_no s.sack_ranges (x + d)
      go true e = came (is_telling v s) (moved_tells _ d x e)
      go false e = absurd (tells_nothing x e)

  verdict_follows : (now : Instant) (word : ℕ) (ip : IpRepr) (x : Verdict) → FollowsSegment v s (by_verdict rules.Rfc x v (arrival now (tuple_of ip s) word s)).view
  verdict_follows now word ip verdicts.Drop = stays
  verdict_follows now word ip verdicts.Reset = stays
  verdict_follows now word ip verdicts.Challenge = challenged_follows now
  verdict_follows now word ip verdicts.Pass = recovered_follows now (tested_by rules.Rfc (has_window v.state) v (arrival now (tuple_of ip s) word s)).view

pub scoreboard_follows : ScoreboardFollowsSegments
unfolding processed_by
scoreboard_follows v now word ip s small = verdict_follows v (windowed rules.Rfc v s) small now word ip (verdict_by rules.Rfc v now s)
