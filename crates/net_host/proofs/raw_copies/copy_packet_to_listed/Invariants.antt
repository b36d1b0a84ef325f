use Rattle.std.proofs.Common.{◌≡◌, ◌-◌, length}
use Rattle.net_host.specs.RawCopies.{CopiesPacket}
use Rattle.net_host.specs.Touching.{Touches}
use Rattle.net_host.proofs.Jumps.{Reached}
use Rattle.net_host.proofs.raw_copies.copy_packet_to_listed.Given as goal

abbrev pub invariant-loop-i : goal.invariant-loop-i
invariant-loop-i g l = record {
  reached : Reached (λ b a. CopiesPacket (g.C.Context.facts l.cx) l.ip l.payload b a) l.fn.slots.items l.from l.slots.items;
  touched : Touches l.fn.bounds l.fn.slots.items l.bounds l.slots.items;
  len : length l.bounds ≡ length l.fn.bounds;
}

abbrev pub decreases-loop-i : goal.decreases-loop-i
decreases-loop-i g l = l.end - l.from
