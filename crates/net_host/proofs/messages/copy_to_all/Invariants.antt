use Rattle.std.proofs.Common.{◌≡◌, length}
use Rattle.net_host.specs.Messages.{Copies, mail_of}
use Rattle.net_host.specs.Touching.{Touches}
use Rattle.net_host.proofs.Jumps.{Reached}
use Rattle.net_host.proofs.messages.copy_to_all.Given as goal

abbrev pub invariant-loop-i : goal.invariant-loop-i
invariant-loop-i g l = record {
  reached : Reached (λ b a. Copies (g.C.Context.facts l.cx) (mail_of l.mail) b a) l.fn.slots.items l.i l.slots.items;
  touched : Touches l.fn.bounds l.fn.slots.items l.bounds l.slots.items;
  len : length l.bounds ≡ length l.fn.bounds;
}
