-- The order of poll moments.
use Rattle.std.specs.Ordering.{int_cmp}
use Rattle.std.specs.declared.cmp.Ordering.{Ordering}
use Rattle.std.specs.declared.cmp.Ordering.TheVariants.{Less, Equal, Greater}
use Rattle.sock_core.specs.declared.context.PollAt.{PollAt}
use Rattle.sock_core.specs.declared.context.PollAt.TheVariants.{Now, Time, Ingress}

-- at once, then at a moment, the earlier first, then after the next packet
abbrev pub poll_order : PollAt → PollAt → Ordering
poll_order Now Now = Equal
poll_order Now (Time u) = Less
poll_order Now Ingress = Less
poll_order (Time t) Now = Greater
poll_order (Time t) (Time u) = int_cmp t.micros u.micros
poll_order (Time t) Ingress = Less
poll_order Ingress Now = Greater
poll_order Ingress (Time u) = Greater
poll_order Ingress Ingress = Equal
