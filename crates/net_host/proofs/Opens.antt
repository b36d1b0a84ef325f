-- Who takes the SYN before an acknowledgement that is believed.
use Rattle.std.proofs.Common.{◌≡◌, ℕ, ℤ, ◌/◌, List, Bool, true, false, Option, Some, None, refl, subst}
use Rattle.std.specs.Prelude.{if◌then◌else◌, ◌&&◌}
use Rattle.ip_wire.specs.declared.repr.IpRepr.{IpRepr}
use Rattle.control_wire.specs.Segment.{Segment}
use Rattle.control_wire.specs.Seq.{seq_minus}
use Rattle.control_wire.specs.declared.seq_number.TcpSeqNumber.{TcpSeqNumber}
use Rattle.host_cookies.specs.Numbers.{awaited}
use Rattle.host_cookies.specs.declared.cookies.SynCookies.{SynCookies}
use Rattle.net_host.specs.Cookies.{IsAgain, OpensOn, acked_by, believed_if, class_awaited, class_if, course_of, doubted_by, is_anybody, kept_or, syn_before, tested_if}
use Rattle.net_host.specs.Crowding.{dropped_if}
use Rattle.net_host.specs.Segments.{IsTaker}
use Rattle.net_host.specs.declared.cookies.Course.{Course}
use Rattle.net_host.specs.declared.segments.Taker.{Taker}
use Rattle.net_host.specs.declared.segments.Taker.TheVariants as taker
use Rattle.net_host.specs.declared.slot.Slot.{Slot}

module _ {G : Type 0} (ss : List (Slot G)) (ip : IpRepr) (s : Segment) (again : Taker) where
  -- what is recognised is of the class that its number tells
  tells_class : (b : Bool) (n : ℕ) → IsTaker ss ip (syn_before s (n / 536870912)) again → OpensOn (believed_if (if b then Some (n / 536870912) else None) n) ss ip s again
  tells_class true n h = h
  tells_class false n h = tt

  doubted_opens : (c : SynCookies) (now : ℤ) (ack : TcpSeqNumber) → IsTaker ss ip (syn_before s ((seq_minus ack 1).0 / 536870912)) again → OpensOn (doubted_by c now ip s (Some ack)) ss ip s again
  doubted_opens c now ack h = tells_class _ (seq_minus ack 1).0 h

  tested_opens : (b d : Bool) (c : SynCookies) (now : ℤ) (o : Option TcpSeqNumber) → o ≡ acked_by s → IsAgain (class_awaited b o) ss ip s again → OpensOn (tested_if (b && d) c now ip s) ss ip s again
  tested_opens false d c now o e h = tt
  tested_opens true false c now o e h = tt
  tested_opens true true c now None e h = subst (λ a. OpensOn (doubted_by c now ip s a) ss ip s again) e tt
  tested_opens true true c now (Some ack) e h = subst (λ a. OpensOn (doubted_by c now ip s a) ss ip s again) e (doubted_opens c now ack h)

  kept_opens : (b : Bool) (k n : ℕ) → OpensOn (kept_or b k n) ss ip s again
  kept_opens true k n = tt
  kept_opens false k n = tt

  pub opens_on : (o : Option SynCookies) (own : Option ℕ) (t : Taker) (now : ℤ) → IsAgain (class_if o t now s) ss ip s again → OpensOn (course_of o own t again now ip s) ss ip s again
  opens_on None own t now h = tt
  opens_on (Some c) own taker.Nobody now h = tested_opens (awaited c.answered now) (is_anybody again) c now (acked_by s) refl h
  opens_on (Some c) own (taker.Listener k) now h = kept_opens _ k _
  opens_on (Some c) own (taker.Connection k) now h = tt
  opens_on (Some c) own (taker.Reopened k) now h = tt
  opens_on (Some c) own (taker.Reused k) now h = tt
  opens_on (Some c) own taker.Busy now h = tt

-- also where it is dropped
pub opens_if : {G : Type 0} (ss : List (Slot G)) (ip : IpRepr) (s : Segment) (again : Taker) (b : Bool) (c : Course) → OpensOn c ss ip s again → OpensOn (dropped_if b c) ss ip s again
opens_if ss ip s again true c h = tt
opens_if ss ip s again false c h = h
