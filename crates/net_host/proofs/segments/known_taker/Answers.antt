use Rattle.std.proofs.Common.{◌≡◌, ◌∙◌, ◌+◌, ◌*◌, false, refl, ap, subst}
use Rattle.std.specs.Prelude.{IfSome, slice_get}
use Rattle.control_wire.specs.Segment.{segment_of}
use Rattle.host_index.specs.Entries.{IsFirst}
use Rattle.net_host.specs.Filing.{number_of}
use Rattle.net_host.specs.Finding.{key_of_segment}
use Rattle.net_host.specs.Resting.{Reopens}
use Rattle.net_host.specs.Segments.{IsTaker, TakesSegment}
use Rattle.net_host.specs.Walks.{IsAt}
use Rattle.net_host.specs.declared.segments.Taker.TheVariants as taker
use Rattle.net_host.proofs.Keyed.{known_connection}
use Rattle.net_host.proofs.segments.known_taker.Goals as goal

pub returns-in-Some-clause-taker : goal.returns-in-Some-clause-taker
returns-in-Some-clause-taker g c =
    let key : c.connection_key-key.result ≡ key_of_segment c.args.ip.now (segment_of c.args.repr.now) = c.connection_key-key.ensures.value ∙ ap (λ a. record { major = number_of a; minor = c.args.repr.now.dst_port * 65536 + c.args.repr.now.src_port; place = 0 }) c.src_addr.ensures in
    subst (λ v. IsTaker v.items c.args.ip.now (segment_of c.args.repr.now) (taker.Connection c.in-Some.i)) c.known_place.ensures.slots (
      known_connection c.known_place.new.self.slots.items c.known_place.new.self.index.entries c.args.ip.now (segment_of c.args.repr.now) c.in-Some.i
          (c.in-Some.ensures.filed c.if-sockets.true)
          (subst (λ k. IsFirst c.known_place.new.self.index.entries k c.in-Some.i) key c.in-Some.ensures.known)
          (subst (λ xs. IsAt (λ x. TakesSegment false c.args.ip.now (segment_of c.args.repr.now) x) xs c.in-Some.i) c.deref.ensures.value (c.if-goes_on_with.ensures.taken refl)),
      subst (λ xs. IfSome (slice_get xs c.in-Some.i) (λ x. Reopens c.args.ip.now (segment_of c.args.repr.now) x → ⊥)) c.deref.ensures.value (c.if-goes_on_with.ensures.open refl),
    )
