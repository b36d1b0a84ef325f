use Rattle.std.proofs.Common.{◌∙◌, ◌+◌, ◌*◌, ◌≤◌, true, false, ap, sym, subst, arith}
use Rattle.control_wire.specs.Segment.{segment_of}
use Rattle.net_host.specs.Asking.{taker_key, under}
use Rattle.net_host.specs.Filing.{keys_of, listener_key, number_of}
use Rattle.net_host.specs.Entries.{FindsListed}
use Rattle.net_host.specs.Finding.{key_of_segment}
use Rattle.net_host.specs.Segments.{TakesSegment}
use Rattle.net_host.specs.Walks.{Finds}
use Rattle.net_host.proofs.Keyed.{connection_in, found, listener_in}
use Rattle.net_host.proofs.Places.{all_filed}
use Rattle.net_host.proofs.segments.found_taker.Goals as goal

pub returns-then-listening-clause-first : goal.returns-then-listening-clause-first
returns-then-listening-clause-first g c =
    subst (λ b. Finds (λ x. TakesSegment b c.args.ip.now (segment_of c.args.repr.now) x) c.args.sockets.now.slots.items c.first_if_any.result) (sym c.if-listening.true)
    (found (λ x. TakesSegment true c.args.ip.now (segment_of c.args.repr.now) x) c.args.sockets.now.slots.items c.args.sockets.now.index.entries (listener_key c.args.repr.now.dst_port) (all_filed (λ s. keys_of s) c.args.sockets.now.complete c.args.sockets.now.slots.items c.args.sockets.now.index.entries c.args.sockets.now.free c.requires.complete c.requires.settled) (λ k x f h. listener_in c.args.sockets.now.index.entries k c.args.ip.now (segment_of c.args.repr.now) x.socket f h) c.first_if_any.result
    (subst (λ key. FindsListed (λ x. TakesSegment true c.args.ip.now (segment_of c.args.repr.now) x) c.args.sockets.now.slots.items c.args.sockets.now.index.entries key c.first_if_any.result) c.listener_key-key.ensures.value
    (subst (λ xs. FindsListed (λ x. TakesSegment true c.args.ip.now (segment_of c.args.repr.now) x) xs c.args.sockets.now.index.entries c.listener_key-key.result c.first_if_any.result) c.deref.ensures.value c.first_if_any.ensures.found)))

pub returns-else-listening-clause-first : goal.returns-else-listening-clause-first
returns-else-listening-clause-first g c =
    subst (λ b. Finds (λ x. TakesSegment b c.args.ip.now (segment_of c.args.repr.now) x) c.args.sockets.now.slots.items c.first_sought.result) (sym c.if-listening.false)
    (found (λ x. TakesSegment false c.args.ip.now (segment_of c.args.repr.now) x) c.args.sockets.now.slots.items c.args.sockets.now.index.entries (key_of_segment c.args.ip.now (segment_of c.args.repr.now)) (all_filed (λ s. keys_of s) c.args.sockets.now.complete c.args.sockets.now.slots.items c.args.sockets.now.index.entries c.args.sockets.now.free c.requires.complete c.requires.settled) (λ k x f h. connection_in c.args.sockets.now.index.entries k c.args.ip.now (segment_of c.args.repr.now) x.socket f h) c.first_sought.result
    (subst (λ key. FindsListed (λ x. TakesSegment false c.args.ip.now (segment_of c.args.repr.now) x) c.args.sockets.now.slots.items c.args.sockets.now.index.entries key c.first_sought.result) (c.connection_key-key.ensures.value ∙ ap (λ a. record { major = number_of a; minor = c.args.repr.now.dst_port * 65536 + c.args.repr.now.src_port; place = 0 }) c.src_addr.ensures)
    (subst (λ xs. FindsListed (λ x. TakesSegment false c.args.ip.now (segment_of c.args.repr.now) x) xs c.args.sockets.now.index.entries c.connection_key-key.result c.first_sought.result) c.deref-else-listening.ensures.value c.first_sought.ensures.found)))

pub returns-then-listening-clause-asked : goal.returns-then-listening-clause-asked
returns-then-listening-clause-asked g c =
    subst (λ b. c.first_if_any.new.asked.count ≤ c.args.asked.now.count + (under c.args.sockets.now.index.entries (taker_key b c.args.ip.now (segment_of c.args.repr.now)) + 1)) (sym c.if-listening.true)
    (subst (λ key. c.first_if_any.new.asked.count ≤ c.args.asked.now.count + (under c.args.sockets.now.index.entries key + 1)) c.listener_key-key.ensures.value c.first_if_any.ensures.asked)

pub returns-else-listening-clause-asked : goal.returns-else-listening-clause-asked
returns-else-listening-clause-asked g c =
    let few : c.first_sought.new.asked.count ≤ c.args.asked.now.count + under c.args.sockets.now.index.entries (key_of_segment c.args.ip.now (segment_of c.args.repr.now)) =
    subst (λ key. c.first_sought.new.asked.count ≤ c.args.asked.now.count + under c.args.sockets.now.index.entries key) (c.connection_key-key.ensures.value ∙ ap (λ a. record { major = number_of a; minor = c.args.repr.now.dst_port * 65536 + c.args.repr.now.src_port; place = 0 }) c.src_addr.ensures) c.first_sought.ensures.asked in
    subst (λ b. c.first_sought.new.asked.count ≤ c.args.asked.now.count + (under c.args.sockets.now.index.entries (taker_key b c.args.ip.now (segment_of c.args.repr.now)) + 1)) (sym c.if-listening.false) (omega (arith, few))
