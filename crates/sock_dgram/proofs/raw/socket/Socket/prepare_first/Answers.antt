use Rattle.std.proofs.Common.{rules, ◌≡◌, sym, ap, ◌∙◌}
use Rattle.net_base.specs.Packets.{packets}
use Rattle.sock_dgram.specs.Raw.{View, waiting}
use Rattle.sock_dgram.specs.RawDispatch.{first_prepared, prepared, prepared_buffer}
use Rattle.sock_dgram.proofs.RawSetting.{prepared_unpadded, sets}
use Rattle.sock_dgram.proofs.RawTwice.{offered_again}
use Rattle.sock_dgram.proofs.raw.socket.Socket.prepare_first.Goals as goal

buffer : (c : goal.After-dequeue_with) → c.dequeue_with.new.self ≡ prepared_buffer c.args.sent c.args.self.now.tx_buffer
buffer c =
    sets c.args.sent c.self.inside.tx_buffer c.dequeue_with.new.self _ (λ x bs r left w. (w.met.0, sym w.leaves ∙ w.met.1 ∙ ap (prepared c.args.sent) w.shows))
    c.dequeue_with.result c.dequeue_with.ensures.err c.dequeue_with.ensures.empty c.dequeue_with.ensures.ok
    ∙ ap (λ (v : View). prepared_buffer c.args.sent v.tx_buffer) c.self.view_is

pub returns-clause-after : goal.returns-clause-after
returns-clause-after c = (λ i. record (c.self.view_is i) { tx_buffer = buffer c i })

pub returns-clause-again : goal.returns-clause-again
returns-clause-again c =
    let queue : packets c.dequeue_with.new.self.entries ≡ first_prepared c.args.sent (waiting c.args.self.now) = search rules in
    offered_again c.args.sent (waiting c.args.self.now) (packets c.dequeue_with.new.self.entries) queue

pub returns-clause-packet : goal.returns-clause-packet
returns-clause-packet c = prepared_unpadded c.args.sent c.args.self.now.tx_buffer c.dequeue_with.new.self (buffer c)
