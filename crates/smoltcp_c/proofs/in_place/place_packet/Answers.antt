use Rattle.smoltcp_c.proofs.Standing.{stands}
use Rattle.smoltcp_c.proofs.in_place.place_packet.Goals as goal

pub returns-clause-joins : goal.returns-clause-joins
returns-clause-joins c =
    stands _ _ (λ shown left r h. h) c.args.size _ c.args.socket.now.tx_buffer c.in_ok-send_with.field-0 c.send_with.new.self.tx_buffer c.in_ok-send_with.ensures.ok
