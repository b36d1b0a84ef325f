use Rattle.sock_pair.proofs.ReplaySinks.{takes_after}
use Rattle.sock_pair.proofs.script.output.put_closing.Goals as goal

pub returns : goal.returns
returns g c =
    takes_after _ _ _ _ _ _ _ c.in_ok-put.ensures.0
    (takes_after _ _ _ _ _ _ _ c.in_ok-put-2.ensures.0
    (takes_after _ _ _ _ _ _ _ c.in_ok-put_count.ensures.0
    (takes_after _ _ _ _ _ _ _ c.in_ok-put_count-2.ensures.0
    (takes_after _ _ _ _ _ _ _ c.in_ok-put_count-3.ensures.0 c.put_byte.ensures))))
