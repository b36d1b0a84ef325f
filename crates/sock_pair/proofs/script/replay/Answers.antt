use Rattle.sock_pair.proofs.ReplayPlays.{replays}
use Rattle.sock_pair.proofs.script.replay.Goals as goal

pub returns-in-Ok-parse-clause-written : goal.returns-in-Ok-parse-clause-written
returns-in-Ok-parse-clause-written g c =
    replays _ _ c.in-Ok.text.items c.as_slice.result.now c.in-Ok-parse.script c.play.result _ _ _ c.in-Ok.ensures.text c.as_slice.ensures.value c.in-Ok-parse.ensures.value c.play.ensures.failed c.play.ensures.written
