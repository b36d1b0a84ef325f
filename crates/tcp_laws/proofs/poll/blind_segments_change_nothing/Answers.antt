use Rattle.tcp_laws.proofs.Blind.{blind_segments_change_nothing}
use Rattle.tcp_laws.proofs.poll.blind_segments_change_nothing.Goals as goal

pub returns : goal.returns
returns c = blind_segments_change_nothing
