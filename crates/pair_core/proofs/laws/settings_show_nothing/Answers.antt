use Rattle.pair_core.proofs.ShownCalls.{set_shows}
use Rattle.pair_core.proofs.laws.settings_show_nothing.Goals as goal

pub returns : goal.returns
returns c = set_shows
