use Rattle.tcp_laws.proofs.Scaled.{unit_fits}
use Rattle.tcp_laws.proofs.streams.window_unit_fits.Goals as goal

pub returns : goal.returns
returns c = unit_fits
