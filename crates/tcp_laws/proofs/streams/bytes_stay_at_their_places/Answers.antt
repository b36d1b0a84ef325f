use Rattle.tcp_laws.proofs.BytesAtPlaces.{places_stay}
use Rattle.tcp_laws.proofs.streams.bytes_stay_at_their_places.Goals as goal

pub returns : goal.returns
returns c = places_stay
