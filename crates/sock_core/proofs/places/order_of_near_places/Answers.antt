use Rattle.sock_core.proofs.Numbers.{order_agrees}
use Rattle.sock_core.proofs.places.order_of_near_places.Goals as goal

pub returns : goal.returns
returns c = λ o p q near. order_agrees o p q near.0 near.1
