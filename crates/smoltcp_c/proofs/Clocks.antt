-- A socket whose clock is set anew stays as it was.
use Rattle.std.proofs.Common.{◌≡◌, ◌∙◌, Bool, true, sym, ap}
use Rattle.sock_tcp.specs.View.{View}

pub still_stamped : (v w : View) → v.stamps ≡ true → w ≡ record v { stamps = true } → w ≡ v
still_stamped v w stamps is = is ∙ ap (λ (b : Bool). record v { stamps = b }) (sym stamps)
