-- ICMP messages are written in pieces.
use Rattle.std.proofs.Common.{ℕ, List, ◌++◌, ◌≡◌, length, take, drop, refl, ap, ◌∙◌, arith}
use Rattle.std.proofs.lemmas.List.{append-nil, drop_all}
use Rattle.ip_wire.specs.Octets.{be16}
use Rattle.control_wire.specs.Icmp.{Exceeded, Kinds, Message, Problem, Reply, Request, Unreachable, message_with}

-- nothing is left behind what fills the buffer
pub ends : (xs ws zs : List ℕ) (n : ℕ) → zs ≡ xs ++ drop n ws → length ws ≡ n → zs ≡ xs
ends xs ws zs n z l = z ∙ ap (λ us. xs ++ us) (drop_all n ws (omega arith)) ∙ append-nil xs

refilled : {H : Type 0} (kinds : Kinds) (quoted : H → List ℕ) (m : Message H) (n : ℕ) → take 2 (message_with kinds quoted m 0) ++ (be16 n ++ drop 4 (message_with kinds quoted m 0)) ≡ message_with kinds quoted m n
refilled kinds quoted (Request i s b) n = refl
refilled kinds quoted (Reply i s b) n = refl
refilled kinds quoted (Unreachable r h b) n = refl
refilled kinds quoted (Exceeded r h b) n = refl
refilled kinds quoted (Problem r p h b) n = refl
