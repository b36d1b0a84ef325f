-- Whether a raw socket takes a packet is decided without a walk that runs.
use Rattle.std.proofs.Common.{◌≡◌, ◌∙◌, ℕ, zero, suc, List, [], ◌∷◌, Bool, true, false, nat_eq, Option, Some, None, refl, sym, ap, inl, inr, arith, ◌⊎◌, ◌<◌}
use Rattle.std.specs.Prelude.{IfSome, slice_get}
use Rattle.ip_wire.specs.IpHeader.{header_version, next_header_of}
use Rattle.ip_wire.specs.declared.protocol.IpProtocol.{IpProtocol}
use Rattle.ip_wire.specs.declared.protocol.IpProtocol.TheVariants as protocol
use Rattle.ip_wire.specs.declared.protocol.IpVersion.{IpVersion}
use Rattle.ip_wire.specs.declared.protocol.IpVersion.TheVariants as version
use Rattle.ip_wire.specs.declared.repr.IpRepr.{IpRepr}
use Rattle.sock_dgram.specs.Raw.{Accepts, Suits, View}
use Rattle.smoltcp_socket.specs.declared.socket.Socket.{Socket}
use Rattle.smoltcp_socket.specs.declared.socket.Socket.TheVariants as socket
use Rattle.net_host.specs.declared.slot.Slot.{Slot}
use Rattle.net_host.specs.Unreachable.{RawTakes, TakesRaw}
use Rattle.net_host.specs.Walks.{Finds}

abbrev Decided : Type 0 → Type 0
Decided P = P ⊎ (P → ⊥)

-- ---- a first element, or none

module _ {X : Type 0} (P : X → Type 0) (decide : (x : X) → Decided (P x)) where
  further : (x : X) (xs : List X) → (P x → ⊥) → (o : Option ℕ) → Finds P xs o → (r : Option ℕ) × Finds P (x ∷ xs) r
  further x xs not None none = (None, go)
    where
      go : (k : ℕ) → IfSome (slice_get (x ∷ xs) k) (λ y. P y → ⊥)
      go zero = not
      go (suc k) = none k
  further x xs not (Some i) first = (Some (suc i), record { within = omega (arith, first.within); holds = first.holds; before = go })
    where
      go : (k : ℕ) → k < suc i → IfSome (slice_get (x ∷ xs) k) (λ y. P y → ⊥)
      go zero h = not
      go (suc k) h = first.before k (omega (arith, h))

  by : (x : X) (xs : List X) → Decided (P x) → (r : Option ℕ) × Finds P xs r → (r : Option ℕ) × Finds P (x ∷ xs) r
  by x xs (inl it) rest = (Some zero, record { within = omega arith; holds = it; before = λ k h. absurd (omega (arith, h)) })
  by x xs (inr nay) rest = further x xs nay rest.0 rest.1

  pub first_or_none : (xs : List X) → (r : Option ℕ) × Finds P xs r
  first_or_none [] = (None, λ k. tt)
  first_or_none (x ∷ xs) = by x xs (decide x) (first_or_none xs)

-- ---- what a raw socket takes

abbrev back : ℕ → IpProtocol
back zero = protocol.Icmp
back (suc zero) = protocol.Tcp
back (suc (suc zero)) = protocol.Udp
back (suc (suc (suc zero))) = protocol.Icmpv6
back (suc (suc (suc (suc n)))) = protocol.Unknown n

abbrev code : IpProtocol → ℕ
code protocol.Icmp = 0
code protocol.Tcp = 1
code protocol.Udp = 2
code protocol.Icmpv6 = 3
code (protocol.Unknown n) = suc (suc (suc (suc n)))

code_back : (p : IpProtocol) → back (code p) ≡ p
code_back protocol.Icmp = refl
code_back protocol.Tcp = refl
code_back protocol.Udp = refl
code_back protocol.Icmpv6 = refl
code_back (protocol.Unknown n) = refl

same_protocol : (p q : IpProtocol) → Decided (p ≡ q)
same_protocol p q = go (nat_eq (code p) (code q)) refl
  where
    go : (b : Bool) → nat_eq (code p) (code q) ≡ b → Decided (p ≡ q)
    go true e = let same : code p ≡ code q = grind (arith, e) in inl (sym (code_back p) ∙ ap back same ∙ code_back q)
    go false e = inr (λ h. let same : code p ≡ code q = ap code h in absurd (grind (arith, e, same)))

same_version : (p q : IpVersion) → Decided (p ≡ q)
same_version version.Ipv4 version.Ipv4 = inl refl
same_version version.Ipv6 version.Ipv6 = inl refl
same_version version.Ipv4 version.Ipv6 = inr (λ e. cc)
same_version version.Ipv6 version.Ipv4 = inr (λ e. cc)

suits : {X : Type 0} → ((x y : X) → Decided (x ≡ y)) → (o : Option X) (x : X) → Decided (Suits o x)
suits decide None x = inl tt
suits decide (Some a) x = decide a x

accepts : (v : View) (ip : IpRepr) → Decided (Accepts v ip)
accepts v ip = go (suits same_version v.ip_version (header_version ip)) (suits same_protocol v.ip_protocol (next_header_of ip))
  where
    go : Decided (Suits v.ip_version (header_version ip)) → Decided (Suits v.ip_protocol (next_header_of ip)) → Decided (Accepts v ip)
    go (inl a) (inl b) = inl (record { version = a; protocol = b })
    go (inr a) b = inr (λ h. a h.version)
    go (inl a) (inr b) = inr (λ h. b h.protocol)

takes : {G : Type 0} (ip : IpRepr) (o : Option (Socket G)) → Decided (RawTakes o ip)
takes ip None = inr (λ h. h)
takes ip (Some (socket.Raw x)) = accepts x ip
takes ip (Some (socket.Icmp x)) = inr (λ h. h)
takes ip (Some (socket.Udp x)) = inr (λ h. h)
takes ip (Some (socket.Tcp x)) = inr (λ h. h)

pub raw_or_none : {G : Type 0} (ip : IpRepr) (ss : List (Slot G)) → (r : Option ℕ) × Finds (TakesRaw ip) ss r
raw_or_none ip ss = first_or_none (TakesRaw ip) (λ s. takes ip s.socket) ss
