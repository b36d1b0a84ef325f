-- The calls of an interface.
use Rattle.std.specs.Prelude.{ℕ, ◌≡◌, Bool, List, Result}
use Rattle.ip_wire.specs.declared.address.IpAddress.{IpAddress}
use Rattle.net_base.specs.declared.time.Instant.{Instant}
use Rattle.net_host.specs.Facts.{facts_by}
use Rattle.net_host.specs.Moments.{lawful_micros}
use Rattle.net_host.specs.Receiving.{TakesPacket}
use Rattle.net_host.specs.Speaking.{Speaks}
use Rattle.net_host.specs.declared.interface.Interface.{Interface}
use Rattle.net_host.specs.declared.slot.Slot.{Slot}
use Rattle.net_host.specs.declared.wire.TooShort.{TooShort}

-- the interface is at this moment, and else as it was
pub record MovesTo {W : Type 0} (at : Instant) (i j : Interface W) : Type 0 where
  pub now : j.inner.environment.now.micros ≡ lawful_micros at.micros
  pub addresses : j.inner.environment.addresses ≡ i.inner.environment.addresses
  pub mtu : j.inner.environment.mtu ≡ i.inner.environment.mtu
  pub checksums : j.inner.environment.checksums ≡ i.inner.environment.checksums
  pub words : j.inner.words ≡ i.inner.words
  pub turn : j.turn ≡ i.turn
  pub resets : j.resets ≡ i.resets
  pub errors : j.errors ≡ i.errors
  pub counters : j.counters ≡ i.counters
  pub guards : j.guards ≡ i.guards
  pub cookies : j.cookies ≡ i.cookies
  pub groups : j.groups ≡ i.groups
  pub most : j.most_of_source ≡ i.most_of_source

module _ {W G : Type 0} (is : IpAddress → IpAddress → Bool) where
  -- it is at the moment, and takes the packet
  pub record ReceivesAt (word_at : W → ℕ → ℕ) (tells : G → ℕ → Type 0) (now : Instant) (packet : List ℕ)
      (i : Interface W) (ss : List (Slot G)) (out : List ℕ) (n : ℕ) (j : Interface W) (ts : List (Slot G))
      (out' : List ℕ) : Type 0 where
    pub moved : Interface W
    pub moves : MovesTo now i moved
    pub takes : TakesPacket is word_at tells packet moved ss out n j ts out'

  -- it is at the moment, and the sockets that are due speak in turn
  pub record EmitsAt (tells : G → ℕ → Type 0) (now : Instant) (i : Interface W) (ss : List (Slot G)) (out : List ℕ)
      (r : Result ℕ TooShort) (j : Interface W) (ts : List (Slot G)) (out' : List ℕ) : Type 0 where
    pub moved : Interface W
    pub moves : MovesTo now i moved
    pub spoken : Speaks (facts_by is moved.inner.environment) tells i.guards ss moved.turn i.counters out r ts j.turn
        j.counters out'
    pub inner : j.inner ≡ moved.inner
    pub resets : j.resets ≡ i.resets
    pub errors : j.errors ≡ i.errors
    pub guards : j.guards ≡ i.guards
    pub cookies : j.cookies ≡ i.cookies
    pub groups : j.groups ≡ i.groups
    pub most : j.most_of_source ≡ i.most_of_source
