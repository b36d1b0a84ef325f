-- What an interface does with a device.
use Rattle.std.specs.Prelude.{ℕ, ◌≡◌, ◌+◌, ◌<◌, ◌⊎◌, List, Result, Ok, Err, Bool, true, false, max, min, nat_lt, take}
use Rattle.ip_wire.specs.declared.address.IpAddress.{IpAddress}
use Rattle.net_base.specs.declared.time.Instant.{Instant}
use Rattle.net_host.specs.HostCalls.{EmitsAt, ReceivesAt}
use Rattle.net_host.specs.declared.interface.Interface.{Interface}
use Rattle.net_host.specs.declared.slot.Slot.{Slot}
use Rattle.net_host.specs.declared.wire.TooShort.{TooShort}

-- the largest packet is of so many octets, within the bounds of an interface, and nothing else changes
pub record FitsTo {W : Type 0} (mtu : ℕ) (i j : Interface W) : Type 0 where
  pub mtu_is : j.inner.environment.mtu ≡ max 68 (min mtu 65535)
  pub now : j.inner.environment.now ≡ i.inner.environment.now
  pub addresses : j.inner.environment.addresses ≡ i.inner.environment.addresses
  pub checksums : j.inner.environment.checksums ≡ i.inner.environment.checksums
  pub words : j.inner.words ≡ i.inner.words
  pub turn : j.turn ≡ i.turn
  pub resets : j.resets ≡ i.resets
  pub errors : j.errors ≡ i.errors
  pub counters : j.counters ≡ i.counters
  pub guards : j.guards ≡ i.guards
  pub cookies : j.cookies ≡ i.cookies
  pub groups : j.groups ≡ i.groups
  pub most : j.most_of_source ≡ i.most_of_source

-- the packet at the beginning of a buffer is sent, or there is none
abbrev pub SendsIf : {D : Type 0} → (D → List ℕ → D → Type 0) → Bool → ℕ → List ℕ → D → D → Type 0
SendsIf transmits true n out d e = transmits d (take n out) e
SendsIf transmits false n out d e = e ≡ d

-- what `emit` wrote is sent
abbrev pub Sends : {D : Type 0} → (D → List ℕ → D → Type 0) → Result ℕ TooShort → List ℕ → D → D → Type 0
Sends transmits (Ok n) out d e = SendsIf transmits (nat_lt 0 n) n out d e
Sends transmits (Err short) out d e = e ≡ d

-- whether a socket had a packet
abbrev pub had : Result ℕ TooShort → Bool
had (Ok n) = nat_lt 0 n
had (Err short) = true

-- why no packet is taken: the device has no room, or no packet waits there
pub data Idles {D : Type 0} (has_room : D → Bool) (receives : D → ℕ → List ℕ → D → Type 0) : D → D → Type 0 where
  Full : (d : D) → has_room d ≡ false → Idles has_room receives d d
  Empty : (d e : D) (buffer : List ℕ) → has_room d ≡ true → receives d 0 buffer e → Idles has_room receives d e

-- so many packets were taken: 64, or no more for one of these reasons
abbrev pub EndsTaking : {D : Type 0} → (D → Bool) → (D → ℕ → List ℕ → D → Type 0) → ℕ → D → D → Type 0
EndsTaking has_room receives n d e = ((n ≡ 64) × (e ≡ d)) ⊎ ((n < 64) × Idles has_room receives d e)

module _ {W G D : Type 0} (is : IpAddress → IpAddress → Bool) (word_at : W → ℕ → ℕ) (tells : G → ℕ → Type 0)
    (receives : D → ℕ → List ℕ → D → Type 0) (transmits : D → List ℕ → D → Type 0) (at : Instant) where
  -- a packet that arrived goes to the interface, and what answers it is sent
  pub record Hears (i : Interface W) (ss : List (Slot G)) (d : D) (j : Interface W) (ts : List (Slot G)) (e : D)
      : Type 0 where
    pub len : ℕ
    pub packet : List ℕ
    pub asked : D
    pub arrived : receives d len packet asked
    pub out : List ℕ
    pub n : ℕ
    pub reply : List ℕ
    pub heard : ReceivesAt is word_at tells at (take len packet) i ss out n j ts reply
    pub answered : SendsIf transmits (nat_lt 0 n) n reply asked e

  -- so many packets, one after the other
  pub data HearsAll : ℕ → Interface W → List (Slot G) → D → Interface W → List (Slot G) → D → Type 0 where
    NoneHeard : (i : Interface W) (ss : List (Slot G)) (d : D) → HearsAll 0 i ss d i ss d
    OneHeard : (n : ℕ) (i j k : Interface W) (ss ts us : List (Slot G)) (d e f : D) → HearsAll n i ss d j ts e
        → Hears j ts e k us f → HearsAll (n + 1) i ss d k us f

  -- so many, 64 at most, and fewer only where the device has no room or no packet more
  pub record HearsUpTo (has_room : D → Bool) (n : ℕ) (i : Interface W) (ss : List (Slot G)) (d : D) (j : Interface W)
      (ts : List (Slot G)) (e : D) : Type 0 where
    pub last : D
    pub all : HearsAll n i ss d j ts last
    pub ends : EndsTaking has_room receives n last e

module _ {W G D : Type 0} (is : IpAddress → IpAddress → Bool) (tells : G → ℕ → Type 0)
    (transmits : D → List ℕ → D → Type 0) (at : Instant) where
  -- the next socket that is due has its turn, and its packet is sent; `turned` says whether it had one
  pub record Emits (turned : Bool) (i : Interface W) (ss : List (Slot G)) (d : D) (j : Interface W) (ts : List (Slot G))
      (e : D) : Type 0 where
    pub r : Result ℕ TooShort
    pub before : List ℕ
    pub out : List ℕ
    pub spoken : EmitsAt is tells at i ss before r j ts out
    pub some : turned ≡ had r
    pub sent : Sends transmits r out d e

  -- so many turns, one after the other
  pub data EmitsAll : ℕ → Interface W → List (Slot G) → D → Interface W → List (Slot G) → D → Type 0 where
    NoneSent : (i : Interface W) (ss : List (Slot G)) (d : D) → EmitsAll 0 i ss d i ss d
    OneSent : (n : ℕ) (i j k : Interface W) (ss ts us : List (Slot G)) (d e f : D) → EmitsAll n i ss d j ts e
        → Emits true j ts e k us f → EmitsAll (n + 1) i ss d k us f

  -- so many turns, and no more: 64 were given, or the device has no room, or no socket was due at the next
  pub data EmitsUpTo (has_room : D → Bool) : ℕ → Interface W → List (Slot G) → D → Interface W → List (Slot G) → D
      → Type 0 where
    Enough : (i j : Interface W) (ss ts : List (Slot G)) (d e : D) → EmitsAll 64 i ss d j ts e
        → EmitsUpTo has_room 64 i ss d j ts e
    NoRoom : (n : ℕ) (i j : Interface W) (ss ts : List (Slot G)) (d e : D) → n < 64 → EmitsAll n i ss d j ts e
        → has_room e ≡ false → EmitsUpTo has_room n i ss d j ts e
    NobodyDue : (n : ℕ) (i j k : Interface W) (ss ts us : List (Slot G)) (d e f : D) → n < 64
        → EmitsAll n i ss d j ts e → has_room e ≡ true → Emits false j ts e k us f → EmitsUpTo has_room n i ss d k us f

module _ {W G D : Type 0} (is : IpAddress → IpAddress → Bool) (word_at : W → ℕ → ℕ) (tells : G → ℕ → Type 0)
    (has_room : D → Bool) (receives : D → ℕ → List ℕ → D → Type 0) (transmits : D → List ℕ → D → Type 0)
    (at : Instant) (mtu : ℕ) where
  -- packets that arrived, and then turns of sockets, whatever arrived: `n` of both
  pub record Polls (n : ℕ) (i : Interface W) (ss : List (Slot G)) (d : D) (j : Interface W) (ts : List (Slot G)) (e : D)
      : Type 0 where
    pub fitted : Interface W
    pub fits : FitsTo mtu i fitted
    pub heard : ℕ
    pub between : Interface W
    pub seen : List (Slot G)
    pub mid : D
    pub hears : HearsUpTo is word_at tells receives transmits at has_room heard fitted ss d between seen mid
    pub spoken : ℕ
    pub emits : EmitsUpTo is tells transmits at has_room spoken between seen mid j ts e
    pub both : n ≡ heard + spoken
