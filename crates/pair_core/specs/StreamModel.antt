-- One stream: the bytes of one side, what the other side took of them, and what is true of a segment of that side.
use Rattle.std.specs.Prelude.{ℕ, ◌≡◌, ◌+◌, ◌<◌, ◌≤◌, ◌⊎◌, Bool, true, List, length}
use Rattle.std.specs.declared.option.Option.{Option}
use Rattle.std.specs.declared.option.Option.TheVariants.{Some}
use Rattle.sock_core.specs.Streams.{ByteAt, IsPrefix, fin_length}

pub record Stream : Type 0 where
  pub accepted : List ℕ  -- what the sender's calls of send took, in order
  pub closed : Bool  -- the sender was closed, and accepts nothing more
  pub released : ℕ  -- how many bytes acknowledgements released from the transmit queue
  pub joined : List ℕ  -- what joined the receiver's queue, in order
  pub held : ℕ → Option ℕ  -- what the receiver holds past it, by the byte's count in the stream
  pub fin_counted : Bool  -- the receiver counted the sender's FIN

-- how much of the stream the receiver has counted, the FIN as one more. RCV.NXT is the number of the place 2 past it
abbrev pub counted : Stream → ℕ
counted f = length f.joined + fin_length f.fin_counted

-- what a segment says of its sender's stream, with the place where it begins
pub record PlacedPayload : Type 0 where
  pub start : ℕ
  pub bytes : List ℕ
  pub fin : Bool

-- it has b as the stream's byte j, which stands at the place j + 2
pub record Carries (p : PlacedPayload) (j b : ℕ) : Type 0 where
  pub index : ℕ
  pub here : p.start + index ≡ j + 2
  pub byte : ByteAt p.bytes index b

-- its bytes are the stream's own
abbrev pub HasOwnBytes : Stream → PlacedPayload → Type 0
HasOwnBytes f p = (j b : ℕ) → Carries p j b → ByteAt f.accepted j b

-- its bytes, as a keep-alive's, lie before all that the receiver has not counted
abbrev pub LiesBefore : Stream → PlacedPayload → Type 0
LiesBefore f p = (j b : ℕ) → Carries p j b → j < counted f

-- True of the stream: its bytes are the stream's own, or it is a keep-alive, whose byte the receiver never takes. A FIN
-- stands at the end of a closed stream, where no byte will follow; or at the place of the SYN, where it is refused
pub record IsTruePayload (f : Stream) (p : PlacedPayload) : Type 0 where
  pub bytes : HasOwnBytes f p ⊎ LiesBefore f p
  pub fin : p.fin ≡ true
      → (p.start + length p.bytes ≤ 1)
      ⊎ ((f.closed ≡ true) × (p.start + length p.bytes ≡ length f.accepted + 2))
  pub within : p.start + length p.bytes ≤ length f.accepted + 5

-- a true acknowledgement: the receiver has counted all that lies below it
pub record IsTrueAck (f : Stream) (a : ℕ) : Type 0 where
  pub taken : a ≤ counted f

-- a byte that the receiver may take or hold: it was held, or a true payload carries it
abbrev pub MayCome : Stream → ℕ → ℕ → Type 0
MayCome f j b = (f.held j ≡ Some b) ⊎ ((p : PlacedPayload) × IsTruePayload f p × (counted f ≤ j) × Carries p j b)

-- what one step may do to a stream
pub record Grows (f g : Stream) : Type 0 where
  pub accepted : IsPrefix f.accepted g.accepted
  pub closed : f.closed ≡ true → (g.closed ≡ true) × (g.accepted ≡ f.accepted)
  pub released : (g.released ≡ f.released)
      ⊎ ((a : ℕ) × IsTrueAck f a × (g.released ≤ a) × (g.released ≤ length f.accepted))
  pub joined : IsPrefix f.joined g.joined
  pub taken : (j b : ℕ) → length f.joined ≤ j → ByteAt g.joined j b → MayCome f j b
  pub held : (j b : ℕ) → length g.joined ≤ j → g.held j ≡ Some b → MayCome f j b
  pub fin : g.fin_counted ≡ true
      → (f.fin_counted ≡ true)
      ⊎ ((p : PlacedPayload) × IsTruePayload f p × (p.fin ≡ true) × (2 ≤ p.start + length p.bytes)
      × (p.start + length p.bytes ≤ length g.joined + 2))
  pub finished : f.fin_counted ≡ true → (g.fin_counted ≡ true) × (g.joined ≡ f.joined)

-- what always holds of a stream
pub record IsSound (f : Stream) : Type 0 where
  pub joined : (j b : ℕ) → ByteAt f.joined j b → ByteAt f.accepted j b
  pub held : (j b : ℕ) → length f.joined ≤ j → f.held j ≡ Some b → ByteAt f.accepted j b
  pub released : f.released ≤ length f.joined
  pub fin : f.fin_counted ≡ true → (f.closed ≡ true) × (length f.joined ≡ length f.accepted)
