-- What always holds of a network: each side's numbers stand at places of the two streams, and every segment ever
-- emitted is true.
use Rattle.std.specs.Prelude.{ℕ, ◌≡◌, ◌+◌, ◌^◌, ◌<◌, ◌≤◌, ◌⊎◌, true, false, List, [], ◌++◌, length, drop}
use Rattle.std.specs.List.{Contains}
use Rattle.std.specs.declared.option.Option.{Option}
use Rattle.std.specs.declared.option.Option.TheVariants.{Some, None}
use Rattle.sock_core.specs.Places.{number_at}
use Rattle.sock_core.specs.Streams.{IsPrefix}
use Rattle.pair_core.specs.StreamViews.{Phase, Unopened, Listening, SynSent, SynReceived, Open, FinQueued, Silent}
use Rattle.pair_core.specs.StreamViews.{Dead, SocketView, StreamSegment, HasIss, HasNoIss, KnowsPeer}
use Rattle.pair_core.specs.StreamViews.{IsNonSynchronized}
use Rattle.pair_core.specs.StreamModel.{Stream, counted, PlacedPayload, IsTruePayload, IsTrueAck, IsSound}
use Rattle.pair_core.specs.Network.{Endpoint, Network, IsWithin}

-- ---- one socket against the streams

-- the receiving half of v, which handed out the bytes hs, against the stream whose places have the origin o
pub record ReceivingMatches (v : SocketView) (hs : List ℕ) (o : ℕ) (f : Stream) : Type 0 where
  pub rcv_nxt : v.rcv_nxt ≡ number_at o (counted f + 2)
  pub fin : v.fin_counted ≡ f.fin_counted
  pub held : (k b : ℕ) → v.held k ≡ Some b → f.held (length f.joined + k) ≡ Some b
  pub queue : hs ++ v.receive_queue ≡ f.joined

-- where SND.UNA stands: on the SYN, on the first byte not released, or past an acknowledged FIN
abbrev pub SndUnaAt : SocketView → Stream → ℕ → Type 0
SndUnaAt v f place = ((place ≡ 1) × (f.accepted ≡ [])) ⊎ (place ≡ f.released + 2)
    ⊎ ((place ≡ f.released + 3) × (f.released ≡ length f.accepted) × (v.phase ≡ Silent))

-- What the phase says of the place of SND.UNA and of close. FinQueued with SND.UNA on the SYN comes of a close in
-- SYN-RECEIVED, and so does Silent with SND.UNA on the first byte: that close does not end the stream
abbrev pub PhaseAllows : Phase → Stream → ℕ → Type 0
PhaseAllows Unopened f place = ⊥
PhaseAllows Listening f place = ⊥
PhaseAllows SynSent f place = (place ≡ 1) × (f.closed ≡ false)
PhaseAllows SynReceived f place = (place ≡ 1) × (f.closed ≡ false)
PhaseAllows Open f place = (place ≡ f.released + 2) × (f.closed ≡ false)
PhaseAllows FinQueued f place = ((place ≡ 1) × (f.closed ≡ false)) ⊎ ((place ≡ f.released + 2) × (f.closed ≡ true))
PhaseAllows Silent f place = ((place ≡ f.released + 2) × (f.closed ≡ false))
    ⊎ ((place ≡ f.released + 3) × (f.released ≡ length f.accepted) × (f.closed ≡ true))
PhaseAllows Dead f place = ⊥

-- the sending half of v against its stream, whose places have the origin o
pub record SendingMatches (v : SocketView) (o : ℕ) (f : Stream) : Type 0 where
  pub place : ℕ
  pub snd_una : v.snd_una ≡ number_at o place
  pub acked : place ≤ counted f + 2
  pub flight : ℕ
  pub snd_nxt : v.snd_nxt ≡ number_at o (place + flight)
  pub flight_le : flight ≤ length v.transmit_queue + 1
  pub queue : v.transmit_queue ≡ drop f.released f.accepted
  pub at : SndUnaAt v f place
  pub phase : PhaseAllows v.phase f place

-- the transmit queue has at most 2^30 bytes
pub record QueueFits (f : Stream) : Type 0 where
  pub room : length f.accepted ≤ f.released + 2 ^ 30

-- nothing of the stream has reached the side
pub record HasReceivedNothing (e : Endpoint) (f : Stream) : Type 0 where
  pub joined : f.joined ≡ []
  pub stream_fin : f.fin_counted ≡ false
  pub receive_queue : e.view.receive_queue ≡ []
  pub handed_out : e.handed_out ≡ []
  pub fin : e.view.fin_counted ≡ false
  pub held : (k b : ℕ) → e.view.held k ≡ Some b → ⊥

-- nothing was sent by the side
pub record HasSentNothing (e : Endpoint) (f : Stream) : Type 0 where
  pub accepted : f.accepted ≡ []
  pub closed : f.closed ≡ false
  pub released : f.released ≡ 0
  pub transmit_queue : e.view.transmit_queue ≡ []

-- the stream f from one endpoint to the other, whose places have the origin o
pub record StreamInvariant (sender receiver : Endpoint) (o : ℕ) (f : Stream) : Type 0 where
  pub sound : IsSound f
  pub fits : QueueFits f
  pub accepted : f.accepted ≡ sender.accepted
  pub closed : f.closed ≡ sender.closed
  pub released : f.released ≡ sender.released
  pub sending : HasIss sender.view.phase → SendingMatches sender.view o f
  pub receiving : KnowsPeer receiver.view.phase → ReceivingMatches receiver.view receiver.handed_out o f
  pub delivered : IsPrefix (receiver.handed_out ++ receiver.view.receive_queue) f.joined
  pub nothing_yet : IsNonSynchronized receiver.view.phase → HasReceivedNothing receiver f
  pub finished : receiver.view.fin_counted ≡ true → (f.fin_counted ≡ true)
      × (receiver.handed_out ++ receiver.view.receive_queue ≡ f.joined)
  pub taken : receiver.taken ≡ length f.joined
  pub unsent : HasNoIss sender.view.phase → HasSentNothing sender f

-- ---- segments

-- the segment's payload is true of the stream from its emitter, whose places have the origin o
pub record HasTruePayload (g : StreamSegment) (o : ℕ) (f : Stream) : Type 0 where
  pub placed : PlacedPayload
  pub seq : g.seq ≡ number_at o placed.start
  pub bytes : g.payload ≡ placed.bytes
  pub fin : g.fin ≡ placed.fin
  pub holds : IsTruePayload f placed
  pub since : g.released_at ≤ placed.start

-- the segment's acknowledgement is true of the stream to its emitter
pub record HasTrueAck (g : StreamSegment) (o : ℕ) (f : Stream) : Type 0 where
  pub says : (a : ℕ) → g.ack ≡ Some a → (k : ℕ) × (a ≡ number_at o (k + 2)) × IsTrueAck f k × (g.taken_at ≤ k)

-- A segment that the emitter sent to the receiver, where f is the stream from the emitter and h the one to it. An RST
-- comes of a side that is CLOSED for good, or goes to a side that connected
pub record IsTrueSegment (emitter receiver : Endpoint) (g : StreamSegment) (of oh : ℕ) (f h : Stream) : Type 0 where
  pub reset : g.rst ≡ true → (emitter.view.phase ≡ Dead)
      ⊎ ((receiver.listener ≡ false) × (HasNoIss receiver.view.phase → ⊥))
  pub payload : g.rst ≡ false → HasTruePayload g of f
  pub ack : g.rst ≡ false → HasTrueAck g oh h
  pub syn : g.rst ≡ false → g.syn ≡ true → g.seq ≡ number_at of 1

-- two origins give the same numbers
abbrev pub SameNumbers : ℕ → ℕ → Type 0
SameNumbers a o = (place : ℕ) → number_at a place ≡ number_at o place

-- The side fell back to LISTEN. Then its peer is CLOSED for good, all its acknowledgements are of an earlier initial
-- number of the side, and in the side's stream nothing was sent
pub record HasFallenBack (side peer : Endpoint) (f : Stream) : Type 0 where
  pub dead : peer.view.phase ≡ Dead
  pub accepted : f.accepted ≡ []
  pub closed : f.closed ≡ false
  pub not_sending : side.view.phase ≡ Open → ⊥

-- no segment speaks of an initial number that is not chosen yet
pub record IsUnspoken (own peers : List StreamSegment) (peer : Endpoint) : Type 0 where
  pub none : (g : StreamSegment) → Contains own g → g.rst ≡ false → ⊥
  pub unknown : KnowsPeer peer.view.phase → ⊥
  pub unacked : (g : StreamSegment) → Contains peers g → g.rst ≡ false → (a : ℕ) → g.ack ≡ Some a → ⊥

-- ---- the whole network

-- a limit below 2^29, or none
abbrev pub IsLimit : Option ℕ → Type 0
IsLimit None = Unit {0}
IsLimit (Some limit) = limit < 2 ^ 29

-- What always holds. The outgoing stream is that from the local side to the remote one, and the incoming one the other.
-- A stream's acked origin is the one by which its receiver's segments acknowledge it
pub record IsInvariant (w : Network) : Type 0 where
  pub local_origin : ℕ
  pub remote_origin : ℕ
  pub local_acked_origin : ℕ
  pub remote_acked_origin : ℕ
  pub outgoing : Stream
  pub incoming : Stream
  pub outgoing_holds : StreamInvariant w.local w.remote local_origin outgoing
  pub incoming_holds : StreamInvariant w.remote w.local remote_origin incoming
  pub local_true : (g : StreamSegment) → Contains w.local_segments g → (w.remote.view.phase ≡ Dead)
      ⊎ IsTrueSegment w.local w.remote g local_origin remote_acked_origin outgoing incoming
  pub remote_true : (g : StreamSegment) → Contains w.remote_segments g → (w.local.view.phase ≡ Dead)
      ⊎ IsTrueSegment w.remote w.local g remote_origin local_acked_origin incoming outgoing
  pub local_numbers : SameNumbers local_acked_origin local_origin ⊎ HasFallenBack w.local w.remote outgoing
  pub remote_numbers : SameNumbers remote_acked_origin remote_origin ⊎ HasFallenBack w.remote w.local incoming
  pub local_connects : w.local.view.phase ≡ SynSent → w.local.listener ≡ false
  pub remote_connects : w.remote.view.phase ≡ SynSent → w.remote.listener ≡ false
  pub local_unspoken : HasNoIss w.local.view.phase → IsUnspoken w.local_segments w.remote_segments w.remote
      ⊎ (w.remote.view.phase ≡ Dead)
  pub remote_unspoken : HasNoIss w.remote.view.phase → IsUnspoken w.remote_segments w.local_segments w.local
      ⊎ (w.local.view.phase ≡ Dead)
  pub limited : IsLimit w.limit
  pub local_within : IsWithin w.limit w.local.accepted
  pub remote_within : IsWithin w.limit w.remote.accepted
