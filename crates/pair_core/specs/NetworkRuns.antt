-- Runs of a network, and what is promised of them.
use Rattle.std.specs.Prelude.{ℕ, ◌≡◌, ◌≤◌, ◌⊎◌, true, false, List, [], ◌∷◌, ◌++◌, length}
use Rattle.std.specs.List.{Contains}
use Rattle.std.specs.declared.option.Option.{Option}
use Rattle.std.specs.declared.option.Option.TheVariants.{Some, None}
use Rattle.sock_core.specs.Streams.{IsPrefix}
use Rattle.pair_core.specs.StreamViews.{Unopened, Open, StreamSegment}
use Rattle.pair_core.specs.Network.{Endpoint, Network, emitted, swapped, Step, AnswersFinished}

-- either side takes a step
abbrev pub EitherSteps : Network → Network → Type 0
EitherSteps old new = Step old new ⊎ Step (swapped old) (swapped new)

-- A step touches nothing of the remote side. Of the local side it adds to the segments and to what was handed out, and
-- the counts never fall. Bytes are accepted in ESTABLISHED and CLOSE-WAIT alone, and only a close there marks the side
-- as closed
pub record OnlyAdds (old new : Network) : Type 0 where
  pub remote : new.remote ≡ old.remote
  pub remote_segments : new.remote_segments ≡ old.remote_segments
  pub limit : new.limit ≡ old.limit
  pub local_segments : (more : List StreamSegment) × (new.local_segments ≡ old.local_segments ++ more)
  pub handed_out : IsPrefix old.local.handed_out new.local.handed_out
  pub released : old.local.released ≤ new.local.released
  pub taken : old.local.taken ≤ new.local.taken
  pub accepted : (new.local.accepted ≡ old.local.accepted)
      ⊎ ((old.local.view.phase ≡ Open) × IsPrefix old.local.accepted new.local.accepted)
  pub closed : (new.local.closed ≡ old.local.closed) ⊎ ((old.local.view.phase ≡ Open) × (new.local.closed ≡ true))

-- A run from the one network to the other: the list has each network on the way, one step after the one before it. Each
-- beginning of a run is a run
abbrev pub Run : Network → List Network → Network → Type 0
Run w [] v = w ≡ v
Run w (u ∷ us) v = EitherSteps w u × Run u us v

-- some run leads from the one network to the other
abbrev pub Reaches : Network → Network → Type 0
Reaches w v = (way : List Network) × Run w way v

-- the local side answered, or did not
abbrev pub answered : Network → Option StreamSegment → Network
answered w None = w
answered w (Some answer) = emitted w answer

abbrev pub unopened : Endpoint
unopened = record {
  view =
      record {
        phase = Unopened;
        snd_una = 0;
        snd_nxt = 0;
        rcv_nxt = 0;
        transmit_queue = [];
        receive_queue = [];
        held = λ k. None;
        fin_counted = false;
      };
  accepted = [];
  handed_out = [];
  released = 0;
  taken = 0;
  closed = false;
  listener = false;
}

-- two sockets that were never opened, and no segments
abbrev pub start : Option ℕ → Network
start limit = record { local = unopened; remote = unopened; local_segments = []; remote_segments = []; limit = limit }

-- what is promised of the stream from one endpoint to the other, in each network
pub record IsDelivered (sender receiver : Endpoint) : Type 0 where
  -- what the receiver handed out, followed by its receive queue, is a prefix of what the sender accepted
  pub is_prefix : IsPrefix (receiver.handed_out ++ receiver.view.receive_queue) sender.accepted
  -- acknowledgements released only bytes that the receiver took, and it took only bytes that the sender accepted
  pub released : sender.released ≤ receiver.taken
  pub taken : receiver.taken ≤ length sender.accepted
  -- where a read of the receiver would answer Finished, the sender was closed and all its bytes were handed out
  pub complete : AnswersFinished receiver → (sender.closed ≡ true) × (receiver.handed_out ≡ sender.accepted)

-- both streams of a network
pub record AreDelivered (w : Network) : Type 0 where
  pub outgoing : IsDelivered w.local w.remote
  pub incoming : IsDelivered w.remote w.local

-- the promise holds after every run, and in every network on its way
pub record AlwaysDelivers (limit : Option ℕ) : Type 0 where
  pub at_the_end : (way : List Network) (end : Network) → Run (start limit) way end → AreDelivered end
  pub on_the_way : (way : List Network) (end : Network) → Run (start limit) way end → (w : Network) → Contains way w
      → AreDelivered w

-- a read of the local side that answers Finished
pub record FinishedRead (old new : Network) : Type 0 where
  pub finished : AnswersFinished old.local
  pub same : new ≡ old

-- After any run, a read that answers Finished finds the other side closed and all its bytes handed out. The step is the
-- reader's: for the other side's read the networks are swapped
pub record AlwaysCompletes (limit : Option ℕ) : Type 0 where
  pub is_step : (old new : Network) → FinishedRead old new → Step old new
  pub local_read : (way : List Network) (old new : Network)
      → Run (start limit) way old
      → FinishedRead old new
      → (new.remote.closed ≡ true) × (new.local.handed_out ≡ new.remote.accepted)
  pub remote_read : (way : List Network) (old new : Network)
      → Run (start limit) way old
      → FinishedRead (swapped old) (swapped new)
      → (new.local.closed ≡ true) × (new.remote.handed_out ≡ new.local.accepted)

-- what a closed side keeps for good
pub record StreamEnded (old new : Endpoint) : Type 0 where
  pub closed : new.closed ≡ true
  pub accepted : new.accepted ≡ old.accepted

-- after any run, no step of either side adds to what a closed side accepted, or opens it again
pub record AlwaysEnds (limit : Option ℕ) : Type 0 where
  pub local : (way : List Network) (old new : Network)
      → Run (start limit) way old
      → EitherSteps old new
      → old.local.closed ≡ true → StreamEnded old.local new.local
  pub remote : (way : List Network) (old new : Network)
      → Run (start limit) way old
      → EitherSteps old new
      → old.remote.closed ≡ true → StreamEnded old.remote new.remote
