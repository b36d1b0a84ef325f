-- Lists of calls of a datagram socket: what they put into its two queues, and what leaves these.
use Rattle.std.specs.Prelude.{ℕ, ◌≡◌, List, [], ◌∷◌, ◌++◌, length, map, take, cond, Bool, Option, None, Some}
use Rattle.std.specs.Prelude.{Result, Ok, Err, IfOk, OnErr, true}
use Rattle.std.specs.Borrow.{MutBor}
use Rattle.std.specs.Fn.{Once, FnOnceReturnsAtMut}
use Rattle.net_base.specs.Packets.{Packets, packets, first_packet, Enqueues}
use Rattle.sock_dgram.specs.Datagrams.{answered, take_answer, copy_answer, copied}
use Rattle.sock_dgram.specs.declared.error.RecvError.{RecvError}

-- how a packet left its queue: it was handed over, or dropped, or `close` cleared the queue
pub data Exit (O : Type 0) : Type 0 where
  HandedOver : O → Exit O
  Dropped : Exit O
  Cleared : Exit O

-- packets in the order in which they came or left, of metadata M, each with its bytes. A dispatch hands over what it
-- calls `emit` with, of type O, where `emit` answers Ok, and drops what it emits nothing of; a call that receives drops
-- what its slice is too short for
pub record Transfers (M O : Type 0) : Type 0 where
  pub sent : List (M × List ℕ)  -- what came behind the transmit queue
  pub departed : List ((M × List ℕ) × Exit O)  -- what left it
  pub queued : List (M × List ℕ)  -- what came behind the receive queue
  pub taken : List ((M × List ℕ) × Exit (Unit {0}))  -- what left it

abbrev pub exit_of : {O : Type 0} → Option O → Exit O
exit_of None = Dropped
exit_of (Some o) = HandedOver o

module _ {M : Type 0} where
  abbrev pub read : Result (M × List ℕ) RecvError → List ((M × List ℕ) × Exit (Unit {0}))
  read (Ok d) = (d, HandedOver tt) ∷ []
  read (Err e) = []

  -- of the first packet, and of the slice as the call left it: so many bytes of it are handed over
  abbrev pub copied_out : Result (ℕ × M) RecvError → List ℕ → Option (M × List ℕ)
      → List ((M × List ℕ) × Exit (Unit {0}))
  copied_out (Ok x) left first = ((x.1, take x.0 left), HandedOver tt) ∷ []
  copied_out (Err e) left None = []
  copied_out (Err e) left (Some d) = (d, Dropped) ∷ []

module _ {M O : Type 0} where
  abbrev pub nothing : Transfers M O
  nothing = record { sent = []; departed = []; queued = []; taken = [] }

  abbrev pub followed_by : Transfers M O → Transfers M O → Transfers M O
  followed_by a b = record {
    sent = a.sent ++ b.sent;
    departed = a.departed ++ b.departed;
    queued = a.queued ++ b.queued;
    taken = a.taken ++ b.taken;
  }

  -- ---- the transmit queue

  abbrev pub sends : Bool → M × List ℕ → Transfers M O
  sends ok d = record { sent = cond ok (d ∷ []) []; departed = []; queued = []; taken = [] }

  -- a dispatch that answers Ok takes the first packet, if there is one
  abbrev pub departs : Bool → Option O → List (M × List ℕ) → Transfers M O
  departs ok out ds = record {
    sent = [];
    departed = cond ok (map (λ d. (d, exit_of out)) (take 1 ds)) [];
    queued = [];
    taken = [];
  }

  -- ---- the receive queue

  abbrev pub queues : Bool → M × List ℕ → Transfers M O
  queues ok d = record { sent = []; departed = []; queued = cond ok (d ∷ []) []; taken = [] }

  abbrev pub reads : Result (M × List ℕ) RecvError → Transfers M O
  reads r = record { sent = []; departed = []; queued = []; taken = read r }

  abbrev pub copies_out : Result (ℕ × M) RecvError → List ℕ → Option (M × List ℕ) → Transfers M O
  copies_out r left first = record { sent = []; departed = []; queued = []; taken = copied_out r left first }

  -- ---- both

  abbrev pub clears : List (M × List ℕ) → List (M × List ℕ) → Transfers M O
  clears waiting received = record {
    sent = [];
    departed = map (λ d. (d, Cleared)) waiting;
    queued = [];
    taken = map (λ d. (d, Cleared)) received;
  }

  -- what left the front of a queue, followed by what stands in it after, is what stood in it before, followed by what
  -- came behind it
  pub record InOrder (t : Transfers M O)
      (waiting received waiting_after received_after : List (M × List ℕ)) : Type 0 where
    pub transmit : map (λ d. d.0) t.departed ++ waiting_after ≡ waiting ++ t.sent
    pub receive : map (λ d. d.0) t.taken ++ received_after ≡ received ++ t.queued

-- ---- what a call that receives answers of the first packet of the queue

pub record Reads {M : Type 0} (old : Packets M) (r : Result (M × List ℕ) RecvError) : Type 0 where
  pub answer : answered r ≡ take_answer (first_packet old)
  pub value : IfOk r (λ d. first_packet old ≡ Some d)

pub record Copies {M : Type 0} (old : Packets M) (slice left : List ℕ) (r : Result (ℕ × M) RecvError) : Type 0 where
  pub answer : r ≡ copy_answer (first_packet old) (length slice)
  pub bytes : left ≡ copied (first_packet old) slice

-- ---- what `send_with` puts behind the transmit queue: the bytes that the closure left, as many as it answered

module _ {M G E : Type 0} (write : Once G (MutBor (List ℕ) × Unit {0}) (ℕ × (MutBor (List ℕ) × Unit {0}))) where
  abbrev pub Writes : Result ℕ E → ℕ → M → G → Packets M → Packets M → Type 0
  Writes r size m f old new = IfOk r (λ kept. Enqueues (FnOnceReturnsAtMut write f) size m old kept new)
      × OnErr r (packets new.entries ≡ packets old.entries)

  abbrev pub Written : {O : Type 0} → Result ℕ E → ℕ → M → G → Packets M → Transfers M O → Packets M → Type 0
  Written (Ok kept) size m f old t new =
      (h : Writes (Ok kept) size m f old new) × (t ≡ sends true (m, take kept h.0.appends.left))
  Written (Err x) size m f old t new = Writes (Err x) size m f old new × (t ≡ nothing)

-- ---- lists of calls

-- a call that takes no closure, of type K, or one that does, with what it is given and what it answers: M is the
-- metadata of a packet, and S why a send is refused; C, E and F are the context, the error and the closure of
-- `dispatch`, whose context stands as it was before and after the call; G is the closure of `send_with`
pub data AnyCall (K M S C E F G : Type 0) : Type 0 where
  Plain : K → AnyCall K M S C E F G
  SendWith : ℕ → M → G → Result ℕ S → AnyCall K M S C E F G
  Dispatch : (before after : C) → F → Result (Unit {0}) E → AnyCall K M S C E F G

-- one call after the other, each with its effect, from the one socket to the other
abbrev pub Runs : {V K M O : Type 0} → (K → V → Transfers M O → V → Type 0) → List K → V → Transfers M O → V → Type 0
Runs effect [] v t w = (t ≡ nothing) × (w ≡ v)
Runs {V} {K} {M} {O} effect (k ∷ ks) v t w =
    (u : V) × (a : Transfers M O) × (b : Transfers M O) × effect k v a u × Runs effect ks u b w × (t ≡ followed_by a b)
