-- A read that answers Finished has all bytes of a closed side, and a closed side accepts nothing more.
use Rattle.std.proofs.Common.{◌≡◌, ℕ, Bool, true, false, refl, sym, ap, subst, ◌∙◌, arith, List, [], ◌∷◌, length}
use Rattle.std.specs.Prelude.{not, ◌==◌, if◌then◌else◌, Result, Ok, Err, IfOk}
use Rattle.std.proofs.lemmas.Bool.{eqb-true}
use Rattle.sock_tcp.specs.Queues.{may_recv, receives, can_recv, recv_refusal}
use Rattle.sock_tcp.specs.View.{View}
use Rattle.sock_tcp.specs.declared.error.RecvError.{RecvError}
use Rattle.sock_tcp.specs.declared.error.RecvError.TheVariants as recv_error
use Rattle.pair_core.specs.Network.{AnswersFinished, Network, swapped}
use Rattle.pair_core.specs.NetworkInvariant.{IsInvariant}
use Rattle.pair_core.specs.NetworkRuns.{StreamEnded, IsDelivered, Reaches, Run}
use Rattle.pair_core.specs.PairCalls.{IsRead, ReceivesIf}
use Rattle.pair_core.specs.PairInvariant.{IsHost, IsPair, IsSized}
use Rattle.pair_core.specs.PairNetwork.{endpoint_of, network_of}
use Rattle.pair_core.specs.PairPromises.{Complete, CompleteAt, CompleteRead, HasEnded, IsComplete}
use Rattle.pair_core.specs.PairSteps.{EventStep}
use Rattle.pair_core.specs.PairViews.{HostView, PairView, host_of, with_host}
use Rattle.pair_core.specs.Sides.{other_side}
use Rattle.pair_core.specs.declared.event.Event.{Event}
use Rattle.pair_core.specs.declared.event.Event.TheVariants as event
use Rattle.pair_core.specs.declared.host.Opening.{Opening}
use Rattle.pair_core.specs.declared.host.Opening.TheVariants as opening
use Rattle.pair_core.specs.declared.outcome.Outcome.{Outcome}
use Rattle.pair_core.specs.declared.outcome.Outcome.TheVariants as outcome
use Rattle.pair_core.specs.declared.outcome.PairError.{PairError}
use Rattle.pair_core.specs.declared.side.Side.{Side}
use Rattle.pair_core.specs.declared.side.Side.TheVariants.{A, B}
use Rattle.pair_core.proofs.NetworkReaches.{reach_swapped}
use Rattle.pair_core.proofs.NetworkRuns.{both_delivered, local_ends}
use Rattle.pair_core.proofs.NetworkSteps.{either_keeps, swapped_keeps}
use Rattle.pair_core.proofs.PairAmounts.{hands_some}
use Rattle.pair_core.proofs.PairHosts.{host_at}
use Rattle.pair_core.proofs.PairReaches.{event_reaches}

-- ---- a read

-- nothing can be received: the queue is empty
no_bytes : (bs : List ℕ) → not (length bs == 0) ≡ false → bs ≡ []
no_bytes [] e = refl
no_bytes (b ∷ bs) e = go (length (b ∷ bs) == 0) refl e
  where
    go : (t : Bool) → (length (b ∷ bs) == 0) ≡ t → not t ≡ false → b ∷ bs ≡ []
    go true x e = absurd (omega (arith, eqb-true (length (b ∷ bs)) 0 x))
    go false x e = cc

empty_queue : (v : View) → may_recv v ≡ false → v.rx_buffer.bytes ≡ []
empty_queue v e = go (receives v.state) e
  where
    go : (b : Bool) → (if b then true else can_recv v) ≡ false → v.rx_buffer.bytes ≡ []
    go true e = cc
    go false e = no_bytes v.rx_buffer.bytes e

counted : (b : Bool) → (if b then recv_error.Finished else recv_error.InvalidState) ≡ recv_error.Finished → b ≡ true
counted true e = refl
counted false e = cc

-- the reader as the network shows it
answers_finished : {G : Type 0} (h : HostView G) → IsHost h → may_recv h.control_block ≡ false → recv_refusal h.control_block ≡ recv_error.Finished → AnswersFinished (endpoint_of h)
answers_finished h i m e = go h.opening refl
  where
    fin : h.control_block.rx_fin_received ≡ true
    fin = counted h.control_block.rx_fin_received e

    go : (x : Opening) → h.opening ≡ x → AnswersFinished (endpoint_of (record h { opening = x }))
    go opening.Unopened u = let no : false ≡ true = sym (i.idle u).no_fin ∙ fin in cc
    go opening.Listener u = record { counted = fin; empty = empty_queue h.control_block m }
    go opening.Connector u = record { counted = fin; empty = empty_queue h.control_block m }

completed : {G : Type 0} (reader sender : HostView G) → IsDelivered (endpoint_of sender) (endpoint_of reader) → AnswersFinished (endpoint_of reader) → IsComplete reader sender
completed reader sender d f = record { closed = (d.complete f).0; handed_out = (d.complete f).1 }

module _ {G : Type 0} (p : PairView G) (i : IsPair p) where
  -- of either side
  read_completes : (s : Side) → AnswersFinished (endpoint_of (host_of s p)) → IsComplete (host_of s p) (host_of (other_side s) p)
  read_completes A f = completed p.a p.b (both_delivered (network_of p) i.network).incoming f
  read_completes B f = completed p.b p.a (both_delivered (network_of p) i.network).outgoing f

  -- the refusal of a read leaves the pair
  refused : (s : Side) (e : RecvError) → recv_refusal (host_of s p).control_block ≡ e → may_recv (host_of s p).control_block ≡ false → CompleteAt (outcome.RecvRefused e) s p
  refused s recv_error.InvalidState r m = tt
  refused s recv_error.Finished r m = read_completes s (answers_finished (host_of s p) (host_at s p i) m r)

  answered : (s : Side) (o : Outcome) (bs : List ℕ) (q : PairView G) → IsRead o bs → CompleteAt o s q
  answered s (outcome.Read v) bs q x = tt
  answered s _ bs q x = absurd x

  same_pair : (s : Side) (k : HostView G) → k ≡ host_of s p → with_host s p k ≡ p
  same_pair A k e = ap (with_host A p) e
  same_pair B k e = ap (with_host B p) e

  reads : (s : Side) (b piece : Bool) (size : ℕ) (o : Outcome) (k : HostView G) (q : PairView G) → may_recv (host_of s p).control_block ≡ b → q ≡ with_host s p k → ReceivesIf b piece size (host_of s p) o k → CompleteAt o s q
  reads s true piece size o k q m e x = answered s o _ q (hands_some piece size (host_of s p) o k x).does.answer
  reads s false piece size o k q m e x = subst (λ z. CompleteAt z s q) (sym x.0) (subst (λ z. CompleteAt (outcome.RecvRefused (recv_refusal (host_of s p).control_block)) s z) (sym (e ∙ same_pair s k x.1)) (refused s (recv_refusal (host_of s p).control_block) refl m))

  read_of : (tells : G → ℕ → Type 0) (e : Event) (o : Outcome) (q : PairView G) → EventStep tells e p o q → CompleteRead e o q
  read_of tells (event.RecvSlice s size) o q x = reads s (may_recv (host_of s p).control_block) false size o x.host q refl x.same x.does
  read_of tells (event.Recv s size) o q x = reads s (may_recv (host_of s p).control_block) true size o x.host q refl x.same x.does
  read_of tells (event.Listen s) o q x = tt
  read_of tells (event.Connect s m) o q x = tt
  read_of tells (event.SendSlice s bytes) o q x = tt
  read_of tells (event.Send s bytes size) o q x = tt
  read_of tells (event.Close s) o q x = tt
  read_of tells (event.Abort s) o q x = tt
  read_of tells (event.Set s y) o q x = tt
  read_of tells (event.Dispatch s m fail) o q x = tt
  read_of tells (event.Deliver j m) o q x = tt

-- ---- a closed side

-- along a run
run_ends : (us : List Network) (w v : Network) → Run w us v → IsInvariant w → w.local.closed ≡ true → StreamEnded w.local v.local
run_ends [] w v e i c = subst (λ (z : Network). StreamEnded w.local z.local) e (record { closed = c; accepted = refl })
run_ends (u ∷ us) w v r i c =
    let one = local_ends w u r.0 i c in
    let more = run_ends us u v r.1 (either_keeps w u r.0 i) one.closed in
    record { closed = more.closed; accepted = more.accepted ∙ one.accepted }

reach_ends : (w v : Network) → Reaches w v → IsInvariant w → w.local.closed ≡ true → StreamEnded w.local v.local
reach_ends w v r i c = run_ends r.0 w v r.1 i c

side_ends : {G : Type 0} (s : Side) (p q : PairView G) → Reaches (network_of p) (network_of q) → IsInvariant (network_of p) → (host_of s p).closed ≡ true → HasEnded (host_of s p) (host_of s q)
side_ends A p q r i c = let e = reach_ends (network_of p) (network_of q) r i c in record { closed = e.closed; accepted = e.accepted }
side_ends B p q r i c = let e = reach_ends (swapped (network_of p)) (swapped (network_of q)) (reach_swapped (network_of p) (network_of q) r) (swapped_keeps (network_of p) i) c in record { closed = e.closed; accepted = e.accepted }

-- as a pair answers it
pub completes : {G : Type 0} (tells : G → ℕ → Type 0) (e : Event) (p q : PairView G) (r : Result Outcome PairError) → IsPair p → IsSized e p → IfOk r (λ o. EventStep tells e p o q) → IfOk r (λ o. Complete e p o q)
completes tells e p q (Ok o) i z x = record { read = read_of p i tells e o q x; ended = λ s c. side_ends s p q (event_reaches tells e p o q i z x) i.network c }
completes tells e p q (Err y) i z x = tt
