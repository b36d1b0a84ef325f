-- What the invariant of a pair promises.
use Rattle.std.proofs.Common.{◌≡◌, ℕ, Bool, true, false, List, ◌++◌, Option, Some, refl, sym, ap, subst, ◌∙◌}
use Rattle.std.specs.Prelude.{slice_get, Result, Ok, Err, IfOk, ◌==◌}
use Rattle.std.specs.List.{starts_with}
use Rattle.std.proofs.lemmas.Bool.Decides.{Decides-eqb}
use Rattle.std.proofs.lemmas.List.{append_assoc}
use Rattle.std.proofs.lemmas.Slice.Eq.{starts_is}
use Rattle.sock_core.specs.Received.{JoinsAtOnce}
use Rattle.sock_core.specs.Streams.{IsPrefix}
use Rattle.pair_core.specs.NetworkRuns as network
use Rattle.pair_core.specs.PairInvariant.{IsHost, IsPair}
use Rattle.pair_core.specs.PairNetwork.{seen, endpoint_of, network_of}
use Rattle.pair_core.specs.PairPromises.{delivered, Prefix, Begins, IsReleased, Release, IsPrompt, IsPromptAt, Prompt, in_window}
use Rattle.pair_core.specs.PairSteps.{DeliversTo, DeliversIf, Delivers, is_old, exchanged}
use Rattle.pair_core.specs.PairViews.{HostView, StoredView, PairView, host_of}
use Rattle.pair_core.specs.Sides.{other_side}
use Rattle.pair_core.specs.declared.host.Opening.{Opening}
use Rattle.pair_core.specs.declared.host.Opening.TheVariants as opening
use Rattle.pair_core.specs.declared.moment.Moment.{Moment}
use Rattle.pair_core.specs.declared.event.Event.{Event}
use Rattle.pair_core.specs.declared.event.Event.TheVariants as event
use Rattle.pair_core.specs.declared.outcome.Outcome.{Outcome}
use Rattle.pair_core.specs.declared.outcome.PairError.{PairError}
use Rattle.pair_core.specs.declared.outcome.Outcome.TheVariants as outcome
use Rattle.pair_core.specs.declared.side.Side.{Side}
use Rattle.pair_core.specs.declared.side.Side.TheVariants.{A, B}
use Rattle.pair_core.proofs.NetworkRuns.{both_delivered}
use Rattle.pair_core.proofs.ShownPrompt.{queued_at_once}

-- ---- the receive queue

-- also of a side that was never opened
shows_queue : {G : Type 0} (h : HostView G) → IsHost h → (endpoint_of h).view.receive_queue ≡ h.control_block.rx_buffer.bytes
shows_queue h i = go h.opening refl
  where
    go : (e : Opening) → h.opening ≡ e → (seen e h.control_block).receive_queue ≡ h.control_block.rx_buffer.bytes
    go opening.Unopened e = sym (i.idle e).rx
    go opening.Listener e = refl
    go opening.Connector e = refl

has_prefix : {G : Type 0} (sender receiver : HostView G) → IsHost receiver → network.IsDelivered (endpoint_of sender) (endpoint_of receiver) → IsPrefix (delivered receiver) sender.accepted
has_prefix sender receiver i d = subst (λ q. IsPrefix (receiver.handed_out ++ q) sender.accepted) (shows_queue receiver i) d.is_prefix

-- ---- Prefix

pub keeps_prefix : {G : Type 0} (p : PairView G) → IsPair p → Prefix p
keeps_prefix p i =
    let d = both_delivered (network_of p) i.network in
    record { to_b = has_prefix p.a p.b i.b d.outgoing; to_a = has_prefix p.b p.a i.a d.incoming }

-- what begins with more begins with less
starts : (xs queue ys : List ℕ) → IsPrefix (xs ++ queue) ys → starts_with ◌==◌ ys xs ≡ true
starts xs queue ys (rest, is) = (starts_is Decides-eqb ys xs (starts_with ◌==◌ ys xs) refl).1 (queue ++ rest) (sym is ∙ append_assoc xs queue rest)

pub prefix_begins : {G : Type 0} (p : PairView G) → Prefix p → Begins p
prefix_begins p h =
    record {
      of_a = starts p.b.handed_out p.b.control_block.rx_buffer.bytes p.a.accepted h.to_b;
      of_b = starts p.a.handed_out p.a.control_block.rx_buffer.bytes p.b.accepted h.to_a;
    }

-- ---- Release

is_released : {G : Type 0} (sender receiver : HostView G) → network.IsDelivered (endpoint_of sender) (endpoint_of receiver) → IsReleased sender receiver
is_released sender receiver d = record { released = d.released; taken = d.taken }

pub keeps_release : {G : Type 0} (p : PairView G) → IsPair p → Release p
keeps_release p i =
    let d = both_delivered (network_of p) i.network in
    record { of_a = is_released p.a p.b d.outgoing; of_b = is_released p.b p.a d.incoming }

-- ---- Prompt

-- a delivery that was accepted
pub prompt : {G : Type 0} (tells : G → ℕ → Type 0) (old : Bool) (s : Side) (m : Moment) (t : StoredView) (o : Outcome) (reply : Option ℕ) (h h' : HostView G) (ks ks' : List StoredView) → o ≡ outcome.Delivered reply → DeliversTo tells old s m t o h ks h' ks' → IsPrompt m t h h'
prompt tells true s m t o reply h h' ks ks' is d = let no : outcome.TooOld ≡ outcome.Delivered reply = sym d.0 ∙ is in cc
prompt tells false s m t o reply h h' ks ks' is d = go d.accepted d.does
  where
    go : (b : Bool) → DeliversIf tells b s m t o h ks h' ks' → IsPrompt m t h h'
    go false x = let no : outcome.NotAccepted _ ≡ outcome.Delivered reply = sym x.answer ∙ is in cc
    go true x = record { queued = λ i some. subst (λ (k : HostView _). JoinsAtOnce h.control_block.rx_buffer k.control_block.rx_buffer (in_window h.control_block t.segment)) (sym x.host) (queued_at_once h.control_block _ m.word t.ip t.segment i some) }

exchanged_host : {G : Type 0} (s : Side) (p : PairView G) (h : HostView G) (ks : List StoredView) → host_of s (exchanged s p h ks) ≡ h
exchanged_host A p h ks = refl
exchanged_host B p h ks = refl

pub delivers_promptly : {G : Type 0} (tells : G → ℕ → Type 0) (i : ℕ) (m : Moment) (p q : PairView G) (o : Outcome) → Delivers tells (slice_get p.segments i) m p o q → IsPromptAt i m p o q
delivers_promptly tells i m p q o d t reply at is =
    let x : Delivers tells (Some t) m p o q = subst (λ z. Delivers tells z m p o q) at d in
    subst (λ k. IsPrompt m t (host_of (other_side t.emitter) p) k) (sym (ap (host_of (other_side t.emitter)) x.same ∙ exchanged_host (other_side t.emitter) p x.host x.segments))
    (prompt tells (is_old (host_of t.emitter p) t) (other_side t.emitter) m t o reply (host_of (other_side t.emitter) p) x.host p.segments x.segments is x.does)

-- the event of a delivery, as a pair answers it
pub prompt_delivery : {G : Type 0} (tells : G → ℕ → Type 0) (e : Event) (i : ℕ) (m : Moment) (p q : PairView G) (r : Result Outcome PairError) → e ≡ event.Deliver i m → IfOk r (λ o. Delivers tells (slice_get p.segments i) m p o q) → IfOk r (λ o. Prompt e p o q)
prompt_delivery tells e i m p q r is d = subst (λ x. IfOk r (λ o. Prompt x p o q)) (sym is) (go r d)
  where
    go : (x : Result Outcome PairError) → IfOk x (λ o. Delivers tells (slice_get p.segments i) m p o q) → IfOk x (λ o. IsPromptAt i m p o q)
    go (Ok o) y = delivers_promptly tells i m p q o y
    go (Err x) y = tt
