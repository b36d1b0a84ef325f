-- Each event of a pair is one call on each of its sockets, or none.
use Rattle.std.proofs.Common.{◌≡◌, ℕ, Bool, true, false, List, Option, Some, None, refl, sym, ap, subst, inl, inr}
use Rattle.std.specs.Prelude.{length, slice_get, ◌+◌, IsTrue}
use Rattle.sock_tcp.specs.Process.{Accepts}
use Rattle.sock_tcp.specs.Queues.{may_recv, may_send}
use Rattle.pair_core.specs.Moments.{facts_of}
use Rattle.pair_core.specs.PairCalls.{OpensAs, Receives, ReceivesIf, Sends, SendsIf, SendsUnder, aborting, closing, connecting, is_over, listening, receiving, sending, setting}
use Rattle.pair_core.specs.PairInvariant.{IsPair, IsSized}
use Rattle.pair_core.specs.PairNetwork.{IsSmall}
use Rattle.pair_core.specs.PairSteps.{Delivers, DeliversIf, DeliversTo, EventStep, delivered_to, exchanged, is_old}
use Rattle.pair_core.specs.PairViews.{HostView, PairView, StoredView, host_of, with_host}
use Rattle.pair_core.specs.Sides.{other_side}
use Rattle.pair_core.specs.SocketCalls.{IsCall, IsCalled}
use Rattle.pair_core.specs.declared.event.Event.{Event}
use Rattle.pair_core.specs.declared.event.Event.TheVariants as event
use Rattle.pair_core.specs.declared.host.Opening.{Opening}
use Rattle.pair_core.specs.declared.host.Opening.TheVariants as opening
use Rattle.pair_core.specs.declared.moment.Moment.{Moment}
use Rattle.pair_core.specs.declared.outcome.Outcome.{Outcome}
use Rattle.pair_core.specs.declared.side.Side.{Side}
use Rattle.pair_core.specs.declared.side.Side.TheVariants.{A, B}
use Rattle.pair_core.proofs.PairAmounts.{hands_some, takes_some}
use Rattle.pair_core.proofs.PairHosts.{host_at, version_at}
use Rattle.pair_core.proofs.SocketCalls.{abort_call, close_call, connect_call, dispatch_call, listen_call, moment_lawful, process_call, recv_call, send_call, set_call}

-- ---- one side

abbrev SideCalled : {G : Type 0} → HostView G → HostView G → Type 0
SideCalled h k = IsCalled h.control_block k.control_block

stays : {G : Type 0} (h k : HostView G) → k ≡ h → SideCalled h k
stays h k e = inl (ap (λ (x : HostView _). x.control_block) e)

becomes : {G : Type 0} (h n k : HostView G) → k ≡ n → IsCall h.control_block n.control_block → SideCalled h k
becomes h n k e c = subst (SideCalled h) (sym e) (inr c)

opens : {G : Type 0} (w : Opening) (h n k : HostView G) (o : Outcome) → OpensAs w h n o k → (w ≡ opening.Unopened → IsCall h.control_block n.control_block) → SideCalled h k
opens opening.Unopened h n k o e c = becomes h n k e.1 (c refl)
opens opening.Listener h n k o e c = stays h k e.1
opens opening.Connector h n k o e c = stays h k e.1

sends : {G : Type 0} (h k : HostView G) (limit size : Option ℕ) (bs : List ℕ) (o : Outcome) → Sends limit size bs h o k → SideCalled h k
sends h k limit size bs o e = go (is_over limit (length h.accepted + length bs)) e
  where
    take_some : (b : Bool) → may_send h.control_block.state ≡ b → SendsIf b size bs h o k → SideCalled h k
    take_some true m x =
        let s = takes_some size bs h o k x in
        becomes h (sending h s.count bs) k s.host (send_call h.control_block s.count bs m s.offered s.fits)
    take_some false m x = stays h k x.1

    go : (b : Bool) → SendsUnder b size bs h o k → SideCalled h k
    go true x = stays h k x.1
    go false x = take_some (may_send h.control_block.state) refl x

receives : {G : Type 0} (h k : HostView G) (piece : Bool) (size : ℕ) (o : Outcome) → Receives piece size h o k → SideCalled h k
receives h k piece size o e = go (may_recv h.control_block) refl e
  where
    go : (b : Bool) → may_recv h.control_block ≡ b → ReceivesIf b piece size h o k → SideCalled h k
    go true m x =
        let s = hands_some piece size h o k x in
        becomes h (receiving h s.count) k s.does.host (recv_call h.control_block s.count m s.within)
    go false m x = stays h k x.1

delivers : {G : Type 0} (tells : G → ℕ → Type 0) (old : Bool) (s : Side) (m : Moment) (t : StoredView) (o : Outcome) (h k : HostView G) (ts ts' : List StoredView) → IsSmall t.segment → DeliversTo tells old s m t o h ts k ts' → SideCalled h k
delivers tells true s m t o h k ts ts' small d = stays h k d.1.0
delivers tells false s m t o h k ts ts' small d = go d.accepted d.says.0 d.does
  where
    go : (b : Bool) → (IsTrue b → Accepts h.control_block t.ip t.segment) → DeliversIf tells b s m t o h ts k ts' → SideCalled h k
    go true a x = becomes h (delivered_to h m t) k x.host (process_call h.control_block m t small (a refl))
    go false a x = stays h k x.host

-- ---- the pair

abbrev PairCalled : {G : Type 0} → PairView G → PairView G → Type 0
PairCalled p q = (s : Side) → SideCalled (host_of s p) (host_of s q)

one_side : {G : Type 0} (s : Side) (p q : PairView G) (k : HostView G) → q ≡ with_host s p k → SideCalled (host_of s p) k → PairCalled p q
one_side A p q k e c A = subst (λ (x : PairView _). SideCalled p.a x.a) (sym e) c
one_side A p q k e c B = stays p.b q.b (ap (λ (x : PairView _). x.b) e)
one_side B p q k e c A = stays p.a q.a (ap (λ (x : PairView _). x.a) e)
one_side B p q k e c B = subst (λ (x : PairView _). SideCalled p.b x.b) (sym e) c

with_segments : {G : Type 0} (s : Side) (p q : PairView G) (k : HostView G) (ks : List StoredView) → q ≡ exchanged s p k ks → SideCalled (host_of s p) k → PairCalled p q
with_segments A p q k ks e c A = subst (λ (x : PairView _). SideCalled p.a x.a) (sym e) c
with_segments A p q k ks e c B = stays p.b q.b (ap (λ (x : PairView _). x.b) e)
with_segments B p q k ks e c A = stays p.a q.a (ap (λ (x : PairView _). x.a) e)
with_segments B p q k ks e c B = subst (λ (x : PairView _). SideCalled p.b x.b) (sym e) c

none : {G : Type 0} (p q : PairView G) → q ≡ p → PairCalled p q
none p q e s = stays (host_of s p) (host_of s q) (ap (host_of s) e)

delivery : {G : Type 0} (tells : G → ℕ → Type 0) (j : ℕ) (t : Option StoredView) (m : Moment) (p q : PairView G) (o : Outcome) → IsSized (event.Deliver j m) p → slice_get p.segments j ≡ t → Delivers tells t m p o q → PairCalled p q
delivery tells j None m p q o z at x = none p q x.1
delivery tells j (Some t) m p q o z at x = with_segments (other_side t.emitter) p q x.host x.segments x.same (delivers tells (is_old (host_of t.emitter p) t) (other_side t.emitter) m t o (host_of (other_side t.emitter) p) x.host p.segments x.segments (z.delivered t at) x.does)

pub event_called : {G : Type 0} (tells : G → ℕ → Type 0) (e : Event) (p : PairView G) (o : Outcome) (q : PairView G) → IsPair p → IsSized e p → EventStep tells e p o q → PairCalled p q
event_called tells (event.Listen s) p o q i z x = one_side s p q x.host x.same (opens (host_of s p).opening (host_of s p) (listening (host_of s p)) x.host o x.does (λ u. listen_call (host_of s p).control_block (record { addr = Some (host_of s p).endpoint.addr; port = (host_of s p).endpoint.port }) ((host_at s p i).idle u).state (host_at s p i).reachable.port))
event_called tells (event.Connect s m) p o q i z x =
    let h = host_of s p in
    let there = (host_of (other_side s) p).endpoint in
    one_side s p q x.host x.same (opens h.opening h (connecting h m there) x.host o x.does (λ u. connect_call h.control_block (facts_of m) h.endpoint there ((host_at s p i).idle u).state (host_at s p i).reachable (host_at (other_side s) p i).reachable (version_at s p i) m.word m.fits))
event_called tells (event.SendSlice s bytes) p o q i z x = one_side s p q x.host x.same (sends (host_of s p) x.host p.limit None bytes.items o x.does)
event_called tells (event.Send s bytes size) p o q i z x = one_side s p q x.host x.same (sends (host_of s p) x.host p.limit (Some size) bytes.items o x.does)
event_called tells (event.RecvSlice s size) p o q i z x = one_side s p q x.host x.same (receives (host_of s p) x.host false size o x.does)
event_called tells (event.Recv s size) p o q i z x = one_side s p q x.host x.same (receives (host_of s p) x.host true size o x.does)
event_called tells (event.Close s) p o q i z x = one_side s p q x.host x.same (becomes (host_of s p) (closing (host_of s p)) x.host x.does.1 (close_call (host_of s p).control_block))
event_called tells (event.Abort s) p o q i z x = one_side s p q x.host x.same (becomes (host_of s p) (aborting (host_of s p)) x.host x.does.1 (abort_call (host_of s p).control_block))
event_called tells (event.Set s y) p o q i z x = one_side s p q x.host x.same (becomes (host_of s p) (setting (host_of s p) y) x.host x.does.1 (set_call y (host_of s p).control_block))
event_called tells (event.Dispatch s m fail) p o q i z x = with_segments s p q x.host x.segments x.same (inr (dispatch_call tells (host_of s p).source (facts_of m) (moment_lawful m) fail x.does.sent x.host.control_block (host_of s p).control_block x.does.does.socket))
event_called tells (event.Deliver j m) p o q i z x = delivery tells j (slice_get p.segments j) m p q o z refl x
