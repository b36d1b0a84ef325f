-- What events added to the streams of a pair.
use Rattle.std.proofs.Common.{◌≡◌, ℕ, ◌+◌, Bool, true, false, refl, sym, ap, subst, ◌∙◌, List, [], ◌∷◌, ◌++◌, length, take, Option, Some, None, append_assoc}
use Rattle.std.specs.Prelude.{slice_get, Vec, Result, Ok, Err, IfOk}
use Rattle.std.specs.Global.{Global}
use Rattle.std.proofs.lemmas.List.{append-nil}
use Rattle.sock_tcp.specs.Queues.{may_send, may_recv, recv_refusal}
use Rattle.sock_tcp.specs.declared.error.RecvError.{RecvError}
use Rattle.sock_tcp.specs.declared.error.SendError.TheVariants as send_error
use Rattle.pair_core.specs.PairCalls.{listening, connecting, OpensAs, SendsIf, SendsUnder, IsRead, ReceivesIf, is_over, sending, receiving}
use Rattle.pair_core.proofs.PairAmounts.{takes_some, hands_some}
use Rattle.pair_core.specs.PairRuns.{EventRun}
use Rattle.pair_core.specs.PairSteps.{EventStep, DeliversTo, DeliversIf, Delivers, exchanged, is_old}
use Rattle.pair_core.specs.PairStreams.{AddsUp, accepted_by, accepted_in, handed_out_by, handed_out_in, where_same}
use Rattle.pair_core.specs.PairViews.{HostView, StoredView, PairView, host_of, with_host}
use Rattle.pair_core.specs.Sides.{other_side}
use Rattle.pair_core.specs.declared.event.Event.{Event}
use Rattle.pair_core.specs.declared.event.Event.TheVariants as event
use Rattle.pair_core.specs.declared.host.Opening.{Opening}
use Rattle.pair_core.specs.declared.host.Opening.TheVariants as opening
use Rattle.pair_core.specs.declared.moment.Moment.{Moment}
use Rattle.pair_core.specs.declared.outcome.Outcome.{Outcome}
use Rattle.pair_core.specs.declared.outcome.Outcome.TheVariants as outcome
use Rattle.pair_core.specs.declared.outcome.PairError.{PairError}
use Rattle.pair_core.specs.declared.side.Side.{Side}
use Rattle.pair_core.specs.declared.side.Side.TheVariants.{A, B}

-- one side's streams, as h and k have them
pub record HostAdds {G : Type 0} (h k : HostView G) (accepted handed_out : List ℕ) : Type 0 where
  pub accepted_bytes : k.accepted ≡ h.accepted ++ accepted
  pub handed_out_bytes : k.handed_out ≡ h.handed_out ++ handed_out

nothing : {G : Type 0} (h k : HostView G) → k.accepted ≡ h.accepted → k.handed_out ≡ h.handed_out → HostAdds h k [] []
nothing h k a d = record { accepted_bytes = a ∙ sym (append-nil h.accepted); handed_out_bytes = d ∙ sym (append-nil h.handed_out) }

same : {G : Type 0} (h k : HostView G) → k ≡ h → HostAdds h k [] []
same h k e = nothing h k (ap (λ (x : HostView _). x.accepted) e) (ap (λ (x : HostView _). x.handed_out) e)

kept : (xs none : List ℕ) → none ≡ [] → xs ≡ xs ++ none
kept xs none e = sym (append-nil xs) ∙ ap (λ ys. xs ++ ys) (sym e)

each : (P : Side → Type 0) → P A → P B → (s : Side) → P s
each P a b A = a
each P a b B = b

-- an event of the side t adds nothing to the other
on_side : {G : Type 0} (t : Side) (p : PairView G) (k : HostView G) (ks : List StoredView) (accepted handed_out : Side → List ℕ) → HostAdds (host_of t p) k (accepted t) (handed_out t) → accepted (other_side t) ≡ [] → handed_out (other_side t) ≡ [] → AddsUp p (exchanged t p k ks) accepted handed_out
on_side A p k ks accepted handed_out d no_a no_h = record {
  accepted_bytes = each (λ s. (host_of s (exchanged A p k ks)).accepted ≡ (host_of s p).accepted ++ accepted s) d.accepted_bytes (kept p.b.accepted (accepted B) no_a);
  handed_out_bytes = each (λ s. (host_of s (exchanged A p k ks)).handed_out ≡ (host_of s p).handed_out ++ handed_out s) d.handed_out_bytes (kept p.b.handed_out (handed_out B) no_h);
}
on_side B p k ks accepted handed_out d no_a no_h = record {
  accepted_bytes = each (λ s. (host_of s (exchanged B p k ks)).accepted ≡ (host_of s p).accepted ++ accepted s) (kept p.a.accepted (accepted A) no_a) d.accepted_bytes;
  handed_out_bytes = each (λ s. (host_of s (exchanged B p k ks)).handed_out ≡ (host_of s p).handed_out ++ handed_out s) (kept p.a.handed_out (handed_out A) no_h) d.handed_out_bytes;
}

-- ---- each call

opens : {G : Type 0} (e : Opening) (h n k : HostView G) (o : Outcome) → HostAdds h n [] [] → OpensAs e h n o k → HostAdds h k [] []
opens opening.Unopened h n k o d x = subst (λ z. HostAdds h z [] []) (sym x.1) d
opens opening.Listener h n k o d x = same h k x.1
opens opening.Connector h n k o d x = same h k x.1

same_there : (t : Side) (bytes : List ℕ) → where_same t t bytes ≡ bytes
same_there A bytes = refl
same_there B bytes = refl

none_elsewhere : (t : Side) (bytes : List ℕ) → where_same (other_side t) t bytes ≡ []
none_elsewhere A bytes = refl
none_elsewhere B bytes = refl

-- what the outcome of a send adds, by whichever event
module _ {G : Type 0} (t : Side) (p : PairView G) (bs : List ℕ) (k : HostView G) (by : Side → Outcome → List ℕ) where
  abbrev SendAdds : Outcome → Type 0
  SendAdds o = AddsUp p (exchanged t p k p.segments) (λ s. by s o) (λ s. [])

  refused : (o : Outcome) → ((s : Side) → by s o ≡ []) → k ≡ host_of t p → SendAdds o
  refused o n e = on_side t p k p.segments (λ s. by s o) (λ s. []) (subst (λ xs. HostAdds (host_of t p) k xs []) (sym (n t)) (same (host_of t p) k e)) (n (other_side t)) refl

  module _ (some : (s : Side) (n : ℕ) → by s (outcome.Accepted n) ≡ where_same s t (take n bs)) (none : (s : Side) → by s outcome.StreamLimit ≡ []) (shut : (s : Side) → by s (outcome.SendRefused send_error.InvalidState) ≡ []) where
    accepted_some : (n : ℕ) → k ≡ sending (host_of t p) n bs → SendAdds (outcome.Accepted n)
    accepted_some n e = on_side t p k p.segments (λ s. by s (outcome.Accepted n)) (λ s. [])
        (record {
          accepted_bytes = ap (λ (x : HostView _). x.accepted) e ∙ ap (λ xs. (host_of t p).accepted ++ xs) (sym (some t n ∙ same_there t (take n bs)));
          handed_out_bytes = ap (λ (x : HostView _). x.handed_out) e ∙ sym (append-nil (host_of t p).handed_out);
        })
        (some (other_side t) n ∙ none_elsewhere t (take n bs)) refl

    sends_if : (b : Bool) (size : Option ℕ) (o : Outcome) → SendsIf b size bs (host_of t p) o k → SendAdds o
    sends_if true size o x = let s = takes_some size bs (host_of t p) o k x in subst SendAdds (sym s.answer) (accepted_some s.count s.host)
    sends_if false size o x = subst SendAdds (sym x.0) (refused (outcome.SendRefused send_error.InvalidState) shut x.1)

    sends : (over : Bool) (size : Option ℕ) (o : Outcome) → SendsUnder over size bs (host_of t p) o k → SendAdds o
    sends true size o x = subst SendAdds (sym x.0) (refused outcome.StreamLimit none x.1)
    sends false size o x = sends_if (may_send (host_of t p).control_block.state) size o x

-- what the outcome of a read adds, by whichever event
module _ {G : Type 0} (t : Side) (p : PairView G) (k : HostView G) (by : Side → Outcome → List ℕ) (some : (s : Side) (v : Vec ℕ Global) → by s (outcome.Read v) ≡ where_same s t v.items) (shut : (s : Side) (e : RecvError) → by s (outcome.RecvRefused e) ≡ []) where
  abbrev ReadAdds : Outcome → Type 0
  ReadAdds o = AddsUp p (exchanged t p k p.segments) (λ s. []) (λ s. by s o)

  reads : (n : ℕ) (o : Outcome) → IsRead o (take n (host_of t p).control_block.rx_buffer.bytes) → k ≡ receiving (host_of t p) n → ReadAdds o
  reads n (outcome.Read v) x e = on_side t p k p.segments (λ s. []) (λ s. by s (outcome.Read v))
      (record {
        accepted_bytes = ap (λ (y : HostView _). y.accepted) e ∙ sym (append-nil (host_of t p).accepted);
        handed_out_bytes = ap (λ (y : HostView _). y.handed_out) e ∙ ap (λ xs. (host_of t p).handed_out ++ xs) (sym x ∙ sym (some t v ∙ same_there t v.items));
      })
      refl (some (other_side t) v ∙ none_elsewhere t v.items)
  reads n _ x e = absurd x

  reads_if : (b piece : Bool) (size : ℕ) (o : Outcome) → ReceivesIf b piece size (host_of t p) o k → ReadAdds o
  reads_if true piece size o x = let s = hands_some piece size (host_of t p) o k x in reads s.count o s.does.answer s.does.host
  reads_if false piece size o x =
      let e = recv_refusal (host_of t p).control_block in
      subst ReadAdds (sym x.0) (on_side t p k p.segments (λ s. []) (λ s. by s (outcome.RecvRefused e)) (subst (λ xs. HostAdds (host_of t p) k [] xs) (sym (shut t e)) (same (host_of t p) k x.1)) refl (shut (other_side t) e))

-- a delivery
delivers_to : {G : Type 0} (tells : G → ℕ → Type 0) (old : Bool) (s : Side) (m : Moment) (t : StoredView) (o : Outcome) (h h' : HostView G) (ks ks' : List StoredView) → DeliversTo tells old s m t o h ks h' ks' → HostAdds h h' [] []
delivers_to tells true s m t o h h' ks ks' x = same h h' x.1.0
delivers_to tells false s m t o h h' ks ks' x = go x.accepted x.does
  where
    go : (b : Bool) → DeliversIf tells b s m t o h ks h' ks' → HostAdds h h' [] []
    go true y = nothing h h' (ap (λ (z : HostView _). z.accepted) y.host) (ap (λ (z : HostView _). z.handed_out) y.host)
    go false y = same h h' y.host

unchanged : {G : Type 0} (p q : PairView G) → q ≡ p → AddsUp p q (λ s. []) (λ s. [])
unchanged p q e = record {
  accepted_bytes = λ s. ap (λ z. (host_of s z).accepted) e ∙ sym (append-nil (host_of s p).accepted);
  handed_out_bytes = λ s. ap (λ z. (host_of s z).handed_out) e ∙ sym (append-nil (host_of s p).handed_out);
}

delivers : {G : Type 0} (tells : G → ℕ → Type 0) (t : Option StoredView) (m : Moment) (p q : PairView G) (o : Outcome) → Delivers tells t m p o q → AddsUp p q (λ s. []) (λ s. [])
delivers tells None m p q o x = unchanged p q x.1
delivers tells (Some t) m p q o x = subst (λ z. AddsUp p z (λ s. []) (λ s. [])) (sym x.same) (on_side (other_side t.emitter) p x.host x.segments (λ s. []) (λ s. []) (delivers_to tells (is_old (host_of t.emitter p) t) (other_side t.emitter) m t o (host_of (other_side t.emitter) p) x.host p.segments x.segments x.does) refl refl)

-- ---- steps and runs

one_side : {G : Type 0} (t : Side) (p q : PairView G) (k : HostView G) (accepted handed_out : Side → List ℕ) → q ≡ exchanged t p k p.segments → AddsUp p (exchanged t p k p.segments) accepted handed_out → AddsUp p q accepted handed_out
one_side t p q k accepted handed_out e d = subst (λ z. AddsUp p z accepted handed_out) (sym e) d

with_is_exchanged : {G : Type 0} (t : Side) (p : PairView G) (k : HostView G) → with_host t p k ≡ exchanged t p k p.segments
with_is_exchanged A p k = refl
with_is_exchanged B p k = refl

-- a call that adds nothing
calls_none : {G : Type 0} (t : Side) (p q : PairView G) (k : HostView G) → q ≡ exchanged t p k p.segments → k.accepted ≡ (host_of t p).accepted → k.handed_out ≡ (host_of t p).handed_out → AddsUp p q (λ s. []) (λ s. [])
calls_none t p q k e a d = one_side t p q k _ _ e (on_side t p k p.segments (λ s. []) (λ s. []) (nothing (host_of t p) k a d) refl refl)

pub step_adds_up : {G : Type 0} (tells : G → ℕ → Type 0) (e : Event) (p : PairView G) (o : Outcome) (q : PairView G) → EventStep tells e p o q → AddsUp p q (λ s. accepted_by s e o) (λ s. handed_out_by s e o)
step_adds_up tells (event.Listen t) p o q x = one_side t p q x.host _ _ (x.same ∙ with_is_exchanged t p x.host) (on_side t p x.host p.segments (λ s. []) (λ s. []) (opens (host_of t p).opening (host_of t p) (listening (host_of t p)) x.host o (nothing _ _ refl refl) x.does) refl refl)
step_adds_up tells (event.Connect t m) p o q x = one_side t p q x.host _ _ (x.same ∙ with_is_exchanged t p x.host) (on_side t p x.host p.segments (λ s. []) (λ s. []) (opens (host_of t p).opening (host_of t p) (connecting (host_of t p) m (host_of (other_side t) p).endpoint) x.host o (nothing _ _ refl refl) x.does) refl refl)
step_adds_up tells (event.SendSlice t bytes) p o q x = one_side t p q x.host _ _ (x.same ∙ with_is_exchanged t p x.host) (sends t p bytes.items x.host (λ s o. accepted_by s (event.SendSlice t bytes) o) (λ s n. refl) (λ s. refl) (λ s. refl) (is_over p.limit (length (host_of t p).accepted + length bytes.items)) None o x.does)
step_adds_up tells (event.Send t bytes size) p o q x = one_side t p q x.host _ _ (x.same ∙ with_is_exchanged t p x.host) (sends t p bytes.items x.host (λ s o. accepted_by s (event.Send t bytes size) o) (λ s n. refl) (λ s. refl) (λ s. refl) (is_over p.limit (length (host_of t p).accepted + length bytes.items)) (Some size) o x.does)
step_adds_up tells (event.RecvSlice t size) p o q x = one_side t p q x.host _ _ (x.same ∙ with_is_exchanged t p x.host) (reads_if t p x.host (λ s o. handed_out_by s (event.RecvSlice t size) o) (λ s v. refl) (λ s e. refl) (may_recv (host_of t p).control_block) false size o x.does)
step_adds_up tells (event.Recv t size) p o q x = one_side t p q x.host _ _ (x.same ∙ with_is_exchanged t p x.host) (reads_if t p x.host (λ s o. handed_out_by s (event.Recv t size) o) (λ s v. refl) (λ s e. refl) (may_recv (host_of t p).control_block) true size o x.does)
step_adds_up tells (event.Close t) p o q d = calls_none t p q d.host (d.same ∙ with_is_exchanged t p d.host) (ap (λ (h : HostView _). h.accepted) d.does.1) (ap (λ (h : HostView _). h.handed_out) d.does.1)
step_adds_up tells (event.Abort t) p o q d = calls_none t p q d.host (d.same ∙ with_is_exchanged t p d.host) (ap (λ (h : HostView _). h.accepted) d.does.1) (ap (λ (h : HostView _). h.handed_out) d.does.1)
step_adds_up tells (event.Set t x) p o q d = calls_none t p q d.host (d.same ∙ with_is_exchanged t p d.host) (ap (λ (h : HostView _). h.accepted) d.does.1) (ap (λ (h : HostView _). h.handed_out) d.does.1)
step_adds_up tells (event.Dispatch t m fail) p o q x = subst (λ z. AddsUp p z (λ s. []) (λ s. [])) (sym x.same) (on_side t p x.host x.segments (λ s. []) (λ s. []) (nothing (host_of t p) x.host (ap (λ (z : HostView _). z.accepted) x.does.does.same) (ap (λ (z : HostView _). z.handed_out) x.does.does.same)) refl refl)
step_adds_up tells (event.Deliver i m) p o q x = delivers tells (slice_get p.segments i) m p q o x

-- as a pair answers it
pub adds_up_if : {G : Type 0} (tells : G → ℕ → Type 0) (e : Event) (p q : PairView G) (r : Result Outcome PairError) → IfOk r (λ o. EventStep tells e p o q) → IfOk r (λ o. AddsUp p q (λ s. accepted_by s e o) (λ s. handed_out_by s e o))
adds_up_if tells e p q (Ok o) x = step_adds_up tells e p o q x
adds_up_if tells e p q (Err x) y = tt

-- one step, and then others
then_adds : {G : Type 0} (p r q : PairView G) (a b c d : Side → List ℕ) → AddsUp p r a b → AddsUp r q c d → AddsUp p q (λ s. a s ++ c s) (λ s. b s ++ d s)
then_adds p r q a b c d x y = record {
  accepted_bytes = λ s. y.accepted_bytes s ∙ ap (λ xs. xs ++ c s) (x.accepted_bytes s) ∙ append_assoc (host_of s p).accepted (a s) (c s);
  handed_out_bytes = λ s. y.handed_out_bytes s ∙ ap (λ xs. xs ++ d s) (x.handed_out_bytes s) ∙ append_assoc (host_of s p).handed_out (b s) (d s);
}

pub run_adds_up : {G : Type 0} (tells : G → ℕ → Type 0) (es : List Event) (p : PairView G) (os : List Outcome) (q : PairView G) → EventRun tells es p os q → AddsUp p q (λ s. accepted_in s es os) (λ s. handed_out_in s es os)
run_adds_up tells [] p [] q run = unchanged p q (sym run)
run_adds_up tells [] p (o ∷ os) q run = absurd run
run_adds_up tells (e ∷ es) p [] q run = absurd run
run_adds_up tells (e ∷ es) p (o ∷ os) q run = then_adds p run.0 q (λ s. accepted_by s e o) (λ s. handed_out_by s e o) (λ s. accepted_in s es os) (λ s. handed_out_in s es os) (step_adds_up tells e p o run.0 run.1.step) (run_adds_up tells es run.0 os q run.2)

-- events without an outcome add nothing
accepted_first : (s : Side) (es : List Event) (os : List Outcome) → accepted_in s (take (length os) es) os ≡ accepted_in s es os
accepted_first s [] [] = refl
accepted_first s [] (o ∷ os) = refl
accepted_first s (e ∷ es) [] = refl
accepted_first s (e ∷ es) (o ∷ os) = ap (λ xs. accepted_by s e o ++ xs) (accepted_first s es os)

handed_out_first : (s : Side) (es : List Event) (os : List Outcome) → handed_out_in s (take (length os) es) os ≡ handed_out_in s es os
handed_out_first s [] [] = refl
handed_out_first s [] (o ∷ os) = refl
handed_out_first s (e ∷ es) [] = refl
handed_out_first s (e ∷ es) (o ∷ os) = ap (λ xs. handed_out_by s e o ++ xs) (handed_out_first s es os)

pub first_adds_up : {G : Type 0} (tells : G → ℕ → Type 0) (es : List Event) (p : PairView G) (os : List Outcome) (q : PairView G) → EventRun tells (take (length os) es) p os q → AddsUp p q (λ s. accepted_in s es os) (λ s. handed_out_in s es os)
first_adds_up tells es p os q run =
    let d = run_adds_up tells (take (length os) es) p os q run in
    record {
      accepted_bytes = λ s. d.accepted_bytes s ∙ ap (λ xs. (host_of s p).accepted ++ xs) (accepted_first s es os);
      handed_out_bytes = λ s. d.handed_out_bytes s ∙ ap (λ xs. (host_of s p).handed_out ++ xs) (handed_out_first s es os);
    }
