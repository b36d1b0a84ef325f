-- Runs of steps, one after the other and as the other side sees them; and whole calls as runs.
use Rattle.std.proofs.Common.{◌≡◌, ◌+◌, ◌-◌, Bool, true, false, not, ◌&&◌, refl, sym, ap, subst, ◌∙◌, arith, List, [], ◌∷◌, ◌++◌, length, map, inl, inr, ◌⊎◌, ⊎_elim}
use Rattle.std.specs.Prelude.{if◌then◌else◌}
use Rattle.std.specs.declared.option.Option.{Option}
use Rattle.std.specs.declared.option.Option.TheVariants.{Some, None}
use Rattle.pair_core.specs.Network.{Arrives, Closes, Dies, Dispatches, Emits, Hears, IsStamped, Network, Replies, Step, closed_after, closed_late, delivered_by, emitted, heard_by, swapped, with_local, with_view}
use Rattle.pair_core.specs.NetworkInvariant.{IsInvariant}
use Rattle.pair_core.specs.NetworkRuns.{Reaches, Run, answered}
use Rattle.pair_core.specs.StreamCalls.{Acknowledgement, Answers, ClosesLate, Data, DispatchEffect, EmitEffect, EndsWithQueues, FallBack, HearEffect, Nothing, ProcessEffect, Syn, SynAck, SynAlone}
use Rattle.pair_core.specs.StreamEffects.{AcksBytes, AcksFin, AcksSyn, HearsAck}
use Rattle.pair_core.specs.StreamViews.{FinQueued, Open, Silent, SocketView, StreamSegment, is_fin_queued}
use Rattle.pair_core.proofs.NetworkRuns.{other, run_keeps}

pub reach_keeps : (w v : Network) → Reaches w v → IsInvariant w → IsInvariant v
reach_keeps w v r i = run_keeps r.0 w v r.1 i

pub stays_there : (w v : Network) → w ≡ v → Reaches w v
stays_there w v e = ([], e)

pub one_step : (w v : Network) → Step w v → Reaches w v
one_step w v s = (v ∷ [], (inl s, refl))

run_append : (us vs : List Network) (w u v : Network) → Run w us u → Run u vs v → Run w (us ++ vs) v
run_append [] vs w u v e r = subst (λ z. Run z vs v) (sym e) r
run_append (x ∷ us) vs w u v r s = (r.0, run_append us vs x u v r.1 s)

pub reach_then : (w u v : Network) → Reaches w u → Reaches u v → Reaches w v
reach_then w u v r s = (r.0 ++ s.0, run_append r.0 s.0 w u v r.1 s.1)

run_swapped : (us : List Network) (w v : Network) → Run w us v → Run (swapped w) (map swapped us) (swapped v)
run_swapped [] w v e = ap swapped e
run_swapped (u ∷ us) w v r = (other w u r.0, run_swapped us u v r.1)

pub reach_swapped : (w v : Network) → Reaches w v → Reaches (swapped w) (swapped v)
reach_swapped w v r = (map swapped r.0, run_swapped r.0 w v r.1)

-- ---- a delivery

-- a connection that is over keeps its queues, and so the counts
over_counts : (w : Network) (u v : SocketView) → EndsWithQueues u v → with_local w (with_view (heard_by w.local u) v) ≡ with_local w (heard_by w.local v)
over_counts w u v e = λ i. with_local w (record w.local {
  view = v;
  released = w.local.released + (length w.local.view.transmit_queue - length (sym e.transmit_queue i));
  taken = w.local.taken + (length (sym e.receive_queue i) - length w.local.view.receive_queue);
})

-- the FIN is queued by no segment, and where it was queued none opens again
queued_before : (l : Bool) (v u : SocketView) (g : StreamSegment) → HearEffect l v u g → (v.phase ≡ u.phase) ⊎ ((is_fin_queued u.phase ≡ false) × (u.phase ≡ Open → is_fin_queued v.phase ≡ false))
queued_before l v u g (Nothing is) = inl (sym (ap (λ (y : SocketView). y.phase) is))
queued_before l v u g (Data plain live came same) = inl (sym same.phase)
queued_before l v u g (Acknowledgement plain knows came ack live) = by ack
  where
    by : HearsAck v u g → (v.phase ≡ u.phase) ⊎ ((is_fin_queued u.phase ≡ false) × (u.phase ≡ Open → is_fin_queued v.phase ≡ false))
    by (AcksBytes a n e le at ph una queue nxt) = inl (sym ph)
    by (AcksSyn a e at from ph una queue nxt) = inr (ap is_fin_queued ph, λ o. ⊎_elim (ap is_fin_queued) (ap is_fin_queued) from)
    by (AcksFin a e at from ph una queue nxt) = inr (ap is_fin_queued ph, λ o. let no : Silent ≡ Open = sym ph ∙ o in cc)
queued_before l v u g (FallBack reset ph listener is) = inr (ap (λ (y : SocketView). is_fin_queued y.phase) is, λ o. ap is_fin_queued ph)
queued_before l v u g (Syn iss small plain syn ph is) = inr (ap (λ (y : SocketView). is_fin_queued y.phase) is, λ o. ap is_fin_queued ph)
queued_before l v u g (SynAlone n within plain syn ph is) = inr (ap (λ (y : SocketView). is_fin_queued y.phase) is, λ o. ap is_fin_queued ph)
queued_before l v u g (SynAck plain syn ph ack to nxt queue held fin) = inr (ap is_fin_queued to, λ o. ap is_fin_queued ph)

-- so what was heard marks no side as closed
not_closed : (l : Bool) (v u : SocketView) (g : StreamSegment) (closed : Bool) → HearEffect l v u g → closed_late v.phase u.phase closed ≡ closed
not_closed l v u g closed h = by (queued_before l v u g h)
  where
    same : (b : Bool) → (if b && not b then true else closed) ≡ closed
    same true = refl
    same false = refl

    by : (v.phase ≡ u.phase) ⊎ ((is_fin_queued u.phase ≡ false) × (u.phase ≡ Open → is_fin_queued v.phase ≡ false)) → closed_late v.phase u.phase closed ≡ closed
    by (inl e) = ap (λ x. closed_late x u.phase closed) e ∙ same (is_fin_queued u.phase)
    by (inr n) = ap (λ b. if b && not (is_fin_queued v.phase) then true else closed) n.0

-- a close that waited does
is_closed_late : (l : Bool) (v u w : SocketView) (g : StreamSegment) (closed : Bool) → HearEffect l v u g → ClosesLate u w → closed_late v.phase w.phase closed ≡ true
is_closed_late l v u w g closed h c = ap (λ (y : SocketView). closed_late v.phase y.phase closed) c.is ∙ ap (λ b. if not b then true else closed) (by (queued_before l v u g h))
  where
    by : (v.phase ≡ u.phase) ⊎ ((is_fin_queued u.phase ≡ false) × (u.phase ≡ Open → is_fin_queued v.phase ≡ false)) → is_fin_queued v.phase ≡ false
    by (inl e) = ap is_fin_queued (e ∙ c.phase)
    by (inr n) = n.1 c.phase

-- one that is over marks none either
over_not_closed : (v u w : SocketView) (closed : Bool) → EndsWithQueues u w → closed_late v.phase w.phase closed ≡ closed
over_not_closed v u w closed e = ap (λ p. closed_late v.phase p closed) e.phase

module _ (w : Network) (g : StreamSegment) (come : Arrives w g) where
  -- what was heard is answered, and the connection may be over, or a close that waited is done
  after_answer : (u v : SocketView) (answer : Option StreamSegment) → HearEffect w.local.listener w.local.view u g → (v ≡ u) ⊎ EndsWithQueues u v ⊎ ClosesLate u v → Reaches (answered (with_local w (heard_by w.local u)) answer) (answered (with_local w (delivered_by w.local v)) answer)
  after_answer u v answer h (inl is) = stays_there _ _ (ap (λ (z : SocketView). answered (with_local w (heard_by w.local z)) answer) (sym is) ∙ ap (λ b. answered (with_local w (record (heard_by w.local v) { closed = b })) answer) (sym (ap (λ (z : SocketView). closed_late w.local.view.phase z.phase w.local.closed) is ∙ not_closed w.local.listener w.local.view u g w.local.closed h)))
  after_answer u v answer h (inr (inl e)) = over answer
    where
      is : with_local w (with_view (heard_by w.local u) v) ≡ with_local w (delivered_by w.local v)
      is = over_counts w u v e ∙ ap (λ b. with_local w (record (heard_by w.local v) { closed = b })) (sym (over_not_closed w.local.view u v w.local.closed e))

      over : (answer : Option StreamSegment) → Reaches (answered (with_local w (heard_by w.local u)) answer) (answered (with_local w (delivered_by w.local v)) answer)
      over None = one_step _ _ (Dies v (record { phase = e.phase; receive_queue = inl e.receive_queue; fin = λ f. (e.fin f, e.receive_queue) }) (sym is))
      over (Some a) = one_step _ _ (Dies v (record { phase = e.phase; receive_queue = inl e.receive_queue; fin = λ f. (e.fin f, e.receive_queue) }) (sym (ap (λ z. emitted z a) is)))
  after_answer u v answer h (inr (inr c)) = closes answer
    where
      is : with_local w (closed_after (heard_by w.local u)) ≡ with_local w (delivered_by w.local v)
      is = ap (λ (z : SocketView). with_local w (record (heard_by w.local z) { closed = true })) (sym c.is) ∙ ap (λ b. with_local w (record (heard_by w.local v) { closed = b })) (sym (is_closed_late w.local.listener w.local.view u v g w.local.closed h c))

      closes : (answer : Option StreamSegment) → Reaches (answered (with_local w (heard_by w.local u)) answer) (answered (with_local w (delivered_by w.local v)) answer)
      closes None = one_step _ _ (Closes c.phase (sym is))
      closes (Some a) = one_step _ _ (Closes c.phase (sym (ap (λ z. emitted z a) is)))

  answers_at : (u : SocketView) (answer : Option StreamSegment) → Answers u g answer → ((a : StreamSegment) → answer ≡ Some a → IsStamped (heard_by w.local u) a) → Reaches (with_local w (heard_by w.local u)) (answered (with_local w (heard_by w.local u)) answer)
  answers_at u None may stamps = stays_there _ _ refl
  answers_at u (Some a) may stamps = one_step _ _ (Replies g a come.sent (λ plain. stamps a refl) may refl)

  same_stamps : (u v : SocketView) (a : StreamSegment) → (v ≡ u) ⊎ EndsWithQueues u v ⊎ ClosesLate u v → IsStamped (heard_by w.local v) a → IsStamped (heard_by w.local u) a
  same_stamps u v a (inl is) s = subst (λ (z : SocketView). IsStamped (heard_by w.local z) a) is s
  same_stamps u v a (inr (inl e)) s = record {
    released = omega (arith, s.released, ap length e.transmit_queue);
    taken = omega (arith, s.taken, ap length e.receive_queue);
  }
  same_stamps u v a (inr (inr c)) s = let t : IsStamped (heard_by w.local (record u { phase = FinQueued })) a = subst (λ (z : SocketView). IsStamped (heard_by w.local z) a) c.is s in record { released = t.released; taken = t.taken }

  pub delivery_reaches : (v : SocketView) (answer : Option StreamSegment) → ProcessEffect w.local.listener w.local.view v g answer → ((a : StreamSegment) → answer ≡ Some a → IsStamped (heard_by w.local v) a) → Reaches w (answered (with_local w (delivered_by w.local v)) answer)
  delivery_reaches v answer p stamps =
      reach_then w (with_local w (heard_by w.local p.heard)) _ (one_step _ _ (Hears g p.heard come p.hears refl))
      (reach_then _ (answered (with_local w (heard_by w.local p.heard)) answer) _ (answers_at p.heard answer p.answers (λ a e. same_stamps p.heard v a p.ends (stamps a e))) (after_answer p.heard v answer p.hears p.ends))

-- ---- a dispatch

pub begins_reach : (w : Network) (v : SocketView) → DispatchEffect w.local.view v → Reaches w (with_local w (with_view w.local v))
begins_reach w v e = one_step _ _ (Dispatches v e refl)

-- it emits the segment g, and leaves the socket as v
pub emission_reaches : (w : Network) (v : SocketView) (g : StreamSegment) → IsStamped w.local g → EmitEffect w.local.view g → DispatchEffect w.local.view v → Reaches w (emitted (with_local w (with_view w.local v)) g)
emission_reaches w v g stamps may leaves = reach_then w (emitted w g) _ (one_step _ _ (Emits g (λ plain. stamps) may refl)) (one_step _ _ (Dispatches v leaves refl))
