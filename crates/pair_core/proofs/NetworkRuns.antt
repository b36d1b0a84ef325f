-- Every run delivers both streams.
use Rattle.std.proofs.Common.{◌≡◌, ℕ, true, false, refl, sym, ap, subst, ◌∙◌, arith, List, [], ◌∷◌, ◌++◌, length, Some, None, inl, inr, ⊎_elim, append_assoc, length-append}
use Rattle.std.specs.List.{Contains}
use Rattle.std.specs.declared.option.Option.{Option}
use Rattle.std.proofs.lemmas.List.Elements.{Contains-push_cases, Contains-append_cases}
use Rattle.std.proofs.lemmas.List.{append-nil, nil_from_length}
use Rattle.pair_core.specs.Network.{Endpoint, Finishes, IsWithin, Network, swapped}
use Rattle.pair_core.specs.NetworkInvariant.{IsInvariant, IsLimit, StreamInvariant}
use Rattle.pair_core.specs.NetworkRuns.{AlwaysCompletes, AlwaysDelivers, AlwaysEnds, AreDelivered, EitherSteps, StreamEnded, IsDelivered, Run, start, unopened}
use Rattle.pair_core.specs.StreamModel.{IsSound, Stream}
use Rattle.pair_core.proofs.NetworkChanges.{counts_ordered, none_in}
use Rattle.pair_core.proofs.NetworkSteps.{closed_stays, either_keeps, step_adds, swapped_keeps}
use Rattle.pair_core.proofs.StreamGrowth.{sound_front}

-- a stream of which nothing has happened
empty_stream : Stream
empty_stream = record { accepted = []; closed = false; released = 0; joined = []; held = λ k. None; fin_counted = false }

-- it is sound
empty_sound : IsSound empty_stream
unfolding empty_stream
empty_sound = record {
  joined = λ j b h. let e : None ≡ Some b = h in cc;
  held = λ j b l h. let e : None ≡ Some b = h in cc;
  released = omega arith;
  fin = λ e. let c : false ≡ true = e in cc;
}

-- and it matches two sockets that were never opened
empty_holds : StreamInvariant unopened unopened 0 empty_stream
unfolding empty_stream
empty_holds = record {
  sound = empty_sound;
  fits = record { room = omega arith };
  accepted = refl;
  closed = refl;
  released = refl;
  sending = λ d. absurd d;
  receiving = λ d. absurd d;
  delivered = ([], refl);
  nothing_yet = λ d. record { joined = refl; stream_fin = refl; receive_queue = refl; handed_out = refl; fin = refl; held = λ k b h. let e : None ≡ Some b = h in cc };
  finished = λ e. let c : false ≡ true = e in cc;
  taken = refl;
  unsent = λ d. record { accepted = refl; closed = refl; released = refl; transmit_queue = refl };
}

-- nothing was opened
pub starts : (limit : Option ℕ) → IsLimit limit → IsInvariant (start limit)
starts limit bound = record {
  local_origin = 0;
  remote_origin = 0;
  local_acked_origin = 0;
  remote_acked_origin = 0;
  outgoing = empty_stream;
  incoming = empty_stream;
  outgoing_holds = empty_holds;
  incoming_holds = empty_holds;
  local_true = λ g m. absurd (none_in [] g refl m);
  remote_true = λ g m. absurd (none_in [] g refl m);
  local_numbers = inl (λ c. refl);
  local_connects = λ c. refl;
  remote_connects = λ c. refl;
  remote_numbers = inl (λ c. refl);
  local_unspoken = λ u. inl (record { none = λ g m e. none_in [] g refl m; unknown = λ m. m; unacked = λ g m e a is. none_in [] g refl m });
  remote_unspoken = λ u. inl (record { none = λ g m e. none_in [] g refl m; unknown = λ m. m; unacked = λ g m e a is. none_in [] g refl m });
  limited = bound;
  local_within = none_within limit;
  remote_within = none_within limit;
}
  where
    none_within : (l : Option ℕ) → IsWithin l []
    none_within None = tt
    none_within (Some n) = omega arith

-- a run keeps the invariant
pub run_keeps : (us : List Network) (w v : Network) → Run w us v → IsInvariant w → IsInvariant v
run_keeps [] w v e i = subst IsInvariant e i
run_keeps (u ∷ us) w v r i = run_keeps us u v r.1 (either_keeps w u r.0 i)

-- also in each network on its way
pub way_keeps : (us : List Network) (w v z : Network) → Run w us v → Contains us z → IsInvariant w → IsInvariant z
way_keeps [] w v z r c i = absurd (omega (arith, c.1))
way_keeps (u ∷ us) w v z r c i = ⊎_elim
    (λ first. ⊎_elim (λ none. absurd (omega (arith, none.1))) (λ e. subst IsInvariant e (either_keeps w u r.0 i)) (Contains-push_cases [] u z first))
    (λ further. way_keeps us u v z r.1 further (either_keeps w u r.0 i))
    (Contains-append_cases (u ∷ []) us z c)

-- what the invariant promises of one stream
pub one_delivered : (x y : Endpoint) (o : ℕ) (f : Stream) → StreamInvariant x y o f → IsDelivered x y
one_delivered x y o f l =
    let all = sound_front f l.sound in
    let counts = counts_ordered x y o f l in
    let whole : (y.handed_out ++ y.view.receive_queue) ++ (l.delivered.0 ++ all.0) ≡ x.accepted = sym (append_assoc (y.handed_out ++ y.view.receive_queue) l.delivered.0 all.0) ∙ ap (λ xs. xs ++ all.0) l.delivered.1 ∙ all.1 ∙ l.accepted in
    record {
      is_prefix = (l.delivered.0 ++ all.0, whole);
      released = counts.0;
      taken = counts.1;
      complete = λ read.
          let k = l.finished read.counted in
          let c = l.sound.fin k.0 in
          let joined : y.handed_out ≡ f.joined = sym (append-nil y.handed_out) ∙ ap (λ xs. y.handed_out ++ xs) (sym read.empty) ∙ k.1 in
          let rest : all.0 ≡ [] = nil_from_length all.0 (omega (arith, c.1, length-append f.joined all.0, ap length all.1)) in
          (sym l.closed ∙ c.0, joined ∙ sym (append-nil f.joined) ∙ ap (λ xs. f.joined ++ xs) (sym rest) ∙ all.1 ∙ l.accepted);
    }

-- and of both
pub both_delivered : (w : Network) → IsInvariant w → AreDelivered w
both_delivered w i = record { outgoing = one_delivered w.local w.remote i.local_origin i.outgoing i.outgoing_holds; incoming = one_delivered w.remote w.local i.remote_origin i.incoming i.incoming_holds }

-- every network that a run reaches delivers both streams
pub always_delivers : (limit : Option ℕ) → IsLimit limit → AlwaysDelivers limit
always_delivers limit bound = record {
  at_the_end = λ way end r. both_delivered end (run_keeps way (start limit) end r (starts limit bound));
  on_the_way = λ way end r w c. both_delivered w (way_keeps way (start limit) end w r c (starts limit bound));
}

-- a read that answers Finished changes nothing and finds the stream complete
pub always_completes : (limit : Option ℕ) → IsLimit limit → AlwaysCompletes limit
always_completes limit bound = record {
  is_step = λ old new read. Finishes read.finished read.same;
  local_read = λ way old new r read. subst (λ (z : Network). (z.remote.closed ≡ true) × (z.local.handed_out ≡ z.remote.accepted)) (sym read.same) ((both_delivered old (run_keeps way (start limit) old r (starts limit bound))).incoming.complete read.finished);
  remote_read = λ way old new r read. subst (λ (z : Network). (z.remote.closed ≡ true) × (z.local.handed_out ≡ z.remote.accepted)) (sym read.same) ((both_delivered old (run_keeps way (start limit) old r (starts limit bound))).outgoing.complete read.finished);
}

-- a side's stream ends with its close, whichever side takes a step
pub local_ends : (w v : Network) → EitherSteps w v → IsInvariant w → w.local.closed ≡ true → StreamEnded w.local v.local
local_ends w v (inl step) i c = closed_stays w v step i c
local_ends w v (inr step) i c = let e = (step_adds (swapped w) (swapped v) step).remote in record { closed = ap (λ (z : Endpoint). z.closed) e ∙ c; accepted = ap (λ (z : Endpoint). z.accepted) e }

-- a step of either side is one as the other side sees it
pub other : (w v : Network) → EitherSteps w v → EitherSteps (swapped w) (swapped v)
other w v (inl step) = inr step
other w v (inr step) = inl step

-- a closed stream has ended
pub always_ends : (limit : Option ℕ) → IsLimit limit → AlwaysEnds limit
always_ends limit bound = record {
  local = λ way old new r step c. local_ends old new step (run_keeps way (start limit) old r (starts limit bound)) c;
  remote = λ way old new r step c. local_ends (swapped old) (swapped new) (other old new step) (swapped_keeps old (run_keeps way (start limit) old r (starts limit bound))) c;
}
