-- What a dispatch leaves alone: where the socket listens, unless it is CLOSED then, and its peer.
use Rattle.std.proofs.Common.{Bool, refl, sym, subst, ◌∙◌, Option, Some, None, inl, inr, ℕ}
use Rattle.std.specs.Prelude.{not, if◌then◌else◌}
use Rattle.net_base.specs.declared.time.Instant.{Instant}
use Rattle.sock_core.specs.Facts.{Facts}
use Rattle.sock_tcp.specs.Begin.{retransmission_begun, fast_retransmission_marked, before_emit, peer_of}
use Rattle.sock_tcp.specs.Content.{content}
use Rattle.sock_tcp.specs.Due.{is_closed}
use Rattle.sock_tcp.specs.Opening.{renewed}
use Rattle.sock_tcp.specs.Rfc.TailLoss.{probed_by, tail_probed}
use Rattle.sock_tcp.specs.Sent.{after_any, after_probe, snd_nxt_moved}
use Rattle.sock_tcp.specs.View.{View, moment_of, fresh}
use Rattle.sock_tcp.specs.declared.state.State.{State}
use Rattle.sock_tcp.specs.declared.state.State.TheVariants as state
use Rattle.sock_tcp.specs.declared.tuple.Tuple.{Tuple}
use Rattle.tcp_laws.specs.Laws.{IsPeered}
use Rattle.pair_core.specs.Captures.{SendsFrom, SocketDispatches}
use Rattle.pair_core.specs.declared.capture.Sent.{Sent}
use Rattle.tcp_laws.proofs.Kept.{KeptByBeginnings, KeptBySending, before_kept, left_kept}
use Rattle.pair_core.proofs.PairListeners.{KeepsListener}

pub record Keeps (v w : View) : Type 0 where
  pub listener : KeepsListener v w
  pub peer : (t : Tuple) → IsPeered v.state v.tuple t → IsPeered w.state w.tuple t

-- a peer that is known is known in CLOSED, or forgotten
pub closed_peer : (st : State) (o : Option Tuple) (t : Tuple) → IsPeered st o t → IsPeered state.Closed o t
closed_peer state.Closed o t p = p
closed_peer state.Listen o t p = inl p
closed_peer _ o t p = inr p

same : (v : View) → Keeps v v
same v = record { listener = λ n. (n, refl); peer = λ t p. p }

in_turn : (u v w : View) → Keeps u v → Keeps v w → Keeps u w
in_turn u v w a b = record { listener = λ live. let x = b.listener live in let y = a.listener x.0 in (y.0, x.1 ∙ y.1); peer = λ t p. b.peer t (a.peer t p) }

-- ---- the beginning

reset_keeps : (v : View) → Keeps v (renewed v)
unfolding renewed fresh
reset_keeps v = record { listener = λ n. absurd (n refl); peer = λ t p. inl refl }

beginnings_keep : (v : View) (now : Instant) → KeptByBeginnings (Keeps v) now
unfolding retransmission_begun fast_retransmission_marked tail_probed probed_by
beginnings_keep v now = record {
  remembers = λ w k. record { listener = k.listener; peer = k.peer };
  tells = λ w k. record { listener = k.listener; peer = k.peer };
  times_out = λ w k. in_turn v w _ k (record { listener = λ n. absurd (n refl); peer = λ t p. closed_peer w.state w.tuple t p });
  forgets = λ w k. in_turn v w _ k (record { listener = λ n. absurd (n refl); peer = λ t p. inl refl });
  begins_again = λ w at e k. record { listener = k.listener; peer = k.peer };
  marks = λ w e k. record { listener = k.listener; peer = k.peer };
  goes_back = λ w at delay e k. record { listener = k.listener; peer = k.peer };
  probes_tail = λ w at e k. record { listener = k.listener; peer = k.peer };
}

pub before_emit_keeps : (v : View) (f : Facts) → Keeps v (before_emit v f).view
before_emit_keeps v f = before_kept (Keeps v) f (beginnings_keep v (moment_of f)) (λ w k. in_turn v w (renewed w) k (reset_keeps w)) v (same v)

-- ---- the emit

forgotten : (st : State) (o : Option Tuple) (t : Tuple) → IsPeered st o t → IsPeered st (if is_closed st then None else o) t
forgotten state.Closed o t p = inl refl
forgotten _ o t p = p

sending_keeps : (v : View) (now : Instant) → KeptBySending (Keeps v) now
unfolding after_any snd_nxt_moved after_probe
sending_keeps v now = record {
  renews = λ w k. record { listener = k.listener; peer = k.peer };
  moves = λ w e k. record { listener = k.listener; peer = λ t p. forgotten w.state w.tuple t (k.peer t p) };
  times = λ w e k. record { listener = k.listener; peer = k.peer };
  probes = λ w k. record { listener = k.listener; peer = k.peer };
  arms = λ w at e k. record { listener = k.listener; peer = k.peer };
}

-- ---- the whole

pub keeps_in_dispatch : {G : Type 0} (tells : G → ℕ → Type 0) (source : Option G) (v w : View) (f : Facts) (fail : Bool) (r : Sent) → SocketDispatches tells source v f fail r w → Keeps v w
unfolding SocketDispatches
keeps_in_dispatch tells source v w f fail r d = in_turn v (before_emit v f).view w (before_emit_keeps v f) (from (peer_of (before_emit v f)) (before_emit v f).view d)
  where
    from : (peer : Option Tuple) (u : View) → SendsFrom tells source peer u f fail r w → Keeps u w
    from None u d = subst (Keeps u) (sym d.1) (same u)
    from (Some t) u d = subst (Keeps u) (sym d.view) (left_kept (Keeps u) (moment_of f) (sending_keeps u (moment_of f)) (content u t f d.stamp d.bytes) (not fail) u (same u))
