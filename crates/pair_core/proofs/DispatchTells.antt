-- What a dispatch leaves of what the socket has and was told, unless it is CLOSED then, and that it tells nothing.
use Rattle.std.proofs.Common.{◌≡◌, ◌⊎◌, ◌++◌, ℕ, List, [], ◌∷◌, Bool, true, false, not, refl, sym, ap, subst, ◌∙◌, Option, Some, None, inl, inr}
use Rattle.net_base.specs.declared.time.Instant.{Instant}
use Rattle.sock_core.specs.Facts.{Facts}
use Rattle.sock_core.specs.Received.{Received}
use Rattle.sock_tcp.specs.Begin.{retransmission_begun, fast_retransmission_marked, before_emit, peer_of}
use Rattle.sock_tcp.specs.Content.{Sending, content}
use Rattle.sock_tcp.specs.Opening.{renewed}
use Rattle.sock_tcp.specs.Rfc.Numbers.{outgoing}
use Rattle.sock_tcp.specs.Rfc.Scoreboard.{nothing_told}
use Rattle.sock_tcp.specs.Rfc.TailLoss.{probed_by, tail_probed}
use Rattle.sock_tcp.specs.Sent.{after_any, after_probe, snd_nxt_moved}
use Rattle.sock_tcp.specs.View.{View, moment_of, fresh}
use Rattle.sock_tcp.specs.declared.scoreboard.Scoreboard.{Scoreboard}
use Rattle.sock_tcp.specs.declared.state.State.TheVariants as state
use Rattle.sock_tcp.specs.declared.tuple.Tuple.{Tuple}
use Rattle.tcp_laws.proofs.Kept.{KeptByBeginnings, KeptBySending, before_kept, left_kept}
use Rattle.tcp_laws.proofs.Telling.{content_says, held_told, sending_holds}
use Rattle.tcp_laws.specs.Telling.{AllHeld}
use Rattle.pair_core.specs.Captures.{Records, SendsFrom, SocketDispatches}
use Rattle.pair_core.specs.Holding.{segment_at}
use Rattle.pair_core.specs.Moments.{facts_of}
use Rattle.pair_core.specs.PairSteps.{Dispatches, stored_at}
use Rattle.pair_core.specs.PairViews.{HostView, StoredView}
use Rattle.pair_core.specs.declared.moment.Moment.{Moment}
use Rattle.pair_core.specs.declared.outcome.Outcome.{Outcome}
use Rattle.pair_core.specs.declared.side.Side.{Side}
use Rattle.pair_core.specs.declared.capture.Sent.{Sent}
use Rattle.pair_core.specs.declared.capture.Sent.TheVariants as sent
use Rattle.pair_core.specs.declared.segment.Header.{Header}

-- ---- what stays

pub record Same (v w : View) : Type 0 where
  pub rx : w.rx_buffer ≡ v.rx_buffer
  pub seq : w.remote_seq_no ≡ v.remote_seq_no
  pub fin : w.rx_fin_received ≡ v.rx_fin_received
  pub state : w.state ≡ v.state
  pub sacked : (w.sacked ≡ v.sacked) ⊎ (w.sacked ≡ nothing_told)
  pub rules : w.rules ≡ v.rules

same : (v : View) → Same v v
same v = record { rx = refl; seq = refl; fin = refl; state = refl; sacked = inl refl; rules = refl }

abbrev pub Stays : View → View → Type 0
Stays v w = Same v w ⊎ (w.state ≡ state.Closed)

told_then : (a b c : Scoreboard) → (b ≡ a) ⊎ (b ≡ nothing_told) → (c ≡ b) ⊎ (c ≡ nothing_told) → (c ≡ a) ⊎ (c ≡ nothing_told)
told_then a b c (inl h) (inl k) = inl (k ∙ h)
told_then a b c (inr h) (inl k) = inr (k ∙ h)
told_then a b c h (inr k) = inr k

via : (v w x : View) → Same w x → Stays v w → Stays v x
via v w x s (inl k) = inl (record { rx = s.rx ∙ k.rx; seq = s.seq ∙ k.seq; fin = s.fin ∙ k.fin; state = s.state ∙ k.state; sacked = told_then v.sacked w.sacked x.sacked k.sacked s.sacked; rules = s.rules ∙ k.rules })
via v w x s (inr e) = inr (s.state ∙ e)

then : (u v w : View) → Stays u v → Stays v w → Stays u w
then u v w a (inl k) = via u v w k a
then u v w a (inr e) = inr e

-- ---- a dispatch

resets : (v w : View) → Stays v w → Stays v (renewed w)
unfolding renewed fresh
resets v w k = inr refl

beginnings : (v : View) (now : Instant) → KeptByBeginnings (Stays v) now
unfolding retransmission_begun fast_retransmission_marked tail_probed probed_by
beginnings v now = record {
  remembers = λ w k. via v w _ (record { rx = refl; seq = refl; fin = refl; state = refl; sacked = inl refl; rules = refl }) k;
  tells = λ w k. via v w _ (record { rx = refl; seq = refl; fin = refl; state = refl; sacked = inl refl; rules = refl }) k;
  times_out = λ w k. inr refl;
  forgets = λ w k. inr refl;
  begins_again = λ w at e k. via v w (retransmission_begun w now) (record { rx = refl; seq = refl; fin = refl; state = refl; sacked = inr refl; rules = refl }) k;
  marks = λ w e k. via v w (fast_retransmission_marked w now) (record { rx = refl; seq = refl; fin = refl; state = refl; sacked = inl refl; rules = refl }) k;
  goes_back = λ w at delay e k. via v w _ (record { rx = refl; seq = refl; fin = refl; state = refl; sacked = inl refl; rules = refl }) k;
  probes_tail = λ w at e k. via v w (tail_probed w now) (record { rx = refl; seq = refl; fin = refl; state = refl; sacked = inl refl; rules = refl }) k;
}

sendings : (v : View) (now : Instant) → KeptBySending (Stays v) now
unfolding after_any snd_nxt_moved after_probe
sendings v now = record {
  renews = λ w k. via v w (after_any w now) (record { rx = refl; seq = refl; fin = refl; state = refl; sacked = inl refl; rules = refl }) k;
  moves = λ w e k. via v w (snd_nxt_moved w e) (record { rx = refl; seq = refl; fin = refl; state = refl; sacked = inl refl; rules = refl }) k;
  times = λ w e k. via v w _ (record { rx = refl; seq = refl; fin = refl; state = refl; sacked = inl refl; rules = refl }) k;
  probes = λ w k. via v w (after_probe w now) (record { rx = refl; seq = refl; fin = refl; state = refl; sacked = inl refl; rules = refl }) k;
  arms = λ w at e k. via v w _ (record { rx = refl; seq = refl; fin = refl; state = refl; sacked = inl refl; rules = refl }) k;
}

dispatch_stays : {G : Type 0} (tells : G → ℕ → Type 0) (source : Option G) (v w : View) (f : Facts) (fail : Bool) (r : Sent) → SocketDispatches tells source v f fail r w → Stays v w
unfolding SocketDispatches
dispatch_stays tells source v w f fail r d = then v (before_emit v f).view w (before_kept (Stays v) f (beginnings v (moment_of f)) (resets v) v (inl (same v))) (from (peer_of (before_emit v f)) (before_emit v f).view d)
  where
    from : (peer : Option Tuple) (u : View) → SendsFrom tells source peer u f fail r w → Stays u w
    from None u d = subst (Stays u) (sym d.1) (inl (same u))
    from (Some t) u d = subst (Stays u) (sym d.view) (left_kept (Stays u) (moment_of f) (sendings u (moment_of f)) (content u t f d.stamp d.bytes) (not fail) u (inl (same u)))

-- ---- what is recorded of it tells what the socket holds then

abbrev SentHeld : View → Sent → Type 0
SentHeld w (sent.Emitted h p) = AllHeld w (segment_at h p.items).sack_ranges
SentHeld w _ = Unit {0}

recorded : (v w : View) (fail : Bool) (o : Option Sending) (r : Sent) → ((c : Sending) → Some c ≡ o → AllHeld w c.segment.sack_ranges) → Records fail (outgoing v o) r → SentHeld w r
recorded v w fail None r says h = subst (SentHeld w) (sym h) tt
recorded v w true (Some c) r says h = subst (SentHeld w) (sym h) tt
recorded v w false (Some c) sent.Quiet says h = tt
recorded v w false (Some c) sent.Failed says h = tt
recorded v w false (Some c) (sent.Emitted x p) says h = subst (AllHeld w) (sym (ap (λ s. s.sack_ranges) h.0.fields)) (says c refl)

dispatch_says : {G : Type 0} (tells : G → ℕ → Type 0) (source : Option G) (v w : View) (f : Facts) (fail : Bool) (r : Sent) → SocketDispatches tells source v f fail r w → SentHeld w r
unfolding SocketDispatches
dispatch_says tells source v w f fail r d = from (peer_of (before_emit v f)) (before_emit v f).view d
  where
    from : (peer : Option Tuple) (u : View) → SendsFrom tells source peer u f fail r w → SentHeld w r
    from None u d = subst (SentHeld w) (sym d.0) tt
    from (Some t) u d = recorded u w fail (content u t f d.stamp d.bytes) r (λ c e. subst (λ x. AllHeld x c.segment.sack_ranges) (sym d.view) (left_kept (λ x. AllHeld x c.segment.sack_ranges) (moment_of f) (sending_holds c.segment.sack_ranges (moment_of f)) (content u t f d.stamp d.bytes) (not fail) u (content_says (AllHeld u) u t f (held_told u t f) d.bytes d.stamp c e))) d.records

-- ---- the event

-- segments of the side s, so much of whose stream was taken then, that tell what its socket holds
abbrev pub TellHeld : Side → ℕ → View → List StoredView → Type 0
TellHeld s taken w [] = Unit {0}
TellHeld s taken w (t ∷ ts) = (t.emitter ≡ s) × (t.taken_at ≡ taken) × AllHeld w t.segment.sack_ranges × TellHeld s taken w ts

pub record DispatchTells {G : Type 0} (h k : HostView G) : Type 0 where
  pub stays : Stays h.control_block k.control_block
  pub host : k ≡ record h { control_block = k.control_block }

stored_held : (s : Side) (w : View) (r : Sent) (released taken : ℕ) → SentHeld w r → TellHeld s taken w (stored_at s r released taken)
stored_held s w sent.Quiet released taken h = tt
stored_held s w sent.Failed released taken h = tt
stored_held s w (sent.Emitted x p) released taken h = (refl, refl, h, tt)

pub dispatch_tells : {G : Type 0} (tells : G → ℕ → Type 0) (s : Side) (m : Moment) (fail : Bool) (o : Outcome) (h k : HostView G) (ks ms : List StoredView) → Dispatches tells s m fail o h ks k ms → DispatchTells h k
dispatch_tells tells s m fail o h k ks ms d = record {
  stays = dispatch_stays tells h.source h.control_block k.control_block (facts_of m) fail d.sent d.does.socket;
  host = d.does.same;
}

-- what it stores tells what the socket holds then
pub dispatch_held : {G : Type 0} (tells : G → ℕ → Type 0) (s : Side) (m : Moment) (fail : Bool) (o : Outcome) (h k : HostView G) (ks ms : List StoredView) (d : Dispatches tells s m fail o h ks k ms) → TellHeld s h.taken k.control_block (stored_at s d.sent h.released h.taken)
dispatch_held tells s m fail o h k ks ms d = stored_held s k.control_block d.sent h.released h.taken (dispatch_says tells h.source h.control_block k.control_block (facts_of m) fail d.sent d.does.socket)
