-- Reno over lists of calls, and its window after an acknowledgement.
use Rattle.std.proofs.Common.{◌≡◌, ℕ, ◌+◌, ◌<◌, ◌≤◌, Bool, true, false, cond, List, [], ◌∷◌, refl, sym, ap, subst, arith}
use Rattle.std.specs.Prelude.{◌==◌}
use Rattle.std.proofs.lemmas.Bool.Decides.{nat_tests}
use Rattle.net_base.specs.declared.time.Instant.{Instant}
use Rattle.sock_core.specs.Estimator.{Estimator}
use Rattle.sock_core.specs.Reno.{RenoNumbers}
use Rattle.sock_core.specs.declared.congestion.AnyController.{AnyController}
use Rattle.sock_core.specs.declared.congestion.AnyController.TheVariants as controller
use Rattle.sock_core.specs.Congestion.{bounded, growth, halved, reno_grows, reno_acked, reno_on_ack, reno_dup_acked, reno_lost, reno_timed_out, reno_with_mss, reno_with_remote_window, cubic_acked, acked, Call, SetRemoteWindow, OnAck, OnDupAck, OnRto, OnLoss, SetMss, after_calls, AcksNothing, KeepsThreshold}

pub nothing_acked : (c : AnyController) (now : Instant) (flight : ℕ) (rtte : Estimator) → acked c now 0 flight rtte ≡ c
unfolding acked reno_on_ack reno_acked cubic_acked
nothing_acked (controller.None n) now flight rtte = refl
nothing_acked (controller.Reno r) now flight rtte = refl
nothing_acked (controller.Cubic c) now flight rtte = refl

-- a call that acknowledges nothing new ends no time of timeouts
dup_ack_stays : (r : RenoNumbers) (n : ℕ) → (reno_dup_acked r n).in_timeout ≡ r.in_timeout
unfolding reno_dup_acked
dup_ack_stays r n = go r.in_recovery
  where
    go : (b : Bool) → (cond b (record r { cwnd = bounded r (r.cwnd + n) }) r).in_timeout ≡ r.in_timeout
    go true = refl
    go false = refl

timed_out_is : (r : RenoNumbers) (n : ℕ) → (reno_timed_out r n).in_timeout ≡ true
unfolding reno_timed_out
timed_out_is r n = refl

loss_stays : (r : RenoNumbers) (n : ℕ) → (reno_lost r n).in_timeout ≡ r.in_timeout
unfolding reno_lost
loss_stays r n = go r.in_recovery _
  where
    go : (b : Bool) (w : ℕ) → (cond b r (record r { ssthresh = halved r n; cwnd = w; in_recovery = true })).in_timeout ≡ r.in_timeout
    go true w = refl
    go false w = refl

stays_in_timeout : (calls : List Call) (r : RenoNumbers) → AcksNothing calls → r.in_timeout ≡ true → (after_calls calls r).in_timeout ≡ true
unfolding reno_acked
stays_in_timeout [] r h e = e
stays_in_timeout (SetRemoteWindow n ∷ cs) r h e = stays_in_timeout cs (reno_with_remote_window r n) h e
stays_in_timeout (OnAck n ∷ cs) r h e = subst (λ m. (after_calls cs (reno_acked r m)).in_timeout ≡ true) (sym h.0) (stays_in_timeout cs r h.1 e)
stays_in_timeout (OnDupAck n ∷ cs) r h e = let k : (reno_dup_acked r n).in_timeout ≡ true = rw (dup_ack_stays r n) e in stays_in_timeout cs (reno_dup_acked r n) h k
stays_in_timeout (OnRto n ∷ cs) r h e = stays_in_timeout cs (reno_timed_out r n) h (timed_out_is r n)
stays_in_timeout (OnLoss n ∷ cs) r h e = let k : (reno_lost r n).in_timeout ≡ true = rw (loss_stays r n) e in stays_in_timeout cs (reno_lost r n) h k
stays_in_timeout (SetMss n ∷ cs) r h e = stays_in_timeout cs (reno_with_mss r n) h e

timeout_keeps : (r : RenoNumbers) (n : ℕ) → r.in_timeout ≡ true → (reno_timed_out r n).ssthresh ≡ r.ssthresh
unfolding reno_timed_out
timeout_keeps r n e = ap (λ b. cond b r.ssthresh (halved r n)) e

pub keeps_threshold : (r : RenoNumbers) (f l : ℕ) (calls : List Call) → AcksNothing calls → KeepsThreshold r f calls l
keeps_threshold r f l calls h =
    timeout_keeps (after_calls calls (reno_timed_out r f)) l (stays_in_timeout calls (reno_timed_out r f) h (timed_out_is r f))

pub holds_a_segment : (r : RenoNumbers) (n : ℕ) → 0 < n → r.mss ≤ r.ssthresh → r.mss ≤ (reno_acked r n).cwnd
unfolding reno_acked
holds_a_segment r n some low = new_data (n == 0) refl
  where
    gained : (b : Bool) → r.mss ≤ cond b r.ssthresh (bounded r (r.cwnd + growth r n))
    gained true = low
    gained false = omega arith

    new_data : (b : Bool) → (n == 0) ≡ b → r.mss ≤ (cond b r (reno_grows r (growth r n))).cwnd
    new_data true e = absurd (grind (arith, nat_tests, e, some))
    new_data false e = gained r.in_recovery
