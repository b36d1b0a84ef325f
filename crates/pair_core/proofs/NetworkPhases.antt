-- What the phases say of one another.
use Rattle.std.proofs.Common.{◌≡◌, ◌⊎◌, refl, subst, inl, inr}
use Rattle.pair_core.specs.StreamViews.{FinQueued, Dead, HasIss, HasNoIss, IsNonSynchronized, IsSynchronized, KnowsPeer, Listening, Phase, Open, Silent, SynReceived, SynSent, Unopened}

-- a side is CLOSED for good, or what follows from its being alive holds
pub dec_dead : {A : Type 0} (p : Phase) → ((p ≡ Dead → ⊥) → A) → (p ≡ Dead) ⊎ A
dec_dead Unopened k = inr (k (λ e. cc))
dec_dead Listening k = inr (k (λ e. cc))
dec_dead SynSent k = inr (k (λ e. cc))
dec_dead SynReceived k = inr (k (λ e. cc))
dec_dead Open k = inr (k (λ e. cc))
dec_dead FinQueued k = inr (k (λ e. cc))
dec_dead Silent k = inr (k (λ e. cc))
dec_dead Dead k = inl refl

-- a side without an initial number has none
pub no_iss_not_iss : (p : Phase) → HasNoIss p → HasIss p → ⊥
no_iss_not_iss Unopened u d = d
no_iss_not_iss Listening u d = d
no_iss_not_iss _ u d = u

-- nor does it send bytes
pub no_iss_not_sending : (p : Phase) → HasNoIss p → p ≡ Open → ⊥
no_iss_not_sending p u e = subst HasNoIss e u

-- a side that knows its peer's number has its own
pub knows_iss : (p : Phase) → KnowsPeer p → HasIss p
knows_iss SynSent m = absurd m
knows_iss _ m = m

-- a synchronized side knows its peer's number
pub synchronized_knows : (p : Phase) → IsSynchronized p → KnowsPeer p
synchronized_knows SynReceived m = absurd m
synchronized_knows _ m = m

-- a synchronized side is not non-synchronized
pub synchronized_not_early : (p : Phase) → IsSynchronized p → IsNonSynchronized p → ⊥
synchronized_not_early Open m u = u
synchronized_not_early FinQueued m u = u
synchronized_not_early Silent m u = u
synchronized_not_early Dead m u = u
synchronized_not_early _ m u = m

-- and has an initial number
pub synchronized_not_no_iss : (p : Phase) → IsSynchronized p → HasNoIss p → ⊥
synchronized_not_no_iss p m u = no_iss_not_iss p u (knows_iss p (synchronized_knows p m))

-- what is left is SYN-SENT
pub only_syn_sent : (p : Phase) → (KnowsPeer p → ⊥) → (HasNoIss p → ⊥) → (p ≡ Dead → ⊥) → p ≡ SynSent
only_syn_sent Unopened m u d = absurd (u tt)
only_syn_sent Listening m u d = absurd (u tt)
only_syn_sent SynSent m u d = refl
only_syn_sent SynReceived m u d = absurd (m tt)
only_syn_sent Open m u d = absurd (m tt)
only_syn_sent FinQueued m u d = absurd (m tt)
only_syn_sent Silent m u d = absurd (m tt)
only_syn_sent Dead m u d = absurd (d refl)
