-- After each wire the segments still go from the one side to the other.
use Rattle.std.proofs.Common.{◌≡◌, Bool, true, false, List, Option, Some, None, refl, sym, subst}
use Rattle.std.specs.Prelude.{ℕ, slice_get}
use Rattle.control_wire.specs.declared.tcp.TcpControl.{TcpControl}
use Rattle.control_wire.specs.declared.tcp.TcpControl.TheVariants as control
use Rattle.control_wire.specs.Segment.{Segment}
use Rattle.sock_tcp.specs.View.{View}
use Rattle.sock_tcp.specs.Rfc.Numbers.{reply_numbered}
use Rattle.sock_tcp.specs.Replies.{IsReplyStamp, echoed, rst_segment}
use Rattle.tcp_laws.proofs.Frames.{GoesBack, process_back}
use Rattle.pair_core.specs.Holding.{kept_at}
use Rattle.pair_core.specs.Moments.{facts_of}
use Rattle.pair_core.specs.PairAddresses.{AllGo, GoesFrom, endpoint_at}
use Rattle.pair_core.specs.PairInvariant.{IsPair}
use Rattle.pair_core.specs.PairSteps.{DeliversIf, DeliversTo, Dispatches, delivered_to, processed_by, refusal_reply, stored_at, reply_out}
use Rattle.pair_core.specs.PairViews.{HostView, PairView, StoredView, host_of}
use Rattle.pair_core.specs.Sides.{other_side}
use Rattle.pair_core.specs.declared.moment.Moment.{Moment}
use Rattle.pair_core.specs.declared.outcome.Outcome.{Outcome}
use Rattle.pair_core.specs.declared.side.Side.{Side}
use Rattle.pair_core.specs.declared.side.Side.TheVariants.{A, B}
use Rattle.pair_core.proofs.Addresses.{all_append, answer_goes, dispatch_goes, one_goes, reply_goes}
use Rattle.pair_core.proofs.PairHosts.{peer_at, version_at}

pub dispatch_all : {G : Type 0} (tells : G → ℕ → Type 0) (s : Side) (p : PairView G) (m : Moment) (fail : Bool) (o : Outcome) (k : HostView G) (ts : List StoredView) → IsPair p → Dispatches tells s m fail o (host_of s p) p.segments k ts → AllGo (endpoint_at p) ts
dispatch_all tells s p m fail o k ts i d =
    subst (AllGo (endpoint_at p)) (sym d.stored) (all_append (endpoint_at p) p.segments (stored_at s d.sent (host_of s p).released (host_of s p).taken) i.segments
    (dispatch_goes (endpoint_at p) s (host_of s p).released (host_of s p).taken tells (host_of s p).source (host_of s p).control_block k.control_block (facts_of m) fail d.sent (version_at s p i) (peer_at s p i) d.does.socket))

-- the RST that answers a refused segment
refusal_goes : {G : Type 0} (s : Side) (p : PairView G) (t : StoredView) (c : TcpControl) (released taken : ℕ) → IsPair p → GoesFrom t (endpoint_at p (other_side s)) (endpoint_at p s) → AllGo (endpoint_at p) (kept_at s (refusal_reply c t) released taken)
refusal_goes s p t control.Rst released taken i g = tt
refusal_goes s p t control.None released taken i g = (answer_goes s t (endpoint_at p s) (endpoint_at p (other_side s)) (rst_segment t.segment) None released taken (version_at s p i) g (refl, refl), tt)
refusal_goes s p t control.Psh released taken i g = (answer_goes s t (endpoint_at p s) (endpoint_at p (other_side s)) (rst_segment t.segment) None released taken (version_at s p i) g (refl, refl), tt)
refusal_goes s p t control.Syn released taken i g = (answer_goes s t (endpoint_at p s) (endpoint_at p (other_side s)) (rst_segment t.segment) None released taken (version_at s p i) g (refl, refl), tt)
refusal_goes s p t control.Fin released taken i g = (answer_goes s t (endpoint_at p s) (endpoint_at p (other_side s)) (rst_segment t.segment) None released taken (version_at s p i) g (refl, refl), tt)

-- whatever number the answer has
numbered_back : (w : View) (s : Segment) (r : Option Segment) → GoesBack s r → GoesBack s (reply_numbered w r)
numbered_back w s None h = h
numbered_back w s (Some x) h = h

pub deliver_all : {G : Type 0} (tells : G → ℕ → Type 0) (old : Bool) (s : Side) (p : PairView G) (m : Moment) (t : StoredView) (o : Outcome) (k : HostView G) (ts : List StoredView) → IsPair p → GoesFrom t (endpoint_at p (other_side s)) (endpoint_at p s) → DeliversTo tells old s m t o (host_of s p) p.segments k ts → AllGo (endpoint_at p) ts
deliver_all tells true s p m t o k ts i g d = subst (AllGo (endpoint_at p)) (sym d.1.1) i.segments
deliver_all {G} tells false s p m t o k ts i g d = go d.accepted d.does
  where
    h : HostView G
    h = host_of s p

    go : (b : Bool) → DeliversIf tells b s m t o h p.segments k ts → AllGo (endpoint_at p) ts
    go true x = subst (AllGo (endpoint_at p)) (sym x.stored) (all_append (endpoint_at p) p.segments _ i.segments
        (reply_goes (endpoint_at p) s t (version_at s p i) g (IsReplyStamp tells (delivered_to h m t).source (echoed (delivered_to h m t).control_block t.segment.timestamp)) (reply_out h m t) x.reply (delivered_to h m t).released (delivered_to h m t).taken (numbered_back (processed_by h m t).view t.segment (processed_by h m t).reply (process_back h.control_block (record { micros = m.now.micros }) m.word t.ip t.segment h.control_block.rules)) x.is_reply))
    go false x = subst (AllGo (endpoint_at p)) (sym x.stored) (all_append (endpoint_at p) p.segments _ i.segments (refusal_goes s p t t.segment.control h.released h.taken i g))

-- a segment of the other side goes to this one
pub goes_at : {G : Type 0} (s : Side) (p : PairView G) (n : ℕ) (t : StoredView) → IsPair p → slice_get p.segments n ≡ Some t → t.emitter ≡ other_side s → GoesFrom t (endpoint_at p (other_side s)) (endpoint_at p s)
goes_at s p n t i at e = go s e
  where
    goes : GoesFrom t (endpoint_at p t.emitter) (endpoint_at p (other_side t.emitter))
    goes = one_goes (endpoint_at p) p.segments n t i.segments at

    go : (x : Side) → t.emitter ≡ other_side x → GoesFrom t (endpoint_at p (other_side x)) (endpoint_at p x)
    go A e = subst (λ y. GoesFrom t (endpoint_at p y) (endpoint_at p (other_side y))) e goes
    go B e = subst (λ y. GoesFrom t (endpoint_at p y) (endpoint_at p (other_side y))) e goes
