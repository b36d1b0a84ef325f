use Rattle.std.proofs.Common.{◌≡◌, ◌∙◌, ◌++◌, ◌⊎◌, List, sym, ap, subst, map, length, rules, Some, None, Option, true, false, inl, inr, refl, append-nil}
use Rattle.std.specs.Prelude.{option_map}
use Rattle.ip_wire.specs.declared.repr.IpRepr.{IpRepr}
use Rattle.control_wire.specs.Segment.{Segment}
use Rattle.control_wire.specs.declared.tcp.TcpControl.TheVariants as control
use Rattle.sock_tcp.specs.Process.{Accepts, reply_of}
use Rattle.sock_tcp.specs.Replies.{Answers, IsReplyStamp, echoed}
use Rattle.pair_core.specs.declared.outcome.Outcome.TheVariants as outcome
use Rattle.pair_core.specs.declared.segment.Segment.{Segment as Owned}
use Rattle.pair_core.specs.Holding.{stored_of, kept_at}
use Rattle.pair_core.specs.PairSteps.{delivered_to, refusal_of, reply_index, reply_out}
use Rattle.pair_core.specs.PairViews.{HostView}
use Rattle.pair_core.proofs.Deliveries.{get_map, read_twice, delivers, refused_by, refuses, takes_room}
use Rattle.pair_core.proofs.wire.deliver.Goals.{else-not-accepted-via-then-not-accepted+else-eq, else-not-accepted-via-else-not-accepted}
use Rattle.pair_core.proofs.wire.deliver.Goals as goal

-- an RST that is refused
pub returns-then-eq-clause-step : goal.returns-then-eq-clause-step
returns-then-eq-clause-step g c =
    let items = c.args.segments.now.items in
    let t = stored_of c.index-segment.result.now in
    let h = c.args.host.now in
    let is : t.segment.control ≡ control.Rst = search rules in
    let none : refusal_of t ≡ None = refused_by control.Rst t is in
    refuses g.G.TsvalSource.tells (map stored_of items) c.args.index t (get_map stored_of items c.args.index c.index-segment.result.now c.requires.there ∙ ap (λ x. Some (stored_of x)) (sym c.index-segment.ensures))
    c.args.emitter.released c.args.emitter.taken c.args.side c.args.moment.now h (outcome.NotAccepted None) h (map stored_of items)
    (sym c.too_old.ensures ∙ c.if-too_old.false)
    (λ a. let no : false ≡ true = sym c.if-not-accepted.true ∙ c.accepts-accepted.ensures.1 a in cc)
    refl
    (ap (λ r. outcome.NotAccepted (reply_index (length (map stored_of items)) r)) (sym none))
    (sym (append-nil (map stored_of items)) ∙ ap (λ r. map stored_of items ++ kept_at c.args.side r h.released h.taken) (sym none))

pub returns-in-Err-clause-takes_memory : goal.returns-in-Err-clause-takes_memory
returns-in-Err-clause-takes_memory g c =
    let items = c.args.segments.now.items in
    let t = stored_of c.index-segment.result.now in
    let h = c.args.host.now in
    let room : Accepts h.control_block t.ip t.segment ⊎ (t.segment.control ≡ control.Rst → ⊥) = elim c.else-not-accepted.branch [
      | else-not-accepted-via-then-not-accepted+else-eq w ↦ inr (λ e. let no : true ≡ false = search rules in cc)
      | else-not-accepted-via-else-not-accepted w ↦ inl (c.accepts-accepted.ensures.0 (search rules))
    ] in
    takes_room g.G.TsvalSource.tells (map stored_of items) c.args.index t (get_map stored_of items c.args.index c.index-segment.result.now c.requires.there ∙ ap (λ x. Some (stored_of x)) (sym c.index-segment.ensures))
    c.args.emitter.released c.args.emitter.taken c.args.side c.args.moment.now h
    (sym c.too_old.ensures ∙ c.if-too_old.false) room

pub returns-then-accepted-clause-step : goal.returns-then-accepted-clause-step
returns-then-accepted-clause-step g c =
    let items = c.args.segments.now.items in
    let first = c.index-segment.result.now in
    let h = c.args.host.now in
    let m = c.args.moment.now in
    let r : Option (IpRepr × Segment) = option_map reply_of c.deliver-reply.result in
    let same : c.index.result.now ≡ first = read_twice items c.reserve.new.self.items c.args.index first c.index.result.now c.requires.there c.reserve.ensures.items c.index-segment.ensures c.index.ensures in
    delivers g.G.TsvalSource.tells (map stored_of items) c.args.index (stored_of first) (get_map stored_of items c.args.index first c.requires.there ∙ ap (λ x. Some (stored_of x)) (sym c.index-segment.ensures))
    c.args.emitter.released c.args.emitter.taken c.args.side m h (outcome.Delivered c.store_reply.result) c.deliver-reply.new.self (map stored_of c.store_reply.new.segments.items) r
    (sym c.too_old.ensures ∙ c.if-too_old.false)
    (c.accepts-accepted.ensures.0 c.if-accepted.true)
    (c.deliver-reply.ensures.view ∙ ap (λ (x : Owned). delivered_to h m (stored_of x)) same)
    (subst (λ (x : Owned). Answers (IsReplyStamp g.G.TsvalSource.tells (delivered_to h m (stored_of x)).source (echoed (delivered_to h m (stored_of x)).control_block (stored_of x).segment.timestamp)) (stored_of x).ip (reply_out h m (stored_of x)) r) same (subst (λ (k : HostView _). Answers (IsReplyStamp g.G.TsvalSource.tells k.source (echoed k.control_block (stored_of c.index.result.now).segment.timestamp)) (stored_of c.index.result.now).ip (reply_out h m (stored_of c.index.result.now)) r) c.deliver-reply.ensures.view c.deliver-reply.ensures.reply))
    (ap outcome.Delivered c.store_reply.ensures.answer ∙ ap (λ (xs : List Owned). outcome.Delivered (reply_index (length (map stored_of xs)) r)) c.reserve.ensures.items)
    (c.store_reply.ensures.stored ∙ ap (λ (xs : List Owned). map stored_of xs ++ kept_at c.args.side r c.counts.result.released c.counts.result.taken) c.reserve.ensures.items
    ∙ ap (λ n. map stored_of items ++ kept_at c.args.side r n c.counts.result.taken) c.counts.ensures.released ∙ ap (λ n. map stored_of items ++ kept_at c.args.side r c.deliver-reply.new.self.released n) c.counts.ensures.taken)

pub returns-else-accepted-clause-step : goal.returns-else-accepted-clause-step
returns-else-accepted-clause-step g c =
    let items = c.args.segments.now.items in
    let first = c.index-segment.result.now in
    let t = stored_of first in
    let h = c.args.host.now in
    let r : Option (IpRepr × Segment) = option_map reply_of c.refusal-reply.result in
    let same : c.index-else-accepted.result.now ≡ first = read_twice items c.reserve.new.self.items c.args.index first c.index-else-accepted.result.now c.requires.there c.reserve.ensures.items c.index-segment.ensures c.index-else-accepted.ensures in
    let is : r ≡ refusal_of t = c.refusal-reply.ensures.reply ∙ ap (λ (x : Owned). refusal_of (stored_of x)) same in
    refuses g.G.TsvalSource.tells (map stored_of items) c.args.index t (get_map stored_of items c.args.index first c.requires.there ∙ ap (λ x. Some (stored_of x)) (sym c.index-segment.ensures))
    c.args.emitter.released c.args.emitter.taken c.args.side c.args.moment.now h (outcome.NotAccepted c.store_reply-else-accepted.result) h (map stored_of c.store_reply-else-accepted.new.segments.items)
    (sym c.too_old.ensures ∙ c.if-too_old.false)
    (λ a. let no : false ≡ true = sym c.if-accepted.false ∙ c.accepts-accepted.ensures.1 a in cc)
    refl
    (ap outcome.NotAccepted c.store_reply-else-accepted.ensures.answer ∙ ap (λ (xs : List Owned). outcome.NotAccepted (reply_index (length (map stored_of xs)) r)) c.reserve.ensures.items ∙ ap (λ x. outcome.NotAccepted (reply_index (length (map stored_of items)) x)) is)
    (c.store_reply-else-accepted.ensures.stored ∙ ap (λ (xs : List Owned). map stored_of xs ++ kept_at c.args.side r c.counts-else-accepted.result.released c.counts-else-accepted.result.taken) c.reserve.ensures.items
    ∙ ap (λ n. map stored_of items ++ kept_at c.args.side r n c.counts-else-accepted.result.taken) c.counts-else-accepted.ensures.released ∙ ap (λ n. map stored_of items ++ kept_at c.args.side r h.released n) c.counts-else-accepted.ensures.taken
    ∙ ap (λ x. map stored_of items ++ kept_at c.args.side x h.released h.taken) is)
