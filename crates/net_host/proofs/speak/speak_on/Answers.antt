use Rattle.std.proofs.Common.{rules, ◌≡◌, ◌∙◌, ◌<◌, ◌+◌, Some, None, refl, sym, subst, arith}
use Rattle.std.specs.Prelude.{slice_get}
use Rattle.ip_wire.specs.contracts.address.IpAddressPartialEq.TheImpl.{eq-value}
use Rattle.sock_tcp.specs.View.{moment_of}
use Rattle.net_host.specs.Counts.{lost_by}
use Rattle.net_host.specs.Facts.{facts_by}
use Rattle.net_host.specs.Kinds.{is_tcp_at}
use Rattle.net_host.specs.Looking.{LooksNext}
use Rattle.net_host.specs.Speaking.{Quiet, Speaks, TurnAt}
use Rattle.net_host.specs.Telling.{TellsHere}
use Rattle.net_host.proofs.Measure.{left_turns, turn_decreases}
use Rattle.net_host.proofs.Steps.{not_zero, short, packet, quiets, readies, silent}
use Rattle.net_host.proofs.Telling.{tells_none, tells_then, tells_turn}
use Rattle.net_host.proofs.Walking.{looks_keep, next_due}
use Rattle.net_host.proofs.speak.speak_on.Goals as goal

pub returns-then-is_err-clause-table : goal.returns-then-is_err-clause-table
returns-then-is_err-clause-table g c =
    let f = facts_by eq-value.it c.args.cx.now.environment in
    let st = c.args.sockets.now.terms.guards in
    let l : LooksNext f st c.loop-i.turn c.loop-i.sockets.slots.items (Some c.in-Some.i) c.next_due.new.sockets.slots.items = subst (λ t. LooksNext f t.guards c.loop-i.turn c.loop-i.sockets.slots.items (Some c.in-Some.i) c.next_due.new.sockets.slots.items) c.loop-i.invariant.terms c.in-Some.ensures.looked in
    let table : TurnAt f g.G.TsvalSource.tells c.next_due.new.sockets.slots.items c.in-Some.i c.loop-i.out c.turn_at-answer.result.0 c.turn_at-answer.result.1 c.tell_if_over.new.sockets.slots.items c.turn_at-answer.new.out = subst (λ v. TurnAt f g.G.TsvalSource.tells c.next_due.new.sockets.slots.items c.in-Some.i c.loop-i.out c.turn_at-answer.result.0 c.turn_at-answer.result.1 v.items c.turn_at-answer.new.out) (sym c.tell_if_over.ensures.slots) c.turn_at-answer.ensures.table in
    c.loop-i.invariant.rest _ _ _ _ _ (short f g.G.TsvalSource.tells st c.loop-i.sockets.slots.items c.next_due.new.sockets.slots.items c.tell_if_over.new.sockets.slots.items c.loop-i.turn c.in-Some.i c.turn_at-answer.result.1 c.loop-i.counters c.loop-i.out c.turn_at-answer.new.out c.turn_at-answer.result.0 (readies f st c.loop-i.sockets.slots.items c.next_due.new.sockets.slots.items c.loop-i.turn c.in-Some.i l) table (sym c.is_err.ensures.value ∙ c.if-is_err.true))

pub returns-then-len-gt0-clause-table : goal.returns-then-len-gt0-clause-table
returns-then-len-gt0-clause-table g c =
    let f = facts_by eq-value.it c.args.cx.now.environment in
    let st = c.args.sockets.now.terms.guards in
    let l : LooksNext f st c.loop-i.turn c.loop-i.sockets.slots.items (Some c.in-Some.i) c.next_due.new.sockets.slots.items = subst (λ t. LooksNext f t.guards c.loop-i.turn c.loop-i.sockets.slots.items (Some c.in-Some.i) c.next_due.new.sockets.slots.items) c.loop-i.invariant.terms c.in-Some.ensures.looked in
    let table : TurnAt f g.G.TsvalSource.tells c.next_due.new.sockets.slots.items c.in-Some.i c.loop-i.out c.turn_at-answer.result.0 c.turn_at-answer.result.1 c.tell_if_over.new.sockets.slots.items c.turn_at-answer.new.out = subst (λ v. TurnAt f g.G.TsvalSource.tells c.next_due.new.sockets.slots.items c.in-Some.i c.loop-i.out c.turn_at-answer.result.0 c.turn_at-answer.result.1 v.items c.turn_at-answer.new.out) (sym c.tell_if_over.ensures.slots) c.turn_at-answer.ensures.table in
    c.loop-i.invariant.rest _ _ _ _ _ (packet f g.G.TsvalSource.tells st c.loop-i.sockets.slots.items c.next_due.new.sockets.slots.items c.tell_if_over.new.sockets.slots.items c.loop-i.turn c.in-Some.i c.turn_at-answer.result.1 c.loop-i.counters c.loop-i.out c.turn_at-answer.new.out c.turn_at-answer.result.0 (readies f st c.loop-i.sockets.slots.items c.next_due.new.sockets.slots.items c.loop-i.turn c.in-Some.i l) table (sym c.is_err.ensures.value ∙ c.if-is_err.false) c.if-len-gt0.true)

pub loop-i-smaller : goal.loop-i-smaller
loop-i-smaller g c =
    let f = facts_by eq-value.it c.args.cx.now.environment in
    let st = c.args.sockets.now.terms.guards in
    let l : LooksNext f st c.loop-i.turn c.loop-i.sockets.slots.items (Some c.in-Some.i) c.next_due.new.sockets.slots.items = subst (λ t. LooksNext f t.guards c.loop-i.turn c.loop-i.sockets.slots.items (Some c.in-Some.i) c.next_due.new.sockets.slots.items) c.loop-i.invariant.terms c.in-Some.ensures.looked in
    let table : TurnAt f g.G.TsvalSource.tells c.next_due.new.sockets.slots.items c.in-Some.i c.loop-i.out c.turn_at-answer.result.0 c.turn_at-answer.result.1 c.tell_if_over.new.sockets.slots.items c.turn_at-answer.new.out = subst (λ v. TurnAt f g.G.TsvalSource.tells c.next_due.new.sockets.slots.items c.in-Some.i c.loop-i.out c.turn_at-answer.result.0 c.turn_at-answer.result.1 v.items c.turn_at-answer.new.out) (sym c.tell_if_over.ensures.slots) c.turn_at-answer.ensures.table in
    let fewer : left_turns (moment_of f) c.tell_if_over.new.sockets.slots.items < left_turns (moment_of f) c.next_due.new.sockets.slots.items = turn_decreases f g.G.TsvalSource.tells c.next_due.new.sockets.slots.items c.tell_if_over.new.sockets.slots.items c.loop-i.turn c.in-Some.i c.loop-i.out c.turn_at-answer.new.out c.turn_at-answer.result.0 c.turn_at-answer.result.1 (next_due f st c.loop-i.turn c.in-Some.i c.loop-i.sockets.slots.items c.next_due.new.sockets.slots.items l) table in
    subst (λ n. left_turns (moment_of f) c.tell_if_over.new.sockets.slots.items < n) (looks_keep st (moment_of f) (moment_of f) c.loop-i.sockets.slots.items c.next_due.new.sockets.slots.items l.changed) fewer

pub loop-i-preserved : goal.loop-i-preserved
loop-i-preserved g c =
    let f = facts_by eq-value.it c.args.cx.now.environment in
    let st = c.args.sockets.now.terms.guards in
    let l : LooksNext f st c.loop-i.turn c.loop-i.sockets.slots.items (Some c.in-Some.i) c.next_due.new.sockets.slots.items = subst (λ t. LooksNext f t.guards c.loop-i.turn c.loop-i.sockets.slots.items (Some c.in-Some.i) c.next_due.new.sockets.slots.items) c.loop-i.invariant.terms c.in-Some.ensures.looked in
    let table : TurnAt f g.G.TsvalSource.tells c.next_due.new.sockets.slots.items c.in-Some.i c.loop-i.out c.turn_at-answer.result.0 c.turn_at-answer.result.1 c.tell_if_over.new.sockets.slots.items c.turn_at-answer.new.out = subst (λ v. TurnAt f g.G.TsvalSource.tells c.next_due.new.sockets.slots.items c.in-Some.i c.loop-i.out c.turn_at-answer.result.0 c.turn_at-answer.result.1 v.items c.turn_at-answer.new.out) (sym c.tell_if_over.ensures.slots) c.turn_at-answer.ensures.table in
    let counted : c.count_lost.new.self ≡ lost_by c.turn_at-answer.result.1.lost (is_tcp_at (slice_get c.tell_if_over.new.sockets.slots.items c.in-Some.i)) c.loop-i.counters = search rules in
    record {
      terms = c.tell_if_over.ensures.terms ∙ c.turn_at-answer.ensures.terms ∙ c.in-Some.ensures.terms ∙ c.loop-i.invariant.terms;
      rest = λ q ts turn k out rest. c.loop-i.invariant.rest q ts turn k out (silent f g.G.TsvalSource.tells st c.loop-i.sockets.slots.items c.next_due.new.sockets.slots.items c.tell_if_over.new.sockets.slots.items c.loop-i.turn c.in-Some.i c.turn_at-answer.result.1 c.loop-i.counters c.loop-i.out c.turn_at-answer.new.out c.turn_at-answer.result.0 (readies f st c.loop-i.sockets.slots.items c.next_due.new.sockets.slots.items c.loop-i.turn c.in-Some.i l) table (sym c.is_err.ensures.value ∙ c.if-is_err.false) (omega arith) q ts turn k out (subst (λ d. Speaks f g.G.TsvalSource.tells st c.tell_if_over.new.sockets.slots.items (c.in-Some.i + 1) d c.turn_at-answer.new.out q ts turn k out) counted rest));
      ends = tells_then _ _ _ _ _ _ c.loop-i.invariant.ends (tells_then _ _ _ _ _ _ c.next_due.ensures.ends (tells_turn _ _ _ _ _ c.in-Some.i table (subst (λ ms. TellsHere c.tell_if_over.new.sockets.slots.items c.in-Some.i ms c.tell_if_over.new.sockets.ended) c.turn_at-answer.ensures.ended c.tell_if_over.ensures.told)));
    }

pub returns-clause-table : goal.returns-clause-table
returns-clause-table g c =
    let f = facts_by eq-value.it c.args.cx.now.environment in
    let st = c.args.sockets.now.terms.guards in
    let l : LooksNext f st c.loop-i.turn c.loop-i.sockets.slots.items None c.next_due.new.sockets.slots.items = subst (λ t. LooksNext f t.guards c.loop-i.turn c.loop-i.sockets.slots.items None c.next_due.new.sockets.slots.items) c.loop-i.invariant.terms c.in_default.ensures.looked in
    c.loop-i.invariant.rest _ _ _ _ _ (Quiet c.loop-i.sockets.slots.items c.next_due.new.sockets.slots.items c.loop-i.turn c.loop-i.counters c.loop-i.out (quiets f st c.loop-i.sockets.slots.items c.next_due.new.sockets.slots.items c.loop-i.turn l))

pub returns-then-is_err-clause-ends : goal.returns-then-is_err-clause-ends
returns-then-is_err-clause-ends g c =
    let f = facts_by eq-value.it c.args.cx.now.environment in
    let table : TurnAt f g.G.TsvalSource.tells c.next_due.new.sockets.slots.items c.in-Some.i c.loop-i.out c.turn_at-answer.result.0 c.turn_at-answer.result.1 c.tell_if_over.new.sockets.slots.items c.turn_at-answer.new.out = subst (λ v. TurnAt f g.G.TsvalSource.tells c.next_due.new.sockets.slots.items c.in-Some.i c.loop-i.out c.turn_at-answer.result.0 c.turn_at-answer.result.1 v.items c.turn_at-answer.new.out) (sym c.tell_if_over.ensures.slots) c.turn_at-answer.ensures.table in
    tells_then _ _ _ _ _ _ c.loop-i.invariant.ends (tells_then _ _ _ _ _ _ c.next_due.ensures.ends (tells_turn _ _ _ _ _ c.in-Some.i table (subst (λ ms. TellsHere c.tell_if_over.new.sockets.slots.items c.in-Some.i ms c.tell_if_over.new.sockets.ended) c.turn_at-answer.ensures.ended c.tell_if_over.ensures.told)))

pub returns-then-len-gt0-clause-ends : goal.returns-then-len-gt0-clause-ends
returns-then-len-gt0-clause-ends g c =
    let f = facts_by eq-value.it c.args.cx.now.environment in
    let table : TurnAt f g.G.TsvalSource.tells c.next_due.new.sockets.slots.items c.in-Some.i c.loop-i.out c.turn_at-answer.result.0 c.turn_at-answer.result.1 c.tell_if_over.new.sockets.slots.items c.turn_at-answer.new.out = subst (λ v. TurnAt f g.G.TsvalSource.tells c.next_due.new.sockets.slots.items c.in-Some.i c.loop-i.out c.turn_at-answer.result.0 c.turn_at-answer.result.1 v.items c.turn_at-answer.new.out) (sym c.tell_if_over.ensures.slots) c.turn_at-answer.ensures.table in
    tells_then _ _ _ _ _ _ c.loop-i.invariant.ends (tells_then _ _ _ _ _ _ c.next_due.ensures.ends (tells_turn _ _ _ _ _ c.in-Some.i table (subst (λ ms. TellsHere c.tell_if_over.new.sockets.slots.items c.in-Some.i ms c.tell_if_over.new.sockets.ended) c.turn_at-answer.ensures.ended c.tell_if_over.ensures.told)))

pub returns-clause-ends : goal.returns-clause-ends
returns-clause-ends g c = tells_then _ _ _ _ _ _ c.loop-i.invariant.ends c.next_due.ensures.ends

pub loop-i-init : goal.loop-i-init
loop-i-init g c = record { terms = refl; rest = λ r ts turn k out h. h; ends = tells_none _ _ _ _ refl refl }

pub returns-clause-asleep : goal.returns-clause-asleep
returns-clause-asleep g c = λ e. c.in_default.ensures.unmarked refl

pub returns-then-len-gt0-clause-asleep : goal.returns-then-len-gt0-clause-asleep
returns-then-len-gt0-clause-asleep g c = λ e. absurd (not_zero c.turn_at-answer.result.1.len c.if-len-gt0.true e)
