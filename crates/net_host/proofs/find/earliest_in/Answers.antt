use Rattle.std.proofs.Common.{ℕ, ◌≡◌, ◌∙◌, ◌≤◌, ◌<◌, ◌+◌, ◌*◌, ◌^◌, length, get_or, nat_eq, sym, subst, arith}
use Rattle.control_wire.specs.Segment.{segment_of}
use Rattle.host_index.specs.declared.entry.Entry.{Entry}
use Rattle.host_index.specs.Entries.{nothing, rank}
use Rattle.net_host.specs.Filing.{rest_major}
use Rattle.net_host.specs.Resting.{RestsUntil}
use Rattle.net_host.proofs.Asking.{Ran, none_before, ran_done, ran_on, same_major}
use Rattle.net_host.proofs.Moments.{behind_major, here_earliest, none_left, steps}
use Rattle.net_host.proofs.find.earliest_in.Goals.{in-Before, in-Under+in_default}
use Rattle.net_host.proofs.find.earliest_in.Goals as goal

behind_all : (e : Entry) (m : ℕ) → rank e < (m * 2 ^ 64) * 2 ^ 64 → rank e < (m * 2 ^ 64 + 0) * 2 ^ 64 + 0
behind_all e m h = omega (arith, h)

pub returns-clause-found : goal.returns-clause-found
returns-clause-found g c = none_left (λ t x. RestsUntil c.args.ip.now (segment_of c.args.repr.now) t x) c.args.slots.now c.args.index.now.entries (rest_major c.args.repr.now.dst_port) c.loop-p.p c.loop-p.invariant.passed (omega arith)

pub returns-in-Behind-clause-found : goal.returns-in-Behind-clause-found
returns-in-Behind-clause-found g c =
    let within : c.loop-p.p < length c.args.index.now.entries = omega arith in
    behind_major (λ t x. RestsUntil c.args.ip.now (segment_of c.args.repr.now) t x) c.args.slots.now c.args.index.now.entries (rest_major c.args.repr.now.dst_port) c.loop-p.p c.get-entry.result c.lower-start.ensures.sorted c.loop-p.invariant.passed within c.get-entry.ensures (omega arith) (subst (λ m. (m + 1) * 2 ^ 64 * 2 ^ 64 ≤ rank c.get-entry.result) c.rest_major-major.ensures c.in-Behind.ensures)

pub returns-in-Some-clause-found : goal.returns-in-Some-clause-found
returns-in-Some-clause-found g c =
    let within : c.loop-p.p < length c.args.index.now.entries = omega arith in
    here_earliest (λ t x. RestsUntil c.args.ip.now (segment_of c.args.repr.now) t x) c.args.slots.now c.args.index.now.entries (rest_major c.args.repr.now.dst_port) c.loop-p.p c.get-entry.result c.lower-start.ensures.sorted c.loop-p.invariant.passed within c.get-entry.ensures (omega arith) c.in-Some.until c.in-Some.ensures.rests.ordered (c.in-Under.ensures ∙ c.rest_major-major.ensures) c.in-Some.ensures.rests.same c.in-Some.ensures.rests.within c.in-Some.ensures.rests.holds

pub returns-clause-asked : goal.returns-clause-asked
returns-clause-asked g c = ran_done (λ e. nat_eq e.major (rest_major c.args.repr.now.dst_port)) c.args.index.now.entries c.lower-start.result c.loop-p.p c.args.asked.now.count c.loop-p.asked.count c.loop-p.invariant.ran

pub returns-in-Behind-clause-asked : goal.returns-in-Behind-clause-asked
returns-in-Behind-clause-asked g c = ran_done (λ e. nat_eq e.major (rest_major c.args.repr.now.dst_port)) c.args.index.now.entries c.lower-start.result c.loop-p.p c.args.asked.now.count c.loop-p.asked.count c.loop-p.invariant.ran

pub returns-in-Some-clause-asked : goal.returns-in-Some-clause-asked
returns-in-Some-clause-asked g c =
    let r = ran_on (λ e. nat_eq e.major (rest_major c.args.repr.now.dst_port)) c.args.index.now.entries c.lower-start.result c.loop-p.p c.args.asked.now.count c.loop-p.asked.count c.rests_at.new.asked.count c.get-entry.result (omega arith) c.loop-p.invariant.ran c.get-entry.ensures (same_major c.get-entry.result.major (rest_major c.args.repr.now.dst_port) (c.in-Under.ensures ∙ c.rest_major-major.ensures)) c.rests_at.ensures.asked in
    ran_done (λ e. nat_eq e.major (rest_major c.args.repr.now.dst_port)) c.args.index.now.entries c.lower-start.result (c.loop-p.p + 1) c.args.asked.now.count c.rests_at.new.asked.count r

pub loop-p-preserved : goal.loop-p-preserved
loop-p-preserved g c =
    let within : c.loop-p.p < length c.args.index.now.entries = omega arith in
    let is : c.get-entry.result ≡ get_or c.args.index.now.entries c.loop-p.p nothing = c.get-entry.ensures in
    elim c.match-stands_of.branch [
      | in-Before w ↦ none_before c.args.index.now.entries _ c.lower-start.result c.loop-p.p c.get-entry.result c.lower-start.ensures.splits c.loop-p.invariant.ran.order within is (behind_all c.get-entry.result c.rest_major-major.result w.in-Before.ensures)
      | in-Under+in_default w ↦ record {
        passed = steps (λ t x. RestsUntil c.args.ip.now (segment_of c.args.repr.now) t x) c.args.slots.now c.args.index.now.entries (rest_major c.args.repr.now.dst_port) c.loop-p.p c.get-entry.result c.loop-p.invariant.passed is w.in_default.ensures.rests;
        ran = subst (λ a. Ran (λ e. nat_eq e.major (rest_major c.args.repr.now.dst_port)) c.args.index.now.entries c.lower-start.result (c.loop-p.p + 1) c.args.asked.now.count a.count) (sym w.asked-is)
            (ran_on (λ e. nat_eq e.major (rest_major c.args.repr.now.dst_port)) c.args.index.now.entries c.lower-start.result c.loop-p.p c.args.asked.now.count c.loop-p.asked.count w.rests_at.new.asked.count c.get-entry.result within c.loop-p.invariant.ran is (same_major c.get-entry.result.major (rest_major c.args.repr.now.dst_port) (w.in-Under.ensures ∙ c.rest_major-major.ensures)) w.rests_at.ensures.asked);
      }
    ]
