use Rattle.std.proofs.Common.{◌≡◌, ◌<◌, ◌+◌, length, get_or, refl, sym, subst, true, false, arith}
use Rattle.host_index.specs.Entries.{nothing, rank}
use Rattle.control_wire.specs.Segment.{segment_of}
use Rattle.net_host.specs.Finding.{Fits}
use Rattle.net_host.specs.Asking.{has_key}
use Rattle.net_host.proofs.Asking.{Ran, none_before, ran_done, ran_on, under_key}
use Rattle.net_host.proofs.Runs.{at_end, behind_key, here_first, not_there, passes}
use Rattle.net_host.proofs.find.first_from.Goals.{in-Before, in-Under+else-fits_at}
use Rattle.net_host.proofs.find.first_from.Goals as goal

no_truth : false ≡ true → ⊥
no_truth e = cc

pub returns-then-fits_at-clause-found : goal.returns-then-fits_at-clause-found
returns-then-fits_at-clause-found g c =
    let within : c.loop-p.p < length c.args.index.now.entries = omega arith in
    here_first (Fits c.args.sought c.args.ip.now (segment_of c.args.repr.now)) c.args.slots.now c.args.index.now.entries c.args.key c.loop-p.p c.get-entry.result c.requires.key c.requires.sorted c.loop-p.invariant.passed within c.get-entry.ensures c.in-Under.ensures.0 c.in-Under.ensures.1 (c.if-fits_at.ensures.fits.0 refl).within (c.if-fits_at.ensures.fits.0 refl).holds

pub returns-in-Behind-clause-found : goal.returns-in-Behind-clause-found
returns-in-Behind-clause-found g c =
    let within : c.loop-p.p < length c.args.index.now.entries = omega arith in
    behind_key (Fits c.args.sought c.args.ip.now (segment_of c.args.repr.now)) c.args.slots.now c.args.index.now.entries c.args.key c.loop-p.p c.get-entry.result c.requires.key c.requires.sorted c.loop-p.invariant.passed within c.get-entry.ensures (omega arith) c.in-Behind.ensures

pub returns-then-fits_at-clause-asked : goal.returns-then-fits_at-clause-asked
returns-then-fits_at-clause-asked g c =
    let r = ran_on (has_key c.args.key) c.args.index.now.entries c.args.from c.loop-p.p c.args.asked.now.count c.loop-p.asked.count c.fits_at.new.self.count c.get-entry.result (omega arith) c.loop-p.invariant.ran c.get-entry.ensures (under_key c.get-entry.result c.args.key c.in-Under.ensures.0 c.in-Under.ensures.1) c.fits_at.ensures.counted in
    ran_done (has_key c.args.key) c.args.index.now.entries c.args.from (c.loop-p.p + 1) c.args.asked.now.count c.fits_at.new.self.count r

pub returns-in-Behind-clause-asked : goal.returns-in-Behind-clause-asked
returns-in-Behind-clause-asked g c = ran_done (has_key c.args.key) c.args.index.now.entries c.args.from c.loop-p.p c.args.asked.now.count c.loop-p.asked.count c.loop-p.invariant.ran

pub returns-clause-asked : goal.returns-clause-asked
returns-clause-asked g c = ran_done (has_key c.args.key) c.args.index.now.entries c.args.from c.loop-p.p c.args.asked.now.count c.loop-p.asked.count c.loop-p.invariant.ran

pub loop-p-preserved : goal.loop-p-preserved
loop-p-preserved g c =
    let within : c.loop-p.p < length c.args.index.now.entries = omega arith in
    let is : c.get-entry.result ≡ get_or c.args.index.now.entries c.loop-p.p nothing = c.get-entry.ensures in
    elim c.match-stands.branch [
      | in-Before w ↦ none_before c.args.index.now.entries (rank c.args.key) c.args.from c.loop-p.p c.get-entry.result c.requires.splits c.loop-p.invariant.ran.order within is w.in-Before.ensures
      | in-Under+else-fits_at w ↦ record {
        passed = passes (Fits c.args.sought c.args.ip.now (segment_of c.args.repr.now)) c.args.slots.now c.args.index.now.entries c.args.key c.loop-p.p c.get-entry.result c.loop-p.invariant.passed is (not_there (Fits c.args.sought c.args.ip.now (segment_of c.args.repr.now)) c.args.slots.now c.get-entry.result.place (λ h. no_truth (w.if-fits_at.ensures.fits.1 h)));
        ran = subst (λ a. Ran (has_key c.args.key) c.args.index.now.entries c.args.from (c.loop-p.p + 1) c.args.asked.now.count a.count) (sym w.asked-is)
            (ran_on (has_key c.args.key) c.args.index.now.entries c.args.from c.loop-p.p c.args.asked.now.count c.loop-p.asked.count w.fits_at.new.self.count c.get-entry.result within c.loop-p.invariant.ran is (under_key c.get-entry.result c.args.key w.in-Under.ensures.0 w.in-Under.ensures.1) w.fits_at.ensures.counted);
      }
    ]

pub returns-clause-found : goal.returns-clause-found
returns-clause-found g c = at_end (Fits c.args.sought c.args.ip.now (segment_of c.args.repr.now)) c.args.slots.now c.args.index.now.entries c.args.key c.loop-p.p c.requires.key c.loop-p.invariant.passed (omega arith)
