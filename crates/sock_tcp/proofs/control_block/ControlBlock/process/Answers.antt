use Rattle.std.proofs.Common.{refl, sym, ◌∙◌}
use Rattle.control_wire.specs.Segment.{segment_of}
use Rattle.sock_tcp.specs.Process.{processed_by}
use Rattle.sock_tcp.proofs.Recovering.{passes}
use Rattle.sock_tcp.proofs.Stamping.{stamps_fall}
use Rattle.sock_tcp.proofs.Windowing.{challenges, resets}
use Rattle.sock_tcp.proofs.control_block.ControlBlock.process.Goals as goal

pub returns-in-Pass-clause-stamps : goal.returns-in-Pass-clause-stamps
returns-in-Pass-clause-stamps g c = stamps_fall c.process_by_rules.result c.args.self.now c.process_by_rules.new.self _ _ c.args.ip_repr.now (segment_of c.args.repr.now) _ c.process_by_rules.ensures.table

pub returns-in-Pass-clause-table : goal.returns-in-Pass-clause-table
returns-in-Pass-clause-table g c = passes _ c.args.self.now.rules c.args.self.now c.now-now.result (g.C.Context.word_at c.args.cx.now 0) c.args.ip_repr.now (segment_of c.args.repr.now) (sym c.verdict_by_rules.ensures.value ∙ c.in-Pass.is) c.process_by_rules.ensures.table ∙ (λ i. processed_by c.args.self.now.rules c.args.self.now (record { micros = c.now-now.ensures.value i }) (g.C.Context.word_at c.args.cx.now 0) c.args.ip_repr.now (segment_of c.args.repr.now))

pub returns-in-Challenge-clause-table : goal.returns-in-Challenge-clause-table
returns-in-Challenge-clause-table g c = challenges _ c.args.self.now.rules c.args.self.now c.now-now.result (g.C.Context.word_at c.args.cx.now 0) c.args.ip_repr.now (segment_of c.args.repr.now) (sym c.verdict_by_rules.ensures.value ∙ c.in-Challenge.is) (c.plain.ensures c.challenge.new.self (segment_of c.args.repr.now) ∙ c.challenge.ensures.table (segment_of c.args.repr.now)) ∙ (λ i. processed_by c.args.self.now.rules c.args.self.now (record { micros = c.now-now.ensures.value i }) (g.C.Context.word_at c.args.cx.now 0) c.args.ip_repr.now (segment_of c.args.repr.now))

pub returns-in-Reset-clause-table : goal.returns-in-Reset-clause-table
returns-in-Reset-clause-table g c = resets _ c.args.self.now.rules c.args.self.now c.now-now.result (g.C.Context.word_at c.args.cx.now 0) c.args.ip_repr.now (segment_of c.args.repr.now) (sym c.verdict_by_rules.ensures.value ∙ c.in-Reset.is) refl ∙ (λ i. processed_by c.args.self.now.rules c.args.self.now (record { micros = c.now-now.ensures.value i }) (g.C.Context.word_at c.args.cx.now 0) c.args.ip_repr.now (segment_of c.args.repr.now))
