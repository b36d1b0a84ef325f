use Rattle.std.proofs.Common.{ap, sym, ◌∙◌}
use Rattle.net_base.specs.Packets.{packets, skipped}
use Rattle.net_base.proofs.PacketLists.{skipped_step, skipped_stays, packets_skipped}
use Rattle.net_base.proofs.packet_buffer.PacketBuffer.skip_padding.Goals as goal

pub loop-self-preserved : goal.loop-self-preserved
loop-self-preserved g c = ap skipped c.drop_first.ensures.after ∙ skipped_step c.loop-self.self (sym c.starts_padded.ensures ∙ c.loop-self-test.true) ∙ c.loop-self.invariant

pub returns-clause-after : goal.returns-clause-after
returns-clause-after g c = sym (skipped_stays c.loop-self.self (sym c.starts_padded.ensures ∙ c.loop-self-test.false)) ∙ c.loop-self.invariant

pub returns-clause-same : goal.returns-clause-same
returns-clause-same g c = ap (λ p. packets p.entries) (sym (skipped_stays c.loop-self.self (sym c.starts_padded.ensures ∙ c.loop-self-test.false)) ∙ c.loop-self.invariant) ∙ packets_skipped c.args.self.now
