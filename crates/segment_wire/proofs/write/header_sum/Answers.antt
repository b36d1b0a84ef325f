use Rattle.std.proofs.Common.{◌+◌, ◌*◌, ◌/◌, ◌<◌, subst, ◌∙◌, arith, rules, sym}
use Rattle.ip_wire.specs.Sum.{word_of}
use Rattle.control_wire.specs.Segment.{segment_of}
use Rattle.segment_wire.proofs.HeaderSums.{tcp_words}
use Rattle.segment_wire.proofs.write.header_sum.Goals as goal

pub returns-clause-value : goal.returns-clause-value
returns-clause-value c = λ start.
    let r = c.args.repr.now in
    tcp_words (segment_of r) start (search rules) (search rules) (search rules)
    (subst (λ v. v < 4294967296) c.ack_field.ensures (search rules)) (omega (arith, c.requires.options))
    (omega (arith, c.control_bits.ensures.small, c.control_bits.ensures.value, c.ack_bit.ensures.small, c.ack_bit.ensures.value))
    (search rules)
    ∙ sym (λ i. word_of (start + (r.src_port + r.dst_port + (r.seq_number.0 + c.ack_field.ensures i)
    + (c.requires.counted i / 4 * 16 * 256 + (c.control_bits.ensures.value i + c.ack_bit.ensures.value i) + r.window_len))))
