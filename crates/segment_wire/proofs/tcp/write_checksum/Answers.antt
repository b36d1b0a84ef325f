use Rattle.std.proofs.Common.{◌+◌, ◌*◌, ◌≡◌, ◌∙◌, ap, arith, sym}
use Rattle.control_wire.specs.Segment.{segment_of}
use Rattle.ip_wire.specs.Sum.{swapped_word, word_of}
use Rattle.segment_wire.proofs.Written.{filled}
use Rattle.segment_wire.proofs.tcp.write_checksum.Goals as goal

pub returns : goal.returns
returns c = λ src dst e.
    let start = c.args.start in
    let wide = 256 * c.args.swapped in
    let header = c.header_sum.result in
    let order : start + wide + header ≡ start + header + wide = omega arith in
    filled src dst (segment_of c.args.repr.now) c.args.buffer.now c.fill_checksum.new.buffer
    (swapped_word start c.args.swapped) (swapped_word (start + header) c.args.swapped) c.requires.written e
    (sym (c.header_sum.ensures.value (start + wide) ∙ ap word_of order)) c.fill_checksum.ensures
