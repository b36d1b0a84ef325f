use Rattle.std.proofs.Common.{◌≡◌, None, length}
use Rattle.sock_pair.specs.ScriptText.{words_of}
use Rattle.drill_lines.specs.Fields.{field, no_fields, read_words, said_value}
use Rattle.drill_lines.proofs.fields.read_fields.Given as goal

abbrev pub invariant-loop-word : goal.invariant-loop-word
invariant-loop-word l =
    read_words (words_of l.words) (no_fields, None) field ≡ read_words (words_of l.rest) (said_value l.said) field

abbrev pub decreases-loop-word : goal.decreases-loop-word
decreases-loop-word l = length (words_of l.rest)
