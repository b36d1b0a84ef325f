use Rattle.std.proofs.Common.{◌≡◌, List, [], ◌∷◌, Some}
use Rattle.sock_pair.specs.ScriptText.{words_of}
use Rattle.sock_pair.specs.ScriptWords.{Word, five_of, three_of}
use Rattle.sock_pair.proofs.script.words.five_words.Goals as goal

five_from : (ws : List Word) (a b : Word) (last : Word × Word × Word) → three_of ws ≡ Some last → five_of (a ∷ b ∷ ws) ≡ Some (a, b, last.0, last.1, last.2)
five_from [] a b last h = cc
five_from (x ∷ []) a b last h = cc
five_from (x ∷ y ∷ []) a b last h = cc
five_from (x ∷ y ∷ z ∷ []) a b last h = cc
five_from (x ∷ y ∷ z ∷ w ∷ ws) a b last h = cc

pub returns : goal.returns
returns c =
    rw (c.in_ok-first.ensures, c.in_ok-second.ensures) (five_from (words_of c.in_ok-second.rest.now) c.in_ok-first.first.now c.in_ok-second.second.now (c.in_ok-third.third.now, c.in_ok-third.fourth.now, c.in_ok-third.fifth.now) c.in_ok-third.ensures)
