-- What single words of a script mean, and how many words a line has.
use Rattle.std.specs.Prelude.{ℕ, ◌+◌, ◌-◌, ◌*◌, fold, List, [], ◌∷◌, length, Bool, true, false, ◌&&◌, nat_lt, nat_le}
use Rattle.std.specs.Prelude.{Option, Some, None, bytes_eq, codes, if◌then◌else◌}
use Rattle.std.specs.List.{list_all}
use Rattle.std.specs.Char.{is_ascii_digit}
use Rattle.pair_core.specs.declared.side.Side.{Side}
use Rattle.pair_core.specs.declared.side.Side.TheVariants as side
use Rattle.sock_tcp.specs.declared.rules.Rules.{Rules}
use Rattle.sock_tcp.specs.declared.rules.Rules.TheVariants as rules
use Rattle.sock_pair.specs.declared.script.keyword.Keyword.{Keyword}
use Rattle.sock_pair.specs.declared.script.keyword.Keyword.TheVariants as keyword

abbrev pub Word : Type 0
Word = List ℕ

-- `a` or `b`
unfoldable pub side_of : Word → Option Side
side_of word =
    if bytes_eq word (codes "a") then Some side.A
    else (if bytes_eq word (codes "b") then Some side.B else None)

-- `on` or `off`
unfoldable pub switch_of : Word → Option Bool
switch_of word =
    if bytes_eq word (codes "on") then Some true
    else (if bytes_eq word (codes "off") then Some false else None)

-- `rfc` or `smoltcp`
unfoldable pub rules_of : Word → Option Rules
rules_of word =
    if bytes_eq word (codes "rfc") then Some rules.Rfc
    else (if bytes_eq word (codes "smoltcp") then Some rules.Smoltcp else None)

-- 1 to 10 decimal digits
unfoldable pub is_number : Word → Bool
is_number word = nat_lt 0 (length word) && nat_le (length word) 10 && list_all is_ascii_digit word

-- what decimal digits write
unfoldable pub value_of : Word → ℕ
value_of digits = fold (λ n digit. n * 10 + (digit - 48)) 0 digits

-- the number that a word writes, where it is at most `most`
unfoldable pub number_of : ℕ → Word → Option ℕ
number_of most word = if is_number word && nat_le (value_of word) most then Some (value_of word) else None

-- a limit, or `-` for none
unfoldable pub limit_of : Word → Option (Option ℕ)
limit_of word =
    if bytes_eq word (codes "-") then Some None
    else some_limit (number_of 536870911 word) where
      some_limit : Option ℕ → Option (Option ℕ)
      some_limit (Some n) = Some (Some n)
      some_limit None = None

-- bytes 33 to 126 alone
unfoldable pub is_text : Word → Bool
is_text word = list_all (λ b. nat_le 33 b && nat_le b 126) word

abbrev pub text_of : Word → Option (List ℕ)
text_of word = if is_text word then Some word else None

-- what stands beside the first of these names that the word is
abbrev pub named : {V : Type 0} → List (Word × V) → Word → Option V
named [] word = None
named ((name, v) ∷ others) word = if bytes_eq word name then Some v else named others word

-- what a line begins with: a call of a socket, or what happens on the network
unfoldable pub keyword_of : Word → Option Keyword
keyword_of =
    named
    ((codes "listen", keyword.Listen) ∷ (codes "connect", keyword.Connect) ∷ (codes "close", keyword.Close)
    ∷ (codes "abort", keyword.Abort) ∷ (codes "send", keyword.Send) ∷ (codes "recv", keyword.Recv)
    ∷ (codes "nagle", keyword.Nagle) ∷ (codes "rules", keyword.Rules) ∷ (codes "dispatch", keyword.Dispatch)
    ∷ (codes "fail", keyword.Fail) ∷ (codes "gone", keyword.Gone) ∷ (codes "deliver", keyword.Deliver) ∷ [])

-- the words, where there are just so many
abbrev pub one_of : List Word → Option Word
one_of (a ∷ []) = Some a
one_of _ = None

abbrev pub two_of : List Word → Option (Word × Word)
two_of (a ∷ b ∷ []) = Some (a, b)
two_of _ = None

abbrev pub three_of : List Word → Option (Word × Word × Word)
three_of (a ∷ b ∷ c ∷ []) = Some (a, b, c)
three_of _ = None

abbrev pub five_of : List Word → Option (Word × Word × Word × Word × Word)
five_of (a ∷ b ∷ c ∷ d ∷ e ∷ []) = Some (a, b, c, d, e)
five_of _ = None

-- a word, and a text after it or nothing
abbrev pub one_and_text_of : List Word → Option (Word × Word)
one_and_text_of (a ∷ []) = Some (a, [])
one_and_text_of (a ∷ b ∷ []) = Some (a, b)
one_and_text_of _ = None
