-- What the lines of a script mean, and the first fault in line order.
use Rattle.std.specs.Prelude.{ℕ, ◌+◌, ◌*◌, pos, List, [], ◌∷◌, length, map, Bool, true, false, Option, Some, None}
use Rattle.std.specs.Prelude.{Result, Ok, Err, bytes_eq, codes, if◌then◌else◌, MatchResult, IsOk, ◌≡◌, ◌<◌, ◌++◌}
use Rattle.std.specs.Prelude.{option_map}
use Rattle.sock_pair.specs.declared.script.error.ScriptError.{ScriptError}
use Rattle.sock_pair.specs.declared.script.error.ScriptError.TheVariants as fault
use Rattle.sock_pair.specs.declared.script.keyword.Keyword.{Keyword}
use Rattle.sock_pair.specs.declared.script.keyword.Keyword.TheVariants as keyword
use Rattle.sock_pair.specs.declared.script.pair_line.PairLine.{PairLine}
use Rattle.sock_pair.specs.declared.script.Script.{Script}
use Rattle.sock_tcp.specs.declared.rules.Rules.{Rules}
use Rattle.pair_core.specs.declared.setting.Setting.TheVariants as setting
use Rattle.pair_core.specs.declared.side.Side.{Side}
use Rattle.pair_core.specs.EventValue.{MomentValue, EventValue, listen, connect, close, abort, send_slice, recv_slice}
use Rattle.pair_core.specs.EventValue.{set, dispatch, deliver, event_value}
use Rattle.sock_pair.specs.ScriptText.{lines_left, lines_of, numbered_from}
use Rattle.sock_pair.specs.ScriptWords.{Word, side_of, switch_of, number_of, limit_of, text_of, keyword_of, one_of}
use Rattle.sock_pair.specs.ScriptWords.{rules_of, two_of, three_of, five_of, one_and_text_of}

-- the context at so many milliseconds, with this word and with the own address or without; the MTU is 1500
abbrev pub moment_at : Bool → ℕ → ℕ → MomentValue
moment_at has_address millis word =
    record { now = pos (millis * 1000); word = word; has_address = has_address; ip_mtu = 1500 }

-- events of values that may be bad
abbrev pub listen_event : Option Side → Option EventValue
listen_event side = option_map listen side

abbrev pub connect_event : Option Side → Option ℕ → Option EventValue
connect_event (Some side) (Some word) = Some (connect side (moment_at true 0 word))
connect_event _ _ = None

abbrev pub send_event : Option Side → Option (List ℕ) → Option EventValue
send_event (Some side) (Some bytes) = Some (send_slice side bytes)
send_event _ _ = None

abbrev pub recv_event : Option Side → Option ℕ → Option EventValue
recv_event (Some side) (Some size) = Some (recv_slice side size)
recv_event _ _ = None

abbrev pub nagle_event : Option Side → Option Bool → Option EventValue
nagle_event (Some side) (Some on) = Some (set side (setting.Nagle on))
nagle_event _ _ = None

abbrev pub rules_event : Option Side → Option Rules → Option EventValue
rules_event (Some side) (Some x) = Some (set side (setting.Rules x))
rules_event _ _ = None

abbrev pub dispatch_event : Bool → Bool → Option Side → Option ℕ → Option EventValue
dispatch_event has_address fail (Some side) (Some millis) =
    Some (dispatch side (moment_at has_address millis 0) fail)
dispatch_event has_address fail _ _ = None

abbrev pub deliver_event : Option ℕ → Option ℕ → Option ℕ → Option EventValue
deliver_event (Some index) (Some millis) (Some word) = Some (deliver index (moment_at true millis word))
deliver_event _ _ _ = None

abbrev pub or_bad_word : {V : Type 0} → ℕ → Option V → Result V ScriptError
or_bad_word n None = Err (fault.BadWord n)
or_bad_word n (Some v) = Ok v

-- line n with the words that it is to have, or without: first their count, then their values
abbrev pub by_words : {W V : Type 0} → ℕ → (W → Option V) → Option W → Result V ScriptError
by_words n value None = Err (fault.WrongNumberOfWords n)
by_words n value (Some words) = or_bad_word n (value words)

-- line n, by its form, from the words after the first
unfoldable pub listen_line : ℕ → List Word → Result EventValue ScriptError
listen_line n values = by_words n (λ side. listen_event (side_of side)) (one_of values)

unfoldable pub close_line : ℕ → List Word → Result EventValue ScriptError
close_line n values = by_words n (λ side. option_map close (side_of side)) (one_of values)

unfoldable pub abort_line : ℕ → List Word → Result EventValue ScriptError
abort_line n values = by_words n (λ side. option_map abort (side_of side)) (one_of values)

unfoldable pub connect_line : ℕ → List Word → Result EventValue ScriptError
connect_line n values =
    by_words n (λ (side, word). connect_event (side_of side) (number_of 4294967295 word)) (two_of values)

unfoldable pub send_line : ℕ → List Word → Result EventValue ScriptError
send_line n values =
    by_words n (λ (side, text). send_event (side_of side) (text_of text)) (one_and_text_of values)

unfoldable pub recv_line : ℕ → List Word → Result EventValue ScriptError
recv_line n values =
    by_words n (λ (side, size). recv_event (side_of side) (number_of 1048576 size)) (two_of values)

unfoldable pub nagle_line : ℕ → List Word → Result EventValue ScriptError
nagle_line n values =
    by_words n (λ (side, switch). nagle_event (side_of side) (switch_of switch)) (two_of values)

unfoldable pub rules_line : ℕ → List Word → Result EventValue ScriptError
rules_line n values =
    by_words n (λ (side, word). rules_event (side_of side) (rules_of word)) (two_of values)

unfoldable pub dispatch_line : Bool → Bool → ℕ → List Word → Result EventValue ScriptError
dispatch_line has_address fail n values =
    by_words n (λ (side, millis). dispatch_event has_address fail (side_of side) (number_of 1000000000 millis))
    (two_of values)

unfoldable pub deliver_line : ℕ → List Word → Result EventValue ScriptError
deliver_line n values =
    by_words n
    (λ (index, millis, word).
    deliver_event (number_of 9999999999 index) (number_of 1000000000 millis) (number_of 4294967295 word))
    (three_of values)

-- what line n means
abbrev pub values_mean : ℕ → Option Keyword → List Word → Result EventValue ScriptError
values_mean n None values = Err (fault.UnknownEvent n)
values_mean n (Some keyword.Listen) values = listen_line n values
values_mean n (Some keyword.Connect) values = connect_line n values
values_mean n (Some keyword.Close) values = close_line n values
values_mean n (Some keyword.Abort) values = abort_line n values
values_mean n (Some keyword.Send) values = send_line n values
values_mean n (Some keyword.Recv) values = recv_line n values
values_mean n (Some keyword.Nagle) values = nagle_line n values
values_mean n (Some keyword.Rules) values = rules_line n values
values_mean n (Some keyword.Dispatch) values = dispatch_line true false n values
values_mean n (Some keyword.Fail) values = dispatch_line true true n values
values_mean n (Some keyword.Gone) values = dispatch_line false false n values
values_mean n (Some keyword.Deliver) values = deliver_line n values

-- what line n with these words means; each line that is not skipped has a first word
abbrev pub event_of : ℕ → List Word → Result EventValue ScriptError
event_of n [] = Err (fault.UnknownEvent n)
event_of n (name ∷ values) = values_mean n (keyword_of name) values

abbrev pub sizes_of : Option ℕ → Option ℕ → Option ℕ → Option ℕ → Option (List ℕ)
sizes_of (Some arx) (Some atx) (Some brx) (Some btx) = Some (arx ∷ atx ∷ brx ∷ btx ∷ [])
sizes_of _ _ _ _ = None

abbrev pub pair_line_of : Option (List ℕ) → Option (Option ℕ) → Option PairLine
pair_line_of (Some sizes) (Some limit) = Some (record { sizes = sizes; limit = limit })
pair_line_of _ _ = None

unfoldable pub pair_line : ℕ → List Word → Result PairLine ScriptError
pair_line n values =
    by_words n
    (λ (arx, atx, brx, btx, limit).
    let size = number_of 1048576 in
    pair_line_of (sizes_of (size arx) (size atx) (size brx) (size btx)) (limit_of limit))
    (five_of values)

-- what the first line that is not skipped means
abbrev pub first_line : ℕ → List Word → Result PairLine ScriptError
first_line n [] = Err (fault.NoPairLine n)
first_line n (name ∷ values) =
    if bytes_eq name (codes "pair") then pair_line n values else Err (fault.NoPairLine n)

abbrev pub first_and_rest
    : Result EventValue ScriptError → Result (List EventValue) ScriptError → Result (List EventValue) ScriptError
first_and_rest (Err e) rest = Err e
first_and_rest (Ok event) (Err e) = Err e
first_and_rest (Ok event) (Ok events) = Ok (event ∷ events)

-- the events of numbered lines, or the fault of the first line that has one
unfoldable pub events_of : List (ℕ × List Word) → Result (List EventValue) ScriptError
events_of [] = Ok []
events_of (line ∷ rest) = first_and_rest (event_of line.0 line.1) (events_of rest)

-- a script by value: its first line, and its events
abbrev pub ScriptValue : Type 0
ScriptValue = PairLine × List EventValue

abbrev pub script_value : Script → ScriptValue
script_value s = (record { sizes = s.sizes; limit = s.limit }, map event_value s.events.items)

abbrev pub with_events
    : Result PairLine ScriptError → Result (List EventValue) ScriptError → Result ScriptValue ScriptError
with_events (Err e) more = Err e
with_events (Ok line) (Err e) = Err e
with_events (Ok line) (Ok events) = Ok (line, events)

-- the script of numbered lines; end is the number after the last line
abbrev pub script_of_lines : ℕ → List (ℕ × List Word) → Result ScriptValue ScriptError
script_of_lines end [] = Err (fault.NoPairLine end)
script_of_lines end (line ∷ rest) = with_events (first_line line.0 line.1) (events_of rest)

-- what a text means as a script: its first line that is not skipped names the sizes, each later one an event
unfoldable pub script_of : List ℕ → Result ScriptValue ScriptError
script_of text = script_of_lines (length (lines_of text) + 1) (numbered_from 1 (lines_of text))

-- ---- what is answered

-- the fault e of what is meant; where memory ran out, there is none
abbrev pub IsFault : {V : Type 0} → Result V ScriptError → ScriptError → Type 0
IsFault meant fault.Memory = IsOk meant
IsFault meant e = meant ≡ Err e

-- the result is what is meant, its value seen by `value`
abbrev pub Gives : {T V : Type 0} → (T → V) → Result V ScriptError → Result T ScriptError → Type 0
Gives value meant result = MatchResult result (λ x. meant ≡ Ok (value x)) (IsFault meant)

-- some first lines, at least one, have no fault
pub record ReadsFirst (lines : List (ℕ × List Word)) : Type 0 where
  pub first : List (ℕ × List Word)
  pub others : List (ℕ × List Word)
  pub are : lines ≡ first ++ others
  pub some : 0 < length first
  pub read : IsOk (events_of first)

-- the fault e of the events of these lines; where memory ran out, that was at a line that has none, nor have those
-- before
abbrev pub EventsFault : List (ℕ × List Word) → ScriptError → Type 0
EventsFault lines fault.Memory = ReadsFirst lines
EventsFault lines e = events_of lines ≡ Err e

-- the same of the lines of a script
abbrev pub LinesRead : List (ℕ × List Word) → Type 0
LinesRead [] = ⊥
LinesRead (line ∷ others) = IsOk (first_line line.0 line.1) × ReadsFirst others

-- and of a text
abbrev pub ScriptFault : List ℕ → ScriptError → Type 0
ScriptFault text fault.Memory = LinesRead (lines_left 1 text)
ScriptFault text e = script_of text ≡ Err e
