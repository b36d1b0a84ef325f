-- What the lines of a drill ask for, one after the other, and the first fault.
use Rattle.std.specs.Prelude.{ℕ, List, [], ◌∷◌, ◌++◌, drop, Option, Some, None, Result, Ok, Err, IsOk, ◌≡◌}
use Rattle.sock_pair.specs.ScriptLines.{IsFault}
use Rattle.sock_pair.specs.ScriptText.{lines_left, words_of}
use Rattle.sock_pair.specs.ScriptWords.{Word}
use Rattle.sock_pair.specs.declared.script.error.ScriptError.{ScriptError}
use Rattle.sock_pair.specs.declared.script.error.ScriptError.TheVariants as fault
use Rattle.sock_pair.specs.declared.script.lines.Line.{Line}
use Rattle.drill_lines.specs.declared.reader.Numbered.{Numbered}
use Rattle.drill_lines.specs.declared.reader.Reader.{Reader}
use Rattle.drill_lines.specs.Forms.{line_means}
use Rattle.drill_lines.specs.Names.{Names, words_in}
use Rattle.drill_lines.specs.Requests.{RequestValue, example, make, request_value}
use Rattle.drill_lines.specs.Shapes.{form_of}

-- what line n with these words asks for, where the sockets have these names, but for the text that a line `>` expects;
-- each line that is not skipped has a first word
abbrev pub words_mean : Names → ℕ → List Word → Result RequestValue ScriptError
words_mean names n [] = Err (fault.UnknownEvent n)
words_mean names n (name ∷ ws) = line_means names n (form_of name) ws []

abbrev pub with_name : Names → List Word → Names
with_name names [] = names
with_name names (name ∷ ws) = names ++ name ∷ []

-- the names behind a line that asks for this, with these words behind its first
abbrev pub names_after : Names → List Word → RequestValue → Names
names_after names ws (example name) = []
names_after names ws (make room) = with_name names ws
names_after names ws _ = names

abbrev pub fault_or
    : (Names → Option ScriptError) → Names → List Word → Result RequestValue ScriptError → Option ScriptError
fault_or more names ws (Err e) = Some e
fault_or more names ws (Ok r) = more (names_after names ws r)

-- the fault of the first line that has one, where the sockets that were made before have these names
unfoldable pub first_fault : List (ℕ × List Word) → Names → Option ScriptError
first_fault [] names = None
first_fault (line ∷ more) names = fault_or (first_fault more) names (drop 1 line.1) (words_mean names line.0 line.1)

-- the fault of a text
abbrev pub fault_of : List ℕ → Option ScriptError
fault_of text = first_fault (lines_left 1 text) []

-- ---- what a reader has, and does

-- the text and the lines that are left
abbrev pub left_text : Reader → List ℕ
left_text r = r.lines.rest.now

abbrev pub left : Reader → List (ℕ × List Word)
left r = lines_left r.lines.number (left_text r)

-- the names of the sockets that were made
abbrev pub known : Reader → Names
known r = words_in r.names.names.items

-- what a line means
abbrev pub meaning : Names → Line → Result RequestValue ScriptError
meaning names line =
    line_means names line.number (form_of line.name.now) (words_of line.values.now) line.values.now

-- this was read of a line, and the names are as it leaves them
abbrev pub Read : Reader → Line → Reader → Numbered → Type 0
Read old line new read =
    (read.line ≡ line.number) × (read.name ≡ line.name) × (read.values ≡ line.values)
    × (meaning (known old) line ≡ Ok (request_value read.request))
    × (known new ≡ names_after (known old) (words_of line.values.now) (request_value read.request))

-- the line that was read
abbrev pub line_of : Numbered → Line
line_of read = record { number = read.line; name = read.name; values = read.values }

-- the first line that was left asks for this; the others are left, and the names are as it leaves them
abbrev pub Asks : Reader → Reader → Numbered → Type 0
Asks old new read =
    (left old ≡ (read.line, read.name.now ∷ words_of read.values.now) ∷ left new)
    × (meaning (known old) (line_of read) ≡ Ok (request_value read.request))
    × (known new ≡ names_after (known old) (words_of read.values.now) (request_value read.request))

-- the fault of the first of these lines; where memory ran out, it has none
abbrev pub FirstFaults : Names → List (ℕ × List Word) → ScriptError → Type 0
FirstFaults names [] e = ⊥
FirstFaults names (line ∷ more) e = IsFault (words_mean names line.0 line.1) e

-- this is the first fault; where memory ran out, there may be any or none
abbrev pub IsFirstFault : Option ScriptError → ScriptError → Type 0
IsFirstFault first fault.Memory = Unit {0}
IsFirstFault first e = first ≡ Some e
