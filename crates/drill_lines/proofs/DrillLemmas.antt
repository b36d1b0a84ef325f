-- The lines of a drill, one after the other.
use Rattle.std.proofs.Common.{ℕ, List, [], ◌∷◌, true, false, Option, Some, None, Result, Ok, Err, ◌≡◌, ◌∙◌, ◌<◌, length, arith, refl, ap, sym}
use Rattle.sock_pair.specs.ScriptLines.{IsFault}
use Rattle.sock_pair.specs.ScriptText.{lines_left, words_of}
use Rattle.sock_pair.specs.ScriptWords.{Word}
use Rattle.sock_pair.specs.declared.script.error.ScriptError.{ScriptError}
use Rattle.sock_pair.specs.declared.script.error.ScriptError.TheVariants as fault
use Rattle.sock_pair.specs.declared.script.lines.Line.{Line}
use Rattle.drill_lines.specs.declared.reader.Numbered.{Numbered}
use Rattle.drill_lines.specs.declared.reader.Reader.{Reader}
use Rattle.drill_lines.specs.declared.shapes.Form.{Form}
use Rattle.drill_lines.specs.declared.shapes.Form.TheVariants as form
use Rattle.drill_lines.specs.declared.wrong.Wrong.{Wrong}
use Rattle.drill_lines.specs.declared.wrong.Wrong.TheVariants as wrong
use Rattle.drill_lines.specs.Drills.{Asks, FirstFaults, IsFirstFault, fault_of, fault_or, first_fault, known, left, line_of, meaning, names_after, words_mean}
use Rattle.drill_lines.specs.Forms.{at_line, line_means, request_means}
use Rattle.drill_lines.specs.Names.{Names}
use Rattle.drill_lines.specs.Requests.{RequestValue, line, request_value}
use Rattle.drill_lines.specs.Shapes.{form_of}

-- ---- no line means that memory ran out

wrong_has_memory : {V : Type 0} (n : ℕ) (r : Result V Wrong) → at_line n r ≡ Err fault.Memory → ⊥
wrong_has_memory n (Ok v) e = cc
wrong_has_memory n (Err wrong.Number) e = cc
wrong_has_memory n (Err wrong.Word) e = cc

line_has_memory : (names : Names) (n : ℕ) (f : Option Form) (ws : List Word) (text : List ℕ) → line_means names n f ws text ≡ Err fault.Memory → ⊥
line_has_memory names n None ws text e = cc
line_has_memory names n (Some f) ws text e = wrong_has_memory n (request_means names f ws text) e

pub line_faults : (names : Names) (l : Line) (e : ScriptError) → meaning names l ≡ Err e → IsFault (meaning names l) e
line_faults names l fault.Memory x = absurd (line_has_memory names l.number (form_of l.name.now) (words_of l.values.now) l.values.now x)
line_faults names l (fault.NoPairLine k) x = x
line_faults names l (fault.UnknownEvent k) x = x
line_faults names l (fault.WrongNumberOfWords k) x = x
line_faults names l (fault.BadWord k) x = x

-- ---- what does not depend on the text of a line

module _ (P : Result RequestValue ScriptError → Type 0) (said : (t : List ℕ) → P (Ok (line t)) → P (Ok (line []))) (names : Names) (n : ℕ) (ws : List Word) (text : List ℕ) where
  without_text : (f : Option Form) → P (line_means names n f ws text) → P (line_means names n f ws [])
  unfolding request_means
  without_text None p = p
  without_text (Some form.Example) p = p
  without_text (Some form.Clock) p = p
  without_text (Some form.Word) p = p
  without_text (Some form.Tcp) p = p
  without_text (Some form.Udp) p = p
  without_text (Some form.Icmp) p = p
  without_text (Some form.Raw) p = p
  without_text (Some (form.Plain x)) p = p
  without_text (Some (form.Switch x)) p = p
  without_text (Some (form.Counted x)) p = p
  without_text (Some (form.Optional x)) p = p
  without_text (Some (form.Bytes x)) p = p
  without_text (Some form.Listen) p = p
  without_text (Some form.Bind) p = p
  without_text (Some form.Congestion) p = p
  without_text (Some form.Rules) p = p
  without_text (Some form.Checksums) p = p
  without_text (Some form.Ends) p = p
  without_text (Some form.Take) p = p
  without_text (Some form.Deliver) p = p
  without_text (Some form.Line) p = said _ p
  without_text (Some form.Expect) p = p

said_has_no_fault : (e : ScriptError) (t : List ℕ) → IsFault (Ok (line t)) e → IsFault (Ok (line [])) e
said_has_no_fault fault.Memory t x = x
said_has_no_fault (fault.NoPairLine k) t x = absurd cc
said_has_no_fault (fault.UnknownEvent k) t x = absurd cc
said_has_no_fault (fault.WrongNumberOfWords k) t x = absurd cc
said_has_no_fault (fault.BadWord k) t x = absurd cc

-- ---- a line, and those behind it

-- the fault of a line is that of its lines
pub first_faults : (names : Names) (lines more : List (ℕ × List Word)) (l : Line) (e : ScriptError) → lines ≡ (l.number, l.name.now ∷ words_of l.values.now) ∷ more → IsFault (meaning names l) e → FirstFaults names lines e
first_faults names lines more l e are x = rw are (without_text (λ m. IsFault m e) (said_has_no_fault e) names l.number (words_of l.values.now) l.values.now (form_of l.name.now) x)

-- what a line asks for, and the names behind it, lead to the lines behind it
pub goes_on : (names after : Names) (lines more : List (ℕ × List Word)) (l : Line) (r : RequestValue) → lines ≡ (l.number, l.name.now ∷ words_of l.values.now) ∷ more → meaning names l ≡ Ok r → after ≡ names_after names (words_of l.values.now) r → first_fault lines names ≡ first_fault more after
unfolding first_fault
goes_on names after lines more l r are means is_after =
    let ws = words_of l.values.now in
    let k = fault_or (first_fault more) names ws in
    let same : k (meaning names l) ≡ k (words_mean names l.number (l.name.now ∷ ws)) =
    without_text (λ m. k (meaning names l) ≡ k m) (λ t p. p) names l.number ws l.values.now (form_of l.name.now) refl in
    rw (are, is_after) (sym same ∙ ap k means)

fault_first : (names : Names) (l : ℕ × List Word) (more : List (ℕ × List Word)) (e : ScriptError) → words_mean names l.0 l.1 ≡ Err e → first_fault (l ∷ more) names ≡ Some e
unfolding first_fault
fault_first names l more e x = rw x refl

-- the first fault is that of the first of the lines that are left
pub is_first_fault : (names : Names) (lines : List (ℕ × List Word)) (e : ScriptError) → FirstFaults names lines e → IsFirstFault (first_fault lines names) e
is_first_fault names [] e x = absurd x
is_first_fault names (l ∷ more) fault.Memory x = tt
is_first_fault names (l ∷ more) (fault.NoPairLine k) x = fault_first names l more (fault.NoPairLine k) x
is_first_fault names (l ∷ more) (fault.UnknownEvent k) x = fault_first names l more (fault.UnknownEvent k) x
is_first_fault names (l ∷ more) (fault.WrongNumberOfWords k) x = fault_first names l more (fault.WrongNumberOfWords k) x
is_first_fault names (l ∷ more) (fault.BadWord k) x = fault_first names l more (fault.BadWord k) x

pub no_more : (names : Names) → first_fault [] names ≡ None
unfolding first_fault
no_more names = refl

-- ---- what a reader does

pub asked : (old new : Reader) (read : Numbered) → Asks old new read → first_fault (left old) (known old) ≡ first_fault (left new) (known new)
asked old new read a = goes_on (known old) (known new) (left old) (left new) (line_of read) (request_value read.request) a.0 a.1 a.2

pub shorter : (old new : Reader) (read : Numbered) → Asks old new read → length (left new) < length (left old)
shorter old new read a = omega (arith, ap length a.0)

pub failed : (r : Reader) (e : ScriptError) → FirstFaults (known r) (left r) e → IsFirstFault (first_fault (left r) (known r)) e
failed r e x = is_first_fault (known r) (left r) e x

pub ended : (r : Reader) → left r ≡ [] → first_fault (left r) (known r) ≡ None
ended r e = ap (λ ls. first_fault ls (known r)) e ∙ no_more (known r)

pub began : (r : Reader) (text : List ℕ) → left r ≡ lines_left 1 text → known r ≡ [] → fault_of text ≡ first_fault (left r) (known r)
began r text lines names = rw (lines, names) refl
