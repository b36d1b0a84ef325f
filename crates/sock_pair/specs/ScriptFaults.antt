-- What is printed of a script's fault.
use Rattle.std.specs.Prelude.{ℕ, List, ◌++◌, codes, decimal}
use Rattle.sock_pair.specs.declared.script.error.ScriptError.{ScriptError}
use Rattle.sock_pair.specs.declared.script.error.ScriptError.TheVariants as fault

unfoldable pub at_line : ℕ → List ℕ → List ℕ
at_line n what = codes "line " ++ decimal n ++ codes ": " ++ what

abbrev pub fault_text : ScriptError → List ℕ
fault_text (fault.NoPairLine n) = at_line n (codes "no pair line")
fault_text (fault.UnknownEvent n) = at_line n (codes "unknown event")
fault_text (fault.WrongNumberOfWords n) = at_line n (codes "wrong number of words")
fault_text (fault.BadWord n) = at_line n (codes "bad word")
fault_text fault.Memory = codes "out of memory"
