-- Why there was no run, or why it ended before the end of its drill.
use Rattle.socket_script.specs.declared.play.Stop.{Stop}
use Rattle.socket_script.specs.declared.play.Stop.TheVariants as stop

-- this holds where the text was no drill
abbrev pub IfNoDrill : Type 0 → Stop → Type 0
IfNoDrill same (stop.Script e) = same
IfNoDrill same stop.Write = Unit {0}
IfNoDrill same stop.Memory = Unit {0}
