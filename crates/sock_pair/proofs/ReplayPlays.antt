-- What was written of a run.
use Rattle.std.proofs.Common.{◌≡◌, ℕ, List, Option, None, Some, IfSome, Ok, Bool, inr, ◌∙◌, sym, subst}
use Rattle.pair_core.specs.PairViews.{PairView}
use Rattle.sock_pair.specs.ReplayEnds.{StopsWriting}
use Rattle.sock_pair.specs.ReplayRuns.{IsScript, Plays, PlaysTo, Replays, begun_of}
use Rattle.sock_pair.specs.ScriptLines.{script_of, script_value}
use Rattle.pair_core.specs.declared.event.Event.{Event}
use Rattle.sock_pair.specs.declared.script.Script.{Script}
use Rattle.sock_pair.specs.declared.script.end.End.{End}
use Rattle.sock_pair.specs.declared.script.end.End.TheVariants as end

-- the buffers were there, and the run ended so
pub plays : {G : Type 0} (tells : G → ℕ → Type 0) (es : List Event) (p q : PairView G) (e : End) (old new : Option (List ℕ)) → PlaysTo tells es p q e old new → Plays tells es p e old new
plays tells es p q end.Done old new x = (q, x)
plays tells es p q end.Memory old new x = inr (q, x)
plays tells es p q end.Write old new x = tt
plays tells es p q end.Read old new x = tt
plays tells es p q (end.Script e) old new x = tt

-- a text that was read is the script that was parsed
script_read : (text : Option (List ℕ)) (read given : List ℕ) (s : Script) → IfSome text (λ t. t ≡ read) → given ≡ read → script_of given ≡ Ok (script_value s) → IsScript text s
script_read None read given s is same parsed = tt
script_read (Some t) read given s is same parsed = subst (λ xs. script_of xs ≡ Ok (script_value s)) (same ∙ sym is) parsed

replays_by : {G : Type 0} (tells : G → ℕ → Type 0) (text : Option (List ℕ)) (s : Script) (e : End) (failed : Bool) (old new : Option (List ℕ)) → IsScript text s → StopsWriting e failed → Plays tells s.events.items (begun_of s) e old new → Replays tells text e old new
replays_by tells text s end.Done failed old new is stops plays = (s, is, plays)
replays_by tells text s end.Write failed old new is stops plays = tt
replays_by tells text s end.Memory failed old new is stops plays = inr (s, is, plays)
replays_by tells text s end.Read failed old new is stops plays = absurd stops
replays_by tells text s (end.Script e) failed old new is stops plays = absurd stops

pub replays : {G : Type 0} (tells : G → ℕ → Type 0) (text : Option (List ℕ)) (read given : List ℕ) (s : Script) (e : End) (failed : Bool) (old new : Option (List ℕ)) → IfSome text (λ t. t ≡ read) → given ≡ read → script_of given ≡ Ok (script_value s) → StopsWriting e failed → Plays tells s.events.items (begun_of s) e old new → Replays tells text e old new
replays tells text read given s e failed old new is same parsed stops plays = replays_by tells text s e failed old new (script_read text read given s is same parsed) stops plays
