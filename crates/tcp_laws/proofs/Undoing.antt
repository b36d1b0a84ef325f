-- What undoes a recovery that was for nothing, and what decides that it was not.
use Rattle.std.proofs.Common.{◌≡◌, ℕ, Bool, true, false, not, ◌&&◌, ◌||◌, refl, ap, arith}
use Rattle.std.specs.Prelude.{if◌then◌else◌}
use Rattle.sock_core.specs.Congestion.{cubic_undone, reno_undone, undone}
use Rattle.sock_core.specs.declared.congestion.AnyController.{AnyController}
use Rattle.sock_core.specs.declared.congestion.AnyController.TheVariants as controller
use Rattle.sock_tcp.specs.Rfc.Recovery.{before_of, controller_after, echo_known, is_decided, is_undone, recovered, undone_by_blocks, undone_by_echo, undone_if}
use Rattle.sock_tcp.specs.Rfc.Undo.{may_undo, nothing_to_undo}
use Rattle.sock_tcp.specs.declared.undo.Undo.{Undo}
use Rattle.tcp_laws.specs.Undoing.{FirstEchoDecides, IsAtLeast, NothingIsUndoneTwice, UndoesWhatWasForNothing}

at_least : (c : AnyController) (n m : ℕ) → IsAtLeast (undone c n m) n m
unfolding undone reno_undone cubic_undone
at_least (controller.None x) n m = tt
at_least (controller.Reno r) n m = (omega arith, omega arith)
at_least (controller.Cubic c) n m = (omega arith, omega arith)

told : (u : Bool) (c : AnyController) (x : Undo) → u ≡ true → IsAtLeast (undone_if u c x) x.window x.threshold
told true c x e = at_least c x.window x.threshold
told false c x e = absurd cc

unmarked : (m u : Bool) → u ≡ true → (m && not u) ≡ false
unmarked true true e = refl
unmarked true false e = absurd cc
unmarked false u e = refl

cleared : (u d : Bool) (x : Undo) → u ≡ true → (if u || d then nothing_to_undo else x) ≡ nothing_to_undo
cleared true d x e = refl
cleared false d x e = absurd cc

cleared_so : (u d : Bool) (x : Undo) → d ≡ true → (if u || d then nothing_to_undo else x) ≡ nothing_to_undo
cleared_so true d x e = refl
cleared_so false true x e = refl
cleared_so false false x e = absurd cc

pub undoes : UndoesWhatWasForNothing
unfolding recovered
undoes v w s now e = record {
  controller = told (is_undone (before_of v s) w) (controller_after (before_of v s) (echo_known (before_of v s) w now) now) w.undo e;
  unmarked = unmarked _ (is_undone (before_of v s) w) e;
  nothing = cleared (is_undone (before_of v s) w) (is_decided (before_of v s) w) _ e;
}

pub decides : FirstEchoDecides
unfolding recovered
decides v w s now e = cleared_so (is_undone (before_of v s) w) (is_decided (before_of v s) w) _ e

pub undoes_once : NothingIsUndoneTwice
undoes_once b w e = ap (λ u. may_undo u && (undone_by_echo b w || undone_by_blocks b w)) e
