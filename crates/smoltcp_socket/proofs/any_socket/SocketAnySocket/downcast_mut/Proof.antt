-- `downcast_mut` of the enum itself hands the reference on that it was given. Assumes `Logic`.
use mathlib.Core.Path.{◌≡◌, refl}
use mathlib.Core.Option.{some as has}
use mathlib.Core.List.{[], ◌∷◌}
use seplogic.Ra.Ura.{Ura}
use lib.Dec.{lit<}
use mir.Syntax.{Args, Fn, a_type, named}
use mir.Val.{Val, vptr, of_list}
use mir.MapTy.{inst_fn}
use base.Logic.{ent, emp, wand}
use base.Fml.{Fml, GName, Lft, Share, ftrue, fsep, fex, feq, flft, fres, fauth}
use types.Logic.{Logic, sem}
use types.Kit.{Item, ‵, raw, ◌⊛◌, ◌$◌, ◌∵◌, !, qed, move, keep, use0, use1, split, join, fsplit, fjoin, feq_i, fpack, each, assume, by, done}
use types.Run.{stop, addr, returns, enter, lit, and_then, no_more}
use types.Part.{agg}
use types.Match.{live}
use types.ByLocal.{alloc_all, pass_all, free_all, look_at, get, through, sets}
use contract.Monad.{fact, fact_i}
use contract.Running.{tables}
use denote.Follow.{follows, follows_if}
use denote.Param.{layouts}
use denote.RattleType.{RattleType, owns}
use denote.Ref.{MutRef, mut_vals, mut_Tells}
use denote.Signature.{types_at, plain}
use denote.Steps.{nothing}
use denote.Triple.Walked.{Goes-spent_ref}
use Rattle.std.proofs.raw_atomic.Walks.{proved, leaves}
use Rattle.std.proofs.VecSteps.Element.{Some-of}
use Rattle.std.specs.Prelude.{Some}
use Rattle.std.specs.contracts.option.Option as option
use Rattle.smoltcp_socket.specs.contracts.any_socket.SocketAnySocket.downcast_mut.Key.{name}
use Rattle.smoltcp_socket.proofs.LentVariant.{follows_some}
use Rattle.smoltcp_socket.proofs.LentKind.{Whole, ended, stayed, clauses}
use Rattle.smoltcp_socket.proofs.any_socket.SocketAnySocket.downcast_mut.Statement.{statement}
use Rattle.smoltcp_socket.proofs.any_socket.SocketAnySocket.downcast_mut.Code as code

-- what stands behind a reference follows what stands behind the same reference
follows_same : {M : Type 1} {𝓤 : Ura M} (𝓛 : Logic 𝓤) (R : RattleType) (γ : GName) → ent 𝓤 (emp 𝓤) (sem 𝓛 (follows R R γ γ (λ w. w)))
follows_same {𝓤 = 𝓤} 𝓛 R γ =
    let A = 𝓛.A in let From : R.Denot → R.Denot → Fml = λ z w. fsep (feq R.Denot z w) (fauth γ (R.coded.code w)) in
    let said = qed 𝓛 [] ∵ each ! (λ (w : R.Denot). wand 𝓤 (A.res γ (R.coded.code w)) (A.res γ (R.coded.code w))) (λ w. assume ! (‵ (fres γ (R.coded.code w))) $ done !) in
    let back = qed 𝓛 [] ∵ each ! (λ (z : R.Denot). wand 𝓤 (A.auth γ (R.coded.code z)) (sem 𝓛 (fex R.Denot (From z)))) (λ z. assume ! (‵ (fauth γ (R.coded.code z))) $
    feq_i ! R.Denot z z refl $ fjoin ! $ fpack ! R.Denot (From z) z $ done !) in
    record { apply = λ a p. (said.apply a p, back.apply a p) }

pub downcast_mut_spec : {M : Type 1} → statement M
downcast_mut_spec 𝓤 𝓛 𝓜 𝓡 wired G L =
    let args : Args = layouts (a_type ∷ []) (G, tt) in let function : Fn = inst_fn args code.function in
    let 𝓣 = tables 𝓤 𝓛.H 𝓜 𝓡 𝓡.env in let T = ended G (Whole G) (λ κs h. h) (λ κs. Some) in let hs = stayed G (Whole G) (λ κs h. h) (λ κs. Some) in
    let c = clauses G (Whole G) (λ κs h. h) (λ κs. Some) 𝓛 in
    proved 𝓛 T hs c 𝓜 𝓡 (Goes-spent_ref 𝓛 3 (0 ∷ []) tt (plain (Whole G)), tt) (name args) function (code.unfolded 𝓤 𝓛.H 𝓜 𝓡 wired (G, tt))
    (λ κs. (mut_vals, tt)) (λ κs. (mut_Tells (named 0) κs.0 (Whole G κs), tt)) (λ κs qs bounds a g are.
    let κ : Lft = κs.0 in let q : Share = qs.0 in let R : RattleType = Whole G κs in let Ref : RattleType = MutRef (named 0) κ R in
    let r = a.0 in let v : Val = vptr r.ref_ptr.0 r.ref_ptr.1 in let γ : GName = r.ghost_name in let out : Val = live 1 (of_list (v ∷ [])) in
    let left : Item 𝓤 = ‵ (flft κs.1.0 qs.1.0) ⊛ ‵ (flft κs.1.1.0 qs.1.1.0) ⊛ ‵ ftrue in
    qed 𝓛 (((‵ (flft κ q) ⊛ left) ⊛ ‵ (owns (types_at T.signature.params κs) a (v ∷ [], tt))) ∷ raw ((c κs a).requires g) ∷ []) ∵
    split ! $ split ! $ move ! (2 ∷ []) $ fsplit ! $ keep ! (0 ∷ 2 ∷ 3 ∷ []) $
    -- [the reference; the token; what is left of the others]
    enter ! 𝓣.C 𝓣.Λ function (v ∷ []) _ $ alloc_all ! (λ l. pass_all ! refl ((tt, tt), tt) $
    sets ! (addr ! (through ! refl (stop !))) refl (tt, tt) $
    sets ! (agg ! (and_then ! (lit ! tt) (and_then ! (get ! refl) (no_more !)))) refl (tt, (record { fits = lit< tt }, (tt, tt))) $
    returns ! (look_at ! 0 refl) $ free_all ! refl $ keep ! (0 ∷ 1 ∷ 2 ∷ []) $
    use1 𝓛 (‵ ((option.the_row Ref).own_val (Some r) (out ∷ []))) (Some-of 𝓛 Ref r v) $
    use0 𝓛 (‵ (follows R R γ γ (λ w. w))) (follows_same 𝓛 R γ) $
    use1 𝓛 (‵ (follows_if R R γ (has γ) (λ w. w) r.now)) (follows_some R R (λ w. w) r.now γ 𝓛 γ) $
    let Value : Type 0 = Some r.now ≡ Some r.now in
    use0 𝓛 (raw (fact 𝓤 Value)) (fact_i 𝓤 Value (emp 𝓤) refl) $ move ! (1 ∷ 0 ∷ []) $ join ! $ move ! (1 ∷ 0 ∷ []) $
    -- [the result; the clauses; the token; what is left of the others]
    nothing ! $ nothing ! $ fjoin ! $ move ! (3 ∷ 4 ∷ []) $ join ! $
    by ! (leaves 𝓛 T hs c ((κs, qs, bounds, a, (v ∷ [], tt)), tt) out (Some r) (tt, tt) (tt, tt))))
