-- `enqueue` appends a packet of the bytes that stand in the storage, and then lends them. Assumes `Logic`.
use Rattle.std.proofs.Common.{arith, ◌≡◌, ℕ, ◌+◌, ◌≤◌, List, [], ◌∷◌, ◌++◌, length, take, drop as without, Some, refl, sym, ap, ◌∙◌}
use Rattle.std.specs.Prelude.{Ok, Err, IsOk, IsTrue, ◌↔◌, ⊤}
use Rattle.std.proofs.raw_atomic.Walks.{proved, leaves}
use Rattle.std.proofs.raw_atomic.Calls.{fm}
use mathlib.Core.Option.{none, some as has}
use mathlib.Core.List.{mem-append_left, mem-append_right}
use lib.ListN.{length-drop}
use borrow.Table.Elements.{length-take-le}
use mathlib.Core.Bool.{Bool, true, false, not}
use mir.Syntax.{w64, a_type, dcons, dnil, named}
use mir.Val.{Val, vptr, vint, vstruct, vnil, of_list}
use mir.MapTy.{inst_fn}
use base.Logic.{SProp, emp, id⊢, wand, apply∗}
use base.Fraction.{full_share}
use base.Share
use base.Fml.{fdead, Incl, Incl-trans, Lft, Share, Fml, GName, ftrue, fsep, flft, fres}
use types.Kit.{at_ret, rewrite, fpick, feq_l, ‵, raw, ◌⊛◌, some, later, ◌$◌, ◌∵◌, !, qed, by, move, keep, drop, split, join, fsplit, fsplit3, fjoin, pick, await, use0, use1, use2, use3}
use types.Run.{lit, un, fld, first, branches, skips, exec, returns_within, stop, addr, of_opd, no_more, and_then, returns, enter}
use types.ByLocal.{alloc_all, pass_all, free_all, look_at, get, through, sets, lands_as, get_in, env}
use types.Part.{agg, sub, whole}
use types.Match.{live}
use types.Tokens.{lft_end, lft_new}
use lib.Dec.{lit<, T}
use contract.Monad.{fact, fact_i}
use contract.Running.{tables}
use contract.BorrowLft.{◌⊑◌}
use denote.Builtin.{usize, u8, bool}
use denote.Exit.{yes, no}
use denote.Follow.{follows, follows_if}
use denote.Laws.{Is, shows}
use denote.Plain.{uint_vals, uint_Tells, uint_Makes}
use denote.Lend.{lends_again, comes_back, LentAgain}
use denote.Slice.{MutSlice, slice_val}
use denote.Array.{Array}
use denote.Param.{copied, bounded}
use denote.Param.Laws.{copied_laws, copied_copy}
use denote.RattleType.{RattleType, owns}
use denote.Ref.{MutBor, MutRef, mut_vals, mut_Tells}
use denote.Signature.{types_at, plain, mut_ref_to, named_lft}
use denote.Steps.{nothing, heard, owned, peeks, only}
use denote.Struct.Tuple.{Tuple}
use denote.Triple.Call.{calls_at}
use denote.Triple.Clauses.{lasts}
use denote.Triple.Spec.{triple_of}
use denote.Triple.Walked.{Stays, stay_dropped, walk_of, Goes-spent_ref, Goes-dropped}
use Rattle.net_base.specs.Packets.{Packets, Claims, takes, made_room, appended, end_of}
use Rattle.std.proofs.lemmas.Bool.{false≢true}
use Rattle.net_base.specs.declared.packet_buffer.Full.{Full}
use Rattle.net_base.specs.PacketLends.{with_all, with_packet, around}
use Rattle.net_base.proofs.LentRun.{full_result, ok_of, full_err, ends_unlent, ends_lent}
use Rattle.net_base.proofs.PacketLists.{made_room-storage}
use Rattle.std.proofs.VecSteps.Shapes.{after}
use Rattle.net_base.specs.contracts.packet_buffer.PacketBuffer.claim as K
use Rattle.net_base.proofs.packet_buffer.PacketBuffer.claim.Met.{met as claim_met}
use Rattle.net_base.specs.contracts.packet_buffer.PacketBuffer.part_mut as B
use Rattle.net_base.proofs.packet_buffer.PacketBuffer.part_mut.Met.{met as part_met}
use Rattle.net_base.specs.contracts.packet_buffer.PacketBuffer.{the_row}
use Rattle.net_base.specs.contracts.packet_buffer.PacketBuffer.enqueue as F
use Rattle.net_base.specs.contracts.packet_buffer.PacketBuffer.enqueue.Key.{name as #self}
use Rattle.net_base.proofs.packet_buffer.PacketBuffer.enqueue.Statement.{statement}
use Rattle.net_base.proofs.packet_buffer.PacketBuffer.enqueue.Code as code

refused : (t : Bool) → T (not t) → t ≡ false
refused true h = absurd h
refused false h = refl

granted : (t : Bool) → T (not (not t)) → t ≡ true
granted true h = refl
granted false h = absurd h

pub enqueue_spec : {M : Type 1} → statement M
enqueue_spec 𝓤 𝓛 𝓜 𝓡 wired X Xl Xc gc dc bd =
    let H = 𝓛.H in let 𝓣 = tables 𝓤 H 𝓜 𝓡 𝓡.env in let C : RattleType = copied 0 X in let En = F.ended X gc dc in let c = F.clauses X gc dc 𝓛 𝓜.mem 𝓡.returns in
    let Cc = copied_copy 0 X Xc in let inst = bounded (a_type ∷ []) (X, tt) (dcons dc dnil) in let fn = inst_fn inst code.function in
    let P = plain (λ κs. the_row (named_lft 3 1 tt κs) C) in
    let hs : Stays En.signature.params En.kept = (stay_dropped (mut_ref_to (0 ∷ []) tt P) no, (stay_dropped (plain (λ _. usize)) yes, (stay_dropped (plain (λ _. C)) no, tt))) in
    proved 𝓛 En hs c 𝓜 𝓡 (Goes-spent_ref 𝓛 3 (0 ∷ []) tt P, (Goes-dropped 𝓛 3 (plain (λ _. usize)) yes (λ κs x f. refl), (Goes-dropped 𝓛 3 (plain (λ _. C)) no (λ κs x f. refl), tt)))
    (#self inst) fn (code.unfolded 𝓤 H 𝓜 𝓡 wired (X, tt) dc)
    (λ κs. (mut_vals, (uint_vals w64, ((λ h. Cc.val h ∷ []), tt)))) (λ κs. (mut_Tells (named 0) κs.0 (the_row (named_lft 3 1 tt κs) C), (uint_Tells w64, (Cc.tells, tt)))) (λ κs qs bounds a gh are.
    let κ : Lft = κs.0 in let q : Share = qs.0 in let b : ℕ = a.0.ref_ptr.0 in let o : ℕ = a.0.ref_ptr.1 in let γ : GName = a.0.ghost_name in
    let size : ℕ = a.1.0 in let header : X.Denot = a.1.1.0 in
    let R : RattleType = the_row (named_lft 3 1 tt κs) C in let old : Packets X.Denot = a.0.now in
    let others : Fml = fsep (flft κs.1.0 qs.1.0) (fsep (flft κs.1.1.0 qs.1.1.0) ftrue) in
    let vals : List Val × (List Val × (List Val × Unit {0})) = (vptr b o ∷ [], (vint w64 size ∷ [], (Cc.val header ∷ [], tt))) in
    let y : (walk_of 𝓛 En hs c).Ghost = ((κs, qs, bounds, a, vals), gh) in
    let Post : Val → SProp 𝓤 = (walk_of 𝓛 En hs c).post y in
    let Asked : Type 0 = κs.1.1.0 ⊑ X.lives in
    qed 𝓛 ((‵ (fsep (flft κ q) others) ⊛ ‵ (owns (types_at En.signature.params κs) a vals)) ∷ (raw (fact 𝓤 Asked) ⊛ raw (emp 𝓤)) ∷ []) ∵
    move ! (1 ∷ []) $ split ! $ heard ! Asked (λ asked. drop ! $ split ! $ fsplit ! $ move ! (2 ∷ []) $ fsplit ! $ move ! (1 ∷ []) $ fsplit ! $ move ! (1 ∷ []) $ fsplit ! $
    -- [the header; nothing; the size; the reference; the token of κ; the others]
    let typed = (((copied_laws 0 X Xl).lawful 𝓛).typed header (Cc.val header ∷ []) are.1.1.0).0 in
    enter ! 𝓣.C 𝓣.Λ fn (vptr b o ∷ vint w64 size ∷ Cc.val header ∷ []) Post $
    alloc_all ! (λ l. pass_all ! refl ((tt, tt), ((tt, record { fits = are.1.0.1 }), (typed, tt))) $
    sets ! (addr ! (through ! refl (stop !))) refl (tt, tt) $
    lft_new ! tt (λ α. let s : Share = Share.right q in let κ₁ : Lft = α ∷ κ in
    move ! (5 ∷ []) $ use1 𝓛 (‵ (flft κ (Share.left q)) ⊛ ‵ (flft κ s)) (𝓛.lfts.lft_split κ q) $ split ! $ move ! (2 ∷ []) $
    use1 𝓛 (‵ (flft (α ∷ []) s) ⊛ raw (wand 𝓤 (𝓛.A.lft (α ∷ []) s) (𝓛.A.lft (α ∷ []) full_share))) (𝓛.lfts.lft_carve α s) $ split ! $ move ! (0 ∷ 3 ∷ []) $
    use2 𝓛 (‵ (flft κ₁ s)) (𝓛.lfts.lft_meet (α ∷ []) κ s) $ move ! (6 ∷ 2 ∷ []) $
    use2 𝓛 (later (some (λ (δ : GName). ‵ ((MutRef (named 0) κ₁ R).own_val (record { ref_ptr = (b, o); ghost_name = δ; now = old }) (vptr b o ∷ [])) ⊛ ‵ (LentAgain R κ κ₁ (Share.left q) γ b o δ old))))
    (lends_again 𝓛 R (named 0) κ κ₁ (Share.left q) γ b o (named 0) old) $ await ! tt $ pick ! (λ δ. split ! $
    -- [the loan; what the lender keeps; the token of κ₁; α's way back; the header; nothing; the size; the others]
    move ! (4 ∷ 5 ∷ []) $ fjoin ! $ move ! (5 ∷ 0 ∷ []) $ fjoin ! $ move ! (1 ∷ 0 ∷ []) $ fjoin ! $ move ! (2 ∷ 4 ∷ []) $ join ! $ join ! $
    let G = triple_of 𝓛 (K.signature X) (K.spec X gc dc 𝓛 𝓜.mem 𝓡.returns) in
    let inc : Incl κ₁ κ = λ x m. mem-append_right (α ∷ []) m in
    let loan : MutBor (Packets X.Denot) = record { ref_ptr = (b, o); ghost_name = δ; now = old } in
    let z : G.Ghost = (((κ₁, κs.1), (s, qs.1), (Incl-trans inc bounds.0, (Incl-trans inc bounds.1.0, bounds.1.1)), (loan, a.1), vals), tt) in
    nothing ! $ use0 𝓛 (raw (fact 𝓤 Asked)) (fact_i 𝓤 Asked (emp 𝓤) asked) $ join ! $ move ! (1 ∷ 0 ∷ []) $ use2 𝓛 (raw (G.pre z)) (id⊢ 𝓤 _) $
    calls_at ! (fm 𝓛 𝓜 𝓡) G (claim_met 𝓤 𝓛 𝓜 𝓡 (code.calls-net_base::packet_buffer::PacketBuffer::claim 𝓡.env wired) X Xl Xc gc dc bd) z
    (and_then ! (get ! refl) (and_then ! (get ! refl) (and_then ! (get ! refl) (no_more !)))) (λ v. let Pair : RattleType = Tuple (bool ∷ usize ∷ []) in
    use1 𝓛 (later (some (λ (r : Bool × ℕ). ((‵ (flft κ₁ s) ⊛ ‵ others) ⊛ ‵ (Pair.own_val r (v ∷ []))) ⊛ some (λ (ws : Packets X.Denot × (Unit {0} × (Unit {0} × Unit {0}))). ‵ (lasts (K.ended X gc dc) (κ₁, κs.1) (loan, a.1) ws)
    ⊛ raw (fact 𝓤 (Claims size header old r.0 r.1 ws.0)))))) (id⊢ 𝓤 _) $
    await ! tt $ pick ! (λ r. split ! $ split ! $ split ! $ move ! (3 ∷ []) $ pick ! (λ ws. split ! $ fsplit ! $ fsplit ! $ move ! (3 ∷ []) $ heard ! _ (λ claimed.
    -- [res; the borrow; nothing; the token of κ₁; the others; the pair; what the lender keeps; α's way back]
    move ! (3 ∷ []) $ use1 𝓛 (‵ (flft (α ∷ []) s) ⊛ ‵ (flft κ s)) (𝓛.lfts.lft_unmeet (α ∷ []) κ s) $ split ! $ move ! (8 ∷ 0 ∷ []) $
    move ! (1 ∷ 0 ∷ []) $ use2 𝓛 (‵ (flft (α ∷ []) full_share)) (apply∗ 𝓤 (𝓛.A.lft (α ∷ []) s) (𝓛.A.lft (α ∷ []) full_share)) $ lft_end ! tt $
    use1 𝓛 (‵ (fdead κ₁)) (𝓛.lfts.dead-incl κ₁ (α ∷ []) (λ x m. mem-append_left κ m)) $ move ! (0 ∷ 7 ∷ 2 ∷ []) $
    use3 𝓛 (later (‵ ((MutRef (named 0) κ R).own_val (record { ref_ptr = (b, o); ghost_name = γ; now = ws.0 }) (vptr b o ∷ [])) ⊛ ‵ (flft κ (Share.left q))))
    (comes_back 𝓛 R (named 0) κ κ₁ (Share.left q) γ b o δ old ws.0) $ await ! tt $ split ! $ move ! (1 ∷ 2 ∷ []) $ use2 𝓛 (‵ (flft κ q)) (𝓛.lfts.lft_join κ q) $
    -- [the token of κ; the reference; the borrow; nothing; the others; the pair]
    move ! (5 ∷ []) $ fpick ! (λ vss. fsplit ! $ feq_l ! (λ whole_is. fsplit ! $
    feq_l ! (λ flag_is. fsplit ! $ peeks ! usize (Is usize) (shows 𝓛 usize) r.1 vss.1.0 (λ place_is.
    let from : ℕ = r.1 in let new : Packets X.Denot = ws.0 in let En₁ = env fn.locals l in
    lands_as ! (ap only (whole_is ∙ (λ j. vstruct (of_list (flag_is j ++ (place_is.0 j ++ []))) ∷ []))) refl (tt, (tt, (record { fits = place_is.1 }, tt))) $
    sets ! (of_opd ! (get_in ! (fld ! refl (stop !)) (sub ! 0 refl (whole !)))) refl (tt, tt) $
    sets ! (of_opd ! (get_in ! (fld ! refl (stop !)) (sub ! 1 refl (whole !)))) refl (tt, record { fits = place_is.1 }) $
    sets ! (un ! (get ! refl) tt) refl (tt, tt) $
    let Lent : RattleType = MutSlice (named 0) κ u8 in let Res : RattleType = full_result Lent in let F : List ℕ → Packets X.Denot = with_packet size header old in
    -- [the place; nothing; the token of κ; the reference; the borrow; nothing; the others]
    first ! $ branches ! (get ! refl)
    (λ no_room. let none_left : r.0 ≡ false = refused r.0 no_room in
    sets ! (agg ! (no_more !)) refl (tt, tt) $ sets ! (agg ! (and_then ! (lit ! tt) (and_then ! (get ! refl) (no_more !)))) refl (tt, (record { fits = lit< tt }, (tt, tt))) $
    returns_within ! Post refl (look_at ! 0 refl) $ free_all ! refl $ keep ! (3 ∷ 2 ∷ 6 ∷ []) $ fsplit3 ! $ keep ! (1 ∷ 3 ∷ 4 ∷ []) $
    use1 𝓛 (‵ (fres γ (R.coded.code new))) (𝓛.names.obs-res γ (R.coded.code new)) $ rewrite ! 0 (λ (p : Packets X.Denot). ‵ (fres γ (R.coded.code p))) (claimed.err none_left) refl $
    use1 𝓛 (‵ (follows_if R (Array u8 0) γ none F (made_room size old))) (ends_unlent 𝓛 R (Array u8 0) γ F (made_room size old)) $
    use0 𝓛 (‵ (Res.own_val (Err (record {})) (live 1 (of_list (vstruct vnil ∷ [])) ∷ []))) (full_err 𝓛 Lent) $
    let Variant : Type 0 = IsOk {T = MutBor (List ℕ)} {E = Full} (Err (record {})) ↔ IsTrue (takes size old) in
    use0 𝓛 (raw (fact 𝓤 ⊤)) (fact_i 𝓤 ⊤ (emp 𝓤) tt) $ use0 𝓛 (raw (fact 𝓤 ⊤)) (fact_i 𝓤 ⊤ (emp 𝓤) tt) $ join ! $
    use0 𝓛 (raw (fact 𝓤 Variant)) (fact_i 𝓤 Variant (emp 𝓤) ((λ k. absurd (false≢true k)), (λ k. absurd (false≢true (sym none_left ∙ claimed.variant ∙ k))))) $ join ! $
    -- [the facts; the result; what follows; the token of κ; the others]
    move ! (2 ∷ 0 ∷ []) $ join ! $ nothing ! $ nothing ! $ fjoin ! $ nothing ! $ fjoin ! $ nothing ! $ fjoin ! $ move ! (3 ∷ 4 ∷ []) $ join ! $ move ! (0 ∷ 1 ∷ 3 ∷ 2 ∷ []) $
    by ! (leaves 𝓛 En hs c y (live 1 (of_list (vstruct vnil ∷ []))) (Err (record {})) (tt, (tt, (tt, tt))) (tt, (tt, (tt, tt)))))
    (λ room. let some_left : r.0 ≡ true = granted r.0 room in
    skips ! $ exec ! 𝓣.C 𝓣.Λ En₁ (after 6 fn.body) (at_ret En₁ Post) $ sets ! (addr ! (through ! refl (stop !))) refl (tt, tt) $
    -- [the place; nothing; the token of κ; the reference; the borrow; nothing; the others]
    nothing ! $ owned ! usize _ (uint_Makes 𝓛 w64) size _ (refl, are.1.0.1) $ fjoin ! $ owned ! usize _ (uint_Makes 𝓛 w64) from _ (refl, place_is.1) $ fjoin ! $
    move ! (4 ∷ 0 ∷ []) $ fjoin ! $ move ! (3 ∷ 6 ∷ []) $ join ! $ join ! $
    let G₂ = triple_of 𝓛 (B.signature X) (B.spec X 𝓛 𝓜.mem 𝓡.returns) in
    let self : MutBor (Packets X.Denot) = record { ref_ptr = (b, o); ghost_name = γ; now = new } in
    let z₂ : G₂.Ghost = ((κs, qs, bounds, (self, (from, (size, tt))), (vptr b o ∷ [], (vint w64 from ∷ [], (vint w64 size ∷ [], tt)))), tt) in
    let Within : Type 0 = from + size ≤ length new.storage in
    use0 𝓛 (raw (fact 𝓤 Within)) (fact_i 𝓤 Within (emp 𝓤) (claimed.within some_left)) $ use0 𝓛 (raw (fact 𝓤 Asked)) (fact_i 𝓤 Asked (emp 𝓤) asked) $ join ! $
    move ! (1 ∷ 0 ∷ []) $ use2 𝓛 (raw (G₂.pre z₂)) (id⊢ 𝓤 _) $
    calls_at ! (fm 𝓛 𝓜 𝓡) G₂ (part_met 𝓤 𝓛 𝓜 𝓡 (code.calls-net_base::packet_buffer::PacketBuffer::part_mut 𝓡.env wired) X Xl) z₂
    (and_then ! (get ! refl) (and_then ! (get ! refl) (and_then ! (get ! refl) (no_more !)))) (λ u. let In : List ℕ → Packets X.Denot = λ w. with_all new (around new.storage from size w) in
    use1 𝓛 (later (some (λ (x : MutBor (List ℕ)). ((‵ (flft κ q) ⊛ ‵ others) ⊛ ‵ (Lent.own_val x (u ∷ []))) ⊛ some (λ (xs : Unit {0} × (Unit {0} × (Unit {0} × Unit {0}))). ‵ (lasts (B.ended X) κs (self, (from, (size, tt))) xs)
    ⊛ ‵ (follows R (Array u8 0) γ x.ghost_name In) ⊛ raw (fact 𝓤 (x.now ≡ take size (without from new.storage))))))) (id⊢ 𝓤 _) $
    await ! tt $ pick ! (λ x. split ! $ split ! $ split ! $ move ! (3 ∷ []) $ pick ! (λ xs. split ! $ drop ! $ split ! $ move ! (1 ∷ []) $ heard ! _ (λ part_is.
    -- [what follows; the token of κ; the others; the bytes]
    move ! (3 ∷ []) $ peeks ! Lent (Is Lent) (shows 𝓛 Lent) x (u ∷ []) (λ bytes_are.
    lands_as ! (ap only bytes_are.0.0) refl (tt, (tt, (record { fits = bytes_are.0.1.0 }, tt))) $
    sets ! (agg ! (and_then ! (lit ! tt) (and_then ! (get ! refl) (no_more !)))) refl (tt, (record { fits = lit< tt }, ((tt, (record { fits = bytes_are.0.1.0 }, tt)), tt))) $
    let word : Val = slice_val x.ref_ptr (length x.now) in
    let from_is : from ≡ end_of (made_room size old) = claimed.place some_left in
    let new_is : new ≡ appended (Some header) size (made_room size old) = claimed.after some_left in
    let storage_is : new.storage ≡ old.storage = ap (λ (p : Packets X.Denot). p.storage) new_is ∙ made_room-storage size old in
    let same : In ≡ F = λ i w. with_all (new_is i) (around (storage_is i) (from_is i) size w) in
    rewrite ! 0 (λ (us : List Val). ‵ (Lent.own_val x us)) bytes_are.0.0 refl $ move ! (1 ∷ []) $
    rewrite ! 0 (λ (g : List ℕ → Packets X.Denot). ‵ (follows R (Array u8 0) γ x.ghost_name g)) same refl $
    use1 𝓛 (‵ (follows_if R (Array u8 0) γ (has x.ghost_name) F (made_room size old))) (ends_lent 𝓛 R (Array u8 0) γ F (made_room size old) x.ghost_name) $ move ! (1 ∷ []) $
    use1 𝓛 (‵ (Res.own_val (Ok x) (live 0 (of_list (word ∷ [])) ∷ []))) (ok_of 𝓛 Lent x word) $
    returns ! (look_at ! 0 refl) $ free_all ! refl $ keep ! (0 ∷ 1 ∷ 2 ∷ 3 ∷ []) $
    let Variant : Type 0 = IsOk {T = MutBor (List ℕ)} {E = Full} (Ok x) ↔ IsTrue (takes size old) in
    let Size : Type 0 = length x.now ≡ size in let Value : Type 0 = x.now ≡ take size (without (end_of (made_room size old)) old.storage) in
    use0 𝓛 (raw (fact 𝓤 Value)) (fact_i 𝓤 Value (emp 𝓤) (part_is ∙ (λ i. take size (without (from_is i) (storage_is i))))) $
    use0 𝓛 (raw (fact 𝓤 Size)) (fact_i 𝓤 Size (emp 𝓤) (ap length part_is ∙ length-take-le size (without from new.storage) (omega (arith, length-drop from new.storage, claimed.within some_left)))) $ join ! $
    use0 𝓛 (raw (fact 𝓤 Variant)) (fact_i 𝓤 Variant (emp 𝓤) ((λ _. sym claimed.variant ∙ some_left), (λ _. refl))) $ join ! $
    -- [the facts; the result; what follows; the token of κ; the others]
    move ! (2 ∷ 0 ∷ []) $ join ! $ nothing ! $ nothing ! $ fjoin ! $ nothing ! $ fjoin ! $ nothing ! $ fjoin ! $ move ! (3 ∷ 4 ∷ []) $ join ! $ move ! (0 ∷ 1 ∷ 3 ∷ 2 ∷ []) $
    by ! (leaves 𝓛 En hs c y (live 0 (of_list (word ∷ []))) (Ok x) (tt, (tt, (tt, tt))) (tt, (tt, (tt, tt)))))))))))))))))))))))
