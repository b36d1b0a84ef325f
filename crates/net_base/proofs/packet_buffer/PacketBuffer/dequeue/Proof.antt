-- `dequeue` takes the first packet, and then lends its bytes for reading. Assumes `Logic`.
use Rattle.std.proofs.Common.{◌≡◌, ℕ, ◌+◌, ◌≤◌, ◌<◌, List, [], ◌∷◌, length, take, drop as without, Bor, Option, None, Some, refl, sym, ap, ◌∙◌}
use Rattle.std.specs.Prelude.{Result, Ok, Err, IsOk, IsSome, IfOk, IfSome, ◌↔◌, ⊤}
use Rattle.std.proofs.raw_atomic.Walks.{proved, leaves}
use Rattle.std.proofs.raw_atomic.Calls.{fm}
use Rattle.std.specs.contracts.option.Option as option_type
use Rattle.std.specs.contracts.result.Result as result_type
use Rattle.std.proofs.option.Option.TheLaws.{the_row_laws as option_laws}
use Rattle.std.proofs.result.Result.TheLaws.{the_row_laws as result_laws}
use mathlib.Core.Option.{none}
use mir.Syntax.{a_type, dcons, dnil, named, erased}
use mir.Val.{Val, vptr}
use mir.MapTy.{inst_fn}
use base.Logic.{SProp, ent, sep, emp, id⊢}
use base.Fml.{Lft, Share, Fml, GName, ftrue, fsep, feq, flft, fres, fbor, fex}
use types.Logic.{sem}
use types.Kit.{‵, raw, ◌⊛◌, some, later, ◌$◌, ◌∵◌, !, qed, by, move, keep, drop, split, split3, join, fsplit, fsplit3, fjoin, fpack, pick, await, use0, use1, use2, use3, feq_i, suffices, done}
use types.Run.{stop, addr, of_opd, no_more, and_then, returns, enter}
use types.ByLocal.{alloc_all, pass_all, free_all, look_at, get, through, sets, lands_as}
use contract.Monad.{fact, fact_i}
use contract.Running.{tables}
use contract.BorrowLft.{◌⊑◌, ⊑_trans}
use denote.Builtin.{usize, u8}
use denote.Exit.{yes, no}
use denote.Follow.{follows_so}
use denote.Laws.{Is, shows}
use denote.Memory.{mem, hidden_shr}
use denote.Param.{copied, bounded}
use denote.Param.Laws.{Laws, copied_laws, of_field}
use denote.RattleType.{RattleType, owns}
use denote.Ref.{NamedLft, mut_vals, mut_Tells, shr_vals}
use denote.Shares.{Shares, Shares-less}
use denote.Signature.{types_at, type_at, plain, mut_ref_to, named_lft}
use denote.Steps.{nothing, heard, peeks}
use denote.Struct.Field.{u8-field, u64-field, shr_slice_field}
use denote.Struct.Laws.{u8-laws, u8-copy, u64-laws, u64-copy, shr_slice_laws, shr_slice_copy}
use denote.Param.Shared.{copy_shared}
use denote.Struct.Tuple.{Tuple, laws_at}
use denote.Triple.Call.{calls_at}
use denote.Triple.Clauses.{lasts}
use denote.Triple.Entry.{on_entry}
use denote.Triple.Spec.{triple_of}
use denote.Triple.Walked.{Stays, stay_dropped, walk_of, Goes-spent_ref}
use Rattle.net_base.specs.Packets.{Packets, packets, first_packet, Dequeues}
use Rattle.net_base.proofs.ReadOn.{read_on, ends_so}
use Rattle.net_base.proofs.Taken.{same_variant, same_value}
use Rattle.net_base.specs.contracts.packet_buffer.PacketBuffer.{the_row}
use Rattle.net_base.specs.contracts.packet_buffer.Empty as empty_type
use Rattle.net_base.proofs.packet_buffer.Empty.TheLaws.{the_row_laws as empty_laws}
use Rattle.net_base.proofs.packet_buffer.PacketBuffer.TheLaws.{the_row_laws as buffer_laws, the_within}
use Rattle.net_base.specs.contracts.packet_buffer.PacketBuffer.take_first as T
use Rattle.net_base.proofs.packet_buffer.PacketBuffer.take_first.Met.{met as take_first_met}
use Rattle.net_base.specs.contracts.packet_buffer.PacketBuffer.lent as L
use Rattle.net_base.proofs.packet_buffer.PacketBuffer.lent.Met.{met as lent_met}
use Rattle.net_base.specs.contracts.packet_buffer.PacketBuffer.dequeue as F
use Rattle.net_base.specs.contracts.packet_buffer.PacketBuffer.dequeue.Key.{name as #self}
use Rattle.net_base.proofs.packet_buffer.PacketBuffer.dequeue.Statement.{statement}
use Rattle.net_base.proofs.packet_buffer.PacketBuffer.dequeue.Code as code

pub dequeue_spec : {M : Type 1} → statement M
dequeue_spec 𝓤 𝓛 𝓜 𝓡 wired X Xl Xc gc dc bd =
    let H = 𝓛.H in let 𝓣 = tables 𝓤 H 𝓜 𝓡 𝓡.env in let C : RattleType = copied 0 X in let En = F.ended X gc dc in let c = F.clauses X gc dc 𝓛 𝓜.mem 𝓡.returns in
    let inst = bounded (a_type ∷ []) (X, tt) (dcons dc dnil) in let fn = inst_fn inst code.function in
    let P = plain (λ κs. the_row (named_lft 3 1 tt κs) C) in let hs : Stays En.signature.params En.kept = (stay_dropped (mut_ref_to (0 ∷ []) tt P) no, tt) in
    proved 𝓛 En hs c 𝓜 𝓡 (Goes-spent_ref 𝓛 3 (0 ∷ []) tt P, tt) (#self inst) fn (code.unfolded 𝓤 H 𝓜 𝓡 wired (X, tt) dc)
    (λ κs. (mut_vals, tt)) (λ κs. (mut_Tells (named 0) κs.0 (the_row (named_lft 3 1 tt κs) C), tt)) (λ κs qs bounds a gh are.
    let κ : Lft = κs.0 in let q : Share = qs.0 in let b : ℕ = a.0.ref_ptr.0 in let o : ℕ = a.0.ref_ptr.1 in let γ : GName = a.0.ghost_name in
    let R : RattleType = the_row (named_lft 3 1 tt κs) C in let old : Packets X.Denot = a.0.now in
    let others : Fml = fsep (flft κs.1.0 qs.1.0) (fsep (flft κs.1.1.0 qs.1.1.0) ftrue) in
    let y : (walk_of 𝓛 En hs c).Ghost = ((κs, qs, bounds, a, (mut_vals a.0, tt)), gh) in
    let Asked : Type 0 = κs.1.1.0 ⊑ X.lives in
    let G = triple_of 𝓛 (T.signature X) (T.spec X gc dc 𝓛 𝓜.mem 𝓡.returns) in
    let z : G.Ghost = ((κs, qs, bounds, a, (mut_vals a.0, tt)), tt) in
    let Place : RattleType = Tuple (usize ∷ usize ∷ []) in
    let size_laws : Laws usize = of_field u64-field u64-laws refl (copy_shared u64-field u64-copy) in
    let place_laws : Laws Place = laws_at (40 ∷ 44 ∷ 41 ∷ []) (usize ∷ usize ∷ []) (size_laws, (size_laws, tt)) in
    let taken_laws : Laws (Tuple (C ∷ Place ∷ [])) = laws_at (40 ∷ 44 ∷ 41 ∷ []) (C ∷ Place ∷ []) (copied_laws 0 X Xl, (place_laws, tt)) in
    let here : NamedLft = record { mir = named 0; lft = κ } in
    let Bytes : RattleType = (shr_slice_field here u8 tt).row in
    let byte_laws : Laws u8 = of_field u8-field u8-laws refl (copy_shared u8-field u8-copy) in
    let bytes_laws : Laws Bytes = of_field (shr_slice_field here u8 tt) (shr_slice_laws here u8 tt) refl (copy_shared (shr_slice_field here u8 tt) (shr_slice_copy here u8 tt byte_laws.shr_laws)) in
    let Lent : RattleType = Tuple (C ∷ Bytes ∷ []) in
    let lent_laws : Laws Lent = laws_at (40 ∷ 44 ∷ 41 ∷ []) (C ∷ Bytes ∷ []) (copied_laws 0 X Xl, (bytes_laws, tt)) in
    let Res : RattleType = result_type.the_row Lent empty_type.the_row in
    let laws = buffer_laws (named_lft 3 1 tt κs) C (copied_laws 0 X Xl) in
    let Taken : RattleType = option_type.the_row (Tuple (C ∷ Place ∷ [])) in
    qed 𝓛 (raw (on_entry 𝓛 En.signature κs qs a (mut_vals a.0, tt)) ∷ (raw (fact 𝓤 Asked) ⊛ raw (emp 𝓤)) ∷ []) ∵
    move ! (1 ∷ []) $ split ! $ heard ! Asked (λ asked. drop ! $
    let reads : Shares 𝓛 R κ = Shares-less 𝓛 R R.lives κ (the_within (named_lft 3 1 tt κs) C κ bounds.0 (⊑_trans κ κs.1.1.0 X.lives bounds.1.0 asked)) (laws.shares 𝓛) in
    nothing ! $ use0 𝓛 (raw (fact 𝓤 Asked)) (fact_i 𝓤 Asked (emp 𝓤) asked) $ join ! $ move ! (1 ∷ 0 ∷ []) $ use2 𝓛 (raw (G.pre z)) (id⊢ 𝓤 _) $
    enter ! 𝓣.C 𝓣.Λ fn (vptr b o ∷ []) ((walk_of 𝓛 En hs c).post y) $ alloc_all ! (λ l. pass_all ! refl ((tt, tt), tt) $
    sets ! (addr ! (through ! refl (stop !))) refl (tt, tt) $
    calls_at ! (fm 𝓛 𝓜 𝓡) G (take_first_met 𝓤 𝓛 𝓜 𝓡 (code.calls-net_base::packet_buffer::PacketBuffer::take_first 𝓡.env wired) X Xl Xc gc dc bd) z (and_then ! (get ! refl) (no_more !)) (λ v.
    use1 𝓛 (later (some (λ (r : Taken.Denot). ((‵ (flft κ q) ⊛ ‵ others) ⊛ ‵ (Taken.own_val r (v ∷ []))) ⊛ some (λ (ws : Packets X.Denot × Unit {0}). ‵ (lasts (T.ended X gc dc) κs a ws)
    ⊛ raw (fact 𝓤 (IsSome r ↔ (0 < length (packets old.entries)))) ⊛ raw (fact 𝓤 (Dequeues old ws.0)) ⊛ raw (fact 𝓤 (IfSome r (λ r. r.1.0 + r.1.1 ≤ length ws.0.storage)))
    ⊛ raw (fact 𝓤 (IfSome r (λ r. first_packet old ≡ Some (r.0, take r.1.1 (without r.1.0 ws.0.storage))))))))) (id⊢ 𝓤 _) $
    await ! tt $ pick ! (λ r. split ! $ split ! $ split ! $ move ! (3 ∷ []) $ pick ! (λ ws. split ! $ fsplit ! $ fsplit ! $
    -- [res; the borrow; nothing; the facts; the token of κ; the others; what was taken; the locals]
    move ! (6 ∷ []) $ peeks ! Taken (Is Taken) (shows 𝓛 Taken) r (v ∷ []) (λ is. let fits = (((option_laws (Tuple (C ∷ Place ∷ [])) taken_laws).lawful 𝓛).typed r (v ∷ []) is).0 in
    move ! (1 ∷ 2 ∷ 5 ∷ []) $ use3 𝓛 (later (‵ (hidden_shr R κ ws.0 b o) ⊛ ‵ (fres γ (R.coded.code ws.0)) ⊛ ‵ (flft κ q))) (read_on 𝓛 R b o γ ws.0 laws.shr_laws κ q reads) $
    await ! tt $ split3 ! $
    lands_as ! refl refl fits $ sets ! (addr ! (through ! refl (stop !))) refl (tt, tt) $ sets ! (of_opd ! (get ! refl)) refl fits $
    feq_i ! (List Val) (vptr b o ∷ []) (vptr b o ∷ []) refl $ fjoin ! $ move ! (3 ∷ 4 ∷ []) $ fjoin ! $ move ! (1 ∷ 0 ∷ []) $ fjoin ! $ move ! (2 ∷ 4 ∷ []) $ join ! $ join ! $
    -- [the tokens, and what the arguments own; res; the facts]
    move ! (2 ∷ []) $ split ! $ heard ! _ (λ of_variant. split ! $ heard ! (Dequeues old ws.0) (λ of_after. split ! $ heard ! _ (λ of_within. heard ! _ (λ of_some.
    let bor : Bor (Packets X.Denot) = record { ref_ptr = (b, o); now = ws.0 } in
    let G' = triple_of 𝓛 (L.signature X) (L.spec X gc dc 𝓛 𝓜.mem 𝓡.returns) in
    let z' : G'.Ghost = ((κs, qs, bounds, (bor, (r, tt)), (shr_vals bor, (v ∷ [], tt))), tt) in
    let Within : Type 0 = IfSome r (λ r. r.1.0 + r.1.1 ≤ length ws.0.storage) in
    use0 𝓛 (raw (fact 𝓤 Within)) (fact_i 𝓤 Within (emp 𝓤) of_within) $ use0 𝓛 (raw (fact 𝓤 Asked)) (fact_i 𝓤 Asked (emp 𝓤) asked) $ join ! $
    move ! (1 ∷ 0 ∷ []) $ use2 𝓛 (raw (G'.pre z')) (id⊢ 𝓤 _) $
    calls_at ! (fm 𝓛 𝓜 𝓡) G' (lent_met 𝓤 𝓛 𝓜 𝓡 (code.calls-net_base::packet_buffer::PacketBuffer::lent 𝓡.env wired) X Xl Xc gc dc bd) z' (and_then ! (get ! refl) (and_then ! (get ! refl) (no_more !))) (λ u.
    use1 𝓛 (later (some (λ (s : Res.Denot). ((‵ (flft κ q) ⊛ ‵ others) ⊛ ‵ (Res.own_val s (u ∷ []))) ⊛ some (λ (xs : Unit {0} × (Unit {0} × Unit {0})). ‵ (lasts (L.ended X gc dc) κs (bor, (r, tt)) xs)
    ⊛ raw (fact 𝓤 (IsOk s ↔ IsSome r)) ⊛ raw (fact 𝓤 (IfOk s (λ s. IfSome r (λ r. (r.0 ≡ s.0) × (take r.1.1 (without r.1.0 ws.0.storage) ≡ s.1.now))))))))) (id⊢ 𝓤 _) $
    await ! tt $ pick ! (λ s. split ! $ split ! $ split ! $ move ! (2 ∷ []) $ peeks ! Res (Is Res) (shows 𝓛 Res) s (u ∷ []) (λ is'.
    lands_as ! refl refl (((result_laws Lent empty_type.the_row lent_laws empty_laws).lawful 𝓛).typed s (u ∷ []) is').0 $
    move ! (3 ∷ []) $ pick ! (λ xs. split ! $ drop ! $ split ! $ heard ! _ (λ of_lent. heard ! _ (λ of_bytes.
    let Variant : Type 0 = IsOk s ↔ (0 < length (packets old.entries)) in
    let Value : Type 0 = IfOk s (λ s. first_packet old ≡ Some (s.0, s.1.now)) in
    returns ! (look_at ! 0 refl) $ free_all ! refl $ keep ! (3 ∷ 0 ∷ 1 ∷ 2 ∷ []) $
    use1 𝓛 (‵ (follows_so R R γ none (λ _ _. ⊤) (λ p. Dequeues old p))) (ends_so 𝓛 R b o γ ws.0 (λ p. Dequeues old p) of_after) $
    use0 𝓛 (raw (fact 𝓤 Value)) (fact_i 𝓤 Value (emp 𝓤) (same_value (first_packet old) ws.0.storage s r of_lent of_bytes of_some)) $
    use0 𝓛 (raw (fact 𝓤 Variant)) (fact_i 𝓤 Variant (emp 𝓤) (same_variant (length (packets old.entries)) s r of_lent of_variant)) $
    join ! $ move ! (1 ∷ 0 ∷ []) $ join ! $
    -- [the `ensures`; the result; the token of κ; the others]
    nothing ! $ nothing ! $ fjoin ! $ move ! (3 ∷ 4 ∷ []) $ join ! $ move ! (0 ∷ 1 ∷ 3 ∷ 2 ∷ []) $ by ! (leaves 𝓛 En hs c y u s (tt, tt) (tt, tt)))))))))))))))))))
