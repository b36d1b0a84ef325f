-- `part_mut` lends all payload bytes, and then a run of them. Assumes `Logic`.
use Rattle.std.proofs.Common.{arith, ◌^◌, ◌≡◌, ℕ, ◌+◌, ◌-◌, ◌≤◌, ◌<◌, List, [], ◌∷◌, ◌++◌, length, take, drop as without, refl, sym, ap, ◌∙◌}
use Rattle.std.proofs.raw_atomic.Walks.{proved, leaves}
use Rattle.std.proofs.raw_atomic.Calls.{fm}
use lib.ListN.{take-append-drop, length-drop}
use borrow.Table.Elements.{at, at_mul, length-take-le}
use mir.Syntax.{w64, a_type, named}
use mir.Val.{Val, vptr, vint}
use mir.MapTy.{inst_fn}
use base.Logic.{SProp, emp, id⊢}
use base.Fml.{Lft, Share, Fml, GName, ftrue, fsep, flft}
use types.Kit.{‵, raw, ◌⊛◌, some, later, ◌$◌, ◌∵◌, !, qed, by, move, keep, drop, split, split3, join, fsplit, fjoin, pick, await, use0, use1, use2, rewrite}
use types.Run.{bin, fld, stop, addr, no_more, and_then, returns, enter}
use types.ByLocal.{alloc_all, pass_all, free_all, look_at, get, through, sets, lands_as, get_in, is}
use types.Part.{agg, sub, whole}
use contract.Monad.{fact, fact_i}
use contract.Running.{tables}
use contract.BorrowLft.{◌⊑◌}
use denote.Builtin.{usize, u8}
use denote.Exit.{yes, no}
use denote.Follow.{follows, follows_then}
use denote.Laws.{Is, shows}
use denote.Plain.{uint_vals, uint_Tells}
use denote.Slice.{MutSlice, Room, slice_val}
use denote.Array.{Array}
use denote.Param.{param, layouts}
use denote.RattleType.{RattleType, owns}
use denote.Ref.{MutBor, mut_vals, mut_Tells}
use denote.Signature.{types_at, plain, mut_ref_to, named_lft}
use denote.Steps.{nothing, heard, peeks, only}
use denote.Triple.Call.{calls_at}
use denote.Triple.Clauses.{lasts}
use denote.Triple.Spec.{triple_of}
use denote.Triple.Walked.{Stays, stay_dropped, walk_of, Goes-spent_ref, Goes-dropped}
use Rattle.net_base.specs.Packets.{Packets}
use Rattle.net_base.specs.PacketLends.{with_all, around}
use Rattle.net_base.proofs.LentRun.{lends_run}
use Rattle.net_base.specs.contracts.packet_buffer.PacketBuffer.{the_row}
use Rattle.net_base.specs.contracts.packet_buffer.PacketBuffer.all as A
use Rattle.net_base.proofs.packet_buffer.PacketBuffer.all.Met.{met as all_met}
use Rattle.net_base.specs.contracts.packet_buffer.PacketBuffer.part_mut as F
use Rattle.net_base.specs.contracts.packet_buffer.PacketBuffer.part_mut.Key.{name as #self}
use Rattle.net_base.proofs.packet_buffer.PacketBuffer.part_mut.Statement.{statement}
use Rattle.net_base.proofs.packet_buffer.PacketBuffer.part_mut.Code as code

pub part_mut_spec : {M : Type 1} → statement M
part_mut_spec 𝓤 𝓛 𝓜 𝓡 wired X Xl =
    let H = 𝓛.H in let 𝓣 = tables 𝓤 H 𝓜 𝓡 𝓡.env in let C : RattleType = param 0 X in let En = F.ended X in let c = F.clauses X 𝓛 𝓜.mem 𝓡.returns in
    let inst = layouts (a_type ∷ []) (X, tt) in let fn = inst_fn inst code.function in
    let P = plain (λ κs. the_row (named_lft 3 1 tt κs) C) in let number = Goes-dropped 𝓛 3 (plain (λ _. usize)) yes (λ κs x f. refl) in
    let hs : Stays En.signature.params En.kept = (stay_dropped (mut_ref_to (0 ∷ []) tt P) no, (stay_dropped (plain (λ _. usize)) yes, (stay_dropped (plain (λ _. usize)) yes, tt))) in
    proved 𝓛 En hs c 𝓜 𝓡 (Goes-spent_ref 𝓛 3 (0 ∷ []) tt P, (number, (number, tt))) (#self inst) fn (code.unfolded 𝓤 H 𝓜 𝓡 wired (X, tt))
    (λ κs. (mut_vals, (uint_vals w64, (uint_vals w64, tt)))) (λ κs. (mut_Tells (named 0) κs.0 (the_row (named_lft 3 1 tt κs) C), (uint_Tells w64, (uint_Tells w64, tt)))) (λ κs qs bounds a gh are.
    let κ : Lft = κs.0 in let q : Share = qs.0 in let b : ℕ = a.0.ref_ptr.0 in let o : ℕ = a.0.ref_ptr.1 in let γ : GName = a.0.ghost_name in
    let from : ℕ = a.1.0 in let size : ℕ = a.1.1.0 in
    let R : RattleType = the_row (named_lft 3 1 tt κs) C in let old : Packets X.Denot = a.0.now in
    let others : Fml = fsep (flft κs.1.0 qs.1.0) (fsep (flft κs.1.1.0 qs.1.1.0) ftrue) in
    let vals : List Val × (List Val × (List Val × Unit {0})) = (vptr b o ∷ [], (vint w64 from ∷ [], (vint w64 size ∷ [], tt))) in
    let y : (walk_of 𝓛 En hs c).Ghost = ((κs, qs, bounds, a, vals), gh) in
    let Post : Val → SProp 𝓤 = (walk_of 𝓛 En hs c).post y in
    let Asked : Type 0 = κs.1.1.0 ⊑ X.lives in let Within : Type 0 = from + size ≤ length old.storage in
    qed 𝓛 ((‵ (fsep (flft κ q) others) ⊛ ‵ (owns (types_at En.signature.params κs) a vals)) ∷ (raw (fact 𝓤 Asked) ⊛ raw (fact 𝓤 Within)) ∷ []) ∵
    move ! (1 ∷ []) $ split ! $ heard ! Asked (λ asked. heard ! Within (λ within. split ! $ fsplit ! $ move ! (2 ∷ []) $ fsplit ! $ move ! (1 ∷ []) $ fsplit ! $ move ! (1 ∷ []) $ fsplit ! $
    -- [the size; nothing; the place; the reference; the token of κ; the others]
    enter ! 𝓣.C 𝓣.Λ fn (vptr b o ∷ vint w64 from ∷ vint w64 size ∷ []) Post $
    alloc_all ! (λ l. pass_all ! refl ((tt, tt), ((tt, record { fits = are.1.0.1 }), ((tt, record { fits = are.1.1.0.1 }), tt))) $
    sets ! (addr ! (through ! refl (stop !))) refl (tt, tt) $
    nothing ! $ move ! (4 ∷ 0 ∷ []) $ fjoin ! $ move ! (4 ∷ 5 ∷ []) $ join ! $ join ! $
    let G = triple_of 𝓛 (A.signature X) (A.spec X 𝓛 𝓜.mem 𝓡.returns) in
    let z : G.Ghost = ((κs, qs, bounds, (a.0, tt), (vptr b o ∷ [], tt)), tt) in
    nothing ! $ use0 𝓛 (raw (fact 𝓤 Asked)) (fact_i 𝓤 Asked (emp 𝓤) asked) $ join ! $ move ! (1 ∷ 0 ∷ []) $ use2 𝓛 (raw (G.pre z)) (id⊢ 𝓤 _) $
    calls_at ! (fm 𝓛 𝓜 𝓡) G (all_met 𝓤 𝓛 𝓜 𝓡 (code.calls-net_base::packet_buffer::PacketBuffer::all 𝓡.env wired) X Xl) z (and_then ! (get ! refl) (no_more !)) (λ u.
    let Lent : RattleType = MutSlice (named 0) κ u8 in let F : List ℕ → Packets X.Denot = λ w. with_all old (around old.storage from size w) in
    use1 𝓛 (later (some (λ (x : MutBor (List ℕ)). ((‵ (flft κ q) ⊛ ‵ others) ⊛ ‵ (Lent.own_val x (u ∷ []))) ⊛ some (λ (xs : Unit {0} × Unit {0}). ‵ (lasts (A.ended X) κs (a.0, tt) xs)
    ⊛ ‵ (follows R (Array u8 0) γ x.ghost_name (with_all old)) ⊛ raw (fact 𝓤 (x.now ≡ old.storage)))))) (id⊢ 𝓤 _) $
    await ! tt $ pick ! (λ x. split ! $ split ! $ split ! $ move ! (3 ∷ []) $ pick ! (λ xs. split ! $ drop ! $ split ! $ move ! (1 ∷ []) $ heard ! (x.now ≡ old.storage) (λ all_is.
    -- [what follows; the token of κ; the others; all bytes]
    move ! (3 ∷ []) $ peeks ! Lent (Is Lent) (shows 𝓛 Lent) x (u ∷ []) (λ bytes_are.
    lands_as ! (ap only bytes_are.0.0) refl (tt, (tt, (record { fits = bytes_are.0.1.0 }, tt))) $
    let bytes : List ℕ = x.now in let p : ℕ = from + x.ref_ptr.1 in
    let enough : from + size ≤ length bytes = omega (arith, ap length all_is, within) in
    let room : length bytes < 2 ^ 64 = bytes_are.0.1.0 in
    let front : List ℕ = take from bytes in let mid : List ℕ = take size (without from bytes) in let back : List ℕ = without size (without from bytes) in
    let front_long : length front ≡ from = length-take-le from bytes (omega arith) in
    let mid_long : length mid ≡ size = length-take-le size (without from bytes) (omega (arith, length-drop from bytes)) in
    let cut : bytes ≡ front ++ (mid ++ back) = sym (take-append-drop from bytes) ∙ ap (λ (l : List ℕ). front ++ l) (sym (take-append-drop size (without from bytes))) in
    let on : at x.ref_ptr.1 1 (length front) ≡ p = omega (arith, at_mul x.ref_ptr.1 1 (length front), front_long) in
    let few : length mid < 2 ^ 64 = omega (arith, mid_long) in
    let mid_room : Room u8 (length mid) = (few, omega (arith, mid_long, bytes_are.0.1.1)) in
    let sum_fits : from + size < 2 ^ 64 = omega arith in
    let long_is : from + size - from ≡ length mid = omega (arith, mid_long) in
    sets ! (bin ! (get ! refl) (get ! refl) (record { fits = sum_fits })) refl (tt, record { fits = sum_fits }) $
    sets ! (bin ! (get_in ! (fld ! refl (stop !)) (sub ! 0 refl (whole !))) (get ! refl) tt) refl (tt, tt) $
    sets ! (is ! (bin ! (get ! refl) (get ! refl) (omega arith)) (ap (vint w64) long_is)) refl (tt, record { fits = few }) $
    sets ! (addr ! (through ! refl (stop !))) refl (tt, tt) $
    sets ! (agg ! (and_then ! (get ! refl) (and_then ! (get ! refl) (no_more !)))) refl (tt, (tt, (record { fits = few }, tt))) $
    -- [all bytes; what follows; the token of κ; the others]
    move ! (0 ∷ 2 ∷ []) $
    use2 𝓛 (later (some (λ (δ : GName). ‵ (Lent.own_val (record { ref_ptr = (x.ref_ptr.0, p); ghost_name = δ; now = mid }) (slice_val (x.ref_ptr.0, p) (length mid) ∷ [])) ⊛ ‵ (flft κ q)
    ⊛ ‵ (follows (Array u8 0) (Array u8 0) x.ghost_name δ (λ w. front ++ (w ++ back))))))
    (lends_run 𝓛 (named 0) κ q x.ref_ptr.0 x.ref_ptr.1 x.ghost_name u8 bytes front mid back cut p on mid_room (u ∷ [])) $ await ! tt $ pick ! (λ δ. split3 ! $
    -- [the run; the token of κ; what follows in the storage; what follows; the others]
    let out : MutBor (List ℕ) = record { ref_ptr = (x.ref_ptr.0, p); ghost_name = δ; now = mid } in let word : Val = slice_val (x.ref_ptr.0, p) (length mid) in
    let same : (λ (w : List ℕ). with_all old (front ++ (w ++ back))) ≡ F = λ i w. with_all old (take from (all_is i) ++ (w ++ without size (without from (all_is i)))) in
    move ! (3 ∷ 2 ∷ []) $ use2 𝓛 (‵ (follows R (Array u8 0) γ δ (λ w. with_all old (front ++ (w ++ back)))))
    (follows_then 𝓛 R (Array u8 0) (Array u8 0) (with_all old) (λ w. front ++ (w ++ back)) γ x.ghost_name δ) $
    rewrite ! 0 (λ (g : List ℕ → Packets X.Denot). ‵ (follows R (Array u8 0) γ δ g)) same refl $
    returns ! (look_at ! 0 refl) $ free_all ! refl $ keep ! (0 ∷ 1 ∷ 2 ∷ 3 ∷ []) $
    let Value : Type 0 = mid ≡ take size (without from old.storage) in
    use0 𝓛 (raw (fact 𝓤 Value)) (fact_i 𝓤 Value (emp 𝓤) (λ i. take size (without from (all_is i)))) $
    -- [the fact; what follows; the result; the token of κ; the others]
    move ! (1 ∷ 0 ∷ []) $ join ! $ nothing ! $ nothing ! $ fjoin ! $ nothing ! $ fjoin ! $ nothing ! $ fjoin ! $ move ! (3 ∷ 4 ∷ []) $ join ! $ move ! (0 ∷ 1 ∷ 3 ∷ 2 ∷ []) $
    by ! (leaves 𝓛 En hs c y word out (tt, (tt, (tt, tt))) (tt, (tt, (tt, tt))))))))))))))
