-- `send` appends a packet of the bytes that stand in the storage, and then lends them through the transmit buffer. Assumes `Logic`.
use Rattle.std.proofs.Common.{arith, ◌≡◌, ℕ, ◌+◌, ◌≤◌, List, [], ◌∷◌, ◌++◌, length, take, drop as without, subst, refl, sym, ap, ◌∙◌}
use Rattle.std.specs.Prelude.{Result, Ok, Err, if◌then◌else◌, ⊤}
use Rattle.std.specs.Borrow.{LendsSoOk}
use Rattle.std.proofs.raw_atomic.Walks.{proved, leaves}
use Rattle.std.proofs.raw_atomic.Calls.{fm}
use Rattle.std.proofs.VecSteps.Shapes.{after}
use Rattle.std.specs.contracts.result.Result as result_type
use mathlib.Core.List.{mem-append_right, mem-append_left}
use mathlib.Core.Bool.{Bool, true, false, not}
use lib.Dec.{lit<, T}
use lib.ListN.{length-drop}
use borrow.Table.Elements.{length-take-le}
use mir.Syntax.{w64, named}
use mir.Val.{Val, vptr, vint, vstruct, vnil, of_list}
use base.Fraction.{full_share}
use base.Logic.{SProp, emp, id⊢, wand, apply∗, via}
use base.Share
use base.Fml.{fdead, Incl, Incl-trans, Lft, Share, Fml, GName, ftrue, fsep, flft, fres}
use types.Kit.{at_ret, rewrite, fpick, feq_l, ‵, raw, ◌⊛◌, some, later, ◌$◌, ◌∵◌, !, qed, by, move, keep, drop, split, split3, join, fsplit, fsplit3, fjoin, pick, await, use0, use1, use2, use3}
use types.Run.{lit, un, fld, first, branches, skips, exec, returns_within, stop, addr, of_opd, no_more, and_then, returns, enter}
use types.ByLocal.{alloc_all, pass_all, free_all, look_at, get, through, sets, lands_as, get_in, env}
use types.Part.{agg, sub, whole}
use types.Match.{live}
use types.Tokens.{lft_end, lft_new}
use contract.Monad.{fact, fact_i}
use contract.Running.{tables}
use contract.BorrowLft.{◌⊑◌, ⊑_refl, ⊑_static}
use denote.Array.{Array}
use denote.Builtin.{usize, u8, bool, unit}
use denote.Exit.{yes, no}
use denote.Follow.{follows, follows_then}
use denote.Laws.{Is, shows}
use denote.Lend.{lends_again, comes_back, LentAgain}
use denote.Plain.{uint_vals, uint_Tells, uint_Makes}
use denote.RattleType.{RattleType, owns}
use denote.Ref.{MutBor, MutRef, NamedLft, mut_vals, mut_Tells}
use denote.Signature.{types_at, plain, mut_ref_to, named_lft}
use denote.Slice.{MutSlice, slice_val}
use denote.Steps.{nothing, heard, owned, peeks, only}
use denote.Struct.Tuple.{Tuple}
use denote.Triple.Call.{calls_at}
use denote.Triple.Clauses.{lasts}
use denote.Triple.Spec.{triple_of}
use denote.Triple.Walked.{Stays, stay_dropped, walk_of, Goes-spent_ref, Goes-dropped}
use Rattle.net_base.specs.Packets.{Packets, Claims, made_room, end_of}
use Rattle.net_base.specs.PacketLends.{with_all, around}
use Rattle.net_base.proofs.PacketLists.{made_room-storage}
use Rattle.net_base.specs.contracts.packet_buffer.PacketBuffer.part_mut as B
use Rattle.net_base.proofs.packet_buffer.PacketBuffer.part_mut.Met.{met as part_mut_met}
use Rattle.sock_dgram.specs.Datagrams.{stored}
use Rattle.sock_dgram.specs.Raw.{View, send_answer}
use Rattle.sock_dgram.specs.declared.raw.error.SendError.{SendError}
use Rattle.sock_dgram.specs.declared.raw.error.SendError.TheVariants as send_error
use Rattle.sock_dgram.specs.contracts.raw.error.SendError as error_type
use Rattle.sock_dgram.specs.contracts.raw.socket.Socket.{the_row}
use Rattle.sock_dgram.specs.contracts.raw.socket.Socket.claim as K
use Rattle.sock_dgram.proofs.raw.socket.Socket.claim.Met.{met as claim_met}
use Rattle.sock_dgram.specs.contracts.raw.socket.Socket.send as F
use Rattle.sock_dgram.specs.contracts.raw.socket.Socket.TheInside as inside
use Rattle.sock_dgram.specs.declared.raw.socket.Socket.{the_code}
use Rattle.sock_dgram.specs.declared.raw.socket.Socket.TheView.{view, invariant}
use Rattle.sock_dgram.proofs.raw.socket.Socket.TheInside.TheLaws.{the_loose}
use Rattle.sock_dgram.proofs.LentField.{place, lends_part}
use Rattle.net_base.specs.contracts.packet_buffer.PacketBuffer as packet_buffer
use Rattle.sock_dgram.proofs.Answering.{ok_of, err_of, ends_refused, ends_lent}
use Rattle.sock_dgram.proofs.Refusals.{raw_full_owned as full_owned, unit_laws}
use Rattle.sock_dgram.proofs.Claimed.{left_as}
use Rattle.sock_dgram.proofs.raw.socket.Socket.send.Statement.{statement}
use Rattle.sock_dgram.proofs.raw.socket.Socket.send.Code as code

refused : (t : Bool) → T (not t) → t ≡ false
refused true h = absurd h
refused false h = refl

granted : (t : Bool) → T (not (not t)) → t ≡ true
granted true h = refl
granted false h = absurd h

pub send_spec : {M : Type 1} → statement M
send_spec 𝓤 𝓛 𝓜 𝓡 wired =
    let H = 𝓛.H in let 𝓣 = tables 𝓤 H 𝓜 𝓡 𝓡.env in let En = F.ended in let c = F.clauses 𝓛 𝓜.mem 𝓡.returns in let fn = code.function in
    let P = plain (λ κs. the_row (named_lft 2 1 tt κs)) in
    let hs : Stays En.signature.params En.kept = (stay_dropped (mut_ref_to (0 ∷ []) tt P) no, (stay_dropped (plain (λ _. usize)) yes, tt)) in
    proved 𝓛 En hs c 𝓜 𝓡 (Goes-spent_ref 𝓛 2 (0 ∷ []) tt P, (Goes-dropped 𝓛 2 (plain (λ _. usize)) yes (λ κs x f. refl), tt)) F.Key.name fn (code.unfolded 𝓤 H 𝓜 𝓡 wired)
    (λ κs. (mut_vals, (uint_vals w64, tt))) (λ κs. (mut_Tells (named 0) κs.0 (the_row (named_lft 2 1 tt κs)), (uint_Tells w64, tt))) (λ κs qs bounds a gh are.
    let κ : Lft = κs.0 in let q : Share = qs.0 in let κ' : Lft = κs.1.0 in let q' : Share = qs.1.0 in let b : ℕ = a.0.ref_ptr.0 in let o : ℕ = a.0.ref_ptr.1 in let γ : GName = a.0.ghost_name in
    let size : ℕ = a.1.0 in let at : NamedLft = named_lft 2 1 tt κs in let R : RattleType = the_row at in let old : View = a.0.now in
    let others : Fml = fsep (flft κ' q') ftrue in
    let vals : List Val × (List Val × Unit {0}) = (vptr b o ∷ [], (vint w64 size ∷ [], tt)) in
    let y : (walk_of 𝓛 En hs c).Ghost = ((κs, qs, bounds, a, vals), gh) in
    let Post : Val → SProp 𝓤 = (walk_of 𝓛 En hs c).post y in
    let Left : View → List ℕ → Type 0 = λ v w. length w ≡ size → v ≡ record old { tx_buffer = stored tt w old.tx_buffer } in
    let Refused : View → Type 0 = λ v. v ≡ record old { tx_buffer = made_room size old.tx_buffer } in
    qed 𝓛 ((‵ (fsep (flft κ q) others) ⊛ ‵ (owns (types_at En.signature.params κs) a vals)) ∷ ‵ ftrue ∷ []) ∵
    move ! (1 ∷ []) $ drop ! $ split ! $ fsplit ! $ move ! (2 ∷ []) $ fsplit ! $ move ! (1 ∷ []) $ fsplit ! $
    -- [the size; nothing; the reference; the token of κ; the others]
    enter ! 𝓣.C 𝓣.Λ fn (vptr b o ∷ vint w64 size ∷ []) Post $
    alloc_all ! (λ l. pass_all ! refl ((tt, tt), ((tt, record { fits = are.1.0.1 }), tt)) $
    sets ! (addr ! (through ! refl (stop !))) refl (tt, tt) $
    lft_new ! tt (λ α. let s : Share = Share.right q in let κ₁ : Lft = α ∷ κ in
    move ! (4 ∷ []) $ use1 𝓛 (‵ (flft κ (Share.left q)) ⊛ ‵ (flft κ s)) (𝓛.lfts.lft_split κ q) $ split ! $ move ! (2 ∷ []) $
    use1 𝓛 (‵ (flft (α ∷ []) s) ⊛ raw (wand 𝓤 (𝓛.A.lft (α ∷ []) s) (𝓛.A.lft (α ∷ []) full_share))) (𝓛.lfts.lft_carve α s) $ split ! $ move ! (0 ∷ 3 ∷ []) $
    use2 𝓛 (‵ (flft κ₁ s)) (𝓛.lfts.lft_meet (α ∷ []) κ s) $ move ! (5 ∷ 2 ∷ []) $
    use2 𝓛 (later (some (λ (δ : GName). ‵ ((MutRef (named 0) κ₁ R).own_val (record { ref_ptr = (b, o); ghost_name = δ; now = old }) (vptr b o ∷ [])) ⊛ ‵ (LentAgain R κ κ₁ (Share.left q) γ b o δ old))))
    (lends_again 𝓛 R (named 0) κ κ₁ (Share.left q) γ b o (named 0) old) $ await ! tt $ pick ! (λ δ. split ! $
    -- [the loan; what the lender keeps; the token of κ₁; α's way back; the size; nothing; the others]
    move ! (4 ∷ 5 ∷ []) $ fjoin ! $ move ! (1 ∷ 0 ∷ []) $ fjoin ! $ move ! (2 ∷ 4 ∷ []) $ join ! $ join ! $
    let G = triple_of 𝓛 K.signature (K.spec 𝓛 𝓜.mem 𝓡.returns) in
    let inc : Incl κ₁ κ = λ x m. mem-append_right (α ∷ []) m in
    let loan : MutBor View = record { ref_ptr = (b, o); ghost_name = δ; now = old } in
    let z : G.Ghost = (((κ₁, κs.1), (s, qs.1), (Incl-trans inc bounds.0, tt), (loan, a.1), vals), tt) in
    nothing ! $ move ! (1 ∷ 0 ∷ []) $ use2 𝓛 (raw (G.pre z)) (id⊢ 𝓤 _) $
    calls_at ! (fm 𝓛 𝓜 𝓡) G (claim_met 𝓤 𝓛 𝓜 𝓡 (code.calls-sock_dgram::raw::socket::Socket::claim 𝓡.env wired)) z
    (and_then ! (get ! refl) (and_then ! (get ! refl) (no_more !))) (λ v. let Pair : RattleType = Tuple (bool ∷ usize ∷ []) in
    use1 𝓛 (later (some (λ (r : Bool × ℕ). ((‵ (flft κ₁ s) ⊛ ‵ others) ⊛ ‵ (Pair.own_val r (v ∷ []))) ⊛ some (λ (ws : View × (Unit {0} × Unit {0})). ‵ (lasts K.ended (κ₁, κs.1) (loan, a.1) ws)
    ⊛ raw (fact 𝓤 (Claims size tt old.tx_buffer r.0 r.1 ws.0.tx_buffer)) ⊛ raw (fact 𝓤 (ws.0 ≡ record old { tx_buffer = ws.0.tx_buffer })))))) (id⊢ 𝓤 _) $
    await ! tt $ pick ! (λ r. split ! $ split ! $ split ! $ move ! (3 ∷ []) $ pick ! (λ ws. split ! $ fsplit ! $ fsplit ! $ move ! (3 ∷ []) $ split ! $ heard ! _ (λ claimed. heard ! _ (λ same.
    -- [res; the borrow; nothing; the token of κ₁; the others; the pair; what the lender keeps; α's way back]
    move ! (3 ∷ []) $ use1 𝓛 (‵ (flft (α ∷ []) s) ⊛ ‵ (flft κ s)) (𝓛.lfts.lft_unmeet (α ∷ []) κ s) $ split ! $ move ! (8 ∷ 0 ∷ []) $
    move ! (1 ∷ 0 ∷ []) $ use2 𝓛 (‵ (flft (α ∷ []) full_share)) (apply∗ 𝓤 (𝓛.A.lft (α ∷ []) s) (𝓛.A.lft (α ∷ []) full_share)) $ lft_end ! tt $
    use1 𝓛 (‵ (fdead κ₁)) (𝓛.lfts.dead-incl κ₁ (α ∷ []) (λ x m. mem-append_left κ m)) $ move ! (0 ∷ 7 ∷ 2 ∷ []) $
    use3 𝓛 (later (‵ ((MutRef (named 0) κ R).own_val (record { ref_ptr = (b, o); ghost_name = γ; now = ws.0 }) (vptr b o ∷ [])) ⊛ ‵ (flft κ (Share.left q))))
    (comes_back 𝓛 R (named 0) κ κ₁ (Share.left q) γ b o δ old ws.0) $ await ! tt $ split ! $ move ! (1 ∷ 2 ∷ []) $ use2 𝓛 (‵ (flft κ q)) (𝓛.lfts.lft_join κ q) $
    -- [the token of κ; the reference; the borrow; nothing; the others; the pair]
    move ! (5 ∷ []) $ fpick ! (λ vss. fsplit ! $ feq_l ! (λ whole_is. fsplit ! $
    feq_l ! (λ flag_is. fsplit ! $ peeks ! usize (Is usize) (shows 𝓛 usize) r.1 vss.1.0 (λ place_is.
    let from : ℕ = r.1 in let new : View = ws.0 in let En₁ = env fn.locals l in
    lands_as ! (ap only (whole_is ∙ (λ j. vstruct (of_list (flag_is j ++ (place_is.0 j ++ []))) ∷ []))) refl (tt, (tt, (record { fits = place_is.1 }, tt))) $
    sets ! (of_opd ! (get_in ! (fld ! refl (stop !)) (sub ! 0 refl (whole !)))) refl (tt, tt) $
    sets ! (of_opd ! (get_in ! (fld ! refl (stop !)) (sub ! 1 refl (whole !)))) refl (tt, record { fits = place_is.1 }) $
    sets ! (un ! (get ! refl) tt) refl (tt, tt) $
    let Lent : RattleType = MutSlice (named 0) κ u8 in let Res : RattleType = result_type.the_row Lent error_type.the_row in
    -- [the place; nothing; the token of κ; the reference; the borrow; nothing; the others]
    first ! $ branches ! (get ! refl)
    (λ no_room. let none_left : r.0 ≡ false = refused r.0 no_room in
    sets ! (agg ! (and_then ! (lit ! tt) (no_more !))) refl (tt, (record { fits = lit< tt }, tt)) $
    sets ! (agg ! (and_then ! (lit ! tt) (and_then ! (get ! refl) (no_more !)))) refl (tt, (record { fits = lit< tt }, ((record { fits = lit< tt }, tt), tt))) $
    returns_within ! Post refl (look_at ! 0 refl) $ free_all ! refl $ keep ! (3 ∷ 2 ∷ 6 ∷ []) $ fsplit3 ! $ keep ! (1 ∷ 3 ∷ 4 ∷ []) $
    use1 𝓛 (‵ (fres γ (R.coded.code new))) (𝓛.names.obs-res γ (R.coded.code new)) $
    use1 𝓛 (‵ (LendsSoOk R (Array u8 0) a.0 {E = SendError} (Err send_error.BufferFull) Left Refused)) (ends_refused 𝓛 R a.0 SendError Left Refused send_error.BufferFull new (same ∙ (λ i. record old { tx_buffer = claimed.err none_left i }))) $
    use0 𝓛 (‵ (Res.own_val (Err send_error.BufferFull) (live 1 (of_list (live 0 vnil ∷ [])) ∷ []))) (via 𝓤 _ (full_owned 𝓛) (err_of 𝓛 Lent error_type.the_row send_error.BufferFull (live 0 vnil))) $
    let Answer : Type 0 = ◌≡◌ {A = Result (Unit {0}) SendError} (Err send_error.BufferFull) (send_answer old size) in
    use0 𝓛 (raw (fact 𝓤 ⊤)) (fact_i 𝓤 ⊤ (emp 𝓤) tt) $ use0 𝓛 (raw (fact 𝓤 ⊤)) (fact_i 𝓤 ⊤ (emp 𝓤) tt) $ join ! $
    use0 𝓛 (raw (fact 𝓤 Answer)) (fact_i 𝓤 Answer (emp 𝓤) (sym (ap (λ (t : Bool). if t then Ok tt else Err send_error.BufferFull) (sym claimed.variant ∙ none_left)))) $ join ! $
    -- [the facts; the result; what follows; the token of κ; the others]
    move ! (2 ∷ 0 ∷ []) $ join ! $ nothing ! $ nothing ! $ fjoin ! $ nothing ! $ fjoin ! $ move ! (3 ∷ 4 ∷ []) $ join ! $ move ! (0 ∷ 1 ∷ 3 ∷ 2 ∷ []) $
    by ! (leaves 𝓛 En hs c y (live 1 (of_list (live 0 vnil ∷ []))) (Err send_error.BufferFull) (tt, (tt, tt)) (tt, (tt, tt))))
    (λ room. let some_left : r.0 ≡ true = granted r.0 room in
    let buffer : Packets (Unit {0}) = new.tx_buffer in let Bu : RattleType = packet_buffer.the_row at unit in let T = inside.the_type at in let S = inside.struct at in let p : ℕ = o + place T (the_loose at) 3 in
    let had : Claims size tt old.tx_buffer true from buffer = subst (λ (t : Bool). Claims size tt old.tx_buffer t from buffer) some_left claimed in
    skips ! $ exec ! 𝓣.C 𝓣.Λ En₁ (after 6 fn.body) (at_ret En₁ Post) $ sets ! (addr ! (through ! refl (fld ! refl (stop !)))) refl (tt, tt) $
    -- [the place; nothing; the token of κ; the reference; the borrow; nothing; the others]
    move ! (3 ∷ 2 ∷ []) $ use2 𝓛 (later (some (λ (ε : GName). ‵ ((MutRef (named 0) κ Bu).own_val (record { ref_ptr = (b, p); ghost_name = ε; now = buffer }) (vptr b p ∷ [])) ⊛ ‵ (flft κ q)
    ⊛ ‵ (follows R Bu γ ε (λ w. record new { tx_buffer = w }))))) (lends_part T (the_loose at) 3 S.as_values S.Ghost S.make (λ v. tt) (λ x. refl) (λ v g. refl) (λ y. y) refl (λ f. refl) refl View the_code view invariant (λ v w. record v { tx_buffer = w }) (λ v. v.tx_buffer) (λ x w. refl) (λ x w k. k) (λ x. refl)
    𝓛 (named 0) κ q b o γ new) $ await ! tt $ pick ! (λ ε. split3 ! $
    -- [the buffer; the token of κ; what follows it; the place; nothing; the borrow; nothing; the others]
    nothing ! $ owned ! usize _ (uint_Makes 𝓛 w64) size _ (refl, are.1.0.1) $ fjoin ! $ owned ! usize _ (uint_Makes 𝓛 w64) from _ (refl, place_is.1) $ fjoin ! $ move ! (1 ∷ 0 ∷ []) $ fjoin ! $
    move ! (7 ∷ []) $ fsplit ! $ use1 𝓛 (‵ (flft κ' (Share.left q')) ⊛ ‵ (flft κ' (Share.right q'))) (𝓛.lfts.lft_split κ' q') $ split ! $
    move ! (1 ∷ 2 ∷ []) $ fjoin ! $ move ! (1 ∷ 0 ∷ []) $ fjoin ! $ move ! (2 ∷ 0 ∷ []) $ join ! $ join ! $
    -- [the tokens, and what the arguments own; what follows the buffer; ..]
    let halves : Fml = fsep (flft κ' (Share.left q')) (fsep (flft κ' (Share.right q')) ftrue) in
    let G₂ = triple_of 𝓛 (B.signature unit) (B.spec unit 𝓛 𝓜.mem 𝓡.returns) in
    let tx : MutBor (Packets (Unit {0})) = record { ref_ptr = (b, p); ghost_name = ε; now = buffer } in
    let z₂ : G₂.Ghost = (((κ, (κ', (κ', tt))), (q, (Share.left q', (Share.right q', tt))), (bounds.0, (bounds.0, (⊑_refl κ', tt))), (tx, (from, (size, tt))), (vptr b p ∷ [], (vint w64 from ∷ [], (vint w64 size ∷ [], tt)))), tt) in
    let Asked : Type 0 = κ' ⊑ unit.lives in let Within : Type 0 = from + size ≤ length buffer.storage in
    use0 𝓛 (raw (fact 𝓤 Within)) (fact_i 𝓤 Within (emp 𝓤) (had.within refl)) $ use0 𝓛 (raw (fact 𝓤 Asked)) (fact_i 𝓤 Asked (emp 𝓤) (⊑_static κ')) $ join ! $
    move ! (1 ∷ 0 ∷ []) $ use2 𝓛 (raw (G₂.pre z₂)) (id⊢ 𝓤 _) $
    calls_at ! (fm 𝓛 𝓜 𝓡) G₂ (part_mut_met 𝓤 𝓛 𝓜 𝓡 (code.calls-net_base::packet_buffer::PacketBuffer::part_mut 𝓡.env wired) unit unit_laws) z₂
    (and_then ! (get ! refl) (and_then ! (get ! refl) (and_then ! (get ! refl) (no_more !)))) (λ u. let In : List ℕ → Packets (Unit {0}) = λ w. with_all buffer (around buffer.storage from size w) in
    use1 𝓛 (later (some (λ (x : MutBor (List ℕ)). ((‵ (flft κ q) ⊛ ‵ halves) ⊛ ‵ (Lent.own_val x (u ∷ []))) ⊛ some (λ (xs : Unit {0} × (Unit {0} × (Unit {0} × Unit {0}))). ‵ (lasts (B.ended unit) z₂.0.0 z₂.0.3 xs)
    ⊛ ‵ (follows Bu (Array u8 0) ε x.ghost_name In) ⊛ raw (fact 𝓤 (x.now ≡ take size (without from buffer.storage))))))) (id⊢ 𝓤 _) $
    await ! tt $ pick ! (λ x. split ! $ split ! $ split ! $ move ! (3 ∷ []) $ pick ! (λ xs. split ! $ drop ! $ split ! $ move ! (1 ∷ []) $ heard ! _ (λ part_is.
    -- [what follows in the buffer; the token of κ; the other tokens; the bytes; what follows the buffer; ..]
    move ! (3 ∷ []) $ peeks ! Lent (Is Lent) (shows 𝓛 Lent) x (u ∷ []) (λ bytes_are.
    lands_as ! (ap only bytes_are.0.0) refl (tt, (tt, (record { fits = bytes_are.0.1.0 }, tt))) $
    sets ! (agg ! (and_then ! (lit ! tt) (and_then ! (get ! refl) (no_more !)))) refl (tt, (record { fits = lit< tt }, ((tt, (record { fits = bytes_are.0.1.0 }, tt)), tt))) $
    let word : Val = slice_val x.ref_ptr (length x.now) in let F : List ℕ → View = λ w. record new { tx_buffer = In w } in
    rewrite ! 0 (λ (us : List Val). ‵ (Lent.own_val x us)) bytes_are.0.0 refl $
    move ! (4 ∷ 1 ∷ []) $ use2 𝓛 (‵ (follows R (Array u8 0) γ x.ghost_name F)) (follows_then 𝓛 R Bu (Array u8 0) (λ w. record new { tx_buffer = w }) In γ ε x.ghost_name) $
    use1 𝓛 (‵ (LendsSoOk R (Array u8 0) a.0 {E = SendError} (Ok x) Left Refused)) (ends_lent 𝓛 R a.0 SendError Left Refused x F
    (λ w long. (λ i. record (same i) { tx_buffer = In w }) ∙ (λ i. record old { tx_buffer = left_as size tt old.tx_buffer buffer from had w long i }))) $
    -- [what follows; the bytes; the token of κ; the other tokens; ..]
    move ! (3 ∷ []) $ fsplit ! $ move ! (1 ∷ []) $ fsplit ! $ move ! (2 ∷ 0 ∷ []) $ use2 𝓛 (‵ (flft κ' q')) (𝓛.lfts.lft_join κ' q') $ fjoin ! $ move ! (2 ∷ 1 ∷ 3 ∷ 0 ∷ []) $
    use1 𝓛 (‵ (Res.own_val (Ok x) (live 0 (of_list (word ∷ [])) ∷ []))) (ok_of 𝓛 Lent error_type.the_row x word) $
    returns ! (look_at ! 0 refl) $ free_all ! refl $ keep ! (0 ∷ 1 ∷ 2 ∷ 3 ∷ []) $
    let storage : buffer.storage ≡ old.tx_buffer.storage = ap (λ (p : Packets (Unit {0})). p.storage) (had.after refl) ∙ made_room-storage size old.tx_buffer in
    let Value : Type 0 = x.now ≡ take size (without (end_of (made_room size old.tx_buffer)) old.tx_buffer.storage) in
    let Size : Type 0 = length x.now ≡ size in
    let Answer : Type 0 = ◌≡◌ {A = Result (Unit {0}) SendError} (Ok tt) (send_answer old size) in
    use0 𝓛 (raw (fact 𝓤 Value)) (fact_i 𝓤 Value (emp 𝓤) (part_is ∙ (λ i. take size (without (had.place refl i) (storage i))))) $
    use0 𝓛 (raw (fact 𝓤 Size)) (fact_i 𝓤 Size (emp 𝓤) (ap length part_is ∙ length-take-le size (without from buffer.storage) (omega (arith, length-drop from buffer.storage, had.within refl)))) $ join ! $
    use0 𝓛 (raw (fact 𝓤 Answer)) (fact_i 𝓤 Answer (emp 𝓤) (sym (ap (λ (t : Bool). if t then Ok tt else Err send_error.BufferFull) (sym claimed.variant ∙ some_left)))) $ join ! $
    -- [the facts; the result; what follows; the token of κ; the others]
    move ! (2 ∷ 0 ∷ []) $ join ! $ nothing ! $ nothing ! $ fjoin ! $ nothing ! $ fjoin ! $ move ! (3 ∷ 4 ∷ []) $ join ! $ move ! (0 ∷ 1 ∷ 3 ∷ 2 ∷ []) $
    by ! (leaves 𝓛 En hs c y (live 0 (of_list (word ∷ []))) (Ok x) (tt, (tt, tt)) (tt, (tt, tt)))))))))))))))))))))))
