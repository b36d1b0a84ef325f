-- The socket that lies at the pointer is lent for the time of the call. Assumes `Logic`.
use Rattle.std.proofs.Common.{ℕ, ℤ, List, [], ◌∷◌, refl, w64}
use Rattle.std.proofs.raw_atomic.Walks.{proved}
use base.Fraction.{full_share}
use base.Logic.{id⊢}
use types.SemTy.{Body}
use base.Fml.{ftrue, fsep, fex, flft, flent}
use mir.Syntax.{named}
use mir.Val.{vptr}
use contract.Monad.{fact}
use contract.Running.{tables}
use prog.Wp.{WpFn}
use types.Kit.{‵, raw, ◌⊛◌, some, later, prop, ◌$◌, ◌∵◌, !, qed, done, move, keep, drop, use1, use2, use3, split, join, fsplit, fjoin, fpack, feq_l, pick, await, regoal, suffices, frame, group}
use types.Run.{enter, of_opd, addr, stop, from, fld, hop, no_more, and_then, returns}
use types.Part.{agg, whole, sub}
use types.Tokens.{lft_new, lft_end}
use types.ByLocal.{alloc_all, pass_all, free_all, look_at, look_in_at, get, get_in, through, sets, lands_as}
use denote.Builtin.{i64, u8}
use denote.Exit.{yes}
use denote.Laws.{Is, shows}
use denote.Signed.{sint_Lawful}
use denote.Memory.{part_at, mem}
use denote.RattleType.{RattleType}
use denote.Lend.{lends_ref, ref_back}
use denote.RawPtr.{Ptr, RawPtr, block_ptr, lies_at, in_a_block, rawptr_vals, rawptr_Tells}
use denote.Ref.{MutRef, ShrRef, shr_vals, shr_Tells}
use denote.Slice.{MutSlice, mut_slice_vals, mut_slice_Tells}
use denote.Signature.{plain, shr_ref_to, static_lft}
use denote.Steps.{nothing, heard, peeks}
use denote.Triple.Call.{calls_at}
use denote.Triple.Clauses.{lasts}
use denote.Triple.Entry.{on_entry}
use denote.Triple.Spec.{triple_of}
use denote.Triple.Table.{framed}
use denote.Triple.Walked.{Stays, walk_of, stay_dropped, gave_slice, Goes-dropped, Goes-gave_slice, ends_at}
use Rattle.sock_tcp.specs.contracts.socket.Socket.{the_row as tcp_row}
use Rattle.sock_tcp.specs.declared.socket.Socket.{Socket}
use Rattle.smoltcp_c.specs.contracts.clock.Clock.{the_row as clock_row}
use Rattle.smoltcp_c.specs.declared.clock.Clock.{Clock}
use Rattle.smoltcp_c.specs.contracts.context.Cx.{the_row as Cx}
use Rattle.smoltcp_c.specs.Pointed.{Dispatched}
use Rattle.smoltcp_c.specs.contracts.packets.smoltcp_tcp_dispatch_nonnull as f
use Rattle.smoltcp_c.specs.contracts.packets.dispatched as g
use Rattle.smoltcp_c.proofs.packets.dispatched.Met.{met}
use Rattle.smoltcp_c.proofs.packets.smoltcp_tcp_dispatch_nonnull.Statement.{statement}
use Rattle.smoltcp_c.proofs.packets.smoltcp_tcp_dispatch_nonnull.Code as code

abbrev Row : RattleType
Row = tcp_row static_lft clock_row

abbrev stayed : Stays f.ended.signature.params f.ended.kept
stayed = (stay_dropped _ yes, (stay_dropped _ yes, (gave_slice (1 ∷ []) tt (plain (λ _. u8)), tt)))

pub smoltcp_tcp_dispatch_nonnull_spec : {M : Type 1} → statement M
smoltcp_tcp_dispatch_nonnull_spec 𝓤 𝓛 𝓜 𝓡 wired =
    let c = f.clauses 𝓛 𝓜.mem 𝓡.returns in let W = walk_of 𝓛 f.ended stayed c in let 𝓣 = tables 𝓤 𝓛.H 𝓜 𝓡 𝓡.env in
    proved 𝓛 f.ended stayed c 𝓜 𝓡 (Goes-dropped 𝓛 2 (plain (λ _. RawPtr)) yes (λ κs x w. refl), (Goes-dropped 𝓛 2 (shr_ref_to (0 ∷ []) tt (plain (λ _. Cx))) yes (λ κs x w. refl), (Goes-gave_slice 𝓛 2 1 tt (plain (λ _. u8)), tt)))
    f.Key.name code.function (code.unfolded 𝓤 𝓛.H 𝓜 𝓡 wired)
    (λ κs. (rawptr_vals, (shr_vals, (mut_slice_vals, tt)))) (λ κs. (rawptr_Tells, (shr_Tells (named 0) κs.0 Cx, (mut_slice_Tells (named 1) κs.1.0 u8, tt)))) (λ κs qs bounds a t are.
    let κ = κs.0 in let q = qs.0 in let κ₂ = κs.1.0 in let q₂ = qs.1.0 in let cx = a.1.0 in let out = a.1.1.0 in
    let y : Ptr → W.Ghost = λ p. ((κs, qs, bounds, (p, (cx, (out, tt))), (rawptr_vals p, (shr_vals cx, (mut_slice_vals out, tt)))), t) in
    qed 𝓛 (raw (on_entry 𝓛 f.signature κs qs a (y a.0).0.4) ∷ ‵ (lies_at Row full_share a.0 t) ∷ []) ∵ move ! (1 ∷ []) $
    in_a_block ! a.0 (λ p. lies_at Row full_share p t) (id⊢ 𝓤 _) (λ b o e.
    regoal ! (λ p. prop (WpFn 𝓤 𝓛.H 𝓣.C 𝓣.Λ code.function (W.args (y p)) (W.post (y p)))) e refl $
    move ! (1 ∷ 0 ∷ []) $
    use1 𝓛 ((‵ (flft κ q) ⊛ (‵ (flft κ₂ q₂) ⊛ ‵ ftrue)) ⊛ (‵ (RawPtr.own_val a.0 (rawptr_vals a.0)) ⊛ (‵ ((ShrRef (named 0) κ Cx).own_val cx (shr_vals cx)) ⊛
    (‵ ((MutSlice (named 1) κ₂ u8).own_val out (mut_slice_vals out)) ⊛ ‵ ftrue)))) (id⊢ 𝓤 _) $
    split ! $ move ! (1 ∷ []) $ split ! $ drop ! $ split ! $ move ! (1 ∷ []) $ split ! $
    -- [the buffer; nothing; the context; the tokens; the socket]
    move ! (3 ∷ 2 ∷ 0 ∷ 4 ∷ []) $
    enter ! _ _ _ _ _ $ alloc_all ! (λ l. pass_all ! refl ((tt, tt), ((tt, tt), ((tt, (tt, (record { fits = are.1.1.0.0.1.0 }, tt))), tt))) $
    sets ! (of_opd ! (get ! refl)) refl (tt, tt) $
    sets ! (addr ! (through ! refl (stop !))) refl (tt, tt) $
    sets ! (addr ! (from ! (fld ! refl (hop ! (look_in_at ! 3 (sub ! 0 refl (whole !))) (stop !))))) refl (tt, tt) $
    sets ! (agg ! (and_then ! (get ! refl) (and_then ! (get_in ! (fld ! refl (stop !)) (sub ! 1 refl (whole !))) (no_more !)))) refl (tt, (tt, (record { fits = are.1.1.0.0.1.0 }, tt))) $
    lft_new ! tt (λ α. let κ' = α ∷ [] in move ! (4 ∷ []) $
    use1 𝓛 (later (some (λ (γ : ℕ). ‵ ((MutRef (named 0) κ' Row).own_val (record { ref_ptr = (b, o); ghost_name = γ; now = t }) (vptr b o ∷ [])) ⊛ ‵ (flent κ' (Body (mem Row) b o γ)))))
    (lends_ref 𝓛 Row (named 0) κ' t b o) $ await ! tt $ pick ! (λ γ. split ! $
    -- [the loan; what is lent; the token of the loan; the tokens; the context; the buffer]
    let G = triple_of 𝓛 g.signature (g.spec 𝓛 𝓜.mem 𝓡.returns) in
    let z : G.Ghost = (((κ', κs), (full_share, qs), tt, (record { ref_ptr = (b, o); ghost_name = γ; now = t }, (cx, (out, tt))), (vptr b o ∷ [], (shr_vals cx, (mut_slice_vals out, tt)))), tt) in
    nothing ! $ move ! (6 ∷ 0 ∷ []) $ join ! $ move ! (5 ∷ 0 ∷ []) $ join ! $ move ! (1 ∷ 0 ∷ []) $ join ! $
    move ! (2 ∷ 3 ∷ 0 ∷ []) $ join ! $ join ! $ nothing ! $ move ! (1 ∷ 0 ∷ []) $ use2 𝓛 (raw (G.pre z)) (id⊢ 𝓤 _) $
    calls_at ! (framed 𝓤 𝓛.H 𝓜 (tables 𝓤 𝓛.H 𝓜 𝓡 𝓡.env)) G (met 𝓤 𝓛 𝓜 𝓡 (code.calls-smoltcp_c::packets::dispatched 𝓡.env wired)) z
    (and_then ! (get ! refl) (and_then ! (get ! refl) (and_then ! (get ! refl) (no_more !)))) (λ v.
    use1 𝓛 (later (some (λ (r : ℤ). ((‵ (flft κ' full_share) ⊛ (‵ (flft κ q) ⊛ (‵ (flft κ₂ q₂) ⊛ ‵ ftrue))) ⊛ ‵ (i64.own_val r (v ∷ []))) ⊛
    some (λ (ws : (Socket Clock) × (Unit {0} × (List ℕ × Unit {0}))). ‵ (lasts g.ended z.0.0 z.0.3 ws) ⊛ raw (fact 𝓤 (Dispatched cx.now t out.now r ws.0 ws.1.1.0)))))) (id⊢ 𝓤 _) $
    await ! tt $ pick ! (λ r. split ! $ split ! $ split ! $ lft_end ! tt $ move ! (3 ∷ []) $ pick ! (λ ws. split ! $ move ! (1 ∷ []) $
    heard ! _ (λ became. fsplit ! $ fsplit ! $
    -- [the loan's last value; its borrow; the others'; its lifetime is over; the token; the result; what is lent]
    move ! (3 ∷ 6 ∷ 0 ∷ []) $ use3 𝓛 (later (‵ (part_at Row full_share ws.0 b o))) (ref_back 𝓛 Row κ' γ ws.0 b o) $ await ! tt $
    move ! (4 ∷ []) $ peeks ! i64 (Is i64) (shows 𝓛 i64) r (v ∷ []) (λ is. lands_as ! refl refl ((sint_Lawful 𝓛 w64).typed r _ is).0 $
    returns ! (look_at ! 0 refl) $ free_all ! refl $
    keep ! (3 ∷ 4 ∷ 0 ∷ 1 ∷ []) $ fsplit ! $ drop ! $ fsplit ! $ fsplit ! $ fsplit ! $ move ! (1 ∷ []) $ feq_l ! (λ same.
    -- [the buffer's last value; its borrow; nothing; the tokens; the result; the socket]
    suffices ! _ (ends_at 𝓛 f.ended stayed c (y (block_ptr b o)) v r (tt, (tt, (ws.1.1.0, tt))) (tt, (tt, (same, tt)))) $
    fjoin ! $ join ! $ nothing ! $ join ! $ nothing ! $ join ! $ move ! (1 ∷ 0 ∷ []) $ group ! 3 $ frame ! $
    nothing ! $ fpack ! (Dispatched cx.now t out.now r ws.0 ws.1.1.0) (λ _. ftrue) became $ move ! (1 ∷ 0 ∷ []) $ fjoin ! $
    fpack ! (Socket Clock) (λ t'. fsep (lies_at Row full_share (block_ptr b o) t') (fex (Dispatched cx.now t out.now r t' ws.1.1.0) (λ _. ftrue))) ws.0 $ done !)))))))))))
