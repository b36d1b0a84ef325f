-- The socket that lies at the pointer is lent for the time of the call. Assumes `Logic`.
use Rattle.std.proofs.Common.{◌≡◌, ℕ, ℤ, [], ◌∷◌, refl, w64}
use Rattle.std.proofs.raw_atomic.Walks.{proved}
use base.Fraction.{full_share}
use base.Logic.{id⊢}
use types.SemTy.{Body}
use base.Fml.{ftrue, flft, flent, fres}
use mir.Syntax.{named}
use mir.Val.{vptr}
use contract.Monad.{fact}
use contract.Running.{tables}
use prog.Wp.{WpFn}
use types.Kit.{‵, raw, ◌⊛◌, some, later, prop, ◌$◌, ◌∵◌, !, qed, done, move, keep, drop, use1, use2, use3, split, join, fsplit, pick, await, rewrite, regoal, suffices, frame, group}
use types.Run.{enter, of_opd, addr, stop, no_more, and_then, returns}
use types.Tokens.{lft_new, lft_end}
use types.ByLocal.{alloc_all, pass_all, free_all, look_at, get, through, sets, lands_as}
use denote.Builtin.{i64}
use denote.Exit.{yes}
use denote.Laws.{Is, shows}
use denote.Signed.{sint_Lawful}
use denote.Memory.{part_at, mem}
use denote.RattleType.{RattleType}
use denote.Lend.{lends_ref, ref_back}
use denote.RawPtr.{Ptr, RawPtr, block_ptr, lies_at, in_a_block, rawptr_vals, rawptr_Tells}
use denote.Ref.{MutRef, ShrRef, shr_vals, shr_Tells}
use denote.Signature.{plain, shr_ref_to, static_lft}
use denote.Steps.{nothing, heard, peeks}
use denote.Triple.Call.{calls_at}
use denote.Triple.Clauses.{lasts}
use denote.Triple.Entry.{on_entry}
use denote.Triple.Spec.{triple_of}
use denote.Triple.Table.{framed}
use denote.Triple.Walked.{Stays, walk_of, says, stay_dropped, Goes-dropped, ends_at}
use Rattle.sock_tcp.specs.contracts.socket.Socket.{the_row as tcp_row}
use Rattle.sock_tcp.specs.declared.socket.Socket.{Socket}
use Rattle.smoltcp_c.specs.contracts.clock.Clock.{the_row as clock_row}
use Rattle.smoltcp_c.specs.declared.clock.Clock.{Clock}
use Rattle.smoltcp_c.specs.contracts.context.Cx.{the_row as Cx}
use Rattle.sock_tcp.specs.Poll.{poll_moment}
use Rattle.smoltcp_c.specs.Context.{facts_in}
use Rattle.smoltcp_c.specs.Heard.{poll_told}
use Rattle.smoltcp_c.specs.contracts.contexts.smoltcp_tcp_poll_at_nonnull as f
use Rattle.smoltcp_c.specs.contracts.contexts.awaited as g
use Rattle.smoltcp_c.proofs.contexts.awaited.Met.{met}
use Rattle.smoltcp_c.proofs.contexts.smoltcp_tcp_poll_at_nonnull.Statement.{statement}
use Rattle.smoltcp_c.proofs.contexts.smoltcp_tcp_poll_at_nonnull.Code as code

abbrev Row : RattleType
Row = tcp_row static_lft clock_row

abbrev stayed : Stays f.ended.signature.params f.ended.kept
stayed = (stay_dropped _ yes, (stay_dropped _ yes, tt))

pub smoltcp_tcp_poll_at_nonnull_spec : {M : Type 1} → statement M
smoltcp_tcp_poll_at_nonnull_spec 𝓤 𝓛 𝓜 𝓡 wired =
    let c = f.clauses 𝓛 𝓜.mem 𝓡.returns in let W = walk_of 𝓛 f.ended stayed c in let 𝓣 = tables 𝓤 𝓛.H 𝓜 𝓡 𝓡.env in
    proved 𝓛 f.ended stayed c 𝓜 𝓡 (Goes-dropped 𝓛 1 (plain (λ _. RawPtr)) yes (λ κs x w. refl), (Goes-dropped 𝓛 1 (shr_ref_to (0 ∷ []) tt (plain (λ _. Cx))) yes (λ κs x w. refl), tt))
    f.Key.name code.function (code.unfolded 𝓤 𝓛.H 𝓜 𝓡 wired)
    (λ κs. (rawptr_vals, (shr_vals, tt))) (λ κs. (rawptr_Tells, (shr_Tells (named 0) κs.0 Cx, tt))) (λ κs qs bounds a t are.
    let κ = κs.0 in let q = qs.0 in let cx = a.1.0 in
    let y : Ptr → W.Ghost = λ p. ((κs, qs, bounds, (p, (cx, tt)), (rawptr_vals p, (shr_vals cx, tt))), t) in
    qed 𝓛 (raw (on_entry 𝓛 f.signature κs qs a (y a.0).0.4) ∷ ‵ (lies_at Row full_share a.0 t) ∷ []) ∵ move ! (1 ∷ []) $
    in_a_block ! a.0 (λ p. lies_at Row full_share p t) (id⊢ 𝓤 _) (λ b o e.
    regoal ! (λ p. prop (WpFn 𝓤 𝓛.H 𝓣.C 𝓣.Λ code.function (W.args (y p)) (W.post (y p)))) e refl $
    move ! (1 ∷ 0 ∷ []) $
    use1 𝓛 ((‵ (flft κ q) ⊛ ‵ ftrue) ⊛ (‵ (RawPtr.own_val a.0 (rawptr_vals a.0)) ⊛ (‵ ((ShrRef (named 0) κ Cx).own_val cx (shr_vals cx)) ⊛ ‵ ftrue))) (id⊢ 𝓤 _) $
    split ! $ split ! $ move ! (2 ∷ []) $ split ! $ drop ! $ split ! $
    -- [the context; nothing; the token; nothing; the socket]
    move ! (0 ∷ 2 ∷ 4 ∷ []) $
    enter ! _ _ _ _ _ $ alloc_all ! (λ l. pass_all ! refl ((tt, tt), ((tt, tt), tt)) $
    sets ! (of_opd ! (get ! refl)) refl (tt, tt) $
    sets ! (addr ! (through ! refl (stop !))) refl (tt, tt) $
    lft_new ! tt (λ α. let κ' = α ∷ [] in move ! (3 ∷ []) $
    use1 𝓛 (later (some (λ (γ : ℕ). ‵ ((MutRef (named 0) κ' Row).own_val (record { ref_ptr = (b, o); ghost_name = γ; now = t }) (vptr b o ∷ [])) ⊛ ‵ (flent κ' (Body (mem Row) b o γ)))))
    (lends_ref 𝓛 Row (named 0) κ' t b o) $ await ! tt $ pick ! (λ γ. split ! $
    -- [the loan; what is lent; the token of the loan; the context; the token]
    let G = triple_of 𝓛 g.signature (g.spec 𝓛 𝓜.mem 𝓡.returns) in
    let z : G.Ghost = (((κ', (κ, tt)), (full_share, (q, tt)), tt, (record { ref_ptr = (b, o); ghost_name = γ; now = t }, (cx, tt)), (vptr b o ∷ [], (shr_vals cx, tt))), tt) in
    nothing ! $ move ! (4 ∷ 0 ∷ []) $ join ! $ move ! (1 ∷ 0 ∷ []) $ join ! $
    nothing ! $ move ! (4 ∷ 0 ∷ []) $ join ! $ move ! (3 ∷ 0 ∷ []) $ join ! $
    join ! $ nothing ! $ move ! (1 ∷ 0 ∷ []) $ use2 𝓛 (raw (G.pre z)) (id⊢ 𝓤 _) $
    calls_at ! (framed 𝓤 𝓛.H 𝓜 (tables 𝓤 𝓛.H 𝓜 𝓡 𝓡.env)) G (met 𝓤 𝓛 𝓜 𝓡 (code.calls-smoltcp_c::contexts::awaited 𝓡.env wired)) z
    (and_then ! (get ! refl) (and_then ! (get ! refl) (no_more !))) (λ v.
    use1 𝓛 (later (some (λ (r : ℤ). ((‵ (flft κ' full_share) ⊛ (‵ (flft κ q) ⊛ ‵ ftrue)) ⊛ ‵ (i64.own_val r (v ∷ []))) ⊛
    some (λ (ws : (Socket Clock) × (Unit {0} × Unit {0})). ‵ (lasts g.ended z.0.0 z.0.3 ws) ⊛ (raw (fact 𝓤 (r ≡ poll_told cx.now (poll_moment t.control_block (facts_in cx.now)))) ⊛ raw (fact 𝓤 (ws.0 ≡ t))))))) (id⊢ 𝓤 _) $
    await ! tt $ pick ! (λ r. split ! $ split ! $ split ! $ lft_end ! tt $ move ! (3 ∷ []) $ pick ! (λ ws. split ! $ move ! (1 ∷ []) $ split ! $
    heard ! _ (λ told. heard ! _ (λ same. fsplit ! $ fsplit ! $
    rewrite ! 0 (λ (x : (Socket Clock)). ‵ (fres γ ((Row).coded.code x))) same refl $
    -- [the loan's last value; its borrow; the others'; its lifetime is over; the token; the result; what is lent]
    move ! (3 ∷ 6 ∷ 0 ∷ []) $ use3 𝓛 (later (‵ (part_at Row full_share t b o))) (ref_back 𝓛 Row κ' γ t b o) $ await ! tt $
    -- [the socket; a borrow that is over; nothing; the token; the result]
    move ! (4 ∷ []) $ peeks ! i64 (Is i64) (shows 𝓛 i64) r (v ∷ []) (λ is. lands_as ! refl refl ((sint_Lawful 𝓛 w64).typed r _ is).0 $
    returns ! (look_at ! 0 refl) $ free_all ! refl $ keep ! (4 ∷ 0 ∷ 1 ∷ []) $
    suffices ! _ (ends_at 𝓛 f.ended stayed c (y (block_ptr b o)) v r (tt, (tt, tt)) (tt, (tt, tt))) $
    nothing ! $ nothing ! $ join ! $ nothing ! $ join ! $ move ! (1 ∷ 0 ∷ []) $ group ! 3 $ frame ! $ says ! told $ done !)))))))))))
