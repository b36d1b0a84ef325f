-- `send` of a socket whose packets have an address: it appends a packet of the bytes that stand in the storage, and then lends them through the transmit buffer. Assumes `Logic`.
--     ended, clauses       the contract of `send`, and `claim_ended`, `claim_clauses` that of the `claim` that it calls
--     send_code            the function's code: σ is the socket's type, and β that of its transmit buffer
--     send_met             the code meets the contract
use Rattle.std.proofs.Common.{arith, ◌≡◌, ℕ, ◌+◌, ◌≤◌, List, [], ◌∷◌, ◌++◌, length, take, drop as without, subst, refl, sym, ap, ◌∙◌}
use Rattle.std.specs.Prelude.{Result, Ok, Err, if◌then◌else◌, ⊤}
use Rattle.std.specs.Borrow.{LendsSoOk}
use Rattle.std.proofs.raw_atomic.Walks.{proved, leaves}
use Rattle.std.proofs.raw_atomic.Calls.{fm}
use Rattle.std.proofs.VecSteps.Shapes.{after}
use Rattle.std.specs.contracts.result.Result as result_type
use mathlib.Core.List.{mem-append_right, mem-append_left}
use mathlib.Core.Bool.{Bool, true, false, not}
use lib.Dec.{lit<, T}
use lib.ListN.{length-drop}
use borrow.Table.Elements.{length-take-le}
use mir.Raw.{raw as raw_ty}
use mir.Syntax.{Body, Lifetime, w64, named}
use mir.Val.{Val, vptr, vint, vstruct, vnil, of_list}
use base.Fraction.{full_share}
use base.Logic.{SProp, emp, id⊢, wand, apply∗, via}
use base.Share
use base.Fml.{fdead, Incl, Incl-trans, Lft, Share, Fml, GName, ftrue, fsep, flft, fres}
use types.Kit.{at_ret, rewrite, fpick, feq_l, ‵, raw, ◌⊛◌, some, later, ◌$◌, ◌∵◌, !, qed, by, move, keep, drop, split, split3, join, fsplit, fsplit3, fjoin, pick, await, use0, use1, use2, use3}
use types.Run.{lit, un, fld, first, branches, skips, exec, returns_within, stop, addr, of_opd, no_more, and_then, returns, enter}
use types.ByLocal.{alloc_all, pass_all, free_all, look_at, get, through, sets, lands_as, get_in, env}
use types.Part.{agg, sub, whole}
use types.Match.{live}
use types.Tokens.{lft_end, lft_new}
use contract.Monad.{fact, fact_i}
use contract.Running.{Running, MachineTables, tables}
use contract.BorrowLft.{◌⊑◌, ⊑_refl}
use denote.Array.{Array}
use denote.Builtin.{usize, u8, bool}
use denote.Exit.{yes, no, unchanged}
use denote.Follow.{follows, follows_then}
use denote.Laws.{Is, Typed, shows}
use denote.Lend.{lends_again, comes_back, LentAgain}
use denote.Param.{arg, layout}
use denote.Param.Laws.{Laws}
use denote.Plain.{uint_vals, uint_Tells, uint_Makes}
use denote.RattleType.{RattleType, owns}
use denote.Ref.{MutBor, MutRef, NamedLft, mut_vals, mut_Tells}
use denote.Signature.{types_at, plain, mut_ref_to, named_lft}
use denote.Slice.{MutSlice, slice_val}
use denote.Steps.{nothing, heard, owned, peeks, only}
use denote.Struct.Tuple.{Tuple}
use denote.Triple.Call.{calls_at}
use denote.Triple.Clauses.{lasts}
use denote.Triple.Spec.{triple_of}
use denote.Triple.Walked.{Stays, stay_dropped, walk_of, Goes-spent_ref, Goes-dropped}
use Rattle.net_base.specs.Packets.{Packets, Claims, takes, made_room, end_of}
use Rattle.net_base.specs.PacketLends.{with_all, around}
use Rattle.net_base.proofs.PacketLists.{made_room-storage}
use Rattle.net_base.specs.contracts.packet_buffer.PacketBuffer.part_mut as B
use Rattle.sock_dgram.specs.Datagrams.{answered, stored, after_send_if, refused_send_if, send_answer_if}
use Rattle.sock_dgram.specs.declared.error.SendError.{SendError}
use Rattle.sock_dgram.specs.declared.error.SendError.TheVariants as send_error
use Rattle.sock_dgram.specs.contracts.error.SendError as error_type
use Rattle.net_base.specs.contracts.packet_buffer.PacketBuffer as packet_buffer
use Rattle.sock_dgram.proofs.Answering.{ok_of, err_of, ends_refused, ends_lent}
use Rattle.sock_dgram.proofs.Refusals.{unaddressable_owned, full_owned}
use Rattle.sock_dgram.proofs.Claimed.{left_as}
use mathlib.Core.Option.{some as has}
use base.Stored.{Coded}
use mir.Syntax.{Callee, Fn, Ty, erased, mut, w8, ty_ref, ty_int, ty_bool, local, value_local, seq, assign, call, cond as branch, skip, return, place, deref, field, addr_of, aggregate, rv_opd, copy, int, op1, bit_not}
use prog.Memory.{field_of}
use prog.Model.{Model}
use prog.Wp.{Closed}
use types.Logic.{Logic, sem}
use seplogic.Ra.Ura.{Ura}
use base.Logic.{ent, sep, ex}
use contract.Lifetimes.{Lfts}
use denote.Memory.{lone}
use denote.Model.{View}
use denote.Param.Laws.{Told}
use denote.Triple.Clauses.{Clauses, Ended, closing}
use denote.Triple.Spec.{Meets}
use Rattle.std.specs.Prelude.{IfOk}

refused : (t : Bool) → T (not t) → t ≡ false
refused true h = absurd h
refused false h = refl

granted : (t : Bool) → T (not (not t)) → t ≡ true
granted true h = refl
granted false h = absurd h

-- a type as a call of a generic function has it
abbrev pub given : RattleType → RattleType
given R = arg (raw_ty (layout R)) no R

-- base_row is the row of the packets' metadata, of which nothing is left to say once it has been handed over
module _ (V : Type 0) (code_of : Coded V) (I : NamedLft → RattleType) (see : (a : NamedLft) → (I a).Denot → V) (holds : (a : NamedLft) → (I a).Denot → Type 0) (base_row : RattleType)
    (tx : V → Packets base_row.Denot) (with_tx : V → Packets base_row.Denot → V) (may : V → base_row.Denot → Bool) (over : (v : V) (p q : Packets base_row.Denot) → with_tx (with_tx v p) q ≡ with_tx v q) where
  abbrev pub Mt : RattleType
  Mt = record base_row { exit = λ k. unchanged }

  abbrev pub Whole : NamedLft → RattleType
  Whole a = View (I a) V code_of (see a) (holds a)

  abbrev P : Lfts 2 → RattleType
  P κs = Whole (named_lft 2 1 tt κs)

  abbrev Res : Lft → RattleType
  Res κ = result_type.the_row (MutSlice (named 0) κ u8) error_type.the_row

  abbrev pub ended : Ended
  ended = record {
    signature = record {
      lifetimes = 2;
      outlives = record { long = 1; long_ok = tt; short = named 0; short_ok = tt } ∷ [];
      params = mut_ref_to (0 ∷ []) tt (plain P) ∷ plain (λ _. usize) ∷ plain (λ _. Mt) ∷ [];
      result = plain (λ κs. Res κs.0);
    };
    kept = (no, (yes, (yes, tt)));
  }

  abbrev pub claim_ended : Ended
  claim_ended = record {
    signature = record {
      lifetimes = 2;
      outlives = record { long = 1; long_ok = tt; short = named 0; short_ok = tt } ∷ [];
      params = mut_ref_to (0 ∷ []) tt (plain P) ∷ plain (λ _. usize) ∷ plain (λ _. Mt) ∷ [];
      result = plain (λ κs. Tuple (bool ∷ bool ∷ usize ∷ []));
    };
    kept = (yes, (yes, (yes, tt)));
  }

  module _ {M : Type 1} {𝓤 : Ura M} (𝓛 : Logic 𝓤) where
    abbrev pub clauses : Clauses 𝓤 ended
    clauses κs a = record {
      ghost = Unit {0};
      requires = λ _. sem 𝓛 ftrue;
      ensures = λ _ r end. sep 𝓤 (sem 𝓛 (LendsSoOk (P κs) (Array u8 0) a.0 r (λ v w. length w ≡ a.1.0 → v ≡ after_send_if tx with_tx (may a.0.now a.1.1.0) a.1.1.0 w a.0.now) (λ v. v ≡ refused_send_if tx with_tx (may a.0.now a.1.1.0) a.1.0 a.0.now)))
          (sep 𝓤 (fact 𝓤 (answered r ≡ send_answer_if (may a.0.now a.1.1.0) a.1.0 (tx a.0.now))) (sep 𝓤 (fact 𝓤 (IfOk r (λ bytes. length bytes.now ≡ a.1.0)))
          (fact 𝓤 (IfOk r (λ bytes. bytes.now ≡ take a.1.0 (without (end_of (made_room a.1.0 (tx a.0.now))) (tx a.0.now).storage))))));
    }

    abbrev pub claim_clauses : Clauses 𝓤 claim_ended
    claim_clauses κs a = record {
      ghost = Unit {0};
      requires = λ _. sem 𝓛 ftrue;
      ensures = λ _ r end. sep 𝓤 (fact 𝓤 (r.0 ≡ may a.0.now a.1.1.0)) (sep 𝓤 (fact 𝓤 (r.0 ≡ true → Claims a.1.0 a.1.1.0 (tx a.0.now) r.1 r.2 (tx end.0.now)))
          (sep 𝓤 (fact 𝓤 (r.0 ≡ false → end.0.now ≡ a.0.now)) (fact 𝓤 (end.0.now ≡ with_tx a.0.now (tx end.0.now)))));
    }

  abbrev slice : Lifetime → Ty
  slice ℓ = lone (MutSlice ℓ [] u8).mir

  abbrev ε : Ty
  ε = lone error_type.the_row.mir

  -- an error is made, and answered
  abbrev refuses : ℕ → ℕ → Body
  refuses i n = seq (assign (place i []) (aggregate (int w8 n ∷ []))) (seq (assign (place 0 []) (aggregate (int w8 1 ∷ copy (place i []) ∷ []))) return)

  abbrev pub send_code : Fn → Ty → Ty → Ty → Ty → Callee → Callee → Fn
  send_code f σ₀ σ₁ σ₂ β claim part = record f {
    params = 3;
    locals = local (lone (Res []).mir) value_local ∷ local (ty_ref (named 0) mut σ₀) value_local ∷ local (ty_int w64) value_local ∷ local (layout Mt) value_local ∷ local ty_bool value_local ∷ local ty_bool value_local
        ∷ local (ty_int w64) value_local ∷ local (lone (Tuple (bool ∷ bool ∷ usize ∷ [])).mir) value_local ∷ local (ty_ref erased mut σ₂) value_local ∷ local ty_bool value_local ∷ local ε value_local ∷ local ε value_local
        ∷ local (slice erased) value_local ∷ local (ty_ref erased mut β) value_local ∷ [];
    body = seq (assign (place 8 []) (addr_of (place 1 (deref σ₁ ∷ [])))) (seq (call claim (copy (place 8 []) ∷ copy (place 2 []) ∷ copy (place 3 []) ∷ []) (place 7 []))
        (seq (assign (place 4 []) (rv_opd (copy (place 7 (field 0 ∷ []))))) (seq (assign (place 5 []) (rv_opd (copy (place 7 (field 1 ∷ []))))) (seq (assign (place 6 []) (rv_opd (copy (place 7 (field 2 ∷ [])))))
        (seq (assign (place 9 []) (op1 bit_not (copy (place 4 [])))) (seq (branch (copy (place 9 [])) (refuses 10 0) skip)
        (seq (assign (place 9 []) (op1 bit_not (copy (place 5 [])))) (seq (branch (copy (place 9 [])) (refuses 11 1) skip)
        (seq (assign (place 13 []) (addr_of (place 1 (deref σ₁ ∷ field 2 ∷ [])))) (seq (call part (copy (place 13 []) ∷ copy (place 6 []) ∷ copy (place 2 []) ∷ []) (place 12 []))
        (seq (assign (place 0 []) (aggregate (int w8 0 ∷ copy (place 12 []) ∷ []))) return)))))))))));
  }

  module _ (laws : Laws Mt) (told : Told Mt) (given_laws : Laws (given Mt)) (within : (κ : Lft) → κ ⊑ (given Mt).lives) (σ₀ σ₁ σ₂ β τ : Ty) (d : ℕ) (second : field_of σ₁ 2 ≡ has (τ, d)) {M : Type 1} {𝓤 : Ura M} (𝓛 : Logic 𝓤)
      (lends_tx : (at : NamedLft) (ℓ : Lifetime) (κ : Lft) (q : Share) (b o : ℕ) (γ : GName) (h : V) → ent 𝓤 (sep 𝓤 (sem 𝓛 ((MutRef ℓ κ (Whole at)).own_val (record { ref_ptr = (b, o); ghost_name = γ; now = h }) (vptr b o ∷ []))) (𝓛.A.lft κ q))
      (𝓛.H.⇛ (ex 𝓤 (λ (δ : GName). sep 𝓤 (sem 𝓛 ((MutRef ℓ κ (packet_buffer.the_row at (given Mt))).own_val (record { ref_ptr = (b, o + d); ghost_name = δ; now = tx h }) (vptr b (o + d) ∷ []))) (sep 𝓤 (𝓛.A.lft κ q) (sem 𝓛 (follows (Whole at) (packet_buffer.the_row at (given Mt)) γ δ (with_tx h))))))))
      (𝓜 : Model 𝓤 𝓛.H) (𝓡 : Running 𝓤 𝓛.H 𝓜) where
    abbrev 𝓣 : MachineTables 𝓤 𝓛.H 𝓜
    𝓣 = tables 𝓤 𝓛.H 𝓜 𝓡 𝓡.env

    pub send_met : (f : Fn) (k claim part : Callee) → Closed 𝓤 𝓛.H 𝓣.C 𝓣.Λ k (send_code f σ₀ σ₁ σ₂ β claim part) → Meets 𝓛 claim_ended.signature (𝓣.C claim) (closing 𝓛 claim_ended (claim_clauses 𝓛)) → Meets 𝓛 (B.signature (given Mt)) (𝓣.C part) (B.spec (given Mt) 𝓛 𝓜.mem 𝓡.returns)
        → Meets 𝓛 ended.signature (𝓣.C k) (closing 𝓛 ended (clauses 𝓛))
    send_met f k claim part closed claim_met part_met =
        let H = 𝓛.H in let En = ended in let c = clauses 𝓛 in let fn = send_code f σ₀ σ₁ σ₂ β claim part in
        let hs : Stays En.signature.params En.kept = (stay_dropped (mut_ref_to (0 ∷ []) tt (plain P)) no, (stay_dropped (plain (λ _. usize)) yes, (stay_dropped (plain (λ _. Mt)) yes, tt))) in
        proved 𝓛 En hs c 𝓜 𝓡 (Goes-spent_ref 𝓛 2 (0 ∷ []) tt (plain P), (Goes-dropped 𝓛 2 (plain (λ _. usize)) yes (λ κs x f. refl), (Goes-dropped 𝓛 2 (plain (λ _. Mt)) yes (λ κs x f. refl), tt))) k fn closed
        (λ κs. (mut_vals, (uint_vals w64, ((λ m. told.val m ∷ []), tt)))) (λ κs. (mut_Tells (named 0) κs.0 (P κs), (uint_Tells w64, (told.tells, tt)))) (λ κs qs bounds a gh are.
        let κ : Lft = κs.0 in let q : Share = qs.0 in let κ' : Lft = κs.1.0 in let q' : Share = qs.1.0 in let b : ℕ = a.0.ref_ptr.0 in let o : ℕ = a.0.ref_ptr.1 in let γ : GName = a.0.ghost_name in
        let size : ℕ = a.1.0 in let m : Mt.Denot = a.1.1.0 in let at : NamedLft = named_lft 2 1 tt κs in let R : RattleType = Whole at in let old : V = a.0.now in let ok : Bool = may old m in
        let others : Fml = fsep (flft κ' q') ftrue in
        let vals : List Val × (List Val × (List Val × Unit {0})) = (vptr b o ∷ [], (vint w64 size ∷ [], (told.val m ∷ [], tt))) in
        let y : (walk_of 𝓛 En hs c).Ghost = ((κs, qs, bounds, a, vals), gh) in
        let Post : Val → SProp 𝓤 = (walk_of 𝓛 En hs c).post y in
        let Left : V → List ℕ → Type 0 = λ v w. length w ≡ size → v ≡ after_send_if tx with_tx ok m w old in
        let Refused : V → Type 0 = λ v. v ≡ refused_send_if tx with_tx ok size old in
        qed 𝓛 ((‵ (fsep (flft κ q) others) ⊛ ‵ (owns (types_at En.signature.params κs) a vals)) ∷ ‵ ftrue ∷ []) ∵
        move ! (1 ∷ []) $ drop ! $ split ! $ fsplit ! $ move ! (2 ∷ []) $ fsplit ! $ move ! (1 ∷ []) $ fsplit ! $ move ! (1 ∷ []) $ fsplit ! $
        let typed = (subst (λ τs. Typed τs (told.val m ∷ [])) laws.one ((laws.lawful 𝓛).typed m (told.val m ∷ []) are.1.1.0)).0 in
        -- [the metadata; nothing; the size; the reference; the token of κ; the others]
        enter ! 𝓣.C 𝓣.Λ fn (vptr b o ∷ vint w64 size ∷ told.val m ∷ []) Post $
        alloc_all ! (λ l. pass_all ! refl ((tt, tt), ((tt, record { fits = are.1.0.1 }), (typed, tt))) $
        sets ! (addr ! (through ! refl (stop !))) refl (tt, tt) $
        lft_new ! tt (λ α. let s : Share = Share.right q in let κ₁ : Lft = α ∷ κ in
        move ! (5 ∷ []) $ use1 𝓛 (‵ (flft κ (Share.left q)) ⊛ ‵ (flft κ s)) (𝓛.lfts.lft_split κ q) $ split ! $ move ! (2 ∷ []) $
        use1 𝓛 (‵ (flft (α ∷ []) s) ⊛ raw (wand 𝓤 (𝓛.A.lft (α ∷ []) s) (𝓛.A.lft (α ∷ []) full_share))) (𝓛.lfts.lft_carve α s) $ split ! $ move ! (0 ∷ 3 ∷ []) $
        use2 𝓛 (‵ (flft κ₁ s)) (𝓛.lfts.lft_meet (α ∷ []) κ s) $ move ! (6 ∷ 2 ∷ []) $
        use2 𝓛 (later (some (λ (δ : GName). ‵ ((MutRef (named 0) κ₁ R).own_val (record { ref_ptr = (b, o); ghost_name = δ; now = old }) (vptr b o ∷ [])) ⊛ ‵ (LentAgain R κ κ₁ (Share.left q) γ b o δ old))))
        (lends_again 𝓛 R (named 0) κ κ₁ (Share.left q) γ b o (named 0) old) $ await ! tt $ pick ! (λ δ. split ! $
        -- [the loan; what the lender keeps; the token of κ₁; α's way back; the metadata; nothing; the size; the others]
        move ! (4 ∷ 5 ∷ []) $ fjoin ! $ move ! (5 ∷ 0 ∷ []) $ fjoin ! $ move ! (1 ∷ 0 ∷ []) $ fjoin ! $ move ! (2 ∷ 4 ∷ []) $ join ! $ join ! $
        let G = triple_of 𝓛 claim_ended.signature (closing 𝓛 claim_ended (claim_clauses 𝓛)) in
        let inc : Incl κ₁ κ = λ x m. mem-append_right (α ∷ []) m in
        let loan : MutBor V = record { ref_ptr = (b, o); ghost_name = δ; now = old } in
        let z : G.Ghost = (((κ₁, κs.1), (s, qs.1), (Incl-trans inc bounds.0, tt), (loan, a.1), vals), tt) in
        nothing ! $ move ! (1 ∷ 0 ∷ []) $ use2 𝓛 (raw (G.pre z)) (id⊢ 𝓤 _) $
        calls_at ! (fm 𝓛 𝓜 𝓡) G claim_met z
        (and_then ! (get ! refl) (and_then ! (get ! refl) (and_then ! (get ! refl) (no_more !)))) (λ v. let Pair : RattleType = Tuple (bool ∷ bool ∷ usize ∷ []) in
        use1 𝓛 (later (some (λ (r : Pair.Denot). ((‵ (flft κ₁ s) ⊛ ‵ others) ⊛ ‵ (Pair.own_val r (v ∷ []))) ⊛ some (λ (ws : V × (Unit {0} × (Unit {0} × Unit {0}))). ‵ (lasts claim_ended (κ₁, κs.1) (loan, a.1) ws)
        ⊛ raw (fact 𝓤 (r.0 ≡ ok)) ⊛ raw (fact 𝓤 (r.0 ≡ true → Claims size m (tx old) r.1 r.2 (tx ws.0))) ⊛ raw (fact 𝓤 (r.0 ≡ false → ws.0 ≡ old)) ⊛ raw (fact 𝓤 (ws.0 ≡ with_tx old (tx ws.0))))))) (id⊢ 𝓤 _) $
        await ! tt $ pick ! (λ r. split ! $ split ! $ split ! $ move ! (3 ∷ []) $ pick ! (λ ws. split ! $ fsplit ! $ fsplit ! $ move ! (3 ∷ []) $ split ! $ heard ! _ (λ of_sendable. split ! $ heard ! _ (λ of_claim. split ! $ heard ! _ (λ of_refused. heard ! _ (λ same.
        -- [res; the borrow; nothing; the token of κ₁; the others; the pair; what the lender keeps; α's way back]
        move ! (3 ∷ []) $ use1 𝓛 (‵ (flft (α ∷ []) s) ⊛ ‵ (flft κ s)) (𝓛.lfts.lft_unmeet (α ∷ []) κ s) $ split ! $ move ! (8 ∷ 0 ∷ []) $
        move ! (1 ∷ 0 ∷ []) $ use2 𝓛 (‵ (flft (α ∷ []) full_share)) (apply∗ 𝓤 (𝓛.A.lft (α ∷ []) s) (𝓛.A.lft (α ∷ []) full_share)) $ lft_end ! tt $
        use1 𝓛 (‵ (fdead κ₁)) (𝓛.lfts.dead-incl κ₁ (α ∷ []) (λ x m. mem-append_left κ m)) $ move ! (0 ∷ 7 ∷ 2 ∷ []) $
        use3 𝓛 (later (‵ ((MutRef (named 0) κ R).own_val (record { ref_ptr = (b, o); ghost_name = γ; now = ws.0 }) (vptr b o ∷ [])) ⊛ ‵ (flft κ (Share.left q))))
        (comes_back 𝓛 R (named 0) κ κ₁ (Share.left q) γ b o δ old ws.0) $ await ! tt $ split ! $ move ! (1 ∷ 2 ∷ []) $ use2 𝓛 (‵ (flft κ q)) (𝓛.lfts.lft_join κ q) $
        -- [the token of κ; the reference; the borrow; nothing; the others; the pair]
        move ! (5 ∷ []) $ fpick ! (λ vss. fsplit ! $ feq_l ! (λ whole_is. fsplit ! $
        feq_l ! (λ flag_is. fsplit ! $ feq_l ! (λ taken_is. fsplit ! $ peeks ! usize (Is usize) (shows 𝓛 usize) r.2 vss.1.1.0 (λ place_is.
        let from : ℕ = r.2 in let new : V = ws.0 in let En₁ = env fn.locals l in
        lands_as ! (ap only (whole_is ∙ (λ j. vstruct (of_list (flag_is j ++ (taken_is j ++ (place_is.0 j ++ [])))) ∷ []))) refl (tt, (tt, (tt, (record { fits = place_is.1 }, tt)))) $
        sets ! (of_opd ! (get_in ! (fld ! refl (stop !)) (sub ! 0 refl (whole !)))) refl (tt, tt) $
        sets ! (of_opd ! (get_in ! (fld ! refl (stop !)) (sub ! 1 refl (whole !)))) refl (tt, tt) $
        sets ! (of_opd ! (get_in ! (fld ! refl (stop !)) (sub ! 2 refl (whole !)))) refl (tt, record { fits = place_is.1 }) $
        sets ! (un ! (get ! refl) tt) refl (tt, tt) $
        let Lent : RattleType = MutSlice (named 0) κ u8 in let Res : RattleType = result_type.the_row Lent error_type.the_row in
        -- [the place; nothing; the token of κ; the reference; the borrow; nothing; the others]
        first ! $ branches ! (get ! refl)
        (λ no_way. let no : ok ≡ false = sym of_sendable ∙ refused r.0 no_way in
        sets ! (agg ! (and_then ! (lit ! tt) (no_more !))) refl (tt, (record { fits = lit< tt }, tt)) $
        sets ! (agg ! (and_then ! (lit ! tt) (and_then ! (get ! refl) (no_more !)))) refl (tt, (record { fits = lit< tt }, ((record { fits = lit< tt }, tt), tt))) $
        returns_within ! Post refl (look_at ! 0 refl) $ free_all ! refl $ keep ! (3 ∷ 2 ∷ 6 ∷ []) $ fsplit3 ! $ keep ! (1 ∷ 3 ∷ 4 ∷ []) $
        use1 𝓛 (‵ (fres γ (R.coded.code new))) (𝓛.names.obs-res γ (R.coded.code new)) $
        use1 𝓛 (‵ (LendsSoOk R (Array u8 0) a.0 {E = SendError} (Err send_error.Unaddressable) Left Refused)) (ends_refused 𝓛 R a.0 SendError Left Refused send_error.Unaddressable new (of_refused (refused r.0 no_way) ∙ sym (ap (λ (t : Bool). if t then with_tx old (made_room size (tx old)) else old) no))) $
        use0 𝓛 (‵ (Res.own_val (Err send_error.Unaddressable) (live 1 (of_list (live 0 vnil ∷ [])) ∷ []))) (via 𝓤 _ (unaddressable_owned 𝓛) (err_of 𝓛 Lent error_type.the_row send_error.Unaddressable (live 0 vnil))) $
        let Answer : Type 0 = ◌≡◌ {A = Result (Unit {0}) SendError} (Err send_error.Unaddressable) (send_answer_if ok size (tx old)) in
        use0 𝓛 (raw (fact 𝓤 ⊤)) (fact_i 𝓤 ⊤ (emp 𝓤) tt) $ use0 𝓛 (raw (fact 𝓤 ⊤)) (fact_i 𝓤 ⊤ (emp 𝓤) tt) $ join ! $
        use0 𝓛 (raw (fact 𝓤 Answer)) (fact_i 𝓤 Answer (emp 𝓤) (sym (ap (λ (t : Bool). if t then (if takes size (tx old) then Ok tt else Err send_error.BufferFull) else Err send_error.Unaddressable) no))) $ join ! $
        -- [the facts; the result; what follows; the token of κ; the others]
        move ! (2 ∷ 0 ∷ []) $ join ! $ nothing ! $ nothing ! $ fjoin ! $ nothing ! $ fjoin ! $ nothing ! $ fjoin ! $ move ! (3 ∷ 4 ∷ []) $ join ! $ move ! (0 ∷ 1 ∷ 3 ∷ 2 ∷ []) $
        by ! (leaves 𝓛 En hs c y (live 1 (of_list (live 0 vnil ∷ []))) (Err send_error.Unaddressable) (tt, (tt, (tt, tt))) (tt, (tt, (tt, tt)))))
        (λ way. let yes_it_may : ok ≡ true = sym of_sendable ∙ granted r.0 way in let claimed : Claims size m (tx old) r.1 r.2 (tx new) = of_claim (granted r.0 way) in
        skips ! $ exec ! 𝓣.C 𝓣.Λ En₁ (after 7 fn.body) (at_ret En₁ Post) $ sets ! (un ! (get ! refl) tt) refl (tt, tt) $ first ! $ branches ! (get ! refl)
        (λ no_room. let none_left : r.1 ≡ false = refused r.1 no_room in
        sets ! (agg ! (and_then ! (lit ! tt) (no_more !))) refl (tt, (record { fits = lit< tt }, tt)) $
        sets ! (agg ! (and_then ! (lit ! tt) (and_then ! (get ! refl) (no_more !)))) refl (tt, (record { fits = lit< tt }, ((record { fits = lit< tt }, tt), tt))) $
        returns_within ! Post refl (look_at ! 0 refl) $ free_all ! refl $ keep ! (3 ∷ 2 ∷ 6 ∷ []) $ fsplit3 ! $ keep ! (1 ∷ 3 ∷ 4 ∷ []) $
        use1 𝓛 (‵ (fres γ (R.coded.code new))) (𝓛.names.obs-res γ (R.coded.code new)) $
        use1 𝓛 (‵ (LendsSoOk R (Array u8 0) a.0 {E = SendError} (Err send_error.BufferFull) Left Refused)) (ends_refused 𝓛 R a.0 SendError Left Refused send_error.BufferFull new (same ∙ (λ i. with_tx old (claimed.err none_left i)) ∙ sym (ap (λ (t : Bool). if t then with_tx old (made_room size (tx old)) else old) yes_it_may))) $
        use0 𝓛 (‵ (Res.own_val (Err send_error.BufferFull) (live 1 (of_list (live 1 vnil ∷ [])) ∷ []))) (via 𝓤 _ (full_owned 𝓛) (err_of 𝓛 Lent error_type.the_row send_error.BufferFull (live 1 vnil))) $
        let Answer : Type 0 = ◌≡◌ {A = Result (Unit {0}) SendError} (Err send_error.BufferFull) (send_answer_if ok size (tx old)) in
        use0 𝓛 (raw (fact 𝓤 ⊤)) (fact_i 𝓤 ⊤ (emp 𝓤) tt) $ use0 𝓛 (raw (fact 𝓤 ⊤)) (fact_i 𝓤 ⊤ (emp 𝓤) tt) $ join ! $
        use0 𝓛 (raw (fact 𝓤 Answer)) (fact_i 𝓤 Answer (emp 𝓤) (sym (ap (λ (t : Bool). if t then Ok tt else Err send_error.BufferFull) (sym claimed.variant ∙ none_left)) ∙ sym (ap (λ (t : Bool). if t then (if takes size (tx old) then Ok tt else Err send_error.BufferFull) else Err send_error.Unaddressable) yes_it_may))) $ join ! $
        -- [the facts; the result; what follows; the token of κ; the others]
        move ! (2 ∷ 0 ∷ []) $ join ! $ nothing ! $ nothing ! $ fjoin ! $ nothing ! $ fjoin ! $ nothing ! $ fjoin ! $ move ! (3 ∷ 4 ∷ []) $ join ! $ move ! (0 ∷ 1 ∷ 3 ∷ 2 ∷ []) $
        by ! (leaves 𝓛 En hs c y (live 1 (of_list (live 1 vnil ∷ []))) (Err send_error.BufferFull) (tt, (tt, (tt, tt))) (tt, (tt, (tt, tt)))))
        (λ room. let some_left : r.1 ≡ true = granted r.1 room in
        let buffer : Packets Mt.Denot = tx new in let Bu : RattleType = packet_buffer.the_row at (given Mt) in let p : ℕ = o + d in
        let had : Claims size m (tx old) true from buffer = subst (λ (t : Bool). Claims size m (tx old) t from buffer) some_left claimed in
        skips ! $ exec ! 𝓣.C 𝓣.Λ En₁ (after 9 fn.body) (at_ret En₁ Post) $ sets ! (addr ! (through ! refl (fld ! second (stop !)))) refl (tt, tt) $
        -- [the place; nothing; the token of κ; the reference; the borrow; nothing; the others]
        move ! (3 ∷ 2 ∷ []) $ use2 𝓛 (later (some (λ (ε : GName). ‵ ((MutRef (named 0) κ Bu).own_val (record { ref_ptr = (b, p); ghost_name = ε; now = buffer }) (vptr b p ∷ [])) ⊛ ‵ (flft κ q)
        ⊛ ‵ (follows R Bu γ ε (with_tx new))))) (lends_tx at (named 0) κ q b o γ new) $ await ! tt $ pick ! (λ ε. split3 ! $
        -- [the buffer; the token of κ; what follows it; the place; nothing; the borrow; nothing; the others]
        nothing ! $ owned ! usize _ (uint_Makes 𝓛 w64) size _ (refl, are.1.0.1) $ fjoin ! $ owned ! usize _ (uint_Makes 𝓛 w64) from _ (refl, place_is.1) $ fjoin ! $ move ! (1 ∷ 0 ∷ []) $ fjoin ! $
        move ! (7 ∷ []) $ fsplit ! $ use1 𝓛 (‵ (flft κ' (Share.left q')) ⊛ ‵ (flft κ' (Share.right q'))) (𝓛.lfts.lft_split κ' q') $ split ! $
        move ! (1 ∷ 2 ∷ []) $ fjoin ! $ move ! (1 ∷ 0 ∷ []) $ fjoin ! $ move ! (2 ∷ 0 ∷ []) $ join ! $ join ! $
        -- [the tokens, and what the arguments own; what follows the buffer; ..]
        let halves : Fml = fsep (flft κ' (Share.left q')) (fsep (flft κ' (Share.right q')) ftrue) in
        let G₂ = triple_of 𝓛 (B.signature (given Mt)) (B.spec (given Mt) 𝓛 𝓜.mem 𝓡.returns) in
        let lent : MutBor (Packets Mt.Denot) = record { ref_ptr = (b, p); ghost_name = ε; now = buffer } in
        let z₂ : G₂.Ghost = (((κ, (κ', (κ', tt))), (q, (Share.left q', (Share.right q', tt))), (bounds.0, (bounds.0, (⊑_refl κ', tt))), (lent, (from, (size, tt))), (vptr b p ∷ [], (vint w64 from ∷ [], (vint w64 size ∷ [], tt)))), tt) in
        let Asked : Type 0 = κ' ⊑ (given Mt).lives in let Within : Type 0 = from + size ≤ length buffer.storage in
        use0 𝓛 (raw (fact 𝓤 Within)) (fact_i 𝓤 Within (emp 𝓤) (had.within refl)) $ use0 𝓛 (raw (fact 𝓤 Asked)) (fact_i 𝓤 Asked (emp 𝓤) (within κ')) $ join ! $
        move ! (1 ∷ 0 ∷ []) $ use2 𝓛 (raw (G₂.pre z₂)) (id⊢ 𝓤 _) $
        calls_at ! (fm 𝓛 𝓜 𝓡) G₂ part_met z₂
        (and_then ! (get ! refl) (and_then ! (get ! refl) (and_then ! (get ! refl) (no_more !)))) (λ u. let In : List ℕ → Packets Mt.Denot = λ w. with_all buffer (around buffer.storage from size w) in
        use1 𝓛 (later (some (λ (x : MutBor (List ℕ)). ((‵ (flft κ q) ⊛ ‵ halves) ⊛ ‵ (Lent.own_val x (u ∷ []))) ⊛ some (λ (xs : Unit {0} × (Unit {0} × (Unit {0} × Unit {0}))). ‵ (lasts (B.ended (given Mt)) z₂.0.0 z₂.0.3 xs)
        ⊛ ‵ (follows Bu (Array u8 0) ε x.ghost_name In) ⊛ raw (fact 𝓤 (x.now ≡ take size (without from buffer.storage))))))) (id⊢ 𝓤 _) $
        await ! tt $ pick ! (λ x. split ! $ split ! $ split ! $ move ! (3 ∷ []) $ pick ! (λ xs. split ! $ drop ! $ split ! $ move ! (1 ∷ []) $ heard ! _ (λ part_is.
        -- [what follows in the buffer; the token of κ; the other tokens; the bytes; what follows the buffer; ..]
        move ! (3 ∷ []) $ peeks ! Lent (Is Lent) (shows 𝓛 Lent) x (u ∷ []) (λ bytes_are.
        lands_as ! (ap only bytes_are.0.0) refl (tt, (tt, (record { fits = bytes_are.0.1.0 }, tt))) $
        sets ! (agg ! (and_then ! (lit ! tt) (and_then ! (get ! refl) (no_more !)))) refl (tt, (record { fits = lit< tt }, ((tt, (record { fits = bytes_are.0.1.0 }, tt)), tt))) $
        let word : Val = slice_val x.ref_ptr (length x.now) in let F : List ℕ → V = λ w. with_tx new (In w) in
        rewrite ! 0 (λ (us : List Val). ‵ (Lent.own_val x us)) bytes_are.0.0 refl $
        move ! (4 ∷ 1 ∷ []) $ use2 𝓛 (‵ (follows R (Array u8 0) γ x.ghost_name F)) (follows_then 𝓛 R Bu (Array u8 0) (with_tx new) In γ ε x.ghost_name) $
        use1 𝓛 (‵ (LendsSoOk R (Array u8 0) a.0 {E = SendError} (Ok x) Left Refused)) (ends_lent 𝓛 R a.0 SendError Left Refused x F
        (λ w long. (λ i. with_tx (same i) (In w)) ∙ over old (tx new) (In w) ∙ (λ i. with_tx old (left_as size m (tx old) buffer from had w long i)) ∙ sym (ap (λ (t : Bool). if t then with_tx old (stored m w (tx old)) else old) yes_it_may))) $
        -- [what follows; the bytes; the token of κ; the other tokens; ..]
        move ! (3 ∷ []) $ fsplit ! $ move ! (1 ∷ []) $ fsplit ! $ move ! (2 ∷ 0 ∷ []) $ use2 𝓛 (‵ (flft κ' q')) (𝓛.lfts.lft_join κ' q') $ fjoin ! $ move ! (2 ∷ 1 ∷ 3 ∷ 0 ∷ []) $
        use1 𝓛 (‵ (Res.own_val (Ok x) (live 0 (of_list (word ∷ [])) ∷ []))) (ok_of 𝓛 Lent error_type.the_row x word) $
        returns ! (look_at ! 0 refl) $ free_all ! refl $ keep ! (0 ∷ 1 ∷ 2 ∷ 3 ∷ []) $
        let storage : buffer.storage ≡ (tx old).storage = ap (λ (p : Packets Mt.Denot). p.storage) (had.after refl) ∙ made_room-storage size (tx old) in
        let Value : Type 0 = x.now ≡ take size (without (end_of (made_room size (tx old))) (tx old).storage) in
        let Size : Type 0 = length x.now ≡ size in
        let Answer : Type 0 = ◌≡◌ {A = Result (Unit {0}) SendError} (Ok tt) (send_answer_if ok size (tx old)) in
        use0 𝓛 (raw (fact 𝓤 Value)) (fact_i 𝓤 Value (emp 𝓤) (part_is ∙ (λ i. take size (without (had.place refl i) (storage i))))) $
        use0 𝓛 (raw (fact 𝓤 Size)) (fact_i 𝓤 Size (emp 𝓤) (ap length part_is ∙ length-take-le size (without from buffer.storage) (omega (arith, length-drop from buffer.storage, had.within refl)))) $ join ! $
        use0 𝓛 (raw (fact 𝓤 Answer)) (fact_i 𝓤 Answer (emp 𝓤) (sym (ap (λ (t : Bool). if t then Ok tt else Err send_error.BufferFull) (sym claimed.variant ∙ some_left)) ∙ sym (ap (λ (t : Bool). if t then (if takes size (tx old) then Ok tt else Err send_error.BufferFull) else Err send_error.Unaddressable) yes_it_may))) $ join ! $
        -- [the facts; the result; what follows; the token of κ; the others]
        move ! (2 ∷ 0 ∷ []) $ join ! $ nothing ! $ nothing ! $ fjoin ! $ nothing ! $ fjoin ! $ nothing ! $ fjoin ! $ move ! (3 ∷ 4 ∷ []) $ join ! $ move ! (0 ∷ 1 ∷ 3 ∷ 2 ∷ []) $
        by ! (leaves 𝓛 En hs c y (live 0 (of_list (word ∷ []))) (Ok x) (tt, (tt, (tt, tt))) (tt, (tt, (tt, tt))))))))))))))))))))))))))))
