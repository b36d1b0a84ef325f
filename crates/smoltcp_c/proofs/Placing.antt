-- Items that a struct of a pointer and a count owns are lent for good. Assumes `Logic`.
--     Items                the struct's row
--     ended, clauses       the contract of the function that lends
--     lend_code            its code
--     lend_met             the code meets the contract
use mathlib.Core.Path.{◌≡◌, refl, sym, subst}
use Prim.Native.Nat.{ℕ, ◌*◌, ◌<◌, ◌≤◌, ◌^◌}
use native.Mathlib.Omega.{arith}
use mathlib.Core.List.{List, [], ◌∷◌, ◌++◌}
use lib.ListN.{length}
use seplogic.Ra.Ura.{Ura}
use base.Fraction.{full_share}
use base.Stored.{Coded, coded_list}
use mir.Syntax.{Fn, Sym, Ty, Lifetime, erased, static, w64, ty_int, ty_ptr, local, value_local, seq, block, assign, return, place, field, rv_opd, copy, aggregate}
use mir.Val.{Val, vint, vptr, vstruct, vnil, vcons, of_list}
use base.Logic.{SProp, ent, id⊢, never}
use base.Fml.{Lft, Fml, ftrue, feq, fsep, fauth}
use contract.Monad.{fact}
use prog.Wp.{Env, Calls, Loops, WpFn, Tables}
use types.Logic.{Logic, sem}
use types.SemTy.{Arr, cells}
use types.Tokens.{name_new, bor_new}
use sound.WpLaws.{WpFn-mono}
use types.Kit.{Goal, Seq, Item, ‵, ◌⊛◌, at_ret, ◌$◌, ◌∵◌, !, qed, by, move, keep, use1, use2, drop, split, join, fsplit, fjoin, fpick, fpack, feq_l, feq_i, flt_l, rewrite, suffices, done}
use types.Part.{whole, sub, agg}
use types.Run.{stop, fld, of_opd, and_then, no_more, first, blocks, exec, returns, enter}
use types.ByLocal.{alloc_all, pass_all, free_all, look_at, get, get_in, sets, sets_last, env}
use denote.RattleType.{RattleType, owns}
use denote.Memory.{lone, part_at, mem}
use denote.RawPtr.{Ptr, block_ptr, ptr_val, in_a_block, lies_at}
use denote.Array.{Array}
use denote.ArrayMemory.{Single, Array-apart}
use denote.Exit.{Kept, Exit, Last, left, rest, yes}
use denote.Index.{row as places, whole_in}
use denote.Param.Mute.{blank}
use denote.Slice.{MutSlice, slice_val}
use denote.FollowSlice.{slice_of}
use denote.Signature.{plain, mut_slice_of}
use denote.Steps.{nothing}
use denote.Struct.Field.{RawPtr-field, usize-field}
use denote.Struct.Owning.{Owning, row}
use denote.Triple.Entry.{on_entry}
use denote.Triple.Clauses.{Clauses, Ended, closing}
use denote.Triple.Spec.{Meets}
use denote.Triple.Walked.{says, needs, Stays, stay_dropped, walk_of, ends_at, walk_Meets}
use lib.Dec.{T}
use Rattle.std.proofs.VecSteps.Shapes.{after}
use Rattle.std.proofs.alloc.Calls.{Goes-blank}
use Rattle.smoltcp_c.specs.Memory.{items_at}
use Rattle.smoltcp_c.proofs.Owned.{ended_by, owning}

module _ (name : Sym) (D : Type 0) (at : D → Ptr) (len : D → ℕ) (coded : Coded D) (exit : Kept → Exit D) (shared : D → ℕ → ℕ → Lft → Fml) (E : RattleType) (one : Single E.mir) where
  abbrev type : Owning
  type = owning name D coded exit shared (RawPtr-field ∷ usize-field ∷ []) (λ d. (at d, (len d, tt))) (λ d. items_at E (at d) (len d))

  abbrev pub Items : RattleType
  Items = row type

  abbrev pub ended : Ended
  ended = ended_by 0 (plain (λ _. Items) ∷ []) (mut_slice_of [] tt (plain (λ _. E))) (yes, tt)

  abbrev slice : Lifetime → Ty
  slice ℓ = lone (MutSlice ℓ [] E).mir

  abbrev pub lend_code : Fn → Fn
  lend_code f = record f {
    params = 1;
    locals = local (slice static) value_local ∷ local (lone Items.mir) value_local ∷ local ty_ptr value_local ∷ local (ty_int w64) value_local ∷ local (slice erased) value_local ∷ local ty_ptr value_local ∷ [];
    body = seq (assign (place 2 []) (rv_opd (copy (place 1 (field 0 ∷ []))))) (seq (assign (place 3 []) (rv_opd (copy (place 1 (field 1 ∷ [])))))
        (seq (block (seq (assign (place 5 []) (rv_opd (copy (place 2 [])))) (assign (place 4 []) (aggregate (copy (place 5 []) ∷ copy (place 3 []) ∷ [])))))
        (seq (assign (place 0 []) (rv_opd (copy (place 4 [])))) return)));
  }

  abbrev pub clauses : {M : Type 1} {𝓤 : Ura M} (𝓛 : Logic 𝓤) → Clauses 𝓤 ended
  clauses {𝓤 = 𝓤} 𝓛 κs a = record {
    ghost = Unit {0};
    requires = λ _. fact 𝓤 (len a.0 ≤ 2 ^ 30);
    ensures = λ _ r end. fact 𝓤 (len a.0 ≡ length r.now);
  }

  abbrev word : ℕ → ℕ → ℕ → Val
  word b o n = vstruct (vcons (vptr b o) (vcons (vint w64 n) vnil))

  abbrev stayed : Stays ended.signature.params ended.kept
  stayed = (stay_dropped (plain (λ _. Items)) yes, tt)

  module _ {M : Type 1} {𝓤 : Ura M} {𝓛 : Logic 𝓤} {K : Type 0} {Γ : List (Item 𝓤)} {G : Goal 𝓤 𝓛.H} where
    items_out : K → (d : D) (vs : List Val)
        → ((xs : List E.Denot) (b o : ℕ) → at d ≡ block_ptr b o → vs ≡ word b o (len d) ∷ [] → len d < 2 ^ 64 → Seq K 𝓛 (‵ (part_at (Array E (len d)) full_share xs b o) ∷ Γ) G)
        → Seq K 𝓛 (‵ (Items.own_val d vs) ∷ Γ) G
    items_out t d vs k =
        fsplit t $ fpick t (λ vss. fsplit t $ feq_l t (λ ev. fsplit t $ feq_l t (λ ep. fsplit t $ fsplit t $ feq_l t (λ en. flt_l t (λ fits. drop t $ fpick t (λ xs.
        in_a_block t (at d) (λ p. lies_at (Array E (len d)) full_share p xs) (id⊢ 𝓤 (never 𝓤)) (λ b o e. k xs b o e
        (subst (λ (p : Ptr). vs ≡ vstruct (of_list (ptr_val p ∷ vint w64 (len d) ∷ [])) ∷ []) e
        (subst (λ (ws : List Val). vs ≡ vstruct (of_list (ptr_val (at d) ∷ (ws ++ []))) ∷ []) en
        (subst (λ (ps : List Val). vs ≡ vstruct (of_list (ps ++ (vss.1.0 ++ []))) ∷ []) ep ev))) fits)))))))

  module _ (small : (n : ℕ) → n ≤ 2 ^ 30 → n * (mem E).size < 2 ^ 63) {M : Type 1} {𝓤 : Ura M} (𝓛 : Logic 𝓤) (C : Calls 𝓤 𝓛.H) (Λ : Loops 𝓤 𝓛.H) (f : Fn) (d : D) (vs : List Val) where
    open 𝓛 use {H}

    abbrev fn : Fn
    fn = lend_code f

    abbrev bound : (walk_of 𝓛 ended stayed (clauses 𝓛)).Ghost
    bound = ((tt, tt, tt, (d, tt), (vs, tt)), tt)

    abbrev Post : Val → SProp 𝓤
    Post = (walk_of 𝓛 ended stayed (clauses 𝓛)).post bound

    walk : (xs : List E.Denot) (b o : ℕ) → length xs ≡ len d → len d ≤ 2 ^ 30 → ent 𝓤 (sem 𝓛 (places E full_share xs b o)) (WpFn 𝓤 H C Λ fn (word b o (len d) ∷ []) Post)
    walk xs b o same low =
        let fits : len d < 2 ^ 64 = omega arith in
        let roomy : length xs < 2 ^ 64 = omega arith in
        let fitting : length xs * (mem E).size < 2 ^ 63 = small (length xs) (omega arith) in
        let All = Arr (mem E) (length xs) in
        qed 𝓛 (‵ (places E full_share xs b o) ∷ []) ∵
        enter ! C Λ fn (word b o (len d) ∷ []) _ $ alloc_all ! (λ l. pass_all ! refl ((tt, (tt, (record { fits = fits }, tt))), tt) $
        let En : Env 𝓤 H = env fn.locals l in
        sets ! (of_opd ! (get_in ! (fld ! refl (stop !)) (sub ! 0 refl (whole !)))) refl (tt, tt) $
        sets ! (of_opd ! (get_in ! (fld ! refl (stop !)) (sub ! 1 refl (whole !)))) refl (tt, record { fits = fits }) $
        first ! $ blocks ! $ sets ! (of_opd ! (get ! refl)) refl (tt, tt) $ sets_last ! (agg ! (and_then ! (get ! refl) (and_then ! (get ! refl) (no_more !)))) refl (tt, (tt, (record { fits = fits }, tt))) $
        exec ! C Λ En (after 3 fn.body) (at_ret En Post) $
        use1 𝓛 (‵ (cells (mem E) xs b o)) (whole_in 𝓛 E xs b o) $ feq_i ! ℕ (length xs) (length xs) refl $ fjoin ! $
        name_new ! tt ((coded_list E.coded).code xs) (λ γ. move ! (2 ∷ 1 ∷ []) $ fjoin ! $
        fpack ! (List E.Denot) (λ ys. fsep (All.own_at ys b o) (fauth γ (All.coded.code ys))) xs $ bor_new ! tt [] $
        sets ! (of_opd ! (get ! refl)) refl (tt, (tt, (record { fits = fits }, tt))) $
        let r : (MutSlice static [] E).Denot = record { ref_ptr = (b, o); ghost_name = γ; now = xs } in
        move ! (2 ∷ 0 ∷ []) $ use2 𝓛 (‵ ((MutSlice static [] E).own_val r (slice_val (b, o) (length xs) ∷ []))) (slice_of 𝓛 E static [] b o γ xs (roomy, fitting)) $
        rewrite ! 0 (λ (j : ℕ). ‵ ((MutSlice static [] E).own_val r (slice_val (b, o) j ∷ []))) same refl $
        returns ! (look_at ! 0 refl) $ free_all ! refl $ keep ! (0 ∷ []) $
        suffices ! _ (ends_at 𝓛 ended stayed (clauses 𝓛) bound (slice_val (b, o) (len d)) r (rest (exit yes) d, tt) (tt, tt)) $
        says ! (sym same) $ nothing ! $ nothing ! $ fjoin ! $ join ! $ nothing ! $ join ! $ done !))

    entry : len d ≤ 2 ^ 30 → ent 𝓤 (on_entry 𝓛 ended.signature tt tt (d, tt) (vs, tt)) (WpFn 𝓤 H C Λ fn (vs ++ []) Post)
    entry low =
        qed 𝓛 ((‵ ftrue ⊛ ‵ (owns (Items ∷ []) (d, tt) (vs, tt))) ∷ []) ∵ split ! $ drop ! $ fsplit ! $ items_out ! d vs (λ xs b o e is fits.
        use1 𝓛 (‵ (fsep (feq ℕ (length xs) (len d)) (places E full_share xs b o))) (Array-apart 𝓛 E full_share one (len d) xs b o) $ fsplit ! $ feq_l ! (λ same. keep ! (0 ∷ []) $
        by ! (subst (λ (ws : List Val). ent 𝓤 (sem 𝓛 (places E full_share xs b o)) (WpFn 𝓤 H C Λ fn (ws ++ []) Post)) (sym is) (walk xs b o same low))))

  pub lend_met : ((n : ℕ) → n ≤ 2 ^ 30 → n * (mem E).size < 2 ^ 63) → ((d : D) (z : Last (exit yes) d) → T (blank (left (exit yes) d z))) → {M : Type 1} {𝓤 : Ura M} (𝓛 : Logic 𝓤) (𝓣 : Tables 𝓤 𝓛.H) (f : Fn) → Meets 𝓛 ended.signature (WpFn 𝓤 𝓛.H 𝓣.C 𝓣.Λ (lend_code f)) (closing 𝓛 ended (clauses 𝓛))
  lend_met small silent {𝓤 = 𝓤} 𝓛 𝓣 f =
      walk_Meets 𝓛 ended stayed (Goes-blank 𝓛 0 (plain (λ _. Items)) yes (λ κs d z. silent d z), tt) (clauses 𝓛) (WpFn 𝓤 𝓛.H 𝓣.C 𝓣.Λ (lend_code f)) (WpFn-mono 𝓤 𝓛.H 𝓛.laws 𝓣 (lend_code f))
      (λ z. needs 𝓤 (len z.0.3.0 ≤ 2 ^ 30) _ (entry small 𝓛 𝓣.C 𝓣.Λ f z.0.3.0 z.0.4.0))
