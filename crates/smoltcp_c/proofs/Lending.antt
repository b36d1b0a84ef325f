-- A value that lies behind the one pointer of a struct is lent, and the struct follows it. Assumes `Logic`.
--     Handle               the struct's row
--     ended, clauses       the contract of the function that lends
--     lend_code            its code: σ is the struct's type, and ρ the value's
--     lend_met             the code meets the contract
use mathlib.Core.Path.{◌≡◌, refl, sym, ap, subst, ◌∙◌}
use Prim.Native.Nat.{ℕ}
use mathlib.Core.List.{List, [], ◌∷◌, ◌++◌}
use mathlib.Core.Option.{some as has}
use seplogic.Ra.Ura.{Ura}
use base.Fraction.{full_share}
use base.Stored.{Coded}
use mir.Syntax.{Fn, Sym, Ty, named, erased, mut, ty_ptr, ty_ref, local, value_local, seq, block, assign, return, place, deref, field, addr_of, rv_opd, copy}
use mir.Val.{Val, vptr, vstruct, vnil, vcons, of_list}
use base.Logic.{SProp, ent, sep, emp, via, fst∗, id⊢, never}
use base.Fml.{Lft, GName, Share, Fml, ftrue, fsep, flft}
use contract.Monad.{fact}
use prog.Memory.{field_of}
use prog.Wp.{Env, Calls, Loops, WpFn, Tables}
use types.Logic.{Logic, sem}
use sound.WpLaws.{WpFn-mono}
use types.Kit.{Goal, Step, step, Seq, Item, ‵, ◌⊛◌, some, at_ret, ◌$◌, ◌∵◌, !, qed, by, move, keep, use1, drop, split, join, pick, fsplit, fsplit3, fjoin, fpick, fpack, feq_l, feq_i, rewrite, suffices, frame, done, raw, later, await, group}
use types.Part.{whole, sub, look_in}
use types.Run.{stop, fld, load, addr, of_opd, first, blocks, exec, returns, enter}
use types.ByLocal.{alloc_all, pass_all, free_all, look_at, get, through, sets, sets_last, env}
use denote.RattleType.{RattleType, owns, Valss}
use denote.Memory.{part_at, mem, cell_at, part_of}
use denote.RawPtr.{Ptr, RawPtr, block_ptr, ptr_val, in_a_block, lies_at}
use denote.Ref.{MutRef, mut_vals, mut_Tells}
use denote.Follow.{follows, Part, lends_Part}
use denote.Exit.{Kept, Exit, no}
use denote.Signature.{plain, mut_ref_to}
use denote.Steps.{nothing, opens}
use denote.Struct.Field.{RawPtr-field}
use denote.Struct.Struct.{within}
use denote.Struct.Owning.{Owning, row, shape}
use denote.Triple.Entry.{on_entry}
use denote.Triple.Clauses.{Clauses, Ended, closing}
use denote.Triple.Spec.{Meets}
use denote.Triple.Walked.{says, Stays, stay_dropped, walk_of, ends_at, walked, walk_Meets, Goes-spent_ref}
use Rattle.std.proofs.VecSteps.Shapes.{after}
use Rattle.smoltcp_c.proofs.Owned.{ended_by, owning}

module _ (name : Sym) (D : Type 0) (at : D → Ptr) (coded : Coded D) (exit : Kept → Exit D) (shared : D → ℕ → ℕ → Lft → Fml) (R : RattleType) (value : D → R.Denot) (with_value : D → R.Denot → D) (stays : (h : D) (w : R.Denot) → at (with_value h w) ≡ at h) (gives : (h : D) (w : R.Denot) → value (with_value h w) ≡ w) where
  abbrev type : Owning
  type = owning name D coded exit shared (RawPtr-field ∷ []) (λ h. (at h, tt)) (λ h. lies_at R full_share (at h) (value h))

  abbrev pub Handle : RattleType
  Handle = row type

  abbrev pub ended : Ended
  ended = ended_by 1 (mut_ref_to (0 ∷ []) tt (plain (λ _. Handle)) ∷ []) (mut_ref_to (0 ∷ []) tt (plain (λ _. R))) (no, tt)

  abbrev pub clauses : {M : Type 1} {𝓤 : Ura M} (𝓛 : Logic 𝓤) → Clauses 𝓤 ended
  clauses {𝓤 = 𝓤} 𝓛 κs a = record {
    ghost = Unit {0};
    requires = λ _. sem 𝓛 ftrue;
    ensures = λ _ r end. sep 𝓤 (sem 𝓛 (follows Handle R a.0.ghost_name r.ghost_name (with_value a.0.now))) (fact 𝓤 (r.now ≡ value a.0.now));
  }

  abbrev pub lend_code : Fn → Ty → Ty → Ty → Ty → Ty → Fn
  lend_code f ρ₀ σ₀ σ₁ ρ₁ ρ₂ = record f {
    params = 1;
    locals = local (ty_ref (named 0) mut ρ₀) value_local ∷ local (ty_ref (named 0) mut σ₀) value_local ∷ local (ty_ref erased mut ρ₁) value_local ∷ local ty_ptr value_local ∷ local ty_ptr value_local ∷ [];
    body = seq (block (seq (assign (place 3 []) (rv_opd (copy (place 1 (deref σ₁ ∷ field 0 ∷ []))))) (seq (assign (place 4 []) (rv_opd (copy (place 3 [])))) (assign (place 2 []) (addr_of (place 4 (deref ρ₂ ∷ []))))))) (seq (assign (place 0 []) (rv_opd (copy (place 2 [])))) return);
  }

  abbrev word : ℕ → ℕ → Val
  word b o = vstruct (vcons (vptr b o) vnil)

  abbrev stayed : Stays ended.signature.params ended.kept
  stayed = (stay_dropped (mut_ref_to (0 ∷ []) tt (plain (λ _. Handle))) no, tt)

  module _ {M : Type 1} {𝓤 : Ura M} {𝓛 : Logic 𝓤} {K : Type 0} {Γ : List (Item 𝓤)} {G : Goal 𝓤 𝓛.H} where
    handle_out : K → (d : D) (vs : List Val)
        → ((b o : ℕ) → at d ≡ block_ptr b o → vs ≡ word b o ∷ [] → Seq K 𝓛 (‵ (part_at R full_share (value d) b o) ∷ Γ) G)
        → Seq K 𝓛 (‵ (Handle.own_val d vs) ∷ Γ) G
    handle_out t d vs k =
        fsplit t $ fpick t (λ vss. fsplit t $ feq_l t (λ ev. fsplit t $ feq_l t (λ ep. drop t $
        in_a_block t (at d) (λ p. lies_at R full_share p (value d)) (id⊢ 𝓤 (never 𝓤)) (λ b o e. k b o e
        (subst (λ (p : Ptr). vs ≡ vstruct (of_list (ptr_val p ∷ [])) ∷ []) e
        (subst (λ (ps : List Val). vs ≡ vstruct (of_list (ps ++ [])) ∷ []) ep ev))))))

    handle_in : K → (d : D) (b o : ℕ) → at d ≡ block_ptr b o
        → Step K 𝓛 (‵ (Handle.own_val d (word b o ∷ [])) ∷ Γ) G (‵ (part_at R full_share (value d) b o) ∷ Γ) G
    handle_in t d b o e = step (λ s.
        rewrite t 0 (λ (p : Ptr). ‵ (lies_at R full_share p (value d))) (sym e) refl $
        nothing t $ feq_i t (List Val) (vptr b o ∷ []) (ptr_val (at d) ∷ []) (ap (λ (p : Ptr). ptr_val p ∷ []) (sym e)) $ fjoin t $
        feq_i t (List Val) (word b o ∷ []) (word b o ∷ []) refl $ fjoin t $
        fpack t (Valss (RawPtr ∷ [])) (within (shape type) (at d, tt) (word b o ∷ [])) (vptr b o ∷ [], tt) $ fjoin t $ s)

  module _ {M : Type 1} {𝓤 : Ura M} (𝓛 : Logic 𝓤) (κ : Lft) (q : Share) (rb ro : ℕ) (γ : GName) (h : D) where
    open 𝓛 use {H, A}

    abbrev bound : (walk_of 𝓛 ended stayed (clauses 𝓛)).Ghost
    bound = (((κ, tt), (q, tt), tt, (record { ref_ptr = (rb, ro); ghost_name = γ; now = h }, tt), (vptr rb ro ∷ [], tt)), tt)

    abbrev Post : Val → SProp 𝓤
    Post = (walk_of 𝓛 ended stayed (clauses 𝓛)).post bound

    module _ (b o : ℕ) where
      -- the word of the handle
      abbrev Rest : Fml
      Rest = cell_at full_share Handle.mir (word b o ∷ []) rb ro

      back : at h ≡ block_ptr b o → (w : R.Denot) → ent 𝓤 (sep 𝓤 (sem 𝓛 ((mem R).own_at w b o)) (sem 𝓛 Rest)) (sem 𝓛 ((mem Handle).own_at (with_value h w) rb ro))
      unfolding part_of
      back at_b w =
          qed 𝓛 (‵ (part_at R full_share w b o) ∷ ‵ Rest ∷ []) ∵
          rewrite ! 0 (λ (x : R.Denot). ‵ (part_at R full_share x b o)) (sym (gives h w)) refl $
          handle_in ! (with_value h w) b o (stays h w ∙ at_b) $ move ! (1 ∷ 0 ∷ []) $ fjoin ! $
          fpack ! (List Val) (λ us. fsep (cell_at full_share Handle.mir us rb ro) (Handle.own_val (with_value h w) us)) (word b o ∷ []) $ done !

      exits : (γ' : GName)
          → ent 𝓤 (sep 𝓤 (sem 𝓛 ((MutRef (named 0) κ R).own_val (record { ref_ptr = (b, o); ghost_name = γ'; now = value h }) (vptr b o ∷ []))) (sep 𝓤 (A.lft κ q) (sem 𝓛 (follows Handle R γ γ' (with_value h))))) (Post (vptr b o))
      exits γ' =
          qed 𝓛 (‵ ((MutRef (named 0) κ R).own_val (record { ref_ptr = (b, o); ghost_name = γ'; now = value h }) (vptr b o ∷ [])) ∷ ‵ (flft κ q) ∷ ‵ (follows Handle R γ γ' (with_value h)) ∷ []) ∵
          suffices ! _ (ends_at 𝓛 ended stayed (clauses 𝓛) bound (vptr b o) (record { ref_ptr = (b, o); ghost_name = γ'; now = value h }) (tt, tt) (tt, tt)) $
          nothing ! $ nothing ! $ fjoin ! $ join ! $ nothing ! $ move ! (2 ∷ 0 ∷ []) $ join ! $ join ! $ frame ! $ says ! refl $ done !

    walk : (f : Fn) (ρ₀ σ₀ σ₁ ρ₁ ρ₂ : Ty) → field_of σ₁ 0 ≡ has (ty_ptr, 0) → (C : Calls 𝓤 H) (Λ : Loops 𝓤 H) → ent 𝓤 (on_entry 𝓛 ended.signature (κ, tt) (q, tt) (record { ref_ptr = (rb, ro); ghost_name = γ; now = h }, tt) (vptr rb ro ∷ [], tt)) (WpFn 𝓤 H C Λ (lend_code f ρ₀ σ₀ σ₁ ρ₁ ρ₂) (vptr rb ro ∷ []) Post)
    walk f ρ₀ σ₀ σ₁ ρ₁ ρ₂ first_is C Λ =
        let fn : Fn = lend_code f ρ₀ σ₀ σ₁ ρ₁ ρ₂ in
        qed 𝓛 ((‵ (flft κ q) ⊛ ‵ ftrue) ∷ ‵ (owns (MutRef (named 0) κ Handle ∷ []) (record { ref_ptr = (rb, ro); ghost_name = γ; now = h }, tt) (vptr rb ro ∷ [], tt)) ∷ []) ∵
        enter ! C Λ fn (vptr rb ro ∷ []) _ $
        alloc_all ! (λ l. pass_all ! refl ((tt, tt), tt) $
        let En : Env 𝓤 H = env fn.locals l in
        move ! (1 ∷ []) $ fsplit ! $ fsplit3 ! $ drop ! $ move ! (3 ∷ []) $ split ! $ move ! (2 ∷ 3 ∷ 0 ∷ []) $
        opens ! tt Handle {h = h} rb ro (λ vs. move ! (1 ∷ []) $ handle_out ! h vs (λ b o at_b ws. move ! (1 ∷ []) $
        rewrite ! 0 (λ (us : List Val). ‵ (cell_at full_share Handle.mir us rb ro)) ws refl $
        -- [the handle's word; the value; the open borrow; obs; auth]
        first ! $ blocks ! $
        sets ! (of_opd ! (load ! (through ! refl (fld ! first_is (stop !))) (look_in ! 0 (sub ! 0 refl (whole !))))) refl (tt, tt) $
        sets ! (of_opd ! (get ! refl)) refl (tt, tt) $
        sets_last ! (addr ! (through ! refl (stop !))) refl (tt, tt) $
        exec ! C Λ En (after 1 fn.body) (at_ret En Post) $
        sets ! (of_opd ! (get ! refl)) refl (tt, tt) $
        move ! (2 ∷ 3 ∷ 4 ∷ 1 ∷ 0 ∷ []) $ group ! 5 $
        use1 𝓛 (later (some (λ (γ' : GName). raw (Part 𝓛 Handle R (with_value h) (named 0) κ q rb ro b o γ (sem 𝓛 (Rest b o)) (back b o at_b) (value h) γ'))))
        (lends_Part 𝓛 Handle R (with_value h) (named 0) κ q rb ro b o γ (sem 𝓛 (Rest b o)) (back b o at_b) (Handle.coded.code h) (Handle.coded.code h) (value h)) $ await ! tt $ pick ! (λ γ'.
        returns ! (look_at ! 0 refl) $ free_all ! refl $
        keep ! (0 ∷ []) $ by ! (exits b o γ')))))

  pub lend_met : {M : Type 1} {𝓤 : Ura M} (𝓛 : Logic 𝓤) (𝓣 : Tables 𝓤 𝓛.H) (f : Fn) (ρ₀ σ₀ σ₁ ρ₁ ρ₂ : Ty) → field_of σ₁ 0 ≡ has (ty_ptr, 0) → Meets 𝓛 ended.signature (WpFn 𝓤 𝓛.H 𝓣.C 𝓣.Λ (lend_code f ρ₀ σ₀ σ₁ ρ₁ ρ₂)) (closing 𝓛 ended (clauses 𝓛))
  lend_met {𝓤 = 𝓤} 𝓛 𝓣 f ρ₀ σ₀ σ₁ ρ₁ ρ₂ first_is =
      let fn : Fn = lend_code f ρ₀ σ₀ σ₁ ρ₁ ρ₂ in
      walk_Meets 𝓛 ended stayed (Goes-spent_ref 𝓛 1 (0 ∷ []) tt (plain (λ _. Handle)), tt) (clauses 𝓛) (WpFn 𝓤 𝓛.H 𝓣.C 𝓣.Λ fn) (WpFn-mono 𝓤 𝓛.H 𝓛.laws 𝓣 fn)
      (walked 𝓛 ended stayed (clauses 𝓛) (WpFn 𝓤 𝓛.H 𝓣.C 𝓣.Λ fn) (λ κs. (mut_vals, tt)) (λ κs. (mut_Tells (named 0) κs.0 Handle, tt))
      (λ κs qs bounds a g are. via 𝓤 _ (fst∗ 𝓤 _ (emp 𝓤)) (walk 𝓛 κs.0 qs.0 a.0.ref_ptr.0 a.0.ref_ptr.1 a.0.ghost_name a.0.now f ρ₀ σ₀ σ₁ ρ₁ ρ₂ first_is 𝓣.C 𝓣.Λ)))
