-- A value is moved out of the memory behind the one pointer of a struct, which then has room for another. Assumes `Logic`.
--     Room                 the struct's row
--     ended, clauses       the contract of the function that takes
--     take_code            its code: σ is the struct's type, and ρ the value's
--     take_met             the code meets the contract
use mathlib.Core.Path.{◌≡◌, refl, sym, ap, subst, ◌∙◌}
use mathlib.Core.Bool.{true, true≢false}
use Prim.Native.Nat.{ℕ}
use mathlib.Core.List.{List, [], ◌∷◌, ◌++◌}
use mathlib.Core.Option.{some as has}
use seplogic.Ra.Ura.{Ura}
use base.Fraction.{full_share}
use base.Stored.{Coded}
use mir.Raw.{raw as raw_ty}
use mir.Syntax.{Fn, Sym, Ty, named, mut, ty_ptr, ty_ref, local, value_local, seq, block, assign, return, place, deref, field, rv_opd, copy}
use mir.Val.{Val, vptr, vstruct, vnil, vcons, of_list}
use base.Logic.{SProp, ent, sep, id⊢, never}
use base.Fml.{Lft, GName, Share, Fml, ftrue, fat, froom, flft, fobs, fbor}
use contract.Monad.{fact}
use prog.Memory.{field_of}
use prog.Wp.{Env, Calls, Loops, WpFn, Tables}
use types.Logic.{Logic, sem}
use sound.WpLaws.{WpFn-mono}
use types.Kit.{fsplit3, fjoin3, frame, Goal as Aim, Step, step, Seq, Item, ‵, ◌⊛◌, some, at_ret, ◌$◌, ◌∵◌, !, qed, by, move, keep, use1, drop, pick, split, join, fsplit, fjoin, fpick, fpack, feq_l, feq_i, rewrite, suffices, done}
use types.Part.{whole, sub, look_in}
use types.Run.{stop, fld, look, load, of_opd, first, blocks, exec, returns, enter, well_typed}
use types.ByLocal.{alloc_all, pass_all, free_all, look_at, get, through, sets, sets_last, env}
use types.SemTy.{Body as Borrowed}
use borrow.Table.OneValue.{part_out_at, reroom, wt_as}
use denote.RattleType.{RattleType, owns, Valss}
use denote.Memory.{part_at, lone, mem, cell_at}
use denote.Param.Laws.{Laws}
use denote.RawPtr.{Ptr, RawPtr, block_ptr, ptr_val, in_a_block, lies_at, room_at}
use denote.Ref.{MutBor, MutRef, mut_vals, mut_Tells}
use denote.Exit.{Kept, Exit, yes}
use denote.Signature.{plain, mut_ref_to}
use denote.Steps.{nothing, opens, closes}
use denote.Struct.Field.{RawPtr-field}
use denote.Struct.Struct.{within}
use denote.Struct.Owning.{Owning, row, shape}
use denote.Triple.Entry.{on_entry}
use denote.Triple.Clauses.{Clauses, Ended, closing}
use denote.Triple.Spec.{Meets}
use denote.Triple.Walked.{needs, Stays, stay_ref, walk_of, ends_at, walked, Goes-ref, walk_Meets}
use Rattle.std.proofs.VecSteps.Shapes.{after}
use Rattle.std.proofs.mem.Facts.{says_two}
use Rattle.std.specs.Prelude.{Option, None, Some, is_some}
use Rattle.smoltcp_c.specs.Memory.{held_at}
use Rattle.smoltcp_c.proofs.Owned.{ended_by, owning}

module _ (name : Sym) (D : Type 0) (at : D → Ptr) (coded : Coded D) (exit : Kept → Exit D) (shared : D → ℕ → ℕ → Lft → Fml) (R : RattleType) (made : D → Option R.Denot) (emptied : D → D) (stays : (d : D) → at (emptied d) ≡ at d) (gives : (d : D) → made (emptied d) ≡ None) where
  abbrev type : Owning
  type = owning name D coded exit shared (RawPtr-field ∷ []) (λ d. (at d, tt)) (λ d. held_at R (at d) (made d))

  abbrev pub Room : RattleType
  Room = row type

  abbrev pub ended : Ended
  ended = ended_by 1 (mut_ref_to (0 ∷ []) tt (plain (λ _. Room)) ∷ []) (plain (λ _. R)) (yes, tt)

  abbrev There : D → Type 0
  There d = is_some (made d) ≡ true

  abbrev Holds : D → R.Denot → Type 0
  Holds d x = ◌≡◌ {A = Option R.Denot} (made d) (Some x)

  abbrev pub clauses : {M : Type 1} {𝓤 : Ura M} (𝓛 : Logic 𝓤) → Clauses 𝓤 ended
  clauses {𝓤 = 𝓤} 𝓛 κs a = record {
    ghost = Unit {0};
    requires = λ _. fact 𝓤 (There a.0.now);
    ensures = λ _ r end. sep 𝓤 (fact 𝓤 (Holds a.0.now r)) (fact 𝓤 (end.0.now ≡ emptied a.0.now));
  }

  abbrev pub take_code : Fn → Ty → Ty → Ty → Ty → Ty → Fn
  take_code f ρ₀ σ₀ σ₁ ρ₁ ρ₂ = record f {
    params = 1;
    locals = local ρ₀ value_local ∷ local (ty_ref (named 0) mut σ₀) value_local ∷ local ρ₁ value_local ∷ local ty_ptr value_local ∷ local ty_ptr value_local ∷ [];
    body = seq (block (seq (assign (place 3 []) (rv_opd (copy (place 1 (deref σ₁ ∷ field 0 ∷ []))))) (seq (assign (place 4 []) (rv_opd (copy (place 3 [])))) (assign (place 2 []) (rv_opd (copy (place 4 (deref ρ₂ ∷ []))))))))
        (seq (assign (place 0 []) (rv_opd (copy (place 2 [])))) return);
  }

  abbrev τ : Ty
  τ = lone R.mir

  abbrev word : ℕ → ℕ → Val
  word b o = vstruct (vcons (vptr b o) vnil)

  abbrev stayed : Stays ended.signature.params ended.kept
  stayed = (stay_ref (0 ∷ []) tt (plain (λ _. Room)), tt)

  held : {P : Type 1} (m : Option R.Denot) → is_some m ≡ true → ((x : R.Denot) → m ≡ Some x → P) → P
  held None e k = absurd (true≢false (sym e))
  held (Some x) e k = k x refl

  module _ {M : Type 1} {𝓤 : Ura M} {𝓛 : Logic 𝓤} {K : Type 0} {Γ : List (Item 𝓤)} {G : Aim 𝓤 𝓛.H} where
    room_out : K → (d : D) (x : R.Denot) (vs : List Val) → Holds d x
        → ((b o : ℕ) → at d ≡ block_ptr b o → vs ≡ word b o ∷ [] → Seq K 𝓛 (‵ (part_at R full_share x b o) ∷ Γ) G)
        → Seq K 𝓛 (‵ (Room.own_val d vs) ∷ Γ) G
    room_out t d x vs is k =
        fsplit t $ fpick t (λ vss. fsplit t $ feq_l t (λ ev. fsplit t $ feq_l t (λ ep. drop t $
        rewrite t 0 (λ (m : Option R.Denot). ‵ (held_at R (at d) m)) is refl $
        in_a_block t (at d) (λ p. lies_at R full_share p x) (id⊢ 𝓤 (never 𝓤)) (λ b o e. k b o e
        (subst (λ (p : Ptr). vs ≡ vstruct (of_list (ptr_val p ∷ [])) ∷ []) e
        (subst (λ (ps : List Val). vs ≡ vstruct (of_list (ps ++ [])) ∷ []) ep ev))))))

    room_in : K → (d : D) (b o : ℕ) → at d ≡ block_ptr b o
        → Step K 𝓛 (‵ (Room.own_val (emptied d) (word b o ∷ [])) ∷ Γ) G (‵ (froom τ b o) ∷ Γ) G
    room_in t d b o e = step (λ s. let is : at (emptied d) ≡ block_ptr b o = stays d ∙ e in
        rewrite t 0 (λ (p : Ptr). ‵ (room_at R p)) (sym is) refl $
        rewrite t 0 (λ (m : Option R.Denot). ‵ (held_at R (at (emptied d)) m)) (sym (gives d)) refl $
        nothing t $ feq_i t (List Val) (vptr b o ∷ []) (ptr_val (at (emptied d)) ∷ []) (ap (λ (p : Ptr). ptr_val p ∷ []) (sym is)) $ fjoin t $
        feq_i t (List Val) (word b o ∷ []) (word b o ∷ []) refl $ fjoin t $
        fpack t (Valss (RawPtr ∷ [])) (within (shape type) (at (emptied d), tt) (word b o ∷ [])) (vptr b o ∷ [], tt) $ fjoin t $ s)

  module _ (laws : Laws R) {M : Type 1} {𝓤 : Ura M} (𝓛 : Logic 𝓤) (κ : Lft) (q : Share) (rb ro : ℕ) (γ : GName) (d : D) where
    open 𝓛 use {H, A}

    abbrev self : MutBor D
    self = record { ref_ptr = (rb, ro); ghost_name = γ; now = d }

    abbrev bound : (walk_of 𝓛 ended stayed (clauses 𝓛)).Ghost
    bound = (((κ, tt), (q, tt), tt, (self, tt), (vptr rb ro ∷ [], tt)), tt)

    abbrev Post : Val → SProp 𝓤
    Post = (walk_of 𝓛 ended stayed (clauses 𝓛)).post bound

    exits : (x : R.Denot) → Holds d x → (v : Val) → ent 𝓤 (sep 𝓤 (A.obs γ (Room.coded.code (emptied d))) (sep 𝓤 (A.bor κ (Borrowed (mem Room) rb ro γ)) (sep 𝓤 (A.lft κ q) (sem 𝓛 (R.own_val x (v ∷ [])))))) (Post v)
    exits x is v =
        qed 𝓛 (‵ (fobs γ (Room.coded.code (emptied d))) ∷ ‵ (fbor κ (Borrowed (mem Room) rb ro γ)) ∷ ‵ (flft κ q) ∷ ‵ (R.own_val x (v ∷ [])) ∷ []) ∵
        suffices ! _ (ends_at 𝓛 ended stayed (clauses 𝓛) bound v x (emptied d, tt) (tt, tt)) $ says_two ! (is, refl) $
        nothing ! $ move ! (3 ∷ 0 ∷ []) $ join ! $ frame ! $ feq_i ! (List Val) (vptr rb ro ∷ []) (vptr rb ro ∷ []) refl $ fjoin3 ! $ nothing ! $
        move ! (1 ∷ 0 ∷ []) $ fjoin ! $ done !

    takes : (f : Fn) (ρ₀ σ₀ σ₁ ρ₁ ρ₂ : Ty) → field_of σ₁ 0 ≡ has (ty_ptr, 0) → raw_ty τ ≡ raw_ty ρ₀ → raw_ty τ ≡ raw_ty ρ₁ → raw_ty τ ≡ raw_ty ρ₂ → (C : Calls 𝓤 H) (Λ : Loops 𝓤 H) → (x : R.Denot) → Holds d x
        → ent 𝓤 (on_entry 𝓛 ended.signature (κ, tt) (q, tt) (self, tt) (vptr rb ro ∷ [], tt)) (WpFn 𝓤 H C Λ (take_code f ρ₀ σ₀ σ₁ ρ₁ ρ₂) (vptr rb ro ∷ []) Post)
    takes f ρ₀ σ₀ σ₁ ρ₁ ρ₂ first_is e₀ e₁ e₂ C Λ x is =
        let fn : Fn = take_code f ρ₀ σ₀ σ₁ ρ₁ ρ₂ in
        qed 𝓛 ((‵ (flft κ q) ⊛ ‵ ftrue) ∷ ‵ (owns (MutRef (named 0) κ Room ∷ []) (self, tt) (vptr rb ro ∷ [], tt)) ∷ []) ∵
        enter ! C Λ fn (vptr rb ro ∷ []) _ $
        alloc_all ! (λ l. pass_all ! refl ((tt, tt), tt) $
        let En : Env 𝓤 H = env fn.locals l in
        move ! (1 ∷ []) $ fsplit ! $ fsplit3 ! $ drop ! $ move ! (3 ∷ []) $ split ! $ move ! (2 ∷ 3 ∷ 0 ∷ []) $
        opens ! tt Room {h = d} rb ro (λ us. move ! (1 ∷ []) $ room_out ! d x us is (λ b o at_b ws. move ! (1 ∷ []) $
        rewrite ! 0 (λ (zs : List Val). ‵ (cell_at full_share Room.mir zs rb ro)) ws refl $ move ! (1 ∷ []) $
        use1 𝓛 (some (λ (v : Val). ‵ (fat full_share ρ₂ b o v) ⊛ ‵ (R.own_val x (v ∷ [])))) (part_out_at 𝓛 R laws.one full_share x b o ρ₂ (sym e₂)) $ pick ! (λ v. split ! $ well_typed ! (λ t.
        -- [the value's cell; what it owns; the word; the open borrow; obs; auth]
        first ! $ blocks ! $
        sets ! (of_opd ! (load ! (through ! refl (fld ! first_is (stop !))) (look_in ! 2 (sub ! 0 refl (whole !))))) refl (tt, tt) $
        sets ! (of_opd ! (get ! refl)) refl (tt, tt) $
        sets_last ! (of_opd ! (load ! (through ! refl (stop !)) (look ! 0 refl))) refl (wt_as ρ₂ ρ₁ (sym e₂ ∙ e₁) v t) $
        exec ! C Λ En (after 1 fn.body) (at_ret En Post) $
        sets ! (of_opd ! (get ! refl)) refl (wt_as ρ₂ ρ₀ (sym e₂ ∙ e₀) v t) $
        use1 𝓛 (‵ (froom ρ₂ b o)) (𝓛.laws.at_room ρ₂ b o v) $ use1 𝓛 (‵ (froom τ b o)) (reroom 𝓛 ρ₂ τ (sym e₂) b o) $ room_in ! d b o at_b $
        move ! (2 ∷ 0 ∷ 3 ∷ 4 ∷ 5 ∷ []) $ closes ! tt Room (emptied d) (word b o ∷ []) rb ro $
        returns ! (look_at ! 0 refl) $ free_all ! refl $ keep ! (0 ∷ 1 ∷ 2 ∷ 3 ∷ []) $ by ! (exits x is v))))))

  pub take_met : (laws : Laws R) {M : Type 1} {𝓤 : Ura M} (𝓛 : Logic 𝓤) (𝓣 : Tables 𝓤 𝓛.H) (f : Fn) (ρ₀ σ₀ σ₁ ρ₁ ρ₂ : Ty) → field_of σ₁ 0 ≡ has (ty_ptr, 0) → raw_ty τ ≡ raw_ty ρ₀ → raw_ty τ ≡ raw_ty ρ₁ → raw_ty τ ≡ raw_ty ρ₂
      → Meets 𝓛 ended.signature (WpFn 𝓤 𝓛.H 𝓣.C 𝓣.Λ (take_code f ρ₀ σ₀ σ₁ ρ₁ ρ₂)) (closing 𝓛 ended (clauses 𝓛))
  take_met laws {𝓤 = 𝓤} 𝓛 𝓣 f ρ₀ σ₀ σ₁ ρ₁ ρ₂ first_is e₀ e₁ e₂ =
      let fn : Fn = take_code f ρ₀ σ₀ σ₁ ρ₁ ρ₂ in
      walk_Meets 𝓛 ended stayed (Goes-ref 𝓛 1 0 tt (plain (λ _. Room)), tt) (clauses 𝓛) (WpFn 𝓤 𝓛.H 𝓣.C 𝓣.Λ fn) (WpFn-mono 𝓤 𝓛.H 𝓛.laws 𝓣 fn)
      (walked 𝓛 ended stayed (clauses 𝓛) (WpFn 𝓤 𝓛.H 𝓣.C 𝓣.Λ fn) (λ κs. (mut_vals, tt)) (λ κs. (mut_Tells (named 0) κs.0 Room, tt))
      (λ κs qs bounds a g are. needs 𝓤 (There a.0.now) _ (λ there. held (made a.0.now) there (λ x is.
      takes laws 𝓛 κs.0 qs.0 a.0.ref_ptr.0 a.0.ref_ptr.1 a.0.ghost_name a.0.now f ρ₀ σ₀ σ₁ ρ₁ ρ₂ first_is e₀ e₁ e₂ 𝓣.C 𝓣.Λ x is))))
