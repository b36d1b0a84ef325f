-- A value is written to the room behind the one pointer of a struct. Assumes `Logic`.
--     Room                 the struct's row
--     ended, clauses       the contract of the function that writes
--     fill_code, copy_code     its code, where the value is moved and where it is copied: σ is the struct's type, and ρ the value's
--     fill_met, copy_met   the code meets the contract
use mathlib.Core.Path.{◌≡◌, refl, sym, ap, subst, ◌∙◌}
use Prim.Native.Nat.{ℕ}
use mathlib.Core.List.{List, [], ◌∷◌, ◌++◌}
use mathlib.Core.Option.{some as has}
use seplogic.Ra.Ura.{Ura}
use lib.Dec.{T}
use base.Fraction.{full_share}
use base.Stored.{Coded}
use mir.Raw.{raw as raw_ty}
use mir.Syntax.{Fn, Sym, Ty, named, mut, ty_ptr, ty_ref, ty_unit, local, value_local, seq, block, assign, return, place, deref, field, rv_opd, copy, opd_unit}
use mir.Val.{Val, vptr, vstruct, vnil, vcons, vunit, of_list, has_ty, WT}
use base.Logic.{SProp, ent, sep, via, snd∗, id⊢, never}
use base.Fml.{Lft, GName, Share, Fml, ftrue, froom, flft, fobs, fbor, fobor, fauth}
use contract.Monad.{fact, fact_use}
use prog.Memory.{field_of}
use prog.Wp.{Env, Calls, Loops, WpFn, Tables}
use types.Logic.{Logic, sem}
use sound.WpLaws.{WpFn-mono}
use types.Kit.{Go, Soaks, fsplit3, fjoin3, frame, Goal as Aim, Step, step, Seq, Item, ‵, ◌⊛◌, at_ret, ◌$◌, ◌∵◌, !, qed, by, move, keep, use1, use2, drop, split, join, fsplit, fjoin, fpick, fpack, feq_l, feq_i, rewrite, suffices, done}
use types.Part.{whole, sub, look_in}
use types.Run.{init, stop, fld, load, of_opd, unit_lit, assigns_last, first, blocks, exec, returns, enter}
use types.ByLocal.{alloc_all, pass_all, free_all, look_at, get, through, sets, env}
use types.SemTy.{Body as Borrowed}
use borrow.Table.OneValue.{part_in_at, reroom, wt_as}
use denote.RattleType.{RattleType, owns, Valss}
use denote.Laws.{Typed, Are, Ises, owns_show, showss}
use denote.Memory.{part_at, lone, mem, cell_at}
use denote.Param.Laws.{Laws}
use denote.Param.Mute.{blank}
use denote.RawPtr.{Ptr, RawPtr, block_ptr, ptr_val, in_a_block, lies_at, room_at}
use denote.Ref.{MutBor, MutRef}
use denote.Builtin.{unit}
use denote.Exit.{Kept, Exit, Last, left, rest, yes}
use denote.Signature.{plain, mut_ref_to}
use denote.Steps.{nothing, opens, closes}
use denote.Struct.Field.{RawPtr-field}
use denote.Struct.Struct.{within}
use denote.Struct.Owning.{Owning, row, shape}
use denote.Triple.Entry.{alive, on_entry}
use denote.Triple.Clauses.{Clauses, Ended, closing}
use denote.Triple.Spec.{Meets}
use denote.Triple.Walked.{says, needs, Stays, stay_ref, stay_dropped, walk_of, ends_at, Goes-ref, walk_Meets}
use Rattle.std.proofs.VecSteps.Shapes.{after}
use Rattle.std.proofs.alloc.Calls.{Goes-blank}
use Rattle.std.specs.Prelude.{Option, None, Some}
use Rattle.smoltcp_c.specs.Memory.{held_at}
use Rattle.smoltcp_c.proofs.Owned.{ended_by, owning}

module _ (name : Sym) (D : Type 0) (at : D → Ptr) (coded : Coded D) (exit : Kept → Exit D) (shared : D → ℕ → ℕ → Lft → Fml) (R : RattleType) (made : D → Option R.Denot) (put : D → R.Denot → D) (stays : (d : D) (x : R.Denot) → at (put d x) ≡ at d) (gives : (d : D) (x : R.Denot) → made (put d x) ≡ Some x) (k : Kept) where
  abbrev type : Owning
  type = owning name D coded exit shared (RawPtr-field ∷ []) (λ d. (at d, tt)) (λ d. held_at R (at d) (made d))

  abbrev pub Room : RattleType
  Room = row type

  abbrev pub ended : Ended
  ended = ended_by 1 (mut_ref_to (0 ∷ []) tt (plain (λ _. Room)) ∷ plain (λ _. R) ∷ []) (plain (λ _. unit)) (yes, (k, tt))

  abbrev Empty : D → Type 0
  Empty d = ◌≡◌ {A = Option R.Denot} (made d) None

  abbrev pub clauses : {M : Type 1} {𝓤 : Ura M} (𝓛 : Logic 𝓤) → Clauses 𝓤 ended
  clauses {𝓤 = 𝓤} 𝓛 κs a = record {
    ghost = Unit {0};
    requires = λ _. fact 𝓤 (Empty a.0.now);
    ensures = λ _ r end. fact 𝓤 (end.0.now ≡ put a.0.now a.1.0);
  }

  abbrev pub fill_code : Fn → Ty → Ty → Ty → Ty → Ty → Fn
  fill_code f σ₀ σ₁ ρ₁ ρ₂ ρ₃ = record f {
    params = 2;
    locals = local ty_unit value_local ∷ local (ty_ref (named 0) mut σ₀) value_local ∷ local ρ₁ value_local ∷ local ty_ptr value_local ∷ local ty_ptr value_local ∷ local ρ₂ value_local ∷ [];
    body = seq (block (seq (assign (place 3 []) (rv_opd (copy (place 1 (deref σ₁ ∷ field 0 ∷ []))))) (seq (assign (place 4 []) (rv_opd (copy (place 3 [])))) (seq (assign (place 5 []) (rv_opd (copy (place 2 [])))) (assign (place 4 (deref ρ₃ ∷ [])) (rv_opd (copy (place 5 []))))))))
        (seq (assign (place 0 []) (rv_opd opd_unit)) return);
  }

  abbrev pub copy_code : Fn → Ty → Ty → Ty → Ty → Fn
  copy_code f σ₀ σ₁ ρ₁ ρ₃ = record f {
    params = 2;
    locals = local ty_unit value_local ∷ local (ty_ref (named 0) mut σ₀) value_local ∷ local ρ₁ value_local ∷ local ty_ptr value_local ∷ local ty_ptr value_local ∷ [];
    body = seq (block (seq (assign (place 3 []) (rv_opd (copy (place 1 (deref σ₁ ∷ field 0 ∷ []))))) (seq (assign (place 4 []) (rv_opd (copy (place 3 [])))) (assign (place 4 (deref ρ₃ ∷ [])) (rv_opd (copy (place 2 [])))))))
        (seq (assign (place 0 []) (rv_opd opd_unit)) return);
  }

  abbrev τ : Ty
  τ = lone R.mir

  abbrev word : ℕ → ℕ → Val
  word b o = vstruct (vcons (vptr b o) vnil)

  abbrev Good : Ty → Val → Type 0
  Good ρ v = T (has_ty ρ v) × WT v

  abbrev stayed : Stays ended.signature.params ended.kept
  stayed = (stay_ref (0 ∷ []) tt (plain (λ _. Room)), (stay_dropped (plain (λ _. R)) k, tt))

  module _ {M : Type 1} {𝓤 : Ura M} {𝓛 : Logic 𝓤} {K : Type 0} {Γ : List (Item 𝓤)} {G : Aim 𝓤 𝓛.H} where
    room_out : K → (d : D) (vs : List Val) → Empty d
        → ((b o : ℕ) → at d ≡ block_ptr b o → vs ≡ word b o ∷ [] → Seq K 𝓛 (‵ (froom τ b o) ∷ Γ) G)
        → Seq K 𝓛 (‵ (Room.own_val d vs) ∷ Γ) G
    room_out t d vs empty k =
        fsplit t $ fpick t (λ vss. fsplit t $ feq_l t (λ ev. fsplit t $ feq_l t (λ ep. drop t $
        rewrite t 0 (λ (m : Option R.Denot). ‵ (held_at R (at d) m)) empty refl $
        in_a_block t (at d) (λ p. room_at R p) (id⊢ 𝓤 (never 𝓤)) (λ b o e. k b o e
        (subst (λ (p : Ptr). vs ≡ vstruct (of_list (ptr_val p ∷ [])) ∷ []) e
        (subst (λ (ps : List Val). vs ≡ vstruct (of_list (ps ++ [])) ∷ []) ep ev))))))

    room_in : K → (d : D) (b o : ℕ) (x : R.Denot) → at d ≡ block_ptr b o
        → Step K 𝓛 (‵ (Room.own_val (put d x) (word b o ∷ [])) ∷ Γ) G (‵ (part_at R full_share x b o) ∷ Γ) G
    room_in t d b o x e = step (λ s. let is : at (put d x) ≡ block_ptr b o = stays d x ∙ e in
        rewrite t 0 (λ (p : Ptr). ‵ (lies_at R full_share p x)) (sym is) refl $
        rewrite t 0 (λ (m : Option R.Denot). ‵ (held_at R (at (put d x)) m)) (sym (gives d x)) refl $
        nothing t $ feq_i t (List Val) (vptr b o ∷ []) (ptr_val (at (put d x)) ∷ []) (ap (λ (p : Ptr). ptr_val p ∷ []) (sym is)) $ fjoin t $
        feq_i t (List Val) (word b o ∷ []) (word b o ∷ []) refl $ fjoin t $
        fpack t (Valss (RawPtr ∷ [])) (within (shape type) (at (put d x), tt) (word b o ∷ [])) (vptr b o ∷ [], tt) $ fjoin t $ s)

  module _ (laws : Laws R) {M : Type 1} {𝓤 : Ura M} (𝓛 : Logic 𝓤) (κ : Lft) (q : Share) (rb ro : ℕ) (γ : GName) (d : D) (x : R.Denot) where
    open 𝓛 use {H, A}

    abbrev self : MutBor D
    self = record { ref_ptr = (rb, ro); ghost_name = γ; now = d }

    abbrev bound : List Val → List Val → (walk_of 𝓛 ended stayed (clauses 𝓛)).Ghost
    bound us ws = (((κ, tt), (q, tt), tt, (self, (x, tt)), (us, (ws, tt))), tt)

    abbrev Post : List Val → List Val → Val → SProp 𝓤
    Post us ws = (walk_of 𝓛 ended stayed (clauses 𝓛)).post (bound us ws)

    exits : (us : List Val) → ent 𝓤 (sep 𝓤 (A.obs γ (Room.coded.code (put d x))) (sep 𝓤 (A.bor κ (Borrowed (mem Room) rb ro γ)) (A.lft κ q))) (Post (vptr rb ro ∷ []) us vunit)
    exits us =
        qed 𝓛 (‵ (fobs γ (Room.coded.code (put d x))) ∷ ‵ (fbor κ (Borrowed (mem Room) rb ro γ)) ∷ ‵ (flft κ q) ∷ []) ∵
        suffices ! _ (ends_at 𝓛 ended stayed (clauses 𝓛) (bound (vptr rb ro ∷ []) us) vunit tt (put d x, (rest (R.exit k) x, tt)) (tt, (tt, tt))) $ says ! refl $
        nothing ! $ move ! (3 ∷ 0 ∷ []) $ join ! $ frame ! $ feq_i ! (List Val) (vptr rb ro ∷ []) (vptr rb ro ∷ []) refl $ fjoin3 ! $ nothing ! $
        nothing ! $ fjoin ! $ move ! (1 ∷ 0 ∷ []) $ fjoin ! $ feq_i ! (List Val) (vunit ∷ []) (vunit ∷ []) refl $ move ! (1 ∷ 0 ∷ []) $ join ! $ done !

    module _ (C : Calls 𝓤 H) (Λ : Loops 𝓤 H) where
      abbrev Goal : Fn → List Val → List Val → Type 1
      Goal fn us ws = ent 𝓤 (on_entry 𝓛 ended.signature (κ, tt) (q, tt) (self, (x, tt)) (us, (ws, tt))) (WpFn 𝓤 H C Λ fn (us ++ (ws ++ [])) (Post us ws))

      -- the room at the pointer, its word and the open borrow of the struct, and what the value owns
      opened : (ρ₃ : Ty) → raw_ty τ ≡ raw_ty ρ₃ → (v : Val) → Empty d → {Γ : List (Item 𝓤)} {G : Aim 𝓤 H} → Soaks G
          → ((b o : ℕ) → at d ≡ block_ptr b o → Seq Go 𝓛 (‵ (froom ρ₃ b o) ∷ ‵ (cell_at full_share Room.mir (word b o ∷ []) rb ro) ∷ ‵ (fobor κ q (Borrowed (mem Room) rb ro γ)) ∷ ‵ (fobs γ (Room.coded.code d)) ∷ ‵ (fauth γ (Room.coded.code d)) ∷ ‵ (R.own_val x (v ∷ [])) ∷ ‵ ftrue ∷ ‵ ftrue ∷ Γ) G)
          → Seq Go 𝓛 ((‵ (flft κ q) ⊛ ‵ ftrue) ∷ ‵ (owns (MutRef (named 0) κ Room ∷ R ∷ []) (self, (x, tt)) (vptr rb ro ∷ [], (v ∷ [], tt))) ∷ Γ) G
      opened ρ₃ e₃ v empty z k =
          move ! (1 ∷ []) $ fsplit ! $ fsplit3 ! $ drop ! $ move ! (3 ∷ []) $ split ! $ move ! (4 ∷ []) $ fsplit ! $ move ! (4 ∷ 5 ∷ 2 ∷ 0 ∷ []) $
          opens ! z Room {h = d} rb ro (λ us. move ! (1 ∷ []) $ room_out ! d us empty (λ b o at_b ws. move ! (1 ∷ []) $
          rewrite ! 0 (λ (zs : List Val). ‵ (cell_at full_share Room.mir zs rb ro)) ws refl $ move ! (1 ∷ []) $
          use1 𝓛 (‵ (froom ρ₃ b o)) (reroom 𝓛 τ ρ₃ e₃ b o) $ k b o at_b))

      fills : (f : Fn) (σ₀ σ₁ ρ₁ ρ₂ ρ₃ : Ty) → field_of σ₁ 0 ≡ has (ty_ptr, 0) → raw_ty τ ≡ raw_ty ρ₁ → raw_ty τ ≡ raw_ty ρ₂ → raw_ty τ ≡ raw_ty ρ₃ → (v : Val) → Empty d → Good τ v → Goal (fill_code f σ₀ σ₁ ρ₁ ρ₂ ρ₃) (vptr rb ro ∷ []) (v ∷ [])
      fills f σ₀ σ₁ ρ₁ ρ₂ ρ₃ first_is e₁ e₂ e₃ v empty t =
          let fn : Fn = fill_code f σ₀ σ₁ ρ₁ ρ₂ ρ₃ in
          qed 𝓛 ((‵ (flft κ q) ⊛ ‵ ftrue) ∷ ‵ (owns (MutRef (named 0) κ Room ∷ R ∷ []) (self, (x, tt)) (vptr rb ro ∷ [], (v ∷ [], tt))) ∷ []) ∵
          enter ! C Λ fn (vptr rb ro ∷ v ∷ []) _ $
          alloc_all ! (λ l. pass_all ! refl ((tt, tt), (wt_as τ ρ₁ e₁ v t, tt)) $
          let En : Env 𝓤 H = env fn.locals l in
          opened ρ₃ e₃ v empty tt (λ b o at_b. first ! $ blocks ! $
          sets ! (of_opd ! (load ! (through ! refl (fld ! first_is (stop !))) (look_in ! 1 (sub ! 0 refl (whole !))))) refl (tt, tt) $
          sets ! (of_opd ! (get ! refl)) refl (tt, tt) $
          sets ! (of_opd ! (get ! refl)) refl (wt_as τ ρ₂ e₂ v t) $
          assigns_last ! (of_opd ! (get ! refl)) (through ! refl (stop !)) (init ! 0 refl (wt_as τ ρ₃ e₃ v t)) $
          exec ! C Λ En (after 1 fn.body) (at_ret En (Post (vptr rb ro ∷ []) (v ∷ []))) $
          sets ! (of_opd ! (unit_lit !)) refl (tt, tt) $
          move ! (0 ∷ 5 ∷ []) $ use2 𝓛 (‵ (part_at R full_share x b o)) (part_in_at 𝓛 R laws.one full_share x b o ρ₃ (sym e₃) v) $ room_in ! d b o x at_b $
          move ! (1 ∷ 0 ∷ []) $ closes ! tt Room (put d x) (word b o ∷ []) rb ro $
          returns ! (look_at ! 0 refl) $ free_all ! refl $ keep ! (0 ∷ 1 ∷ 2 ∷ []) $ by ! (exits (v ∷ []))))

      copies : (f : Fn) (σ₀ σ₁ ρ₁ ρ₃ : Ty) → field_of σ₁ 0 ≡ has (ty_ptr, 0) → raw_ty τ ≡ raw_ty ρ₁ → raw_ty τ ≡ raw_ty ρ₃ → (v : Val) → Empty d → Good τ v → Goal (copy_code f σ₀ σ₁ ρ₁ ρ₃) (vptr rb ro ∷ []) (v ∷ [])
      copies f σ₀ σ₁ ρ₁ ρ₃ first_is e₁ e₃ v empty t =
          let fn : Fn = copy_code f σ₀ σ₁ ρ₁ ρ₃ in
          qed 𝓛 ((‵ (flft κ q) ⊛ ‵ ftrue) ∷ ‵ (owns (MutRef (named 0) κ Room ∷ R ∷ []) (self, (x, tt)) (vptr rb ro ∷ [], (v ∷ [], tt))) ∷ []) ∵
          enter ! C Λ fn (vptr rb ro ∷ v ∷ []) _ $
          alloc_all ! (λ l. pass_all ! refl ((tt, tt), (wt_as τ ρ₁ e₁ v t, tt)) $
          let En : Env 𝓤 H = env fn.locals l in
          opened ρ₃ e₃ v empty tt (λ b o at_b. first ! $ blocks ! $
          sets ! (of_opd ! (load ! (through ! refl (fld ! first_is (stop !))) (look_in ! 1 (sub ! 0 refl (whole !))))) refl (tt, tt) $
          sets ! (of_opd ! (get ! refl)) refl (tt, tt) $
          assigns_last ! (of_opd ! (get ! refl)) (through ! refl (stop !)) (init ! 0 refl (wt_as τ ρ₃ e₃ v t)) $
          exec ! C Λ En (after 1 fn.body) (at_ret En (Post (vptr rb ro ∷ []) (v ∷ []))) $
          sets ! (of_opd ! (unit_lit !)) refl (tt, tt) $
          move ! (0 ∷ 5 ∷ []) $ use2 𝓛 (‵ (part_at R full_share x b o)) (part_in_at 𝓛 R laws.one full_share x b o ρ₃ (sym e₃) v) $ room_in ! d b o x at_b $
          move ! (1 ∷ 0 ∷ []) $ closes ! tt Room (put d x) (word b o ∷ []) rb ro $
          returns ! (look_at ! 0 refl) $ free_all ! refl $ keep ! (0 ∷ 1 ∷ 2 ∷ []) $ by ! (exits (v ∷ []))))

      -- the reference's machine value is its pointer, and the other's is one value of its type
      entry : (fn : Fn) → ((v : Val) → Empty d → Good τ v → Goal fn (vptr rb ro ∷ []) (v ∷ [])) → Empty d → (us ws : List Val) → us ≡ vptr rb ro ∷ [] → Typed (τ ∷ []) ws → Goal fn us ws
      entry fn walk empty us [] e t = absurd t
      entry fn walk empty us (v ∷ []) e t = subst (λ (zs : List Val). Goal fn zs (v ∷ [])) (sym e) (walk v empty t.0)
      entry fn walk empty us (v ∷ w ∷ ws) e t = absurd t.1

  module _ (laws : Laws R) (silent : (x : R.Denot) (z : Last (R.exit k) x) → T (blank (left (R.exit k) x z))) {M : Type 1} {𝓤 : Ura M} (𝓛 : Logic 𝓤) (𝓣 : Tables 𝓤 𝓛.H) (f : Fn) (σ₀ σ₁ : Ty) (first_is : field_of σ₁ 0 ≡ has (ty_ptr, 0)) where
    met : (fn : Fn) → ((κ : Lft) (q : Share) (rb ro : ℕ) (γ : GName) (d : D) (x : R.Denot) (v : Val) → Empty d → Good τ v → Goal laws 𝓛 κ q rb ro γ d x 𝓣.C 𝓣.Λ fn (vptr rb ro ∷ []) (v ∷ [])) → Meets 𝓛 ended.signature (WpFn 𝓤 𝓛.H 𝓣.C 𝓣.Λ fn) (closing 𝓛 ended (clauses 𝓛))
    met fn walk =
        walk_Meets 𝓛 ended stayed (Goes-ref 𝓛 1 0 tt (plain (λ _. Room)), (Goes-blank 𝓛 1 (plain (λ _. R)) k (λ κs x z. silent x z), tt)) (clauses 𝓛) (WpFn 𝓤 𝓛.H 𝓣.C 𝓣.Λ fn) (WpFn-mono 𝓤 𝓛.H 𝓛.laws 𝓣 fn)
        (λ z. let a = z.0.3 in let vss = z.0.4 in let Rs : List RattleType = MutRef (named 0) z.0.0.0 Room ∷ R ∷ [] in
        needs 𝓤 (Empty a.0.now) _ (λ empty.
        fact_use 𝓤 (Are Rs (Ises Rs) a vss) (via 𝓤 (sem 𝓛 (owns Rs a vss)) (snd∗ 𝓤 (alive 𝓛 ended.signature z.0.0 z.0.1) (sem 𝓛 (owns Rs a vss))) (owns_show 𝓛 Rs (Ises Rs) (showss 𝓛 Rs) a vss)) (λ are.
        entry laws 𝓛 z.0.0.0 z.0.1.0 a.0.ref_ptr.0 a.0.ref_ptr.1 a.0.ghost_name a.0.now a.1.0 𝓣.C 𝓣.Λ fn (walk z.0.0.0 z.0.1.0 a.0.ref_ptr.0 a.0.ref_ptr.1 a.0.ghost_name a.0.now a.1.0) empty vss.0 vss.1.0 are.0.0
        (subst (λ τs. Typed τs vss.1.0) laws.one ((laws.lawful 𝓛).typed a.1.0 vss.1.0 are.1.0)))))

    pub fill_met : (ρ₁ ρ₂ ρ₃ : Ty) → raw_ty τ ≡ raw_ty ρ₁ → raw_ty τ ≡ raw_ty ρ₂ → raw_ty τ ≡ raw_ty ρ₃ → Meets 𝓛 ended.signature (WpFn 𝓤 𝓛.H 𝓣.C 𝓣.Λ (fill_code f σ₀ σ₁ ρ₁ ρ₂ ρ₃)) (closing 𝓛 ended (clauses 𝓛))
    fill_met ρ₁ ρ₂ ρ₃ e₁ e₂ e₃ = met (fill_code f σ₀ σ₁ ρ₁ ρ₂ ρ₃) (λ κ q rb ro γ d x. fills laws 𝓛 κ q rb ro γ d x 𝓣.C 𝓣.Λ f σ₀ σ₁ ρ₁ ρ₂ ρ₃ first_is e₁ e₂ e₃)

    pub copy_met : (ρ₁ ρ₃ : Ty) → raw_ty τ ≡ raw_ty ρ₁ → raw_ty τ ≡ raw_ty ρ₃ → Meets 𝓛 ended.signature (WpFn 𝓤 𝓛.H 𝓣.C 𝓣.Λ (copy_code f σ₀ σ₁ ρ₁ ρ₃)) (closing 𝓛 ended (clauses 𝓛))
    copy_met ρ₁ ρ₃ e₁ e₃ = met (copy_code f σ₀ σ₁ ρ₁ ρ₃) (λ κ q rb ro γ d x. copies laws 𝓛 κ q rb ro γ d x 𝓣.C 𝓣.Λ f σ₀ σ₁ ρ₁ ρ₃ first_is e₁ e₃)
