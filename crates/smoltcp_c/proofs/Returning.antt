-- Items that were lent for good are taken apart into a struct of where they lie and how many they are, which owns them
-- then: a borrow that never ends is opened, and nothing asks that it be closed. Assumes `Logic`.
--     Back                 the struct's row
--     ended, clauses       the contract of the function that gives back
--     return_code          its code: ρ is the item's type
--     return_met           the code meets the contract
use mathlib.Core.Path.{◌≡◌, refl, sym, ap, subst}
use mathlib.Core.Bool.{Bool, true}
use Prim.Native.Nat.{ℕ, ◌<◌, ◌^◌}
use mathlib.Core.List.{List, [], ◌∷◌}
use lib.ListN.{length}
use seplogic.Ra.Ura.{Ura}
use base.Fraction.{full_share}
use base.Stored.{Coded}
use mir.Syntax.{Fn, Sym, Ty, static, w64, ty_int, ty_ptr, local, value_local, seq, assign, return, place, field, deref, addr_of, rv_opd, copy, aggregate}
use mir.Val.{Val, vint, vptr, vstruct, vnil, vcons}
use base.Logic.{SProp, ent, sep, emp, via, fst∗}
use base.Fml.{Lft, GName, Fml, ftrue, flft}
use contract.Monad.{fact}
use prog.Wp.{Calls, Loops, WpFn, Tables}
use types.Logic.{Logic}
use sound.WpLaws.{WpFn-mono}
use types.Kit.{‵, ◌⊛◌, ◌$◌, ◌∵◌, !, qed, move, keep, use0, use1, drop, split, join, fsplit, fsplit3, fjoin, fpack, feq_i, flt_i, rewrite, suffices, done}
use types.Part.{whole, sub, agg}
use types.Run.{stop, fld, hop, from, addr, of_opd, and_then, no_more, returns, enter}
use types.ByLocal.{alloc_all, pass_all, free_all, look_at, look_in_at, get, get_in, sets}
use denote.RattleType.{RattleType, owns, Valss}
use denote.Memory.{lone, part_at}
use denote.RawPtr.{Ptr, RawPtr, block_ptr, ptr_val, lies_at}
use denote.Array.{Array}
use denote.ArrayMemory.{Array-whole}
use denote.Builtin.{usize}
use denote.Exit.{Kept, Exit, no}
use denote.Index.{opens_slice}
use denote.Ref.{MutBor}
use denote.Slice.{MutSlice, Room, slice_val, mut_slice_vals, mut_slice_Tells}
use denote.Signature.{plain, mut_slice_of}
use denote.Steps.{nothing}
use denote.Struct.Field.{RawPtr-field, usize-field}
use denote.Struct.Struct.{within}
use denote.Struct.Owning.{Owning, row, shape}
use denote.Triple.Entry.{on_entry}
use denote.Triple.Clauses.{Clauses, Ended, closing}
use denote.Triple.Spec.{Meets}
use denote.Triple.Walked.{Stays, stay_dropped, walk_of, Goes-spent_slice, walked, ends_at, walk_Meets}
use Rattle.std.proofs.mem.Facts.{says_two}
use Rattle.smoltcp_c.specs.Memory.{items_at, items_if}
use Rattle.smoltcp_c.proofs.Owned.{ended_by, owning}

module _ (name : Sym) (D : Type 0) (at : D → Ptr) (len : D → ℕ) (given : D → Bool) (coded : Coded D) (exit : Kept → Exit D) (shared : D → ℕ → ℕ → Lft → Fml) (E : RattleType) (made : Ptr → ℕ → D) (at_is : (p : Ptr) (n : ℕ) → at (made p n) ≡ p) (len_is : (p : Ptr) (n : ℕ) → len (made p n) ≡ n) (given_is : (p : Ptr) (n : ℕ) → given (made p n) ≡ true) where
  abbrev type : Owning
  type = owning name D coded exit shared (RawPtr-field ∷ usize-field ∷ []) (λ d. (at d, (len d, tt))) (λ d. items_if E (at d) (len d) (given d))

  abbrev pub Back : RattleType
  Back = row type

  abbrev pub ended : Ended
  ended = ended_by 0 (mut_slice_of [] tt (plain (λ _. E)) ∷ []) (plain (λ _. Back)) (no, tt)

  abbrev pub return_code : Fn → Ty → Fn
  return_code f ρ = record f {
    params = 1;
    locals = local (lone Back.mir) value_local ∷ local (lone (MutSlice static [] E).mir) value_local ∷ local ty_ptr value_local ∷ local (ty_int w64) value_local ∷ [];
    body = seq (assign (place 2 []) (addr_of (place 1 (field 0 ∷ deref ρ ∷ [])))) (seq (assign (place 3 []) (rv_opd (copy (place 1 (field 1 ∷ [])))))
        (seq (assign (place 0 []) (aggregate (copy (place 2 []) ∷ copy (place 3 []) ∷ []))) return));
  }

  abbrev pub clauses : {M : Type 1} {𝓤 : Ura M} (𝓛 : Logic 𝓤) → Clauses 𝓤 ended
  clauses {𝓤 = 𝓤} 𝓛 κs a = record {
    ghost = Unit {0};
    requires = λ _. emp 𝓤;
    ensures = λ _ r end. sep 𝓤 (fact 𝓤 (len r ≡ length a.0.now)) (fact 𝓤 (given r ≡ true));
  }

  abbrev word : ℕ → ℕ → ℕ → Val
  word b o n = vstruct (vcons (vptr b o) (vcons (vint w64 n) vnil))

  abbrev stayed : Stays ended.signature.params ended.kept
  stayed = (stay_dropped (mut_slice_of [] tt (plain (λ _. E))) no, tt)

  module _ {M : Type 1} {𝓤 : Ura M} (𝓛 : Logic 𝓤) (C : Calls 𝓤 𝓛.H) (Λ : Loops 𝓤 𝓛.H) (f : Fn) (ρ : Ty) (b o : ℕ) (γ : GName) (xs : List E.Denot) where
    open 𝓛 use {H}

    abbrev fn : Fn
    fn = return_code f ρ

    abbrev self : MutBor (List E.Denot)
    self = record { ref_ptr = (b, o); ghost_name = γ; now = xs }

    abbrev bound : (walk_of 𝓛 ended stayed (clauses 𝓛)).Ghost
    bound = ((tt, tt, tt, (self, tt), (mut_slice_vals self, tt)), tt)

    abbrev Post : Val → SProp 𝓤
    Post = (walk_of 𝓛 ended stayed (clauses 𝓛)).post bound

    walk : Room E (length xs) → ent 𝓤 (on_entry 𝓛 ended.signature tt tt (self, tt) (mut_slice_vals self, tt)) (WpFn 𝓤 H C Λ fn (slice_val (b, o) (length xs) ∷ []) Post)
    walk rm =
        let n : ℕ = length xs in let p : Ptr = block_ptr b o in let d : D = made p n in
        let on : at d ≡ p = at_is p n in let many : len d ≡ n = len_is p n in
        qed 𝓛 ((‵ ftrue ⊛ ‵ (owns (MutSlice static [] E ∷ []) (self, tt) (mut_slice_vals self, tt))) ∷ []) ∵ split ! $ drop ! $ fsplit ! $ fsplit3 ! $ drop ! $
        enter ! C Λ fn (slice_val (b, o) n ∷ []) _ $
        alloc_all ! (λ l. pass_all ! refl ((tt, (tt, (record { fits = rm.0 }, tt))), tt) $
        sets ! (addr ! (from ! (fld ! refl (hop ! (look_in_at ! 1 (sub ! 0 refl (whole !))) (stop !))))) refl (tt, tt) $
        sets ! (of_opd ! (get_in ! (fld ! refl (stop !)) (sub ! 1 refl (whole !)))) refl (tt, record { fits = rm.0 }) $
        sets ! (agg ! (and_then ! (get ! refl) (and_then ! (get ! refl) (no_more !)))) refl (tt, (tt, (record { fits = rm.0 }, tt))) $
        use0 𝓛 (‵ (flft [] full_share)) (𝓛.lfts.lft-nil full_share) $ move ! (1 ∷ 2 ∷ 0 ∷ []) $ opens_slice ! tt E xs b o $
        feq_i ! ℕ n n refl $ fjoin ! $ use1 𝓛 (‵ (part_at (Array E n) full_share xs b o)) (Array-whole 𝓛 E full_share n xs b o) $
        returns ! (look_at ! 0 refl) $ free_all ! refl $ keep ! (0 ∷ []) $
        suffices ! _ (ends_at 𝓛 ended stayed (clauses 𝓛) bound (word b o n) d (tt, tt) (tt, tt)) $ says_two ! (many, given_is p n) $
        fpack ! (List E.Denot) (λ ys. lies_at (Array E n) full_share p ys) xs $
        rewrite ! 0 (λ (q : Ptr). ‵ (items_at E q n)) (sym on) refl $ rewrite ! 0 (λ (j : ℕ). ‵ (items_at E (at d) j)) (sym many) refl $
        rewrite ! 0 (λ (g : Bool). ‵ (items_if E (at d) (len d) g)) (sym (given_is p n)) refl $
        nothing ! $ flt_i ! (len d) (2 ^ 64) (subst (λ (j : ℕ). j < 2 ^ 64) (sym many) rm.0) $
        feq_i ! (List Val) (vint w64 n ∷ []) (vint w64 (len d) ∷ []) (ap (λ (j : ℕ). vint w64 j ∷ []) (sym many)) $ fjoin ! $ fjoin ! $
        feq_i ! (List Val) (vptr b o ∷ []) (ptr_val (at d) ∷ []) (ap (λ (q : Ptr). ptr_val q ∷ []) (sym on)) $ fjoin ! $
        feq_i ! (List Val) (word b o n ∷ []) (word b o n ∷ []) refl $ fjoin ! $
        fpack ! (Valss (RawPtr ∷ usize ∷ [])) (within (shape type) (at d, (len d, tt)) (word b o n ∷ [])) (vptr b o ∷ [], (vint w64 n ∷ [], tt)) $ fjoin ! $
        nothing ! $ nothing ! $ fjoin ! $ join ! $ nothing ! $ join ! $ done !)

  pub return_met : {M : Type 1} {𝓤 : Ura M} (𝓛 : Logic 𝓤) (𝓣 : Tables 𝓤 𝓛.H) (f : Fn) (ρ : Ty) → Meets 𝓛 ended.signature (WpFn 𝓤 𝓛.H 𝓣.C 𝓣.Λ (return_code f ρ)) (closing 𝓛 ended (clauses 𝓛))
  return_met {𝓤 = 𝓤} 𝓛 𝓣 f ρ =
      walk_Meets 𝓛 ended stayed (Goes-spent_slice 𝓛 0 [] tt (plain (λ _. E)), tt) (clauses 𝓛) (WpFn 𝓤 𝓛.H 𝓣.C 𝓣.Λ (return_code f ρ)) (WpFn-mono 𝓤 𝓛.H 𝓛.laws 𝓣 (return_code f ρ))
      (walked 𝓛 ended stayed (clauses 𝓛) (WpFn 𝓤 𝓛.H 𝓣.C 𝓣.Λ (return_code f ρ)) (λ κs. (mut_slice_vals, tt)) (λ κs. (mut_slice_Tells static [] E, tt))
      (λ κs qs bounds a g are. via 𝓤 _ (fst∗ 𝓤 _ (emp 𝓤)) (walk 𝓛 𝓣.C 𝓣.Λ f ρ a.0.ref_ptr.0 a.0.ref_ptr.1 a.0.ghost_name a.0.now are.0.0.1)))
