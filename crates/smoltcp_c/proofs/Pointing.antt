-- Where a value lies that is lent: the reference becomes a raw pointer, in a struct of that one field. Assumes `Logic`.
--     At                   the struct's row
--     ended, clauses       the contract of the function that tells
--     at_code              its code: σ is the value's type
--     at_met               the code meets the contract
use mathlib.Core.Path.{◌≡◌, refl}
use Prim.Native.Nat.{ℕ}
use mathlib.Core.List.{List, [], ◌∷◌}
use seplogic.Ra.Ura.{Ura}
use mir.Syntax.{Fn, Ty, named, imm, ty_ptr, ty_ref, local, value_local, seq, assign, return, place, deref, addr_of, rv_opd, copy, aggregate}
use mir.Val.{Val, vptr, vstruct, vnil, vcons}
use base.Logic.{SProp, ent, emp, via, fst∗}
use base.Fml.{Lft, Share, ftrue, flft}
use contract.Monad.{fact}
use prog.Wp.{Calls, Loops, WpFn, Tables}
use types.Logic.{Logic}
use sound.WpLaws.{WpFn-mono}
use types.Kit.{‵, ◌⊛◌, ◌$◌, ◌∵◌, !, qed, keep, join, fjoin, fpack, feq_i, suffices, frame, done}
use types.Part.{agg}
use types.Run.{stop, addr, of_opd, and_then, no_more, returns, enter}
use types.ByLocal.{alloc_all, pass_all, free_all, look_at, get, through, sets}
use denote.RattleType.{RattleType, owns, Valss}
use denote.Memory.{lone}
use denote.RawPtr.{RawPtr, block_ptr}
use denote.Ref.{Bor, ShrRef, shr_vals, shr_Tells}
use denote.Exit.{yes}
use denote.Signature.{plain, shr_ref_to}
use denote.Steps.{nothing}
use denote.Struct.Struct.{within}
use denote.Struct.Declared.{shape}
use denote.Triple.Entry.{on_entry}
use denote.Triple.Clauses.{Clauses, Ended, closing}
use denote.Triple.Spec.{Meets}
use denote.Triple.Walked.{says, Stays, stay_dropped, walk_of, Goes-dropped, walked, ends_at, walk_Meets}
use Rattle.std.specs.Ptr.{as_ptr}
use Rattle.smoltcp_c.specs.contracts.host_lends.SocketAt as A-type
use Rattle.smoltcp_c.proofs.Owned.{ended_by}

abbrev At : RattleType
At = A-type.the_row

module _ (R : RattleType) where
  abbrev pub ended : Ended
  ended = ended_by 1 (shr_ref_to (0 ∷ []) tt (plain (λ _. R)) ∷ []) (plain (λ _. At)) (yes, tt)

  abbrev pub at_code : Fn → Ty → Ty → Fn
  at_code f σ₀ σ₁ = record f {
    params = 1;
    locals = local (lone At.mir) value_local ∷ local (ty_ref (named 0) imm σ₀) value_local ∷ local ty_ptr value_local ∷ local ty_ptr value_local ∷ [];
    body = seq (assign (place 2 []) (addr_of (place 1 (deref σ₁ ∷ [])))) (seq (assign (place 3 []) (rv_opd (copy (place 2 []))))
        (seq (assign (place 0 []) (aggregate (copy (place 3 []) ∷ []))) return));
  }

  abbrev pub clauses : {M : Type 1} {𝓤 : Ura M} (𝓛 : Logic 𝓤) → Clauses 𝓤 ended
  clauses {𝓤 = 𝓤} 𝓛 κs a = record {
    ghost = Unit {0};
    requires = λ _. emp 𝓤;
    ensures = λ _ r end. fact 𝓤 (r.at ≡ as_ptr a.0);
  }

  abbrev word : ℕ → ℕ → Val
  word b o = vstruct (vcons (vptr b o) vnil)

  abbrev stayed : Stays ended.signature.params ended.kept
  stayed = (stay_dropped (shr_ref_to (0 ∷ []) tt (plain (λ _. R))) yes, tt)

  module _ {M : Type 1} {𝓤 : Ura M} (𝓛 : Logic 𝓤) (C : Calls 𝓤 𝓛.H) (Λ : Loops 𝓤 𝓛.H) (f : Fn) (σ₀ σ₁ : Ty) (κ : Lft) (q : Share) (b o : ℕ) (x : R.Denot) where
    open 𝓛 use {H}

    abbrev fn : Fn
    fn = at_code f σ₀ σ₁

    abbrev self : Bor R.Denot
    self = record { ref_ptr = (b, o); now = x }

    abbrev bound : (walk_of 𝓛 ended stayed (clauses 𝓛)).Ghost
    bound = (((κ, tt), (q, tt), tt, (self, tt), (shr_vals self, tt)), tt)

    abbrev Post : Val → SProp 𝓤
    Post = (walk_of 𝓛 ended stayed (clauses 𝓛)).post bound

    walk : ent 𝓤 (on_entry 𝓛 ended.signature (κ, tt) (q, tt) (self, tt) (shr_vals self, tt)) (WpFn 𝓤 H C Λ fn (vptr b o ∷ []) Post)
    walk =
        qed 𝓛 ((‵ (flft κ q) ⊛ ‵ ftrue) ∷ ‵ (owns (ShrRef (named 0) κ R ∷ []) (self, tt) (shr_vals self, tt)) ∷ []) ∵ enter ! C Λ fn (vptr b o ∷ []) _ $
        alloc_all ! (λ l. pass_all ! refl ((tt, tt), tt) $
        sets ! (addr ! (through ! refl (stop !))) refl (tt, tt) $
        sets ! (of_opd ! (get ! refl)) refl (tt, tt) $
        sets ! (agg ! (and_then ! (get ! refl) (no_more !))) refl (tt, (tt, tt)) $
        returns ! (look_at ! 0 refl) $ free_all ! refl $ keep ! (0 ∷ []) $
        suffices ! _ (ends_at 𝓛 ended stayed (clauses 𝓛) bound (word b o) (record { at = block_ptr b o }) (tt, tt) (tt, tt)) $ says ! refl $
        frame ! $
        nothing ! $
        feq_i ! (List Val) (vptr b o ∷ []) (vptr b o ∷ []) refl $ fjoin ! $ feq_i ! (List Val) (word b o ∷ []) (word b o ∷ []) refl $ fjoin ! $
        fpack ! (Valss (RawPtr ∷ [])) (within (shape A-type.the_type) (block_ptr b o, tt) (word b o ∷ [])) (vptr b o ∷ [], tt) $
        nothing ! $ nothing ! $ fjoin ! $ join ! $ done !)

  pub at_met : {M : Type 1} {𝓤 : Ura M} (𝓛 : Logic 𝓤) (𝓣 : Tables 𝓤 𝓛.H) (f : Fn) (σ₀ σ₁ : Ty) → Meets 𝓛 ended.signature (WpFn 𝓤 𝓛.H 𝓣.C 𝓣.Λ (at_code f σ₀ σ₁)) (closing 𝓛 ended (clauses 𝓛))
  at_met {𝓤 = 𝓤} 𝓛 𝓣 f σ₀ σ₁ =
      walk_Meets 𝓛 ended stayed (Goes-dropped 𝓛 1 (shr_ref_to (0 ∷ []) tt (plain (λ _. R))) yes (λ κs x f. refl), tt) (clauses 𝓛) (WpFn 𝓤 𝓛.H 𝓣.C 𝓣.Λ (at_code f σ₀ σ₁)) (WpFn-mono 𝓤 𝓛.H 𝓛.laws 𝓣 (at_code f σ₀ σ₁))
      (walked 𝓛 ended stayed (clauses 𝓛) (WpFn 𝓤 𝓛.H 𝓣.C 𝓣.Λ (at_code f σ₀ σ₁)) (λ κs. (shr_vals, tt)) (λ κs. (shr_Tells (named 0) κs.0 R, tt))
      (λ κs qs bounds a g are. via 𝓤 _ (fst∗ 𝓤 _ (emp 𝓤)) (walk 𝓛 𝓣.C 𝓣.Λ f σ₀ σ₁ κs.0 qs.0 a.0.ref_ptr.0 a.0.ref_ptr.1 a.0.now)))
