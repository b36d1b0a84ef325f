-- A socket of one kind is lent out of the enum of all kinds: the walk that the `downcast_mut` of the four kinds share. Assumes `Logic`.
--     ended, clauses     the contract of `downcast_mut` at the kind whose row is Part, which make puts into the enum
--     lent_code          the function's code, where the kind is the variant k, and others are the keys of the other variants
--     Found              a value of the enum is of the kind, or is not
--     lent_met           the code meets the contract
use mathlib.Core.Path.{◌≡◌, refl, sym, ap, subst}
use mathlib.Core.Option.{none, some as has}
use mathlib.Core.Bool.{not}
use mathlib.Core.Logic.{◌⊎◌, inl, inr}
use mathlib.Core.List.{List, [], ◌∷◌}
use Prim.Native.Nat.{ℕ, ◌+◌}
use seplogic.Ra.Ura.{Ura}
use lib.Dec.{T, lit<}
use mir.Syntax.{Callee, Fn, Ty, Tyss, Sym, Arms, named, erased, mut, w8, ty_enum, ty_ref, tcons, tnil, ttcons, ttnil, local, value_local, seq, assign, switch, arm, no_default, return, place, deref, variant, field, addr_of, aggregate, rv_opd, copy, int}
use mir.Val.{Val, vptr, vcons, vnil, of_list, has_key}
use mir.Raw.{raw as bare}
use base.Fraction.{full_share}
use base.Logic.{SProp, ent, sep, emp}
use base.Fml.{Lft, GName, Share, Fml, fex, ftrue, fat, flft, fres, fobs}
use prog.Memory.{up, align, variant_at, with_tag}
use prog.Model.{Model}
use prog.Wp.{Env, Calls, Loops, WpFn, Closed}
use types.Logic.{Logic, sem}
use types.Kit.{Item, mean, ‵, raw, some, later, ◌⊛◌, at_ret, ◌$◌, ◌∵◌, !, qed, move, keep, use0, use1, use2, split, split3, join, group, pick, await, fsplit, fsplit3, fjoin, by}
use types.Run.{miss, stop, fld, addr, load, of_opd, first, exec, returns, enter, lit, and_then, no_more}
use types.Part.{whole, agg}
use types.Match.{live, vrt, look_tag, by_variants, covers}
use types.ByLocal.{alloc_all, pass_all, free_all, look_at, get, through, sets, sets_last, env}
use types.Mut.{open_ref, close_ref}
use contract.BorrowLft.{◌⊑◌}
use contract.Lifetimes.{Lfts, Shares, AllOutlive}
use contract.Monad.{fact, fact_i}
use contract.Running.{Running, MachineTables, tables}
use denote.Builtin.{u8, RefMutOf}
use denote.Exit.{no}
use denote.RattleType.{RattleType, owns}
use denote.Signature.{types_at, plain, named_lft, mut_ref_to}
use denote.Ref.{MutRef, MutBor, NamedLft, mut_vals, mut_Tells}
use denote.Memory.{lone, mem, part_at}
use denote.Param.{param}
use denote.Follow.{follows, follows_if}
use denote.Steps.{nothing}
use denote.Enum.Declared.{shape}
use denote.Enum.Enum.{layouts, form_of}
use denote.Triple.Clauses.{Clauses, Ended, closing}
use denote.Triple.Spec.{Meets}
use denote.Triple.Walked.{Stays, stay_dropped, walk_of, Goes-spent_ref}
use Rattle.std.proofs.raw_atomic.Walks.{proved, leaves}
use Rattle.std.proofs.VecSteps.Element.{Some-of, none_of}
use Rattle.std.proofs.VecSteps.Shapes.{after}
use Rattle.std.specs.Prelude.{Option, Some, None, option_map}
use Rattle.std.specs.Borrow.{LendsIf}
use Rattle.std.specs.contracts.option.Option as option
use Rattle.smoltcp_socket.proofs.LentVariant.{tagged, one_field, opened, lends, any_opened, any_shut, follows_some, follows_none}
use Rattle.smoltcp_socket.specs.declared.socket.Socket.{Socket}
use Rattle.smoltcp_socket.specs.declared.socket.Socket.TheVariants.{Raw, Icmp, Udp, Tcp}
use Rattle.smoltcp_socket.specs.contracts.socket.Socket as all_kinds

-- a row as the code has it
abbrev pub unnamed : NamedLft
unnamed = record { mir = erased; lft = [] }

abbrev ν : Sym
ν = (all_kinds.the_type unnamed u8).name

abbrev option_of : Ty → Ty
option_of σ = ty_enum (option.the_type u8).name (ttcons tnil (ttcons (tcons σ tnil) ttnil))

-- where a value's variant stands among the variants
abbrev pub position : {G : Type 0} → Socket G → ℕ
position (Raw s) = 0
position (Icmp s) = 1
position (Udp s) = 2
position (Tcp s) = 3

-- a value of the enum is of the kind whose variant is the k-th, or it is not
abbrev pub Found : {G K : Type 0} → ℕ → (K → Socket G) → (Socket G → Option K) → Socket G → Type 0
Found {K = K} k make of_kind h = ((y : K) × (h ≡ make y)) ⊎ (T (not (has_key (k ∷ []) (position h))) × (None ≡ of_kind h))

module _ (G : RattleType) where
  abbrev pub Whole : Lfts 3 → RattleType
  Whole κs = all_kinds.the_row (named_lft 3 1 tt κs) (param 0 G)

  abbrev τss : Tyss
  τss = layouts (shape (all_kinds.the_type unnamed (param 0 G))).variants

  abbrev ω : Ty
  ω = ty_enum ν τss

  module _ (k : ℕ) (others : List ℕ) (τ : Ty) where
    abbrev arms : Arms
    arms = arm (k ∷ []) (seq (assign (place 2 []) (addr_of (place 1 (deref ω ∷ variant k ∷ field 1 ∷ [])))) (seq (assign (place 4 []) (addr_of (place 2 (deref τ ∷ [])))) (assign (place 3 []) (aggregate (int w8 1 ∷ copy (place 4 []) ∷ [])))))
        (arm others (assign (place 3 []) (aggregate (int w8 0 ∷ []))) no_default)

    abbrev pub lent_code : Fn → Ty → Ty → Ty → Fn
    lent_code f π₀ π₁ π₂ = record f {
      params = 1;
      locals = local (option_of (ty_ref (named 0) mut π₁)) value_local ∷ local (ty_ref (named 0) mut π₀) value_local ∷ local (ty_ref erased mut π₂) value_local
          ∷ local (option_of (ty_ref erased mut π₂)) value_local ∷ local (ty_ref erased mut π₂) value_local ∷ [];
      body = seq (switch (copy (place 1 (deref ω ∷ variant 0 ∷ field 0 ∷ []))) arms) (seq (assign (place 0 []) (rv_opd (copy (place 3 [])))) return);
    }

  module _ (Part : Lfts 3 → RattleType) (make : (κs : Lfts 3) → (Part κs).Denot → Socket G.Denot) (of_kind : (κs : Lfts 3) → Socket G.Denot → Option (Part κs).Denot) where
    abbrev pub ended : Ended
    ended = record {
      signature = record {
        lifetimes = 3;
        outlives = record { long = 1; long_ok = tt; short = named 0; short_ok = tt } ∷ record { long = 2; long_ok = tt; short = named 0; short_ok = tt } ∷ [];
        params = RefMutOf (0 ∷ []) tt (plain Whole) (λ κs. tt) ∷ [];
        result = plain (λ κs. option.the_row (MutRef (named 0) κs.0 (Part κs)));
      };
      kept = (no, tt);
    }

    abbrev pub stayed : Stays ended.signature.params ended.kept
    stayed = (stay_dropped (mut_ref_to (0 ∷ []) tt (plain Whole)) no, tt)

    abbrev pub clauses : {M : Type 1} {𝓤 : Ura M} (𝓛 : Logic 𝓤) → Clauses 𝓤 ended
    clauses {𝓤 = 𝓤} 𝓛 κs a = record {
      ghost = Unit {0};
      requires = λ _. sep 𝓤 (fact 𝓤 (κs.1.1.0 ⊑ G.lives)) (emp 𝓤);
      ensures = λ _ r _. sep 𝓤 (sem 𝓛 (LendsIf (Whole κs) (Part κs) a.0 r (make κs) a.0.now)) (fact 𝓤 (option_map (λ s. s.now) r ≡ of_kind κs a.0.now));
    }

    module _ (k : ℕ) (others : List ℕ) (τ : Ty) (has_k : variant_at τss k ≡ has (tcons τ tnil)) (all : T (covers τss 0 (arms k others τ))) (apart : T (not (has_key others k)))
        (one_F : (κs : Lfts 3) → (Part κs).mir ≡ lone (Part κs).mir ∷ []) (is_F : (κs : Lfts 3) → bare τ ≡ bare (lone (Part κs).mir))
        (owns_is : (κs : Lfts 3) (y : (Part κs).Denot) (vs : List Val) → (Whole κs).own_val (make κs y) vs ≡ fex (List Val) (tagged k (one_field (Part κs) y) vs))
        (value : (κs : Lfts 3) (y : (Part κs).Denot) → Some y ≡ of_kind κs (make κs y)) where
      abbrev tag : Lfts 3 → Socket G.Denot → ℕ
      tag κs h = let S = all_kinds.the_type (named_lft 3 1 tt κs) (param 0 G) in (form_of (shape S)).tag (S.to h)

      abbrev pay : Lfts 3 → Socket G.Denot → List Val → Fml
      pay κs h = let S = all_kinds.the_type (named_lft 3 1 tt κs) (param 0 G) in (form_of (shape S)).payload (S.to h)

      is_tag : (κs : Lfts 3) (h : Socket G.Denot) → position h ≡ tag κs h
      is_tag κs (Raw s) = refl
      is_tag κs (Icmp s) = refl
      is_tag κs (Udp s) = refl
      is_tag κs (Tcp s) = refl

      module _ (f : Fn) (π₀ π₁ π₂ : Ty) {M : Type 1} {𝓤 : Ura M} (𝓛 : Logic 𝓤) (calls : Calls 𝓤 𝓛.H) (Λ : Loops 𝓤 𝓛.H)
          (κs : Lfts 3) (qs : Shares 3) (bounds : AllOutlive 3 ended.signature.outlives κs) (b o : ℕ) (γ : GName) where
        open 𝓛 use {H}

        abbrev function : Fn
        function = lent_code k others τ f π₀ π₁ π₂

        abbrev R : RattleType
        R = Whole κs

        abbrev P : RattleType
        P = Part κs

        abbrev put : P.Denot → R.Denot
        put = make κs

        abbrev κ : Lft
        κ = κs.0

        abbrev q : Share
        q = qs.0

        abbrev Ref : RattleType
        Ref = MutRef (named 0) κ P

        abbrev left : Item 𝓤
        left = ‵ (flft κs.1.0 qs.1.0) ⊛ ‵ (flft κs.1.1.0 qs.1.1.0) ⊛ ‵ ftrue

        abbrev lender : R.Denot → MutBor R.Denot
        lender h = record { ref_ptr = (b, o); ghost_name = γ; now = h }

        abbrev At : R.Denot → (walk_of 𝓛 ended stayed (clauses 𝓛)).Ghost
        At h = ((κs, qs, bounds, (lender h, tt), (vptr b o ∷ [], tt)), tt)

        abbrev Post : R.Denot → Val → SProp 𝓤
        Post h = (walk_of 𝓛 ended stayed (clauses 𝓛)).post (At h)

        abbrev pub Goes : R.Denot → Type 1
        Goes h = ent 𝓤 ((walk_of 𝓛 ended stayed (clauses 𝓛)).pre (At h)) (WpFn 𝓤 H calls Λ function (vptr b o ∷ []) (Post h))

        -- ---- the enum is of another kind
        ends_none : (h : R.Denot) → None ≡ of_kind κs h → ent 𝓤 (sep 𝓤 (sem 𝓛 (fobs γ (R.coded.code h))) (sep 𝓤 (sem 𝓛 (flft κ q)) (mean 𝓛 left))) (Post h (live 0 (of_list [])))
        ends_none h is_none =
            qed 𝓛 (‵ (fobs γ (R.coded.code h)) ∷ ‵ (flft κ q) ∷ left ∷ []) ∵ use1 𝓛 (‵ (fres γ (R.coded.code h))) (𝓛.names.obs-res γ (R.coded.code h)) $
            use1 𝓛 (‵ (follows_if R P γ none put h)) (follows_none R P put h γ 𝓛) $
            use0 𝓛 (raw (fact 𝓤 (None ≡ of_kind κs h))) (fact_i 𝓤 (None ≡ of_kind κs h) (emp 𝓤) is_none) $ move ! (1 ∷ 0 ∷ []) $ join ! $
            use0 𝓛 (‵ ((option.the_row Ref).own_val None (live 0 (of_list []) ∷ []))) (none_of 𝓛 Ref) $
            -- [the result; the clauses; the token; what is left of the others]
            nothing ! $ nothing ! $ fjoin ! $ move ! (3 ∷ 4 ∷ []) $ join ! $
            by ! (leaves 𝓛 ended stayed (clauses 𝓛) (At h) (live 0 (of_list [])) None (tt, tt) (tt, tt))

        none_left : (h : R.Denot) → T (not (has_key (k ∷ []) (position h))) → None ≡ of_kind κs h → Goes h
        none_left h differs is_none =
            let j : ℕ = tag κs h in let us_owned : List Val → Fml = pay κs h in
            qed 𝓛 (((‵ (flft κ q) ⊛ left) ⊛ ‵ (owns (types_at ended.signature.params κs) (lender h, tt) (vptr b o ∷ [], tt))) ∷ raw ((clauses 𝓛 κs (lender h, tt)).requires tt) ∷ []) ∵
            split ! $ split ! $ move ! (2 ∷ []) $ fsplit ! $ fsplit3 ! $ keep ! (1 ∷ 2 ∷ 4 ∷ 5 ∷ []) $
            enter ! calls Λ function (vptr b o ∷ []) _ $ alloc_all ! (λ l. pass_all ! refl ((tt, tt), tt) $ let E : Env 𝓤 H = env function.locals l in
            open_ref ! tt (mem R) $
            use1 𝓛 (some (λ (us : List Val). ‵ (fat full_share ω b o (live j (of_list us))) ⊛ ‵ (us_owned us))) (any_opened R ν τss refl refl 𝓛 b o h j us_owned (λ vs. refl)) $ pick ! (λ us. split ! $
            first ! $ by_variants ! 0 (whole !) (load ! (through ! refl (vrt ! refl (fld ! refl (stop !)))) (look_tag ! 0 (whole !))) all (
              (λ e. absurd (miss (k ∷ []) j (subst (λ (i : ℕ). T (not (has_key (k ∷ []) i))) (is_tag κs h) differs) e)),
              (
                (λ _. sets_last ! (agg ! (and_then ! (lit ! tt) (no_more !))) refl (tt, (record { fits = lit< tt }, tt)) $
                    exec ! calls Λ E (after 1 function.body) (at_ret E (Post h)) $ sets ! (of_opd ! (get ! refl)) refl (tt, (record { fits = lit< tt }, tt)) $
                    use2 𝓛 (‵ (part_at R full_share h b o)) (any_shut R ν τss refl refl 𝓛 b o h j us_owned (λ vs. refl) us) $ close_ref ! tt (mem R) h $
                    -- [the last value; the borrow; the token; what is left of the others]
                    returns ! (look_at ! 0 refl) $ free_all ! refl $ keep ! (0 ∷ 2 ∷ 3 ∷ []) $ by ! (ends_none h is_none)),
                tt,
              ),
            )))

        -- ---- the enum is of the kind
        ends_some : (y : P.Denot) (at : ℕ) (δ : GName) → ent 𝓤 (sep 𝓤 (sem 𝓛 (Ref.own_val (record { ref_ptr = (b, at); ghost_name = δ; now = y }) (vptr b at ∷ [])))
            (sep 𝓤 (sem 𝓛 (flft κ q)) (sep 𝓤 (sem 𝓛 (follows R P γ δ put)) (mean 𝓛 left)))) (Post (put y) (live 1 (of_list (vptr b at ∷ []))))
        ends_some y at δ =
            let r : MutBor P.Denot = record { ref_ptr = (b, at); ghost_name = δ; now = y } in let v : Val = vptr b at in let Value : Type 0 = Some y ≡ of_kind κs (put y) in
            qed 𝓛 (‵ (Ref.own_val r (v ∷ [])) ∷ ‵ (flft κ q) ∷ ‵ (follows R P γ δ put) ∷ left ∷ []) ∵ move ! (2 ∷ []) $
            use1 𝓛 (‵ (follows_if R P γ (has δ) put (put y))) (follows_some R P put (put y) γ 𝓛 δ) $
            use0 𝓛 (raw (fact 𝓤 Value)) (fact_i 𝓤 Value (emp 𝓤) (value κs y)) $ move ! (1 ∷ 0 ∷ []) $ join ! $ move ! (1 ∷ []) $
            use1 𝓛 (‵ ((option.the_row Ref).own_val (Some r) (live 1 (of_list (v ∷ [])) ∷ []))) (Some-of 𝓛 Ref r v) $
            -- [the result; the clauses; the token; what is left of the others]
            nothing ! $ nothing ! $ fjoin ! $ move ! (3 ∷ 4 ∷ []) $ join ! $
            by ! (leaves 𝓛 ended stayed (clauses 𝓛) (At (put y)) (live 1 (of_list (v ∷ []))) (Some r) (tt, tt) (tt, tt))

        some_lent : (y : P.Denot) → Goes (put y)
        some_lent y =
            let h : R.Denot = put y in let at : ℕ = o + up (align τ) 1 in
            qed 𝓛 (((‵ (flft κ q) ⊛ left) ⊛ ‵ (owns (types_at ended.signature.params κs) (lender h, tt) (vptr b o ∷ [], tt))) ∷ raw ((clauses 𝓛 κs (lender h, tt)).requires tt) ∷ []) ∵
            split ! $ split ! $ move ! (2 ∷ []) $ fsplit ! $ fsplit3 ! $ keep ! (1 ∷ 2 ∷ 4 ∷ 5 ∷ []) $
            enter ! calls Λ function (vptr b o ∷ []) _ $ alloc_all ! (λ l. pass_all ! refl ((tt, tt), tt) $ let E : Env 𝓤 H = env function.locals l in
            open_ref ! tt (mem R) $
            use1 𝓛 (some (λ (v : Val). ‵ (fat full_share ω b o (live k (vcons v vnil))) ⊛ ‵ (P.own_val y (v ∷ [])))) (opened R ν τss refl refl 𝓛 b o P put k τ has_k (one_F κs) (is_F κs) (owns_is κs) y) $ pick ! (λ v. split ! $
            first ! $ by_variants ! 0 (whole !) (load ! (through ! refl (vrt ! refl (fld ! refl (stop !)))) (look_tag ! 0 (whole !))) all (
              (λ _. sets ! (addr ! (through ! refl (vrt ! (ap (with_tag ν) has_k) (fld ! refl (stop !))))) refl (tt, tt) $ sets ! (addr ! (through ! refl (stop !))) refl (tt, tt) $
                  sets_last ! (agg ! (and_then ! (lit ! tt) (and_then ! (get ! refl) (no_more !)))) refl (tt, (record { fits = lit< tt }, (tt, tt))) $
                  exec ! calls Λ E (after 1 function.body) (at_ret E (Post h)) $ sets ! (of_opd ! (get ! refl)) refl (tt, (record { fits = lit< tt }, (tt, tt))) $ group ! 5 $
                  use1 𝓛 (later (some (λ (δ : GName). ‵ (Ref.own_val (record { ref_ptr = (b, at); ghost_name = δ; now = y }) (vptr b at ∷ [])) ⊛ ‵ (flft κ q) ⊛ ‵ (follows R P γ δ put))))
                  (lends R ν τss refl refl 𝓛 b o P put k τ has_k (one_F κs) (is_F κs) (owns_is κs) κ q γ y v (R.coded.code h)) $ await ! tt $ pick ! (λ δ. split3 ! $
                  -- [the reference; the token; what follows it; what is left of the others]
                  returns ! (look_at ! 0 refl) $ free_all ! refl $ keep ! (0 ∷ 1 ∷ 2 ∷ 3 ∷ []) $ by ! (ends_some y at δ))),
              ((λ e. absurd (miss others k apart e)), tt),
            )))

        lent_goes : (h : R.Denot) → Found k put (of_kind κs) h → Goes h
        lent_goes h (inl x) = subst Goes (sym x.1) (some_lent x.0)
        lent_goes h (inr x) = none_left h x.0 x.1

      module _ (f : Fn) (π₀ π₁ π₂ : Ty) {M : Type 1} {𝓤 : Ura M} (𝓛 : Logic 𝓤) (𝓜 : Model 𝓤 𝓛.H) (𝓡 : Running 𝓤 𝓛.H 𝓜) where
        abbrev 𝓣 : MachineTables 𝓤 𝓛.H 𝓜
        𝓣 = tables 𝓤 𝓛.H 𝓜 𝓡 𝓡.env

        pub lent_met : (c : Callee) → Closed 𝓤 𝓛.H 𝓣.C 𝓣.Λ c (lent_code k others τ f π₀ π₁ π₂) → ((κs : Lfts 3) (h : Socket G.Denot) → Found k (make κs) (of_kind κs) h) → Meets 𝓛 ended.signature (𝓣.C c) (closing 𝓛 ended (clauses 𝓛))
        lent_met c closed found =
            proved 𝓛 ended stayed (clauses 𝓛) 𝓜 𝓡 (Goes-spent_ref 𝓛 3 (0 ∷ []) tt (plain Whole), tt) c (lent_code k others τ f π₀ π₁ π₂) closed
            (λ κs. (mut_vals, tt)) (λ κs. (mut_Tells (named 0) κs.0 (Whole κs), tt))
            (λ κs qs bounds a g are. let r = a.0 in lent_goes f π₀ π₁ π₂ 𝓛 𝓣.C 𝓣.Λ κs qs bounds r.ref_ptr.0 r.ref_ptr.1 r.ghost_name r.now (found κs r.now))
