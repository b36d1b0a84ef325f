-- A run of a slice that is lent is lent on, and a `Result` of it or of `Full` is made. Assumes `Logic`.
use mathlib.Core.Path.{◌≡◌, refl, sym, ap, ◌∙◌}
use Prim.Native.Nat.{ℕ, ◌+◌}
use native.Mathlib.Omega.{arith}
use mathlib.Core.List.{List, [], ◌∷◌, ◌++◌}
use lib.ListN.{length, length-append}
use seplogic.Ra.Ura.{Ura}
use mir.Syntax.{Lifetime}
use mir.Val.{Val, of_list, vstruct, vnil}
use base.Logic.{SProp, ent, sep, ex, emp, via, id⊢}
use base.Stored.{coded_list}
use base.Fml.{Lft, GName, Share, flft, fobs, fbor}
use types.Logic.{Logic, sem}
use types.Kit.{‵, ◌⊛◌, ◌$◌, ◌∵◌, !, qed, move, drop, fsplit, fsplit3, fjoin, fpack, updating, await, later, some, use1, use2, group, pick, now, show, done, split, split3, join, rewrite, feq_l, feq_i}
use types.SemTy.{cells, Arr, Body}
use types.Follow.{takes_part}
use types.Match.{live}
use types.Mut.{open_ref}
use denote.RattleType.{RattleType, Valss, owns}
use denote.Memory.{mem}
use denote.Array.{Array}
use denote.Slice.{MutSlice, Room, slice_val}
use denote.Follow.{follows, follows_if, follows_by}
use mathlib.Core.Option.{none, some as has}
use denote.FollowSlice.{heres_id, slice_of}
use denote.Steps.{nothing}
use denote.Struct.Struct.{within}
use denote.Struct.Declared as Declared
use denote.Enum.Row.{tagged_with}
use denote.Enum.Enum.{form_of, in_a_row}
use denote.Enum.Declared.{shape}
use borrow.Table.Elements.{at, cut_app, join_app}
use Rattle.std.specs.Prelude.{Ok, Err}
use Rattle.std.specs.contracts.result.Result as RS
use Rattle.net_base.specs.contracts.packet_buffer.Full as Fu

module _ {M : Type 1} {𝓤 : Ura M} (𝓛 : Logic 𝓤) (ℓ : Lifetime) (κ : Lft) (q : Share) (b o : ℕ) (γ : GName) (R : RattleType) (xs front mid back : List R.Denot)
    (cut : xs ≡ front ++ (mid ++ back)) (p : ℕ) (on : at o (mem R).size (length front) ≡ p) (rm : Room R (length mid)) where
  open 𝓛 use {H, A}

  abbrev pub around_run : List R.Denot → List R.Denot
  around_run ws = front ++ (ws ++ back)

  abbrev pub RunLent : GName → SProp 𝓤
  RunLent δ = sep 𝓤 (sem 𝓛 ((MutSlice ℓ κ R).own_val (record { ref_ptr = (b, p); ghost_name = δ; now = mid }) (slice_val (b, p) (length mid) ∷ []))) (sep 𝓤 (A.lft κ q) (sem 𝓛 (follows (Array R 0) (Array R 0) γ δ around_run)))

  abbrev Others : SProp 𝓤
  Others = sep 𝓤 (sem 𝓛 (cells (mem R) front b o)) (sem 𝓛 (cells (mem R) back b (at p (mem R).size (length mid))))

  put_run : (ws : List R.Denot) → ent 𝓤 (sep 𝓤 (sem 𝓛 ((Arr (mem R) (length mid)).own_at ws b p)) Others) (sem 𝓛 ((Arr (mem R) (length xs)).own_at (around_run ws) b o))
  put_run ws = qed 𝓛 (‵ ((Arr (mem R) (length mid)).own_at ws b p) ∷ ‵ (cells (mem R) front b o) ∷ ‵ (cells (mem R) back b (at p (mem R).size (length mid))) ∷ []) ∵
      fsplit ! $ feq_l ! (λ e.
      let whole : length xs ≡ length front + length (mid ++ back) = ap length cut ∙ length-append front (mid ++ back) in
      let inner : length (mid ++ back) ≡ length mid + length back = length-append mid back in
      let now_whole : length (around_run ws) ≡ length front + length (ws ++ back) = length-append front (ws ++ back) in
      let now_inner : length (ws ++ back) ≡ length ws + length back = length-append ws back in
      rewrite ! 2 (λ (k : ℕ). ‵ (cells (mem R) back b (at p (mem R).size k))) (sym e) refl $ move ! (0 ∷ 2 ∷ []) $
      use2 𝓛 (‵ (cells (mem R) (ws ++ back) b p)) (join_app 𝓛 (mem R) ws back b p) $
      rewrite ! 0 (λ (k : ℕ). ‵ (cells (mem R) (ws ++ back) b k)) (sym on) refl $ move ! (1 ∷ 0 ∷ []) $
      use2 𝓛 (‵ (cells (mem R) (around_run ws) b o)) (join_app 𝓛 (mem R) front (ws ++ back) b o) $
      feq_i ! ℕ (length (around_run ws)) (length xs) (omega arith) $ fjoin ! $ done !)

  pub lends_run : (vs : List Val)
      → ent 𝓤 (sep 𝓤 (sem 𝓛 ((MutSlice ℓ κ R).own_val (record { ref_ptr = (b, o); ghost_name = γ; now = xs }) vs)) (A.lft κ q)) (H.⇛ (ex 𝓤 RunLent))
  lends_run vs = qed 𝓛 (‵ ((MutSlice ℓ κ R).own_val (record { ref_ptr = (b, o); ghost_name = γ; now = xs }) vs) ∷ ‵ (flft κ q) ∷ []) ∵ updating ! $ fsplit3 ! $ drop ! $
      rewrite ! 0 (λ (l : List R.Denot). ‵ (fobs γ ((coded_list R.coded).code l))) (heres_id R xs) refl $ open_ref ! tt (Arr (mem R) (length xs)) {b = b} {o = o} $ fsplit ! $ drop ! $
      rewrite ! 0 (λ (l : List R.Denot). ‵ (cells (mem R) l b o)) cut refl $
      use1 𝓛 (‵ (cells (mem R) front b o) ⊛ ‵ (cells (mem R) (mid ++ back) b (at o (mem R).size (length front)))) (cut_app 𝓛 (mem R) front (mid ++ back) b o) $ split ! $ move ! (1 ∷ []) $
      rewrite ! 0 (λ (k : ℕ). ‵ (cells (mem R) (mid ++ back) b k)) on refl $
      use1 𝓛 (‵ (cells (mem R) mid b p) ⊛ ‵ (cells (mem R) back b (at p (mem R).size (length mid)))) (cut_app 𝓛 (mem R) mid back b p) $ split ! $
      feq_i ! ℕ (length mid) (length mid) refl $ fjoin ! $ move ! (2 ∷ 1 ∷ []) $ join ! $ move ! (2 ∷ 3 ∷ 4 ∷ 1 ∷ 0 ∷ []) $ group ! 5 $
      use1 𝓛 (later (some (λ (δ : GName). ‵ (fobs δ ((coded_list R.coded).code mid)) ⊛ ‵ (fbor κ (Body (Arr (mem R) (length mid)) b p δ)) ⊛ ‵ (flft κ q) ⊛ ‵ (follows (Array R 0) (Array R 0) γ δ around_run))))
      (takes_part 𝓛 (Arr (mem R) (length xs)) (Arr (mem R) (length mid)) around_run κ q b o b p γ Others put_run ((coded_list R.coded).code xs) ((coded_list R.coded).code xs) mid) $ await ! tt $ pick ! (λ δ. split3 ! $
      use2 𝓛 (‵ ((MutSlice ℓ κ R).own_val (record { ref_ptr = (b, p); ghost_name = δ; now = mid }) (slice_val (b, p) (length mid) ∷ []))) (slice_of 𝓛 R ℓ κ b p δ mid rm) $ now ! $ show ! RunLent δ $ done !)

abbrev pub full_result : RattleType → RattleType
full_result R = RS.the_row R Fu.the_row

module _ {M : Type 1} {𝓤 : Ura M} (𝓛 : Logic 𝓤) (R : RattleType) where
  pub ok_of : (x : R.Denot) (v : Val) → ent 𝓤 (sem 𝓛 (R.own_val x (v ∷ []))) (sem 𝓛 ((full_result R).own_val (Ok x) (live 0 (of_list (v ∷ [])) ∷ [])))
  ok_of x v =
      qed 𝓛 (‵ (R.own_val x (v ∷ [])) ∷ []) ∵ nothing ! $ move ! (1 ∷ 0 ∷ []) $ fjoin ! $ feq_i ! (List Val) (v ∷ []) (v ∷ []) refl $ fjoin ! $
      fpack ! (Valss (R ∷ [])) (in_a_row (R ∷ []) (owns (R ∷ []) (x, tt)) (v ∷ [])) (v ∷ [], tt) $
      feq_i ! (List Val) (live 0 (of_list (v ∷ [])) ∷ []) (live 0 (of_list (v ∷ [])) ∷ []) refl $ fjoin ! $
      fpack ! (List Val) (tagged_with (form_of (shape (RS.the_type R Fu.the_row))) (form_of (shape (RS.the_type R Fu.the_row))).payload ((RS.the_type R Fu.the_row).to (Ok x)) (live 0 (of_list (v ∷ [])) ∷ [])) (v ∷ []) $ done !

  err_of : (x : Fu.the_row.Denot) (v : Val) → ent 𝓤 (sem 𝓛 (Fu.the_row.own_val x (v ∷ []))) (sem 𝓛 ((full_result R).own_val (Err x) (live 1 (of_list (v ∷ [])) ∷ [])))
  err_of x v =
      qed 𝓛 (‵ (Fu.the_row.own_val x (v ∷ [])) ∷ []) ∵ nothing ! $ move ! (1 ∷ 0 ∷ []) $ fjoin ! $ feq_i ! (List Val) (v ∷ []) (v ∷ []) refl $ fjoin ! $
      fpack ! (Valss (Fu.the_row ∷ [])) (in_a_row (Fu.the_row ∷ []) (owns (Fu.the_row ∷ []) (x, tt)) (v ∷ [])) (v ∷ [], tt) $
      feq_i ! (List Val) (live 1 (of_list (v ∷ [])) ∷ []) (live 1 (of_list (v ∷ [])) ∷ []) refl $ fjoin ! $
      fpack ! (List Val) (tagged_with (form_of (shape (RS.the_type R Fu.the_row))) (form_of (shape (RS.the_type R Fu.the_row))).payload ((RS.the_type R Fu.the_row).to (Err x)) (live 1 (of_list (v ∷ [])) ∷ [])) (v ∷ []) $ done !

  full_owned : ent 𝓤 (emp 𝓤) (sem 𝓛 (Fu.the_row.own_val (record {}) (vstruct vnil ∷ [])))
  full_owned = qed 𝓛 [] ∵ nothing ! $ feq_i ! (List Val) (vstruct vnil ∷ []) (vstruct vnil ∷ []) refl $ fjoin ! $
      fpack ! (Valss []) (within (Declared.shape Fu.the_type) tt (vstruct vnil ∷ [])) tt $ done !

  pub full_err : ent 𝓤 (emp 𝓤) (sem 𝓛 ((full_result R).own_val (Err (record {})) (live 1 (of_list (vstruct vnil ∷ [])) ∷ [])))
  full_err = via 𝓤 _ full_owned (err_of (record {}) (vstruct vnil))

module _ {M : Type 1} {𝓤 : Ura M} (𝓛 : Logic 𝓤) (R T : RattleType) (γ : GName) (F : T.Denot → R.Denot) (v : R.Denot) where
  pub ends_unlent : ent 𝓤 (𝓛.A.res γ (R.coded.code v)) (sem 𝓛 (follows_if R T γ none F v))
  unfolding follows_by
  ends_unlent = id⊢ 𝓤 _

  pub ends_lent : (δ : GName) → ent 𝓤 (sem 𝓛 (follows R T γ δ F)) (sem 𝓛 (follows_if R T γ (has δ) F v))
  unfolding follows_by
  ends_lent δ = id⊢ 𝓤 _
