-- What was lent to a call for writing is then lent for reading, for the rest of its lifetime. Assumes `Logic`.
use mathlib.Core.Path.{sym, refl}
use mathlib.Core.List.{List, [], ◌∷◌}
use mathlib.Core.Option.{none}
use Rattle.std.specs.Prelude.{⊤}
use Prim.Native.Nat.{ℕ}
use seplogic.Ra.Ura.{Ura}
use base.Fraction.{full_share}
use base.Share
use mir.Syntax.{erased}
use base.Logic.{SProp, ent, sep, id⊢, wand, wand_i, emp, snd∗, upd_i, via}
use base.Fml.{Lft, GName, Share, Fml, fsep, flft, fdead, fauth, fres, fbor, flent, fseps, Incl}
use types.Logic.{Logic, sem}
use types.Kit.{◌$◌, ◌∵◌, !, ‵, raw, ◌⊛◌, mean, later, await, qed, by, move, use0, use1, use2, use3, rewrite, split, join, fsplit, fjoin, fpick, fpack, updating, now, keep, assume, suffices, drop, done}
use types.SemTy.{Body}
use types.Tokens.{bor_open, res_agree}
use types.Late.{deep, ages, deep_out}
use denote.Shares.{Shares}
use denote.Follow.{follows_by, such_by, follows_so}
use denote.Memory.{part_at, mem}
use denote.RattleType.{RattleType, RowLaws}
use denote.MovesOut.{Back}
use borrow.Table.Owned.{ShrRef, lends_shr, shr_deep}
use borrow.Table.Lending.{lending, lends_late, lending_in}

module _ {M : Type 1} {𝓤 : Ura M} (𝓛 : Logic 𝓤) (R : RattleType) (b o : ℕ) (γ : GName) (h : R.Denot) where
  open 𝓛 use {H, A}

  abbrev Inner : Fml
  Inner = Body (mem R) b o γ

  abbrev Part : Fml
  Part = part_at R full_share h b o

  abbrev Read : Lft → Fml
  Read κ = (ShrRef erased κ R).own_val (record { ref_ptr = (b, o); now = h })

  way_back : (κ : Lft) → ent 𝓤 (A.auth γ (R.coded.code h)) (sem 𝓛 (Back κ Inner (Part ∷ [])))
  unfolding fseps
  way_back κ =
      qed 𝓛 (‵ (fauth γ (R.coded.code h)) ∷ []) ∵ assume ! (‵ (fsep (fdead κ) (fseps (Part ∷ [])))) $
      fsplit ! $ drop ! $ fsplit ! $ suffices ! (sem 𝓛 Inner) (upd_i 𝓤 (sem 𝓛 Inner)) $
      move ! (0 ∷ 2 ∷ []) $ fjoin ! $ fpack ! R.Denot (λ z. fsep ((mem R).own_at z b o) (fauth γ (R.coded.code z))) h $ keep ! (0 ∷ []) $ done !

  dies : (κ : Lft) → ent 𝓤 (emp 𝓤) (wand 𝓤 (A.dead κ) (A.dead κ))
  dies κ = wand_i 𝓤 (emp 𝓤) (A.dead κ) (A.dead κ) (snd∗ 𝓤 (emp 𝓤) (A.dead κ))

  lets_go : (κ : Lft) (q : Share) → ent 𝓤 (mean 𝓛 (lending 𝓛 κ q Inner κ Part ⊛ ‵ (fauth γ (R.coded.code h)))) (H.⇛ (A.lft κ q))
  lets_go κ q =
      qed 𝓛 ((lending 𝓛 κ q Inner κ Part ⊛ ‵ (fauth γ (R.coded.code h))) ∷ []) {P = H.⇛ (A.lft κ q)} (
      updating ! $ split ! $ move ! (1 ∷ []) $ use1 𝓛 (‵ (Back κ Inner (Part ∷ []))) (way_back κ) $
      use0 𝓛 (raw (wand 𝓤 (A.dead κ) (A.dead κ))) (dies κ) $ move ! (1 ∷ 0 ∷ []) $ join ! $ move ! (1 ∷ 0 ∷ []) $ join ! $
      use1 𝓛 (later (‵ (flft κ q) ⊛ raw (wand 𝓤 (A.dead κ) (A.bor κ Inner)))) (lends_late 𝓛 κ q Inner κ Part) $ await ! tt $ split ! $
      now ! $ keep ! (0 ∷ []) $ done !)

  -- the call said its last value, h, and gave the borrow back
  pub read_on : RowLaws R → (κ : Lft) (q : Share) → Shares 𝓛 R κ → ent 𝓤 (sep 𝓤 (A.res γ (R.coded.code h)) (sep 𝓤 (A.bor κ Inner) (A.lft κ q)))
      (H.⇛ (sep 𝓤 (sem 𝓛 (Read κ)) (sep 𝓤 (A.res γ (R.coded.code h)) (A.lft κ q))))
  read_on lwR κ q sh =
      qed 𝓛 (‵ (fres γ (R.coded.code h)) ∷ ‵ (fbor κ Inner) ∷ ‵ (flft κ q) ∷ []) {P = H.⇛ (sep 𝓤 (sem 𝓛 (Read κ)) (sep 𝓤 (A.res γ (R.coded.code h)) (A.lft κ q)))} (
      updating ! $ move ! (2 ∷ []) $ use1 𝓛 (‵ (flft κ (Share.left q)) ⊛ ‵ (flft κ (Share.right q))) (𝓛.lfts.lft_split κ q) $ split ! $
      move ! (3 ∷ 0 ∷ []) $ bor_open ! tt $ move ! (1 ∷ []) $ fpick ! (λ z. fsplit ! $
      -- [the value; auth; the open borrow; the right half; res]
      move ! (4 ∷ 1 ∷ []) $ res_agree ! R.coded (λ e. rewrite ! 1 (λ (u : R.Denot). ‵ (fauth γ (R.coded.code u))) (sym e) refl $
      rewrite ! 2 (λ (u : R.Denot). ‵ ((mem R).own_at u b o)) (sym e) refl $
      -- [res; auth; the value; the open borrow; the right half]
      move ! (3 ∷ []) $ ages ! (λ n. move ! (3 ∷ 4 ∷ []) $
      use2 𝓛 (later ((‵ (Read (deep n κ)) ⊛ ‵ (flent (deep n κ) Part)) ⊛ ‵ (flft κ (Share.right q))))
      (lends_shr 𝓛 R erased (deep n κ) full_share h b o κ (sh h) ((κ, Share.right q) ∷ []) (λ x m. m) (deep_out n κ)) $ await ! tt $ split ! $ split ! $
      use1 𝓛 (‵ (Read κ)) (shr_deep 𝓛 R erased n κ lwR (record { ref_ptr = (b, o); now = h })) $
      -- [what the `&` owns; the lender's right; the right half; the open borrow; res; auth]
      move ! (1 ∷ 3 ∷ []) $ lending_in ! n κ (Share.left q) Inner κ $ move ! (0 ∷ 4 ∷ []) $ join ! $
      use1 𝓛 (later (‵ (flft κ (Share.left q)))) (lets_go κ (Share.left q)) $ await ! tt $ move ! (0 ∷ 2 ∷ []) $
      use2 𝓛 (‵ (flft κ q)) (𝓛.lfts.lft_join κ q) $ now ! $ keep ! (1 ∷ 2 ∷ 0 ∷ []) $
      by ! (id⊢ 𝓤 (sep 𝓤 (sem 𝓛 (Read κ)) (sep 𝓤 (A.res γ (R.coded.code h)) (A.lft κ q))))))))

  -- what is said of its last value follows
  pub ends_so : (P : R.Denot → Type 0) → P h → ent 𝓤 (A.res γ (R.coded.code h)) (sem 𝓛 (follows_so R R γ none (λ _ _. ⊤) P))
  unfolding such_by follows_by
  ends_so P p = qed 𝓛 (‵ (fres γ (R.coded.code h)) ∷ []) ∵
      fpack ! ((s : (R.Denot → R.Denot) × R.Denot) × ((w : R.Denot) → ⊤) × P s.1) (λ s. fres γ (R.coded.code s.0.1)) (((λ _. h), h), (λ w. tt), p) $ done !
