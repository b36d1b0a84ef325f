-- A `Result` of lent bytes or of an error is made, and what its lender ends as is said. Assumes `Logic`.
use mathlib.Core.Path.{◌≡◌, refl}
use mathlib.Core.Bool.{true, false}
use mathlib.Core.List.{List, [], ◌∷◌}
use seplogic.Ra.Ura.{Ura}
use mir.Val.{Val, of_list}
use base.Logic.{ent}
use base.Fml.{fres}
use types.Logic.{Logic, sem}
use types.Kit.{‵, ◌$◌, ◌∵◌, !, qed, move, fjoin, fpack, done, feq_i}
use types.Match.{live}
use denote.RattleType.{RattleType, Valss, owns}
use denote.Array.{Array}
use denote.Builtin.{u8}
use denote.Follow.{follows, follows_by, such_by}
use denote.Ref.{MutBor}
use denote.Steps.{nothing}
use denote.Enum.Row.{tagged_with}
use denote.Enum.Enum.{form_of, in_a_row}
use denote.Enum.Declared.{shape}
use Rattle.std.proofs.lemmas.Bool.{false≢true}
use Rattle.std.specs.Prelude.{ℕ, Ok, Err}
use Rattle.std.specs.Borrow.{LendsSoOk}
use Rattle.std.specs.contracts.result.Result as RS

module _ {M : Type 1} {𝓤 : Ura M} (𝓛 : Logic 𝓤) (R E : RattleType) where
  pub ok_of : (x : R.Denot) (v : Val) → ent 𝓤 (sem 𝓛 (R.own_val x (v ∷ []))) (sem 𝓛 ((RS.the_row R E).own_val (Ok x) (live 0 (of_list (v ∷ [])) ∷ [])))
  ok_of x v =
      qed 𝓛 (‵ (R.own_val x (v ∷ [])) ∷ []) ∵ nothing ! $ move ! (1 ∷ 0 ∷ []) $ fjoin ! $ feq_i ! (List Val) (v ∷ []) (v ∷ []) refl $ fjoin ! $
      fpack ! (Valss (R ∷ [])) (in_a_row (R ∷ []) (owns (R ∷ []) (x, tt)) (v ∷ [])) (v ∷ [], tt) $
      feq_i ! (List Val) (live 0 (of_list (v ∷ [])) ∷ []) (live 0 (of_list (v ∷ [])) ∷ []) refl $ fjoin ! $
      fpack ! (List Val) (tagged_with (form_of (shape (RS.the_type R E))) (form_of (shape (RS.the_type R E))).payload ((RS.the_type R E).to (Ok x)) (live 0 (of_list (v ∷ [])) ∷ [])) (v ∷ []) $ done !

  pub err_of : (x : E.Denot) (v : Val) → ent 𝓤 (sem 𝓛 (E.own_val x (v ∷ []))) (sem 𝓛 ((RS.the_row R E).own_val (Err x) (live 1 (of_list (v ∷ [])) ∷ [])))
  err_of x v =
      qed 𝓛 (‵ (E.own_val x (v ∷ [])) ∷ []) ∵ nothing ! $ move ! (1 ∷ 0 ∷ []) $ fjoin ! $ feq_i ! (List Val) (v ∷ []) (v ∷ []) refl $ fjoin ! $
      fpack ! (Valss (E ∷ [])) (in_a_row (E ∷ []) (owns (E ∷ []) (x, tt)) (v ∷ [])) (v ∷ [], tt) $
      feq_i ! (List Val) (live 1 (of_list (v ∷ [])) ∷ []) (live 1 (of_list (v ∷ [])) ∷ []) refl $ fjoin ! $
      fpack ! (List Val) (tagged_with (form_of (shape (RS.the_type R E))) (form_of (shape (RS.the_type R E))).payload ((RS.the_type R E).to (Err x)) (live 1 (of_list (v ∷ [])) ∷ [])) (v ∷ []) $ done !

module _ {M : Type 1} {𝓤 : Ura M} (𝓛 : Logic 𝓤) (R : RattleType) (s : MutBor R.Denot) (E : Type 0) (P : R.Denot → List ℕ → Type 0) (P₀ : R.Denot → Type 0) where
  pub ends_refused : (e : E) (v : R.Denot) → P₀ v → ent 𝓤 (𝓛.A.res s.ghost_name (R.coded.code v)) (sem 𝓛 (LendsSoOk R (Array u8 0) s (Err e) P P₀))
  unfolding such_by follows_by
  ends_refused e v p =
      qed 𝓛 (‵ (fres s.ghost_name (R.coded.code v)) ∷ []) ∵
      fpack ! ((d : (List ℕ → R.Denot) × R.Denot) × ((w : List ℕ) → false ≡ true → P (d.0 w) w) × P₀ d.1) (λ d. fres s.ghost_name (R.coded.code d.0.1)) (((λ _. v), v), (λ w no. absurd (false≢true no)), p) $ done !

  pub ends_lent : (out : MutBor (List ℕ)) (F : List ℕ → R.Denot) → ((w : List ℕ) → P (F w) w) → ent 𝓤 (sem 𝓛 (follows R (Array u8 0) s.ghost_name out.ghost_name F)) (sem 𝓛 (LendsSoOk R (Array u8 0) s {E = E} (Ok out) P P₀))
  unfolding such_by follows_by
  ends_lent out F p =
      qed 𝓛 (‵ (follows R (Array u8 0) s.ghost_name out.ghost_name F) ∷ []) ∵
      fpack ! ((d : (List ℕ → R.Denot) × R.Denot) × ((w : List ℕ) → true ≡ true → P (d.0 w) w) × Unit {0}) (λ d. follows R (Array u8 0) s.ghost_name out.ghost_name d.0.0) ((F, F []), (λ w yes. p w), tt) $ done !
