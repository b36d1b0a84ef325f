-- The errors of a call that sends, as the machine has them. Assumes `Logic`.
use mathlib.Core.Path.{refl}
use mathlib.Core.List.{List, [], ◌∷◌}
use seplogic.Ra.Ura.{Ura}
use mir.Val.{Val, vnil}
use base.Logic.{ent, emp}
use types.Logic.{Logic, sem}
use types.Kit.{◌$◌, ◌∵◌, !, qed, fjoin, fpack, done, feq_i}
use types.Match.{live}
use denote.RattleType.{Valss, owns}
use denote.Steps.{nothing}
use denote.Enum.Row.{tagged_with}
use denote.Enum.Enum.{form_of, in_a_row}
use denote.Enum.Declared.{shape}
use denote.Builtin.{unit}
use denote.Param.Laws.{Laws, of_field}
use denote.Param.Shared.{copy_shared}
use denote.Struct.Field.{unit-field}
use denote.Struct.Laws.{unit-laws, unit-copy}
use Rattle.sock_dgram.specs.contracts.error.SendError as error
use Rattle.sock_dgram.specs.declared.error.SendError.TheVariants as send_error
use Rattle.sock_dgram.specs.contracts.raw.error.SendError as raw_error
use Rattle.sock_dgram.specs.declared.raw.error.SendError.TheVariants as raw_send_error

module _ {M : Type 1} {𝓤 : Ura M} (𝓛 : Logic 𝓤) where
  pub unaddressable_owned : ent 𝓤 (emp 𝓤) (sem 𝓛 (error.the_row.own_val send_error.Unaddressable (live 0 vnil ∷ [])))
  unaddressable_owned = qed 𝓛 [] ∵ nothing ! $ feq_i ! (List Val) [] [] refl $ fjoin ! $ fpack ! (Valss []) (in_a_row [] (owns [] tt) []) tt $
      feq_i ! (List Val) (live 0 vnil ∷ []) (live 0 vnil ∷ []) refl $ fjoin ! $
      fpack ! (List Val) (tagged_with (form_of (shape error.the_type)) (form_of (shape error.the_type)).payload (error.the_type.to send_error.Unaddressable) (live 0 vnil ∷ [])) [] $ done !

  pub full_owned : ent 𝓤 (emp 𝓤) (sem 𝓛 (error.the_row.own_val send_error.BufferFull (live 1 vnil ∷ [])))
  full_owned = qed 𝓛 [] ∵ nothing ! $ feq_i ! (List Val) [] [] refl $ fjoin ! $ fpack ! (Valss []) (in_a_row [] (owns [] tt) []) tt $
      feq_i ! (List Val) (live 1 vnil ∷ []) (live 1 vnil ∷ []) refl $ fjoin ! $
      fpack ! (List Val) (tagged_with (form_of (shape error.the_type)) (form_of (shape error.the_type)).payload (error.the_type.to send_error.BufferFull) (live 1 vnil ∷ [])) [] $ done !

  pub raw_full_owned : ent 𝓤 (emp 𝓤) (sem 𝓛 (raw_error.the_row.own_val raw_send_error.BufferFull (live 0 vnil ∷ [])))
  raw_full_owned = qed 𝓛 [] ∵ nothing ! $ feq_i ! (List Val) [] [] refl $ fjoin ! $ fpack ! (Valss []) (in_a_row [] (owns [] tt) []) tt $
      feq_i ! (List Val) (live 0 vnil ∷ []) (live 0 vnil ∷ []) refl $ fjoin ! $
      fpack ! (List Val) (tagged_with (form_of (shape raw_error.the_type)) (form_of (shape raw_error.the_type)).payload (raw_error.the_type.to raw_send_error.BufferFull) (live 0 vnil ∷ [])) [] $ done !

-- of the metadata of a raw socket's packets
pub unit_laws : Laws unit
unit_laws = of_field unit-field unit-laws refl (copy_shared unit-field unit-copy)
