-- A field of a struct with a model is lent, and the struct follows it. Assumes `Logic`.
use mathlib.Core.Path.{◌≡◌, refl, ap, ◌∙◌}
use Prim.Native.Nat.{ℕ, zero, ◌+◌}
use mathlib.Core.List.{List, [], ◌∷◌}
use mathlib.Core.Option.{Option, none, some as has}
use seplogic.Ra.Ura.{Ura}
use base.Fraction.{full_share}
use base.Stored.{Coded}
use mir.Syntax.{Lifetime, Ty, erased}
use prog.Memory.{field_at}
use mir.Val.{Val, vptr}
use base.Logic.{SProp, ent, sep, ex}
use base.Fml.{Lft, GName, Share, fsep, ftrue, flft}
use types.Logic.{Logic, sem}
use types.Kit.{‵, ◌⊛◌, raw, mean, ◌$◌, ◌∵◌, !, qed, move, drop, fsplit, fsplit3, fjoin, fpick, fpack, updating, await, later, some, use1, use2, group, pick, now, show, done, split, rewrite, feq_l}
use types.Mut.{open_ref}
use denote.RattleType.{RattleType, mirs}
use denote.Memory.{mem, cell_at, part_at, part_of, lone}
use denote.Struct.At.{FieldAt, get_at}
use denote.Struct.Declared.{Declared, row}
use denote.Struct.Field.{rows}
use denote.Struct.Loose.{Looses}
use denote.Struct.Struct.{to_tys}
use denote.Struct.Values.{Values, intos}
use denote.Model.{View}
use denote.Ref.{MutRef, NamedLft}
use denote.Follow.{follows, Part, lends_Part}
use denote.Steps.{nothing}
use borrow.Rule.LendAt.{KeptOf, Fills}
use borrow.Struct.Lend.{kept_record, put_record, record_fill, record_apart}
use borrow.Table.OneValue.{One}

-- where a field lies
abbrev pub offset : Option (Ty × ℕ) → ℕ
offset none = 0
offset (has p) = p.1

module _ (I : RattleType) (D : Type 0) (c : Coded D) (view : I.Denot → D) (holds : I.Denot → Type 0) (P : RattleType) (d : ℕ)
    (Kept : KeptOf I) (put : I.Denot → P.Denot → I.Denot) (fills : Fills I P d Kept put) (get : I.Denot → P.Denot)
    (into : D → P.Denot → D) (sees : (x : I.Denot) (w : P.Denot) → view (put x w) ≡ into (view x) w) (stays : (x : I.Denot) (w : P.Denot) → holds x → holds (put x w))
    (shows : D → P.Denot) (shown : (x : I.Denot) → get x ≡ shows (view x)) where
  abbrev R : RattleType
  R = View I D c view holds

  abbrev Hid : D → Type 0
  Hid h = (x : I.Denot) × ((view x ≡ h) × holds x)

  module _ {M : Type 1} {𝓤 : Ura M} (𝓛 : Logic 𝓤)
      (apart : (x : I.Denot) (b o : ℕ) → ent 𝓤 (sem 𝓛 (part_at I full_share x b o)) (sep 𝓤 (sem 𝓛 (part_at P full_share (get x) b (o + d))) (mean 𝓛 (Kept M 𝓤 𝓛 x b o))))
      (ℓ : Lifetime) (κ : Lft) (q : Share) (b o : ℕ) (γ : GName) (h : D) where
    open 𝓛 use {H, A}

    back : (x : I.Denot) → view x ≡ h → holds x → (w : P.Denot) → ent 𝓤 (sep 𝓤 (sem 𝓛 ((mem P).own_at w b (o + d))) (mean 𝓛 (Kept M 𝓤 𝓛 x b o))) (sem 𝓛 ((mem R).own_at (into h w) b o))
    unfolding part_of
    back x is ok w =
        qed 𝓛 (‵ (part_at P full_share w b (o + d)) ∷ Kept M 𝓤 𝓛 x b o ∷ []) ∵ use2 𝓛 (‵ (part_at I full_share (put x w) b o)) (fills M 𝓤 𝓛 x w b o) $
        fpick ! (λ us. fsplit ! $ nothing ! $ move ! (2 ∷ 0 ∷ []) $ fjoin ! $
        fpack ! (Hid (into h w)) (λ y. fsep (I.own_val y.0 us) ftrue) (put x w, (sees x w ∙ ap (λ v. into v w) is, stays x w ok)) $ move ! (1 ∷ 0 ∷ []) $ fjoin ! $
        fpack ! (List Val) (λ us. fsep (cell_at full_share R.mir us b o) (R.own_val (into h w) us)) us $ done !)

    abbrev pub FieldLent : GName → SProp 𝓤
    FieldLent δ = sep 𝓤 (sem 𝓛 ((MutRef ℓ κ P).own_val (record { ref_ptr = (b, o + d); ghost_name = δ; now = shows h }) (vptr b (o + d) ∷ []))) (sep 𝓤 (A.lft κ q) (sem 𝓛 (follows R P γ δ (into h))))

    pub lends_field : ent 𝓤 (sep 𝓤 (sem 𝓛 ((MutRef ℓ κ R).own_val (record { ref_ptr = (b, o); ghost_name = γ; now = h }) (vptr b o ∷ []))) (A.lft κ q)) (H.⇛ (ex 𝓤 FieldLent))
    unfolding part_of
    lends_field =
        qed 𝓛 (‵ ((MutRef ℓ κ R).own_val (record { ref_ptr = (b, o); ghost_name = γ; now = h }) (vptr b o ∷ [])) ∷ ‵ (flft κ q) ∷ []) ∵ updating ! $ fsplit3 ! $ feq_l ! (λ _. open_ref ! tt (mem R) $
        -- [the struct; its borrow, open; obs; auth]
        fpick ! (λ us. fsplit ! $ move ! (1 ∷ []) $ fpick ! (λ (hid : Hid h). fsplit ! $ move ! (1 ∷ []) $ drop ! $ move ! (1 ∷ 0 ∷ []) $ fjoin ! $
        fpack ! (List Val) (λ us. fsep (cell_at full_share I.mir us b o) (I.own_val hid.0 us)) us $
        use1 𝓛 (‵ (part_at P full_share (get hid.0) b (o + d)) ⊛ Kept M 𝓤 𝓛 hid.0 b o) (apart hid.0 b o) $ split ! $
        rewrite ! 0 (λ (p : P.Denot). ‵ (part_at P full_share p b (o + d))) (shown hid.0 ∙ ap shows hid.1.0) refl $
        move ! (2 ∷ 3 ∷ 4 ∷ 0 ∷ 1 ∷ []) $ group ! 5 $
        use1 𝓛 (later (some (λ (δ : GName). raw (Part 𝓛 R P (into h) ℓ κ q b o b (o + d) γ (mean 𝓛 (Kept M 𝓤 𝓛 hid.0 b o)) (back hid.0 hid.1.0 hid.1.1) (shows h) δ))))
        (lends_Part 𝓛 R P (into h) ℓ κ q b o b (o + d) γ (mean 𝓛 (Kept M 𝓤 𝓛 hid.0 b o)) (back hid.0 hid.1.0 hid.1.1) (R.coded.code h) (R.coded.code h) (shows h)) $ await ! tt $ pick ! (λ δ.
        now ! $ show ! FieldLent δ $ done !))))

-- a row whose lifetimes do not matter, as where a field's place is asked
abbrev pub unnamed : NamedLft
unnamed = record { mir = erased; lft = [] }

-- the same of the k-th field of a declared struct
module _ (T : Declared) (L : Looses T.parts) (k : ℕ) where
  abbrev pub place : ℕ
  place = offset (field_at zero (to_tys (mirs (rows T.parts))) k)

  abbrev pub Field : RattleType
  Field = (FieldAt T.parts k).row

  module _ (av : T.D → Values T.parts) (G : Values T.parts → Type 0) (make : (v : Values T.parts) → G v → T.D) (gh : (v : Values T.parts) → G v)
      (ea : (x : T.D) → T.to x ≡ intos T.parts (av x)) (em : (v : Values T.parts) (g : G v) → T.to (make v g) ≡ intos T.parts v) (ofD : Field.Denot → (FieldAt T.parts k).Value)
      (one : One Field) (inv : (f : Field.Denot) → (FieldAt T.parts k).into (ofD f) ≡ f) (at_place : field_at zero (to_tys (mirs (rows T.parts))) k ≡ has (lone Field.mir, place))
      (D : Type 0) (c : Coded D) (view : T.D → D) (holds : T.D → Type 0) (into : D → Field.Denot → D) (shows : D → Field.Denot) where
    abbrev put : T.D → Field.Denot → T.D
    put = put_record T L k place av G make gh ea em ofD

    module _ (sees : (x : T.D) (w : Field.Denot) → view (put x w) ≡ into (view x) w) (stays : (x : T.D) (w : Field.Denot) → holds x → holds (put x w))
        (shown : (x : T.D) → (FieldAt T.parts k).into (get_at T.parts k (av x)) ≡ shows (view x)) where
      abbrev Struct : RattleType
      Struct = View (row T) D c view holds

      module _ {M : Type 1} {𝓤 : Ura M} (𝓛 : Logic 𝓤) (ℓ : Lifetime) (κ : Lft) (q : Share) (b o : ℕ) (γ : GName) (h : D) where
        open 𝓛 use {H, A}

        pub lends_part : ent 𝓤 (sep 𝓤 (sem 𝓛 ((MutRef ℓ κ Struct).own_val (record { ref_ptr = (b, o); ghost_name = γ; now = h }) (vptr b o ∷ []))) (A.lft κ q))
            (H.⇛ (ex 𝓤 (λ (δ : GName). sep 𝓤 (sem 𝓛 ((MutRef ℓ κ Field).own_val (record { ref_ptr = (b, o + place); ghost_name = δ; now = shows h }) (vptr b (o + place) ∷ []))) (sep 𝓤 (A.lft κ q) (sem 𝓛 (follows Struct Field γ δ (into h)))))))
        lends_part = lends_field (row T) D c view holds Field place (kept_record T L k place av G make gh ea em ofD) put (record_fill T L k place av G make gh ea em ofD one inv) (λ x. (FieldAt T.parts k).into (get_at T.parts k (av x))) into sees stays shows shown
            𝓛 (λ x b o. record_apart T L k place av G make gh ea em ofD 𝓛 one at_place x b o) ℓ κ q b o γ h
