-- `all` lends the slice that the struct holds. Assumes `Logic`.
use mathlib.Core.Path.{◌≡◌, refl, sym, subst, ap, ◌∙◌}
use Prim.Native.Nat.{ℕ}
use mathlib.Core.List.{List, [], ◌∷◌, ◌++◌}
use lib.ListN.{length}
use seplogic.Ra.Ura.{Ura}
use base.Fraction.{full_share}
use base.Stored.{coded_list}
use mir.Syntax.{Ty, Args, Fn, erased, named, a_type}
use mir.MapTy.{inst_fn}
use contract.BorrowLft.{◌⊑◌}
use denote.Param.{param, layouts}
use mir.Val.{Val, vptr, vstruct, vcons, of_list}
use base.Logic.{SProp, ent, sep, emp, guard}
use contract.Fact.{fact}
use base.Fml.{Lft, Incl, GName, Share, Fml, ftrue, fsep, feq, fat, flft, fobs, fbor}
use prog.Memory.{Memory}
use prog.Routine.{Routine}
use prog.Wp.{Calls, Loops, WpFn, Tables}
use types.Logic.{Logic, sem}
use types.SemTy.{Arr, Body}
use types.Through.{takes_through}
use types.Mut.{open_ref}
use contract.Lifetimes.{AllOutlive}
use contract.Monad.{Fun}
use contract.Running.{tables, tables_of}
use sound.WpLaws.{WpFn-mono}
use types.Kit.{‵, ◌⊛◌, raw, some, later, ◌$◌, ◌∵◌, !, qed, by, move, keep, drop, split, split3, join, check, fsplit, fsplit3, fjoin, fpick, fpack, feq_l, feq_i, use1, use2, group, await, pick, rewrite, suffices, frame, done}
use types.Part.{whole, sub, agg, look_in}
use types.Run.{stop, fld, hop, load, of_opd, addr, and_then, no_more, returns, enter}
use types.ByLocal.{alloc_all, pass_all, free_all, look_at, get, through, sets}
use denote.Builtin.{u8, usize}
use denote.Exit.{no}
use denote.RattleType.{RattleType, owns, flat}
use denote.Memory.{mem, cell_at, part_of}
use denote.Array.{Array}
use denote.Ref.{MutBor, MutRef, NamedLft, at_last, mut_vals, mut_Tells}
use denote.Struct.Struct.{layout}
use denote.Struct.Declared.{shape}
use denote.Signature.{plain, mut_ref_to, named_lft}
use denote.Shadow.{pure_l}
use denote.Slice.{MutSlice, Room, room, slice_val}
use denote.Steps.{nothing, opens}
use denote.Follow.{follows}
use denote.FollowSlice.{heres_id, slice_of}
use denote.Triple.Clauses.{Clauses, Ended, closing}
use denote.Triple.Entry.{on_entry}
use denote.Triple.Spec.{Meets, triple_of}
use denote.Triple.Table.{entered}
use denote.Triple.Walked.{says, Stays, stay_dropped, walk_of, ends_at, walked, Goes-spent_ref, walk_Meets}
use Rattle.net_base.specs.Packets.{Packets}
use Rattle.net_base.specs.PacketLends.{with_all}
use Rattle.net_base.specs.declared.packet_buffer.PacketBuffer.TheInside.{Inside}
use Rattle.net_base.specs.contracts.packet_buffer.PacketBuffer.{the_row, the_view, the_invariant}
use Rattle.net_base.specs.contracts.packet_buffer.PacketBuffer.TheInside as I
use Rattle.net_base.proofs.Entries.{rewritten_view, laid_rewritten}
use Rattle.net_base.specs.contracts.ring_buffer.RingBuffer as Ring
use Rattle.net_base.specs.contracts.packet_buffer.PacketMetadata as Place
use Rattle.net_base.specs.contracts.packet_buffer.PacketBuffer.all as F
use Rattle.net_base.specs.contracts.packet_buffer.PacketBuffer.all.Key.{name as #self}
use Rattle.net_base.proofs.packet_buffer.PacketBuffer.all.Statement as stated
use Rattle.net_base.proofs.packet_buffer.PacketBuffer.all.Code as code

module _ (X : RattleType) where
  abbrev args : Args
  args = layouts (a_type ∷ []) (X, tt)

  abbrev function : Fn
  function = inst_fn args code.function

  abbrev ended : Ended
  ended = F.ended X

  abbrev stayed : Stays ended.signature.params ended.kept
  stayed = (stay_dropped (mut_ref_to (0 ∷ []) tt (plain (λ κs. the_row (named_lft 3 1 tt κs) (param 0 X)))) no, tt)

module _ (X : RattleType) (κ' : Lft) where
  abbrev life : NamedLft
  life = record { mir = named 1; lft = κ' }

  abbrev R : RattleType
  R = the_row life (param 0 X)

  abbrev In : RattleType
  In = MutSlice (named 1) κ' u8

  abbrev Rest : List RattleType
  Rest = Ring.the_row life (Place.the_row (param 0 X)) ∷ usize ∷ usize ∷ []

  abbrev Fs : List RattleType
  Fs = In ∷ Rest

  abbrev Words : Type 0
  Words = List Val × (List Val × (List Val × Unit {0}))

  abbrev Held : Type 0
  Held = List Val × Words

  abbrev Kept : Type 0
  Kept = Inside X.Denot

  abbrev within : Kept → List Val → Held → Fml
  within y us vss = fsep (feq (List Val) us (vstruct (of_list (flat Fs vss)) ∷ [])) (owns Fs (y.payload, (y.metadata, (y.start, (y.length, tt)))) vss)

  abbrev Hid : Packets X.Denot → Type 0
  Hid d = (y : Kept) × ((the_view life (param 0 X) y ≡ d) × the_invariant life (param 0 X) y)

module _ (X : RattleType) {M : Type 1} {𝓤 : Ura M} (𝓛 : Logic 𝓤) (κ κ' : Lft) (inc : Incl κ κ') (q q' : Share) (b o : ℕ) (γ : GName) (h : Packets X.Denot) (y : Kept X κ') (is : the_view (life X κ') (param 0 X) y ≡ h) (inv : the_invariant (life X κ') (param 0 X) y) (vs : Words X κ') (rm : Room u8 (length y.payload.now)) where
  open 𝓛 use {H, A}

  abbrev n : ℕ
  n = length y.payload.now

  abbrev b' : ℕ
  b' = y.payload.ref_ptr.0

  abbrev o' : ℕ
  o' = y.payload.ref_ptr.1

  abbrev δ : GName
  δ = y.payload.ghost_name

  abbrev words : ℕ → List Val
  words k = vstruct (vcons (slice_val y.payload.ref_ptr k) (of_list (flat (Rest X κ') vs))) ∷ []

  abbrev Cell : ℕ → Fml
  Cell k = cell_at full_share (R X κ').mir (words k) b o

  abbrev Others : Fml
  Others = owns (Rest X κ') (y.metadata, (y.start, (y.length, tt))) vs

  abbrev Inner : Fml
  Inner = Body (Arr (mem u8) n) b' o' δ

  counts : (ws : List ℕ) → ent 𝓤 (sem 𝓛 ((Arr (mem u8) n).own_at ws b' o')) (guard 𝓤 (length ws ≡ n) (sem 𝓛 ((Arr (mem u8) n).own_at ws b' o')))
  counts ws = qed 𝓛 (‵ ((Arr (mem u8) n).own_at ws b' o') ∷ []) ∵ fsplit ! $ feq_l ! (λ e. check ! e $ feq_i ! ℕ (length ws) n e $ done !)

  abbrev after_write : List ℕ → Kept X κ'
  after_write w = record y { payload = at_last y.payload w }

  back : (w : List ℕ) → length w ≡ n → ent 𝓤 (sep 𝓤 (A.obs δ ((coded_list u8.coded).code w)) (sep 𝓤 (A.bor κ' Inner) (sem 𝓛 (fsep (Cell n) Others)))) (sem 𝓛 ((mem (R X κ')).own_at (with_all h w) b o))
  unfolding part_of
  back w e =
      let room' : Room u8 (length w) = subst (Room u8) (sym e) rm in
      let y' : Kept X κ' = after_write w in
      let seen : the_view (life X κ') (param 0 X) y' ≡ with_all h w = rewritten_view y.metadata y.payload.now y.start y.length w inv e ∙ ap (λ (d : Packets X.Denot). with_all d w) is in
      let holds : the_invariant (life X κ') (param 0 X) y' = laid_rewritten y.metadata y.payload.now y.start y.length w inv e in
      qed 𝓛 (‵ (fobs δ ((coded_list u8.coded).code w)) ∷ ‵ (fbor κ' Inner) ∷ ‵ (fsep (Cell n) Others) ∷ []) ∵
      rewrite ! 1 (λ (k : ℕ). ‵ (fbor κ' (Body (Arr (mem u8) k) b' o' δ))) (sym e) refl $
      use2 𝓛 (‵ ((In X κ').own_val (at_last y.payload w) (slice_val y.payload.ref_ptr (length w) ∷ []))) (slice_of 𝓛 u8 (named 1) κ' b' o' δ w room') $
      move ! (1 ∷ []) $ fsplit ! $ rewrite ! 0 (λ (k : ℕ). ‵ (Cell k)) (sym e) refl $ move ! (2 ∷ 1 ∷ []) $ fjoin ! $
      feq_i ! (List Val) (words (length w)) (vstruct (of_list (flat (Fs X κ') (slice_val y.payload.ref_ptr (length w) ∷ [], vs))) ∷ []) refl $ fjoin ! $
      fpack ! (Held X κ') (within X κ' y' (words (length w))) (slice_val y.payload.ref_ptr (length w) ∷ [], vs) $
      nothing ! $ move ! (1 ∷ 0 ∷ []) $ fjoin ! $
      fpack ! (Hid X κ' (with_all h w)) (λ x. fsep ((I.the_row (life X κ') (param 0 X)).own_val x.0 (words (length w))) ftrue) (y', (seen, holds)) $
      move ! (1 ∷ 0 ∷ []) $ fjoin ! $
      fpack ! (List Val) (λ us. fsep (cell_at full_share (R X κ').mir us b o) ((R X κ').own_val (with_all h w) us)) (words (length w)) $ done !

module _ (X : RattleType) {M : Type 1} {𝓤 : Ura M} (𝓛 : Logic 𝓤) (at_mem : Memory → SProp 𝓤) (run : Routine → Fun 𝓤) where
  open 𝓛 use {H}

  abbrev clauses : Clauses 𝓤 (ended X)
  clauses = F.clauses X 𝓛 at_mem run

  module _ (C : Calls 𝓤 H) (Λ : Loops 𝓤 H) (κ κ' κX : Lft) (q q' qX : Share) (bd : AllOutlive 3 (ended X).signature.outlives (κ, (κ', (κX, tt)))) (b o : ℕ) (γ : GName) (h : Packets X.Denot) where
    abbrev self : MutBor (Packets X.Denot)
    self = record { ref_ptr = (b, o); ghost_name = γ; now = h }

    abbrev bound : (walk_of 𝓛 (ended X) (stayed X) clauses).Ghost
    bound = (((κ, (κ', (κX, tt))), (q, (q', (qX, tt))), bd, (self, tt), (mut_vals self, tt)), tt)

    abbrev Post : Val → SProp 𝓤
    Post = (walk_of 𝓛 (ended X) (stayed X) clauses).post bound

    walk : ent 𝓤 (on_entry 𝓛 (ended X).signature (κ, (κ', (κX, tt))) (q, (q', (qX, tt))) (self, tt) (mut_vals self, tt)) (WpFn 𝓤 H C Λ (function X) (vptr b o ∷ []) Post)
    walk =
        qed 𝓛 ((‵ (flft κ q) ⊛ ‵ (flft κ' q') ⊛ ‵ (flft κX qX) ⊛ ‵ ftrue) ∷ ‵ (owns (MutRef (named 0) κ (R X κ') ∷ []) (self, tt) (mut_vals self, tt)) ∷ []) ∵
        enter ! C Λ (function X) (vptr b o ∷ []) _ $
        alloc_all ! (λ l. pass_all ! refl ((tt, tt), tt) $
        split ! $ move ! (1 ∷ []) $ split ! $ move ! (3 ∷ []) $ fsplit ! $ fsplit3 ! $
        -- [the reference's value; its obs and borrow; nothing; the token of κ'; nothing; the token of κ]
        move ! (1 ∷ 2 ∷ 6 ∷ []) $ opens ! tt (R X κ') b o (λ us.
        move ! (1 ∷ []) $ fpick ! (λ (hid : Hid X κ' h). fsplit ! $ fpick ! (λ (vss : Held X κ'). fsplit ! $ feq_l ! (λ whole_is. fsplit ! $ fsplit3 ! $ fsplit ! $ feq_l ! (λ slice_is.
        let y : Kept X κ' = hid.0 in
        let n : ℕ = length y.payload.now in
        pure_l ! (room u8 n) (λ (rm : Room u8 n).
        let word : us ≡ words X 𝓛 κ κ' bd.0 q q' b o γ h y hid.1.0 hid.1.1 vss.1 rm n = whole_is ∙ ap (λ (ws : List Val). vstruct (of_list (ws ++ flat (Rest X κ') vss.1)) ∷ []) slice_is in
        let v : Val = vstruct (vcons (slice_val y.payload.ref_ptr n) (of_list (flat (Rest X κ') vss.1))) in
        let τ : Ty = layout (shape (I.the_type (record { mir = erased; lft = κ' }) (param 0 X))) in
        let cell : Fml = Cell X 𝓛 κ κ' bd.0 q q' b o γ h y hid.1.0 hid.1.1 vss.1 rm n in
        let others : Fml = owns (Rest X κ') (y.metadata, (y.start, (y.length, tt))) vss.1 in
        -- [obs and borrow of the slice; the length; nothing; the cell; the open borrow; obs and auth; the reference's value; nothing; the token of κ'; nothing]
        rewrite ! 4 (λ (ws : List Val). ‵ (cell_at full_share (R X κ').mir ws b o)) word refl $ move ! (4 ∷ []) $
        use1 𝓛 (‵ (fat full_share τ b o v)) (𝓛.laws.raw_at full_share τ b o v) $
        sets ! (of_opd ! (load ! (through ! refl (fld ! refl (fld ! refl (stop !)))) (look_in ! 0 (sub ! 1 refl (sub ! 0 refl (whole !)))))) refl (tt, record { fits = rm.0 }) $
        sets ! (addr ! (through ! refl (fld ! refl (fld ! refl (hop ! (look_in ! 0 (sub ! 0 refl (sub ! 0 refl (whole !)))) (stop !)))))) refl (tt, tt) $
        sets ! (agg ! (and_then ! (get ! refl) (and_then ! (get ! refl) (no_more !)))) refl (tt, (tt, (record { fits = rm.0 }, tt))) $
        use1 𝓛 (‵ cell) (𝓛.laws.at_raw full_share τ b o v) $
        rewrite ! 1 (λ (l : List ℕ). ‵ (fobs y.payload.ghost_name ((coded_list u8.coded).code l))) (heres_id u8 y.payload.now) refl $
        move ! (0 ∷ 3 ∷ []) $ fjoin ! $ move ! (1 ∷ 2 ∷ 9 ∷ []) $ open_ref ! tt (Arr (mem u8) n) {b = y.payload.ref_ptr.0} {o = y.payload.ref_ptr.1} $
        move ! (6 ∷ 7 ∷ 8 ∷ 1 ∷ 2 ∷ 3 ∷ 0 ∷ 4 ∷ []) $ group ! 8 $
        use1 𝓛 (later (some (λ (γ' : GName). ‵ (fobs γ' ((coded_list u8.coded).code y.payload.now)) ⊛ ‵ (fbor κ (Body (Arr (mem u8) n) y.payload.ref_ptr.0 y.payload.ref_ptr.1 γ')) ⊛ ‵ (flft κ q) ⊛ ‵ (flft κ' q') ⊛ ‵ (follows (R X κ') (Array u8 0) γ γ' (with_all h)))))
        (takes_through 𝓛 (mem (R X κ')) (Arr (mem u8) n) (with_all h) κ κ' bd.0 b o y.payload.ref_ptr.0 y.payload.ref_ptr.1 γ y.payload.ghost_name (sem 𝓛 (fsep cell others)) (λ (w : List ℕ). length w ≡ n)
        (counts X 𝓛 κ κ' bd.0 q q' b o γ h y hid.1.0 hid.1.1 vss.1 rm) (back X 𝓛 κ κ' bd.0 q q' b o γ h y hid.1.0 hid.1.1 vss.1 rm) q q' ((R X κ').coded.code h) ((R X κ').coded.code h) ((coded_list u8.coded).code y.payload.now) ((coded_list u8.coded).code y.payload.now) y.payload.now) $
        await ! tt $ pick ! (λ γ'. split3 ! $ move ! (2 ∷ []) $ split3 ! $ move ! (3 ∷ 4 ∷ []) $
        use2 𝓛 (‵ ((MutSlice (named 0) κ u8).own_val (record { ref_ptr = y.payload.ref_ptr; ghost_name = γ'; now = y.payload.now }) (slice_val y.payload.ref_ptr n ∷ []))) (slice_of 𝓛 u8 (named 0) κ y.payload.ref_ptr.0 y.payload.ref_ptr.1 γ' y.payload.now rm) $
        -- [the result; the tokens of κ and κ'; what follows]
        returns ! (look_at ! 0 refl) $ free_all ! refl $ keep ! (0 ∷ 1 ∷ 2 ∷ 3 ∷ 7 ∷ []) $
        suffices ! _ (ends_at 𝓛 (ended X) (stayed X) clauses bound (slice_val y.payload.ref_ptr n) (record { ref_ptr = y.payload.ref_ptr; ghost_name = γ'; now = y.payload.now }) (tt, tt) (tt, tt)) $
        nothing ! $ nothing ! $ fjoin ! $ join ! $ move ! (2 ∷ 4 ∷ []) $ join ! $ move ! (2 ∷ 0 ∷ []) $ join ! $ join ! $ frame ! $
        says ! (ap (λ (d : Packets X.Denot). d.storage) hid.1.0) $ done !))))))))

  meets : (𝓣 : Tables 𝓤 H) → Meets 𝓛 (ended X).signature (WpFn 𝓤 H 𝓣.C 𝓣.Λ (function X)) (closing 𝓛 (ended X) clauses)
  meets 𝓣 =
      walk_Meets 𝓛 (ended X) (stayed X) (Goes-spent_ref 𝓛 3 (0 ∷ []) tt (plain (λ κs. the_row (named_lft 3 1 tt κs) (param 0 X))), tt) clauses (WpFn 𝓤 H 𝓣.C 𝓣.Λ (function X)) (WpFn-mono 𝓤 H 𝓛.laws 𝓣 (function X))
      (walked 𝓛 (ended X) (stayed X) clauses (WpFn 𝓤 H 𝓣.C 𝓣.Λ (function X)) (λ κs. (mut_vals, tt)) (λ κs. (mut_Tells (named 0) κs.0 (R X κs.1.0), tt))
      (λ κs qs bounds a g are.
      qed 𝓛 (raw (on_entry 𝓛 (ended X).signature κs qs a (mut_vals a.0, tt)) ∷ raw (sep 𝓤 (fact 𝓤 (κs.1.1.0 ⊑ X.lives)) (emp 𝓤)) ∷ []) ∵ move ! (1 ∷ []) $ drop ! $
      by ! (walk 𝓣.C 𝓣.Λ κs.0 κs.1.0 κs.1.1.0 qs.0 qs.1.0 qs.1.1.0 bounds a.0.ref_ptr.0 a.0.ref_ptr.1 a.0.ghost_name a.0.now)))

pub all_spec : {M : Type 1} → stated.statement M
unfolding tables_of
all_spec 𝓤 𝓛 𝓜 𝓡 wired X L =
    let A = 𝓛.A in
    let 𝓣 : Tables 𝓤 𝓛.H = tables_of 𝓤 𝓛.H 𝓜 (tables 𝓤 𝓛.H 𝓜 𝓡 𝓡.env) in
    entered 𝓤 𝓛.H (triple_of 𝓛 (ended X).signature (F.spec X 𝓛 𝓜.mem 𝓡.returns)) 𝓣.C 𝓣.Λ (#self (args X)) (function X) (code.unfolded 𝓤 𝓛.H 𝓜 𝓡 wired (X, tt))
    (meets X 𝓛 𝓜.mem 𝓡.returns 𝓣)
