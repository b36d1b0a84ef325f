-- What the code of a delivery shows, against its table.
use Rattle.std.proofs.Common.{◌≡◌, ℕ, zero, suc, ◌<◌, true, false, List, [], ◌∷◌, ◌++◌, length, map, get_or, Option, Some, refl, sym, ap, subst, ◌∙◌, ◌⊎◌, arith}
use Rattle.std.specs.Prelude.{slice_get}
use Rattle.ip_wire.specs.declared.repr.IpRepr.{IpRepr}
use Rattle.control_wire.specs.Segment.{Segment}
use Rattle.sock_tcp.specs.Process.{Accepts}
use Rattle.control_wire.specs.declared.tcp.TcpControl.{TcpControl}
use Rattle.control_wire.specs.declared.tcp.TcpControl.TheVariants as control
use Rattle.sock_tcp.specs.Replies.{Answers, IsReplyStamp, echoed}
use Rattle.pair_core.specs.Aging.{DeliversAt, TakesRoomAt}
use Rattle.pair_core.specs.Holding.{kept_at}
use Rattle.pair_core.specs.PairSteps.{is_too_old, delivered_to, refusal_of, refusal_reply, reply_index, DeliversTo, reply_out}
use Rattle.pair_core.specs.PairViews.{HostView, StoredView}
use Rattle.pair_core.specs.declared.moment.Moment.{Moment}
use Rattle.pair_core.specs.declared.outcome.Outcome.{Outcome}
use Rattle.pair_core.specs.declared.outcome.Outcome.TheVariants as outcome
use Rattle.pair_core.specs.declared.side.Side.{Side}

-- the element at an index, of a list that is mapped
pub get_map : {X Y : Type 0} (f : X → Y) (xs : List X) (n : ℕ) (d : X) → n < length xs → slice_get (map f xs) n ≡ Some (f (get_or xs n d))
get_map f [] n d l = absurd (omega arith)
get_map f (x ∷ xs) zero d l = refl
get_map f (x ∷ xs) (suc n) d l = get_map f xs n d (omega arith)

-- what stands at an index does not depend on the default
get_same : {X : Type 0} (xs : List X) (n : ℕ) (d e : X) → n < length xs → get_or xs n d ≡ get_or xs n e
get_same [] n d e l = absurd (omega arith)
get_same (x ∷ xs) zero d e l = refl
get_same (x ∷ xs) (suc n) d e l = get_same xs n d e (omega arith)

-- two reads of one element
pub read_twice : {X : Type 0} (xs ys : List X) (n : ℕ) (a b : X) → n < length xs → ys ≡ xs → a ≡ get_or xs n a → b ≡ get_or ys n b → b ≡ a
read_twice xs ys n a b l e p q = q ∙ ap (λ zs. get_or zs n b) e ∙ get_same xs n b a l ∙ sym p

-- the refusal of a segment with this control
pub refused_by : (c : TcpControl) (t : StoredView) → t.segment.control ≡ c → refusal_of t ≡ refusal_reply c t
refused_by c t e = ap (λ x. refusal_reply x t) e

module _ {G : Type 0} (tells : G → ℕ → Type 0) (ts : List StoredView) (n : ℕ) (t : StoredView) (at : slice_get ts n ≡ Some t) (released taken : ℕ) (s : Side) (m : Moment) (h : HostView G) where
  pub delivers : (o : Outcome) (h' : HostView G) (ts' : List StoredView) (r : Option (IpRepr × Segment)) → is_too_old t.released_at released t.taken_at taken ≡ false → Accepts h.control_block t.ip t.segment → h' ≡ delivered_to h m t → Answers (IsReplyStamp tells (delivered_to h m t).source (echoed (delivered_to h m t).control_block t.segment.timestamp)) t.ip (reply_out h m t) r → o ≡ outcome.Delivered (reply_index (length ts) r) → ts' ≡ ts ++ kept_at s r h'.released h'.taken → DeliversAt tells (slice_get ts n) released taken s m o h ts h' ts'
  delivers o h' ts' r young ok is answers says stored =
      subst (λ x. DeliversAt tells x released taken s m o h ts h' ts') (sym at) (subst (λ b. DeliversTo tells b s m t o h ts h' ts') (sym young) (record {
        accepted = true;
        says = (λ x. ok, λ x. refl);
        does = record {
          reply = r;
          is_reply = answers;
          answer = says;
          host = is;
          stored = stored ∙ ap (λ (k : HostView _). ts ++ kept_at s r k.released k.taken) is;
        };
      }))

  pub takes_room : is_too_old t.released_at released t.taken_at taken ≡ false → Accepts h.control_block t.ip t.segment ⊎ (t.segment.control ≡ control.Rst → ⊥) → TakesRoomAt (slice_get ts n) released taken h
  takes_room young x = subst (λ z. TakesRoomAt z released taken h) (sym at) (young, x)

  pub refuses : (o : Outcome) (h' : HostView G) (ts' : List StoredView) → is_too_old t.released_at released t.taken_at taken ≡ false → (Accepts h.control_block t.ip t.segment → ⊥) → h' ≡ h → o ≡ outcome.NotAccepted (reply_index (length ts) (refusal_of t)) → ts' ≡ ts ++ kept_at s (refusal_of t) h.released h.taken → DeliversAt tells (slice_get ts n) released taken s m o h ts h' ts'
  refuses o h' ts' young shut is answer stored =
      subst (λ x. DeliversAt tells x released taken s m o h ts h' ts') (sym at) (subst (λ b. DeliversTo tells b s m t o h ts h' ts') (sym young) (record {
        accepted = false;
        says = ((λ x. let no : false ≡ true = x in cc), λ x. absurd (shut x));
        does = record { answer = answer; host = is; stored = stored };
      }))
