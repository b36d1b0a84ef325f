-- What a guard sees is what a look would remember.
use Rattle.std.proofs.Common.{◌≡◌, ◌∙◌, Bool, true, false, ap, refl, sym, subst}
use Rattle.net_base.specs.declared.time.Instant.{Instant}
use Rattle.std.specs.Prelude.{ℤ, negsuc, Option, Some, None, if◌then◌else◌}
use Rattle.std.specs.Option.{ForSome}
use Rattle.std.specs.Ordering.{int_eq}
use Rattle.sock_core.specs.Bounds.{IsMoment}
use Rattle.control_wire.specs.declared.seq_number.TcpSeqNumber.{TcpSeqNumber}
use Rattle.sock_tcp.specs.Timers.{IsLastTs}
use Rattle.sock_tcp.specs.View.{View}
use Rattle.sock_tcp.specs.declared.state.State.{State}
use Rattle.sock_tcp.specs.declared.state.State.TheVariants as state
use Rattle.net_host.specs.Guards.{end_in, end_of, ended_if, has_ended, last_left, lawful_limit, limit_of, moment_left, phase_in, phase_left, phase_of, same_phase, since_by, since_in, with_timeout}
use Rattle.net_host.specs.Watching.{Looks, is_over_for}
use Rattle.net_host.specs.Remembered.{Remembered as Guard, moment_from, phase_from}
use Rattle.net_host.specs.Sights.{IsSight, kind_by, kind_in}
use Rattle.net_host.specs.declared.guard.GuardSettings.{GuardSettings}
use Rattle.net_host.specs.declared.guard.Kind.{Kind}
use Rattle.net_host.specs.declared.guard.Kind.TheVariants as kind
use Rattle.net_host.specs.declared.guard.Phase.{Phase}
use Rattle.net_host.specs.declared.guard.Phase.TheVariants as phase
use Rattle.net_host.specs.declared.sight.Sight.{Sight}

pub kind_of : (st : State) (empty : Bool) (una : TcpSeqNumber) → phase_from (kind_by (kind_in st) empty) una ≡ phase_in st empty una
kind_of state.Closed empty una = refl
kind_of state.Listen empty una = refl
kind_of state.SynSent empty una = refl
kind_of state.SynReceived empty una = refl
kind_of state.Established true una = refl
kind_of state.Established false una = refl
kind_of state.FinWait1 empty una = refl
kind_of state.FinWait2 empty una = refl
kind_of state.CloseWait true una = refl
kind_of state.CloseWait false una = refl
kind_of state.Closing empty una = refl
kind_of state.LastAck empty una = refl
kind_of state.TimeWait empty una = refl

since_kind : (k : Kind) (n : TcpSeqNumber) (p : Phase) (since : Option Instant) (now : Instant) → (k ≡ kind.Free → ⊥) → since_in (phase_from k n) p since now ≡ since_by (same_phase (phase_from k n) p) since now
since_kind kind.Free n p since now nay = absurd (nay refl)
since_kind kind.Handshake n p since now nay = refl
since_kind kind.FinWait2 n p since now nay = refl
since_kind kind.Closing n p since now nay = refl
since_kind kind.Stuck n p since now nay = refl

-- a number that is none of no moment
pub was_moment : (m : ℤ) → int_eq m (negsuc 9223372036854775807) ≡ false → IsLastTs (moment_from m) → IsMoment m
was_moment m nay h = subst (λ b. ForSome (if b then None else Some (record { micros = m })) (λ (t : Instant). IsMoment t.micros)) nay h (record { micros = m }) refl

-- something is waited for
pub seen : (st : GuardSettings) (now : Instant) (v : View) (g : Guard) (s : Sight) (k : Kind) (n : TcpSeqNumber) → (k ≡ kind.Free → ⊥) → phase_from k n ≡ phase_of v → s.kind ≡ k → s.number ≡ n → moment_from s.since ≡ since_by (same_phase (phase_from k n) g.phase) g.since now → moment_from s.end ≡ end_of (limit_of st (phase_from k n)) (moment_from s.since) → IsMoment s.since → IsSight st now v g s
seen st now v g s k n nay same kind number since end lawful =
    let r : moment_from s.since ≡ since_in (phase_of v) g.phase g.since now = since ∙ sym (since_kind k n g.phase g.since now nay) ∙ ap (λ p. since_in p g.phase g.since now) same in
    record {
      phase = ap (λ j. phase_from j s.number) kind ∙ ap (phase_from k) number ∙ same;
      since = r;
      end = end ∙ ap (λ p. end_of (limit_of st p) (moment_from s.since)) same ∙ ap (λ t. end_of (limit_of st (phase_of v)) t) r;
      lawful = is_last s.since lawful;
    }
  where
    out : (t u : Instant) → Some t ≡ Some u → t ≡ u
    out t u e = cc

    at : (m : ℤ) (b : Bool) → int_eq m (negsuc 9223372036854775807) ≡ b → IsMoment m → ForSome (if b then None else Some (record { micros = m })) (λ (t : Instant). IsMoment t.micros)
    at m true e h = λ t is. cc
    at m false e h = λ t is. subst (λ (u : Instant). IsMoment u.micros) (out (record { micros = m }) t is) h

    is_last : (m : ℤ) → IsMoment m → IsLastTs (moment_from m)
    is_last m h = at m (int_eq m (negsuc 9223372036854775807)) refl h

-- nothing is
pub seen_free : (st : GuardSettings) (now : Instant) (v : View) (g : Guard) (s : Sight) (k : Kind) (n : TcpSeqNumber) → k ≡ kind.Free → phase_from k n ≡ phase_of v → s.kind ≡ kind.Free → moment_from s.since ≡ None → moment_from s.end ≡ None → IsSight st now v g s
seen_free st now v g s k n free same kind since end =
    let is : phase_of v ≡ phase.Free = sym same ∙ ap (λ j. phase_from j n) free in
    record {
      phase = ap (λ j. phase_from j s.number) kind ∙ sym is;
      since = since ∙ sym (ap (λ p. since_in p g.phase g.since now) is);
      end = end ∙ sym (ap (λ p. end_in st p g.phase g.since now) is);
      lawful = subst IsLastTs (sym since) none;
    }
  where
    none : IsLastTs None
    none = λ t e. cc

pub is_free : (v : View) (k : Kind) → phase_from k v.local_seq_no ≡ phase_of v → k ≡ kind.Free → phase_of v ≡ phase.Free
is_free v k is free = sym is ∙ ap (λ j. phase_from j v.local_seq_no) free

-- what is not over is remembered as it is seen
pub looks : (st : GuardSettings) (now : Instant) (v w : View) (g h : Guard) (s : Sight) → IsSight st now v g s → has_ended (moment_from s.end) now ≡ false → h.phase ≡ phase_from s.kind s.number → h.since ≡ moment_from s.since → h.end ≡ moment_from s.end → h.last ≡ last_left false (phase_from s.kind s.number) g.last → h.moment ≡ g.moment → h.taken ≡ g.taken → w ≡ with_timeout (lawful_limit st.timeout) v → Looks st now v g h w
looks st now v w g h s sight kept phase since end last moment taken timed = record {
  phase = phase ∙ sight.phase ∙ sym (ap (λ b. phase_left b (phase_of v)) over);
  since = since ∙ sight.since ∙ sym (ap (λ b. moment_left b (since_in (phase_of v) g.phase g.since now)) over);
  end = end ∙ sight.end ∙ sym (ap (λ b. moment_left b (end_in st (phase_of v) g.phase g.since now)) over);
  last = last ∙ ap (λ p. last_left false p g.last) sight.phase ∙ sym (ap (λ b. last_left b (phase_of v) g.last) over);
  moment = moment;
  taken = taken;
  socket = timed ∙ sym (ap (λ b. ended_if b (phase_of v) (with_timeout (lawful_limit st.timeout) v)) over);
}
  where
    over : is_over_for st g v now ≡ false
    over = sym (ap (λ t. has_ended t now) sight.end) ∙ kept
