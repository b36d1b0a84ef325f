-- A guard that waits for nothing, and has nothing to do.
use Rattle.std.proofs.Common.{◌≡◌, ◌∙◌, true, false, Option, Some, None, refl, sym, ap, arith}
use Rattle.std.specs.Prelude.{◌&&◌, ◌==◌}
use Rattle.net_base.specs.declared.time.Duration.{Duration}
use Rattle.std.proofs.lemmas.Int.{ints}
use Rattle.net_base.specs.declared.time.Instant.{Instant}
use Rattle.control_wire.specs.declared.seq_number.TcpSeqNumber.{TcpSeqNumber}
use Rattle.sock_tcp.specs.View.{View}
use Rattle.net_host.specs.Guards.{end_in, end_of, ended_if, has_ended, last_left, lawful_limit, limit_of, moment_left, phase_left, phase_of, same_phase, since_by, since_in, with_timeout}
use Rattle.net_host.specs.Looking.{has_timeout, is_moment, is_phase, seen_with}
use Rattle.net_host.specs.Remembered.{Remembered as Guard}
use Rattle.net_host.specs.Watching.{Looks, is_over_for}
use Rattle.net_host.specs.declared.guard.GuardSettings.{GuardSettings}
use Rattle.net_host.specs.declared.guard.Phase.TheVariants as phase

same_duration : (d e : Duration) → (d.micros == e.micros) ≡ true → e ≡ d
same_duration d e h = let is : e.micros ≡ d.micros = grind (arith, h) in ap (λ n. record { micros = n }) is

-- the socket has the user timeout that is set
kept_timeout : (limit o : Option Duration) (v : View) → v.timeout ≡ o → has_timeout limit o ≡ true → with_timeout limit v ≡ v
kept_timeout None o v is h = refl
kept_timeout (Some d) (Some e) v is h = ap (λ (x : Option Duration). record v { timeout = x }) (sym (is ∙ ap (λ x. Some x) (same_duration d e h)))
kept_timeout (Some d) None v is h = absurd (no h)
  where
    no : false ≡ true → ⊥
    no e = cc

module _ (st : GuardSettings) (v : View) (g : Guard) where
  not_over : phase_of v ≡ phase.Free → (now : Instant) → is_over_for st g v now ≡ false
  not_over free now = ap (λ q. has_ended (end_in st q g.phase g.since now) now) free

  pub looks : phase_of v ≡ phase.Free → g.phase ≡ phase.Free → g.since ≡ None → g.end ≡ None → g.last ≡ None → has_timeout (lawful_limit st.timeout) v.timeout ≡ true → (now : Instant) → Looks st now v g g v
  looks free p s e l t now = record {
    phase = p ∙ sym (ap (λ o. phase_left o (phase_of v)) (not_over free now) ∙ free);
    since = s ∙ sym (ap (λ o. moment_left o (since_in (phase_of v) g.phase g.since now)) (not_over free now) ∙ ap (λ q. since_in q g.phase g.since now) free);
    end = e ∙ sym (ap (λ o. moment_left o (end_in st (phase_of v) g.phase g.since now)) (not_over free now) ∙ ap (λ q. end_in st q g.phase g.since now) free);
    last = l ∙ sym (ap (λ o. last_left o (phase_of v) g.last) (not_over free now) ∙ ap (λ q. last_left false q g.last) free);
    moment = refl;
    taken = refl;
    socket = sym (ap (λ o. ended_if o (phase_of v) (with_timeout (lawful_limit st.timeout) v)) (not_over free now) ∙ kept_timeout (lawful_limit st.timeout) v.timeout v refl t);
  }

  pub seen : phase_of v ≡ phase.Free → g.phase ≡ phase.Free → g.since ≡ None → g.end ≡ None → has_timeout (lawful_limit st.timeout) v.timeout ≡ true → seen_with st g.phase g.since g.end v ≡ true
  seen free p s e t =
      ap (λ q. is_phase q (phase_of v) && (is_moment g.end (end_of (limit_of st q) g.since) && has_timeout (lawful_limit st.timeout) v.timeout)) p
      ∙ ap (λ q. is_phase phase.Free q && (is_moment g.end (end_of (limit_of st phase.Free) g.since) && has_timeout (lawful_limit st.timeout) v.timeout)) free
      ∙ ap (λ o. is_moment o None && has_timeout (lawful_limit st.timeout) v.timeout) e
      ∙ t

pub same_number : (a b : TcpSeqNumber) → a.0 ≡ b.0 → a ≡ b
same_number a b e = ap (λ n. record { 0 = n }) e

-- bytes that wait as they did
module _ (st : GuardSettings) (now : Instant) (v : View) (g : Guard) (n : TcpSeqNumber) (waits : phase_of v ≡ phase.Stuck n) (before : g.phase ≡ phase.Stuck n) where
  itself : same_phase (phase.Stuck n) (phase.Stuck n) ≡ true
  itself = grind arith

  since_on : since_by true g.since now ≡ g.since → since_in (phase_of v) g.phase g.since now ≡ g.since
  since_on s =
      ap (λ q. since_in q g.phase g.since now) waits
      ∙ ap (λ q. since_by (same_phase (phase.Stuck n) q) g.since now) before
      ∙ ap (λ b. since_by b g.since now) itself
      ∙ s

  end_on : since_by true g.since now ≡ g.since → end_of (limit_of st (phase.Stuck n)) g.since ≡ g.end → end_in st (phase_of v) g.phase g.since now ≡ g.end
  end_on s e = ap (λ q. end_of (limit_of st q) (since_in (phase_of v) g.phase g.since now)) waits ∙ ap (λ t. end_of (limit_of st (phase.Stuck n)) t) (since_on s) ∙ e

  pub looks_on : since_by true g.since now ≡ g.since → end_of (limit_of st (phase.Stuck n)) g.since ≡ g.end → has_ended g.end now ≡ false → g.last ≡ None → has_timeout (lawful_limit st.timeout) v.timeout ≡ true → Looks st now v g g v
  looks_on s e k l t =
      let over : is_over_for st g v now ≡ false = ap (λ o. has_ended o now) (end_on s e) ∙ k in
      record {
        phase = before ∙ sym (ap (λ o. phase_left o (phase_of v)) over ∙ waits);
        since = sym (ap (λ o. moment_left o (since_in (phase_of v) g.phase g.since now)) over ∙ since_on s);
        end = sym (ap (λ o. moment_left o (end_in st (phase_of v) g.phase g.since now)) over ∙ end_on s e);
        last = l ∙ sym (ap (λ o. last_left o (phase_of v) g.last) over ∙ ap (λ q. last_left false q g.last) waits);
        moment = refl;
        taken = refl;
        socket = sym (ap (λ o. ended_if o (phase_of v) (with_timeout (lawful_limit st.timeout) v)) over ∙ kept_timeout (lawful_limit st.timeout) v.timeout v refl t);
      }

  same_moment : (t : Option Instant) → is_moment t t ≡ true
  same_moment None = refl
  same_moment (Some t) = grind (arith, ints)

  pub seen_on : end_of (limit_of st (phase.Stuck n)) g.since ≡ g.end → has_timeout (lawful_limit st.timeout) v.timeout ≡ true → seen_with st g.phase g.since g.end v ≡ true
  seen_on e t =
      ap (λ q. is_phase q (phase_of v) && (is_moment g.end (end_of (limit_of st q) g.since) && has_timeout (lawful_limit st.timeout) v.timeout)) before
      ∙ ap (λ q. is_phase (phase.Stuck n) q && (is_moment g.end (end_of (limit_of st (phase.Stuck n)) g.since) && has_timeout (lawful_limit st.timeout) v.timeout)) waits
      ∙ ap (λ b. b && (is_moment g.end (end_of (limit_of st (phase.Stuck n)) g.since) && has_timeout (lawful_limit st.timeout) v.timeout)) itself
      ∙ ap (λ o. is_moment g.end o && has_timeout (lawful_limit st.timeout) v.timeout) e
      ∙ ap (λ b. b && has_timeout (lawful_limit st.timeout) v.timeout) (same_moment g.end)
      ∙ t
