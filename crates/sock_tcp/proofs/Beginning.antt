-- The beginning of a dispatch, from its steps, and whether it goes on.
use Rattle.std.proofs.Common.{◌≡◌, Bool, true, false, not, Some, refl, ◌∙◌, ap, subst}
use Rattle.sock_core.specs.Facts.{Facts}
use Rattle.net_base.specs.declared.time.Instant.{Instant}
use Rattle.sock_tcp.specs.declared.tuple.Tuple.{Tuple}
use Rattle.sock_tcp.specs.View.{View, moment_of}
use Rattle.sock_tcp.specs.Begin.{Begun, readied, after_timers, is_paused, unless_paused, begun, going_on, ended}

pub begun_on : (v s h : View) (f : Facts) (t : Tuple) (now : Instant) (b : Bool) → v.tuple ≡ Some t → f.has_address t.local.addr ≡ true → now.micros ≡ f.now → h ≡ readied v now → s ≡ after_timers h now → b ≡ is_paused s.state s.synack_paused → record { view = s; goes_on = not b } ≡ begun v f
unfolding begun
begun_on v s h f t now b e a n x y z =
    let m : now ≡ moment_of f = ap (λ x. record { micros = x }) n in
    let p : record { view = s; goes_on = not b } ≡ unless_paused s = ap (λ (b : Bool). record { view = s; goes_on = not b }) z in
    let l : unless_paused s ≡ unless_paused (after_timers (readied v now) now) = rw (y, x) refl in
    let r : unless_paused (after_timers (readied v now) now) ≡ unless_paused (after_timers (readied v (moment_of f)) (moment_of f)) = ap (λ m. unless_paused (after_timers (readied v m) m)) m in
    p ∙ l ∙ r ∙ (rw (e, a) refl)

pub goes_on : (b : Bool) (v : View) (w : Begun) → b ≡ true → record { view = v; goes_on = b } ≡ w → going_on v ≡ w
goes_on b v w e h = subst (λ (b : Bool). record { view = v; goes_on = b } ≡ w) e h

-- or not
pub goes_not : (b : Bool) (v : View) (w : Begun) → b ≡ false → record { view = v; goes_on = b } ≡ w → ended v ≡ w
goes_not b v w e h = subst (λ (b : Bool). record { view = v; goes_on = b } ≡ w) e h
