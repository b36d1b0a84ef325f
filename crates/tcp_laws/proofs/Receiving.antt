-- What a segment may do to the receive buffer.
use Rattle.std.proofs.Common.{◌≡◌, ℕ, ◌+◌, ◌^◌, ◌<◌, ◌≤◌, ◌⊎◌, Bool, true, false, refl, sym, subst, ◌∙◌, arith, List, length, inl, inr}
use Rattle.std.specs.Prelude.{◌==◌, if◌then◌else◌}
use Rattle.ip_wire.specs.declared.repr.IpRepr.{IpRepr}
use Rattle.net_base.specs.declared.time.Instant.{Instant}
use Rattle.control_wire.specs.Segment.{Segment}
use Rattle.sock_core.proofs.Receiving.{takes_in_all}
use Rattle.sock_core.specs.Received.{Received, taken_in, makes_fifth_range, room_of, TakesIn}
use Rattle.tcp_laws.specs.Laws.{MayTake}
use Rattle.sock_tcp.specs.Process.{processed_by}
use Rattle.sock_tcp.specs.View.{View}
use Rattle.sock_tcp.specs.Window.{accepted_window, is_inside}
use Rattle.tcp_laws.proofs.Frames.{Brings, brought, bytes_in, offset_in, process_brings, stays_as_it_is}
use Rattle.sock_tcp.proofs.Windows.{cut_fits}
use Rattle.sock_tcp.specs.declared.rules.Rules.{Rules}

-- bytes that come are taken in, or nothing changes
taken_or_same : (b : Received) (o : ℕ) (bs : List ℕ) → o + length bs ≤ length b.held → (brought b o bs ≡ b) ⊎ TakesIn b (brought b o bs) o bs
taken_or_same b o bs fits = go (length bs == 0)
  where
    some : (t : Bool) → makes_fifth_range b o bs ≡ t → (taken_in b o bs ≡ b) ⊎ TakesIn b (taken_in b o bs) o bs
    some true e = inl (sym (stays_as_it_is b o bs e))
    some false e = inr (takes_in_all b o bs fits e)

    go : (t : Bool) → ((if t then b else taken_in b o bs) ≡ b) ⊎ TakesIn b (if t then b else taken_in b o bs) o bs
    go true = inl refl
    go false = some (makes_fifth_range b o bs) refl

pub only_appends : (r : Rules) (v : View) (now : Instant) (word : ℕ) (ip : IpRepr) (s : Segment) → room_of v.rx_buffer ≤ 2 ^ 30 → s.seq_number.0 < 2 ^ 32 → length s.payload ≤ 65535 → MayTake r v s (processed_by r v now word ip s).view
only_appends r v now word ip s room small short = go (processed_by r v now word ip s).view (process_brings v now word ip s r)
  where
    go : (w : View) → Brings v now word ip s r w → MayTake r v s w
    go w k = by k.rx
      where
        by : (w.rx_buffer ≡ v.rx_buffer) ⊎ ((is_inside (accepted_window r v) s.seq_number (length s.payload) ≡ true) × (w.rx_buffer ≡ brought v.rx_buffer (offset_in v now word ip s r) (bytes_in v now word ip s r))) → MayTake r v s w
        by (inl e) = inl e
        by (inr h) = as_taken (taken_or_same v.rx_buffer (offset_in v now word ip s r) (bytes_in v now word ip s r) (cut_fits r v s.seq_number s.payload (omega (arith, room)) small short h.0))
          where
            as_taken : (brought v.rx_buffer (offset_in v now word ip s r) (bytes_in v now word ip s r) ≡ v.rx_buffer) ⊎ TakesIn v.rx_buffer (brought v.rx_buffer (offset_in v now word ip s r) (bytes_in v now word ip s r)) (offset_in v now word ip s r) (bytes_in v now word ip s r) → MayTake r v s w
            as_taken (inl e) = inl (h.1 ∙ e)
            as_taken (inr t) = inr (record { inside = h.0; takes = subst (λ b. TakesIn v.rx_buffer b (offset_in v now word ip s r) (bytes_in v now word ip s r)) (sym h.1) t })
