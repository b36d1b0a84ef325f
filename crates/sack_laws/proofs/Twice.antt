-- What a side tells of bytes that came twice is so.
use Rattle.std.proofs.Common.{◌≡◌, ◌⊎◌, ℕ, ◌+◌, ◌-◌, ◌<◌, ◌≤◌, ◌^◌, arith, Bool, true, false, refl, ap, ◌∙◌, Option, is_some, inl, inr}
use Rattle.std.specs.Prelude.{nat_lt, ◌||◌}
use Rattle.std.proofs.lemmas.Bool.Decides.{nat_tests}
use Rattle.control_wire.specs.Segment.{Segment}
use Rattle.control_wire.specs.Seq.{seq_sub}
use Rattle.sock_core.specs.Received.{byte_at, room_of}
use Rattle.sock_core.specs.Streams.{fin_length}
use Rattle.sock_tcp.specs.Rfc.Windows.{is_heeding}
use Rattle.sock_tcp.specs.View.{View}
use Rattle.sock_tcp.specs.Window.{next_ack}
use Rattle.sock_tcp.specs.declared.state.State.{State}
use Rattle.sock_tcp.specs.declared.state.State.TheVariants as state
use Rattle.tcp_laws.specs.Telling.{HadCome, IsDuplicate, IsHeldRange}
use Rattle.pair_core.specs.Network.{Endpoint}
use Rattle.pair_core.specs.NetworkInvariant.{StreamInvariant}
use Rattle.pair_core.specs.PairNetwork.{phase_of}
use Rattle.pair_core.specs.StreamModel.{Stream}
use Rattle.pair_core.specs.StreamViews.{IsSynchronized}
use Rattle.sack_laws.specs.Told.{IsTwiceRange}
use Rattle.sack_laws.proofs.Heard.{fin_holds_none}

pub heeds_synced : (st : State) → is_heeding st ≡ true → IsSynchronized (phase_of st)
heeds_synced state.Established h = tt
heeds_synced state.FinWait1 h = tt
heeds_synced state.FinWait2 h = tt
heeds_synced state.CloseWait h = tt
heeds_synced state.Closing h = tt
heeds_synced state.LastAck h = tt
heeds_synced state.TimeWait h = tt
heeds_synced _ h = absurd cc

first_true : (a b : Bool) → a ≡ true → (a || b) ≡ true
first_true true b e = refl
first_true false b e = absurd cc

second_true : (a b : Bool) → b ≡ true → (a || b) ≡ true
second_true true b e = refl
second_true false b e = e

is_less : (m n : ℕ) → m < n → nat_lt m n ≡ true
is_less m n h = grind (arith, nat_tests, h)

-- the side was e, its socket v
module _ (e : Endpoint) (v : View) (s : Segment) (r : ℕ × ℕ) (numbers : e.view.rcv_nxt ≡ (next_ack v).0) (holds : e.view.held ≡ byte_at v.rx_buffer.held) (fin : e.view.fin_counted ≡ v.rx_fin_received) (room : room_of v.rx_buffer ≤ 2 ^ 30) (small : s.seq_number.0 < 2 ^ 32) (low : ℕ) (near : low ≤ e.taken + 2 ^ 30) where
  abbrev back : ℕ
  back = seq_sub (next_ack v) s.seq_number

  before_it : (t : IsDuplicate v s r) → HadCome v s.seq_number t.len → IsTwiceRange e low r
  before_it t c = record {
    first = e.taken + fin_length e.view.fin_counted + 2 ^ 32 - back;
    len = t.len;
    some = t.some;
    since = omega (arith, near, room, c.near);
    small = (omega (arith, t.begins), omega (arith, t.ends));
    begins = omega (arith, t.begins, numbers, small, room, c.near);
    ends = omega (arith, t.ends, numbers, small, room, c.near);
    there = λ n from to. first_true (nat_lt n e.taken) (is_some (e.view.held (n - e.taken))) (is_less n e.taken (omega (arith, from, to, c.before, c.near, room, ap fin_length fin)));
  }

  held_it : e.view.fin_counted ≡ false → IsHeldRange (next_ack v) v.rx_buffer.held r → IsTwiceRange e low r
  held_it none h = record {
    first = e.taken + h.start + 2 ^ 32;
    len = h.len;
    some = h.some;
    since = omega (arith, near);
    small = (omega (arith, h.begins), omega (arith, h.ends));
    begins = omega (arith, h.begins, numbers, ap fin_length none);
    ends = omega (arith, h.ends, numbers, ap fin_length none);
    there = λ n from to. second_true (nat_lt n e.taken) (is_some (e.view.held (n - e.taken)))
        (ap is_some (ap (λ (b : ℕ → Option ℕ). b (n - e.taken)) holds ∙ ap (byte_at v.rx_buffer.held) {x = n - e.taken} {y = h.start + (n - e.taken - h.start)} (omega (arith, from))) ∙ h.all (n - e.taken - h.start) (omega (arith, from, to)));
  }

  pub twice_is : (x : Endpoint) (o : ℕ) (f : Stream) → StreamInvariant x e o f → IsSynchronized e.view.phase → IsDuplicate v s r → IsTwiceRange e low r
  twice_is x o f i synced t = by t.came
    where
      held_then : (b : Bool) → e.view.fin_counted ≡ b → IsHeldRange (next_ack v) v.rx_buffer.held r → IsTwiceRange e low r
      held_then false q h = held_it q h
      held_then true q h = absurd (fin_holds_none x e o f i (h.start + 0) synced q (ap is_some (ap (λ (b : ℕ → Option ℕ). b (h.start + 0)) holds) ∙ h.all 0 h.some))

      by : HadCome v s.seq_number t.len ⊎ IsHeldRange (next_ack v) v.rx_buffer.held r → IsTwiceRange e low r
      by (inl c) = before_it t c
      by (inr h) = held_then e.view.fin_counted refl h
