-- A segment that passes is answered by an acknowledgement, or not at all.
use Rattle.std.proofs.Common.{◌≡◌, ℕ, Bool, true, false, ◌&&◌, List, [], length, refl, sym, ap, subst, Option, Some, None}
use Rattle.std.specs.Prelude.{if◌then◌else◌, ◌==◌, int_lt}
use Rattle.ip_wire.specs.declared.repr.IpRepr.{IpRepr}
use Rattle.net_base.specs.declared.time.Instant.{Instant}
use Rattle.control_wire.specs.Segment.{Segment}
use Rattle.control_wire.specs.declared.tcp.TcpControl.{TcpControl}
use Rattle.control_wire.specs.declared.tcp.TcpControl.TheVariants as control
use Rattle.sock_core.specs.Received.{holds_nothing, makes_fifth_range}
use Rattle.sock_tcp.specs.Advance.{counted_control}
use Rattle.sock_tcp.specs.Arrival.{Arrival, arrival}
use Rattle.sock_tcp.specs.Process.{Outcome, answered, stopped, ack_sent, challenged, close_restarted, outside, outside_by, bytes_taken, tuple_of, after_advance, gap_answered, processed_inside, cut_inside, tested_by, without_place}
use Rattle.sock_tcp.specs.Replies.{ack_segment}
use Rattle.sock_tcp.specs.Rfc.Recovery.{recovered_by}
use Rattle.sock_tcp.specs.Rfc.Refused.{refused}
use Rattle.sock_tcp.specs.Steps.{ack_delayed, heard, joined}
use Rattle.sock_tcp.specs.Timers.{after, challenge_interval}
use Rattle.sock_tcp.specs.View.{View}
use Rattle.sock_tcp.specs.Window.{accepted_window, cut_of, is_inside}
use Rattle.sock_tcp.specs.declared.acked.Acked.{Acked}
use Rattle.sock_tcp.specs.declared.advance.Next.{Next}
use Rattle.sock_tcp.specs.declared.advance.Next.TheVariants as next
use Rattle.sock_tcp.specs.declared.process.Answer.{Answer}
use Rattle.sock_tcp.specs.declared.process.Answer.TheVariants as answers
use Rattle.sock_tcp.specs.declared.rules.Rules.{Rules}
use Rattle.sock_tcp.specs.declared.rules.Rules.TheVariants as rules
use Rattle.sock_tcp.proofs.Refusing.{heard_alone, refused_as}

abbrev pub IsNoRst : Option Segment → Type 0
IsNoRst None = Unit {0}
IsNoRst (Some r) = r.control ≡ control.None

module _ (now : Instant) (word : ℕ) (ip : IpRepr) (s : Segment) where
  abbrev come : Arrival
  come = arrival now (tuple_of ip s) word s

  acked_none : (w : View) → IsNoRst (ack_sent w s).reply
  unfolding ack_segment
  acked_none w = refl

  challenged_none : (w : View) → IsNoRst (challenged w now s).reply
  unfolding challenged
  challenged_none w = go (int_lt now.micros w.challenge_ack_timer.micros)
    where
      go : (b : Bool) → IsNoRst (if b then stopped w else ack_sent (record w { challenge_ack_timer = after now challenge_interval }) s).reply
      go true = tt
      go false = acked_none (record w { challenge_ack_timer = after now challenge_interval })

  outside_none : (w : View) → IsNoRst (outside w now s).reply
  unfolding outside
  outside_none w = by s.control
    where
      bytes_or_none : (b : Bool) → IsNoRst (if b then challenged (close_restarted w now) now s else ack_sent (close_restarted w now) s).reply
      bytes_or_none true = challenged_none (close_restarted w now)
      bytes_or_none false = acked_none (close_restarted w now)

      by : (c : TcpControl) → IsNoRst (outside_by c (length s.payload) w now s).reply
      by control.Rst = tt
      by control.Syn = challenged_none (close_restarted w now)
      by control.None = bytes_or_none (length s.payload == 0)
      by control.Psh = bytes_or_none (length s.payload == 0)
      by control.Fin = bytes_or_none (length s.payload == 0)

  bytes_none : (w : View) (o : ℕ) (bs : List ℕ) → IsNoRst (bytes_taken w now o bs s).reply
  unfolding bytes_taken
  bytes_none w o bs = go (length bs == 0)
    where
      u : View
      u = ack_delayed (joined w o bs) now

      gap : (b : Bool) → IsNoRst (if b then stopped u else ack_sent u s).reply
      gap true = tt
      gap false = acked_none u

      placeless : (r : Rules) → IsNoRst (without_place r w s).reply
      placeless rules.Smoltcp = tt
      placeless rules.Rfc = acked_none w

      away : (b : Bool) → IsNoRst (if b then without_place w.rules w s else gap_answered w u s).reply
      away true = placeless w.rules
      away false = gap (holds_nothing w.rx_buffer.held && holds_nothing u.rx_buffer.held)

      go : (b : Bool) → IsNoRst (if b then stopped w else (if makes_fifth_range w.rx_buffer o bs then without_place w.rules w s else gap_answered w u s)).reply
      go true = tt
      go false = away (makes_fifth_range w.rx_buffer o bs)

  after_none : (x : Next) (u : View) (a : Acked) (o : ℕ) (bs : List ℕ) → IsNoRst (after_advance x u come a o bs).reply
  after_none next.Stop u a o bs = tt
  after_none next.Challenge u a o bs = challenged_none u
  after_none next.Continue u a o bs = bytes_none (heard u now a s) o bs

  inside_none : (u : View) (c : TcpControl) (o : ℕ) (bs : List ℕ) → IsNoRst (processed_inside u come c o bs).reply
  unfolding processed_inside
  inside_none u c o bs = after_none _ _ _ o bs

  refused_none : (r : Rules) (v : View) → IsNoRst (refused r v come).reply
  refused_none r v = refused_as (λ o. IsNoRst o.reply) r v come (record {
    answers = outside_none v;
    counts = λ e. inside_none v control.Fin 0 [];
    hears = λ e. inside_none v control.None 0 [];
    ends = λ e. tt;
    goes_on = λ e. outside_none (heard_alone v come).view;
  })

  tested_none : (r : Rules) (v : View) (b : Bool) → IsNoRst (tested_by r b v come).reply
  tested_none r v false = inside_none v s.control 0 []
  tested_none r v true = go (is_inside (accepted_window r v) s.seq_number (length s.payload))
    where
      go : (b : Bool) → IsNoRst (if b then cut_inside (accepted_window r v) (cut_of (accepted_window r v) s.seq_number (length s.payload)) v come else refused r v come).reply
      go false = refused_none r v
      go true = inside_none (record v { local_rx_last_seq = Some s.seq_number }) (counted_control s.control (accepted_window r v) s.seq_number (length s.payload)) _ _

  -- whatever is done of loss then
  pub passed_none : (r : Rules) (v : View) (b : Bool) → IsNoRst (recovered_by rules.Rfc v now s (tested_by r b v come)).reply
  passed_none r v b = tested_none r v b

pub not_rst : (x : Answer) (u : View) (s : Segment) (o : Outcome) → IsNoRst o.reply → answered x u s ≡ o → x ≡ answers.Rst → ⊥
not_rst answers.Nothing u s o n h e = let no : answers.Nothing ≡ answers.Rst = e in cc
not_rst answers.Ack u s o n h e = let no : answers.Ack ≡ answers.Rst = e in cc
not_rst answers.Rst u s o n h e = let no : control.Rst ≡ control.None = subst IsNoRst (sym (ap (λ (y : Outcome). y.reply) h)) n in cc
