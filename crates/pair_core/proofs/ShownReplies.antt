-- What a socket answers is what it may send once the segment is heard.
use Rattle.std.proofs.Common.{◌≡◌, ℕ, ◌⊎◌, Bool, true, false, refl, sym, ap, subst, ◌∙◌, arith, List, length, Option, Some, None, inl, inr}
use Rattle.std.specs.Prelude.{option_map, int_lt, ◌==◌, ◌&&◌, if◌then◌else◌}
use Rattle.net_base.specs.declared.time.Instant.{Instant}
use Rattle.control_wire.specs.Segment.{Segment}
use Rattle.control_wire.specs.declared.tcp.TcpControl.{TcpControl}
use Rattle.control_wire.specs.declared.tcp.TcpControl.TheVariants as control
use Rattle.sock_core.specs.Received.{Received, taken_in, makes_fifth_range, holds_nothing}
use Rattle.sock_tcp.specs.View.{View}
use Rattle.sock_tcp.specs.Window.{next_ack}
use Rattle.sock_tcp.specs.Replies.{ack_segment, ack_kept}
use Rattle.sock_tcp.specs.Timers.{after, challenge_interval}
use Rattle.sock_tcp.specs.Steps.{joined, ack_delayed}
use Rattle.sock_tcp.specs.Process.{Outcome, stopped, ack_sent, challenged, close_restarted, outside_by, outside, gap_answered, bytes_taken, without_place}
use Rattle.sock_tcp.specs.declared.rules.Rules.{Rules}
use Rattle.sock_tcp.specs.declared.rules.Rules.TheVariants as rules
use Rattle.pair_core.specs.PairNetwork.{shown, stream_segment}
use Rattle.pair_core.specs.StreamCalls.{Answers, ReplyEffect, Segment as MayAnswer}
use Rattle.pair_core.specs.StreamEffects.{SndNxtWithin}
use Rattle.pair_core.specs.StreamViews.{SocketView, StreamSegment, HasIss, KnowsPeer}
use Rattle.tcp_laws.proofs.Frames.{brought, stays_as_it_is}

the_number : {a b : ℕ} → Some a ≡ Some b → a ≡ b
the_number e = cc

-- an acknowledgement of the socket x says where y stands
pub record IsAckAt (y : SocketView) (x : View) : Type 0 where
  pub seq : x.remote_last_seq.0 ≡ y.snd_nxt
  pub nxt : (next_ack x).0 ≡ y.rcv_nxt

-- a reply to the segment s is none, or an acknowledgement of where y stands
abbrev pub IsAnswer : Segment → SocketView → Option Segment → Type 0
IsAnswer s y r = (r ≡ None) ⊎ ((x : View) × (r ≡ Some (ack_segment x s)) × IsAckAt y x)

-- the socket is shown as y, and so is what it answers
pub record Answered (s : Segment) (y : SocketView) (o : Outcome) : Type 0 where
  pub view : shown o.view ≡ y
  pub answer : IsAnswer s y o.reply

module _ (s : Segment) (released taken : ℕ) where
  -- an acknowledgement may be sent in any state that knows the peer
  ack_may : (y : SocketView) (x : View) (g : StreamSegment) → HasIss y.phase → KnowsPeer y.phase → SndNxtWithin y → IsAckAt y x → ReplyEffect y g (stream_segment (ack_segment x s) released taken)
  unfolding ack_segment
  ack_may y x g iss knows within at = MayAnswer (record {
    plain = refl;
    iss = iss;
    content = inl (record {
      skip = within.flight;
      seq = at.seq ∙ within.is;
      bytes = λ i b h. let no : None ≡ Some b = h in cc;
      within = omega (arith, within.le);
      fin = λ e. let no : false ≡ true = e in cc;
    });
    acks = record { says = λ a e. (knows, sym (the_number e) ∙ at.nxt) };
    opens = λ e. let no : false ≡ true = e in cc;
  })

  pub answers_as : (y : SocketView) (r : Option Segment) (g : StreamSegment) → HasIss y.phase → KnowsPeer y.phase → SndNxtWithin y → IsAnswer s y r → Answers y g (option_map (λ (x : Segment). stream_segment x released taken) r)
  answers_as y r g iss knows within (inl e) = subst (λ x. Answers y g (option_map (λ (z : Segment). stream_segment z released taken) x)) (sym e) tt
  answers_as y r g iss knows within (inr h) = subst (λ x. Answers y g (option_map (λ (z : Segment). stream_segment z released taken) x)) (sym h.1) (ack_may y h.0 g iss knows within h.2)

module _ (s : Segment) (now : Instant) where
  pub quiet_there : (w : View) (y : SocketView) → shown w ≡ y → Answered s y (stopped w)
  quiet_there w y e = record { view = e; answer = inl refl }

  pub acked_there : (w : View) (y : SocketView) → shown w ≡ y → Answered s y (ack_sent w s)
  unfolding ack_kept
  acked_there w y e = record { view = e; answer = inr (w, refl, record { seq = ap (λ (z : SocketView). z.snd_nxt) e; nxt = ap (λ (z : SocketView). z.rcv_nxt) e }) }

  pub challenged_there : (w : View) (y : SocketView) → shown w ≡ y → Answered s y (challenged w now s)
  unfolding challenged
  challenged_there w y e = go (int_lt now.micros w.challenge_ack_timer.micros)
    where
      go : (b : Bool) → Answered s y (if b then stopped w else ack_sent (record w { challenge_ack_timer = after now challenge_interval }) s)
      go true = quiet_there w y e
      go false = acked_there (record w { challenge_ack_timer = after now challenge_interval }) y e

  -- a segment outside of the window
  pub outside_there : (w : View) → Answered s (shown w) (outside w now s)
  unfolding outside close_restarted
  outside_there w = by s.control
    where
      bytes_or_none : (b : Bool) → Answered s (shown w) (if b then challenged (close_restarted w now) now s else ack_sent (close_restarted w now) s)
      bytes_or_none true = challenged_there (close_restarted w now) (shown w) refl
      bytes_or_none false = acked_there (close_restarted w now) (shown w) refl

      by : (c : TcpControl) → Answered s (shown w) (outside_by c (length s.payload) w now s)
      by control.Rst = quiet_there w (shown w) refl
      by control.Syn = challenged_there (close_restarted w now) (shown w) refl
      by control.None = bytes_or_none (length s.payload == 0)
      by control.Psh = bytes_or_none (length s.payload == 0)
      by control.Fin = bytes_or_none (length s.payload == 0)

  -- the bytes that came, o past RCV.NXT
  pub bytes_there : (w : View) (o : ℕ) (bs : List ℕ) → Answered s (shown (record w { rx_buffer = brought w.rx_buffer o bs })) (bytes_taken w now o bs s)
  unfolding bytes_taken joined ack_delayed
  bytes_there w o bs = go (length bs == 0)
    where
      u : View
      u = ack_delayed (joined w o bs) now

      y : SocketView
      y = shown (record w { rx_buffer = taken_in w.rx_buffer o bs })

      gap : (b : Bool) → Answered s y (if b then stopped u else ack_sent u s)
      gap true = quiet_there u y refl
      gap false = acked_there u y refl

      placeless : (r : Rules) → makes_fifth_range w.rx_buffer o bs ≡ true → Answered s y (without_place r w s)
      placeless rules.Smoltcp e = quiet_there w y (ap (λ (b : Received). shown (record w { rx_buffer = b })) (stays_as_it_is w.rx_buffer o bs e))
      placeless rules.Rfc e = acked_there w y (ap (λ (b : Received). shown (record w { rx_buffer = b })) (stays_as_it_is w.rx_buffer o bs e))

      fifth : (b : Bool) → makes_fifth_range w.rx_buffer o bs ≡ b → Answered s y (if b then without_place w.rules w s else gap_answered w u s)
      fifth true e = placeless w.rules e
      fifth false e = gap (holds_nothing w.rx_buffer.held && holds_nothing u.rx_buffer.held)

      go : (b : Bool) → Answered s (shown (record w { rx_buffer = if b then w.rx_buffer else taken_in w.rx_buffer o bs })) (if b then stopped w else (if makes_fifth_range w.rx_buffer o bs then without_place w.rules w s else gap_answered w u s))
      go true = quiet_there w _ refl
      go false = fifth (makes_fifth_range w.rx_buffer o bs) refl
