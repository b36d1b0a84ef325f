-- Any call but the setting of the rules keeps them.
use Rattle.std.proofs.Common.{◌≡◌, ℕ, Bool, true, false, refl, ap, ◌∙◌, Option}
use Rattle.ip_wire.specs.declared.repr.IpRepr.{IpRepr}
use Rattle.net_base.specs.declared.time.Instant.{Instant}
use Rattle.control_wire.specs.Segment.{Segment}
use Rattle.sock_core.specs.Facts.{Facts}
use Rattle.sock_tcp.specs.Advance.{fallen_back, fin_counted, options_taken, syn_answered, syn_received}
use Rattle.sock_tcp.specs.Begin.{before_emit, fast_retransmission_marked, peer_of, retransmission_begun}
use Rattle.sock_tcp.specs.Content.{Sending}
use Rattle.sock_tcp.specs.Opening.{connected, listened, renewed}
use Rattle.sock_tcp.specs.Process.{close_restarted, processed_by}
use Rattle.sock_tcp.specs.Queues.{queued, read_off}
use Rattle.sock_tcp.specs.Replies.{ack_kept}
use Rattle.sock_tcp.specs.Rfc.Recovery.{recovered}
use Rattle.sock_tcp.specs.Rfc.TailLoss.{probed_by, tail_probed}
use Rattle.sock_tcp.specs.Sent.{after_any, after_probe, snd_nxt_moved}
use Rattle.sock_tcp.specs.Steps.{ack_counted, ack_delayed, duplicate_counted, heard, joined, released, timer_set, timestamp_taken, una_advanced, window_taken}
use Rattle.sock_tcp.specs.Rfc.Windows.{windowed}
use Rattle.sock_tcp.specs.View.{View, fresh, moment_of}
use Rattle.sock_tcp.specs.declared.acked.Acked.{Acked}
use Rattle.sock_tcp.specs.declared.rules.Rules.{Rules}
use Rattle.sock_tcp.specs.declared.rules.Rules.TheVariants as rules
use Rattle.tcp_laws.specs.SocketRun.{SendsTo}
use Rattle.tcp_laws.proofs.Kept.{KeptByBeginnings, KeptByRows, KeptBySegments, KeptBySending, KeptByUses, before_kept, heard_kept, process_kept, sends_kept}
use Rattle.tcp_laws.proofs.OrderedCalls.{same_flag}

abbrev pub is_rfc : Rules → Bool
is_rfc rules.Rfc = true
is_rfc rules.Smoltcp = false

same_rules : (a b : Rules) → is_rfc a ≡ is_rfc b → a ≡ b
same_rules rules.Rfc rules.Rfc e = refl
same_rules rules.Smoltcp rules.Smoltcp e = refl
same_rules rules.Rfc rules.Smoltcp e = absurd cc
same_rules rules.Smoltcp rules.Rfc e = absurd cc

module _ (r : Rules) where
  abbrev pub IsRuled : View → Type 0
  IsRuled w = w.rules ≡ r

  module _ (s : Segment) (now : Instant) where
    heard_ruled : (u : View) (a : Acked) → IsRuled u → IsRuled (heard u now a s)
    unfolding window_taken released timestamp_taken timer_set duplicate_counted ack_counted una_advanced
    heard_ruled u a h = heard_kept IsRuled now s u a h (λ k. h) (λ k. h)

    rows_ruled : (word : ℕ) → KeptByRows IsRuled now word s
    unfolding fallen_back syn_received syn_answered options_taken fin_counted
    rows_ruled word = record {
      falls = λ v h. h;
      drops = λ v h. h;
      opens = λ v t h. h;
      answers = λ v h. h;
      moves = λ v st h. h;
      counts = λ v st h. h;
      waits = λ v h. h;
    }

    segments_ruled : (word : ℕ) → KeptBySegments IsRuled now word s
    unfolding ack_kept close_restarted joined ack_delayed recovered
    segments_ruled word = record {
      answers = record { challenges = λ w at h. h; acks = λ w h. h };
      restarts = λ w h. h;
      numbers = λ v n h. h;
      rows = rows_ruled word;
      joins = λ w o bs h. h;
      hears = λ u a h. heard_ruled u a h;
      recovers = λ v w h i. i;
    }

  pub process_ruled : (x : Rules) (v : View) (now : Instant) (word : ℕ) (ip : IpRepr) (s : Segment) → IsRuled v → IsRuled (processed_by x v now word ip s).view
  process_ruled x v now word ip s h = process_kept IsRuled now word ip s x v (segments_ruled (windowed x v s) now word) h

  begins_ruled : (now : Instant) → KeptByBeginnings IsRuled now
  unfolding retransmission_begun fast_retransmission_marked tail_probed probed_by
  begins_ruled now = record {
    remembers = λ v h. h;
    tells = λ v h. h;
    times_out = λ v h. h;
    forgets = λ v h. h;
    begins_again = λ v at e h. h;
    marks = λ v e h. h;
    goes_back = λ v at delay e h. h;
    probes_tail = λ v at e h. h;
  }

  renewed_ruled : (v : View) → IsRuled v → IsRuled (renewed v)
  unfolding renewed fresh
  renewed_ruled v h = h

  sending_ruled : (now : Instant) → KeptBySending IsRuled now
  unfolding after_any snd_nxt_moved after_probe
  sending_ruled now = record { renews = λ u h. h; moves = λ u e h. h; times = λ u e h. h; probes = λ u h. h; arms = λ u at e h. h }

  pub before_ruled : (f : Facts) (v : View) → IsRuled v → IsRuled (before_emit v f).view
  before_ruled f v i = before_kept IsRuled f (begins_ruled (moment_of f)) renewed_ruled v i

  pub dispatch_ruled : (f : Facts) (v w : View) (out : Option Sending) → SendsTo (peer_of (before_emit v f)) f (before_emit v f).view out w → IsRuled v → IsRuled w
  dispatch_ruled f v w out h i = sends_kept IsRuled f (sending_ruled (moment_of f)) (peer_of (before_emit v f)) (before_emit v f).view w out h (before_kept IsRuled f (begins_ruled (moment_of f)) renewed_ruled v i)

  decided_ruled : (v w : View) → ((w ≡ v → ⊥) → ⊥) → IsRuled v → IsRuled w
  decided_ruled v w n h = same_rules w.rules v.rules (same_flag (is_rfc w.rules) (is_rfc v.rules) (λ d. n (λ e. d (ap (λ (x : View). is_rfc x.rules) e)))) ∙ h

  pub uses_ruled : KeptByUses IsRuled
  unfolding queued read_off connected listened renewed fresh
  uses_ruled = record {
    queues = λ v n bs may within h. h;
    reads = λ v n h. h;
    connects = λ v t word small h. h;
    listens = λ v e h. h;
    decided = λ v w is n h. decided_ruled v w n h;
  }
