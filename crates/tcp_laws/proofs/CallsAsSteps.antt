-- The calls with closures in the words of the law on lists of calls.
use Rattle.std.proofs.Common.{ℕ, List, Bool, true, false, Option, Some, None, refl}
use Rattle.std.specs.Prelude.{Result, Ok, Err, is_ok, option_map}
use Rattle.sock_core.specs.Emission.{Emits}
use Rattle.sock_core.specs.Facts.{Facts}
use Rattle.sock_tcp.specs.Begin.{before_emit, peer_of}
use Rattle.sock_tcp.specs.Content.{Sending, content}
use Rattle.sock_tcp.specs.Dispatch.{EmitTcp, packet_in, EmitsTo, Dispatches}
use Rattle.sock_tcp.specs.Outgoing.{packet_of}
use Rattle.sock_tcp.specs.Queues.{SendsWithIf, SendsWith, ReadsWithIf, ReadsWith, may_send, may_recv}
use Rattle.tcp_laws.specs.SocketRun.{DispatchesOut, SendsTo, any_filling, answer_of, any_taking, read_answer_of}
use Rattle.sock_tcp.specs.Rfc.Numbers.{outgoing}
use Rattle.sock_tcp.specs.View.{View}
use Rattle.sock_tcp.specs.declared.error.RecvError.{RecvError}
use Rattle.sock_tcp.specs.declared.error.SendError.{SendError}
use Rattle.sock_tcp.specs.declared.tuple.Tuple.{Tuple}

module _ {F C E G : Type 0} (g : EmitTcp F C E) (emit : F) (f : Facts) (tells : G → ℕ → Type 0) (clock : Option G) where
  record GoesOut (o : Option Tuple) (u : View) (c : C) (r : Result (Unit {0}) E) (w : View) (c' : C) : Type 0 where
    out : Option Sending
    socket : SendsTo o f u out w
    emits : Emits g packet_of emit (option_map packet_in (outgoing u out)) c r c'

  goes_out : (o : Option Tuple) (u : View) (c : C) (r : Result (Unit {0}) E) (w : View) (c' : C) → EmitsTo g emit f tells clock o u c r w c' → GoesOut o u c r w c'
  goes_out None u c r w c' h = record { out = None; socket = (refl, h.view); emits = (h.answer, h.context) }
  goes_out (Some t) u c r w c' h = record {
    out = content u t f h.stamp h.emits.bytes;
    socket = record { stamp = h.stamp; told = h.emits.stamped; bytes = h.emits.bytes; lent = h.emits.lent; ok = is_ok r; sends = refl; view = h.emits.view };
    emits = h.emits.emits;
  }

  pub dispatches_out : (v : View) (c : C) (r : Result (Unit {0}) E) (w : View) (c' : C) → Dispatches g emit f tells clock v c r w c' → DispatchesOut g emit f v c r w c'
  unfolding Dispatches
  dispatches_out v c r w c' h =
      let k = goes_out (peer_of (before_emit v f)) (before_emit v f).view c r w c' h in
      record { out = k.out; socket = k.socket; emits = k.emits }

sends_if : {R : Type 0} (called : List ℕ → ℕ × R → List ℕ → Type 0) (may : Bool) (v : View) (r : Result R SendError) (w : View) → SendsWithIf may called v r w → SendsWithIf may any_filling v (answer_of r) w
sends_if called true v (Ok x) w h = record { lent = h.lent; left = h.left; size = h.size; lent_length = h.lent_length; left_length = h.left_length; met = tt; size_within = h.size_within; view = h.view }
sends_if called true v (Err e) w h = absurd h
sends_if called false v (Ok x) w h = absurd h
sends_if called false v (Err e) w h = h

pub sends_any : {R : Type 0} (called : List ℕ → ℕ × R → List ℕ → Type 0) (v : View) (r : Result R SendError) (w : View) → SendsWith called v r w → SendsWith any_filling v (answer_of r) w
sends_any called v r w h = sends_if called (may_send v.state) v r w h

reads_if : {R : Type 0} (called : List ℕ → ℕ × R → Type 0) (may : Bool) (v : View) (r : Result R RecvError) (w : View) → ReadsWithIf may called v r w → ReadsWithIf may any_taking v (read_answer_of r) w
reads_if called true v (Ok x) w h = record { size = h.size; met = tt; size_within = h.size_within; view = h.view }
reads_if called true v (Err e) w h = absurd h
reads_if called false v (Ok x) w h = absurd h
reads_if called false v (Err e) w h = h

pub reads_any : {R : Type 0} (called : List ℕ → ℕ × R → Type 0) (v : View) (r : Result R RecvError) (w : View) → ReadsWith called v r w → ReadsWith any_taking v (read_answer_of r) w
reads_any called v r w h = reads_if called (may_recv v) v r w h
