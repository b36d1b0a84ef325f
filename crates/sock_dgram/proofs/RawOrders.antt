-- Each call of a raw socket keeps the order of both queues, the checksums of what is transmitted apart.
use Rattle.std.proofs.Common.{◌≡◌, ℕ, List, [], ◌∷◌, ◌++◌, length, take, drop, Bool, true, false, cond, Option, Some, Result, Ok, Err, refl, ap, ◌∙◌}
use Rattle.std.proofs.lemmas.List.{map-append}
use Rattle.std.specs.Prelude.{IfOk, is_ok}
use Rattle.std.specs.Borrow.{Bor, MutBor}
use Rattle.std.specs.Fn.{Once}
use Rattle.ip_wire.specs.Checksum.{is_sent}
use Rattle.ip_wire.specs.declared.repr.IpRepr.{IpRepr}
use Rattle.net_base.proofs.PacketLists.{packets_skipped}
use Rattle.net_base.specs.Packets.{first_packet, takes}
use Rattle.sock_core.specs.Emission.{Emit}
use Rattle.sock_core.specs.Facts.{Facts}
use Rattle.sock_dgram.proofs.Orders.{idle, sending, departing, queueing, receiving, copying_out, by_transfers, runs}
use Rattle.sock_dgram.proofs.RawTwice.{prepared_again}
use Rattle.sock_dgram.specs.Datagrams.{answered, take_answer, with_metadata}
use Rattle.sock_dgram.specs.Raw.{View, received, waiting, whole_packet}
use Rattle.sock_dgram.specs.RawCalls.{Call, Look, SendSlice, Recv, RecvSlice, Peek, Process, beside_metadata, Effect, moved, AnyEffect, without_checksum, bare, bare_traffic}
use Rattle.sock_dgram.specs.RawDispatch.{Outgoing, first_prepared}
use Rattle.sock_dgram.specs.Transfers.{AnyCall, Plain, SendWith, Dispatch, Exit, Transfers, Written, followed_by, sends, departs, InOrder, Runs}
use Rattle.sock_dgram.specs.declared.error.RecvError.{RecvError}
use Rattle.sock_dgram.specs.declared.raw.error.SendError.{SendError}

-- ---- with the checksums left out
bare_sends : (ok : Bool) (d : Unit {0} × List ℕ) → bare_traffic (sends ok d) ≡ sends ok (without_checksum d)
bare_sends true d = refl
bare_sends false d = refl

bare_departs : (ok : Bool) (out : Option Outgoing) (ds : List (Unit {0} × List ℕ)) → bare_traffic (departs ok out ds) ≡ departs ok out (bare ds)
bare_departs true out [] = refl
bare_departs true out (d ∷ ds) = refl
bare_departs false out ds = refl

bare_added : (ok : Bool) (d : Unit {0} × List ℕ) (ds : List (Unit {0} × List ℕ)) → bare (cond ok (ds ++ d ∷ []) ds) ≡ cond ok (bare ds ++ without_checksum d ∷ []) (bare ds)
bare_added true d ds = map-append without_checksum ds (d ∷ [])
bare_added false d ds = refl

bare_removed : (ok sent : Bool) (ds : List (Unit {0} × List ℕ)) → bare (cond ok (drop 1 ds) (first_prepared sent ds)) ≡ cond ok (drop 1 (bare ds)) (bare ds)
bare_removed true sent [] = refl
bare_removed true sent (d ∷ ds) = refl
bare_removed false sent [] = refl
bare_removed false sent (d ∷ ds) = ap (λ (bs : List ℕ). (d.0, bs) ∷ bare ds) (prepared_again sent false d.1)

bare_both : (a b : Transfers (Unit {0}) Outgoing) → bare_traffic (followed_by a b) ≡ followed_by (bare_traffic a) (bare_traffic b)
bare_both a b =
    (λ i. record {
      sent = map-append without_checksum a.sent b.sent i;
      departed = map-append (λ (e : (Unit {0} × List ℕ) × Exit Outgoing). (without_checksum e.0, e.1)) a.departed b.departed i;
      queued = a.queued ++ b.queued;
      taken = a.taken ++ b.taken;
    })

-- what a call that receives answers, beside the one metadata
answers : (r : Result (List ℕ) RecvError) (first : Option (Unit {0} × List ℕ)) → answered r ≡ take_answer first → answered (beside_metadata r) ≡ take_answer first
answers (Ok bs) first e = e
answers (Err x) first e = e

values : (r : Result (List ℕ) RecvError) (first : Option (Unit {0} × List ℕ)) → IfOk r (λ bs. first ≡ Some (tt, bs)) → IfOk (beside_metadata r) (λ d. first ≡ Some d)
values (Ok bs) first e = e
values (Err x) first e = e

keeps : (k : Call) (v w : View) → Effect k v w → InOrder (bare_traffic (moved k v)) (bare (waiting v)) (received v) (bare (waiting w)) (received w)
keeps Look v w h = idle (ap (λ x. bare (waiting x)) h) (ap received h)
keeps (SendSlice bs r) v w h =
    by_transfers (bare_sends (is_ok r) (tt, bs)) (sending (is_ok r) (without_checksum (tt, bs)) (ap bare h.2 ∙ bare_added (is_ok r) (tt, bs) (waiting v)) (ap received h.1))
keeps (Recv r) v w h =
    let first = first_packet v.rx_buffer in
    receiving v.rx_buffer w.rx_buffer (beside_metadata r) (record { answer = answers r first h.0; value = values r first h.1 }) h.2.queue.packets (ap (λ x. bare (waiting x)) h.2.same)
keeps (RecvSlice before after r) v w h = copying_out v.rx_buffer w.rx_buffer before after (with_metadata tt r) h.0 h.1.queue.packets (ap (λ x. bare (waiting x)) h.1.same)
keeps Peek v w h = idle (ap (λ x. bare (waiting x)) h) (ap received h ∙ packets_skipped v.rx_buffer)
keeps (Process f ip payload) v w h =
    let packet = whole_packet f.checksums ip payload in queueing (takes (length packet) v.rx_buffer) (tt, packet) (ap (λ x. bare (waiting x)) h.0) h.1

module _ {C E F G : Type 0} (facts : C → Facts) (emit : Emit F C (IpRepr × Bor (List ℕ)) E)
    (write : Once G (MutBor (List ℕ) × Unit {0}) (ℕ × (MutBor (List ℕ) × Unit {0}))) where
  written : (r : Result ℕ SendError) (size : ℕ) (m : Unit {0}) (f : G) (v : View) (t : Transfers (Unit {0}) Outgoing) (w : View) → Written write r size m f v.tx_buffer t w.tx_buffer → received w ≡ received v
      → InOrder (bare_traffic t) (bare (waiting v)) (received v) (bare (waiting w)) (received w)
  written (Ok kept) size m f v t w h same =
      let d : Unit {0} × List ℕ = (m, take kept h.0.0.appends.left) in
      by_transfers (ap bare_traffic h.1) (sending true (without_checksum d) (ap bare h.0.0.packets ∙ bare_added true d (waiting v)) same)
  written (Err x) size m f v t w h same = by_transfers (ap bare_traffic h.1) (idle (ap bare h.0.1) same)

  step : (k : AnyCall Call (Unit {0}) SendError C E F G) (v : View) (t : Transfers (Unit {0}) Outgoing) (w : View) → AnyEffect facts emit write k v t w → InOrder (bare_traffic t) (bare (waiting v)) (received v) (bare (waiting w)) (received w)
  step (Plain k) v t w h = by_transfers (ap bare_traffic h.1) (keeps k v w h.0)
  step (SendWith size m f r) v t w h = written r size m f v t w h.0 (ap received h.1)
  step (Dispatch before after f r) v t w h =
      by_transfers (ap bare_traffic h.1 ∙ bare_departs (is_ok r) h.0.planned (waiting v))
      (departing (is_ok r) h.0.planned (ap bare h.0.queue ∙ bare_removed (is_ok r) (is_sent (facts before).checksums.ipv4) (waiting v)) (ap received h.0.same))

  pub in_order : (calls : List (AnyCall Call (Unit {0}) SendError C E F G)) (v w : View) (t : Transfers (Unit {0}) Outgoing) → Runs (AnyEffect facts emit write) calls v t w → InOrder (bare_traffic t) (bare (waiting v)) (received v) (bare (waiting w)) (received w)
  in_order calls v w t h = runs (AnyEffect facts emit write) (λ x. bare (waiting x)) received bare_traffic refl bare_both step calls v t w h
