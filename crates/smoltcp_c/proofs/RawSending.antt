-- What a raw socket emits is a packet, and a dispatch writes it.
use Rattle.std.proofs.Common.{◌+◌, ◌++◌, length, take, append_assoc, length-take-le, sym, arith, ◌≡◌, ℕ, List, true, ◌∙◌, ap}
use Rattle.std.specs.Prelude.{◌≤◌, Result, cond, drop}
use Rattle.std.proofs.lemmas.List.{drop_at}
use Rattle.std.specs.Borrow.{Bor, MutBor}
use Rattle.ip_wire.specs.declared.repr.IpRepr.{IpRepr}
use Rattle.sock_core.specs.Emission.{Emit}
use Rattle.sock_dgram.specs.Raw.{View, waiting}
use Rattle.sock_dgram.specs.RawDispatch.{Dispatched, first_prepared, outgoing_of}
use Rattle.smoltcp_c.specs.Answers.{sent_answer}
use Rattle.smoltcp_c.specs.Raw.{DispatchesRaw, WritesRaw, raw_len, raw_packet}
use Rattle.smoltcp_c.specs.declared.wire.Full.{Full}
use Rattle.smoltcp_c.specs.declared.wire.Wire.{Wire}
use Rattle.smoltcp_c.proofs.Sending.{sent}

-- a payload was written behind n places, and then a header in front of it
pub headed : (h p out a b : List ℕ) (n : ℕ) → n + length p ≤ length out → a ≡ take n out ++ (p ++ drop (n + length p) out) → b ≡ h ++ drop n a → b ≡ (h ++ p) ++ drop (n + length p) out
headed h p out a b n room written last =
    let l : length (take n out) ≡ n = length-take-le n out (omega (arith, room)) in
    last ∙ ap (λ x. h ++ x) (ap (drop n) written ∙ drop_at (take n out) (p ++ drop (n + length p) out) n l) ∙ sym (append_assoc h p (drop (n + length p) out))

module _ {F : Type 0} (g : Emit F Wire (IpRepr × Bor (List ℕ)) Full) (f : F) (says : (shown left : MutBor Wire) (s : IpRepr × Bor (List ℕ)) (r : Result (Unit {0}) Full) → g.post f (shown, (s, tt)) (r, (left, tt)) → WritesRaw (outgoing_of s) shown.now r left.now) where
  pub dispatched : (c c' : Wire) (v w : View) (r : Result (Unit {0}) Full) → c.len ≡ 0 → Dispatched g f true v c r c' w → DispatchesRaw v c.out.now (sent_answer r c'.len) w c'.out.now × (c'.out.ghost_name ≡ c.out.ghost_name)
  dispatched c c' v w r zero d =
      let h = sent raw_len raw_packet (λ o. raw_len o ≤ 65535) outgoing_of g f says d.planned c c' r zero (λ o e short. short) d.emits in (
        record {
          planned = d.planned;
          plans = d.plans;
          sends = record { answer = h.answer; written = h.written };
          queue = d.queue ∙ ap (λ b. cond b (drop 1 (waiting v)) (first_prepared true (waiting v))) h.ok;
          sent = λ t. d.emitted (h.ok ∙ t);
          failed = λ t. d.failed (h.ok ∙ t);
          same = d.same;
        },
        h.same_buffer,
      )
