-- Three runs, so the steps are not empty: an ordinary one, a fall-back to LISTEN, and two sides that connect at once.
use Rattle.std.proofs.Common.{◌≡◌, ℕ, zero, suc, ◌+◌, ◌%◌, ◌^◌, ◌<◌, Bool, true, false, refl, sym, ap, subst, ◌∙◌, arith, List, [], ◌∷◌, length, Some, None, inl, inr}
use Rattle.std.proofs.lemmas.List.{append-nil}
use Rattle.sock_core.specs.Streams.{ByteAt, fin_length}
use Rattle.pair_core.specs.Network.{Accepts, AnswersFinished, Closes, Connects, Dies, Emits, Endpoint, HandsOut, Hears, IsStamped, Listens, Network}
use Rattle.pair_core.specs.NetworkRuns.{Run, start, unopened}
use Rattle.pair_core.specs.StreamCalls.{Acknowledgement, FallBack, EmitsSegment, EmitsReset, Syn, SynAck, SynAlone}
use Rattle.pair_core.specs.StreamEffects.{AcksSyn, Brings, HearsData, MaySend, SendsPayload}
use Rattle.pair_core.specs.StreamViews.{FinQueued, Dead, HasIss, KnowsPeer, Listening, Phase, Open, SocketView, StreamSegment, SynReceived, SynSent}

abbrev view : Phase → ℕ → ℕ → ℕ → List ℕ → List ℕ → Bool → SocketView
view p una nxt rcv tx rx fin = record { phase = p; snd_una = una; snd_nxt = nxt; rcv_nxt = rcv; transmit_queue = tx; receive_queue = rx; held = λ k. None; fin_counted = fin }

abbrev side : SocketView → List ℕ → List ℕ → ℕ → Bool → Bool → Endpoint
side v accepted handed_out taken closed listener = record { view = v; accepted = accepted; handed_out = handed_out; released = 0; taken = taken; closed = closed; listener = listener }

abbrev net : Endpoint → Endpoint → List StreamSegment → List StreamSegment → Network
net a b from_a from_b = record { local = a; remote = b; local_segments = from_a; remote_segments = from_b; limit = Some 10 }

-- the three segments
abbrev syn : StreamSegment
syn = record { syn = true; rst = false; fin = false; seq = 1000; payload = []; ack = None; released_at = 0; taken_at = 0 }

abbrev syn_ack : StreamSegment
syn_ack = record { syn = true; rst = false; fin = false; seq = 5000; payload = []; ack = Some 1001; released_at = 0; taken_at = 0 }

abbrev data_fin : StreamSegment
data_fin = record { syn = false; rst = false; fin = true; seq = 1001; payload = 7 ∷ []; ack = Some 5001; released_at = 0; taken_at = 0 }

-- the connecting side: after connect, the SYN's acknowledgement, the send and the close
abbrev a1 : Endpoint
a1 = side (view SynSent 1000 1000 0 [] [] false) [] [] 0 false false

abbrev a2 : Endpoint
a2 = side (view Open 1001 1001 5001 [] [] false) [] [] 0 false false

abbrev a3 : Endpoint
a3 = side (view Open 1001 1001 5001 (7 ∷ []) [] false) (7 ∷ []) [] 0 false false

abbrev a4 : Endpoint
a4 = side (view FinQueued 1001 1001 5001 (7 ∷ []) [] false) (7 ∷ []) [] 0 true false

-- the listening side: after listen, the SYN, the data with the FIN, and the read
abbrev b1 : Endpoint
b1 = side (view Listening 0 0 0 [] [] false) [] [] 0 false true

abbrev b2 : Endpoint
b2 = side (view SynReceived 5000 5000 1001 [] [] false) [] [] 0 false true

abbrev b3 : Endpoint
b3 = side (view Open 5001 5001 1003 [] (7 ∷ []) true) [] [] 1 false true

abbrev b4 : Endpoint
b4 = side (view Open 5001 5001 1003 [] [] true) [] (7 ∷ []) 1 false true

-- a segment with no bytes at SND.UNA
bare : (v : SocketView) (g : StreamSegment) → g.seq ≡ v.snd_una % 2 ^ 32 → g.payload ≡ [] → g.fin ≡ false → SendsPayload v g
bare v g seq none fin = record {
  skip = 0;
  seq = seq ∙ ap (λ n. n % 2 ^ 32) (omega arith);
  bytes = λ i b h. let e : None ≡ Some b = subst (λ xs. ByteAt xs i b) none h in cc;
  within = omega (arith, ap length none);
  fin = λ e. let no : true ≡ false = sym e ∙ fin in cc;
}

-- a segment acknowledges one number
acked : (n a : ℕ) → Some n ≡ Some a → a ≡ n
acked n a e = cc

-- a first SYN may be sent
first_syn : (v : SocketView) (g : StreamSegment) → g.rst ≡ false → g.fin ≡ false → g.payload ≡ [] → g.ack ≡ None → v.phase ≡ SynSent → g.seq ≡ v.snd_una → g.seq ≡ v.snd_una % 2 ^ 32 → MaySend v g
first_syn v g plain fin none no_ack ph at small = record {
  plain = plain;
  iss = subst HasIss (sym ph) tt;
  content = inl (bare v g small none fin);
  acks = record { says = λ a h. let e : None ≡ Some a = sym no_ack ∙ h in cc };
  opens = λ e. (inl ph, at);
}

-- so may a SYN that acknowledges the other
second_syn : (v : SocketView) (g : StreamSegment) (n : ℕ) → g.rst ≡ false → g.fin ≡ false → g.payload ≡ [] → g.ack ≡ Some n → v.phase ≡ SynReceived → v.rcv_nxt ≡ n → g.seq ≡ v.snd_una → g.seq ≡ v.snd_una % 2 ^ 32 → MaySend v g
second_syn v g n plain fin none ack ph nxt at small = record {
  plain = plain;
  iss = subst HasIss (sym ph) tt;
  content = inl (bare v g small none fin);
  acks = record { says = λ a h. (subst KnowsPeer (sym ph) tt, acked n a (sym ack ∙ h) ∙ sym nxt) };
  opens = λ e. (inr ph, at);
}

-- the byte and the FIN are heard
hears_byte : HearsData b2.view b3.view data_fin
hears_byte = record {
  more = 7 ∷ [];
  receive_queue = refl;
  joined = only;
  held = λ k b h. let e : None ≡ Some b = h in cc;
  fin = λ e. inr (1, refl, omega arith, omega arith, refl);
  kept = λ e. refl;
  fins = 1;
  fin_counts = refl;
  rcv_nxt = refl;
}
  where
    only : (k b : ℕ) → ByteAt (7 ∷ []) k b → Brings b2.view data_fin k b
    only zero b h = inr (0, omega arith, refl, h)
    only (suc k) b h = let e : None ≡ Some b = h in cc

-- each network on the way
pub way : List Network
way = net unopened b1 [] [] ∷ net a1 b1 [] [] ∷ net a1 b1 (syn ∷ []) [] ∷ net a1 b2 (syn ∷ []) [] ∷ net a1 b2 (syn ∷ []) (syn_ack ∷ []) ∷ net a2 b2 (syn ∷ []) (syn_ack ∷ []) ∷ net a3 b2 (syn ∷ []) (syn_ack ∷ []) ∷ net a4 b2 (syn ∷ []) (syn_ack ∷ []) ∷ net a4 b2 (syn ∷ data_fin ∷ []) (syn_ack ∷ []) ∷ net a4 b3 (syn ∷ data_fin ∷ []) (syn_ack ∷ []) ∷ net a4 b4 (syn ∷ data_fin ∷ []) (syn_ack ∷ []) ∷ []

-- and the last of them
abbrev pub end : Network
end = net a4 b4 (syn ∷ data_fin ∷ []) (syn_ack ∷ [])

-- no count has grown when the stamps are 0
stamped : (e : Endpoint) (g : StreamSegment) → g.released_at ≡ 0 → g.taken_at ≡ 0 → IsStamped e g
stamped e g r t = record { released = omega (arith, r); taken = omega (arith, t) }

-- each is one step after the one before
pub runs : Run (start (Some 10)) way end
unfolding way
runs = (
  inr (Listens refl refl),
  (
    inl (Connects 1000 (omega arith) refl refl),
    (
      inl (Emits syn (λ plain. stamped a1 syn refl refl) (EmitsSegment (first_syn a1.view syn refl refl refl refl refl refl refl)) refl),
      (
        inr (Hears syn b2.view (record { sent = (0, omega arith, refl); may = inr tt }) (Syn 5000 (omega arith) refl refl refl refl) refl),
        (
          inr (Emits syn_ack (λ plain. stamped b2 syn_ack refl refl) (EmitsSegment (second_syn b2.view syn_ack 1001 refl refl refl refl refl refl refl refl)) refl),
          (
            inl (Hears syn_ack a2.view (record { sent = (0, omega arith, refl); may = inr tt }) (SynAck refl refl refl (AcksSyn 1001 refl refl (inl refl) refl refl refl (record { flight = 0; is = refl; le = omega arith })) refl refl refl refl refl) refl),
            (
              inl (Accepts (7 ∷ []) refl (omega arith) (omega arith) refl),
              (
                inl (Closes refl refl),
                (
                  inl (Emits data_fin (λ plain. stamped a4 data_fin refl refl) (EmitsSegment (record { plain = refl; iss = tt; content = inl (record { skip = 0; seq = refl; bytes = λ i b h. subst (λ n. ByteAt (7 ∷ []) n b) {x = i} {y = 0 + i} (omega arith) h; within = omega arith; fin = λ e. (refl, refl) }); acks = record { says = λ a h. (tt, acked 5001 a h) }; opens = λ e. let no : false ≡ true = e in cc })) refl),
                  (
                    inr (Hears data_fin b3.view (record { sent = (1, omega arith, refl); may = inr tt }) (Acknowledgement refl tt hears_byte (AcksSyn 5001 refl refl (inr refl) refl refl refl (record { flight = 0; is = refl; le = omega arith })) tt) refl),
                    (
                      inr (HandsOut 1 refl),
                      refl,
                    ),
                  ),
                ),
              ),
            ),
          ),
        ),
      ),
    ),
  ),
)

-- at the end the listener handed out the byte, and its next read answers Finished
pub ordinary_run : (way : List Network) × (end : Network) × Run (start (Some 10)) way end × (end.remote.handed_out ≡ 7 ∷ []) × AnswersFinished end.remote
ordinary_run = (way, end, runs, refl, record { counted = refl; empty = refl })

-- ---- a listener falls back

abbrev rst : StreamSegment
rst = record { syn = false; rst = true; fin = false; seq = 1001; payload = []; ack = None; released_at = 0; taken_at = 0 }

-- the connecting side after its abort, and the listening side after the RST
abbrev a5 : Endpoint
a5 = side (view Dead 1000 1000 0 [] [] false) [] [] 0 false false

abbrev b5 : Endpoint
b5 = side (view Listening 5000 5000 1001 [] [] false) [] [] 0 false true

-- each network on the way
way_back : List Network
way_back = net unopened b1 [] [] ∷ net a1 b1 [] [] ∷ net a1 b1 (syn ∷ []) [] ∷ net a1 b2 (syn ∷ []) [] ∷ net a5 b2 (syn ∷ []) [] ∷ net a5 b2 (syn ∷ rst ∷ []) [] ∷ net a5 b5 (syn ∷ rst ∷ []) [] ∷ []

-- each is one step after the one before
runs_back : Run (start (Some 10)) way_back (net a5 b5 (syn ∷ rst ∷ []) [])
unfolding way_back
runs_back = (
  inr (Listens refl refl),
  (
    inl (Connects 1000 (omega arith) refl refl),
    (
      inl (Emits syn (λ plain. stamped a1 syn refl refl) (EmitsSegment (first_syn a1.view syn refl refl refl refl refl refl refl)) refl),
      (
        inr (Hears syn b2.view (record { sent = (0, omega arith, refl); may = inr tt }) (Syn 5000 (omega arith) refl refl refl refl) refl),
        (
          inl (Dies a5.view (record { phase = refl; receive_queue = inl refl; fin = λ e. let no : false ≡ true = e in cc }) refl),
          (
            inl (Emits rst (λ plain. stamped a5 rst refl refl) (EmitsReset refl refl) refl),
            (
              inr (Hears rst b5.view (record { sent = (1, omega arith, refl); may = inr tt }) (FallBack refl refl refl refl) refl),
              refl,
            ),
          ),
        ),
      ),
    ),
  ),
)

-- at the end the listener is in LISTEN again, with the number of its first life still there
pub fall_back_run : (way : List Network) × (end : Network) × Run (start (Some 10)) way end × (end.remote.view.phase ≡ Listening) × (end.remote.view.snd_una ≡ 5000)
fall_back_run = (way_back, net a5 b5 (syn ∷ rst ∷ []) [], runs_back, refl, refl)

-- ---- both connect

-- the other side's SYN, and the SYNs with an acknowledgement
abbrev syn_back : StreamSegment
syn_back = record { syn = true; rst = false; fin = false; seq = 5000; payload = []; ack = None; released_at = 0; taken_at = 0 }

abbrev syn_ack_there : StreamSegment
syn_ack_there = record { syn = true; rst = false; fin = false; seq = 1000; payload = []; ack = Some 5001; released_at = 0; taken_at = 0 }

-- each side with its SYN sent, with the other's SYN heard, and with its own acknowledged
abbrev c1 : Endpoint
c1 = side (view SynSent 5000 5000 0 [] [] false) [] [] 0 false false

abbrev a6 : Endpoint
a6 = side (view SynReceived 1000 1001 5001 [] [] false) [] [] 0 false false

abbrev c2 : Endpoint
c2 = side (view SynReceived 5000 5001 1001 [] [] false) [] [] 0 false false

abbrev c3 : Endpoint
c3 = side (view Open 5001 5001 1001 [] [] false) [] [] 0 false false

-- a segment without bytes or a FIN brings nothing
hears_nothing : (v w : SocketView) (g : StreamSegment) → w.receive_queue ≡ v.receive_queue → ((k b : ℕ) → w.held k ≡ Some b → ⊥) → v.fin_counted ≡ false → w.fin_counted ≡ false → v.rcv_nxt < 2 ^ 32 → w.rcv_nxt ≡ v.rcv_nxt → HearsData v w g
hears_nothing v w g queue none before after small nxt = record {
  more = [];
  receive_queue = queue ∙ sym (append-nil v.receive_queue);
  joined = λ k b h. let e : None ≡ Some b = h in cc;
  held = λ k b h. absurd (none k b h);
  fin = λ e. let no : true ≡ false = sym e ∙ after in cc;
  kept = λ e. let no : true ≡ false = sym e ∙ before in cc;
  fins = 0;
  fin_counts = ap fin_length (after ∙ sym before) ∙ omega arith;
  rcv_nxt = nxt ∙ omega (arith, small);
}

-- each network on the way
way_crossed : List Network
way_crossed = net a1 unopened [] [] ∷ net a1 c1 [] [] ∷ net a1 c1 (syn ∷ []) [] ∷ net a1 c1 (syn ∷ []) (syn_back ∷ []) ∷ net a6 c1 (syn ∷ []) (syn_back ∷ []) ∷ net a6 c2 (syn ∷ []) (syn_back ∷ []) ∷ net a6 c2 (syn ∷ syn_ack_there ∷ []) (syn_back ∷ []) ∷ net a6 c2 (syn ∷ syn_ack_there ∷ []) (syn_back ∷ syn_ack ∷ []) ∷ net a2 c2 (syn ∷ syn_ack_there ∷ []) (syn_back ∷ syn_ack ∷ []) ∷ net a2 c3 (syn ∷ syn_ack_there ∷ []) (syn_back ∷ syn_ack ∷ []) ∷ []

-- each is one step after the one before
runs_crossed : Run (start (Some 10)) way_crossed (net a2 c3 (syn ∷ syn_ack_there ∷ []) (syn_back ∷ syn_ack ∷ []))
unfolding way_crossed
runs_crossed = (
  inl (Connects 1000 (omega arith) refl refl),
  (
    inr (Connects 5000 (omega arith) refl refl),
    (
      inl (Emits syn (λ plain. stamped a1 syn refl refl) (EmitsSegment (first_syn a1.view syn refl refl refl refl refl refl refl)) refl),
      (
        inr (Emits syn_back (λ plain. stamped c1 syn_back refl refl) (EmitsSegment (first_syn c1.view syn_back refl refl refl refl refl refl refl)) refl),
        (
          inl (Hears syn_back a6.view (record { sent = (0, omega arith, refl); may = inr tt }) (SynAlone 1001 (record { flight = 1; is = refl; le = omega arith }) refl refl refl refl) refl),
          (
            inr (Hears syn c2.view (record { sent = (0, omega arith, refl); may = inr tt }) (SynAlone 5001 (record { flight = 1; is = refl; le = omega arith }) refl refl refl refl) refl),
            (
              inl (Emits syn_ack_there (λ plain. stamped a6 syn_ack_there refl refl) (EmitsSegment (second_syn a6.view syn_ack_there 5001 refl refl refl refl refl refl refl refl)) refl),
              (
                inr (Emits syn_ack (λ plain. stamped c2 syn_ack refl refl) (EmitsSegment (second_syn c2.view syn_ack 1001 refl refl refl refl refl refl refl refl)) refl),
                (
                  inl (Hears syn_ack a2.view (record { sent = (1, omega arith, refl); may = inr tt }) (Acknowledgement refl tt (hears_nothing a6.view a2.view syn_ack refl (λ k b h. let e : None ≡ Some b = h in cc) refl refl (omega arith) refl) (AcksSyn 1001 refl refl (inr refl) refl refl refl (record { flight = 0; is = refl; le = omega arith })) tt) refl),
                  (
                    inr (Hears syn_ack_there c3.view (record { sent = (1, omega arith, refl); may = inr tt }) (Acknowledgement refl tt (hears_nothing c2.view c3.view syn_ack_there refl (λ k b h. let e : None ≡ Some b = h in cc) refl refl (omega arith) refl) (AcksSyn 5001 refl refl (inr refl) refl refl refl (record { flight = 0; is = refl; le = omega arith })) tt) refl),
                    refl,
                  ),
                ),
              ),
            ),
          ),
        ),
      ),
    ),
  ),
)

-- at the end both may send
pub crossed_run : (way : List Network) × (end : Network) × Run (start (Some 10)) way end × (end.local.view.phase ≡ Open) × (end.remote.view.phase ≡ Open)
crossed_run = (way_crossed, net a2 c3 (syn ∷ syn_ack_there ∷ []) (syn_back ∷ syn_ack ∷ []), runs_crossed, refl, refl)
