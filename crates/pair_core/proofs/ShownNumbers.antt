-- A segment without bytes, SYN, FIN and RST may be sent with the highest number that was sent.
use Rattle.std.proofs.Common.{◌≡◌, ℕ, ◌+◌, Bool, true, false, true≢false, not, ◌&&◌, List, [], ◌∷◌, length, min, Option, Some, None, refl, sym, subst, ◌∙◌, arith, inl, inr, ◌⊎◌, ⊎_elim}
use Rattle.std.specs.Prelude.{◌==◌, option_map}
use Rattle.std.proofs.lemmas.Bool.{and_parts, eqb-true}
use Rattle.std.proofs.lemmas.Option.{none-some}
use Rattle.control_wire.specs.Segment.{Segment, control_len, is_empty_segment, is_plain, segment_len}
use Rattle.control_wire.specs.declared.tcp.TcpControl.{TcpControl}
use Rattle.control_wire.specs.declared.tcp.TcpControl.TheVariants as control
use Rattle.sock_core.specs.Streams.{ByteAt}
use Rattle.sock_tcp.specs.Due.{is_closed}
use Rattle.sock_tcp.specs.Rfc.Numbers.{highest_number, number_out_by, numbered, reply_numbered}
use Rattle.sock_tcp.specs.Rfc.Recovery.{sent_of}
use Rattle.sock_tcp.specs.View.{View}
use Rattle.sock_tcp.specs.declared.rules.Rules.{Rules}
use Rattle.sock_tcp.specs.declared.rules.Rules.TheVariants as rules
use Rattle.sock_tcp.specs.declared.state.State.{State}
use Rattle.sock_tcp.specs.declared.state.State.TheVariants as state
use Rattle.pair_core.specs.PairNetwork.{phase_of, shown, stream_segment, is_syn, is_rst, is_fin}
use Rattle.pair_core.specs.StreamCalls.{ClosesLate, EmitEffect, EmitsReset, EmitsSegment, EndsWithQueues, ProcessEffect, ReplyEffect, ResetReply, Segment as MayAnswer}
use Rattle.pair_core.specs.StreamEffects.{MaySend}
use Rattle.pair_core.specs.StreamViews.{Dead, FinQueued, HasIss, KnowsPeer, Phase, SocketView, StreamSegment}

no_bytes : (bs : List ℕ) → length bs ≡ 0 → (i b : ℕ) → ByteAt bs i b → ⊥
no_bytes [] e i b h = absurd (none-some b h)
no_bytes (x ∷ xs) e i b h = absurd (omega (arith, e))

module _ (v : View) (s : Segment) (released taken : ℕ) where
  abbrev at_highest : Segment
  at_highest = record s { seq_number = highest_number v }

  -- neither bytes nor a SYN nor a FIN
  pub highest_may : length s.payload ≡ 0 → is_syn s.control ≡ false → is_fin s.control ≡ false → MaySend (shown v) (stream_segment s released taken) → MaySend (shown v) (stream_segment at_highest released taken)
  highest_may empty syn fin m = record {
    plain = m.plain;
    iss = m.iss;
    content = inl (record {
      skip = min (sent_of v) (length v.tx_buffer.bytes + 1);
      seq = refl;
      bytes = λ i b h. absurd (no_bytes s.payload empty i b h);
      within = omega (arith, empty);
      fin = λ e. absurd (true≢false (sym e ∙ fin));
    });
    acks = record { says = m.acks.says };
    opens = λ e. absurd (true≢false (sym e ∙ syn));
  }

-- ---- what a dispatch emits

takes_none : (c : TcpControl) → control_len c ≡ 0 → (is_syn c ≡ false) × (is_fin c ≡ false)
takes_none control.None e = (refl, refl)
takes_none control.Psh e = (refl, refl)
takes_none control.Rst e = (refl, refl)
takes_none control.Syn e = absurd (omega (arith, e))
takes_none control.Fin e = absurd (omega (arith, e))

pub numbered_effect : (v : View) (s : Segment) (released taken : ℕ) → EmitEffect (shown v) (stream_segment s released taken) → EmitEffect (shown v) (stream_segment (numbered v s) released taken)
numbered_effect v s released taken h = by (segment_len s == 0) refl v.rules
  where
    with_number : length s.payload ≡ 0 → (is_syn s.control ≡ false) × (is_fin s.control ≡ false) → EmitEffect (shown v) (stream_segment s released taken) → EmitEffect (shown v) (stream_segment (at_highest v s released taken) released taken)
    with_number empty none (EmitsSegment m) = EmitsSegment (highest_may v s released taken empty none.0 none.1 m)
    with_number empty none (EmitsReset rst dead) = EmitsReset rst dead

    by : (b : Bool) → (segment_len s == 0) ≡ b → (r : Rules) → EmitEffect (shown v) (stream_segment (record s { seq_number = number_out_by b r v s.seq_number }) released taken)
    by false e r = h
    by true e rules.Smoltcp = h
    by true e rules.Rfc =
        let z : segment_len s ≡ 0 = eqb-true (segment_len s) 0 e in
        let n : control_len s.control ≡ 0 = omega (arith, z) in
        with_number (omega (arith, z)) (takes_none s.control n) h

-- ---- what answers a segment

says_nothing : (c : TcpControl) → is_plain c ≡ true → (is_syn c ≡ false) × (is_fin c ≡ false) × (is_rst c ≡ false)
says_nothing control.None e = (refl, refl, refl)
says_nothing control.Psh e = (refl, refl, refl)
says_nothing control.Rst e = absurd (true≢false (sym e))
says_nothing control.Syn e = absurd (true≢false (sym e))
says_nothing control.Fin e = absurd (true≢false (sym e))

-- what has neither a SYN nor a FIN may be sent in another phase too
in_phase : (v : SocketView) (p : Phase) (g : StreamSegment) → HasIss p → KnowsPeer p → g.syn ≡ false → g.fin ≡ false → MaySend v g → MaySend (record v { phase = p }) g
in_phase v p g iss knows syn fin m = record {
  plain = m.plain;
  iss = iss;
  content = ⊎_elim (λ b. inl (record { skip = b.skip; seq = b.seq; bytes = b.bytes; within = b.within; fin = λ f. absurd (true≢false (sym f ∙ fin)) })) (λ k. inr (record { seq = k.seq; bytes = k.bytes; fin = k.fin })) m.content;
  acks = record { says = λ a e. (knows, (m.acks.says a e).1) };
  opens = λ e. absurd (true≢false (sym e ∙ syn));
}

dead_is_closed : (st : State) → phase_of st ≡ Dead → is_closed st ≡ true
dead_is_closed state.Closed e = refl
dead_is_closed _ e = absurd cc

module _ (listener : Bool) (v : SocketView) (w : View) (g : StreamSegment) (released taken : ℕ) where
  abbrev Effect : Option Segment → Type 0
  Effect r = ProcessEffect listener v (shown w) g (option_map (λ (x : Segment). stream_segment x released taken) r)

  with_answer : (s z : Segment) (e : Effect (Some s)) → (ReplyEffect e.heard g (stream_segment s released taken) → ReplyEffect e.heard g (stream_segment z released taken)) → Effect (Some z)
  with_answer s z e to = record { heard = e.heard; hears = e.hears; answers = to e.answers; ends = e.ends }

  highest_answer : (s : Segment) → is_empty_segment s ≡ true → is_closed w.state ≡ false → Effect (Some s) → Effect (Some (record s { seq_number = highest_number w }))
  highest_answer s empty alive e = with_answer s (record s { seq_number = highest_number w }) e to
    where
      parts : (length s.payload ≡ 0) × (is_plain s.control ≡ true)
      parts = let h = and_parts (length s.payload == 0) (is_plain s.control) empty in (eqb-true (length s.payload) 0 h.0, h.1)

      none : (is_syn s.control ≡ false) × (is_fin s.control ≡ false) × (is_rst s.control ≡ false)
      none = says_nothing s.control parts.1

      -- where it was heard it may be sent with the highest number, as the socket now is
      may : (shown w ≡ e.heard) ⊎ EndsWithQueues e.heard (shown w) ⊎ ClosesLate e.heard (shown w) → MaySend e.heard (stream_segment s released taken) → MaySend e.heard (stream_segment (record s { seq_number = highest_number w }) released taken)
      may (inl is) m = subst (λ z. MaySend z (stream_segment (record s { seq_number = highest_number w }) released taken)) is (highest_may w s released taken parts.0 none.0 none.1 (subst (λ z. MaySend z (stream_segment s released taken)) (sym is) m))
      may (inr (inl d)) m = absurd (true≢false (sym (dead_is_closed w.state d.phase) ∙ alive))
      may (inr (inr c)) m =
          let there : MaySend (shown w) (stream_segment s released taken) = subst (λ z. MaySend z (stream_segment s released taken)) (sym c.is) (in_phase e.heard FinQueued (stream_segment s released taken) tt tt none.0 none.1 m) in
          let back : MaySend (record e.heard { phase = FinQueued }) (stream_segment (record s { seq_number = highest_number w }) released taken) = subst (λ z. MaySend z (stream_segment (record s { seq_number = highest_number w }) released taken)) c.is (highest_may w s released taken parts.0 none.0 none.1 there) in
          in_phase (record e.heard { phase = FinQueued }) e.heard.phase (stream_segment (record s { seq_number = highest_number w }) released taken) (subst HasIss (sym c.phase) tt) (subst KnowsPeer (sym c.phase) tt) none.0 none.1 back

      to : ReplyEffect e.heard g (stream_segment s released taken) → ReplyEffect e.heard g (stream_segment (record s { seq_number = highest_number w }) released taken)
      to (MayAnswer m) = MayAnswer (may e.ends m)
      to (ResetReply a rst plain opening ack other) = absurd (true≢false (sym rst ∙ none.2))

  pub renumbered_effect : (r : Option Segment) → Effect r → Effect (reply_numbered w r)
  renumbered_effect None e = e
  renumbered_effect (Some s) e = by (is_empty_segment s && not (is_closed w.state)) refl w.rules
    where
      by : (b : Bool) → (is_empty_segment s && not (is_closed w.state)) ≡ b → (r : Rules) → Effect (Some (record s { seq_number = number_out_by b r w s.seq_number }))
      by false i r = e
      by true i rules.Smoltcp = e
      by true i rules.Rfc = let h = and_parts (is_empty_segment s) (not (is_closed w.state)) i in highest_answer s h.0 (open_is (is_closed w.state) h.1) e
        where
          open_is : (b : Bool) → not b ≡ true → b ≡ false
          open_is true e = absurd (true≢false (sym e))
          open_is false e = refl
