-- A reply, with the timestamp that its clock tells.
use Rattle.std.proofs.Common.{◌≡◌, ℕ, Option, Some, None, refl, ◌∙◌, ap}
use Rattle.ip_wire.specs.declared.repr.IpRepr.{IpRepr}
use Rattle.control_wire.specs.Segment.{Segment}
use Rattle.control_wire.specs.declared.tcp.TcpControl.{TcpControl}
use Rattle.control_wire.specs.declared.tcp.TcpControl.TheVariants as control
use Rattle.control_wire.specs.declared.tcp.TcpTimestampRepr.{TcpTimestampRepr}
use Rattle.sock_tcp.specs.Rfc.Numbers.{reply_numbered}
use Rattle.sock_tcp.specs.Process.{Outcome, source_kept}
use Rattle.sock_tcp.specs.Replies.{Answers, IsReplyStamp, echoed, with_header}
use Rattle.sock_tcp.specs.View.{View}
use Rattle.smoltcp_c.specs.Packets.{replied, reply_stamp}
use Rattle.smoltcp_c.specs.declared.clock.Clock.{Clock}

stamp_is : (clock : Option Clock) (came : Option ℕ) (c : TcpControl) (stamp : Option TcpTimestampRepr) → IsReplyStamp (λ (k : Clock) (t : ℕ). t ≡ k.tsval) clock came c stamp → stamp ≡ reply_stamp clock came c
stamp_is (Some k) (Some r) control.None (Some t) h = λ i. Some (record { tsval = h.0 i; tsecr = h.1 i })
stamp_is (Some k) (Some r) control.None None h = absurd h
stamp_is (Some k) (Some r) control.Psh stamp h = h
stamp_is (Some k) (Some r) control.Syn stamp h = h
stamp_is (Some k) (Some r) control.Fin stamp h = h
stamp_is (Some k) (Some r) control.Rst stamp h = h
stamp_is (Some k) None c stamp h = h
stamp_is None came c stamp h = h

reply_is : (clock : Option Clock) (came : Option ℕ) (ip : IpRepr) (o : Option Segment) (r : Option (IpRepr × Segment)) → Answers (IsReplyStamp (λ (k : Clock) (t : ℕ). t ≡ k.tsval) clock came) ip o r → r ≡ replied clock came ip o
reply_is clock came ip None None h = refl
reply_is clock came ip None (Some x) h = absurd h
reply_is clock came ip (Some s) None h = absurd h
reply_is clock came ip (Some s) (Some x) h = ap Some (h.is ∙ ap (λ stamp. with_header ip (record s { timestamp = stamp })) (stamp_is clock came s.control h.stamp h.is_stamp))

-- of the socket w that an outcome x leaves
pub reply_from : (clock k : Option Clock) (w : View) (x : Outcome) (came : Option TcpTimestampRepr) (ip : IpRepr) (r : Option (IpRepr × Segment)) → clock ≡ source_kept w.stamps k → w ≡ x.view → Answers (IsReplyStamp (λ (k : Clock) (t : ℕ). t ≡ k.tsval) clock (echoed w came)) ip (reply_numbered w x.reply) r → r ≡ replied (source_kept x.view.stamps k) (echoed x.view came) ip (reply_numbered x.view x.reply)
reply_from clock k w x came ip r c v h = reply_is clock (echoed w came) ip (reply_numbered w x.reply) r h ∙ ap (λ y. replied y (echoed w came) ip (reply_numbered w x.reply)) c ∙ ap (λ (u : View). replied (source_kept u.stamps k) (echoed u came) ip (reply_numbered u x.reply)) v
