-- What a control block keeps beside a flag, as an option takes the room of two moments.
use Rattle.net_base.specs.declared.time.Instant.{Instant}
use Rattle.sock_tcp.specs.declared.kept.DelayKind.{DelayKind}
use Rattle.sock_tcp.specs.declared.kept.DelayKind.TheVariants as kind
use Rattle.sock_tcp.specs.declared.timer.AckDelayTimer.{AckDelayTimer}
use Rattle.sock_tcp.specs.declared.timer.AckDelayTimer.TheVariants as ack_delay

-- how long an acknowledgement may wait
abbrev pub delay_kept : DelayKind → Instant → AckDelayTimer
delay_kept kind.Idle t = ack_delay.Idle
delay_kept kind.Waiting t = ack_delay.Waiting t
delay_kept kind.Immediate t = ack_delay.Immediate
