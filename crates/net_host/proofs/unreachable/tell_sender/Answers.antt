use Rattle.std.proofs.Common.{rules, ◌≡◌, ◌∙◌, ◌&&◌, sym, false, is_some, option_map}
use Rattle.ip_wire.specs.IpHeader.{dst_addr_of, src_addr_of}
use Rattle.sock_tcp.specs.View.{moment_of}
use Rattle.net_host.specs.Filing.{number_of}
use Rattle.net_host.specs.Limits.{allows}
use Rattle.net_host.specs.Messages.{mail_of}
use Rattle.net_host.specs.Unreachable.{error_of, wanted}
use Rattle.net_host.proofs.Told.{tells, tells_none}
use Rattle.net_host.proofs.unreachable.tell_sender.Goals as goal

pub returns-clause-told : goal.returns-clause-told
returns-clause-told g c =
    let at : c.now-2.result ≡ moment_of (g.C.Context.facts c.args.cx.now) = search rules in
    let error : option_map mail_of c.wanted-error.result ≡ wanted ((g.C.Context.facts c.args.cx.now).has_address (dst_addr_of c.args.ip.now)) (is_some c.first_raw-raw.result) (error_of c.args.unmet c.args.ip.now c.args.bytes.now c.ip_mtu-mtu.result) = search rules in
    tells (g.C.Context.facts c.args.cx.now) c.args.unmet c.args.ip.now c.args.bytes.now c.args.sockets.now.slots.items c.args.limit.now c.within_limit-answer.new.limit c.args.out.now c.put_answer.new.out c.put_answer.result c.first_raw-raw.result (option_map mail_of c.wanted-error.result) (option_map mail_of c.within_limit-answer.result) c.ip_mtu-mtu.result c.now-2.result c.checksum_caps.result
    c.first_raw-raw.ensures.finds c.ip_mtu-mtu.ensures.value at c.checksum_caps.ensures error c.within_limit-answer.ensures.told c.within_limit-answer.ensures.limit c.put_answer.ensures.len c.put_answer.ensures.bytes

pub returns-then-not-may_tell-clause-told : goal.returns-then-not-may_tell-clause-told
returns-then-not-may_tell-clause-told g c =
    let at : c.now.result ≡ moment_of (g.C.Context.facts c.args.cx.now) = search rules in
    let own : c.has_ip_addr-own.result ≡ (g.C.Context.facts c.args.cx.now).has_address (dst_addr_of c.args.ip.now) = search rules in
    let not_told : c.may_tell.result ≡ false = search rules in
    let none : (c.has_ip_addr-own.result && (is_some (option_map mail_of c.error_of-error.result) && allows c.args.limit.now (number_of (src_addr_of c.args.ip.now)) c.now.result)) ≡ false = sym c.may_tell.ensures ∙ not_told in
    tells_none (g.C.Context.facts c.args.cx.now) c.args.unmet c.args.ip.now c.args.bytes.now c.args.sockets.now.slots.items c.args.limit.now c.args.out.now c.has_ip_addr-own.result (option_map mail_of c.error_of-error.result) c.ip_mtu-mtu.result c.now.result own c.error_of-error.ensures c.ip_mtu-mtu.ensures.value at none
