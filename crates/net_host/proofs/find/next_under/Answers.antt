use Rattle.std.proofs.Common.{◌≡◌, ◌<◌, length, get_or, arith}
use Rattle.host_index.specs.Entries.{nothing}
use Rattle.net_host.proofs.Under.{first_there, none_at_end, none_before, none_behind}
use Rattle.net_host.proofs.find.next_under.Goals as goal

pub returns-then-len-p : goal.returns-then-len-p
returns-then-len-p c = none_at_end c.args.index.now.entries c.args.key c.args.start c.args.end c.lower-p.result c.lower-p.ensures.splits (omega arith)

pub returns-in-Before : goal.returns-in-Before
returns-in-Before c =
    let within : c.lower-p.result < length c.args.index.now.entries = omega arith in
    let is : c.get-entry.result ≡ get_or c.args.index.now.entries c.lower-p.result nothing = c.get-entry.ensures in
    none_before c.args.index.now.entries c.args.key c.args.start c.args.end c.lower-p.result c.lower-p.ensures.splits c.get-entry.result within is c.requires c.in-Before.ensures

pub returns-in-Under : goal.returns-in-Under
returns-in-Under c =
    let within : c.lower-p.result < length c.args.index.now.entries = omega arith in
    let is : c.get-entry.result ≡ get_or c.args.index.now.entries c.lower-p.result nothing = c.get-entry.ensures in
    first_there c.args.index.now.entries c.args.key c.args.start c.args.end c.lower-p.result c.lower-p.ensures.splits c.get-entry.result within is c.lower-p.ensures.sorted c.in-Under.ensures.0 c.in-Under.ensures.1 c.if_before.result c.if_before.ensures

pub returns-in-Behind : goal.returns-in-Behind
returns-in-Behind c =
    let within : c.lower-p.result < length c.args.index.now.entries = omega arith in
    let is : c.get-entry.result ≡ get_or c.args.index.now.entries c.lower-p.result nothing = c.get-entry.ensures in
    none_behind c.args.index.now.entries c.args.key c.args.start c.args.end c.lower-p.result c.lower-p.ensures.splits c.get-entry.result within is c.requires c.lower-p.ensures.sorted (omega arith) c.in-Behind.ensures
