use Rattle.std.proofs.Common.{◌≡◌, nat_eq, ◌∙◌, ap₂, arith}
use Rattle.ip_wire.specs.Octets.{be32_at}
use Rattle.net_host.proofs.SameNumbers.{same_numbers}
use Rattle.net_host.proofs.environment.are_same_octets.Goals as goal

pub returns : goal.returns
returns c =
    let first : c.from_be_bytes.result ≡ be32_at c.args.a.now 0 = (let is = c.from_be_bytes.ensures in omega (arith, is)) in
    let second : c.from_be_bytes-2.result ≡ be32_at c.args.b.now 0 = (let is = c.from_be_bytes-2.ensures in omega (arith, is)) in
    ap₂ nat_eq first second
    ∙ same_numbers c.args.a.now c.args.b.now c.told-a (λ k h. c.fits-a k) c.told-b (λ k h. c.fits-b k)
