-- An IPv6 address has one canonical form.
use Rattle.std.proofs.Common.{◌≡◌, sym, ap, ◌∙◌}
use Rattle.std.specs.Net.Addr.{IsCanonicalOf}
use Rattle.std.specs.declared.net.ipv4_addr.Ipv4Addr.{Ipv4Addr}
use Rattle.std.specs.declared.net.ipv6_addr.Ipv6Addr.{Ipv6Addr}
use Rattle.std.specs.declared.net.ip_addr.IpAddr.{IpAddr}
use Rattle.std.specs.declared.net.ip_addr.IpAddr.TheVariants.{V4, V6}

pub is_one : (a : Ipv6Addr) (c d : IpAddr) → IsCanonicalOf a c → IsCanonicalOf a d → c ≡ d
is_one a (V4 c) (V4 d) p q = ap (λ octets. V4 (record { octets = octets })) (p.1 ∙ sym q.1)
is_one a (V4 c) (V6 d) p q = absurd (q.0 p.0)
is_one a (V6 c) (V4 d) p q = absurd (p.0 q.0)
is_one a (V6 c) (V6 d) p q = cc
