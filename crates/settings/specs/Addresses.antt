-- Where viewers are waited for, and where the hosts are.
use Rattle.std.specs.Prelude.{◌≡◌, ◌++◌, ◌⊎◌, codes, ℕ, List, IsSomeAnd, MatchOption, None, Option}
use Rattle.std.specs.String.{string_bytes}
use Rattle.std.specs.Net.Grammar.{IsIpText, IsSocketText}
use Rattle.std.specs.declared.net.ip_addr.IpAddr.{IpAddr}
use Rattle.std.specs.Net.Socket.{IsPlainSocket, socket_ip}
use Rattle.std.specs.declared.net.socket_addr.SocketAddr.{SocketAddr}
use Rattle.roles.specs.declared.role.Role.{Role}
use Rattle.settings.specs.declared.values.Settings.{Settings}
use Rattle.settings.specs.ByRole.{bind_for, port_for, web_port_for}

-- The first text is the other in square brackets, as an IPv6 address is written before a port (RFC 3986, section
-- 3.2.2).
abbrev pub IsBracketed : List ℕ → List ℕ → Type 0
IsBracketed text inner = text ≡ codes "[" ++ (inner ++ codes "]")

-- The text to bind writes this address, perhaps in brackets.
abbrev pub IsBindText : List ℕ → IpAddr → Type 0
IsBindText text ip = IsIpText text ip ⊎ ((inner : List ℕ) × IsBracketed text inner × IsIpText inner ip)

-- The address at which the viewers of a role come in: the IP address that the settings' text to bind says for them, and
-- the port of the role, without a flow label or a scope.
pub record IsAddressFor (role : Role) (settings : Settings) (address : SocketAddr) : Type 0 where
  pub ip : IsBindText (bind_for role settings) (socket_ip address)
  pub port : IsPlainSocket address (port_for role settings)

-- The address at which the browsers of a role come in: the same IP address, at a port of theirs.
pub record IsWebAddressFor (role : Role) (settings : Settings) (address : SocketAddr) : Type 0 where
  pub ip : IsBindText (bind_for role settings) (socket_ip address)
  pub web_port : IsSomeAnd (web_port_for role settings) (λ port. IsPlainSocket address port)

-- The proxy that is believed: the one whose address the settings' text writes, or none where they have none.
abbrev pub IsProxyFor : Settings → Option IpAddr → Type 0
IsProxyFor settings proxy = MatchOption settings.proxy_from (proxy ≡ None) (λ text. IsSomeAnd proxy (λ ip. IsBindText (string_bytes text) ip))

-- The address at which machines read the run's numbers: the settings' text writes it.
abbrev pub IsMetricsAddressFor : Settings → SocketAddr → Type 0
IsMetricsAddressFor settings address = IsSomeAnd settings.metrics (λ text. IsSocketText (string_bytes text) address)
