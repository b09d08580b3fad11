-- What a browser is answered at the web port of a role (own).
use Rattle.std.specs.Prelude.{◌≡◌, Bool, true, false, codes, List, All, map}
use Rattle.std.specs.List.{Contains}
use Rattle.std.specs.Arc.{arc_value}
use Rattle.std.specs.String.{string_bytes}
use Rattle.roles.specs.declared.role.Role.{Role}
use Rattle.roles.specs.declared.role.Role.TheVariants.{Full, View}
use Rattle.web_site.specs.Landings.{LeadsToStart}
use Rattle.web_site.specs.declared.site.Site.{Site}
use Rattle.web_site.specs.declared.table.WebFile.{WebFile}
use Rattle.std.specs.declared.net.socket_addr.SocketAddr.{SocketAddr}
use Rattle.settings.specs.Addresses.{IsProxyFor, IsWebAddressFor}
use Rattle.settings.specs.declared.values.Settings.{Settings}
use Rattle.connections.specs.declared.caller.WebEntry.{WebEntry}
use Rattle.serve.specs.Origins.{AddsNamed, origins_let_in, own_hosts}

-- Viewers of this role only look on.
abbrev pub looks_only : Role → Bool
looks_only Full = false
looks_only View = true

-- The site has these files, and its start is that of the role. It is the site of a port at this address: pages of the
-- origins that the settings name may open a link, and no others; where they name none, those of the port's own. Its
-- hosts are the port's own, and those that the settings' origins name.
pub record IsSiteFor (role : Role) (settings : Settings) (files : List WebFile) (address : SocketAddr) (site : Site) : Type 0 where
  pub table : arc_value site.files ≡ files
  pub start : LeadsToStart (looks_only role) site.landing
  pub origins : map string_bytes site.admission.origins.items ≡ origins_let_in address (map string_bytes settings.web_origins.items)
  pub hosts : AddsNamed (map string_bytes settings.web_origins.items) (own_hosts address) (map string_bytes site.admission.hosts.items)

-- A browser that comes by the port has this role, and is answered by such a site, of the port at the address that the
-- settings have for the browsers of the role. Only the proxy of the settings is believed when it says where a browser
-- comes from.
pub record IsWebEntryFor (role : Role) (settings : Settings) (files : List WebFile) (entry : WebEntry) : Type 0 where
  pub comes_as : entry.listener.role ≡ role
  pub believes : IsProxyFor settings entry.listener.proxy
  pub asks : (address : SocketAddr) × IsWebAddressFor role settings address × IsSiteFor role settings files address (arc_value entry.site)

-- Each entry is one for the role of its listener.
abbrev pub AreWebEntries : Settings → List WebFile → List WebEntry → Type 0
AreWebEntries settings files entries = All (λ entry. IsWebEntryFor entry.listener.role settings files entry) entries

-- Pages without an origin of their own are let in: for such a page a browser says `null` (RFC 6454, section 7.3).
abbrev pub LetsNullIn : WebEntry → Type 0
LetsNullIn entry = Contains (map string_bytes (arc_value entry.site).admission.origins.items) (codes "null")
