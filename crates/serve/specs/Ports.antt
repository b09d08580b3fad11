-- The ports of a run (own). Lists are of the addresses at which the system was asked for one, in order.
use Rattle.std.specs.Prelude.{◌≡◌, ◌⊎◌, ◌++◌, ◌∷◌, [], List, true, ℕ}
use Rattle.std.specs.List.{All, Contains}
use Rattle.std.specs.declared.net.socket_addr.SocketAddr.{SocketAddr}
use Rattle.roles.specs.declared.role.Role.{Role}
use Rattle.roles.specs.declared.role.Role.TheVariants.{Full, View}
use Rattle.settings.specs.Addresses.{IsAddressFor, IsMetricsAddressFor, IsWebAddressFor}
use Rattle.settings.specs.declared.values.Settings.{Settings}
use Rattle.serve.specs.Hosts.{CallsAt, host_texts}

-- The system was asked for a port at this address, or not at all.
abbrev pub IsAskedAtMost : SocketAddr → List SocketAddr → List SocketAddr → Type 0
IsAskedAtMost address old new = (new ≡ old) ⊎ (new ≡ old ++ address ∷ [])

-- It was asked at the address that the settings have for the viewers of a role, or not at all.
abbrev pub AsksFor : Role → Settings → List SocketAddr → List SocketAddr → Type 0
AsksFor role settings old new = (new ≡ old) ⊎ ((address : SocketAddr) × IsAddressFor role settings address × (new ≡ old ++ address ∷ []))

-- It was asked at the address that the settings have for the browsers of a role, or not at all. Where they have none it
-- wasn't asked.
abbrev pub AsksForWeb : Role → Settings → List SocketAddr → List SocketAddr → Type 0
AsksForWeb role settings old new = (new ≡ old) ⊎ ((address : SocketAddr) × IsWebAddressFor role settings address × (new ≡ old ++ address ∷ []))

-- It was asked at the address for viewers with full control, and then at that for those that only look on; either may
-- be left out. Where all only look on, it wasn't asked for those with full control.
abbrev pub AsksForViewers : Settings → List SocketAddr → List SocketAddr → Type 0
AsksForViewers settings old new = (between : List SocketAddr) × AsksFor Full settings old between
    × (settings.view_only ≡ true → between ≡ old) × AsksFor View settings between new

-- The same for browsers. Where all only look on, the settings have no address for those with full control.
abbrev pub AsksForBrowsers : Settings → List SocketAddr → List SocketAddr → Type 0
AsksForBrowsers settings old new = (between : List SocketAddr) × AsksForWeb Full settings old between × AsksForWeb View settings between new

-- It was asked for viewers, then for browsers, and nowhere else.
abbrev pub AsksForPeople : Settings → List SocketAddr → List SocketAddr → Type 0
AsksForPeople settings old new = (between : List SocketAddr) × AsksForViewers settings old between × AsksForBrowsers settings between new

-- It was asked at the address that the settings have for machines that watch the run, or not at all. Where they have
-- none it wasn't asked.
abbrev pub AsksForMetrics : Settings → List SocketAddr → List SocketAddr → Type 0
AsksForMetrics settings old new = (new ≡ old) ⊎ ((address : SocketAddr) × IsMetricsAddressFor settings address × (new ≡ old ++ address ∷ []))

-- It was asked at the address at which the host of a text calls, or not at all. Where the host doesn't call it wasn't
-- asked.
abbrev pub AsksForCaller : List ℕ → List SocketAddr → List SocketAddr → Type 0
AsksForCaller text old new = (new ≡ old) ⊎ ((address : SocketAddr) × CallsAt text address × (new ≡ old ++ address ∷ []))

-- One of the settings' hosts calls at this address.
abbrev pub IsCallersAddress : Settings → SocketAddr → Type 0
IsCallersAddress settings address = (text : List ℕ) × Contains (host_texts settings) text × CallsAt text address

-- It was asked at addresses at which hosts call, if at any, and nowhere else.
abbrev pub AsksForHosts : Settings → List SocketAddr → List SocketAddr → Type 0
AsksForHosts settings old new = (asked : List SocketAddr) × (new ≡ old ++ asked) × All (IsCallersAddress settings) asked

-- It was asked for people, then for machines, then for hosts that call, and nowhere else.
abbrev pub AsksForAll : Settings → List SocketAddr → List SocketAddr → Type 0
AsksForAll settings old new = (people : List SocketAddr) × (machines : List SocketAddr) × AsksForPeople settings old people × AsksForMetrics settings people machines × AsksForHosts settings machines new
