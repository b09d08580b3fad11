-- At which addresses the system was asked for a port.
use Rattle.std.proofs.Common.{◌≡◌, ◌∷◌, ◌++◌, ◌∙◌, ◌<◌, [], ap, arith, get_or, Global, inl, inr, length, List, map, refl, subst, suc, sym, true, ℕ}
use Rattle.std.specs.String.{string_bytes}
use Rattle.std.specs.Prelude.{String}
use Rattle.std.specs.List.{Contains}
use Rattle.std.proofs.lemmas.List.{append_assoc, append-nil}
use Rattle.std.proofs.lemmas.List.Elements.{All-append, All-nil, All-push}
use Rattle.std.specs.declared.net.socket_addr.SocketAddr.{SocketAddr}
use Rattle.roles.specs.declared.role.Role.{Role}
use Rattle.roles.specs.declared.role.Role.TheVariants.{Full, View}
use Rattle.settings.specs.Addresses.{IsAddressFor, IsMetricsAddressFor, IsWebAddressFor}
use Rattle.settings.specs.declared.values.Settings.{Settings}
use Rattle.serve.proofs.Named.{listed}
use Rattle.serve.specs.Hosts.{host_texts}
use Rattle.serve.specs.Ports.{AsksForAll, AsksFor, AsksForBrowsers, AsksForCaller, AsksForHosts, AsksForMetrics, AsksForPeople, AsksForViewers, AsksForWeb, IsAskedAtMost, IsCallersAddress}

-- Who asks at the address of a role asks for that role.
pub asks_for : (role : Role) (settings : Settings) (address : SocketAddr) (old new : List SocketAddr) → IsAddressFor role settings address → IsAskedAtMost address old new → AsksFor role settings old new
asks_for role settings address old new is (inl same) = inl same
asks_for role settings address old new is (inr asked) = inr (address, is, asked)

-- So does who asks at that of its browsers.
pub asks_for_web : (role : Role) (settings : Settings) (address : SocketAddr) (old new : List SocketAddr) → IsWebAddressFor role settings address → IsAskedAtMost address old new → AsksForWeb role settings old new
asks_for_web role settings address old new is (inl same) = inl same
asks_for_web role settings address old new is (inr asked) = inr (address, is, asked)

-- Only the first port was asked for, or both.
pub first_alone : (settings : Settings) (old new : List SocketAddr) → AsksFor Full settings old new → (settings.view_only ≡ true → new ≡ old) → AsksForViewers settings old new
first_alone settings old new first closed = (new, first, closed, inl refl)

pub both : (settings : Settings) (old between new : List SocketAddr) → AsksFor Full settings old between → (settings.view_only ≡ true → between ≡ old)
    → AsksFor View settings between new → AsksForViewers settings old new
both settings old between new first closed second = (between, first, closed, second)

pub first_web_alone : (settings : Settings) (old new : List SocketAddr) → AsksForWeb Full settings old new → AsksForBrowsers settings old new
first_web_alone settings old new first = (new, first, inl refl)

pub both_webs : (settings : Settings) (old between new : List SocketAddr) → AsksForWeb Full settings old between → AsksForWeb View settings between new → AsksForBrowsers settings old new
both_webs settings old between new first second = (between, first, second)

-- So does who asks at that of machines.
pub asks_for_metrics : (settings : Settings) (address : SocketAddr) (old new : List SocketAddr) → IsMetricsAddressFor settings address → IsAskedAtMost address old new → AsksForMetrics settings old new
asks_for_metrics settings address old new is (inl same) = inl same
asks_for_metrics settings address old new is (inr asked) = inr (address, is, asked)

-- No port was asked for, or only those of viewers, or those of browsers too.
pub none : (settings : Settings) (ports : List SocketAddr) → AsksForPeople settings ports ports
none settings ports = (ports, (ports, inl refl, λ _. refl, inl refl), (ports, inl refl, inl refl))

pub viewers_alone : (settings : Settings) (old new : List SocketAddr) → AsksForViewers settings old new → AsksForPeople settings old new
viewers_alone settings old new viewers = (new, viewers, (new, inl refl, inl refl))

pub all : (settings : Settings) (old between new : List SocketAddr) → AsksForViewers settings old between → AsksForBrowsers settings between new → AsksForPeople settings old new
all settings old between new viewers browsers = (between, viewers, browsers)

-- No host calls, or one more of those that do was asked for.
pub no_hosts : (settings : Settings) (ports : List SocketAddr) → AsksForHosts settings ports ports
no_hosts settings ports = ([], sym (append-nil ports), All-nil (IsCallersAddress settings))

pub one_more_host : (settings : Settings) (text : List ℕ) (old between new : List SocketAddr) → Contains (host_texts settings) text → AsksForHosts settings old between → AsksForCaller text between new → AsksForHosts settings old new
one_more_host settings text old between new of hosts (inl same) = (hosts.0, same ∙ hosts.1, hosts.2)
one_more_host settings text old between new of hosts (inr asked) = (
  hosts.0 ++ asked.0 ∷ [],
  asked.2 ∙ (ap (λ ports. ports ++ asked.0 ∷ []) hosts.1 ∙ append_assoc old hosts.0 (asked.0 ∷ [])),
  All-push (IsCallersAddress settings) hosts.0 asked.0 hosts.2 (text, of, asked.1),
)

-- The first host is one of the settings' hosts, and so is each of those that follow.
pub first_host : (settings : Settings) (text : List ℕ) (old new : List SocketAddr) → text ≡ string_bytes settings.host → AsksForCaller text old new → AsksForHosts settings old new
first_host settings text old new is asked =
    one_more_host settings (string_bytes settings.host) old old new (listed string_bytes (settings.host ∷ settings.next.items) 0 settings.host (omega arith) refl) (no_hosts settings old) (subst (λ t. AsksForCaller t old new) is asked)

pub next_host : (settings : Settings) (items : List (String Global)) (i : ℕ) (host : String Global) (text : List ℕ) (old between new : List SocketAddr) → items ≡ settings.next.items → i < length items → host ≡ get_or items i host → text ≡ string_bytes host
    → AsksForHosts settings old between → AsksForCaller text between new → AsksForHosts settings old new
next_host settings items i host text old between new all within same is hosts asked =
    let there : Contains (map string_bytes (settings.host ∷ items)) (string_bytes host) = listed string_bytes (settings.host ∷ items) (suc i) host (omega (arith, within)) same in
    one_more_host settings (string_bytes host) old between new (subst (λ (hosts : List (String Global)). Contains (map string_bytes (settings.host ∷ hosts)) (string_bytes host)) all there) hosts (subst (λ t. AsksForCaller t between new) is asked)

-- The hosts of two lists were asked for, one after the other.
pub more_hosts : (settings : Settings) (old between new : List SocketAddr) → AsksForHosts settings old between → AsksForHosts settings between new → AsksForHosts settings old new
more_hosts settings old between new first second = (
  first.0 ++ second.0,
  second.1 ∙ (ap (λ ports. ports ++ second.0) first.1 ∙ append_assoc old first.0 second.0),
  All-append (IsCallersAddress settings) first.0 second.0 first.2 second.2,
)

-- For machines, too, and for hosts that call.
pub with_hosts : (settings : Settings) (old people machines new : List SocketAddr) → AsksForPeople settings old people → AsksForMetrics settings people machines → AsksForHosts settings machines new → AsksForAll settings old new
with_hosts settings old people machines new of_people of_machines of_hosts = (people, machines, of_people, of_machines, of_hosts)

pub machines_too : (settings : Settings) (old people new : List SocketAddr) → AsksForPeople settings old people → AsksForMetrics settings people new → AsksForAll settings old new
machines_too settings old people new of_people of_machines = (people, new, of_people, of_machines, no_hosts settings new)

pub people_alone : (settings : Settings) (old new : List SocketAddr) → AsksForPeople settings old new → AsksForAll settings old new
people_alone settings old new people = (new, new, people, inl refl, no_hosts settings new)

pub nobody : (settings : Settings) (ports : List SocketAddr) → AsksForAll settings ports ports
nobody settings ports = (ports, ports, none settings ports, inl refl, no_hosts settings ports)
