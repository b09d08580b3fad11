-- Pages without an origin of their own are let in at no port for browsers.
use Rattle.std.proofs.Common.{◌≡◌, ◌≢◌, ◌∷◌, ◌++◌, ◌∙◌, [], ap, arith, length, length-append, List, map, refl, slice_index_or, subst, sym, ℕ}
use Rattle.std.specs.Prelude.{codes}
use Rattle.std.specs.Arc.{arc_value}
use Rattle.std.specs.List.{All, Contains}
use Rattle.std.specs.String.{string_bytes}
use Rattle.std.specs.declared.net.socket_addr.SocketAddr.{SocketAddr}
use Rattle.std.proofs.lemmas.List.Elements.{All-contains, All-map, All-weaker}
use Rattle.web_site.specs.declared.table.WebFile.{WebFile}
use Rattle.settings.specs.declared.values.Settings.{Settings}
use Rattle.connections.specs.declared.caller.WebEntry.{WebEntry}
use Rattle.serve.specs.Browsers.{AreWebEntries, IsWebEntryFor, LetsNullIn}
use Rattle.serve.specs.Origins.{IsAnOrigin, IsOrigin, origin_over_http, origins_let_in, own_hosts}

-- `null` is no origin over http, and none that may be named.
not_over_http : (host : List ℕ) → origin_over_http host ≢ codes "null"
not_over_http host same = absurd (omega (arith, ap (λ (text : List ℕ). slice_index_or text 0 0) same))

no_origin : IsAnOrigin (codes "null") → ⊥
no_origin (scheme, authority, is) =
    omega (arith, ap length is.parts, length-append scheme (codes "://" ++ authority), is.scheme_is.0, is.authority_is.0)

-- So it isn't let in.
not_let_in : (address : SocketAddr) (named : List (List ℕ)) → All IsAnOrigin named → Contains (origins_let_in address named) (codes "null") → ⊥
not_let_in address [] all has =
    All-contains (λ origin. origin ≢ codes "null") (map origin_over_http (own_hosts address)) (codes "null") (All-map (λ origin. origin ≢ codes "null") origin_over_http (own_hosts address) (λ k d within. not_over_http _)) has refl
not_let_in address (origin ∷ others) all has = no_origin (All-contains IsAnOrigin (origin ∷ others) (codes "null") all has)

pub never : (settings : Settings) (files : List WebFile) (entries : List WebEntry) → AreWebEntries settings files entries → All (λ origin. IsAnOrigin (string_bytes origin)) settings.web_origins.items → All (λ entry. LetsNullIn entry → ⊥) entries
never settings files entries are named =
    All-weaker (λ entry. IsWebEntryFor entry.listener.role settings files entry) (λ entry. LetsNullIn entry → ⊥)
    (λ entry is has. not_let_in is.asks.0 (map string_bytes settings.web_origins.items) (All-map IsAnOrigin string_bytes settings.web_origins.items named) (subst (λ origins. Contains origins (codes "null")) is.asks.2.origins has))
    entries are
