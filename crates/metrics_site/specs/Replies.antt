-- What a request is answered with.
use Rattle.std.specs.Prelude.{ℕ, Bool, ◌||◌, List, [], ◌∷◌, ◌++◌, codes, bytes_eq, if◌then◌else◌, Option, None, Some}
use Rattle.http.specs.Uri.{uri_path}
use Rattle.http.specs.declared.request.Parts.{Parts}
use Rattle.http1.specs.Fields.{Header}
use Rattle.http_server.specs.Response.{IsResponse}
use Rattle.http_server.specs.declared.response.Response.{Response}
use Rattle.run_reports.specs.Metrics.{metrics_of}
use Rattle.roles.specs.declared.role.Role.{Role}
use Rattle.roles.specs.declared.role.Role.TheVariants.{Full, View}
use Rattle.run_reports.specs.Healths.{health_for, word_for}
use Rattle.run_reports.specs.declared.health.Health.{Health}
use Rattle.run_reports.specs.declared.health.Health.TheVariants as health
use Rattle.metrics_site.specs.declared.watched.Watched.{Watched}

-- A status, the fields beside those of every answer, and a body.
pub record Reply : Type 0 where
  pub status : ℕ
  pub own : List Header
  pub body : List ℕ

-- No cache keeps an answer, and the connection ends with it.
abbrev pub always : List Header
always = (codes "cache-control", codes "no-store") ∷ (codes "connection", codes "close") ∷ []

-- The response is the reply, with the fields of every answer.
abbrev pub Replies : Reply → Response → Type 0
Replies reply r = IsResponse reply.status (always ++ reply.own) reply.body r

-- Prometheus' text-based format, version 0.0.4.
abbrev pub metrics_reply : Watched → Reply
metrics_reply w = record {
  status = 200;
  own = (codes "content-type", codes "text/plain; version=0.0.4; charset=utf-8") ∷ [];
  body = metrics_of w.counters;
}

-- 200, or 503 where no viewer would be served (RFC 9110, sections 15.3.1 and 15.6.4).
abbrev pub status_for : Health → ℕ
status_for health.Ready = 200
status_for health.NoHost = 503
status_for health.Drained = 503
status_for health.Full = 503

-- Whether a viewer of this role, or of either, would be served: by the status, and in a word.
abbrev pub health_reply : Watched → Option Role → Reply
health_reply w role = record {
  status = status_for (health_for w.counters w.is_drained role);
  own = (codes "content-type", codes "text/plain; charset=utf-8") ∷ [];
  body = word_for (health_for w.counters w.is_drained role);
}

abbrev pub bare : ℕ → Reply
bare status = record { status = status; own = []; body = [] }

abbrev pub path_reply : Watched → List ℕ → Reply
path_reply w path =
    if bytes_eq path (codes "/metrics") then metrics_reply w else
    (if bytes_eq path (codes "/health") then health_reply w None else
    (if bytes_eq path (codes "/health/full") then health_reply w (Some Full) else
    (if bytes_eq path (codes "/health/view") then health_reply w (Some View) else bare 404)))

-- GET and HEAD read a path; other methods are answered with 405 (RFC 9110, section 15.5.6).
abbrev pub reads : List ℕ → Bool
reads method = bytes_eq method (codes "GET") || bytes_eq method (codes "HEAD")

abbrev pub reply_for : Watched → Parts → Reply
reply_for w head =
    if reads head.method then path_reply w (uri_path head.uri) else
    record { status = 405; own = (codes "allow", codes "GET, HEAD") ∷ []; body = [] }
