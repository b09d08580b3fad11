-- What a request is answered with.
use Rattle.std.specs.Prelude.{◌≡◌, ◌↔◌, ℕ, Bool, true, false, ◌||◌, List, [], ◌∷◌, ◌++◌, codes, bytes_eq, if◌then◌else◌, Option, None, Some, IfSome}
use Rattle.std.specs.Arc.{arc_value}
use Rattle.http.specs.FieldValue.{FieldValue}
use Rattle.http.specs.HeaderMap.{get_all}
use Rattle.http.specs.Uri.{uri_path}
use Rattle.http.specs.declared.request.Parts.{Parts}
use Rattle.http1.specs.Fields.{Header}
use Rattle.http_server.specs.Response.{IsResponse}
use Rattle.http_server.specs.declared.response.Response.{Response}
use Rattle.websocket.specs.Handshake.{accept_key_of}
use Rattle.web_site.specs.declared.media_type.MediaType.TheVariants.{Html}
use Rattle.web_site.specs.declared.table.WebFile.{WebFile}
use Rattle.web_site.specs.declared.landing.Landing.{Landing}
use Rattle.web_site.specs.declared.landing.Landing.TheVariants.{Page, There}
use Rattle.web_site.specs.declared.site.Site.{Site}
use Rattle.web_site.specs.MediaTypes.{content_type}
use Rattle.web_site.specs.Tables.{file_at}
use Rattle.web_site.specs.Admissions.{Fields, may_open}
use Rattle.web_site.specs.Openings.{Opens, asks_websocket, key_in, names}

-- A status, the fields beside those of every answer, and a body.
pub record Reply : Type 0 where
  pub status : ℕ
  pub own : List Header
  pub body : List ℕ

abbrev pub bare : ℕ → Reply
bare status = record { status = status; own = []; body = [] }

-- The fields by which no cache keeps an answer, no browser takes it for something else, and no other site frames it.
abbrev pub guards : FieldValue → List Header
guards policy =
    (codes "cache-control", codes "no-store")
    ∷ (codes "x-content-type-options", codes "nosniff")
    ∷ (codes "content-security-policy", policy.bytes)
    ∷ []

-- The response is the reply, guarded.
abbrev pub Replies : FieldValue → Reply → Response → Type 0
Replies policy reply r = IsResponse reply.status (guards policy ++ reply.own) reply.body r

-- A file, or 404 where there is none.
abbrev pub file_reply : Option WebFile → Reply
file_reply None = bare 404
file_reply (Some f) = record { status = 200; own = (codes "content-type", content_type f.media_type) ∷ []; body = f.body }

-- What `/` is answered with.
abbrev pub landing_reply : Landing → Reply
landing_reply (Page body) = record { status = 200; own = (codes "content-type", content_type Html) ∷ []; body = body }
landing_reply (There location) = record { status = 302; own = (codes "location", location.bytes) ∷ []; body = [] }

abbrev pub path_reply : Site → List ℕ → Reply
path_reply site path = if bytes_eq path (codes "/") then landing_reply site.landing else file_reply (file_at (arc_value site.files) path)

-- GET and HEAD read a path; other methods are answered with 405.
abbrev pub reads : List ℕ → Bool
reads method = bytes_eq method (codes "GET") || bytes_eq method (codes "HEAD")

abbrev pub plain_reply : Site → Parts → Reply
plain_reply site head =
    if reads head.method then path_reply site (uri_path head.uri) else
    record { status = 405; own = (codes "allow", codes "GET, HEAD") ∷ []; body = [] }

-- The fields of a 101 (RFC 6455, 4.2.2).
abbrev pub upgrade_fields : List ℕ → List Header
upgrade_fields accept =
    (codes "connection", codes "Upgrade")
    ∷ (codes "upgrade", codes "websocket")
    ∷ (codes "sec-websocket-accept", accept)
    ∷ []

-- Of the protocols that a client offers only `binary` is taken up, the name that older pages have for messages of
-- bytes.
abbrev pub protocol_fields : Fields → List Header
protocol_fields fields =
    if names (get_all fields (codes "sec-websocket-protocol")) (codes "binary") then (codes "sec-websocket-protocol", codes "binary") ∷ [] else []

-- The response is a 101 with this answer to the key.
abbrev pub Accepts : List ℕ → Fields → Response → Type 0
Accepts accept fields r = IsResponse 101 (upgrade_fields accept ++ protocol_fields fields) [] r

-- What answers a request that asks for a link: 101 and the answer to its key exactly where it opens one, and 403 where
-- its Host or Origin isn't admitted.
pub record IsOpened (site : Site) (head : Parts) (r : Response) : Type 0 where
  pub opened : (r.status ≡ 101) ↔ Opens site.admission head
  pub accepted : Opens site.admission head → IfSome (key_in head.headers) (λ key. Accepts (accept_key_of key) head.headers r)
  pub stranger : may_open site.admission head.headers ≡ false → Replies site.policy (bare 403) r
  pub bodiless : r.body.items ≡ []

-- What a request is answered with, whether it asks for a link or not. So there is a 101 only where it asks for a link,
-- and the body of a file only where it doesn't.
abbrev pub IsAnswerFor : Bool → Site → Parts → Response → Type 0
IsAnswerFor true site head r = IsOpened site head r
IsAnswerFor false site head r = Replies site.policy (plain_reply site head) r

abbrev pub IsAnswer : Site → Parts → Response → Type 0
IsAnswer site head r = IsAnswerFor (asks_websocket head.headers) site head r
