-- The kinds of files, by the endings of their names, and how each is named to a browser (RFC 9110, 8.3).
use Rattle.std.specs.Prelude.{ℕ, List, Option, None, Some, codes, nat_eq, if◌then◌else◌}
use Rattle.std.specs.List.{ends_with}
use Rattle.web_site.specs.declared.media_type.MediaType.{MediaType}
use Rattle.web_site.specs.declared.media_type.MediaType.TheVariants.{Html, Script, Style, Json, Svg, Png, Icon, Mp3, Ogg, Woff, TrueType}

-- The media type of a file, by its name. A file with another ending isn't served.
abbrev pub media_type_by_name : List ℕ → Option MediaType
media_type_by_name name =
    if ends_with nat_eq name (codes ".html") then Some Html else
    if ends_with nat_eq name (codes ".js") then Some Script else
    if ends_with nat_eq name (codes ".css") then Some Style else
    if ends_with nat_eq name (codes ".json") then Some Json else
    if ends_with nat_eq name (codes ".svg") then Some Svg else
    if ends_with nat_eq name (codes ".png") then Some Png else
    if ends_with nat_eq name (codes ".ico") then Some Icon else
    if ends_with nat_eq name (codes ".mp3") then Some Mp3 else
    if ends_with nat_eq name (codes ".oga") then Some Ogg else
    if ends_with nat_eq name (codes ".woff") then Some Woff else
    if ends_with nat_eq name (codes ".ttf") then Some TrueType else
    None

abbrev pub content_type : MediaType → List ℕ
content_type Html = codes "text/html; charset=utf-8"
content_type Script = codes "text/javascript; charset=utf-8"
content_type Style = codes "text/css; charset=utf-8"
content_type Json = codes "application/json"
content_type Svg = codes "image/svg+xml"
content_type Png = codes "image/png"
content_type Icon = codes "image/x-icon"
content_type Mp3 = codes "audio/mpeg"
content_type Ogg = codes "audio/ogg"
content_type Woff = codes "font/woff"
content_type TrueType = codes "font/ttf"
