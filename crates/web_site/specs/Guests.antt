-- A connection before it is a link.
use Rattle.std.specs.Prelude.{◌≡◌, ℕ, List, [], ◌∷◌, ◌++◌, All}
use Rattle.http.specs.Request.{head_of}
use Rattle.http1.specs.Message as Wire
use Rattle.http_server.specs.declared.state.Config.{Config}
use Rattle.http_server.specs.Exchange.{Call, ReadsCall, Serves}
use Rattle.http_server.specs.History.{History}
use Rattle.web_site.specs.declared.site.Site.{Site}
use Rattle.web_site.specs.Openings.{Opens}
use Rattle.web_site.specs.Sites.{IsAnswer}

-- What contracts see of it: the site that it asks, its bounds, and all that was received, asked, answered and sent.
pub record Asking : Type 0 where
  pub site : Site
  pub config : Config
  pub history : History

-- The site gave each answer.
abbrev pub IsTold : Site → List Call → Type 0
IsTold site calls = All (λ c. IsAnswer site (head_of c.0) c.1) calls

-- A guest is let in: by HTTP's grammar, what was received are requests, each of which was answered, and then one that
-- opens a link at the site, with nothing after it; and that one was answered with 101.
pub record IsLetIn (a : Asking) : Type 0 where
  pub before : List Call
  pub text : List ℕ
  pub rest : List ℕ
  pub serves : Serves a.config a.history.received before text rest
  pub call : Call
  pub calls : a.history.calls ≡ before ++ call ∷ []
  pub message : Wire.Request
  pub reads : ReadsCall a.config rest message call.0 []
  pub opens : Opens a.site.admission (head_of call.0)
  pub accepted : call.1.status ≡ 101
