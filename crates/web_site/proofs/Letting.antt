-- Who is let in. `Guest` keeps that the site gave each answer, and its end asks for a 101.
use Rattle.std.proofs.Common.{◌≡◌, ℕ, ◌<◌, Bool, true, false, List, [], ◌∷◌, ◌++◌, length, All, Option, None, Some, refl, sym, ap, subst, ◌∙◌, arith, length-append, if◌then◌else◌}
use Rattle.std.proofs.Math.Logic.{∥∥₁_map, ∥∥₁_elim, ∥∥₁_prop}
use Rattle.std.proofs.lemmas.Grind.{common_steps}
use Rattle.std.proofs.lemmas.List.Elements.{All-nil, All-cons, All-append}
use Rattle.std.specs.Prelude.{slice_index_or, bytes_eq, codes}
use Rattle.std.specs.Arc.{arc_value}
use denote.Ref.{Bor}
use Rattle.http.specs.Request.{head_of}
use Rattle.http.specs.Uri.{uri_path}
use Rattle.http.specs.declared.request.Request.{Request}
use Rattle.http.specs.declared.request.Parts.{Parts}
use Rattle.http_server.specs.declared.response.Response.{Response}
use Rattle.http_server.specs.declared.state.Config.{Config}
use Rattle.http_server.specs.declared.state.State.{State}
use Rattle.http_server.specs.declared.state.State.TheVariants.{Upgraded}
use Rattle.http_server.specs.Exchange.{Call, Chain, Calls, ReadsCall}
use Rattle.http_server.specs.History.{History, Stands, IsServed, IsUpgraded}
use Rattle.web_site.specs.declared.site.Site.{Site}
use Rattle.web_site.specs.declared.landing.Landing.{Landing}
use Rattle.web_site.specs.declared.landing.Landing.TheVariants.{Page, There}
use Rattle.web_site.specs.declared.table.WebFile.{WebFile}
use Rattle.web_site.specs.Tables.{file_at}
use Rattle.web_site.specs.Openings.{Opens, asks_websocket}
use Rattle.web_site.specs.Sites.{Reply, IsAnswer, IsAnswerFor, bare, file_reply, landing_reply, path_reply, plain_reply, reads}
use Rattle.web_site.specs.Guests.{Asking, IsTold, IsLetIn}

-- ---- the site gave each answer

abbrev pub gives : Bor Site → Request (List ℕ) → Response → Bor Site → Type 0
gives old request response new = IsAnswer old.now (head_of request) response × (new ≡ old)

abbrev told_by : Site → Call → Type 0
told_by site c = IsAnswer site (head_of c.0) c.1

chain_told : (calls : List Call) (old new : Bor Site) → Chain gives old calls new → IsTold old.now calls
chain_told [] old new x = All-nil (told_by old.now)
chain_told (c ∷ calls) old new x =
    let later : IsTold x.0.now calls = chain_told calls x.0 new x.2 in
    let same : x.0.now ≡ old.now = ap (λ (s : Bor Site). s.now) x.1.1 in
    All-cons (told_by old.now) c calls x.1.0 (subst (λ (s : Site). IsTold s calls) same later)

-- Further answers are the site's, too.
pub told_further : (old new : Bor Site) (before after : List Call) → Calls gives old new before after → ∥ IsTold old.now before ∥₁ → ∥ IsTold old.now after ∥₁
told_further old new before after x told =
    ∥∥₁_map told (λ (t : IsTold old.now before). subst (λ (cs : List Call). IsTold old.now cs) (sym x.1) (All-append (told_by old.now) before x.0 t (chain_told x.0 old new x.2)))

-- ---- a 101 is for an opening handshake alone

file_status : (file : Option WebFile) → (file_reply file).status ≡ 101 → ⊥
file_status None e = omega (arith, e)
file_status (Some f) e = omega (arith, e)

landing_status : (landing : Landing) → (landing_reply landing).status ≡ 101 → ⊥
landing_status (Page body) e = omega (arith, e)
landing_status (There location) e = omega (arith, e)

chosen : (b : Bool) (x y : Reply) → (x.status ≡ 101 → ⊥) → (y.status ≡ 101 → ⊥) → (if b then x else y).status ≡ 101 → ⊥
chosen true x y nx ny e = nx e
chosen false x y nx ny e = ny e

path_status : (site : Site) (path : List ℕ) → (path_reply site path).status ≡ 101 → ⊥
path_status site path =
    chosen (bytes_eq path (codes "/")) (landing_reply site.landing) (file_reply (file_at (arc_value site.files) path)) (landing_status site.landing) (file_status (file_at (arc_value site.files) path))

plain_status : (site : Site) (head : Parts) → (plain_reply site head).status ≡ 101 → ⊥
plain_status site head =
    let other : Reply = record { status = 405; own = (codes "allow", codes "GET, HEAD") ∷ []; body = [] } in
    let not_other : other.status ≡ 101 → ⊥ = λ e. omega (arith, e) in
    chosen (reads head.method) (path_reply site (uri_path head.uri)) other (path_status site (uri_path head.uri)) not_other

opens_for : (asks : Bool) (site : Site) (head : Parts) (r : Response) → IsAnswerFor asks site head r → r.status ≡ 101 → Opens site.admission head
opens_for true site head r answer is = answer.opened.0 is
opens_for false site head r answer is = absurd (plain_status site head (sym answer.status ∙ is))

-- ---- who is let in

last_of : {X : Type 0} (P : X → Type 0) (xs : List X) (x : X) → All P (xs ++ x ∷ []) → P x
last_of P xs x all =
    let here : slice_index_or (xs ++ x ∷ []) (length xs) x ≡ x = grind (arith, common_steps) in
    subst P here (all (length xs) x (omega (arith, length-append xs (x ∷ []))))

let_in : (site : Site) (config : Config) (h : History) → h.state ≡ Upgraded → h.unread ≡ [] → IsTold site h.calls → IsServed config h
    → IsLetIn (record { site = site; config = config; history = h })
let_in site config h is none told served =
    let up : IsUpgraded config h served.answered (served.text ++ served.interim) served.rest =
    subst (λ (s : State). Stands s config h served.answered served.text served.interim served.rest) is served.stands in
    let all : IsTold site (served.answered ++ up.last.call ∷ []) = subst (λ (cs : List Call). IsTold site cs) up.last.calls told in
    let answer : IsAnswer site (head_of up.last.call.0) up.last.call.1 = last_of (told_by site) served.answered up.last.call all in
    record {
      before = served.answered;
      text = served.text;
      rest = served.rest;
      serves = served.serves;
      call = up.last.call;
      calls = up.last.calls;
      message = up.last.message;
      reads = subst (λ (left : List ℕ). ReadsCall config served.rest up.last.message up.last.call.0 left) none up.last.request;
      opens = opens_for (asks_websocket (head_of up.last.call.0).headers) site (head_of up.last.call.0) up.last.call.1 answer up.accepted;
      accepted = up.accepted;
    }

pub lets_in : (site : Site) (config : Config) (h : History) → h.state ≡ Upgraded → h.unread ≡ [] → ∥ IsTold site h.calls ∥₁ → ∥ IsServed config h ∥₁
    → ∥ IsLetIn (record { site = site; config = config; history = h }) ∥₁
lets_in site config h is none told served =
    ∥∥₁_elim told ∥∥₁_prop (λ (t : IsTold site h.calls). ∥∥₁_map served (λ (s : IsServed config h). let_in site config h is none t s))
