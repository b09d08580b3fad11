-- Where `/` leads.
use Rattle.std.specs.Prelude.{◌≡◌, ℕ, Bool, List, codes, true, false, ⊤}
use Rattle.web_site.specs.declared.landing.Landing.{Landing}
use Rattle.web_site.specs.declared.landing.Landing.TheVariants.{Page, There}

-- Where noVNC starts, for those with full control and for those who only look.
abbrev pub start_for : Bool → List ℕ
start_for false = codes "vnc.html?autoconnect=true&reconnect=true&resize=scale&show_dot=true"
start_for true = codes "vnc.html?autoconnect=true&reconnect=true&resize=scale&show_dot=true&view_only=true"

-- A landing that leads somewhere leads to that start.
abbrev pub LeadsToStart : Bool → Landing → Type 0
LeadsToStart looks_only (Page body) = ⊤
LeadsToStart looks_only (There location) = location.bytes ≡ start_for looks_only
