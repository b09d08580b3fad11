-- The ports for browsers are each for their own role, as one after the other is opened.
use Rattle.std.proofs.Common.{◌≡◌, ◌++◌, ◌∷◌, All, List, None, Option, Some, [], subst, sym}
use Rattle.std.proofs.lemmas.List.Elements.{All-append, All-cons, All-nil}
use Rattle.std.specs.Prelude.{IfSome, MatchOption}
use Rattle.roles.specs.declared.role.Role.{Role}
use Rattle.roles.specs.declared.role.Role.TheVariants.{Full, View}
use Rattle.web_site.specs.declared.table.WebFile.{WebFile}
use Rattle.settings.specs.declared.values.Settings.{Settings}
use Rattle.connections.specs.declared.caller.WebEntry.{WebEntry}
use Rattle.serve.specs.Browsers.{AreWebEntries, IsWebEntryFor}

-- What holds of each of them.
abbrev Own : Settings → List WebFile → WebEntry → Type 0
Own settings files entry = IsWebEntryFor entry.listener.role settings files entry

own : (role : Role) (settings : Settings) (files : List WebFile) (entry : WebEntry) → IsWebEntryFor role settings files entry → Own settings files entry
own role settings files entry is = subst (λ (r : Role). IsWebEntryFor r settings files entry) (sym is.comes_as) is

-- One more, or none, is added.
added : (role : Role) (settings : Settings) (files : List WebFile) (port : Option WebEntry) (old new : List WebEntry) → IfSome port (λ entry. IsWebEntryFor role settings files entry)
    → MatchOption port (new ≡ old) (λ entry. new ≡ old ++ entry ∷ []) → AreWebEntries settings files old → AreWebEntries settings files new
added role settings files None old new is same all = subst (λ (es : List WebEntry). AreWebEntries settings files es) (sym same) all
added role settings files (Some entry) old new is more all =
    let one : All (Own settings files) (entry ∷ []) = All-cons (Own settings files) entry [] (own role settings files entry is) (All-nil (Own settings files)) in
    subst (λ (es : List WebEntry). AreWebEntries settings files es) (sym more) (All-append (Own settings files) old (entry ∷ []) all one)

-- That for those with full control, and then that for those who only look on.
pub both : (settings : Settings) (files : List WebFile) (full view : Option WebEntry) (none first second : List WebEntry) → none ≡ []
    → IfSome full (λ entry. IsWebEntryFor Full settings files entry) → MatchOption full (first ≡ none) (λ entry. first ≡ none ++ entry ∷ [])
    → IfSome view (λ entry. IsWebEntryFor View settings files entry) → MatchOption view (second ≡ first) (λ entry. second ≡ first ++ entry ∷ [])
    → AreWebEntries settings files second
both settings files full view none first second empty is_full with_full is_view with_view =
    let start : AreWebEntries settings files none = subst (λ (es : List WebEntry). AreWebEntries settings files es) (sym empty) (All-nil (Own settings files)) in
    added View settings files view first second is_view with_view (added Full settings files full none first is_full with_full start)
