-- What a line sets, from clap's matches. `settings` owes the words' own meaning, and has clap's matches.
use Rattle.std.proofs.Common.{◌∙◌, ◌≡◌, ◌≢◌, ◌⊎◌, ◌∷◌, ap, inl, inr, refl, subst, sym, List, [], Option, Some, ℕ}
use Rattle.std.specs.Prelude.{codes, unwrap_or}
use Rattle.std.specs.List.{AllByRecursion}
use Rattle.std.specs.Str.{bytes_eq}
use Rattle.clap.specs.Words.{App, HasKind, Kinds, Rule, Text, all_of, fault_of, first_of, first_value, kind_of, matches_of, rows_of}
use Rattle.clap.specs.Walk.{nothing_held, settled, walk}
use Rattle.clap.specs.declared.error.Error.{Error}
use Rattle.clap.specs.declared.error.kind.ErrorKind.TheVariants.{OutOfMemory}
use Rattle.clap.specs.declared.parser.matches.Found.{Found}
use Rattle.clap.proofs.WalkLemmas.{first_value-rows, raw_values-rows}
use Rattle.command_line.specs.Given.{AreMisread, AreSetBy, IsBadLine, IsPause, given, known, text_of, Spells, IsPort, IsRoom, IsSpeed, IsTime}
use Rattle.command_line.specs.Serve.{IsBad, serve}
use Rattle.command_line.specs.Values.{AreValuesOf, IsMisread, IsNumberOf}
use Rattle.settings.specs.declared.values.Settings.{Settings}
use Rattle.command_line.proofs.Defaults.{Defaults, NoDefault, all_kept, first_kept, text_kept}
use Rattle.command_line.proofs.Named.{all_named, named}

text_is : (f : Found) (words : List Text) → rows_of f ≡ matches_of serve words → (id default text : Text) → AllByRecursion (Defaults id default) known
    → first_value f id ≡ Some text → text ≡ text_of words id default
text_is f words rows id default text all first =
    let same : Some text ≡ first_of id (matches_of serve words) = sym first ∙ (first_value-rows f id ∙ ap (first_of id) rows) in
    ap (λ o. unwrap_or o default) same ∙ text_kept id default known (settled known (walk known [] nothing_held words).held).rows all

text_else : (f : Found) (words : List Text) → rows_of f ≡ matches_of serve words → (id default : Text) → AllByRecursion (Defaults id default) known
    → unwrap_or (first_value f id) default ≡ text_of words id default
text_else f words rows id default all =
    ap (λ o. unwrap_or o default) (first_value-rows f id ∙ ap (first_of id) rows) ∙ text_kept id default known (settled known (walk known [] nothing_held words).held).rows all

number_is : (f : Found) (words : List Text) → rows_of f ≡ matches_of serve words → (id default : Text) → AllByRecursion (Defaults id default) known
    → (low most n : ℕ) (of : IsNumberOf f id low most n) → Spells (text_of words id default) n
number_is f words rows id default all low most n of =
    subst (λ (t : Text). Spells t n) (text_is f words rows id default of.0 all of.1) of.2

-- what the words give an option without a default
given_is : (f : Found) (words : List Text) → rows_of f ≡ matches_of serve words → (id : Text) → AllByRecursion (NoDefault id) known
    → first_value f id ≡ given words id
given_is f words rows id none =
    first_value-rows f id ∙ (ap (first_of id) rows ∙ first_kept id known (settled known (walk known [] nothing_held words).held).rows none)

-- the option of this name has no default, or this one
without : (id : Text) → AllByRecursion (λ (r : Rule). r.defaults ≡ []) (named id known) → AllByRecursion (NoDefault id) known
without id none = all_named (λ r. r.defaults ≡ []) id known none

default : (id text : Text) → AllByRecursion (λ (r : Rule). (r.id ≡ id) × (r.defaults ≡ text ∷ [])) (named id known) → AllByRecursion (Defaults id text) known
default id text one = all_named (λ r. (r.id ≡ id) × (r.defaults ≡ text ∷ [])) id known one

pub values_set : (f : Found) (words : List Text) (s : Settings) → rows_of f ≡ matches_of serve words → AreValuesOf f s → AreSetBy words s
values_set f words s rows of = record {
  host = sym (given_is f words rows (codes "host") (without (codes "host") (refl, tt))) ∙ of.host;
  host_password = of.host_password ∙ given_is f words rows (codes "host-password-file") (without (codes "host-password-file") (refl, tt));
  bind = text_is f words rows (codes "bind") (codes "127.0.0.1") _ (default (codes "bind") (codes "127.0.0.1") ((refl, refl), tt)) of.bind;
  full_bind = of.full_bind ∙ given_is f words rows (codes "full-bind") (without (codes "full-bind") (refl, tt));
  full = number_is f words rows (codes "full") (codes "5900") (default (codes "full") (codes "5900") ((refl, refl), tt)) _ _ _ of.full;
  view = number_is f words rows (codes "view") (codes "5901") (default (codes "view") (codes "5901") ((refl, refl), tt)) _ _ _ of.view;
  view_only = of.view_only ∙ ap (λ (t : Text). bytes_eq t (codes "true")) (text_else f words rows (codes "view-only") (codes "false") (default (codes "view-only") (codes "false") ((refl, refl), tt)));
  full_password = of.full_password ∙ given_is f words rows (codes "full-password-file") (without (codes "full-password-file") (refl, tt));
  view_password = of.view_password ∙ given_is f words rows (codes "view-password-file") (without (codes "view-password-file") (refl, tt));
  full_places = number_is f words rows (codes "full-places") (codes "4") (default (codes "full-places") (codes "4") ((refl, refl), tt)) _ _ _ of.full_places;
  view_places = number_is f words rows (codes "view-places") (codes "4") (default (codes "view-places") (codes "4") ((refl, refl), tt)) _ _ _ of.view_places;
  room = subst (λ (o : Option Text). IsRoom o s.room) (given_is f words rows (codes "room") (without (codes "room") (refl, tt))) of.room;
  plain_runs = of.plain_runs ∙ ap (λ (t : Text). bytes_eq t (codes "true")) (text_else f words rows (codes "plain-runs") (codes "false") (default (codes "plain-runs") (codes "false") ((refl, refl), tt)));
  no_zrle = of.no_zrle ∙ ap (λ (t : Text). bytes_eq t (codes "true")) (text_else f words rows (codes "no-zrle") (codes "false") (default (codes "no-zrle") (codes "false") ((refl, refl), tt)));
  metrics = of.metrics ∙ given_is f words rows (codes "metrics") (without (codes "metrics") (refl, tt));
  proxy_from = of.proxy_from ∙ given_is f words rows (codes "proxy-from") (without (codes "proxy-from") (refl, tt));
  log = of.log ∙ ap (λ (t : Text). bytes_eq t (codes "true")) (text_else f words rows (codes "log") (codes "false") (default (codes "log") (codes "false") ((refl, refl), tt)));
  again = subst (λ (o : Option Text). IsPause o s.again) (given_is f words rows (codes "again") (without (codes "again") (refl, tt))) of.again;
  from = subst (λ (o : Option Text). IsTime o s.from) (given_is f words rows (codes "from") (without (codes "from") (refl, tt))) of.from;
  speed = subst (λ (o : Option Text). IsSpeed o s.speed) (given_is f words rows (codes "speed") (without (codes "speed") (refl, tt))) of.speed;
  stalled = number_is f words rows (codes "stalled") (codes "60") (default (codes "stalled") (codes "60") ((refl, refl), tt)) _ _ _ of.stalled;
  web_full = subst (λ (o : Option Text). IsPort o s.web_full) (given_is f words rows (codes "web-full") (without (codes "web-full") (refl, tt))) of.web_full;
  web_view = subst (λ (o : Option Text). IsPort o s.web_view) (given_is f words rows (codes "web-view") (without (codes "web-view") (refl, tt))) of.web_view;
  web_root = of.web_root ∙ given_is f words rows (codes "web-root") (without (codes "web-root") (refl, tt));
  web_origins = of.web_origins ∙ ap (λ o. unwrap_or o []) (raw_values-rows f (codes "web-origin") ∙ (ap (all_of (codes "web-origin")) rows
      ∙ all_kept (codes "web-origin") known (settled known (walk known [] nothing_held words).held).rows (without (codes "web-origin") (refl, tt))));
  control = of.control ∙ given_is f words rows (codes "control") (without (codes "control") (refl, tt));
  recording = of.recording ∙ given_is f words rows (codes "record") (without (codes "record") (refl, tt));
  recording_key = number_is f words rows (codes "record-key") (codes "60") (default (codes "record-key") (codes "60") ((refl, refl), tt)) _ _ _ of.recording_key;
  next = of.next ∙ ap (λ o. unwrap_or o []) (raw_values-rows f (codes "next") ∙ (ap (all_of (codes "next")) rows
      ∙ all_kept (codes "next") known (settled known (walk known [] nothing_held words).held).rows (without (codes "next") (refl, tt))));
  full_port = of.full.3;
  view_port = of.view.3;
  full_range = of.full_places.3;
  view_range = of.view_places.3;
  stalled_range = of.stalled.3;
  recording_key_range = of.recording_key.3;
}

-- a text that is misread is bad, and so is a lack of memory
pub misread_is : (f : Found) (words : List Text) (status : ℕ) → rows_of f ≡ matches_of serve words → (status ≡ 4) ⊎ ((status ≡ 2) × IsMisread f) → IsBadLine words status
misread_is f words status rows (inl four) = inl (inl four)
misread_is f words status rows (inr (two, misread)) =
    let room = given_is f words rows (codes "room") (without (codes "room") (refl, tt)) in
    let from = given_is f words rows (codes "from") (without (codes "from") (refl, tt)) in
    let speed = given_is f words rows (codes "speed") (without (codes "speed") (refl, tt)) in
    let host = given_is f words rows (codes "host") (without (codes "host") (refl, tt)) in
    let with_room = subst (λ (o : Option Text). AreMisread o (first_value f (codes "from")) (first_value f (codes "speed")) (first_value f (codes "host"))) room misread in
    let with_from = subst (λ (o : Option Text). AreMisread (given words (codes "room")) o (first_value f (codes "speed")) (first_value f (codes "host"))) from with_room in
    let with_speed = subst (λ (o : Option Text). AreMisread (given words (codes "room")) (given words (codes "from")) o (first_value f (codes "host"))) speed with_from in
    inr (two, subst (λ (o : Option Text). AreMisread (given words (codes "room")) (given words (codes "from")) (given words (codes "speed")) o) host with_speed)

-- what clap refuses is bad
pub refusal_is : {app : App} (words : List Text) (e : Error) (status : ℕ) → app ≡ serve → HasKind (fault_of app words) e
    → (status ≡ 4) ⊎ ((status ≡ 2) × (kind_of e ≢ OutOfMemory)) → IsBad (fault_of serve words) status
refusal_is words e status is has (inl four) = inl four
refusal_is words e status is has (inr two) =
    let among = subst (λ a. HasKind (fault_of a words) e) is has in
    inr (
      two.0,
      (λ none. elim (subst (λ (kinds : Kinds). HasKind kinds e) none among) [
        | inl memory ↦ two.1 memory
        | inr one ↦ one
      ]),
    )
