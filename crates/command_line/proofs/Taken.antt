-- What a parse of the command leaves for each option. `settings` asks clap for each of them by name.
use Rattle.std.proofs.Common.{◌∙◌, cond, ◌≡◌, ◌<◌, ◌≤◌, ap, arith, false, inl, inr, map, refl, subst, suc, sym, true, zero, Bool, ℕ, List, [], ◌∷◌, length, Option, Some, None}
use Rattle.std.specs.Prelude.{codes, is_some, pos, option_map, slice_get, unwrap_or}
use Rattle.std.specs.Borrow.{Bor}
use Rattle.std.specs.List.{All, AllByRecursion, find, slice_index_or}
use Rattle.std.specs.Str.{bytes_eq}
use Rattle.std.proofs.lemmas.Bool.{cases_lt}
use Rattle.std.proofs.lemmas.List.Elements.{All-get_or}
use Rattle.std.proofs.lemmas.Slice.Eq.{bytes_eq-Decides}
use Rattle.clap.specs.Facts.{Entry, EntryPasses, HasId, HasReading, IsParsed, PassesArg, args_of, groups_of, least_values, parser_of, parser_of_value, unwrap_or_range, WantsDefault}
use Rattle.clap.specs.Built.{IsAuto, IsParsedFrom, IsPlain, SameRules}
use Rattle.clap.specs.Words.{Accepts, Rule, Text, app_of, first_value, found_of, matched_of, one_text, read_as, reading_of, rule_of}
use Rattle.clap.specs.Simple.{IsSimple, shape_of}
use Rattle.clap.specs.declared.builder.action.ArgAction.TheVariants.{Count, Set}
use Rattle.clap.specs.declared.builder.arg.Arg.{Arg}
use Rattle.clap.specs.declared.builder.range.ValueRange.{ValueRange}
use Rattle.clap.specs.declared.builder.command.Command.{Command}
use Rattle.clap.specs.declared.builder.command.Command.TheViews.{out-Command}
use Rattle.clap.specs.declared.builder.value_parser.Reading.{Reading}
use Rattle.clap.specs.declared.builder.value_parser.ValueParser.{ValueParser}
use Rattle.clap.specs.declared.parser.matches.ArgMatches.{ArgMatches}
use Rattle.clap.specs.declared.parser.matches.Found.{Found}
use Rattle.clap.specs.declared.parser.matches.MatchedArg.{MatchedArg}
use Rattle.clap.proofs.CallerLemmas.{default_present, entry_by_id, present_has_entry, required_present}
use Rattle.clap.proofs.FaultLemmas.{free_args}
use Rattle.clap.proofs.SimpleLemmas.{ready_simple, simple_groups}
use Rattle.clap.specs.declared.builder.value_parser.ValueParser.TheVariants as vp
use Rattle.command_line.specs.Serve.{options, serve}
use Rattle.command_line.specs.Values.{HasValues, MayHavePause, MayHavePort}
use Rattle.command_line.proofs.Named.{each_named, named, placed}

-- ---- the command, from its shape

-- what holds of each rule holds of each argument's
rules_all : (P : Rule → Type 0) (xs : List Arg) → AllByRecursion P (map rule_of xs) → All (λ a. P (rule_of a)) xs
rules_all P [] h k d lt = absurd (omega arith)
rules_all P (x ∷ xs) h zero d lt = h.0
rules_all P (x ∷ xs) h (suc k) d lt = rules_all P xs h.1 k d (omega arith)

rules_are : (c : Command) → app_of c ≡ serve → map rule_of (args_of c) ≡ options
rules_are c is = ap (λ a. a.top.rules) is

each_option : (P : Rule → Type 0) (c : Command) → app_of c ≡ serve → AllByRecursion P options → All (λ a. P (rule_of a)) (args_of c)
each_option P c is all = rules_all P (args_of c) (subst (AllByRecursion P) (sym (rules_are c is)) all)

simple : (c : Command) → app_of c ≡ serve → IsSimple c
simple c is = ready_simple c (ap (λ a. Rattle.clap.specs.Simple.is_ready a.top) is) (ap (λ a. Rattle.std.specs.List.list_all Rattle.clap.specs.Simple.is_ready_leaf a.subs) is)

plain : (c : Command) → app_of c ≡ serve → IsPlain c
plain c is =
    let simple = simple c is in
    let free = free_args c simple (ap (λ a. Rattle.clap.specs.Faults.has_free_rules a.top) is) in
    let groups = simple_groups c (ap (λ a. Rattle.std.specs.List.list_all (λ r. r.is_simple) a.top.rules) is) in
    ((λ k d lt. ((free k d lt).exclusive, (free k d lt).conflicts, (free k d lt).overrides, groups k d lt)), simple.groups)

negates : (c : Command) → app_of c ≡ serve → (out-Command c).subcommand_negates_reqs ≡ false
negates c is = ap (λ a. a.top.subcommand_negates_reqs) is

-- ---- the arguments of the built command

-- the argument takes one value or more, and is no count
record TakesText (a : Arg) : Type 0 where
  pub action : unwrap_or a.action Set ≡ Set
  pub least : 1 ≤ least_values a
  pub whole : a.val_delim ≡ None

-- the option of this id takes one value
abbrev IsOption : Text → Type 0
IsOption id = AllByRecursion (λ (r : Rule). (r.action ≡ Some Set) × (r.range ≡ None)) (named id options)

abbrev OneValue : Text → Rule → Type 0
OneValue id r = bytes_eq r.id id ≡ true → (r.action ≡ Some Set) × (r.range ≡ None)

one_value : (id : Text) → IsOption id → AllByRecursion (OneValue id) options
one_value id option = each_named (λ r. (r.action ≡ Some Set) × (r.range ≡ None)) id options option

takes_text : (c : Command) (m : ArgMatches) → app_of c ≡ serve → (p : IsParsedFrom c m) → (id : Text) → bytes_eq (codes "help") id ≡ false → bytes_eq (codes "version") id ≡ false → IsOption id
    → (j : ℕ) (x : Arg) → j < length (args_of p.built) → slice_index_or (args_of p.built) j x ≡ x → bytes_eq x.id.now id ≡ true
    → (j < length (args_of c)) × SameRules (slice_index_or (args_of c) j x) x × TakesText x
takes_text c m is p id no_help no_version option j x lt at same =
    elim (cases_lt j (length (args_of c))) [
      | inl under ↦
          let s = subst (λ w. SameRules (slice_index_or (args_of c) j x) w) at (p.from.kept j x under).1 in
          let own : bytes_eq (slice_index_or (args_of c) j x).id.now id ≡ true = rw (← s.id) same in
          let one = each_option (OneValue id) c is (one_value id option) j x under own in
          let set = s.action Set one.0 in
          let delimiter = ((simple c is).args j x under).delimiter in
          let range : 1 ≤ least_values (slice_index_or (args_of c) j x) = subst (λ (o : Option ValueRange). 1 ≤ (unwrap_or_range o).start_inclusive) (sym one.1) (omega arith) in (
            under,
            s,
            record {
              action = ap (λ o. unwrap_or o Set) set;
              least = s.least one.0 range;
              whole = s.val_delim ∙ delimiter;
            },
          )
      | inr over ↦
          let flag = subst IsAuto at (p.from.extra j x over lt) in
          elim flag [
            | inl help ↦ let bad : bytes_eq (codes "help") id ≡ true = subst (λ (t : Text). bytes_eq t id ≡ true) help same in cc
            | inr version ↦ let bad : bytes_eq (codes "version") id ≡ true = subst (λ (t : Text). bytes_eq t id ≡ true) version same in cc
          ]
    ]

-- ---- its entry

head_of : (P : Bor Text → Type 0) (xs : List (Bor Text)) → 0 < length xs → All P xs → (v : Bor Text) × (slice_get xs 0 ≡ Some v) × P v
head_of P [] lt all = absurd (omega arith)
head_of P (x ∷ xs) lt all = (x, refl, All-get_or P (x ∷ xs) 0 x lt all)

pub record HasValue (c : Command) (f : Found) (id : Text) : Type 0 where
  pub matched : MatchedArg
  pub found : matched_of f id ≡ Some matched
  pub value : Bor Text
  pub first : slice_get matched.vals.items 0 ≡ Some value
  pub passes : PassesArg c id value.now
  pub reading : HasReading c id matched.reading

no_group : (c : Command) (m : ArgMatches) (is : app_of c ≡ serve) (p : IsParsedFrom c m) (id : Text) → (id ≡ [] → ⊥)
    → Rattle.clap.specs.Facts.IsKnownGroup p.built id → ⊥
no_group c m is p id named (inl empty) = named empty
no_group c m is p id named (inr has) =
    let none : groups_of p.built ≡ [] = (p.from.plain (plain c is)).1 in
    let bad : 0 < 0 = rw none at has in
    absurd (omega arith)

pub has_value : (c : Command) (m : ArgMatches) (is : app_of c ≡ serve) (p : IsParsedFrom c m) (id : Text) → (id ≡ [] → ⊥)
    → bytes_eq (codes "help") id ≡ false → bytes_eq (codes "version") id ≡ false → IsOption id
    → (x : MatchedArg) → matched_of (found_of m) id ≡ Some x → HasValue p.built (found_of m) id
has_value c m is p id named no_help no_version option x found = from got.0 got.1 ((bytes_eq-Decides got.0.0.now id).0 got.2) got.3
  where
    parsed : IsParsed p.built (found_of m) (Rattle.clap.specs.Matches.has_subcommand m)
    parsed = p.parsed (p.from.globals ∙ (simple c is).globals)

    got : (e : Entry) × (e.1 ≡ x) × (bytes_eq e.0.now id ≡ true) × EntryPasses p.built e
    got = entry_by_id (EntryPasses p.built) (found_of m).entries.items id x parsed.values found

    filled : (e : Entry) → e.0.now ≡ id → EntryPasses p.built e → 0 < length e.1.vals.items
    filled e key pass = elim pass.1 [
      | inl group ↦ absurd (no_group c m is p id named (subst (λ (t : Text). Rattle.clap.specs.Facts.IsKnownGroup p.built t) key group.1))
      | inr (inl some) ↦ some
      | inr (inr (inl count)) ↦
          let any = count.1 in
          let takes = takes_text c m is p id no_help no_version option any.0 any.1 any.2 any.3 (rw key at any.4.0) in
          let bad : Set ≡ Count = sym takes.2.action ∙ any.4.1 in
          cc
      | inr (inr (inr none)) ↦
          let takes = takes_text c m is p id no_help no_version option none.0 none.1 none.2 none.3 (rw key at none.4.0) in
          elim none.4.1 [
            | inl fewest ↦ let least = takes.2.least in absurd (omega arith)
            | inr delimited ↦ let bad : false ≡ true = rw takes.2.whole at delimited in cc
          ]
    ]

    from : (e : Entry) → e.1 ≡ x → e.0.now ≡ id → EntryPasses p.built e → HasValue p.built (found_of m) id
    from e same key pass =
        let group : e.1.is_group ≡ true → ⊥ = λ g. no_group c m is p id named (subst (λ (t : Text). Rattle.clap.specs.Facts.IsKnownGroup p.built t) key (pass.3 g)) in
        let all : All (λ v. PassesArg p.built id v.now) e.1.vals.items = elim pass.0 [
          | inl g ↦ absurd (group g)
          | inr all ↦ subst (λ (t : Text). All (λ v. PassesArg p.built t v.now) e.1.vals.items) key all
        ] in
        let head = head_of (λ v. PassesArg p.built id v.now) e.1.vals.items (filled e key pass) all in
        record {
          matched = x;
          found = found;
          value = head.0;
          first = ap (λ (y : MatchedArg). slice_get y.vals.items 0) (sym same) ∙ head.1;
          passes = head.2;
          reading = elim pass.4 [
            | inl g ↦ absurd (group g)
            | inr h ↦ subst (λ (y : MatchedArg). HasReading p.built id y.reading) same (subst (λ (t : Text). HasReading p.built t e.1.reading) key h)
          ];
        }

first_is : (f : Found) (id : Text) (x : MatchedArg) (v : Bor Text) → matched_of f id ≡ Some x → slice_get x.vals.items 0 ≡ Some v → first_value f id ≡ Some v.now
first_is f id x v found first = rw (found, first) refl

one_is : (f : Found) (id : Text) (x : MatchedArg) (v : Bor Text) (how : Reading) → matched_of f id ≡ Some x → slice_get x.vals.items 0 ≡ Some v → x.reading ≡ how
    → one_text f id ≡ Some (read_as how v.now)
one_is f id x v how found first reading = rw (found, first, reading) refl

-- the option of this id has this parser
abbrev pub IsParser : Text → ValueParser → Rule → Type 0
IsParser id q r = bytes_eq r.id id ≡ true → (r.parser ≡ Some q) × (r.ignore_case ≡ false)

parser_named : (id : Text) (q : ValueParser) → AllByRecursion (λ (r : Rule). (r.parser ≡ Some q) × (r.ignore_case ≡ false)) (named id options) → AllByRecursion (IsParser id q) options
parser_named id q all = each_named (λ r. (r.parser ≡ Some q) × (r.ignore_case ≡ false)) id options all

parser_is : (c : Command) (m : ArgMatches) (is : app_of c ≡ serve) (p : IsParsedFrom c m) (id : Text)
    → bytes_eq (codes "help") id ≡ false → bytes_eq (codes "version") id ≡ false → IsOption id → (q : ValueParser) → AllByRecursion (IsParser id q) options
    → (j : ℕ) (x : Arg) → j < length (args_of p.built) → slice_index_or (args_of p.built) j x ≡ x → bytes_eq x.id.now id ≡ true
    → (parser_of x ≡ q) × (x.ignore_case ≡ false)
parser_is c m is p id no_help no_version option q all j x lt at same =
    let takes = takes_text c m is p id no_help no_version option j x lt at same in
    let s = takes.1 in
    let own : bytes_eq (slice_index_or (args_of c) j x).id.now id ≡ true = rw (← s.id) same in
    let rule = each_option (IsParser id q) c is all j x takes.0 own in
    (ap parser_of_value (s.parser q rule.0), s.ignore_case ∙ rule.1)

-- the option's text passed the parser, and is read as that says
pub taken : (c : Command) (m : ArgMatches) (is : app_of c ≡ serve) (p : IsParsedFrom c m) (id : Text)
    → bytes_eq (codes "help") id ≡ false → bytes_eq (codes "version") id ≡ false → IsOption id → (q : ValueParser) → AllByRecursion (IsParser id q) options
    → HasValue p.built (found_of m) id
    → (text : Text) × (first_value (found_of m) id ≡ Some text) × (one_text (found_of m) id ≡ Some (read_as (reading_of q) text)) × Accepts false q text
taken c m is p id no_help no_version option q all has =
    let pass = has.passes in
    let parser = parser_is c m is p id no_help no_version option q all pass.0 pass.1 pass.2 pass.3 pass.4.0 in
    let read = has.reading in
    let reader = parser_is c m is p id no_help no_version option q all read.0 read.1 read.2 read.3 read.4.0 in
    let accepted : Accepts pass.1.ignore_case q has.value.now = subst (λ (w : ValueParser). Accepts pass.1.ignore_case w has.value.now) parser.0 pass.4.1 in (
      has.value.now,
      first_is (found_of m) id has.matched has.value has.found has.first,
      one_is (found_of m) id has.matched has.value (reading_of q) has.found has.first (sym read.4.1 ∙ ap reading_of reader.0),
      subst (λ (b : Bool). Accepts b q has.value.now) parser.1 accepted,
    )

pub texted : (c : Command) (f : Found) (id : Text) → HasValue c f id → is_some (first_value f id) ≡ true
texted c f id has = rw (first_is f id has.matched has.value has.found has.first) refl

-- ---- which entries there are

rule_at : (xs : List Arg) (k : ℕ) (d : Arg) → rule_of (slice_index_or xs k d) ≡ slice_index_or (map rule_of xs) k (rule_of d)
rule_at [] k d = refl
rule_at (x ∷ xs) zero d = refl
rule_at (x ∷ xs) (suc k) d = rule_at xs k d

an_arg : (xs : List Arg) → map rule_of xs ≡ options → Arg
an_arg [] is = let bad : ⊥ = cc in absurd bad
an_arg (x ∷ xs) is = x

count_is : (xs : List Arg) → length (map rule_of xs) ≡ length xs
count_is [] = refl
count_is (x ∷ xs) = ap suc (count_is xs)

below : (c : Command) → app_of c ≡ serve → length (args_of c) ≡ length options
below c is = sym (count_is (args_of c)) ∙ ap length (rules_are c is)

matched_there : (xs : List Entry) (id : Text) → Rattle.clap.specs.Facts.HasIn xs id → is_some (option_map (λ e. e.1) (find (λ e. bytes_eq e.0.now id) xs)) ≡ true
matched_there [] id has = let bad = has.1 in absurd (omega arith)
matched_there (x ∷ xs) id has = go (bytes_eq x.0.now id) refl has.0 has.1 has.2 (matched_there xs id)
  where
    go : (b : Bool) → bytes_eq x.0.now id ≡ b → (i : ℕ) → i < length (x ∷ xs) → ((d : Entry) → bytes_eq (slice_index_or (x ∷ xs) i d).0.now id ≡ true)
        → (Rattle.clap.specs.Facts.HasIn xs id → is_some (option_map (λ e. e.1) (find (λ e. bytes_eq e.0.now id) xs)) ≡ true)
        → is_some (option_map (λ e. e.1) (cond b (Some x) (find (λ e. bytes_eq e.0.now id) xs))) ≡ true
    go true is i lt at rest = refl
    go false is zero lt at rest = let bad : false ≡ true = sym is ∙ at x in cc
    go false is (suc i) lt at rest = rest (i, (omega arith), (λ d. at d))

some_matched : (f : Found) (id : Text) → is_some (matched_of f id) ≡ true → (x : MatchedArg) × (matched_of f id ≡ Some x)
some_matched f id has = go (matched_of f id) refl has
  where
    go : (o : Option MatchedArg) → matched_of f id ≡ o → is_some o ≡ true → (x : MatchedArg) × (matched_of f id ≡ Some x)
    go None is has = cc
    go (Some x) is has = (x, is)

-- the option of this id has a default
abbrev HasDefault : Text → Type 0
HasDefault id = (0 < length (named id options)) × AllByRecursion (λ (r : Rule). length r.defaults ≡ 1) (named id options)

defaulted : (c : Command) (m : ArgMatches) (is : app_of c ≡ serve) (p : IsParsedFrom c m) (id : Text) → HasDefault id
    → is_some (matched_of (found_of m) id) ≡ true
defaulted c m is p id has_one =
    let d = an_arg (args_of c) (rules_are c is) in
    let place = placed (λ r. length r.defaults ≡ 1) id options (rule_of d) has_one.0 has_one.1 in
    let k = place.0 in
    let below : k < length (args_of c) = rw (below c is) place.1 in
    let rule : rule_of (slice_index_or (args_of c) k d) ≡ slice_index_or options k (rule_of d) = rule_at (args_of c) k d ∙ ap (λ rs. slice_index_or rs k (rule_of d)) (rules_are c is) in
    let name : (slice_index_or (args_of c) k d).id.now ≡ id = ap (λ (r : Rule). r.id) rule ∙ place.2 in
    let count : length (map (λ (s : Bor Text). s.now) (Rattle.clap.specs.Texts.items_of (slice_index_or (args_of c) k d).default_vals)) ≡ 1 = ap (λ (r : Rule). length r.defaults) rule ∙ place.3 in
    let wants : WantsDefault (slice_index_or (args_of c) k d) = (((simple c is).args k d below).default_ifs, rw (sym (texts_count (Rattle.clap.specs.Texts.items_of (slice_index_or (args_of c) k d).default_vals)) ∙ count) (omega arith)) in
    let has = default_present c m p (simple c is).globals k d below wants in
    matched_there (found_of m).entries.items id (subst (λ (t : Text). HasId (found_of m) t) name has)
  where
    texts_count : (xs : List (Bor Text)) → length (map (λ (s : Bor Text). s.now) xs) ≡ length xs
    texts_count [] = refl
    texts_count (x ∷ xs) = ap suc (texts_count xs)

-- the host is required
host_matched : (c : Command) (m : ArgMatches) (is : app_of c ≡ serve) (p : IsParsedFrom c m) → is_some (matched_of (found_of m) (codes "host")) ≡ true
host_matched c m is p =
    let d = an_arg (args_of c) (rules_are c is) in
    let below : 0 < length (args_of c) = rw (below c is) (omega arith) in
    let rule : rule_of (slice_index_or (args_of c) 0 d) ≡ Rattle.command_line.specs.Serve.host = rule_at (args_of c) 0 d ∙ ap (λ rs. slice_index_or rs 0 (rule_of d)) (rules_are c is) in
    let name : (slice_index_or (args_of c) 0 d).id.now ≡ codes "host" = ap (λ (r : Rule). r.id) rule in
    let required : (slice_index_or (args_of c) 0 d).required ≡ true = ap (λ (r : Rule). r.required) rule in
    let there = required_present c m p (plain c is) (simple c is).globals (negates c is) 0 d below required in
    present_has_entry (found_of m) (codes "host") (subst (λ (t : Text). Rattle.clap.specs.Facts.is_present (found_of m) t ≡ true) name there)

first_none : (f : Found) (id : Text) → matched_of f id ≡ None → first_value f id ≡ None
first_none f id none = rw none refl

one_none : (f : Found) (id : Text) → matched_of f id ≡ None → one_text f id ≡ None
one_none f id none = rw none refl

no_text : {x : ℕ} {xs : Text} → x ∷ xs ≡ [] → ⊥
no_text e = cc

-- every option has its text
pub values_there : (c : Command) (m : ArgMatches) → app_of c ≡ serve → IsParsedFrom c m → HasValues (found_of m)
values_there c m is p =
    let value : (id : Text) → (id ≡ [] → ⊥) → bytes_eq (codes "help") id ≡ false → bytes_eq (codes "version") id ≡ false → IsOption id → is_some (matched_of (found_of m) id) ≡ true → HasValue p.built (found_of m) id =
    λ id named no_help no_version option there. let x = some_matched (found_of m) id there in has_value c m is p id named no_help no_version option x.0 x.1 in
    record {
      host = texted p.built (found_of m) (codes "host") (value (codes "host") (λ e. no_text e) refl refl ((refl, refl), tt) (host_matched c m is p));
      bind = texted p.built (found_of m) (codes "bind") (value (codes "bind") (λ e. no_text e) refl refl ((refl, refl), tt) (defaulted c m is p (codes "bind") (omega arith, (refl, tt))));
      full = taken c m is p (codes "full") refl refl ((refl, refl), tt) (vp.Signed (pos 1) (pos 65535)) (parser_named (codes "full") (vp.Signed (pos 1) (pos 65535)) ((refl, refl), tt))
          (value (codes "full") (λ e. no_text e) refl refl ((refl, refl), tt) (defaulted c m is p (codes "full") (omega arith, (refl, tt))));
      view = taken c m is p (codes "view") refl refl ((refl, refl), tt) (vp.Signed (pos 1) (pos 65535)) (parser_named (codes "view") (vp.Signed (pos 1) (pos 65535)) ((refl, refl), tt))
          (value (codes "view") (λ e. no_text e) refl refl ((refl, refl), tt) (defaulted c m is p (codes "view") (omega arith, (refl, tt))));
      full_places = taken c m is p (codes "full-places") refl refl ((refl, refl), tt) (vp.Unsigned 1 32) (parser_named (codes "full-places") (vp.Unsigned 1 32) ((refl, refl), tt))
          (value (codes "full-places") (λ e. no_text e) refl refl ((refl, refl), tt) (defaulted c m is p (codes "full-places") (omega arith, (refl, tt))));
      view_places = taken c m is p (codes "view-places") refl refl ((refl, refl), tt) (vp.Unsigned 1 32) (parser_named (codes "view-places") (vp.Unsigned 1 32) ((refl, refl), tt))
          (value (codes "view-places") (λ e. no_text e) refl refl ((refl, refl), tt) (defaulted c m is p (codes "view-places") (omega arith, (refl, tt))));
      stalled = taken c m is p (codes "stalled") refl refl ((refl, refl), tt) (vp.Unsigned 10 600) (parser_named (codes "stalled") (vp.Unsigned 10 600) ((refl, refl), tt))
          (value (codes "stalled") (λ e. no_text e) refl refl ((refl, refl), tt) (defaulted c m is p (codes "stalled") (omega arith, (refl, tt))));
      recording_key = taken c m is p (codes "record-key") refl refl ((refl, refl), tt) (vp.Unsigned 10 600) (parser_named (codes "record-key") (vp.Unsigned 10 600) ((refl, refl), tt))
          (value (codes "record-key") (λ e. no_text e) refl refl ((refl, refl), tt) (defaulted c m is p (codes "record-key") (omega arith, (refl, tt))));
      web_full = web_port (codes "web-full") (λ e. no_text e) refl refl ((refl, refl), tt) ((refl, refl), tt) (matched_of (found_of m) (codes "web-full")) refl;
      web_view = web_port (codes "web-view") (λ e. no_text e) refl refl ((refl, refl), tt) ((refl, refl), tt) (matched_of (found_of m) (codes "web-view")) refl;
      again = pause (matched_of (found_of m) (codes "again")) refl;
    }
  where
    web_port : (id : Text) → (id ≡ [] → ⊥) → bytes_eq (codes "help") id ≡ false → bytes_eq (codes "version") id ≡ false → IsOption id
        → AllByRecursion (λ (r : Rule). (r.parser ≡ Some (vp.Signed (pos 1) (pos 65535))) × (r.ignore_case ≡ false)) (named id options)
        → (o : Option MatchedArg) → matched_of (found_of m) id ≡ o → MayHavePort (found_of m) id
    web_port id some no_help no_version option parser None none = inl (first_none (found_of m) id none, one_none (found_of m) id none)
    web_port id some no_help no_version option parser (Some x) found = inr (taken c m is p id no_help no_version option (vp.Signed (pos 1) (pos 65535)) (parser_named id (vp.Signed (pos 1) (pos 65535)) parser)
        (has_value c m is p id some no_help no_version option x found))

    pause : (o : Option MatchedArg) → matched_of (found_of m) (codes "again") ≡ o → MayHavePause (found_of m) (codes "again")
    pause None none = inl (first_none (found_of m) (codes "again") none, one_none (found_of m) (codes "again") none)
    pause (Some x) found = inr (taken c m is p (codes "again") refl refl ((refl, refl), tt) (vp.Unsigned 1 3600) (parser_named (codes "again") (vp.Unsigned 1 3600) ((refl, refl), tt))
        (has_value c m is p (codes "again") (λ e. no_text e) refl refl ((refl, refl), tt) x found))
