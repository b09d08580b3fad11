-- An opening is whole, or it goes on; and where it isn't one of ours nothing changes.
use Rattle.std.proofs.Common.{◌≡◌, ◌∙◌, ◌++◌, ◌<◌, ◌-◌, ℕ, true, false, List, Some, None, Ok, Err, length, take, refl, sym, ap, subst, arith}
use Rattle.std.proofs.lemmas.List.{take-take}
use Rattle.byte_reading.specs.Reading.{Done, after, taken, wants_more}
use Rattle.playback.specs.Opening.{Opened, opening}
use Rattle.playback.specs.Openings.{Begun, seen}
use Rattle.playback.proofs.Openings.{goes_on, is_none, ends, Ends, with_rest}
use Rattle.playback.proofs.opening.OpeningReader.feed.Goals as goal

pub returns-in-None-clause-goes_on : goal.returns-in-None-clause-goes_on
returns-in-None-clause-goes_on c =
    let piece : List ℕ = take c.min-count.result c.args.said.now in
    let old : List ℕ = c.self.inside.begun.items in
    let all : c.extend_from_slice.new.self.items ≡ old ++ piece = c.in_ok-extend_from_slice.ensures.items ∙ ap (λ (xs : List ℕ). old ++ xs) c.split_at.ensures.front in
    let none : seen opening c.extend_from_slice.new.self.items ≡ None = ap (seen opening) (sym c.as_slice.ensures.value) ∙ sym c.in-None.ensures in
    let closed : c.self.inside.is_open ≡ false = ap (λ (b : Begun). b.is_open) c.self.view_is ∙ c.requires.closed in
    rw closed (rw (← c.self.view_is) (goes_on old c.extend_from_slice.new.self.items piece all none))

pub returns-in-Err-clause-refused : goal.returns-in-Err-clause-refused
returns-in-Err-clause-refused c =
    let count : ℕ = c.min-count.result in
    let old : List ℕ = c.self.inside.begun.items in
    let new : List ℕ = c.extend_from_slice.new.self.items in
    let all : new ≡ old ++ take count c.args.said.now = c.in_ok-extend_from_slice.ensures.items ∙ ap (λ (xs : List ℕ). old ++ xs) c.split_at.ensures.front in
    let seen_now : seen opening new ≡ Some (with_rest c.in-Some.rest.now (Err c.in-Err.bad)) =
    ap (seen opening) (sym c.as_slice.ensures.value) ∙ (sym c.in-Some.ensures ∙ ap (λ (o : Opened). Some (with_rest c.in-Some.rest.now o)) c.in-Err.is) in
    rw (← c.self.view_is) (is_none old c.args.said.now (take count c.args.said.now) new count c.in-Some.rest.now c.in-Err.bad refl all seen_now)

pub overflow_sub-result : goal.overflow_sub-result
overflow_sub-result c =
    let count : ℕ = c.min-count.result in
    let piece : List ℕ = take count c.args.said.now in
    let old : List ℕ = c.self.inside.begun.items in
    let new : List ℕ = c.extend_from_slice.new.self.items in
    let all : new ≡ old ++ piece = c.in_ok-extend_from_slice.ensures.items ∙ ap (λ (xs : List ℕ). old ++ xs) c.split_at.ensures.front in
    let wants : wants_more (after opening old) ≡ true = ap (λ (b : Begun). wants_more (after opening b.begun)) c.self.view_is ∙ c.requires.begun in
    let seen_now : seen opening new ≡ Some (with_rest c.in-Some.rest.now (Ok tt)) =
    ap (seen opening) (sym c.as_slice.ensures.value) ∙ (sym c.in-Some.ensures ∙ ap (λ (o : Opened). Some (with_rest c.in-Some.rest.now o)) c.in_default.is) in
    let long : count ≡ length piece = sym c.split_at.ensures.front_len ∙ ap length c.split_at.ensures.front in
    let h : Ends old piece count (length c.in-Some.rest.now) = ends old piece new c.in-Some.rest.now count wants long all seen_now in
    omega (arith, h.fits)

pub returns-clause-goes_on : goal.returns-clause-goes_on
returns-clause-goes_on c =
    let count : ℕ = c.min-count.result in
    let left : ℕ = length c.in-Some.rest.now in
    let said : List ℕ = c.args.said.now in
    let piece : List ℕ = take count said in
    let old : List ℕ = c.self.inside.begun.items in
    let new : List ℕ = c.extend_from_slice.new.self.items in
    let all : new ≡ old ++ piece = c.in_ok-extend_from_slice.ensures.items ∙ ap (λ (xs : List ℕ). old ++ xs) c.split_at.ensures.front in
    let wants : wants_more (after opening old) ≡ true = ap (λ (b : Begun). wants_more (after opening b.begun)) c.self.view_is ∙ c.requires.begun in
    let seen_now : seen opening new ≡ Some (with_rest c.in-Some.rest.now (Ok tt)) =
    ap (seen opening) (sym c.as_slice.ensures.value) ∙ (sym c.in-Some.ensures ∙ ap (λ (o : Opened). Some (with_rest c.in-Some.rest.now o)) c.in_default.is) in
    let long : count ≡ length piece = sym c.split_at.ensures.front_len ∙ ap length c.split_at.ensures.front in
    let h : Ends old piece count left = ends old piece new c.in-Some.rest.now count wants long all seen_now in
    let same : take (count - left) piece ≡ take (count - left) said = take-take (count - left) count said (omega (arith, h.fits)) in
    rw (← c.self.view_is) (subst (λ (xs : List ℕ). (after opening (old ++ xs) ≡ Done (Ok tt)) × (taken opening (old ++ xs) ≡ length (old ++ xs)) × (0 < length xs)) same h.opens)
