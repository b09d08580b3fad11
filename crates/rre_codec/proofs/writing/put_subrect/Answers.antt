use Rattle.std.proofs.Common.{◌≡◌, ◌∙◌, ◌+◌, ◌*◌, ◌++◌, ℕ, List, [], ◌∷◌, Option, Some, None, length, take, refl, sym, ap, arith}
use Rattle.std.specs.Prelude.{MatchOption}
use Rattle.std.specs.List.{flat_map}
use Rattle.std.proofs.lemmas.List.{append-nil, length-take}
use Rattle.pixel_format.specs.PixelFormat.{pixel_len}
use Rattle.raster.specs.declared.rect.Rect.{Rect}
use Rattle.raster.specs.Screen.{Canvas, value_at, part_of}
use Rattle.raster.specs.Encoding.{Subrect, rre_subrect_bytes}
use Rattle.raster.proofs.Places.{part_whole}
use Rattle.joined_runs.specs.Joined.{written}
use Rattle.joined_runs.specs.Found.{subrect_of, subrect_as_high}
use Rattle.rre_codec.proofs.Lengths.{behind_len}
use Rattle.rre_codec.proofs.writing.put_subrect.Goals as goal

pub height-requires : goal.height-requires
height-requires c =
    rw c.whole.ensures
    (record {
      lies = record { across = omega arith; down = let e : (0 + c.args.h) * c.args.w ≡ c.args.w * c.args.h = omega arith in omega (arith, e, c.requires.count); wide = c.requires.wide; high = omega (arith, c.requires.high) };
      column = c.requires.column;
      row = c.requires.row;
    })

pub returns-in_default : goal.returns-in_default
returns-in_default c =
    let canvas : Canvas = value_at c.args.w c.args.values.now in
    let f : Subrect → List ℕ = rre_subrect_bytes c.args.format.now in
    let none : written c.args.form (part_of c.whole.result canvas) c.whole.result.w c.whole.result.h (subrect_of c.args.run.now ∷ []) ≡ [] = no_height c.height.result (written c.args.form (part_of c.whole.result canvas) c.whole.result.w c.whole.result.h (subrect_of c.args.run.now ∷ [])) (λ high. subrect_as_high c.args.run.now high ∷ []) c.in_default.not-Some c.height.ensures.value in
    let same : written c.args.form (part_of c.whole.result canvas) c.whole.result.w c.whole.result.h (subrect_of c.args.run.now ∷ []) ≡ written c.args.form canvas c.args.w c.args.h (subrect_of c.args.run.now ∷ []) =
    ap (λ (r : Rect). written c.args.form (part_of r canvas) r.w r.h (subrect_of c.args.run.now ∷ [])) c.whole.ensures ∙ ap (λ (m : Canvas). written c.args.form m c.args.w c.args.h (subrect_of c.args.run.now ∷ [])) (part_whole c.args.w c.args.h canvas) in
    let front : take c.args.used c.args.out.now ++ flat_map f (written c.args.form canvas c.args.w c.args.h (subrect_of c.args.run.now ∷ [])) ≡ take c.args.used c.args.out.now =
    ap (λ ss. take c.args.used c.args.out.now ++ flat_map f ss) (sym same ∙ none) ∙ append-nil (take c.args.used c.args.out.now) in
    record {
      end = sym (ap length front ∙ omega (arith, length-take c.args.used c.args.out.now, c.requires.room));
      inside = c.requires.room;
      front = sym front;
    }
  where
    no_height : (answer : Option ℕ) (one : List Subrect) (f : ℕ → List Subrect) → ((n : ℕ) → answer ≡ Some n → ⊥) → MatchOption answer (one ≡ []) (λ n. one ≡ f n) → one ≡ []
    no_height None one f ne e = e
    no_height (Some n) one f ne e = absurd (ne n refl)

pub returns-then-out-used : goal.returns-then-out-used
returns-then-out-used c =
    let canvas : Canvas = value_at c.args.w c.args.values.now in
    let one : List Subrect = written c.args.form canvas c.args.w c.args.h (subrect_of c.args.run.now ∷ []) in
    let same : written c.args.form (part_of c.whole.result canvas) c.whole.result.w c.whole.result.h (subrect_of c.args.run.now ∷ []) ≡ one =
    ap (λ (r : Rect). written c.args.form (part_of r canvas) r.w r.h (subrect_of c.args.run.now ∷ [])) c.whole.ensures ∙ ap (λ (m : Canvas). written c.args.form m c.args.w c.args.h (subrect_of c.args.run.now ∷ [])) (part_whole c.args.w c.args.h canvas) in
    let is : one ≡ subrect_as_high c.args.run.now c.in-Some.high ∷ [] = sym same ∙ c.in-Some.ensures.value in
    let count : (pixel_len c.args.format.now + 8) * length one ≡ pixel_len c.args.format.now + 8 = ap (λ (ss : List Subrect). (pixel_len c.args.format.now + 8) * length ss) is ∙ omega arith in
    omega (arith, behind_len c.args.format.now (take c.args.used c.args.out.now) one, count, length-take c.args.used c.args.out.now, c.requires.room, c.bytes-size.ensures, c.if-out-used.true)

pub returns : goal.returns
returns c =
    let canvas : Canvas = value_at c.args.w c.args.values.now in
    let f : Subrect → List ℕ = rre_subrect_bytes c.args.format.now in
    let p : ℕ = pixel_len c.args.format.now in
    let one : List Subrect = written c.args.form canvas c.args.w c.args.h (subrect_of c.args.run.now ∷ []) in
    let same : written c.args.form (part_of c.whole.result canvas) c.whole.result.w c.whole.result.h (subrect_of c.args.run.now ∷ []) ≡ one =
    ap (λ (r : Rect). written c.args.form (part_of r canvas) r.w r.h (subrect_of c.args.run.now ∷ [])) c.whole.ensures ∙ ap (λ (m : Canvas). written c.args.form m c.args.w c.args.h (subrect_of c.args.run.now ∷ [])) (part_whole c.args.w c.args.h canvas) in
    let is : one ≡ subrect_as_high c.args.run.now c.in-Some.high ∷ [] = sym same ∙ c.in-Some.ensures.value in
    let count : (p + 8) * length one ≡ p + 8 = ap (λ (ss : List Subrect). (p + 8) * length ss) is ∙ omega arith in
    let stop : c.args.used + (c.bytes-size.result + 8) ≡ c.args.used + p + 8 = omega (arith, c.bytes-size.ensures) in
    record {
      end = omega (arith, behind_len c.args.format.now (take c.args.used c.args.out.now) one, count, length-take c.args.used c.args.out.now, c.requires.room, c.bytes-size.ensures);
      inside = omega (arith, c.if-out-used.false, c.requires.room);
      front =
          ap (λ n. take n c.put_run.new.out) stop
          ∙ (c.put_run.ensures ∙ (ap (λ t. take c.args.used c.args.out.now ++ t) (sym (append-nil (f (subrect_as_high c.args.run.now c.in-Some.high)))) ∙ ap (λ ss. take c.args.used c.args.out.now ++ flat_map f ss) (sym is)));
    }
