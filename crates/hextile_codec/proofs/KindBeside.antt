-- What a tile's joined runs and the runs of its rows have in common: values other than a background. So the kind in one
-- form tells that in the other. `kind_of_rows` rests on it.
use Rattle.std.proofs.Common.{◌≡◌, ℕ, Bool, true, false, cond, ◌&&◌, ◌||◌, not, List, [], ◌∷◌, refl, sym, ap, ◌∙◌, ◌-◌, ◌*◌, ◌<◌, ◌⊎◌, inl, inr, arith}
use Rattle.std.specs.Prelude.{◌==◌, filter}
use Rattle.std.specs.List.{list_all}
use Rattle.std.proofs.lemmas.Bool.{and_parts, cases_eq, eq-eqb, eqb-true}
use Rattle.std.proofs.lemmas.Nat.{mul-lt}
use Rattle.raster.specs.Screen.{Canvas, values_of}
use Rattle.raster.specs.Encoding.{Subrect, begins_run}
use Rattle.raster.proofs.Places.{length_values}
use Rattle.raster.proofs.Runs.{SomeOf, HoldsHere, Agrees, each_run_over, some_run_over, started}
use Rattle.raster.proofs.Spellings.{Each, each_filter, each_map}
use Rattle.raster.proofs.Values.{each_value}
use Rattle.joined_runs.specs.Joined.{is_below, joined_runs, most_frequent, runs_over, with_below}
use Rattle.joined_runs.proofs.JoinedDrawn.{each_joined, joined_agrees, joined_hold}
use Rattle.joined_runs.proofs.MostFrequent.{most_holds}
use Rattle.hextile_codec.specs.declared.tile_kind.TileKind.{TileKind}
use Rattle.hextile_codec.specs.declared.tile_kind.TileKind.TheVariants.{Raw, Plain, TwoColours, Coloured}
use Rattle.hextile_codec.specs.TileKinds.{has_one_value, kind_of}

some_each : {A : Type 0} (P Q R : A → Type 0) (xs : List A) → ((x : A) → P x → Q x → R x) → Each P xs → SomeOf Q xs → SomeOf R xs
some_each P Q R [] f e s = absurd s
some_each P Q R (x ∷ xs) f e (inl q) = inl (f x e.0 q)
some_each P Q R (x ∷ xs) f e (inr q) = inr (some_each P Q R xs f e.1 q)

begun_other : (canvas : Canvas) (background x y : ℕ) → begins_run canvas background y x ≡ true → canvas x y ≡ background → ⊥
begun_other canvas background x y b same = let apart : false ≡ true = sym (ap not (eq-eqb (canvas x y) background same)) ∙ (and_parts (not (canvas x y == background)) ((x == 0) || not (canvas (x - 1) y == canvas x y)) b).0 in cc

module _ (canvas : Canvas) (w h : ℕ) where
  -- A value shows somewhere.
  pub record IsShown (v : ℕ) : Type 0 where
    pub x : ℕ
    pub y : ℕ
    pub column : x < w
    pub row : y < h
    pub is : canvas x y ≡ v

  -- Subrectangles over a background have the values that show but for it.
  pub record IsOver (background : ℕ) (ss : List Subrect) : Type 0 where
    pub each : Each (λ s. IsShown s.value × (s.value ≡ background → ⊥)) ss
    pub some : (x y : ℕ) → x < w → y < h → (canvas x y ≡ background → ⊥) → SomeOf (λ s. s.value ≡ canvas x y) ss

  pub rows_over : (background : ℕ) → IsOver background (runs_over canvas background w h)
  rows_over background =
      record {
        each = each_run_over canvas background w h (λ s. IsShown s.value × (s.value ≡ background → ⊥)) (λ x y lx ly b. (record { x = x; y = y; column = lx; row = ly; is = refl }, begun_other canvas background x y b));
        some = λ x y lx ly ne.
            let t = started canvas background y x ne in
            some_run_over canvas background w h t.0 y (λ s. s.value ≡ canvas x y) (omega (arith, lx, t.1.before)) ly t.1.begins (t.1.same t.0 (omega arith) (omega (arith, t.1.before)));
      }

  pub joined_over : (background : ℕ) → IsOver background (joined_runs canvas background w h)
  joined_over background =
      record {
        each = each_map P (with_below canvas w h) (filter (λ run. not (is_below canvas w run)) (runs_over canvas background w h))
            (each_filter (λ run. P (with_below canvas w h run)) (λ run. not (is_below canvas w run)) (runs_over canvas background w h)
            (each_run_over canvas background w h (λ run. not (is_below canvas w run) ≡ true → P (with_below canvas w h run)) (λ x y lx ly b top. (record { x = x; y = y; column = lx; row = ly; is = refl }, begun_other canvas background x y b))));
        some = λ x y lx ly ne.
            some_each (Agrees canvas x y) (HoldsHere x y) (λ s. s.value ≡ canvas x y) (joined_runs canvas background w h) (λ s a b. a b) (each_joined canvas background w h (Agrees canvas x y) (λ x0 y0 a b. joined_agrees canvas background w h x0 y0 x y))
            (joined_hold canvas background w h x y lx ly ne);
      }
    where
      P : Subrect → Type 0
      P s = IsShown s.value × (s.value ≡ background → ⊥)

  pub most_shown : 0 < w → 0 < h → IsShown (most_frequent (values_of w h canvas))
  most_shown lw lh =
      let some : 0 * 0 < w * h = mul-lt 0 0 w h lw lh in
      most_holds IsShown (values_of w h canvas) (omega (arith, some, length_values w h canvas)) (each_value w h canvas IsShown lw (λ x y lx ly. record { x = x; y = y; column = lx; row = ly; is = refl }))

  -- ---- what a kind says of the values, and the other way round

  -- All positions show one value, or one of two.
  abbrev AllAre : ℕ → Type 0
  AllAre u = (x y : ℕ) → x < w → y < h → canvas x y ≡ u

  abbrev AllWithin : ℕ → ℕ → Type 0
  AllWithin u v = (x y : ℕ) → x < w → y < h → (canvas x y ≡ u) ⊎ (canvas x y ≡ v)

  abbrev value_of : TileKind → ℕ
  value_of Raw = 0
  value_of Plain = 0
  value_of (TwoColours v) = v
  value_of Coloured = 0

  each_same : (v : ℕ) (ss : List Subrect) → list_all (λ t. t.value == v) ss ≡ true → Each (λ s. s.value ≡ v) ss
  each_same v [] e = tt
  each_same v (s ∷ ss) e = let both = and_parts (s.value == v) (list_all (λ t. t.value == v) ss) e in (eqb-true s.value v both.0, each_same v ss both.1)

  same_each : (v : ℕ) (ss : List Subrect) → Each (λ s. s.value ≡ v) ss → list_all (λ t. t.value == v) ss ≡ true
  same_each v [] e = refl
  same_each v (s ∷ ss) e = both (s.value == v) (list_all (λ t. t.value == v) ss) (eq-eqb s.value v e.0) (same_each v ss e.1)
    where
      both : (a b : Bool) → a ≡ true → b ≡ true → (a && b) ≡ true
      both a b p q = rw (p, q) refl

  -- One of some values that are all the same is that.
  is_same : (u v : ℕ) (ss : List Subrect) → Each (λ s. s.value ≡ v) ss → SomeOf (λ s. s.value ≡ u) ss → u ≡ v
  is_same u v [] e some = absurd some
  is_same u v (s ∷ ss) e (inl q) = sym q ∙ e.0
  is_same u v (s ∷ ss) e (inr q) = is_same u v ss e.1 q

  module _ (background : ℕ) where
    pub plain_all : (ss : List Subrect) → IsOver background ss → kind_of ss ≡ Plain → AllAre background
    plain_all [] o e x y lx ly = elim (cases_eq (canvas x y) background) [ inl same ↦ same | inr ne ↦ absurd (o.some x y lx ly ne) ]
    plain_all (s ∷ ss) o e x y lx ly = by_test (has_one_value (s ∷ ss)) e
      where
        by_test : (b : Bool) → cond b (TwoColours s.value) Coloured ≡ Plain → canvas x y ≡ background
        by_test true f = absurd cc
        by_test false f = absurd cc

    pub record Two (v : ℕ) : Type 0 where
      pub within : AllWithin background v
      pub shown : IsShown v
      pub other : v ≡ background → ⊥

    pub two_all : (ss : List Subrect) (v : ℕ) → IsOver background ss → kind_of ss ≡ TwoColours v → Two v
    two_all [] v o e = absurd cc
    two_all (s ∷ ss) v o e = by_test (has_one_value (s ∷ ss)) refl e
      where
        by_test : (b : Bool) → has_one_value (s ∷ ss) ≡ b → cond b (TwoColours s.value) Coloured ≡ TwoColours v → Two v
        by_test false one f = absurd cc
        by_test true one f =
            let is : s.value ≡ v = ap value_of f in
            let all : Each (λ t. t.value ≡ s.value) (s ∷ ss) = (refl, each_same s.value ss one) in
            let two : Two s.value = record {
              within = λ x y lx ly. elim (cases_eq (canvas x y) background) [ inl same ↦ inl same | inr ne ↦ inr (is_same (canvas x y) s.value (s ∷ ss) all (o.some x y lx ly ne)) ];
              shown = o.each.0.0;
              other = o.each.0.1;
            } in
            rw is at two

    -- Values other than the background, where two show.
    each_two : (v : ℕ) → AllWithin background v → (ss : List Subrect) → Each (λ s. IsShown s.value × (s.value ≡ background → ⊥)) ss → Each (λ s. s.value ≡ v) ss
    each_two v within [] e = tt
    each_two v within (s ∷ ss) e =
        let at = e.0.0 in (
          elim (within at.x at.y at.column at.row) [ inl b ↦ absurd (e.0.1 (sym at.is ∙ b)) | inr is ↦ sym at.is ∙ is ],
          each_two v within ss e.1,
        )

    pub all_plain : (ss : List Subrect) → IsOver background ss → AllAre background → kind_of ss ≡ Plain
    all_plain [] o all = refl
    all_plain (s ∷ ss) o all = let at = o.each.0.0 in absurd (o.each.0.1 (sym at.is ∙ all at.x at.y at.column at.row))

    pub all_two : (ss : List Subrect) (v : ℕ) → IsOver background ss → Two v → kind_of ss ≡ TwoColours v
    all_two [] v o two = let at = two.shown in absurd (o.some at.x at.y at.column at.row (λ b. two.other (sym at.is ∙ b)))
    all_two (s ∷ ss) v o two =
        let all : Each (λ t. t.value ≡ v) (s ∷ ss) = each_two v two.within (s ∷ ss) o.each in
        let first : s.value ≡ v = all.0 in
        let one : list_all (λ t. t.value == s.value) ss ≡ true = rw first (same_each v ss all.1) in
        ap (λ b. cond b (TwoColours s.value) Coloured) one ∙ ap TwoColours first

  -- ---- two backgrounds that show

  module _ (b f : ℕ) (joined rows : List Subrect) (over : IsOver b joined) (beside : IsOver f rows) (most : IsShown b) (first : IsShown f) where
    pub two_apart : (v : ℕ) → kind_of joined ≡ TwoColours v → (f ≡ b → ⊥) → kind_of rows ≡ TwoColours b
    two_apart v e ne =
        let two = two_all b joined v over e in
        let is : f ≡ v = elim (two.within first.x first.y first.column first.row) [ inl same ↦ absurd (ne (sym first.is ∙ same)) | inr same ↦ sym first.is ∙ same ] in
        all_two f rows b beside
        (record {
          within = λ x y lx ly. elim (two.within x y lx ly) [ inl same ↦ inr same | inr same ↦ inl (same ∙ sym is) ];
          shown = most;
          other = λ same. ne (sym same);
        })

    one_back : (v : ℕ) → Two f v → (f ≡ b → ⊥) → b ≡ v
    one_back v two ne = elim (two.within most.x most.y most.column most.row) [ inl same ↦ absurd (ne (sym (sym most.is ∙ same))) | inr same ↦ sym most.is ∙ same ]

    -- Runs of rows of one value are joined to some of one value.
    two_back : (v : ℕ) → kind_of rows ≡ TwoColours v → (u : ℕ) × (kind_of joined ≡ TwoColours u)
    two_back v e =
        let two = two_all f rows v beside e in
        elim (cases_eq f b) [
          | inl same ↦ (v, all_two b joined v over (rw same at two))
          | inr ne ↦
              let is : b ≡ v = one_back v two ne in (
                f,
                all_two b joined f over (record {
                  within = λ x y lx ly. elim (two.within x y lx ly) [ inl p ↦ inr p | inr q ↦ inl (q ∙ sym is) ];
                  shown = first;
                  other = ne;
                }),
              )
        ]

    pub not_two : ((v : ℕ) → kind_of joined ≡ TwoColours v → ⊥) → kind_of joined ≡ kind_of rows
    not_two none = by_kinds (kind_of joined) (kind_of rows) refl refl
      where
        all_same : AllAre b → f ≡ b
        all_same all = sym first.is ∙ all first.x first.y first.column first.row

        back_same : AllAre f → f ≡ b
        back_same all = sym (sym most.is ∙ all most.x most.y most.column most.row)

        never : (ss : List Subrect) → kind_of ss ≡ Raw → ⊥
        never [] e = absurd cc
        never (s ∷ ss) e = by_test (has_one_value (s ∷ ss)) e
          where
            by_test : (c : Bool) → cond c (TwoColours s.value) Coloured ≡ Raw → ⊥
            by_test true g = absurd cc
            by_test false g = absurd cc

        by_kinds : (j r : TileKind) → kind_of joined ≡ j → kind_of rows ≡ r → j ≡ r
        by_kinds Raw r p q = absurd (never joined p)
        by_kinds (TwoColours v) r p q = absurd (none v p)
        by_kinds Plain r p q =
            let all = plain_all b joined over p in
            sym (all_plain f rows beside (λ x y lx ly. all x y lx ly ∙ sym (all_same all))) ∙ q
        by_kinds Coloured Raw p q = absurd (never rows q)
        by_kinds Coloured Coloured p q = refl
        by_kinds Coloured (TwoColours v) p q = let back = two_back v q in absurd (none back.0 back.1)
        by_kinds Coloured Plain p q =
            let all = plain_all f rows beside q in
            let plain : kind_of joined ≡ Plain = all_plain b joined over (λ x y lx ly. all x y lx ly ∙ back_same all) in
            let both : Coloured ≡ Plain = sym p ∙ plain in
            absurd cc

    -- Over one background they have one kind.
    pub same_back : f ≡ b → kind_of joined ≡ kind_of rows
    same_back same = by_kind (kind_of joined) refl
      where
        by_kind : (j : TileKind) → kind_of joined ≡ j → kind_of joined ≡ kind_of rows
        by_kind (TwoColours v) e = e ∙ sym (all_two f rows v beside (rw (← same) at (two_all b joined v over e)))
        by_kind Raw e = not_two (λ v g. let both : Raw ≡ TwoColours v = sym e ∙ g in absurd cc)
        by_kind Plain e = not_two (λ v g. let both : Plain ≡ TwoColours v = sym e ∙ g in absurd cc)
        by_kind Coloured e = not_two (λ v g. let both : Coloured ≡ TwoColours v = sym e ∙ g in absurd cc)
