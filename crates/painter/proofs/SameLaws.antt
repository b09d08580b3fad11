-- Lists of updates that come to the same: how they grow, and what follows. Updates of tiles are put in place of the
-- host's own, and nobody may see it.
use Rattle.std.proofs.Common.{◌≡◌, ℕ, zero, suc, ◌+◌, ◌<◌, List, [], ◌∷◌, ◌++◌, length, map, take, Option, Some, None, refl, ap, sym, ◌∙◌, arith}
use Rattle.std.specs.Prelude.{if◌then◌else◌}
use Rattle.std.proofs.lemmas.List.{take_all}
use Rattle.raster.specs.declared.rect.Rect.{Rect}
use Rattle.raster.specs.Screen.{Canvas, LooksLike, tile_count, tile_rect}
use Rattle.raster.specs.declared.size.Size.{Size}
use Rattle.raster.specs.Update.{Update, Paints, Bell, Cut, NumberedText, after_paints, after_updates, bells, last_text_from, paints_of, size_after_update, size_after_updates}
use Rattle.tiles.specs.Touched.{bell_or_text, last_touch_from, touches}
use Rattle.painter.specs.Same.{AreSameFrom, AreSameUpdates}

-- ---- how they grow

shows_none : (w h : ℕ) (a b : Canvas) → LooksLike w h a b → (n : ℕ) → LooksLike w h (after_updates a (take n [])) (after_updates b (take n []))
shows_none w h a b alike zero = alike
shows_none w h a b alike (suc n) = alike

-- No update each.
pub same_none : (w h : ℕ) (a b : Canvas) → LooksLike w h a b → AreSameFrom w h a b [] []
same_none w h a b alike = record { count = refl; shows = shows_none w h a b alike; touched = λ t lt. refl; kinds = refl }

-- One more in front of each.
pub same_first : (w h : ℕ) (a b : Canvas) (u v : Update) (us vs : List Update) → LooksLike w h a b → ((t : ℕ) → t < tile_count w h → touches (tile_rect w h t) u ≡ touches (tile_rect w h t) v)
    → bell_or_text u ≡ bell_or_text v → AreSameFrom w h (after_paints a (paints_of u)) (after_paints b (paints_of v)) us vs → AreSameFrom w h a b (u ∷ us) (v ∷ vs)
same_first w h a b u v us vs alike tiles kind same =
    record {
      count = ap suc same.count;
      shows = shows;
      touched = λ t lt. let here = tiles t lt in let others = same.touched t lt in cc;
      kinds = let others = same.kinds in cc;
    }
  where
    shows : (n : ℕ) → LooksLike w h (after_updates a (take n (u ∷ us))) (after_updates b (take n (v ∷ vs)))
    shows zero = alike
    shows (suc n) = same.shows n

-- One each.
pub same_one : (w h : ℕ) (a b : Canvas) (u v : Update) → LooksLike w h a b → LooksLike w h (after_paints a (paints_of u)) (after_paints b (paints_of v))
    → ((t : ℕ) → t < tile_count w h → touches (tile_rect w h t) u ≡ touches (tile_rect w h t) v) → bell_or_text u ≡ bell_or_text v → AreSameFrom w h a b (u ∷ []) (v ∷ [])
same_one w h a b u v alike shows tiles kind = same_first w h a b u v [] [] alike tiles kind (same_none w h (after_paints a (paints_of u)) (after_paints b (paints_of v)) shows)

-- What stands after the first of each.
pub same_rest : (w h : ℕ) (a b : Canvas) (u v : Update) (us vs : List Update) → AreSameFrom w h a b (u ∷ us) (v ∷ vs) → AreSameFrom w h (after_paints a (paints_of u)) (after_paints b (paints_of v)) us vs
same_rest w h a b u v us vs same =
    record {
      count = let e = same.count in omega arith;
      shows = λ n. same.shows (suc n);
      touched = λ t lt. let e = same.touched t lt in cc;
      kinds = let e = same.kinds in cc;
    }

first_touched : (r : Rect) (u v : Update) (us vs : List Update) → map (touches r) (u ∷ us) ≡ map (touches r) (v ∷ vs) → touches r u ≡ touches r v
first_touched r u v us vs e = cc

first_kind : (u v : Update) (us vs : List Update) → map bell_or_text (u ∷ us) ≡ map bell_or_text (v ∷ vs) → bell_or_text u ≡ bell_or_text v
first_kind u v us vs e = cc

-- Lists after lists.
pub same_append : (w h : ℕ) (a b : Canvas) (us vs us2 vs2 : List Update) → AreSameFrom w h a b us vs → AreSameFrom w h (after_updates a us) (after_updates b vs) us2 vs2
    → AreSameFrom w h a b (us ++ us2) (vs ++ vs2)
same_append w h a b [] [] us2 vs2 same more = more
same_append w h a b [] (v ∷ vs) us2 vs2 same more = let e = same.count in absurd (omega arith)
same_append w h a b (u ∷ us) [] us2 vs2 same more = let e = same.count in absurd (omega arith)
same_append w h a b (u ∷ us) (v ∷ vs) us2 vs2 same more =
    same_first w h a b u v (us ++ us2) (vs ++ vs2) (same.shows 0) (λ t lt. first_touched (tile_rect w h t) u v us vs (same.touched t lt)) (first_kind u v us vs same.kinds)
    (same_append w h (after_paints a (paints_of u)) (after_paints b (paints_of v)) us vs us2 vs2 (same_rest w h a b u v us vs same) more)

-- The same, from whatever looks like the screen at the start.
pub none_each : (w h : ℕ) (start : Canvas) → AreSameUpdates w h start [] []
none_each w h start before alike = same_none w h start before alike

-- Lists that are applied one after the other.
pub after_each : (s : Canvas) (us vs : List Update) → after_updates s (us ++ vs) ≡ after_updates (after_updates s us) vs
after_each s [] vs = refl
after_each s (u ∷ us) vs = after_each (after_paints s (paints_of u)) us vs

-- ---- what follows

all_taken : (us : List Update) (n : ℕ) → length us ≡ n → take n us ≡ us
all_taken us n e = take_all n us (omega (arith, e))

-- After all of them the screens look alike.
pub same_shows : (w h : ℕ) (a b : Canvas) (us vs : List Update) → AreSameFrom w h a b us vs → LooksLike w h (after_updates a us) (after_updates b vs)
same_shows w h a b us vs same x y lx ly =
    ap (λ (l : List Update). after_updates a l x y) (sym (all_taken us (length us) refl))
    ∙ (same.shows (length us) x y lx ly ∙ ap (λ (l : List Update). after_updates b l x y) (all_taken vs (length us) (sym same.count)))

pub behind_each : (w h : ℕ) (start : Canvas) (us vs more others : List Update) → AreSameUpdates w h start us vs → AreSameUpdates w h (after_updates start us) more others → AreSameUpdates w h start (us ++ more) (vs ++ others)
behind_each w h start us vs more others same next before alike =
    let first : AreSameFrom w h start before us vs = same before alike in
    same_append w h start before us vs more others first (next (after_updates before vs) (same_shows w h start before us vs first))

pub same_last_touch : (r : Rect) (last next : ℕ) (us vs : List Update) → map (touches r) us ≡ map (touches r) vs → last_touch_from r last next us ≡ last_touch_from r last next vs
same_last_touch r last next [] [] e = refl
same_last_touch r last next [] (v ∷ vs) e = absurd cc
same_last_touch r last next (u ∷ us) [] e = absurd cc
same_last_touch r last next (u ∷ us) (v ∷ vs) e =
    ap (λ b. last_touch_from r (if b then next else last) (next + 1) us) (first_touched r u v us vs e)
    ∙ same_last_touch r (if touches r v then next else last) (next + 1) us vs (let f = e in cc)

bells_by : (u v : Update) (us vs : List Update) → bell_or_text u ≡ bell_or_text v → bells us ≡ bells vs → bells (u ∷ us) ≡ bells (v ∷ vs)
bells_by (Paints size ps) (Paints other qs) us vs e f = f
bells_by (Paints None ps) Bell us vs e f = absurd cc
bells_by (Paints (Some size) ps) Bell us vs e f = absurd cc
bells_by (Paints None ps) (Cut t) us vs e f = absurd cc
bells_by (Paints (Some size) ps) (Cut t) us vs e f = absurd cc
bells_by Bell (Paints None qs) us vs e f = absurd cc
bells_by Bell (Paints (Some size) qs) us vs e f = absurd cc
bells_by Bell Bell us vs e f = ap (λ n. 1 + n) f
bells_by Bell (Cut t) us vs e f = absurd cc
bells_by (Cut t) (Paints None qs) us vs e f = absurd cc
bells_by (Cut t) (Paints (Some size) qs) us vs e f = absurd cc
bells_by (Cut t) Bell us vs e f = absurd cc
bells_by (Cut t) (Cut q) us vs e f = f

pub same_bells : (us vs : List Update) → map bell_or_text us ≡ map bell_or_text vs → bells us ≡ bells vs
same_bells [] [] e = refl
same_bells [] (v ∷ vs) e = absurd cc
same_bells (u ∷ us) [] e = absurd cc
same_bells (u ∷ us) (v ∷ vs) e = bells_by u v us vs (first_kind u v us vs e) (same_bells us vs (let f = e in cc))

text_by : (u v : Update) (last : Option NumberedText) (n : ℕ) (us vs : List Update) → bell_or_text u ≡ bell_or_text v
    → ((o : Option NumberedText) → last_text_from o (n + 1) us ≡ last_text_from o (n + 1) vs) → last_text_from last n (u ∷ us) ≡ last_text_from last n (v ∷ vs)
text_by (Paints size ps) (Paints other qs) last n us vs e f = f last
text_by (Paints None ps) Bell last n us vs e f = absurd cc
text_by (Paints (Some size) ps) Bell last n us vs e f = absurd cc
text_by (Paints None ps) (Cut t) last n us vs e f = absurd cc
text_by (Paints (Some size) ps) (Cut t) last n us vs e f = absurd cc
text_by Bell (Paints None qs) last n us vs e f = absurd cc
text_by Bell (Paints (Some size) qs) last n us vs e f = absurd cc
text_by Bell Bell last n us vs e f = f last
text_by Bell (Cut t) last n us vs e f = absurd cc
text_by (Cut t) (Paints None qs) last n us vs e f = absurd cc
text_by (Cut t) (Paints (Some size) qs) last n us vs e f = absurd cc
text_by (Cut t) Bell last n us vs e f = absurd cc
text_by (Cut t) (Cut q) last n us vs e f =
    let same : t ≡ q = cc in
    ap (λ (bytes : List ℕ). last_text_from (Some (record { text = bytes; number = n })) (n + 1) us) same ∙ f (Some (record { text = q; number = n }))

pub same_texts : (last : Option NumberedText) (n : ℕ) (us vs : List Update) → map bell_or_text us ≡ map bell_or_text vs → last_text_from last n us ≡ last_text_from last n vs
same_texts last n [] [] e = refl
same_texts last n [] (v ∷ vs) e = absurd cc
same_texts last n (u ∷ us) [] e = absurd cc
same_texts last n (u ∷ us) (v ∷ vs) e = text_by u v last n us vs (first_kind u v us vs e) (λ o. same_texts o (n + 1) us vs (let f = e in cc))

same_size : (a b : Size) → a.width ≡ b.width → a.height ≡ b.height → a ≡ b
same_size a b wide high = λ i. record { width = wide i; height = high i }

size_by : (u v : Update) (last : Option Size) → bell_or_text u ≡ bell_or_text v → size_after_update last u ≡ size_after_update last v
size_by (Paints None ps) (Paints None qs) last e = refl
size_by (Paints None ps) (Paints (Some b) qs) last e = absurd cc
size_by (Paints (Some a) ps) (Paints None qs) last e = absurd cc
size_by (Paints (Some a) ps) (Paints (Some b) qs) last e =
    let wide : a.width ≡ b.width = cc in
    let high : a.height ≡ b.height = cc in
    ap (λ (size : Size). Some size) (same_size a b wide high)
size_by (Paints None ps) Bell last e = absurd cc
size_by (Paints (Some a) ps) Bell last e = absurd cc
size_by (Paints None ps) (Cut t) last e = absurd cc
size_by (Paints (Some a) ps) (Cut t) last e = absurd cc
size_by Bell (Paints None qs) last e = absurd cc
size_by Bell (Paints (Some b) qs) last e = absurd cc
size_by Bell Bell last e = refl
size_by Bell (Cut t) last e = absurd cc
size_by (Cut t) (Paints None qs) last e = absurd cc
size_by (Cut t) (Paints (Some b) qs) last e = absurd cc
size_by (Cut t) Bell last e = absurd cc
size_by (Cut t) (Cut q) last e = refl

pub same_sizes : (last : Option Size) (us vs : List Update) → map bell_or_text us ≡ map bell_or_text vs → size_after_updates last us ≡ size_after_updates last vs
same_sizes last [] [] e = refl
same_sizes last [] (v ∷ vs) e = absurd cc
same_sizes last (u ∷ us) [] e = absurd cc
same_sizes last (u ∷ us) (v ∷ vs) e =
    same_sizes (size_after_update last u) us vs (let f = e in cc) ∙ ap (λ (size : Option Size). size_after_updates size vs) (size_by u v last (first_kind u v us vs e))
