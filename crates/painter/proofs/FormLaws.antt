-- A tile's kept form stays its colours' form for as long as these stay: a form asks of a tile's positions alone, and a
-- patch paints those of its tiles.
use Rattle.std.proofs.Common.{◌≡◌, ◌≢◌, ℕ, suc, ◌+◌, ◌-◌, ◌*◌, ◌<◌, ◌≤◌, ◌^◌, Bool, true, false, List, [], ◌∷◌, ◌++◌, length, take, drop, map, get_or, Option, None, refl, ap, sym, subst, ◌∙◌, arith, zero-add, inl, inr}
use Rattle.std.specs.Prelude.{◌==◌, ◌||◌, if◌then◌else◌, slice_index_or, IfSome}
use Rattle.std.specs.List.{AllPairs, list_any}
use Rattle.std.proofs.Math.Nat.{mul-le-mul_right, mul_comm}
use Rattle.std.proofs.lemmas.Bool.{both_ways, cases_Bool, cases_eq, cases_lt, eq-eqb, ne_eqb}
use Rattle.std.proofs.lemmas.List.{get_or_past}
use Rattle.std.proofs.lemmas.List.Folds.{list_any-append, list_any_at, list_any_none}
use Rattle.std.proofs.lemmas.List.Kept.{AllPairs-from_increasing}
use Rattle.raster.specs.declared.rect.Rect.{Rect}
use Rattle.raster.specs.Screen.{Canvas, IsWithin, LooksLike, lay, meets, part_of, tile_count, tile_rect, value_at}
use Rattle.raster.specs.Encoding.{Subrect}
use Rattle.raster.specs.Size.{IsScreenSize}
use Rattle.raster.specs.declared.tile.TheConstants.{TILE_SIDE}
use Rattle.raster.specs.Update.{Paint, Put, after_paint, after_paints, painted, paints_of}
use Rattle.raster.proofs.Places.{Has, holds_has}
use Rattle.tiles.proofs.Ranges.{IsTile, tile_is}
use Rattle.tiles.proofs.Touching.{or_left, or_right, same_after_paints}
use Rattle.tiles.specs.Touched.{touches}
use Rattle.joined_runs.specs.declared.rect_form.RectForm.{RectForm}
use Rattle.joined_runs.specs.declared.rect_form.RectForm.TheVariants.{OfRows, Joined}
use Rattle.joined_runs.specs.Joined.{subrects_of}
use Rattle.joined_runs.proofs.Recoloured.{background_same, recoloured, subrects_same}
use Rattle.hextile_codec.specs.declared.kept.TileForm.{TileForm}
use Rattle.hextile_codec.specs.declared.tile_kind.Head.{Head}
use Rattle.hextile_codec.specs.Heads.{IsHeadOf}
use Rattle.hextile_codec.specs.Kept.{AreFormsOf, FormStands}
use Rattle.hextile_codec.specs.TileKinds.{kind_of}
use Rattle.hextile_codec.specs.Marks.{LiesAmong}
use Rattle.hextile_codec.proofs.KeptForms.{if_some}
use Rattle.copy_log.specs.Notes.{paint_of}
use Rattle.painter.specs.Copies.{leading_copies, other_paints}
use Rattle.copy_log.specs.declared.copy_rect.CopyRect.{CopyRect}
use Rattle.painter.specs.Forms.{AreFormsBut, AreUncopiedForms, TookForms}
use Rattle.painter.specs.Newer.{TookTiles}
use Rattle.painter.specs.Patch.{AreTiles, AreTouchedTiles, IsPainted, ShowsOver, ShowsTiles, SizedUpdate, tile_area, tile_paints}
use Rattle.painter.proofs.CopyLaws.{after_both, all_paints, meets_copies}
use Rattle.painter.proofs.PatchLaws.{meets_tiles, others, tile_within}
use Rattle.painter.proofs.TilePuts.{meet_by}

-- ---- what looks alike has one form

abbrev as_it_is : ℕ → ℕ
as_it_is n = n

recoloured_as_it_is : (ss : List Subrect) → map (recoloured as_it_is) ss ≡ ss
recoloured_as_it_is [] = refl
recoloured_as_it_is (s ∷ ss) = ap (λ t. s ∷ t) (recoloured_as_it_is ss)

module _ (w h : ℕ) (a b : Canvas) (lw : 0 < w) (lh : 0 < h) (alike : LooksLike w h b a) where
  subrects_alike : (runs : RectForm) → subrects_of runs w h a ≡ subrects_of runs w h b
  subrects_alike runs = sym (subrects_same as_it_is w h a b (λ x y u v lx ly lu lv e. e) alike refl lw lh runs ∙ recoloured_as_it_is (subrects_of runs w h a))

  head_alike : (runs : RectForm) (head : Head) → IsHeadOf runs w h a head → IsHeadOf runs w h b head
  head_alike runs head of =
      record {
        background = of.background ∙ sym (background_same as_it_is w h a b (λ x y u v lx ly lu lv e. e) alike refl lw lh runs);
        kind = of.kind ∙ ap kind_of (subrects_alike runs);
        count = of.count ∙ ap length (subrects_alike runs);
      }

  stands_alike : (form : TileForm) → FormStands form w h a → FormStands form w h b
  stands_alike form stands =
      record {
        are_colours = λ x y lx ly. subst (λ n. n < 2 ^ 24) (sym (alike x y lx ly)) (stands.are_colours x y lx ly);
        joined = head_alike Joined form.joined stands.joined;
        rows = head_alike OfRows form.rows stands.rows;
        runs = stands.runs ∙ subrects_alike Joined;
      }

-- ---- one tile's form

-- It is that of the tile's colours, if it is kept.
abbrev pub Stands : ℕ → ℕ → Canvas → ℕ → Option TileForm → Type 0
Stands w h colours t form = IfSome form (λ f. FormStands f (tile_rect w h t).w (tile_rect w h t).h (part_of (tile_rect w h t) colours))

tile_some : (w h t : ℕ) → 0 < w → t < tile_count w h → (0 < (tile_rect w h t).w) × (0 < (tile_rect w h t).h)
tile_some w h t lw lt = let is : IsTile w h t = tile_is w h t lw lt in (omega (arith, is.column), omega (arith, is.row))

-- It stays so where the tile looks the same.
pub stands_on : (w h t : ℕ) (a b : Canvas) (form : Option TileForm) → 0 < w → t < tile_count w h → ((x y : ℕ) → Has (tile_rect w h t) x y → b x y ≡ a x y) → Stands w h a t form → Stands w h b t form
stands_on w h t a b form lw lt same stands =
    let r : Rect = tile_rect w h t in
    let some = tile_some w h t lw lt in
    if_some (λ f. FormStands f r.w r.h (part_of r a)) (λ f. FormStands f r.w r.h (part_of r b)) form
    (stands_alike r.w r.h (part_of r a) (part_of r b) some.0 some.1
    (λ x y lx ly. same (r.x + x) (r.y + y) (record { left = omega arith; right = omega (arith, lx); top = omega arith; bottom = omega (arith, ly) }))) stands

-- It stays so where the tile shows other colours, which stand row after row.
pub stands_shown : (w h t : ℕ) (colours : List ℕ) (screen : Canvas) (form : Option TileForm) → 0 < w → t < tile_count w h
    → LooksLike (tile_rect w h t).w (tile_rect w h t).h (part_of (tile_rect w h t) screen) (value_at (tile_rect w h t).w colours)
    → IfSome form (λ f. FormStands f (tile_rect w h t).w (tile_rect w h t).h (value_at (tile_rect w h t).w colours)) → Stands w h screen t form
stands_shown w h t colours screen form lw lt shows stands =
    let r : Rect = tile_rect w h t in
    let some = tile_some w h t lw lt in
    if_some (λ f. FormStands f r.w r.h (value_at r.w colours)) (λ f. FormStands f r.w r.h (part_of r screen)) form
    (stands_alike r.w r.h (value_at r.w colours) (part_of r screen) some.0 some.1 shows) stands

-- The part of a tile's colours that is the whole tile has the same form.
pub stands_whole : (w h : ℕ) (colours : Canvas) (form : Option TileForm) → 0 < w → 0 < h
    → IfSome form (λ f. FormStands f w h (part_of (record { x = 0; y = 0; w = w; h = h }) colours)) → IfSome form (λ f. FormStands f w h colours)
stands_whole w h colours form lw lh stands =
    let part : Canvas = part_of (record { x = 0; y = 0; w = w; h = h }) colours in
    if_some (λ f. FormStands f w h part) (λ f. FormStands f w h colours) form
    (stands_alike w h part colours lw lh (λ x y lx ly. sym (ap (λ k. colours k (0 + y)) (zero-add x) ∙ ap (colours x) (zero-add y)))) stands

-- A tile lies among its own colours.
pub lies_alone : (w h : ℕ) (colours : List ℕ) → length colours ≡ w * h → w ≤ TILE_SIDE → h ≤ TILE_SIDE → LiesAmong colours w (record { x = 0; y = 0; w = w; h = h })
lies_alone w h colours count wide high =
    let turned : (0 + h) * w ≡ w * h = ap (λ k. k * w) (zero-add h) ∙ mul_comm h w in
    record {
      across = omega arith;
      down = omega (arith, turned, count);
      wide = omega (arith, wide);
      high = omega (arith, high);
    }

-- And each tile of a screen lies among the screen's.
pub lies_on_screen : (w h t : ℕ) (colours : List ℕ) → IsScreenSize w h → length colours ≡ w * h → t < tile_count w h → LiesAmong colours w (tile_rect w h t)
lies_on_screen w h t colours size count lt =
    let r : Rect = tile_rect w h t in
    let within : IsWithin r w h = tile_within w h t (omega (arith, size.wide.0)) lt in
    let rows : (r.y + r.h) * w ≤ h * w = mul-le-mul_right w within.down in
    record {
      across = within.across;
      down = omega (arith, rows, mul_comm h w, count);
      wide = omega (arith, size.wide.1);
      high = omega (arith, within.down, size.high.1);
    }

-- ---- where the forms are kept

pub none_stands : (w h t : ℕ) (colours : Canvas) (form : Option TileForm) → form ≡ None → Stands w h colours t form
none_stands w h t colours form e = rw e tt

-- Further places without a form change nothing.
pub stands_longer : (w h : ℕ) (colours : Canvas) (forms longer : List (Option TileForm)) (t : ℕ) → slice_index_or longer t None ≡ slice_index_or forms t None
    → (t < length forms → Stands w h colours t (slice_index_or forms t None)) → Stands w h colours t (slice_index_or longer t None)
stands_longer w h colours forms longer t same stands = elim (cases_lt t (length forms)) [
  | inl there ↦ subst (λ (form : Option TileForm). Stands w h colours t form) (sym same) (stands there)
  | inr past ↦ none_stands w h t colours (slice_index_or longer t None) (same ∙ get_or_past forms t None past)
]

-- ---- the tiles of a patch

-- Two tiles don't meet.
pub tiles_apart : (w h k t : ℕ) → (k == t) ≡ false → meets (tile_rect w h k) (tile_rect w h t) ≡ false
tiles_apart w h k t ne = meet_by w h k t (meets (tile_rect w h k) (tile_rect w h t)) refl (λ same. both_ways (k == t) ne (eq-eqb k t same))

none_met : (w h t : ℕ) (ts : List ℕ) → list_any (λ k. k == t) ts ≡ false → list_any (λ k. meets (tile_rect w h k) (tile_rect w h t)) ts ≡ false
none_met w h t [] e = refl
none_met w h t (k ∷ ts) e =
    ap (λ b. b || list_any (λ j. meets (tile_rect w h j) (tile_rect w h t)) ts) (tiles_apart w h k t (or_left (k == t) (list_any (λ j. j == t) ts) e))
    ∙ none_met w h t ts (or_right (k == t) (list_any (λ j. j == t) ts) e)

-- A patch paints its copies, and then its tiles.
pub paints_are : (patch : SizedUpdate) (cs : List CopyRect) (ts tiles : List ℕ) → map paint_of cs ≡ leading_copies (paints_of patch.update) → tile_paints patch.width patch.height ts tiles ≡ other_paints (paints_of patch.update)
    → map paint_of cs ++ tile_paints patch.width patch.height ts tiles ≡ paints_of patch.update
paints_are patch cs ts tiles copies are = (λ i. copies i ++ are i) ∙ all_paints (paints_of patch.update)

or_none : (a b : Bool) → a ≡ false → b ≡ false → (a || b) ≡ false
or_none true b e f = absurd cc
or_none false b e f = f

-- A tile that isn't one of a patch's, and that none of its copies meets, isn't touched by it.
pub untouched_but : (patch : SizedUpdate) (t : ℕ) (cs : List CopyRect) (ts tiles : List ℕ) → map paint_of cs ++ tile_paints patch.width patch.height ts tiles ≡ paints_of patch.update → list_any (λ k. k == t) ts ≡ false
    → list_any (λ c. meets c.area (tile_rect patch.width patch.height t)) cs ≡ false → touches (tile_rect patch.width patch.height t) patch.update ≡ false
untouched_but patch t cs ts tiles are none uncopied =
    let r : Rect = tile_rect patch.width patch.height t in
    let met : Paint → Bool = λ p. meets (painted p) r in
    ap (list_any met) (sym are)
    ∙ (list_any-append met (map paint_of cs) (tile_paints patch.width patch.height ts tiles)
    ∙ or_none (list_any met (map paint_of cs)) (list_any met (tile_paints patch.width patch.height ts tiles)) (meets_copies r cs ∙ uncopied)
    (meets_tiles patch.width patch.height r ts tiles ∙ none_met patch.width patch.height t ts none))

-- It looks as it did.
pub unpainted : (patch : SizedUpdate) (t : ℕ) (old new : List ℕ) (x y : ℕ) → ShowsOver patch old new → touches (tile_rect patch.width patch.height t) patch.update ≡ false
    → Has (tile_rect patch.width patch.height t) x y → value_at patch.width new x y ≡ value_at patch.width old x y
unpainted patch t old new x y shows out has =
    shows (value_at patch.width old) (λ i j li lj. refl) x y (omega (arith, has.left, has.right)) (omega (arith, has.top, has.bottom))
    ∙ same_after_paints (value_at patch.width old) (paints_of patch.update) (tile_rect patch.width patch.height t) x y out has

-- Once a patch was painted, the forms that were kept are still those of all tiles but its own.
pub stand_but : (patch : SizedUpdate) (old new : List ℕ) (forms : List (Option TileForm)) → 0 < patch.width → ShowsOver patch old new → AreFormsOf patch.width patch.height (value_at patch.width old) forms
    → (t : ℕ) → t < length forms → t < tile_count patch.width patch.height → touches (tile_rect patch.width patch.height t) patch.update ≡ false → Stands patch.width patch.height (value_at patch.width new) t (slice_index_or forms t None)
stand_but patch old new forms some shows stand t there lt out =
    stands_on patch.width patch.height t (value_at patch.width old) (value_at patch.width new) (slice_index_or forms t None) some lt (λ x y has. unpainted patch t old new x y shows out has) (stand t there lt)

-- Forms of colours are those of equal colours on a screen of the same size.
pub forms_at : (w h v k : ℕ) (colours others : List ℕ) (forms : List (Option TileForm)) → w ≡ v → h ≡ k → colours ≡ others
    → AreFormsOf w h (value_at w colours) forms → AreFormsOf v k (value_at v others) forms
forms_at w h v k colours others forms wide high same are =
    subst (λ cs. AreFormsOf v k (value_at v cs) forms) same
    (subst (λ q. AreFormsOf v q (value_at v colours) forms) high (subst (λ p. AreFormsOf p h (value_at p colours) forms) wide are))

-- ---- what a patch shows

-- What is laid over a rectangle shows there.
laid : (r : Rect) (over under : Canvas) (x y : ℕ) → Has r (r.x + x) (r.y + y) → lay r over under (r.x + x) (r.y + y) ≡ over x y
laid r over under x y has =
    let column : r.x + x - r.x ≡ x = omega arith in
    let row : r.y + y - r.y ≡ y = omega arith in
    ap (λ b. if b then over (r.x + x - r.x) (r.y + y - r.y) else under (r.x + x) (r.y + y)) (holds_has r (r.x + x) (r.y + y) has)
    ∙ (ap (λ k. over k (r.y + y - r.y)) column ∙ ap (over x) row)

-- Where numbers rise, the first doesn't come again.
none_again : (t : ℕ) (ts : List ℕ) → AllPairs (λ k j. k < j) (t ∷ ts) → list_any (λ k. k == t) ts ≡ false
none_again t ts rising =
    list_any_none (λ k. k == t) ts
    (λ i d lt.
    let less : t < get_or ts i d = rising 0 (suc i) d (omega arith) (omega (arith, lt)) in
    ne_eqb (get_or ts i d) t (λ e. omega (arith, less, e)))

-- A screen on which tiles of rising numbers were painted shows each of them, since no other is painted over it.
pub shown_tiles : (w h : ℕ) (ts colours : List ℕ) (before screen : Canvas) → 0 < w → AreTiles w h ts colours → AllPairs (λ k j. k < j) ts
    → LooksLike w h screen (after_paints before (tile_paints w h ts colours)) → ShowsTiles w h ts colours screen
shown_tiles w h [] colours before screen lw are rising shows = tt
shown_tiles w h (t ∷ ts) colours before screen lw are rising shows =
    let r : Rect = tile_rect w h t in
    let first : List ℕ = take (tile_area w h t) colours in
    let rest : List ℕ = drop (tile_area w h t) colours in
    let next : Canvas = after_paint before (Put r first) in
    let within : IsWithin r w h = tile_within w h t lw (are.there 0 t (omega arith)) in
    let none : list_any (λ p. meets (painted p) r) (tile_paints w h ts rest) ≡ false = meets_tiles w h r ts rest ∙ none_met w h t ts (none_again t ts rising) in (
      (λ x y lx ly.
          let has : Has r (r.x + x) (r.y + y) = record { left = omega arith; right = omega (arith, lx); top = omega arith; bottom = omega (arith, ly) } in
          shows (r.x + x) (r.y + y) (omega (arith, within.across, lx)) (omega (arith, within.down, ly))
          ∙ (same_after_paints next (tile_paints w h ts rest) r (r.x + x) (r.y + y) none has ∙ laid r (value_at r.w first) before x y has)),
      shown_tiles w h ts rest next screen lw (others w h t ts colours are) (λ i j d lt less. rising (suc i) (suc j) d (omega (arith, lt)) (omega (arith, less))) shows,
    )

-- So a screen shows the tiles of a patch once it was painted.
pub patch_shown : (patch : SizedUpdate) (colours : List ℕ) (cs : List CopyRect) (ts tiles : List ℕ) → 0 < patch.width → map paint_of cs ++ tile_paints patch.width patch.height ts tiles ≡ paints_of patch.update
    → AreTouchedTiles patch.width patch.height ts tiles → IsPainted patch colours → ShowsTiles patch.width patch.height ts tiles (value_at patch.width colours)
patch_shown patch colours cs ts tiles lw paints are shown =
    let before : Canvas = value_at patch.width shown.0 in
    let split : after_paints before (paints_of patch.update) ≡ after_paints (after_paints before (map paint_of cs)) (tile_paints patch.width patch.height ts tiles) =
    ap (after_paints before) (sym paints) ∙ after_both before (map paint_of cs) (tile_paints patch.width patch.height ts tiles) in
    shown_tiles patch.width patch.height ts tiles (after_paints before (map paint_of cs)) (value_at patch.width colours) lw are.tiles (AllPairs-from_increasing ts are.rising)
    (subst (λ (s : Canvas). LooksLike patch.width patch.height (value_at patch.width colours) s) split (shown.1 before (λ x y lx ly. refl)))

-- ---- the tiles that copies meet

-- Of the tiles before next, those that a copy meets have the form of their colours, and those behind have what they
-- had.
pub record HasRenewed (w h : ℕ) (copies : List CopyRect) (others : List ℕ) (colours : Canvas) (next : ℕ) (old new : List (Option TileForm)) : Type 0 where
  pub len : length new ≡ length old
  pub before : AreUncopiedForms copies others w h colours old → (t : ℕ) → t < next → t < length new → t < tile_count w h → list_any (λ k. k == t) others ≡ false → Stands w h colours t (slice_index_or new t None)
  pub behind : (t : ℕ) → next ≤ t → slice_index_or new t None ≡ slice_index_or old t None

pub none_renewed : (w h : ℕ) (copies : List CopyRect) (others : List ℕ) (colours : Canvas) (old : List (Option TileForm)) → HasRenewed w h copies others colours 0 old old
none_renewed w h copies others colours old = record { len = refl; before = λ stood t less there lt none. absurd (omega (arith, less)); behind = λ t le. refl }

module _ (w h : ℕ) (copies : List CopyRect) (others : List ℕ) (colours : Canvas) (t : ℕ) (old mid : List (Option TileForm)) (was : HasRenewed w h copies others colours t old mid) where
  -- It stays as it is, where that is the form of its colours.
  stays_renewed : (AreUncopiedForms copies others w h colours old → t < length mid → t < tile_count w h → list_any (λ k. k == t) others ≡ false → Stands w h colours t (slice_index_or mid t None)) → HasRenewed w h copies others colours (t + 1) old mid
  stays_renewed here =
      record {
        len = was.len;
        before = λ stood k less there lt none. elim (cases_lt k t) [
          | inl below ↦ was.before stood k below there lt none
          | inr from ↦
              let same : k ≡ t = omega (arith, less, from) in
              subst (λ i. Stands w h colours i (slice_index_or mid i None)) (sym same)
              (here stood (subst (λ i. i < length mid) same there) (subst (λ i. i < tile_count w h) same lt) (subst (λ i. list_any (λ j. j == i) others ≡ false) same none))
        ];
        behind = λ k le. was.behind k (omega (arith, le));
      }

  -- It is one that the patch brings.
  pub brought_next : list_any (λ k. k == t) others ≡ true → HasRenewed w h copies others colours (t + 1) old mid
  brought_next is = stays_renewed (λ stood there lt none. absurd (both_ways (list_any (λ k. k == t) others) none is))

  -- No copy meets it.
  pub uncopied_next : list_any (λ c. meets c.area (tile_rect w h t)) copies ≡ false → HasRenewed w h copies others colours (t + 1) old mid
  uncopied_next none_meets =
      stays_renewed (λ stood there lt none.
      subst (λ (form : Option TileForm). Stands w h colours t form) (sym (was.behind t (omega arith))) (stood t (omega (arith, there, was.len)) lt none none_meets))

  -- It is given the form of its colours.
  pub copied_next : (new : List (Option TileForm)) → length new ≡ length mid → (t < length new → Stands w h colours t (slice_index_or new t None))
      → ((k : ℕ) → k ≢ t → slice_index_or new k None ≡ slice_index_or mid k None) → HasRenewed w h copies others colours (t + 1) old new
  copied_next new len here same =
      record {
        len = len ∙ was.len;
        before = λ stood k less there lt none. elim (cases_eq k t) [
          | inl is ↦ subst (λ i. Stands w h colours i (slice_index_or new i None)) (sym is) (here (omega (arith, there, is)))
          | inr ne ↦
              subst (λ (form : Option TileForm). Stands w h colours k form) (sym (same k ne)) (was.before stood k (omega (arith, less, ne)) (omega (arith, there, len)) lt none)
        ];
        behind = λ k le. same k (λ e. omega (arith, le, e)) ∙ was.behind k (omega (arith, le));
      }

-- A number at a place is one of them.
pub number_there : (numbers : List ℕ) (i t : ℕ) → i < length numbers → get_or numbers i 0 ≡ t → list_any (λ k. k == t) numbers ≡ true
number_there numbers i t lt is = list_any_at (λ k. k == t) numbers i 0 lt (eq-eqb (get_or numbers i 0) t is)

-- ---- one tile more

-- Once the first of some tiles has the form of its colours, the others are left.
pub one_renewed : (w h k : ℕ) (colours : Canvas) (ts : List ℕ) (old new : List (Option TileForm)) → length new ≡ length old
    → (k < length new → Stands w h colours k (slice_index_or new k None)) → ((t : ℕ) → t ≢ k → slice_index_or new t None ≡ slice_index_or old t None)
    → AreFormsBut (k ∷ ts) w h colours old → AreFormsBut ts w h colours new
one_renewed w h k colours ts old new len here others stand t there lt none = elim (cases_eq t k) [
  | inl same ↦ subst (λ i. Stands w h colours i (slice_index_or new i None)) (sym same) (here (omega (arith, there, same)))
  | inr ne ↦
      subst (λ (form : Option TileForm). Stands w h colours t form) (sym (others t ne))
      (stand t (omega (arith, there, len)) lt (ap (λ b. b || list_any (λ j. j == t) ts) (ne_eqb k t (λ e. ne (sym e))) ∙ none))
]

-- ---- a board that is behind

-- Where its tiles were taken of a newer one, and their forms as well, the forms are those of the colours.
pub forms_caught_up : (w h : ℕ) (due : ℕ → Bool) (newer old new : List ℕ) (newer_forms old_forms new_forms : List (Option TileForm)) → 0 < w
    → TookTiles w h due newer old new → TookForms (tile_count w h) due newer_forms old_forms new_forms
    → AreFormsOf w h (value_at w newer) newer_forms → AreFormsOf w h (value_at w old) old_forms → AreFormsOf w h (value_at w new) new_forms
forms_caught_up w h due newer old new newer_forms old_forms new_forms some took taken newer_stand old_stand t there lt = elim (cases_Bool (due t)) [
  | inl is ↦
      stands_longer w h (value_at w new) newer_forms new_forms t
      (taken t there lt ∙ ap (λ (b : Bool). if b then slice_index_or newer_forms t None else slice_index_or old_forms t None) is)
      (λ kept. stands_on w h t (value_at w newer) (value_at w new) (slice_index_or newer_forms t None) some lt
      (λ x y has. took t x y lt (holds_has (tile_rect w h t) x y has) ∙ ap (λ (b : Bool). if b then value_at w newer x y else value_at w old x y) is) (newer_stand t kept lt))
  | inr not ↦
      stands_longer w h (value_at w new) old_forms new_forms t
      (taken t there lt ∙ ap (λ (b : Bool). if b then slice_index_or newer_forms t None else slice_index_or old_forms t None) not)
      (λ kept. stands_on w h t (value_at w old) (value_at w new) (slice_index_or old_forms t None) some lt
      (λ x y has. took t x y lt (holds_has (tile_rect w h t) x y has) ∙ ap (λ (b : Bool). if b then value_at w newer x y else value_at w old x y) not) (old_stand t kept lt))
]
