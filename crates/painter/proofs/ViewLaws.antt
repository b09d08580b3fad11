-- What one update more makes of a view. `Board::apply` makes it of the board's fields.
use Rattle.std.proofs.Common.{◌≡◌, ℕ, ◌+◌, Bool, true, false, List, length-append, [], ◌∷◌, ◌++◌, length, Option, Some, None, refl, ap, sym, subst, ◌∙◌, arith, add_assoc}
use Rattle.std.specs.Int.{from_bool}
use Rattle.std.specs.Prelude.{if◌then◌else◌}
use Rattle.raster.specs.Screen.{Canvas, LooksLike, opening, tile_rect, value_at}
use Rattle.raster.specs.declared.size.Size.{Size}
use Rattle.raster.specs.Update.{Update, Paints, Bell, Cut, NumberedText, after_paints, bells, last_text, last_text_from, paints_of, screen, size_after_update, size_after_updates}
use Rattle.tiles.proofs.Touching.{after_updates-more}
use Rattle.copy_log.specs.Notes.{Log, LogStands}
use Rattle.painter.specs.Board.{BoardStands, Posted}
pub use Rattle.painter.specs.Kept.{newer}
use Rattle.painter.specs.Patch.{ShowsOver, SizedUpdate, is_bell, text_of}
use Rattle.tiles.proofs.GridLaws.{stands_next}
use Rattle.tiles.specs.Grid.{IsTouched, Stamps}
use Rattle.tiles.specs.Touched.{touches}

-- A Bell more.
pub bells-push : (us : List Update) (u : Update) → bells (us ++ u ∷ []) ≡ bells us + (if is_bell u then 1 else 0)
bells-push [] (Paints size ps) = refl
bells-push [] Bell = refl
bells-push [] (Cut text) = refl
bells-push (Paints size ps ∷ us) u = bells-push us u
bells-push (Bell ∷ us) u = ap (λ n. 1 + n) (bells-push us u) ∙ sym (add_assoc 1 (bells us) (if is_bell u then 1 else 0))
bells-push (Cut text ∷ us) u = bells-push us u

newer_here : (last : Option NumberedText) (n : ℕ) (u : Update) → last_text_from last n (u ∷ []) ≡ newer last (n + 0) (text_of u)
newer_here last n (Paints size ps) = refl
newer_here last n Bell = refl
newer_here last n (Cut text) = let e : n ≡ n + 0 = omega arith in ap (λ m. Some (record { text = text; number = m })) e

last_text_from-push : (last : Option NumberedText) (n : ℕ) (us : List Update) (u : Update) → last_text_from last n (us ++ u ∷ []) ≡ newer (last_text_from last n us) (n + length us) (text_of u)
last_text_from-push last n [] u = newer_here last n u
last_text_from-push last n (Paints size ps ∷ us) u = let e : n + 1 + length us ≡ n + length (Paints size ps ∷ us) = omega arith in last_text_from-push last (n + 1) us u ∙ ap (λ m. newer (last_text_from last (n + 1) us) m (text_of u)) e
last_text_from-push last n (Bell ∷ us) u = let e : n + 1 + length us ≡ n + length (Bell ∷ us) = omega arith in last_text_from-push last (n + 1) us u ∙ ap (λ m. newer (last_text_from last (n + 1) us) m (text_of u)) e
last_text_from-push last n (Cut text ∷ us) u =
    let e : n + 1 + length us ≡ n + length (Cut text ∷ us) = omega arith in
    let there : Option NumberedText = Some (record { text = text; number = n }) in
    last_text_from-push there (n + 1) us u ∙ ap (λ m. newer (last_text_from there (n + 1) us) m (text_of u)) e

-- A text more.
pub last_text-push : (us : List Update) (u : Update) → last_text (us ++ u ∷ []) ≡ newer (last_text us) (1 + length us) (text_of u)
last_text-push us u = last_text_from-push None 1 us u

-- An update more may tell a size.
sizes-push : (size : Option Size) (us : List Update) (u : Update) → size_after_updates size (us ++ u ∷ []) ≡ size_after_update (size_after_updates size us) u
sizes-push size [] u = refl
sizes-push size (v ∷ us) u = sizes-push (size_after_update size v) us u

counted : (b : Bool) → from_bool b ≡ (if b then 1 else 0)
counted true = refl
counted false = refl

-- A board that stands for some updates does so for one more, where that was painted on it, touched its tiles, was
-- counted, kept as a text and as a size, and noted in the log.
pub stands-push : (board : Posted) (patch : SizedUpdate) (w h n rung count : ℕ) (old new : List ℕ) (grid touched : Stamps) (last : Option NumberedText) (text : Option (List ℕ)) (told larger : Option Size) (log noted : Log) (us : List Update)
    → record { width = w; height = h; number = n; size = told; colours = old; grid = grid; bells = rung; text = last; log = log } ≡ board → (patch.width ≡ board.width) × (patch.height ≡ board.height) → ShowsOver patch old new
    → IsTouched (λ t. touches (tile_rect grid.width grid.height t) patch.update) (n + 1) grid touched → count ≡ from_bool (is_bell patch.update) → text ≡ text_of patch.update → larger ≡ size_after_update told patch.update → (LogStands log us → LogStands noted (us ++ patch.update ∷ [])) → BoardStands board us
    → BoardStands (record { width = w; height = h; number = n + 1; size = larger; colours = new; grid = touched; bells = rung + count; text = newer last (n + 1) text; log = noted }) (us ++ patch.update ∷ [])
stands-push board patch w h n rung count old new grid touched last text told larger log noted us is size shows touches is_count is_text is_size notes stands =
    let u : Update = patch.update in
    let stood : BoardStands (record { width = w; height = h; number = n; size = told; colours = old; grid = grid; bells = rung; text = last; log = log }) us = subst (λ (b : Posted). BoardStands b us) (sym is) stands in
    let wide : patch.width ≡ w = size.0 ∙ ap (λ (b : Posted). b.width) (sym is) in
    let high : patch.height ≡ h = size.1 ∙ ap (λ (b : Posted). b.height) (sym is) in
    let painted : LooksLike w h (value_at w old) (screen us) → LooksLike w h (value_at w new) (after_paints (screen us) (paints_of u)) = rw (← wide, ← high) (shows (screen us)) in
    let longer : length (us ++ u ∷ []) ≡ length us + 1 = length-append us (u ∷ []) in
    let next : n + 1 ≡ 1 + length us = omega (arith, stood.number) in
    record {
      number = omega (arith, stood.number, longer);
      size = is_size ∙ (ap (λ (size : Option Size). size_after_update size u) stood.size ∙ sym (sizes-push None us u));
      screen = λ x y lx ly. painted stood.screen x y lx ly ∙ sym (ap (λ (s : Canvas). s x y) (after_updates-more opening us u));
      grid = stands_next grid touched us u (n + 1) (omega (arith, stood.number)) stood.grid touches;
      bells = ap (λ k. k + count) stood.bells ∙ (ap (λ k. bells us + k) (is_count ∙ counted (is_bell u)) ∙ sym (bells-push us u));
      text = ap (λ (t : Option NumberedText). newer t (n + 1) text) stood.text ∙ (ap (λ k. newer (last_text us) k text) next ∙ (ap (λ (t : Option (List ℕ)). newer (last_text us) (1 + length us) t) is_text ∙ sym (last_text-push us u)));
      log = notes stood.log;
    }

-- A board is the view of the same updates where its number, size, colours, Bells and text are the same.
pub stands_as : (board : Posted) (us : List Update) (number rung : ℕ) (size : Option Size) (colours : List ℕ) (text : Option NumberedText) → number ≡ board.number → size ≡ board.size → colours ≡ board.colours → rung ≡ board.bells
    → text ≡ board.text → BoardStands board us → BoardStands (record { width = board.width; height = board.height; number = number; size = size; colours = colours; grid = board.grid; bells = rung; text = text; log = board.log }) us
stands_as board us number rung size colours text same_number same_size same_colours same_bells same_text =
    subst (λ (b : Posted). BoardStands b us)
    (λ i. record { width = board.width; height = board.height; number = sym same_number i; size = sym same_size i; colours = sym same_colours i; grid = board.grid; bells = sym same_bells i; text = sym same_text i; log = board.log })
