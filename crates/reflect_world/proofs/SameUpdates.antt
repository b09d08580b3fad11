-- A cut of other updates that come to the same makes the same of a viewer. The world puts patches of tiles in place of
-- the host's own rectangles.
use Rattle.std.proofs.Common.{◌≡◌, ℕ, ◌<◌, Bool, false, List, [], ◌∷◌, ◌++◌, length, map, take, drop, Option, Some, None, refl, sym, ap, ◌∙◌, arith}
use Rattle.std.specs.Prelude.{◌&&◌, ◌||◌, if◌then◌else◌, not, nat_lt}
use Rattle.std.specs.List.{list_any, range_with_len}
use Rattle.std.proofs.lemmas.List.{drop-map, take-map}
use Rattle.raster.specs.declared.rect.Rect.{Rect}
use Rattle.raster.specs.declared.size.Size.{Size}
use Rattle.raster.specs.Screen.{IsWithin, common, meets, opening, tile_count, tile_rect, whole_screen}
use Rattle.raster.specs.Update.{Update, bells, screen}
use Rattle.rfb_wire.specs.Writing.{bell_bytes, update_bytes}
use Rattle.tiles.specs.Touched.{bell_or_text, is_due_since, last_sent, runs, touches}
use Rattle.tiles.proofs.RunLaws.{runs_within}
use Rattle.painter.specs.Same.{AreSameFrom}
use Rattle.painter.proofs.SameLaws.{same_bells, same_shows, same_sizes, same_texts}
use Rattle.reflect_core.specs.Asked.{pending}
use Rattle.update_encoder.specs.Answer.{answer_bytes}
use Rattle.update_encoder.proofs.CutLaws.{all_same, each_same}
use Rattle.viewer_session.specs.declared.form.AnswerForm.{AnswerForm}
use Rattle.viewer_session.specs.Record.{Entry, MadeCut, choice_of, events}
use Rattle.viewer_session.specs.Turn.{all_were_sent, bell_at, clipped_to, due_tile, due_tile_in, news_since, newer_text, record_after_cut, sent_at, size_at, size_for, size_or_update, style_of, text_at, told_at, told_of, update_at, update_for, was_sent}
use Rattle.viewer_session.specs.Viewer.{Setup, Viewer, after_cut}
use Rattle.viewer_session.proofs.SameRuns as same_runs
use Rattle.viewer_session.proofs.Stands.{clipped_on, pending_within}

-- ---- tiles

any_said : {A : Type 0} (test : A → Bool) (xs : List A) → list_any test xs ≡ list_any (λ (b : Bool). b) (map test xs)
any_said test [] = refl
any_said test (x ∷ xs) = ap (λ b. test x || b) (any_said test xs)

due_since_same : (r : Rect) (sent : Option ℕ) (us vs : List Update) → map (touches r) us ≡ map (touches r) vs → is_due_since r sent us ≡ is_due_since r sent vs
due_since_same r None us vs same = refl
due_since_same r (Some n) us vs same =
    any_said (touches r) (drop n us)
    ∙ (ap (list_any (λ (b : Bool). b)) (sym (drop-map (touches r) n us) ∙ (ap (drop n) same ∙ drop-map (touches r) n vs)) ∙ sym (any_said (touches r) (drop n vs)))

due_same : (w h : ℕ) (es : List Entry) (us vs : List Update) → AreSameFrom w h opening opening us vs → (t : ℕ) → t < tile_count w h → due_tile w h es us t ≡ due_tile w h es vs t
due_same w h es us vs same t lt = due_since_same (tile_rect w h t) (last_sent (tile_rect w h t) (events w h es)) us vs (same.touched t lt)

due_in_same : (w h : ℕ) (es : List Entry) (us vs : List Update) (area : Rect) → AreSameFrom w h opening opening us vs → (t : ℕ) → t < tile_count w h → due_tile_in w h es us area t ≡ due_tile_in w h es vs area t
due_in_same w h es us vs area same t lt = ap (λ b. meets area (tile_rect w h t) && b) (due_same w h es us vs same t lt)

sent_same : (w h : ℕ) (es : List Entry) (us vs : List Update) (area : Rect) → AreSameFrom w h opening opening us vs → all_were_sent w h es us area ≡ all_were_sent w h es vs area
sent_same w h es us vs area same =
    same_runs.all_same (λ t. not (due_tile_in w h es us area t) || was_sent w h es t) (λ t. not (due_tile_in w h es vs area t) || was_sent w h es t) (tile_count w h) 0
    (λ t lo hi. ap (λ b. not b || was_sent w h es t) (due_in_same w h es us vs area same t (omega (arith, hi))))

-- ---- the answer

-- The same form, where no copies of the host are passed on.
abbrev unpassed : AnswerForm → AnswerForm
unpassed form = record { runs = form.runs; zrle = form.zrle; copies = false }

answer_same : (form : AnswerForm) (w h : ℕ) (es : List Entry) (us vs : List Update) (area : Rect) (sent : Bool) → IsWithin area w h → AreSameFrom w h opening opening us vs
    → answer_bytes (style_of form es) (screen us) [] sent (runs w h area (due_tile w h es us)) ≡ answer_bytes (style_of form es) (screen vs) [] sent (runs w h area (due_tile w h es vs))
answer_same form w h es us vs area sent on same =
    let rs : List Rect = runs w h area (due_tile w h es us) in
    ap update_bytes (all_same (style_of form es) (screen us) (screen vs) ((choice_of es).copy && sent) None rs tt
    (each_same (screen us) (screen vs) w h rs (runs_within w h area (due_tile w h es us) on) (λ x y lx ly e. same_shows w h opening opening us vs same x y lx ly)))
    ∙ ap (answer_bytes (style_of form es) (screen vs) [] sent) (same_runs.runs_same w h area (due_tile w h es us) (due_tile w h es vs) (due_same w h es us vs same))

update_same : (form : AnswerForm) (w h : ℕ) (es : List Entry) (us vs : List Update) (o : Option Rect) → pending (events w h es) ≡ o → AreSameFrom w h opening opening us vs
    → update_for (unpassed form) w h es us (clipped_to (told_of w h es) o) ≡ update_for (unpassed form) w h es vs (clipped_to (told_of w h es) o)
update_same form w h es us vs None e same = refl
update_same form w h es us vs (Some whole) e same =
    let area : Rect = common whole (whole_screen (told_of w h es).width (told_of w h es).height) in
    let on : IsWithin area w h = clipped_on whole (told_of w h es).width (told_of w h es).height w h (pending_within w h es whole e) in
    let some : list_any (due_tile_in w h es us area) (range_with_len 0 (tile_count w h)) ≡ list_any (due_tile_in w h es vs area) (range_with_len 0 (tile_count w h)) =
    same_runs.any_same (due_tile_in w h es us area) (due_tile_in w h es vs area) (tile_count w h) 0 (λ t lo hi. due_in_same w h es us vs area same t (omega (arith, hi))) in
    let bytes : List ℕ = answer_bytes (style_of form es) (screen us) [] (all_were_sent w h es us area) (runs w h area (due_tile w h es us)) in
    ap (λ b. found b area bytes) some
    ∙ ap (found (list_any (due_tile_in w h es vs area) (range_with_len 0 (tile_count w h))) area)
    (ap (λ b. answer_bytes (style_of form es) (screen us) [] b (runs w h area (due_tile w h es us))) (sent_same w h es us vs area same) ∙ answer_same form w h es us vs area (all_were_sent w h es vs area) on same)
  where
    found : Bool → Rect → List ℕ → Option (Rect × List ℕ)
    found b area bytes = if b then Some (area, bytes) else None

update_at_same : (form : AnswerForm) (w h : ℕ) (es : List Entry) (us vs : List Update) → AreSameFrom w h opening opening us vs → update_at (unpassed form) w h es us ≡ update_at (unpassed form) w h es vs
update_at_same form w h es us vs same = update_same form w h es us vs (pending (events w h es)) refl same

-- ---- Bells and texts

bell_same : (us vs : List Update) (since : Option ℕ) → map bell_or_text us ≡ map bell_or_text vs → bell_at us since ≡ bell_at vs since
bell_same us vs None same = refl
bell_same us vs (Some n) same =
    let before : bells (take n us) ≡ bells (take n vs) = same_bells (take n us) (take n vs) (sym (take-map bell_or_text n us) ∙ (ap (take n) same ∙ take-map bell_or_text n vs)) in
    ap (λ k. if nat_lt k (bells us) then bell_bytes else []) before ∙ ap (λ k. if nat_lt (bells (take n vs)) k then bell_bytes else []) (same_bells us vs same)

text_same : (us vs : List Update) (since : Option ℕ) → map bell_or_text us ≡ map bell_or_text vs → text_at us since ≡ text_at vs since
text_same us vs None same = refl
text_same us vs (Some n) same = ap (newer_text n) (same_texts None 1 us vs same)

-- ---- all of it

size_same : (w h : ℕ) (host : Option Size) (es : List Entry) (us vs : List Update) → AreSameFrom w h opening opening us vs → size_at w h host es us ≡ size_at w h host es vs
size_same w h host es us vs same = ap (λ (last : Option Size). size_for w h host (choice_of es).resizes (told_of w h es) last (pending (events w h es))) (same_sizes None us vs same.kinds)

part_same : (form : AnswerForm) (w h : ℕ) (host : Option Size) (es : List Entry) (us vs : List Update) → AreSameFrom w h opening opening us vs
    → size_or_update (size_at w h host es us) (update_at (unpassed form) w h es us) ≡ size_or_update (size_at w h host es vs) (update_at (unpassed form) w h es vs)
part_same form w h host es us vs same =
    ap (λ size. size_or_update size (update_at (unpassed form) w h es us)) (size_same w h host es us vs same) ∙ ap (size_or_update (size_at w h host es vs)) (update_at_same form w h es us vs same)

said_same : (form : AnswerForm) (w h : ℕ) (host : Option Size) (es : List Entry) (us vs : List Update) → AreSameFrom w h opening opening us vs → sent_at (unpassed form) w h host es us ≡ sent_at (unpassed form) w h host es vs
said_same form w h host es us vs same =
    let last : Option ℕ = news_since w h es in
    let part : List ℕ = size_or_update (size_at w h host es us) (update_at (unpassed form) w h es us) in
    ap (λ (bs : List ℕ). bs ++ text_at us last ++ part) (bell_same us vs last same.kinds)
    ∙ (ap (λ (ts : List ℕ). bell_at vs last ++ ts ++ part) (text_same us vs last same.kinds)
    ∙ ap (λ (bytes : List ℕ). bell_at vs last ++ text_at vs last ++ bytes) (part_same form w h host es us vs same))

record_same : (form : AnswerForm) (w h : ℕ) (host : Option Size) (es : List Entry) (us vs : List Update) → AreSameFrom w h opening opening us vs → record_after_cut (unpassed form) w h host es us ≡ record_after_cut (unpassed form) w h host es vs
record_same form w h host es us vs same =
    ap (λ n. told_at n (size_at w h host es us) (update_at (unpassed form) w h es us) (MadeCut n ∷ es)) same.count
    ∙ (ap (λ size. told_at (length vs) size (update_at (unpassed form) w h es us) (MadeCut (length vs) ∷ es)) (size_same w h host es us vs same)
    ∙ ap (λ o. told_at (length vs) (size_at w h host es vs) o (MadeCut (length vs) ∷ es)) (update_at_same form w h es us vs same))

-- Where no copies are passed on a form is that one.
unpassed_is : (form : AnswerForm) → form.copies ≡ false → form ≡ unpassed form
unpassed_is form e = ap (λ (copies : Bool). record form { copies = copies }) e

cut_same_by : (s : Setup) (us vs : List Update) (p : Viewer) → AreSameFrom s.w s.h opening opening us vs → after_cut (record s { form = unpassed s.form }) us p ≡ after_cut (record s { form = unpassed s.form }) vs p
cut_same_by s us vs p same =
    let form : AnswerForm = unpassed s.form in
    ap (λ (bytes : List ℕ). record p { looked = None; said_after = p.said_after ++ bytes; entries = record_after_cut form s.w s.h s.host p.entries us }) (said_same s.form s.w s.h s.host p.entries us vs same)
    ∙ ap (λ (es : List Entry). record p { looked = None; said_after = p.said_after ++ sent_at form s.w s.h s.host p.entries vs; entries = es }) (record_same s.form s.w s.h s.host p.entries us vs same)

-- What a cut makes of a viewer is the same, where no copies are passed on.
pub cut_same : (s : Setup) (us vs : List Update) (p : Viewer) → s.form.copies ≡ false → AreSameFrom s.w s.h opening opening us vs → after_cut s us p ≡ after_cut s vs p
cut_same s us vs p plain same =
    let e : s.form ≡ unpassed s.form = unpassed_is s.form plain in
    ap (λ (f : AnswerForm). after_cut (record s { form = f }) us p) e ∙ (cut_same_by s us vs p same ∙ ap (λ (f : AnswerForm). after_cut (record s { form = f }) vs p) (sym e))
