-- Rectangles of an answer are written one behind another.
use Rattle.std.specs.Prelude.{◌&&◌}
use Rattle.std.proofs.Common.{◌≡◌, ℕ, ◌+◌, ◌*◌, ◌<◌, ◌≤◌, Bool, true, List, [], ◌∷◌, ◌++◌, ◌∙◌, length, take, drop, get_or, Option, Some, None, refl, sym, ap, subst, arith, add-one, false}
use Rattle.std.specs.List.{All}
use Rattle.std.proofs.lemmas.List.{append_assoc, append-nil, drop_all, get_or-map, length-map}
use Rattle.std.proofs.Math.Nat.{mul-pos}
use Rattle.std.proofs.Math.Seq.{drop-cons, take-append_seam}
use Rattle.raster.specs.declared.rect.Rect.{Rect}
use Rattle.raster.specs.Screen.{Canvas}
use Rattle.raster.specs.Update.{Paint}
use Rattle.tiles.specs.Brings.{BringTheDue, IsPart}
use Rattle.update_encoder.specs.Answer.{spelled}
use Rattle.update_encoder.specs.Coming.{front_bytes}
use Rattle.update_encoder.specs.Style.{Style}
use Rattle.zrle_answer.specs.Rectangle.{ZlibStream}
use Rattle.zrle_answer.specs.Answer.{AreSpelled}
use Rattle.zrle_answer.specs.Answer.IsSpelled.{without}
use Rattle.zrle_answer.specs.Answer.AreSpelled.{none, one_more}
use Rattle.zrle_answer.specs.Planned.{areas_of}
use Rattle.zrle_answer.specs.declared.plan.Planned.{Planned}
use Rattle.zrle_answer.specs.Written.{AppendsAll, AppendsNext, AppendsRectangle, IsWhole, has_begun, with_zrle}

-- ---- one rectangle

-- In ZRLE it is spelled wherever it stands.
pub in_zrle : (style : Style) (screen : Canvas) (may_copy : Bool) (above : Option Rect) (r : Rect) (begun : Bool) (old new : List ℕ) → AppendsRectangle style.format screen r begun old new → AppendsNext style screen may_copy above r begun true old new
in_zrle style screen may_copy above r begun old new k =
    record { bytes = k.bytes; appended = k.appended; spells = λ before e. k.spells (with_zrle style) may_copy above before refl refl e }

-- Without, the stream stays as it is.
pub without_zrle : (style : Style) (screen : Canvas) (may_copy : Bool) (above : Option Rect) (r : Rect) (begun : Bool) (old new : List ℕ) → new ≡ old ++ spelled style screen may_copy above r → AppendsNext style screen may_copy above r begun begun old new
without_zrle style screen may_copy above r begun old new e =
    record { bytes = spelled style screen may_copy above r; appended = e; spells = λ before same. (before, without (with_zrle style) screen may_copy above r before, same) }

-- Where a rectangle is cut off again, what stood before it is left.
pub cut_back : (old new now bytes : List ℕ) (start : ℕ) → start ≡ length old → new ≡ old ++ bytes → now ≡ take start new → now ≡ old
cut_back old new now bytes start size is cut = cut ∙ (ap (λ t. take start t) is ∙ (ap (λ n. take n (old ++ bytes)) size ∙ take-append_seam old bytes))

-- ---- several

-- So far these bytes spell all rectangles but those that are left, which may be spelled behind them.
pub record SoFar (style : Style) (screen : Canvas) (may_copy : Bool) (all left : List Rect) (above : Option Rect) (begun now : Bool) (old new : List ℕ) : Type 0 where
  pub bytes : List ℕ
  pub appended : new ≡ old ++ bytes
  pub leads : (before : ZlibStream) → has_begun before ≡ begun
      → (middle : ZlibStream) × (has_begun middle ≡ now) × ((others : List ℕ) (after : ZlibStream) → AreSpelled (with_zrle style) screen may_copy above left middle others after → AreSpelled (with_zrle style) screen may_copy None all before (bytes ++ others) after)

pub none_so_far : (style : Style) (screen : Canvas) (may_copy : Bool) (all : List Rect) (begun : Bool) (old : List ℕ) → SoFar style screen may_copy all all None begun begun old old
none_so_far style screen may_copy all begun old = record { bytes = []; appended = sym (append-nil old); leads = λ before e. (before, e, λ others after k. k) }

pub one_further : (style : Style) (screen : Canvas) (may_copy : Bool) (all left rest : List Rect) (above : Option Rect) (r : Rect) (begun now next : Bool) (old new newer : List ℕ) → left ≡ r ∷ rest
    → AppendsNext style screen may_copy above r now next new newer → SoFar style screen may_copy all left above begun now old new → SoFar style screen may_copy all rest (Some r) begun next old newer
one_further style screen may_copy all left rest above r begun now next old new newer is adds before =
    let so : SoFar style screen may_copy all (r ∷ rest) above begun now old new = subst (λ (rs : List Rect). SoFar style screen may_copy all rs above begun now old new) is before in
    record {
      bytes = so.bytes ++ adds.bytes;
      appended = adds.appended ∙ (ap (λ t. t ++ adds.bytes) so.appended ∙ append_assoc old so.bytes adds.bytes);
      leads = λ first e.
          (let led = so.leads first e in
          let one = adds.spells led.0 led.1 in (
            one.0,
            one.2,
            λ others after k.
                subst (λ t. AreSpelled (with_zrle style) screen may_copy None all first t after) (sym (append_assoc so.bytes adds.bytes others))
                (led.2 (adds.bytes ++ others) after (one_more (with_zrle style) screen may_copy above r rest led.0 one.0 after adds.bytes others one.1 k)),
          ));
    }

pub all_so_far : (style : Style) (screen : Canvas) (may_copy : Bool) (all left : List Rect) (above : Option Rect) (begun now : Bool) (old new : List ℕ) → left ≡ []
    → SoFar style screen may_copy all left above begun now old new → AppendsAll style screen may_copy None all begun now old new
all_so_far style screen may_copy all left above begun now old new is before =
    let so : SoFar style screen may_copy all [] above begun now old new = subst (λ (rs : List Rect). SoFar style screen may_copy all rs above begun now old new) is before in
    record {
      bytes = so.bytes;
      appended = so.appended;
      spells = λ first e.
          (let led = so.leads first e in (
            led.0,
            subst (λ t. AreSpelled (with_zrle style) screen may_copy None all first t led.0) (append-nil so.bytes) (led.2 [] led.0 (none (with_zrle style) screen may_copy above led.0)),
            led.1,
          ));
    }

-- All of them behind a front that counts them, where they bring what is due, are a whole answer.
pub is_whole : (style : Style) (w h : ℕ) (area : Rect) (screen : Canvas) (copies : List Paint) (due : ℕ → Bool) (sent begun now : Bool) (rs : List Rect) (count : ℕ) (old new : List ℕ)
    → BringTheDue w h area due rs → count ≡ length rs → old ≡ front_bytes copies count → AppendsAll style screen (style.choice.copy && sent) None rs begun now old new
    → IsWhole style w h area screen copies due sent begun now new
is_whole style w h area screen copies due sent begun now rs count old new brings counted front all =
    record {
      rectangles = rs;
      brings = brings;
      answers = λ before e.
          (let led = all.spells before e in (
            led.0,
            record { others = all.bytes; are = all.appended ∙ ap (λ t. t ++ all.bytes) (front ∙ ap (front_bytes copies) counted); spelled_so = led.1 },
            led.2,
          ));
    }

-- ---- those of a plan

-- What stands where there is nothing.
abbrev pub nowhere : Planned
nowhere = record { area = record { x = 0; y = 0; w = 0; h = 0 }; is_plain = false }

pub part_at : (w h : ℕ) (plan : List Planned) (k : ℕ) (d : Planned) → k < length plan → All (IsPart w h) (areas_of plan) → IsPart w h (get_or plan k d).area
part_at w h plan k d lt parts =
    let inside : k < length (areas_of plan) = omega (arith, lt, length-map plan (λ (p : Planned). p.area)) in
    subst (IsPart w h) (get_or-map (λ (p : Planned). p.area) plan k d d.area lt) (parts k d.area inside)

pub some_positions : (w h : ℕ) (r : Rect) → IsPart w h r → 1 ≤ r.w * r.h
some_positions w h r part = let some : 0 < r.w * r.h = mul-pos part.wide part.high in omega arith

-- From one place of a plan on, its rectangle stands first.
pub from_place : (plan : List Planned) (k : ℕ) (d : Planned) → k < length plan → areas_of (drop k plan) ≡ (get_or plan k d).area ∷ areas_of (drop (k + 1) plan)
from_place plan k d lt = rw add-one (ap areas_of (drop-cons plan k d lt))

-- From its end on there is none.
pub from_end : (plan : List Planned) (k : ℕ) → length plan ≤ k → areas_of (drop k plan) ≡ []
from_end plan k le = ap areas_of (drop_all k plan le)
