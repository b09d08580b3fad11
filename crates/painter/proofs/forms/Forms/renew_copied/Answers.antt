use Rattle.std.proofs.Common.{ℕ, ◌+◌, List, Option, refl, ap, sym, subst, ◌∙◌, arith}
use Rattle.std.specs.Prelude.{IsTrue}
use Rattle.std.specs.Cmp.{unsigned_Decides}
use Rattle.std.specs.List.{list_any}
use Rattle.std.proofs.lemmas.List.{nil_from_length}
use Rattle.raster.specs.declared.rect.Rect.{Rect}
use Rattle.raster.specs.Screen.{Canvas, meets, tile_rect, value_at}
use Rattle.hextile_codec.specs.declared.kept.TileForm.{TileForm}
use Rattle.copy_log.specs.declared.copy_rect.CopyRect.{CopyRect}
use Rattle.painter.proofs.FormLaws.{HasRenewed, Stands, brought_next, copied_next, none_renewed, number_there, uncopied_next}
use Rattle.painter.proofs.forms.Forms.renew_copied.Goals.{then-is_next, else-is_next+then-is_met, else-is_next+else-is_met}
use Rattle.painter.proofs.forms.Forms.renew_copied.Goals as goal

pub loop-t-init : goal.loop-t-init
loop-t-init c = none_renewed c.args.width c.args.height c.args.copies.now c.args.numbers.now (value_at c.args.width c.args.colours.now) c.args.self.now.list.items

pub loop-t-preserved : goal.loop-t-preserved
loop-t-preserved c =
    let w : ℕ = c.args.width in
    let h : ℕ = c.args.height in
    let t : ℕ = c.loop-t.t in
    let copies : List CopyRect = c.args.copies.now in
    let numbers : List ℕ = c.args.numbers.now in
    let screen : Canvas = value_at w c.args.colours.now in
    let old : List (Option TileForm) = c.args.self.now.list.items in
    let mid : List (Option TileForm) = c.loop-t.self.list.items in
    let Renewed : List (Option TileForm) → Type 0 = HasRenewed w h copies numbers screen (t + 1) old in
    elim c.if-is_next.branch [
      | then-is_next b ↦
          let there = c.is_next.ensures (subst IsTrue (sym b.if-is_next.true) refl) in
          subst Renewed (sym (ap (λ f. f.list.items) b.self-is)) (brought_next w h copies numbers screen t old mid c.loop-t.invariant (number_there numbers c.loop-t.next t there.0 there.1))
      | else-is_next+then-is_met b ↦
          subst Renewed (sym (ap (λ f. f.list.items) b.self-is))
          (copied_next w h copies numbers screen t old mid c.loop-t.invariant b.put.new.self.list.items b.put.ensures.len
          (λ there. subst (λ (form : Option TileForm). Stands w h screen t form) (sym (b.put.ensures.here there)) b.form_on_screen-form.ensures) b.put.ensures.others)
      | else-is_next+else-is_met b ↦
          subst Renewed (sym (ap (λ f. f.list.items) b.self-is))
          (uncopied_next w h copies numbers screen t old mid c.loop-t.invariant
          (ap (λ (r : Rect). list_any (λ k. meets k.area r) copies) (sym b.tile_rect.ensures) ∙ (sym b.is_met.ensures ∙ b.if-is_met.false)))
    ]

pub returns-then-is_empty : goal.returns-then-is_empty
returns-then-is_empty c stood t there lt none =
    stood t there lt none
    (ap (list_any (λ k. meets k.area (tile_rect c.args.width c.args.height t))) (nil_from_length c.args.copies.now ((unsigned_Decides _ 0).0 (sym c.is_empty.ensures ∙ c.if-is_empty.true))))

pub returns : goal.returns
returns c stood t there lt none = c.loop-t.invariant.before stood t (omega (arith, lt, c.loop-t-test.false, c.tile_count-t-end.ensures)) there lt none
