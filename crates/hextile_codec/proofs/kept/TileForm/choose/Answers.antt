use Rattle.std.proofs.Common.{◌≡◌, map, refl, sym, ap, ◌∙◌}
use Rattle.joined_runs.specs.declared.rect_form.RectForm.TheVariants.{OfRows, Joined}
use Rattle.joined_runs.specs.Joined.{subrects_of}
use Rattle.joined_runs.specs.Tinted.{tinted_subrect}
use Rattle.joined_runs.proofs.Recoloured.{subrects_tinted}
use Rattle.hextile_codec.specs.Heads.{IsHeadOf}
use Rattle.hextile_codec.specs.TileKinds.{subrect_of}
use Rattle.hextile_codec.proofs.Tinted.{head_tinted}
use Rattle.hextile_codec.proofs.kept.TileForm.choose.Goals as goal

pub returns-clause-joined : goal.returns-clause-joined
returns-clause-joined c = λ colours shown stands shows.
    let w = c.args.tile.now.w in
    let h = c.args.tile.now.h in
    let format = c.args.format.now in
    let head : IsHeadOf Joined w h shown c.tinted.result = rw c.tinted.ensures (head_tinted Joined format w h colours shown c.args.self.now.joined shows stands.joined) in
    let found : map (tinted_subrect format) (map subrect_of c.args.self.now.runs.items) ≡ subrects_of Joined w h shown = ap (map (tinted_subrect format)) stands.runs ∙ sym (subrects_tinted format w h colours shown shows Joined) in
    c.choose.ensures.choice Joined shown (map (tinted_subrect format) (map subrect_of c.args.self.now.runs.items)) head found

pub returns-clause-rows : goal.returns-clause-rows
returns-clause-rows c = λ colours shown stands shows.
    let w = c.args.tile.now.w in
    let h = c.args.tile.now.h in
    let format = c.args.format.now in
    let head : IsHeadOf OfRows w h shown c.tinted-2.result = rw c.tinted-2.ensures (head_tinted OfRows format w h colours shown c.args.self.now.rows shows stands.rows) in
    c.choose-2.ensures.choice OfRows shown (subrects_of OfRows w h shown) head refl
