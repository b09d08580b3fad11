-- A tile's bytes are those of its choice, whichever form that is of.
use Rattle.std.proofs.Common.{◌≡◌, ◌+◌, ◌*◌, ◌≤◌, ◌++◌, ◌∷◌, ◌∙◌, ℕ, true, false, List, length, take, sym, ap, arith}
use Rattle.std.specs.List.{All}
use Rattle.std.proofs.lemmas.List.{length-map}
use Rattle.pixel_format.specs.PixelFormat.{PixelFormat, pixel_len}
use Rattle.raster.specs.declared.rect.Rect.{Rect}
use Rattle.raster.specs.Screen.{Canvas, part_of, value_at, values_of}
use Rattle.raster.specs.Encoding.{Carried, Subrect, raw_bytes}
use Rattle.joined_runs.specs.declared.rect_form.RectForm.{RectForm}
use Rattle.joined_runs.specs.Joined.{tile_bytes_as}
use Rattle.joined_runs.proofs.SameTiles.{few_subrects}
use Rattle.hextile_codec.specs.declared.runs.Run.{Run}
use Rattle.hextile_codec.specs.declared.tile_kind.TileChoice.{TileChoice}
use Rattle.hextile_codec.specs.declared.tile_kind.TileKind.TheVariants.{Raw}
use Rattle.hextile_codec.specs.Carried.{carried_by}
use Rattle.hextile_codec.specs.TileKinds.{IsSmall, IsChosen, IsTileSize, drawn_len}
use Rattle.hextile_codec.specs.declared.source.TileValues.{TileValues}
use Rattle.hextile_codec.specs.Sources.{AreOfTile, shows}
use Rattle.hextile_codec.specs.Subrects.{subrect_in, subrects_in}
use Rattle.hextile_codec.proofs.Alike.{values_alike}
use Rattle.hextile_codec.proofs.Drawings.{as_raw_len, drawn_has}
use Rattle.hextile_codec.proofs.SubrectsIn.{small_in}
use Rattle.hextile_codec.proofs.Tiles.{says_drawn, says_raw}
use Rattle.hextile_codec.proofs.tile.put_tile.Goals as goal

pub put_raw-requires : goal.put_raw-requires
put_raw-requires c =
    let format : PixelFormat = c.args.format.now in
    let tile : Rect = c.args.tile.now in
    let canvas : Canvas = part_of tile (shows format c.args.source.now) in
    let seen : TileValues = c.seen-seen.result in
    let before : Carried = carried_by c.args.said.now in
    let choice : TileChoice = c.args.choice.now in
    let is_raw : choice.kind ≡ Raw = c.is_raw.ensures.0 c.if-not-is_raw.false in
    let form : RectForm = c.requires.chosen.0 in
    let size : IsTileSize tile.w tile.h = c.requires.size in
    let is : IsChosen form format before tile.w tile.h canvas (subrects_in format c.args.subrects.now) choice = c.requires.chosen.1 in
    let of : AreOfTile seen tile.w tile.h canvas = c.seen-seen.ensures canvas c.read-is_read.ensures in
    let raw = says_raw form format before tile.w tile.h canvas (subrects_in format c.args.subrects.now) choice.background choice.kind (tile_bytes_as form format before tile.w tile.h canvas).0 is_raw is.written in
    let count : pixel_len format * (seen.tile.w * seen.tile.h) ≡ pixel_len format * (tile.w * tile.h) = ap (λ n. pixel_len format * (n * seen.tile.h)) of.wide ∙ ap (λ n. pixel_len format * (tile.w * n)) of.high in
    record {
      w_some = omega (arith, of.wide, size.w_some);
      w_most = omega (arith, of.wide, size.w_most);
      h_most = omega (arith, of.high, size.h_most);
      across = of.lies.across;
      down = of.lies.down;
      room = omega (arith, ap length raw, as_raw_len form format before tile.w tile.h canvas, is.len, count, c.requires.room);
    }

pub put_drawn-requires : goal.put_drawn-requires
put_drawn-requires c =
    let format : PixelFormat = c.args.format.now in
    let tile : Rect = c.args.tile.now in
    let canvas : Canvas = part_of tile (shows format c.args.source.now) in
    let before : Carried = carried_by c.args.said.now in
    let choice : TileChoice = c.args.choice.now in
    let not_raw : choice.kind ≡ Raw → ⊥ = λ raw. (let never : false ≡ true = sym c.if-not-is_raw.true ∙ c.is_raw.ensures.1 raw in absurd cc) in
    let runs : List Run = c.args.subrects.now.runs.now in
    let found : List Subrect = subrects_in format c.args.subrects.now in
    let form : RectForm = c.requires.chosen.0 in
    let size : IsTileSize tile.w tile.h = c.requires.size in
    let is : IsChosen form format before tile.w tile.h canvas found choice = c.requires.chosen.1 in
    let says = says_drawn form format before tile.w tile.h canvas found choice.background choice.kind (tile_bytes_as form format before tile.w tile.h canvas).0 not_raw is.written in
    let count : length found ≡ length runs = length-map runs (subrect_in format c.args.subrects.now.are_colours) in
    let has = drawn_has format before choice.background found choice.kind says.1 in
    let few : length runs ≤ 255 = omega (arith, few_subrects form canvas tile.w tile.h size.w_some size.w_most size.h_some size.h_most, ap length says.2, count) in
    let small : All IsSmall runs = small_in form canvas tile.w tile.h format c.args.subrects.now.are_colours runs size.w_most size.h_most says.2 in
    let room : c.args.used + drawn_len format before choice.background choice.kind (length runs) ≤ length c.args.out.now =
    omega (arith, has, ap (λ n. drawn_len format before choice.background choice.kind n) count, ap length says.0, is.len, c.requires.room) in
    record { small = small; few = few; is = says.1; room = room }

pub returns-then-not-is_raw : goal.returns-then-not-is_raw
returns-then-not-is_raw c = λ form is.
    let format : PixelFormat = c.args.format.now in
    let tile : Rect = c.args.tile.now in
    let canvas : Canvas = part_of tile (shows format c.args.source.now) in
    let before : Carried = carried_by c.args.said.now in
    let choice : TileChoice = c.args.choice.now in
    let not_raw : choice.kind ≡ Raw → ⊥ = λ raw. (let never : false ≡ true = sym c.if-not-is_raw.true ∙ c.is_raw.ensures.1 raw in absurd cc) in
    let runs : List Run = c.args.subrects.now.runs.now in
    let found : List Subrect = subrects_in format c.args.subrects.now in
    let says = says_drawn form format before tile.w tile.h canvas found choice.background choice.kind (tile_bytes_as form format before tile.w tile.h canvas).0 not_raw is.written in
    let count : length runs ≡ length found = sym (length-map runs (subrect_in format c.args.subrects.now.are_colours)) in
    let has = drawn_has format before choice.background found choice.kind says.1 in
    let end : c.args.used + choice.len ≡ c.args.used + drawn_len format before choice.background choice.kind (length runs) =
    omega (arith, has, ap (λ n. drawn_len format before choice.background choice.kind n) count, ap length says.0, is.len) in
    rw end (c.put_drawn.ensures ∙ ap (λ t. take c.args.used c.args.out.now ++ t) (sym says.0))

pub returns : goal.returns
returns c = λ form is.
    let format : PixelFormat = c.args.format.now in
    let tile : Rect = c.args.tile.now in
    let canvas : Canvas = part_of tile (shows format c.args.source.now) in
    let seen : TileValues = c.seen-seen.result in
    let before : Carried = carried_by c.args.said.now in
    let choice : TileChoice = c.args.choice.now in
    let is_raw : choice.kind ≡ Raw = c.is_raw.ensures.0 c.if-not-is_raw.false in
    let size : IsTileSize tile.w tile.h = c.requires.size in
    let front : List ℕ = take c.args.used c.args.out.now in
    let of : AreOfTile seen tile.w tile.h canvas = c.seen-seen.ensures canvas c.read-is_read.ensures in
    let shown : Canvas = part_of seen.tile (value_at seen.width seen.values.now) in
    let same : values_of seen.tile.w seen.tile.h shown ≡ values_of tile.w tile.h canvas =
    ap (λ n. values_of n seen.tile.h shown) of.wide ∙ (ap (λ n. values_of tile.w n shown) of.high ∙ sym (values_alike form tile.w tile.h canvas shown size.w_some size.h_some of.looks)) in
    let raw = says_raw form format before tile.w tile.h canvas (subrects_in format c.args.subrects.now) choice.background choice.kind (tile_bytes_as form format before tile.w tile.h canvas).0 is_raw is.written in
    let count : pixel_len format * (seen.tile.w * seen.tile.h) ≡ pixel_len format * (tile.w * tile.h) = ap (λ n. pixel_len format * (n * seen.tile.h)) of.wide ∙ ap (λ n. pixel_len format * (tile.w * n)) of.high in
    let end : c.args.used + choice.len ≡ c.args.used + 1 + pixel_len format * (seen.tile.w * seen.tile.h) = omega (arith, ap length raw, as_raw_len form format before tile.w tile.h canvas, is.len, count) in
    rw end (c.put_raw.ensures ∙ (ap (λ vs. front ++ 1 ∷ raw_bytes format vs) same ∙ ap (λ t. front ++ t) (sym raw)))
