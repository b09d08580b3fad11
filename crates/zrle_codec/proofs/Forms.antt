-- Tiles of each form.
use Rattle.std.proofs.Common.{◌≡◌, ℕ, ◌*◌, List, [], ◌∷◌, ◌++◌, ◌∙◌, length, map, replicate, refl, sym, ap, append_assoc}
use Rattle.std.specs.List.{flat_map}
use Rattle.std.proofs.lemmas.List.{length-replicate}
use Rattle.pixel_format.specs.PixelFormat.{PixelFormat}
use Rattle.zrle_codec.specs.Cpixel.{cpixel_bytes, received}
use Rattle.zrle_codec.specs.Tiles.{Raw, Solid, PlainRuns, IsWellFormed, SpellsTile, AppendsSome, tile_shows, tile_bytes, plain_run_bytes}
use Rattle.zrle_codec.specs.Appends.{AppendsRuns}

pub raw_tile : (format : PixelFormat) (w h : ℕ) (values : List ℕ) → length values ≡ w * h → SpellsTile format w h (map (received format) values) (0 ∷ flat_map (cpixel_bytes format) values)
unfolding tile_shows tile_bytes IsWellFormed
raw_tile format w h values size = record { tile = Raw values; fits = record { count = size; form = tt }; shows = refl; are = refl }

pub solid_tile : (format : PixelFormat) (w h v : ℕ) (values : List ℕ) → length values ≡ w * h → values ≡ replicate (length values) v → SpellsTile format w h (map (received format) values) (1 ∷ cpixel_bytes format v)
unfolding tile_shows tile_bytes IsWellFormed
solid_tile format w h v values size same = record {
  tile = Solid v;
  fits = record { count = length-replicate (w * h) v; form = tt };
  shows = ap (map (received format)) (ap (λ n. replicate n v) (sym size) ∙ sym same);
  are = refl;
}

pub runs_tile : (format : PixelFormat) (w h : ℕ) (values old new : List ℕ) → length values ≡ w * h → AppendsRuns (plain_run_bytes format) (old ++ 128 ∷ []) new values → AppendsSome format w h values old new
unfolding tile_shows tile_bytes IsWellFormed
runs_tile format w h values old new size put = record {
  bytes = 128 ∷ flat_map (plain_run_bytes format) put.runs;
  spells = record { tile = PlainRuns put.runs; fits = record { count = ap (λ t. length t) put.shows ∙ size; form = put.some }; shows = ap (map (received format)) put.shows; are = refl };
  appended = put.appended ∙ append_assoc old (128 ∷ []) (flat_map (plain_run_bytes format) put.runs);
}
