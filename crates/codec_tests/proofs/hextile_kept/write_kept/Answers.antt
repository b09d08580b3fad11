use Rattle.std.proofs.Common.{◌≡◌, refl, true}
use Rattle.raster.specs.Screen.{value_at}
use Rattle.hextile_codec.specs.declared.source.PixelSource.{PixelSource}
use Rattle.hextile_codec.specs.Sources.{shows}
use Rattle.hextile_codec.proofs.FormsOf.{forms_kept, source_shows}
use Rattle.codec_tests.proofs.hextile_kept.write_kept.Goals as goal

pub encode_from-requires-clause-kept : goal.encode_from-requires-clause-kept
encode_from-requires-clause-kept c =
    let format = c.args.format.now in
    let source : PixelSource = record { numbers = c.args.colours; width = c.args.w; height = c.args.h; area = record { x = 0; y = 0; w = c.args.w; h = c.args.h }; are_colours = true } in
    forms_kept format c.args.w c.args.h (value_at c.args.w c.args.colours.now) (shows format source) c.args.forms.now c.requires.apart (source_shows format source c.args.w c.args.h refl refl refl) c.requires.forms
