use Rattle.std.proofs.Common.{◌≡◌, ◌≤◌, length}
use Rattle.raster.proofs.PieceRead.{HasDrawn}
use Rattle.raster.proofs.codec_reader.read_piece.Given as goal

abbrev pub invariant-loop-reader : goal.invariant-loop-reader
invariant-loop-reader g l =
    record {
      within : length l.left ≤ length l.piece;
      still : length l.left ≡ length l.piece → l.reader ≡ l.fn.reader;
      format : g.R.CodecReader.format_of l.reader ≡ g.R.CodecReader.format_of l.fn.reader;
      width : g.R.CodecReader.width l.reader ≡ g.R.CodecReader.width l.fn.reader;
      height : g.R.CodecReader.height l.reader ≡ g.R.CodecReader.height l.fn.reader;
      across : g.C.Canvas.width l.canvas ≡ g.C.Canvas.width l.fn.canvas;
      down : g.C.Canvas.height l.canvas ≡ g.C.Canvas.height l.fn.canvas;
      stays : g.C.Canvas.Stays l.fn.canvas l.canvas;
      drawn : (sofar : g.R.CodecReader.Sofar) → g.R.CodecReader.Stands g.C.Canvas.keeps l.fn.reader (g.C.Canvas.shows l.fn.canvas) sofar
          → HasDrawn g.R.CodecReader.ahead (g.R.CodecReader.Stands g.C.Canvas.keeps) l.fn.reader l.reader (g.C.Canvas.shows l.canvas) l.piece l.left sofar;
    }

abbrev pub decreases-loop-reader : goal.decreases-loop-reader
decreases-loop-reader g l = length l.left
