-- How the rectangles of an answer are written.
use Rattle.pixel_format.specs.PixelFormat.{PixelFormat}
use Rattle.joined_runs.specs.declared.rect_form.RectForm.{RectForm}
use Rattle.rfb_wire.specs.ClientMessage.{Choice}
use Rattle.rfb_wire.specs.Message.{choice_in}
use Rattle.update_encoder.specs.declared.style.Style as declared

-- In which of the two forms and in which pixel format they are written, and what the viewer chose.
pub record Style : Type 0 where
  pub runs : RectForm
  pub format : PixelFormat
  pub choice : Choice

-- The style that a Style in the code stands for.
abbrev pub style_in : declared.Style → Style
style_in style = record { runs = style.runs; format = style.format; choice = choice_in style.choice }
