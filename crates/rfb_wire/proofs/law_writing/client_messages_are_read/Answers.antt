use Rattle.std.proofs.Common.{ap, suc}
use Rattle.rfb_wire.specs.ClientMessage.{CutText, LostText}
use Rattle.rfb_wire.proofs.Messages.{set_pixel_format_is_read, set_encodings_is_read, text_is_kept, text_is_lost}
use Rattle.rfb_wire.proofs.law_writing.client_messages_are_read.Goals as goal

pub returns-clause-format : goal.returns-clause-format
returns-clause-format c = set_pixel_format_is_read

pub returns-clause-encodings : goal.returns-clause-encodings
returns-clause-encodings c = set_encodings_is_read

pub returns-clause-text : goal.returns-clause-text
returns-clause-text c = λ t short. let said = text_is_kept CutText LostText t short in record { whole = ap suc said.whole; says = said.says }

pub returns-clause-lost : goal.returns-clause-lost
returns-clause-lost c = λ t long few. let said = text_is_lost CutText LostText t long few in record { whole = ap suc said.whole; says = said.says }
