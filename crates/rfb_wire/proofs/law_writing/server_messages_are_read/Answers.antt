use Rattle.std.proofs.Common.{ap, suc}
use Rattle.rfb_wire.specs.ServerMessage.{ServerCutText, LostText}
use Rattle.rfb_wire.proofs.Messages.{text_is_kept, text_is_lost}
use Rattle.rfb_wire.proofs.law_writing.server_messages_are_read.Goals as goal

pub returns-clause-text : goal.returns-clause-text
returns-clause-text c = λ format w h t short. let said = text_is_kept ServerCutText LostText t short in record { whole = ap suc said.whole; says = said.says }

pub returns-clause-lost : goal.returns-clause-lost
returns-clause-lost c = λ format w h t long few. let said = text_is_lost ServerCutText LostText t long few in record { whole = ap suc said.whole; says = said.says }
