use Rattle.byte_reading.proofs.ReadingLaws.{messages-append, rest-append}
use Rattle.rfb_wire.specs.ClientMessage.{client_message}
use Rattle.rfb_wire.specs.ServerMessage.{server_message}
use Rattle.rfb_wire.proofs.law.messages_in_pieces.Goals as goal

pub returns-clause-client : goal.returns-clause-client
returns-clause-client c = messages-append client_message client_message

pub returns-clause-client_rest : goal.returns-clause-client_rest
returns-clause-client_rest c = rest-append client_message client_message

pub returns-clause-server : goal.returns-clause-server
returns-clause-server c = λ format w h. messages-append (server_message format w h) (server_message format w h)

pub returns-clause-server_rest : goal.returns-clause-server_rest
returns-clause-server_rest c = λ format w h. rest-append (server_message format w h) (server_message format w h)
