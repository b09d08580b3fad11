use Rattle.rfb_wire.proofs.Handshakes.{init_is_read, viewer_is_told, host_is_told, said_begins}
use Rattle.rfb_wire.proofs.law_writing.handshake_is_read.Goals as goal

pub returns-clause-init : goal.returns-clause-init
returns-clause-init c = init_is_read

pub returns-clause-viewer : goal.returns-clause-viewer
returns-clause-viewer c = viewer_is_told

pub returns-clause-host : goal.returns-clause-host
returns-clause-host c = host_is_told

pub returns-clause-begins : goal.returns-clause-begins
returns-clause-begins c = said_begins
