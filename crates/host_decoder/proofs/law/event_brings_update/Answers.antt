use Rattle.byte_reading.specs.Reading.{messages}
use Rattle.host_decoder.specs.Decoder.{host_message}
use Rattle.host_decoder.proofs.Brought.{brings, brings_listed, all_bring}
use Rattle.host_decoder.proofs.law.event_brings_update.Goals as goal

pub returns-clause-one : goal.returns-clause-one
returns-clause-one c = brings

pub returns-clause-listed : goal.returns-clause-listed
returns-clause-listed c = brings_listed

pub returns-clause-all : goal.returns-clause-all
returns-clause-all c = λ w h bytes. all_bring w h (messages (host_message w h) bytes)
