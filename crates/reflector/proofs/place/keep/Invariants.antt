use Rattle.input_relay.specs.Ends.{place_of, relay_of}
use Rattle.reflector.proofs.place.keep.Given as goal

-- The sender that came names itself.
abbrev pub ghosts-serve_from : goal.ghosts-serve_from
ghosts-serve_from g a = record { relay = relay_of a.place.sender; place = place_of a.place.sender }
