-- The doors are those of the settings' viewers, and of the recorder where the settings have one. They may go to other
-- threads.
use denote.Param.Send.{sendable}
use Rattle.std.proofs.Common.{ap₂, ◌∙◌, Bool, List, [], ◌∷◌, ◌++◌}
use Rattle.std.specs.Prelude.{if◌then◌else◌}
use Rattle.roles.specs.declared.role.Role.{Role}
use Rattle.roles.specs.declared.role.Role.TheVariants.{View}
use Rattle.serve.proofs.PlaceSending.{place_send}
use Rattle.serve.proofs.run.reflect_all.Goals as goal

pub reflect-reflected-requires-clause-doors : goal.reflect-reflected-requires-clause-doors
reflect-reflected-requires-clause-doors g c κs _ =
    c.in-Ok-all_doors.ensures.roles ∙ ap₂ (λ (roles : List Role) (recorded : Bool). roles ++ (if recorded then View ∷ [] else [])) c.requires.doors c.requires.recorder

pub reflect-reflected-requires-send-D : goal.reflect-reflected-requires-send-D
reflect-reflected-requires-send-D g c κs within = let r = c.type_bounds.send-R in let l = c.type_bounds.send-G in search (sendable, place_send)
