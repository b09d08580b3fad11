-- A host whose text is that of a recording makes the settings ones with a recording.
use Rattle.std.proofs.Common.{◌≡◌, ◌∷◌, ◌<◌, arith, get_or, Global, length, List, map, refl, subst, suc, ℕ}
use Rattle.std.specs.String.{string_bytes}
use Rattle.std.specs.Prelude.{String}
use Rattle.std.specs.List.{Contains}
use Rattle.settings.specs.Recordings.{PlaysFrom}
use Rattle.settings.specs.declared.values.Settings.{Settings}
use Rattle.serve.proofs.Named.{listed}
use Rattle.serve.specs.Hosts.{HasRecording}

pub first_recording : (settings : Settings) (text path : List ℕ) → text ≡ string_bytes settings.host → PlaysFrom text path → HasRecording settings
first_recording settings text path is plays =
    (string_bytes settings.host, path, listed string_bytes (settings.host ∷ settings.next.items) 0 settings.host (omega arith) refl, subst (λ t. PlaysFrom t path) is plays)

pub next_recording : (settings : Settings) (items : List (String Global)) (i : ℕ) (host : String Global) (text path : List ℕ) → items ≡ settings.next.items → i < length items → host ≡ get_or items i host → text ≡ string_bytes host → PlaysFrom text path → HasRecording settings
next_recording settings items i host text path all within same is plays =
    let there : Contains (map string_bytes (settings.host ∷ items)) (string_bytes host) = listed string_bytes (settings.host ∷ items) (suc i) host (omega (arith, within)) same in
    (string_bytes host, path, subst (λ (hosts : List (String Global)). Contains (map string_bytes (settings.host ∷ hosts)) (string_bytes host)) all there, subst (λ t. PlaysFrom t path) is plays)
