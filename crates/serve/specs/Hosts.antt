-- How the hosts of a run are met (own).
use Rattle.std.specs.Prelude.{◌≡◌, ◌++◌, ◌∷◌, Bool, codes, false, List, map, None, not, Option, option_and_then, true, ℕ}
use Rattle.std.specs.List.{Contains}
use Rattle.std.specs.Net.Grammar.{IsSocketText}
use Rattle.std.specs.String.{string_bytes}
use Rattle.std.specs.declared.net.socket_addr.SocketAddr.{SocketAddr}
use Rattle.settings.specs.Recordings.{PlaysFrom}
use Rattle.settings.specs.declared.values.Settings.{Settings}
use Rattle.link.specs.Links.{LinkState}
use Rattle.connections.specs.Wires.{joining_state}
use Rattle.playback.specs.declared.bad.BadPlayback.{BadPlayback}
use Rattle.player.specs.Played.{deaf_state}
use Rattle.serve.specs.declared.host_end.HostEnd.{HostEnd}
use Rattle.serve.specs.declared.host_end.HostEnd.TheVariants.{Tcp, Played, Deaf}

-- A host calls at this address of the machine, where it is waited for: its text says the address after `listen:`. It is
-- connected to where its text says anything else.
abbrev pub CallsAt : List ℕ → SocketAddr → Type 0
CallsAt text address = (said : List ℕ) × (text ≡ codes "listen:" ++ said) × IsSocketText said address

-- The texts of the settings' hosts, in order.
abbrev pub host_texts : Settings → List (List ℕ)
host_texts settings = map string_bytes (settings.host ∷ settings.next.items)

-- One of the settings' hosts is a recording.
abbrev pub HasRecording : Settings → Type 0
HasRecording settings =
    (text : List ℕ) × (path : List ℕ) × Contains (host_texts settings) text × PlaysFrom text path

-- The ends of a host's connection.
module _ {R : Type 0} where
  abbrev pub end_state : HostEnd R → LinkState
  end_state (Tcp link) = joining_state link
  end_state (Played host) = host.own
  end_state (Deaf link) = deaf_state link

  -- It has no deadline. One of a recording never has.
  abbrev pub is_untimed : HostEnd R → Bool
  is_untimed (Tcp link) = not link.has_deadline
  is_untimed (Played host) = true
  is_untimed (Deaf link) = true

  -- It was closed, so nothing comes over it any more.
  abbrev pub is_closed : HostEnd R → Bool
  is_closed (Tcp link) = not link.below.is_open
  is_closed (Played host) = false
  is_closed (Deaf link) = false

  -- Why it can't be played on, if it is a recording that can't.
  abbrev pub bad_of : HostEnd R → Option BadPlayback
  bad_of (Tcp link) = None
  bad_of (Played host) = option_and_then (λ played. played.why) host.below
  bad_of (Deaf link) = None
