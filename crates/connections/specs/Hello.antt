-- How long a viewer's side of the handshake may take.
use Rattle.std.specs.Prelude.{ℕ, ◌≡◌, ◌≤◌, ◌<◌, ◌+◌}
use Rattle.std.specs.Duration.{as_nanos}
use Rattle.connections.specs.declared.hello.Patience.{Patience}
use Rattle.connections.specs.declared.hello.Patience.TheVariants.{Endless, AtMost, Over}

-- The bytes of a viewer's side: its version, its choice and its shared-flag (RFC 6143, 7.1.1, 7.1.2, 7.3.1).
abbrev pub hello_len : ℕ
hello_len = 14

-- Ten seconds, in nanoseconds.
abbrev pub hello_nanos : ℕ
hello_nanos = 10_000_000_000

-- How long a wait may last where this many bytes of the hello are missing, this many nanoseconds after the viewer came.
-- Within the ten seconds it may last until they are over. After that it may last without an end where no byte is
-- missing; otherwise the hello is late.
abbrev pub IsPatience : Patience → ℕ → ℕ → Type 0
IsPatience (AtMost left) missing passed = (passed < hello_nanos) × (as_nanos left + passed ≡ hello_nanos)
IsPatience Endless missing passed = (hello_nanos ≤ passed) × (missing ≡ 0)
IsPatience Over missing passed = (hello_nanos ≤ passed) × (1 ≤ missing)
