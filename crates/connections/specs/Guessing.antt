-- How many wrong passwords an address may send.
use Rattle.std.specs.Prelude.{ℕ, ◌-◌, ◌≤◌, Bool, false, ◌&&◌, nat_le, nat_lt, List, [], ◌∷◌, ◌++◌, length, remove, count_by, bytes_eq, if◌then◌else◌}
use Rattle.std.specs.Net.Addr.{ipv4_octets, ipv6_octets}
use Rattle.std.specs.Time.{instant_nanos}
use Rattle.std.specs.declared.net.ip_addr.IpAddr.{IpAddr}
use Rattle.std.specs.declared.net.ip_addr.IpAddr.TheVariants.{V4, V6}
use Rattle.std.specs.declared.time.Instant.{Instant}
use Rattle.connections.specs.declared.guesses.Guess.{Guess}

-- Both are one address.
abbrev pub same_ip : IpAddr → IpAddr → Bool
same_ip (V4 one) (V4 other) = bytes_eq (ipv4_octets one) (ipv4_octets other)
same_ip (V6 one) (V6 other) = bytes_eq (ipv6_octets one) (ipv6_octets other)
same_ip _ _ = false

-- A minute, in nanoseconds.
abbrev pub minute_nanos : ℕ
minute_nanos = 60_000_000_000

-- It came from there, less than a minute ago.
abbrev pub is_lately_from : IpAddr → Instant → Guess → Bool
is_lately_from ip now guess =
    nat_le (instant_nanos guess.at) (instant_nanos now) && nat_lt (instant_nanos now - instant_nanos guess.at) minute_nanos && same_ip guess.ip ip

-- Newcomers from there have to wait: ten wrong passwords from there are less than a minute old.
abbrev pub HasToWait : IpAddr → Instant → List Guess → Type 0
HasToWait ip now wrong = 10 ≤ count_by (is_lately_from ip now) wrong

-- One more is remembered. Where 640 are, the first of them is forgotten.
abbrev pub with_guess : Guess → List Guess → List Guess
with_guess guess wrong = (if nat_lt (length wrong) 640 then wrong else remove wrong 0) ++ guess ∷ []
