-- Where systemd hears of a service.
use Rattle.std.specs.Prelude.{◌≡◌, ◌⊎◌, ◌++◌, ℕ, List, codes, true, false}
use Rattle.mio.specs.SockAddr.{sockaddr_un}

-- The bytes of C's `sockaddr_un`, and how many of them count, for a text that is an abstract name after an `@`, or a
-- path from the root.
abbrev pub IsAddressOf : List ℕ → List ℕ × ℕ → Type 0
IsAddressOf text address =
    ((name : List ℕ) × (text ≡ codes "@" ++ name) × (address ≡ sockaddr_un name true))
    ⊎ ((rest : List ℕ) × (text ≡ codes "/" ++ rest) × (address ≡ sockaddr_un text false))
