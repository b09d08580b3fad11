-- A host that is joined has a screen of 1 to 4096 pixels each way. `serve` makes the shared screen of it.
use Rattle.std.proofs.Common.{◌≡◌, ℕ, ◌-◌, ◌≤◌, Bool, true, false, not, List, Option, min, refl, arith}
use Rattle.std.specs.Prelude.{◌&&◌, nat_le}
use Rattle.std.proofs.lemmas.Bool.{and_parts}
use Rattle.std.proofs.lemmas.Bool.Decides.{nat_tests}
use Rattle.byte_reading.specs.Reading.{Reading, Done, ◌>>=◌, after, bytes, padding, u16, u32, unless, Gives}
use Rattle.fault.specs.declared.kinds.Fault.TheVariants.{BadScreen}
use Rattle.byte_reading.proofs.ReadingLaws.{gives_bind, gives_padding}
use Rattle.raster.specs.Size.{IsScreenSize}
use Rattle.rfb_wire.proofs.Handshakes.{gives_after}
use Rattle.rfb_wire.specs.Handshake.{Joined, is_size, kept_name, host_version, security, security_result, host_init, host_hello}

pub record HasSize (joined : Joined) : Type 0 where
  pub across : is_size joined.w ≡ true
  pub down : is_size joined.h ≡ true

abbrev behind : ℕ → ℕ → Reading Joined
behind w h = padding 16 (u32 >>= λ len. kept_name w h len)

abbrev judged : ℕ → ℕ → Reading Joined
judged w h = unless (not (is_size w && is_size h)) BadScreen (behind w h)

named : (w h len : ℕ) → is_size w ≡ true → is_size h ≡ true → Gives HasSize (kept_name w h len)
named w h len p q =
    gives_bind HasSize (bytes (min 255 len)) (λ name. padding (len - 255) (Done (record { w = w; h = h; name = name })))
    (λ name. gives_padding HasSize (len - 255) (Done (record { w = w; h = h; name = name })) (record { across = p; down = q }))

by_test : (w h : ℕ) (fits : Bool) → (is_size w && is_size h) ≡ fits → Gives HasSize (unless (not fits) BadScreen (behind w h))
by_test w h false e = tt
by_test w h true e =
    let both = and_parts (is_size w) (is_size h) e in
    gives_padding HasSize 16 (u32 >>= λ len. kept_name w h len) (gives_bind HasSize u32 (λ len. kept_name w h len) (λ len. named w h len both.0 both.1))

init_gives : Gives HasSize host_init
init_gives = gives_bind HasSize u16 (λ w. u16 >>= judged w) (λ w. gives_bind HasSize u16 (judged w) (λ h. by_test w h (is_size w && is_size h) refl))

hello_gives : (password : Option (List ℕ)) → Gives HasSize (host_hello password)
hello_gives password =
    gives_bind HasSize host_version (λ _. security password >>= λ _. security_result >>= λ _. host_init)
    (λ _. gives_bind HasSize (security password) (λ _. security_result >>= λ _. host_init) (λ _. gives_bind HasSize security_result (λ _. host_init) (λ _. init_gives)))

pub size_least : (n : ℕ) → is_size n ≡ true → 1 ≤ n
size_least n e = let least = (and_parts (nat_le 1 n) (nat_le n 4096) e).0 in grind (arith, nat_tests, least)

pub size_most : (n : ℕ) → is_size n ≡ true → n ≤ 4096
size_most n e = let most = (and_parts (nat_le 1 n) (nat_le n 4096) e).1 in grind (arith, nat_tests, most)

pub joined_size : (password : Option (List ℕ)) (bs : List ℕ) (joined : Joined) → after (host_hello password) bs ≡ Done joined → HasSize joined
joined_size password bs joined e = gives_after HasSize (host_hello password) bs joined (hello_gives password) e

pub joined_screen : (password : Option (List ℕ)) (bs : List ℕ) (joined : Joined) → after (host_hello password) bs ≡ Done joined → IsScreenSize joined.w joined.h
joined_screen password bs joined e =
    let size = joined_size password bs joined e in
    record { wide = (size_least joined.w size.across, size_most joined.w size.across); high = (size_least joined.h size.down, size_most joined.h size.down) }
