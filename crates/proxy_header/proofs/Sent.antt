-- What a proxy sends is read as what it means.
use Rattle.std.proofs.Common.{◌≡◌, ℕ, zero, suc, ◌+◌, ◌-◌, ◌^◌, ◌<◌, ◌≤◌, Bool, true, false, List, [], ◌∷◌, ◌++◌, length, get_or, take, Option, Some, None, Result, Ok, Err, refl, sym, ap, subst, ◌∙◌, add-one, append_assoc, arith, length-append}
use Rattle.std.specs.Prelude.{◌==◌, nat_lt, if◌then◌else◌}
use Rattle.std.specs.Int.{w16, from_be_bytes, to_be_bytes}
use Rattle.std.proofs.lemmas.Bool.{le-leb, lt-leb}
use Rattle.std.proofs.lemmas.Bool.Decides.{nat_tests}
use Rattle.std.proofs.lemmas.List.{take_at}
use Rattle.std.proofs.lemmas.Nat.{from_be_bytes-to_be_bytes_2}
use Rattle.byte_reading.specs.Reading.{Reading, Done, Want, ◌>>=◌, bytes, padding, u16, Spells}
use Rattle.raster.proofs.Spellings.{spells_done, spells_bind, spells_bytes_of}
use Rattle.raster.proofs.Pixels.{spells_u16}
use Rattle.proxy_header.specs.Header.{Answer, refused, signature, exactly, after_command, speaks, block, read_past, addresses, block_len, origin_in, port_at, is_family, told, header}
use Rattle.proxy_header.specs.Spelled.{Ends, AreEnds, address_len, family_of, source_of, ends_bytes, header_bytes, HeadersAreRead}
use Rattle.proxy_header.specs.declared.address.Ip.{Ip}
use Rattle.proxy_header.specs.declared.address.Ip.TheVariants.{V4, V6}
use Rattle.proxy_header.specs.declared.origin.Origin.{Origin}
use Rattle.proxy_header.specs.declared.origin.Origin.TheVariants.{Peer}
use Rattle.proxy_header.specs.declared.origin.Refusal.TheVariants as why
use Rattle.proxy_header.specs.declared.state.Command.{Command}
use Rattle.proxy_header.specs.declared.state.Command.TheVariants.{Local, Proxy}

spells_want : (more : ℕ → Reading Answer) (b : ℕ) (bs : List ℕ) (x : Answer) → Spells (more b) bs x → Spells (Want more) (b ∷ bs) x
spells_want more b bs x h = record { whole = ap suc h.whole; says = h.says }

same_byte : (b : ℕ) → (b == b) ≡ true
same_byte b = grind (arith, nat_tests)

spells_exactly : (xs ys : List ℕ) (rest : Reading Answer) (x : Answer) → Spells rest ys x → Spells (exactly xs rest) (xs ++ ys) x
spells_exactly [] ys rest x h = h
spells_exactly (b ∷ xs) ys rest x h =
    spells_want (λ byte. if byte == b then exactly xs rest else refused why.Signature) b (xs ++ ys) x
    (subst (λ (yes : Bool). Spells (if yes then exactly xs rest else refused why.Signature) (xs ++ ys) x) (sym (same_byte b)) (spells_exactly xs ys rest x h))

spells_past : (left : List ℕ) (origin : Origin) → Spells (read_past (length left) origin) left (Ok origin)
spells_past [] origin = record { whole = refl; says = refl }
spells_past (b ∷ left) origin = spells_want (λ _. read_past (length left) origin) b left (Ok origin) (spells_past left origin)

-- A length, and as many bytes.
spells_counted : (told : Option Ip) (counted : List ℕ) (x : Answer) → length counted < 2 ^ 16 → Spells (block told (length counted)) counted x
    → Spells (u16 >>= block told) (to_be_bytes w16 (length counted) ++ counted) x
spells_counted told counted x fits h = spells_bind u16 (block told) (to_be_bytes w16 (length counted)) counted (length counted) x (spells_u16 (length counted) fits) h

pub local_is_read : (family : ℕ) (counted : List ℕ) → length counted < 2 ^ 16 → Spells header (header_bytes 0x20 family counted) (Ok Peer)
local_is_read family counted fits =
    let tail : List ℕ = to_be_bytes w16 (length counted) ++ counted in
    spells_exactly signature (0x20 ∷ family ∷ tail) (Want after_command) (Ok Peer)
    (spells_want after_command 0x20 (family ∷ tail) (Ok Peer)
    (spells_want (speaks Local) family tail (Ok Peer) (spells_counted None counted (Ok Peer) fits (spells_past counted Peer))))

-- PROXY, a family that has a meaning, and what follows it.
proxy_is_read : (family : ℕ) (counted : List ℕ) (what : Option Ip) (x : Answer) → is_family family ≡ true → told family ≡ what → length counted < 2 ^ 16
    → Spells (block what (length counted)) counted x → Spells header (header_bytes 0x21 family counted) x
proxy_is_read family counted what x valid told_is fits h =
    let tail : List ℕ = to_be_bytes w16 (length counted) ++ counted in
    let form : Bool → Option Ip → Reading Answer = λ yes t. if yes then (u16 >>= block t) else refused why.Family in
    let same : speaks Proxy family ≡ form true what = ap (λ yes. form yes (told family)) valid ∙ ap (form true) told_is in
    spells_exactly signature (0x21 ∷ family ∷ tail) (Want after_command) x
    (spells_want after_command 0x21 (family ∷ tail) x
    (spells_want (speaks Proxy) family tail x (subst (λ (r : Reading Answer). Spells r tail x) (sym same) (spells_counted what counted x fits h))))

pub untold_is_read : (family : ℕ) (counted : List ℕ) → is_family family ≡ true → told family ≡ None → length counted < 2 ^ 16 → Spells header (header_bytes 0x21 family counted) (Ok Peer)
untold_is_read family counted valid none fits = proxy_is_read family counted None (Ok Peer) valid none fits (spells_past counted Peer)

-- ---- addresses

port_behind : (front : List ℕ) (port : ℕ) (others : List ℕ) (n : ℕ) → length front ≡ n → port < 2 ^ 16 → port_at (front ++ (to_be_bytes w16 port ++ others)) n ≡ port
port_behind [] port others zero e fits = from_be_bytes-to_be_bytes_2 port fits
port_behind [] port others (suc n) e fits = absurd (omega arith)
port_behind (b ∷ front) port others zero e fits = absurd (omega arith)
port_behind (b ∷ front) port others (suc n) e fits = rw (add-one) (rw add-one at (port_behind front port others n (omega arith) fits))

four : (a b : List ℕ) (p q : ℕ) (n : ℕ) → length a ≡ n → length b ≡ n → length (a ++ (b ++ (to_be_bytes w16 p ++ to_be_bytes w16 q))) ≡ n + n + 4
four a b p q n la lb = omega (arith, la, lb, length-append a (b ++ (to_be_bytes w16 p ++ to_be_bytes w16 q)), length-append b (to_be_bytes w16 p ++ to_be_bytes w16 q), two) where
  two : length (to_be_bytes w16 p ++ to_be_bytes w16 q) ≡ 4
  two = refl

ends_are : (ip : Ip) (source destination : List ℕ) (p q : ℕ) → length source ≡ address_len ip → length destination ≡ address_len ip
    → length (source ++ (destination ++ (to_be_bytes w16 p ++ to_be_bytes w16 q))) ≡ block_len ip
ends_are V4 source destination p q ls ld = four source destination p q 4 ls ld
ends_are V6 source destination p q ls ld = four source destination p q 16 ls ld

-- The source's address and port stand in the block of addresses where they are looked for.
source_port_is : (source destination : List ℕ) (p q n : ℕ) → length source ≡ n → length destination ≡ n → p < 2 ^ 16
    → port_at (source ++ (destination ++ (to_be_bytes w16 p ++ to_be_bytes w16 q))) (n + n) ≡ p
source_port_is source destination p q n ls ld fits =
    let joined : (source ++ destination) ++ (to_be_bytes w16 p ++ to_be_bytes w16 q) ≡ source ++ (destination ++ (to_be_bytes w16 p ++ to_be_bytes w16 q)) = append_assoc source destination (to_be_bytes w16 p ++ to_be_bytes w16 q) in
    ap (λ (block : List ℕ). port_at block (n + n)) (sym joined) ∙ port_behind (source ++ destination) p (to_be_bytes w16 q) (n + n) (omega (arith, ls, ld, length-append source destination)) fits

source_is : (ip : Ip) (source destination : List ℕ) (p q : ℕ) → length source ≡ address_len ip → length destination ≡ address_len ip → p < 2 ^ 16
    → origin_in ip (source ++ (destination ++ (to_be_bytes w16 p ++ to_be_bytes w16 q))) ≡ source_of ip source p
source_is V4 source destination p q ls ld fits =
    ap (λ (a : List ℕ). source_of V4 a (port_at (source ++ (destination ++ (to_be_bytes w16 p ++ to_be_bytes w16 q))) 8)) (take_at source (destination ++ (to_be_bytes w16 p ++ to_be_bytes w16 q)) 4 ls)
    ∙ ap (λ (port : ℕ). source_of V4 source port) (source_port_is source destination p q 4 ls ld fits)
source_is V6 source destination p q ls ld fits =
    ap (λ (a : List ℕ). source_of V6 a (port_at (source ++ (destination ++ (to_be_bytes w16 p ++ to_be_bytes w16 q))) 32)) (take_at source (destination ++ (to_be_bytes w16 p ++ to_be_bytes w16 q)) 16 ls)
    ∙ ap (λ (port : ℕ). source_of V6 source port) (source_port_is source destination p q 16 ls ld fits)

family_means : (ip : Ip) → (is_family (family_of ip) ≡ true) × (told (family_of ip) ≡ Some ip)
family_means V4 = (refl, refl)
family_means V6 = (refl, refl)

block_is_long : (ip : Ip) (count rest : ℕ) → count ≡ block_len ip + rest → block (Some ip) count ≡ addresses ip rest
block_is_long ip count rest e =
    let long : nat_lt count (block_len ip) ≡ false = grind (arith, nat_tests) in
    let left : count - block_len ip ≡ rest = omega arith in
    ap (λ yes. if yes then refused why.Length else addresses ip (count - block_len ip)) long ∙ ap (addresses ip) left

pub proxied_is_read : (ends : Ends) (fields : List ℕ) → AreEnds ends → length (ends_bytes ends ++ fields) < 2 ^ 16
    → Spells header (header_bytes 0x21 (family_of ends.ip) (ends_bytes ends ++ fields)) (Ok (source_of ends.ip ends.source ends.source_port))
proxied_is_read ends fields are fits =
    let x : Answer = Ok (source_of ends.ip ends.source ends.source_port) in
    let len : length (ends_bytes ends) ≡ block_len ends.ip = ends_are ends.ip ends.source ends.destination ends.source_port ends.destination_port are.source are.destination in
    let origin : origin_in ends.ip (ends_bytes ends) ≡ source_of ends.ip ends.source ends.source_port = source_is ends.ip ends.source ends.destination ends.source_port ends.destination_port are.source are.destination are.source_port in
    let past : Spells (read_past (length fields) (origin_in ends.ip (ends_bytes ends))) fields x = subst (λ (o : Origin). Spells (read_past (length fields) o) fields x) (sym origin) (spells_past fields (source_of ends.ip ends.source ends.source_port)) in
    let all : Spells (addresses ends.ip (length fields)) (ends_bytes ends ++ fields) x =
    spells_bind (bytes (block_len ends.ip)) (λ b. read_past (length fields) (origin_in ends.ip b)) (ends_bytes ends) fields (ends_bytes ends) x (spells_bytes_of (block_len ends.ip) (ends_bytes ends) len) past in
    let long : block (Some ends.ip) (length (ends_bytes ends ++ fields)) ≡ addresses ends.ip (length fields) = block_is_long ends.ip (length (ends_bytes ends ++ fields)) (length fields) (omega (arith, len, length-append (ends_bytes ends) fields)) in
    proxy_is_read (family_of ends.ip) (ends_bytes ends ++ fields) (Some ends.ip) x (family_means ends.ip).0 (family_means ends.ip).1 fits
    (subst (λ (r : Reading Answer). Spells r (ends_bytes ends ++ fields) x) (sym long) all)

pub all_headers_are_read : HeadersAreRead
all_headers_are_read = record { proxied = proxied_is_read; untold = untold_is_read; local = local_is_read }
