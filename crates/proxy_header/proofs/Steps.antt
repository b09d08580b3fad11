-- What a header becomes by one byte more, in each state of the reader.
use Rattle.std.proofs.Common.{◌≡◌, ℕ, ◌+◌, ◌<◌, true, false, List, [], ◌∷◌, ◌++◌, length, get_or, drop, drop-cons, refl, sym, ap, ◌∙◌, add-one, arith}
use Rattle.std.specs.Prelude.{◌==◌, if◌then◌else◌}
use Rattle.std.proofs.lemmas.Bool.Decides.{nat_tests}
use Rattle.byte_reading.specs.Reading.{Reading, step, after, wants_more}
use Rattle.byte_reading.proofs.Heads.{head_wants, head_full}
use Rattle.byte_reading.proofs.ReadingLaws.{after-append}
use Rattle.proxy_header.specs.Header.{Answer, refused, exactly, read_past, addresses, block_len, origin_in}
use Rattle.proxy_header.specs.declared.address.Ip.{Ip}
use Rattle.proxy_header.specs.declared.origin.Refusal.TheVariants as why

-- ---- bytes that have to stand there

pub exactly_wants : (xs : List ℕ) (rest : Reading Answer) → wants_more rest ≡ true → wants_more (exactly xs rest) ≡ true
exactly_wants [] rest w = w
exactly_wants (x ∷ xs) rest w = refl

same_byte : (a b : ℕ) → a ≡ b → (a == b) ≡ true
same_byte a b e = grind (arith, nat_tests)

other_byte : (a b : ℕ) → (a ≡ b → ⊥) → (a == b) ≡ false
other_byte a b e = grind (arith, nat_tests)

exactly_steps : (xs : List ℕ) (rest : Reading Answer) (n byte : ℕ) → n < length xs
    → step (exactly (drop n xs) rest) byte ≡ (if byte == get_or xs n 0 then exactly (drop (n + 1) xs) rest else refused why.Signature)
exactly_steps xs rest n byte lt = rw (add-one, drop-cons xs n 0 lt) refl

-- The very byte that has to stand there, and another.
pub exactly_right : (xs : List ℕ) (rest : Reading Answer) (n byte : ℕ) → n < length xs → byte ≡ get_or xs n 0 → exactly (drop (n + 1) xs) rest ≡ step (exactly (drop n xs) rest) byte
exactly_right xs rest n byte lt e = sym (exactly_steps xs rest n byte lt ∙ ap (λ yes. if yes then exactly (drop (n + 1) xs) rest else refused why.Signature) (same_byte byte (get_or xs n 0) e))

pub exactly_wrong : (xs : List ℕ) (rest : Reading Answer) (n byte : ℕ) → n < length xs → (byte ≡ get_or xs n 0 → ⊥) → refused why.Signature ≡ step (exactly (drop n xs) rest) byte
exactly_wrong xs rest n byte lt e = sym (exactly_steps xs rest n byte lt ∙ ap (λ yes. if yes then exactly (drop (n + 1) xs) rest else refused why.Signature) (other_byte byte (get_or xs n 0) e))

-- ---- a block of addresses

pub block_wants : (ip : Ip) (rest : ℕ) (begun : List ℕ) → length begun < block_len ip → wants_more (after (addresses ip rest) begun) ≡ true
block_wants ip rest begun lt = head_wants (block_len ip) (λ block. read_past rest (origin_in ip block)) begun lt

pub block_goes_on : (ip : Ip) (rest : ℕ) (begun : List ℕ) (byte : ℕ) → after (addresses ip rest) (begun ++ byte ∷ []) ≡ step (after (addresses ip rest) begun) byte
block_goes_on ip rest begun byte = after-append (addresses ip rest) begun (byte ∷ [])

pub block_ends : (ip : Ip) (rest : ℕ) (begun : List ℕ) (byte : ℕ) → length (begun ++ byte ∷ []) ≡ block_len ip
    → read_past rest (origin_in ip (begun ++ byte ∷ [])) ≡ step (after (addresses ip rest) begun) byte
block_ends ip rest begun byte e =
    sym (head_full (block_len ip) (λ block. read_past rest (origin_in ip block)) (begun ++ byte ∷ []) e) ∙ block_goes_on ip rest begun byte
