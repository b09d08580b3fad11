-- What a player hears of what was said in a recording (own).
use Rattle.std.specs.Prelude.{ℕ, Bool, true, false, nat_lt, if◌then◌else◌, List, [], ◌∷◌, ◌++◌, take, drop, map, Option, Some, None, Ok, Err}
use Rattle.byte_reading.specs.Reading.{Reading, Done, Faulty, Want, after, taken}
use Rattle.recording.specs.Recording.{Block, line, said_in}
use Rattle.recording.specs.Waiting.{stamp}
use Rattle.recording.specs.BlockReading.{blocks_in}
use Rattle.rfb_wire.specs.Handshake.{Joined, host_hello}
use Rattle.playback.specs.Opening.{Opened, version, opening}

-- Bytes without their times.
abbrev pub bytes_of : List (ℕ × ℕ) → List ℕ
bytes_of timed = map (λ b. b.0) timed

-- The time of the last of these bytes, which follow one of the time last.
abbrev pub end_time : ℕ → List (ℕ × ℕ) → ℕ
end_time last [] = last
end_time last (b ∷ bs) = end_time b.1 bs

-- What is heard in place of an opening: version 3.8, the one security type None, and SecurityResult 0.
abbrev pub greeting : List ℕ
greeting = version 8 ++ (1 ∷ 1 ∷ 0 ∷ 0 ∷ 0 ∷ 0 ∷ [])

-- Where an opening has `count` bytes, the greeting is heard at the time of the last of these, and then what was said
-- after the opening. Nothing is heard before the opening is whole, or where it isn't one of ours.
abbrev pub heard_by : Reading Opened → ℕ → List (ℕ × ℕ) → List (ℕ × ℕ)
heard_by (Done (Ok fine)) count said = stamp (end_time 0 (take count said)) greeting ++ drop count said
heard_by (Done (Err bad)) count said = []
heard_by (Faulty fault) count said = []
heard_by (Want more) count said = []

-- What is heard of what was said from the beginning on.
unfoldable pub heard_in : List (ℕ × ℕ) → List (ℕ × ℕ)
heard_in said = heard_by (after opening (bytes_of said)) (taken opening (bytes_of said)) said

-- ---- which blocks are played

-- The block is later than this time.
abbrev pub is_later : Option ℕ → Block → Bool
is_later None block = false
is_later (Some until) block = nat_lt until block.time

-- The blocks before the first that is later.
abbrev pub up_to : Option ℕ → List Block → List Block
up_to until [] = []
up_to until (block ∷ blocks) = if is_later until block then [] else block ∷ up_to until blocks

-- What is said in the blocks of these bytes of a file, up to this time.
unfoldable pub said_by : Option ℕ → List ℕ → List (ℕ × ℕ)
said_by until bytes = said_in (up_to until (blocks_in bytes))

-- ---- from a key moment on

-- The handshake, of version 3.8 (RFC 6143, 7.1 to 7.3), with which these bytes begin; where it isn't whole, or is at
-- fault, all of the bytes.
abbrev pub handshake_by : Reading Joined → ℕ → List (ℕ × ℕ) → List (ℕ × ℕ)
handshake_by (Done joined) count heard = take count heard
handshake_by (Faulty fault) count heard = heard
handshake_by (Want more) count heard = heard

unfoldable pub handshake_in : List (ℕ × ℕ) → List (ℕ × ℕ)
handshake_in heard = handshake_by (after (host_hello None) (bytes_of heard)) (taken (host_hello None) (bytes_of heard)) heard

-- What is heard of a file of which the bytes `first` were read from its beginning on. Where it is played from a key
-- moment on, the bytes `later` were read from the key moment's place on, and of the first bytes only the handshake is
-- heard.
abbrev pub heard_of : Option ℕ → (is_key : Bool) → (first later : List ℕ) → List (ℕ × ℕ)
heard_of until false first later = heard_in (said_by until first)
heard_of until true first later = handshake_in (heard_in (said_by until first)) ++ said_by until (line ++ later)
