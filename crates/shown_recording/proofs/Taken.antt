-- What a player takes of a recorder's file begins what the recorder was given.
use Rattle.std.proofs.Common.{◌≡◌, ℕ, Bool, true, false, cond, List, [], ◌∷◌, ◌++◌, Option, Some, None, refl, sym, ap, ◌∙◌}
use Rattle.std.specs.Prelude.{is_some}
use Rattle.recording.specs.Recording.{Block, said_in}
use Rattle.recording.specs.BlockReading.{blocks_from, blocks_in, rest_of}
use Rattle.recording.specs.Waiting.{stamp}
use Rattle.recording.proofs.ReadBack.{in_pieces}
use Rattle.recording.proofs.Recorded.{said_append}
use Rattle.reflect_core.specs.Sequential.{Begins}
use Rattle.record_link.specs.Growing.{Growing, IsKept, recorded_in}
use Rattle.playback.specs.Heard.{bytes_of, greeting, heard_in, heard_of, is_later, said_by, up_to}
use Rattle.playback.specs.Playing.{IsAtPlace, IsPlayed, Played, heard}
use Rattle.playback.specs.Reels.{first_in, first_of, later_of}
use Rattle.playback.proofs.Hearing.{bytes_append}
use Rattle.playback.proofs.Laws.{own_begins}
use Rattle.viewer_session.proofs.Parts.{begins_on}

-- ---- the blocks up to a time

cut_if : (late : Bool) (b : Block) (all early : List Block) → Begins early all → Begins (cond late [] (b ∷ early)) (b ∷ all)
cut_if true b all early k = (b ∷ all, refl)
cut_if false b all early k = (k.0, ap (λ (bs : List Block). b ∷ bs) k.1)

earlier : (until : Option ℕ) (blocks : List Block) → Begins (up_to until blocks) blocks
earlier until [] = ([], refl)
earlier until (b ∷ blocks) = cut_if (is_later until b) b blocks (up_to until blocks) (earlier until blocks)

said_begins : (some all : List Block) → Begins some all → Begins (said_in some) (said_in all)
said_begins some all k = (said_in k.0, ap said_in k.1 ∙ said_append some k.0)

said_earlier : (until : Option ℕ) (read : List ℕ) → Begins (said_by until read) (said_in (blocks_in read))
unfolding said_by
said_earlier until read = said_begins (up_to until (blocks_in read)) (blocks_in read) (earlier until (blocks_in read))

blocks_begin : (read file : List ℕ) → Begins read file → Begins (blocks_in read) (blocks_in file)
blocks_begin read file k = (blocks_from (rest_of read) k.0, ap blocks_in k.1 ∙ (in_pieces read k.0).0)

-- What was said up to a time in the first bytes of a file begins all that was recorded.
said_recorded : (g : Growing) (until : Option ℕ) (read : List ℕ) → IsKept g → Begins read g.tape.stored → Begins (said_by until read) (recorded_in g)
said_recorded g until read kept k =
    let here : List (ℕ × ℕ) = said_in (blocks_in read) in
    let there : List (ℕ × ℕ) = said_in (blocks_in g.tape.stored) in
    begins_on (said_by until read) there (recorded_in g) (begins_on (said_by until read) here there (said_earlier until read) (said_begins (blocks_in read) (blocks_in g.tape.stored) (blocks_begin read g.tape.stored k))) (said_in kept.later ++ stamp g.waiting.time g.waiting.said, kept.says)

bytes_begin : (some all : List (ℕ × ℕ)) → Begins some all → Begins (bytes_of some) (bytes_of all)
bytes_begin some all k = (bytes_of k.0, ap bytes_of k.1 ∙ bytes_append some k.0)

-- ---- what is taken of them

from_first : (is_behind : Bool) (key : Option ℕ) (start : ℕ) (before so_far : List ℕ) → key ≡ None → IsAtPlace is_behind key start → first_in is_behind before so_far ≡ so_far
from_first true key start before so_far none at = absurd (let both : None ≡ Some start = sym none ∙ at in cc)
from_first false key start before so_far none at = refl

heard_all : (until : Option ℕ) (key : Option ℕ) (first later : List ℕ) → key ≡ None → heard_of until (is_some key) first later ≡ heard_in (said_by until first)
heard_all until key first later none = ap (λ (o : Option ℕ). heard_of until (is_some o) first later) none

pub takes : (has_come : ℕ → Type 0) (p : Played) (g : Growing) (later : List ℕ) → IsPlayed has_come p → p.key ≡ None → IsKept g → Begins p.reel.so_far g.tape.stored → Begins (bytes_of (recorded_in g)) (greeting ++ later) → Begins p.taken (bytes_of (recorded_in g))
takes has_come p g later k none kept read opens =
    let said : List (ℕ × ℕ) = said_by p.until p.reel.so_far in
    let given : List ℕ = bytes_of (recorded_in g) in
    let is : heard p ≡ heard_in said =
    heard_all p.until p.key (first_of p.reel) (later_of p.reel) none ∙ ap (λ (xs : List ℕ). heard_in (said_by p.until xs)) (from_first p.reel.is_behind p.key p.reel.start p.reel.before p.reel.so_far none k.place) in
    let front : Begins p.taken (bytes_of (heard_in said)) =
    (bytes_of k.left, ap bytes_of (sym is ∙ sym k.heard) ∙ (bytes_append k.played k.left ∙ ap (λ (xs : List ℕ). xs ++ bytes_of k.left) (sym k.taken))) in
    let in_given : Begins (bytes_of said) given = bytes_begin said (recorded_in g) (said_recorded g p.until p.reel.so_far kept read) in
    let whole : Begins (bytes_of said) (greeting ++ later) = begins_on (bytes_of said) given (greeting ++ later) in_given opens in
    let own : Begins (bytes_of (heard_in said)) (bytes_of said) = own_begins said whole.0 later (sym whole.1) in
    begins_on p.taken (bytes_of said) given (begins_on p.taken (bytes_of (heard_in said)) (bytes_of said) front own) in_given
