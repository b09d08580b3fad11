-- What was taken of a recording once its link has ended. The law `endings_are_heard` is made of it.
use Rattle.std.proofs.Common.{◌≡◌, ◌⊎◌, inl, inr, ℕ, Bool, true, false, List, [], ◌++◌, Option, None, Some, sym, ap, subst, ◌∙◌}
use Rattle.std.specs.Prelude.{is_some}
use Rattle.std.specs.List.{list_any}
use Rattle.recording.specs.Recording.{Block, said_in}
use Rattle.recording.specs.BlockReading.{blocks_from, blocks_in, rest_of}
use Rattle.recording.proofs.ReadBack.{in_pieces}
use Rattle.playback.specs.Heard.{bytes_of, heard_in, heard_of, is_later, said_by, up_to}
use Rattle.playback.specs.Playing.{IsAtPlace, IsPlayed, IsPlayedOut, IsReadOf, Played}
use Rattle.playback.specs.Reels.{first_in, later_in, stream_in}
use Rattle.playback.proofs.Hearing.{up_to_any}

-- Where one of a file's first blocks is later, what is said by then is in those before it.
said_before : (until : Option ℕ) (front back : List ℕ) → list_any (is_later until) (blocks_in front) ≡ true → said_by until front ≡ said_by until (front ++ back)
unfolding said_by
said_before until front back any =
    let more : List Block = blocks_from (rest_of front) back in
    let all : blocks_in (front ++ back) ≡ blocks_in front ++ more = (in_pieces front back).0 in
    ap said_in (sym (ap (up_to until) all ∙ up_to_any until (blocks_in front) more any))

said_all : (is_all : ℕ → List ℕ → Type 0) (until : Option ℕ) (start : ℕ) (front back file : List ℕ) → start ≡ 0 → file ≡ front ++ back → (is_all 0 front → front ≡ file) → (is_all start front ⊎ (list_any (is_later until) (blocks_in front) ≡ true)) → said_by until front ≡ said_by until file
said_all is_all until start front back file begin parts whole (inl all) = ap (said_by until) (whole (subst (λ (n : ℕ). is_all n front) begin all))
said_all is_all until start front back file begin parts whole (inr any) = said_before until front back any ∙ ap (said_by until) (sym parts)

by_then : (is_all : ℕ → List ℕ → Type 0) (is_behind : Bool) (key until : Option ℕ) (start : ℕ) (taken before so_far back file : List ℕ) → key ≡ None → IsAtPlace is_behind key start
    → taken ≡ bytes_of (heard_of until (is_some key) (first_in is_behind before so_far) (later_in is_behind so_far)) → (is_all start so_far ⊎ (list_any (is_later until) (blocks_in (stream_in is_behind so_far)) ≡ true))
    → file ≡ so_far ++ back → (is_all 0 so_far → so_far ≡ file) → taken ≡ bytes_of (heard_in (said_by until file))
by_then is_all true key until start taken before so_far back file none at is why parts whole = absurd (let both : None ≡ Some start = sym none ∙ at in cc)
by_then is_all false key until start taken before so_far back file none at is why parts whole =
    let heard : taken ≡ bytes_of (heard_in (said_by until so_far)) = is ∙ ap (λ (o : Option ℕ). bytes_of (heard_of until (is_some o) so_far [])) none in
    heard ∙ ap (λ (xs : List (ℕ × ℕ)). bytes_of (heard_in xs)) (said_all is_all until start so_far back file at parts whole why)

pub all_by_then : (has_come : ℕ → Type 0) (is_all : ℕ → List ℕ → Type 0) (p : Played) (file : List ℕ) → IsPlayed has_come p → IsPlayedOut is_all p → IsReadOf is_all p file → p.taken ≡ bytes_of (heard_in (said_by p.until file))
all_by_then has_come is_all p file k out read =
    by_then is_all p.reel.is_behind p.key p.until p.reel.start p.taken p.reel.before p.reel.so_far read.rest file read.first k.place out.all out.why read.begins read.all
