-- What a writer is given is recorded: keeping and flushing lose nothing, and keep the order of times.
use Rattle.std.proofs.Common.{◌≡◌, ℕ, ◌-◌, ◌<◌, ◌≤◌, ◌^◌, ◌⊎◌, inl, inr, List, [], ◌∷◌, ◌++◌, length, refl, sym, ap, subst, ◌∙◌, arith, append_assoc, length-append}
use Rattle.std.proofs.lemmas.Bool.{cases_eq, eq-eqb, ne_eqb}
use Rattle.std.proofs.lemmas.List.{append-nil, map-append}
use Rattle.recording.specs.Recording.{Block, line, block_bytes, blocks_bytes, recording_bytes, AreBlocksAfter, last_time, said_in}
use Rattle.recording.specs.Waiting.{room, with_more, as_blocks, stamp, IsRecorded}
use Rattle.recording.specs.declared.form.TheConstants.{LONGEST_READ, LONGEST_WRITTEN}

pub said_append : (some others : List Block) → said_in (some ++ others) ≡ said_in some ++ said_in others
said_append [] others = refl
said_append (b ∷ some) others = ap (λ t. stamp b.time b.said ++ t) (said_append some others) ∙ sym (append_assoc (stamp b.time b.said) (said_in some) (said_in others))

-- A block more, at the end.
blocks_more : (last : ℕ) (blocks : List Block) (b : Block) → AreBlocksAfter last blocks → length b.said ≤ LONGEST_READ → last_time last blocks ≤ b.time → b.time < 2 ^ 32 → AreBlocksAfter last (blocks ++ b ∷ [])
blocks_more last [] b h short le lt = (short, le, lt, tt)
blocks_more last (a ∷ blocks) b h short le lt = (h.0, h.1, h.2, blocks_more a.time blocks b h.3 short le lt)

last_more : (last : ℕ) (blocks : List Block) (b : Block) → last_time last (blocks ++ b ∷ []) ≡ b.time
last_more last [] b = refl
last_more last (a ∷ blocks) b = last_more a.time blocks b

-- ---- flushing

flush_some : (blocks : List Block) (waiting : Block) (given : List (ℕ × ℕ)) → IsRecorded blocks waiting given → IsRecorded (blocks ++ waiting ∷ []) (record { said = []; time = waiting.time }) given
flush_some blocks waiting given h =
    record {
      in_order = blocks_more 0 blocks waiting h.in_order (omega (arith, h.short)) h.follows h.fits;
      follows = omega (arith, last_more 0 blocks waiting);
      fits = h.fits;
      short = omega arith;
      said = append-nil (said_in (blocks ++ waiting ∷ [])) ∙ (said_append blocks (waiting ∷ []) ∙ (ap (λ t. said_in blocks ++ t) (append-nil (stamp waiting.time waiting.said)) ∙ h.said));
    }

flush_none : (blocks : List Block) (waiting : Block) (given : List (ℕ × ℕ)) (said : List ℕ) → said ≡ waiting.said → length said ≡ 0 → IsRecorded blocks waiting given → IsRecorded (blocks ++ []) (record { said = []; time = waiting.time }) given
flush_none blocks waiting given [] is none h =
    let same : (record { said = []; time = waiting.time }) ≡ waiting = ap (λ (s : List ℕ). record { said = s; time = waiting.time }) is in
    subst (λ (bs : List Block). IsRecorded bs (record { said = []; time = waiting.time }) given) (sym (append-nil blocks)) (subst (λ (w : Block). IsRecorded blocks w given) (sym same) h)
flush_none blocks waiting given (s ∷ said) is none h = absurd (omega arith)

pub flush_keeps : (blocks : List Block) (waiting : Block) (given : List (ℕ × ℕ)) → IsRecorded blocks waiting given → IsRecorded (blocks ++ as_blocks waiting) (record { said = []; time = waiting.time }) given
flush_keeps blocks waiting given h =
    elim (cases_eq (length waiting.said) 0) [
      | inl none ↦ rw (eq-eqb (length waiting.said) 0 none) (flush_none blocks waiting given waiting.said refl none h)
      | inr some ↦ rw (ne_eqb (length waiting.said) 0 some) (flush_some blocks waiting given h)
    ]

-- ---- keeping

-- A byte can be kept only where nothing waits, or where what waits came at the same time.
room_says : (waiting : Block) (time : ℕ) → 0 < room waiting time → ((length waiting.said ≡ 0) ⊎ (waiting.time ≡ time)) × (room waiting time ≡ LONGEST_WRITTEN - length waiting.said)
room_says waiting time some =
    elim (cases_eq (length waiting.said) 0) [
      | inl none ↦ (inl none, rw (eq-eqb (length waiting.said) 0 none) refl)
      | inr waits ↦
          elim (cases_eq waiting.time time) [
            | inl same ↦ (inr same, rw (ne_eqb (length waiting.said) 0 waits, eq-eqb waiting.time time same) refl)
            | inr other ↦
                let closed : room waiting time ≡ 0 = rw (ne_eqb (length waiting.said) 0 waits, ne_eqb waiting.time time other) refl in
                absurd (omega (arith, closed, some))
          ]
    ]

-- What waits has the time of what comes, if there is any.
restamp : (waiting : Block) (time : ℕ) (said : List ℕ) → said ≡ waiting.said → (length waiting.said ≡ 0) ⊎ (waiting.time ≡ time) → stamp time waiting.said ≡ stamp waiting.time waiting.said
restamp waiting time said is (inr same) = ap (λ (t : ℕ). stamp t waiting.said) (sym same)
restamp waiting time [] is (inl none) = ap (stamp time) (sym is) ∙ ap (stamp waiting.time) is
restamp waiting time (s ∷ said) is (inl none) = absurd (omega (arith, none, ap length is))

keep_some : (blocks : List Block) (waiting : Block) (given : List (ℕ × ℕ)) (time : ℕ) (bytes : List ℕ) → IsRecorded blocks waiting given → waiting.time ≤ time → time < 2 ^ 32 → 0 < length bytes → length bytes ≤ room waiting time
    → IsRecorded blocks (record { said = waiting.said ++ bytes; time = time }) (given ++ stamp time bytes)
keep_some blocks waiting given time bytes h le lt some fits =
    let says = room_says waiting time (omega (arith, some, fits)) in
    let joined : stamp time (waiting.said ++ bytes) ≡ stamp waiting.time waiting.said ++ stamp time bytes =
    map-append (λ byte. (byte, time)) waiting.said bytes ∙ ap (λ t. t ++ stamp time bytes) (restamp waiting time waiting.said refl says.0) in
    record {
      in_order = h.in_order;
      follows = omega (arith, h.follows, le);
      fits = lt;
      short = omega (arith, length-append waiting.said bytes, says.1, h.short, fits);
      said = ap (λ t. said_in blocks ++ t) joined ∙ (sym (append_assoc (said_in blocks) (stamp waiting.time waiting.said) (stamp time bytes)) ∙ ap (λ t. t ++ stamp time bytes) h.said);
    }

pub keep_keeps : (blocks : List Block) (waiting : Block) (given : List (ℕ × ℕ)) (time : ℕ) (bytes : List ℕ) → IsRecorded blocks waiting given → waiting.time ≤ time → time < 2 ^ 32 → length bytes ≤ room waiting time
    → IsRecorded blocks (with_more waiting time bytes) (given ++ stamp time bytes)
keep_keeps blocks waiting given time [] h le lt fits = rw append-nil h
keep_keeps blocks waiting given time (b ∷ bytes) h le lt fits = keep_some blocks waiting given time (b ∷ bytes) h le lt (omega arith) fits

-- ---- spelling

blocks_bytes_append : (some others : List Block) → blocks_bytes (some ++ others) ≡ blocks_bytes some ++ blocks_bytes others
blocks_bytes_append [] others = refl
blocks_bytes_append (b ∷ some) others = ap (λ t. block_bytes b ++ t) (blocks_bytes_append some others) ∙ sym (append_assoc (block_bytes b) (blocks_bytes some) (blocks_bytes others))

-- What is flushed is spelled behind what was spelled before.
pub spelled_behind : (some others : List Block) → recording_bytes (some ++ others) ≡ recording_bytes some ++ blocks_bytes others
unfolding recording_bytes
spelled_behind some others = ap (λ t. line ++ t) (blocks_bytes_append some others) ∙ sym (append_assoc line (blocks_bytes some) (blocks_bytes others))
