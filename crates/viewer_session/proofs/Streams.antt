-- A viewer that reads its stream reads what its session cut. So a viewer sees what the promise says of its record.
use Rattle.std.proofs.Common.{◌≡◌, ℕ, zero, suc, ◌+◌, ◌≤◌, Bool, true, false, cond, List, [], ◌∷◌, ◌++◌, length, take, Option, Some, None, refl, ap, sym, ◌∙◌, subst, arith, append_assoc}
use Rattle.std.specs.Prelude.{nat_lt}
use Rattle.std.proofs.lemmas.List.{append-nil, take-append-le, take_all}
use Rattle.pixel_format.specs.PixelFormat.{PixelFormat, host_format}
use Rattle.byte_reading.specs.Reading.{Reading, Done, Faulty, Want, step, Spells}
use Rattle.raster.specs.declared.rect.Rect.{Rect}
use Rattle.raster.specs.declared.size.Size.{Size}
use Rattle.raster.specs.Update.{Paint, Resized, Update, Paints, Cut, bells, last_text, last_text_from, NumberedText}
use Rattle.raster.specs.Update as update
use Rattle.raster.proofs.Spellings.{Each}
use Rattle.viewer_session.specs.declared.form.AnswerForm.{AnswerForm}
use Rattle.rfb_wire.specs.ClientMessage.{ClientMessage, SetPixelFormat, SetEncodings, Ask, Key, Pointer, CutText, LostText, longest_text}
use Rattle.rfb_wire.specs.ServerMessage as server
use Rattle.rfb_wire.specs.ServerMessage.{ServerMessage, FramebufferUpdate, Bell, ServerCutText, server_message}
use Rattle.rfb_wire.specs.Texts.{BringsShortText}
use Rattle.rfb_wire.specs.Writing.{bell_bytes, server_text_bytes, size_bytes}
use Rattle.rfb_wire.proofs.Messages.{text_is_kept}
use Rattle.update_encoder.specs.Follower.{Follower, follower, unknown, after_message}
use Rattle.update_encoder.proofs.AnswerLaws.{spells_only}
use Rattle.viewer_session.specs.Record.{Entry, Took, Saw, MadeCut, Began, ToldSize, NumbersUpTo, received}
use Rattle.viewer_session.specs.Turn.{bell_at, text_at, newer_text, size_at, size_or_update, told_at, update_at, update_part, began_at, record_after_cut, sent_at, news_since}
use Rattle.viewer_session.specs.Stream.{Heard, Format, Bytes, news_at, heard, stream_of, Listener, between, after_step, hears_bytes, hears, listener_from, bell_told, newer_told, text_told, IsHeard}
use Rattle.viewer_session.proofs.Stands.{AllAnswered, follows_format, follows_answer, follows_size, follower_format}

-- ---- lists of what is heard

pub stream-append : (xs ys : List Heard) → stream_of (xs ++ ys) ≡ stream_of xs ++ stream_of ys
stream-append [] ys = refl
stream-append (Format format ∷ xs) ys = stream-append xs ys
stream-append (Bytes bytes ∷ xs) ys = ap (λ t. bytes ++ t) (stream-append xs ys) ∙ sym (append_assoc bytes (stream_of xs) (stream_of ys))

pub stream-bytes : (xs : List Heard) (bytes : List ℕ) → stream_of (xs ++ Bytes bytes ∷ []) ≡ stream_of xs ++ bytes
stream-bytes xs bytes = stream-append xs (Bytes bytes ∷ []) ∙ ap (λ t. stream_of xs ++ t) (append-nil bytes)

pub listener-push : (w h : ℕ) (l : Listener) (xs : List Heard) (x : Heard) → listener_from w h l (xs ++ x ∷ []) ≡ hears w h (listener_from w h l xs) x
listener-push w h l [] x = refl
listener-push w h l (y ∷ xs) x = listener-push w h (hears w h l y) xs x

hears-append : (w h : ℕ) (l : Listener) (xs ys : List ℕ) → hears_bytes w h l (xs ++ ys) ≡ hears_bytes w h (hears_bytes w h l xs) ys
hears-append w h l [] ys = refl
hears-append w h l (b ∷ xs) ys = hears-append w h (after_step w h l (step l.reading b)) xs ys

-- ---- messages

hears_rest : (w h : ℕ) (l : Listener) (r : Reading ServerMessage) (bs : List ℕ) (m : ServerMessage) → Spells r bs m → hears_bytes w h (after_step w h l r) bs ≡ after_step w h l (Done m)
hears_rest w h l (Done x) [] m k = let s = k.says in let e : x ≡ m = cc in ap (λ n. after_step w h l (Done n)) e
hears_rest w h l (Done x) (b ∷ bs) m k = absurd (omega (arith, k.whole))
hears_rest w h l (Faulty fault) [] m k = let s = k.says in absurd cc
hears_rest w h l (Faulty fault) (b ∷ bs) m k = absurd (omega (arith, k.whole))
hears_rest w h l (Want more) [] m k = let s = k.says in absurd cc
hears_rest w h l (Want more) (b ∷ bs) m k = hears_rest w h (record l { reading = Want more }) (more b) bs m (record { whole = omega (arith, k.whole); says = k.says })

-- A message in the format that holds is read whole.
hears_message : (w h : ℕ) (f : Follower) (ms : List ServerMessage) (bs : List ℕ) (m : ServerMessage) → Spells (server_message f.format w h) bs m
    → hears_bytes w h (between w h f ms) bs ≡ between w h (record { format = f.format; held = after_message f.held (Some m) }) (ms ++ m ∷ [])
hears_message w h f ms bs m k = hears_rest w h (between w h f ms) (server_message f.format w h) bs m k

hears_bell_if : (w h : ℕ) (f : Follower) (ms : List ServerMessage) (b : Bool) → hears_bytes w h (between w h f ms) (cond b bell_bytes []) ≡ between w h f (ms ++ cond b (Bell ∷ []) [])
hears_bell_if w h f ms true = hears_message w h f ms bell_bytes Bell (record { whole = refl; says = refl })
hears_bell_if w h f ms false = ap (between w h f) (sym (append-nil ms))

hears_bell : (w h : ℕ) (f : Follower) (ms : List ServerMessage) (us : List Update) (o : Option ℕ) → hears_bytes w h (between w h f ms) (bell_at us o) ≡ between w h f (ms ++ bell_told us o)
hears_bell w h f ms us None = ap (between w h f) (sym (append-nil ms))
hears_bell w h f ms us (Some number) = hears_bell_if w h f ms (nat_lt (bells (take number us)) (bells us))

pub spells_server_text : (format : PixelFormat) (w h : ℕ) (text : List ℕ) → length text ≤ longest_text → Spells (server_message format w h) (server_text_bytes text) (ServerCutText text)
spells_server_text format w h text short = let said = text_is_kept ServerCutText server.LostText text short in record { whole = ap suc said.whole; says = said.says }

hears_text_if : (w h : ℕ) (f : Follower) (ms : List ServerMessage) (b : Bool) (text : List ℕ) → length text ≤ longest_text
    → hears_bytes w h (between w h f ms) (cond b (server_text_bytes text) []) ≡ between w h f (ms ++ cond b (ServerCutText text ∷ []) [])
hears_text_if w h f ms true text short = hears_message w h f ms (server_text_bytes text) (ServerCutText text) (spells_server_text f.format w h text short)
hears_text_if w h f ms false text short = ap (between w h f) (sym (append-nil ms))

-- A text that is there is short.
abbrev pub IsShort : Option NumberedText → Type 0
IsShort None = Unit {0}
IsShort (Some last) = length last.text ≤ longest_text

pub last_short : (last : Option NumberedText) (next : ℕ) (us : List Update) → IsShort last → Each BringsShortText us → IsShort (last_text_from last next us)
last_short last next [] k l = k
last_short last next (Paints size ps ∷ us) k l = last_short last (next + 1) us k l.1
last_short last next (update.Bell ∷ us) k l = last_short last (next + 1) us k l.1
last_short last next (Cut text ∷ us) k l = last_short (Some (record { text = text; number = next })) (next + 1) us l.0 l.1

hears_newer : (w h : ℕ) (f : Follower) (ms : List ServerMessage) (number : ℕ) (o : Option NumberedText) → IsShort o → hears_bytes w h (between w h f ms) (newer_text number o) ≡ between w h f (ms ++ newer_told number o)
hears_newer w h f ms number None k = ap (between w h f) (sym (append-nil ms))
hears_newer w h f ms number (Some last) k = hears_text_if w h f ms (nat_lt number last.number) last.text k

hears_text : (w h : ℕ) (f : Follower) (ms : List ServerMessage) (us : List Update) (o : Option ℕ) → Each BringsShortText us → hears_bytes w h (between w h f ms) (text_at us o) ≡ between w h f (ms ++ text_told us o)
hears_text w h f ms us None k = ap (between w h f) (sym (append-nil ms))
hears_text w h f ms us (Some number) k = hears_newer w h f ms number (last_text us) (last_short None 1 us tt k)

hears_news : (w h : ℕ) (f : Follower) (ms : List ServerMessage) (us : List Update) (o : Option ℕ) → Each BringsShortText us
    → hears_bytes w h (between w h f ms) (news_at us o) ≡ between w h f ((ms ++ bell_told us o) ++ text_told us o)
hears_news w h f ms us o k =
    hears-append w h (between w h f ms) (bell_at us o) (text_at us o)
    ∙ (ap (λ l. hears_bytes w h l (text_at us o)) (hears_bell w h f ms us o) ∙ hears_text w h f (ms ++ bell_told us o) us o k)

-- ---- a record

abbrev with_message : Follower → Option ServerMessage → Follower
with_message f o = record { format = f.format; held = after_message f.held o }

-- What is so of each of a list is so of each of the first n.
pub each_take : {A : Type 0} (P : A → Type 0) (n : ℕ) (xs : List A) → Each P xs → Each P (take n xs)
each_take P zero xs k = tt
each_take P (suc n) [] k = tt
each_take P (suc n) (x ∷ xs) k = (k.0, each_take P n xs k.1)

abbrev start : ℕ → ℕ → Listener
start w h = between w h (record { format = host_format; held = unknown }) []

pub is_heard : (w h : ℕ) (us : List Update) (es : List Entry) → Each BringsShortText us → AllAnswered w h us es → IsHeard w h us es
is_heard w h us [] short k = ([], refl, refl)
is_heard w h us (Took (SetPixelFormat format) ∷ es) short k =
    let before = is_heard w h us es short k in (
      before.0,
      before.1,
      listener-push w h (start w h) (heard w h us es) (Format format) ∙ (ap (λ l. hears w h l (Format format)) before.2 ∙ ap (λ f. between w h f before.0) (sym (follows_format w h format es))),
    )
is_heard w h us (Took (SetEncodings choice) ∷ es) short k = is_heard w h us es short k
is_heard w h us (Took (Ask incremental area) ∷ es) short k = is_heard w h us es short k
is_heard w h us (Took (Key down key) ∷ es) short k = is_heard w h us es short k
is_heard w h us (Took (Pointer mask x y) ∷ es) short k = is_heard w h us es short k
is_heard w h us (Took (CutText text) ∷ es) short k = is_heard w h us es short k
is_heard w h us (Took (LostText len) ∷ es) short k = is_heard w h us es short k
is_heard w h us (Saw number ∷ es) short k = is_heard w h us es short k
is_heard w h us (MadeCut number ∷ es) short k =
    let before = is_heard w h us es short k in
    let now : List Update = take number us in
    let last : Option ℕ = news_since w h es in (
      (before.0 ++ bell_told now last) ++ text_told now last,
      (before.0, before.1, refl),
      listener-push w h (start w h) (heard w h us es) (Bytes (news_at now last))
          ∙ (ap (λ l. hears_bytes w h l (news_at now last)) before.2 ∙ hears_news w h (follower w h (received es)) before.0 now last (each_take BringsShortText number us short)),
    )
is_heard w h us (Began area number bytes ∷ es) short k =
    let before = is_heard w h us es short k.1 in
    let f : Follower = follower w h (received es) in
    let message : ServerMessage = FramebufferUpdate k.0.message.0 in
    let spelled : Spells (server_message f.format w h) bytes message = subst (λ format. Spells (server_message format w h) bytes message) (sym (follower_format w h es)) k.0.message.1 in
    let followed : follower w h (received (Began area number bytes ∷ es)) ≡ record { format = f.format; held = after_message f.held (Some message) } =
    follows_answer w h area number bytes es ∙ ap (λ o. with_message f o) (spells_only f.format w h bytes message spelled) in (
      before.0 ++ message ∷ [],
      (before.0, k.0.message.0, before.1, k.0.message.1, refl),
      listener-push w h (start w h) (heard w h us es) (Bytes bytes)
          ∙ (ap (λ l. hears_bytes w h l bytes) before.2 ∙ (hears_message w h f before.0 bytes message spelled ∙ ap (λ g. between w h g (before.0 ++ message ∷ [])) (sym followed))),
    )
is_heard w h us (ToldSize size number bytes ∷ es) short k =
    let before = is_heard w h us es short k.1 in
    let f : Follower = follower w h (received es) in
    let message : ServerMessage = FramebufferUpdate (Resized size ∷ []) in
    let spelled : Spells (server_message f.format w h) bytes message = subst (λ format. Spells (server_message format w h) bytes message) (sym (follower_format w h es)) k.0 in
    let followed : follower w h (received (ToldSize size number bytes ∷ es)) ≡ record { format = f.format; held = after_message f.held (Some message) } =
    follows_size w h size number bytes es ∙ ap (λ o. with_message f o) (spells_only f.format w h bytes message spelled) in (
      before.0 ++ message ∷ [],
      (before.0, before.1, k.0, refl),
      listener-push w h (start w h) (heard w h us es) (Bytes bytes)
          ∙ (ap (λ l. hears_bytes w h l bytes) before.2 ∙ (hears_message w h f before.0 bytes message spelled ∙ ap (λ g. between w h g (before.0 ++ message ∷ [])) (sym followed))),
    )

-- ---- the stream

-- What is put later changes nothing of what has come.
pub heard_more : (w h : ℕ) (us : List Update) (u : Update) (es : List Entry) → NumbersUpTo (length us) es → heard w h (us ++ u ∷ []) es ≡ heard w h us es
heard_more w h us u [] k = refl
heard_more w h us u (Took (SetPixelFormat format) ∷ es) k = ap (λ t. t ++ Format format ∷ []) (heard_more w h us u es k)
heard_more w h us u (Took (SetEncodings choice) ∷ es) k = heard_more w h us u es k
heard_more w h us u (Took (Ask incremental area) ∷ es) k = heard_more w h us u es k
heard_more w h us u (Took (Key down key) ∷ es) k = heard_more w h us u es k
heard_more w h us u (Took (Pointer mask x y) ∷ es) k = heard_more w h us u es k
heard_more w h us u (Took (CutText text) ∷ es) k = heard_more w h us u es k
heard_more w h us u (Took (LostText len) ∷ es) k = heard_more w h us u es k
heard_more w h us u (Saw number ∷ es) k = heard_more w h us u es k.1
heard_more w h us u (MadeCut number ∷ es) k =
    ap (λ t. t ++ Bytes (news_at (take number (us ++ u ∷ [])) (news_since w h es)) ∷ []) (heard_more w h us u es k.1)
    ∙ ap (λ now. heard w h us es ++ Bytes (news_at now (news_since w h es)) ∷ []) (take-append-le number us (u ∷ []) k.0)
heard_more w h us u (Began area number bytes ∷ es) k = ap (λ t. t ++ Bytes bytes ∷ []) (heard_more w h us u es k.1)
heard_more w h us u (ToldSize size number bytes ∷ es) k = ap (λ t. t ++ Bytes bytes ∷ []) (heard_more w h us u es k.1)

one_more : (xs all : List Heard) (x : Heard) → (more : List Heard) × (all ≡ xs ++ more) → (more : List Heard) × (all ++ x ∷ [] ≡ xs ++ more)
one_more xs all x k = (k.0 ++ x ∷ [], ap (λ t. t ++ x ∷ []) k.1 ∙ append_assoc xs k.0 (x ∷ []))

-- What came of the earlier entries begins what came of all.
pub heard_begins : (w h : ℕ) (us : List Update) (later earlier : List Entry) → (more : List Heard) × (heard w h us (later ++ earlier) ≡ heard w h us earlier ++ more)
heard_begins w h us [] earlier = ([], sym (append-nil (heard w h us earlier)))
heard_begins w h us (Took (SetPixelFormat format) ∷ later) earlier = one_more (heard w h us earlier) (heard w h us (later ++ earlier)) (Format format) (heard_begins w h us later earlier)
heard_begins w h us (Took (SetEncodings choice) ∷ later) earlier = heard_begins w h us later earlier
heard_begins w h us (Took (Ask incremental area) ∷ later) earlier = heard_begins w h us later earlier
heard_begins w h us (Took (Key down key) ∷ later) earlier = heard_begins w h us later earlier
heard_begins w h us (Took (Pointer mask x y) ∷ later) earlier = heard_begins w h us later earlier
heard_begins w h us (Took (CutText text) ∷ later) earlier = heard_begins w h us later earlier
heard_begins w h us (Took (LostText len) ∷ later) earlier = heard_begins w h us later earlier
heard_begins w h us (Saw number ∷ later) earlier = heard_begins w h us later earlier
heard_begins w h us (MadeCut number ∷ later) earlier =
    one_more (heard w h us earlier) (heard w h us (later ++ earlier)) (Bytes (news_at (take number us) (news_since w h (later ++ earlier)))) (heard_begins w h us later earlier)
heard_begins w h us (Began area number bytes ∷ later) earlier = one_more (heard w h us earlier) (heard w h us (later ++ earlier)) (Bytes bytes) (heard_begins w h us later earlier)
heard_begins w h us (ToldSize size number bytes ∷ later) earlier = one_more (heard w h us earlier) (heard w h us (later ++ earlier)) (Bytes bytes) (heard_begins w h us later earlier)

-- A message that is taken sends nothing.
pub stream_took : (w h : ℕ) (us : List Update) (m : ClientMessage) (es : List Entry) → stream_of (heard w h us (Took m ∷ es)) ≡ stream_of (heard w h us es)
stream_took w h us (SetPixelFormat format) es = stream-append (heard w h us es) (Format format ∷ []) ∙ append-nil (stream_of (heard w h us es))
stream_took w h us (SetEncodings choice) es = refl
stream_took w h us (Ask incremental area) es = refl
stream_took w h us (Key down key) es = refl
stream_took w h us (Pointer mask x y) es = refl
stream_took w h us (CutText text) es = refl
stream_took w h us (LostText len) es = refl

stream_cut : (w h : ℕ) (us : List Update) (es : List Entry) → stream_of (heard w h us (MadeCut (length us) ∷ es)) ≡ stream_of (heard w h us es) ++ news_at us (news_since w h es)
stream_cut w h us es =
    stream-bytes (heard w h us es) (news_at (take (length us) us) (news_since w h es))
    ∙ ap (λ now. stream_of (heard w h us es) ++ news_at now (news_since w h es)) (take_all (length us) us (omega arith))

stream_began : (w h : ℕ) (us : List Update) (es : List Entry) (o : Option (Rect × List ℕ))
    → stream_of (heard w h us (began_at (length us) o (MadeCut (length us) ∷ es))) ≡ stream_of (heard w h us es) ++ (news_at us (news_since w h es) ++ update_part o)
stream_began w h us es None = stream_cut w h us es ∙ ap (λ t. stream_of (heard w h us es) ++ t) (sym (append-nil (news_at us (news_since w h es))))
stream_began w h us es (Some found) =
    stream-bytes (heard w h us (MadeCut (length us) ∷ es)) found.1
    ∙ (ap (λ t. t ++ found.1) (stream_cut w h us es) ∙ append_assoc (stream_of (heard w h us es)) (news_at us (news_since w h es)) found.1)

stream_begun : (w h : ℕ) (us : List Update) (es : List Entry) (size : Option Size) (o : Option (Rect × List ℕ))
    → stream_of (heard w h us (told_at (length us) size o (MadeCut (length us) ∷ es))) ≡ stream_of (heard w h us es) ++ (news_at us (news_since w h es) ++ size_or_update size o)
stream_begun w h us es None o = stream_began w h us es o
stream_begun w h us es (Some size) o =
    stream-bytes (heard w h us (MadeCut (length us) ∷ es)) (size_bytes size)
    ∙ (ap (λ t. t ++ size_bytes size) (stream_cut w h us es) ∙ append_assoc (stream_of (heard w h us es)) (news_at us (news_since w h es)) (size_bytes size))

-- A cut sends what its record comes to.
pub stream_after_cut : (form : AnswerForm) (w h : ℕ) (host : Option Size) (us : List Update) (es : List Entry) → stream_of (heard w h us (record_after_cut form w h host es us)) ≡ stream_of (heard w h us es) ++ sent_at form w h host es us
stream_after_cut form w h host us es = stream_begun w h us es (size_at w h host es us) (update_at form w h es us)
