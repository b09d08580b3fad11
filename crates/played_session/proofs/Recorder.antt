-- What a recorder says, read by its session: full colour, encodings without ZRLE, and requests. The law
-- `recorders_are_for_recording` is made of it.
use Rattle.std.proofs.Common.{◌≡◌, ℕ, ◌+◌, ◌<◌, ◌≤◌, ◌^◌, Bool, true, false, cond, List, [], ◌∷◌, ◌++◌, length, take, Option, Some, None, refl, sym, ap, ◌∙◌, subst, arith, append_assoc, append-nil, length-append}
use Rattle.std.specs.Prelude.{is_some, option_to_list}
use Rattle.pixel_format.specs.PixelFormat.{host_format}
use Rattle.byte_reading.specs.Reading.{Reading, Done, Faulty, Want, Spells, ◌>>=◌, step, after, fault_of, finished, renewed, wants_more, whole_of}
use Rattle.byte_reading.proofs.ReadingLaws.{after-append, after-done, done_from, done_is}
use Rattle.raster.specs.declared.rect.Rect.{Rect}
use Rattle.raster.specs.declared.size.Size.{Size}
use Rattle.raster.specs.Screen as screen
use Rattle.raster.specs.Update.{Update}
use Rattle.raster.proofs.Spellings.{Each}
use Rattle.rfb_wire.specs.ClientMessage.{ClientMessage, SetPixelFormat, SetEncodings, Ask, Key, Pointer, CutText, LostText, choice_of, client_message}
use Rattle.rfb_wire.specs.Handshake.{Joined, answer_to, asked_in, chosen_in, host_hello, host_version, is_past, said_to_host, security, security_result, version, viewer_hello}
use Rattle.rfb_wire.specs.Writing.{request_bytes, set_encodings_bytes, set_pixel_format_bytes}
use Rattle.rfb_wire.proofs.Greetings.{greeting_not_whole}
use Rattle.rfb_wire.proofs.Handshakes.{host_is_told}
use Rattle.rfb_wire.proofs.Messages.{set_encodings_is_read, set_pixel_format_is_read}
use Rattle.roles.specs.declared.role.Role.{Role}
use Rattle.roles.specs.declared.role.Role.TheVariants.{View, Full}
use Rattle.roles.specs.Allowed.{Input}
use Rattle.roles.specs.Held.{input_for}
use Rattle.reflect_core.specs.Sequential.{Begins}
use Rattle.link.proofs.Sizes.{joined_size, size_most}
use Rattle.record_link.specs.Talking.{requests_bytes, said_after, told_by_now, told_to, whole_screen}
use Rattle.viewer_session.specs.Acts.{Act, Cutting, Bytes, Turn, Written, Passed, after_turn, viewer_after}
use Rattle.viewer_session.specs.Record.{Entry, Took, Saw, MadeCut}
use Rattle.viewer_session.specs.Session.{with_marks}
use Rattle.viewer_session.specs.Turn.{size_at, told_at, update_at, with_chosen}
use Rattle.viewer_session.specs.Viewer.{Setup, Viewer, after_byte, after_bytes, after_hello, after_reading, marked, new_viewer, with_input, with_message, out_bytes}
use Rattle.viewer_server.specs.Serving.{bytes_in}
use Rattle.played_session.specs.Pictures.{AreForPictures, IsForPictures}
use Rattle.played_session.specs.Played.{AreForRecording, IsOpened}
use Rattle.played_session.specs.Recorder.{RecordersAreForRecording, RecordersAskForAll}
use Rattle.played_session.proofs.Greeted.{few_if}
use Rattle.played_session.proofs.Hello.{hellos_heard}
use Rattle.played_session.proofs.Pictures.{recording_of}

abbrev pub AsksAreRead : Type 0
AsksAreRead = (incremental : Bool) (area : Rect) → area.x + area.w < 2 ^ 16 → area.y + area.h < 2 ^ 16 → Spells client_message (request_bytes incremental area) (Ask incremental area)

module _ (w h : ℕ) where
  -- ---- what is still to be read

  -- A message of a recorder of a screen of w by h.
  abbrev IsRecorders : ClientMessage → Type 0
  IsRecorders (SetPixelFormat format) = format ≡ host_format
  IsRecorders (SetEncodings choice) = (choice.zrle ≡ false) × (choice.resizes ≡ false)
  IsRecorders (Ask incremental area) = area ≡ screen.whole_screen w h
  IsRecorders (Key down key) = ⊥
  IsRecorders (Pointer mask x y) = ⊥
  IsRecorders (CutText text) = ⊥
  IsRecorders (LostText len) = ⊥

  -- From here in the hello and in the messages after it these bytes are a recorder's.
  abbrev AreRecorders : Reading (Unit {0}) → Reading ClientMessage → List ℕ → Type 0
  AreRecorders (Faulty fault) reading bs = Unit {0}
  AreRecorders (Done x) reading [] = Unit {0}
  AreRecorders (Done x) reading (b ∷ bs) = Each IsRecorders (finished (step reading b)) × AreRecorders (Done x) (renewed client_message (step reading b)) bs
  AreRecorders (Want more) reading [] = Unit {0}
  AreRecorders (Want more) reading (b ∷ bs) = AreRecorders (more b) reading bs

  -- ---- what a recorder says

  after_hello_recorders : (hello : Reading (Unit {0})) (reading : Reading ClientMessage) (xs ys : List ℕ) → Spells hello xs tt → AreRecorders (Done tt) reading ys → AreRecorders hello reading (xs ++ ys)
  after_hello_recorders (Done x) reading [] ys k l = l
  after_hello_recorders (Done x) reading (b ∷ xs) ys k l = absurd (omega (arith, k.whole))
  after_hello_recorders (Faulty fault) reading xs ys k l = tt
  after_hello_recorders (Want more) reading [] ys k l = let says = k.says in absurd cc
  after_hello_recorders (Want more) reading (b ∷ xs) ys k l = after_hello_recorders (more b) reading xs ys (record { whole = omega (arith, k.whole); says = k.says }) l

  message_on : (now : Reading ClientMessage) (m : ClientMessage) (xs ys : List ℕ) → Spells now xs m → IsRecorders m → AreRecorders (Done tt) client_message ys
      → Each IsRecorders (finished now) × AreRecorders (Done tt) (renewed client_message now) (xs ++ ys)
  message_on (Done n) m [] ys k own l = let says = k.says in let same : m ≡ n = cc in ((subst IsRecorders same own, tt), l)
  message_on (Done n) m (b ∷ xs) ys k own l = absurd (omega (arith, k.whole))
  message_on (Faulty fault) m [] ys k own l = let says = k.says in absurd cc
  message_on (Faulty fault) m (b ∷ xs) ys k own l = absurd (omega (arith, k.whole))
  message_on (Want more) m [] ys k own l = let says = k.says in absurd cc
  message_on (Want more) m (b ∷ xs) ys k own l = (tt, message_on (more b) m xs ys (record { whole = omega (arith, k.whole); says = k.says }) own l)

  one_message : (m : ClientMessage) (xs ys : List ℕ) → Spells client_message xs m → IsRecorders m → AreRecorders (Done tt) client_message ys → AreRecorders (Done tt) client_message (xs ++ ys)
  one_message m xs ys k own l = (message_on client_message m xs ys k own l).1

  requests_are : AsksAreRead → (joined : Joined) (kinds : List Bool) → joined.w ≤ 4096 → joined.h ≤ 4096 → whole_screen joined ≡ screen.whole_screen w h → AreRecorders (Done tt) client_message (requests_bytes joined kinds)
  requests_are asks joined [] wide high all = tt
  requests_are asks joined (kind ∷ kinds) wide high all =
      one_message (Ask kind (whole_screen joined)) (request_bytes kind (whole_screen joined)) (requests_bytes joined kinds)
      (asks kind (whole_screen joined) (omega (arith, wide)) (omega (arith, high))) all (requests_are asks joined kinds wide high all)

  told_are : AsksAreRead → (joined : Joined) (kinds : List Bool) → joined.w ≤ 4096 → joined.h ≤ 4096 → whole_screen joined ≡ screen.whole_screen w h → AreRecorders (Done tt) client_message (told_to joined kinds)
  told_are asks joined [] wide high all = tt
  told_are asks joined (kind ∷ kinds) wide high all =
      let asked : List ℕ = requests_bytes joined (kind ∷ kinds) in
      let encodings : List ℕ = 5 ∷ 2 ∷ 0 ∷ [] in
      subst (AreRecorders (Done tt) client_message) (sym (append_assoc (set_pixel_format_bytes host_format) (set_encodings_bytes encodings) asked))
      (one_message (SetPixelFormat host_format) (set_pixel_format_bytes host_format) (set_encodings_bytes encodings ++ asked) (set_pixel_format_is_read host_format refl) refl
      (one_message (SetEncodings (choice_of encodings)) (set_encodings_bytes encodings) asked (set_encodings_is_read encodings (omega arith) (grind (arith))) (refl, refl) (requests_are asks joined (kind ∷ kinds) wide high all)))

  -- Where the handshake isn't whole it has said fourteen bytes at most, and no message.
  short_are : (begun xs : List ℕ) (reading : Reading ClientMessage) (hello : Reading (Unit {0})) → after viewer_hello begun ≡ hello → length begun + length xs ≤ 14 → AreRecorders hello reading xs
  short_are begun xs reading (Faulty fault) e le = tt
  short_are begun [] reading (Done x) e le = tt
  short_are begun (b ∷ xs) reading (Done x) e le =
      absurd (let open_ = greeting_not_whole begun (fault_of (after viewer_hello begun)) refl (omega (arith, le)) in let both : false ≡ true = open_ ∙ ap (λ r. is_some (whole_of r)) e in cc)
  short_are begun [] reading (Want more) e le = tt
  short_are begun (b ∷ xs) reading (Want more) e le =
      short_are (begun ++ b ∷ []) xs reading (more b) (after-append viewer_hello begun (b ∷ []) ∙ ap (λ r. step r b) e) (omega (arith, le, length-append begun (b ∷ [])))

  few_chosen : (o : Option ℕ) → length (option_to_list o) ≤ 1
  few_chosen None = omega arith
  few_chosen (Some kind) = omega arith

  none_answered : (asked : List ℕ) → length (answer_to asked None) ≡ 0
  none_answered [] = refl
  none_answered (first ∷ others) = refl

  few_in_all : (a b c d : List ℕ) → length a ≤ 12 → length b ≤ 1 → length c ≡ 0 → length d ≤ 1 → length (a ++ b ++ c ++ d) ≤ 14
  few_in_all a b c d la lb lc ld = omega (arith, length-append (a ++ b ++ c) d, length-append (a ++ b) c, length-append a b, la, lb, lc, ld)

  few_said : (heard : List ℕ) → length (said_to_host None heard) ≤ 14
  few_said heard =
      let shares : Bool = is_past (host_version >>= λ _. security None >>= λ _. security_result) heard in
      few_in_all (cond (is_past host_version heard) version []) (option_to_list (chosen_in None heard)) (answer_to (asked_in None heard) None) (cond shares (1 ∷ []) [])
      (few_if (is_past host_version heard) version) (few_chosen (chosen_in None heard)) (none_answered (asked_in None heard)) (few_if shares (1 ∷ []))

  -- The handshake that was heard, where it is whole, tells that size.
  abbrev pub HasSizeOf : List ℕ → Type 0
  HasSizeOf heard = (joined : Joined) → after (host_hello None) heard ≡ Done joined → whole_screen joined ≡ screen.whole_screen w h

  said_are_by : AsksAreRead → (kinds : List Bool) (heard : List ℕ) (o : Option Joined) → HasSizeOf heard → whole_of (after (host_hello None) heard) ≡ o
      → AreRecorders viewer_hello client_message (said_to_host None heard ++ told_by_now o kinds)
  said_are_by asks kinds heard None sized e =
      let few : length (said_to_host None heard) ≤ 14 = few_said heard in
      subst (AreRecorders viewer_hello client_message) (sym (append-nil (said_to_host None heard))) (short_are [] (said_to_host None heard) client_message viewer_hello refl (omega (arith, few)))
  said_are_by asks kinds heard (Some joined) sized e =
      let done : after (host_hello None) heard ≡ Done joined = done_from (after (host_hello None) heard) joined (sym e) in
      let size = joined_size None heard joined done in
      after_hello_recorders viewer_hello client_message (said_to_host None heard) (told_to joined kinds) (host_is_told heard joined done)
      (told_are asks joined kinds (size_most joined.w size.across) (size_most joined.h size.down) (sized joined done))

  said_are : AsksAreRead → (kinds : List Bool) (heard : List ℕ) → HasSizeOf heard → AreRecorders viewer_hello client_message (said_after kinds heard)
  said_are asks kinds heard sized = said_are_by asks kinds heard (whole_of (after (host_hello None) heard)) sized refl

  -- ---- a message

  taken_as : (marks : List Bool) (m : ClientMessage) → IsRecorders m → marked marks m ≡ (m, marks)
  taken_as [] (SetPixelFormat format) k = refl
  taken_as [] (SetEncodings choice) k = refl
  taken_as [] (Ask incremental area) k = refl
  taken_as [] (Key down key) k = absurd k
  taken_as [] (Pointer mask x y) k = absurd k
  taken_as [] (CutText text) k = absurd k
  taken_as [] (LostText len) k = absurd k
  taken_as (b ∷ marks) (SetPixelFormat format) k = refl
  taken_as (b ∷ marks) (SetEncodings choice) k = refl
  taken_as (b ∷ marks) (Ask incremental area) k = refl
  taken_as (b ∷ marks) (Key down key) k = absurd k
  taken_as (b ∷ marks) (Pointer mask x y) k = absurd k
  taken_as (b ∷ marks) (CutText text) k = absurd k
  taken_as (b ∷ marks) (LostText len) k = absurd k

  no_input : (role : Role) (m : ClientMessage) → IsRecorders m → input_for role m ≡ None
  no_input View m k = refl
  no_input Full (SetPixelFormat format) k = refl
  no_input Full (SetEncodings choice) k = refl
  no_input Full (Ask incremental area) k = refl
  no_input Full (Key down key) k = absurd k
  no_input Full (Pointer mask x y) k = absurd k
  no_input Full (CutText text) k = absurd k
  no_input Full (LostText len) k = absurd k

  for_pictures : (m : ClientMessage) → IsRecorders m → IsForPictures w h m
  for_pictures (SetPixelFormat format) k = k
  for_pictures (SetEncodings choice) k = k
  for_pictures (Ask incremental area) k = k
  for_pictures (Key down key) k = absurd k
  for_pictures (Pointer mask x y) k = absurd k
  for_pictures (CutText text) k = absurd k
  for_pictures (LostText len) k = absurd k

  -- ---- a viewer of which these bytes are still to come

  record Recorded (p : Viewer) (coming : List ℕ) : Type 0 where
    waiting : p.waiting ≡ None
    entries : AreForPictures w h p.entries
    fine : AreRecorders p.hello p.reading coming

  recorded_message : (p : Viewer) (m : ClientMessage) (coming : List ℕ) → IsRecorders m → p.waiting ≡ None → AreForPictures w h p.entries → AreRecorders p.hello client_message coming
      → Recorded (with_message p (marked p.lost m)) coming
  recorded_message p m coming own none entries fine =
      subst (λ t. Recorded (with_message p t) coming) (sym (taken_as p.lost m own))
      (subst (λ o. Recorded (with_input (record p { entries = Took m ∷ p.entries; lost = p.lost; reading = client_message }) o) coming) (sym (no_input p.role m own))
      (record { waiting = none; entries = (for_pictures m own, entries); fine = fine }))

  recorded_reading : (p : Viewer) (now : Reading ClientMessage) (coming : List ℕ) → p.waiting ≡ None → AreForPictures w h p.entries → Each IsRecorders (finished now) → AreRecorders p.hello (renewed client_message now) coming
      → Recorded (after_reading p now) coming
  recorded_reading p (Done m) coming none entries own fine = recorded_message p m coming own.0 none entries fine
  recorded_reading p (Faulty fault) coming none entries own fine = record { waiting = none; entries = entries; fine = fine }
  recorded_reading p (Want more) coming none entries own fine = record { waiting = none; entries = entries; fine = fine }

  -- A byte after the hello.
  recorded_later : (p : Viewer) (b : ℕ) (coming : List ℕ) (r : Reading ClientMessage) → p.reading ≡ r → p.waiting ≡ None → AreForPictures w h p.entries → Each IsRecorders (finished (step p.reading b))
      → AreRecorders p.hello (renewed client_message (step p.reading b)) coming → Recorded (cond (is_some (fault_of r)) p (after_reading p (step p.reading b))) coming
  recorded_later p b coming (Done m) e none entries own fine = recorded_reading p (step p.reading b) coming none entries own fine
  recorded_later p b coming (Faulty fault) e none entries own fine =
      let stays : renewed client_message (step p.reading b) ≡ p.reading = ap (λ r. renewed client_message (step r b)) e ∙ sym e in
      record { waiting = none; entries = entries; fine = subst (λ r. AreRecorders p.hello r coming) stays fine }
  recorded_later p b coming (Want more) e none entries own fine = recorded_reading p (step p.reading b) coming none entries own fine

  recorded_byte_by : (p : Viewer) (b : ℕ) (coming : List ℕ) (hello : Reading (Unit {0})) → p.hello ≡ hello → Recorded p (b ∷ coming)
      → Recorded (cond (wants_more hello) (after_hello p (step p.hello b)) (cond (is_some (cond (is_some (fault_of hello)) (fault_of hello) (fault_of p.reading))) p (after_reading p (step p.reading b)))) coming
  recorded_byte_by p b coming (Done x) e k =
      let fine = subst (λ h. AreRecorders h p.reading (b ∷ coming)) e k.fine in
      recorded_later p b coming p.reading refl k.waiting k.entries fine.0 (subst (λ h. AreRecorders h (renewed client_message (step p.reading b)) coming) (sym e) fine.1)
  recorded_byte_by p b coming (Faulty fault) e k = record { waiting = k.waiting; entries = k.entries; fine = subst (λ h. AreRecorders h p.reading coming) (sym e) tt }
  recorded_byte_by p b coming (Want more) e k =
      let goes : step p.hello b ≡ more b = ap (λ h. step h b) e in
      record { waiting = k.waiting; entries = k.entries; fine = subst (λ h. AreRecorders h p.reading coming) (sym goes) (subst (λ h. AreRecorders h p.reading (b ∷ coming)) e k.fine) }

  recorded_unless : (p : Viewer) (b : ℕ) (bs coming : List ℕ) (o : Option Input) → p.waiting ≡ o → p.waiting ≡ None → Recorded (after_bytes (after_byte p b) bs) coming
      → Recorded (cond (is_some o) (record p { unread = b ∷ bs }) (after_bytes (after_byte p b) bs)) coming
  recorded_unless p b bs coming None e none k = k
  recorded_unless p b bs coming (Some input) e none k = absurd (let both : None ≡ Some input = sym none ∙ e in cc)

  recorded_bytes : (p : Viewer) (bs coming : List ℕ) → Recorded p (bs ++ coming) → Recorded (after_bytes p bs) coming
  recorded_bytes p [] coming k = record { waiting = k.waiting; entries = k.entries; fine = k.fine }
  recorded_bytes p (b ∷ bs) coming k =
      recorded_unless p b bs coming p.waiting refl k.waiting (recorded_bytes (after_byte p b) bs coming (recorded_byte_by p b (bs ++ coming) p.hello refl k))

  -- ---- acts

  told_too : (n : ℕ) (size : Option Size) (o : Option (Rect × List ℕ)) (es : List Entry) → AreForPictures w h es → AreForPictures w h (told_at n size o (MadeCut n ∷ es))
  told_too n (Some size) o es k = k
  told_too n None None es k = k
  told_too n None (Some found) es k = k

  recorded_turn : (s : Setup) (us : List Update) (p : Viewer) (looked : ℕ) (cut : Option Cutting) (coming : List ℕ) → Recorded p coming → Recorded (after_turn s us looked cut p) coming
  recorded_turn s us p looked None coming k = record { waiting = k.waiting; entries = k.entries; fine = k.fine }
  recorded_turn s us p looked (Some cut) coming k =
      let first : List Update = take cut.number us in
      record {
        waiting = k.waiting;
        entries = told_too (length first) (size_at s.w s.h s.host (Saw looked ∷ p.entries) first) (with_chosen cut.chosen (update_at s.form s.w s.h (Saw looked ∷ p.entries) first)) (Saw looked ∷ p.entries) k.entries;
        fine = k.fine;
      }

  recorded_acts : (s : Setup) (us : List Update) (p : Viewer) (all : List ℕ) → Recorded p all → (acts : List Act) (coming : List ℕ) → all ≡ bytes_in acts ++ coming → Recorded (viewer_after s us p acts) coming
  recorded_acts s us p all k [] coming e = subst (Recorded p) e k
  recorded_acts s us p all k (Bytes marks bytes ∷ acts) coming e =
      let before : Recorded (viewer_after s us p acts) (bytes ++ coming) = recorded_acts s us p all k acts (bytes ++ coming) (e ∙ append_assoc (bytes_in acts) bytes coming) in
      recorded_bytes (with_marks marks (viewer_after s us p acts)) bytes coming (record { waiting = before.waiting; entries = before.entries; fine = before.fine })
  recorded_acts s us p all k (Turn looked cut ∷ acts) coming e = recorded_turn s us (viewer_after s us p acts) looked cut coming (recorded_acts s us p all k acts coming e)
  recorded_acts s us p all k (Written count ∷ acts) coming e =
      let before : Recorded (viewer_after s us p acts) coming = recorded_acts s us p all k acts coming e in
      record { waiting = before.waiting; entries = before.entries; fine = before.fine }
  recorded_acts s us p all k (Passed ∷ acts) coming e =
      let before : Recorded (viewer_after s us p acts) coming = recorded_acts s us p all k acts coming e in
      record { waiting = refl; entries = before.entries; fine = before.fine }

  pub recorders_are : AsksAreRead → (s : Setup) (us : List Update) (role : Role) (acts : List Act) (heard : List ℕ) (kinds : List Bool) → HasSizeOf heard → Begins (bytes_in acts) (said_after kinds heard)
      → AreForPictures w h (viewer_after s us (new_viewer role true) acts).entries
  recorders_are asks s us role acts heard kinds sized begins =
      (recorded_acts s us (new_viewer role true) (said_after kinds heard) (record { waiting = refl; entries = tt; fine = said_are asks kinds heard sized }) acts begins.0 begins.1).entries

-- ---- whatever size it was told, and where it is told that of its session

of_any : AsksAreRead → (s : Setup) (us : List Update) (role : Role) (acts : List Act) (heard : List ℕ) (kinds : List Bool) (o : Option Joined) → whole_of (after (host_hello None) heard) ≡ o → Begins (bytes_in acts) (said_after kinds heard)
    → AreForRecording (viewer_after s us (new_viewer role true) acts).entries
of_any asks s us role acts heard kinds None e begins =
    recording_of 0 0 (viewer_after s us (new_viewer role true) acts).entries
    (recorders_are 0 0 asks s us role acts heard kinds (λ joined done. absurd (let both : Some joined ≡ None = sym (ap whole_of done) ∙ e in cc)) begins)
of_any asks s us role acts heard kinds (Some joined) e begins =
    recording_of joined.w joined.h (viewer_after s us (new_viewer role true) acts).entries
    (recorders_are joined.w joined.h asks s us role acts heard kinds (λ other done. let same : other ≡ joined = let both : Some other ≡ Some joined = sym (ap whole_of done) ∙ e in cc in ap whole_screen same) begins)

pub recorders_take_full_colour : AsksAreRead → RecordersAreForRecording
recorders_take_full_colour asks s us role acts heard kinds begins = of_any asks s us role acts heard kinds (whole_of (after (host_hello None) heard)) refl begins

-- What was heard is the beginning of what the session says.
told_own_size : (s : Setup) (p : Viewer) (heard : List ℕ) → IsOpened s p → Begins heard (out_bytes s p) → HasSizeOf s.w s.h heard
told_own_size s p heard opened begins joined done =
    let own : Joined = record { w = s.w; h = s.h; name = s.name } in
    let form : Reading Joined = host_hello None in
    let by_it : after form (out_bytes s p) ≡ Done own =
    ap (after form) opened.all ∙ (after-append form opened.hello p.said_after ∙ (ap (λ r. after r p.said_after) opened.spelled.says ∙ after-done own p.said_after)) in
    let by_heard : after form (out_bytes s p) ≡ Done joined = ap (after form) begins.1 ∙ (after-append form heard begins.0 ∙ (ap (λ r. after r begins.0) done ∙ after-done joined begins.0)) in
    ap whole_screen (done_is joined own (sym by_heard ∙ by_it))

pub recorders_ask_for_all : AsksAreRead → RecordersAskForAll
recorders_ask_for_all asks s size short us role acts greeted heard kinds begins_heard begins =
    recorders_are s.w s.h asks s us role acts heard kinds (told_own_size s (viewer_after s us (new_viewer role true) acts) heard (hellos_heard s size short us role acts greeted) begins_heard) begins
