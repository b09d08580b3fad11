-- From what a recorder kept to the pictures of it. The law `pictures_are_of_the_session` is made of it.
use Rattle.std.proofs.Common.{◌≡◌, ℕ, ◌<◌, ◌≤◌, true, List, [], ◌∷◌, ◌++◌, None, length, refl, sym, ap, subst, ◌∙◌, arith, append_assoc}
use Rattle.byte_reading.specs.Reading.{Spells}
use Rattle.byte_reading.proofs.ReadingLaws.{prefix_free}
use Rattle.raster.specs.Screen.{value_at}
use Rattle.raster.specs.Update.{Update}
use Rattle.rfb_wire.specs.Handshake.{Joined, host_hello, said_to_viewer, server_init}
use Rattle.reflect_core.specs.Sequential.{Begins}
use Rattle.link.specs.Links.{LinkState}
use Rattle.record_link.specs.Growing.{recorded_in}
use Rattle.record_link.specs.Linked.{bytes_of}
use Rattle.playback.specs.Heard as heard
use Rattle.playback.specs.Heard.{greeting}
use Rattle.recorded_picture.specs.Picture.{Shown}
use Rattle.recorded_picture.specs.Recorded.{ShowsStream}
use Rattle.viewer_session.specs.Acts.{viewer_after}
use Rattle.viewer_session.specs.Viewer.{Setup, Viewer, new_viewer, out_bytes}
use Rattle.viewer_session.proofs.Parts.{begins_on}
use Rattle.played_session.specs.Pictures.{AreInOrder, ShowsAfter}
use Rattle.played_session.specs.Recorded.{RecordersKeepWhatWasShown}
use Rattle.played_session.proofs.Greeted.{opens}
use Rattle.played_session.proofs.Recorded.{behind_same, own_session}
use Rattle.shown_recording.specs.Shown.{IsScreenAfter, PicturesAreOfTheSession}
use Rattle.shown_recording.proofs.Taken.{takes}

-- ---- beginnings

shorter_begins : (xs ys all : List ℕ) → Begins xs all → Begins ys all → length xs ≤ length ys → Begins xs ys
shorter_begins [] ys all a b le = (ys, refl)
shorter_begins (x ∷ xs) [] all a b le = absurd (omega arith)
shorter_begins (x ∷ xs) (y ∷ ys) all a b le =
    let both : x ∷ (xs ++ a.0) ≡ y ∷ (ys ++ b.0) = sym a.1 ∙ b.1 in
    let head : x ≡ y = cc in
    let tails : xs ++ a.0 ≡ ys ++ b.0 = cc in
    let k = shorter_begins xs ys (ys ++ b.0) (a.0, sym tails) (b.0, refl) (omega (arith, le)) in
    (k.0, ap (λ (zs : List ℕ). y ∷ zs) k.1 ∙ ap (λ (z : ℕ). z ∷ (xs ++ k.0)) (sym head))

same_bytes : (recorded : List (ℕ × ℕ)) → bytes_of recorded ≡ heard.bytes_of recorded
unfolding bytes_of
same_bytes recorded = refl

-- ---- what is taken

greets : (s : Setup) → said_to_viewer s.w s.h s.name 14 ≡ greeting ++ server_init s.w s.h s.name
greets s = refl

-- A picture's screen, of the size that was told in the session's own handshake.
screen_of : {old new : LinkState} (s : Setup) (us : List Update) (picture : Shown) (joined : Joined) (n : ℕ) → joined ≡ record { w = s.w; h = s.h; name = s.name } → (k : ShowsStream joined.w joined.h old new picture) → ShowsAfter joined.w joined.h us k.stream n → IsScreenAfter s us picture n
screen_of s us picture joined n own k after =
    let wide : joined.w ≡ s.w = ap (λ (j : Joined). j.w) own in
    let high : joined.h ≡ s.h = ap (λ (j : Joined). j.h) own in
    record {
      wide = k.size.0 ∙ wide;
      high = k.size.1 ∙ high;
      shows = λ x y lx ly.
          let inside : x < joined.w = omega (arith, lx, wide) in
          let above : y < joined.h = omega (arith, ly, high) in
          ap (λ (w : ℕ). value_at w picture.colours x y) (sym wide) ∙ (k.shows x y inside above ∙ after x y inside above);
    }

pub pictures : (has_come : ℕ → Type 0) → RecordersKeepWhatWasShown → PicturesAreOfTheSession has_come
pictures has_come keep s size short ended present us first role acts may l carried served p q one other a b less =
    let v : Viewer = viewer_after s us (new_viewer role true) acts in
    let recorded : List ℕ = bytes_of (recorded_in l.growing) in
    let all : Begins recorded (out_bytes s v) = served.given in
    let opened = opens s us role acts may in
    let begun : List ℕ = server_init s.w s.h s.name ++ opened.0 in
    let start : said_to_viewer s.w s.h s.name 14 ++ opened.0 ≡ greeting ++ begun =
    ap (λ (xs : List ℕ). xs ++ opened.0) (greets s) ∙ append_assoc greeting (server_init s.w s.h s.name) opened.0 in
    let greeted : Begins recorded (greeting ++ begun) = subst (Begins recorded) start (begins_on recorded (out_bytes s v) (said_to_viewer s.w s.h s.name 14 ++ opened.0) all opened.1) in
    let same : bytes_of (recorded_in l.growing) ≡ heard.bytes_of (recorded_in l.growing) = same_bytes (recorded_in l.growing) in
    let heard_first : Begins (heard.bytes_of (recorded_in l.growing)) (greeting ++ begun) = subst (λ (xs : List ℕ). Begins xs (greeting ++ begun)) same greeted in
    let mine : Begins p.taken recorded = subst (Begins p.taken) (sym same) (takes has_come p l.growing begun a.plays a.first carried.kept a.read heard_first) in
    let others : Begins q.taken recorded = subst (Begins q.taken) (sym same) (takes has_come q l.growing begun b.plays b.first carried.kept b.read heard_first) in
    let hello : List ℕ = a.shows.joins.heard in
    let front : List ℕ = a.shows.shows.stream in
    let back : List ℕ = b.shows.shows.stream in
    let took : p.taken ≡ hello ++ front = a.shows.shows.taken ∙ ap (λ (xs : List ℕ). xs ++ front) a.shows.joins.taken in
    let also : q.taken ≡ b.shows.joins.heard ++ back = b.shows.shows.taken ∙ ap (λ (xs : List ℕ). xs ++ back) b.shows.joins.taken in
    let on : Begins p.taken q.taken = shorter_begins p.taken q.taken recorded mine others less in
    let join : b.shows.joins.heard ++ back ≡ hello ++ (front ++ on.0) = sym also ∙ (on.1 ∙ (ap (λ (xs : List ℕ). xs ++ on.0) took ∙ append_assoc hello front on.0)) in
    let one_ = prefix_free (host_hello None) b.shows.joins.heard hello back (front ++ on.0) b.shows.joined a.shows.joined b.shows.joins.spells a.shows.joins.spells join in
    let follows : back ≡ front ++ on.0 = behind_same hello back (front ++ on.0) (ap (λ (xs : List ℕ). xs ++ back) (sym one_.0) ∙ join) in
    let whole : Begins (hello ++ back) recorded = subst (λ (xs : List ℕ). Begins xs recorded) (also ∙ ap (λ (xs : List ℕ). xs ++ back) one_.0) others in
    let joined : Joined = a.shows.joined in
    let spelled : Spells (host_hello None) hello joined = a.shows.joins.spells in
    let order : AreInOrder joined.w joined.h us front back = keep s size short ended present us first role acts may l carried served hello front back joined spelled (on.0, follows) whole in
    let in_out : Begins hello (out_bytes s v) = begins_on hello recorded (out_bytes s v) (begins_on hello p.taken recorded (front, took) mine) all in
    let own : joined ≡ record { w = s.w; h = s.h; name = s.name } = own_session s us role acts hello joined size short may spelled in_out in
    record {
      earlier = order.earlier;
      later = order.later;
      order = order.order;
      known = order.known;
      shows_earlier = screen_of s us one joined order.earlier own a.shows.shows order.shows_earlier;
      shows_later = screen_of s us other b.shows.joined order.later (one_.1 ∙ own) b.shows.shows (subst (λ (j : Joined). ShowsAfter j.w j.h us back order.later) (sym one_.1) order.shows_later);
    }
