-- What a picture shows once its link ended.
use Rattle.std.proofs.Common.{◌≡◌, ℕ, List, [], ◌++◌, ◌∙◌, ap, sym, subst, inl, inr}
use Rattle.fault.specs.declared.kinds.Fault.TheVariants.{LinkEnded}
use Rattle.raster.specs.Screen.{LooksLike, opening, value_at}
use Rattle.raster.specs.Update.{Update, screen}
use Rattle.painter.specs.Same.{AreSameUpdates}
use Rattle.link.specs.Links.{LinkState}
use Rattle.host_decoder.specs.Updates.{updates}
use Rattle.host_reader.specs.Running.{ArePut, EndsBetween, EndsWith}
use Rattle.recorded_picture.specs.Picture.{Shown}
use Rattle.recorded_picture.specs.Recorded.{ShowsStream}
use Rattle.recorded_picture.proofs.Avoids.{no_link_ended}

-- lists of updates that come to the same show the same
abbrev pub SameShown : Type 0
SameShown = (w h : ℕ) (us vs : List Update) → AreSameUpdates w h opening us vs → LooksLike w h (screen us) (screen vs)

-- a picture that a host's messages were put on, from black on
pub record Follows (w h : ℕ) (old : List Update) (picture : Shown) : Type 0 where
  pub same : SameShown
  pub none : old ≡ []
  pub wide : picture.width ≡ w
  pub high : picture.height ≡ h
  pub shows : LooksLike picture.width picture.height (value_at picture.width picture.colours) (screen picture.updates)

-- what was put is what the picture shows
looks : (w h : ℕ) (stream : List ℕ) (old : List Update) (picture : Shown) → Follows w h old picture → ArePut w h opening stream old picture.updates → LooksLike w h (value_at w picture.colours) (screen (updates w h stream))
looks w h stream old picture f put =
    let all : picture.updates ≡ put.put = put.added ∙ ap (λ us. us ++ put.put) f.none in
    let P : ℕ → Type 0 = λ n. LooksLike n h (value_at n picture.colours) (screen picture.updates) in
    let Q : ℕ → Type 0 = λ n. LooksLike picture.width n (value_at picture.width picture.colours) (screen picture.updates) in
    let sized : LooksLike w h (value_at w picture.colours) (screen picture.updates) = subst P f.wide (subst Q f.high f.shows) in
    let same : LooksLike w h (screen (updates w h stream)) (screen put.put) = f.same w h (updates w h stream) put.put put.same in
    λ x y across down. sized x y across down ∙ (ap (λ us. screen us x y) all ∙ sym (same x y across down))

-- the link ended between two messages
pub at_end : (w h : ℕ) (link_old link_new : LinkState) (old : List Update) (picture : Shown) → Follows w h old picture → EndsBetween w h opening link_old link_new old picture.updates → ShowsStream w h link_old link_new picture
at_end w h link_old link_new old picture f ends = record {
  stream = ends.stream;
  taken = ends.taken;
  ended = ends.ended;
  size = (f.wide, f.high);
  shows = looks w h ends.stream old picture f ends.put;
}

-- it ended inside a message
pub inside : (w h : ℕ) (link_old link_new : LinkState) (old : List Update) (picture : Shown) → Follows w h old picture → EndsWith w h opening LinkEnded link_old link_new old picture.updates → ShowsStream w h link_old link_new picture
inside w h link_old link_new old picture f ends =
    elim ends.stops [
      | inl ended ↦ record {
        stream = ends.stream;
        taken = ends.taken;
        ended = ended.1.0;
        size = (f.wide, f.high);
        shows = looks w h ends.stream old picture f ended.0;
      }
      | inr (inl cut) ↦ elim cut.why [ inl memory ↦ absurd (cc) | inr out ↦ absurd (let e = out.0 in cc) ]
      | inr (inr fault) ↦ absurd (no_link_ended w h ends.stream fault.rest)
    ]
