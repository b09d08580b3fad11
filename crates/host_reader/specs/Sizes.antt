-- The sizes of screens that a reading keeps (own).
use Rattle.std.specs.Prelude.{◌≡◌, ℕ}
use Rattle.host_decoder.specs.Decoder.{Decoding}

-- A publisher's screen has this width and height in pixels; these functions say what a publisher has.
abbrev pub HasSize : {P : Type 0} → (width height : P → ℕ) → P → (w h : ℕ) → Type 0
HasSize {P} width height publisher w h = (width publisher ≡ w) × (height publisher ≡ h)

-- A publisher's screen is as large as before.
abbrev pub KeepsSize : {P : Type 0} → (width height : P → ℕ) → (old new : P) → Type 0
KeepsSize {P} width height old new = HasSize width height new (width old) (height old)

-- A decoder is for a screen as large as before.
abbrev pub SameScreenSize : (old new : Decoding) → Type 0
SameScreenSize old new = (new.width ≡ old.width) × (new.height ≡ old.height)
