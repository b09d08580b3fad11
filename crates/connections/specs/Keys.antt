-- The lock of a port: VNC Authentication (RFC 6143, 7.1.2, 7.2.2).
use Rattle.std.specs.Prelude.{◌≡◌, ℕ, Bool, true, false, List, ◌∷◌, ◌++◌, length}
use Rattle.std.specs.Int.{w32, to_be_bytes}
use Rattle.rfb_wire.specs.Handshake.{version}
use Rattle.vnc_auth.specs.Answer.{answer_of}
use Rattle.run_traits.specs.declared.event.Way.{Way}
use Rattle.run_traits.specs.declared.event.Way.TheVariants.{Tcp, Web}
use Rattle.web_frames.specs.Frames.{data_in, fresh}
use Rattle.connections.specs.declared.key.Key.{Key}
use Rattle.connections.specs.declared.key.Key.TheVariants.{Open, Locked}

-- The port has a password.
abbrev pub is_locked : Key → Bool
is_locked Open = false
is_locked (Locked password) = true

-- What is asked at a locked port: a list of the one security type 2, and a challenge.
abbrev pub question : List ℕ → List ℕ
question challenge = 1 ∷ 2 ∷ challenge

-- What answers it: the choice of that type, and the answer to that challenge by someone who knows the password.
abbrev pub right_answer : List ℕ → List ℕ → List ℕ
right_answer password challenge = 2 ∷ answer_of password challenge

-- These bytes open a port with this key to a newcomer that was asked this challenge. An open port is open to each.
abbrev pub Opens : Key → (challenge answered : List ℕ) → Type 0
Opens Open challenge answered = Unit {0}
Opens (Locked password) challenge answered = answered ≡ right_answer password challenge

-- A handshake with somebody who knows the password: the version and a question were said, with a challenge of sixteen
-- bytes, and the version and the right answer to that challenge were heard.
pub record Unlocks (password said heard : List ℕ) : Type 0 where
  pub challenge : List ℕ
  pub len : length challenge ≡ 16
  pub asked : said ≡ version ++ question challenge
  pub answered : heard ≡ version ++ right_answer password challenge

-- Where the port is locked, whoever said and heard this has unlocked it.
abbrev pub HasUnlocked : Key → (said heard : List ℕ) → Type 0
HasUnlocked Open said heard = Unit {0}
HasUnlocked (Locked password) said heard = Unlocks password said heard

-- What these bytes say: all of them over TCP; where a newcomer's bytes travel in messages, the data of the frames, as a
-- client reads them (`said_in`) or sends them (`heard_in`).
abbrev pub said_in : Way → List ℕ → List ℕ
said_in Tcp bytes = bytes
said_in Web bytes = data_in (fresh false) bytes

abbrev pub heard_in : Way → List ℕ → List ℕ
heard_in Tcp bytes = bytes
heard_in Web bytes = data_in (fresh true) bytes

-- Where the port is locked, whoever said and heard what these bytes carry has unlocked it.
abbrev pub HasUnlockedBy : Way → Key → (said heard : List ℕ) → Type 0
HasUnlockedBy way key said heard = HasUnlocked key (said_in way said) (heard_in way heard)

-- SecurityResult 1, and a reason (RFC 6143, 7.1.3).
abbrev pub failed_for : List ℕ → List ℕ
failed_for reason = to_be_bytes w32 1 ++ to_be_bytes w32 (length reason) ++ reason
