-- VNC Authentication (RFC 6143, 7.2.2, with its erratum 4951).
use Rattle.std.specs.Prelude.{ℕ, List, ◌++◌, take, drop}
use Rattle.vnc_auth.specs.Bits.{bits_of, mirrored_bits_of, bytes_of}
use Rattle.vnc_auth.specs.Des.{encrypted, decrypted}

-- Eight bytes, encrypted with a password. Its first eight bytes are the key, and a shorter one is filled up with 0. The
-- bits of each byte are taken from the least significant one on.
unfoldable pub sealed : List ℕ → List ℕ → List ℕ
sealed password bytes = bytes_of (encrypted (mirrored_bits_of password) (bits_of bytes))

-- Eight bytes that were sealed with a password, as they were before.
unfoldable pub opened : List ℕ → List ℕ → List ℕ
opened password bytes = bytes_of (decrypted (mirrored_bits_of password) (bits_of bytes))

-- The answer to a challenge of sixteen bytes: each eight of them, encrypted with the password.
unfoldable pub answer_of : List ℕ → List ℕ → List ℕ
answer_of password challenge = sealed password (take 8 challenge) ++ sealed password (drop 8 challenge)
