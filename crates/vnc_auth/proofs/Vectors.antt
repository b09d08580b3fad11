-- The definitions compute the worked values. A definition that says something else is refused here.
use Rattle.std.proofs.Common.{◌≡◌, [], ◌∷◌, codes, refl}
use Rattle.vnc_auth.specs.Answer.{sealed, opened}
use Rattle.vnc_auth.specs.Bits.{bits_of, bytes_of}
use Rattle.vnc_auth.specs.Des.{after_rounds, encrypted}

-- The worked example of the literature: key 133457799BBCDFF1, block 0123456789ABCDEF.
pub worked_block : bytes_of (encrypted (bits_of (0x13 ∷ 0x34 ∷ 0x57 ∷ 0x79 ∷ 0x9B ∷ 0xBC ∷ 0xDF ∷ 0xF1 ∷ [])) (bits_of (0x01 ∷ 0x23 ∷ 0x45 ∷ 0x67 ∷ 0x89 ∷ 0xAB ∷ 0xCD ∷ 0xEF ∷ [])))
    ≡ 0x85 ∷ 0xE8 ∷ 0x13 ∷ 0x54 ∷ 0x0F ∷ 0x0A ∷ 0xB4 ∷ 0x05 ∷ []
unfolding after_rounds
worked_block = refl

-- What x11vnc -storepasswd writes for hunter2x: the password, sealed with the fixed key of such files.
pub stored_password : sealed (23 ∷ 82 ∷ 107 ∷ 6 ∷ 35 ∷ 78 ∷ 88 ∷ 7 ∷ []) (codes "hunter2x") ≡ 0xDC ∷ 0xDA ∷ 0xB5 ∷ 0x40 ∷ 0x11 ∷ 0xF8 ∷ 0x42 ∷ 0x07 ∷ []
unfolding after_rounds sealed
stored_password = refl

-- That file is opened again.
pub opened_password : opened (23 ∷ 82 ∷ 107 ∷ 6 ∷ 35 ∷ 78 ∷ 88 ∷ 7 ∷ []) (0xDC ∷ 0xDA ∷ 0xB5 ∷ 0x40 ∷ 0x11 ∷ 0xF8 ∷ 0x42 ∷ 0x07 ∷ []) ≡ codes "hunter2x"
unfolding after_rounds opened
opened_password = refl
