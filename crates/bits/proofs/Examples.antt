-- Which bits of which byte an element has, computed.
use mathlib.Core.Path.{◌≡◌, refl}
use mathlib.Core.Bool.{true, false}
use lib.Bits.{bit_and}
use Rattle.cell.specs.Bytes.{digits}
use Rattle.bits.specs.Bits.{bits_in}

-- two bytes at place 10 under the mask 0x0FF0: MSB_FIRST has the mask's upper byte first, MSB_LAST its lower one
pub upper_first : (bits_in true 10 2 0x0FF0 10 ≡ 0x0F) × (bits_in true 10 2 0x0FF0 11 ≡ 0xF0)
unfolding bits_in digits
upper_first = (refl, refl)

pub lower-first : (bits_in false 10 2 0x0FF0 10 ≡ 0xF0) × (bits_in false 10 2 0x0FF0 11 ≡ 0x0F)
unfolding bits_in digits
lower-first = (refl, refl)

-- none outside its bytes, and all of them without a mask
pub its-bytes : (bits_in true 10 4 0 9 ≡ 0) × (bits_in true 10 4 0 10 ≡ 255) × (bits_in true 10 4 0 13 ≡ 255) × (bits_in true 10 4 0 14 ≡ 0)
unfolding bits_in digits
its-bytes = (refl, refl, refl, refl)

-- "also with both masks in one byte"
pub one_byte : bit_and (bits_in false 5 1 0x0F 5) (bits_in false 5 1 0xF0 5) ≡ 0
unfolding bits_in digits
one_byte = refl

-- the masks 0x00FF and 0xFF00 of two bytes at 4 have no bit in common as numbers, and meet in byte 5 where the one is MSB_FIRST and the other MSB_LAST
pub numbers-mislead : (bit_and 0x00FF 0xFF00 ≡ 0) × (bit_and (bits_in true 4 2 0x00FF 5) (bits_in false 4 2 0xFF00 5) ≡ 255)
unfolding bits_in digits
numbers-mislead = (refl, refl)
