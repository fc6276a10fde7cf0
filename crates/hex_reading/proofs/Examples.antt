-- Patterns read, computed from their definition. Assumes nothing.
use mathlib.Core.Path.{◌≡◌, refl}
use Rattle.text.specs.Text.{ascii}
use Rattle.std.specs.Prelude.{Some, None}
use Rattle.hex_reading.specs.Reading.{digit_of, read_after, prefixed, read_of}

either_case : read_of (ascii "0xC04fAb9") ≡ Some 0x0c04_fab9
unfolding read_of prefixed read_after digit_of
either_case = refl

largest : read_of (ascii "0xffffffff") ≡ Some 0xffff_ffff
unfolding read_of prefixed read_after digit_of
largest = refl

no_digit : read_of (ascii "0x") ≡ None
unfolding read_of prefixed read_after digit_of
no_digit = refl

nine : read_of (ascii "0x123456789") ≡ None
unfolding read_of prefixed read_after digit_of
nine = refl

no_prefix : read_of (ascii "c0200000") ≡ None
unfolding read_of prefixed read_after digit_of
no_prefix = refl

letter : read_of (ascii "0xg") ≡ None
unfolding read_of prefixed read_after digit_of
letter = refl
