-- Numbers read, computed from their definition. Assumes nothing.
use mathlib.Core.Path.{◌≡◌, refl}
use mathlib.Core.List.{[]}
use Rattle.text.specs.Text.{ascii}
use Rattle.std.specs.Prelude.{Some, None}
use Rattle.decimal_reading.specs.Reading.{read_after, read_of}

samples : read_of (ascii "1025") ≡ Some 1025
unfolding read_of read_after
samples = refl

letter : read_of (ascii "12a") ≡ None
unfolding read_of read_after
letter = refl

nothing : read_of [] ≡ None
unfolding read_of read_after
nothing = refl

ten : read_of (ascii "1234567890") ≡ None
unfolding read_of read_after
ten = refl
