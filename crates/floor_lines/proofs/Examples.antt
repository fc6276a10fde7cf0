-- THE WORKING OF FOUR PATTERNS, computed from its definition. Assumes nothing.
use mathlib.Core.Path.{◌≡◌, refl}
use mathlib.Core.List.{◌++◌}
use lib.Ieee.{of_bits, to_bits, of_int, lt}
use Rattle.exact.specs.Value.{value}
use Rattle.floor.specs.Formula.{floor_of}
use Rattle.text.specs.Text.{ascii}
use Rattle.numerals.specs.Spelled.{glyph_of, digits_of, places_from, decimal_of, hex_of}
use Rattle.bit_fields.specs.Pattern.{fields_text, pattern_text}
use Rattle.floor_number.specs.Number.{whole_text}
use Rattle.floor_reasons.specs.Reasons.{small_reason, cleared_reason, step_reason}
use Rattle.floor_lines.specs.Lines.{line_of, head_of, floor_line, small_text, cut_text, large_text, working_text}

-- -2.5
cut : working_text 0xc020_0000 ≡
    ascii "x        0xc0200000  1 10000000 01000000000000000000000\n"
    ++ ascii "exponent 1, from 0 to 22: the low 22 bits of the fraction are cleared\n"
    ++ ascii "cleared  0xc0000000  1 10000000 00000000000000000000000\n"
    ++ ascii "less 1, since x is below 0 and a set bit was cleared\n"
    ++ ascii "floor    0xc0400000  1 10000000 10000000000000000000000  -3\n"
unfolding working_text cut_text cleared_reason step_reason floor_line head_of line_of whole_text pattern_text
    fields_text hex_of decimal_of digits_of places_from glyph_of floor_of value of_bits to_bits of_int lt
cut = refl

-- -8388607.5
one : working_text 0xcaff_ffff ≡
    ascii "x        0xcaffffff  1 10010101 11111111111111111111111\n"
    ++ ascii "exponent 22, from 0 to 22: the lowest bit of the fraction is cleared\n"
    ++ ascii "cleared  0xcafffffe  1 10010101 11111111111111111111110\n"
    ++ ascii "less 1, since x is below 0 and a set bit was cleared\n"
    ++ ascii "floor    0xcb000000  1 10010110 00000000000000000000000  -8388608\n"
unfolding working_text cut_text cleared_reason step_reason floor_line head_of line_of whole_text pattern_text
    fields_text hex_of decimal_of digits_of places_from glyph_of floor_of value of_bits to_bits of_int lt
one = refl

-- -0.25
small : working_text 0xbe80_0000 ≡
    ascii "x        0xbe800000  1 01111101 00000000000000000000000\n"
    ++ ascii "exponent -2, below 0: -1, since x is below 0\n"
    ++ ascii "floor    0xbf800000  1 01111111 00000000000000000000000  -1\n"
unfolding working_text small_text small_reason floor_line head_of line_of whole_text pattern_text
    fields_text hex_of decimal_of digits_of places_from glyph_of floor_of value of_bits to_bits of_int lt
small = refl

-- a NaN
large : working_text 0x7fc0_0001 ≡
    ascii "x        0x7fc00001  0 11111111 10000000000000000000001\n"
    ++ ascii "exponent 128, 23 or more: x itself\n"
    ++ ascii "floor    0x7fc00001  0 11111111 10000000000000000000001\n"
unfolding working_text large_text head_of line_of whole_text pattern_text
    fields_text hex_of decimal_of digits_of places_from glyph_of
large = refl
