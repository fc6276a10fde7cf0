-- Rows, computed from their definition: one that begins a group, one that the sheet draws, and the last. Assumes nothing.
use mathlib.Core.Path.{◌≡◌, refl}
use Rattle.text.specs.Text.{ascii}
use Rattle.numerals.specs.Spelled.{glyph_of, digits_of, places_from, decimal_of}
use Rattle.words.specs.Words.{first_word, past_bar, word_of, index_of}
use Rattle.codes.specs.Codes.{codes, code_in}
use Rattle.code_bytes.specs.Bytes.{bytes_of}
use Rattle.drawn_bytes.specs.Drawn.{read_by, drawn_by, drawn}
use Rattle.parameter_places.specs.Places.{place_text}
use Rattle.parameter_cells.specs.Cells.{rule_text, dot_text, cells_text}
use Rattle.parameter_rows.specs.Rows.{row_text}

second_lfo : row_text 7 108 ≡ ascii "<g transform='translate(1150 4150)'><path d='M0-220h6100'/><text class='k' x='640'>7</text><text x='800'>LFO 2 Rate</text><text class='b' x='6020'>108</text></g>\n"
unfolding row_text place_text rule_text dot_text cells_text decimal_of digits_of places_from glyph_of first_word past_bar word_of index_of read_by drawn_by drawn code_in codes bytes_of
second_lfo = refl

gate : row_text 160 255 ≡ ascii "<g transform='translate(15350 13140)'><circle cx='80' cy='-85' r='55'/><text class='k' x='640'>160</text><text x='800'>Arp Gate Time</text><text class='b' x='6020'>255</text></g>\n"
unfolding row_text place_text rule_text dot_text cells_text decimal_of digits_of places_from glyph_of first_word past_bar word_of index_of drawn
gate = refl

last : row_text 241 0 ≡ ascii "<g transform='translate(22450 18940)'><text class='k' x='640'>241</text><text x='800'>Program Transpose</text><text class='b' x='6020'>0</text></g>\n"
unfolding row_text place_text rule_text dot_text cells_text decimal_of digits_of places_from glyph_of first_word past_bar word_of index_of read_by drawn_by drawn code_in codes bytes_of
last = refl
