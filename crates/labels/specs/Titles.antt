-- THE TITLES OF PANELS, AND THE NAMES OF SEGMENTS: docs/SPECIFICATION.md, "What differs" and "Heights as text". Definitions only.
use Rattle.std.specs.Prelude.{List, ℕ}
use Rattle.text.specs.Text.{ascii}
use Rattle.words.specs.Words.{word_of}

-- The title of panel k, with spaces up to column 17: of the generator whose code's number it is, and last of the arpeggio.
abbrev pub title_of : ℕ → List ℕ
title_of k = word_of (ascii "VCA envelope     |VCF envelope     |Mod envelope     |LFO 1            |LFO 2            |LFO 1 unipolar   |LFO 2 unipolar   |LFO 1 fade       |LFO 2 fade       |Low-pass filter  |High-pass filter |Oscillator 1     |Oscillator 2     |Noise            |Arpeggio gate    ") k

-- The name of a segment, by its number.
abbrev pub segment_name : ℕ → List ℕ
segment_name k = word_of (ascii "Attack|Decay|Sustain|Release") k
