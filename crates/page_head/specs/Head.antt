-- THE HEAD OF A SHEET AND THE FOOT OF A PAGE: docs/SPECIFICATION.md, "The page". A4, landscape, in hundredths of a
-- millimetre. `file` is the name of the block's file, and empty where there is none. Definitions only.
use Rattle.std.specs.Prelude.{List, ◌++◌, ℕ}
use Rattle.text.specs.Text.{ascii}
use Rattle.provenance.specs.Provenance.{name_text, file_text}

-- ---- head
-- The document's start, and the styles of texts (h head, n name, t title, d dial, b its byte, m word of a mark or a caption) and of lines (f frame, r rest, v mark, c curve, u older curve, g bar).
abbrev pub style_text : List ℕ
style_text =
    ascii "<svg xmlns='http://www.w3.org/2000/svg' width='297mm' height='210mm' viewBox='0 0 29700 21000'>\n<style>@page{size:A4 landscape;margin:0}text{font:260px Helvetica,Arial,sans-serif}.h{font-size:360px}.n{font-size:560px;font-weight:bold}.t{font-size:360px;font-weight:bold}.d{font-size:280px}.b{font-weight:bold}.m{font-size:240px;text-anchor:middle}path,polyline{fill:none;stroke:#000}.f{stroke-width:15}.r{stroke-width:12;stroke-dasharray:80 60}.v{stroke-width:8}.c{stroke-width:32;stroke-linejoin:round}.u{stroke:#999;stroke-width:70;stroke-linejoin:round}.g{fill:#bbb;stroke-width:20}</style>\n<rect width='29700' height='21000' fill='#fff'/>\n"

-- The document's title, which a browser shows and offers as the name of a file; what the page is, the name, and a rule below them.
unfoldable pub head_text : List ℕ → List ℕ → List ℕ
head_text file block =
    ascii "<title>" ++ name_text file block ++ ascii "</title>\n<text class='h' x='1150' y='1450'>DeepMind 12 program</text><text class='n' x='5500' y='1450'>" ++ name_text file block ++
    ascii "</text><path class='f' d='M1150 1750H28550'/>\n"

-- ---- foot
-- How to read the page, which file it is of, and where the parameters are that are not on it.
unfoldable pub foot_text : List ℕ → List ℕ → List ℕ
foot_text file block =
    ascii "<text x='1150' y='20200'>Bold: the bytes to dial in, 0 to 255. A, D, S, R: attack, decay, sustain, release. Dashed: the rest level. May start anywhere: a cycle that runs on, drawn from its start. Each bar is struck anew. A frame is 50 mm by 25 mm.</text>\n<text x='1150' y='20540'>" ++ file_text file block ++
    ascii ". All 242 parameters are on a page of their own: juvrada parameters.</text>\n</svg>\n"
