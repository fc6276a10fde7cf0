-- THE PAGE OF ALL PARAMETERS: docs/SPECIFICATION.md, "The page of all parameters". A4, landscape, in hundredths of a millimetre. `file` is the name of the block's file, and empty
-- where there is none. Definitions only.
use Rattle.std.specs.Prelude.{cond, List, [], ◌++◌, ℕ, eqb, length, Result, Ok, Err}
use Rattle.refusals.specs.declared.Refusal.{Refusal}
use Rattle.refusals.specs.declared.Refusal.TheVariants.{Block}
use Rattle.code_bytes.specs.Bytes.{byte_at, block_length}
use Rattle.text.specs.Text.{ascii}
use Rattle.provenance.specs.Provenance.{name_text, file_text}
use Rattle.parameter_rows.specs.Rows.{rows_text}

-- ---- head and foot
-- The document's start, and the styles of texts (h head, n name, k number, b byte, m foot) and of lines; every other row of a column on grey, by z.
abbrev pub style_text : List ℕ
style_text =
    ascii "<svg xmlns='http://www.w3.org/2000/svg' width='297mm' height='210mm' viewBox='0 0 29700 21000'>\n" ++
    ascii "<style>@page{size:A4 landscape;margin:0}text{font:250px Helvetica,Arial,sans-serif}" ++
    ascii ".h{font-size:360px}.n{font-size:560px;font-weight:bold}.k{text-anchor:end;fill:#444}" ++
    ascii ".b{text-anchor:end;font-weight:bold}.m{font-size:260px}path{stroke:#000;stroke-width:15}" ++
    ascii ".z{stroke:#eee;stroke-width:6100;stroke-dasharray:290}</style>\n" ++
    ascii "<rect width='29700' height='21000' fill='#fff'/>\n" ++
    ascii "<path class='z' d='M4200 1900V19590'/><path class='z' d='M11300 1900V19590'/>" ++
    ascii "<path class='z' d='M18400 1900V19590'/><path class='z' d='M25500 1900V19010'/>\n"

-- The document's title; what the page is, the program's name, and a rule below them.
unfoldable pub head_text : List ℕ → List ℕ → List ℕ
head_text file block =
    ascii "<title>" ++ name_text file block ++ ascii ", parameters</title>\n<text class='h' x='1150' y='1450'>DeepMind 12 parameters</text><text class='n' x='6000' y='1450'>" ++ name_text file block ++
    ascii "</text><path d='M1150 1750H28550'/>\n"

-- How to read the page, which file it is of, and where the curves are.
unfoldable pub foot_text : List ℕ → List ℕ → List ℕ
foot_text file block =
    ascii "<text class='m' x='1150' y='20200'>Number, name and, in bold, the byte to dial in, 0 to 255. A dot: the sheet draws a curve from it.</text>\n<text class='m' x='1150' y='20540'>" ++ file_text file block ++
    ascii ". The curves are on the sheet: juvrada sheet.</text>\n</svg>\n"

-- ---- the whole
unfoldable pub parameters_of : List ℕ → List ℕ → List ℕ
parameters_of file block = style_text ++ head_text file block ++ rows_text block_length (byte_at block) ++ foot_text file block

-- A block of another length has no page.
unfoldable pub parameters_text : List ℕ → List ℕ → List ℕ
parameters_text file block = cond (eqb (length block) block_length) (parameters_of file block) []

-- And is refused.
unfoldable pub page_answer : List ℕ → Result (Unit {0}) Refusal
page_answer block = cond (eqb (length block) block_length) (Ok tt) (Err Block)
