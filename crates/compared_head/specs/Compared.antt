-- THE HEAD OF A COMPARISON: docs/SPECIFICATION.md, "The page". `file` is the name of the block's file, and empty where
-- there is none; `oldFile` is that of the older block's. Definitions only.
use Rattle.std.specs.Prelude.{List, ◌++◌, ℕ}
use Rattle.text.specs.Text.{ascii}
use Rattle.provenance.specs.Provenance.{name_text, file_text}

-- The document's title, and the styles that only a comparison has: w what a byte was, s the note beside it, and the
-- file beside a name, which is not bold.
unfoldable pub compared_title : List ℕ → List ℕ → List ℕ → List ℕ → List ℕ
compared_title oldFile older file block =
    ascii "<title>Comparison of " ++ name_text oldFile older ++ ascii " and " ++ name_text file block ++
    ascii "</title>\n<style>.w{font-size:200px;fill:#555}.s{font-size:240px}.s .b{font-size:280px}.n .h{font-weight:normal}</style>\n"

-- One of the two programs, after its start: its name, and which file it is from.
unfoldable pub side_text : List ℕ → List ℕ → List ℕ → List ℕ
side_text start file block = start ++ name_text file block ++ ascii "<tspan class='h' dx='400'>" ++ file_text file block ++ ascii "</tspan></text>"

-- What the page is, the old program above the new one, a rule below them, and what is grey and small on it.
unfoldable pub compared_head : List ℕ → List ℕ → List ℕ → List ℕ → List ℕ
compared_head oldFile older file block =
    compared_title oldFile older file block ++
    side_text (ascii "<text class='h' x='1150' y='950'>DeepMind 12 comparison</text><text class='h' x='5700' y='950'>old</text><text class='n' x='6500' y='950'>") oldFile older ++
    side_text (ascii "<text class='h' x='5700' y='1560'>new</text><text class='n' x='6500' y='1560'>") file block ++
    ascii "<path class='f' d='M1150 1750H28550'/><path class='u' d='M1150 1960H1750'/><text x='1850' y='2030'>grey: the old program, where its curve or gate differs. <tspan class='w'>was</tspan> in small: its byte, where that differs. Bytes that are not on this page may differ too: juvrada compare lists them.</text>\n"
