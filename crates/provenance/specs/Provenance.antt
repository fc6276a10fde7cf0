-- WHAT A PAGE IS OF: docs/SPECIFICATION.md, "The page". `file` is the name of the block's file, and empty where there is none. Definitions only.
use Rattle.std.specs.Prelude.{cond, List, ◌++◌, ℕ, eqb, length}
use Rattle.text.specs.Text.{ascii}
use Rattle.numerals.specs.Spelled.{hex_of}
use Rattle.escapes.specs.Escaped.{escaped_all}
use Rattle.program_name.specs.ProgramName.{name_in_xml}
use Rattle.fingerprint.specs.Crc32.{crc32_of}

-- The program's name. One that has no character is told by whether the block is a file's: a page of no file is that of the empty program.
unfoldable pub name_text : List ℕ → List ℕ → List ℕ
name_text file block = name_in_xml (cond (eqb (length file) 0) (ascii "(empty program)") (ascii "(no name)")) block

-- Which file the block is from.
unfoldable pub file_name : List ℕ → List ℕ
file_name file = cond (eqb (length file) 0) (ascii "No file") (ascii "File " ++ escaped_all file)

-- And its CRC-32, so that whoever has the page can tell whether a file is the one that it was made of.
unfoldable pub file_text : List ℕ → List ℕ → List ℕ
file_text file block = file_name file ++ ascii ", CRC-32 " ++ hex_of (crc32_of block)
