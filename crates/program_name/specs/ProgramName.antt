-- THE PROGRAM'S NAME: docs/SPECIFICATION.md, "The page". Definitions only.
use Rattle.std.specs.Prelude.{cond, List, ℕ, zero, suc, ◌-◌, eqb, take, drop}
use Rattle.code_bytes.specs.Bytes.{byte_at}
use Rattle.escapes.specs.Escaped.{escaped_all, shown_all}

-- The first of the n bytes from number i on that is 0, or the byte after them.
unfoldable pub end_from : List ℕ → ℕ → ℕ → ℕ
end_from block zero i = i
end_from block (suc n) i = cond (eqb (byte_at block i) 0) i (end_from block n (suc i))

-- Bytes 223 to 239 hold the name: sixteen characters and a terminator. It ends at the first 0.
unfoldable pub name_end : List ℕ → ℕ
name_end block = end_from block 17 223

abbrev pub program_name : List ℕ → List ℕ
program_name block = take (name_end block - 223) (drop 223 block)

-- The name as XML and as a line that can be read; `unnamed` where its first byte is 0.
unfoldable pub name_in_xml : List ℕ → List ℕ → List ℕ
name_in_xml unnamed block = cond (eqb (name_end block) 223) unnamed (escaped_all (program_name block))

unfoldable pub name_in_line : List ℕ → List ℕ → List ℕ
name_in_line unnamed block = cond (eqb (name_end block) 223) unnamed (shown_all (program_name block))
