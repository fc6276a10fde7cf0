-- `oscillator_bytes` has the bytes of `bytes_of`. Assumes nothing.
use Rattle.code_bytes.specs.Bytes.{bytes_of}
use borrow.Author.Rules.{rules}
use Rattle.code_bytes.proofs.oscillator_bytes.Goals as goal

pub enum_told-1 : goal.enum_told-1
unfolding bytes_of
enum_told-1 c = search rules

pub overflow_cast-result : goal.overflow_cast-result
unfolding bytes_of
overflow_cast-result c = search rules

pub overflow_cast-result-in-One : goal.overflow_cast-result-in-One
unfolding bytes_of
overflow_cast-result-in-One c = search rules

pub overflow_cast-result-in-One-2 : goal.overflow_cast-result-in-One-2
unfolding bytes_of
overflow_cast-result-in-One-2 c = search rules

pub overflow_cast-result-in-One-3 : goal.overflow_cast-result-in-One-3
unfolding bytes_of
overflow_cast-result-in-One-3 c = search rules

pub enum_told-in-Two : goal.enum_told-in-Two
unfolding bytes_of
enum_told-in-Two c = search rules

pub one_byte-requires : goal.one_byte-requires
unfolding bytes_of
one_byte-requires c = search rules

pub returns-in-One : goal.returns-in-One
unfolding bytes_of
returns-in-One c = (search rules, simp c.in-One.is)

pub returns-in-Two : goal.returns-in-Two
unfolding bytes_of
returns-in-Two c = (search rules, simp (c.in-Two.is, c.one_byte.ensures.1))
