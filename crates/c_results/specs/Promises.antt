-- WHAT IS PROMISED OF THE C FUNCTIONS: docs/SPECIFICATION.md, "The C interface". Definitions only.

-- What is returned: the numbers of an answer of which all is promised.
pub record Returned {A : Type 0} (Numbers Promised : A → Type 0) : Type 0 where
  pub answer : A
  pub numbers : Numbers answer
  pub promised : Promised answer
