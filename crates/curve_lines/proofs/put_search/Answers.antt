-- `put_search` puts `search_text`, by whether a byte was found. Assumes nothing.
use Rattle.curve_lines.proofs.put_search.Goals as goal

pub returns-in-Some : goal.returns-in-Some
returns-in-Some c = rw c.in-Some.is c.put_found.ensures

pub returns-in-None : goal.returns-in-None
returns-in-None c = rw c.in-None.is c.put_none.ensures
