-- `put_file` puts `file_text`: its parts, one after the other. Assumes nothing.
use Rattle.text.proofs.Writing.{◌⨾◌}
use Rattle.provenance.specs.Provenance.{file_text}
use Rattle.provenance.proofs.put_file.Goals as goal

pub returns : goal.returns
unfolding file_text
returns c =
    c.put_file_name.ensures ⨾
    c.put.ensures ⨾
    rw c.crc32.ensures at c.put_hex.ensures
