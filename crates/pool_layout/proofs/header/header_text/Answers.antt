use Rattle.pool_layout.specs.Header.{header_text}
use Rattle.pool_layout.proofs.header.header_text.Goals as goal

pub returns : goal.returns
unfolding header_text
returns c = c.from_le_bytes.ensures
