use Rattle.pool_layout.specs.Header.{gc_text}
use Rattle.pool_layout.proofs.header.text_of.Goals as goal

pub returns-in-Gc : goal.returns-in-Gc
unfolding gc_text
returns-in-Gc c = rw c.in-Gc.is c.from_le_bytes.ensures
