use Rattle.std.proofs.Common.{◌≡◌, ◌≢◌, ℕ, ◌<◌, true}
use Rattle.image_tables.specs.Tables.{tables_of}
use Rattle.heap_model.specs.Machine.{slab_block}
use Rattle.image_reading.proofs.held.has_old.Given as goal

abbrev pub invariant-loop-place : goal.invariant-loop-place
invariant-loop-place l = (k : ℕ) → k < l.place → ((tables_of l.words).header l.fn.slab.start).live k ≡ true → l.at ≢ (slab_block l.fn.slab.start l.old (((tables_of l.words).header l.fn.slab.start).number k)).at
