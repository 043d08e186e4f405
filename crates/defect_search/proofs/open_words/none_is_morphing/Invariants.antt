use Rattle.std.proofs.Common.{◌≢◌, ℕ, ◌<◌}
use Rattle.defect_search.proofs.Common.{tables_of, slab_in}
use Rattle.defect_search.proofs.open_words.none_is_morphing.Given as goal

abbrev pub invariant-loop-i : goal.invariant-loop-i
invariant-loop-i l = (k : ℕ) → k < l.i → ((tables_of l.words).header (slab_in l.slabs k).start).kind ≢ 2
