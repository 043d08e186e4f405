use Rattle.std.proofs.Common.{◌≡◌, ◌/◌, ◌&&◌, ℕ, eqb, ltb, false, cond}
use Rattle.bit_words.specs.Numbers.{has}
use Rattle.slab_index.specs.SlabSet.{class_in, is_available}
use Rattle.slab_index.proofs.index.SlabIndex.take_all.Given as goal

-- of the words before this one the numbers are taken
abbrev pub invariant-loop-at : goal.invariant-loop-at
invariant-loop-at l = record {
  granules : l.self.granules ≡ l.fn.self.granules;
  classes : (s : ℕ) → class_in l.self s ≡ class_in l.fn.self s;
  taken : (s i : ℕ) → is_available l.self s i ≡ cond (eqb s l.start && (ltb (i / 64) l.at && has l.numbers i)) false (is_available l.fn.self s i);
}
