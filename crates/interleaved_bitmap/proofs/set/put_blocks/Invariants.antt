use Rattle.std.proofs.Common.{◌≡◌, ◌<◌, ◌||◌, ℕ, length}
use Rattle.bit_words.specs.Numbers.{has}
use Rattle.interleaved_bitmap.specs.Places.{is_marked}
use Rattle.interleaved_bitmap.proofs.set.put_blocks.Given as goal

-- the set and what is left of the word say what the set before and the word say
abbrev pub invariant-loop-rest : goal.invariant-loop-rest
invariant-loop-rest l = record {
  size : length l.set ≡ 64;
  both : (i : ℕ) → i < 4096 → (has l.set i || is_marked l.place l.rest i) ≡ (has l.fn.set i || is_marked l.place l.word i);
}

abbrev pub decreases-loop-rest : goal.decreases-loop-rest
decreases-loop-rest l = l.rest
