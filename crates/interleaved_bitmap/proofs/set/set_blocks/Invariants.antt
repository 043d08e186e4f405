use Rattle.std.proofs.Common.{◌≡◌, ◌<◌, ◌&&◌, ℕ, ltb, length}
use Rattle.bit_words.specs.Numbers.{has}
use Rattle.interleaved_bitmap.specs.Places.{word_of_bit, bit_of_header}
use Rattle.interleaved_bitmap.proofs.set.set_blocks.Given as goal

-- the set has the blocks of the words before this one
abbrev pub invariant-loop-place : goal.invariant-loop-place
invariant-loop-place l = record {
  size : length l.set ≡ 64;
  seen : (i : ℕ) → i < 4096 → has l.set i ≡ (ltb (word_of_bit i) l.place && bit_of_header l.header i);
}
