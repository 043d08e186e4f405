-- What is read of a slab's header.
use Rattle.std.proofs.Common.{◌≡◌, ◌&&◌, ◌<◌, ◌/◌, ◌%◌, ◌^◌, ℕ, Bool, ltb, List, sym, ap, ◌∙◌}
use Rattle.slab_morph.proofs.Common.{lt-ltb, cond-true, word_at, state_word, index_word, slab_bit, bit_of_word, SlabState, SaysOfState}
use Rattle.slab_morph.specs.SlabHeaders.{header_at, HasStateWord}

-- a bit
pub bit_read : (words : List ℕ) (start i : ℕ) → i < 4096 → (header_at words start).bit i ≡ slab_bit words start i
unfolding header_at
bit_read words start i below = ap (λ b. b && slab_bit words start i) (lt-ltb i 4096 below)

-- a place of the index table
pub live_read : (words : List ℕ) (start place : ℕ) → place < 64 → (header_at words start).live place ≡ bit_of_word (word_at words (index_word start place)) 0
unfolding header_at
live_read words start place below = ap (λ b. b && bit_of_word (word_at words (index_word start place)) 0) (lt-ltb place 64 below)

pub number_read : (words : List ℕ) (start place : ℕ) → place < 64 → (header_at words start).number place ≡ word_at words (index_word start place) / 2 ^ 16 % 2 ^ 16
unfolding header_at
number_read words start place below = cond-true (ltb place 64) _ 0 (lt-ltb place 64 below)

-- the state
pub state_read : (words : List ℕ) (start : ℕ) (word : ℕ) (state : SlabState) → word ≡ word_at words (state_word start) → SaysOfState word state → HasStateWord (header_at words start) state
unfolding header_at
state_read words start word state is says = record {
  kind = ap (λ w. w / 2 ^ 0 % 2 ^ 8) (sym is) ∙ says.kind;
  class = ap (λ w. w / 2 ^ 8 % 2 ^ 8) (sym is) ∙ says.class;
  old = ap (λ w. w / 2 ^ 16 % 2 ^ 8) (sym is) ∙ says.old;
  entries = ap (λ w. w / 2 ^ 24 % 2 ^ 8) (sym is) ∙ says.entries;
}

-- a bit by what was read of it
pub bit_by : (words : List ℕ) (start i : ℕ) (is : Bool) → i < 4096 → is ≡ slab_bit words start i → (header_at words start).bit i ≡ is
bit_by words start i is below read = bit_read words start i below ∙ sym read
