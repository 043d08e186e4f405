-- What the header of a slab says where some of its words are the same.
use Rattle.std.proofs.Common.{◌≡◌, ◌&&◌, ◌+◌, ◌/◌, ◌%◌, ◌^◌, ◌<◌, ◌≤◌, ⊎_elim, inl, inr, ℕ, Bool, ltb, List, length, refl, sym, ap, ◌∙◌, arith}
use Rattle.slab_morph.proofs.Common.{cases_lt, le-ltb, word_at, put_word, word_at-put_same, word_at-put_other, granule_word, blocks_place, where_slab, bit_of_word, state_word, bitmap_word, index_word, slab_bit, SlabHeader, SlabState, word_of_state, SaysOfState}
use Rattle.slab_morph.specs.SlabHeaders.{header_at}
use Rattle.slab_morph.specs.Stages.{with_state, IsSameState, IsSameButIndex, IsSameButBits, IsOffHeader, IsOffState, IsOffBitmap, IsOffIndex}

-- what is read below a bound
pub below_and : (i n : ℕ) (a b : Bool) → (i < n → a ≡ b) → (ltb i n && a) ≡ (ltb i n && b)
below_and i n a b same = ⊎_elim
    (λ (less : i < n). ap (λ x. ltb i n && x) (same less))
    (λ (more : n ≤ i). ap (λ x. x && a) (le-ltb i n more) ∙ sym (ap (λ x. x && b) (le-ltb i n more)))
    (cases_lt i n)

pub below_where : (i n : ℕ) (a b : ℕ) → (i < n → a ≡ b) → where_slab (ltb i n) a ≡ where_slab (ltb i n) b
below_where i n a b same = ⊎_elim
    (λ (less : i < n). ap (where_slab (ltb i n)) (same less))
    (λ (more : n ≤ i). ap (λ x. where_slab x a) (le-ltb i n more) ∙ sym (ap (λ x. where_slab x b) (le-ltb i n more)))
    (cases_lt i n)

module _ (words image : List ℕ) (start : ℕ) where
  -- the state word is the same
  same_state : word_at image (state_word start) ≡ word_at words (state_word start) → IsSameState (header_at words start) (header_at image start)
  unfolding header_at
  same_state state = record {
    kind = ap (λ w. w / 2 ^ 0 % 2 ^ 8) state;
    class = ap (λ w. w / 2 ^ 8 % 2 ^ 8) state;
    old = ap (λ w. w / 2 ^ 16 % 2 ^ 8) state;
    index_count = ap (λ w. w / 2 ^ 24 % 2 ^ 8) state;
  }

  -- the words before the index table are the same
  pub same_but_index : ((k : ℕ) → granule_word start ≤ k → k < granule_word start + 72 → word_at image k ≡ word_at words k) → IsSameButIndex (header_at words start) (header_at image start)
  unfolding header_at
  same_but_index same =
      let state = same (state_word start) (omega arith) (omega arith) in
      record {
        state = same_state state;
        bit = λ k i. below_and i 4096 (slab_bit image start i) (slab_bit words start i)
            (λ below. ap (λ w. bit_of_word w (i / 8 % 64)) (same (bitmap_word start i) (omega arith) (omega (arith, below)))) k;
      }

  -- all words but the bitmap's are
  pub same_but_bits : word_at image (state_word start) ≡ word_at words (state_word start) → ((k : ℕ) → granule_word start + 72 ≤ k → k < granule_word start + 136 → word_at image k ≡ word_at words k) →
      IsSameButBits (header_at words start) (header_at image start)
  unfolding header_at
  same_but_bits state same =
      let index : (place : ℕ) → place < 64 → word_at image (index_word start place) ≡ word_at words (index_word start place) = λ place below. same (index_word start place) (omega arith) (omega (arith, below)) in
      record {
        state = same_state state;
        live = λ k place. below_and place 64 (bit_of_word (word_at image (index_word start place)) 0) (bit_of_word (word_at words (index_word start place)) 0) (λ below. ap (λ w. bit_of_word w 0) (index place below)) k;
        number = λ k place. below_where place 64 (word_at image (index_word start place) / 2 ^ 16 % 2 ^ 16) (word_at words (index_word start place) / 2 ^ 16 % 2 ^ 16) (λ below. ap (λ w. w / 2 ^ 16 % 2 ^ 16) (index place below)) k;
      }

-- only words of the index table differ, or of the bitmap

pub header_off_index : (words image : List ℕ) (start : ℕ) → IsOffIndex words start image → IsSameButIndex (header_at words start) (header_at image start)
header_off_index words image start off = same_but_index words image start (λ k low high. off.others k (inl (omega (arith, high))))

pub header_off_bitmap : (words image : List ℕ) (start : ℕ) → IsOffBitmap words start image → IsSameButBits (header_at words start) (header_at image start)
header_off_bitmap words image start off = same_but_bits words image start (off.others (state_word start) (inl (omega arith))) (λ k low high. off.others k (inr (omega (arith, low))))

-- and then only words of the header do

pub off_index : (words image : List ℕ) (start : ℕ) → IsOffIndex words start image → IsOffHeader words start image
off_index words image start off = record {
  same_length = off.same_length;
  others = λ k outside. off.others k (⊎_elim (λ low. inl (omega (arith, low))) (λ (high : granule_word start + blocks_place ≤ k). inr (omega (arith, high))) outside);
}

pub off_bitmap : (words image : List ℕ) (start : ℕ) → IsOffBitmap words start image → IsOffHeader words start image
off_bitmap words image start off = record {
  same_length = off.same_length;
  others = λ k outside. off.others k (⊎_elim (λ low. inl (omega (arith, low))) (λ (high : granule_word start + blocks_place ≤ k). inr (omega (arith, high))) outside);
}

pub off_state : (words image : List ℕ) (start : ℕ) → IsOffState words start image → IsOffHeader words start image
off_state words image start off = record {
  same_length = off.same_length;
  others = λ k outside. off.others k (⊎_elim (λ low. inl (omega (arith, low))) (λ (high : granule_word start + blocks_place ≤ k). inr (omega (arith, high))) outside);
}

-- two headers that say the same
pub header_by_bits : (h g k : SlabHeader) → IsSameButBits h g → k.kind ≡ h.kind → k.class ≡ h.class → k.old ≡ h.old → k.index_count ≡ h.index_count → k.live ≡ h.live → k.number ≡ h.number → g.bit ≡ k.bit → g ≡ k
header_by_bits h g k same kind class old entries live number bits i = record {
  kind = (same.state.kind ∙ sym kind) i;
  class = (same.state.class ∙ sym class) i;
  old = (same.state.old ∙ sym old) i;
  index_count = (same.state.index_count ∙ sym entries) i;
  bit = bits i;
  live = (same.live ∙ sym live) i;
  number = (same.number ∙ sym number) i;
}

-- another state word is put
pub header_state : (words : List ℕ) (start : ℕ) (state : SlabState) → granule_word start < length words → SaysOfState (word_of_state state) state →
    header_at (put_word words (state_word start) (word_of_state state)) start ≡ with_state (header_at words start) state
unfolding header_at
header_state words start state inside says =
    let new = put_word words (state_word start) (word_of_state state) in
    let put : word_at new (state_word start) ≡ word_of_state state = word_at-put_same words (state_word start) (state_word start) (word_of_state state) refl (omega (arith, inside)) in
    let other : (k : ℕ) → granule_word start < k → word_at new k ≡ word_at words k = λ k behind. word_at-put_other words (state_word start) k (word_of_state state) (λ e. omega (arith, e, behind)) in
    λ i. record {
      kind = (ap (λ w. w / 2 ^ 0 % 2 ^ 8) put ∙ says.kind) i;
      class = (ap (λ w. w / 2 ^ 8 % 2 ^ 8) put ∙ says.class) i;
      old = (ap (λ w. w / 2 ^ 16 % 2 ^ 8) put ∙ says.old) i;
      index_count = (ap (λ w. w / 2 ^ 24 % 2 ^ 8) put ∙ says.entries) i;
      bit = λ n. ap (λ w. ltb n 4096 && bit_of_word w (n / 8 % 64)) (other (bitmap_word start n) (omega arith)) i;
      live = λ place. ap (λ w. ltb place 64 && bit_of_word w 0) (other (index_word start place) (omega arith)) i;
      number = λ place. ap (λ w. where_slab (ltb place 64) (w / 2 ^ 16 % 2 ^ 16)) (other (index_word start place) (omega arith)) i;
    }
