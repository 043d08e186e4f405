-- Old blocks are stored one after another, by rising number.
use Rattle.std.proofs.Common.{◌≡◌, ◌+◌, ◌*◌, ◌<◌, ◌≤◌, ◌++◌, ◌∙◌, ℕ, Bool, true, false, List, [], ◌∷◌, length, sym, ap, arith}
use Rattle.slab_morph.proofs.Common.{append-nil, Store, PmemState, words_of, appended, Appends, appended_append, words_of-appended, index_word, slab_bit, word_of_index, numbers_below, index_stores}
use Rattle.slab_morph.specs.SlabHeaders.{header_at}
use Rattle.slab_morph.proofs.Numbers.{numbers_more, count_more, numbers_rise}
use Rattle.slab_morph.proofs.IndexEvents.{entry_of, index_stores-more, bit_between}

module _ (s t : PmemState) (start n end : ℕ) (below : n < end) (most : end ≤ 4096) (few : length (numbers_below (header_at (words_of s) start).bit end) ≤ 64)
    (whole : t ≡ appended s (index_stores start 0 (numbers_below (header_at (words_of s) start).bit n))) where
  abbrev test : ℕ → Bool
  test = (header_at (words_of s) start).bit

  abbrev numbers : List ℕ
  numbers = numbers_below test n

  -- a bit that is read is the one from before
  pub bit_was : (is : Bool) → is ≡ slab_bit (words_of t) start n → test n ≡ is
  bit_was is read =
      bit_between (words_of s) (words_of t) start numbers n is (ap (λ (x : PmemState). words_of x) whole ∙ words_of-appended s (index_stores start 0 numbers))
      (omega (arith, numbers_rise test n end (omega (arith, below)), few)) (omega (arith, below, most)) read

  -- there is a place for one more
  pub place_below : true ≡ slab_bit (words_of t) start n → length numbers + 1 ≤ length (numbers_below test end)
  place_below read = omega (arith, count_more test n true (bit_was true read), numbers_rise test (n + 1) end (omega (arith, below)))

  -- it is stored
  pub stored : (u : PmemState) (at value : ℕ) → true ≡ slab_bit (words_of t) start n → at ≡ 8 * index_word start (length numbers) → value ≡ word_of_index (entry_of n) → Appends t u (Store at value ∷ []) →
      u ≡ appended s (index_stores start 0 (numbers_below test (n + 1)))
  stored u at value read place word step =
      let more : index_stores start 0 numbers ++ Store at value ∷ [] ≡ index_stores start 0 (numbers_below test (n + 1)) =
      (λ i. index_stores start 0 numbers ++ Store (place i) (word i) ∷ [])
      ∙ (let none : length numbers ≡ 0 + length numbers = omega arith in ap (λ k. index_stores start 0 numbers ++ Store (8 * index_word start k) (word_of_index (entry_of n)) ∷ []) none)
      ∙ sym (index_stores-more start 0 n numbers)
      ∙ ap (index_stores start 0) (sym (numbers_more test n true (bit_was true read))) in
      step.state
      ∙ ap (λ (x : PmemState). appended x (Store at value ∷ [])) whole
      ∙ appended_append s (index_stores start 0 numbers) (Store at value ∷ [])
      ∙ ap (appended s) more

  -- there is nothing to store
  pub skipped : false ≡ slab_bit (words_of t) start n → t ≡ appended s (index_stores start 0 (numbers_below test (n + 1)))
  skipped read = whole ∙ ap (λ (ns : List ℕ). appended s (index_stores start 0 ns)) (sym (numbers_more test n false (bit_was false read) ∙ append-nil numbers))
