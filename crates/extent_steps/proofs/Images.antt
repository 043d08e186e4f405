-- Images while an extent comes or goes: what is the same of them.
use Rattle.std.proofs.Common.{◌≡◌, ◌⊎◌, ℕ, ◌+◌, ◌<◌, ◌≤◌, true, List, sym, ap, subst, ◌∙◌, arith, inr, Some, None}
use Rattle.extent_steps.proofs.Common.{extent_at, Tables, is_slab, state_field, tables_of, slab_table, slab_fields, tables_off_log-same, Range, heap, IsSound, IsSteady, bounds_of, IsFormed, IsWordOf, IsEitherHeap, AreSlabsInHeap-sound, bounds_of-off_log, IsFormed-off_log, KeepsRest, off_log, sizes_of, KeepsAllButSlab, granule_word}
use Rattle.image_tables.specs.Tables.{is_slab_of}
use Rattle.heap_check.specs.Image.{IsSteadyImage}
use Rattle.heap_check.specs.State.{KeepsBlocks}
use Rattle.heap_check.proofs.Geometry.{index_count_few}
use Rattle.heap_check.proofs.BlockWords.{block_word-heap}

-- what an image keeps of the words
pub record IsNear (words : List ℕ) (start : ℕ) (image : List ℕ) : Type 0 where
  pub formed : IsFormed image
  pub bounds : bounds_of image ≡ bounds_of words
  pub rest : KeepsAllButSlab words start image

-- it says the same
pub record IsSame (words : List ℕ) (start : ℕ) (image : List ℕ) : Type 0 where
  pub near : IsNear words start image
  pub tables : tables_of image ≡ tables_of words

-- no slab of a sound image has more than 64 index entries
pub few_entries : (words : List ℕ) → IsSound (bounds_of words) (tables_of words) → (other : ℕ) → is_slab words other ≡ true → state_field words other 24 ≤ 64
few_entries words sound other is = omega (arith, index_count_few (sound.slabs other (slab_table words other ∙ is)), (slab_fields words other).index_count)

-- the words of blocks are kept, which lie in no header at the start
pub keeps_blocks : (words : List ℕ) (start : ℕ) (image : List ℕ) → IsFormed words → IsSound (bounds_of words) (tables_of words) → (tables_of words).open_entry ≡ None →
    ((root : ℕ) (range : Range) (k : ℕ) → heap (tables_of words) root ≡ Some range → IsWordOf range k → (k < granule_word start) ⊎ (granule_word start + 256 ≤ k)) → KeepsAllButSlab words start image → KeepsBlocks words image
keeps_blocks words start image formed sound closed off rest = record {
  each = λ root other range k was is word.
      let sizes = sizes_of words formed in
      let high = block_word-heap sound closed root range was k word in
      rest.others k (λ e. omega (arith, e, high, sizes.first)) (inr (omega (arith, high))) (off root range k was word);
}

-- an image that has the heap of the words, and is steady, is one that a crash may leave
pub either : (words : List ℕ) (start : ℕ) (new image : List ℕ) → IsNear words start image → IsSteady (bounds_of words) (tables_of image) → ((root : ℕ) → heap (tables_of image) root ≡ heap (tables_of words) root) → KeepsBlocks words image →
    (tables_of image).open_entry ≡ None → IsEitherHeap words new image
either words start new image near steady same keeps closed = grind arith

-- where all but the log is the same, blocks have their words
pub keeps_off_log : (words image : List ℕ) → IsSteadyImage words → (tables_of words).open_entry ≡ None → KeepsRest words image → KeepsBlocks words image
keeps_off_log words image steady closed rest = grind (arith, sizes_of, block_word-heap)

-- where the extents are the same too, the image is one that a crash may leave
pub still_either : (words : List ℕ) (start : ℕ) (new image : List ℕ) → IsSteadyImage words → (tables_of words).open_entry ≡ None → KeepsRest words image → ((other : ℕ) → extent_at image other ≡ extent_at words other) → IsEitherHeap words new image
still_either words start new image steady closed rest extents =
    let off = off_log words image rest in
    let slabs = AreSlabsInHeap-sound words steady.steady.sound in
    let tables = tables_off_log-same words image off slabs extents in
    either words start new image
    (record {
      formed = IsFormed-off_log words image steady.formed off slabs rest.log (λ other. ap is_slab_of (extents other));
      bounds = bounds_of-off_log words image off;
      rest = record { same_length = rest.same_length; others = λ k apart place header. rest.others k apart place };
    })
    (subst (IsSteady (bounds_of words)) (sym tables) steady.steady)
    (λ root. ap (λ (x : Tables). heap x root) tables)
    (keeps_off_log words image steady closed rest)
    (ap (λ (x : Tables). x.open_entry) tables ∙ closed)
