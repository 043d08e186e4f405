-- The block of a root of a sound image: where it begins, and how large it is.
use Rattle.std.proofs.Common.{◌≡◌, ◌≢◌, ◌+◌, ◌*◌, ◌/◌, ◌<◌, ◌≤◌, ℕ, true, false, Bool, cond, eqb, List, length, Option, Some, None, refl, sym, ap, subst, ◌∙◌, arith, ⊎_elim}
use Rattle.std.proofs.lemmas.Bool.{cases_eq, cond-true, cond-false, eq-eqb, ne_eqb}
use Rattle.size_classes.proofs.Spacing.{class_size-most, class_size-least}
use Rattle.pool_layout.specs.Header.{granules_in}
use Rattle.image_tables.specs.declared.entry.WalEntry.{WalEntry}
use Rattle.image_tables.specs.declared.entry.WalEntry.TheVariants.{Place, Move}
use Rattle.image_tables.specs.Tables.{Tables, is_slab, tables_of}
use Rattle.heap_model.specs.Machine.{slab_block}
use Rattle.heap_model.proofs.Slabbing.{LiesIn-block}
use Rattle.heap_check.specs.Heap.{slab_of, is_large, is_old, entry_at, entry_old, size_by, size_at, claim_at, heap, IsClaim}
use Rattle.heap_check.specs.Sound.{IsHeld, IsNewEntry, IsOldEntry}
use Rattle.heap_check.specs.Image.{IsSoundImage}
use Rattle.heap_check.proofs.Geometry.{granules_at-slab, granules_at-live, is_large-parts}
use Rattle.heap_check.proofs.Within.{IsWithin-held}
use Rattle.heap_check.proofs.Sizes.{sizes_of}
use Rattle.defect_search.specs.declared.claim.Claim.{Claim}
use Rattle.defect_search.specs.Claims.{claim_in, range_of, AreClaims}
use Rattle.defect_search.proofs.BlockSizes.{class_none, old_table-none, size_at-large}
use Rattle.image_check.proofs.LooseBlocks.{heap_some}
use Rattle.heap_map.specs.LogRules.{log_rules}
use Rattle.heap_map.specs.Blocks.{IsRootBlock}
use Rattle.heap_map.proofs.Premises.{slabs_of}

module _ (words : List ℕ) (sound : IsSoundImage words) where
  -- where a slab ends
  slab_end : (start : ℕ) → (tables_of words).slab start ≡ true → 16384 * start + 65536 ≤ 16384 * granules_in words
  slab_end start slab =
      let four = granules_at-slab (tables_of words) start slab in
      omega (arith, four, (sound.sound.extents.starts start (omega (arith, four))).1)

  held_low : (at : ℕ) → IsHeld (tables_of words) at → at < 16384 * granules_in words
  held_low at held =
      let within = IsWithin-held sound.sound held.start held.range held.holds in
      omega (arith, within.high, within.some, held.here, granules_at-slab (tables_of words) held.start held.holds.slab, slab_end held.start held.holds.slab)

  large_low : (at : ℕ) → is_large (tables_of words).large at ≡ true → (at < 16384 * granules_in words) × (16384 * (tables_of words).large (at / 16384) ≤ 16384 * granules_in words)
  large_low at large =
      let parts = is_large-parts (tables_of words).large at large in
      let whole = granules_at-live sound.sound (at / 16384) parts.1 in
      let lies = sound.sound.extents.starts (at / 16384) (omega (arith, whole, parts.1)) in
      (omega (arith, parts.0, parts.1, whole, lies.1), omega (arith, whole, lies.1))

  new_low : (at : ℕ) → IsNewEntry (tables_of words) at → at < 16384 * granules_in words
  new_low at is =
      let class = ((tables_of words).header is.start).class in
      let valid = sound.sound.slabs is.start is.slab in
      let lies = LiesIn-block is.start class (slab_block is.start class is.number) (record { number = is.number; within = is.below; is = refl }) in
      omega (arith, is.is, lies.high, slab_end is.start is.slab, class_size-least class valid.state.is_class)

  old_low : (at place : ℕ) → IsOldEntry (tables_of words) at place → at < 16384 * granules_in words
  old_low at place is =
      let h = (tables_of words).header is.start in
      let valid = sound.sound.slabs is.start is.slab in
      let lies = LiesIn-block is.start h.old (slab_block is.start h.old (h.number place)) (record { number = h.number place; within = valid.small place is.below; is = refl }) in
      omega (arith, is.is, lies.high, slab_end is.start is.slab, class_size-least h.old valid.state.is_old_class)

  -- where an open entry names a root and an address
  entry_low : (root at : ℕ) → at ≢ 0 → entry_at (tables_of words).open_entry root ≡ at → at < 16384 * granules_in words
  entry_low root at some named = by (tables_of words).open_entry refl named
    where
      by : (e : Option WalEntry) → (tables_of words).open_entry ≡ e → entry_at e root ≡ at → at < 16384 * granules_in words
      by None is here = absurd (some (sym here))
      by (Some (Move from to)) is here = absurd (some (sym here))
      by (Some (Place named_root address old place)) is here = ⊎_elim
          (λ (same : root ≡ named_root).
          let address_is : address ≡ at = sym (cond-true (eqb root named_root) address 0 (eq-eqb root named_root same)) ∙ here in
          let may = (sound.sound.owned.open_entry (Place named_root address old place) is).entry in
          subst (λ a. a < 16384 * granules_in words) address_is (⊎_elim (λ new. new_low address new.1) (λ was. old_low address place was.1) may.block))
          (λ (other : root ≢ named_root). absurd (some (sym here ∙ cond-false (eqb root named_root) address 0 (ne_eqb root named_root other))))
          (cases_eq root named_root)

  -- the block of a root begins in the arena
  begins_low : (root : ℕ) → (tables_of words).root root ≢ 0 → (tables_of words).root root < 16384 * granules_in words
  begins_low root some = ⊎_elim
      (λ large. (large_low ((tables_of words).root root) large).0)
      (λ rest. ⊎_elim (λ held. held_low ((tables_of words).root root) held) (λ entry. entry_low root ((tables_of words).root root) some entry) rest)
      (sound.sound.owned.rooted root some)

  -- classes in headers of slabs, and 0 where there is none
  class_low : (start : ℕ) → ((tables_of words).header start).class < 36
  class_low start = by (is_slab words start) refl
    where
      by : (b : Bool) → is_slab words start ≡ b → ((tables_of words).header start).class < 36
      by true slab = ((slabs_of words sound).good start slab).slab.state.is_class
      by false none = omega (arith, class_none words start none)

  was_low : (start : ℕ) → ((tables_of words).header start).old < 36
  was_low start = by (is_slab words start) refl
    where
      by : (b : Bool) → is_slab words start ≡ b → ((tables_of words).header start).old < 36
      by true slab = ((slabs_of words sound).good start slab).slab.state.is_old_class
      by false none = omega (arith, old_table-none words start none)

  -- it is no larger than the arena
  size_by_low : (at : ℕ) (of_old : Bool) → size_by (tables_of words) at of_old ≤ 16384 * granules_in words
  size_by_low at true = omega (arith, class_size-most ((tables_of words).header (slab_of (tables_of words).slab (at / 16384))).old (was_low (slab_of (tables_of words).slab (at / 16384))), (sizes_of words sound.formed).least)
  size_by_low at false = omega (arith, class_size-most ((tables_of words).header (slab_of (tables_of words).slab (at / 16384))).class (class_low (slab_of (tables_of words).slab (at / 16384))), (sizes_of words sound.formed).least)

  size_low : (root at : ℕ) → size_at (tables_of words) root at ≤ 16384 * granules_in words
  size_low root at = by (is_large (tables_of words).large at) refl
    where
      either : (b x y : Bool) → cond b (size_by (tables_of words) at x) (size_by (tables_of words) at y) ≤ 16384 * granules_in words
      either true x y = size_by_low at x
      either false x y = size_by_low at y

      by : (large : Bool) → is_large (tables_of words).large at ≡ large → size_at (tables_of words) root at ≤ 16384 * granules_in words
      by true is = omega (arith, size_at-large (tables_of words) root at is, (large_low at is).1)
      by false none = subst (λ n. n ≤ 16384 * granules_in words) (sym (cond-false (is_large (tables_of words).large at) _ _ none))
          (either _ (entry_old (tables_of words).open_entry) (is_old ((tables_of words).header (slab_of (tables_of words).slab (at / 16384))) (slab_of (tables_of words).slab (at / 16384)) at))

  -- the claim of a root that holds a block
  held_claim : (root : ℕ) → (tables_of words).root root ≢ 0 → IsClaim (tables_of words) root (record { at = (tables_of words).root root; size = size_at (tables_of words) root ((tables_of words).root root) })
  held_claim root some =
      let here : claim_at (tables_of words) root ≡ (tables_of words).root root = cond-false (eqb ((tables_of words).root root) 0) _ _ (ne_eqb ((tables_of words).root root) 0 some) in
      record { some = some; place = here; wide = ap (size_at (tables_of words) root) here }

  -- is the block that it holds
  pub block_of_claim : (root : ℕ) (claim : Claim) → (tables_of words).root root ≢ 0 → claim.root ≡ root → IsClaim (tables_of words) claim.root (range_of claim) → IsRootBlock log_rules words root (record { at = claim.at; size = claim.size })
  block_of_claim root claim some same is =
      let own : IsClaim (tables_of words) root (range_of claim) = subst (λ r. IsClaim (tables_of words) r (range_of claim)) same is in
      let held : claim_at (tables_of words) root ≡ (tables_of words).root root = (held_claim root some).place in
      let begins : (tables_of words).root root ≡ claim.at = sym held ∙ own.place in
      let wide : size_at (tables_of words) root (claim_at (tables_of words) root) ≡ claim.size = own.wide in
      record {
        named = heap_some (tables_of words) root (range_of claim) some own;
        begins = subst (λ a. a < 16384 * granules_in words) begins (begins_low root some);
        few = subst (λ n. n ≤ 16384 * granules_in words) wide (size_low root (claim_at (tables_of words) root));
      }

  -- and it is among the claims
  pub held_is_claimed : (claims : List Claim) (root : ℕ) → AreClaims (tables_of words) claims → (tables_of words).root root ≢ 0 → ¬ ((i : ℕ) → i < length claims → (claim_in claims i).root ≢ root)
  held_is_claimed claims root are some none =
      let found = are.all root (record { at = (tables_of words).root root; size = size_at (tables_of words) root ((tables_of words).root root) }) (held_claim root some) in
      none found.0 found.1 found.2

-- the heap has no block of a root that holds nothing
pub heap_nothing : (t : Tables) (root : ℕ) → t.root root ≡ 0 → heap t root ≡ None
heap_nothing t root none = cond-true (eqb (t.root root) 0) _ _ (eq-eqb (t.root root) 0 none)
