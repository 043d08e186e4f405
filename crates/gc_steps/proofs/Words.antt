-- What the steps of root words leave, and when their places lie in the memory.
use Rattle.std.proofs.Common.{◌≡◌, ◌⊎◌, ◌==◌, ℕ, ◌*◌, ◌/◌, ◌^◌, ◌<◌, true, List, None, refl, sym, ap, subst, ◌∙◌, arith}
use Rattle.std.proofs.lemmas.Bool.{cond-false, ne_eqb}
use Rattle.pmem_lines.specs.Words.{put_word}
use Rattle.pmem_lines.specs.Pmem.{PmemState, words_of, IsPlace}
use Rattle.pmem_lines.specs.Steps.{IsQuietStep}
use Rattle.durable_steps.specs.Steps.{word_events, IsOldOrNewWord}
use Rattle.durable_steps.proofs.Steps.{word_step}
use Rattle.pool_layout.specs.Places.{root_word, granule_word}
use Rattle.image_tables.specs.Tables.{Tables, is_slab, state_word}
use Rattle.heap_model.specs.Machine.{Bounds}
use Rattle.heap_check.specs.Image.{bounds_of}
use Rattle.heap_check.proofs.Forms.{bounds_of-put_root}
use Rattle.gc_check.specs.Heap.{gc_tables}
use Rattle.gc_check.specs.Sound.{IsExtentOf, IsGcSound, IsGcExact, IsGcExactBut}
use Rattle.gc_check.specs.Image.{IsGcFormed, IsGcExactImage}
use Rattle.gc_check.specs.State.{IsEitherGcHeap}
use Rattle.gc_check.proofs.Tables.{over}
use Rattle.gc_check.proofs.RootWords.{with_word, IsComing, IsGcExact-coming, IsGoing, IsGcExactBut-going, IsGcExact-going, extent_of}
use Rattle.gc_check.proofs.Forms.{slabs_high, IsGcFormed-put_root, gc_tables-put_root}
use Rattle.gc_check.proofs.Steps.{gc_sizes, blocks_put, slabs_put, either_root, state_inside, same_bounds, classed_exact, classed_heap, classed_slabs, either_class}
use Rattle.gc_steps.specs.Roots.{root_events, IsAttachable, IsAttached, IsDetachable, IsDetached}
use Rattle.gc_steps.specs.Slabs.{normal_word, class_events, IsClassPut}

-- a root gets a block

module _ (words : List ℕ) (root word : ℕ) (may : IsAttachable words root word) where
  abbrev with_block : List ℕ
  with_block = put_word words (root_word root) word

  coming : IsComing (bounds_of words) (gc_tables words) root word may.start
  coming = record {
    but = may.image.but;
    first = (gc_sizes words may.image.formed).first;
    held = (over words).root;
    none = may.none;
    standing = may.standing;
    its = may.its;
    apart = may.apart;
  }

  exact : IsGcExactImage with_block
  exact =
      let sound = may.image.but.sound in
      let slabs = slabs_high words sound.extents in
      let tables = gc_tables-put_root words root word may.rooted ((gc_sizes words may.image.formed).inside root may.rooted) slabs in
      record {
        formed = IsGcFormed-put_root words root word may.rooted slabs may.image.formed;
        exact = subst (λ b. IsGcExact b (gc_tables with_block)) (sym (bounds_of-put_root words root word)) (subst (IsGcExact (bounds_of words)) (sym tables) (IsGcExact-coming coming));
      }

  pub attached : IsAttached words root word with_block
  attached = record {
    image = exact;
    change = record {
      bounds = bounds_of-put_root words root word;
      blocks = blocks_put words root word _ may.rooted may.image.formed may.image.but.sound (cond-false (word == 0) None _ (ne_eqb word 0 may.some));
      slabs = slabs_put words root word may.rooted may.image.formed may.image.but.sound;
    };
  }

  pub attach_crash : (image : List ℕ) → (image ≡ words) ⊎ (image ≡ with_block) → IsEitherGcHeap words with_block image
  attach_crash = either_root words root word may.rooted (record { formed = may.image.formed; sound = may.image.but.sound }) (record { formed = exact.formed; sound = exact.exact.sound })

-- a root loses its block

module _ (words : List ℕ) (root : ℕ) (may : IsDetachable words root) where
  abbrev without_block : List ℕ
  without_block = put_word words (root_word root) 0

  going : (start : ℕ) → IsExtentOf (gc_tables words) ((gc_tables words).word root) start → IsGoing (bounds_of words) (gc_tables words) root start
  going start its = record { exact = may.image.exact; held = (over words).root; some = may.some; its = its }

  formed : IsGcFormed without_block
  formed = IsGcFormed-put_root words root 0 may.rooted (slabs_high words may.image.exact.sound.extents) may.image.formed

  tables : gc_tables without_block ≡ with_word (gc_tables words) root 0
  tables = gc_tables-put_root words root 0 may.rooted ((gc_sizes words may.image.formed).inside root may.rooted) (slabs_high words may.image.exact.sound.extents)

  -- what holds of the tables holds of the image
  moved : (P : Bounds → Tables → Type 0) → P (bounds_of words) (with_word (gc_tables words) root 0) → P (bounds_of without_block) (gc_tables without_block)
  moved P p = subst (λ b. P b (gc_tables without_block)) (sym (bounds_of-put_root words root 0)) (subst (P (bounds_of words)) (sym tables) p)

  pub detached : IsDetached words root without_block
  detached = record {
    but = λ start its. record { formed = formed; but = moved (λ b t. IsGcExactBut b t start) (IsGcExactBut-going (going start its)) };
    exact = λ start its other. record { formed = formed; exact = moved IsGcExact (IsGcExact-going (going start its) other) };
    change = record {
      bounds = bounds_of-put_root words root 0;
      blocks = blocks_put words root 0 None may.rooted may.image.formed may.image.exact.sound refl;
      slabs = slabs_put words root 0 may.rooted may.image.formed may.image.exact.sound;
    };
  }

  pub detach_crash : (image : List ℕ) → (image ≡ words) ⊎ (image ≡ without_block) → IsEitherGcHeap words without_block image
  detach_crash =
      let at = extent_of may.image.exact.sound root may.some in
      either_root words root 0 may.rooted (record { formed = may.image.formed; sound = may.image.exact.sound }) (record { formed = formed; sound = moved IsGcSound (IsGcExactBut-going (going at.0 at.1)).sound })

-- the steps

-- a word's step, by the word that it stores
module _ {s t : PmemState} (at k value : ℕ) (is : at ≡ 8 * k) (step : IsQuietStep s t (word_events at value) (IsOldOrNewWord (words_of s) at value)) where
  pub stored : words_of t ≡ put_word (words_of s) k value
  stored = step.appends.words ∙ ap (λ n. put_word (words_of s) n value) (omega (arith, is))

  pub by_word : (P : List ℕ → Type 0) → ((image : List ℕ) → (image ≡ words_of s) ⊎ (image ≡ put_word (words_of s) k value) → P image) → IsQuietStep s t (word_events (8 * k) value) P
  by_word P implies = word_step at value is refl (λ image old.
      implies image (subst (λ n. (image ≡ words_of s) ⊎ (image ≡ put_word (words_of s) n value)) (eighth k) old.is)) step
    where
      eighth : (k : ℕ) → 8 * k / 8 ≡ k
      eighth k = omega arith

-- the place of a root's word
pub root_place : {s : PmemState} (root at : ℕ) → at ≡ 8 * root_word root → root < (bounds_of (words_of s)).roots → IsGcFormed (words_of s) → IsPlace s at
root_place {s} root at is below formed = record { aligned = omega (arith, is); inside = omega (arith, is, (gc_sizes (words_of s) formed).inside root below) }

pub root_few : (words : List ℕ) (root : ℕ) → root < (bounds_of words).roots → IsGcFormed words → root < 2 ^ 16
root_few words root below formed = omega (arith, below, (gc_sizes words formed).roots)

pub attach_step : {s t : PmemState} (root word at : ℕ) → at ≡ 8 * root_word root → IsAttachable (words_of s) root word → IsQuietStep s t (word_events at word) (IsOldOrNewWord (words_of s) at word) →
    IsQuietStep s t (root_events root word) (IsEitherGcHeap (words_of s) (words_of t)) × IsAttached (words_of s) root word (words_of t)
attach_step {s} {t} root word at is may step =
    let words = stored at (root_word root) word is step in (
      by_word at (root_word root) word is step (IsEitherGcHeap (words_of s) (words_of t)) (λ image old. subst (λ new. IsEitherGcHeap (words_of s) new image) (sym words) (attach_crash (words_of s) root word may image old)),
      subst (IsAttached (words_of s) root word) (sym words) (attached (words_of s) root word may),
    )

pub detach_step : {s t : PmemState} (root at : ℕ) → at ≡ 8 * root_word root → IsDetachable (words_of s) root → IsQuietStep s t (word_events at 0) (IsOldOrNewWord (words_of s) at 0) →
    IsQuietStep s t (root_events root 0) (IsEitherGcHeap (words_of s) (words_of t)) × IsDetached (words_of s) root (words_of t)
detach_step {s} {t} root at is may step =
    let words = stored at (root_word root) 0 is step in (
      by_word at (root_word root) 0 is step (IsEitherGcHeap (words_of s) (words_of t)) (λ image old. subst (λ new. IsEitherGcHeap (words_of s) new image) (sym words) (detach_crash (words_of s) root may image old)),
      subst (IsDetached (words_of s) root) (sym words) (detached (words_of s) root may),
    )

pub state_few : (words : List ℕ) (start : ℕ) → IsGcExactImage words → is_slab words start ≡ true → start < 2 ^ 16
state_few words start image slab = omega (arith, state_inside words start image slab, image.formed.size)

pub state_at : (start at : ℕ) → at ≡ 8 * granule_word start → at ≡ 8 * state_word start
state_at start at is = omega (arith, is)

pub state_place : {s : PmemState} (start at : ℕ) → at ≡ 8 * state_word start → is_slab (words_of s) start ≡ true → IsGcExactImage (words_of s) → IsPlace s at
state_place {s} start at is slab image = record { aligned = omega (arith, is); inside = omega (arith, is, state_inside (words_of s) start image slab) }

pub class_step : {s t : PmemState} (start class at value : ℕ) → at ≡ 8 * state_word start → value ≡ normal_word class → IsGcExactImage (words_of s) → is_slab (words_of s) start ≡ true → class < 36 → IsQuietStep s t (word_events at value) (IsOldOrNewWord (words_of s) at value) →
    IsQuietStep s t (class_events start class) (IsEitherGcHeap (words_of s) (words_of t)) × IsClassPut (words_of s) start class (words_of t)
class_step {s} {t} start class at value is word image slab few given =
    let step = subst (λ v. IsQuietStep s t (word_events at v) (IsOldOrNewWord (words_of s) at v)) word given in
    let words = stored at (state_word start) (normal_word class) is step in
    let put : IsClassPut (words_of s) start class (put_word (words_of s) (state_word start) (normal_word class)) = record {
      image = classed_exact (words_of s) start class image slab few;
      bounds = same_bounds (words_of s) start class image slab few;
      heap = classed_heap (words_of s) start class image slab few;
      slabs = classed_slabs (words_of s) start class image slab few;
    } in (
      by_word at (state_word start) (normal_word class) is step (IsEitherGcHeap (words_of s) (words_of t)) (λ image' old. subst (λ new. IsEitherGcHeap (words_of s) new image') (sym words) (either_class (words_of s) start class image slab few image' old)),
      subst (IsClassPut (words_of s) start class) (sym words) put,
    )
