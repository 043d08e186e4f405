-- What the readers of an image need of a sound one.
use Rattle.std.proofs.Common.{◌≡◌, ◌+◌, ◌≤◌, ℕ, true, List, length, sym, ◌∙◌, arith}
use Rattle.pool_layout.specs.Header.{version_in, granules_in}
use Rattle.pool_layout.proofs.Layouts.{layout_rules}
use Rattle.image_tables.specs.Tables.{is_slab}
use Rattle.book_log.specs.Book.{Book}
use Rattle.image_reading.specs.Slabs.{IsSlabAt}
use Rattle.heap_map.proofs.Granules.{IsLaid}
use Rattle.gc_check.specs.Heap.{gc_tables}
use Rattle.gc_check.specs.Image.{IsGcSoundImage}
use Rattle.gc_search.specs.Known.{IsLogRead}
use Rattle.gc_search.proofs.Premises as premises
use Rattle.gc_search.proofs.Standing.{gc_slab}
use Rattle.gc_map.specs.GcRules.{roots_in, gc_rules}

module _ (words : List ℕ) (sound : IsGcSoundImage words) where
  pub few_granules : granules_in words ≤ 1024
  few_granules = premises.few_granules words sound.formed.header

  pub many_roots : roots_in words ≡ 4096
  many_roots = premises.many_roots words sound.formed.header

  pub roots_inside : 2048 + roots_in words ≤ length words
  roots_inside = premises.roots_inside words sound.formed.header sound.formed.size

  pub laid : IsLaid gc_rules words
  laid =
      let rules = layout_rules (version_in words) in
      record {
        extents = sound.sound.extents;
        first = (rules.first, omega (arith, rules.some_granule, sound.formed.header.valid.valid.least));
        few = omega (arith, few_granules);
      }

-- a slab of the tables is one of the words, and its header lies among them

pub is_slab-of : (words : List ℕ) (start : ℕ) → (gc_tables words).slab start ≡ true → is_slab words start ≡ true
is_slab-of words start slab = sym (gc_slab words start) ∙ slab

pub slab_at : {words : List ℕ} {log : Book} → IsLogRead words log → (start : ℕ) → (gc_tables words).slab start ≡ true → IsSlabAt words start
slab_at {words} read start slab = premises.slab_at read start (is_slab-of words start slab)
