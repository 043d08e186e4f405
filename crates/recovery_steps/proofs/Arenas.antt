-- What the readers of an image have to know of a sound one.
use Rattle.std.proofs.Common.{◌≡◌, ◌+◌, ◌<◌, ◌≤◌, ℕ, true, List, length, sym, ◌∙◌, arith}
use Rattle.recovery_steps.proofs.Common.{layout_of, version_in, granules_in, tables_of, slab_table, IsSoundImage, IsSteadyImage, granules_at-slab, granules_at-live, sizes_of, few_entries}
use Rattle.image_reading.specs.Slabs.{IsSlabAt}
use Rattle.defect_search.specs.Arena.{IsArena}
use Rattle.recovery_steps.specs.declared.search.Loose.{Loose}
use Rattle.recovery_steps.specs.declared.search.Loose.TheVariants.{Morphing, Large, Empty, Done}
use Rattle.recovery_steps.specs.Kinds.{IsLooseOf}

-- a steady image is sound
pub sound_of : (words : List ℕ) → IsSteadyImage words → IsSoundImage words
sound_of words image = record { formed = image.formed; sound = image.steady.sound }

-- the words of an arena, whose live extents lie in it
pub arena_of : (words : List ℕ) → IsSoundImage words → IsArena words
arena_of words image =
    let sizes = sizes_of words image.formed in
    record {
      version = image.formed.header.valid.version;
      granules = record { least = sizes.least; most = omega (arith, sizes.most) };
      least = image.formed.header.valid.least;
      size = sizes.size;
      large = λ start some.
          let whole = granules_at-live image.sound start some in
          let lies = image.sound.extents.starts start (omega (arith, whole, some)) in
          (lies.0, omega (arith, lies.1, whole));
      slab = λ start slab.
          let four = granules_at-slab (tables_of words) start (slab_table words start ∙ slab) in
          let lies = image.sound.extents.starts start (omega (arith, four)) in
          (lies.0, omega (arith, lies.1, four));
      entries = few_entries words image.sound;
    }

-- the words of its roots lie inside
pub roots_lie : (words : List ℕ) → IsSoundImage words → 2048 + (layout_of (version_in words)).roots ≤ length words
roots_lie words image = let sizes = sizes_of words image.formed in omega (arith, sizes.roots, sizes.size, sizes.least)

-- extents begin below the number of granules

pub slab_inside : (words : List ℕ) → IsSoundImage words → (start : ℕ) → (tables_of words).slab start ≡ true → start < granules_in words
slab_inside words image start slab =
    let lies = (arena_of words image).slab start (sym (slab_table words start) ∙ slab) in
    omega (arith, lies.1)

pub large_inside : (words : List ℕ) → IsSoundImage words → (start : ℕ) → 0 < (tables_of words).large start → start < granules_in words
large_inside words image start some =
    let lies = (arena_of words image).large start some in
    omega (arith, lies.1, some)

pub loose_inside : (words : List ℕ) → IsSoundImage words → (kind : Loose) (start : ℕ) → IsLooseOf kind (tables_of words) start → start < granules_in words
loose_inside words image Morphing start loose = slab_inside words image start loose.slab
loose_inside words image Large start loose = large_inside words image start loose.live
loose_inside words image Empty start loose = slab_inside words image start loose.slab
loose_inside words image Done start loose = slab_inside words image start loose.slab

-- and slabs in the heap
pub slab_low : (words : List ℕ) → IsSoundImage words → (start : ℕ) → (tables_of words).slab start ≡ true → (layout_of (version_in words)).first_granule ≤ start
slab_low words image start slab =
    let four = granules_at-slab (tables_of words) start slab in
    (image.sound.extents.starts start (omega (arith, four))).0

-- and their headers lie among the words
pub slab_at : (words : List ℕ) → IsSoundImage words → (start : ℕ) → (tables_of words).slab start ≡ true → IsSlabAt words start
slab_at words image start slab =
    let sizes = sizes_of words image.formed in
    let here = sym (slab_table words start) ∙ slab in
    let lies = (arena_of words image).slab start here in
    record { slab = here; inside = omega (arith, lies.1, sizes.size); small = omega (arith, lies.1, sizes.most) }
