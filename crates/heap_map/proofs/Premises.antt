-- What the readers of an image need of a sound one.
use Rattle.std.proofs.Common.{◌+◌, ◌<◌, ◌≤◌, ℕ, List, length, arith}
use Rattle.pool_layout.specs.Layout.{layout_of}
use Rattle.pool_layout.specs.Header.{version_in, granules_in}
use Rattle.heap_check.specs.Image.{IsSoundImage}
use Rattle.heap_check.proofs.Sizes.{sizes_of}
use Rattle.image_defects.proofs.Faultless.{faultless_of}
use Rattle.image_reading.specs.Extents.{HasExtents}
use Rattle.image_reading.specs.Held.{AreSlabsAt}
use Rattle.defect_search.specs.Arena.{IsArena}
use Rattle.image_check.proofs.Premises as premises
use Rattle.heap_map.specs.LogRules.{log_rules}
use Rattle.heap_map.proofs.Granules.{IsLaid}

module _ (words : List ℕ) (sound : IsSoundImage words) where
  pub arena_of : IsArena words
  arena_of =
      let f = faultless_of words sound in
      premises.arena_of words f.header f.size (premises.log_of_parts words f.directory f.entries) f.slabs

  pub roots_inside : 2048 + (layout_of (version_in words)).roots ≤ length words
  roots_inside = let f = faultless_of words sound in premises.roots_inside words f.header f.size

  pub extents_of : HasExtents words
  extents_of = let f = faultless_of words sound in premises.extents_of words f.header (premises.log_of_parts words f.directory f.entries)

  pub slabs_of : AreSlabsAt words
  slabs_of =
      let f = faultless_of words sound in
      premises.slabs_at words (premises.slabs_inside words f.size extents_of) f.slabs

  -- an arena has few granules, and the heap begins among the first of them
  pub few_granules : granules_in words ≤ 4096
  few_granules = (sizes_of words sound.formed).most

  pub laid : IsLaid log_rules words
  laid = record { extents = sound.sound.extents; first = (sizes_of words sound.formed).first; few = few_granules }

  pub few_first : (layout_of (version_in words)).first_granule < 4096
  few_first = let sizes = sizes_of words sound.formed in omega (arith, sizes.first, sizes.most)
