-- The block of a root.
use Rattle.std.specs.Prelude.{◌≡◌, ℕ, ◌*◌, ◌≤◌, ◌<◌, List, Some}
use Rattle.pool_layout.specs.Header.{granules_in}
use Rattle.heap_map.specs.declared.block.RootBlock.{RootBlock}
use Rattle.heap_map.specs.Rules.{MapRules}

-- the root has this block: it begins in the arena, and is no larger than that
pub record IsRootBlock (r : MapRules) (words : List ℕ) (root : ℕ) (block : RootBlock) : Type 0 where
  pub named : r.block words root ≡ Some (record { at = block.at; size = block.size })
  pub begins : block.at < 16384 * granules_in words
  pub few : block.size ≤ 16384 * granules_in words
