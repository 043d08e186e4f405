-- What a variant of an arena says of images of pools: which bytes are one, and what holds of its arenas.
use Rattle.std.specs.Prelude.{◌≡◌, ℕ, ◌*◌, ◌≤◌, List, length}
use Rattle.pool_layout.specs.declared.header.PoolHeader.{PoolHeader}
use Rattle.pool_layout.specs.declared.defect.Defect.{Defect}
use Rattle.pool_layout.specs.Image.{IsImageOf, IsImageDefect, IsGcImageOf, IsGcImageDefect}
use Rattle.image_defects.specs.Defects.{IsFirstDefect}
use Rattle.gc_check.specs.Defects.{IsFirstGcDefect}
use Rattle.heap_map.specs.Rules.{MapRules}
use Rattle.heap_map.specs.LogRules.{log_rules}
use Rattle.gc_map.specs.GcRules.{gc_rules}
use Rattle.image_runs.specs.Repairs.{IsRepaired}
use Rattle.nvpool.specs.GcRepairs.{IsGcRepaired}

pub record PoolRules : Type 1 where
  -- what it says to a map of an arena
  pub maps : MapRules
  -- the bytes are the image of a pool of it, these are its words, and arena 0 has this header
  pub IsImage : List ℕ → List ℕ → PoolHeader → Type 0
  -- they are none: the first defect, and the arena that has it
  pub IsNone : List ℕ → ℕ → Defect → Type 0
  -- the first defect of the words of an arena
  pub IsFirst : List ℕ → Defect → Type 0
  -- the words of an arena, and what its repair makes of them
  pub IsRepaired : List ℕ → List ℕ → Type 0

abbrev pub log_pools : PoolRules
log_pools = record {
  maps = log_rules;
  IsImage = λ bytes words header. (image : IsImageOf bytes words) × (image.header ≡ header);
  IsNone = IsImageDefect;
  IsFirst = IsFirstDefect;
  IsRepaired = IsRepaired;
}

abbrev pub gc_pools : PoolRules
gc_pools = record {
  maps = gc_rules;
  IsImage = λ bytes words header. (image : IsGcImageOf bytes words) × (image.header ≡ header);
  IsNone = IsGcImageDefect;
  IsFirst = IsFirstGcDefect;
  IsRepaired = IsGcRepaired;
}

-- for the functions below

-- the words are those of so many arenas, which are no more and no larger than those of a pool, nor empty
pub record ArePoolWords (words : List ℕ) (header : PoolHeader) : Type 0 where
  pub size : length words ≡ header.arenas * header.granules * 2048
  pub arenas : header.arenas ≤ 16
  pub some : 1 ≤ header.granules
  pub granules : header.granules ≤ 4096
