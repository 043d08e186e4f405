-- Defects of the roots: one that holds an address at which no block may stand.
use Rattle.std.specs.Prelude.{◌≡◌, ◌≢◌, ℕ, List}
use Rattle.pool_layout.specs.declared.defect.Defect.{Defect}
use Rattle.pool_layout.specs.declared.defect.Defect.TheVariants.{StrayRoot}
use Rattle.image_tables.specs.Tables.{Tables, tables_of}
use Rattle.heap_check.specs.Sound.{IsStanding}
use Rattle.image_defects.specs.Least.{IsLeast}

-- what each root holds stands where a block may
abbrev pub AreStanding : Tables → Type 0
AreStanding t = (root : ℕ) → t.root root ≢ 0 → IsStanding t root (t.root root)

-- a root holds an address at which no block may stand
pub record IsStrayRoot (t : Tables) (root : ℕ) : Type 0 where
  pub some : t.root root ≢ 0
  pub stray : ¬ (IsStanding t root (t.root root))

-- the lowest such root
pub record IsRootDefect (words : List ℕ) (defect : Defect) : Type 0 where
  pub root : ℕ
  pub first : IsLeast (IsStrayRoot (tables_of words)) root
  pub is : defect ≡ StrayRoot root ((tables_of words).root root)
