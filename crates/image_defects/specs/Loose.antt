-- Defects of loose things: more of one kind than one call can leave.
use Rattle.std.specs.Prelude.{◌≡◌, ◌⊎◌, ℕ, ◌<◌, List}
use Rattle.pool_layout.specs.declared.defect.Defect.{Defect}
use Rattle.pool_layout.specs.declared.defect.Defect.TheVariants.{TooManyLoose}
use Rattle.pool_layout.specs.Header.{granules_in}
use Rattle.image_tables.specs.Tables.{Tables, tables_of}
use Rattle.heap_check.specs.Sound.{IsLooseLarge, IsEmptySlab, IsMorphing, IsDoneSlab}
use Rattle.image_defects.specs.declared.found.Loose.{Loose}
use Rattle.image_defects.specs.Count.{IsCount}

-- the counts of the four kinds, among so many granules
pub record AreLoose (t : Tables) (granules : ℕ) (loose : Loose) : Type 0 where
  pub large : IsCount (IsLooseLarge t) granules loose.large
  pub empty : IsCount (IsEmptySlab t) granules loose.empty
  pub morphing : IsCount (IsMorphing t) granules loose.morphing
  pub done : IsCount (IsDoneSlab t) granules loose.done

-- one of them is above 1
abbrev pub IsTooMany : Loose → Type 0
IsTooMany loose = (1 < loose.large) ⊎ ((1 < loose.empty) ⊎ ((1 < loose.morphing) ⊎ (1 < loose.done)))

pub record IsLooseDefect (words : List ℕ) (defect : Defect) : Type 0 where
  pub loose : Loose
  pub are : AreLoose (tables_of words) (granules_in words) loose
  pub many : IsTooMany loose
  pub is : defect ≡ TooManyLoose loose.large loose.empty loose.morphing loose.done
