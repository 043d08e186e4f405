-- The kinds of loose things.
use Rattle.std.specs.Prelude.{ℕ}
use Rattle.image_tables.specs.Tables.{Tables}
use Rattle.heap_check.specs.Sound.{IsLooseLarge, IsEmptySlab}
use Rattle.gc_recovery_steps.specs.declared.search.Loose.{Loose}
use Rattle.gc_recovery_steps.specs.declared.search.Loose.TheVariants.{Large, Empty}

-- a loose thing of the kind starts at a granule
abbrev pub IsLooseOf : Loose → Tables → ℕ → Type 0
IsLooseOf Large = IsLooseLarge
IsLooseOf Empty = IsEmptySlab
