-- A large extent that no root holds is dropped: when it may be, and what it leaves. Its events are those of the Tomb.
use Rattle.std.specs.Prelude.{◌≡◌, ℕ, List, None}
use Rattle.image_tables.specs.Tables.{tables_of}
use Rattle.image_tables.specs.Updates.{put_at}
use Rattle.heap_check.specs.Sound.{IsLooseLarge, LoosensNothing}
use Rattle.heap_check.specs.Image.{bounds_of, IsSteadyImage}
use Rattle.heap_check.specs.State.{HaveSameHeap}
use Rattle.log_steps.specs.Log.{KeepsRest}

-- the image is steady, no entry is open, and no root holds the extent
pub record IsLooseExtent (words : List ℕ) (start : ℕ) : Type 0 where
  pub image : IsSteadyImage words
  pub closed : (tables_of words).open_entry ≡ None
  pub loose : IsLooseLarge (tables_of words) start

-- the extent is gone, and the image says the same of all else; it is steady, and nothing comes to be loose
pub record IsExtentGone (words : List ℕ) (start : ℕ) (new : List ℕ) : Type 0 where
  pub image : IsSteadyImage new
  pub bounds : bounds_of new ≡ bounds_of words
  pub tables : tables_of new ≡ record (tables_of words) { large = put_at (tables_of words).large start 0 }
  pub heap : HaveSameHeap words new
  pub loose : LoosensNothing (tables_of words) (tables_of new)
  pub rest : KeepsRest words new
