-- What the outside tells: the bytes of a source and a sink, where they tell them, and what stands on a shelf, where it tells that.
use Rattle.std.specs.Prelude.{◌≡◌, ℕ, suc, List, [], ◌∷◌, length, Option, Some, None, slice_set}
use Rattle.pmem_lines.specs.Pmem.{PmemState}

-- what the outside tells: the bytes that the source has left, those that the sink took, what stands in the places of
-- the shelf, and how many devices the shelf made of images
pub record Outside : Type 0 where
  pub left : Option (List ℕ)
  pub taken : Option (List ℕ)
  pub places : Option (List (Option PmemState))
  pub images : ℕ

-- what a source, a sink and a shelf tell, by what their types tell
abbrev pub told_by : {S K H : Type 0} → (S → Option (List ℕ)) → (K → Option (List ℕ)) → (H → Option (List (Option PmemState))) → (H → ℕ) → S → K → H → Outside
told_by left taken places images source sink shelf = record { left = left source; taken = taken sink; places = places shelf; images = images shelf }

-- a shelf that tells its places has 16
abbrev pub HasSixteen : Option (List (Option PmemState)) → Type 0
HasSixteen (Some places) = length places ≡ 16
HasSixteen None = Unit {0}

-- a place of a shelf is set
abbrev pub put_device : Option (List (Option PmemState)) → ℕ → PmemState → Option (List (Option PmemState))
put_device (Some places) arena state = Some (slice_set places arena (Some state))
put_device None arena state = None

-- places of a shelf are set, from one on
abbrev pub put_devices : Option (List (Option PmemState)) → ℕ → List PmemState → Option (List (Option PmemState))
put_devices places arena [] = places
put_devices places arena (device ∷ devices) = put_device (put_devices places (suc arena) devices) arena device
