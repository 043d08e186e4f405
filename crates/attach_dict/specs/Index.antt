-- For the functions on what a dictionary keeps beside its arena: what became of its map, its numbers and its sets of roots.
use Rattle.std.specs.Prelude.{◌≡◌, ◌≢◌, ◌⊎◌, ℕ, ◌^◌, ◌<◌, length, slice_set}
use Rattle.dict_index.specs.declared.key_map.Keyed.{Keyed}
use Rattle.dict_index.specs.KeyRoots.{IsKeyed, LacksRoot, IsNew, HasMore, HasReplaced}
use Rattle.dict_index.specs.Numbers.{AreNone}
use Rattle.attach_dict.specs.declared.index.DictIndex.{DictIndex}
use Rattle.attach_dict.specs.Dict.{stage}
use Rattle.attach_dict.specs.Roots.{IsIn, IsOut, AreNoRoots, HasMoreRoots, HasFewerRoots}

-- no key has a root, no root has a number, is free or is stale yet, and there is room for the words of a block
pub record IsBlank (index : DictIndex) (roots : ℕ) : Type 0 where
  pub keys : IsNew index.keys roots
  pub numbers : AreNone index.numbers roots
  pub free : AreNoRoots index.free roots
  pub stale : AreNoRoots index.stale roots
  pub wide : length index.block.items ≡ 512

-- a root may lose its number and be free
pub record MayGo (index : DictIndex) (root : ℕ) : Type 0 where
  pub numbered : root < length index.numbers
  pub low : root < index.free.below
  pub out : IsOut index.free root

-- a root has no number any more, and is free
pub record IsReleased (old : DictIndex) (root : ℕ) (new : DictIndex) : Type 0 where
  pub keys : new.keys ≡ old.keys
  pub numbers : new.numbers ≡ slice_set old.numbers root 0
  pub free : HasMoreRoots old.free root new.free
  pub stale : new.stale ≡ old.stale
  pub block : new.block ≡ old.block

-- a root may get a key: it is free and has none, and no root with a key is stale
pub record MayComeNext (index : DictIndex) (root : ℕ) : Type 0 where
  pub low : root < index.keys.roots
  pub numbered : root < length index.numbers
  pub fresh : LacksRoot index.keys root
  pub free : IsIn index.free root
  pub tidy : (r : Keyed) → IsKeyed index.keys r → IsOut index.stale r.root
  pub below : (r : Keyed) → IsKeyed index.keys r → r.root < index.stale.below

-- the root that a key had before, if it had one, is stale now
abbrev pub IsPutOver : DictIndex → Keyed → DictIndex → Type 0
IsPutOver old more new =
    (HasMore old.keys more new.keys × (new.stale ≡ old.stale)) ⊎ ((was : Keyed) × HasReplaced old.keys was more new.keys × HasMoreRoots old.stale was.root new.stale)

-- a free root got a key, of 64 bits, and a number
pub record HasPutPair (old : DictIndex) (more : Keyed) (number : ℕ) (new : DictIndex) : Type 0 where
  pub narrow : more.key < 2 ^ 64
  pub keys : IsPutOver old more new
  pub numbers : new.numbers ≡ slice_set old.numbers more.root number
  pub free : HasFewerRoots old.free more.root new.free
  pub block : new.block ≡ old.block

-- a stale root may go: where it is not the stage, it loses its number too
pub record MayDrop (index : DictIndex) (root : ℕ) : Type 0 where
  pub stale : IsIn index.stale root
  pub pair : root ≢ stage → MayGo index root

-- a stale root is so no more, and is free where it is not the stage
pub record HasDroppedStale (old : DictIndex) (root : ℕ) (new : DictIndex) : Type 0 where
  pub stale : HasFewerRoots old.stale root new.stale
  pub pair : ((root ≡ stage) × (new ≡ record old { stale = new.stale })) ⊎ ((root ≢ stage) × IsReleased (record old { stale = new.stale }) root new)
