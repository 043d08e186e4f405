-- The first defect of an image.
use Rattle.std.proofs.Common.{◌≡◌, ℕ, List}
use Rattle.pool_layout.specs.declared.header.PoolVariant.TheVariants.{Log}
use Rattle.pool_layout.specs.declared.defect.Defect.{Defect}
use Rattle.image_tables.specs.Tables.{tables_of}
use Rattle.image_defects.specs.Headers.{AreGoodSlabs, IsSlabDefect}
use Rattle.image_defects.specs.Wal.{IsGoodWal, IsWalDefect}
use Rattle.image_defects.specs.Roots.{AreStanding, IsRootDefect}
use Rattle.image_defects.specs.Blocks.{AreUnshared, IsSharedDefect, AreRooted, IsBitDefect}
use Rattle.image_defects.specs.Defects.{IsFirstDefect, IsFaultless}
use Rattle.image_defects.proofs.DefectClasses.{IsClass, one_from, none_from, header, size, directory, entries, extents}
use Rattle.image_defects.proofs.SlabDefects.{slab_bad, slab_once}
use Rattle.image_defects.proofs.WalDefects.{wal_bad, wal_once}
use Rattle.image_defects.proofs.BlockDefects as blocks

-- the classes of this variant alone

slabs : (words : List ℕ) → IsClass (IsSlabDefect words) (AreGoodSlabs words)
slabs words = record { bad = slab_bad words; once = slab_once words }

wal : (words : List ℕ) → IsClass (IsWalDefect words) (IsGoodWal words)
wal words = record { bad = wal_bad words; once = wal_once words }

roots : (words : List ℕ) → IsClass (IsRootDefect words) (AreStanding (tables_of words))
roots words = record { bad = blocks.root_bad words; once = blocks.root_once words }

shared : (words : List ℕ) → IsClass (IsSharedDefect words) (AreUnshared (tables_of words))
shared words = record { bad = blocks.shared_bad words; once = blocks.shared_once words }

bits : (words : List ℕ) → IsClass (IsBitDefect words) (AreRooted (tables_of words))
bits words = record { bad = blocks.bit_bad words; once = blocks.bit_once words }

-- the order

pub one_defect : (words : List ℕ) (d e : Defect) → IsFirstDefect words d → IsFirstDefect words e → d ≡ e
one_defect words =
    one_from (header Log words) (one_from (size words) (one_from (directory words) (one_from (entries words) (one_from (extents words)
    (one_from (slabs words) (one_from (wal words) (one_from (roots words) (one_from (shared words) (one_from (bits words) (blocks.loose_once words))))))))))

pub no_defect : (words : List ℕ) (d : Defect) → IsFaultless words → ¬ (IsFirstDefect words d)
no_defect words d f =
    none_from (header Log words) f.header (none_from (size words) f.size (none_from (directory words) f.directory (none_from (entries words) f.entries
    (none_from (extents words) f.disjoint (none_from (slabs words) f.slabs (none_from (wal words) f.wal (none_from (roots words) f.standing
    (none_from (shared words) f.apart (none_from (bits words) f.rooted (λ d is. blocks.loose_bad words d is f.few)))))))))) d
