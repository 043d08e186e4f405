-- The first defect of an image.
use Rattle.std.proofs.Common.{◌≡◌, ℕ, List}
use Rattle.pool_layout.specs.declared.header.PoolVariant.TheVariants.{Gc}
use Rattle.pool_layout.specs.declared.defect.Defect.{Defect}
use Rattle.image_defects.proofs.DefectClasses.{IsClass, one_from, none_from, header, size, directory, entries, extents}
use Rattle.gc_check.specs.Heap.{gc_tables}
use Rattle.gc_check.specs.Image.{AreNormalSlabs}
use Rattle.gc_check.specs.Defects.{IsGcSlabDefect, IsGcRootDefect, AreGcStanding, IsGcSharedDefect, AreGcUnshared, IsFirstGcDefect, IsGcFaultless}
use Rattle.gc_check.proofs.Classes as own

-- the classes of this variant alone

slabs : (words : List ℕ) → IsClass (IsGcSlabDefect words) (AreNormalSlabs words)
slabs words = record { bad = own.slab_bad words; once = own.slab_once words }

roots : (words : List ℕ) → IsClass (IsGcRootDefect words) (AreGcStanding (gc_tables words))
roots words = record { bad = own.root_bad words; once = own.root_once words }

shared : (words : List ℕ) → IsClass (IsGcSharedDefect words) (AreGcUnshared (gc_tables words))
shared words = record { bad = own.shared_bad words; once = own.shared_once words }

-- the order

pub one_defect : (words : List ℕ) (d e : Defect) → IsFirstGcDefect words d → IsFirstGcDefect words e → d ≡ e
one_defect words =
    one_from (header Gc words) (one_from (size words) (one_from (directory words) (one_from (entries words) (one_from (extents words)
    (one_from (slabs words) (one_from (roots words) (one_from (shared words) (own.loose_once words))))))))

pub no_defect : (words : List ℕ) (d : Defect) → IsGcFaultless words → ¬ (IsFirstGcDefect words d)
no_defect words d f =
    none_from (header Gc words) f.header (none_from (size words) f.size (none_from (directory words) f.directory (none_from (entries words) f.entries
    (none_from (extents words) f.disjoint (none_from (slabs words) f.slabs (none_from (roots words) f.standing (none_from (shared words) f.apart
    (λ d is. own.loose_bad words d is f.few)))))))) d
