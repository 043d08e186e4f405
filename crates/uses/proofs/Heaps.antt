-- The stage of a stack is a root of an arena of any version, and a record has a class of 64 bytes.
use Rattle.std.proofs.Common.{◌≡◌, ℕ, ◌-◌, ◌*◌, ◌<◌, ◌≤◌, List, ap, arith}
use Rattle.size_classes.specs.Classes.{sizes, class_size, IsClassOf}
use Rattle.size_classes.proofs.Least.{low_class}
use Rattle.pool_layout.specs.declared.layout.Layout.{Layout}
use Rattle.pool_layout.specs.Layout.{layout_of, IsLayout}
use Rattle.pool_layout.specs.Header.{version_in}
use Rattle.pool_layout.proofs.Layouts.{layout_rules, first_row}
use Rattle.heap_model.proofs.Sites.{class_once}
use Rattle.heap_check.specs.Image.{bounds_of, IsExactImage}
use Rattle.uses.specs.Stack.{stage}

-- the stage is a root of every version
pub stage_rooted : (words : List ℕ) → stage < (bounds_of words).roots
stage_rooted words =
    let first : (layout_of 1).roots ≡ 4096 = ap (λ (r : Layout). r.roots) first_row in
    omega (arith, first, (layout_rules (version_in words)).least_roots)

-- the heap of an exact image has 64 bytes
pub record_fits : (words : List ℕ) → IsExactImage words → 64 ≤ ((bounds_of words).granules - (bounds_of words).first) * 16384
record_fits words image =
    let rules : IsLayout (layout_of (version_in words)) = layout_rules (version_in words) in
    omega (arith, rules.some_granule, image.formed.header.valid.least)

-- the class of 64 bytes has just these
pub class_64 : (class : ℕ) → IsClassOf 64 class → class_size class ≡ 64
unfolding class_size sizes
class_64 class is = ap class_size (class_once 64 class 3 is (low_class 64 (omega arith) (omega arith)))
