-- What recovery leaves of the words of an arena of version 1; a header line says one header.
use Rattle.std.proofs.Common.{◌≡◌, ⊎_elim, ℕ, List, sym, ap, ◌∙◌, arith}
use Rattle.pool_layout.specs.declared.header.PoolHeader.{PoolHeader}
use Rattle.pool_layout.specs.declared.defect.Defect.{Defect}
use Rattle.pool_layout.specs.Header.{version_field, granules_field, fields_of, version_in, granules_in, IsHeader, IsHeaderDefect}
use Rattle.pool_layout.proofs.Headers.{fields_of-header_word, header_fits}
use Rattle.heap_check.specs.Image.{header_in, IsSoundImage, IsExactImage}
use Rattle.image_defects.specs.Defects.{IsFirstDefect}
use Rattle.image_check.specs.declared.fault.CheckFault.{CheckFault}
use Rattle.image_check.specs.declared.fault.CheckFault.TheVariants as checks
use Rattle.image_check.specs.Faults.{IfDefect}
use Rattle.settle_steps.specs.Settled.{KeepsHeap}
use Rattle.recovery_steps.specs.Parts.{IsLeft}
use Rattle.pool_migrate.specs.Faults.{IsCause, of_check}
use Rattle.pool_migrate.specs.Migrated.{HasVersion, IsMadeExact}

-- a header line says one header
pub header_is : (words : List ℕ) (header : PoolHeader) → IsHeader words header → header_in words ≡ header
header_is words header line = ap fields_of line.word ∙ fields_of-header_word header (header_fits header line.valid)

pub version_is : (words : List ℕ) (header : PoolHeader) (version : ℕ) → IsHeader words header → HasVersion words version → header.version ≡ version
version_is words header version line has = ap (λ (h : PoolHeader). h.version) (sym (header_is words header line) ∙ header_is words has.header has.line) ∙ has.same

-- a bad header line says none
pub none_said : (words : List ℕ) (defect : Defect) (version : ℕ) → IsHeaderDefect words defect → HasVersion words version → ⊥
none_said words defect version bad has = ⊎_elim
    (λ short. omega (arith, short.0, has.line.whole))
    (λ line. ⊎_elim (λ text. text.0 has.line.text) (λ fields. fields.1 (has.header, has.line.valid, has.line.word)) line.1)
    bad

pub granules_is : (words : List ℕ) (header : PoolHeader) → IsHeader words header → header.granules ≡ granules_in words
granules_is words header line = ap (λ (h : PoolHeader). h.granules) (sym (header_is words header line))

-- words that recovery left
pub made_of : (words exact : List ℕ) → IsSoundImage words → version_in words ≡ 1 → IsExactImage exact → KeepsHeap words exact → IsLeft words exact → IsMadeExact words exact
made_of words exact sound version image keeps left = record {
  image = image;
  version = ap version_field left.header ∙ version;
  granules = ap granules_field left.header;
  heap = keeps.heap;
  blocks = keeps.blocks;
  slabs = left.slabs;
}

-- the fault of a check is a cause
pub check_cause : (words : List ℕ) (fault : CheckFault) → IfDefect fault (IsFirstDefect words) → IsCause words (of_check fault)
check_cause words (checks.Memory error) is = is
check_cause words (checks.Defect defect) is = is
