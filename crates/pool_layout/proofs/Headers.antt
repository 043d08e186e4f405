-- The second word of a header line and what it says are inverse to each other; which variant's header it is.
use Rattle.std.proofs.Common.{◌≡◌, ◌≢◌, ℕ, List, [], ◌∷◌, length, ap, subst, sym, ◌∙◌, arith}
use Rattle.pmem_lines.specs.Words.{word_at}
use Rattle.pool_layout.specs.declared.header.PoolHeader.{PoolHeader}
use Rattle.pool_layout.specs.declared.header.PoolVariant.{PoolVariant}
use Rattle.pool_layout.specs.declared.header.PoolVariant.TheVariants.{Log, Gc}
use Rattle.pool_layout.specs.Places.{text_word}
use Rattle.pool_layout.specs.Header.{gc_text, version_field, number_field, granules_field, arenas_field, fields_of, header_word, FitsWord, IsPoolHeader, IsHeaderFor}
use Rattle.pool_layout.proofs.Layouts.{layout_rules}

pub fields_of-header_word : (header : PoolHeader) → FitsWord header → fields_of (header_word header) ≡ header
fields_of-header_word header fits =
    let version : version_field (header_word header) ≡ header.version = omega (arith, fits.version) in
    let number : number_field (header_word header) ≡ header.number = omega (arith, fits.version, fits.number) in
    let arenas : arenas_field (header_word header) ≡ header.arenas = omega (arith, fits.version, fits.number, fits.granules, fits.arenas) in
    let granules : granules_field (header_word header) ≡ header.granules = omega (arith, fits.version, fits.number, fits.granules) in
    λ k. record { version = version k; number = number k; arenas = arenas k; granules = granules k }

-- the fields of a header that a pool may have fit the word
pub header_fits : (header : PoolHeader) → IsPoolHeader header → FitsWord header
header_fits header valid =
    let rules = layout_rules header.version in
    record {
      version = omega (arith, valid.version.most);
      number = omega (arith, valid.number, valid.most);
      arenas = omega (arith, valid.most);
      granules = omega (arith, valid.greatest, rules.most);
    }

-- what a pool of a variant may have is the header of a pool
pub valid_header : (variant : PoolVariant) (header : PoolHeader) → IsHeaderFor variant header → IsPoolHeader header
valid_header Log header is = is
valid_header Gc header is = is.valid

-- a word says one header at most
pub no_header : (variant : PoolVariant) (word : ℕ) → ¬ (IsHeaderFor variant (fields_of word)) → (header : PoolHeader) → word ≡ header_word header → ¬ (IsHeaderFor variant header)
no_header variant word none header is valid =
    none (subst (IsHeaderFor variant) (sym (ap fields_of is ∙ fields_of-header_word header (header_fits header (valid_header variant header valid)))) valid)

-- no words begin with no text
pub no_text : (words : List ℕ) → length words ≡ 0 → word_at words text_word ≢ gc_text
unfolding word_at gc_text
no_text [] none is = absurd (omega (arith, is))
no_text (w ∷ words) none is = absurd (omega (arith, none))
