-- Images of pools: one of the LOG variant has its text.
use Rattle.std.proofs.Common.{◌≡◌, ◌≢◌, ℕ, ◌*◌, List, length, Result, Ok, Err, refl, sym, ◌∙◌, arith}
use Rattle.std.specs.Result.{IfOk, OnOk}
use Rattle.pool_layout.specs.declared.header.PoolHeader.{PoolHeader}
use Rattle.pool_layout.specs.declared.header.PoolVariant.TheVariants.{Log}
use Rattle.pool_layout.specs.Header.{header_text, gc_text}
use Rattle.pool_layout.specs.Image.{AreWordsOf, IsPoolImage, IsGcPoolImage, IsImageOf}
use Rattle.pool_layout.proofs.Layouts.{layout_rules}
use Rattle.pool_layout.proofs.Images.{some_granules}
use Rattle.pool_layout.proofs.OneImage.{image_text}
use Rattle.nvpool.specs.Rules.{ArePoolWords, log_pools, gc_pools}
use Rattle.nvpool.specs.Variants.{HasGcText}
use Rattle.nvpool.proofs.Answering.{ok_more}

-- the texts of the variants differ
texts_differ : header_text ≢ gc_text
unfolding header_text gc_text
texts_differ is = absurd (omega (arith, is))

-- an image of the LOG variant begins with its own
pub log_text : (input words : List ℕ) → IsImageOf input words → ¬ (HasGcText input)
log_text input words image is = texts_differ (sym (image_text Log input words image) ∙ is)

-- what the header of an image says of its words

pub log_words : {E : Type 0} (result : Result PoolHeader E) (words : List ℕ) → IfOk result (IsPoolImage words) → IfOk result (ArePoolWords words)
log_words result words =
    ok_more result (IsPoolImage words) (ArePoolWords words)
    (λ header pool. let valid = pool.first.valid in record { size = pool.size; arenas = valid.most; some = some_granules header valid; granules = omega (arith, valid.greatest, (layout_rules header.version).most) })

pub gc_words : {E : Type 0} (result : Result PoolHeader E) (words : List ℕ) → IfOk result (IsGcPoolImage words) → IfOk result (ArePoolWords words)
gc_words result words =
    ok_more result (IsGcPoolImage words) (ArePoolWords words)
    (λ header pool. let valid = pool.first.valid.valid in record { size = pool.size; arenas = valid.most; some = some_granules header valid; granules = omega (arith, valid.greatest, (layout_rules header.version).most) })

-- and that the bytes are one

pub log_image : {E : Type 0} (result : Result PoolHeader E) (words : List ℕ) (size : ℕ) → OnOk result (size ≡ 8 * length words) → IfOk result (IsPoolImage words) → IfOk result (λ header. (image : List ℕ) → AreWordsOf words size image → log_pools.IsImage image words header)
log_image (Ok header) words size whole pool = λ image are. (record { words_are = are.words_are; whole = sym are.size_is ∙ whole; header = header; pool = pool }, refl)
log_image (Err error) words size whole pool = tt

pub gc_image : {E : Type 0} (result : Result PoolHeader E) (words : List ℕ) (size : ℕ) → OnOk result (size ≡ 8 * length words) → IfOk result (IsGcPoolImage words) → IfOk result (λ header. (image : List ℕ) → AreWordsOf words size image → gc_pools.IsImage image words header)
gc_image (Ok header) words size whole pool = λ image are. (record { words_are = are.words_are; whole = sym are.size_is ∙ whole; header = header; pool = pool }, refl)
gc_image (Err error) words size whole pool = tt
