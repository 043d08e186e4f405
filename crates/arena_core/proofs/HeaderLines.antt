-- The header line of a new arena of a variant: the words that it leaves, and those that a crash leaves.
use Rattle.std.proofs.Common.{◌≡◌, ◌≢◌, ◌⊎◌, ℕ, zero, suc, ◌*◌, ◌≤◌, List, length, take, refl, sym, ap, subst, ◌∙◌, arith, inl, inr}
use Rattle.pmem_lines.specs.Words.{word_at, put_word, AreZeros}
use Rattle.pmem_lines.specs.Events.{reading, IsQuiet, CrashOnly}
use Rattle.pmem_lines.specs.Pmem.{PmemState, words_of, began, Appends}
use Rattle.pmem_lines.proofs.Words.{length-put_word, word_at-put_same, word_at-put_other}
use Rattle.pmem_lines.proofs.States.{quiet_after}
use Rattle.pmem_lines.proofs.Images.{by_prefixes}
use Rattle.pool_layout.specs.declared.header.PoolHeader.{PoolHeader}
use Rattle.pool_layout.specs.declared.header.PoolVariant.{PoolVariant}
use Rattle.pool_layout.specs.declared.header.PoolVariant.TheVariants.{Log, Gc}
use Rattle.pool_layout.specs.declared.defect.Defect.TheVariants.{BadHeader}
use Rattle.pool_layout.specs.Layout.{layout_of}
use Rattle.pool_layout.specs.Places.{text_word, fields_word, directory_word}
use Rattle.pool_layout.specs.Header.{header_text, gc_text, text_of, header_word, IsHeaderFor, IsLineDefect}
use Rattle.pool_layout.proofs.Headers.{valid_header}
use Rattle.pool_layout.proofs.Layouts.{layout_rules}
use Rattle.book_log.specs.Book.{HasLog}
use Rattle.heap_check.specs.Formatted.{IsFormattedAs}
use Rattle.heap_check.proofs.Formatted.{header_is, fresh_log}
use Rattle.arena_core.specs.Call.{IsReady}
use Rattle.arena_core.specs.Events.{line_events}

text_some : (variant : PoolVariant) → text_of variant ≢ 0
unfolding header_text gc_text
text_some Log none = omega (arith, none)
text_some Gc none = omega (arith, none)

module _ (variant : PoolVariant) (words : List ℕ) (header : PoolHeader) where
  abbrev one : List ℕ
  one = put_word words fields_word (header_word header)

  abbrev two : List ℕ
  two = put_word one directory_word 1

  abbrev pub written : List ℕ
  written = put_word two text_word (text_of variant)

  -- what is read in the end
  pub reading-line : reading words (line_events variant header) ≡ written
  unfolding line_events
  reading-line = refl

  module _ (zeros : AreZeros words) (valid : IsHeaderFor variant header) (size : length words ≡ 2048 * header.granules) where
    long : 8 ≤ length words
    long = omega (arith, size, (valid_header variant header valid).least, (layout_rules header.version).least)

    pub formatted-written : IsFormattedAs variant written header
    formatted-written = grind (arith, long, length-put_word, word_at-put_same, word_at-put_other)

    module _ (IsGood : List ℕ → Type 0) (good : IsGood written) where
      -- without its text the header is refused
      refused : (image : List ℕ) → length image ≡ length words → word_at image text_word ≡ 0 → IsLineDefect variant image (BadHeader 0 0) ⊎ IsGood image
      refused image same none = inl (inr (omega (arith, same, long), inl ((λ is. text_some variant (sym is ∙ none)), ap (BadHeader 0) (sym none))))

      each_prefix : (k : ℕ) → IsLineDefect variant (reading words (take k (line_events variant header))) (BadHeader 0 0) ⊎ IsGood (reading words (take k (line_events variant header)))
      unfolding line_events
      each_prefix zero = refused words refl (zeros.each 0)
      each_prefix (suc zero) = grind (arith, refused, length-put_word, word_at-put_other)
      each_prefix (suc (suc zero)) = grind (arith, refused, length-put_word, word_at-put_other)
      each_prefix (suc (suc (suc zero))) = inr good
      each_prefix (suc (suc (suc (suc zero)))) = inr good
      each_prefix (suc (suc (suc (suc (suc zero))))) = inr good
      each_prefix (suc (suc (suc (suc (suc (suc k)))))) = inr good

      pub line_crash : CrashOnly words (line_events variant header) (λ image. IsLineDefect variant image (BadHeader 0 0) ⊎ IsGood image)
      unfolding line_events
      line_crash = by_prefixes words 0 (line_events variant header) (λ image. IsLineDefect variant image (BadHeader 0 0) ⊎ IsGood image) (refl, (refl, (refl, tt))) each_prefix

-- the events end quiet
quiet_line : (variant : PoolVariant) (header : PoolHeader) → IsQuiet (line_events variant header)
unfolding line_events
quiet_line variant header = (refl, (refl, (refl, tt)))

-- a call began on a device of zeros, and the header was written
pub record IsWritten (variant : PoolVariant) (old begun new : PmemState) (header : PoolHeader) : Type 0 where
  pub begun_is : begun ≡ began old
  pub step : Appends begun new (line_events variant header)
  pub zeros : AreZeros (words_of old)
  pub size : length (words_of old) ≡ 2048 * header.granules
  pub valid : IsHeaderFor variant header
  pub room : (layout_of header.version).room ≤ old.room

module _ {variant : PoolVariant} {old begun new : PmemState} {header : PoolHeader} (made : IsWritten variant old begun new header) where
  words_written : words_of new ≡ written variant (words_of old) header
  words_written = rw (made.step.words, made.begun_is) (reading-line variant (words_of old) header)

  pub formatted_device : IsFormattedAs variant (words_of new) header
  formatted_device = rw words_written (formatted-written variant (words_of old) header made.zeros made.valid made.size)

  pub formatted_crash : (IsGood : List ℕ → Type 0) → IsGood (words_of new) → CrashOnly new.base new.events (λ image. IsLineDefect variant image (BadHeader 0 0) ⊎ IsGood image)
  formatted_crash IsGood good =
      rw (made.step.state, made.begun_is) (line_crash variant (words_of old) header made.zeros made.valid made.size IsGood (subst IsGood words_written good))

  pub formatted_ready : IsReady new
  formatted_ready = grind (arith, quiet_after, quiet_line, header_is, formatted_device)

  pub formatted_log : (n : ℕ) → n ≡ header.granules → HasLog n (words_of new)
  formatted_log n same =
      subst (λ k. HasLog k (words_of new)) (ap (λ (h : PoolHeader). h.granules) (header_is variant (words_of new) header formatted_device) ∙ sym same) (fresh_log variant (words_of new) header formatted_device)
