-- Images of pools of two variants: which of them an input is judged as, and what a command means that reads both.
use Rattle.std.specs.Prelude.{◌≡◌, ◌⊎◌, ℕ, List}
use Rattle.pmem_lines.specs.Words.{word_at}
use Rattle.pool_layout.specs.Places.{text_word}
use Rattle.pool_layout.specs.Bytes.{words_of_bytes}
use Rattle.pool_layout.specs.Header.{gc_text}
use Rattle.program_io.specs.declared.input.Kind.TheVariants as kinds
use Rattle.nvpool.specs.Meaning.{Meaning}

-- the input begins with the text of the header lines of the GC variant
abbrev pub HasGcText : List ℕ → Type 0
HasGcText input = word_at (words_of_bytes input) text_word ≡ gc_text

-- An image of either variant has its output. An input that begins with that text is refused as an image of the GC variant, and any
-- other as one of the LOG variant.
abbrev pub either : Meaning → Meaning → Meaning
either log gc = record {
  reads = kinds.Image;
  answers = λ input output. log.answers input output ⊎ gc.answers input output;
  refuses = λ input why. (¬ (HasGcText input) × log.refuses input why) ⊎ (HasGcText input × gc.refuses input why);
  accepts = λ input. log.accepts input ⊎ gc.accepts input;
}
