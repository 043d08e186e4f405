-- Images of pools: where the words of an arena lie, and when a header line is good.
use Rattle.std.proofs.Common.{◌≡◌, ◌≢◌, refl, ⊎_elim, ℕ, suc, ◌+◌, ◌*◌, ◌<◌, ◌≤◌, List, length, sym, ap, ◌∙◌, subst, inl, inr, arith}
use Rattle.std.proofs.Math.Nat.{mul-le-mul_left}
use Rattle.pmem_lines.specs.Words.{word_at}
use Rattle.pmem_lines.proofs.Words.{length-words_at, get_or-words_at}
use Rattle.pool_layout.specs.declared.header.PoolHeader.{PoolHeader}
use Rattle.pool_layout.specs.declared.header.PoolVariant.{PoolVariant}
use Rattle.pool_layout.specs.declared.header.PoolVariant.TheVariants.{Log, Gc}
use Rattle.pool_layout.specs.declared.defect.Defect.{Defect}
use Rattle.pool_layout.specs.declared.defect.Defect.TheVariants.{BadHeader}
use Rattle.pool_layout.specs.Layout.{layout_of, IsLayout}
use Rattle.pool_layout.specs.Places.{fields_word}
use Rattle.pool_layout.specs.Header.{header_word, fields_of, IsPoolHeader, IsHeaderFor, IsHeaderLine, IsSecondWord, IsLineDefect, IsBadHeaderLine}
use Rattle.pool_layout.specs.Bytes.{words_of_bytes}
use Rattle.pool_layout.specs.Image.{part_of, header_of_arena, image_length, IsFirstHeader, IsFirstLine, IsFirstFields, HasBadArena, IsPoolOf, IsImageIn}
use Rattle.pool_layout.proofs.Layouts.{layout_rules}
use Rattle.pool_layout.proofs.Headers.{header_fits, fields_of-header_word, valid_header}
use Rattle.pool_layout.proofs.Words.{length-words_of_bytes}

-- the bytes are as many as this header of arena 0 calls for, and each arena has its header line
pub record HasHeaders (variant : PoolVariant) (bytes : List ℕ) (header : PoolHeader) : Type 0 where
  pub first : IsFirstHeader variant header
  pub size : length bytes ≡ image_length header
  pub each : (arena : ℕ) → arena < header.arenas → IsHeaderLine variant (part_of (words_of_bytes bytes) header.granules arena) (header_of_arena header arena)

-- an arena's words lie in those of its pool
pub part_inside : (granules arenas arena : ℕ) → arena < arenas → 2048 * granules * arena + 2048 * granules ≤ arenas * granules * 2048
part_inside granules arenas arena below =
    let next : suc arena ≤ arenas = omega arith in
    let product = mul-le-mul_left granules next in
    omega (arith, product)

-- so many words are an arena's
pub length-part_of : (words : List ℕ) (granules arenas arena : ℕ) → length words ≡ arenas * granules * 2048 → arena < arenas → length (part_of words granules arena) ≡ 2048 * granules
length-part_of words granules arenas arena size below =
    length-words_at words (2048 * granules * arena) (2048 * granules) (omega (arith, part_inside granules arenas arena below))

-- a word of an arena
pub word_at-part_of : (words : List ℕ) (granules arena i : ℕ) → i < 2048 * granules → word_at (part_of words granules arena) i ≡ word_at words (2048 * granules * arena + i)
unfolding word_at
word_at-part_of words granules arena i below = get_or-words_at words (2048 * granules * arena) (2048 * granules) i below

-- an arena of a pool has some granules
pub some_granules : (header : PoolHeader) → IsPoolHeader header → 1 ≤ header.granules
some_granules header valid = let rules : IsLayout (layout_of header.version) = layout_rules header.version in omega (arith, rules.some_granule, valid.least)

-- header lines

-- arena 0 of a pool has the header of one
pub first_valid : (variant : PoolVariant) (header : PoolHeader) → IsFirstHeader variant header → IsPoolHeader header
first_valid variant header first = valid_header variant header first.valid

-- each arena of a pool may have its header
arena_valid : (header : PoolHeader) (arena : ℕ) → IsPoolHeader header → arena < header.arenas → IsPoolHeader (header_of_arena header arena)
arena_valid header arena valid below = record {
  version = valid.version;
  some = valid.some;
  most = valid.most;
  number = below;
  least = valid.least;
  greatest = valid.greatest;
  together = valid.together;
}

pub arena_header_valid : (variant : PoolVariant) (header : PoolHeader) (arena : ℕ) → IsFirstHeader variant header → arena < header.arenas → IsHeaderFor variant (header_of_arena header arena)
arena_header_valid Log header arena first below = arena_valid header arena first.valid below
arena_header_valid Gc header arena first below = record { valid = arena_valid header arena first.valid.valid below; first = first.valid.first }

-- the text is good, and the second word is bad
pub bad_fields : (variant : PoolVariant) (words : List ℕ) (Is : ℕ → Type 0) (word : ℕ) → IsSecondWord variant words word → ¬ (Is word) → IsBadHeaderLine variant words Is (BadHeader fields_word word)
bad_fields variant words Is word second bad = inr (second.text, (λ is. bad (subst Is (sym second.is) is)), ap (BadHeader fields_word) second.is)

-- a word is the second one of some pool's arena 0 where what it says is that arena's header
pub first_fields : (variant : PoolVariant) (word : ℕ) → IsFirstFields variant word → IsFirstHeader variant (fields_of word)
first_fields variant word found =
    let header : PoolHeader = found.0 in
    subst (IsFirstHeader variant) (sym (ap fields_of found.2 ∙ fields_of-header_word header (header_fits header (first_valid variant header found.1)))) found.1

-- the header line of arena 0 is bad where it is that of no arena, and where it is that of another one
pub bad_first : (variant : PoolVariant) (words : List ℕ) → 8 ≤ length words → {defect : Defect} → IsLineDefect variant words defect → IsBadHeaderLine variant words (IsFirstFields variant) defect
bad_first variant words whole bad = ⊎_elim
    (λ short. absurd (omega (arith, whole, short.0)))
    (λ line. ⊎_elim (λ text. inl text) (λ fields. inr (fields.0, (λ first. fields.1 (first.0, first.1.valid, first.2)), fields.2)) line.1)
    bad

pub other_first : (variant : PoolVariant) (words : List ℕ) (header : PoolHeader) → IsHeaderLine variant words header → header.number ≢ 0 →
    IsBadHeaderLine variant words (IsFirstFields variant) (BadHeader fields_word (word_at words fields_word))
other_first variant words header is other =
    let says : fields_of (word_at words fields_word) ≡ header = ap fields_of is.word ∙ fields_of-header_word header (header_fits header (valid_header variant header is.valid)) in
    inr (is.text, (λ first. other (sym (ap (λ (h : PoolHeader). h.number) says) ∙ (first_fields variant (word_at words fields_word) first).number)), refl)

-- the header line of an arena, word by word
pub header_line-part : (variant : PoolVariant) (words : List ℕ) (header : PoolHeader) (arena : ℕ) (word : ℕ) → length words ≡ header.arenas * header.granules * 2048 → IsFirstHeader variant header → arena < header.arenas →
    IsSecondWord variant (part_of words header.granules arena) word → word ≡ header_word (header_of_arena header arena) →
    IsHeaderLine variant (part_of words header.granules arena) (header_of_arena header arena)
header_line-part variant words header arena word size first below second fields = record {
  whole = omega (arith, length-part_of words header.granules header.arenas arena size below, some_granules header (first_valid variant header first));
  text = second.text;
  word = sym second.is ∙ fields;
  valid = arena_header_valid variant header arena first below;
}

-- the words of bytes that are as many as a header calls for
pub words_in_image : (bytes : List ℕ) (header : PoolHeader) → length bytes ≡ image_length header → length (words_of_bytes bytes) ≡ header.arenas * header.granules * 2048
words_in_image bytes header size = omega (arith, length-words_of_bytes bytes, size)

-- arena 0's header line, in its own words
pub header_line-first : (variant : PoolVariant) (words : List ℕ) (header : PoolHeader) → length words ≡ header.arenas * header.granules * 2048 → IsFirstLine variant words header →
    IsHeaderLine variant (part_of words header.granules 0) (header_of_arena header 0)
header_line-first variant words header size line =
    let valid = first_valid variant header line.valid in
    let some = some_granules header valid in
    let here : 2048 * header.granules * 0 + 0 ≡ 0 = omega arith in
    let next : 2048 * header.granules * 0 + 1 ≡ 1 = omega arith in
    let text = word_at-part_of words header.granules 0 0 (omega (arith, some)) ∙ ap (word_at words) here in
    let word = word_at-part_of words header.granules 0 1 (omega (arith, some)) ∙ ap (word_at words) next in
    header_line-part variant words header 0 (word_at words 1) size line.valid (omega (arith, valid.some)) (record { text = text ∙ line.text; is = sym word })
    (line.fields ∙ ap (λ n. header_word (record { version = header.version; number = n; arenas = header.arenas; granules = header.granules })) line.valid.number)

-- the header line of an arena is bad, and no earlier one
pub bad_arena : (variant : PoolVariant) (bytes words : List ℕ) (header : PoolHeader) (arena : ℕ) (defect : Defect) → words ≡ words_of_bytes bytes → length bytes ≡ image_length header → IsFirstLine variant words header → 1 ≤ arena → arena < header.arenas →
    ((earlier : ℕ) → earlier < arena → IsHeaderLine variant (part_of words header.granules earlier) (header_of_arena header earlier)) →
    IsBadHeaderLine variant (part_of words header.granules arena) (λ word. word ≡ header_word (header_of_arena header arena)) defect → HasBadArena variant bytes arena defect
bad_arena variant bytes words header arena defect is size line later inside before bad = record {
  header = header;
  line = subst (λ (ws : List ℕ). IsFirstLine variant ws header) is line;
  size = size;
  later = later;
  inside = inside;
  before = subst (λ (ws : List ℕ). (earlier : ℕ) → earlier < arena → IsHeaderLine variant (part_of ws header.granules earlier) (header_of_arena header earlier)) is before;
  is = subst (λ (ws : List ℕ). IsBadHeaderLine variant (part_of ws header.granules arena) (λ word. word ≡ header_word (header_of_arena header arena)) defect) is bad;
}

-- bytes with good header lines are an image
pub image-headers : (variant : PoolVariant) (bytes words : List ℕ) (header : PoolHeader) → HasHeaders variant bytes header → words ≡ words_of_bytes bytes → IsImageIn variant bytes words
image-headers variant bytes words header good is =
    let size = words_in_image bytes header good.size in
    record {
      words_are = is;
      whole = omega (arith, ap length is, size, good.size);
      header = header;
      pool = subst (λ (ws : List ℕ). IsPoolOf variant ws header) (sym is) (record { first = good.first; size = size; each = good.each });
    }
