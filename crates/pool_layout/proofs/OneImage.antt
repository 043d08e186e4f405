-- Bytes are the image of a pool of a variant or have one first defect as such, and never both.
use Rattle.std.proofs.Common.{◌≡◌, ◌≢◌, ◌⊎◌, ℕ, zero, suc, ◌+◌, ◌*◌, ◌<◌, ◌≤◌, List, length, refl, sym, ap, ◌∙◌, subst, inl, inr, ⊎_elim, arith}
use Rattle.std.proofs.Math.Nat.{mul-le-mul_left}
use Rattle.std.proofs.lemmas.Bool.{cases_lt, cases_eq}
use Rattle.pmem_lines.specs.Words.{word_at}
use Rattle.pool_layout.specs.declared.header.PoolHeader.{PoolHeader}
use Rattle.pool_layout.specs.declared.header.PoolVariant.{PoolVariant}
use Rattle.pool_layout.specs.declared.header.PoolVariant.TheVariants.{Log, Gc}
use Rattle.pool_layout.specs.declared.defect.Defect.{Defect}
use Rattle.pool_layout.specs.declared.defect.Defect.TheVariants.{BadLength, BadHeader}
use Rattle.pool_layout.specs.Layout.{layout_of, all_granules, pool_granules, IsVersion}
use Rattle.pool_layout.specs.Places.{text_word, fields_word}
use Rattle.pool_layout.specs.Header.{text_of, header_word, fields_of, IsHeaderLine, IsBadHeaderLine}
use Rattle.pool_layout.specs.Bytes.{words_of_bytes}
use Rattle.pool_layout.specs.Image.{part_of, header_of_arena, image_length, IsFirstHeader, IsFirstLine, IsFirstFields, HasBadArena, IsImageIn, IsDefectIn}
use Rattle.pool_layout.specs.Laws.{LawOfImages, LawOfNoDefect, LawOfOneDefect}
use Rattle.pool_layout.proofs.Headers.{header_fits, fields_of-header_word}
use Rattle.pool_layout.proofs.Images.{some_granules, word_at-part_of, first_valid, first_fields, header_line-first, header_line-part, words_in_image, image-headers, HasHeaders}

-- header lines say one thing

-- a header line has one first bad word
pub one_bad_line : (variant : PoolVariant) (words : List ℕ) (Is : ℕ → Type 0) (d e : Defect) → IsBadHeaderLine variant words Is d → IsBadHeaderLine variant words Is e → d ≡ e
one_bad_line variant words Is d e (inl p) (inl q) = p.1 ∙ sym q.1
one_bad_line variant words Is d e (inl p) (inr q) = absurd (p.0 q.0)
one_bad_line variant words Is d e (inr p) (inl q) = absurd (q.0 p.0)
one_bad_line variant words Is d e (inr p) (inr q) = p.2 ∙ sym q.2

-- a line whose words are good has none
no_bad_line : (variant : PoolVariant) (words : List ℕ) (Is : ℕ → Type 0) (d : Defect) → word_at words text_word ≡ text_of variant → Is (word_at words fields_word) → ¬ (IsBadHeaderLine variant words Is d)
no_bad_line variant words Is d text fields (inl p) = p.0 text
no_bad_line variant words Is d text fields (inr p) = p.1 fields

-- headers that arena 0 may have, and that have one word, are one
same_header : (variant : PoolVariant) (header other : PoolHeader) → IsFirstHeader variant header → IsFirstHeader variant other → header_word header ≡ header_word other → header ≡ other
same_header variant header other p q same =
    sym (fields_of-header_word header (header_fits header (first_valid variant header p))) ∙ ap fields_of same ∙ fields_of-header_word other (header_fits other (first_valid variant other q))

one_first : (variant : PoolVariant) (words : List ℕ) (header other : PoolHeader) → IsFirstLine variant words header → IsFirstLine variant words other → header ≡ other
one_first variant words header other p q = same_header variant header other p.valid q.valid (sym p.fields ∙ q.fields)

first_is_good : (variant : PoolVariant) (words : List ℕ) (header : PoolHeader) (d : Defect) → IsFirstLine variant words header → ¬ (IsBadHeaderLine variant words (IsFirstFields variant) d)
first_is_good variant words header d line = no_bad_line variant words (IsFirstFields variant) d line.text (header, line.valid, line.fields)

-- an image of a pool begins with the header line of arena 0
first_line : (variant : PoolVariant) (words : List ℕ) (header : PoolHeader) → IsFirstHeader variant header → IsHeaderLine variant (part_of words header.granules 0) (header_of_arena header 0) → IsFirstLine variant words header
first_line variant words header first line =
    let some = some_granules header (first_valid variant header first) in
    let here : 2048 * header.granules * 0 + 0 ≡ 0 = omega arith in
    let next : 2048 * header.granules * 0 + 1 ≡ 1 = omega arith in
    let text = word_at-part_of words header.granules 0 0 (omega (arith, some)) ∙ ap (word_at words) here in
    let word = word_at-part_of words header.granules 0 1 (omega (arith, some)) ∙ ap (word_at words) next in
    record {
      text = sym text ∙ line.text;
      fields = sym word ∙ line.word ∙ ap (λ n. header_word (record { version = header.version; number = n; arenas = header.arenas; granules = header.granules })) (sym first.number);
      valid = first;
    }

-- a pool has bytes for a header line
long_enough : (variant : PoolVariant) (header : PoolHeader) (size : ℕ) → IsFirstHeader variant header → size ≡ image_length header → 64 ≤ size
long_enough variant header size first is =
    let valid = first_valid variant header first in
    let one : 1 ≤ header.granules = some_granules header valid in
    let product = mul-le-mul_left header.arenas one in
    omega (arith, product, valid.some, is)

-- an image has no defect

good_first : (variant : PoolVariant) (bytes : List ℕ) (header : PoolHeader) → HasHeaders variant bytes header → IsFirstLine variant (words_of_bytes bytes) header
good_first variant bytes header good =
    first_line variant (words_of_bytes bytes) header good.first (good.each 0 (omega (arith, (first_valid variant header good.first).some)))

no_defect : (variant : PoolVariant) (bytes : List ℕ) (header : PoolHeader) (arena : ℕ) (defect : Defect) → HasHeaders variant bytes header → ¬ (IsDefectIn variant bytes arena defect)
no_defect variant bytes header arena defect good (inl short) = let long = long_enough variant header (length bytes) good.first good.size in omega (arith, long, short.short)
no_defect variant bytes header arena defect good (inr (inl bad)) =
    first_is_good variant (words_of_bytes bytes) header defect (good_first variant bytes header good) bad.is
no_defect variant bytes header arena defect good (inr (inr (inl other))) =
    let line = good_first variant bytes header good in
    let same : header ≡ other.header = one_first variant (words_of_bytes bytes) header other.header line other.line in
    other.other (good.size ∙ ap image_length same)
no_defect variant bytes header arena defect good (inr (inr (inr bad))) =
    let line = good_first variant bytes header good in
    let same : header ≡ bad.header = one_first variant (words_of_bytes bytes) header bad.header line bad.line in
    let each : IsHeaderLine variant (part_of (words_of_bytes bytes) bad.header.granules arena) (header_of_arena bad.header arena) =
    subst (λ (h : PoolHeader). arena < h.arenas → IsHeaderLine variant (part_of (words_of_bytes bytes) h.granules arena) (header_of_arena h arena)) same (good.each arena) bad.inside in
    no_bad_line variant (part_of (words_of_bytes bytes) bad.header.granules arena) (λ word. word ≡ header_word (header_of_arena bad.header arena)) defect each.text each.word bad.is

-- what an image says of its bytes
headers_of : (variant : PoolVariant) (bytes words : List ℕ) (image : IsImageIn variant bytes words) → HasHeaders variant bytes image.header
headers_of variant bytes words image = record {
  first = image.pool.first;
  size = omega (arith, image.whole, image.pool.size);
  each = subst (λ (ws : List ℕ). (arena : ℕ) → arena < image.header.arenas → IsHeaderLine variant (part_of ws image.header.granules arena) (header_of_arena image.header arena)) image.words_are image.pool.each;
}

pub law_of_no_defect : LawOfNoDefect
law_of_no_defect variant bytes words arena defect image = no_defect variant bytes image.header arena defect (headers_of variant bytes words image)

-- bytes have one first defect

one_bad_arena : (variant : PoolVariant) (bytes : List ℕ) (a b : ℕ) (d e : Defect) (header : PoolHeader) →
    ((k : ℕ) → k < a → IsHeaderLine variant (part_of (words_of_bytes bytes) header.granules k) (header_of_arena header k)) →
    IsBadHeaderLine variant (part_of (words_of_bytes bytes) header.granules a) (λ word. word ≡ header_word (header_of_arena header a)) d →
    ((k : ℕ) → k < b → IsHeaderLine variant (part_of (words_of_bytes bytes) header.granules k) (header_of_arena header k)) →
    IsBadHeaderLine variant (part_of (words_of_bytes bytes) header.granules b) (λ word. word ≡ header_word (header_of_arena header b)) e → (a ≡ b) × (d ≡ e)
one_bad_arena variant bytes a b d e header before bad earlier worse =
    let words = words_of_bytes bytes in
    let Is : ℕ → ℕ → Type 0 = λ k word. word ≡ header_word (header_of_arena header k) in
    let part : ℕ → List ℕ = λ k. part_of words header.granules k in
    ⊎_elim
    (λ (low : a < b). let good = earlier a low in absurd (no_bad_line variant (part a) (Is a) d good.text good.word bad))
    (λ (high : b ≤ a). ⊎_elim
    (λ (low : b < a). let good = before b low in absurd (no_bad_line variant (part b) (Is b) e good.text good.word worse))
    (λ (other : a ≤ b).
    let same : a ≡ b = omega arith in
    (same, one_bad_line variant (part b) (Is b) d e (subst (λ k. IsBadHeaderLine variant (part k) (Is k) d) same bad) worse))
    (cases_lt b a))
    (cases_lt a b)

pub law_of_one_defect : LawOfOneDefect
law_of_one_defect variant bytes a b d e (inl p) (inl q) = (p.first ∙ sym q.first, p.is ∙ sym q.is)
law_of_one_defect variant bytes a b d e (inl p) (inr (inl q)) = absurd (omega (arith, p.short, q.enough))
law_of_one_defect variant bytes a b d e (inl p) (inr (inr (inl q))) = absurd (omega (arith, p.short, q.enough))
law_of_one_defect variant bytes a b d e (inl p) (inr (inr (inr q))) = let long = long_enough variant q.header (length bytes) q.line.valid q.size in absurd (omega (arith, p.short, long))
law_of_one_defect variant bytes a b d e (inr (inl p)) (inl q) = absurd (omega (arith, q.short, p.enough))
law_of_one_defect variant bytes a b d e (inr (inl p)) (inr (inl q)) = (p.first ∙ sym q.first, one_bad_line variant (words_of_bytes bytes) (IsFirstFields variant) d e p.is q.is)
law_of_one_defect variant bytes a b d e (inr (inl p)) (inr (inr (inl q))) = absurd (first_is_good variant (words_of_bytes bytes) q.header d q.line p.is)
law_of_one_defect variant bytes a b d e (inr (inl p)) (inr (inr (inr q))) = absurd (first_is_good variant (words_of_bytes bytes) q.header d q.line p.is)
law_of_one_defect variant bytes a b d e (inr (inr (inl p))) (inl q) = absurd (omega (arith, q.short, p.enough))
law_of_one_defect variant bytes a b d e (inr (inr (inl p))) (inr (inl q)) = absurd (first_is_good variant (words_of_bytes bytes) p.header e p.line q.is)
law_of_one_defect variant bytes a b d e (inr (inr (inl p))) (inr (inr (inl q))) =
    let same : p.header ≡ q.header = one_first variant (words_of_bytes bytes) p.header q.header p.line q.line in
    (p.first ∙ sym q.first, p.is ∙ ap (λ (h : PoolHeader). BadLength (length bytes) (image_length h)) same ∙ sym q.is)
law_of_one_defect variant bytes a b d e (inr (inr (inl p))) (inr (inr (inr q))) =
    let same : q.header ≡ p.header = one_first variant (words_of_bytes bytes) q.header p.header q.line p.line in
    absurd (p.other (q.size ∙ ap image_length same))
law_of_one_defect variant bytes a b d e (inr (inr (inr p))) (inl q) = let long = long_enough variant p.header (length bytes) p.line.valid p.size in absurd (omega (arith, q.short, long))
law_of_one_defect variant bytes a b d e (inr (inr (inr p))) (inr (inl q)) = absurd (first_is_good variant (words_of_bytes bytes) p.header e p.line q.is)
law_of_one_defect variant bytes a b d e (inr (inr (inr p))) (inr (inr (inl q))) =
    let same : p.header ≡ q.header = one_first variant (words_of_bytes bytes) p.header q.header p.line q.line in
    absurd (q.other (p.size ∙ ap image_length same))
law_of_one_defect variant bytes a b d e (inr (inr (inr p))) (inr (inr (inr q))) =
    let same : q.header ≡ p.header = one_first variant (words_of_bytes bytes) q.header p.header q.line p.line in
    one_bad_arena variant bytes a b d e p.header p.before p.is
    (subst (λ (h : PoolHeader). (k : ℕ) → k < b → IsHeaderLine variant (part_of (words_of_bytes bytes) h.granules k) (header_of_arena h k)) same q.before)
    (subst (λ (h : PoolHeader). IsBadHeaderLine variant (part_of (words_of_bytes bytes) h.granules b) (λ word. word ≡ header_word (header_of_arena h b)) e) same q.is)

-- bytes are an image or have a defect

-- two facts that are decided are decided together
both : (P Q : Type 0) → P ⊎ (¬ P) → Q ⊎ (¬ Q) → (P × Q) ⊎ (¬ (P × Q))
both P Q (inl p) (inl q) = inl (p, q)
both P Q (inl p) (inr q) = inr (λ both'. q both'.1)
both P Q (inr p) d = inr (λ both'. p both'.0)

at_most : (m n : ℕ) → (m ≤ n) ⊎ (¬ (m ≤ n))
at_most m n = ⊎_elim (λ (low : m < n + 1). inl (omega arith)) (λ (high : n + 1 ≤ m). inr (λ le. omega arith)) (cases_lt m (n + 1))

version_or_not : (version : ℕ) → IsVersion version ⊎ (¬ (IsVersion version))
version_or_not version = ⊎_elim
    (λ (is : (1 ≤ version) × (version ≤ 2)). inl (record { some = is.0; most = is.1 }))
    (λ (none : ¬ ((1 ≤ version) × (version ≤ 2))). inr (λ is. none (is.some, is.most)))
    (both _ _ (at_most 1 version) (at_most version 2))

-- what a header must be
First : PoolHeader → Type 0
First header = IsVersion header.version × ((1 ≤ header.arenas) × ((header.arenas ≤ 16) × (((layout_of header.version).least_granules ≤ header.granules) × ((header.granules ≤ (layout_of header.version).most_granules) × ((all_granules header.arenas header.granules ≤ pool_granules) × (header.number ≡ 0))))))

first_from : (header : PoolHeader) → First header → IsFirstHeader Log header
unfolding First
first_from header is = record {
  valid = record { version = is.0; some = is.1.0; most = is.1.1.0; number = omega (arith, is.1.0, is.1.1.1.1.1.1); least = is.1.1.1.0; greatest = is.1.1.1.1.0; together = is.1.1.1.1.1.0 };
  number = is.1.1.1.1.1.1;
}

first_to : (header : PoolHeader) → IsFirstHeader Log header → First header
unfolding First
first_to header first = (first.valid.version, (first.valid.some, (first.valid.most, (first.valid.least, (first.valid.greatest, (first.valid.together, first.number))))))

first_or_not : (header : PoolHeader) → IsFirstHeader Log header ⊎ (¬ (IsFirstHeader Log header))
unfolding First
first_or_not header =
    let row = layout_of header.version in
    ⊎_elim (λ (is : First header). inl (first_from header is)) (λ (none : ¬ (First header)). inr (λ first. none (first_to header first)))
    (both _ _ (version_or_not header.version) (both _ _ (at_most 1 header.arenas) (both _ _ (at_most header.arenas 16)
    (both _ _ (at_most row.least_granules header.granules) (both _ _ (at_most header.granules row.most_granules) (both _ _ (at_most (all_granules header.arenas header.granules) pool_granules) (cases_eq header.number 0)))))))

first_for_or_not : (variant : PoolVariant) (header : PoolHeader) → IsFirstHeader variant header ⊎ (¬ (IsFirstHeader variant header))
first_for_or_not Log header = first_or_not header
first_for_or_not Gc header = ⊎_elim
    (λ (is : IsFirstHeader Log header × (header.version ≡ 1)). inl (record { valid = record { valid = is.0.valid; first = is.1 }; number = is.0.number }))
    (λ (none : ¬ (IsFirstHeader Log header × (header.version ≡ 1))). inr (λ first. none (record { valid = first.valid.valid; number = first.number }, first.valid.first)))
    (both _ _ (first_or_not header) (cases_eq header.version 1))

fields_or_not : (variant : PoolVariant) (word : ℕ) → IsFirstFields variant word ⊎ (¬ (IsFirstFields variant word))
fields_or_not variant word =
    let header = fields_of word in
    let found : (IsFirstHeader variant header × (word ≡ header_word header)) ⊎ (¬ (IsFirstHeader variant header × (word ≡ header_word header))) =
    both (IsFirstHeader variant header) (word ≡ header_word header) (first_for_or_not variant header) (cases_eq word (header_word header)) in
    ⊎_elim
    (λ (is : IsFirstHeader variant header × (word ≡ header_word header)). inl (header, is.0, is.1))
    (λ (none : ¬ (IsFirstHeader variant header × (word ≡ header_word header))). inr (λ (fields : IsFirstFields variant word).
    let other : PoolHeader = fields.0 in
    let same : fields_of word ≡ other = ap fields_of fields.2 ∙ fields_of-header_word other (header_fits other (first_valid variant other fields.1)) in
    none (first_fields variant word fields, fields.2 ∙ ap header_word (sym same))))
    found

-- a line is good, or has a first bad word
line_or_not : (variant : PoolVariant) (words : List ℕ) (Is : ℕ → Type 0) → Is (word_at words fields_word) ⊎ (¬ (Is (word_at words fields_word))) →
    ((word_at words text_word ≡ text_of variant) × Is (word_at words fields_word)) ⊎ ((defect : Defect) × IsBadHeaderLine variant words Is defect)
line_or_not variant words Is known = ⊎_elim
    (λ (text : word_at words text_word ≡ text_of variant). ⊎_elim
    (λ (good : Is (word_at words fields_word)). inl (text, good))
    (λ (bad : ¬ (Is (word_at words fields_word))). inr (BadHeader fields_word (word_at words fields_word), inr (text, bad, refl)))
    known)
    (λ (other : word_at words text_word ≢ text_of variant). inr (BadHeader text_word (word_at words text_word), inl (other, refl)))
    (cases_eq (word_at words text_word) (text_of variant))

-- of the arenas below one all header lines are good, or one is the first that is not
arenas_or_not : (variant : PoolVariant) (bytes : List ℕ) (header : PoolHeader) → IsFirstLine variant (words_of_bytes bytes) header → length bytes ≡ image_length header → (n : ℕ) → n ≤ header.arenas →
    ((k : ℕ) → k < n → IsHeaderLine variant (part_of (words_of_bytes bytes) header.granules k) (header_of_arena header k)) ⊎ ((arena : ℕ) × (defect : Defect) × HasBadArena variant bytes arena defect)
arenas_or_not variant bytes header line size zero within = inl (λ k below. absurd (omega (arith, below)))
arenas_or_not variant bytes header line size (suc n) within =
    let words = words_of_bytes bytes in
    let part = part_of words header.granules n in
    let Is : ℕ → Type 0 = λ word. word ≡ header_word (header_of_arena header n) in
    let Good : ℕ → Type 0 = λ k. IsHeaderLine variant (part_of words header.granules k) (header_of_arena header k) in
    ⊎_elim
    (λ (all : (k : ℕ) → k < n → Good k). ⊎_elim
    (λ (good : (word_at part text_word ≡ text_of variant) × Is (word_at part fields_word)).
    let here : Good n =
    header_line-part variant words header n (word_at part fields_word) (words_in_image bytes header size) line.valid (omega arith) (record { text = good.0; is = refl }) good.1 in
    inl (λ k below. ⊎_elim (λ (low : k < n). all k low) (λ (high : n ≤ k). let same : n ≡ k = omega arith in subst Good same here) (cases_lt k n)))
    (λ (bad : (defect : Defect) × IsBadHeaderLine variant part Is defect).
    let later : 1 ≤ n = ⊎_elim
    (λ (none : n < 1).
    let first : 0 ≡ n = omega arith in
    let good : Good n = subst Good first (header_line-first variant words header (words_in_image bytes header size) line) in
    absurd (no_bad_line variant part Is bad.0 good.text good.word bad.1))
    (λ (some : 1 ≤ n). some)
    (cases_lt n 1) in
    inr (n, bad.0, record { header = header; line = line; size = size; later = later; inside = omega arith; before = all; is = bad.1 }))
    (line_or_not variant part Is (cases_eq (word_at part fields_word) (header_word (header_of_arena header n)))))
    (λ (found : (arena : ℕ) × (defect : Defect) × HasBadArena variant bytes arena defect). inr found)
    (arenas_or_not variant bytes header line size n (omega arith))

IsImage : PoolVariant → List ℕ → Type 0
IsImage variant bytes = (words : List ℕ) × IsImageIn variant bytes words

HasDefect : PoolVariant → List ℕ → Type 0
HasDefect variant bytes = (arena : ℕ) × (defect : Defect) × IsDefectIn variant bytes arena defect

-- behind a good header line of arena 0
image_behind_first : (variant : PoolVariant) (bytes : List ℕ) (header : PoolHeader) → 64 ≤ length bytes → IsFirstLine variant (words_of_bytes bytes) header → IsImage variant bytes ⊎ HasDefect variant bytes
unfolding IsImage HasDefect
image_behind_first variant bytes header enough line = ⊎_elim
    (λ (size : length bytes ≡ image_length header). ⊎_elim
    (λ (all : (k : ℕ) → k < header.arenas → IsHeaderLine variant (part_of (words_of_bytes bytes) header.granules k) (header_of_arena header k)).
    inl (words_of_bytes bytes, image-headers variant bytes (words_of_bytes bytes) header (record { first = line.valid; size = size; each = all }) refl))
    (λ (found : (arena : ℕ) × (defect : Defect) × HasBadArena variant bytes arena defect). inr (found.0, found.1, inr (inr (inr found.2))))
    (arenas_or_not variant bytes header line size header.arenas (omega arith)))
    (λ (other : length bytes ≢ image_length header).
    inr (0, BadLength (length bytes) (image_length header), inr (inr (inl (record { enough = enough; header = header; line = line; other = other; first = refl; is = refl })))))
    (cases_eq (length bytes) (image_length header))

pub law_of_images : LawOfImages
unfolding IsImage HasDefect
law_of_images variant bytes = ⊎_elim
    (λ (short : length bytes < 64). inr (0, BadLength (length bytes) 64, inl (record { short = short; first = refl; is = refl })))
    (λ (enough : 64 ≤ length bytes). ⊎_elim
    (λ (good : (word_at (words_of_bytes bytes) text_word ≡ text_of variant) × IsFirstFields variant (word_at (words_of_bytes bytes) fields_word)).
    image_behind_first variant bytes good.1.0 enough (record { text = good.0; fields = good.1.2; valid = good.1.1 }))
    (λ (bad : (defect : Defect) × IsBadHeaderLine variant (words_of_bytes bytes) (IsFirstFields variant) defect).
    inr (0, bad.0, inr (inl (record { enough = enough; first = refl; is = bad.1 }))))
    (line_or_not variant (words_of_bytes bytes) (IsFirstFields variant) (fields_or_not variant (word_at (words_of_bytes bytes) fields_word))))
    (cases_lt (length bytes) 64)

-- an image has one header, its words begin with the text, and so each arena of it has its words

own_line : (variant : PoolVariant) (bytes words : List ℕ) (image : IsImageIn variant bytes words) → IsFirstLine variant (words_of_bytes bytes) image.header
own_line variant bytes words image = good_first variant bytes image.header (headers_of variant bytes words image)

pub image_text : (variant : PoolVariant) (bytes words : List ℕ) → IsImageIn variant bytes words → word_at (words_of_bytes bytes) text_word ≡ text_of variant
image_text variant bytes words image = (own_line variant bytes words image).text

pub one_header : (variant : PoolVariant) (bytes words others : List ℕ) (image : IsImageIn variant bytes words) (other : IsImageIn variant bytes others) → image.header ≡ other.header
one_header variant bytes words others image other =
    one_first variant (words_of_bytes bytes) image.header other.header (own_line variant bytes words image) (own_line variant bytes others other)
