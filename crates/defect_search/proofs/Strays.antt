-- Blocks that a slab holds and that are the block of no root: one by one, in a slab, and in all slabs.
use Rattle.std.proofs.Common.{◌≡◌, ◌≢◌, ◌⊎◌, ◌↔◌, ℕ, ◌+◌, ◌*◌, ◌/◌, ◌%◌, ◌<◌, ◌≤◌, Bool, true, false, not, List, length, Option, Some, None, MatchOption, refl, sym, ap, subst, ◌∙◌, arith, inl, inr, ⊎_elim}
use Rattle.std.proofs.lemmas.Bool.{cases_eq, cases_lt, false≢true, true≢false}
use Rattle.std.proofs.lemmas.Nat.{mul-le}
use Rattle.defect_search.proofs.Common.{class_size, class_capacity, word_at, granule_word, line_place, Tables, is_slab, bit_of_word, tables_of, slab_table, bit_table, Range, slab_block, HoldsBit, HoldsOld, Slab, HasNone, IsLeast, IsLeastOf, lesser, IsRooted, AreRooted, kind_of, entries_of, slab_in, AreSlabs, IsRead, IsStray, IsStrayAddress}
use Rattle.slab_header.proofs.Tables.{bit_of_word-zero}
use Rattle.heap_check.proofs.Geometry.{number_few}
use Rattle.defect_search.specs.Claims.{AreBlocks}
use Rattle.defect_search.specs.declared.claim.Claim.{Claim}
use Rattle.defect_search.proofs.Blocks.{rooted_or}
use Rattle.slab_header.specs.declared.state.SlabState.TheVariants.{Normal, Morphing, Morphed}
use Rattle.defect_search.specs.Stray.{word_of, number_in, IsStrayBlock, IsStrayInWord, IsStrayBit, IsStrayPlace, IsStrayOld}
use Rattle.defect_search.proofs.LeastOf.{least_either, least_same}

-- what a search for the block says
pub unrooted_by : (t : Tables) (range : Range) (at size : ℕ) (has : Bool) → at ≡ range.at → size ≡ range.size → ((has ≡ true) ↔ IsRooted t (record { at = at; size = size })) → ((not has ≡ true) ↔ ¬ (IsRooted t range))
unrooted_by t range at size has place wide found =
    let same : record { at = at; size = size } ≡ range = ap (λ a. record { at = a; size = size }) place ∙ ap (λ n. record { at = range.at; size = n }) wide in
    let forth : has ≡ true → IsRooted t range = λ is. subst (IsRooted t) same (found.0 is) in
    let back : IsRooted t range → has ≡ true = λ rooted. found.1 (subst (IsRooted t) (sym same) rooted) in
    by has forth back
  where
    by : (has : Bool) → (has ≡ true → IsRooted t range) → (IsRooted t range → has ≡ true) → ((not has ≡ true) ↔ ¬ (IsRooted t range))
    by true forth back = (λ e. absurd (false≢true e), λ none. absurd (none (forth refl)))
    by false forth back = (λ e rooted. false≢true (back rooted), λ none. refl)

-- bits, word by word

number_of-word : (number : ℕ) → number ≡ number_in (word_of number) (number / 8 % 64)
number_of-word number = omega arith

-- the bit of a block by the word that has it
bit_by_word : (words : List ℕ) (start number word value : ℕ) → is_slab words start ≡ true → number < 4096 → word_of number ≡ word → value ≡ word_at words (granule_word start + line_place (1 + word % 8) (word / 8)) → ((tables_of words).header start).bit number ≡ bit_of_word value (number / 8 % 64)
bit_by_word words start number word value slab few is read =
    let line : number % 8 ≡ word % 8 = omega (arith, is) in
    let place : number / 8 / 64 ≡ word / 8 = omega (arith, is) in
    let here : word_at words (granule_word start + line_place (1 + number % 8) (number / 8 / 64)) ≡ value =
    ap (λ l. word_at words (granule_word start + line_place (1 + l) (number / 8 / 64))) line ∙ ap (λ p. word_at words (granule_word start + line_place (1 + word % 8) p)) place ∙ sym read in
    bit_table words start number slab few ∙ ap (λ w. bit_of_word w (number / 8 % 64)) here

bit_in_word : (words : List ℕ) (start word value bit : ℕ) → is_slab words start ≡ true → word < 64 → bit < 64 → value ≡ word_at words (granule_word start + line_place (1 + word % 8) (word / 8)) → ((tables_of words).header start).bit (number_in word bit) ≡ bit_of_word value bit
bit_in_word words start word value bit slab below few read =
    let number = number_in word bit in
    let same : number / 8 % 64 ≡ bit = omega arith in
    bit_by_word words start number word value slab (omega arith) (omega arith) read ∙ ap (bit_of_word value) same

pub clear_bit : (words : List ℕ) (start word value bit : ℕ) → is_slab words start ≡ true → word < 64 → bit < 64 → value ≡ word_at words (granule_word start + line_place (1 + word % 8) (word / 8)) → bit_of_word value bit ≡ false → ¬ (IsStrayBlock (tables_of words) start (number_in word bit))
clear_bit words start word value bit slab below few read clear block =
    true≢false (sym block.stray.set ∙ bit_in_word words start word value bit slab below few read ∙ clear)

pub set_bit : (words : List ℕ) (start class word value bit : ℕ) (stray : Bool) → is_slab words start ≡ true → ((tables_of words).header start).class ≡ class → word < 64 → bit < 64 → value ≡ word_at words (granule_word start + line_place (1 + word % 8) (word / 8)) → bit_of_word value bit ≡ true →
    number_in word bit < class_capacity class → ((stray ≡ true) ↔ ¬ (IsRooted (tables_of words) (slab_block start class (number_in word bit)))) → ((stray ≡ true) ↔ IsStrayBlock (tables_of words) start (number_in word bit))
set_bit words start class word value bit stray slab is below few read set small found =
    let t = tables_of words in
    let n = number_in word bit in
    let is_set = bit_in_word words start word value bit slab below few read ∙ set in (
      λ e. record { below = subst (λ c. n < class_capacity c) (sym is) small; stray = record { set = is_set; none = subst (λ c. ¬ (IsRooted t (slab_block start c n))) (sym is) (found.0 e) } },
      λ block. found.1 (subst (λ c. ¬ (IsRooted t (slab_block start c n))) is block.stray.none),
    )

-- a word without a bit has no stray block
pub clear_word : (words : List ℕ) (start class word value : ℕ) → is_slab words start ≡ true → ((tables_of words).header start).class ≡ class → class < 36 → value ≡ word_at words (granule_word start + line_place (1 + word % 8) (word / 8)) → value ≡ 0 → HasNone (IsStrayInWord (tables_of words) start word)
clear_word words start class word value slab is is_class read zero = record {
  none = λ at s.
      let small = subst (λ c. s.number < class_capacity c) is s.block.below in
      true≢false (sym s.block.stray.set ∙ bit_by_word words start s.number word value slab (number_few class s.number is_class small) s.word_is read ∙ ap (λ w. bit_of_word w (s.number / 8 % 64)) zero ∙ bit_of_word-zero (s.number / 8 % 64));
}

-- the first stray bit of a word has the lowest block
pub first_in_word : (t : Tables) (start class word bit at : ℕ) → (t.header start).class ≡ class → word < 64 → bit < 64 → IsStrayBlock t start (number_in word bit) → ((k : ℕ) → k < bit → ¬ (IsStrayBlock t start (number_in word k))) → at ≡ (slab_block start class (number_in word bit)).at → IsLeast (IsStrayInWord t start word) at
first_in_word t start class word bit at is below few block before place = record {
  here = record { number = number_in word bit; block = block; word_is = omega arith; is = place ∙ ap (λ c. (slab_block start c (number_in word bit)).at) (sym is) };
  least = λ other s.
      let k = s.number / 8 % 64 in
      let named : s.number ≡ number_in word k = number_of-word s.number ∙ ap (λ w. number_in w k) s.word_is in
      ⊎_elim
      (λ (earlier : k < bit). absurd (before k earlier (subst (IsStrayBlock t start) named s.block)))
      (λ (later : bit ≤ k).
      let size = class_size class in
      let more : number_in word bit * size ≤ s.number * size = mul-le (number_in word bit) size s.number size (omega (arith, named)) (omega arith) in
      omega (arith, more, place, s.is ∙ ap (λ c. (slab_block start c s.number).at) is))
      (cases_lt k bit);
}

pub none_in_word : (t : Tables) (start word : ℕ) → ((k : ℕ) → k < 64 → ¬ (IsStrayBlock t start (number_in word k))) → HasNone (IsStrayInWord t start word)
none_in_word t start word none = record {
  none = λ at s.
      let k = s.number / 8 % 64 in
      let named : s.number ≡ number_in word k = number_of-word s.number ∙ ap (λ w. number_in w k) s.word_is in
      none k (omega arith) (subst (IsStrayBlock t start) named s.block);
}

-- one with its bit in one of the first n words is at the address
pub record IsStrayInWords (t : Tables) (start n at : ℕ) : Type 0 where
  pub number : ℕ
  pub block : IsStrayBlock t start number
  pub word_below : word_of number < n
  pub is : at ≡ (slab_block start (t.header start).class number).at

pub none_in_words : (t : Tables) (start : ℕ) → HasNone (IsStrayInWords t start 0)
none_in_words t start = record { none = λ at s. absurd (omega (arith, s.word_below)) }

pub words_more : (t : Tables) (start n : ℕ) (a b : Option ℕ) {c : Option ℕ} → IsLeastOf (IsStrayInWords t start n) a → IsLeastOf (IsStrayInWord t start n) b → c ≡ lesser a b → IsLeastOf (IsStrayInWords t start (n + 1)) c
words_more t start n a b before here is = least_either (IsStrayInWords t start n) (IsStrayInWord t start n) (IsStrayInWords t start (n + 1)) a b
    (λ at s. record { number = s.number; block = s.block; word_below = omega (arith, s.word_below); is = s.is })
    (λ at s. record { number = s.number; block = s.block; word_below = omega (arith, s.word_is); is = s.is })
    (λ at s. ⊎_elim
    (λ (same : word_of s.number ≡ n). inr (record { number = s.number; block = s.block; word_is = same; is = s.is }))
    (λ (other : word_of s.number ≢ n). inl (record { number = s.number; block = s.block; word_below = omega (arith, s.word_below); is = s.is }))
    (cases_eq (word_of s.number) n))
    before here is

pub all_words : (t : Tables) (start class n : ℕ) (a : Option ℕ) → (t.header start).class ≡ class → class < 36 → 64 ≤ n → IsLeastOf (IsStrayInWords t start n) a → IsLeastOf (IsStrayBit t start) a
all_words t start class n a is is_class all least = least_same (IsStrayInWords t start n) (IsStrayBit t start) a
    (λ at s. record { number = s.number; below = s.block.below; stray = s.block.stray; is = s.is })
    (λ at s.
    let few = number_few class s.number is_class (subst (λ c. s.number < class_capacity c) is s.below) in
    record { number = s.number; block = record { below = s.below; stray = s.stray }; word_below = omega (arith, few); is = s.is })
    least

-- one index entry
pub one_place : (t : Tables) (start place old number at : ℕ) → (t.header start).old ≡ old → number ≡ (t.header start).number place → (t.header start).live place ≡ true → ¬ (IsRooted t (slab_block start old number)) → at ≡ (slab_block start old number).at → IsLeast (IsStrayPlace t start place) at
one_place t start place old number at is of live none here =
    let block : slab_block start old number ≡ slab_block start (t.header start).old ((t.header start).number place) = ap (λ o. slab_block start o number) (sym is) ∙ ap (λ n. slab_block start (t.header start).old n) of in
    let there : at ≡ (slab_block start (t.header start).old ((t.header start).number place)).at = here ∙ ap (λ (r : Range). r.at) block in
    record {
      here = record { live = live; is = there; none = subst (λ r. ¬ (IsRooted t r)) block none };
      least = λ other s. omega (arith, there, s.is);
    }

pub none_old : (t : Tables) (start : ℕ) → HasNone (IsStrayOld t start 0)
none_old t start = record { none = λ n s. absurd (omega (arith, s.below)) }

pub old_more : (t : Tables) (start n : ℕ) (a b : Option ℕ) {c : Option ℕ} → IsLeastOf (IsStrayOld t start n) a → IsLeastOf (IsStrayPlace t start n) b → c ≡ lesser a b → IsLeastOf (IsStrayOld t start (n + 1)) c
old_more t start n a b before here is = least_either (IsStrayOld t start n) (IsStrayPlace t start n) (IsStrayOld t start (n + 1)) a b
    (λ at s. record { place = s.place; below = omega (arith, s.below); stray = s.stray })
    (λ at s. record { place = n; below = omega arith; stray = s })
    (λ at s. ⊎_elim
    (λ (same : s.place ≡ n). inr (subst (λ p. IsStrayPlace t start p at) same s.stray))
    (λ (other : s.place ≢ n). inl (record { place = s.place; below = omega (arith, s.below); stray = s.stray }))
    (cases_eq s.place n))
    before here is

-- a slab

pub stray_of_bit : (t : Tables) (start at : ℕ) → t.slab start ≡ true → (t.header start).kind ≢ 2 → IsStrayBit t start at → IsStray t start at
stray_of_bit t start at slab read s =
    let same : record { at = at; size = class_size (t.header start).class } ≡ slab_block start (t.header start).class s.number = ap (λ a. record { at = a; size = class_size (t.header start).class }) s.is in
    record {
      size = class_size (t.header start).class;
      holds = record { slab = slab; block = inl (record { number = s.number; below = s.below; read = read; set = s.stray.set; is = same }) };
      none = subst (λ r. ¬ (IsRooted t r)) (sym same) s.stray.none;
    }

pub stray_of_old : (t : Tables) (start at : ℕ) → t.slab start ≡ true → IsStrayOld t start (t.header start).index_count at → IsStray t start at
stray_of_old t start at slab s =
    let block = slab_block start (t.header start).old ((t.header start).number s.place) in
    let same : record { at = at; size = class_size (t.header start).old } ≡ block = ap (λ a. record { at = a; size = class_size (t.header start).old }) s.stray.is in
    record {
      size = class_size (t.header start).old;
      holds = record { slab = slab; block = inr (record { place = s.place; below = s.below; live = s.stray.live; is = same }) };
      none = subst (λ r. ¬ (IsRooted t r)) (sym same) s.stray.none;
    }

pub stray_parts : (t : Tables) (start at : ℕ) → IsStray t start at → (((t.header start).kind ≢ 2) × IsStrayBit t start at) ⊎ IsStrayOld t start (t.header start).index_count at
stray_parts t start at s = ⊎_elim
    (λ (held : HoldsBit (t.header start) start (record { at = at; size = s.size })). inl (
      held.read,
      record {
        number = held.number;
        below = held.below;
        stray = record { set = held.set; none = subst (λ r. ¬ (IsRooted t r)) held.is s.none };
        is = ap (λ (r : Range). r.at) held.is;
      },
    ))
    (λ (held : HoldsOld (t.header start) start (record { at = at; size = s.size })). inr (record {
      place = held.place;
      below = held.below;
      stray = record { live = held.live; is = ap (λ (r : Range). r.at) held.is; none = subst (λ r. ¬ (IsRooted t r)) held.is s.none };
    }))
    s.holds.block

module _ {words : List ℕ} {slab : Slab} (read : IsRead words slab) where
  abbrev t : Tables
  t = tables_of words

  abbrev start : ℕ
  start = slab.start

  there : t.slab start ≡ true
  there = slab_table words start ∙ read.at.slab

  pub stray_normal : {class : ℕ} (a : Option ℕ) → slab.state ≡ Normal class → IsLeastOf (IsStrayBit (tables_of words) slab.start) a → IsLeastOf (IsStray (tables_of words) slab.start) a
  stray_normal a is =
      let kind = read.of.kind ∙ ap kind_of is in
      let none = read.of.entries ∙ ap entries_of is in
      least_same (IsStrayBit t start) (IsStray t start) a
      (λ at s. stray_of_bit t start at there (λ two. omega (arith, kind, two)) s)
      (λ at s. ⊎_elim (λ b. b.1) (λ o. absurd (omega (arith, o.below, none))) (stray_parts t start at s))

  pub stray_morphing : {class old n : ℕ} (a : Option ℕ) → slab.state ≡ Morphing class old n → IsLeastOf (IsStrayOld (tables_of words) slab.start n) a → IsLeastOf (IsStray (tables_of words) slab.start) a
  stray_morphing {class} {old} {n} a is =
      let kind = read.of.kind ∙ ap kind_of is in
      let entries = read.of.entries ∙ ap entries_of is in
      least_same (IsStrayOld t start n) (IsStray t start) a
      (λ at s. stray_of_old t start at there (subst (λ m. IsStrayOld t start m at) (sym entries) s))
      (λ at s. ⊎_elim (λ b. absurd (b.0 kind)) (λ o. subst (λ m. IsStrayOld t start m at) entries o) (stray_parts t start at s))

  pub stray_morphed : {class old n : ℕ} (a b : Option ℕ) {c : Option ℕ} → slab.state ≡ Morphed class old n → IsLeastOf (IsStrayBit (tables_of words) slab.start) a → IsLeastOf (IsStrayOld (tables_of words) slab.start n) b → c ≡ lesser a b →
      IsLeastOf (IsStray (tables_of words) slab.start) c
  stray_morphed {class} {old} {n} a b is =
      let kind = read.of.kind ∙ ap kind_of is in
      let entries = read.of.entries ∙ ap entries_of is in
      least_either (IsStrayBit t start) (IsStrayOld t start n) (IsStray t start) a b
      (λ at s. stray_of_bit t start at there (λ two. omega (arith, kind, two)) s)
      (λ at s. stray_of_old t start at there (subst (λ m. IsStrayOld t start m at) (sym entries) s))
      (λ at s. ⊎_elim (λ h. inl h.1) (λ o. inr (subst (λ m. IsStrayOld t start m at) entries o)) (stray_parts t start at s))

-- all slabs

-- one of the first n slabs of a list holds such a block at the address
pub record IsStrayAmong (t : Tables) (slabs : List Slab) (n at : ℕ) : Type 0 where
  pub place : ℕ
  pub below : place < n
  pub stray : IsStray t (slab_in slabs place).start at

pub none_among : (t : Tables) (slabs : List Slab) → HasNone (IsStrayAmong t slabs 0)
none_among t slabs = record { none = λ n s. absurd (omega (arith, s.below)) }

pub among_more : (t : Tables) (slabs : List Slab) (n : ℕ) (a b : Option ℕ) {c : Option ℕ} → IsLeastOf (IsStrayAmong t slabs n) a → IsLeastOf (IsStray t (slab_in slabs n).start) b → c ≡ lesser a b → IsLeastOf (IsStrayAmong t slabs (n + 1)) c
among_more t slabs n a b before here is = least_either (IsStrayAmong t slabs n) (IsStray t (slab_in slabs n).start) (IsStrayAmong t slabs (n + 1)) a b
    (λ at s. record { place = s.place; below = omega (arith, s.below); stray = s.stray })
    (λ at s. record { place = n; below = omega arith; stray = s })
    (λ at s. ⊎_elim
    (λ (same : s.place ≡ n). inr (subst (λ p. IsStray t (slab_in slabs p).start at) same s.stray))
    (λ (other : s.place ≢ n). inl (record { place = s.place; below = omega (arith, s.below); stray = s.stray }))
    (cases_eq s.place n))
    before here is

among_same : (words : List ℕ) (slabs : List Slab) (a : Option ℕ) → AreSlabs words slabs → IsLeastOf (IsStrayAmong (tables_of words) slabs (length slabs)) a → IsLeastOf (IsStrayAddress (tables_of words)) a
among_same words slabs a are = least_same (IsStrayAmong (tables_of words) slabs (length slabs)) (IsStrayAddress (tables_of words)) a
    (λ at s. record { start = (slab_in slabs s.place).start; stray = s.stray })
    (λ at s.
    let found = are.all s.start (sym (slab_table words s.start) ∙ s.stray.holds.slab) in
    record { place = found.0; below = found.1; stray = subst (λ start. IsStray (tables_of words) start at) (sym found.2) s.stray })

-- where no block is stray, each is that of a root
all_rooted : (t : Tables) (sorted : List Claim) → AreBlocks t sorted → HasNone (IsStrayAddress t) → AreRooted t
all_rooted t sorted are none start range holds = ⊎_elim
    (λ rooted. rooted)
    (λ stray. absurd (none.none range.at (record { start = start; stray = record { size = range.size; holds = holds; none = stray } })))
    (rooted_or t sorted are range)

pub among_all : (words : List ℕ) (slabs : List Slab) (sorted : List Claim) (a : Option ℕ) → AreSlabs words slabs → AreBlocks (tables_of words) sorted → IsLeastOf (IsStrayAmong (tables_of words) slabs (length slabs)) a →
    MatchOption a (AreRooted (tables_of words)) (IsLeast (IsStrayAddress (tables_of words)))
among_all words slabs sorted a are blocks among = by a (among_same words slabs a are among)
  where
    by : (a : Option ℕ) → IsLeastOf (IsStrayAddress (tables_of words)) a → MatchOption a (AreRooted (tables_of words)) (IsLeast (IsStrayAddress (tables_of words)))
    by None none = all_rooted (tables_of words) sorted blocks none
    by (Some at) least = least
