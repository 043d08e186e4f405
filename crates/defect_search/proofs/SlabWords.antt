-- The words of slabs' headers, one after another.
use Rattle.std.specs.Option.{MatchOption}
use Rattle.std.proofs.Common.{Option, None, Some, ◌≡◌, ◌≢◌, ◌↔◌, ℕ, ◌+◌, ◌/◌, ◌%◌, ◌^◌, ◌<◌, ◌≤◌, Bool, true, false, not, List, refl, sym, ap, subst, ◌∙◌, arith, inr, ⊎_elim, IsTrue}
use Rattle.std.proofs.lemmas.Bool.{cases_eq, cases_lt, false≢true, true≢false, cond-true}
use Rattle.defect_search.proofs.Common.{class_capacity, word_at, IsState, IsStateWord, IsIndexWord, is_slab, state_word, state_field, index_word, tables_of, slab_fields, number_table, IsWordOfState, SaysOfState, IsValidSlab}
use Rattle.slab_header.specs.declared.state.SlabState.{SlabState}
use Rattle.slab_header.specs.declared.index.IndexEntry.{IndexEntry}
use Rattle.slab_header.specs.Index.{SaysOfIndex}
use Rattle.image_defects.specs.declared.found.SlabWord.{SlabWord}
use Rattle.image_defects.specs.Headers.{IsGoodSlab, AreGoodSlabs, IsBadPlace, IsBadIndex, IsBadWord, IsFirstBadWord}
use Rattle.defect_search.specs.Headers.{AreSlabsInside, HasNumber, IsGoodPlace, AreGoodPlaces, IsStateOf, IsGoodIfSlab, IsBadSlabWord}

-- places

pub good_place : (words : List ℕ) (start place number : ℕ) (has : Bool) → IsIndexWord (word_at words (index_word start place)) → number ≡ ((tables_of words).header start).number place → number < class_capacity ((tables_of words).header start).old →
    (IsTrue has ↔ HasNumber (tables_of words) start place number) → not has ≡ true → IsGoodPlace words start place
good_place words start place number true form is small says e = absurd (false≢true e)
good_place words start place number false form is small says e = record {
  form = form;
  small = subst (λ n. n < class_capacity ((tables_of words).header start).old) is small;
  new = λ earlier before same. false≢true (says.1 (record { place = earlier; below = before; is = same ∙ sym is }));
}

pub twice_place : (words : List ℕ) (start place number : ℕ) (has : Bool) → place < ((tables_of words).header start).index_count → number ≡ ((tables_of words).header start).number place → (IsTrue has ↔ HasNumber (tables_of words) start place number) → not has ≡ false → IsBadPlace words start place
twice_place words start place number true below is says e =
    let other = says.0 refl in
    record { below = below; bad = inr (inr (other.place, other.below, other.is ∙ is)) }
twice_place words start place number false below is says e = absurd (true≢false e)

pub not_bad : (words : List ℕ) (start place : ℕ) → IsGoodPlace words start place → ¬ (IsBadPlace words start place)
not_bad words start place good bad = ⊎_elim
    (λ form. form good.form)
    (λ rest. ⊎_elim (λ past. omega (arith, past, good.small)) (λ twice. good.new twice.0 twice.1 twice.2) rest)
    bad.bad

pub first_bad : (words : List ℕ) (start place value : ℕ) → ((k : ℕ) → k < place → IsGoodPlace words start k) → IsBadPlace words start place → value ≡ word_at words (index_word start place) → IsBadIndex words start value
first_bad words start place value before bad is = record {
  place = place;
  first = record { here = bad; least = λ other b. ⊎_elim (λ (less : other < place). absurd (not_bad words start other (before other less) b)) (λ (most : place ≤ other). most) (cases_lt other place) };
  is = is;
}

pub places_more : (words : List ℕ) (start n : ℕ) → ((k : ℕ) → k < n → IsGoodPlace words start k) → IsGoodPlace words start n → (k : ℕ) → k < n + 1 → IsGoodPlace words start k
places_more words start n before here k below = ⊎_elim (λ (same : k ≡ n). subst (IsGoodPlace words start) (sym same) here) (λ (other : k ≢ n). before k (omega arith)) (cases_eq k n)

-- state words

pub state_of_word : (words : List ℕ) (start : ℕ) (state : SlabState) → is_slab words start ≡ true → IsWordOfState (word_at words (state_word start)) state → SaysOfState (word_at words (state_word start)) state → IsStateOf words start state
state_of_word words start state slab is says =
    let w = word_at words (state_word start) in
    let field : (bits : ℕ) → state_field words start bits ≡ w / 2 ^ bits % 2 ^ 8 = λ bits. cond-true (is_slab words start) (w / 2 ^ bits % 2 ^ 8) 0 slab in
    record {
      form = says.form;
      old = (slab_fields words start).old ∙ field 16 ∙ says.old;
      entries = (slab_fields words start).index_count ∙ field 24 ∙ says.entries;
      valid = is.valid;
    }

pub good_slab : (words : List ℕ) (start : ℕ) → is_slab words start ≡ true → IsStateWord (word_at words (state_word start)) → AreGoodPlaces words start → IsGoodSlab words start
good_slab words start slab form places =
    let t = tables_of words in
    let w = word_at words (state_word start) in
    let field : (bits : ℕ) → w / 2 ^ bits % 2 ^ 8 ≡ state_field words start bits = λ bits. sym (cond-true (is_slab words start) (w / 2 ^ bits % 2 ^ 8) 0 slab) in
    let kind : w % 2 ^ 8 ≡ (t.header start).kind = omega (arith, field 0, (slab_fields words start).kind) in
    let class : w / 2 ^ 8 % 2 ^ 8 ≡ (t.header start).class = field 8 ∙ sym (slab_fields words start).class in
    let old : w / 2 ^ 16 % 2 ^ 8 ≡ (t.header start).old = field 16 ∙ sym (slab_fields words start).old in
    let entries : w / 2 ^ 24 % 2 ^ 8 ≡ (t.header start).index_count = field 24 ∙ sym (slab_fields words start).index_count in
    let is : IsValidSlab (t.header start) = record {
      state = subst (λ (T : Type 0). T) (λ i. IsState (kind i) (class i) (old i) (entries i)) form.state;
      small = λ place below. (places.each place below).small;
      once = λ place other below also same. ⊎_elim
          (λ (less : place < other). absurd ((places.each other also).new place less same))
          (λ (most : other ≤ place). ⊎_elim (λ (equal : place ≡ other). equal) (λ (more : place ≢ other). absurd ((places.each place below).new other (omega arith) (sym same))) (cases_eq place other))
          (cases_lt place other);
    } in
    record {
      header = record { state = form.small; index = λ place below. (places.each place (subst (λ n. place < n) (sym (slab_fields words start).index_count) below)).form };
      slab = is;
    }

-- slab by slab

pub slabs_more : (words : List ℕ) (n : ℕ) → ((k : ℕ) → k < n → IsGoodIfSlab words k) → IsGoodIfSlab words n → (k : ℕ) → k < n + 1 → IsGoodIfSlab words k
slabs_more words n before here k below = ⊎_elim (λ (same : k ≡ n). subst (IsGoodIfSlab words) (sym same) here) (λ (other : k ≢ n). before k (omega arith)) (cases_eq k n)

pub first_slab : (words : List ℕ) (found : SlabWord) → ((k : ℕ) → k < found.start → IsGoodIfSlab words k) → IsBadSlabWord words found.start found.value → IsFirstBadWord words found
first_slab words found before bad = record { slab = bad.slab; bad = bad.bad; before = λ earlier less slab. (before earlier less).good slab }

pub all_slabs : (words : List ℕ) (n : ℕ) → AreSlabsInside words → ((start : ℕ) → is_slab words start ≡ true → start < n) → ((k : ℕ) → k < n → IsGoodIfSlab words k) → AreGoodSlabs words
all_slabs words n inside below good start slab = (good start (below start slab)).good slab

pub word_or : (words : List ℕ) (start : ℕ) (found : Option ℕ) → is_slab words start ≡ true → IsStateWord (word_at words (state_word start)) → MatchOption found (AreGoodPlaces words start) (IsBadIndex words start) → MatchOption found (IsGoodSlab words start) (IsBadWord words start)
word_or words start None slab form places = good_slab words start slab form places
word_or words start (Some value) slab form bad = inr (form, bad)

-- index words that were read

pub form_read : (words : List ℕ) (start place word : ℕ) (entry : IndexEntry) → word ≡ word_at words (index_word start place) → SaysOfIndex word entry → IsIndexWord (word_at words (index_word start place))
form_read words start place word entry is says = subst IsIndexWord is says.form

pub number_read : (words : List ℕ) (start place word : ℕ) (entry : IndexEntry) → is_slab words start ≡ true → place < 64 → word ≡ word_at words (index_word start place) → SaysOfIndex word entry → entry.number ≡ ((tables_of words).header start).number place
number_read words start place word entry slab few is says = sym says.number ∙ ap (λ w. w / 2 ^ 16 % 2 ^ 16) is ∙ sym (number_table words start place slab few)
