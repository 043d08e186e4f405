-- What is read of the old blocks of a slab.
use Rattle.std.proofs.Common.{◌≡◌, ◌↔◌, IsTrue, ◌<◌, ◌/◌, ◌%◌, ◌^◌, ℕ, Bool, true, false, true≢false, not, List, sym, ap, subst, ◌∙◌, ⊎_elim, arith}
use Rattle.slab_morph.proofs.Common.{cases_Bool, false_from_ne_true, class_capacity, normal_kind, morphed_kind, word_at, Tables, state_word, tables_of, SlabHeader, slab_table, SlabState, Normal, Morphing, Morphed, kind_of, class_of, old_of, entries_of, slab_block, is_old, IsDoneSlab}
use Rattle.heap_check.proofs.LiveBlocks.{old_seen}
use Rattle.slab_morph.specs.SlabHeaders.{header_at, HasStateWord, IsSlabHere, IsOldAt}
use Rattle.slab_morph.proofs.HeaderTables.{header_of-slab}

-- the other answer
not_true : (b : Bool) → not b ≡ true → b ≡ false
not_true true is = absurd (true≢false (sym is))
not_true false is = λ i. false

-- only one kind of state has a code
pub morphed_of : (state : SlabState) → kind_of state ≡ morphed_kind → (class : ℕ) × (old : ℕ) × (entries : ℕ) × (state ≡ Morphed class old entries)
morphed_of (Normal class) is = absurd (omega (arith, is))
morphed_of (Morphing class old entries) is = absurd (omega (arith, is))
morphed_of (Morphed class old entries) is = (class, old, entries, λ i. Morphed class old entries)

module _ (words : List ℕ) (slab : ℕ) (here : IsSlabHere words slab) where
  abbrev start : ℕ
  start = slab / 16384

  abbrev t : Tables
  t = tables_of words

  abbrev h : SlabHeader
  h = header_at words start

  same : h ≡ record { kind = (t.header start).kind; class = (t.header start).class; old = (t.header start).old; index_count = (t.header start).index_count; bit = (t.header start).bit; live = (t.header start).live; number = (t.header start).number }
  same = sym (header_of-slab words start here.there)

  -- the kind of the state, as it is read
  pub kind_read : (word : ℕ) → word ≡ word_at words (state_word (slab / 16384)) → word % 256 ≡ ((tables_of words).header (slab / 16384)).kind
  unfolding header_at
  kind_read word is =
      let byte : word % 256 ≡ word / 2 ^ 0 % 2 ^ 8 = omega arith in
      byte ∙ ap (λ w. w / 2 ^ 0 % 2 ^ 8) is ∙ ap (λ (h : SlabHeader). h.kind) same

  -- a normal slab has no old block
  pub no_old_in_normal : (at : ℕ) → ((tables_of words).header (slab / 16384)).kind ≡ normal_kind → is_old ((tables_of words).header (slab / 16384)) (slab / 16384) at ≡ false
  no_old_in_normal at normal = false_from_ne_true (is_old (t.header start) start at) (λ is.
      let seen = old_seen (t.header start) start at is in
      absurd (omega (arith, seen.1, (here.valid.state.none normal).1)))

  pub live_is : (place : ℕ) → (header_at words (slab / 16384)).live place ≡ ((tables_of words).header (slab / 16384)).live place
  live_is place = ap (λ (h : SlabHeader). h.live place) same

  pub number_is : (place : ℕ) → (header_at words (slab / 16384)).number place ≡ ((tables_of words).header (slab / 16384)).number place
  number_is place = ap (λ (h : SlabHeader). h.number place) same

  module _ (state : SlabState) (says : HasStateWord (header_at words (slab / 16384)) state) where
    pub kind_is : kind_of state ≡ ((tables_of words).header (slab / 16384)).kind
    kind_is = sym says.kind ∙ ap (λ (h : SlabHeader). h.kind) same

    pub class_is : class_of state ≡ ((tables_of words).header (slab / 16384)).class
    class_is = sym says.class ∙ ap (λ (h : SlabHeader). h.class) same

    pub old_is : old_of state ≡ ((tables_of words).header (slab / 16384)).old
    old_is = sym says.old ∙ ap (λ (h : SlabHeader). h.old) same

    pub entries_is : entries_of state ≡ ((tables_of words).header (slab / 16384)).index_count
    entries_is = sym says.entries ∙ ap (λ (h : SlabHeader). h.index_count) same

    -- a number of an index entry that is read is one of the old class
    pub small_is : (old place : ℕ) → old ≡ old_of state → place < entries_of state → (header_at words (slab / 16384)).number place < class_capacity old
    small_is old place is below =
        subst (λ n. n < class_capacity old) (sym (number_is place)) (subst (λ c. (t.header start).number place < class_capacity c) (sym (is ∙ old_is)) (here.valid.small place (subst (λ n. place < n) entries_is below)))

  -- an old block that is found
  pub found_old : (old at place entries : ℕ) → old ≡ (t.header start).old → entries ≡ (t.header start).index_count → place < entries → h.live place ≡ true → (slab_block start old (h.number place)).at ≡ at → IsOldAt (tables_of words) (slab / 16384) at place
  found_old old at place entries old_same few below live at_is = record {
    below = subst (λ n. place < n) few below;
    live = sym (live_is place) ∙ live;
    here = sym (λ i. (slab_block start (old_same i) (number_is place i)).at) ∙ at_is;
  }

  -- none is there
  pub no_old : (old at entries : ℕ) → old ≡ (t.header start).old → entries ≡ (t.header start).index_count → ((place : ℕ) → place < entries → ¬ ((h.live place ≡ true) × ((slab_block start old (h.number place)).at ≡ at))) → is_old ((tables_of words).header (slab / 16384)) (slab / 16384) at ≡ false
  no_old old at entries old_same few none = false_from_ne_true (is_old (t.header start) start at) (λ is.
      let seen = old_seen (t.header start) start at is in
      none seen.0 (subst (λ n. seen.0 < n) (sym few) seen.1) (live_is seen.0 ∙ seen.2, (λ i. (slab_block start (old_same i) (number_is seen.0 i)).at) ∙ seen.3))

  -- whether it is done, by what is read of it
  pub done_by : (entries : ℕ) (some : Bool) → entries ≡ (t.header start).index_count → (t.header start).kind ≡ morphed_kind → (some ≡ true → (place : ℕ) × (place < entries) × (h.live place ≡ true)) →
      (some ≡ false → (place : ℕ) → place < entries → h.live place ≡ false) → IsTrue (not some) ↔ IsDoneSlab (tables_of words) (slab / 16384)
  done_by entries some few kind found none = (
    λ is. record {
      slab = slab_table words start ∙ here.there;
      kind = kind;
      none = λ place below. sym (live_is place) ∙ none (not_true some is) place (subst (λ n. place < n) (sym few) below);
    },
    λ done. ⊎_elim
        (λ (lives : some ≡ true). let one = found lives in absurd (true≢false (sym one.2 ∙ live_is one.0 ∙ done.none one.0 (subst (λ n. one.0 < n) few one.1))))
        (λ (is : some ≡ false). ap not is)
        (cases_Bool some),
  )
