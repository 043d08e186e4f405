-- The state of a slab, and which blocks of roots lie in it.
use Rattle.std.proofs.Common.{◌≡◌, ◌≢◌, ◌+◌, ◌-◌, ◌/◌, ◌%◌, ◌^◌, ◌<◌, ◌≤◌, ℕ, true, List, refl, sym, ap, ◌∙◌, arith, inl, ⊎_elim}
use Rattle.std.proofs.lemmas.Bool.{cond-true}
use Rattle.pmem_lines.specs.Words.{word_at}
use Rattle.image_tables.specs.Tables.{SlabHeader, Tables, is_slab, state_word, state_field, tables_of}
use Rattle.image_tables.proofs.Tables.{slab_fields}
use Rattle.slab_header.specs.declared.state.SlabState.TheVariants.{Normal}
use Rattle.heap_check.specs.Heap.{is_large}
use Rattle.heap_check.specs.Sound.{granules_at, Covers}
use Rattle.heap_check.specs.Image.{bounds_of}
use Rattle.heap_check.proofs.Geometry.{granules_at-slab, is_large-parts, Covers-slab}
use Rattle.image_reading.specs.Slabs.{IsSlabOf}
use Rattle.gc_check.specs.Heap.{address_field, class_field, gc_tables}
use Rattle.gc_check.specs.Image.{IsNormalWord, IsGcSoundImage}
use Rattle.gc_check.proofs.Tables.{over}
use Rattle.gc_check.proofs.RootWords.{whole}
use Rattle.gc_search.proofs.Standing.{gc_word}
use Rattle.gc_map.specs.Slabs.{IsIn}
use Rattle.gc_map.specs.Places.{HasNoSlabOver, IsSlabOver, HasNoPlace, IsPlaceOf}
use Rattle.gc_map.proofs.Premises.{laid, is_slab-of}

-- extents are those of the words
pub gc_granules : (words : List ℕ) (start : ℕ) → granules_at (gc_tables words) start ≡ granules_at (tables_of words) start
unfolding gc_tables
gc_granules words start = refl

module _ (words : List ℕ) (sound : IsGcSoundImage words) where
  abbrev t : Tables
  t = gc_tables words

  -- states

  -- a field of the state word of a slab
  field : (start bits : ℕ) → t.slab start ≡ true → state_field words start bits ≡ word_at words (state_word start) / 2 ^ bits % 2 ^ 8
  field start bits slab = cond-true (is_slab words start) _ 0 (is_slab-of words start slab)

  normal : (start : ℕ) → t.slab start ≡ true → IsNormalWord (word_at words (state_word start))
  normal start slab = sound.formed.slabs start (is_slab-of words start slab)

  header_is : (start : ℕ) → t.header start ≡ (tables_of words).header start
  header_is start = ap (λ (f : ℕ → SlabHeader). f start) (over words).header

  -- the class that the state word says
  pub class_said : (start word : ℕ) → t.slab start ≡ true → word ≡ word_at words (state_word start) → word / 256 ≡ (t.header start).class
  class_said start word slab is =
      let own = normal start slab in
      let byte = field start 8 slab in
      let says = ap (λ (h : SlabHeader). h.class) (header_is start) ∙ (slab_fields words start).class ∙ byte in
      omega (arith, is, own.is, own.below, says)

  pub class_low : (start : ℕ) → t.slab start ≡ true → (t.header start).class < 36
  class_low start slab = sound.sound.classes start slab

  pub state_of : (start class : ℕ) → t.slab start ≡ true → class ≡ (t.header start).class → IsSlabOf t (record { start = start; state = Normal class })
  state_of start class slab is =
      let own = normal start slab in
      let fields = slab_fields words start in
      let header = header_is start in
      let none : (t.header start).index_count ≡ 0 = omega (arith, ap (λ (h : SlabHeader). h.index_count) header, fields.index_count, field start 24 slab, own.is, own.below) in
      record {
        kind = omega (arith, ap (λ (h : SlabHeader). h.kind) header, fields.kind, field start 0 slab, own.is, own.below);
        class = sym is;
        old = omega (arith, ap (λ (h : SlabHeader). h.old) header, fields.old, field start 16 slab, own.is, own.below);
        entries = none;
        valid = record {
          kinds = inl refl;
          is_class = omega (arith, is, class_low start slab);
          is_old_class = omega arith;
          none = λ normal. (refl, refl);
          differ = λ other. absurd (other refl);
          number = λ other. absurd (other refl);
        };
        numbers = λ place below. absurd (omega (arith, below, none));
      }

  -- blocks of roots

  -- no block lies in two slabs
  pub one_slab : (one other root : ℕ) → IsIn t one root → IsIn t other root → one ≡ other
  one_slab one other root is another =
      let at = t.root root in
      sound.sound.extents.disjoint one other (at / 16384)
      (Covers-slab t one (at / 16384) is.inside.slab (omega (arith, is.inside.low)) (omega (arith, is.inside.high)))
      (Covers-slab t other (at / 16384) another.inside.slab (omega (arith, another.inside.low)) (omega (arith, another.inside.high)))

  -- a slab lies behind the first granules, and within the arena
  pub slab_lies : (start : ℕ) → t.slab start ≡ true → (4 ≤ start) × (start + 4 ≤ (bounds_of words).granules)
  slab_lies start slab =
      let four = granules_at-slab t start slab in
      let lies = sound.sound.extents.starts start (omega (arith, four)) in
      (omega (arith, lies.0, (laid words sound).first.0), omega (arith, lies.1, four))

  -- a root whose word has no class has no block in a slab
  pub no_small : (root word : ℕ) → word ≡ (tables_of words).word root → class_field word ≡ 0 → HasNoPlace t root
  no_small root word is none = record {
    none = λ start lies.
        let held = (over words).root root in
        let same : t.word root ≡ word = gc_word words root ∙ sym is in
        let some : t.word root ≢ 0 = λ nothing. lies.some (omega (arith, held, nothing)) in
        ⊎_elim
        (λ (large : (class_field (t.word root) ≡ 0) × (is_large t.large (address_field (t.word root)) ≡ true)).
        let at = address_field (t.word root) in
        let own = at / 16384 in
        let parts = is_large-parts t.large at large.1 in
        let covers : Covers t start own = Covers-slab t start own lies.inside.slab (omega (arith, lies.inside.low, held)) (omega (arith, lies.inside.high, held)) in
        let same_start : start ≡ own = sound.sound.extents.disjoint start own own covers (record { low = omega arith; high = omega (arith, whole sound.sound own parts.1, parts.1) }) in
        omega (arith, parts.1, ap t.large same_start, sound.sound.extents.one_kind start lies.inside.slab))
        (λ small. omega (arith, small.0, ap class_field same, none))
        (sound.sound.owned.rooted root some).stands;
  }

  -- nor has one whose word names a byte of no slab
  pub no_slab : (root word : ℕ) → word ≡ (tables_of words).word root → HasNoSlabOver t (address_field word / 16384) → HasNoPlace t root
  no_slab root word is none = record {
    none = λ start lies.
        let held = (over words).root root ∙ ap address_field (gc_word words root ∙ sym is) in
        none.none start lies.inside.slab (omega (arith, lies.inside.low, held)) (omega (arith, lies.inside.high, held));
  }

  -- the others have
  pub place_there : (root word start class slab_class : ℕ) → word ≡ (tables_of words).word root → class_field word ≡ class → class ≢ 0 → IsSlabOver t (address_field word / 16384) start → slab_class ≡ (t.header start).class →
      IsPlaceOf t root (record { start = start; slab_class = slab_class; class = class - 1 })
  place_there root word start class slab_class is field some slab class_is =
      let same : t.word root ≡ word = gc_word words root ∙ sym is in
      let held = (over words).root root ∙ ap address_field same in
      let worded : t.word root ≢ 0 = λ nothing. some (omega (arith, sym field, sym same, nothing)) in
      let form = (sound.sound.owned.rooted root worded).form in
      record {
        lies = record {
          some = λ nothing. omega (arith, held, nothing, slab.low, (slab_lies start slab.slab).0);
          inside = record { slab = slab.slab; low = omega (arith, held, slab.low); high = omega (arith, held, slab.high) };
        };
        class = omega (arith, ap class_field same, field, some);
        is_class = omega (arith, ap class_field same, field, some, form.class);
        slab_class = sym class_is;
      }
