-- An image without a defect is sound, and back.
use Rattle.std.proofs.Common.{◌≡◌, ℕ, ◌/◌, ◌%◌, ◌^◌, ◌<◌, true, List, sym, ◌∙◌, arith, ⊎_elim}
use Rattle.std.proofs.lemmas.Bool.{cond-true}
use Rattle.pmem_lines.specs.Words.{word_at}
use Rattle.pool_layout.specs.Header.{granules_in}
use Rattle.image_tables.specs.Tables.{is_slab, state_word, state_field, tables_of}
use Rattle.image_tables.specs.Extents.{extent_at}
use Rattle.image_tables.proofs.Tables.{slab_table, large_table, slab_fields}
use Rattle.book_log.specs.Book.{HasLog}
use Rattle.heap_check.specs.Image.{bounds_of}
use Rattle.heap_check.specs.Sound.{AreExtents}
use Rattle.image_defects.specs.Log.{AreDisjoint}
use Rattle.image_defects.proofs.Extents.{extents_lie}
use Rattle.image_defects.proofs.Faultless.{apart_or, one_kind_of}
use Rattle.gc_check.specs.Heap.{gc_tables}
use Rattle.gc_check.specs.Image.{IsNormalWord, IsGcSoundImage}
use Rattle.gc_check.specs.Defects.{IsGcFaultless}

-- a normal state word has its class in the second byte
class_byte : (word : ℕ) → IsNormalWord word → word / 2 ^ 8 % 2 ^ 8 < 36
class_byte word is = omega (arith, is.is, is.below)

class_field : (words : List ℕ) (start : ℕ) → is_slab words start ≡ true → IsNormalWord (word_at words (state_word start)) → state_field words start 8 < 36
class_field words start slab is =
    let byte = word_at words (state_word start) / 2 ^ 8 % 2 ^ 8 in
    omega (arith, cond-true (is_slab words start) byte 0 slab, class_byte (word_at words (state_word start)) is)

class_table : (words : List ℕ) (start : ℕ) → is_slab words start ≡ true → IsNormalWord (word_at words (state_word start)) → ((gc_tables words).header start).class < 36
unfolding gc_tables
class_table words start slab is = omega (arith, (slab_fields words start).class, class_field words start slab is)

-- live extents of a well-formed log lie in the heap
extents_of : (words : List ℕ) → HasLog (granules_in words) words → AreDisjoint (tables_of words) → AreExtents (bounds_of words) (gc_tables words).large (gc_tables words).slab
unfolding gc_tables
extents_of words log disjoint = record {
  disjoint = disjoint;
  starts = extents_lie words log;
  one_kind = λ start slab. large_table words start ∙ one_kind_of (extent_at words start) (sym (slab_table words start) ∙ slab);
}

is_slab-of : (words : List ℕ) (start : ℕ) → (gc_tables words).slab start ≡ true → is_slab words start ≡ true
unfolding gc_tables
is_slab-of words start slab = sym (slab_table words start) ∙ slab

disjoint_of : (words : List ℕ) → AreExtents (bounds_of words) (gc_tables words).large (gc_tables words).slab → AreDisjoint (tables_of words)
unfolding gc_tables
disjoint_of words extents = extents.disjoint

pub sound_of : (words : List ℕ) → IsGcFaultless words → IsGcSoundImage words
sound_of words f =
    let log : HasLog (granules_in words) words = record { directory = f.directory; entries = f.entries } in
    record {
      formed = record { header = f.header; size = f.size; log = log; slabs = f.slabs };
      sound = record {
        extents = extents_of words log f.disjoint;
        classes = λ start slab. let is = is_slab-of words start slab in class_table words start is (f.slabs start is);
        owned = record {
          rooted = f.standing;
          apart = λ root other range another differ block second. ⊎_elim
              (λ apart. apart)
              (λ overlap. absurd (f.apart.none root (record { other = other; shared = record { differ = differ; range = range; another = another; block = block; second = second; overlap = overlap } })))
              (apart_or range another);
        };
        loose = f.few;
      };
    }

pub faultless_of : (words : List ℕ) → IsGcSoundImage words → IsGcFaultless words
faultless_of words s = record {
  header = s.formed.header;
  size = s.formed.size;
  directory = s.formed.log.directory;
  entries = s.formed.log.entries;
  disjoint = disjoint_of words s.sound.extents;
  slabs = s.formed.slabs;
  standing = s.sound.owned.rooted;
  apart = record {
    none = λ root sharing.
        let h = sharing.shared in
        ⊎_elim
        (λ before. omega (arith, before, h.overlap.begins))
        (λ after. omega (arith, after, h.overlap.ends))
        (s.sound.owned.apart root sharing.other h.range h.another h.differ h.block h.second);
  };
  few = s.sound.loose;
}
