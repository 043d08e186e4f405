-- An image without a defect is sound, and back.
use Rattle.std.proofs.Common.{◌≡◌, ◌⊎◌, ◌+◌, ◌<◌, ◌≤◌, true, true≢false, List, ℕ, Option, Some, None, refl, sym, ◌∙◌, arith, inl, inr, ⊎_elim}
use Rattle.std.proofs.lemmas.Bool.{cases_lt}
use Rattle.pool_layout.specs.Header.{granules_in}
use Rattle.image_tables.specs.declared.extent.Extent.{Extent}
use Rattle.image_tables.specs.declared.extent.Extent.TheVariants.{Large, Slab}
use Rattle.image_tables.specs.Extents.{extent_at}
use Rattle.image_tables.specs.Tables.{large_of, is_slab_of}
use Rattle.image_tables.proofs.Tables.{slab_table, large_table}
use Rattle.book_log.specs.Book.{HasLog}
use Rattle.heap_model.specs.Machine.{Range, AreApart}
use Rattle.heap_check.specs.Image.{IsSoundImage}
use Rattle.image_defects.specs.Blocks.{DoOverlap}
use Rattle.image_defects.specs.Defects.{IsFaultless}
use Rattle.image_defects.proofs.Extents.{extents_lie}

-- two blocks are apart, or share a byte
pub apart_or : (range another : Range) → AreApart range another ⊎ DoOverlap range another
apart_or range another = ⊎_elim
    (λ (begins : another.at < range.at + range.size). ⊎_elim
    (λ (ends : range.at < another.at + another.size). inr (record { begins = begins; ends = ends }))
    (λ (after : another.at + another.size ≤ range.at). inl (inr after))
    (cases_lt range.at (another.at + another.size)))
    (λ (before : range.at + range.size ≤ another.at). inl (inl before))
    (cases_lt another.at (range.at + range.size))

pub one_kind_of : (e : Option Extent) → is_slab_of e ≡ true → large_of e ≡ 0
one_kind_of None is = refl
one_kind_of (Some (Large n)) is = absurd (true≢false (sym is))
one_kind_of (Some Slab) is = refl

pub sound_of : (words : List ℕ) → IsFaultless words → IsSoundImage words
sound_of words f =
    let log : HasLog (granules_in words) words = record { directory = f.directory; entries = f.entries } in
    record {
      formed = record { header = f.header; size = f.size; log = log; wal = f.wal.form; slabs = λ start slab. (f.slabs start slab).header };
      sound = record {
        extents = record {
          disjoint = f.disjoint;
          starts = extents_lie words log;
          one_kind = λ start slab. large_table words start ∙ one_kind_of (extent_at words start) (sym (slab_table words start) ∙ slab);
        };
        slabs = λ start slab. (f.slabs start (sym (slab_table words start) ∙ slab)).slab;
        owned = record {
          open_entry = f.wal.may;
          rooted = f.standing;
          apart = λ root other range another differ claim second. ⊎_elim
              (λ apart. apart)
              (λ overlap. absurd (f.apart.none root (record { other = other; shared = record { differ = differ; range = range; another = another; claim = claim; second = second; overlap = overlap } })))
              (apart_or range another);
          claimed = λ start range holds. let r = f.rooted start range holds in (r.root, r.claim);
        };
        loose = f.few;
      };
    }

pub faultless_of : (words : List ℕ) → IsSoundImage words → IsFaultless words
faultless_of words s = record {
  header = s.formed.header;
  size = s.formed.size;
  directory = s.formed.log.directory;
  entries = s.formed.log.entries;
  disjoint = s.sound.extents.disjoint;
  slabs = λ start slab. record { header = s.formed.slabs start slab; slab = s.sound.slabs start (slab_table words start ∙ slab) };
  wal = record { form = s.formed.wal; may = s.sound.owned.open_entry };
  standing = s.sound.owned.rooted;
  apart = record {
    none = λ root sharing.
        let h = sharing.shared in
        ⊎_elim
        (λ before. omega (arith, before, h.overlap.begins))
        (λ after. omega (arith, after, h.overlap.ends))
        (s.sound.owned.apart root sharing.other h.range h.another h.differ h.claim h.second);
  };
  rooted = λ start range holds. let c = s.sound.owned.claimed start range holds in record { root = c.0; claim = c.1 };
  few = s.sound.loose;
}
