-- An image without anything in it.
use Rattle.std.proofs.Common.{◌≡◌, ◌≢◌, ℕ, true, arith, None}
use Rattle.image_tables.specs.Tables.{Tables}
use Rattle.heap_model.specs.Machine.{Bounds}
use Rattle.heap_check.specs.Sound.{granules_at}
use Rattle.gc_check.specs.Heap.{gc_heap}
use Rattle.gc_check.specs.Sound.{IsGcSound, IsGcExact}
use Rattle.gc_check.specs.Laws.{AreGcBlank, LawOfEmptyGcHeap}
use Rattle.gc_check.proofs.Heaps.{gc_heap-none}

module _ (b : Bounds) (t : Tables) (blank : AreGcBlank t) where
  no_granules : (start : ℕ) → granules_at t start ≡ 0
  no_granules start = rw (blank.no_slab start) (blank.no_large start)

  no_slab : (start : ℕ) → t.slab start ≢ true
  no_slab start slab = let none = blank.no_slab start in cc

  no_block : (root : ℕ) → gc_heap t root ≡ None
  no_block root = gc_heap-none t root (blank.words root)

  blank_sound : IsGcSound b t
  blank_sound = record {
    extents = record {
      disjoint = λ start other k first second. absurd (omega (arith, first.low, first.high, no_granules start));
      starts = λ start some. absurd (omega (arith, some, no_granules start));
      one_kind = λ start slab. absurd (no_slab start slab);
    };
    classes = λ start slab. absurd (no_slab start slab);
    owned = record {
      rooted = λ root some. absurd (some (blank.words root));
      apart = λ root other range another differ first second. absurd (let none = no_block root in cc);
    };
    loose = record {
      large = record { same = λ one other first second. absurd (omega (arith, first.live, blank.no_large one)) };
      empty = record { same = λ one other first second. absurd (no_slab one first.slab) };
    };
  }

  blank_exact : IsGcExact b t
  blank_exact = record {
    sound = blank_sound;
    all_named = λ start live. absurd (omega (arith, live, blank.no_large start));
    all_live = λ start slab. absurd (no_slab start slab);
  }

pub law_of_empty_gc_heap : LawOfEmptyGcHeap
law_of_empty_gc_heap b t blank = (blank_exact b t blank, no_block b t blank)
