-- The indexes take over the live extents of an exact image, one after another by rising start.
use Rattle.std.proofs.Common.{◌≡◌, ◌≢◌, ◌↔◌, ◌⊎◌, ◌+◌, ◌<◌, ◌≤◌, ℕ, true, false, List, Some, None, sym, ap, subst, ◌∙◌, inr, ⊎_elim, arith}
use Rattle.arena_core.proofs.Common.{cases_eq, cases_lt, class_capacity, tables_of, granules_in, Large, start_of, extent_of, IsFreeRow, FreeSet, IsFree, class_in, Supply, MayBeGiven, IsClearOf, IsUnusedIn, granules_at, bounds_of, IsExactImage, Covers-slab, IsIndexOf, IsSlabsOf, IsReadBelow, IsWithSlabOf, extent_at, LogEntry, iff_then, slab_is}
use Rattle.image_tables.specs.declared.extent.Extent.{Extent}
use Rattle.image_tables.specs.declared.extent.Extent.TheVariants as extent
use Rattle.book_log.specs.declared.entry.LogEntry.TheVariants.{Slab}
use Rattle.book_log.specs.Live.{granules_of}
use Rattle.book_log.specs.Table.{IsNextLive}
use Rattle.log_steps.proofs.Disjoint.{live_of}
use Rattle.arena_core.specs.Adopting.{IsNextRead}
use Rattle.heap_check.proofs.Geometry.{size_none, size_is}

-- nothing starts from one granule on and below another, so that what is read below the one is read below the other
IsReadBelow-none : (words : List ℕ) (set : FreeSet) (parts : Supply) (from to : ℕ) → from ≤ to → ((start : ℕ) → from ≤ start → start < to → extent_at words start ≡ None) →
    IsReadBelow words set parts from → IsReadBelow words set parts to
IsReadBelow-none words set parts from to up none read = record {
  granules = read.granules;
  free = grind (arith, size_none);
  slab_granules = read.slab_granules;
  classes = λ start. grind (arith, slab_is);
  blocks = λ start i less slab few. read.blocks start i (grind (arith, slab_is)) slab few;
}

-- an extent is the next, and all that starts below it is read
pub record IsNextAt (words : List ℕ) (set : FreeSet) (parts : Supply) (start : ℕ) (here : Extent) : Type 0 where
  pub live : extent_at words start ≡ Some here
  pub read : IsReadBelow words set parts start

-- by its entry
next_at : (words : List ℕ) (set : FreeSet) (parts : Supply) (next : LogEntry) (here : Extent) → extent_of next ≡ Some here → IsNextRead words set parts next → IsNextAt words set parts (start_of next) here
next_at words set parts next here says is = record { live = is.live.live ∙ sym is.live.says ∙ says; read = IsReadBelow-none words set parts is.from (start_of next) is.live.at_least is.live.least is.read }

pub next_large : {words : List ℕ} {set : FreeSet} {parts : Supply} {next : LogEntry} {start count : ℕ} → next ≡ Large start count → IsNextRead words set parts next → IsNextAt words set parts start (extent.Large count)
next_large {words} {set} {parts} {next} {start} {count} same is = subst (λ e. IsNextAt words set parts (start_of e) (extent.Large count)) same (next_at words set parts next (extent.Large count) (ap extent_of same) is)

pub next_slab : {words : List ℕ} {set : FreeSet} {parts : Supply} {next : LogEntry} {start : ℕ} → next ≡ Slab start → IsNextRead words set parts next → IsNextAt words set parts start extent.Slab
next_slab {words} {set} {parts} {next} {start} same is = subst (λ e. IsNextAt words set parts (start_of e) extent.Slab) same (next_at words set parts next extent.Slab (ap extent_of same) is)

module _ {words : List ℕ} {set : FreeSet} {parts : Supply} {start : ℕ} {here : Extent} (image : IsExactImage words) (next : IsNextAt words set parts start here) where
  -- its granules are all free yet
  pub next_row : IsFreeRow (IsFree set) start (granules_of here)
  next_row = record {
    each = λ k from to.
        let sound = image.exact.sound in
        let size = size_is words start here next.live in
        let lies = sound.extents.starts start (omega (arith, size, from, to)) in
        (next.read.free k).1 (record {
          low = omega (arith, lies.0, from);
          high = omega (arith, lies.1, to, size);
          none = λ other less covers. omega (arith, sound.extents.disjoint start other k (record { low = from; high = omega (arith, to, size) }) covers, less);
        });
  }

  -- no slab was read at its start
  pub next_fresh : class_in parts.slabs start ≡ None
  next_fresh = grind (arith, next.read.classes)

  -- the granules of a slab are in no slab that was read
  pub next_clear : (tables_of words).slab start ≡ true → IsClearOf parts start
  next_clear slab = record {
    apart = λ other class is.
        let lower : other < start = grind (arith, next.read.classes) in
        let lives : (tables_of words).slab other ≡ true = grind (arith, next.read.classes) in
        ⊎_elim
        (λ (near : start < other + 4).
        let same = image.exact.sound.extents.disjoint start other start (Covers-slab (tables_of words) start start slab (omega arith) (omega arith)) (Covers-slab (tables_of words) other start lives (omega (arith, lower)) near) in
        absurd (omega (arith, same, lower)))
        (λ (far : other + 4 ≤ start). inr far)
        (cases_lt start (other + 4));
  }

-- the next extent is a large one
pub IsReadBelow-large : {words : List ℕ} {set new : FreeSet} {parts : Supply} {start count : ℕ} → IsNextAt words set parts start (extent.Large count) → new.granules ≡ set.granules →
    ((k : ℕ) → IsFree new k ↔ (IsFree set k × ((k < start) ⊎ (start + count ≤ k)))) → IsReadBelow words new parts (start + 1)
IsReadBelow-large {words} {set} {new} {parts} {start} {count} next granules taken =
    let read = next.read in
    let none : (tables_of words).slab start ≡ false = slab_is words start (Some (extent.Large count)) next.live in
    let size : granules_at (tables_of words) start ≡ count = size_is words start (extent.Large count) next.live in
    record {
      granules = granules ∙ read.granules;
      free = λ k. grind arith;
      slab_granules = read.slab_granules;
      classes = λ other. grind arith;
      blocks = λ other i less slab few. read.blocks other i (grind arith) slab few;
    }

-- the next extent is a slab
pub IsReadBelow-slab : {words : List ℕ} {set new : FreeSet} {parts more : Supply} {start : ℕ} → IsNextAt words set parts start extent.Slab → new.granules ≡ set.granules →
    ((k : ℕ) → IsFree new k ↔ (IsFree set k × ((k < start) ⊎ (start + 4 ≤ k)))) → IsWithSlabOf words parts more start → IsReadBelow words new more (start + 1)
IsReadBelow-slab {words} {set} {new} {parts} {more} {start} next granules taken with_slab =
    let t = tables_of words in
    let read = next.read in
    let slab : (tables_of words).slab start ≡ true = slab_is words start (Some extent.Slab) next.live in
    let size : granules_at (tables_of words) start ≡ 4 = size_is words start extent.Slab next.live in
    record {
      granules = granules ∙ read.granules;
      free = λ k. grind arith;
      slab_granules = with_slab.granules ∙ read.slab_granules;
      classes = λ other. grind (arith, cases_eq);
      blocks = λ other i less is_slab few. ⊎_elim
          (λ (here : other ≡ start). subst (λ s. i < class_capacity (t.header s).class → MayBeGiven more s i ↔ IsUnusedIn t s (t.header s).class i) (sym here) (with_slab.blocks i) few)
          (λ (apart : other ≢ start). iff_then (with_slab.others other i apart) (read.blocks other i (omega (arith, less, apart)) is_slab few))
          (cases_eq other start);
    }

-- before anything is read
pub read_first : (words : List ℕ) (set : FreeSet) (parts : Supply) → set.granules ≡ (bounds_of words).granules → ((k : ℕ) → IsFree set k ↔ (((bounds_of words).first ≤ k) × (k < set.granules))) →
    parts.slabs.granules ≡ (bounds_of words).granules → ((start : ℕ) → class_in parts.slabs start ≡ None) → IsReadBelow words set parts 0
read_first words set parts granules free slab_granules none = grind arith

-- behind all extents: the indexes are those of the image
module _ {words : List ℕ} {set : FreeSet} {parts : Supply} {from : ℕ} (none : (start : ℕ) → from ≤ start → extent_at words start ≡ None) (read : IsReadBelow words set parts from) where
  pub index_read : IsIndexOf set words
  index_read = grind (arith, size_none)

  pub slabs_read : IsSlabsOf parts words
  slabs_read = record {
    granules = read.slab_granules;
    classes = λ start. grind (arith, slab_is);
    blocks = λ start i slab few. read.blocks start i (grind (arith, slab_is)) slab few;
  }

-- a live extent has granules, and ends in the heap
pub extent_below : (words : List ℕ) (from : ℕ) (next : LogEntry) → IsExactImage words → IsNextLive (extent_at words) from next → start_of next < granules_in words
extent_below words from next image live = let lies = (live_of words image.formed).each (start_of next) live.extent live.live in omega (arith, lies.high, lies.some)
