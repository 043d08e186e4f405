-- What stays of an image while Tombs are put into its log.
use Rattle.std.proofs.Common.{◌≡◌, ◌≢◌, ℕ, ◌/◌, ◌<◌, true, List, Some, None, refl, sym, ap, ◌∙◌, arith, inl, inr, ⊎_elim}
use Rattle.std.proofs.lemmas.Bool.{cases_eq, cond-true}
use Rattle.pool_layout.specs.Layout.{layout_of}
use Rattle.pool_layout.specs.Header.{version_in, granules_in}
use Rattle.image_tables.specs.Tables.{Tables}
use Rattle.book_log.specs.Book.{Book}
use Rattle.log_steps.specs.Log.{IsBookOf}
use Rattle.heap_model.specs.Machine.{Bounds, Range}
use Rattle.heap_model.proofs.Maps.{with_key-here, with_key-cases}
use Rattle.defect_search.specs.Roots.{IsNamedStart, IsNamedGranule}
use Rattle.image_defects.specs.Least.{HasNone}
use Rattle.gc_check.specs.Heap.{address_field, gc_block, gc_tables}
use Rattle.gc_check.specs.Image.{IsGcSoundImage}
use Rattle.gc_check.specs.State.{gc_slabs, HaveSameGcHeap, IsEitherGcHeap}
use Rattle.gc_check.proofs.Tables.{over}
use Rattle.gc_check.proofs.Heaps.{gc_heap-none, gc_heap-some}
use Rattle.gc_check.proofs.Stages.{same_then, keeps_first}
use Rattle.gc_steps.specs.Extents.{IsDroppable, IsDropped}
use Rattle.gc_search.specs.Known.{IsLogRead}
use Rattle.gc_search.specs.Names.{Names, AreNamesOf}
use Rattle.gc_search.proofs.Premises.{slab_high, large_lies}
use Rattle.gc_search.proofs.Standing.{gc_large, gc_slab}
use Rattle.gc_recovery_steps.specs.declared.search.Loose.{Loose}
use Rattle.gc_recovery_steps.specs.declared.search.Loose.TheVariants.{Large, Empty}
use Rattle.gc_recovery_steps.specs.Kinds.{IsLooseOf}
use Rattle.gc_recovery_steps.specs.Recovery.{KeepsGcHeap, KeepsGcSlabs, IsRid}

-- the log of a sound image is read
pub log_read : (words : List ℕ) (log : Book) → IsGcSoundImage words → IsBookOf log words → IsLogRead words log
log_read words log image book = record { header = image.formed.header; size = image.formed.size; reads = book.reads; granules = book.granules }

-- the heap is kept

pub keeps_self : (words : List ℕ) → IsGcSoundImage words → KeepsGcHeap words words
keeps_self words image = record { sound = image; bounds = refl; heap = record { each = λ root. refl }; blocks = record { each = λ root other range k was is word. refl } }

pub either_keeps : (words new image : List ℕ) → HaveSameGcHeap words new → IsEitherGcHeap words new image → KeepsGcHeap words image
either_keeps words new image same is = record {
  sound = is.sound;
  bounds = is.bounds;
  heap = ⊎_elim (λ old. old) (λ other. same_then words new image same other) is.heap;
  blocks = is.words;
}

pub keeps_on : (words made image : List ℕ) → KeepsGcHeap words made → KeepsGcHeap made image → KeepsGcHeap words image
keeps_on words made image first second = record {
  sound = second.sound;
  bounds = second.bounds ∙ first.bounds;
  heap = same_then words made image first.heap second.heap;
  blocks = keeps_first words made image first.heap first.blocks second.blocks;
}

-- what the roots hold is said by the heap

one_at : (a b : Range) → Some a ≡ Some b → a.at ≡ b.at
one_at a b is = let same : a ≡ b = cc in ap (λ (r : Range). r.at) same

pub roots_same : (words new : List ℕ) → HaveSameGcHeap words new → (root : ℕ) → (gc_tables new).root root ≡ (gc_tables words).root root
roots_same words new same root = (over new).root root ∙ fields ∙ sym ((over words).root root)
  where
    t : Tables
    t = gc_tables words

    u : Tables
    u = gc_tables new

    fields : address_field (u.word root) ≡ address_field (t.word root)
    fields = ⊎_elim
        (λ (none : t.word root ≡ 0). ⊎_elim
        (λ (also : u.word root ≡ 0). ap address_field (also ∙ sym none))
        (λ (some : u.word root ≢ 0). absurd (let one = gc_heap-none t root none in let two = gc_heap-some u root some in let both = same.each root in cc))
        (cases_eq (u.word root) 0))
        (λ (some : t.word root ≢ 0). ⊎_elim
        (λ (none : u.word root ≡ 0). absurd (let one = gc_heap-some t root some in let two = gc_heap-none u root none in let both = same.each root in cc))
        (λ (also : u.word root ≢ 0). one_at (gc_block u.large (u.word root)) (gc_block t.large (t.word root)) (sym (gc_heap-some u root also) ∙ same.each root ∙ gc_heap-some t root some))
        (cases_eq (u.word root) 0))
        (cases_eq (t.word root) 0)

-- and so are their names

named_start : (t u : Tables) (n m k : ℕ) → ((root : ℕ) → u.root root ≡ t.root root) → m ≡ n → IsNamedStart t n k → IsNamedStart u m k
named_start t u n m k same is named = record { root = named.root; below = omega (arith, is, named.below); some = λ none. named.some (sym (same named.root) ∙ none); here = same named.root ∙ named.here }

named_granule : (t u : Tables) (n m k : ℕ) → ((root : ℕ) → u.root root ≡ t.root root) → m ≡ n → IsNamedGranule t n k → IsNamedGranule u m k
named_granule t u n m k same is named = record { root = named.root; below = omega (arith, is, named.below); some = λ none. named.some (sym (same named.root) ∙ none); here = ap (λ w. w / 16384) (same named.root) ∙ named.here }

pub names_same : (words new : List ℕ) (names : Names) → KeepsGcHeap words new → AreNamesOf words names → AreNamesOf new names
names_same words new names keeps are =
    let granules = ap (λ (b : Bounds). b.granules) keeps.bounds in
    let roots = ap (λ (b : Bounds). b.roots) keeps.bounds in
    let t = gc_tables words in
    let u = gc_tables new in
    let n = (layout_of (version_in words)).roots in
    let m = (layout_of (version_in new)).roots in
    let same = roots_same words new keeps.heap in
    let back = λ (root : ℕ). sym (same root) in
    record {
      starts_size = are.starts_size ∙ sym granules;
      granules_size = are.granules_size ∙ sym granules;
      starts = record { each = λ k below. (λ marked. named_start t u n m k same roots ((are.starts.each k below).0 marked), λ named. (are.starts.each k below).1 (named_start u t m n k back (sym roots) named)) };
      granules = record { each = λ k below. (λ marked. named_granule t u n m k same roots ((are.granules.each k below).0 marked), λ named. (are.granules.each k below).1 (named_granule u t m n k back (sym roots) named)) };
    }

-- the thing of a kind is gone

slab_there : (words : List ℕ) (start : ℕ) → (gc_tables words).slab start ≡ true → gc_slabs words start ≡ Some ((gc_tables words).header start).class
slab_there words start slab = cond-true ((gc_tables words).slab start) (Some ((gc_tables words).header start).class) None slab

no_slab : (words new : List ℕ) (start : ℕ) → IsDropped words start new → (gc_tables new).slab start ≡ true → ⊥
no_slab words new start dropped slab =
    let some = slab_there new start slab in
    let gone = dropped.slabs start ∙ with_key-here (gc_slabs words) start None in
    cc

pub slabs_kept : (words new : List ℕ) (start : ℕ) → IsDropped words start new → KeepsGcSlabs words new
slabs_kept words new start dropped = record {
  classes = λ other class is. ⊎_elim
      (λ here. absurd (let none = here.1 in cc))
      (λ there. there.1)
      (with_key-cases (gc_slabs words) start other None (Some class) (sym (dropped.slabs other) ∙ is));
}

none_left : (words new : List ℕ) (start : ℕ) (kind : Loose) → IsGcSoundImage words → IsLooseOf kind (gc_tables words) start → IsDropped words start new → HasNone (IsLooseOf kind (gc_tables new))
none_left words new start Large image here dropped = record {
  none = λ other loose.
      let same = image.sound.loose.large.same other start (dropped.loose.large other loose) here in
      omega (arith, loose.live, ap (gc_tables new).large same, dropped.gone);
}
none_left words new start Empty image here dropped = record {
  none = λ other loose.
      let same = image.sound.loose.empty.same other start (dropped.loose.empty other loose) here in
      no_slab words new start dropped (ap (gc_tables new).slab (sym same) ∙ loose.slab);
}

pub rid_of : (words new : List ℕ) (start : ℕ) (kind : Loose) → IsGcSoundImage words → IsLooseOf kind (gc_tables words) start → IsDropped words start new → IsRid kind words new
rid_of words new start kind image here dropped = record { none = none_left words new start kind image here dropped; loose = dropped.loose; slabs = slabs_kept words new start dropped; header = dropped.header }

pub rid_self : (words : List ℕ) (kind : Loose) → HasNone (IsLooseOf kind (gc_tables words)) → IsRid kind words words
rid_self words kind none = record { none = none; loose = record { large = λ start loose. loose; empty = λ start loose. loose }; slabs = record { classes = λ start class is. is }; header = refl }

-- a thing of a kind may be dropped
pub droppable : (words : List ℕ) (start : ℕ) (kind : Loose) → IsGcSoundImage words → IsLooseOf kind (gc_tables words) start → IsDroppable words start
droppable words start Large image here = record { image = image; loose = inl here }
droppable words start Empty image here = record { image = image; loose = inr here }

-- one behind the other
pub slabs_on : (words made new : List ℕ) → KeepsGcSlabs words made → KeepsGcSlabs made new → KeepsGcSlabs words new
slabs_on words made new first second = record { classes = λ start class is. first.classes start class (second.classes start class is) }

-- a thing of a kind starts in the arena
pub loose_inside : (words : List ℕ) (log : Book) → IsLogRead words log → (kind : Loose) (start : ℕ) → IsLooseOf kind (gc_tables words) start → start < granules_in words
loose_inside words log read Large start loose = let live = gc_large words start in omega (arith, live, loose.live, large_lies read start (omega (arith, live, loose.live)))
loose_inside words log read Empty start loose = omega (arith, slab_high read start (sym (gc_slab words start) ∙ loose.slab))
