-- The header of a slab changed, and each slab holds the blocks that it held: what stands beside the words and knows of the
-- header no more than that holds again. So it is where a slab took another class.
use Rattle.std.proofs.Common.{refl, length, [], ◌+◌, ◌*◌, ◌/◌, ◌≡◌, ◌↔◌, ℕ, true, List, ap, arith, ◌≢◌, ◌==◌, ◌<◌, ◌≤◌, Bool, false, Some, None, sym, ◌∙◌, subst, inl, if◌then◌else◌}
use Rattle.arena_core.proofs.Common.{SameLog, is_unfit, normal_of, PmemState, words_of, Volatile, IsQuietStep, step_wider, HasClassNow, Tables, tables_of, Book, FreeSet, IsUnusedIn, IsSound, granules_at, bounds_of, granules_at-slab, IsBookOf, SlabHeader, put_header, IsIndexOf, cond-true, class_capacity, HasNoMove-closed, normal_kind, Bounds, with_key, class_in, Lives, normal_at, Supply, MayBeGiven, IsClearOf, HasSlabMore, HasSlabLess, slabs, IsExactImage, Covers-slab, IsSlabsOf, AreCountsOf, IsMorphable, MayTakeClass, granule_word, morph_events, counts_kept, live_same, slab_parts, iff_then, with_key-is, with_key-twice}
use Rattle.image_tables.proofs.Headers.{SameLog-off_header}
use Rattle.image_tables.proofs.Updates.{put_header-same, put_header-other}
use Rattle.slab_morph.specs.Stages.{IsOffHeader, AllHoldSame, morphed, morph_count}
use Rattle.arena_core.proofs.Arenas.{index_as, book_same}
use Rattle.slab_index.specs.SlabSet.{IsSlab}
use Rattle.heap_check.proofs.Loose.{IsExactBut-exact}
use Rattle.arena_core.proofs.Readiness.{ready_after, room_of}
use Rattle.transition_steps.specs.Classes.{LeavesClosed, IsOfClass}
use Rattle.arena_core.proofs.LiveSlabs.{normal_header, lives_put}
use Rattle.arena_core.proofs.SmallCalls.{of_each, blocks_kept}
use Rattle.arena_core.proofs.SlabChanges.{apart_from}
use Rattle.heap_check.proofs.NormalSlabs.{normal_of-other}

pub record IsHeaderChange (words : List ℕ) (start : ℕ) (header : SlabHeader) (new : List ℕ) : Type 0 where
  pub sound : IsSound (bounds_of words) (tables_of words)
  pub slab : (tables_of words).slab start ≡ true
  pub off : IsOffHeader words start new
  pub bounds : bounds_of new ≡ bounds_of words
  pub tables : tables_of new ≡ put_header (tables_of words) start header
  pub held : AllHoldSame (tables_of words) (tables_of new)

module _ {words : List ℕ} {start : ℕ} {header : SlabHeader} {new : List ℕ} (change : IsHeaderChange words start header new) where
  -- what is read of the tables
  pub row : {X : Type 0} (f : Tables → X) → f (tables_of new) ≡ f (put_header (tables_of words) start header)
  row f = ap f change.tables

  -- the header of the slab, and of another
  pub header_now : (tables_of new).header start ≡ header
  header_now = row (λ x. x.header start) ∙ put_header-same (tables_of words) start header

  pub header_other : (s : ℕ) → s ≢ start → (tables_of new).header s ≡ (tables_of words).header s
  header_other s differ = row (λ x. x.header s) ∙ put_header-other (tables_of words) start header s differ

  -- the words of the log are the same
  pub log_header : SameLog words new
  log_header =
      let four = granules_at-slab (tables_of words) start change.slab in
      let lies = change.sound.extents.starts start (omega (arith, four)) in
      SameLog-off_header words new start (record { in_heap = lies.0; others = change.off.others })

  pub book_header : (book : Book) → IsBookOf book words → IsBookOf book new
  book_header book = book_same book log_header change.off.same_length change.bounds

  pub index_header : (set : FreeSet) → IsIndexOf set words → IsIndexOf set new
  index_header set = index_as set change.bounds (λ other. row (λ x. granules_at x other))

  -- the same blocks are unused
  pub unused_header : (s class i : ℕ) → IsUnusedIn (tables_of words) s class i ↔ IsUnusedIn (tables_of new) s class i
  unused_header s class i = (
    λ unused. record { each = λ range holds. unused.each range ((change.held.each s range).0 holds) },
    λ unused. record { each = λ range holds. unused.each range ((change.held.each s range).1 holds) },
  )

-- before

-- it has few blocks, and so few events
pub few_changes : (t : Tables) (start class : ℕ) → IsMorphable t start class → morph_count (t.header start) ≤ 152
few_changes t start class may = grind arith

-- the slab is one of the supply
pub is_slab : {set : Supply} {words : List ℕ} (start : ℕ) → IsSlabsOf set words → (tables_of words).slab start ≡ true → IsSlab set.slabs start
is_slab {set} {words} start were slab = record { class = ((tables_of words).header start).class; is = were.classes start ∙ cond-true ((tables_of words).slab start) (Some ((tables_of words).header start).class) None slab }

-- a slab of a supply from which one went is another one
other_left : {set less : Supply} (start other c : ℕ) → HasSlabLess set less start → class_in less.slabs other ≡ Some c → (other ≢ start) × (class_in set.slabs other ≡ Some c)
other_left {set} {less} start other c gone is = let was = gone.classes other in grind arith

-- once it is out of the supply, no other slab has one of its granules
pub clear_without : {set less : Supply} {words : List ℕ} (start : ℕ) → IsExactImage words → IsSlabsOf set words → (tables_of words).slab start ≡ true → HasSlabLess set less start → IsClearOf less start
clear_without {set} {less} {words} start image were slab gone = record {
  apart = λ other c is.
      let t = tables_of words in
      let left = other_left start other c gone is in
      apart_from t start other (slab_parts t other c (sym (were.classes other) ∙ left.1)).0 (λ k low high covers. left.0 (sym (image.exact.sound.extents.disjoint start other k (Covers-slab t start k slab low high) covers)));
}

-- behind

-- the blocks that are not used are those that are unused as before
used_back : {t after : Tables} (used : ℕ → Bool) {k start class i : ℕ} → k ≡ start → (after.header start).class ≡ class → (i < class_capacity (after.header k).class → (used i ≡ false) ↔ IsUnusedIn after k (after.header k).class i) → IsUnusedIn t start class i ↔ IsUnusedIn after start class i →
    ((i < class_capacity class) × (used i ≡ false)) ↔ ((i < class_capacity class) × IsUnusedIn t start class i)
used_back used at class_is says unused = grind arith

-- and they are open
open_now : {t after : Tables} {set : Supply} {start class i : ℕ} → (after.header start).class ≡ class → i < class_capacity (after.header start).class → MayBeGiven set start i ↔ ((i < class_capacity class) × IsUnusedIn t start class i) → IsUnusedIn t start class i ↔ IsUnusedIn after start class i →
    MayBeGiven set start i ↔ IsUnusedIn after start (after.header start).class i
open_now class_is below opens unused = grind arith

module _ (device u : PmemState) (volatile : Volatile) (start class : ℕ) (may : MayTakeClass device volatile start class) (taken : IsOfClass (words_of device) start class (words_of u)) where
  abbrev words : List ℕ
  words = words_of device

  abbrev new : List ℕ
  new = words_of u

  abbrev t : Tables
  t = tables_of words

  abbrev after : Tables
  after = tables_of new

  class_change : IsHeaderChange words start (morphed (t.header start) class) new
  class_change = record { sound = may.arena.current.exact.exact.sound; slab = may.morphable.slab; off = taken.off; bounds = taken.bounds; tables = taken.tables; held = taken.held }

  pub slab_now : (s : ℕ) → (tables_of (words_of u)).slab s ≡ (tables_of (words_of device)).slab s
  slab_now s = row class_change (λ x. x.slab s)

  class_now : (after.header start).class ≡ class
  class_now = ap (λ (h : SlabHeader). h.class) (header_now class_change)

  class_other : (s : ℕ) → s ≢ start → (after.header s).class ≡ (t.header s).class
  class_other s differ = ap (λ (h : SlabHeader). h.class) (header_other class_change s differ)

  -- the slab has the class
  classes_changed : (s : ℕ) → slabs after s ≡ with_key (slabs t) start (Some class) s
  classes_changed = with_key-is (slabs t) (slabs after) start (Some class) (cond-true (after.slab start) (Some (after.header start).class) None (slab_now start ∙ may.morphable.slab) ∙ ap (λ c. Some c) class_now)
      (λ s differ. λ i. if slab_now s i then Some (class_other s differ i) else None)

  -- it is normal no more
  normal_changed : (s : ℕ) → normal_of after s ≡ with_key (normal_of t) start None s
  normal_changed = with_key-is (normal_of t) (normal_of after) start None
      (normal_of-other after start (λ e. not_normal (sym (ap (λ (h : SlabHeader). h.kind) (header_now class_change)) ∙ e)))
      (λ s differ. row class_change (λ x. normal_of x s) ∙ normal_header t start (morphed (t.header start) class) s differ)
    where
      not_normal : (morphed (t.header start) class).kind ≢ normal_kind
      not_normal = grind arith

  -- it came back into the supply, with the blocks of the class that are unused
  pub came_changed : {less mid : Supply} {next : Lives} {used : ℕ → Bool} {slab : ℕ} → device.events ≡ [] → IsQuietStep device u (morph_events (tables_of (words_of device)) start class) (LeavesClosed (words_of device)) → length u.events ≡ length device.events + morph_count ((tables_of (words_of device)).header start) →
      HasSlabLess volatile.supply less start → next.counts ≡ volatile.lives.counts → ((s : ℕ) → normal_at next s ≡ with_key (normal_at volatile.lives) start None s) → ((k o : ℕ) → is_unfit next.unfit k o ≡ (if o == start then false else is_unfit volatile.lives.unfit k o)) → slab ≡ 8 * granule_word start → HasSlabMore less mid start class (λ i. (i < class_capacity class) × (used i ≡ false)) →
      ((i : ℕ) → i < class_capacity (((tables_of (words_of u)).header (slab / 16384)).class) → (used i ≡ false) ↔ IsUnusedIn (tables_of (words_of u)) (slab / 16384) (((tables_of (words_of u)).header (slab / 16384)).class) i) →
      HasClassNow device u volatile (record volatile { supply = mid; lives = next }) start class (morph_events (tables_of (words_of device)) start class) × ((less : Supply) × HasSlabLess volatile.supply less start × HasSlabMore less mid start class (λ i. (i < class_capacity class) × IsUnusedIn (tables_of (words_of device)) start class i))
  came_changed {less} {mid} {next} {used} {slab} fresh step count gone same put unfit at back says =
      let arena = may.arena in
      let current = arena.current in
      let more : HasSlabMore less mid start class (λ i. (i < class_capacity class) × IsUnusedIn t start class i) = record {
        granules = back.granules;
        classes = back.classes;
        here = λ i. iff_then (back.here i) (used_back used (omega (arith, at)) class_now (says i) (unused_header class_change start class i));
        loose = back.loose;
        others = back.others;
        stacks = back.stacks;
      } in
      let counts : AreCountsOf volatile.lives.counts new = counts_kept words new volatile.lives.counts (ap (λ (b : Bounds). b.granules) taken.bounds) (live_same words new taken.bounds slab_now taken.left.keeps.heap.each) arena.lives.counts in
      let came : HasClassNow device u volatile (record volatile { supply = mid; lives = next }) start class (morph_events t start class) = record {
        step = step_wider (λ image left. record { steady = left.keeps.steady; bounds = left.keeps.bounds; heap = inl left.keeps.heap; words = left.keeps.blocks; still = HasNoMove-closed left.closed }) step;
        arena = record {
          ready = ready_after current.ready step.appends.room step.quiet (log_header class_change).fields;
          image = record { formed = taken.exact.formed; but = IsExactBut-exact taken.exact.exact start };
          slab = slab_now start ∙ may.morphable.slab;
          log = book_header class_change volatile.log current.log;
          index = index_header class_change volatile.free current.index;
          slabs = record {
            granules = more.granules ∙ gone.granules ∙ arena.slabs.granules ∙ ap (λ (b : Bounds). b.granules) (sym taken.bounds);
            classes = λ s. more.classes s
                ∙ ap (λ x. if s == start then Some class else x) (gone.classes s)
                ∙ with_key-twice (class_in volatile.supply.slabs) start None (Some class) s
                ∙ ap (λ x. if s == start then Some class else x) (arena.slabs.classes s)
                ∙ sym (classes_changed s);
            blocks = of_each start (λ i slab below. open_now class_now below (more.here i) (unused_header class_change start class i))
                (λ s differ i. blocks_kept (slab_now s) (class_other s differ) (unused_header class_change s (t.header s).class i) (iff_then (more.others s i differ) (gone.others s i differ)) (arena.slabs.blocks s i));
          };
          lives = lives_put words new volatile.lives next (subst (λ (n : List ℕ). AreCountsOf n new) (sym same) counts) arena.lives start None put normal_changed unfit (λ s c number differ. (unused_header class_change s c number).1);
        };
        lively = taken.exact.exact.none_done start;
        class_is = class_now;
        slabs = classes_changed;
        heap = taken.left.keeps.heap;
        roots = λ root. ap (λ (x : Tables). x.root root) taken.tables;
        keeps = taken.left.keeps.blocks;
        header = (log_header class_change).fields;
        line = refl;
        room = omega (arith, few_changes t start class may.morphable, ap length fresh, count, step.appends.room, room_of current.ready);
      } in
      (came, (less, gone, more))
