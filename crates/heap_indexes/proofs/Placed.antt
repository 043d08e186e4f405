-- The indexes after the parts of a malloc.
use Rattle.std.proofs.Common.{MatchOption, IsSome, ◌≡◌, ◌≢◌, ◌⊎◌, ◌↔◌, ◌==◌, ℕ, ◌+◌, ◌*◌, ◌/◌, ◌<◌, ◌≤◌, ◌^◌, true, false, true≢false, List, length, slice_index, Option, Some, None, if◌then◌else◌, refl, sym, ap, ◌∙◌, subst, arith, inl, inr, ⊎_elim}
use Rattle.std.proofs.lemmas.Nat.{le-div}
use Rattle.heap_indexes.proofs.Common.{is_unfit, HasNoOpen, HasSlabLess, IsClearRange, with_key-here, with_key-other, cases_eq, class_size, class_capacity, class_size-most, class_size-least, class_size-aligned, Bounds, Machine, Range, with_key, slab_block, IsBlockOf, IsUnused, IsFreeGranule, IsOverlapFree, IsBestFit, IsFreeRow, with_block, with_class, LiesIn-block, IsOverlapFree-morph, IsOverlapFree-slab, IsUnused-free, fit_free, live_below-most, FreeSet, IsFree, class_in, SlabBlock, Lives, normal_at, Supply, MayBeGiven, TookBlock, HasSlabMore, IsClearOf, Units, IsOnUnits, IsRangeMarked, law_of_placed_units, Indexes, AreIndexesOf, HasChanged, eq-eqb, eqb-true}
use Rattle.heap_model.specs.Choice.Site.{Granules, InSlab}
use Rattle.heap_indexes.specs.Fitting.{IsFirstReady}
use Rattle.heap_indexes.proofs.Machines.{one_given, sized_same, placed_more, placed_class, block_some}
use Rattle.heap_indexes.proofs.Granules.{free_small, free_taken, free_opened, free_changed, no_slab_free}
use Rattle.heap_indexes.proofs.Supplies.{supply_taken, supply_classed, changed_here, changed_others, changed_classes}
use Rattle.heap_indexes.proofs.LiveBlocks.{lives_raised, normal_taken, strangers_taken, lives_classed, strangers_classed, all_strangers, no_strangers, none_begin, units_same}
use Rattle.block_supply.proofs.Takes.{none_open}
use Rattle.bit_words.specs.Numbers.{has}
use Rattle.heap_indexes.specs.Kept.{IsOnlySlab, HasTaken, WasFull}
use Rattle.unit_map.proofs.StateUnits.{units_with_large, block_on_units}
use Rattle.heap_indexes.proofs.LargeBlocks.{supply_with, lives_with, strangers_with}
use Rattle.heap_model.proofs.Placing.{rows_apart}

-- a slab, by the supply
pub record IsSlabIn (b : Bounds) (m : Machine) (s class : ℕ) : Type 0 where
  pub slab : m.slab s ≡ Some class
  pub known : class < 36
  pub low : b.first ≤ s
  pub high : s + 4 ≤ b.granules
  pub few : s < 4096

module _ {b : Bounds} {m : Machine} {x : Indexes} (apart : IsOverlapFree b m) (are : AreIndexesOf b m x) where
  pub slab_of : (s class : ℕ) → class_in x.supply.slabs s ≡ Some class → IsSlabIn b m s class
  slab_of s class is =
      let slab = sym (are.supply.classes s) ∙ is in
      let lies = apart.slabs s class slab in
      record { slab = slab; known = are.supply.known s class slab; low = lies.0; high = lies.1; few = omega (arith, lies.1, are.sized.most) }

  -- its live blocks can be counted
  pub count_fits : (s class : ℕ) → m.slab s ≡ Some class → slice_index x.lives.counts s + 1 < 2 ^ 32
  count_fits s class slab =
      let is = are.lives.counts s class slab in
      let most = live_below-most m.block s b.roots in
      let roots = are.sized.roots in
      omega (arith, is, most, roots)

  -- a block of a slab of the class was taken out of the supply, for a root that names nothing
  pub taken_indexes : (supply : Supply) (lives : Lives) (units : Units) (seat class : ℕ) (block : SlabBlock) (root : ℕ) → root < b.roots → m.block root ≡ None → TookBlock x.supply seat class block supply →
      IsRangeMarked x.units (slab_block block.start class block.number) units → lives.unfit ≡ x.lives.unfit → length lives.counts ≡ length x.lives.counts → ((s : ℕ) → slice_index lives.counts s ≡ (if s == block.start then slice_index x.lives.counts s + 1 else slice_index x.lives.counts s)) → ((s : ℕ) → normal_at lives s ≡ normal_at x.lives s) →
      AreIndexesOf b (with_block m root (InSlab block.start class block.number)) (record x { supply = supply; lives = lives; units = units })
  taken_indexes supply lives units seat class block root below none took marked unfit size raised normal =
      let range = slab_block block.start class block.number in
      let one = one_given b m root range below none in
      let home = slab_of block.start class took.slab in
      let is_block : IsBlockOf block.start class range = record { number = block.number; within = took.within; is = refl } in
      let lies = LiesIn-block block.start class range is_block in
      let some = block_some block.start class block.number took.within in
      let small = class_size-most class home.known in
      record {
        sized = sized_same b x _ are.sized refl took.without.granules size refl marked.granules;
        placed = placed_more one (λ _. record { start = block.start; class = class; slab = home.slab; own = class; block = is_block }) are.placed;
        free = free_small one x.free small are.free;
        supply = supply_taken one x.supply supply block.start class block.number apart home.slab took.within refl are.supply took.without;
        lives = lives_raised one apart block.start class home.slab lies some x.lives lives are.lives unfit raised (normal_taken one apart block.start class home.slab lies some refl x.lives lives are.lives normal);
        strangers = strangers_taken one apart block.start class home.slab lies some refl x.strangers are.strangers;
        units = law_of_placed_units m (with_block m root (InSlab block.start class block.number)) root range x.units units are.units none (λ r. refl) (λ large. omega (arith, large, small)) (block_on_units block.start class block.number home.known) marked;
      }

  -- whole granules were taken
  pub granules_indexes : (free : FreeSet) (start n root : ℕ) → root < b.roots → m.block root ≡ None → 2 ≤ n → free.granules ≡ x.free.granules → ((k : ℕ) → IsFree free k ↔ (IsFree x.free k × ((k < start) ⊎ (start + n ≤ k)))) → ((k : ℕ) → start ≤ k → k < start + n → IsFree x.free k) →
      AreIndexesOf b (with_block m root (Granules start n)) (record x { free = free })
  granules_indexes free start n root below none many granules taken row =
      let range : Range = record { at = 16384 * start; size = 16384 * n } in
      let one = one_given b m root range below none in
      let large : 16384 < range.size = omega (arith, many) in
      let some : 0 < range.size = omega (arith, many) in
      record {
        sized = sized_same b x _ are.sized granules refl refl refl refl;
        placed = placed_more one (λ small. absurd (small large)) are.placed;
        free = free_taken one start n refl refl many x.free free are.free taken;
        supply = supply_with one some off x.supply are.supply;
        lives = lives_with one some off x.lives are.lives;
        strangers = strangers_with one some off x.strangers are.strangers;
        units = units_with_large m (with_block m root (Granules start n)) root range x.units are.units none (λ r. refl) large;
      }
    where
      -- it shares no byte with a slab
      off : (s c : ℕ) → m.slab s ≡ Some c → (16384 * start + 16384 * n ≤ 16384 * s) ⊎ (16384 * s + 65536 ≤ 16384 * start)
      off s c slab = ⊎_elim
          (λ before. inl (omega (arith, before)))
          (λ behind. inr (omega (arith, behind)))
          (rows_apart start n s 4 (omega (arith, many)) (omega arith) (λ k from to first last. ⊎_elim (λ x. omega (arith, x, first)) (λ x. omega (arith, x, last)) (((are.free.each k).0 (row k from to)).no_slab s c slab)))

  -- four free granules, by the index
  pub free_row : (start : ℕ) → IsBestFit (IsFree x.free) 4 start → IsFreeRow (IsFreeGranule b m) start 4
  free_row start fit = record { each = λ k low high. (are.free.each k).0 (fit_free (IsFree x.free) 4 start k fit low high) }

  pub no_slab_there : (start : ℕ) → IsBestFit (IsFree x.free) 4 start → m.slab start ≡ None
  no_slab_there start fit = no_slab_free b m start ((free_row start fit).each start (omega arith) (omega arith))

  pub apart_opened : (start class : ℕ) → IsBestFit (IsFree x.free) 4 start → IsOverlapFree b (with_class m start class)
  apart_opened start class fit = IsOverlapFree-slab b m start class apart (free_row start fit)

  -- a block of a new slab is unused
  pub unused_fresh : (start class i : ℕ) → IsBestFit (IsFree x.free) 4 start → i < class_capacity class → IsUnused m (slab_block start class i)
  unused_fresh start class i fit within =
      let lies = LiesIn-block start class (slab_block start class i) (record { number = i; within = within; is = refl }) in
      IsUnused-free b m start 4 (slab_block start class i) apart (omega arith) (free_row start fit) lies.low (omega (arith, lies.high))

  -- no slab has four free granules
  pub clear_there : (start : ℕ) → IsBestFit (IsFree x.free) 4 start → IsClearOf x.supply start
  clear_there start fit = record {
    apart = λ other c there. go other c (sym (are.supply.classes other) ∙ there);
  }
    where
      go : (other c : ℕ) → m.slab other ≡ Some c → (start + 4 ≤ other) ⊎ (other + 4 ≤ start)
      go other c slab = rows_apart start 4 other 4 (omega arith) (omega arith) (λ k from to first last. ⊎_elim (λ x. omega (arith, x, first)) (λ x. omega (arith, x, last)) (((free_row start fit).each k from to).no_slab other c slab))

  -- a slab was made on them
  pub opened_indexes : (free : FreeSet) (supply : Supply) (lives : Lives) (strangers : List ℕ) (start class : ℕ) → IsBestFit (IsFree x.free) 4 start → class < 36 → free.granules ≡ x.free.granules →
      ((k : ℕ) → IsFree free k ↔ (IsFree x.free k × ((k < start) ⊎ (start + 4 ≤ k)))) → HasSlabMore x.supply supply start class (λ i. i < class_capacity class) → lives.counts ≡ x.lives.counts →
      ((k o : ℕ) → is_unfit lives.unfit k o ≡ (if o == start then false else is_unfit x.lives.unfit k o)) → ((s : ℕ) → normal_at lives s ≡ with_key (normal_at x.lives) start (Some class) s) → length strangers ≡ length x.strangers → ((s : ℕ) → slice_index strangers s ≡ (if s == start then 0 else slice_index x.strangers s)) →
      AreIndexesOf b (with_class m start class) (record { free = free; supply = supply; lives = lives; strangers = strangers; units = x.units })
  opened_indexes free supply lives strangers start class fit known granules taken more counts unfit normal size put =
      let none = no_slab_there start fit in
      let after = apart_opened start class fit in
      let bare = none_begin b m start apart (free_row start fit) in
      let all = no_strangers b m start class bare in
      let zero_is = are.lives.none start none in
      record {
        sized = sized_same b x _ are.sized granules more.granules (ap length counts) size refl;
        placed = placed_class m start class are.placed;
        free = free_opened b m start class x.free free none are.free taken;
        supply = supply_classed m start class x.supply supply known are.supply more.classes (λ i within. (λ _. unused_fresh start class i fit within, λ _. (more.here i).1 within)) more.others;
        lives = lives_classed b m start class after all x.lives lives true are.lives (zero_is ∙ sym bare) (λ _. zero_is) (λ is. absurd (true≢false is)) counts unfit normal;
        strangers = strangers_classed b m start class after all x.strangers strangers 0 are.strangers (sym bare) put;
        units = units_same m (with_class m start class) x.units (λ r. refl) are.units;
      }

  -- a slab that is ready took a class
  pub apart_changed : (start class : ℕ) → IsFirstReady x.lives x.units class start → IsOverlapFree b (with_class m start class)
  apart_changed start class ready = IsOverlapFree-morph b m start class ready.is.own apart ((are.lives.normal start ready.is.own).0 ready.is.slab).0

  pub changed_indexes : (supply : Supply) (lives : Lives) (strangers : List ℕ) (start class live : ℕ) → class < 36 → IsFirstReady x.lives x.units class start → HasChanged x.units x.supply start class supply → live ≡ slice_index x.lives.counts start → lives.counts ≡ x.lives.counts →
      ((k o : ℕ) → is_unfit lives.unfit k o ≡ (if o == start then false else is_unfit x.lives.unfit k o)) → ((s : ℕ) → normal_at lives s ≡ with_key (normal_at x.lives) start (if live == 0 then Some class else None) s) → length strangers ≡ length x.strangers → ((s : ℕ) → slice_index strangers s ≡ (if s == start then live else slice_index x.strangers s)) →
      AreIndexesOf b (with_class m start class) (record { free = x.free; supply = supply; lives = lives; strangers = strangers; units = x.units })
  changed_indexes supply lives strangers start class live known ready changed is counts unfit normal size put =
      let d = ready.is.own in
      let was = (are.lives.normal start d).0 ready.is.slab in
      let after = apart_changed start class ready in
      let all = all_strangers b m start d class apart was.0 was.1 (are.supply.known start d was.0) known ready.is.differs in
      let count = are.lives.counts start d was.0 in
      record {
        sized = sized_same b x _ are.sized refl (changed.came.granules ∙ changed.gone.granules) (ap length counts) size refl;
        placed = placed_class m start class are.placed;
        free = free_changed b m start class d x.free was.0 are.free;
        supply = supply_classed m start class x.supply supply known are.supply (changed_classes x.units x.supply supply start class changed) (changed_here x.units x.supply supply start class d apart are.units was.0 changed) (changed_others x.units x.supply supply start class changed);
        lives = lives_classed b m start class after all x.lives lives (live == 0) are.lives count (λ zero_is. sym is ∙ eqb-true live 0 zero_is) (λ some zero_is. true≢false (sym (eq-eqb live 0 (is ∙ zero_is)) ∙ some)) counts unfit normal;
        strangers = strangers_classed b m start class after all x.strangers strangers live are.strangers (is ∙ count) put;
        units = units_same m (with_class m start class) x.units (λ r. refl) are.units;
      }

module _ {b : Bounds} {m : Machine} {x : Indexes} (apart : IsOverlapFree b m) (are : AreIndexesOf b m x) where
  -- a block of a slab has units of the map
  pub units_within : (s class number at size : ℕ) → class_in x.supply.slabs s ≡ Some class → number < class_capacity class → at ≡ (slab_block s class number).at → size ≡ class_size class → at / 16 + size / 16 ≤ 1024 * x.units.granules
  units_within s class number at size is within at_is size_is =
      let home = slab_of apart are s class is in
      let lies = LiesIn-block s class (slab_block s class number) (record { number = number; within = within; is = refl }) in
      omega (arith, at_is, size_is, lies.high, home.high, are.sized.units)

  -- a normal slab lies among its granules
  pub normal_inside : (s own : ℕ) → normal_at x.lives s ≡ Some own → s + 4 ≤ x.units.granules
  normal_inside s own normal = omega (arith, (apart.slabs s own ((are.lives.normal s own).0 normal).0).1, are.sized.units)

-- a slab changed by the set of its used blocks
pub changed_by : (units : Units) (old less new : Supply) (start class : ℕ) (used : List ℕ) → HasSlabLess old less start → HasSlabMore less new start class (λ i. (i < class_capacity class) × (has used i ≡ false)) →
    ((i : ℕ) → i < class_capacity class → (has used i ≡ false) ↔ IsClearRange units (slab_block start class i)) → HasChanged units old start class new
changed_by units old less new start class used gone came clear = record {
  less = less;
  gone = gone;
  came = record {
    granules = came.granules;
    classes = came.classes;
    here = λ i. (
      λ may. let both = (came.here i).0 may in (both.0, (clear i both.0).0 both.1),
      λ both. (came.here i).1 (both.0, (clear i both.0).1 both.1),
    );
    loose = came.loose;
    others = came.others;
    stacks = came.stacks;
  };
}

-- a slab has a block of each class
class_capacity-some : (class : ℕ) → class < 36 → 0 < class_capacity class
class_capacity-some class below = grind (arith, class_size-least, class_size-most, le-div)

-- where no block of a class was open, those of a slab that has it now alone are
only_one : (old new : Supply) (start class number : ℕ) → HasNoOpen old class → ((s : ℕ) → class_in new.slabs s ≡ with_key (class_in old.slabs) start (Some class) s) → ((s i : ℕ) → s ≢ start → MayBeGiven new s i ↔ MayBeGiven old s i) → MayBeGiven new start number → IsOnlySlab new class start
only_one old new start class number none classes others may = record {
  slab = classes start ∙ with_key-here (class_in old.slabs) start (Some class);
  number = number;
  is_open = may;
  alone = λ s i slab open_i. ⊎_elim
      (λ same. same)
      (λ differ. absurd (none_open old class none s i (sym (classes s ∙ with_key-other (class_in old.slabs) start s (Some class) differ) ∙ slab) ((others s i differ).0 open_i)))
      (cases_eq s start);
}

pub only_opened : (old new : Supply) (start class : ℕ) → class < 36 → HasNoOpen old class → HasSlabMore old new start class (λ i. i < class_capacity class) → IsOnlySlab new class start
only_opened old new start class known none more = only_one old new start class 0 none more.classes more.others ((more.here 0).1 (class_capacity-some class known))

pub only_changed : (units : Units) (old new : Supply) (start class number : ℕ) → HasNoOpen old class → number < class_capacity class → IsClearRange units (slab_block start class number) → HasChanged units old start class new → IsOnlySlab new class start
only_changed units old new start class number none within clear changed =
    only_one old new start class number none (changed_classes units old new start class changed) (changed_others units old new start class changed) ((changed.came.here number).1 (within, clear))

-- the block that is taken is one of that slab
pub taken_of : (old new : Indexes) (seat class start : ℕ) (block : SlabBlock) → IsOnlySlab old.supply class start → HasTaken old seat class block new → HasTaken old seat class (record { start = start; number = block.number }) new
taken_of old new seat class start block only taken =
    let same = only.alone block.start block.number taken.took.slab taken.took.was_open in
    subst (λ s. HasTaken old seat class (record { start = s; number = block.number }) new) same taken

-- and there is one
pub some_taken : (old new : Indexes) (seat class start : ℕ) (found : Option SlabBlock) → IsOnlySlab old.supply class start → MatchOption found (WasFull old class new) (λ block. HasTaken old seat class block new) → IsSome found
some_taken old new seat class start None only full = absurd (none_open old.supply class full.none start only.number only.slab only.is_open)
some_taken old new seat class start (Some block) only taken = refl
