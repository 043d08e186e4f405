-- The indexes after the parts of a free.
use Rattle.std.proofs.Common.{false, MatchOption, IsSome, ◌≡◌, ◌≢◌, ◌⊎◌, ◌↔◌, ◌==◌, ℕ, ◌+◌, ◌-◌, ◌*◌, ◌/◌, ◌<◌, ◌≤◌, List, length, slice_index, Option, Some, None, if◌then◌else◌, refl, sym, ap, ◌∙◌, subst, arith, ⊎_elim, true≢false}
use Rattle.heap_indexes.proofs.Common.{is_unfit, cases_eq, class_size, class_capacity, class_size-most, Bounds, Machine, Range, with_key, slab_block, LiesIn, IsLarge, IsBlockOf, IsOverlapFree, live_below, class_known, LiesIn-block, with_key-other, FreeSet, IsFree, IsHeldRow, class_in, Lives, normal_at, Supply, MayBeGiven, IsWith, IsInSlabOf, IsInNoSlabOf, HasSlabLess, Units, IsRangeCleared, law_of_freed_units, Indexes, AreIndexesOf, strangers_below, loosened, closed, HasOpened, HasNoneOpen, IsBehindHeader, eq-eqb, eqb-true}
use Rattle.heap_indexes.proofs.Machines.{one_lost, sized_same, one_slab, placed_less, lies_in, block_some, IsOverlapFree-loosened}
use Rattle.heap_indexes.proofs.Granules.{free_small_less, free_given, held_own, free_closed, held_slab}
use Rattle.heap_indexes.proofs.Supplies.{supply_returned, supply_opened, supply_closed, none_covered, used_block}
use Rattle.heap_indexes.proofs.LiveBlocks.{count_some, lives_lowered, normal_returned, strangers_returned, strangers_lowered, strangers_here, normal_lowered, lives_closed, strangers_closed, none_live, units_same, sizes_differ}
use Rattle.heap_indexes.proofs.LargeBlocks.{supply_without, lives_without, strangers_without, large_off}
use Rattle.block_supply.specs.declared.place.SlabAt.{SlabAt}
use Rattle.heap_indexes.proofs.Placed.{IsSlabIn, slab_of}
use Rattle.unit_map.proofs.StateUnits.{units_without_large}

module _ {b : Bounds} {m : Machine} {x : Indexes} (apart : IsOverlapFree b m) (are : AreIndexesOf b m x) where
  -- whole granules come back

  module _ (start n root : ℕ) (many : 2 ≤ n) (named : m.block root ≡ Some (record { at = 16384 * start; size = 16384 * n })) where
    abbrev range : Range
    range = record { at = 16384 * start; size = 16384 * n }

    pub held_row : IsHeldRow x.free start n
    held_row = record {
      each = λ k low high.
          let held = held_own (one_lost b m root range apart named) start n refl refl many apart k low high in
          (omega (arith, are.sized.first, held.0), omega (arith, are.sized.free, held.1), λ free. held.2 ((are.free.each k).0 free));
    }

    pub granules_back : (free : FreeSet) → free.granules ≡ x.free.granules → ((k : ℕ) → IsFree free k ↔ (IsFree x.free k ⊎ ((start ≤ k) × (k < start + n)))) → AreIndexesOf b (loosened m root) (record x { free = free })
    granules_back free granules given =
        let one = one_lost b m root range apart named in
        let large : IsLarge range = omega (arith, many) in
        let some : 0 < range.size = omega (arith, many) in
        let off : (s c : ℕ) → m.slab s ≡ Some c → (range.at + range.size ≤ 16384 * s) ⊎ (16384 * s + 65536 ≤ range.at) = λ s c slab. large_off b m root s c range apart named large slab in
        record {
          sized = sized_same b x _ are.sized granules refl refl refl refl;
          placed = placed_less one are.placed;
          free = free_given one start n refl refl many apart x.free free are.free given;
          supply = supply_without one some off x.supply are.supply;
          lives = lives_without one some off x.lives are.lives;
          strangers = strangers_without one some off x.strangers are.strangers;
          units = units_without_large m (loosened m root) root range x.units are.units named (λ r. refl) large;
        }

  -- a small block, in its slab
  pub record IsHome (root start class : ℕ) (range : Range) : Type 0 where
    pub slab : IsSlabIn b m start class
    pub lies : LiesIn start range
    pub behind : IsBehindHeader start range

  pub home_of : (root start class : ℕ) (range : Range) → m.block root ≡ Some range → range.size ≤ 16384 → IsInSlabOf (class_in x.supply.slabs) (range.at / 16384) start class → IsHome root start class range
  home_of root start class range named small inside =
      let home = slab_of apart are start class inside.slab in
      let lies = lies_in apart root start class range named home.slab (omega (arith, inside.low)) (omega (arith, inside.high)) in
      let some = apart.sized root range named in
      let placed = are.placed.each root range named (λ large. omega (arith, large, small)) in
      let place = LiesIn-block placed.start placed.own range placed.block in
      let same : placed.start ≡ start = one_slab apart placed.start start placed.class class range.at placed.slab home.slab place.low (omega (arith, place.high, some)) lies.low (omega (arith, lies.high, some)) in
      let at : range.at ≡ 16384 * placed.start + 2048 + placed.block.number * class_size placed.own = ap (λ (r : Range). r.at) placed.block.is in
      record { slab = home; lies = lies; behind = record { some = some; low = omega (arith, at, same); high = lies.high } }

  -- it lies in one
  pub some_home : (root : ℕ) (range : Range) → m.block root ≡ Some range → range.size ≤ 16384 → ¬ (IsInNoSlabOf (class_in x.supply.slabs) (range.at / 16384))
  some_home root range named small none =
      let some = apart.sized root range named in
      let home = apart.small root range named (λ large. omega (arith, large, small)) in
      let low : home.0 ≤ range.at / 16384 = omega (arith, home.3.low) in
      let high : range.at / 16384 < home.0 + 4 = omega (arith, home.3.high, some) in
      absurd (let slab : class_in x.supply.slabs home.0 ≡ Some home.1 = are.supply.classes home.0 ∙ home.2 in let gone = none.none home.0 low high in cc)

  -- where it has the size of the slab's class it is one of its blocks
  pub own_block : (root start class : ℕ) (range : Range) → m.block root ≡ Some range → IsHome root start class range → range.size ≡ class_size class → IsBlockOf start class range
  own_block root start class range named home own =
      let small : range.size ≤ 16384 = omega (arith, own, class_size-most class home.slab.known) in
      let some = apart.sized root range named in
      let placed = are.placed.each root range named (λ large. omega (arith, large, small)) in
      let place = LiesIn-block placed.start placed.own range placed.block in
      let same : placed.start ≡ start = one_slab apart placed.start start placed.class class range.at placed.slab home.slab.slab place.low (omega (arith, place.high, some)) home.lies.low (omega (arith, home.lies.high, some)) in
      let size : class_size placed.own ≡ class_size class = sym (ap (λ (r : Range). r.size) placed.block.is) ∙ own in
      let known = class_known placed.own placed.block.number placed.block.within in
      let class_is : placed.own ≡ class = ⊎_elim (λ is. is) (λ differ. absurd (sizes_differ placed.own class known home.slab.known differ size)) (cases_eq placed.own class) in
      subst (λ s. IsBlockOf s class range) same (subst (λ c. IsBlockOf placed.start c range) class_is placed.block)

  -- a block of its slab's class comes back
  module _ (root start class number : ℕ) (named : m.block root ≡ Some (slab_block start class number)) (slab : m.slab start ≡ Some class) (within : number < class_capacity class) where
    abbrev block : Range
    block = slab_block start class number

    block_lies : LiesIn start (slab_block start class number)
    block_lies = LiesIn-block start class block (record { number = number; within = within; is = refl })

    pub own_used : ¬ (MayBeGiven x.supply start number)
    own_used = used_block {m = m} x.supply root start class number are.supply named slab within

    pub own_counted : 0 < slice_index x.lives.counts start
    own_counted = omega (arith, count_some (one_lost b m root block apart named) (IsOverlapFree-loosened b m root apart) start class slab block_lies (block_some start class number within) x.lives are.lives)

    pub own_back : (supply : Supply) (lives : Lives) (units : Units) → IsWith x.supply supply start number → IsRangeCleared x.units (slab_block start class number) units → length lives.counts ≡ length x.lives.counts →
        ((k o : ℕ) → is_unfit lives.unfit k o ≡ (if o == start then false else is_unfit x.lives.unfit k o)) → ((s : ℕ) → slice_index lives.counts s ≡ (if s == start then slice_index x.lives.counts s - 1 else slice_index x.lives.counts s)) → ((s : ℕ) → normal_at lives s ≡ normal_at x.lives s) →
        AreIndexesOf b (loosened m root) (record x { supply = supply; lives = lives; units = units })
    own_back supply lives units came cleared size unfit lowered normal =
        let one = one_lost b m root block apart named in
        let less = IsOverlapFree-loosened b m root apart in
        let some = block_some start class number within in
        let small = class_size-most class (class_known class number within) in
        record {
          sized = sized_same b x _ are.sized refl came.granules size refl cleared.granules;
          placed = placed_less one are.placed;
          free = free_small_less one x.free small are.free;
          supply = supply_returned one x.supply supply start class number apart slab within refl are.supply came;
          lives = lives_lowered one less start class slab block_lies some x.lives lives are.lives unfit lowered (normal_returned one less start class slab block_lies some refl x.lives lives are.lives normal);
          strangers = strangers_returned one less start class slab block_lies some refl x.strangers are.strangers;
          units = law_of_freed_units b m (loosened m root) root block x.units units are.units apart named (λ r. refl) (λ large. omega (arith, large, small)) cleared;
        }

  -- one of another size comes back
  module _ (root start class : ℕ) (range : Range) (named : m.block root ≡ Some range) (slab : m.slab start ≡ Some class) (lies : LiesIn start range) (small : range.size ≤ 16384) (other : range.size ≢ class_size class) where
    pub stranger_counted : 0 < slice_index x.lives.counts start
    stranger_counted = omega (arith, count_some (one_lost b m root range apart named) (IsOverlapFree-loosened b m root apart) start class slab lies (apart.sized root range named) x.lives are.lives)

    abbrev left_over : ℕ
    left_over = strangers_below (loosened m root).block start class b.roots

    pub stranger_noted : slice_index x.strangers start ≡ strangers_below (loosened m root).block start class b.roots + 1
    stranger_noted = are.strangers.each start class slab ∙ strangers_here (one_lost b m root range apart named) (IsOverlapFree-loosened b m root apart) start class slab lies (apart.sized root range named) other

    pub stranger_covers : HasNoneOpen x.supply start class range
    stranger_covers = none_covered {m = m} x.supply root start class range are.supply named slab

    pub stranger_back : (supply : Supply) (lives : Lives) (strangers : List ℕ) (units : Units) (left : ℕ) → HasOpened units x.supply start class range supply → IsRangeCleared x.units range units → length lives.counts ≡ length x.lives.counts →
        ((k o : ℕ) → is_unfit lives.unfit k o ≡ (if o == start then false else is_unfit x.lives.unfit k o)) → ((s : ℕ) → slice_index lives.counts s ≡ (if s == start then slice_index x.lives.counts s - 1 else slice_index x.lives.counts s)) → left ≡ slice_index x.strangers start - 1 →
        ((s : ℕ) → normal_at lives s ≡ (if left == 0 then with_key (normal_at x.lives) start (Some class) s else normal_at x.lives s)) → length strangers ≡ length x.strangers → ((s : ℕ) → slice_index strangers s ≡ (if s == start then left else slice_index x.strangers s)) →
        AreIndexesOf b (loosened m root) (record { free = x.free; supply = supply; lives = lives; strangers = strangers; units = units })
    stranger_back supply lives strangers units left opened cleared size unfit lowered is normal wide put =
        let one = one_lost b m root range apart named in
        let less = IsOverlapFree-loosened b m root apart in
        let some = apart.sized root range named in
        let units_are = law_of_freed_units b m (loosened m root) root range x.units units are.units apart named (λ r. refl) (λ large. omega (arith, large, small)) cleared in
        let noted = stranger_noted in
        let left_is : left ≡ strangers_below (loosened m root).block start class b.roots = omega (arith, is, noted) in
        record {
          sized = sized_same b x _ are.sized refl opened.granules size wide cleared.granules;
          placed = placed_less one are.placed;
          free = free_small_less one x.free small are.free;
          supply = supply_opened one x.supply supply start class units apart less slab lies units_are are.supply opened;
          lives = lives_lowered one less start class slab lies some x.lives lives are.lives unfit lowered (normal_lowered one less start class slab lies some other apart x.lives lives left (left == 0) are.lives left_is (λ done. eqb-true left 0 done) (λ not_done zero_is. true≢false (sym (eq-eqb left 0 zero_is) ∙ not_done)) normal);
          strangers = strangers_lowered one less start class slab lies some other x.strangers strangers left are.strangers is put;
          units = units_are;
        }

  -- a slab without a live block leaves
  module _ (start class : ℕ) (slab : m.slab start ≡ Some class) where
    pub slab_held : IsHeldRow x.free start 4
    slab_held = record {
      each = λ k low high.
          let held = held_slab b m start class k apart slab low high in
          (omega (arith, are.sized.first, held.0), omega (arith, are.sized.free, held.1), λ free. held.2 ((are.free.each k).0 free));
    }

    pub slab_back : (free : FreeSet) (supply : Supply) (lives : Lives) → slice_index x.lives.counts start ≡ 0 → free.granules ≡ x.free.granules → ((k : ℕ) → IsFree free k ↔ (IsFree x.free k ⊎ ((start ≤ k) × (k < start + 4)))) → HasSlabLess x.supply supply start →
        lives.counts ≡ x.lives.counts → ((k o : ℕ) → is_unfit lives.unfit k o ≡ (if o == start then false else is_unfit x.lives.unfit k o)) → ((s : ℕ) → normal_at lives s ≡ with_key (normal_at x.lives) start None s) → (live_below m.block start b.roots ≡ 0) × AreIndexesOf b (closed m start) (record x { free = free; supply = supply; lives = lives })
    slab_back free supply lives none granules given gone counts unfit normal =
        let bare = sym (are.lives.counts start class slab) ∙ none in (
          bare,
          record {
            sized = sized_same b x _ are.sized granules gone.granules (ap length counts) refl refl;
            placed = record {
              each = λ r range named small.
                  let home = are.placed.each r range named small in
                  let lies = LiesIn-block home.start home.own range home.block in
                  let some = apart.sized r range named in
                  let differ : home.start ≢ start = λ same. none_live b m start r bare (apart.rooted r range named) (record { range = range; named = named; low = omega (arith, lies.low, same); high = omega (arith, lies.high, some, same) }) in
                  record { start = home.start; class = home.class; slab = with_key-other m.slab start home.start None differ ∙ home.slab; own = home.own; block = home.block };
            };
            free = free_closed b m start class x.free free apart slab are.free given;
            supply = supply_closed m start class x.supply supply are.supply gone;
            lives = lives_closed b m start class x.lives lives are.lives none counts unfit normal;
            strangers = strangers_closed b m start class x.strangers are.strangers;
            units = units_same m (closed m start) x.units (λ r. refl) are.units;
          },
        )

-- a slab that is found, or none
pub home_found : {b : Bounds} {m : Machine} {x : Indexes} (apart : IsOverlapFree b m) (are : AreIndexesOf b m x) (root : ℕ) (range : Range) (found : Option SlabAt) → m.block root ≡ Some range → range.size ≤ 16384 →
    MatchOption found (IsInNoSlabOf (class_in x.supply.slabs) (range.at / 16384)) (λ slab. IsInSlabOf (class_in x.supply.slabs) (range.at / 16384) slab.start slab.class) → IsSome found
home_found apart are root range None named small none = absurd (some_home apart are root range named small none)
home_found apart are root range (Some slab) named small inside = refl

-- whole granules, by their numbers
pub whole_range : {b : Bounds} {m : Machine} (apart : IsOverlapFree b m) (root : ℕ) (range : Range) → m.block root ≡ Some range → IsLarge range → range ≡ record { at = 16384 * (range.at / 16384); size = 16384 * (range.size / 16384) }
whole_range apart root range named large =
    let whole = apart.large root range named large in
    let at : range.at ≡ 16384 * (range.at / 16384) = omega (arith, whole.at) in
    let size : range.size ≡ 16384 * (range.size / 16384) = omega (arith, whole.size) in
    λ i. record { at = at i; size = size i }
