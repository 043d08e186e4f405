-- A block of a slab came to a root, or went from it: what an arena keeps holds again.
use Rattle.std.proofs.Common.{◌==◌, if◌then◌else◌, ◌≡◌, ◌≢◌, ℕ, [], ◌+◌, ◌%◌, ◌<◌, ◌≤◌, Bool, true, false, List, length, slice_index, Some, None, refl, sym, ap, subst, ◌∙◌, arith, ◌++◌, inr, ◌*◌, ◌^◌, Option, MatchOption, IsSome, inl}
use Rattle.arena_core.proofs.Common.{IsUnusedIn-same, IsSameSlab, put_at, normal_at, heap-none, IsUnusedIn, Event, reading, PmemState, words_of, IsQuietStep, Tables, tables_of, put_at-same, put_at-other, Supply, IsWith, Bounds, Range, slabs, bounds_of, IsExactButImage, IsEitherHeap, granules_at-slab, sizes_of, KeepsAllButBlock, IsDetachable, IsDetached, IsOldDetachable, IsOldDetached, detach_events, detach_old_events, Volatile, Lives, IsSlabsOf, IsCurrent, live_in, AreLivesOf, IsArena, normal_of, IsDone, IsTaken, IsTidied, HaveOneMore, IsLastOf, slabs_but, holds_none, tidy_events, SmallBlock, OldBlock, IsInSlab-held, Holds, class_size, class_capacity, with_key, slab_block, SlabBlock, HadNoOpen, TookBlock, attach_events, IsHeldFor, IsSlabFor, HasClassNow, GivesRoot, stage_of, GivesOne, none_open, steps_then, IsOneMore, begins_only}
use Rattle.arena_core.proofs.Readiness.{ready_after}
use Rattle.image_tables.specs.Updates.{put_in}
use Rattle.attach_steps.specs.Steps.{IsAttached}
use Rattle.arena_core.proofs.SmallCalls.{unused_beside, unused_given, slabs_used, used_given, IsBlockChange, log_small, book_small, change_bit, change_index, gives_small, index_small, slabs_with, slabs_less, slabs_missing, named_used, unused_taken, slabs_without}
use Rattle.arena_core.proofs.Tidying.{last_of}
use Rattle.arena_core.proofs.HeldBlocks.{heap_held, class_holds, old_holds}
use Rattle.heap_check.proofs.SmallPlaces.{IsWithin-block, in_slab}
use Rattle.arena_core.proofs.LiveSlabs.{lives_kept, one_more}
use Rattle.heap_check.proofs.HeapSteps.{keeps_both}
use Rattle.heap_check.proofs.LiveCounts.{counts_raised, live_most}
use Rattle.image_tables.specs.Tables.{bit_rows, live_rows}

-- a slab lies in the arena, so its number of live blocks is one of the counts, and small
pub counted : (words : List ℕ) (start : ℕ) (lives : Lives) → IsExactButImage words start → (tables_of words).slab start ≡ true → AreLivesOf lives words → (start < length lives.counts) × (slice_index lives.counts start ≡ live_in words start) × (live_in words start < 2 ^ 16)
counted words start lives image slab were =
    let four = granules_at-slab (tables_of words) start slab in
    let lies = image.but.sound.extents.starts start (omega (arith, four)) in
    (omega (arith, lies.1, four, were.counts.size), were.counts.each start, omega (arith, live_most words start, (sizes_of words image.formed).roots.0))

-- a block went from its root, and is counted still
one_taken : {words new : List ℕ} {root start : ℕ} {range : Range} {lives : Lives} → AreLivesOf lives words → IsExactButImage words start → root < (bounds_of words).roots → Holds (tables_of words) start range → (tables_of words).root root ≡ range.at → bounds_of new ≡ bounds_of words →
    ((s : ℕ) → (tables_of new).slab s ≡ (tables_of words).slab s) → ((s : ℕ) → normal_of (tables_of new) s ≡ normal_of (tables_of words) s) → ((s class i : ℕ) → s ≢ start → IsUnusedIn (tables_of new) s class i → IsUnusedIn (tables_of words) s class i) → GivesOne words root None new → HaveOneMore lives new start
one_taken {words} {new} {root} {start} {range} {lives} were image rooted holds named bounds slab_same normal fewer gives =
    let sound = image.but.sound in
    let more : IsOneMore new words root start range = record {
      rooted = subst (λ (b : Bounds). root < b.roots) (sym bounds) rooted;
      bounds = sym bounds;
      slabs = λ s. sym (slab_same s);
      none = gives.here;
      some = heap_held sound image.but.closed root start range holds named;
      others = λ other differ. sym (gives.others other differ);
      inside = slab_same start ∙ holds.slab;
      begins = λ s slab. begins_only sound start range (IsInSlab-held sound start range holds) s (sym (slab_same s) ∙ slab);
    } in
    one_more lives more (counted words start lives image holds.slab were).0 were (λ s. sym (normal s)) fewer

-- a block went
taken_by : {old new : PmemState} (was : Volatile) (fewer : Supply) (lives_left : Lives) {root start k : ℕ} (bits lives : Bool → ℕ → ℕ → Bool) {events : List Event} → IsBlockChange (words_of old) was.line root start k →
    IsQuietStep old new events (IsEitherHeap (words_of old) (words_of new)) → IsExactButImage (words_of new) start → bounds_of (words_of new) ≡ bounds_of (words_of old) →
    tables_of (words_of new) ≡ stage_of (tables_of (words_of old)) bits lives root false 0 None → GivesOne (words_of old) root None (words_of new) → KeepsAllButBlock (words_of old) was.line root k (words_of new) →
    IsCurrent old was → length new.events ≤ 11 → IsSlabsOf fewer (words_of new) → AreLivesOf lives_left (words_of new) → IsTaken old new was (record was { supply = fewer; lives = lives_left; line = (was.line + 1) % 8 }) root start events
taken_by {old} {new} was fewer lives_left {root} {start} {k} bits lives {events} change step image bounds tables gives rest current few slabs_are lives_are =
    let words = words_of old in
    let left = words_of new in
    let t = tables_of words in
    let slab = ap (λ (x : Tables). x.slab start) tables ∙ change.slab in
    record {
      step = step;
      untidy = record {
        ready = ready_after current.ready step.appends.room step.quiet (log_small change left rest).fields;
        image = image;
        slab = slab;
        log = book_small change left rest bounds was.log current.log;
        index = index_small words bits lives root false 0 left bounds tables was.free current.index;
        slabs = slabs_are;
        lives = lives_are;
      };
      last = last_of t root start image.but slab change.slab (ap (λ (x : Tables). x.root root) tables ∙ put_at-same t.root root 0) (λ other differ. ap (λ (x : Tables). x.root other) tables ∙ put_at-other t.root root other 0 differ);
      gives = gives_small change left rest bits lives false 0 tables gives;
      line = refl;
      few = few;
    }

-- of its slab's class: it may be given out again, and is counted until then
pub class_one_more : {old : PmemState} {new : List ℕ} {was : Volatile} {root : ℕ} {block : SmallBlock} → IsArena old was → IsDetachable (words_of old) root block → IsDetached (words_of old) was.line root block new → HaveOneMore was.lives new block.start
class_one_more {old} {new} {was} {root} {block} arena may detached =
    one_taken arena.lives may.block_in.image may.block_in.rooted (class_holds may) (may.named ∙ may.block_in.at) detached.bounds (λ s. ap (λ (x : Tables). x.slab s) detached.tables) (λ s. ap (λ (x : Tables). normal_of x s) detached.tables)
    (unused_beside (words_of old) root block.start block.number false 0 new detached.bounds detached.tables) detached.gives

pub class_taken : {old new : PmemState} (was : Volatile) {root : ℕ} {block : SmallBlock} → IsArena old was → IsDetachable (words_of old) root block → IsDetached (words_of old) was.line root block (words_of new) → (fewer : Supply) (lives : Lives) → old.events ≡ [] →
    IsQuietStep old new (detach_events (words_of old) was.line root block) (IsEitherHeap (words_of old) (words_of new)) → IsWith was.supply fewer block.start block.number → AreLivesOf lives (words_of new) →
    IsTaken old new was (record was { supply = fewer; lives = lives; line = (was.line + 1) % 8 }) root block.start (detach_events (words_of old) was.line root block)
class_taken {old} {new} was {root} {block} arena may detached fewer lives fresh step came lives_are =
    let words = words_of old in
    let t = tables_of words in
    taken_by was fewer lives (put_in (bit_rows t) block.start block.number) (λ on. live_rows t) (change_bit may.block_in arena.few) step detached.image detached.bounds detached.tables detached.gives detached.rest arena.current
    (omega (arith, ap length fresh, step.appends.size))
    (slabs_with block.start block.number
    (slabs_less words root block.start block.number false 0 (words_of new) detached.bounds detached.tables was.supply
    (slabs_missing block.start block.number arena.slabs (named_used arena.slabs may)))
    came (unused_taken words was.line root block may (words_of new) detached))
    lives_are

-- where an entry of an index table changed, of another slab no block is unused that was not
old_beside : (words new : List ℕ) (root start place word : ℕ) (on : Bool) → tables_of new ≡ stage_of (tables_of words) (λ b. bit_rows (tables_of words)) (put_in (live_rows (tables_of words)) start place) root on word None →
    (s class i : ℕ) → s ≢ start → IsUnusedIn (tables_of new) s class i → IsUnusedIn (tables_of words) s class i
old_beside words new root start place word on tables s class i differ unused =
    let t = tables_of words in
    let after = stage_of t (λ b. bit_rows t) (put_in (live_rows t) start place) root on word None in
    let same : IsSameSlab t after s = record { slab = refl; header = λ j. record (t.header s) { live = put_at-other (live_rows t) start s (put_at (live_rows t start) place on) differ j } } in
    (IsUnusedIn-same same class i).1 (subst (λ (x : Tables). IsUnusedIn x s class i) tables unused)

-- an old one: the blocks that it alone covered may be given out, and it is counted until then
pub old_one_more : {old : PmemState} {new : List ℕ} {was : Volatile} {root : ℕ} {block : OldBlock} → IsArena old was → IsOldDetachable (words_of old) root block → IsOldDetached (words_of old) was.line root block new → HaveOneMore was.lives new block.start
old_one_more {old} {new} {was} {root} {block} arena may detached =
    one_taken arena.lives may.image may.rooted (old_holds may) (may.named ∙ may.at) detached.bounds (λ s. ap (λ (x : Tables). x.slab s) detached.tables) (λ s. ap (λ (x : Tables). normal_of x s) detached.tables)
    (old_beside (words_of old) new root block.start block.place 0 false detached.tables) detached.gives

pub old_taken : {old new : PmemState} (was : Volatile) {root : ℕ} {block : OldBlock} → IsArena old was → IsOldDetachable (words_of old) root block → IsOldDetached (words_of old) was.line root block (words_of new) → (fewer : Supply) (lives : Lives) → old.events ≡ [] →
    let events = detach_old_events (tables_of (words_of old)) was.line root block.at block.start block.place in
    IsQuietStep old new events (IsEitherHeap (words_of old) (words_of new)) → IsSlabsOf fewer (words_of new) → AreLivesOf lives (words_of new) → IsTaken old new was (record was { supply = fewer; lives = lives; line = (was.line + 1) % 8 }) root block.start events
old_taken {old} {new} was {root} {block} arena may detached fewer lives fresh step slabs_are lives_are =
    let t = tables_of (words_of old) in
    taken_by was fewer lives (λ on. bit_rows t) (put_in (live_rows t) block.start block.place) (change_index may arena.few) step detached.image detached.bounds detached.tables detached.gives detached.rest arena.current
    (omega (arith, ap length fresh, step.appends.size)) slabs_are lives_are

-- whether it was the last of its slab, by the words that its events leave
pub last_taken : {old mid : PmemState} {was part : Volatile} {root start : ℕ} {events : List Event} → IsTaken old mid was part root start events → IsLastOf (tables_of (words_of old)) root start (holds_none (tables_of (reading (words_of old) events)) start)
last_taken {old} {mid} {was} {part} {root} {start} {events} taken = subst (λ (ws : List ℕ). IsLastOf (tables_of (words_of old)) root start (holds_none (tables_of ws) start)) taken.step.appends.words taken.last

-- and its slab was tidied
pub done_taken : {old mid new : PmemState} {was part left : Volatile} {root start : ℕ} {events : List Event} → IsTaken old mid was part root start events → IsTidied mid new left start →
    IsDone old new left root None (slabs_but (slabs (tables_of (words_of old))) start (holds_none (tables_of (reading (words_of old) events)) start)) (events ++ tidy_events (reading (words_of old) events) start)
done_taken {old} {mid} {new} {was} {part} {left} {root} {start} {events} taken tidied =
    let between_is : words_of mid ≡ reading (words_of old) events = taken.step.appends.words in
    record {
      step = steps_then _ _ (inr tidied.heap) (λ ws. tidy_events ws start) taken.gives.keeps taken.step tidied.step;
      current = tidied.current;
      slabs = tidied.slabs;
      lives = tidied.lives;
      gives = record {
        here = tidied.heap.each root ∙ taken.gives.here;
        others = λ other differ. tidied.heap.each other ∙ taken.gives.others other differ;
        slabs = λ s. tidied.slab s ∙ (λ i. slabs_but (λ o. taken.gives.slabs o i) start (holds_none (tables_of (between_is i)) start) s);
        keeps = keeps_both _ _ _ (inr tidied.heap) taken.gives.keeps tidied.keeps;
        header = tidied.header ∙ taken.gives.header;
      };
    }

-- a slab is there
module _ {device : PmemState} {volatile : Volatile} {root start class : ℕ} (ready : IsSlabFor device volatile root start class) where
  -- some block of it is given
  pub given_some : (next : Supply) (seat : ℕ) (found : Option SlabBlock) → MatchOption found (HadNoOpen volatile.supply class next) (λ block. TookBlock volatile.supply seat class block next) → IsSome found
  given_some next seat None had = absurd (none_open volatile.supply class had.none start ready.number (grind arith) ready.is_open)
  given_some next seat (Some block) took = refl

  -- and none of another slab
  pub given_here : {next : Supply} {seat : ℕ} {found : Option SlabBlock} (block : SlabBlock) → found ≡ Some block → MatchOption found (HadNoOpen volatile.supply class next) (λ block. TookBlock volatile.supply seat class block next) →
      TookBlock volatile.supply seat class (record { start = start; number = block.number }) next
  given_here {next} {seat} block is had =
      let took : TookBlock volatile.supply seat class block next = subst (λ (f : Option SlabBlock). MatchOption f (HadNoOpen volatile.supply class next) (λ block. TookBlock volatile.supply seat class block next)) is had in
      let here = ready.alone block.start block.number took.slab took.was_open in
      subst (λ (b : SlabBlock). TookBlock volatile.supply seat class b next) (λ i. record { start = here i; number = block.number }) took

  -- it lies in the arena
  pub given_low : (number : ℕ) → number < class_capacity class → 16384 * start + 2048 + number * class_size class < 2 ^ 32
  given_low number below = grind arith

  -- and may come to the root
  pub given_held : {next : Supply} {seat : ℕ} (number at : ℕ) → TookBlock volatile.supply seat class (record { start = start; number = number }) next → at ≡ (slab_block start class number).at →
      IsHeldFor device (record volatile { supply = next }) root (record { start = start; number = number; at = at })
  given_held {next} number at took at_is =
      let t = tables_of (words_of device) in
      let arena = ready.arena in
      let same = sym ready.class_is in
      let below : number < class_capacity (t.header start).class = subst (λ c. number < class_capacity c) same took.within in
      record {
        ready = arena.ready;
        few = ready.few;
        attachable = record {
          block_in = record { image = arena.image; rooted = ready.below; slab = arena.slab; lively = ready.lively; below = below; at = at_is ∙ ap (λ c. (slab_block start c number).at) same };
          unused = (arena.slabs.blocks start number arena.slab below).0 took.was_open;
          none = ready.none;
        };
        log = arena.log;
        index = arena.index;
        slabs = slabs_without start number arena.slabs took.without;
        lives = arena.lives;
      }

-- a block came to the root, and is counted
pub given_done : {old new : PmemState} {was : Volatile} {next : Lives} {root class line : ℕ} (block : SmallBlock) → IsHeldFor old was root block → ((tables_of (words_of old)).header block.start).class ≡ class →
    IsQuietStep old new (attach_events (words_of old) was.line root block) (IsEitherHeap (words_of old) (words_of new)) → IsAttached (words_of old) was.line root block (words_of new) → length next.counts ≡ length was.lives.counts →
    ((s : ℕ) → slice_index next.counts s ≡ (if s == block.start then slice_index was.lives.counts s + 1 else slice_index was.lives.counts s)) → ((s : ℕ) → normal_at next s ≡ normal_at was.lives s) → next.unfit ≡ was.lives.unfit →
    IsDone old new (record was { lives = next; line = line }) root (Some (slab_block block.start class block.number)) (slabs (tables_of (words_of old))) (attach_events (words_of old) was.line root block)
given_done {old} {new} {was} {next} {root} {class} block held class_is step attached size counts normal unfit =
    let words = words_of old in
    let after = words_of new in
    let t = tables_of words in
    let bits = put_in (bit_rows t) block.start block.number in
    let live_bits = λ (on : Bool). (live_rows t) in
    let block_in = held.attachable.block_in in
    let but = block_in.image.but in
    let change = change_bit block_in held.few in
    let range = slab_block block.start (t.header block.start).class block.number in
    let inside = in_slab but.sound but.closed block.start block.number block_in.slab block_in.below range (IsWithin-block but.sound but.closed block.start block.number block_in.slab block_in.below) in
    let more : IsOneMore words after root block.start range = record {
      rooted = block_in.rooted;
      bounds = attached.bounds;
      slabs = λ s. ap (λ (x : Tables). x.slab s) attached.tables;
      none = heap-none t root held.attachable.none;
      some = attached.gives.here;
      others = attached.gives.others;
      inside = block_in.slab;
      begins = begins_only but.sound block.start range inside;
    } in
    record {
      step = step;
      current = record {
        ready = ready_after held.ready step.appends.room step.quiet (log_small change after attached.rest).fields;
        exact = attached.exact;
        log = book_small change after attached.rest attached.bounds was.log held.log;
        index = index_small words bits live_bits root true block.at after attached.bounds attached.tables was.free held.index;
      };
      slabs = slabs_used block.start block.number (slabs_less words root block.start block.number true block.at after attached.bounds attached.tables was.supply held.slabs)
          (subst (λ (x : Tables). ¬ (IsUnusedIn x block.start (x.header block.start).class block.number)) (sym attached.tables) (used_given words root block block.at block_in));
      lives = lives_kept words after was.lives next (counts_raised words after root block.start range was.lives.counts next.counts more size counts held.lives.counts) held.lives normal (λ s. ap (λ (x : Tables). normal_of x s) attached.tables) unfit
          (unused_given words root block block.at after block_in attached.bounds attached.tables);
      gives = subst (λ c. GivesRoot words root (Some (slab_block block.start c block.number)) (slabs (tables_of words)) after) class_is (gives_small change after attached.rest bits live_bits true block.at attached.tables attached.gives);
    }

-- the slab had come for it
pub done_behind : {old mid new : PmemState} {was part left : Volatile} {root start class : ℕ} {block : Option Range} {first : List Event} (second : List ℕ → List Event) → HasClassNow old mid was part start class first →
    IsDone mid new left root block (slabs (tables_of (words_of mid))) (second (words_of mid)) → IsDone old new left root block (with_key (slabs (tables_of (words_of old))) start (Some class)) (first ++ second (reading (words_of old) first))
done_behind {old} {mid} {new} second came done =
    record {
      step = steps_then _ _ (inl came.heap) second came.keeps came.step done.step;
      current = done.current;
      slabs = done.slabs;
      lives = done.lives;
      gives = record {
        here = done.gives.here;
        others = λ other differ. done.gives.others other differ ∙ came.heap.each other;
        slabs = λ s. done.gives.slabs s ∙ came.slabs s;
        keeps = keeps_both _ _ _ (inl came.heap) came.keeps done.gives.keeps;
        header = done.gives.header ∙ came.header;
      };
    }
