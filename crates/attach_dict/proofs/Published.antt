-- The block at the stage comes to a free root: its pair is in the map, and the pair that its key had is stale.
use Rattle.std.proofs.Common.{◌≡◌, ◌≢◌, ℕ, ◌+◌, ◌-◌, ◌^◌, ◌<◌, List, [], length, Option, Some, IsSome, inl, inr, refl, sym, ap, ◌∙◌, subst, arith, ⊎_elim}
use Rattle.attach_dict.proofs.Common.{cases_eq, word_at, words_of, tables_of, Bounds, Range, heap, bounds_of, IsWordOf, HaveSameHeap, IsLeastOf, Keyed, IsKeyed, IsGreatestOf, ArenaState, IsPassed, passed, rooted}
use Rattle.heap_check.proofs.Forms.{bounds_of-same}
use Rattle.heap_model.specs.declared.call.Reply.TheVariants as replies
use Rattle.move_steps.specs.Moves.{IsEitherMoved}
use Rattle.attach_dict.specs.declared.index.DictIndex.{DictIndex}
use Rattle.attach_dict.specs.declared.progress.Progress.{Progress}
use Rattle.attach_dict.specs.declared.progress.Progress.TheVariants as stages
use Rattle.attach_dict.specs.Calls.{IsEitherDict, HasPublished}
use Rattle.attach_dict.specs.Dict.{Pair, stage, HasSome, HasPair, IsPair, Counts, IsDict, IsStaleRoot, IsNextNumber, IsFreeRoot}
use Rattle.attach_dict.specs.Index.{MayComeNext, HasPutPair, IsPutOver}
use Rattle.attach_dict.specs.Roots.{Roots, IsIn}
use Rattle.attach_dict.specs.Stages.{Idle, Filled, IsStale, HasNumbered, HasFilledPhase}
use Rattle.attach_dict.specs.Steps.{IsShown}
use Rattle.attach_dict.specs.View.{value_in, pairs_in, phase_in, AreFreeRoots, AreNumbers, AreTables, AreStaleRoots}
use Rattle.attach_dict.specs.Whole.{state_of, IsWhole}
use Rattle.attach_dict.proofs.Indexed.{dict_of, counts_of, none_of}
use Rattle.attach_dict.proofs.Counting.{counts_once}
use Rattle.attach_dict.proofs.Kept.{KeepsRoots, keeps_heap, dict_same}
use Rattle.attach_dict.proofs.Less.{none_not_some}
use Rattle.attach_dict.proofs.More.{IsKeyedAnew, anew_more, anew_replaced, fit_more, numbers_more, numbers_come, free_come, keys_come, puts_some, stale_counted, counted_stale}
use Rattle.attach_dict.proofs.Pairs.{some_of, pair_kept}
use Rattle.attach_dict.proofs.Room.{next_above, next_most, next_number, next_once, not_last, found_free}
use Rattle.attach_dict.proofs.Still.{leaves_by}

-- what is to be published was filled
pub filled_is : (words : List ℕ) (key : ℕ) (progress : Progress) (k : ℕ) (v : List ℕ) → phase_in words key progress ≡ Filled k v → progress ≡ stages.Filled
filled_is words key stages.Idle k v is = absurd (cc is)
filled_is words key (stages.Staged count) k v is = absurd (cc is)
filled_is words key stages.Filled k v is = refl

-- before it moves

module _ (old : ArenaState) (index : DictIndex) (key : ℕ) (whole : IsWhole old index key stages.Filled) where
  abbrev held : HasNumbered (words_of old.device) key (value_in (words_of old.device) stage)
  held = whole.kept.at_stage.0

  pub filled_block : HasSome (words_of old.device) stage
  filled_block = record { range = held.pair.range; named = held.pair.named }

  filled_tidy : (root : ℕ) → ¬ (IsStaleRoot (words_of old.device) root)
  filled_tidy root s = whole.kept.at_stage.2 root s

  -- the root that it comes to
  module _ (found : Option ℕ) (least : IsLeastOf (IsIn index.free) found) where
    free_found : (root : ℕ) × (found ≡ Some root) × IsFreeRoot (words_of old.device) root
    free_found = found_free (words_of old.device) index.free whole.indexes.tables.free_are found least whole.kept.at_stage.1.root

    pub free_some : IsSome found
    free_some = subst (λ (f : Option ℕ). IsSome f) (sym free_found.1) refl

    pub free_at : (root : ℕ) → found ≡ Some root → IsFreeRoot (words_of old.device) root
    free_at root is =
        let both : Some free_found.0 ≡ Some root = sym free_found.1 ∙ is in
        let same : free_found.0 ≡ root = cc both in
        subst (λ (r : ℕ). IsFreeRoot (words_of old.device) r) same free_found.2

  module _ (root : ℕ) (free : IsFreeRoot (words_of old.device) root) (number : ℕ) (next : IsNextNumber (words_of old.device) number) where
    number_is : held.number ≡ number
    number_is = next_once (words_of old.device) held.number number held.next next

    -- a root with a key is another one, and is not stale
    row_some : (r : Keyed) → IsKeyed index.keys r → HasSome (words_of old.device) r.root
    row_some r is = some_of (whole.indexes.tables.keys_are.are r is).counts.pair

    pub may_come : MayComeNext index root
    may_come = record {
      low = subst (λ (n : ℕ). root < n) (sym whole.indexes.tables.keys_are.roots) free.high;
      numbered = subst (λ (n : ℕ). root < n) (sym whole.indexes.tables.numbers_are.size) free.high;
      fresh = record { none = λ r is same. none_not_some free.none (subst (λ (n : ℕ). HasSome (words_of old.device) n) same (row_some r is)) };
      free = whole.indexes.tables.free_are.each root (record { low = free.low; high = free.high; none = free.none });
      tidy = λ r is. record { none = λ s. filled_tidy r.root (whole.indexes.stale_roots.are r.root s) };
      below = λ r is. let some = row_some r is in subst (λ (n : ℕ). r.root < n) (sym whole.indexes.stale_roots.below) (rooted (words_of old.device) r.root some.range whole.kept.exact some.named);
    }

    -- behind the move

    module _ (new : ArenaState) (after : DictIndex) (s : IsShown old new root) (put : HasPutPair index (record { key = key; root = root }) number after) where
      abbrev was : List ℕ
      was = words_of old.device

      abbrev is : List ℕ
      is = words_of new.device

      abbrev value : List ℕ
      value = value_in was stage

      abbrev pairs : List Pair
      pairs = pairs_in was index.keys.rows

      abbrev more : List Pair
      more = pairs_in is after.keys.rows

      p : IsPassed was is stage root s.range (replies.Moved s.range.at s.range.size)
      p = passed was is stage root s.range (replies.Moved s.range.at s.range.size) s.did.step s.did.did.was_exact s.named free.high free.none

      bounds : bounds_of is ≡ bounds_of was
      bounds = bounds_of-same (words_of old.device) (words_of new.device) (s.did.step 0 (λ seat class. [])).header

      -- any image whose heap is the new one, where the blocks that were there have their words
      module _ (image : List ℕ) (heap_is : (other : ℕ) → heap (tables_of image) other ≡ heap (tables_of is) other) (words : (other another : ℕ) (range : Range) (k : ℕ) → heap (tables_of was) other ≡ Some range → heap (tables_of image) another ≡ Some range → IsWordOf range k → word_at image k ≡ word_at was k) where
        blocks_in : (other : ℕ) → stage < other → other ≢ root → heap (tables_of image) other ≡ heap (tables_of was) other
        blocks_in other low apart = heap_is other ∙ p.moves.others other (λ same. omega (arith, same, low)) apart

        pub keeps_in : KeepsRoots was image root
        keeps_in = record {
          blocks = blocks_in;
          words = λ other k range low apart named word. words other other range k named (blocks_in other low apart ∙ named) word;
        }

        named_in : heap (tables_of image) root ≡ Some held.pair.range
        named_in = heap_is root ∙ (p.moves.here ∙ held.pair.named)

        pub pair_in : IsPair image root key number value
        pair_in = record {
          low = free.low;
          has = subst (λ (n : ℕ). HasPair image root key n value) number_is (pair_kept was image stage root key held.number value held.pair named_in (λ k word. words stage root held.pair.range k held.pair.named named_in word));
        }

      new_keeps : KeepsRoots was is root
      new_keeps = keeps_in is (λ other. refl) s.did.keeps.each

      new_pair : IsPair is root key number value
      new_pair = pair_in is (λ other. refl) s.did.keeps.each

      above : (other k n : ℕ) (v : List ℕ) → IsPair was other k n v → n < number
      above other k n v pair = next_above was number next other k n v pair

      anew : IsKeyedAnew index.keys (record { key = key; root = root }) after.keys
      anew = ⊎_elim (λ more_one. anew_more more_one.0) (λ replaced. anew_replaced replaced.1) put.keys

      tables_new : AreTables is after.keys after.numbers after.free
      tables_new = record {
        keys_are = keys_come new_keeps free.none new_pair above index.keys after.keys bounds whole.indexes.tables.keys_are anew;
        numbers_are = subst (λ (b : Bounds). AreNumbers is b.roots after.numbers) (sym bounds)
            (subst (λ (ns : List ℕ). AreNumbers is (bounds_of was).roots ns) (sym put.numbers) (numbers_come new_keeps free.none new_pair above (bounds_of was).roots index.numbers bounds free.high whole.indexes.tables.numbers_are));
        free_are = subst (λ (b : Bounds). AreFreeRoots is b.roots after.free) (sym bounds) (free_come new_keeps free.none new_pair above (bounds_of was).roots index.free after.free bounds whole.indexes.tables.free_are put.free);
      }

      dict_new : IsDict is more
      dict_new = dict_of is s.did.did.exact after.keys tables_new.keys_are (fit_more new_keeps free.none new_pair above whole.kept.dict.fit)

      -- what is stale is what counted for the key before

      stage_empty : ¬ (HasSome is stage)
      stage_empty some = none_not_some p.moves.gone some

      counted : (other : ℕ) → IsStale is Idle other → (v : List ℕ) × Counts was other key v
      counted other so = ⊎_elim (λ t. stale_counted new_keeps free.none new_pair above pairs more whole.kept.dict dict_new filled_tidy other t) (λ t. absurd (stage_empty t.1)) so

      -- the root that the key had counted for it
      row_counts : (r : Keyed) → IsKeyed index.keys r → r.key ≡ key → Counts was r.root key (value_in was r.root)
      row_counts r had same = subst (λ (k : ℕ). Counts was r.root k (value_in was r.root)) same (counts_of was whole.kept.exact index.keys whole.indexes.tables.keys_are r had)

      stale_by : IsPutOver index (record { key = key; root = root }) after → AreStaleRoots is Idle after.stale
      stale_by (inl over) = record {
        below = ap (λ (f : Roots). f.below) over.1 ∙ (whole.indexes.stale_roots.below ∙ ap (λ (b : Bounds). b.roots) (sym bounds));
        are = λ other in_set. absurd (filled_tidy other (whole.indexes.stale_roots.are other (subst (λ (f : Roots). IsIn f other) over.1 in_set)));
        each = λ other so. let c = counted other so in absurd (none_of was whole.kept.exact index.keys whole.indexes.tables.keys_are key over.0.lacked other c.1.number c.0 c.1.pair);
      }
      stale_by (inr (r, replaced, came)) =
          let counts : Counts was r.root key (value_in was r.root) = row_counts r replaced.had replaced.same_key in
          record {
            below = came.below ∙ (whole.indexes.stale_roots.below ∙ ap (λ (b : Bounds). b.roots) (sym bounds));
            are = λ other in_set. ⊎_elim
                (λ had. absurd (filled_tidy other (whole.indexes.stale_roots.are other had)))
                (λ same. inl (subst (λ (n : ℕ). IsStaleRoot is n) (sym same) (counted_stale new_keeps free.none new_pair above pairs more whole.kept.dict dict_new r.root (value_in was r.root) counts)))
                (came.each other in_set);
            each = λ other so.
                let c = counted other so in
                let same : other ≡ r.root = (counts_once was whole.kept.dict.fit other r.root key c.0 (value_in was r.root) c.1 counts).0 in
                subst (λ (n : ℕ). IsIn after.stale n) (sym same) came.here;
          }

      pub whole_published : IsWhole new after key stages.Idle
      whole_published = record {
        kept = record { ready = s.did.did.ready; exact = s.did.did.exact; dict = dict_new; at_stage = tt };
        indexes = record { tables = tables_new; stale_roots = stale_by put.keys; wide = ap (λ b. length b.items) put.block ∙ whole.indexes.wide };
      }

      -- a crash leaves the map of before or the one of behind
      left_published : (image : List ℕ) → IsEitherMoved was is root image → IsEitherDict pairs more image
      left_published image l = ⊎_elim
          (λ (before : HaveSameHeap was image). inl (record { steady = l.steady; dict = dict_same (keeps_heap before l.words) pairs whole.kept.dict }))
          (λ (behind : HaveSameHeap is image). inr (record { steady = l.steady; dict = dict_same (both_more image behind l.words.each) more dict_new }))
          l.heap
        where
          both_more : (image : List ℕ) → HaveSameHeap is image → ((other another : ℕ) (range : Range) (k : ℕ) → heap (tables_of was) other ≡ Some range → heap (tables_of image) another ≡ Some range → IsWordOf range k → word_at image k ≡ word_at was k) → KeepsRoots is image stage
          both_more image behind words = record {
            blocks = λ other low apart. behind.each other;
            words = λ other k range low apart named word. ⊎_elim
                (λ (same : other ≡ root).
                let here : heap (tables_of was) stage ≡ Some range = sym p.moves.here ∙ (ap (heap (tables_of is)) (sym same) ∙ named) in
                words stage other range k here (behind.each other ∙ named) word ∙ sym (s.did.keeps.each stage other range k here named word))
                (λ (differs : other ≢ root).
                let here : heap (tables_of was) other ≡ Some range = sym (p.moves.others other (λ is_stage. omega (arith, is_stage, low)) differs) ∙ named in
                words other other range k here (behind.each other ∙ named) word ∙ sym (s.did.keeps.each other other range k here named word))
                (cases_eq other root);
          }

      pub has_published : HasPublished (state_of old index key stages.Filled) (state_of new after key stages.Idle) key value
      has_published = record {
        root = root;
        at = s.range.at;
        size = s.range.size;
        free = free;
        did = s.did;
        puts = puts_some new_keeps free.none new_pair above pairs more whole.kept.dict dict_new;
        phase = refl;
        one_stale = record { same = λ one other a b. let c = counted one a in let d = counted other b in (counts_once was whole.kept.dict.fit one other key c.0 d.0 c.1 d.1).0 };
        replaced = counted;
        numbers = λ n up. numbers_more new_keeps free.none new_pair above n up (next_most was number n next up);
        crash = leaves_by old new (IsEitherMoved was is root) (IsEitherDict pairs more) left_published s.did.did;
      }

-- as the call has it

-- the key and the value that were filled
same_filled : (old new : ArenaState) (index after : DictIndex) (key k : ℕ) (v : List ℕ) → Filled key (value_in (words_of old.device) stage) ≡ Filled k v →
    HasPublished (state_of old index key stages.Filled) (state_of new after key stages.Idle) key (value_in (words_of old.device) stage) → HasPublished (state_of old index key stages.Filled) (state_of new after key stages.Idle) k v
same_filled old new index after key k v is done =
    let keys : key ≡ k = cc is in
    let values : value_in (words_of old.device) stage ≡ v = cc is in
    subst (λ (n : ℕ). HasPublished (state_of old index key stages.Filled) (state_of new after key stages.Idle) n v) keys
    (subst (λ (w : List ℕ). HasPublished (state_of old index key stages.Filled) (state_of new after key stages.Idle) key w) values done)

module _ (old : ArenaState) (index : DictIndex) (key : ℕ) (progress : Progress) (whole : IsWhole old index key progress) (filled : HasFilledPhase (phase_in (words_of old.device) key progress)) where
  is_filled : progress ≡ stages.Filled
  is_filled = filled_is (words_of old.device) key progress filled.key filled.value filled.is

  whole_at : IsWhole old index key stages.Filled
  whole_at = subst (λ (p : Progress). IsWhole old index key p) is_filled whole

  pub publish_some : (found : Option ℕ) → IsLeastOf (IsIn index.free) found → IsSome found
  publish_some found least = free_some old index key whole_at found least

  pub publish_free : (found : Option ℕ) (root : ℕ) → IsLeastOf (IsIn index.free) found → found ≡ Some root → IsFreeRoot (words_of old.device) root
  publish_free found root least is = free_at old index key whole_at found least root is

  pub publish_block : HasSome (words_of old.device) stage
  publish_block = filled_block old index key whole_at

  module _ (greatest : ℕ) (is : IsGreatestOf index.numbers greatest) where
    pub publish_room : greatest ≢ 2 ^ 64 - 1
    publish_room = not_last (words_of old.device) whole.kept.exact index.keys index.numbers index.free whole.indexes.tables greatest is whole_at.kept.at_stage.1.number

    next : IsNextNumber (words_of old.device) (greatest + 1)
    next = next_number (words_of old.device) whole.kept.exact index.keys index.numbers index.free whole.indexes.tables greatest is

    module _ (root : ℕ) (free : IsFreeRoot (words_of old.device) root) where
      pub publish_may : MayComeNext index root
      publish_may = may_come old index key whole_at root free (greatest + 1) next

      module _ (new : ArenaState) (after : DictIndex) (s : IsShown old new root) (put : HasPutPair index (record { key = key; root = root }) (greatest + 1) after) where
        pub publish_whole : IsWhole new after key stages.Idle
        publish_whole = whole_published old index key whole_at root free (greatest + 1) next new after s put

        pub published : (k : ℕ) (v : List ℕ) → phase_in (words_of old.device) key progress ≡ Filled k v → HasPublished (state_of old index key progress) (state_of new after key stages.Idle) k v
        published k v phase =
            let at : Filled key (value_in (words_of old.device) stage) ≡ Filled k v = subst (λ (p : Progress). phase_in (words_of old.device) key p ≡ Filled k v) is_filled phase in
            subst (λ (p : Progress). HasPublished (state_of old index key p) (state_of new after key stages.Idle) k v) (sym is_filled)
            (same_filled old new index after key k v at (has_published old index key whole_at root free (greatest + 1) next new after s put))
