-- A root's block was freed: that of a pair which counted, or that of a stale root.
use Rattle.std.proofs.Common.{◌≡◌, ◌≢◌, ℕ, ◌<◌, List, length, set, inl, inr, refl, sym, ap, ◌∙◌, subst, arith, ⊎_elim}
use Rattle.attach_dict.proofs.Common.{words_of, tables_of, Bounds, heap, bounds_of, IsExactImage, HaveSameHeap, IsEitherHeap, KeyRoots, HasLess, ArenaState, rooted}
use Rattle.heap_check.proofs.Forms.{bounds_of-same}
use Rattle.image_defects.specs.Least.{HasNone as HasNoNumber, IsLeast}
use Rattle.attach_dict.specs.declared.index.DictIndex.{DictIndex}
use Rattle.attach_dict.specs.declared.progress.Progress.{Progress}
use Rattle.attach_dict.specs.declared.progress.Progress.TheVariants as stages
use Rattle.attach_dict.specs.Calls.{IsEitherDict, KeepsMap, HasTidied, HasRemoved}
use Rattle.attach_dict.specs.Dict.{Pair, stage, HasSome, Counts, IsDict, IsStaleRoot, IsSteadyDict}
use Rattle.attach_dict.specs.Index.{MayGo, IsReleased, MayDrop, HasDroppedStale}
use Rattle.attach_dict.specs.Roots.{Roots, IsIn, HasMoreRoots, HasFewerRoots}
use Rattle.attach_dict.specs.Stages.{Idle, IsStale, AreNoneStale, IsAtStage}
use Rattle.attach_dict.specs.Steps.{IsFreed}
use Rattle.attach_dict.specs.View.{value_in, pairs_in, phase_in, AreFreeRoots, AreNumbers, AreKeys, AreTables, AreStaleRoots}
use Rattle.attach_dict.specs.Whole.{state_of, IsWhole}
use Rattle.attach_dict.proofs.Answered.{left_keeps, left_dict, freed_others, freed_none, freed_keeps}
use Rattle.attach_dict.proofs.Counting.{law_of_dicts}
use Rattle.attach_dict.proofs.Indexed.{counts_of, dict_of}
use Rattle.attach_dict.proofs.Kept.{keeps_back, keeps_heap, dict_same, stale_same, numbers_same}
use Rattle.attach_dict.proofs.Less.{none_not_some, numbers_less, fit_less, both_less, numbers_gone, free_gone, keys_gone, keys_less, puts_none, still_tidy, dict_less, stale_left, stale_was}
use Rattle.attach_dict.proofs.Pairs.{some_of}
use Rattle.attach_dict.proofs.Stale.{stale_some}
use Rattle.attach_dict.proofs.Still.{leaves_by, stale_none, tables_still, dict_still, map_still}

-- phases

-- nothing is staged where the phase says so
pub idle_is : (words : List ℕ) (key : ℕ) (progress : Progress) → phase_in words key progress ≡ Idle → progress ≡ stages.Idle
idle_is words key stages.Idle is = refl
idle_is words key (stages.Staged count) is = absurd (cc is)
idle_is words key stages.Filled is = absurd (cc is)

-- nor where a root is stale
pub idle_where : (words : List ℕ) (key : ℕ) (progress : Progress) (root : ℕ) → IsAtStage words (phase_in words key progress) → IsStale words (phase_in words key progress) root → progress ≡ stages.Idle
idle_where words key stages.Idle root at_stage so = refl
idle_where words key (stages.Staged count) root at_stage so = absurd (at_stage.2 root so)
idle_where words key stages.Filled root at_stage so = absurd (at_stage.2 root so)

-- a root with a block is one of the tables', and not free
module _ (words : List ℕ) (exact : IsExactImage words) (index : DictIndex) (tables : AreTables words index.keys index.numbers index.free) where
  pub may_go : (root : ℕ) → HasSome words root → MayGo index root
  may_go root some =
      let low : root < (bounds_of words).roots = rooted words root some.range exact some.named in
      record {
        numbered = subst (λ (n : ℕ). root < n) (sym tables.numbers_are.size) low;
        low = subst (λ (n : ℕ). root < n) (sym tables.free_are.below) low;
        out = record { none = λ is. none_not_some (tables.free_are.are root is).none some };
      }

-- a pair goes

module _ (old new : ArenaState) (index after : DictIndex) (key : ℕ) (whole : IsWhole old index key stages.Idle) (root : ℕ) (low : stage < root) (f : IsFreed old new root) (numbers : after.numbers ≡ set index.numbers root 0) (frees : HasMoreRoots index.free root after.free) (keys : AreKeys (words_of new.device) after.keys) where
  abbrev was : List ℕ
  was = words_of old.device

  abbrev is : List ℕ
  is = words_of new.device

  abbrev pairs : List Pair
  pairs = pairs_in was index.keys.rows

  abbrev left : List Pair
  left = pairs_in is after.keys.rows

  bounds : bounds_of is ≡ bounds_of was
  bounds = bounds_of-same (words_of old.device) (words_of new.device) f.did.step.header

  in_arena : root < (bounds_of was).roots
  in_arena = rooted was root f.range f.did.did.was_exact f.named

  pub tables_after : AreTables is after.keys after.numbers after.free
  tables_after = record {
    keys_are = keys;
    numbers_are = subst (λ (b : Bounds). AreNumbers is b.roots after.numbers) (sym bounds)
        (subst (λ (ns : List ℕ). AreNumbers is (bounds_of was).roots ns) (sym numbers) (numbers_gone (freed_keeps f) (freed_none f) (bounds_of was).roots index.numbers bounds in_arena whole.indexes.tables.numbers_are));
    free_are = subst (λ (b : Bounds). AreFreeRoots is b.roots after.free) (sym bounds) (free_gone (freed_keeps f) (freed_none f) (bounds_of was).roots index.free after.free bounds low in_arena whole.indexes.tables.free_are frees);
  }

  pub dict_after : IsDict is left
  dict_after = dict_of is f.did.did.exact after.keys keys (fit_less (freed_keeps f) (freed_none f) whole.kept.dict.fit)

  -- a crash leaves the map of before or the one of behind
  pub left_either : (image : List ℕ) → IsEitherHeap was is image → IsEitherDict pairs left image
  left_either image l = ⊎_elim
      (λ (before : HaveSameHeap was image). inl (record { steady = l.steady; dict = dict_same (keeps_heap before l.words) pairs whole.kept.dict }))
      (λ (behind : HaveSameHeap is image). inr (record { steady = l.steady; dict = dict_same (both_less (freed_keeps f) (freed_none f) (left_keeps was is image root (freed_others f) l) (behind.each root ∙ freed_none f)) left dict_after }))
      l.heap

  -- the stage is as it was
  stage_same : heap (tables_of is) stage ≡ heap (tables_of was) stage
  stage_same = (freed_others f).each stage (λ same. omega (arith, same, low))

  -- it counted for a key, and nothing was stale
  module _ (gone : ℕ) (value : List ℕ) (counted : Counts was root gone value) (tidy : AreNoneStale was Idle) (stale : after.stale ≡ index.stale) (block : after.block ≡ index.block) where
    tidy_after : AreNoneStale is Idle
    tidy_after other so = ⊎_elim
        (λ s. still_tidy (freed_keeps f) (freed_none f) pairs left whole.kept.dict dict_after gone value counted (λ r s. tidy r (inl s)) other s)
        (λ s. tidy other (inr (s.0, record { range = s.1.range; named = sym stage_same ∙ s.1.named })))
        so

    pub whole_removed : IsWhole new after key stages.Idle
    whole_removed = record {
      kept = record { ready = f.did.did.ready; exact = f.did.did.exact; dict = dict_after; at_stage = tt };
      indexes = record {
        tables = tables_after;
        stale_roots = subst (λ (s : Roots). AreStaleRoots is Idle s) (sym stale) (stale_none was is Idle Idle index.stale bounds whole.indexes.stale_roots tidy tidy_after);
        wide = ap (λ b. length b.items) block ∙ whole.indexes.wide;
      };
    }

    pub removed : HasRemoved (state_of old index key stages.Idle) (state_of new after key stages.Idle) gone
    removed = record {
      root = root;
      value = value;
      at = f.range.at;
      size = f.range.size;
      counts = counted;
      did = f.did;
      puts = puts_none (freed_keeps f) (freed_none f) pairs left whole.kept.dict dict_after gone value counted (λ r s. tidy r (inl s));
      phase = refl;
      tidy = tidy_after;
      numbers = λ n up. numbers_less (freed_keeps f) (freed_none f) n up;
      crash = leaves_by old new (IsEitherHeap was is) (IsEitherDict pairs left) left_either f.did.did;
    }

  -- it was stale
  module _ (so : IsStaleRoot was root) (fewer : HasFewerRoots index.stale root after.stale) (block : after.block ≡ index.block) where
    same_dict : IsDict is pairs
    same_dict = dict_less (freed_keeps f) (freed_none f) pairs left whole.kept.dict dict_after so

    pub same_map_after : left ≡ pairs
    same_map_after = law_of_dicts is left pairs dict_after same_dict

    gone_apart : {other : ℕ} → HasSome is other → other ≢ root
    gone_apart {other} some same = none_not_some (freed_none f) (subst (λ (r : ℕ). HasSome is r) same some)

    stale_after : AreStaleRoots is Idle after.stale
    stale_after = record {
      below = fewer.below ∙ (whole.indexes.stale_roots.below ∙ ap (λ (b : Bounds). b.roots) (sym bounds));
      are = λ other held.
          let apart : other ≢ root = λ same. fewer.out.none (subst (λ (r : ℕ). IsIn after.stale r) same held) in
          ⊎_elim
          (λ s. inl (stale_left (freed_keeps f) (freed_none f) pairs left whole.kept.dict dict_after so other apart s))
          (λ s. inr (s.0, record { range = s.1.range; named = stage_same ∙ s.1.named }))
          (whole.indexes.stale_roots.are other (fewer.each other held));
      each = λ other s.
          let before : IsStale was Idle other = ⊎_elim
          (λ t. inl (stale_was (freed_keeps f) (freed_none f) pairs left whole.kept.dict dict_after so other t))
          (λ t. inr (t.0, record { range = t.1.range; named = sym stage_same ∙ t.1.named }))
          s in
          fewer.kept other (whole.indexes.stale_roots.each other before) (gone_apart (stale_some is Idle other s));
    }

    pub whole_tidied : IsWhole new after key stages.Idle
    whole_tidied = record {
      kept = record { ready = f.did.did.ready; exact = f.did.did.exact; dict = dict_after; at_stage = tt };
      indexes = record { tables = tables_after; stale_roots = stale_after; wide = ap (λ b. length b.items) block ∙ whole.indexes.wide };
    }

    pub tidied_map : KeepsMap (state_of old index key stages.Idle) (state_of new after key stages.Idle) Idle
    tidied_map = record {
      pairs = same_map_after;
      phase_is = refl;
      numbers = λ n up. numbers_less (freed_keeps f) (freed_none f) n up;
      crash = leaves_by old new (IsEitherHeap was is) (IsSteadyDict pairs)
          (λ image l. ⊎_elim (λ before. before) (λ behind. subst (λ (ps : List Pair). IsSteadyDict ps image) same_map_after behind) (left_either image l)) f.did.did;
    }

-- the stage's block goes, where nothing is staged

module _ (old new : ArenaState) (index after : DictIndex) (key : ℕ) (whole : IsWhole old index key stages.Idle) (f : IsFreed old new stage) (fewer : HasFewerRoots index.stale stage after.stale) (same : after ≡ record { keys = index.keys; numbers = index.numbers; free = index.free; stale = after.stale; block = index.block }) where
  abbrev were : List ℕ
  were = words_of old.device

  abbrev are : List ℕ
  are = words_of new.device

  stale_cleared : AreStaleRoots are Idle after.stale
  stale_cleared = record {
    below = fewer.below ∙ (whole.indexes.stale_roots.below ∙ ap (λ (b : Bounds). b.roots) (sym (bounds_of-same (words_of old.device) (words_of new.device) f.did.step.header)));
    are = λ other held. ⊎_elim
        (λ s. inl (stale_same (freed_keeps f) s))
        (λ s. absurd (fewer.out.none (subst (λ (r : ℕ). IsIn after.stale r) s.0 held)))
        (whole.indexes.stale_roots.are other (fewer.each other held));
    each = λ other s. ⊎_elim
        (λ t. fewer.kept other (whole.indexes.stale_roots.each other (inl (stale_same (keeps_back (freed_keeps f)) t))) (λ is. omega (arith, is, t.low)))
        (λ t. absurd (none_not_some (freed_none f) t.1))
        s;
  }

  abbrev cleared : DictIndex
  cleared = record { keys = index.keys; numbers = index.numbers; free = index.free; stale = after.stale; block = index.block }

  whole_at : IsWhole new cleared key stages.Idle
  whole_at = record {
    kept = record { ready = f.did.did.ready; exact = f.did.did.exact; dict = dict_still old new index key stages.Idle whole (freed_keeps f) (bounds_of-same (words_of old.device) (words_of new.device) f.did.step.header) f.did.did.exact; at_stage = tt };
    indexes = record { tables = tables_still old new index key stages.Idle whole (freed_keeps f) (bounds_of-same (words_of old.device) (words_of new.device) f.did.step.header) f.did.did.exact; stale_roots = stale_cleared; wide = whole.indexes.wide };
  }

  pub whole_cleared : IsWhole new after key stages.Idle
  whole_cleared = subst (λ (i : DictIndex). IsWhole new i key stages.Idle) (sym same) whole_at

  pub cleared_map : KeepsMap (state_of old index key stages.Idle) (state_of new after key stages.Idle) Idle
  cleared_map = subst (λ (i : DictIndex). KeepsMap (state_of old index key stages.Idle) (state_of new i key stages.Idle) Idle) (sym same) (record {
    pairs = map_still old new index key stages.Idle whole (freed_keeps f) (bounds_of-same (words_of old.device) (words_of new.device) f.did.step.header) f.did.did.exact;
    phase_is = refl;
    numbers = λ n up. numbers_same (freed_keeps f) n up;
    crash = leaves_by old new (IsEitherHeap were are) (IsSteadyDict (pairs_in were index.keys.rows)) (λ image l. left_dict were are image (pairs_in were index.keys.rows) whole.kept.dict (freed_others f) l) f.did.did;
  })

-- a stale root goes, whichever it is

module _ (old new : ArenaState) (index after : DictIndex) (key : ℕ) (whole : IsWhole old index key stages.Idle) (root : ℕ) (f : IsFreed old new root) (dropped : HasDroppedStale index root after) (held : IsIn index.stale root) where
  not_stage : root ≢ stage → IsStaleRoot (words_of old.device) root
  not_stage apart = ⊎_elim (λ s. s) (λ s. absurd (apart s.0)) (whole.indexes.stale_roots.are root held)

  -- the map is that of the new image
  keys_dropped : IsStaleRoot (words_of old.device) root → after.keys ≡ index.keys → AreKeys (words_of new.device) after.keys
  keys_dropped s is = subst (λ (k : KeyRoots). AreKeys (words_of new.device) k) (sym is) (keys_gone (freed_keeps f) (freed_none f) index.keys (bounds_of-same (words_of old.device) (words_of new.device) f.did.step.header) s whole.indexes.tables.keys_are)

  pub whole_dropped : IsWhole new after key stages.Idle
  whole_dropped = ⊎_elim
      (λ at. whole_cleared old new index after key whole (subst (λ (r : ℕ). IsFreed old new r) at.0 f) (subst (λ (r : ℕ). HasFewerRoots index.stale r after.stale) at.0 dropped.stale) at.1)
      (λ at.
      let s = not_stage at.0 in
      whole_tidied old new index after key whole root s.low f at.1.numbers at.1.free (keys_dropped s at.1.keys) s dropped.stale at.1.block)
      dropped.pair

  pub dropped_map : KeepsMap (state_of old index key stages.Idle) (state_of new after key stages.Idle) Idle
  dropped_map = ⊎_elim
      (λ at. cleared_map old new index after key whole (subst (λ (r : ℕ). IsFreed old new r) at.0 f) (subst (λ (r : ℕ). HasFewerRoots index.stale r after.stale) at.0 dropped.stale) at.1)
      (λ at.
      let s = not_stage at.0 in
      tidied_map old new index after key whole root s.low f at.1.numbers at.1.free (keys_dropped s at.1.keys) s dropped.stale at.1.block)
      dropped.pair

  -- what is stale behind it was so before
  still_stale : (other : ℕ) → IsStale (words_of new.device) Idle other → IsStale (words_of old.device) Idle other × (other ≢ root)
  still_stale other so =
      let had : IsIn after.stale other = whole_dropped.indexes.stale_roots.each other so in
      (whole.indexes.stale_roots.are other (dropped.stale.each other had), λ same. dropped.stale.out.none (subst (λ (r : ℕ). IsIn after.stale r) same had))

  pub has_tidied : IsLeast (IsIn index.stale) root → HasTidied (state_of old index key stages.Idle) (state_of new after key stages.Idle)
  has_tidied least = record {
    root = root;
    at = f.range.at;
    size = f.range.size;
    stale = record {
      here = whole.indexes.stale_roots.are root held;
      least = λ other so. least.least other (whole.indexes.stale_roots.each other so);
    };
    did = f.did;
    left = still_stale;
    keeps = dropped_map;
  }

-- as the calls have it

module _ (old : ArenaState) (index : DictIndex) (key : ℕ) (progress : Progress) (whole : IsWhole old index key progress) (root : ℕ) (held : IsIn index.stale root) where
  tidy_idle : progress ≡ stages.Idle
  tidy_idle = idle_where (words_of old.device) key progress root whole.kept.at_stage (whole.indexes.stale_roots.are root held)

  still_whole : IsWhole old index key stages.Idle
  still_whole = subst (λ (p : Progress). IsWhole old index key p) tidy_idle whole

  pub tidy_some : HasSome (words_of old.device) root
  tidy_some = stale_some (words_of old.device) Idle root (still_whole.indexes.stale_roots.are root held)

  pub may_drop : MayDrop index root
  may_drop = record { stale = held; pair = λ apart. may_go (words_of old.device) whole.kept.exact index whole.indexes.tables root tidy_some }

  module _ (new : ArenaState) (after : DictIndex) (f : IsFreed old new root) (dropped : HasDroppedStale index root after) where
    pub whole_behind : IsWhole new after key progress
    whole_behind = subst (λ (p : Progress). IsWhole new after key p) (sym tidy_idle) (whole_dropped old new index after key still_whole root f dropped held)

    pub tidied_behind : IsLeast (IsIn index.stale) root → HasTidied (state_of old index key progress) (state_of new after key progress)
    tidied_behind least = subst (λ (p : Progress). HasTidied (state_of old index key p) (state_of new after key p)) (sym tidy_idle) (has_tidied old new index after key still_whole root f dropped held least)

-- no root is stale
pub none_found : (old : ArenaState) (index : DictIndex) (key : ℕ) (progress : Progress) → IsWhole old index key progress → HasNoNumber (IsIn index.stale) → AreNoneStale (words_of old.device) (phase_in (words_of old.device) key progress)
none_found old index key progress whole none root so = none.none root (whole.indexes.stale_roots.each root so)

-- a key is removed
module _ (old : ArenaState) (index : DictIndex) (key : ℕ) (progress : Progress) (whole : IsWhole old index key progress) (gone root : ℕ) (less : KeyRoots) (removed_key : HasLess index.keys (record { key = gone; root = root }) less) where
  abbrev value : List ℕ
  value = value_in (words_of old.device) root

  counted : Counts (words_of old.device) root gone value
  counted = counts_of (words_of old.device) whole.kept.exact index.keys whole.indexes.tables.keys_are (record { key = gone; root = root }) removed_key.had

  pub remove_some : HasSome (words_of old.device) root
  remove_some = some_of counted.pair

  pub remove_may : MayGo index root
  remove_may = may_go (words_of old.device) whole.kept.exact index whole.indexes.tables root remove_some

  module _ (new : ArenaState) (after : DictIndex) (f : IsFreed old new root) (released : IsReleased (record { keys = less; numbers = index.numbers; free = index.free; stale = index.stale; block = index.block }) root after) (idle : phase_in (words_of old.device) key progress ≡ Idle) (tidy : AreNoneStale (words_of old.device) Idle) where
    remove_idle : progress ≡ stages.Idle
    remove_idle = idle_is (words_of old.device) key progress idle

    whole_was : IsWhole old index key stages.Idle
    whole_was = subst (λ (p : Progress). IsWhole old index key p) remove_idle whole

    keys_after : AreKeys (words_of new.device) after.keys
    keys_after = subst (λ (k : KeyRoots). AreKeys (words_of new.device) k) (sym released.keys)
        (keys_less (freed_keeps f) (freed_none f) (pairs_in (words_of old.device) index.keys.rows) whole.kept.dict gone value counted (λ r s. tidy r (inl s)) index.keys less (bounds_of-same (words_of old.device) (words_of new.device) f.did.step.header) whole.indexes.tables.keys_are removed_key)

    pub whole_less : IsWhole new after key progress
    whole_less = subst (λ (p : Progress). IsWhole new after key p) (sym remove_idle) (whole_removed old new index after key whole_was root counted.pair.low f released.numbers released.free keys_after gone value counted tidy released.stale released.block)

    pub removed_behind : HasRemoved (state_of old index key progress) (state_of new after key progress) gone
    removed_behind = subst (λ (p : Progress). HasRemoved (state_of old index key p) (state_of new after key p) gone) (sym remove_idle)
        (removed old new index after key whole_was root counted.pair.low f released.numbers released.free keys_after gone value counted tidy released.stale released.block)
