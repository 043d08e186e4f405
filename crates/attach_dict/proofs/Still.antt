-- A call after which the pairs of all roots but the stage are as they were: the map stays, also in an image of a crash.
use Rattle.std.proofs.Common.{◌≡◌, ℕ, List, length, refl, sym, ap, ◌∙◌, subst, arith}
use Rattle.pmem_lines.specs.declared.event.Event.{Event}
use Rattle.attach_dict.proofs.Common.{words_of, Bounds, bounds_of, IsExactImage, KeyRoots, ArenaState, IsOneCall, IsReady}
use Rattle.attach_dict.specs.declared.index.DictIndex.{DictIndex}
use Rattle.attach_dict.specs.declared.progress.Progress.{Progress}
use Rattle.attach_dict.specs.Calls.{KeepsMap, Leaves}
use Rattle.attach_dict.specs.Dict.{Pair, stage, IsDict, IsSteadyDict}
use Rattle.attach_dict.specs.Roots.{Roots}
use Rattle.attach_dict.specs.Stages.{Phase, AreNoneStale, IsAtStage}
use Rattle.attach_dict.specs.View.{pairs_in, phase_in, AreFreeRoots, AreNumbers, AreKeys, AreTables, AreStaleRoots}
use Rattle.attach_dict.specs.Whole.{state_of, IsWhole}
use Rattle.attach_dict.proofs.Kept.{KeepsRoots, keeps_back, none_to, pair_same, pair_back, counts_same, dict_same, numbers_same}
use Rattle.attach_dict.proofs.Counting.{law_of_dicts}
use Rattle.attach_dict.proofs.Indexed.{dict_of}

-- what a crash within the last call of the arena leaves
pub leaves_by : (old new : ArenaState) {events : List Event} (P Q : List ℕ → Type 0) → ((image : List ℕ) → P image → Q image) → IsOneCall old.device new.device events P → Leaves new Q
leaves_by old new P Q more call = record { each = λ n image is. more image (call.crash.each n image is) }

-- the tables are those of the new image too
module _ {old new : List ℕ} (keeps : KeepsRoots old new stage) (bounds : bounds_of new ≡ bounds_of old) where
  keys_same : (keys : KeyRoots) → AreKeys old keys → AreKeys new keys
  keys_same keys were = record {
    sound = were.sound;
    roots = were.roots ∙ ap (λ (b : Bounds). b.roots) (sym bounds);
    are = λ r is. let c = were.are r is in record { value = c.value; counts = counts_same keeps c.counts };
    each = λ root key number value pair. were.each root key number value (pair_back keeps pair);
  }

  roots_numbered : (end : ℕ) (numbers : List ℕ) → AreNumbers old end numbers → AreNumbers new end numbers
  roots_numbered end numbers were = record {
    size = were.size ∙ ap (λ (b : Bounds). b.roots) (sym bounds);
    each = λ root key number value below pair. were.each root key number value below (pair_back keeps pair);
    are = λ root some. let n = were.are root some in record { key = n.key; value = n.value; pair = pair_same keeps n.pair };
  }

  free_same : (end : ℕ) (free : Roots) → AreFreeRoots old end free → AreFreeRoots new end free
  free_same end free were = record {
    below = were.below ∙ ap (λ (b : Bounds). b.roots) (sym bounds);
    are = λ root is. let v = were.are root is in record { low = v.low; high = v.high; none = none_to keeps v.low (λ same. omega (arith, same, v.low)) v.none };
    each = λ root v. were.each root (record { low = v.low; high = v.high; none = none_to (keeps_back keeps) v.low (λ same. omega (arith, same, v.low)) v.none });
  }

  pub tables_same : (keys : KeyRoots) (numbers : List ℕ) (free : Roots) → AreTables old keys numbers free → AreTables new keys numbers free
  tables_same keys numbers free were = record {
    keys_are = keys_same keys were.keys_are;
    numbers_are = subst (λ (b : Bounds). AreNumbers new b.roots numbers) (sym bounds) (roots_numbered (bounds_of old).roots numbers were.numbers_are);
    free_are = subst (λ (b : Bounds). AreFreeRoots new b.roots free) (sym bounds) (free_same (bounds_of old).roots free were.free_are);
  }

-- a set without a root is that of the stale ones, where none is stale
pub stale_none : (old new : List ℕ) (was is : Phase) (stale : Roots) → bounds_of new ≡ bounds_of old → AreStaleRoots old was stale → AreNoneStale old was → AreNoneStale new is → AreStaleRoots new is stale
stale_none old new was is stale bounds were none still = record {
  below = were.below ∙ ap (λ (b : Bounds). b.roots) (sym bounds);
  are = λ root held. absurd (none root (were.are root held));
  each = λ root so. absurd (still root so);
}

module _ (old new : ArenaState) (index : DictIndex) (key : ℕ) (progress : Progress) (whole : IsWhole old index key progress) (keeps : KeepsRoots (words_of old.device) (words_of new.device) stage) (bounds : bounds_of (words_of new.device) ≡ bounds_of (words_of old.device)) (exact : IsExactImage (words_of new.device)) where
  abbrev was : List ℕ
  was = words_of old.device

  abbrev is : List ℕ
  is = words_of new.device

  abbrev pairs : List Pair
  pairs = pairs_in was index.keys.rows

  pub dict_stays : IsDict is pairs
  dict_stays = dict_same keeps pairs whole.kept.dict

  pub tables_still : AreTables is index.keys index.numbers index.free
  tables_still = tables_same keeps bounds index.keys index.numbers index.free whole.indexes.tables

  pub dict_still : IsDict is (pairs_in is index.keys.rows)
  dict_still = dict_of is exact index.keys tables_still.keys_are dict_stays.fit

  pub map_still : pairs_in is index.keys.rows ≡ pairs
  map_still = law_of_dicts is (pairs_in is index.keys.rows) pairs dict_still dict_stays

  -- what is kept beside the arena, with the words of a block laid out anew
  abbrev pub laid_out : DictIndex → DictIndex
  laid_out after = record { keys = index.keys; numbers = index.numbers; free = index.free; stale = index.stale; block = after.block }

  module _ (ready : IsReady new.device) (after : DictIndex) (wide : length after.block.items ≡ 512) (next : ℕ) (come : Progress) (none : AreNoneStale was (phase_in was key progress)) (still : AreNoneStale is (phase_in is next come)) (at_stage : IsAtStage is (phase_in is next come)) where
    pub whole_still : IsWhole new (laid_out after) next come
    whole_still = record {
      kept = record { ready = ready; exact = exact; dict = dict_still; at_stage = at_stage };
      indexes = record { tables = tables_still; stale_roots = stale_none was is (phase_in was key progress) (phase_in is next come) index.stale bounds whole.indexes.stale_roots none still; wide = wide };
    }

    pub keeps_still : Leaves new (IsSteadyDict pairs) → KeepsMap (state_of old index key progress) (state_of new (laid_out after) next come) (phase_in is next come)
    keeps_still crash = record { pairs = map_still; phase_is = refl; numbers = λ n up. numbers_same keeps n up; crash = crash }
