-- Tallies of slabs, one root more.
use Rattle.std.proofs.Common.{◌≡◌, ◌≢◌, ◌↔◌, ◌+◌, ◌<◌, ◌≤◌, ℕ, List, [], ◌∷◌, ◌++◌, length, set, refl, sym, ap, subst, ◌∙◌, arith, inl, inr, ⊎_elim, nat_lt, IsTrue}
use Rattle.std.proofs.lemmas.Bool.{cases_eq, cases_lt, ltb-true, lt-ltb}
use Rattle.std.proofs.lemmas.List.{length-set, get_or-set_same, get_or-set_other}
use Rattle.size_classes.specs.Classes.{class_size}
use Rattle.size_classes.proofs.Spacing.{class_size-most}
use Rattle.pool_layout.specs.Header.{granules_in}
use Rattle.image_tables.specs.Tables.{Tables}
use Rattle.image_defects.specs.Count.{IsCount}
use Rattle.image_defects.proofs.Counts.{count_here, count_not, some_below, none_below}
use Rattle.gc_check.specs.Heap.{class_field, gc_size, gc_tables}
use Rattle.gc_check.specs.Image.{IsGcSoundImage}
use Rattle.gc_check.proofs.Heaps.{size_small}
use Rattle.gc_search.proofs.Marks.{held_below}
use Rattle.heap_map.specs.Facts.{IsTotal}
use Rattle.heap_map.proofs.Totals.{total_more}
use Rattle.gc_map.specs.Slabs.{IsIn, IsLiveIn, IsOldIn, HasBytes, IsMixed}
use Rattle.gc_map.specs.GcRules.{roots_in}
use Rattle.gc_map.specs.declared.places.Place.{Place}
use Rattle.gc_map.specs.declared.tallies.Tally.{Tally}
use Rattle.gc_map.specs.Places.{HasNoPlace, IsPlaceOf, no_tally, tally_in, IsTally, AreTallies}
use Rattle.gc_map.proofs.Rows.{right_more}
use Rattle.gc_map.proofs.Slabs.{one_slab}

-- the bytes that a block has in a slab, or has not
bytes_none : (t : Tables) (start n bytes : ℕ) → ¬ (IsIn t start n) → IsTotal (HasBytes t start) n bytes → IsTotal (HasBytes t start) (n + 1) bytes
bytes_none t start n bytes elsewhere is = subst (IsTotal (HasBytes t start) (n + 1)) (omega arith) (total_more (HasBytes t start) n bytes 0 is (inr (elsewhere, refl)))

-- a root whose block lies elsewhere
pub tally_passes : (t : Tables) (start n : ℕ) (tally : Tally) → ¬ (IsIn t start n) → IsTally t start n tally → IsTally t start (n + 1) tally
tally_passes t start n tally elsewhere is = record {
  live = count_not (IsLiveIn t start) n tally.live (λ live. elsewhere live.lies) is.live;
  old = count_not (IsOldIn t start) n tally.old (λ old. elsewhere old.lies) is.old;
  bytes = bytes_none t start n tally.bytes elsewhere is.bytes;
  few_live = omega (arith, is.few_live);
  few_old = omega (arith, is.few_old);
  few_bytes = omega (arith, is.few_bytes);
}

-- one whose block lies in the slab
module _ (t : Tables) (n : ℕ) (place : Place) (size : ℕ) (is : IsPlaceOf t n place) (size_is : size ≡ class_size place.class) where
  sized : size ≡ gc_size t.large (t.word n)
  sized = size_is ∙ ap class_size (omega (arith, is.class)) ∙ sym (size_small t.large (t.word n) (omega (arith, is.class)))

  small : size ≤ 16384
  small = omega (arith, size_is, class_size-most place.class is.is_class)

  bytes_more : (bytes : ℕ) → IsTotal (HasBytes t place.start) n bytes → IsTotal (HasBytes t place.start) (n + 1) (bytes + size)
  bytes_more bytes before = total_more (HasBytes t place.start) n bytes size before (inl (is.lies, sized))

  pub tally_live : (tally : Tally) → place.class ≡ place.slab_class → IsTally t place.start n tally → IsTally t place.start (n + 1) (record { live = tally.live + 1; old = tally.old; bytes = tally.bytes + size })
  tally_live tally same before =
      let own : class_field (t.word n) ≡ (t.header place.start).class + 1 = omega (arith, is.class, is.slab_class, same) in
      record {
        live = count_here (IsLiveIn t place.start) n tally.live (record { lies = is.lies; same = own }) before.live;
        old = count_not (IsOldIn t place.start) n tally.old (λ old. old.other own) before.old;
        bytes = bytes_more tally.bytes before.bytes;
        few_live = omega (arith, before.few_live);
        few_old = omega (arith, before.few_old);
        few_bytes = omega (arith, before.few_bytes, small);
      }

  pub tally_old : (tally : Tally) → place.class ≢ place.slab_class → IsTally t place.start n tally → IsTally t place.start (n + 1) (record { live = tally.live; old = tally.old + 1; bytes = tally.bytes + size })
  tally_old tally differ before =
      let other : class_field (t.word n) ≢ (t.header place.start).class + 1 = λ own. differ (omega (arith, is.class, is.slab_class, own)) in
      record {
        live = count_not (IsLiveIn t place.start) n tally.live (λ live. other live.same) before.live;
        old = count_here (IsOldIn t place.start) n tally.old (record { lies = is.lies; other = other }) before.old;
        bytes = bytes_more tally.bytes before.bytes;
        few_live = omega (arith, before.few_live);
        few_old = omega (arith, before.few_old);
        few_bytes = omega (arith, before.few_bytes, small);
      }

-- rows

-- nothing is counted
pub tally_none : (t : Tables) (start : ℕ) → IsTally t start 0 no_tally
tally_none t start = record { live = refl; old = refl; bytes = refl; few_live = omega arith; few_old = omega arith; few_bytes = omega arith }

pub tallies_more : (t : Tables) (n : ℕ) (tallies new : List Tally) → AreTallies t n 0 tallies → new ≡ tallies ++ no_tally ∷ [] → AreTallies t (n + 1) 0 new
tallies_more t n tallies new are more =
    let right = right_more (λ start tally. IsTally t start 0 tally) no_tally n tallies new no_tally (record { all = are.all; each = are.each }) (tally_none t n) more in
    record { all = right.all; each = right.each }

-- a root that has no block in a slab
pub tallies_pass : (t : Tables) (granules n : ℕ) (tallies : List Tally) → HasNoPlace t n → AreTallies t granules n tallies → AreTallies t granules (n + 1) tallies
tallies_pass t granules n tallies none are = record { all = are.all; each = λ start below. tally_passes t start n (tally_in tallies start) (none.none start) (are.each start below) }

-- and one that has
pub tallies_put : (words : List ℕ) → IsGcSoundImage words → (n : ℕ) (place : Place) (tallies : List Tally) (tally : Tally) → IsPlaceOf (gc_tables words) n place → place.start < length tallies → IsTally (gc_tables words) place.start (n + 1) tally →
    AreTallies (gc_tables words) (granules_in words) n tallies → AreTallies (gc_tables words) (granules_in words) (n + 1) (set tallies place.start tally)
tallies_put words sound n place tallies tally is inside own are = record {
  all = length-set tallies place.start tally ∙ are.all;
  each = λ start below. ⊎_elim
      (λ (same : start ≡ place.start).
      let here : tally_in (set tallies place.start tally) start ≡ tally = ap (tally_in (set tallies place.start tally)) same ∙ get_or-set_same tallies place.start tally no_tally inside in
      subst (IsTally t start (n + 1)) (sym here) (subst (λ s. IsTally t s (n + 1) tally) (sym same) own))
      (λ (other : start ≢ place.start).
      let here : tally_in (set tallies place.start tally) start ≡ tally_in tallies start = get_or-set_other tallies place.start start tally no_tally other in
      subst (IsTally t start (n + 1)) (sym here) (tally_passes t start n (tally_in tallies start) (λ lies. other (one_slab words sound start place.start n lies is.lies)) (are.each start below)))
      (cases_eq start place.start);
}
  where
    t : Tables
    t = gc_tables words

-- a slab with a block of another class is in transition
pub turns_by : (words : List ℕ) (start old : ℕ) → IsCount (IsOldIn (gc_tables words) start) (roots_in words) old → IsTrue (nat_lt 0 old) ↔ IsMixed (gc_tables words) start
turns_by words start old count = (
  λ is. let found = some_below (IsOldIn (gc_tables words) start) (roots_in words) old count (ltb-true 0 old is) in record { root = found.0; old = found.2 },
  λ mixed. ⊎_elim
      (λ (some : 0 < old). lt-ltb 0 old some)
      (λ (none : old ≤ 0). absurd (none_below (IsOldIn (gc_tables words) start) (roots_in words) old count (omega (arith, none)) mixed.root (held_below words mixed.root mixed.old.lies.some) mixed.old))
      (cases_lt 0 old),
)
