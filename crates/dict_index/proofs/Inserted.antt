-- A key that is not there comes with its root, into the first slot that has none.
use Rattle.std.proofs.Common.{◌≡◌, ◌≢◌, ◌⊎◌, ⊎_elim, inl, inr, ℕ, ◌+◌, ◌^◌, ◌<◌, ◌≤◌, List, length, get_or, set, refl, sym, ap, ◌∙◌, subst, arith}
use Rattle.std.proofs.lemmas.Bool.{cases_eq, cases_lt}
use Rattle.std.proofs.lemmas.List.{length-set, get_or-set_same, get_or-set_other, get_or_past, get_or_read}
use Rattle.dict_index.specs.declared.key_map.Keyed.{Keyed}
use Rattle.dict_index.specs.KeyRoots.{KeyRoots, LacksKey, LacksRoot, HasMore}
use Rattle.dict_index.specs.Kept.{keyed_at, map_of, IsKept, AreSlots, AreKeyed, AreRooted, IsCutAt, IsPlaceOf, IsTurned}
use Rattle.dict_index.proofs.Places.{within, length_rows, cut_of_place, at_of, keyed_of, one_of_slot, sound_of}
use Rattle.dict_index.proofs.Room.{room}
use Rattle.dict_index.proofs.SlotRoots.{keyed_is, once_set, stands_nowhere}
use Rattle.dict_index.proofs.Turns.{Was, was_of, came_of, stands, slots_behind}

-- a table with one number set
pub set_fits : (table : List ℕ) (at n most : ℕ) → n < most → ((i : ℕ) → get_or table i 0 < most) → (i : ℕ) → get_or (set table at n) i 0 < most
set_fits table at n most fits all i = ⊎_elim
    (λ (same : i ≡ at). ⊎_elim
    (λ (inside : at < length table). let e : get_or (set table at n) i 0 ≡ n = ap (λ k. get_or (set table at n) k 0) same ∙ get_or-set_same table at n 0 inside in omega arith)
    (λ (past : length table ≤ at). let e : get_or (set table at n) i 0 ≡ 0 = get_or_past (set table at n) i 0 (omega (arith, length-set table at n)) in omega arith)
    (cases_lt at (length table)))
    (λ (apart : i ≢ at). omega (arith, get_or-set_other table at i n 0 apart, all i))
    (cases_eq i at)

-- what comes, and where
pub record IsComing (count : ℕ) (row keys roots : List ℕ) (place : ℕ) (more : Keyed) (turned : List ℕ) : Type 0 where
  pub kept : IsKept count row keys roots
  pub low : more.root < length keys
  pub narrow : more.key < 2 ^ 64
  pub fresh : LacksRoot (map_of count row keys roots) more.root
  pub cut : IsCutAt row count keys more.key place
  pub lacks : LacksKey (map_of count row keys roots) more.key
  pub turn : IsTurned row place count turned

pub coming : (count : ℕ) (row keys roots : List ℕ) (place : ℕ) (more : Keyed) (turned : List ℕ) (map : KeyRoots) → IsKept count row keys roots → map_of count row keys roots ≡ map → more.root < map.roots → more.key < 2 ^ 64 → LacksRoot map more.root → IsPlaceOf map more.key place → LacksKey map more.key → IsTurned row place count turned →
    IsComing count row keys roots place more turned
coming count row keys roots place more turned map kept view low narrow fresh at lacks turn = record {
  kept = kept;
  low = subst (λ (m : KeyRoots). more.root < m.roots) (sym view) low;
  narrow = narrow;
  fresh = subst (λ (m : KeyRoots). LacksRoot m more.root) (sym view) fresh;
  cut = cut_of_place count row keys roots (within count row keys roots kept) more.key place (subst (λ (m : KeyRoots). IsPlaceOf m more.key place) (sym view) at);
  lacks = subst (λ (m : KeyRoots). LacksKey m more.key) (sym view) lacks;
  turn = turn;
}

module _ (count : ℕ) (row keys roots : List ℕ) (place : ℕ) (more : Keyed) (turned : List ℕ) (is : IsComing count row keys roots place more turned) where
  fits : count ≤ length row
  fits = within count row keys roots is.kept

  free : count < length keys
  free = room count row keys roots is.kept more.root is.low is.fresh

  in_row : count < length row
  in_row = omega (arith, free, is.kept.slots.size)

  order : place ≤ count
  order = is.cut.within

  abbrev slot : ℕ
  slot = get_or row count 0

  abbrev new_keys : List ℕ
  new_keys = set keys slot more.key

  abbrev new_roots : List ℕ
  new_roots = set roots slot more.root

  in_keys : slot < length keys
  in_keys = is.kept.slots.below count in_row

  in_roots : slot < length roots
  in_roots = omega (arith, in_keys, is.kept.roots_size)

  keys_size : length new_keys ≡ length keys
  keys_size = length-set keys slot more.key

  roots_size : length new_roots ≡ length roots
  roots_size = length-set roots slot more.root

  nowhere : (s : ℕ) → s < length roots → get_or roots s 0 ≢ more.root
  nowhere = stands_nowhere count row keys roots is.kept more.root is.low is.fresh

  pub slot_read : (s : ℕ) → s ≡ get_or row count s → s ≡ slot
  slot_read s read = get_or_read row count s in_row read 0

  -- a slot at another place is another one
  not_slot : (i : ℕ) → i < length row → i ≢ count → get_or row i 0 ≢ slot
  not_slot i inside apart same = apart (one_of_slot count row keys roots is.kept i count inside in_row same)

  slots : AreSlots turned (length keys)
  slots = slots_behind row place count turned is.turn order (length keys) free is.kept.slots

  -- what stands where

  more_at : keyed_at new_keys new_roots (get_or turned place 0) ≡ more
  more_at = ap (keyed_at new_keys new_roots) is.turn.first ∙ keyed_is new_keys new_roots slot more.key more.root (get_or-set_same keys slot more.key 0 in_keys) (get_or-set_same roots slot more.root 0 in_roots)

  others : (j i : ℕ) → Was place count j i → i < length row → i ≢ count → keyed_at new_keys new_roots (get_or turned j 0) ≡ keyed_at keys roots (get_or row i 0)
  others j i was inside apart =
      let other = not_slot i inside apart in
      ap (keyed_at new_keys new_roots) (stands row place count turned is.turn j i was)
      ∙ keyed_is new_keys new_roots (get_or row i 0) (get_or keys (get_or row i 0) 0) (get_or roots (get_or row i 0) 0) (get_or-set_other keys slot (get_or row i 0) more.key 0 other) (get_or-set_other roots slot (get_or row i 0) more.root 0 other)

  -- where a key of before stands now, and where one of now stood
  pub record Now (i : ℕ) : Type 0 where
    pub at : ℕ
    pub was : Was place count at i
    pub low : at < count + 1

  now : (i : ℕ) → i < count → Now i
  now i less = let came = came_of place count order i in record { at = came.0; was = came.1; low = grind (arith, came.1) }

  pub record Before (j : ℕ) : Type 0 where
    pub at : ℕ
    pub was : Was place count j at
    pub low : at < count
    pub side : ((j < place) × (at ≡ j)) ⊎ ((place ≤ at) × (j ≡ at + 1))

  before : (j : ℕ) → j < count + 1 → j ≢ place → Before j
  before j less apart = let was = was_of place count order j in record { at = was.0; was = was.1; low = grind (arith, was.1, apart); side = grind (arith, was.1, apart) }

  new_key : (j : ℕ) (b : Before j) → get_or new_keys (get_or turned j 0) 0 ≡ get_or keys (get_or row b.at 0) 0
  new_key j b = ap (λ (r : Keyed). r.key) (others j b.at b.was (omega (arith, b.low, fits)) (λ same. omega (arith, same, b.low)))

  new_root : (j : ℕ) (b : Before j) → get_or new_roots (get_or turned j 0) 0 ≡ get_or roots (get_or row b.at 0) 0
  new_root j b = ap (λ (r : Keyed). r.root) (others j b.at b.was (omega (arith, b.low, fits)) (λ same. omega (arith, same, b.low)))

  place_key : get_or new_keys (get_or turned place 0) 0 ≡ more.key
  place_key = ap (λ (r : Keyed). r.key) more_at

  place_root : get_or new_roots (get_or turned place 0) 0 ≡ more.root
  place_root = ap (λ (r : Keyed). r.root) more_at

  -- no key of the map is the one that comes
  other_key : (i : ℕ) → i < count → get_or keys (get_or row i 0) 0 ≢ more.key
  other_key i less = is.lacks.none (keyed_at keys roots (get_or row i 0)) (keyed_of count row keys roots fits (keyed_at keys roots (get_or row i 0)) (record { place = i; low = less; is = refl }))

  rising : (j k : ℕ) → j < k → k < count + 1 → get_or new_keys (get_or turned j 0) 0 < get_or new_keys (get_or turned k 0) 0
  rising j k less inside = ⊎_elim
      (λ (first : j ≡ place).
      let b = before k inside (λ same. omega (arith, same, first)) in
      let here : get_or new_keys (get_or turned j 0) 0 ≡ more.key = ap (λ i. get_or new_keys (get_or turned i 0) 0) first ∙ place_key in
      let high : place ≤ b.at = grind (arith, b.side) in
      omega (arith, here, new_key k b, is.cut.behind b.at high b.low, other_key b.at b.low))
      (λ (not_first : j ≢ place). ⊎_elim
      (λ (second : k ≡ place).
      let b = before j (omega arith) not_first in
      let here : get_or new_keys (get_or turned k 0) 0 ≡ more.key = ap (λ i. get_or new_keys (get_or turned i 0) 0) second ∙ place_key in
      let low : b.at < place = grind (arith, b.side, second, less) in
      omega (arith, here, new_key j b, is.cut.before b.at low))
      (λ (not_second : k ≢ place).
      let a = before j (omega arith) not_first in
      let b = before k inside not_second in
      let low : a.at < b.at = grind (arith, a.side, b.side, less) in
      omega (arith, new_key j a, new_key k b, is.kept.keyed.rising a.at b.at low b.low))
      (cases_eq k place))
      (cases_eq j place)

  keyed : AreKeyed turned (count + 1) new_keys
  keyed = record {
    within = omega (arith, is.turn.size, in_row);
    below = λ j less. omega (arith, keys_size, slots.below j (omega (arith, is.turn.size, in_row)));
    rising = rising;
  }

  rooted : AreRooted turned (count + 1) new_roots
  rooted = record {
    used = λ j less. ⊎_elim
        (λ (first : j ≡ place). let e = ap (λ i. get_or new_roots (get_or turned i 0) 0) first ∙ place_root in omega (arith, e, is.low, roots_size, is.kept.roots_size))
        (λ (other : j ≢ place). let b = before j less other in omega (arith, new_root j b, is.kept.rooted.used b.at b.low, roots_size))
        (cases_eq j place);
    unused = λ j high inside.
        let was : Was place count j j = inr (inr (inr (omega arith, refl))) in
        let in_old : j < length row = omega (arith, is.turn.size) in
        ap (λ (r : Keyed). r.root) (others j j was in_old (λ same. omega (arith, same, high))) ∙ is.kept.rooted.unused j (omega arith) in_old;
    held = λ s inside some. ⊎_elim
        (λ (same : s ≡ slot). (place, omega (arith, order), is.turn.first ∙ sym same))
        (λ (apart : s ≢ slot).
        let old = is.kept.rooted.held s (omega (arith, roots_size)) (λ none. some (get_or-set_other roots slot s more.root 0 apart ∙ none)) in
        let n = now old.0 old.1 in
        (n.at, n.low, stands row place count turned is.turn n.at old.0 n.was ∙ old.2))
        (cases_eq s slot);
    once = once_set roots slot more.root in_roots is.kept.rooted.once nowhere;
  }

  pub kept_inserted : IsKept (count + 1) turned new_keys new_roots
  kept_inserted = record {
    few = omega (arith, keys_size, is.kept.few);
    roots_size = roots_size ∙ (is.kept.roots_size ∙ sym keys_size);
    narrow = set_fits keys slot more.key (2 ^ 64) is.narrow is.kept.narrow;
    slots = subst (AreSlots turned) (sym keys_size) slots;
    keyed = keyed;
    rooted = rooted;
  }

  fits_now : count + 1 ≤ length turned
  fits_now = keyed.within

  pub has_more : HasMore (map_of count row keys roots) more (map_of (count + 1) turned new_keys new_roots)
  has_more = record {
    roots = keys_size;
    lacked = is.lacks;
    here = keyed_of (count + 1) turned new_keys new_roots fits_now more (record { place = place; low = omega (arith, order); is = more_at });
    kept = λ r has.
        let at = at_of count row keys roots fits r has in
        let n = now at.place at.low in
        keyed_of (count + 1) turned new_keys new_roots fits_now r (record { place = n.at; low = n.low; is = others n.at at.place n.was (omega (arith, at.low, fits)) (λ same. omega (arith, same, at.low)) ∙ at.is });
    each = λ r has.
        let at = at_of (count + 1) turned new_keys new_roots fits_now r has in
        ⊎_elim
        (λ (first : at.place ≡ place). inr (sym at.is ∙ (ap (λ i. keyed_at new_keys new_roots (get_or turned i 0)) first ∙ more_at)))
        (λ (other : at.place ≢ place).
        let b = before at.place at.low other in
        inl (keyed_of count row keys roots fits r (record { place = b.at; low = b.low; is = sym (others at.place b.at b.was (omega (arith, b.low, fits)) (λ same. omega (arith, same, b.low))) ∙ at.is })))
        (cases_eq at.place place);
    count = length_rows (count + 1) turned new_keys new_roots fits_now ∙ ap (λ (n : ℕ). n + 1) (sym (length_rows count row keys roots fits));
    sound = sound_of (count + 1) turned new_keys new_roots kept_inserted;
  }
