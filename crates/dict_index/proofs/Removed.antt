-- A key goes with its root, and its slot has none.
use Rattle.std.proofs.Common.{◌≡◌, ◌≢◌, ◌⊎◌, ⊎_elim, inr, ℕ, ◌+◌, ◌-◌, ◌<◌, ◌≤◌, List, length, get_or, set, refl, sym, ap, ◌∙◌, subst, arith}
use Rattle.std.proofs.lemmas.Bool.{cases_eq}
use Rattle.std.proofs.lemmas.List.{length-set, get_or-set_same, get_or-set_other, get_or_read}
use Rattle.dict_index.specs.declared.key_map.Keyed.{Keyed}
use Rattle.dict_index.specs.KeyRoots.{KeyRoots, IsKeyed, HasLess}
use Rattle.dict_index.specs.Kept.{keyed_at, map_of, no_root, IsKept, AreSlots, AreKeyed, AreRooted, IsTurned, IsInRow, HasLessAt}
use Rattle.dict_index.proofs.Places.{within, length_rows, at_of, keyed_of, of_row, one_of_key, one_of_root, one_of_slot, sound_of}
use Rattle.dict_index.proofs.SlotRoots.{keyed_is, once_less}
use Rattle.dict_index.proofs.Turns.{Was, was_of, came_of, stands, slots_before}

-- what goes, and from where: the row of before is the one from behind, with the last one turned up
pub record IsGoing (count : ℕ) (row keys roots : List ℕ) (place last : ℕ) (turned : List ℕ) : Type 0 where
  pub kept : IsKept count row keys roots
  pub low : place < count
  pub next : count ≡ last + 1
  pub turn : IsTurned turned place last row

pub going : (count : ℕ) (row keys roots : List ℕ) (place : ℕ) (turned : List ℕ) → IsKept count row keys roots → place < count → IsTurned turned place (count - 1) row → IsGoing count row keys roots place (count - 1) turned
going count row keys roots place turned kept low turn = record { kept = kept; low = low; next = omega arith; turn = turn }

module _ (count : ℕ) (row keys roots : List ℕ) (place last : ℕ) (turned : List ℕ) (is : IsGoing count row keys roots place last turned) where
  fits : count ≤ length row
  fits = within count row keys roots is.kept

  order : place ≤ last
  order = omega (arith, is.low, is.next)

  abbrev slot : ℕ
  slot = get_or row place 0

  abbrev anew : List ℕ
  anew = set roots slot no_root

  in_keys : slot < length keys
  in_keys = is.kept.keyed.below place is.low

  in_roots : slot < length roots
  in_roots = omega (arith, in_keys, is.kept.roots_size)

  size : length anew ≡ length roots
  size = length-set roots slot no_root

  not_slot : (j : ℕ) → j < length row → j ≢ place → get_or row j 0 ≢ slot
  not_slot j inside apart same = apart (one_of_slot count row keys roots is.kept j place inside (omega (arith, is.low, fits)) same)

  slots : AreSlots turned (length keys)
  slots = slots_before turned place last row is.turn order (length keys) (omega (arith, is.next, fits, is.kept.slots.size)) is.kept.slots

  pub slot_read : (s : ℕ) → s ≡ get_or row place s → s ≡ slot
  slot_read s read = get_or_read row place s (omega (arith, is.low, fits)) read 0

  -- where a key of now stood before, and where one of before stands
  pub record Old (i : ℕ) : Type 0 where
    pub at : ℕ
    pub was : Was place last at i
    pub low : at < count
    pub apart : at ≢ place
    pub side : ((i < place) × (at ≡ i)) ⊎ ((place ≤ i) × (at ≡ i + 1))

  old : (i : ℕ) → i < last → Old i
  old i less = let came = came_of place last order i in record { at = came.0; was = came.1; low = grind (arith, came.1, is.next); apart = λ same. grind (arith, came.1, same); side = grind (arith, came.1) }

  pub record Left (j : ℕ) : Type 0 where
    pub at : ℕ
    pub was : Was place last j at
    pub low : at < last

  left : (j : ℕ) → j < count → j ≢ place → Left j
  left j less apart = let was = was_of place last order j in record { at = was.0; was = was.1; low = grind (arith, was.1, apart, is.next) }

  others : (j i : ℕ) → Was place last j i → j < length row → j ≢ place → keyed_at keys anew (get_or turned i 0) ≡ keyed_at keys roots (get_or row j 0)
  others j i was inside apart =
      ap (keyed_at keys anew) (sym (stands turned place last row is.turn j i was))
      ∙ keyed_is keys anew (get_or row j 0) (get_or keys (get_or row j 0) 0) (get_or roots (get_or row j 0) 0) refl (get_or-set_other roots slot (get_or row j 0) no_root 0 (not_slot j inside apart))

  of_old : (i : ℕ) (o : Old i) → keyed_at keys anew (get_or turned i 0) ≡ keyed_at keys roots (get_or row o.at 0)
  of_old i o = others o.at i o.was (omega (arith, o.low, fits)) o.apart

  keyed : AreKeyed turned last keys
  keyed = record {
    within = omega (arith, is.turn.size, is.next, fits);
    below = λ i less. slots.below i (omega (arith, is.turn.size, is.next, fits));
    rising = λ i k less inside.
        let a = old i (omega arith) in
        let b = old k inside in
        let low : a.at < b.at = grind (arith, a.side, b.side, less) in
        omega (arith, ap (λ (r : Keyed). r.key) (of_old i a), ap (λ (r : Keyed). r.key) (of_old k b), is.kept.keyed.rising a.at b.at low b.low);
  }

  rooted : AreRooted turned last anew
  rooted = record {
    used = λ i less. let o = old i less in omega (arith, ap (λ (r : Keyed). r.root) (of_old i o), is.kept.rooted.used o.at o.low, size);
    unused = λ i high inside. ⊎_elim
        (λ (same : i ≡ last). ap (λ k. get_or anew (get_or turned k 0) 0) same ∙ (ap (λ s. get_or anew s 0) (sym is.turn.first) ∙ get_or-set_same roots slot no_root 0 in_roots))
        (λ (apart : i ≢ last).
        let was : Was place last i i = inr (inr (inr (omega (arith, apart, high), refl))) in
        let in_old : i < length row = omega (arith, is.turn.size) in
        ap (λ (r : Keyed). r.root) (others i i was in_old (λ same. omega (arith, same, order, high, apart))) ∙ is.kept.rooted.unused i (omega (arith, is.next, high, apart)) in_old)
        (cases_eq i last);
    held = λ s inside some.
        let apart : s ≢ slot = λ same. some (ap (λ k. get_or anew k 0) same ∙ get_or-set_same roots slot no_root 0 in_roots) in
        let had = is.kept.rooted.held s (omega (arith, size)) (λ none. some (get_or-set_other roots slot s no_root 0 apart ∙ none)) in
        let l = left had.0 had.1 (λ same. apart (sym had.2 ∙ ap (λ k. get_or row k 0) same)) in
        (l.at, l.low, sym (stands turned place last row is.turn had.0 l.at l.was) ∙ had.2);
    once = once_less roots slot in_roots is.kept.rooted.once;
  }

  pub kept_removed : IsKept last turned keys anew
  kept_removed = record {
    few = is.kept.few;
    roots_size = size ∙ is.kept.roots_size;
    narrow = is.kept.narrow;
    slots = slots;
    keyed = keyed;
    rooted = rooted;
  }

  fits_now : last ≤ length turned
  fits_now = keyed.within

  -- a key of now stood at another place before
  stood : (r : Keyed) → IsKeyed (map_of last turned keys anew) r → (j : ℕ) × (j < count) × (j ≢ place) × (keyed_at keys roots (get_or row j 0) ≡ r)
  stood r has =
      let at = at_of last turned keys anew fits_now r has in
      let o = old at.place at.low in
      (o.at, o.low, o.apart, sym (of_old at.place o) ∙ at.is)

  has_less : HasLess (map_of count row keys roots) (keyed_at keys roots slot) (map_of last turned keys anew)
  has_less = record {
    roots = refl;
    had = keyed_of count row keys roots fits (keyed_at keys roots slot) (record { place = place; low = is.low; is = refl });
    inside = omega (arith, is.kept.rooted.used place is.low, is.kept.roots_size);
    key = record { none = λ r has same. let s = stood r has in s.2 (one_of_key count row keys roots is.kept s.0 place s.1 is.low (ap (λ (x : Keyed). x.key) s.3 ∙ same)) };
    root = record { none = λ r has same. let s = stood r has in not_slot s.0 (omega (arith, s.1, fits)) s.2 (one_of_root count row keys roots is.kept s.0 slot s.1 in_keys (ap (λ (x : Keyed). x.root) s.3 ∙ same)) };
    kept = λ r has apart.
        let at = at_of count row keys roots fits r has in
        let other : at.place ≢ place = λ same. apart (sym (ap (λ (x : Keyed). x.key) at.is) ∙ ap (λ k. get_or keys (get_or row k 0) 0) same) in
        let l = left at.place at.low other in
        keyed_of last turned keys anew fits_now r (record { place = l.at; low = l.low; is = others at.place l.at l.was (omega (arith, at.low, fits)) other ∙ at.is });
    each = λ r has. let s = stood r has in keyed_of count row keys roots fits r (record { place = s.0; low = s.1; is = s.3 });
    count = omega (arith, length_rows last turned keys anew fits_now, length_rows count row keys roots fits, is.next);
    sound = sound_of last turned keys anew kept_removed;
  }

  -- by what stood at the place
  pub less_at : (map : KeyRoots) → map_of count row keys roots ≡ map → HasLessAt map place (map_of last turned keys anew)
  less_at map view gone at =
      let was = of_row count row keys roots fits place gone (subst (λ (m : KeyRoots). IsInRow m place gone) (sym view) at) in
      subst (λ (m : KeyRoots). HasLess m gone (map_of last turned keys anew)) view (subst (λ (r : Keyed). HasLess (map_of count row keys roots) r (map_of last turned keys anew)) was.1 has_less)
