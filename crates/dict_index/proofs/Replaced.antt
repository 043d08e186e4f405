-- A key gets another root than the one that it has.
use Rattle.std.proofs.Common.{◌≡◌, ◌≢◌, ◌⊎◌, ⊎_elim, inl, inr, ℕ, ◌<◌, ◌≤◌, List, length, get_or, set, refl, sym, ap, ◌∙◌, arith}
use Rattle.std.proofs.lemmas.Bool.{cases_eq}
use Rattle.std.proofs.lemmas.List.{length-set, get_or-set_same, get_or-set_other}
use Rattle.dict_index.specs.declared.key_map.Keyed.{Keyed}
use Rattle.dict_index.specs.KeyRoots.{KeyRoots, LacksRoot, IsKeyed, HasReplaced}
use Rattle.dict_index.specs.Kept.{keyed_at, map_of, no_root, IsKept, AreRooted, IsSlotOf}
use Rattle.dict_index.proofs.Places.{within, length_rows, at_of, keyed_of, one_of_key, one_of_root, one_of_slot, sound_of}
use Rattle.dict_index.proofs.SlotRoots.{keyed_is, once_set, stands_nowhere}

module _ (count : ℕ) (row keys roots : List ℕ) (kept : IsKept count row keys roots) (slot was : ℕ) (more : Keyed) (is : IsSlotOf keys roots slot more.key was) (low : more.root < length keys) (fresh : LacksRoot (map_of count row keys roots) more.root) where
  abbrev anew : List ℕ
  anew = set roots slot more.root

  in_roots : slot < length roots
  in_roots = omega (arith, is.inside, kept.roots_size)

  here : get_or anew slot 0 ≡ more.root
  here = get_or-set_same roots slot more.root 0 in_roots

  there : (s : ℕ) → s ≢ slot → get_or anew s 0 ≡ get_or roots s 0
  there s apart = get_or-set_other roots slot s more.root 0 apart

  size : length anew ≡ length roots
  size = length-set roots slot more.root

  some : get_or roots slot 0 ≢ no_root
  some none = is.some (sym is.root_is ∙ none)

  nowhere : (s : ℕ) → s < length roots → get_or roots s 0 ≢ more.root
  nowhere = stands_nowhere count row keys roots kept more.root low fresh

  -- the place of the slot
  held : (i : ℕ) × (i < count) × (get_or row i 0 ≡ slot)
  held = kept.rooted.held slot in_roots some

  rooted : AreRooted row count anew
  rooted = record {
    used = λ i less. ⊎_elim
        (λ (same : get_or row i 0 ≡ slot). let e = ap (λ s. get_or anew s 0) same ∙ here in omega (arith, e, low, size, kept.roots_size))
        (λ (apart : get_or row i 0 ≢ slot). omega (arith, there (get_or row i 0) apart, kept.rooted.used i less, size))
        (cases_eq (get_or row i 0) slot);
    unused = λ i high inside.
        there (get_or row i 0) (λ same. let equal = one_of_slot count row keys roots kept i held.0 inside (omega (arith, held.1, within count row keys roots kept)) (same ∙ sym held.2) in omega (arith, equal, held.1)) ∙ kept.rooted.unused i high inside;
    held = λ s inside has. ⊎_elim
        (λ (same : s ≡ slot). (held.0, held.1, held.2 ∙ sym same))
        (λ (apart : s ≢ slot). kept.rooted.held s (omega (arith, size)) (λ none. has (there s apart ∙ none)))
        (cases_eq s slot);
    once = once_set roots slot more.root in_roots kept.rooted.once nowhere;
  }

  pub kept_replaced : IsKept count row keys anew
  kept_replaced = record {
    few = kept.few;
    roots_size = size ∙ kept.roots_size;
    narrow = kept.narrow;
    slots = kept.slots;
    keyed = kept.keyed;
    rooted = rooted;
  }

  abbrev old_map : KeyRoots
  old_map = map_of count row keys roots

  abbrev new_map : KeyRoots
  new_map = map_of count row keys anew

  fits : count ≤ length row
  fits = within count row keys roots kept

  -- what a slot at another place has
  same_at : (i : ℕ) → get_or row i 0 ≢ slot → keyed_at keys anew (get_or row i 0) ≡ keyed_at keys roots (get_or row i 0)
  same_at i apart = keyed_is keys anew (get_or row i 0) (get_or keys (get_or row i 0) 0) (get_or roots (get_or row i 0) 0) refl (there (get_or row i 0) apart)

  more_at : (i : ℕ) → get_or row i 0 ≡ slot → keyed_at keys anew (get_or row i 0) ≡ more
  more_at i same = ap (keyed_at keys anew) same ∙ keyed_is keys anew slot more.key more.root is.key_is here

  had : IsKeyed old_map (record { key = more.key; root = was })
  had = keyed_of count row keys roots fits (record { key = more.key; root = was })
      (record { place = held.0; low = held.1; is = ap (keyed_at keys roots) held.2 ∙ keyed_is keys roots slot more.key was is.key_is is.root_is })

  gone : (r : Keyed) → IsKeyed new_map r → r.root ≢ was
  gone r has same =
      let at = at_of count row keys anew fits r has in
      let root : get_or anew (get_or row at.place 0) 0 ≡ was = ap (λ (x : Keyed). x.root) at.is ∙ same in
      ⊎_elim
      (λ (equal : get_or row at.place 0 ≡ slot). nowhere slot in_roots (is.root_is ∙ (sym root ∙ (ap (λ s. get_or anew s 0) equal ∙ here))))
      (λ (apart : get_or row at.place 0 ≢ slot). apart (one_of_root count row keys roots kept at.place slot at.low is.inside (sym (there (get_or row at.place 0) apart) ∙ (root ∙ sym is.root_is))))
      (cases_eq (get_or row at.place 0) slot)

  stays : (r : Keyed) → IsKeyed old_map r → r.key ≢ more.key → IsKeyed new_map r
  stays r has apart =
      let at = at_of count row keys roots fits r has in
      let other : get_or row at.place 0 ≢ slot = λ same. apart (sym (ap (λ (x : Keyed). x.key) at.is) ∙ (ap (λ s. get_or keys s 0) same ∙ is.key_is)) in
      keyed_of count row keys anew fits r (record { place = at.place; low = at.low; is = same_at at.place other ∙ at.is })

  each : (r : Keyed) → IsKeyed new_map r → (IsKeyed old_map r × (r.key ≢ more.key)) ⊎ (r ≡ more)
  each r has =
      let at = at_of count row keys anew fits r has in
      ⊎_elim
      (λ (equal : get_or row at.place 0 ≡ slot). inr (sym at.is ∙ more_at at.place equal))
      (λ (apart : get_or row at.place 0 ≢ slot). inl (
        keyed_of count row keys roots fits r (record { place = at.place; low = at.low; is = sym (same_at at.place apart) ∙ at.is }),
        λ key. let one = one_of_key count row keys roots kept at.place held.0 at.low held.1 (ap (λ (x : Keyed). x.key) at.is ∙ (key ∙ (sym is.key_is ∙ ap (λ s. get_or keys s 0) (sym held.2)))) in apart (ap (λ i. get_or row i 0) one ∙ held.2),
      ))
      (cases_eq (get_or row at.place 0) slot)

  pub has_replaced : HasReplaced old_map (record { key = more.key; root = was }) more new_map
  has_replaced = record {
    roots = refl;
    had = had;
    same_key = refl;
    inside = omega (arith, ap (λ s. get_or roots s 0) held.2, is.root_is, kept.rooted.used held.0 held.1, kept.roots_size);
    gone = record { none = gone };
    here = keyed_of count row keys anew fits more (record { place = held.0; low = held.1; is = more_at held.0 held.2 });
    kept = stays;
    each = each;
    count = length_rows count row keys anew fits ∙ sym (length_rows count row keys roots fits);
    sound = sound_of count row keys anew kept_replaced;
  }
