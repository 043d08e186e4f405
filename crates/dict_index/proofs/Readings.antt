-- What a place of a row leads to, as it was read.
use Rattle.std.proofs.Common.{◌≡◌, ℕ, ◌<◌, List, length, get_or, sym, ap, ◌∙◌, subst, arith}
use Rattle.std.proofs.lemmas.List.{get_or_read, get_or_default}
use Rattle.dict_index.specs.declared.key_map.Keyed.{Keyed}
use Rattle.dict_index.specs.KeyRoots.{KeyRoots, IsKeyed, IsRootOf}
use Rattle.dict_index.specs.Kept.{keyed_at, map_of, IsKept, IsInRow, HasKeyAt, IsSlotOf}
use Rattle.dict_index.proofs.Places.{within, in_row, of_row, keyed_of, keyed_in_slot, has_root}
use Rattle.dict_index.proofs.SlotRoots.{keyed_is}

-- a place of a map whose row and tables these are
pub record IsRead (count : ℕ) (row keys roots : List ℕ) (map : KeyRoots) (place slot : ℕ) : Type 0 where
  pub kept : IsKept count row keys roots
  pub view : map_of count row keys roots ≡ map
  pub low : place < count
  pub slot_is : slot ≡ get_or row place 0

pub is_read : (count : ℕ) (row keys roots : List ℕ) (map : KeyRoots) (place slot : ℕ) → IsKept count row keys roots → map_of count row keys roots ≡ map → place < count → slot ≡ get_or row place slot → IsRead count row keys roots map place slot
is_read count row keys roots map place slot kept view low read = record { kept = kept; view = view; low = low; slot_is = get_or_read row place slot (omega (arith, low, kept.keyed.within)) read 0 }

module _ (count : ℕ) (row keys roots : List ℕ) (map : KeyRoots) (place slot : ℕ) (is : IsRead count row keys roots map place slot) where
  -- the slot is one of both tables
  pub in_keys : slot < length keys
  in_keys = omega (arith, is.slot_is, is.kept.keyed.below place is.low)

  pub in_roots : slot < length roots
  in_roots = omega (arith, in_keys, is.kept.roots_size)

  -- what was read there stands in the row
  pub row_read : (key root : ℕ) → key ≡ get_or keys slot key → root ≡ get_or roots slot root → IsInRow map place (record { key = key; root = root })
  row_read key root a b =
      let at_key : get_or keys (get_or row place 0) 0 ≡ key = ap (λ s. get_or keys s 0) (sym is.slot_is) ∙ sym (get_or_read keys slot key in_keys a 0) in
      let at_root : get_or roots (get_or row place 0) 0 ≡ root = ap (λ s. get_or roots s 0) (sym is.slot_is) ∙ sym (get_or_read roots slot root in_roots b 0) in
      subst (λ (m : KeyRoots). IsInRow m place (record { key = key; root = root })) is.view
      (in_row count row keys roots is.kept.keyed.within place (record { key = key; root = root }) is.low (keyed_is keys roots (get_or row place 0) key root at_key at_root))

  pub key_read : (key : ℕ) → key ≡ get_or keys slot key → HasKeyAt map place key
  key_read key a =
      let root = get_or roots slot 0 in
      let b : root ≡ get_or roots slot root = get_or_default roots slot 0 root in_roots in
      record { root = root; is = row_read key root a b }

-- a key that stands in a slot has its root
pub root_in_slot : (count : ℕ) (row keys roots : List ℕ) (map : KeyRoots) (slot key root : ℕ) → IsKept count row keys roots → map_of count row keys roots ≡ map → IsSlotOf keys roots slot key root → IsRootOf map key root
root_in_slot count row keys roots map slot key root kept view is =
    let r : Keyed = record { key = key; root = root } in
    let at = keyed_in_slot count row keys roots kept slot is.inside (λ none. is.some (sym is.root_is ∙ none)) in
    let reads : keyed_at keys roots slot ≡ r = keyed_is keys roots slot key root is.key_is is.root_is in
    subst (λ (m : KeyRoots). IsRootOf m key root) view (record { is = subst (IsKeyed (map_of count row keys roots)) reads (keyed_of count row keys roots (within count row keys roots kept) (keyed_at keys roots slot) at) })

-- the slot of a place that has a key, as one that the key stands in
pub slot_of_place : (count : ℕ) (row keys roots : List ℕ) (map : KeyRoots) (place slot key root : ℕ) → IsRead count row keys roots map place slot → HasKeyAt map place key → root ≡ get_or roots slot root → IsSlotOf keys roots slot key root
slot_of_place count row keys roots map place slot key root is has b =
    let at = of_row count row keys roots is.kept.keyed.within place (record { key = key; root = has.root }) (subst (λ (m : KeyRoots). IsInRow m place (record { key = key; root = has.root })) (sym is.view) has.is) in
    let root_read = get_or_read roots slot root (in_roots count row keys roots map place slot is) b 0 in
    record {
      inside = in_keys count row keys roots map place slot is;
      key_is = ap (λ s. get_or keys s 0) is.slot_is ∙ ap (λ (r : Keyed). r.key) at.1;
      root_is = sym root_read;
      some = λ none. has_root count row keys roots is.kept place is.low (ap (λ s. get_or roots s 0) (sym is.slot_is) ∙ (sym root_read ∙ none));
    }

-- and so in the row
pub row_in_slot : (count : ℕ) (row keys roots : List ℕ) (map : KeyRoots) (place slot : ℕ) → IsRead count row keys roots map place slot → (key root : ℕ) → IsSlotOf keys roots slot key root → IsInRow map place (record { key = key; root = root })
row_in_slot count row keys roots map place slot is key root at =
    subst (λ (m : KeyRoots). IsInRow m place (record { key = key; root = root })) is.view
    (in_row count row keys roots is.kept.keyed.within place (record { key = key; root = root }) is.low (ap (keyed_at keys roots) (sym is.slot_is) ∙ keyed_is keys roots slot key root at.key_is at.root_is))
