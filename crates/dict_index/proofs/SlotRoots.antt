-- The roots that stand in slots, where that of one slot changes.
use Rattle.std.proofs.Common.{◌≡◌, ◌≢◌, ⊎_elim, ℕ, ◌<◌, List, length, get_or, set, sym, ap, ◌∙◌, arith}
use Rattle.std.proofs.lemmas.Bool.{cases_eq}
use Rattle.std.proofs.lemmas.List.{length-set, get_or-set_same, get_or-set_other}
use Rattle.dict_index.specs.declared.key_map.Keyed.{Keyed}
use Rattle.dict_index.specs.KeyRoots.{LacksRoot}
use Rattle.dict_index.specs.Kept.{keyed_at, map_of, no_root, IsKept}
use Rattle.dict_index.proofs.Places.{within, keyed_of, keyed_in_slot}

-- a root stands in one slot at most
abbrev pub StandOnce : List ℕ → Type 0
StandOnce roots = (a b : ℕ) → a < length roots → b < length roots → get_or roots a 0 ≡ get_or roots b 0 → get_or roots a 0 ≢ no_root → a ≡ b

-- what a slot has, as a row of a map
pub keyed_is : (keys roots : List ℕ) (slot key root : ℕ) → get_or keys slot 0 ≡ key → get_or roots slot 0 ≡ root → keyed_at keys roots slot ≡ record { key = key; root = root }
keyed_is keys roots slot key root a b =
    let by_key : ℕ → Keyed = λ k. record { key = k; root = get_or roots slot 0 } in
    let by_root : ℕ → Keyed = λ r. record { key = key; root = r } in
    ap by_key a ∙ ap by_root b

module _ (roots : List ℕ) (slot root : ℕ) (inside : slot < length roots) (once : StandOnce roots) where
  here : get_or (set roots slot root) slot 0 ≡ root
  here = get_or-set_same roots slot root 0 inside

  there : (s : ℕ) → s ≢ slot → get_or (set roots slot root) s 0 ≡ get_or roots s 0
  there s apart = get_or-set_other roots slot s root 0 apart

  size : length (set roots slot root) ≡ length roots
  size = length-set roots slot root

  -- it does where one comes that stood in none
  pub once_set : ((s : ℕ) → s < length roots → get_or roots s 0 ≢ root) → StandOnce (set roots slot root)
  once_set fresh a b low also same some = ⊎_elim
      (λ (first : a ≡ slot). ⊎_elim
      (λ (second : b ≡ slot). first ∙ sym second)
      (λ (other : b ≢ slot). absurd (fresh b (omega (arith, size)) (sym (there b other) ∙ (sym same ∙ (ap (λ s. get_or (set roots slot root) s 0) first ∙ here)))))
      (cases_eq b slot))
      (λ (apart : a ≢ slot). ⊎_elim
      (λ (second : b ≡ slot). absurd (fresh a (omega (arith, size)) (sym (there a apart) ∙ (same ∙ (ap (λ s. get_or (set roots slot root) s 0) second ∙ here)))))
      (λ (other : b ≢ slot). once a b (omega (arith, size)) (omega (arith, size)) (sym (there a apart) ∙ (same ∙ there b other)) (λ none. some (there a apart ∙ none)))
      (cases_eq b slot))
      (cases_eq a slot)

-- and where one goes
pub once_less : (roots : List ℕ) (slot : ℕ) → slot < length roots → StandOnce roots → StandOnce (set roots slot no_root)
once_less roots slot inside once a b low also same some =
    let size = length-set roots slot no_root in
    let gone : get_or (set roots slot no_root) slot 0 ≡ no_root = get_or-set_same roots slot no_root 0 inside in
    let not_a : a ≢ slot = λ is. some (ap (λ s. get_or (set roots slot no_root) s 0) is ∙ gone) in
    let not_b : b ≢ slot = λ is. some (same ∙ (ap (λ s. get_or (set roots slot no_root) s 0) is ∙ gone)) in
    let at_a = get_or-set_other roots slot a no_root 0 not_a in
    let at_b = get_or-set_other roots slot b no_root 0 not_b in
    once a b (omega arith) (omega arith) (sym at_a ∙ (same ∙ at_b)) (λ none. some (at_a ∙ none))

-- a root that no key has stands in no slot
pub stands_nowhere : (count : ℕ) (row keys roots : List ℕ) → IsKept count row keys roots → (root : ℕ) → root < length keys → LacksRoot (map_of count row keys roots) root → (s : ℕ) → s < length roots → get_or roots s 0 ≢ root
stands_nowhere count row keys roots kept root low fresh s inside is =
    let in_keys : s < length keys = omega (arith, kept.roots_size) in
    let some : get_or roots s 0 ≢ no_root = λ none. omega (arith, none, is, low, kept.few) in
    fresh.none (keyed_at keys roots s) (keyed_of count row keys roots (within count row keys roots kept) (keyed_at keys roots s) (keyed_in_slot count row keys roots kept s in_keys some)) is
