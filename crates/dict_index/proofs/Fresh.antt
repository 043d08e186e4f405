-- A map in which no key has a root.
use Rattle.std.proofs.Common.{◌≡◌, ⊎_elim, ℕ, ◌^◌, ◌<◌, ◌≤◌, List, length, replicate, get_or, refl, sym, ◌∙◌, arith}
use Rattle.std.proofs.lemmas.Bool.{cases_lt}
use Rattle.std.proofs.lemmas.List.{length-replicate, get_or-replicate, get_or_past}
use Rattle.dict_index.specs.KeyRoots.{IsKeyed, IsNew}
use Rattle.dict_index.specs.Kept.{keyed_in, map_of, no_root, IsKept, IsCountedUp}
use Rattle.dict_index.proofs.Places.{sound_of}

module _ (roots : ℕ) (row : List ℕ) (few : roots < 2 ^ 16) (up : IsCountedUp row roots) where
  abbrev keys : List ℕ
  keys = replicate roots 0

  abbrev free : List ℕ
  free = replicate roots no_root

  keys_size : length keys ≡ roots
  keys_size = length-replicate roots 0

  none_size : length free ≡ roots
  none_size = length-replicate roots no_root

  none_at : (s : ℕ) → s < roots → get_or free s 0 ≡ no_root
  none_at s inside = get_or-replicate roots s no_root 0 inside

  pub kept_fresh : IsKept 0 row keys free
  kept_fresh = record {
    few = omega (arith, keys_size);
    roots_size = none_size ∙ sym keys_size;
    narrow = λ s. ⊎_elim
        (λ (inside : s < roots). let zero : get_or keys s 0 ≡ 0 = get_or-replicate roots s 0 0 inside in omega arith)
        (λ (past : roots ≤ s). let zero : get_or keys s 0 ≡ 0 = get_or_past keys s 0 (omega (arith, keys_size)) in omega arith)
        (cases_lt s roots);
    slots = record {
      size = up.size ∙ sym keys_size;
      below = λ i inside. omega (arith, up.each i inside, up.size, keys_size);
      once = λ i j inside also same. omega (arith, up.each i inside, up.each j also, same);
    };
    keyed = record {
      within = omega arith;
      below = λ i low. absurd (omega arith);
      rising = λ i j less low. absurd (omega arith);
    };
    rooted = record {
      used = λ i low. absurd (omega arith);
      unused = λ i high inside. none_at (get_or row i 0) (omega (arith, up.each i inside, up.size));
      held = λ s inside some. absurd (some (none_at s (omega (arith, none_size))));
      once = λ a b inside also same some. absurd (some (none_at a (omega (arith, none_size))));
    };
  }

  pub new_fresh : IsNew (map_of 0 row keys free) roots
  unfolding keyed_in IsKeyed
  new_fresh = record {
    roots_are = keys_size;
    empty = refl;
    none = λ r (i, inside, is). omega arith;
    sound = sound_of 0 row keys free kept_fresh;
  }
