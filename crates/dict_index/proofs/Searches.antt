-- What a place says of the keys of a map: that it lacks a key, or which one is next.
use Rattle.std.proofs.Common.{◌≡◌, ◌≢◌, ⊎_elim, ℕ, ◌<◌, ◌≤◌, length, get_or, Option, Some, None, MatchOption, sym, ap, ◌∙◌, arith}
use Rattle.std.proofs.lemmas.Bool.{cases_lt}
use Rattle.std.proofs.lemmas.List.{get_or_default}
use Rattle.dict_index.specs.declared.key_map.Keyed.{Keyed}
use Rattle.dict_index.specs.KeyRoots.{KeyRoots, IsKeyed, IsKeyMap, LacksKey, HasNoneFrom, IsNextFrom}
use Rattle.dict_index.specs.Kept.{IsPlaceOf, IsInRow, HasKeyAt}

module _ (map : KeyRoots) (key place : ℕ) (at : IsPlaceOf map key place) where
  -- where all keys are before it, the map has none from the key on
  pub none_from : length map.rows ≤ place → HasNoneFrom map key
  unfolding IsKeyed
  none_from end = record { none = λ s (i, inside, is). let e = ap (λ (r : Keyed). r.key) is in omega (arith, e, at.before i s (omega arith)) }

  pub lacks_end : length map.rows ≤ place → LacksKey map key
  lacks_end end = record { none = λ r is. let low = (none_from end).none r is in omega (arith, low) }

  module _ (sound : IsKeyMap map) (next : Keyed) (here : IsInRow map place next) where
    -- else the key that stands there is not below it
    from : key ≤ next.key
    from = let e = ap (λ (r : Keyed). r.key) (here.at next) in omega (arith, e, at.behind place next (omega arith) here.within)

    -- and the others from there on are above that one
    above : (s : Keyed) → IsKeyed map s → s.key < next.key → s.key < key
    unfolding IsKeyed
    above s (i, inside, is) less =
        let same = ap (λ (r : Keyed). r.key) is in
        ⊎_elim
        (λ (low : i < place). omega (arith, same, at.before i s low))
        (λ (high : place ≤ i). ⊎_elim
        (λ (behind : place < i). let rises = sound.rising place i s behind inside in let e = ap (λ (r : Keyed). r.key) (here.at s) in omega (arith, same, e, rises))
        (λ (no_behind : i ≤ place).
        let equal : i ≡ place = omega arith in
        let e = ap (λ (r : Keyed). r.key) (sym is ∙ (ap (λ j. get_or map.rows j s) equal ∙ here.at s)) in
        omega (arith, e))
        (cases_lt place i))
        (cases_lt i place)

    pub next_from : IsNextFrom map key next
    next_from = record {
      is = here.is;
      from = from;
      least = λ s is high. ⊎_elim
          (λ (less : s.key < next.key). let low = above s is less in absurd (omega (arith, low)))
          (λ (no_less : next.key ≤ s.key). no_less)
          (cases_lt s.key next.key);
    }

  -- by what stands at the place, if anything does
  pub next_of : IsKeyMap map → (o : Option Keyed) → MatchOption o (length map.rows ≤ place) (IsInRow map place) → MatchOption o (HasNoneFrom map key) (IsNextFrom map key)
  next_of sound None end = none_from end
  next_of sound (Some next) here = next_from sound next here

  pub lacks_other : IsKeyMap map → (found : ℕ) → HasKeyAt map place found → found ≢ key → LacksKey map key
  lacks_other sound found here apart = record {
    none = λ r is same.
        let next : Keyed = record { key = found; root = here.root } in
        let least = (next_from sound next here.is).least r is (omega (arith, same)) in
        let low = (next_from sound next here.is).from in
        apart (omega (arith, same, least, low));
  }

-- a key above all others comes behind them
pub place_above : (map : KeyRoots) (key end : ℕ) → length map.rows ≡ end → HasNoneFrom map key → IsPlaceOf map key end
unfolding IsKeyed
place_above map key end is none = record {
  within = omega arith;
  before = λ i d low. none.none (get_or map.rows i d) (i, omega arith, get_or_default map.rows i (get_or map.rows i d) d (omega arith));
  behind = λ i d high inside. absurd (omega arith);
}

pub lacks_above : (map : KeyRoots) (key : ℕ) → HasNoneFrom map key → LacksKey map key
lacks_above map key none = record { none = λ r is same. let low = none.none r is in omega (arith, low, same) }
