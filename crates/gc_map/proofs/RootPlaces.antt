-- Where the blocks of roots lie, root by root.
use Rattle.std.proofs.Common.{◌≡◌, ◌+◌, ◌-◌, ◌<◌, ◌≤◌, ℕ, false, true≢false, List, [], ◌∷◌, ◌++◌, Option, None, Some, sym, ap, ◌∙◌, arith}
use Rattle.std.specs.Prelude.{MatchOption}
use Rattle.image_tables.specs.Tables.{Tables}
use Rattle.gc_map.specs.declared.places.Place.{Place}
use Rattle.gc_map.specs.Places.{HasNoSlabOver, HasNoPlace, IsPlaceOf, IsPlaced, ArePlaces}
use Rattle.gc_map.proofs.Rows.{right_more}

-- no slab begins at a granule or at one of the three before it
pub none_over : (t : Tables) (granule n : ℕ) → 4 ≤ n → ((back : ℕ) → back < n → back ≤ granule → t.slab (granule - back) ≡ false) → HasNoSlabOver t granule
none_over t granule n four none = record {
  none = λ start slab low high.
      let here : granule - (granule - start) ≡ start = omega (arith, low) in
      true≢false (sym slab ∙ sym (ap t.slab here) ∙ none (granule - start) (omega (arith, low, high, four)) (omega (arith, low)));
}

-- a place that a root was found to have, or not to have
pub placed_by : (t : Tables) (root : ℕ) (place : Option Place) → MatchOption place (HasNoPlace t root) (IsPlaceOf t root) → IsPlaced t root place
placed_by t root None is = is
placed_by t root (Some place) is = is

pub places_more : (t : Tables) (n : ℕ) (places new : List (Option Place)) (place : Option Place) → ArePlaces t n places → IsPlaced t n place → new ≡ places ++ place ∷ [] → ArePlaces t (n + 1) new
places_more t n places new place are is more =
    let right = right_more (IsPlaced t) None n places new place (record { all = are.all; each = are.each }) is more in
    record { all = right.all; each = right.each }
