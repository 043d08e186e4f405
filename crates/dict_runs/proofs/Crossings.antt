-- What a watch saw of calls of the arena, one after another: the call under way at its event is among them, or all were counted.
use Rattle.std.proofs.Common.{◌≡◌, ◌⊎◌, ℕ, ◌+◌, ◌-◌, ◌<◌, ◌≤◌, true, false, List, [], ◌∷◌, length, Option, Some, None, is_some, refl, sym, ap, ◌∙◌, subst, inl, inr, ⊎_elim, arith, ltb, leb}
use Rattle.dict_runs.proofs.Common.{cases_lt, lt-ltb, le-ltb, le-leb, lt-leb, and_from, and_left, and_right, MatchOption, MatchBool, Stage, total_events, Pair, IsEitherDict}
use Rattle.trace_crashes.specs.Crash.{crash_image}
use Rattle.dict_runs.specs.declared.watching.Watch.{Watch}
use Rattle.dict_runs.specs.Crashes.{IsImageWithin, is_within}
use Rattle.dict_runs.specs.Looks.{HasSeenAll}
use Rattle.dict_runs.specs.Turns.{AllLeave}
use Rattle.dict_runs.specs.Watching.{IsWatched, IsWatchedFrom, HasCounted, HasTaken}

-- what has events is under way where so many are done, and else not
pub within_true : (events event : ℕ) → 0 < events → event ≤ events → is_within events event ≡ true
within_true events event some few = and_from (ltb 0 events) (leb event events) (lt-ltb 0 events some) (le-leb event events few)

pub within_false : (events event : ℕ) → (0 < events → events < event) → is_within events event ≡ false
within_false events event few = ⊎_elim
    (λ (some : 0 < events). and_right (ltb 0 events) (leb event events) (lt-leb event events (few some)))
    (λ (none : events ≤ 0). and_left (ltb 0 events) (leb event events) (le-ltb 0 events none))
    (cases_lt 0 events)

-- all of these calls were counted
pub record HasCountedAll (old : Watch) (stages : List Stage) (new : Watch) : Type 0 where
  pub few : 0 < total_events stages → total_events stages < old.left
  pub seeded : new.seed ≡ old.seed
  pub left : new.left ≡ old.left - total_events stages
  pub image : new.image ≡ None

-- an image within these calls, which is one that a crash there leaves
pub record IsTakenWithin (stages : List Stage) (event seed : ℕ) (image : List ℕ) : Type 0 where
  pub within : IsImageWithin stages event seed image
  pub left : (before behind : List Pair) → AllLeave before behind stages → IsEitherDict before behind image

-- the image was taken within one of them
pub record HasTakenAll (old : Watch) (stages : List Stage) (new : Watch) : Type 0 where
  pub some : 0 < total_events stages
  pub few : old.left ≤ total_events stages
  pub image : MatchOption new.image ⊥ (λ image. IsTakenWithin stages old.left old.seed image.items)

-- what there is satisfies more
more_of : {V : Type 0} (o : Option V) (P Q : V → Type 0) → ((v : V) → P v → Q v) → MatchOption o ⊥ P → MatchOption o ⊥ Q
more_of None P Q more is = is
more_of (Some v) P Q more is = more v is

-- there is something
there_is : {V : Type 0} (o : Option V) (P : V → Type 0) → MatchOption o ⊥ P → is_some o ≡ true
there_is None P is = absurd is
there_is (Some v) P is = refl

-- once the image is taken, the watch stays
seen_more : (old : Watch) (stages : List Stage) (new : Watch) → is_some old.image ≡ true → HasSeenAll IsWatched old stages new → new ≡ old
seen_more old [] new taken seen = seen
seen_more old (stage ∷ stages) new taken seen =
    let same : seen.0 ≡ old = subst (λ b. IsWatchedFrom b old stage seen.0) taken seen.1 in
    seen_more seen.0 stages new (ap (λ (w : Watch). is_some w.image) same ∙ taken) seen.2 ∙ same

-- one call was counted, and then these
counted_then : (old mid new : Watch) (stage : Stage) (stages : List Stage) → HasCounted old stage mid → HasCountedAll mid stages new ⊎ HasTakenAll mid stages new → HasCountedAll old (stage ∷ stages) new ⊎ HasTakenAll old (stage ∷ stages) new
counted_then old mid new stage stages one = ⊎_elim
    (λ rest. inl (record {
      few = λ some. counted_few one rest some;
      seeded = rest.seeded ∙ one.seeded;
      left = let a = rest.left in let b = one.left in omega (arith, a, b);
      image = rest.image;
    }))
    (λ rest. inr (record {
      some = let a = rest.some in omega (arith, a);
      few = taken_few one rest;
      image = more_of new.image (λ image. IsTakenWithin stages mid.left mid.seed image.items) (λ image. IsTakenWithin (stage ∷ stages) old.left old.seed image.items) (λ image is. later one image.items is) rest.image;
    }))
  where
    counted_few : HasCounted old stage mid → HasCountedAll mid stages new → 0 < length stage.events + total_events stages → length stage.events + total_events stages < old.left
    counted_few one rest some = ⊎_elim
        (λ (h : 0 < length stage.events). ⊎_elim
        (λ (k : 0 < total_events stages). let a = one.few h in let b = rest.few k in let c = one.left in omega (arith, a, b, c))
        (λ (k : total_events stages ≤ 0). let a = one.few h in omega (arith, a, k))
        (cases_lt 0 (total_events stages)))
        (λ (h : length stage.events ≤ 0). ⊎_elim
        (λ (k : 0 < total_events stages). let b = rest.few k in let c = one.left in omega (arith, b, c, h))
        (λ (k : total_events stages ≤ 0). absurd (omega (arith, some, h, k)))
        (cases_lt 0 (total_events stages)))
        (cases_lt 0 (length stage.events))

    taken_few : HasCounted old stage mid → HasTakenAll mid stages new → old.left ≤ length stage.events + total_events stages
    taken_few one rest = let a = rest.few in let c = one.left in omega (arith, a, c)

    later : HasCounted old stage mid → (image : List ℕ) → IsTakenWithin stages mid.left mid.seed image → IsTakenWithin (stage ∷ stages) old.left old.seed image
    later one image is = record {
      within =
          let rest : IsImageWithin stages (old.left - length stage.events) old.seed image =
          subst (λ s. IsImageWithin stages (old.left - length stage.events) s image) one.seeded (subst (λ n. IsImageWithin stages n mid.seed image) one.left is.within) in
          subst (λ b. MatchBool b (image ≡ crash_image stage old.left old.seed) (IsImageWithin stages (old.left - length stage.events) old.seed image)) (sym (within_false (length stage.events) old.left one.few)) rest;
      left = λ before behind leaves. is.left before behind leaves.1;
    }

-- the image was taken within the first call
taken_first : (old mid new : Watch) (stage : Stage) (stages : List Stage) → HasTaken old stage mid → new ≡ mid → HasTakenAll old (stage ∷ stages) new
taken_first old mid new stage stages one same = record {
  some = let a = one.some in omega (arith, a);
  few = let a = one.within in omega (arith, a);
  image = subst (λ (w : Watch). MatchOption w.image ⊥ (λ image. IsTakenWithin (stage ∷ stages) old.left old.seed image.items)) (sym same)
      (more_of mid.image _ (λ image. IsTakenWithin (stage ∷ stages) old.left old.seed image.items)
      (λ image is. record {
        within = subst (λ b. MatchBool b (image.items ≡ crash_image stage old.left old.seed) (IsImageWithin stages (old.left - length stage.events) old.seed image.items)) (sym (within_true (length stage.events) old.left one.some one.within)) is.0;
        left = λ before behind leaves. leaves.0.each old.left image.items is.1;
      })
      one.image);
}

-- by what each was
pub seen_all : (old : Watch) (stages : List Stage) (new : Watch) → old.image ≡ None → HasSeenAll IsWatched old stages new → HasCountedAll old stages new ⊎ HasTakenAll old stages new
seen_all old [] new none seen =
    let zero : old.left ≡ old.left - 0 = omega arith in
    inl (record { few = λ some. absurd (omega (arith, some)); seeded = ap (λ (w : Watch). w.seed) seen; left = ap (λ (w : Watch). w.left) seen ∙ zero; image = ap (λ (w : Watch). w.image) seen ∙ none })
seen_all old (stage ∷ stages) new none seen = ⊎_elim
    (λ counted. counted_then old seen.0 new stage stages counted (seen_all seen.0 stages new counted.image seen.2))
    (λ taken. inr (taken_first old seen.0 new stage stages taken (seen_more seen.0 stages new (there_is seen.0.image _ taken.image) seen.2)))
    (subst (λ b. IsWatchedFrom b old stage seen.0) (ap is_some none) seen.1)
