-- An exact image has nothing to recover: nothing is stored.
use Rattle.std.proofs.Common.{◌≡◌, ℕ, List, [], ◌++◌, ap, subst, ◌∙◌, ⊎_elim}
use Rattle.recovery_steps.proofs.Common.{tables_of, HasNone, IsSteadyImage, bounds_of, entry_is, IsLooseLarge, IsEmptySlab}
use Rattle.pmem_lines.specs.declared.event.Event.{Event}
use Rattle.pmem_lines.specs.Events.{reading}
use Rattle.heap_check.specs.Image.{IsExactImage}
use Rattle.heap_check.proofs.Blank.{law_of_steady}
use Rattle.recovery_steps.specs.Parts.{Then}
use Rattle.recovery_steps.specs.Recovery.{IsSettling, IsFor, TakesOne, SettlesOpen, FinishesMorphing, DropsLarge, DropsSlab, EndsDone, EndsBesides, Recovers, RecoversSound}

-- nothing is loose in this way
takes_none : {IsLoose : ℕ → Type 0} {taken : ℕ → List Event} {events : List Event} → ((start : ℕ) → ¬ (IsLoose start)) → TakesOne IsLoose taken events → events ≡ []
takes_none {IsLoose} {taken} {events} none takes =
    ⊎_elim (λ (nothing : HasNone IsLoose × (events ≡ [])). nothing.1) (λ (one : IsFor IsLoose taken events). absurd (none one.start one.here)) takes

-- parts of which neither stores anything
then_none : (First Second : List ℕ → List Event → Type 0) (words : List ℕ) → ((events : List Event) → First words events → events ≡ []) → ((events : List Event) → Second words events → events ≡ []) →
    (events : List Event) → Then First Second words events → events ≡ []
then_none First Second words front back events is =
    let none : is.front ≡ [] = front is.front is.first in
    let same : Second words is.back = subst (λ (es : List Event). Second (reading words es) is.back) none is.second in
    is.is ∙ ap (λ (es : List Event). es ++ is.back) none ∙ back is.back same

module _ (words : List ℕ) (exact : IsExactImage words) where
  steady : IsSteadyImage words
  steady = record { formed = exact.formed; steady = law_of_steady (bounds_of words) (tables_of words) exact.exact }

  -- no entry is open
  settles_none : (events : List Event) → SettlesOpen words events → events ≡ []
  settles_none events settles = ⊎_elim (λ closed. closed.1)
      (λ (open_one : IsSettling words events).
      let opened = entry_is words open_one.line open_one.below open_one.entry (record { image = steady; here = open_one.here }) in
      let closed = exact.exact.closed in
      absurd (cc (opened, closed)))
      settles

  no_loose_large : (start : ℕ) → ¬ (IsLooseLarge (tables_of words) start)
  no_loose_large start loose = let named = exact.exact.all_named start loose.live in loose.unnamed named.0 named.1

  no_empty_slab : (start : ℕ) → ¬ (IsEmptySlab (tables_of words) start)
  no_empty_slab start empty = let live = exact.exact.all_live start empty.slab in empty.none live.0 live.1 live.2

  pub recovers_none : (events : List Event) → Recovers words events → events ≡ []
  recovers_none =
      then_none SettlesOpen (Then FinishesMorphing (Then DropsLarge (Then DropsSlab EndsDone))) words settles_none
      (then_none FinishesMorphing (Then DropsLarge (Then DropsSlab EndsDone)) words (λ events. takes_none exact.exact.none_morphing)
      (then_none DropsLarge (Then DropsSlab EndsDone) words (λ events. takes_none no_loose_large)
      (then_none DropsSlab EndsDone words (λ events. takes_none no_empty_slab) (λ events. takes_none exact.exact.none_done))))

  pub recovers_sound_none : (events : List Event) → RecoversSound words events → events ≡ []
  recovers_sound_none = then_none EndsBesides Recovers words (λ events. takes_none (λ start besides. exact.exact.none_done start besides.done)) recovers_none
