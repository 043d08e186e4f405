-- Which blocks of a slab's class are unused once one of its blocks comes or goes.
use Rattle.std.proofs.Common.{◌≡◌, ◌≢◌, ◌⊎◌, ◌↔◌, ℕ, None, sym, ap, subst, ◌∙◌, ⊎_elim}
use Rattle.heap_check.proofs.Common.{cases_eq, Tables, Bounds, Range, AreApart, slab_block}
use Rattle.heap_check.specs.Heap.{entry_at, heap, IsClaim, Holds, IsUnusedIn}
use Rattle.heap_check.specs.Sound.{IsSound}
use Rattle.heap_check.proofs.Heaps.{heap-claim, IsClaim-heap}

-- one claim follows from another and back
pub iff_then : {A B C : Type 0} → A ↔ B → B ↔ C → A ↔ C
iff_then one two = (λ a. two.0 (one.0 a), λ c. one.1 (two.1 c))

-- the other way round
pub iff_back : {A B : Type 0} → A ↔ B → B ↔ A
iff_back iff = (iff.1, iff.0)

-- What a slab holds is the same but for one block: a block that is apart from it is unused before and after, or neither.
pub unused_apart : {t new : Tables} {start : ℕ} {block : Range} → ((range : Range) → Holds new start range → Holds t start range ⊎ (range ≡ block)) →
    ((range : Range) → Holds t start range → Holds new start range ⊎ (range ≡ block)) →
    (class number : ℕ) → AreApart block (slab_block start class number) → IsUnusedIn t start class number ↔ IsUnusedIn new start class number
unused_apart {t} {new} {start} {block} back forth class number apart =
    let own : (range : Range) → range ≡ block → AreApart range (slab_block start class number) = λ range is. subst (λ r. AreApart r (slab_block start class number)) (sym is) apart in (
      λ unused. record { each = λ range holds. ⊎_elim (λ was. unused.each range was) (own range) (back range holds) },
      λ unused. record { each = λ range holds. ⊎_elim (λ is. unused.each range is) (own range) (forth range holds) },
    )

-- Once a block went from its root, it is apart from each that a slab holds.
pub unused_freed : {b : Bounds} {t new : Tables} → IsSound b new → new.open_entry ≡ None → t.open_entry ≡ None → (root : ℕ) (block : Range) → heap new root ≡ None → ((other : ℕ) → other ≢ root → heap new other ≡ heap t other) →
    ((other : ℕ) (range : Range) → other ≢ root → IsClaim t other range → AreApart range block) → (start : ℕ) (range : Range) → Holds new start range → AreApart range block
unused_freed {b} {t} {new} sound new_closed closed root block gone others apart start range holds =
    let owner = sound.owned.claimed start range holds in
    let unnamed : entry_at new.open_entry owner.0 ≡ 0 = ap (λ e. entry_at e owner.0) new_closed in
    let named = heap-claim new owner.0 range unnamed owner.1 in
    ⊎_elim
    (λ (own : owner.0 ≡ root). absurd (let none : heap new owner.0 ≡ None = ap (heap new) own ∙ gone in cc))
    (λ (differ : owner.0 ≢ root). apart owner.0 range differ (IsClaim-heap t owner.0 range (ap (λ e. entry_at e owner.0) closed) (sym (others owner.0 differ) ∙ named)))
    (cases_eq owner.0 root)
