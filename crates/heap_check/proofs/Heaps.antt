-- The block that the heap of an image has for a root that the open entry does not name.
use Rattle.std.proofs.Common.{◌≡◌, ◌≢◌, ◌==◌, ℕ, ◌*◌, ◌/◌, true, false, true≢false, sym, ap, subst, ◌∙◌, ⊎_elim, Some, None}
use Rattle.heap_check.proofs.Common.{cases_eq, cond-true, cond-false, eq-eqb, ne_eqb, Tables, Bounds, Range}
use Rattle.heap_check.specs.Heap.{is_large, size_at, entry_at, heap, IsClaim}
use Rattle.heap_check.specs.Sound.{IsHeld, IsSound}
use Rattle.heap_check.proofs.Claims.{plain_size, size_at-unnamed, IsNamed-claim, IsClaim-word}
use Rattle.heap_check.proofs.Geometry.{plain_size-large}

pub heap-none : (t : Tables) (root : ℕ) → t.root root ≡ 0 → heap t root ≡ None
heap-none t root none = cond-true (t.root root == 0) None _ (eq-eqb (t.root root) 0 none)

pub heap-some : (t : Tables) (root : ℕ) → entry_at t.open_entry root ≡ 0 → t.root root ≢ 0 → heap t root ≡ Some (record { at = t.root root; size = plain_size t (t.root root) })
heap-some t root unnamed some =
    cond-false (t.root root == 0) None (Some (record { at = t.root root; size = size_at t root (t.root root) })) (ne_eqb (t.root root) 0 some)
    ∙ ap (λ size. Some (record { at = t.root root; size = size })) (size_at-unnamed t root (t.root root) unnamed)

-- the same word and size, the same block
pub heap-same : (t new : Tables) (root : ℕ) → entry_at t.open_entry root ≡ 0 → entry_at new.open_entry root ≡ 0 → new.root root ≡ t.root root → (t.root root ≢ 0 → plain_size new (t.root root) ≡ plain_size t (t.root root)) → heap new root ≡ heap t root
heap-same t new root unnamed new_unnamed word size = ⊎_elim
    (λ (none : t.root root ≡ 0). heap-none new root (word ∙ none) ∙ sym (heap-none t root none))
    (λ (some : t.root root ≢ 0).
    heap-some new root new_unnamed (λ none. some (sym word ∙ none))
    ∙ ap (λ at. Some (record { at = at; size = plain_size new at })) word
    ∙ ap (λ size. Some (record { at = t.root root; size = size })) (size some)
    ∙ sym (heap-some t root unnamed some))
    (cases_eq (t.root root) 0)

-- a block of the heap is its root's claim
pub IsClaim-heap : (t : Tables) (root : ℕ) (range : Range) → entry_at t.open_entry root ≡ 0 → heap t root ≡ Some range → IsClaim t root range
IsClaim-heap t root range unnamed named = ⊎_elim
    (λ (none : t.root root ≡ 0). absurd (let nothing = heap-none t root none in cc))
    (λ (some : t.root root ≢ 0).
    let block = heap-some t root unnamed some in
    let same : record { at = t.root root; size = plain_size t (t.root root) } ≡ range = cc in
    subst (λ x. IsClaim t root x) same (IsClaim-word t root unnamed some))
    (cases_eq (t.root root) 0)

-- and a claim is its root's block of the heap
pub heap-claim : (t : Tables) (root : ℕ) (range : Range) → entry_at t.open_entry root ≡ 0 → IsClaim t root range → heap t root ≡ Some range
heap-claim t root range unnamed claim =
    let named = IsNamed-claim t root range unnamed claim in
    heap-some t root unnamed (λ none. named.some (sym named.word ∙ none))
    ∙ ap (λ at. Some (record { at = at; size = plain_size t at })) named.word
    ∙ ap (λ size. Some (record { at = range.at; size = size })) named.wide

-- the block of a large extent
pub heap-large : (t : Tables) (root : ℕ) → entry_at t.open_entry root ≡ 0 → t.root root ≢ 0 → is_large t.large (t.root root) ≡ true →
    heap t root ≡ Some (record { at = t.root root; size = 16384 * t.large (t.root root / 16384) })
heap-large t root unnamed some large = heap-some t root unnamed some ∙ ap (λ size. Some (record { at = t.root root; size = size })) (plain_size-large t (t.root root) large)

-- where no slab is live, each word is the start of a large extent
pub is_large-rooted : {b : Bounds} {t : Tables} → IsSound b t → t.open_entry ≡ None → ((start : ℕ) → t.slab start ≡ false) → (root : ℕ) → t.root root ≢ 0 → is_large t.large (t.root root) ≡ true
is_large-rooted {b} {t} sound closed no_slab root some = ⊎_elim
    (λ large. large)
    (λ rest. absurd (⊎_elim
    (λ (held : IsHeld t (t.root root)). true≢false (sym held.holds.slab ∙ no_slab held.start))
    (λ by_entry. some (sym by_entry ∙ ap (λ e. entry_at e root) closed))
    rest))
    (sound.owned.rooted root some)

-- so each root has the block of a large extent or none
pub heap-no_slab : {b : Bounds} {t : Tables} → IsSound b t → t.open_entry ≡ None → ((start : ℕ) → t.slab start ≡ false) → (root : ℕ) → t.root root ≢ 0 →
    heap t root ≡ Some (record { at = t.root root; size = 16384 * t.large (t.root root / 16384) })
heap-no_slab {b} {t} sound closed no_slab root some = heap-large t root (ap (λ e. entry_at e root) closed) some (is_large-rooted sound closed no_slab root some)
