-- One root comes to claim a block, or claims it no more: the image stays sound, also under an open entry of that root.
use Rattle.std.proofs.Common.{◌≡◌, ◌≢◌, ◌⊎◌, ℕ, true, Some, sym, ap, subst, ◌∙◌, inl, inr, ⊎_elim}
use Rattle.heap_check.proofs.Common.{cases_eq, WalEntry, Tables, Bounds, Range, AreApart}
use Rattle.heap_check.specs.Heap.{is_large, entry_at, IsClaim, Holds}
use Rattle.heap_check.specs.Sound.{IsValidSlab, IsOpen, IsHeld, IsStanding, AreExtents, AreFewLoose, IsSound}
use Rattle.heap_check.proofs.Claims.{NamesOnly, plain_size, IsNamed-claim, IsClaim-named}

-- what changes between the tables is the block that a root has before or after; where it has none, the range is empty
pub record IsTouch (b : Bounds) (t new : Tables) (root : ℕ) (block : Range) : Type 0 where
  pub sound : IsSound b t
  -- the open entry names no other root, before and after
  pub entry : NamesOnly t.open_entry root
  pub new_entry : NamesOnly new.open_entry root
  -- the other roots: their words and blocks are the same, and stand
  pub words : (other : ℕ) → other ≢ root → new.root other ≡ t.root other
  pub sizes : (other : ℕ) → other ≢ root → t.root other ≢ 0 → plain_size new (t.root other) ≡ plain_size t (t.root other)
  pub others : (other : ℕ) → other ≢ root → t.root other ≢ 0 → IsStanding t other (t.root other) → IsStanding new other (t.root other)
  pub apart : (other : ℕ) (range : Range) → other ≢ root → IsClaim t other range → AreApart range block
  -- the root: it claims the block or nothing, before and after
  pub own : (range : Range) → IsClaim t root range → range ≡ block
  pub new_own : (range : Range) → IsClaim new root range → range ≡ block
  pub stands : new.root root ≢ 0 → IsStanding new root (new.root root)
  -- what slabs hold
  pub back : (start : ℕ) (range : Range) → Holds new start range → Holds t start range ⊎ (range ≡ block)
  pub held : (start : ℕ) → Holds new start block → IsClaim new root block
  -- what says nothing of claims
  pub extents : AreExtents b new.large new.slab
  pub slabs : (start : ℕ) → new.slab start ≡ true → IsValidSlab (new.header start)
  pub open_entry : (e : WalEntry) → new.open_entry ≡ Some e → IsOpen b new e
  pub loose : AreFewLoose new

-- A root that the entry does not name stands as before, where large extents stay and slabs hold all but a block elsewhere.
pub IsStanding-else : (t new : Tables) (root at : ℕ) (block : Range) → at ≢ 0 → at ≢ block.at → entry_at t.open_entry root ≡ 0 → (is_large t.large at ≡ true → is_large new.large at ≡ true) →
    ((start : ℕ) (range : Range) → Holds t start range → Holds new start range ⊎ (range ≡ block)) → IsStanding t root at → IsStanding new root at
IsStanding-else t new root at block some lone unnamed large forth standing = ⊎_elim
    (λ is. inl (large is))
    (λ rest. inr (⊎_elim
    (λ (held : IsHeld t at). ⊎_elim
    (λ still. inl (record { start = held.start; range = held.range; holds = still; here = held.here }))
    (λ same. absurd (lone (sym held.here ∙ ap (λ (x : Range). x.at) same)))
    (forth held.start held.range held.holds))
    (λ by_entry. absurd (some (sym by_entry ∙ unnamed)))
    rest))
    standing

pub AreApart-swapped : (range another : Range) → AreApart range another → AreApart another range
AreApart-swapped range another apart = ⊎_elim (λ x. inr x) (λ x. inl x) apart

-- a range is its address and its size
pub Range-same : (range : Range) (at size : ℕ) → range.at ≡ at → range.size ≡ size → range ≡ record { at = at; size = size }
Range-same range at size place wide = ap (λ a. record { at = a; size = range.size }) place ∙ ap (λ n. record { at = at; size = n }) wide

module _ {b : Bounds} {t new : Tables} {root : ℕ} {block : Range} (touch : IsTouch b t new root block) where
  -- the claims of the other roots are the same

  pub claims-forth : (other : ℕ) (range : Range) → other ≢ root → IsClaim t other range → IsClaim new other range
  claims-forth other range differ claim =
      let named = IsNamed-claim t other range (touch.entry.others other differ) claim in
      let size = touch.sizes other differ (λ none. named.some (sym named.word ∙ none)) in
      IsClaim-named new other range (touch.new_entry.others other differ) (record {
        some = named.some;
        word = touch.words other differ ∙ named.word;
        wide = ap (λ at. plain_size new at) (sym named.word) ∙ size ∙ ap (λ at. plain_size t at) named.word ∙ named.wide;
      })

  pub claims-back : (other : ℕ) (range : Range) → other ≢ root → IsClaim new other range → IsClaim t other range
  claims-back other range differ claim =
      let named = IsNamed-claim new other range (touch.new_entry.others other differ) claim in
      let word = sym (touch.words other differ) ∙ named.word in
      let size = touch.sizes other differ (λ none. named.some (sym word ∙ none)) in
      IsClaim-named t other range (touch.entry.others other differ) (record {
        some = named.some;
        word = word;
        wide = ap (λ at. plain_size t at) (sym word) ∙ sym size ∙ ap (λ at. plain_size new at) word ∙ named.wide;
      })

  -- they are apart from the root's
  own_apart : (other : ℕ) (range another : Range) → other ≢ root → IsClaim new other range → IsClaim new root another → AreApart range another
  own_apart other range another differ claim mine =
      subst (λ x. AreApart range x) (sym (touch.new_own another mine)) (touch.apart other range differ (claims-back other range differ claim))

  -- the root claims the block that a slab holds
  own_claim : (start : ℕ) (range : Range) → range ≡ block → Holds new start range → (root : ℕ) × IsClaim new root range
  own_claim start range is holds = (root, subst (λ x. IsClaim new root x) (sym is) (touch.held start (subst (λ x. Holds new start x) is holds)))

  rooted : (other : ℕ) → new.root other ≢ 0 → IsStanding new other (new.root other)
  rooted other some = ⊎_elim
      (λ (same : other ≡ root). subst (λ r. IsStanding new r (new.root r)) (sym same) (touch.stands (λ none. some (ap new.root same ∙ none))))
      (λ (differ : other ≢ root).
      let word = touch.words other differ in
      let was : t.root other ≢ 0 = λ none. some (word ∙ none) in
      subst (λ at. IsStanding new other at) (sym word) (touch.others other differ was (touch.sound.owned.rooted other was)))
      (cases_eq other root)

  apart : (one other : ℕ) (range another : Range) → one ≢ other → IsClaim new one range → IsClaim new other another → AreApart range another
  apart one other range another differ first second = ⊎_elim
      (λ (same : one ≡ root).
      let not_it : other ≢ root = λ it. differ (same ∙ sym it) in
      AreApart-swapped another range (own_apart other another range not_it second (subst (λ r. IsClaim new r range) same first)))
      (λ (not_one : one ≢ root). ⊎_elim
      (λ (same : other ≡ root). own_apart one range another not_one first (subst (λ r. IsClaim new r another) same second))
      (λ (neither : other ≢ root). touch.sound.owned.apart one other range another differ (claims-back one range not_one first) (claims-back other another neither second))
      (cases_eq other root))
      (cases_eq one root)

  claimed : (start : ℕ) (range : Range) → Holds new start range → (root : ℕ) × IsClaim new root range
  claimed start range holds = ⊎_elim
      (λ (before : Holds t start range).
      let claim = touch.sound.owned.claimed start range before in
      ⊎_elim
      (λ (same : claim.0 ≡ root). own_claim start range (touch.own range (subst (λ r. IsClaim t r range) same claim.1)) holds)
      (λ (differ : claim.0 ≢ root). (claim.0, claims-forth claim.0 range differ claim.1))
      (cases_eq claim.0 root))
      (λ is. own_claim start range is holds)
      (touch.back start range holds)

  pub IsSound-touched : IsSound b new
  IsSound-touched = record {
    extents = touch.extents;
    slabs = touch.slabs;
    owned = record { open_entry = touch.open_entry; rooted = rooted; apart = apart; claimed = claimed };
    loose = touch.loose;
  }
