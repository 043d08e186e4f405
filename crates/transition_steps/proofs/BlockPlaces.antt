-- The words of a root's block lie in no slab's header, also under an open entry.
use Rattle.std.proofs.Common.{◌≡◌, ◌≢◌, ◌⊎◌, cond, ◌+◌, ◌*◌, ◌/◌, ◌<◌, ◌≤◌, ℕ, Bool, true, false, refl, sym, ap, subst, ◌∙◌, arith, inl, inr, ⊎_elim, Option, Some, None}
use Rattle.transition_steps.proofs.Common.{cases_eq, cases_lt, class_size, class_capacity, WalEntry, Place, Move, Tables, Bounds, Range, slab_block, entry_at, heap, Holds, HoldsBit, HoldsOld, IsInSlab, IsNewEntry, IsOldEntry, IsOpenPlace, IsSound}
use Rattle.size_classes.proofs.Spacing.{class_size-least}
use Rattle.heap_model.proofs.Slabbing.{LiesIn-block}
use Rattle.heap_check.specs.State.{IsWordOf}
use Rattle.heap_check.proofs.Claims.{NamesOnly-some}
use Rattle.heap_check.proofs.Geometry.{granules_at-slab, Covers-slab, is_large-slab, slab_of-here}
use Rattle.heap_check.proofs.Heaps.{heap-none, IsClaim-heap}
use Rattle.heap_check.proofs.Within.{IsWithin, IsWithin-claim}
use Rattle.heap_check.proofs.SmallPlaces.{Holds-claim}
use Rattle.settle_steps.proofs.EntrySlabs.{in_slab_new, in_slab_old}
use Rattle.settle_steps.proofs.OneRoot.{claim_by_entry, heap-claimed}

-- a range lies in one live extent, and behind the header where that is a slab's
pub record IsBlockPlace (t : Tables) (range : Range) : Type 0 where
  pub extent : ℕ
  pub within : IsWithin t extent range
  pub behind : t.slab extent ≡ true → 16384 * extent + 2048 ≤ range.at

behind_header : (t : Tables) (start : ℕ) (range : Range) → Holds t start range → 16384 * start + 2048 ≤ range.at
behind_header t start range holds = ⊎_elim
    (λ (bit : HoldsBit (t.header start) start range). omega (arith, ap (λ (x : Range). x.at) bit.is))
    (λ (old : HoldsOld (t.header start) start range). omega (arith, ap (λ (x : Range). x.at) old.is))
    holds.block

some_word : (t : Tables) (root : ℕ) (range : Range) → heap t root ≡ Some range → t.root root ≢ 0
some_word t root range named none = let nothing = heap-none t root none in cc

module _ {b : Bounds} {t : Tables} (sound : IsSound b t) (root : ℕ) (range : Range) (named : heap t root ≡ Some range) where
  -- where the open entry names another root or none
  unnamed : entry_at t.open_entry root ≡ 0 → IsBlockPlace t range
  unnamed none =
      let claim = IsClaim-heap t root range none named in
      let there = IsWithin-claim sound root range none claim in
      let within = there.1 in
      record {
        extent = there.0;
        within = within;
        behind = λ slab. behind_header t there.0 range
            (Holds-claim sound root there.0 range none claim (record { slab = slab; low = within.low; high = omega (arith, within.high, within.some, granules_at-slab t there.0 slab) }));
      }

  -- where it names the root
  module _ (at : ℕ) (old : Bool) (place : ℕ) (opens : t.open_entry ≡ Some (Place root at old place)) (word : (t.root root ≡ 0) ⊎ (t.root root ≡ at)) where
    by_block : (start class number : ℕ) → IsInSlab t start at → class < 36 → number < class_capacity class → at ≡ (slab_block start class number).at → cond old (t.header start).old (t.header start).class ≡ class → IsBlockPlace t range
    by_block start class number inside below among is of =
        let block : Range = record { at = at; size = class_size (cond old (t.header start).old (t.header start).class) } in
        let least = class_size-least class below in
        let lies = LiesIn-block start class (slab_block start class number) (record { number = number; within = among; is = refl }) in
        let size : class_size (cond old (t.header start).old (t.header start).class) ≡ class_size class = ap class_size of in
        let here = slab_of-here sound start (at / 16384) inside.slab (omega (arith, inside.low)) (omega (arith, inside.high)) in
        let claim = claim_by_entry t root at start place old opens (is_large-slab sound start at inside) here (omega (arith, is)) word in
        let same : block ≡ range = let mine = heap-claimed t root block claim (some_word t root range named) in cc in
        let four = granules_at-slab t start inside.slab in
        subst (IsBlockPlace t) same (record {
          extent = start;
          within = record { low = inside.low; high = omega (arith, lies.high, is, size, four); some = omega (arith, size, least) };
          behind = λ slab. omega (arith, is);
        })

    by_block_of : ((old ≡ false) × IsNewEntry t at) ⊎ ((old ≡ true) × IsOldEntry t at place) → IsBlockPlace t range
    by_block_of block = ⊎_elim
        (λ class.
        let entry = class.1 in
        let valid = sound.slabs entry.start entry.slab in
        by_block entry.start (t.header entry.start).class entry.number (in_slab_new sound at entry) valid.state.is_class entry.below entry.is (ap (λ o. cond o (t.header entry.start).old (t.header entry.start).class) class.0))
        (λ earlier.
        let entry = earlier.1 in
        let valid = sound.slabs entry.start entry.slab in
        by_block entry.start (t.header entry.start).old ((t.header entry.start).number place) (in_slab_old sound at place entry) valid.state.is_old_class (valid.small place entry.below) entry.is
        (ap (λ o. cond o (t.header entry.start).old (t.header entry.start).class) earlier.0))
        block

  by_entry : (e : Option WalEntry) → t.open_entry ≡ e → IsBlockPlace t range
  by_entry None is = unnamed (ap (λ e. entry_at e root) is)
  by_entry (Some (Move from to)) is = unnamed (ap (λ e. entry_at e root) is)
  by_entry (Some (Place other at old place)) is = ⊎_elim
      (λ (same : root ≡ other).
      let opens : t.open_entry ≡ Some (Place root at old place) = is ∙ ap (λ r. Some (Place r at old place)) (sym same) in
      let placed : IsOpenPlace b t root at old place = (sound.owned.open_entry (Place root at old place) opens).entry in
      by_block_of at old place opens placed.word placed.block)
      (λ (differ : root ≢ other). unnamed (ap (λ e. entry_at e root) is ∙ (NamesOnly-some other at old place).others root differ))
      (cases_eq root other)

  pub block_place : IsBlockPlace t range
  block_place = by_entry t.open_entry refl

  -- so its words lie outside each slab's header
  pub word_off_header : (k : ℕ) → IsWordOf range k → (start : ℕ) → t.slab start ≡ true → (k < 2048 * start) ⊎ (2048 * start + 256 ≤ k)
  word_off_header k word start slab =
      let place = block_place in
      let within = place.within in
      ⊎_elim
      (λ (before : k < 2048 * start). inl before)
      (λ (from : 2048 * start ≤ k). ⊎_elim
      (λ (inside : k < 2048 * start + 256).
      absurd (⊎_elim
      (λ (same : place.extent ≡ start). omega (arith, same, place.behind (ap t.slab same ∙ slab), word.low, inside))
      (λ (differ : place.extent ≢ start).
      differ (sound.extents.disjoint place.extent start start
      (record { low = omega (arith, within.low, word.low, inside); high = omega (arith, within.high, word.high, from) })
      (Covers-slab t start start slab (omega arith) (omega arith))))
      (cases_eq place.extent start)))
      (λ (behind : 2048 * start + 256 ≤ k). inr behind)
      (cases_lt k (2048 * start + 256)))
      (cases_lt k (2048 * start))
