-- Which blocks and roots an open entry may name.
use Rattle.std.proofs.Common.{Option, Some, ◌≡◌, ◌≢◌, ◌⊎◌, ◌↔◌, ℕ, ◌+◌, ◌-◌, ◌/◌, ◌<◌, ◌≤◌, Bool, true, false, List, length, refl, sym, ap, subst, ◌∙◌, arith, inl, inr, ⊎_elim, IsTrue}
use Rattle.defect_search.proofs.Common.{class_capacity, WalEntry, Place, Move, Tables, tables_of, slab_table, Bounds, LiesIn, slab_block, IsValidSlab, IsNewEntry, IsOldEntry, IsOpenPlace, IsOpenMove, IsOpenEntry, bounds_of, IsEntryWord, IsOpenAlone, IsOpenWord, Slab, slab_in, AreSlabs, IsBack}
use Rattle.size_classes.proofs.Spacing.{class_size-least}
use Rattle.image_tables.specs.Updates.{with_open_entry}
use Rattle.heap_model.proofs.Slabbing.{LiesIn-block}
use Rattle.image_reading.specs.Held.{IsNumberAt, HasNoNumber, AreSlabsAt}
use Rattle.defect_search.specs.OpenWords.{IsNewBlock, IsOldBlock, HasNoneMorphing, IsMovable}

-- a block of the slab that begins so many granules before another stands at the address, by its class or by its index table
abbrev pub HasNewBlock : Tables → ℕ → ℕ → ℕ → Type 0
HasNewBlock t last back at = IsBack (λ start. IsNewBlock t start at) last back

abbrev pub HasOldBlock : Tables → ℕ → ℕ → ℕ → ℕ → Type 0
HasOldBlock t last back at place = IsBack (λ start. IsOldBlock t start at place) last back

-- blocks of a slab's class

pub new_of_number : (t : Tables) (start class at number : ℕ) → t.slab start ≡ true → (t.header start).class ≡ class → IsNumberAt start class at number → IsNewBlock t start at
new_of_number t start class at number slab is number_at = record {
  slab = slab;
  number = number;
  below = subst (λ c. number < class_capacity c) (sym is) number_at.below;
  is = number_at.is ∙ ap (λ c. (slab_block start c number).at) (sym is);
}

pub not_new : (t : Tables) (start class at : ℕ) → (t.header start).class ≡ class → HasNoNumber start class at → ¬ (IsNewBlock t start at)
not_new t start class at is none block = none.none block.number (record {
  below = subst (λ c. block.number < class_capacity c) is block.below;
  is = block.is ∙ ap (λ c. (slab_block start c block.number).at) is;
})

-- in which slab a block lies
near_block : (start class number at : ℕ) → class < 36 → number < class_capacity class → at ≡ (slab_block start class number).at → (start ≤ at / 16384) × (at / 16384 < start + 4)
near_block start class number at is_class below is =
    let lies : LiesIn start (slab_block start class number) = LiesIn-block start class (slab_block start class number) (record { number = number; within = below; is = refl }) in
    let size = class_size-least class is_class in
    (omega (arith, lies.low, is), omega (arith, lies.high, size, is))

pub new_none : (words : List ℕ) (at n : ℕ) → AreSlabsAt words → 4 ≤ n → ((d : ℕ) → d < n → ¬ (HasNewBlock (tables_of words) (at / 16384) d at)) → ¬ (IsNewEntry (tables_of words) at)
new_none words at n slabs all none new =
    let t = tables_of words in
    let is : IsValidSlab (t.header new.start) = (slabs.good new.start (sym (slab_table words new.start) ∙ new.slab)).slab in
    let near = near_block new.start (t.header new.start).class new.number at is.state.is_class new.below new.is in
    none (at / 16384 - new.start) (omega (arith, near.0, near.1)) (record { start = new.start; is = omega (arith, near.0); has = record { slab = new.slab; number = new.number; below = new.below; is = new.is } })

pub new_some : (t : Tables) (last back at : ℕ) → HasNewBlock t last back at → IsNewEntry t at
new_some t last back at has = record { start = has.start; number = has.has.number; slab = has.has.slab; below = has.has.below; is = has.has.is }

pub old_none : (words : List ℕ) (at place n : ℕ) → AreSlabsAt words → 4 ≤ n → ((d : ℕ) → d < n → ¬ (HasOldBlock (tables_of words) (at / 16384) d at place)) → ¬ (IsOldEntry (tables_of words) at place)
old_none words at place n slabs all none old =
    let t = tables_of words in
    let is : IsValidSlab (t.header old.start) = (slabs.good old.start (sym (slab_table words old.start) ∙ old.slab)).slab in
    let near = near_block old.start (t.header old.start).old ((t.header old.start).number place) at is.state.is_old_class (is.small place old.below) old.is in
    none (at / 16384 - old.start) (omega (arith, near.0, near.1)) (record { start = old.start; is = omega (arith, near.0); has = record { slab = old.slab; kind = old.kind; below = old.below; is = old.is } })

pub old_some : (t : Tables) (last back at place : ℕ) → HasOldBlock t last back at place → IsOldEntry t at place
old_some t last back at place has = record { start = has.start; slab = has.has.slab; kind = has.has.kind; below = has.has.below; is = has.has.is }

-- slabs that take another class

pub all_but_morphing : (words : List ℕ) (slabs : List Slab) (n : ℕ) → length slabs ≤ n → AreSlabs words slabs → ((i : ℕ) → i < n → ((tables_of words).header (slab_in slabs i).start).kind ≢ 2) → HasNoneMorphing (tables_of words)
all_but_morphing words slabs n all are none_morphing = record {
  none_morphing = λ start slab.
      let found = are.all start (sym (slab_table words start) ∙ slab) in
      subst (λ s. ((tables_of words).header s).kind ≢ 2) found.2 (none_morphing found.0 (omega (arith, found.1)));
}

-- entries

pub new_same : (t : Tables) (e : Option WalEntry) (at : ℕ) → IsNewEntry t at ↔ IsNewEntry (with_open_entry t e) at
new_same t e at = (
  λ n. record { start = n.start; number = n.number; slab = n.slab; below = n.below; is = n.is },
  λ n. record { start = n.start; number = n.number; slab = n.slab; below = n.below; is = n.is },
)

pub old_same : (t : Tables) (e : Option WalEntry) (at place : ℕ) → IsOldEntry t at place ↔ IsOldEntry (with_open_entry t e) at place
old_same t e at place = (
  λ o. record { start = o.start; slab = o.slab; kind = o.kind; below = o.below; is = o.is },
  λ o. record { start = o.start; slab = o.slab; kind = o.kind; below = o.below; is = o.is },
)

pub place_of_block : (b : Bounds) (t : Tables) (root at place : ℕ) (old has : Bool) → root < b.roots → ((t.word root ≡ 0) ⊎ (t.word root ≡ at)) →
    (IsTrue has ↔ (((old ≡ false) × IsNewEntry t at) ⊎ ((old ≡ true) × IsOldEntry t at place))) → (IsTrue has ↔ IsOpenPlace b (with_open_entry t (Some (Place root at old place))) root at old place)
place_of_block b t root at place old has rooted word says = (
  λ e. record {
    rooted = rooted;
    word = word;
    block = ⊎_elim
        (λ (new : (old ≡ false) × IsNewEntry t at). inl (new.0, (new_same t (Some (Place root at old place)) at).0 new.1))
        (λ (was : (old ≡ true) × IsOldEntry t at place). inr (was.0, (old_same t (Some (Place root at old place)) at place).0 was.1))
        (says.0 e);
  },
  λ may. says.1 (⊎_elim
      (λ (new : (old ≡ false) × IsNewEntry (with_open_entry t (Some (Place root at old place))) at). inl (new.0, (new_same t (Some (Place root at old place)) at).1 new.1))
      (λ (was : (old ≡ true) × IsOldEntry (with_open_entry t (Some (Place root at old place))) at place). inr (was.0, (old_same t (Some (Place root at old place)) at place).1 was.1))
      may.block),
)

pub move_of_words : (b : Bounds) (t : Tables) (from to : ℕ) (has : Bool) → from < b.roots → to < b.roots → from ≢ to → (IsTrue has ↔ IsMovable (t.word from) (t.word to)) → (IsTrue has ↔ IsOpenMove b (with_open_entry t (Some (Move from to))) from to)
move_of_words b t from to has low high differ says = (
  λ e. let m = says.0 e in record { low = low; high = high; differ = differ; some = m.some; same = m.same },
  λ may. says.1 (record { some = may.some; same = may.same }),
)

pub open_word : (words : List ℕ) (word : ℕ) (entry : WalEntry) (may : Bool) → IsEntryWord word entry → HasNoneMorphing (tables_of words) → (IsTrue may ↔ IsOpenEntry (bounds_of words) (with_open_entry (tables_of words) (Some entry)) entry) → (IsTrue may ↔ IsOpenWord words word)
open_word words word entry may is none_morphing says =
    let Open : WalEntry → Type 0 = λ e. IsOpenAlone words e in (
      λ e. record { form = is.form; may = subst Open (sym is.says) (record { entry = says.0 e; none_morphing = none_morphing.none_morphing }) },
      λ may. says.1 (let alone : IsOpenAlone words entry = subst Open is.says may.may in alone.entry),
    )

pub some_morphing : (words : List ℕ) (word : ℕ) → ¬ (HasNoneMorphing (tables_of words)) → ¬ (IsOpenWord words word)
some_morphing words word none may = none (record { none_morphing = may.may.none_morphing })
