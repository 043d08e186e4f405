-- A small block and its root come and go, under an entry of the root: what the tables say then of blocks and claims.
use Rattle.std.proofs.Common.{◌≡◌, ◌≢◌, ◌⊎◌, ◌==◌, ◌&&◌, ℕ, ◌/◌, ◌<◌, ◌≤◌, Bool, true, false, true≢false, refl, sym, ap, subst, ◌∙◌, arith, inl, inr, ⊎_elim, ltb, Option, Some}
use Rattle.heap_check.proofs.Common.{cases_eq, cond-true, eq-eqb, lt-ltb, and_from, class_size, class_capacity, class_size-least, WalEntry, Place, SlabHeader, Tables, bit_rows, live_rows, Bounds, Range, AreApart, LiesIn, slab_block, LiesIn-block, one_number, put_at, put_in, put_bit, with_small, put_at-same, put_in-same, put_in-other}
use Rattle.heap_model.proofs.Below.{any_below-true}
use Rattle.heap_check.specs.Heap.{slab_of, is_old_of, is_old, size_at, entry_at, IsClaim, Holds, HoldsBit, HoldsOld}
use Rattle.heap_check.specs.Sound.{IsInSlab, IsOpen, IsSound, IsExactBut}
use Rattle.heap_check.proofs.Claims.{NamesOnly-some, plain_size}
use Rattle.heap_check.proofs.Geometry.{Covers-slab, is_large-slab, slab_of-here}
use Rattle.heap_check.proofs.OneBlock.{IsOneBlock}

-- a place in the bitmaps is this one, or differs
pub cases_bit : (start number s i : ℕ) → ((s ≡ start) × (i ≡ number)) ⊎ ((s ≢ start) ⊎ (i ≢ number))
cases_bit start number s i = ⊎_elim
    (λ same. ⊎_elim (λ too. inl (same, too)) (λ differ. inr (inr differ)) (cases_eq i number))
    (λ differ. inr (inl differ))
    (cases_eq s start)

-- the entry of a root's block
abbrev pub small_entry : ℕ → ℕ → WalEntry
small_entry root at = Place root at false 0

-- block `number` of the slab's class
abbrev pub block_in : Tables → ℕ → ℕ → Range
block_in t start number = slab_block start (t.header start).class number

-- A block of a slab's class, in an image that is exact but for the slab: a root has it, or it is free and the root has none;
-- it overlaps no other root's.
pub record IsSmallPlace (b : Bounds) (t : Tables) (root start number : ℕ) : Type 0 where
  pub but : IsExactBut b t start
  pub first : 0 < b.first
  pub rooted : root < b.roots
  pub slab : t.slab start ≡ true
  pub below : number < class_capacity (t.header start).class
  pub no_old : is_old (t.header start) start (block_in t start number).at ≡ false
  pub was : (((t.header start).bit number ≡ false) × (t.root root ≡ 0)) ⊎ (((t.header start).bit number ≡ true) × (t.root root ≡ (block_in t start number).at))
  pub apart : (other : ℕ) (range : Range) → other ≢ root → IsClaim t other range → AreApart range (block_in t start number)

-- what the entry says of its root
pub entry_at-own : (root at : ℕ) → entry_at (Some (small_entry root at)) root ≡ at
entry_at-own root at = cond-true (root == root) at 0 (eq-eqb root root refl)

-- a live old block that a slab holds is seen at its address
pub is_old-held : (h : SlabHeader) (start at : ℕ) (range : Range) → HoldsOld h start range → range.at ≡ at → is_old h start at ≡ true
unfolding is_old_of
is_old-held h start at range old here =
    any_below-true _ h.index_count old.place old.below
    (and_from (h.live old.place) _ old.live (eq-eqb _ at (sym (ap (λ (x : Range). x.at) old.is) ∙ here)))

-- What no place is asked for: the blocks that slabs hold are the same but for this one, whatever the roots and the entry come
-- to be.

module _ (t : Tables) (start number : ℕ) (on : Bool) (word root : ℕ → ℕ) (entry : Option WalEntry) where
  abbrev new : Tables
  new = record (put_bit t start number on) { word = word; root = root; open_entry = entry }

  same_block : (s i : ℕ) → s ≡ start → i ≡ number → block_in t s i ≡ block_in t start number
  same_block s i same too = ap (λ s. slab_block s (t.header s).class i) same ∙ ap (λ i. block_in t start i) too

  pub Holds-unbit : (s : ℕ) (range : Range) → Holds (record (put_bit t start number on) { word = word; root = root; open_entry = entry }) s range → Holds t s range ⊎ (range ≡ block_in t start number)
  Holds-unbit s range holds = ⊎_elim
      (λ (bit : HoldsBit (new.header s) s range). ⊎_elim
      (λ here. inr (bit.is ∙ same_block s bit.number here.0 here.1))
      (λ elsewhere. inl (record {
        slab = holds.slab;
        block = inl (record { number = bit.number; below = bit.below; read = bit.read; set = sym (put_in-other (bit_rows t) start number on s bit.number elsewhere) ∙ bit.set; is = bit.is });
      }))
      (cases_bit start number s bit.number))
      (λ (old : HoldsOld (new.header s) s range). inl (record { slab = holds.slab; block = inr (record { place = old.place; below = old.below; live = old.live; is = old.is }) }))
      holds.block

  pub Holds-bit : (s : ℕ) (range : Range) → Holds t s range → Holds (record (put_bit t start number on) { word = word; root = root; open_entry = entry }) s range ⊎ (range ≡ block_in t start number)
  Holds-bit s range holds = ⊎_elim
      (λ (bit : HoldsBit (t.header s) s range). ⊎_elim
      (λ here. inr (bit.is ∙ same_block s bit.number here.0 here.1))
      (λ elsewhere. inl (record {
        slab = holds.slab;
        block = inl (record { number = bit.number; below = bit.below; read = bit.read; set = put_in-other (bit_rows t) start number on s bit.number elsewhere ∙ bit.set; is = bit.is });
      }))
      (cases_bit start number s bit.number))
      (λ (old : HoldsOld (t.header s) s range). inl (record { slab = holds.slab; block = inr (record { place = old.place; below = old.below; live = old.live; is = old.is }) }))
      holds.block

-- and where one root gets a word
module _ (t : Tables) (start number : ℕ) (on : Bool) (root word : ℕ) (entry : Option WalEntry) where
  pub Holds-back : (s : ℕ) (range : Range) → Holds (with_small t start number on root word entry) s range → Holds t s range ⊎ (range ≡ block_in t start number)
  Holds-back = Holds-unbit t start number on (put_at t.word root word) (put_at t.root root word) entry

  pub Holds-forth : (s : ℕ) (range : Range) → Holds t s range → Holds (with_small t start number on root word entry) s range ⊎ (range ≡ block_in t start number)
  Holds-forth = Holds-bit t start number on (put_at t.word root word) (put_at t.root root word) entry

module _ {b : Bounds} {t : Tables} {root start number : ℕ} (place : IsSmallPlace b t root start number) where
  abbrev block : Range
  block = block_in t start number

  sound : IsSound b t
  sound = place.but.sound

  size_some : 16 ≤ class_size (t.header start).class
  size_some = class_size-least (t.header start).class (sound.slabs start place.slab).state.is_class

  -- the block lies in its slab
  pub IsInSlab-block : IsInSlab t start (block_in t start number).at
  IsInSlab-block =
      let inside = LiesIn-block start (t.header start).class block (record { number = number; within = place.below; is = refl }) in
      record { slab = place.slab; low = inside.low; high = omega (arith, inside.high, size_some) }

  pub block_some : (block_in t start number).at ≢ 0
  block_some none = omega (arith, none)

  in_here : slab_of t.slab (block.at / 16384) ≡ start
  in_here = slab_of-here sound start (block.at / 16384) place.slab (omega (arith, IsInSlab-block.low)) (omega (arith, IsInSlab-block.high))

  -- its size, by the slab
  pub plain_size-block : plain_size t (block_in t start number).at ≡ (block_in t start number).size
  plain_size-block = rw (is_large-slab sound start block.at IsInSlab-block, in_here, place.no_old) refl

  -- and by the entry
  pub size_at-own : (on : Bool) (word : ℕ) →
      size_at (with_small t start number on root word (Some (small_entry root (block_in t start number).at))) root (block_in t start number).at ≡ (block_in t start number).size
  size_at-own on word =
      let own = entry_at-own root block.at in
      let test : ((entry_at (Some (small_entry root block.at)) root == block.at) && ltb 0 block.at) ≡ true = and_from _ _ (eq-eqb _ _ own) (lt-ltb 0 block.at (omega arith)) in
      rw (is_large-slab sound start block.at IsInSlab-block, test, in_here) refl

  -- no other slab has its place
  pub same_slab : (other : ℕ) → IsInSlab t other (block_in t start number).at → other ≡ start
  same_slab other inside = sound.extents.disjoint other start (block.at / 16384)
      (Covers-slab t other (block.at / 16384) inside.slab (omega (arith, inside.low)) (omega (arith, inside.high)))
      (Covers-slab t start (block.at / 16384) place.slab (omega (arith, IsInSlab-block.low)) (omega (arith, IsInSlab-block.high)))

  -- once its bit is clear no slab holds it
  pub unheld : (other word : ℕ) (entry : Option WalEntry) → ¬ (Holds (with_small t start number false root word entry) other (block_in t start number))
  unheld other word entry holds =
      let state = sound.slabs other holds.slab in
      let inside : LiesIn other block → IsInSlab t other block.at = λ lies. record { slab = holds.slab; low = lies.low; high = omega (arith, lies.high, size_some) } in
      ⊎_elim
      (λ (bit : HoldsBit ((with_small t start number false root word entry).header other) other block).
      let same = same_slab other (inside (LiesIn-block other (t.header other).class block (record { number = bit.number; within = bit.below; is = bit.is }))) in
      let here : (block_in t start number).at ≡ (block_in t start bit.number).at = ap (λ (x : Range). x.at) bit.is ∙ ap (λ s. (block_in t s bit.number).at) same in
      let number_is = one_number start (t.header start).class number bit.number (omega (arith, size_some)) here in
      true≢false (sym bit.set ∙ ap (λ s. put_in (bit_rows t) start number false s bit.number) same ∙ ap (λ i. put_in (bit_rows t) start number false start i) (sym number_is) ∙ put_in-same (bit_rows t) start number false))
      (λ (old : HoldsOld ((with_small t start number false root word entry).header other) other block).
      let same = same_slab other (inside (LiesIn-block other (t.header other).old block (record { number = (t.header other).number old.place; within = state.small old.place old.below; is = old.is }))) in
      let was : HoldsOld (t.header other) other block = record { place = old.place; below = old.below; live = old.live; is = old.is } in
      true≢false (sym (is_old-held (t.header start) start block.at block (subst (λ s. HoldsOld (t.header s) s block) same was) refl) ∙ place.no_old))
      holds.block

  -- while no slab takes another class, it is held where its bit is set
  held : (word : ℕ) (entry : Option WalEntry) → Holds (with_small t start number true root word entry) start block
  held word entry = record {
    slab = place.slab;
    block = inl (record { number = number; below = place.below; read = λ kind. place.but.none_morphing start (record { slab = place.slab; kind = kind }); set = put_in-same (bit_rows t) start number true; is = refl });
  }

  -- its entry may be open
  opens : (on : Bool) (word : ℕ) → (word ≡ 0) ⊎ (word ≡ block.at) → IsOpen b (with_small t start number on root word (Some (small_entry root block.at))) (small_entry root block.at)
  opens on word either = record {
    entry = record {
      rooted = place.rooted;
      word = ⊎_elim (λ none. inl (put_at-same t.root root word ∙ none)) (λ has. inr (put_at-same t.root root word ∙ has)) either;
      block = inl (refl, record { start = start; number = number; slab = place.slab; below = place.below; is = refl });
    };
    none_morphing = λ other slab kind. place.but.none_morphing other (record { slab = slab; kind = kind });
  }

  -- so it comes and goes as one block
  pub IsOneBlock-small : IsOneBlock b t (λ on. put_in (bit_rows t) start number on) (λ on. live_rows t) (small_entry root (block_in t start number).at) root start (block_in t start number)
  IsOneBlock-small = record {
    but = place.but;
    first = place.first;
    lies = IsInSlab-block;
    some = block_some;
    wide = omega (arith, size_some);
    was = ⊎_elim (λ none. inl none.1) (λ has. inr (has.1, plain_size-block)) place.was;
    apart = place.apart;
    names = NamesOnly-some root block.at false 0;
    named = entry_at-own root block.at;
    opens = opens;
    sized = size_at-own;
    back = λ on word entry. Holds-back t start number on root word entry;
    forth = λ on word entry. Holds-forth t start number on root word entry;
    held = held;
    unheld = λ word entry other. unheld other word entry;
    sizes = λ on word entry at differ. refl;
    size_held = λ word entry. plain_size-block;
    others = λ on other differ. refl;
  }
