-- An old block and its root go, under an entry of the root: what the tables say then of blocks and claims.
use Rattle.std.proofs.Common.{◌≡◌, ◌≢◌, ◌⊎◌, ◌==◌, ◌&&◌, ℕ, ◌*◌, ◌/◌, ◌<◌, ◌≤◌, Bool, true, false, true≢false, cond, refl, sym, ap, subst, ◌∙◌, arith, inl, inr, ⊎_elim, ltb, Option, Some}
use Rattle.heap_check.proofs.Common.{cond-true, eq-eqb, ne_eqb, and_from, lt-ltb, class_size, class_size-least, WalEntry, Place, morphed_kind, Tables, bit_rows, live_rows, put_at, put_in, put_live, with_old, put_at-same, put_at-other, put_in-same, put_in-other, any_below, Bounds, Range, AreApart, LiesIn, slab_block, LiesIn-block, one_number}
use Rattle.heap_check.specs.Heap.{slab_of, is_old_of, is_large, is_old, size_by, size_at, entry_at, IsClaim, Holds, HoldsBit, HoldsOld}
use Rattle.heap_check.specs.Sound.{IsInSlab, IsValidSlab, IsOpen, IsSound, IsExactBut}
use Rattle.heap_check.proofs.Claims.{NamesOnly-some, plain_size, IsClaim-word}
use Rattle.heap_check.proofs.Geometry.{is_large-slab, slab_of-here, plain_size-some, one_slab}
use Rattle.heap_check.proofs.LiveBlocks.{one_class}
use Rattle.heap_check.proofs.Within.{one_claim}
use Rattle.heap_check.proofs.OneBlock.{IsOneBlock}
use Rattle.heap_check.proofs.Small.{cases_bit, is_old-held}

-- the block of a place of a slab's index table
abbrev pub old_in : Tables → ℕ → ℕ → Range
old_in t start place = slab_block start (t.header start).old ((t.header start).number place)

-- the entry of a root's old block
abbrev pub old_entry : ℕ → ℕ → ℕ → WalEntry
old_entry root at place = Place root at true place

-- the tables with another live bit, roots and open entry
abbrev pub relived : Tables → ℕ → ℕ → Bool → (ℕ → ℕ) → (ℕ → ℕ) → Option WalEntry → Tables
relived t start place on words roots entry = record (put_live t start place on) { word = words; root = roots; open_entry = entry }

and_none : (b : Bool) → (b && false) ≡ false
and_none true = refl
and_none false = refl

-- what no place is asked for: the blocks that slabs hold are the same but for this one

module _ (t : Tables) (start place : ℕ) (on : Bool) (words roots : ℕ → ℕ) (entry : Option WalEntry) where
  same_block : (s p : ℕ) → s ≡ start → p ≡ place → old_in t s p ≡ old_in t start place
  same_block s p same too = ap (λ s. old_in t s p) same ∙ ap (λ p. old_in t start p) too

  pub Holds-relived_back : (s : ℕ) (range : Range) → Holds (relived t start place on words roots entry) s range → Holds t s range ⊎ (range ≡ old_in t start place)
  Holds-relived_back s range holds = ⊎_elim
      (λ (bit : HoldsBit ((relived t start place on words roots entry).header s) s range).
      inl (record { slab = holds.slab; block = inl (record { number = bit.number; below = bit.below; read = bit.read; set = bit.set; is = bit.is }) }))
      (λ (old : HoldsOld ((relived t start place on words roots entry).header s) s range). ⊎_elim
      (λ at. inr (old.is ∙ same_block s old.place at.0 at.1))
      (λ elsewhere. inl (record {
        slab = holds.slab;
        block = inr (record { place = old.place; below = old.below; live = sym (put_in-other (live_rows t) start place on s old.place elsewhere) ∙ old.live; is = old.is });
      }))
      (cases_bit start place s old.place))
      holds.block

  pub Holds-relived : (s : ℕ) (range : Range) → Holds t s range → Holds (relived t start place on words roots entry) s range ⊎ (range ≡ old_in t start place)
  Holds-relived s range holds = ⊎_elim
      (λ (bit : HoldsBit (t.header s) s range). inl (record { slab = holds.slab; block = inl (record { number = bit.number; below = bit.below; read = bit.read; set = bit.set; is = bit.is }) }))
      (λ (old : HoldsOld (t.header s) s range). ⊎_elim
      (λ at. inr (old.is ∙ same_block s old.place at.0 at.1))
      (λ elsewhere. inl (record {
        slab = holds.slab;
        block = inr (record { place = old.place; below = old.below; live = put_in-other (live_rows t) start place on s old.place elsewhere ∙ old.live; is = old.is });
      }))
      (cases_bit start place s old.place))
      holds.block

  -- a live bit says nothing of old blocks at another address
  pub is_old-elsewhere : (s at : ℕ) → at ≢ (old_in t start place).at → is_old ((relived t start place on words roots entry).header s) s at ≡ is_old (t.header s) s at
  unfolding is_old_of
  is_old-elsewhere s at differ =
      let there : ℕ → Bool = λ p. (old_in t s p).at == at in
      let each : (p : ℕ) → (put_in (live_rows t) start place on s p && there p) ≡ ((t.header s).live p && there p) = λ p. ⊎_elim
      (λ here.
      let none : there p ≡ false = ne_eqb (old_in t s p).at at (λ e. differ (sym e ∙ ap (λ (x : Range). x.at) (same_block s p here.0 here.1))) in
      ap (λ b. put_in (live_rows t) start place on s p && b) none ∙ and_none (put_in (live_rows t) start place on s p) ∙ sym (and_none ((t.header s).live p)) ∙ ap (λ b. (t.header s).live p && b) (sym none))
      (λ elsewhere. ap (λ b. b && there p) (put_in-other (live_rows t) start place on s p elsewhere))
      (cases_bit start place s p) in
      ap (λ (test : ℕ → Bool). any_below test (t.header s).index_count) (λ i p. each p i)

  -- nor of the sizes there
  pub plain_size-elsewhere : (at : ℕ) → at ≢ (old_in t start place).at → plain_size (relived t start place on words roots entry) at ≡ plain_size t at
  plain_size-elsewhere at differ = ap (λ of_old. cond (is_large t.large at) (16384 * t.large (at / 16384)) (size_by t at of_old)) (is_old-elsewhere (slab_of t.slab (at / 16384)) at differ)

-- an old block of a slab that took another class
module _ {b : Bounds} {t : Tables} (sound : IsSound b t) (start place : ℕ) (slab : t.slab start ≡ true) (morphed : (t.header start).kind ≡ morphed_kind) (below : place < (t.header start).index_count) where
  abbrev block : Range
  block = old_in t start place

  valid : IsValidSlab (t.header start)
  valid = sound.slabs start slab

  -- has bytes
  pub old_some : 16 ≤ (old_in t start place).size
  old_some = class_size-least (t.header start).old valid.state.is_old_class

  -- lies in it
  pub IsInSlab-old : IsInSlab t start (old_in t start place).at
  IsInSlab-old =
      let lies = LiesIn-block start (t.header start).old block (record { number = (t.header start).number place; within = valid.small place below; is = refl }) in
      record { slab = slab; low = lies.low; high = omega (arith, lies.high, old_some) }

  pub old_large : is_large t.large (old_in t start place).at ≡ false
  old_large = is_large-slab sound start block.at IsInSlab-old

  pub old_here : slab_of t.slab ((old_in t start place).at / 16384) ≡ start
  old_here = slab_of-here sound start (block.at / 16384) slab (omega (arith, IsInSlab-old.low)) (omega (arith, IsInSlab-old.high))

  module _ (words roots : ℕ → ℕ) (entry : Option WalEntry) where
    -- is held while its live bit is set
    pub HoldsOld-live : HoldsOld ((relived t start place true words roots entry).header start) start (old_in t start place)
    HoldsOld-live = record { place = place; below = below; live = put_in-same (live_rows t) start place true; is = refl }

    -- and then the slab says its size
    pub plain_size-live : plain_size (relived t start place true words roots entry) (old_in t start place).at ≡ (old_in t start place).size
    plain_size-live = rw (old_large, old_here, is_old-held ((relived t start place true words roots entry).header start) start block.at block HoldsOld-live refl) refl

    -- while it is clear no slab holds it
    pub unheld-dead : (other : ℕ) → ¬ (Holds (relived t start place false words roots entry) other (old_in t start place))
    unheld-dead other holds =
        let state = sound.slabs other holds.slab in
        let within : LiesIn other block → other ≡ start = λ lies. one_slab sound other start block.at (record { slab = holds.slab; low = lies.low; high = omega (arith, lies.high, old_some) }) IsInSlab-old in
        ⊎_elim
        (λ (bit : HoldsBit ((relived t start place false words roots entry).header other) other block).
        let same = within (LiesIn-block other (t.header other).class block (record { number = bit.number; within = bit.below; is = bit.is })) in
        let size : class_size (t.header start).old ≡ class_size (t.header start).class = ap (λ (x : Range). x.size) bit.is ∙ ap (λ s. class_size (t.header s).class) same in
        valid.state.differ (λ normal. omega (arith, normal, morphed)) (one_class (t.header start).old (t.header start).class valid.state.is_old_class valid.state.is_class size))
        (λ (old : HoldsOld ((relived t start place false words roots entry).header other) other block).
        let same = within (LiesIn-block other (t.header other).old block (record { number = (t.header other).number old.place; within = state.small old.place old.below; is = old.is })) in
        let at : block.at ≡ (old_in t start old.place).at = ap (λ (x : Range). x.at) old.is ∙ ap (λ s. (old_in t s old.place).at) same in
        let number_is = one_number start (t.header start).old ((t.header start).number place) ((t.header start).number old.place) (omega (arith, old_some)) at in
        let place_is : place ≡ old.place = valid.once place old.place below (subst (λ s. old.place < (t.header s).index_count) same old.below) number_is in
        true≢false (sym old.live ∙ ap (λ s. put_in (live_rows t) start place false s old.place) same ∙ ap (λ p. put_in (live_rows t) start place false start p) (sym place_is) ∙ put_in-same (live_rows t) start place false))
        holds.block

-- A live old block that a root has, in an image that is exact but for its slab.
pub record IsOldPlace (b : Bounds) (t : Tables) (root start place : ℕ) : Type 0 where
  pub but : IsExactBut b t start
  pub first : 0 < b.first
  pub rooted : root < b.roots
  pub slab : t.slab start ≡ true
  pub kind : (t.header start).kind ≡ morphed_kind
  pub below : place < (t.header start).index_count
  pub live : (t.header start).live place ≡ true
  pub named : t.root root ≡ (old_in t start place).at

module _ {b : Bounds} {t : Tables} {root start place : ℕ} (is : IsOldPlace b t root start place) where
  abbrev block_is : Range
  block_is = old_in t start place

  sound_is : IsSound b t
  sound_is = is.but.sound

  unnamed : (other : ℕ) → entry_at t.open_entry other ≡ 0
  unnamed other = ap (λ e. entry_at e other) is.but.closed

  lies : IsInSlab t start block_is.at
  lies = IsInSlab-old sound_is start place is.slab is.kind is.below

  wide : 16 ≤ block_is.size
  wide = old_some sound_is start place is.slab is.kind is.below

  holds_old : HoldsOld (t.header start) start block_is
  holds_old = record { place = place; below = is.below; live = is.live; is = refl }

  -- the slab says its size
  size : plain_size t block_is.at ≡ block_is.size
  size = rw (old_large sound_is start place is.slab is.kind is.below, old_here sound_is start place is.slab is.kind is.below, is_old-held (t.header start) start block_is.at block_is holds_old refl) refl

  -- every other root's block is apart from it
  apart : (other : ℕ) (range : Range) → other ≢ root → IsClaim t other range → AreApart range block_is
  apart other range differ claim =
      let owner = sound_is.owned.claimed start block_is (record { slab = is.slab; block = inr holds_old }) in
      let mine = IsClaim-word t root (unnamed root) (λ none. omega (arith, none, is.named)) in
      let some = plain_size-some sound_is start (t.root root) (subst (IsInSlab t start) (sym is.named) lies) in
      let same : root ≡ owner.0 = one_claim sound_is root owner.0 _ block_is mine owner.1 is.named some (omega (arith, wide)) in
      sound_is.owned.apart other owner.0 range block_is (λ it. differ (it ∙ sym same)) claim owner.1

  -- its entry may be open
  opens : (on : Bool) (word : ℕ) → (word ≡ 0) ⊎ (word ≡ block_is.at) → IsOpen b (with_old t start place on root word (Some (old_entry root block_is.at place))) (old_entry root block_is.at place)
  opens on word either = record {
    entry = record {
      rooted = is.rooted;
      word = ⊎_elim (λ none. inl (put_at-same t.root root word ∙ none)) (λ has. inr (put_at-same t.root root word ∙ has)) either;
      block = inr (refl, record { start = start; slab = is.slab; kind = is.kind; below = is.below; is = refl });
    };
    none_morphing = λ other slab kind. is.but.none_morphing other (record { slab = slab; kind = kind });
  }

  own_at : entry_at (Some (old_entry root block_is.at place)) root ≡ block_is.at
  own_at = cond-true (root == root) block_is.at 0 (eq-eqb root root refl)

  -- and it says the size
  sized : (on : Bool) (word : ℕ) → size_at (with_old t start place on root word (Some (old_entry root block_is.at place))) root block_is.at ≡ block_is.size
  sized on word =
      let test : ((entry_at (Some (old_entry root block_is.at place)) root == block_is.at) && ltb 0 block_is.at) ≡ true = and_from _ _ (eq-eqb _ _ own_at) (lt-ltb 0 block_is.at (omega arith)) in
      rw (old_large sound_is start place is.slab is.kind is.below, test, old_here sound_is start place is.slab is.kind is.below) refl

  -- so it comes and goes as one block
  pub IsOneBlock-old : IsOneBlock b t (λ on. bit_rows t) (λ on. put_in (live_rows t) start place on) (old_entry root (old_in t start place).at place) root start (old_in t start place)
  IsOneBlock-old = record {
    but = is.but;
    first = is.first;
    lies = lies;
    some = λ none. omega (arith, none);
    wide = omega (arith, wide);
    was = inr (is.named, size);
    apart = apart;
    names = NamesOnly-some root block_is.at true place;
    named = own_at;
    opens = opens;
    sized = sized;
    back = λ on word entry. Holds-relived_back t start place on (put_at t.word root word) (put_at t.root root word) entry;
    forth = λ on word entry. Holds-relived t start place on (put_at t.word root word) (put_at t.root root word) entry;
    held = λ word entry. record { slab = is.slab; block = inr (HoldsOld-live sound_is start place is.slab is.kind is.below (put_at t.word root word) (put_at t.root root word) entry) };
    unheld = λ word entry. unheld-dead sound_is start place is.slab is.kind is.below (put_at t.word root word) (put_at t.root root word) entry;
    sizes = λ on word entry. plain_size-elsewhere t start place on (put_at t.word root word) (put_at t.root root word) entry;
    size_held = λ word entry. plain_size-live sound_is start place is.slab is.kind is.below (put_at t.word root word) (put_at t.root root word) entry;
    others = λ on other differ. other_row other on differ;
  }
    where
      other_row : (other : ℕ) (on : Bool) → other ≢ start → put_in (live_rows t) start place on other ≡ (t.header other).live
      other_row other on differ = put_at-other (live_rows t) start other _ differ
