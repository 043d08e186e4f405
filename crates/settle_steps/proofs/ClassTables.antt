-- The bit of the open entry's block, one of its slab's class, becomes what the root says, and then the entry is closed:
-- what the tables say at each stage.
use Rattle.std.proofs.Common.{◌≡◌, ◌≢◌, ◌⊎◌, ◌==◌, ℕ, ◌/◌, ◌<◌, ◌≤◌, Bool, true, false, true≢false, refl, sym, ap, subst, ◌∙◌, arith, inl, inr, ⊎_elim, Option, Some, None}
use Rattle.settle_steps.proofs.Common.{cases_eq, eq-eqb, ne_eqb, false_from_ne_true, class_size, class_capacity, class_size-least, WalEntry, Place, Tables, bit_rows, live_rows, put_in, put_in-same, Bounds, Range, LiesIn, slab_block, slab_of, is_large, is_old, entry_at, IsClaim, Holds, HoldsBit, HoldsOld, IsInSlab, IsOpen, IsOpenPlace, IsStanding, IsNearlyDone, IsSound, IsSteady, NamesOnly, NamesOnly-none, NamesOnly-some, plain_size, IsClaim-named, is_large-slab, slab_of-here, one_slab, Holds-unbit, Holds-bit, small_entry, block_in, entry_at-own, is_old-held}
use Rattle.heap_model.proofs.Slabbing.{LiesIn-block, one_number}
use Rattle.settle_steps.proofs.OneRoot.{changed, claim_by_entry, IsSettling}
use Rattle.heap_check.proofs.LiveBlocks.{old_seen, one_class}

-- with the entry open the bit is any; with none it is what the root says
pub record IsBitStage (t : Tables) (root at : ℕ) (on : Bool) (entry : Option WalEntry) : Type 0 where
  pub is : (entry ≡ Some (small_entry root at)) ⊎ ((entry ≡ None) × (on ≡ (t.root root == at)))

module _ {b : Bounds} {t : Tables} (root start number : ℕ) (steady : IsSteady b t) (opens : t.open_entry ≡ Some (small_entry root (block_in t start number).at)) (slab : t.slab start ≡ true) (below : number < class_capacity (t.header start).class) where
  abbrev block : Range
  block = block_in t start number

  sound : IsSound b t
  sound = steady.sound

  opened : IsOpen b t (small_entry root block.at)
  opened = sound.owned.open_entry (small_entry root block.at) opens

  placed : IsOpenPlace b t root block.at false 0
  placed = opened.entry

  size_some : 16 ≤ class_size (t.header start).class
  size_some = class_size-least (t.header start).class (sound.slabs start slab).state.is_class

  inside : IsInSlab t start block.at
  inside =
      let lies = LiesIn-block start (t.header start).class block (record { number = number; within = below; is = refl }) in
      record { slab = slab; low = lies.low; high = omega (arith, lies.high, size_some) }

  some : 0 < block.at
  some = omega arith

  no_large : is_large t.large block.at ≡ false
  no_large = is_large-slab sound start block.at inside

  here : slab_of t.slab (block.at / 16384) ≡ start
  here = slab_of-here sound start (block.at / 16384) slab (omega (arith, inside.low)) (omega (arith, inside.high))

  claim : IsClaim t root block
  claim = claim_by_entry t root block.at start 0 false opens no_large here some placed.word

  -- a live old block there would be of another size, and the root's too
  no_old : is_old (t.header start) start block.at ≡ false
  no_old = false_from_ne_true (is_old (t.header start) start block.at) (λ is.
      let seen = old_seen (t.header start) start block.at is in
      let old = slab_block start (t.header start).old ((t.header start).number seen.0) in
      let owner = sound.owned.claimed start old (record { slab = slab; block = inr (record { place = seen.0; below = seen.1; live = seen.2; is = refl }) }) in
      let state = (sound.slabs start slab).state in
      let old_some = class_size-least (t.header start).old state.is_old_class in
      let same_size : class_size (t.header start).old ≡ class_size (t.header start).class = ⊎_elim
      (λ (same : owner.0 ≡ root). let its : IsClaim t root old = subst (λ r. IsClaim t r old) same owner.1 in owner_size old its seen.3)
      (λ (differ : owner.0 ≢ root). absurd (⊎_elim (λ x. omega (arith, x, seen.3, old_some)) (λ x. omega (arith, x, seen.3, size_some)) (sound.owned.apart owner.0 root old block differ owner.1 claim)))
      (cases_eq owner.0 root) in
      state.differ (λ normal. omega (arith, seen.1, (state.none normal).1)) (one_class (t.header start).old (t.header start).class state.is_old_class state.is_class same_size))
    where
      owner_size : (range : Range) → IsClaim t root range → range.at ≡ block.at → range.size ≡ block.size
      owner_size range its at = sym its.wide ∙ claim.wide

  plain_size-block : plain_size t block.at ≡ block.size
  plain_size-block = rw (no_large, here, no_old) refl

  module _ (on : Bool) (entry : Option WalEntry) (stage : IsBitStage t root (block_in t start number).at on entry) where
    abbrev new : Tables
    new = changed t (put_in (bit_rows t) start number on) (live_rows t) entry

    back : (s : ℕ) (range : Range) → Holds new s range → Holds t s range ⊎ (range ≡ block)
    back = Holds-unbit t start number on t.word t.root entry

    forth : (s : ℕ) (range : Range) → Holds t s range → Holds new s range ⊎ (range ≡ block)
    forth = Holds-bit t start number on t.word t.root entry

    -- where the bit is clear no slab holds the block
    unheld : on ≡ false → (other : ℕ) → ¬ (Holds new other block)
    unheld clear other holds =
        let state = sound.slabs other holds.slab in
        let within : LiesIn other block → other ≡ start = λ lies. one_slab sound other start block.at (record { slab = holds.slab; low = lies.low; high = omega (arith, lies.high, size_some) }) inside in
        ⊎_elim
        (λ (bit : HoldsBit (new.header other) other block).
        let same = within (LiesIn-block other (t.header other).class block (record { number = bit.number; within = bit.below; is = bit.is })) in
        let at : block.at ≡ (block_in t start bit.number).at = ap (λ (x : Range). x.at) bit.is ∙ ap (λ s. (block_in t s bit.number).at) same in
        let number_is = one_number start (t.header start).class number bit.number (omega (arith, size_some)) at in
        true≢false (sym bit.set ∙ ap (λ s. put_in (bit_rows t) start number on s bit.number) same ∙ ap (λ i. put_in (bit_rows t) start number on start i) (sym number_is) ∙ put_in-same (bit_rows t) start number on ∙ clear))
        (λ (old : HoldsOld (new.header other) other block).
        let same = within (LiesIn-block other (t.header other).old block (record { number = (t.header other).number old.place; within = state.small old.place old.below; is = old.is })) in
        let was : HoldsOld (t.header other) other block = record { place = old.place; below = old.below; live = old.live; is = old.is } in
        true≢false (sym (is_old-held (t.header start) start block.at block (subst (λ s. HoldsOld (t.header s) s block) same was) refl) ∙ no_old))
        holds.block

    own : IsClaim new root block ⊎ ((t.root root ≡ 0) × (entry_at entry root ≡ 0) × ((s : ℕ) → ¬ (Holds new s block)))
    own = ⊎_elim
        (λ still. inl (claim_by_entry new root block.at start 0 false still no_large here some placed.word))
        (λ shut.
        let unnamed : entry_at entry root ≡ 0 = ap (λ e. entry_at e root) shut.0 in
        ⊎_elim
        (λ (none : t.root root ≡ 0). inr (none, unnamed, unheld (shut.1 ∙ ne_eqb (t.root root) block.at (λ has. omega (arith, none, has, some)))))
        (λ (has : t.root root ≡ block.at). inl (IsClaim-named new root block unnamed (record { some = λ none. omega (arith, none, some); word = has; wide = plain_size-block })))
        placed.word)
        stage.is

    stands : t.root root ≢ 0 → IsStanding new root (t.root root)
    stands word =
        let has : t.root root ≡ block.at = ⊎_elim (λ none. absurd (word none)) (λ has. has) placed.word in
        ⊎_elim
        (λ still. inr (inr (ap (λ e. entry_at e root) still ∙ entry_at-own root block.at ∙ sym has)))
        (λ shut. inr (inl (record {
          start = start;
          range = block;
          holds = record {
            slab = slab;
            block = inl (record { number = number; below = below; read = opened.none_morphing start slab; set = put_in-same (bit_rows t) start number on ∙ shut.1 ∙ eq-eqb (t.root root) block.at has; is = refl });
          };
          here = sym has;
        })))
        stage.is

    open_entry : (e : WalEntry) → entry ≡ Some e → IsOpen b new e
    open_entry e is = ⊎_elim
        (λ still.
        let same : small_entry root block.at ≡ e = cc in
        subst (IsOpen b new) same (record {
          entry = record { rooted = placed.rooted; word = placed.word; block = inl (refl, record { start = start; number = number; slab = slab; below = below; is = refl }) };
          none_morphing = opened.none_morphing;
        }))
        (λ shut. absurd (let none = shut.0 in cc))
        stage.is

    no_old_entry : (r at p : ℕ) → entry ≢ Some (Place r at true p)
    no_old_entry r at p is = ⊎_elim (λ still. cc) (λ shut. let none = shut.0 in cc) stage.is

    nearly : (s : ℕ) → IsNearlyDone new s → IsNearlyDone t s
    nearly s done = record {
      slab = done.slab;
      kind = done.kind;
      none = λ at under live. let by_entry = done.none at under live in absurd (no_old_entry by_entry.root _ at by_entry.entry);
    }

    new_names : NamesOnly entry root
    new_names = ⊎_elim (λ still. subst (λ e. NamesOnly e root) (sym still) (NamesOnly-some root block.at false 0)) (λ shut. NamesOnly-none entry root shut.0) stage.is

    pub IsSettling-bit : IsSettling b t (put_in (bit_rows t) start number on) (live_rows t) entry root (block_in t start number)
    IsSettling-bit = record {
      steady = steady;
      names = subst (λ e. NamesOnly e root) (sym opens) (NamesOnly-some root block.at false 0);
      new_names = new_names;
      claim = claim;
      wide = omega (arith, size_some);
      some_size = omega (arith, plain_size-block, size_some);
      own = own;
      stands = stands;
      sizes = λ at differ. refl;
      back = back;
      forth = forth;
      open_entry = open_entry;
      nearly = nearly;
    }
