-- The live bit of the open entry's block, an old one of its slab, becomes what the root says, and then the entry is
-- closed: what the tables say at each stage.
use Rattle.std.proofs.Common.{◌≡◌, ◌≢◌, ◌⊎◌, ◌==◌, ℕ, ◌/◌, ◌<◌, ◌≤◌, Bool, true, false, refl, sym, ap, subst, ◌∙◌, arith, inl, inr, ⊎_elim, Option, Some, None}
use Rattle.settle_steps.proofs.Common.{eq-eqb, ne_eqb, class_size, WalEntry, Place, morphed_kind, Tables, bit_rows, live_rows, put_in, put_in-same, put_in-other, Bounds, Range, slab_of, is_large, entry_at, IsClaim, Holds, HoldsOld, IsInSlab, IsValidSlab, IsOpen, IsOpenPlace, IsStanding, IsLeaving, IsNearlyDone, IsSound, IsSteady, NamesOnly, NamesOnly-none, NamesOnly-some, plain_size, IsClaim-named, plain_size-some, cases_bit}
use Rattle.heap_check.proofs.OldBlock.{old_in, relived, Holds-relived_back, Holds-relived, plain_size-elsewhere, old_some, IsInSlab-old, old_large, old_here, plain_size-live, unheld-dead}
use Rattle.settle_steps.proofs.OneRoot.{changed, claim_by_entry, IsSettling}

module _ {b : Bounds} {t : Tables} (root start place : ℕ) (steady : IsSteady b t) (opens : t.open_entry ≡ Some (Place root (old_in t start place).at true place)) (slab : t.slab start ≡ true) (morphed : (t.header start).kind ≡ morphed_kind)
    (below : place < (t.header start).index_count) where
  abbrev block : Range
  block = old_in t start place

  abbrev own_entry : WalEntry
  own_entry = Place root block.at true place

  -- the root names the block
  abbrev on : Bool
  on = t.root root == block.at

  abbrev lives : ℕ → ℕ → Bool
  lives = put_in (live_rows t) start place on

  sound : IsSound b t
  sound = steady.sound

  valid : IsValidSlab (t.header start)
  valid = sound.slabs start slab

  opened : IsOpen b t own_entry
  opened = sound.owned.open_entry own_entry opens

  placed : IsOpenPlace b t root block.at true place
  placed = opened.entry

  size_some : 16 ≤ class_size (t.header start).old
  size_some = old_some sound start place slab morphed below

  inside : IsInSlab t start block.at
  inside = IsInSlab-old sound start place slab morphed below

  some : 0 < block.at
  some = omega arith

  no_large : is_large t.large block.at ≡ false
  no_large = old_large sound start place slab morphed below

  here : slab_of t.slab (block.at / 16384) ≡ start
  here = old_here sound start place slab morphed below

  claim : IsClaim t root block
  claim = claim_by_entry t root block.at start place true opens no_large here some placed.word

  -- the root names the block, or nothing
  named_or_none : ((t.root root ≡ 0) × (on ≡ false)) ⊎ ((t.root root ≡ block.at) × (on ≡ true))
  named_or_none = ⊎_elim
      (λ none. inl (none, ne_eqb (t.root root) block.at (λ has. omega (arith, none, has, some))))
      (λ has. inr (has, eq-eqb (t.root root) block.at has))
      placed.word

  module _ (entry : Option WalEntry) (stage : (entry ≡ Some (Place root (old_in t start place).at true place)) ⊎ (entry ≡ None)) where
    abbrev new : Tables
    new = changed t (bit_rows t) lives entry

    -- where the live bit is clear no slab holds the block
    unheld : on ≡ false → (other : ℕ) → ¬ (Holds new other block)
    unheld clear other holds = unheld-dead sound start place slab morphed below t.word t.root entry other (subst (λ o. Holds (relived t start place o t.word t.root entry) other block) clear holds)

    -- where it is set, the slab holds it
    held : on ≡ true → HoldsOld (new.header start) start block
    held set = record { place = place; below = below; live = put_in-same (live_rows t) start place on ∙ set; is = refl }

    plain_size-block : on ≡ true → plain_size new block.at ≡ block.size
    plain_size-block set = ap (λ o. plain_size (relived t start place o t.word t.root entry) block.at) set ∙ plain_size-live sound start place slab morphed below t.word t.root entry

    own : IsClaim new root block ⊎ ((t.root root ≡ 0) × (entry_at entry root ≡ 0) × ((s : ℕ) → ¬ (Holds new s block)))
    own = ⊎_elim
        (λ still. inl (claim_by_entry new root block.at start place true still no_large here some placed.word))
        (λ shut.
        let unnamed : entry_at entry root ≡ 0 = ap (λ e. entry_at e root) shut in
        ⊎_elim
        (λ none. inr (none.0, unnamed, unheld none.1))
        (λ has. inl (IsClaim-named new root block unnamed (record { some = λ none. omega (arith, none, some); word = has.0; wide = plain_size-block has.1 })))
        named_or_none)
        stage

    stands : t.root root ≢ 0 → IsStanding new root (t.root root)
    stands word = ⊎_elim
        (λ none. absurd (word none.0))
        (λ has. inr (inl (record { start = start; range = block; holds = record { slab = slab; block = inr (held has.1) }; here = sym has.0 })))
        named_or_none

    open_entry : (e : WalEntry) → entry ≡ Some e → IsOpen b new e
    open_entry e is = ⊎_elim
        (λ still.
        let same : own_entry ≡ e = cc in
        subst (IsOpen b new) same (record {
          entry = record { rooted = placed.rooted; word = placed.word; block = inr (refl, record { start = start; slab = slab; kind = morphed; below = below; is = refl }) };
          none_morphing = opened.none_morphing;
        }))
        (λ shut. absurd (cc))
        stage

    -- what leaves with the entry open left before
    leaves : (s p : ℕ) → IsLeaving new s p → IsLeaving t s p
    leaves s p leaving =
        let is = leaving.entry in
        ⊎_elim
        (λ still. record { root = leaving.root; entry = opens ∙ sym still ∙ is; none = leaving.none })
        (λ shut. absurd (cc))
        stage

    nearly : (s : ℕ) → IsNearlyDone new s → IsNearlyDone t s
    nearly s done = record {
      slab = done.slab;
      kind = done.kind;
      none = λ p under live. ⊎_elim
          (λ at. ⊎_elim
          (λ none. subst (λ s. IsLeaving t s p) (sym at.0) (subst (λ p. IsLeaving t start p) (sym at.1) (record { root = root; entry = opens; none = none.0 })))
          (λ has. leaves s p (done.none p under (ap (λ s. put_in (live_rows t) start place on s p) at.0 ∙ ap (λ p. put_in (live_rows t) start place on start p) at.1 ∙ put_in-same (live_rows t) start place on ∙ has.1)))
          named_or_none)
          (λ elsewhere. leaves s p (done.none p under (put_in-other (live_rows t) start place on s p elsewhere ∙ live)))
          (cases_bit start place s p);
    }

    new_names : NamesOnly entry root
    new_names = ⊎_elim (λ still. subst (λ e. NamesOnly e root) (sym still) (NamesOnly-some root block.at true place)) (λ shut. NamesOnly-none entry root shut) stage

    pub IsSettling-live : IsSettling b t (bit_rows t) (put_in (live_rows t) start place (t.root root == (old_in t start place).at)) entry root (old_in t start place)
    IsSettling-live = record {
      steady = steady;
      names = subst (λ e. NamesOnly e root) (sym opens) (NamesOnly-some root block.at true place);
      new_names = new_names;
      claim = claim;
      wide = omega (arith, size_some);
      some_size = plain_size-some sound start block.at inside;
      own = own;
      stands = stands;
      sizes = plain_size-elsewhere t start place on t.word t.root entry;
      back = Holds-relived_back t start place on t.word t.root entry;
      forth = Holds-relived t start place on t.word t.root entry;
      open_entry = open_entry;
      nearly = nearly;
    }
