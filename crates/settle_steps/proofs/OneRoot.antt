-- A slab comes to hold the block of the open entry's root, or holds it no more, and the entry is open still or closed: the
-- image stays steady, and its heap the same.
use Rattle.std.proofs.Common.{◌≡◌, ◌≢◌, ◌⊎◌, ◌==◌, ◌&&◌, ℕ, ◌/◌, ◌<◌, Bool, true, false, true≢false, cond, refl, sym, ap, ◌∙◌, arith, ⊎_elim, ltb, Option, Some, None}
use Rattle.settle_steps.proofs.Common.{cases_eq, cond-true, cond-false, eq-eqb, ne_eqb, and_from, lt-ltb, class_size, WalEntry, Place, Tables, number_rows, with_rows, Bounds, Range, slab_of, is_large, size_at, entry_at, entry_old, claim_at, heap, IsClaim, Holds, IsValidSlab, IsOpen, IsStanding, IsDoneSlab, IsNearlyDone, IsSound, IsSteady, LoosensNothing, NamesOnly, plain_size, IsClaim-word}
use Rattle.heap_check.proofs.Heaps.{heap-none, heap-same}
use Rattle.heap_check.proofs.Touch.{IsTouch, IsStanding-else, Range-same, IsSound-touched}
use Rattle.heap_check.proofs.Loose.{AtMostOne-fewer, nearly_done}
use Rattle.settle_steps.specs.Settled.{LoosensLeft}

-- tables with other bits, live bits and entry
abbrev pub changed : Tables → (ℕ → ℕ → Bool) → (ℕ → ℕ → Bool) → Option WalEntry → Tables
changed t bits lives entry = record (with_rows t bits lives (number_rows t)) { open_entry = entry }

-- the block that an open place entry names
pub claim_by_entry : (t : Tables) (root at start place : ℕ) (old : Bool) → t.open_entry ≡ Some (Place root at old place) → is_large t.large at ≡ false → slab_of t.slab (at / 16384) ≡ start → 0 < at → (t.root root ≡ 0) ⊎ (t.root root ≡ at) →
    IsClaim t root (record { at = at; size = class_size (cond old (t.header start).old (t.header start).class) })
claim_by_entry t root at start place old is no_large here some word =
    let named : entry_at t.open_entry root ≡ at = ap (λ e. entry_at e root) is ∙ cond-true (root == root) at 0 (eq-eqb root root refl) in
    let claims : claim_at t root ≡ at = ⊎_elim
    (λ (none : t.root root ≡ 0). cond-true (t.root root == 0) (entry_at t.open_entry root) (t.root root) (eq-eqb (t.root root) 0 none) ∙ named)
    (λ (has : t.root root ≡ at). cond-false (t.root root == 0) (entry_at t.open_entry root) (t.root root) (ne_eqb (t.root root) 0 (λ none. omega (arith, none, has, some))) ∙ has)
    word in
    let test : ((entry_at t.open_entry root == at) && ltb 0 at) ≡ true = and_from _ _ (eq-eqb _ _ named) (lt-ltb 0 at some) in
    let of_old : entry_old t.open_entry ≡ old = ap entry_old is in
    let size : size_at t root at ≡ class_size (cond old (t.header start).old (t.header start).class) = rw (no_large, test, of_old, here) refl in
    record { some = λ none. omega (arith, none, some); place = claims; wide = ap (size_at t root) claims ∙ size }

-- the heap has what a root claims where its word is not 0
pub heap-claimed : (t : Tables) (root : ℕ) (block : Range) → IsClaim t root block → t.root root ≢ 0 → heap t root ≡ Some block
heap-claimed t root block claim some =
    let has = ne_eqb (t.root root) 0 some in
    let word : claim_at t root ≡ t.root root = cond-false (t.root root == 0) (entry_at t.open_entry root) (t.root root) has in
    cond-false (t.root root == 0) None (Some (record { at = t.root root; size = size_at t root (t.root root) })) has
    ∙ ap (λ at. Some (record { at = at; size = size_at t root at })) (sym word)
    ∙ ap (λ at. Some (record { at = at; size = size_at t root (claim_at t root) })) claim.place
    ∙ ap (λ size. Some (record { at = block.at; size = size })) claim.wide

-- under an open entry of the root, which claims the block by it, the bits or live bits and the entry become others
pub record IsSettling (b : Bounds) (t : Tables) (bits lives : ℕ → ℕ → Bool) (entry : Option WalEntry) (root : ℕ) (block : Range) : Type 0 where
  pub steady : IsSteady b t
  pub names : NamesOnly t.open_entry root
  pub new_names : NamesOnly entry root
  pub claim : IsClaim t root block
  pub wide : 0 < block.size
  pub some_size : 0 < plain_size t block.at
  -- the root claims it still, or has no block and the slab none of it
  pub own : IsClaim (changed t bits lives entry) root block ⊎ ((t.root root ≡ 0) × (entry_at entry root ≡ 0) × ((start : ℕ) → ¬ (Holds (changed t bits lives entry) start block)))
  pub stands : t.root root ≢ 0 → IsStanding (changed t bits lives entry) root (t.root root)
  -- all else is the same
  pub sizes : (at : ℕ) → at ≢ block.at → plain_size (changed t bits lives entry) at ≡ plain_size t at
  pub back : (start : ℕ) (range : Range) → Holds (changed t bits lives entry) start range → Holds t start range ⊎ (range ≡ block)
  pub forth : (start : ℕ) (range : Range) → Holds t start range → Holds (changed t bits lives entry) start range ⊎ (range ≡ block)
  pub open_entry : (e : WalEntry) → entry ≡ Some e → IsOpen b (changed t bits lives entry) e
  pub nearly : (start : ℕ) → IsNearlyDone (changed t bits lives entry) start → IsNearlyDone t start

module _ {b : Bounds} {t : Tables} {bits lives : ℕ → ℕ → Bool} {entry : Option WalEntry} {root : ℕ} {block : Range} (is : IsSettling b t bits lives entry root block) where
  abbrev new : Tables
  new = changed t bits lives entry

  sound : IsSound b t
  sound = is.steady.sound

  -- no other root names the block's address
  lone : (other : ℕ) → other ≢ root → t.root other ≢ 0 → t.root other ≢ block.at
  lone other differ some here =
      let claim = IsClaim-word t other (is.names.others other differ) some in
      ⊎_elim (λ x. omega (arith, x, here, ap (plain_size t) here, is.some_size)) (λ x. omega (arith, x, here, is.wide)) (sound.owned.apart other root _ block differ claim is.claim)

  own_before : (range : Range) → IsClaim t root range → range ≡ block
  own_before range claim = Range-same range block.at block.size (sym claim.place ∙ is.claim.place) (sym claim.wide ∙ is.claim.wide)

  own_after : (range : Range) → IsClaim new root range → range ≡ block
  own_after range claim = ⊎_elim
      (λ (mine : IsClaim new root block). Range-same range block.at block.size (sym claim.place ∙ mine.place) (sym claim.wide ∙ mine.wide))
      (λ none. absurd (claim.some (sym claim.place ∙ cond-true (t.root root == 0) (entry_at entry root) (t.root root) (eq-eqb (t.root root) 0 none.0) ∙ none.1)))
      is.own

  others_stand : (other : ℕ) → other ≢ root → t.root other ≢ 0 → IsStanding t other (t.root other) → IsStanding new other (t.root other)
  others_stand other differ some standing =
      IsStanding-else t new other (t.root other) block some (lone other differ some) (is.names.others other differ) (λ large. large) is.forth standing

  held : (start : ℕ) → Holds new start block → IsClaim new root block
  held start holds = ⊎_elim (λ mine. mine) (λ none. absurd (none.2 start holds)) is.own

  slabs : (start : ℕ) → t.slab start ≡ true → IsValidSlab (new.header start)
  slabs start slab = let was = sound.slabs start slab in record { state = was.state; small = was.small; once = was.once }

  done_nearly : (start : ℕ) → IsDoneSlab new start → IsNearlyDone t start
  done_nearly start done = is.nearly start (nearly_done new start done)

  touch : IsTouch b t new root block
  touch = record {
    sound = sound;
    entry = is.names;
    new_entry = is.new_names;
    words = λ other differ. refl;
    sizes = λ other differ some. is.sizes (t.root other) (lone other differ some);
    others = others_stand;
    apart = λ other range differ claim. sound.owned.apart other root range block differ claim is.claim;
    own = own_before;
    new_own = own_after;
    stands = is.stands;
    back = is.back;
    held = held;
    extents = sound.extents;
    slabs = slabs;
    open_entry = is.open_entry;
    loose = record {
      large = sound.loose.large;
      empty = sound.loose.empty;
      morphing = sound.loose.morphing;
      done = AtMostOne-fewer done_nearly is.steady.one_done;
    };
  }

  pub IsSteady-settling : IsSteady b (changed t bits lives entry)
  IsSteady-settling = record { sound = IsSound-touched touch; one_done = AtMostOne-fewer is.nearly is.steady.one_done }

  pub heap-settling : (other : ℕ) → heap (changed t bits lives entry) other ≡ heap t other
  heap-settling other = ⊎_elim
      (λ (none : t.root other ≡ 0). heap-none new other none ∙ sym (heap-none t other none))
      (λ (some : t.root other ≢ 0). ⊎_elim
      (λ (same : other ≡ root).
      let has : t.root root ≢ 0 = λ none. some (ap t.root same ∙ none) in
      let mine : IsClaim new root block = ⊎_elim (λ mine. mine) (λ none. absurd (has none.0)) is.own in
      ap (heap new) same ∙ heap-claimed new root block mine has ∙ sym (heap-claimed t root block is.claim has) ∙ ap (heap t) (sym same))
      (λ (differ : other ≢ root). heap-same t new other (is.names.others other differ) (is.new_names.others other differ) refl (λ more. is.sizes (t.root other) (lone other differ some)))
      (cases_eq other root))
      (cases_eq (t.root other) 0)

  pub loosens_left : LoosensLeft t (changed t bits lives entry)
  loosens_left = record { large = λ start loose. loose; empty = λ start empty. empty; morphing = λ start morphing. morphing; done = done_nearly }

  -- where no live bit changed
  pub loosens_nothing : ((start place : ℕ) → lives start place ≡ (t.header start).live place) → LoosensNothing t (changed t bits lives entry)
  loosens_nothing same = record {
    large = λ start loose. loose;
    empty = λ start empty. empty;
    morphing = λ start morphing. morphing;
    done = λ start done. record { slab = done.slab; kind = done.kind; none = λ place below. sym (same start place) ∙ done.none place below };
  }
