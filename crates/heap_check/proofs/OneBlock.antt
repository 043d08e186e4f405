-- One root's block comes or goes, under an entry of the root: a slab holds it by a bit or by a live index entry, or does not,
-- and the root has it or nothing. The image stays sound and steady at each stage, and is exact at the ends.
use Rattle.std.proofs.Common.{◌≡◌, ◌≢◌, ◌⊎◌, ◌==◌, ◌↔◌, ℕ, ◌*◌, ◌<◌, Bool, true, false, true≢false, refl, sym, ap, subst, ◌∙◌, arith, inl, inr, ⊎_elim, Option, Some, None}
use Rattle.heap_check.proofs.Common.{cases_eq, cases_Bool, cond-true, cond-false, eq-eqb, ne_eqb, class_size-least, WalEntry, Place, Tables, number_rows, with_root, with_rows, put_at-same, put_at-other, Bounds, Range, AreApart, slab_block, LiesIn-block}
use Rattle.heap_check.specs.Heap.{size_at, entry_at, claim_at, heap, IsClaim, Holds}
use Rattle.heap_check.specs.Sound.{IsVacant, IsInSlab, IsValidSlab, IsOpen, IsStanding, IsLooseLarge, IsEmptySlab, IsDoneSlab, IsLeaving, IsNearlyDone, IsSound, IsExact, IsSteady, IsExactBut, HasOther}
use Rattle.heap_check.proofs.Claims.{NamesOnly, NamesOnly-none, plain_size, IsNamed-claim, IsClaim-word, IsClaim-named}
use Rattle.heap_check.proofs.Geometry.{granules_at-live, Covers-slab, plain_size-some, one_slab}
use Rattle.heap_check.proofs.Heaps.{heap-none, heap-some, heap-same}
use Rattle.heap_check.proofs.Touch.{IsTouch, IsStanding-else, Range-same, IsSound-touched}
use Rattle.heap_check.proofs.Loose.{AtMostOne-one, AtMostOne-fewer, others_lived, nearly_done}

-- the tables with the bits and live index entries that are there while the block is held or not, the word of a root, and the
-- open entry
abbrev pub stage_of : Tables → (Bool → ℕ → ℕ → Bool) → (Bool → ℕ → ℕ → Bool) → ℕ → Bool → ℕ → Option WalEntry → Tables
stage_of t bits lives root on word entry = record (with_root (with_rows t (bits on) (lives on) (number_rows t)) root word) { open_entry = entry }

-- with the entry open, the block is held or not and the root has it or not; with none, both or neither
pub record IsStage (own : WalEntry) (at : ℕ) (on : Bool) (word : ℕ) (entry : Option WalEntry) : Type 0 where
  pub is : ((entry ≡ Some own) × ((word ≡ 0) ⊎ (word ≡ at))) ⊎ ((entry ≡ None) × (((on ≡ false) × (word ≡ 0)) ⊎ ((on ≡ true) × (word ≡ at))))

-- the root's word is 0 or the address, in each case
pub stage_word : {own : WalEntry} {at : ℕ} {on : Bool} {word : ℕ} {entry : Option WalEntry} → IsStage own at on word entry → (word ≡ 0) ⊎ (word ≡ at)
stage_word {own} {at} {on} {word} {entry} stage = ⊎_elim (λ open'. open'.1) (λ shut. ⊎_elim (λ none. inl none.1) (λ both. inr both.1) shut.1) stage.is

-- the entry names the root or none
pub stage_names : {own : WalEntry} {at : ℕ} {on : Bool} {word root : ℕ} {entry : Option WalEntry} → NamesOnly (Some own) root → IsStage own at on word entry → NamesOnly entry root
stage_names {own} {at} {on} {word} {root} {entry} names stage = ⊎_elim
    (λ open'. subst (λ e. NamesOnly e root) (sym open'.0) names)
    (λ shut. NamesOnly-none entry root shut.0)
    stage.is

-- A block in a slab: the image is exact but for the slab, a root has the block or nothing, no other root's overlaps it, and
-- what slabs hold is the same while it is held or not, but for the block itself.
pub record IsOneBlock (b : Bounds) (t : Tables) (bits lives : Bool → ℕ → ℕ → Bool) (own : WalEntry) (root start : ℕ) (block : Range) : Type 0 where
  pub but : IsExactBut b t start
  pub first : 0 < b.first
  pub lies : IsInSlab t start block.at
  pub some : block.at ≢ 0
  pub wide : 0 < block.size
  pub was : (t.root root ≡ 0) ⊎ ((t.root root ≡ block.at) × (plain_size t block.at ≡ block.size))
  pub apart : (other : ℕ) (range : Range) → other ≢ root → IsClaim t other range → AreApart range block
  -- the entry names the root and the block
  pub names : NamesOnly (Some own) root
  pub named : entry_at (Some own) root ≡ block.at
  pub opens : (on : Bool) (word : ℕ) → (word ≡ 0) ⊎ (word ≡ block.at) → IsOpen b (stage_of t bits lives root on word (Some own)) own
  pub sized : (on : Bool) (word : ℕ) → size_at (stage_of t bits lives root on word (Some own)) root block.at ≡ block.size
  -- what slabs hold
  pub back : (on : Bool) (word : ℕ) (entry : Option WalEntry) (s : ℕ) (range : Range) → Holds (stage_of t bits lives root on word entry) s range → Holds t s range ⊎ (range ≡ block)
  pub forth : (on : Bool) (word : ℕ) (entry : Option WalEntry) (s : ℕ) (range : Range) → Holds t s range → Holds (stage_of t bits lives root on word entry) s range ⊎ (range ≡ block)
  pub held : (word : ℕ) (entry : Option WalEntry) → Holds (stage_of t bits lives root true word entry) start block
  pub unheld : (word : ℕ) (entry : Option WalEntry) (s : ℕ) → ¬ (Holds (stage_of t bits lives root false word entry) s block)
  -- sizes by the slabs
  pub sizes : (on : Bool) (word : ℕ) (entry : Option WalEntry) (at : ℕ) → at ≢ block.at → plain_size (stage_of t bits lives root on word entry) at ≡ plain_size t at
  pub size_held : (word : ℕ) (entry : Option WalEntry) → plain_size (stage_of t bits lives root true word entry) block.at ≡ block.size
  -- live index entries of the other slabs
  pub others : (on : Bool) (s : ℕ) → s ≢ start → lives on s ≡ (t.header s).live

module _ {b : Bounds} {t : Tables} {bits lives : Bool → ℕ → ℕ → Bool} {own : WalEntry} {root start : ℕ} {block : Range} (is : IsOneBlock b t bits lives own root start block) where
  sound : IsSound b t
  sound = is.but.sound

  entry_at-none : (other : ℕ) → entry_at t.open_entry other ≡ 0
  entry_at-none other = ap (λ e. entry_at e other) is.but.closed

  -- no other root has its address
  lone : (other : ℕ) → other ≢ root → t.root other ≢ block.at
  lone other differ here =
      let claim = IsClaim-word t other (entry_at-none other) (λ none. is.some (sym here ∙ none)) in
      let size = plain_size-some sound start (t.root other) (subst (IsInSlab t start) (sym here) is.lies) in
      ⊎_elim (λ x. omega (arith, x, here, is.wide, size)) (λ x. omega (arith, x, here, is.wide, size)) (is.apart other _ differ claim)

  -- before, the root has the block or nothing
  own_before : (range : Range) → IsClaim t root range → range ≡ block
  own_before range claim =
      let named = IsNamed-claim t root range (entry_at-none root) claim in
      ⊎_elim
      (λ none. absurd (named.some (sym named.word ∙ none)))
      (λ has.
      let at : range.at ≡ block.at = sym named.word ∙ has.0 in
      Range-same range block.at block.size at (sym named.wide ∙ ap (plain_size t) at ∙ has.1))
      is.was

  -- its word is no start of a large extent
  not_start : (other : ℕ) → 0 < t.large other → t.root root ≢ 16384 * other
  not_start other live at = ⊎_elim
      (λ none. omega (arith, none, at, (sound.extents.starts other (omega (arith, granules_at-live sound other live, live))).0, is.first))
      (λ has.
      let here : block.at ≡ 16384 * other = sym has.0 ∙ at in
      let whole = granules_at-live sound other live in
      let same = sound.extents.disjoint other start other
      (record { low = omega arith; high = omega (arith, whole, live) })
      (Covers-slab t start other is.lies.slab (omega (arith, is.lies.low, here)) (omega (arith, is.lies.high, here))) in
      omega (arith, live, ap t.large same, sound.extents.one_kind start is.lies.slab))
      is.was

  -- it lies in no other slab
  own_here : (other : ℕ) → t.root root ≢ 0 → IsInSlab t other (t.root root) → other ≡ start
  own_here other some inside = ⊎_elim
      (λ none. absurd (some none))
      (λ has. one_slab sound other start block.at (subst (IsInSlab t other) has.0 inside) is.lies)
      is.was

  module _ (on : Bool) (word : ℕ) (entry : Option WalEntry) (stage : IsStage own block.at on word entry) where
    abbrev new : Tables
    new = stage_of t bits lives root on word entry

    own_word : new.root root ≡ word
    own_word = put_at-same t.root root word

    other_word : (other : ℕ) → other ≢ root → new.root other ≡ t.root other
    other_word other differ = put_at-other t.root root other word differ

    -- the root claims the block by the entry

    open_claim : entry ≡ Some own → claim_at new root ≡ block.at
    open_claim opened = ⊎_elim
        (λ (none : word ≡ 0).
        cond-true (new.root root == 0) (entry_at entry root) (new.root root) (eq-eqb (new.root root) 0 (own_word ∙ none))
        ∙ ap (λ e. entry_at e root) opened ∙ is.named)
        (λ (has : word ≡ block.at).
        cond-false (new.root root == 0) (entry_at entry root) (new.root root) (ne_eqb (new.root root) 0 (λ none. is.some (sym has ∙ sym own_word ∙ none)))
        ∙ own_word ∙ has)
        (stage_word stage)

    open_size : entry ≡ Some own → size_at new root block.at ≡ block.size
    open_size opened = ap (λ e. size_at (stage_of t bits lives root on word e) root block.at) opened ∙ is.sized on word

    claims_open : entry ≡ Some own → IsClaim new root block
    claims_open opened = record { some = is.some; place = open_claim opened; wide = ap (size_at new root) (open_claim opened) ∙ open_size opened }

    -- or by its word

    held_size : on ≡ true → plain_size new block.at ≡ block.size
    held_size set = ap (λ o. plain_size (stage_of t bits lives root o word entry) block.at) set ∙ is.size_held word entry

    claims_shut : entry ≡ None → on ≡ true → word ≡ block.at → IsClaim new root block
    claims_shut shut set has = IsClaim-named new root block (ap (λ e. entry_at e root) shut) (record { some = is.some; word = own_word ∙ has; wide = held_size set })

    -- afterwards, the root has the block or nothing
    own_after : (range : Range) → IsClaim new root range → range ≡ block
    own_after range claim = ⊎_elim
        (λ opened.
        let at : range.at ≡ block.at = sym claim.place ∙ open_claim opened.0 in
        Range-same range block.at block.size at (sym claim.wide ∙ ap (size_at new root) (open_claim opened.0) ∙ open_size opened.0))
        (λ shut.
        let named = IsNamed-claim new root range (ap (λ e. entry_at e root) shut.0) claim in
        ⊎_elim
        (λ none. absurd (named.some (sym named.word ∙ own_word ∙ none.1)))
        (λ both.
        let at : range.at ≡ block.at = sym named.word ∙ own_word ∙ both.1 in
        Range-same range block.at block.size at (sym named.wide ∙ ap (plain_size new) at ∙ held_size both.0))
        shut.1)
        stage.is

    stands : new.root root ≢ 0 → IsStanding new root (new.root root)
    stands some =
        let has : word ≡ block.at = ⊎_elim (λ none. absurd (some (own_word ∙ none))) (λ has. has) (stage_word stage) in
        ⊎_elim
        (λ opened. inr (inr (ap (λ e. entry_at e root) opened.0 ∙ is.named ∙ sym (own_word ∙ has))))
        (λ shut. ⊎_elim
        (λ none. absurd (some (own_word ∙ none.1)))
        (λ both. inr (inl (record {
          start = start;
          range = block;
          holds = subst (λ o. Holds (stage_of t bits lives root o word entry) start block) (sym both.0) (is.held word entry);
          here = sym (own_word ∙ has);
        })))
        shut.1)
        stage.is

    others_stand : (other : ℕ) → other ≢ root → t.root other ≢ 0 → IsStanding t other (t.root other) → IsStanding new other (t.root other)
    others_stand other differ some standing =
        IsStanding-else t new other (t.root other) block some (lone other differ) (entry_at-none other) (λ large. large) (λ at range holds. is.forth on word entry at range holds) standing

    -- a slab that holds the block has it of the root
    held : (other : ℕ) → Holds new other block → IsClaim new root block
    held other holds = ⊎_elim
        (λ opened. claims_open opened.0)
        (λ shut. ⊎_elim
        (λ none. absurd (is.unheld word entry other (subst (λ o. Holds (stage_of t bits lives root o word entry) other block) none.0 holds)))
        (λ both. claims_shut shut.0 both.0 both.1)
        shut.1)
        stage.is

    open_entry : (e : WalEntry) → entry ≡ Some e → IsOpen b new e
    open_entry e has = ⊎_elim
        (λ opened.
        let is_own : own ≡ e = let first = opened.0 in cc in
        subst (IsOpen b new) is_own (subst (λ e. IsOpen b (stage_of t bits lives root on word e) own) (sym opened.0) (is.opens on word (stage_word stage))))
        (λ shut. absurd (let none = shut.0 in cc))
        stage.is

    slabs : (other : ℕ) → t.slab other ≡ true → IsValidSlab (new.header other)
    slabs other slab =
        let was = sound.slabs other slab in
        record { state = was.state; small = was.small; once = was.once }

    -- no more large extents are loose
    loose_before : (other : ℕ) → IsLooseLarge new other → IsLooseLarge t other
    loose_before other loose = record {
      live = loose.live;
      unnamed = λ r. ⊎_elim
          (λ (same : r ≡ root). subst (λ r. t.root r ≢ 16384 * other) (sym same) (not_start other loose.live))
          (λ (another : r ≢ root) at. loose.unnamed r (other_word r another ∙ at))
          (cases_eq r root);
    }

    -- this slab alone may have no root's block
    empty_is : (other : ℕ) → IsEmptySlab new other → other ≡ start
    empty_is other empty = ⊎_elim
        (λ (same : other ≡ start). same)
        (λ (differ : other ≢ start). absurd (others_lived is.but other differ (record {
          slab = empty.slab;
          none = λ r some inside. ⊎_elim
              (λ (same : r ≡ root). differ (own_here other (λ none. some (ap t.root same ∙ none)) (subst (λ r. IsInSlab t other (t.root r)) same inside)))
              (λ (another : r ≢ root).
              let at = other_word r another in
              empty.none r (λ none. some (sym at ∙ none)) (record { slab = inside.slab; low = omega (arith, inside.low, at); high = omega (arith, inside.high, at) }))
              (cases_eq r root);
        })))
        (cases_eq other start)

    -- an old block that is leaving is this one
    leaving_here : (other place : ℕ) → t.slab other ≡ true → place < (t.header other).index_count → IsLeaving new other place → other ≡ start
    leaving_here other place slab below leaving = ⊎_elim
        (λ opened.
        let old = slab_block other (t.header other).old ((t.header other).number place) in
        let entry_is : Some own ≡ Some (Place leaving.root old.at true place) = sym opened.0 ∙ leaving.entry in
        let says : entry_at (Some own) leaving.root ≡ old.at = ap (λ e. entry_at e leaving.root) entry_is ∙ cond-true (leaving.root == leaving.root) old.at 0 (eq-eqb leaving.root leaving.root refl) in
        let names_it : leaving.root ≡ root = ⊎_elim (λ same. same) (λ differ. absurd (omega (arith, says, is.names.others leaving.root differ))) (cases_eq leaving.root root) in
        let at : old.at ≡ block.at = sym says ∙ ap (entry_at (Some own)) names_it ∙ is.named in
        let valid = sound.slabs other slab in
        let inside = LiesIn-block other (t.header other).old old (record { number = (t.header other).number place; within = valid.small place below; is = refl }) in
        let wide = class_size-least (t.header other).old valid.state.is_old_class in
        one_slab sound other start block.at (record { slab = slab; low = omega (arith, inside.low, at); high = omega (arith, inside.high, wide, at) }) is.lies)
        (λ shut. absurd (let none = shut.0 in let has = leaving.entry in cc))
        stage.is

    -- and this slab alone may be nearly done
    nearly_is : (other : ℕ) → IsNearlyDone new other → other ≡ start
    nearly_is other nearly = ⊎_elim
        (λ (same : other ≡ start). same)
        (λ (differ : other ≢ start). absurd (⊎_elim
        (λ (normal : (t.header other).kind ≡ 1). nearly.kind normal)
        (λ rest. ⊎_elim
        (λ (morphing : (t.header other).kind ≡ 2). is.but.none_morphing other (record { slab = nearly.slab; kind = morphing }))
        (λ (morphed : (t.header other).kind ≡ 3). is.but.none_done other differ (record {
          slab = nearly.slab;
          kind = morphed;
          none = λ place below. ⊎_elim
              (λ (live : (t.header other).live place ≡ true). absurd (differ (leaving_here other place nearly.slab below (nearly.none place below (ap (λ (row : ℕ → Bool). row place) (is.others on other differ) ∙ live)))))
              (λ dead. dead)
              (cases_Bool ((t.header other).live place));
        }))
        rest)
        (sound.slabs other nearly.slab).state.kinds))
        (cases_eq other start)

    done_is : (other : ℕ) → IsDoneSlab new other → other ≡ start
    done_is other done = nearly_is other (nearly_done new other done)

    touch : IsTouch b t new root block
    touch = record {
      sound = sound;
      entry = NamesOnly-none t.open_entry root is.but.closed;
      new_entry = stage_names is.names stage;
      words = other_word;
      sizes = λ other differ some. is.sizes on word entry (t.root other) (lone other differ);
      others = others_stand;
      apart = is.apart;
      own = own_before;
      new_own = own_after;
      stands = stands;
      back = is.back on word entry;
      held = held;
      extents = sound.extents;
      slabs = slabs;
      open_entry = open_entry;
      loose = record {
        large = AtMostOne-fewer loose_before sound.loose.large;
        empty = AtMostOne-one start empty_is;
        morphing = sound.loose.morphing;
        done = AtMostOne-one start done_is;
      };
    }

    pub IsSound-one : IsSound b (stage_of t bits lives root on word entry)
    IsSound-one = IsSound-touched touch

    pub IsSteady-one : IsSteady b (stage_of t bits lives root on word entry)
    IsSteady-one = record { sound = IsSound-one; one_done = AtMostOne-one start nearly_is }

    -- heaps

    pub heap-one_other : (other : ℕ) → other ≢ root → heap (stage_of t bits lives root on word entry) other ≡ heap t other
    heap-one_other other differ = heap-same t new other (entry_at-none other) ((stage_names is.names stage).others other differ) (other_word other differ) (λ some. is.sizes on word entry (t.root other) (lone other differ))

    pub heap-one_some : word ≡ block.at → heap (stage_of t bits lives root on word entry) root ≡ Some block
    heap-one_some has =
        let at : new.root root ≡ block.at = own_word ∙ has in
        let some : new.root root ≢ 0 = λ none. is.some (sym at ∙ none) in
        ⊎_elim
        (λ opened.
        cond-false (new.root root == 0) None (Some (record { at = new.root root; size = size_at new root (new.root root) })) (ne_eqb (new.root root) 0 some)
        ∙ ap (λ at. Some (record { at = at; size = size_at new root at })) at
        ∙ ap (λ size. Some (record { at = block.at; size = size })) (open_size opened.0))
        (λ shut. ⊎_elim
        (λ none. absurd (is.some (sym has ∙ none.1)))
        (λ both.
        heap-some new root (ap (λ e. entry_at e root) shut.0) some
        ∙ ap (λ at. Some (record { at = at; size = plain_size new at })) at
        ∙ ap (λ size. Some (record { at = block.at; size = size })) (held_size both.0))
        shut.1)
        stage.is

  pub heap-one_none : (on : Bool) (entry : Option WalEntry) → heap (stage_of t bits lives root on 0 entry) root ≡ None
  heap-one_none on entry = heap-none (stage_of t bits lives root on 0 entry) root (put_at-same t.root root 0)

  -- with no entry open, both are there or neither is: the image is as exact as before, but for this slab
  module _ (on : Bool) (word : ℕ) (stage : IsStage own block.at on word None) where
    abbrev left : Tables
    left = stage_of t bits lives root on word None

    pub IsExactBut-one : IsExactBut b (stage_of t bits lives root on word None) start
    IsExactBut-one = record {
      sound = IsSound-one on word None stage;
      closed = refl;
      all_named = λ other live.
          let named = is.but.all_named other live in
          (named.0, other_word on word None stage named.0 (λ same. not_start other live (ap t.root (sym same) ∙ named.1)) ∙ named.1);
      others_live = λ other differ slab.
          let lives = is.but.others_live other differ slab in
          let inside = lives.2 in
          let at = other_word on word None stage lives.0 (λ same. differ (own_here other (λ none. lives.1 (ap t.root same ∙ none)) (subst (λ r. IsInSlab t other (t.root r)) same inside))) in
          (lives.0, λ none. lives.1 (sym at ∙ none), record { slab = inside.slab; low = omega (arith, inside.low, at); high = omega (arith, inside.high, at) });
      none_morphing = is.but.none_morphing;
      none_done = λ other differ done. differ (done_is on word None stage other done);
    }

    -- and exact where the slab has a root's block and is not done
    pub IsExact-one : ¬ (IsDoneSlab (stage_of t bits lives root on word None) start) → (word ≡ block.at) ⊎ HasOther t root start → IsExact b (stage_of t bits lives root on word None)
    IsExact-one lively rest = record {
      sound = IsExactBut-one.sound;
      closed = refl;
      all_named = IsExactBut-one.all_named;
      all_live = λ other slab. ⊎_elim
          (λ (same : other ≡ start). ⊎_elim
          (λ (has : word ≡ block.at).
          let at : left.root root ≡ block.at = own_word on word None stage ∙ has in
          (root, λ none. is.some (sym at ∙ none), record { slab = slab; low = omega (arith, is.lies.low, at, same); high = omega (arith, is.lies.high, at, same) }))
          (λ (another : HasOther t root start).
          let at = other_word on word None stage another.other another.differ in
          (another.other, λ none. another.some (sym at ∙ none), record { slab = slab; low = omega (arith, another.inside.low, at, same); high = omega (arith, another.inside.high, at, same) }))
          rest)
          (λ (differ : other ≢ start). IsExactBut-one.others_live other differ slab)
          (cases_eq other start);
      none_morphing = IsExactBut-one.none_morphing;
      none_done = λ other done. lively (subst (IsDoneSlab left) (done_is on word None stage other done) done);
    }

-- the same granules are vacant
pub IsVacant-one : (b : Bounds) (t : Tables) (bits lives : Bool → ℕ → ℕ → Bool) (root : ℕ) (on : Bool) (word : ℕ) (entry : Option WalEntry) (k : ℕ) → IsVacant b (stage_of t bits lives root on word entry) k ↔ IsVacant b t k
IsVacant-one b t bits lives root on word entry k = (λ vacant. vacant, λ vacant. vacant)
