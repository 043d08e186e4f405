-- A large extent and its root come and go: the image stays sound and steady at each stage, and is exact at the ends.
use Rattle.std.proofs.Common.{◌≡◌, ◌≢◌, ◌⊎◌, ℕ, ◌+◌, ◌*◌, ◌<◌, ◌≤◌, true, sym, ap, subst, ◌∙◌, arith, inl, inr, ⊎_elim}
use Rattle.heap_check.proofs.Common.{cases_eq, Tables, Bounds, Range, put_at-same, put_at-other}
use Rattle.heap_check.specs.Heap.{is_large, IsClaim}
use Rattle.heap_check.specs.Sound.{granules_at, Covers, IsInSlab, IsHeld, IsStanding, IsLooseLarge, IsEmptySlab, IsNearlyDone, IsSound, IsExact, IsSteady}
use Rattle.heap_check.proofs.Claims.{NamesOnly-none, plain_size, IsNamed-claim}
use Rattle.heap_check.proofs.Geometry.{granules_at-live, is_large-start, is_large-put, plain_size-start}
use Rattle.heap_check.proofs.Within.{IsInSlab-held}
use Rattle.heap_check.proofs.Touch.{IsTouch, Range-same, IsSound-touched}
use Rattle.heap_check.proofs.Loose.{AtMostOne-one, AtMostOne-fewer, nearly_spent, spent_nearly}
use Rattle.heap_check.proofs.Large.{with_large, large_block, IsLargePlace, IsLargeStage, granules_at-other, granules_at-own, Covers-back, Holds-back, Holds-forth, plain_size-elsewhere, entry_at-none, slab-other, IsInSlab-none, AreApart-others}

-- there is neither extent nor word, or both
pub record IsLargeEnd (start count here word : ℕ) : Type 0 where
  pub is : ((here ≡ 0) × (word ≡ 0)) ⊎ ((here ≡ count) × (word ≡ 16384 * start))

pub IsLargeStage-end : (start count here word : ℕ) → IsLargeEnd start count here word → IsLargeStage start count here word
IsLargeStage-end start count here word end = record { is = ⊎_elim (λ none. inl none) (λ all. inr (all.0, inr all.1)) end.is }

module _ {b : Bounds} {t : Tables} {root start count : ℕ} (place : IsLargePlace b t root start count) where
  -- before, the root has the block or nothing
  own_before : (range : Range) → IsClaim t root range → range ≡ large_block start count
  own_before range claim =
      let named = IsNamed-claim t root range (entry_at-none place root) claim in
      let nothing : t.root root ≢ 0 = λ none. named.some (sym named.word ∙ none) in
      ⊎_elim
      (λ none. absurd (nothing none.1))
      (λ live. ⊎_elim
      (λ none. absurd (nothing none))
      (λ has.
      let at : range.at ≡ 16384 * start = sym named.word ∙ has in
      Range-same range (16384 * start) (16384 * count) at (sym named.wide ∙ ap (λ a. plain_size t a) at ∙ plain_size-start t start count live.0 place.some))
      live.1)
      place.was

  -- another large extent has a root, and another one
  named_other : (other : ℕ) → other ≢ start → 0 < t.large other → t.root root ≢ 16384 * other
  named_other other differ live same =
      let whole = granules_at-live place.sound other live in
      let low = (place.sound.extents.starts other (omega (arith, whole, live))).0 in
      ⊎_elim
      (λ none. omega (arith, none.1, same, low, place.first))
      (λ own. ⊎_elim (λ none. omega (arith, none, same, low, place.first)) (λ has. differ (omega (arith, has, same))) own.1)
      place.was

  -- the root's word lies in no slab
  own_no_slab : (other : ℕ) → t.root root ≢ 0 → ¬ (IsInSlab t other (t.root root))
  own_no_slab other some inside = ⊎_elim
      (λ none. some none.1)
      (λ own. ⊎_elim (λ none. some none) (λ has. IsInSlab-none place other (subst (λ at. IsInSlab t other at) has inside)) own.1)
      place.was

  module _ (here word : ℕ) (stage : IsLargeStage start count here word) where
    abbrev new : Tables
    new = with_large t start here root word

    own_word : new.root root ≡ word
    own_word = put_at-same t.root root word

    other_word : (other : ℕ) → other ≢ root → new.root other ≡ t.root other
    other_word other differ = put_at-other t.root root other word differ

    most : here ≤ count
    most = ⊎_elim (λ none. omega (arith, none.0)) (λ all. omega (arith, all.0)) stage.is

    disjoint : (one other k : ℕ) → Covers new one k → Covers new other k → one ≡ other
    disjoint one other k first second =
        let own = granules_at-own t start here root word place.no_slab in
        let clash : (one other : ℕ) → one ≡ start → other ≢ start → Covers new one k → Covers new other k → ⊥ = λ one other same differ first second. ⊎_elim
        (λ x. omega (arith, x, first.low, same))
        (λ x. omega (arith, x, first.high, same, ap (granules_at new) same, own, most))
        (place.free other k differ (Covers-back t start here root word other k differ second)) in
        ⊎_elim
        (λ (same : one ≡ start). ⊎_elim (λ (too : other ≡ start). same ∙ sym too) (λ (differ : other ≢ start). absurd (clash one other same differ first second)) (cases_eq other start))
        (λ (differ : one ≢ start). ⊎_elim
        (λ (same : other ≡ start). absurd (clash other one same differ second first))
        (λ (too : other ≢ start). place.sound.extents.disjoint one other k (Covers-back t start here root word one k differ first) (Covers-back t start here root word other k too second))
        (cases_eq other start))
        (cases_eq one start)

    starts : (other : ℕ) → 0 < granules_at new other → (b.first ≤ other) × (other + granules_at new other ≤ b.granules)
    starts other some = ⊎_elim
        (λ (same : other ≡ start).
        let own = ap (granules_at new) same ∙ granules_at-own t start here root word place.no_slab in
        (omega (arith, place.low, same), omega (arith, place.high, same, own, most)))
        (λ (differ : other ≢ start).
        let size = granules_at-other t start here root word other differ in
        let was = place.sound.extents.starts other (omega (arith, some, size)) in
        (was.0, omega (arith, was.1, size)))
        (cases_eq other start)

    own_live : word ≢ 0 → (here ≡ count) × (word ≡ 16384 * start)
    own_live some = ⊎_elim (λ none. absurd (some none.1)) (λ live. (live.0, ⊎_elim (λ none. absurd (some none)) (λ has. has) live.1)) stage.is

    -- afterwards, the root has the block or nothing
    own_after : (range : Range) → IsClaim new root range → range ≡ large_block start count
    own_after range claim =
        let named = IsNamed-claim new root range (entry_at-none place root) claim in
        let live = own_live (λ none. named.some (sym named.word ∙ own_word ∙ none)) in
        let at : range.at ≡ 16384 * start = sym named.word ∙ own_word ∙ live.1 in
        Range-same range (16384 * start) (16384 * count) at
        (sym named.wide ∙ ap (λ a. plain_size new a) at ∙ plain_size-start new start count (put_at-same t.large start here ∙ live.0) place.some)

    stands : new.root root ≢ 0 → IsStanding new root (new.root root)
    stands some =
        let live = own_live (λ none. some (own_word ∙ none)) in
        inl (ap (λ at. is_large new.large at) (own_word ∙ live.1) ∙ is_large-start new.large start (omega (arith, put_at-same t.large start here, live.0, place.some)))

    others_stand : (other : ℕ) → other ≢ root → IsStanding t other (t.root other) → IsStanding new other (t.root other)
    others_stand other differ standing = ⊎_elim
        (λ large. inl (is_large-put t.large start here (t.root other) (place.lone other differ) ∙ large))
        (λ rest. inr (⊎_elim
        (λ (held : IsHeld t (t.root other)). inl (record { start = held.start; range = held.range; holds = Holds-forth t start here root word held.start held.range held.holds; here = held.here }))
        (λ by_entry. inr by_entry)
        rest))
        standing

    -- the extent alone may be loose
    loose_is : (other : ℕ) → IsLooseLarge new other → other ≡ start
    loose_is other loose = ⊎_elim
        (λ (same : other ≡ start). same)
        (λ (differ : other ≢ start).
        let live : 0 < t.large other = omega (arith, loose.live, put_at-other t.large start other here differ) in
        absurd (place.none_loose other differ (record {
          live = live;
          unnamed = λ r. ⊎_elim
              (λ (same : r ≡ root). subst (λ r. t.root r ≢ 16384 * other) (sym same) (named_other other differ live))
              (λ (another : r ≢ root) is. loose.unnamed r (other_word r another ∙ is))
              (cases_eq r root);
        })))
        (cases_eq other start)

    -- the slabs that have no root's block are the same
    empty_before : (other : ℕ) → IsEmptySlab new other → IsEmptySlab t other
    empty_before other empty = record {
      slab = empty.slab;
      none = λ r some inside. ⊎_elim
          (λ (same : r ≡ root). own_no_slab other (λ none. some (ap t.root same ∙ none)) (subst (λ r. IsInSlab t other (t.root r)) same inside))
          (λ (another : r ≢ root).
          let is = other_word r another in
          empty.none r (λ none. some (sym is ∙ none)) (record { slab = inside.slab; low = omega (arith, inside.low, is); high = omega (arith, inside.high, is) }))
          (cases_eq r root);
    }

    IsTouch-large : IsTouch b t new root (large_block start count)
    IsTouch-large = record {
      sound = place.sound;
      entry = NamesOnly-none t.open_entry root place.closed;
      new_entry = NamesOnly-none t.open_entry root place.closed;
      words = other_word;
      sizes = λ other differ some. plain_size-elsewhere t start here root word (t.root other) (place.lone other differ);
      others = λ other differ some standing. others_stand other differ standing;
      apart = AreApart-others place;
      own = own_before;
      new_own = own_after;
      stands = stands;
      back = λ other range holds. inl (Holds-back t start here root word other range holds);
      held = λ other holds. absurd (IsInSlab-none place other (IsInSlab-held place.sound other (large_block start count) (Holds-back t start here root word other (large_block start count) holds)));
      extents = record {
        disjoint = disjoint;
        starts = starts;
        one_kind = λ other slab. put_at-other t.large start other here (slab-other place other slab) ∙ place.sound.extents.one_kind other slab;
      };
      slabs = place.sound.slabs;
      open_entry = λ e is. absurd (let none = place.closed in cc);
      loose = record {
        large = AtMostOne-one start loose_is;
        empty = AtMostOne-fewer empty_before place.sound.loose.empty;
        morphing = place.sound.loose.morphing;
        done = place.sound.loose.done;
      };
    }

    pub IsSound-large : IsSound b (with_large t start here root word)
    IsSound-large = IsSound-touched IsTouch-large

    pub IsSteady-large : IsSteady b t → IsSteady b (with_large t start here root word)
    IsSteady-large steady = record {
      sound = IsSound-large;
      one_done = AtMostOne-fewer (λ k (nearly : IsNearlyDone new k). spent_nearly t k nearly.slab (nearly_spent place.closed nearly)) steady.one_done;
    }

  pub IsExact-large : (here word : ℕ) → IsLargeEnd start count here word → IsExact b t → IsExact b (with_large t start here root word)
  IsExact-large here word end exact =
      let stage = IsLargeStage-end start count here word end in
      let new = with_large t start here root word in
      record {
        sound = IsSound-large here word stage;
        closed = place.closed;
        all_named = λ other live. ⊎_elim
            (λ (same : other ≡ start).
            let own : 0 < here = omega (arith, live, ap new.large same, put_at-same t.large start here) in
            (root, ⊎_elim (λ none. absurd (omega (arith, none.0, own))) (λ all. own_word here word stage ∙ all.1 ∙ ap (λ k. 16384 * k) (sym same)) end.is))
            (λ (differ : other ≢ start).
            let was : 0 < t.large other = omega (arith, live, put_at-other t.large start other here differ) in
            let named = exact.all_named other was in
            (named.0, other_word here word stage named.0 (λ same. named_other other differ was (ap t.root (sym same) ∙ named.1)) ∙ named.1))
            (cases_eq other start);
        all_live = λ other slab.
            let lives = exact.all_live other slab in
            let inside = lives.2 in
            let is = other_word here word stage lives.0 (λ same. own_no_slab other (λ none. lives.1 (ap t.root same ∙ none)) (subst (λ r. IsInSlab t other (t.root r)) same inside)) in
            (lives.0, λ none. lives.1 (sym is ∙ none), record { slab = inside.slab; low = omega (arith, inside.low, is); high = omega (arith, inside.high, is) });
        none_morphing = exact.none_morphing;
        none_done = exact.none_done;
      }
