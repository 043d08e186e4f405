-- Where a small block and its root can come or go: at an unused block of a slab's class, and at the block of a root.
use Rattle.std.proofs.Common.{◌≡◌, ◌≢◌, ℕ, ◌<◌, ◌≤◌, true, false, true≢false, refl, sym, ap, subst, ◌∙◌, arith, inl, inr, ⊎_elim, None}
use Rattle.heap_check.proofs.Common.{cases_eq, false_from_ne_true, class_size, class_capacity, class_size-least, morphing_kind, Tables, Bounds, Range, AreApart, slab_block, LiesIn-block}
use Rattle.heap_model.proofs.Sites.{class_known}
use Rattle.heap_check.specs.Heap.{is_large, is_old, entry_at, IsClaim, Holds, IsUnusedIn}
use Rattle.heap_check.specs.Sound.{IsInSlab, IsHeld, IsSound, IsExactBut}
use Rattle.heap_check.proofs.Claims.{plain_size, IsNamed-claim, IsClaim-word}
use Rattle.heap_check.proofs.Geometry.{granules_at-slab, is_large-slab, plain_size-some, one_slab}
use Rattle.heap_check.proofs.Within.{IsWithin, IsWithin-held, IsInSlab-held, IsWithin-claim, one_claim, AreApart-within}
use Rattle.heap_check.proofs.Touch.{Range-same}
use Rattle.heap_check.proofs.LiveBlocks.{old_seen, one_class}
use Rattle.heap_check.proofs.Small.{block_in, IsSmallPlace}

-- the block of a root in a slab is one that the slab holds
pub Holds-claim : {b : Bounds} {t : Tables} → IsSound b t → (root start : ℕ) (range : Range) → entry_at t.open_entry root ≡ 0 → IsClaim t root range → IsInSlab t start range.at → Holds t start range
Holds-claim {b} {t} sound root start range unnamed claim inside =
    let named = IsNamed-claim t root range unnamed claim in
    let there : IsInSlab t start (t.root root) = subst (IsInSlab t start) (sym named.word) inside in
    let wide : range.size ≡ plain_size t (t.root root) = sym named.wide ∙ ap (plain_size t) (sym named.word) in
    ⊎_elim
    (λ (large : is_large t.large (t.root root) ≡ true). absurd (true≢false (sym large ∙ is_large-slab sound start (t.root root) there)))
    (λ rest. ⊎_elim
    (λ (held : IsHeld t (t.root root)).
    let owner = sound.owned.claimed held.start held.range held.holds in
    let place : range.at ≡ held.range.at = sym named.word ∙ sym held.here in
    let some = plain_size-some sound start (t.root root) there in
    let within = IsWithin-held sound held.start held.range held.holds in
    let same = one_claim sound root owner.0 range held.range claim owner.1 place (omega (arith, wide, some)) within.some in
    let its = IsNamed-claim t root held.range unnamed (subst (λ r. IsClaim t r held.range) (sym same) owner.1) in
    let size : range.size ≡ held.range.size = sym named.wide ∙ ap (plain_size t) place ∙ its.wide in
    let slab : held.start ≡ start = one_slab sound held.start start (t.root root) (subst (IsInSlab t held.start) held.here (IsInSlab-held sound held.start held.range held.holds)) there in
    let is : held.range ≡ range = Range-same held.range range.at range.size (sym place) (sym size) in
    subst (λ s. Holds t s range) slab (subst (Holds t held.start) is held.holds))
    (λ by_entry. absurd (named.some (sym named.word ∙ sym by_entry ∙ unnamed)))
    rest)
    (sound.owned.rooted root (λ none. named.some (sym named.word ∙ none)))

-- each root's block is apart from an unused block of a slab, whichever its class
pub apart_unused : {b : Bounds} {t : Tables} → IsSound b t → t.open_entry ≡ None → (start class number : ℕ) → t.slab start ≡ true → number < class_capacity class → IsUnusedIn t start class number →
    (other : ℕ) (range : Range) → IsClaim t other range → AreApart range (slab_block start class number)
apart_unused {b} {t} sound closed start class number slab below unused other range claim =
    let block = slab_block start class number in
    let unnamed : entry_at t.open_entry other ≡ 0 = ap (λ e. entry_at e other) closed in
    let four = granules_at-slab t start slab in
    let lies = LiesIn-block start class block (record { number = number; within = below; is = refl }) in
    let some = class_size-least class (class_known class number below) in
    let there = IsWithin-claim sound other range unnamed claim in
    ⊎_elim
    (λ (same : there.0 ≡ start).
    let here : IsWithin t start range = subst (λ s. IsWithin t s range) same there.1 in
    unused.each range (Holds-claim sound other start range unnamed claim (record { slab = slab; low = here.low; high = omega (arith, here.high, here.some, four) })))
    (λ (differ : there.0 ≢ start). AreApart-within sound there.0 start range block there.1 (record { low = lies.low; high = omega (arith, lies.high, four); some = omega (arith, some) }) differ)
    (cases_eq there.0 start)

-- a block of a slab, by the number that its class gives it, while no entry is open
module _ {b : Bounds} {t : Tables} (sound : IsSound b t) (closed : t.open_entry ≡ None) (start number : ℕ) (slab : t.slab start ≡ true) (below : number < class_capacity (t.header start).class) where
  abbrev block : Range
  block = block_in t start number

  unnamed : (other : ℕ) → entry_at t.open_entry other ≡ 0
  unnamed other = ap (λ e. entry_at e other) closed

  size_some : 16 ≤ class_size (t.header start).class
  size_some = class_size-least (t.header start).class (sound.slabs start slab).state.is_class

  -- lies in it
  pub IsWithin-block : IsWithin t start (block_in t start number)
  IsWithin-block =
      let inside = LiesIn-block start (t.header start).class block (record { number = number; within = below; is = refl }) in
      record { low = inside.low; high = omega (arith, inside.high, granules_at-slab t start slab); some = omega (arith, size_some) }

  pub in_slab : (range : Range) → IsWithin t start range → IsInSlab t start range.at
  in_slab range there = record { slab = slab; low = there.low; high = omega (arith, there.high, there.some, granules_at-slab t start slab) }

  -- where its bit is set and the slab takes no other class, it is held
  pub Holds-set : (t.header start).kind ≢ morphing_kind → (t.header start).bit number ≡ true → Holds t start (block_in t start number)
  Holds-set none_morphing set = record { slab = slab; block = inl (record { number = number; below = below; read = none_morphing; set = set; is = refl }) }

  -- so the bit of an unused one is clear
  pub clear_unused : (t.header start).kind ≢ morphing_kind → IsUnusedIn t start (t.header start).class number → (t.header start).bit number ≡ false
  clear_unused none_morphing unused = false_from_ne_true ((t.header start).bit number) (λ set. ⊎_elim (λ x. omega (arith, x, size_some)) (λ x. omega (arith, x, size_some)) (unused.each block (Holds-set none_morphing set)))

  -- and no live old block begins where it does
  pub no_old-unused : IsUnusedIn t start (t.header start).class number → is_old (t.header start) start (block_in t start number).at ≡ false
  no_old-unused unused = false_from_ne_true (is_old (t.header start) start block.at) (λ is.
      let seen = old_seen (t.header start) start block.at is in
      let old = slab_block start (t.header start).old ((t.header start).number seen.0) in
      let some = class_size-least (t.header start).old (sound.slabs start slab).state.is_old_class in
      ⊎_elim (λ x. omega (arith, x, seen.3, some)) (λ x. omega (arith, x, seen.3, size_some)) (unused.each old (record { slab = slab; block = inr (record { place = seen.0; below = seen.1; live = seen.2; is = refl }) })))

  -- a held one is some root's, and no live old block begins where it does: that would be of another size
  pub no_old-held : Holds t start (block_in t start number) → is_old (t.header start) start (block_in t start number).at ≡ false
  no_old-held holds = false_from_ne_true (is_old (t.header start) start block.at) (λ is.
      let seen = old_seen (t.header start) start block.at is in
      let old = slab_block start (t.header start).old ((t.header start).number seen.0) in
      let state = (sound.slabs start slab).state in
      let some = class_size-least (t.header start).old state.is_old_class in
      let owner = sound.owned.claimed start block holds in
      let another = sound.owned.claimed start old (record { slab = slab; block = inr (record { place = seen.0; below = seen.1; live = seen.2; is = refl }) }) in
      let one : owner.0 ≡ another.0 = one_claim sound owner.0 another.0 block old owner.1 another.1 (sym seen.3) (omega (arith, size_some)) (omega (arith, some)) in
      let same : class_size (t.header start).old ≡ class_size (t.header start).class = one_size owner.0 old block (subst (λ r. IsClaim t r old) (sym one) another.1) owner.1 seen.3 in
      state.differ (λ normal. omega (arith, seen.1, (state.none normal).1)) (one_class (t.header start).old (t.header start).class state.is_old_class state.is_class same))
    where
      one_size : (root : ℕ) (range other : Range) → IsClaim t root range → IsClaim t root other → range.at ≡ other.at → range.size ≡ other.size
      one_size root range other first second at = sym first.wide ∙ second.wide

-- A slab takes no other class in an image that is exact but for a slab.
pub none_morphing_but : {b : Bounds} {t : Tables} {start : ℕ} → IsExactBut b t start → (other : ℕ) → t.slab other ≡ true → (t.header other).kind ≢ morphing_kind
none_morphing_but {b} {t} {start} but other slab kind = but.none_morphing other (record { slab = slab; kind = kind })

module _ {b : Bounds} {t : Tables} (root start number : ℕ) (but : IsExactBut b t start) (first : 0 < b.first) (rooted : root < b.roots) (slab : t.slab start ≡ true) (below : number < class_capacity (t.header start).class) where
  -- an unused block, and a root without a block
  pub IsSmallPlace-unused : IsUnusedIn t start (t.header start).class number → t.root root ≡ 0 → IsSmallPlace b t root start number
  IsSmallPlace-unused unused none = record {
    but = but;
    first = first;
    rooted = rooted;
    slab = slab;
    below = below;
    no_old = no_old-unused but.sound but.closed start number slab below unused;
    was = inl (clear_unused but.sound but.closed start number slab below (none_morphing_but but start slab) unused, none);
    apart = λ other range differ claim. apart_unused but.sound but.closed start (t.header start).class number slab below unused other range claim;
  }

  -- the block that a root names
  pub IsSmallPlace-named : (t.header start).bit number ≡ true → t.root root ≡ (block_in t start number).at → IsSmallPlace b t root start number
  IsSmallPlace-named set has =
      let sound = but.sound in
      let block = block_in t start number in
      let unnamed : (other : ℕ) → entry_at t.open_entry other ≡ 0 = λ other. ap (λ e. entry_at e other) but.closed in
      let within = IsWithin-block sound but.closed start number slab below in
      let holds = Holds-set sound but.closed start number slab below (none_morphing_but but start slab) set in
      let owner = sound.owned.claimed start block holds in
      let its = IsNamed-claim t owner.0 block (unnamed owner.0) owner.1 in
      let claim = IsClaim-word t root (unnamed root) (λ none. its.some (sym has ∙ none)) in
      let mine = in_slab sound but.closed start number slab below block within in
      let some = plain_size-some sound start (t.root root) (subst (IsInSlab t start) (sym has) mine) in
      let same : root ≡ owner.0 = one_claim sound root owner.0 _ block claim owner.1 has some within.some in
      record {
        but = but;
        first = first;
        rooted = rooted;
        slab = slab;
        below = below;
        no_old = no_old-held sound but.closed start number slab below holds;
        was = inr (set, has);
        apart = λ other range differ claim. sound.owned.apart other owner.0 range block (λ is. differ (is ∙ sym same)) claim owner.1;
      }
