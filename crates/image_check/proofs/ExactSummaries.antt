-- A sound image is exact where its summary counts nothing loose, and back.
use Rattle.std.proofs.Common.{Option, None, Some, ◌≡◌, ◌≢◌, ℕ, ◌*◌, ◌<◌, Bool, true, false, eqb, List, refl, sym, ap, ◌∙◌, arith, ⊎_elim}
use Rattle.std.proofs.lemmas.Bool.{cases_eq, cond-true, eq-eqb}
use Rattle.pool_layout.specs.Layout.{layout_of}
use Rattle.pool_layout.proofs.Layouts.{layout_rules}
use Rattle.pool_layout.specs.Header.{version_in, granules_in}
use Rattle.image_tables.specs.declared.entry.WalEntry.{WalEntry}
use Rattle.image_tables.specs.Tables.{tables_of}
use Rattle.heap_check.specs.Heap.{entry_at}
use Rattle.heap_check.specs.Sound.{IsLooseLarge, IsEmptySlab, IsMorphing, IsDoneSlab, IsExact}
use Rattle.heap_check.specs.Image.{bounds_of, IsSoundImage, IsExactImage}
use Rattle.heap_check.proofs.Geometry.{granules_at-slab, granules_at-large}
use Rattle.image_defects.specs.declared.summary.Summary.{Summary}
use Rattle.image_defects.specs.Summaries.{IsLooseBlock, entry_count, IsSummary}
use Rattle.image_defects.proofs.Counts.{none_below, count_once}
use Rattle.defect_search.proofs.NoneLoose.{exact_by_none}
use Rattle.image_check.proofs.LooseBlocks.{count_none, heap_some}

no_entry : (e : Option WalEntry) → entry_count e ≡ 0 → e ≡ None
no_entry None none = refl
no_entry (Some entry) none = absurd (omega (arith, none))

some_count : (e : Option WalEntry) → e ≡ None → entry_count e ≡ 0
some_count e none = ap entry_count none

first_some : (version : ℕ) → 0 < (layout_of version).first_granule
first_some version = omega (arith, (layout_rules version).first)

module _ {words : List ℕ} {summary : Summary} (sound : IsSoundImage words) (is : IsSummary words summary) where
  slab_start : (start : ℕ) → (tables_of words).slab start ≡ true → (0 < start) × (start < granules_in words)
  slab_start start slab =
      let four = granules_at-slab (tables_of words) start slab in
      let lies = sound.sound.extents.starts start (omega (arith, four)) in
      (omega (arith, lies.0, first_some (version_in words)), omega (arith, lies.1, four))

  large_start : (start : ℕ) → 0 < (tables_of words).large start → (0 < start) × (start < granules_in words)
  large_start start some = by ((tables_of words).slab start) refl
    where
      by : (slab : Bool) → (tables_of words).slab start ≡ slab → (0 < start) × (start < granules_in words)
      by true slab = absurd (omega (arith, some, sound.sound.extents.one_kind start slab))
      by false none =
          let size = granules_at-large (tables_of words) start none in
          let lies = sound.sound.extents.starts start (omega (arith, size, some)) in
          (omega (arith, lies.0, first_some (version_in words)), omega (arith, lies.1, size, some))

  pub exact_of : summary.loose ≡ 0 → IsExactImage words
  exact_of nought =
      let t = tables_of words in
      let n = granules_in words in
      let l = is.loose in
      exact_by_none words sound (no_entry t.open_entry (omega (arith, l.is, nought)))
      (record { none = λ start x. none_below (IsLooseLarge t) n l.loose.large l.are.large (omega (arith, l.is, nought)) start (large_start start x.live).1 x })
      (record { none = λ start x. none_below (IsEmptySlab t) n l.loose.empty l.are.empty (omega (arith, l.is, nought)) start (slab_start start x.slab).1 x })
      (record { none = λ start x. none_below (IsMorphing t) n l.loose.morphing l.are.morphing (omega (arith, l.is, nought)) start (slab_start start x.slab).1 x })
      (record { none = λ start x. none_below (IsDoneSlab t) n l.loose.done l.are.done (omega (arith, l.is, nought)) start (slab_start start x.slab).1 x })

  pub none_loose : IsExactImage words → summary.loose ≡ 0
  none_loose image =
      let t = tables_of words in
      let n = granules_in words in
      let l = is.loose in
      let x : IsExact (bounds_of words) t = image.exact in
      let no_block : (at : ℕ) → at < 16384 * n → ¬ (IsLooseBlock t at) = λ at below block.
      let claim = x.sound.owned.claimed block.start block.range block.holds in
      ⊎_elim
      (λ (none : t.root claim.0 ≡ 0). claim.1.some (sym claim.1.place ∙ cond-true (eqb (t.root claim.0) 0) (entry_at t.open_entry claim.0) (t.root claim.0) (eq-eqb (t.root claim.0) 0 none) ∙ ap (λ e. entry_at e claim.0) x.closed))
      (λ (some : t.root claim.0 ≢ 0). block.none claim.0 (heap_some t claim.0 block.range some claim.1))
      (cases_eq (t.root claim.0) 0) in
      let held = count_once (IsLooseBlock t) (16384 * n) l.held 0 l.blocks (count_none (IsLooseBlock t) (16384 * n) no_block) in
      let large = count_once (IsLooseLarge t) n l.loose.large 0 l.are.large (count_none (IsLooseLarge t) n (λ k below loose. let root = x.all_named k loose.live in loose.unnamed root.0 root.1)) in
      let empty = count_once (IsEmptySlab t) n l.loose.empty 0 l.are.empty (count_none (IsEmptySlab t) n (λ k below slab. let root = x.all_live k slab.slab in slab.none root.0 root.1 root.2)) in
      let morphing = count_once (IsMorphing t) n l.loose.morphing 0 l.are.morphing (count_none (IsMorphing t) n (λ k below m. x.none_morphing k m)) in
      let done = count_once (IsDoneSlab t) n l.loose.done 0 l.are.done (count_none (IsDoneSlab t) n (λ k below d. x.none_done k d)) in
      omega (arith, l.is, some_count t.open_entry x.closed, held, large, empty, morphing, done)
