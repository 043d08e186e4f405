-- A block moves from a root to another: the image at each of the stores.
use Rattle.std.proofs.Common.{◌≡◌, ◌≢◌, ◌⊎◌, ℕ, ◌<◌, ◌≤◌, List, length, refl, sym, ap, subst, ◌∙◌, arith, inl, inr, ⊎_elim, Option, Some, None}
use Rattle.pmem_lines.specs.Words.{put_word}
use Rattle.pmem_lines.proofs.Words.{word_at-put_other, length-put_word}
use Rattle.pool_layout.specs.Layout.{layout_of}
use Rattle.pool_layout.specs.Places.{fields_word, root_word, wal_word}
use Rattle.pool_layout.specs.Header.{version_in}
use Rattle.image_tables.specs.declared.entry.WalEntry.{WalEntry}
use Rattle.image_tables.specs.declared.entry.WalEntry.TheVariants.{Move}
use Rattle.image_tables.specs.Forms.{IsWalWord}
use Rattle.image_tables.specs.Tables.{held_of, Tables, AreSlabsInHeap, is_slab, is_slab_of, wal_lines, tables_of}
use Rattle.image_tables.specs.Updates.{put_at, with_open_entry}
use Rattle.image_tables.proofs.Updates.{put_at-same, put_at-other}
use Rattle.image_tables.proofs.Extents.{extent_at-elsewhere}
use Rattle.image_tables.proofs.Stores.{few_lines, closed_words, HasNoMove-closed, roots_plain, extent_at-put_root, wal_word-put_root, IsOffLog-wal, tables_store_root}
use Rattle.attach_wal.specs.Entry.{entry_word, FitsWord}
use Rattle.attach_wal.proofs.Words.{IsWalWord-entry}
use Rattle.attach_wal.specs.Wal.{HasNoOther, Opens, Closes}
use Rattle.heap_model.specs.Machine.{Bounds}
use Rattle.heap_check.specs.Sound.{IsSound}
use Rattle.heap_check.specs.Image.{bounds_of, IsFormed}
use Rattle.heap_check.proofs.Forms.{AreSlabsInHeap-sound, bounds_of-put_word, IsFormed-put_root, IsFormed-put_wal}
use Rattle.heap_check.proofs.Sizes.{sizes_of, root_inside}
use Rattle.move_steps.specs.Moves.{IsMovable, KeepsAllButMove}
use Rattle.settle_steps.proofs.Images.{IsRootPlace, root_place}
use Rattle.settle_steps.proofs.Renamed.{renamed, IsRenaming}
use Rattle.move_steps.proofs.HeldRoots.{swapped, swapped_to, swapped_back, held_opened, held_both, held_moved, held_released_moved}

-- the image is as the words are, but that the root words and the open entry are these, and that each root holds what the one
-- that it is renamed to held
pub record IsStageOf (words : List ℕ) (line from to : ℕ) (word name : ℕ → ℕ) (entry : Option WalEntry) (image : List ℕ) : Type 0 where
  pub formed : IsFormed image
  pub bounds : bounds_of image ≡ bounds_of words
  pub slabs : AreSlabsInHeap image
  pub alone : HasNoOther image line
  pub tables : tables_of image ≡ renamed (tables_of words) word name entry
  pub rest : KeepsAllButMove words line from to image

-- what one store is to
abbrev pub IsOneOf : ℕ → ℕ → ℕ → ℕ → Type 0
IsOneOf line from to k = (k ≡ wal_word line) ⊎ ((k ≡ root_word from) ⊎ (k ≡ root_word to))

-- no root holds another's block
abbrev pub same_name : ℕ → ℕ
same_name r = r

module _ (words : List ℕ) (line from to at : ℕ) (may : IsMovable words from to at) (line_below : line < 8) where
  abbrev t : Tables
  t = tables_of words

  abbrev own : WalEntry
  own = Move from to

  sound : IsSound (bounds_of words) t
  sound = may.image.exact.sound

  line_one : line < wal_lines
  line_one = omega (arith, few_lines, line_below)

  pub wal_inside : wal_word line < length words
  wal_inside = let sizes = sizes_of words may.image.formed in omega (arith, sizes.size, sizes.least, line_below)

  pub from_place : IsRootPlace words from
  from_place = root_place words from may.image.formed may.from_rooted

  pub to_place : IsRootPlace words to
  to_place = root_place words to may.image.formed may.to_rooted

  pub fits : FitsWord (Move from to)
  fits = (from_place.low, to_place.low)

  pub differ : from ≢ to
  differ same = may.some (sym may.named ∙ ap t.root same ∙ may.none)

  -- before, each root holds its word

  pub plain_roots : (tables_of words).root ≡ (tables_of words).word
  plain_roots = roots_plain words (HasNoMove-closed may.image.exact.closed)

  word_from : t.word from ≡ at
  word_from = sym (λ i. plain_roots i from) ∙ may.named

  word_to : t.word to ≡ 0
  word_to = sym (λ i. plain_roots i to) ∙ may.none

  -- the root words at each of the stages

  abbrev pub both_words : ℕ → ℕ
  both_words = put_at (tables_of words).word to at

  abbrev pub new_words : ℕ → ℕ
  new_words = put_at (put_at (tables_of words).word to at) from 0

  -- what roots hold at each of them

  as_before : held_of (Some own) t.word ≡ (λ r. t.root r)
  as_before i r = (held_opened t.word from to differ word_to r ∙ sym (λ j. plain_roots j r)) i

  with_both : held_of (Some own) (put_at t.word to at) ≡ (λ r. t.root (swapped from to r))
  with_both i r =
      (ap (λ a. held_of (Some own) (put_at t.word to a) r) (sym word_from)
      ∙ held_both t.word from to differ word_to (λ none. may.some (sym word_from ∙ none)) r
      ∙ sym (λ j. plain_roots j (swapped from to r))) i

  with_one : held_of (Some own) (put_at (put_at t.word to at) from 0) ≡ (λ r. t.root (swapped from to r))
  with_one i r =
      (ap (λ a. held_of (Some own) (put_at (put_at t.word to a) from 0) r) (sym word_from)
      ∙ held_released_moved t.word from to differ word_to r
      ∙ sym (λ j. plain_roots j (swapped from to r))) i

  pub as_moved : put_at (put_at (tables_of words).word to at) from 0 ≡ (λ r. (tables_of words).root (swapped from to r))
  as_moved i r =
      (ap (λ a. put_at (put_at t.word to a) from 0 r) (sym word_from)
      ∙ held_moved t.word from to differ word_to r
      ∙ sym (λ j. plain_roots j (swapped from to r))) i

  -- the words as they are
  pub stage_begin : IsStageOf words line from to (tables_of words).word same_name None words
  stage_begin =
      let closed = may.image.exact.closed in
      record {
        formed = may.image.formed;
        bounds = refl;
        slabs = AreSlabsInHeap-sound words sound;
        alone = record { closed = λ other below apart. closed_words words closed other below };
        tables = λ i. record t { open_entry = closed i };
        rest = record { same_length = refl; others = λ k wal first second. refl };
      }

  -- one store of the sequence
  stage_put : (word new_word name new_name : ℕ → ℕ) (entry new_entry : Option WalEntry) (made : List ℕ) (k value : ℕ) → IsStageOf words line from to word name entry made → IsOneOf line from to k →
      IsFormed (put_word made k value) → ((other : ℕ) → is_slab (put_word made k value) other ≡ is_slab made other) → HasNoOther (put_word made k value) line →
      tables_of (put_word made k value) ≡ renamed t new_word new_name new_entry → IsStageOf words line from to new_word new_name new_entry (put_word made k value)
  stage_put word new_word name new_name entry new_entry made k value stage one well slab_is alone tables =
      let bounds = bounds_of-put_word made k value (λ e. not_fields k one e) in
      record {
        formed = well;
        bounds = bounds ∙ stage.bounds;
        slabs = record { low = λ other there. subst (λ (b : Bounds). b.first ≤ other) (sym bounds) (stage.slabs.low other (sym (slab_is other) ∙ there)) };
        alone = alone;
        tables = tables;
        rest = record {
          same_length = length-put_word made k value ∙ stage.rest.same_length;
          others = λ j wal first second. word_at-put_other made k j value (λ e. other_than k j one wal first second e) ∙ stage.rest.others j wal first second;
        };
      }
    where
      not_fields : (k : ℕ) → IsOneOf line from to k → fields_word ≢ k
      not_fields k one e = ⊎_elim (λ x. omega (arith, x, e)) (λ y. ⊎_elim (λ x. omega (arith, x, e)) (λ x. omega (arith, x, e)) y) one

      other_than : (k j : ℕ) → IsOneOf line from to k → j ≢ wal_word line → j ≢ root_word from → j ≢ root_word to → j ≢ k
      other_than k j one wal first second e = ⊎_elim (λ x. wal (e ∙ x)) (λ y. ⊎_elim (λ x. first (e ∙ x)) (λ x. second (e ∙ x)) y) one

  module _ (word name : ℕ → ℕ) (entry : Option WalEntry) (made : List ℕ) (stage : IsStageOf words line from to word name entry made) where
    -- a write-ahead word is stored
    wal_stage : (value : ℕ) (new_name : ℕ → ℕ) (new_entry : Option WalEntry) → (value ≢ 0 → IsWalWord value) → tables_of (put_word made (wal_word line) value) ≡ renamed t word new_name new_entry →
        IsStageOf words line from to word new_name new_entry (put_word made (wal_word line) value)
    wal_stage value new_name new_entry valid tables =
        stage_put word word name new_name entry new_entry made (wal_word line) value stage (inl refl)
        (IsFormed-put_wal made line value stage.formed line_one stage.slabs stage.alone.closed valid (omega (arith, wal_inside, stage.rest.same_length)))
        (λ other. ap is_slab_of (extent_at-elsewhere made (wal_word line) value other (IsOffLog-wal made line line_one)))
        (record { closed = λ other below apart. word_at-put_other made (wal_word line) (wal_word other) value (λ e. apart (omega (arith, e))) ∙ stage.alone.closed other below apart })
        tables

    -- the entry is closed
    pub stage_close : (image : List ℕ) → word ≡ (λ r. (tables_of words).root (name r)) → Closes made line image → IsStageOf words line from to word name None image
    stage_close image held closes =
        subst (λ (ws : List ℕ). IsStageOf words line from to word name None ws) (sym closes.is)
        (wal_stage 0 name None (λ some. absurd (some refl))
        (ap (λ (ws : List ℕ). tables_of ws) (sym closes.is)
        ∙ closes.tables stage.slabs stage.alone
        ∙ ap (λ (x : Tables). with_open_entry x None) stage.tables
        ∙ (λ i. record t { word = word; root = held i; open_entry = None })))

    -- a root's word is stored
    root_stage : (root value : ℕ) (new_name : ℕ → ℕ) → (root ≡ from) ⊎ (root ≡ to) → root < (bounds_of words).roots → held_of entry (put_at word root value) ≡ (λ r. t.root (new_name r)) →
        IsStageOf words line from to (put_at word root value) new_name entry (put_word made (root_word root) value)
    root_stage root value new_name which rooted held =
        let k = root_word root in
        let among : root < (layout_of (version_in made)).roots = subst (λ (b : Bounds). root < b.roots) (sym stage.bounds) rooted in
        let inside : root_word root < length made = root_inside made root stage.formed among in
        stage_put word (put_at word root value) name new_name entry entry made k value stage
        (inr (⊎_elim (λ is. inl (ap (λ r. root_word r) is)) (λ is. inr (ap (λ r. root_word r) is)) which))
        (IsFormed-put_root made root value stage.formed among inside stage.slabs)
        (λ other. ap is_slab_of (extent_at-put_root made root value other among))
        (record { closed = λ other below apart. wal_word-put_root made root value other below ∙ stage.alone.closed other below apart })
        (tables_store_root made root value among inside stage.slabs
        ∙ ap (λ (x : Tables). record x { word = put_at x.word root value; root = held_of x.open_entry (put_at x.word root value) }) stage.tables
        ∙ (λ i. record t { word = put_at word root value; root = held i; open_entry = entry }))

  -- the entry is open
  pub stage_open : (image : List ℕ) → Opens words line (Move from to) image → IsStageOf words line from to (tables_of words).word same_name (Some (Move from to)) image
  stage_open image opens =
      subst (λ (ws : List ℕ). IsStageOf words line from to t.word same_name (Some own) ws) (sym opens.is)
      (wal_stage t.word same_name None words stage_begin (entry_word own) same_name (Some own) (λ some. IsWalWord-entry own fits)
      (ap (λ (ws : List ℕ). tables_of ws) (sym opens.is)
      ∙ opens.tables stage_begin.slabs may.image.exact.closed
      ∙ (λ i. record t { root = as_before i; open_entry = Some own })))

  -- the second root has the address
  pub stage_to : (made : List ℕ) → IsStageOf words line from to (tables_of words).word same_name (Some (Move from to)) made → IsStageOf words line from to both_words (swapped from to) (Some (Move from to)) (put_word made (root_word to) at)
  stage_to made stage = root_stage t.word same_name (Some own) made stage to at (swapped from to) (inr refl) may.to_rooted with_both

  -- the first has none
  pub stage_from : (made : List ℕ) → IsStageOf words line from to both_words (swapped from to) (Some (Move from to)) made → IsStageOf words line from to new_words (swapped from to) (Some (Move from to)) (put_word made (root_word from) 0)
  stage_from made stage = root_stage both_words (swapped from to) (Some own) made stage from 0 (swapped from to) (inl refl) may.from_rooted with_one

  -- each of them is a renaming

  pub begins : IsRenaming (bounds_of words) (tables_of words) from to (tables_of words).word same_name None
  begins = record { back = λ r. refl; is = inl refl }

  pub opened : IsRenaming (bounds_of words) (tables_of words) from to (tables_of words).word same_name (Some (Move from to))
  opened = record {
    back = λ r. refl;
    is = inr (refl, record { low = may.from_rooted; high = may.to_rooted; differ = differ; some = inl (λ none. may.some (sym word_from ∙ none)); same = λ first second. absurd (second word_to) });
  }

  pub both_open : IsRenaming (bounds_of words) (tables_of words) from to both_words (swapped from to) (Some (Move from to))
  both_open =
      let here : put_at t.word to at to ≡ at = put_at-same t.word to at in
      let there : put_at t.word to at from ≡ at = put_at-other t.word to from at differ ∙ word_from in
      record {
        back = swapped_back from to differ;
        is = inr (refl, record { low = may.from_rooted; high = may.to_rooted; differ = differ; some = inr (λ none. may.some (sym here ∙ none)); same = λ first second. there ∙ sym here });
      }

  pub new_open : IsRenaming (bounds_of words) (tables_of words) from to new_words (swapped from to) (Some (Move from to))
  new_open =
      let here : new_words to ≡ at = put_at-other both_words from to 0 (λ same. differ (sym same)) ∙ put_at-same t.word to at in
      record {
        back = swapped_back from to differ;
        is = inr (
          refl,
          record {
            low = may.from_rooted;
            high = may.to_rooted;
            differ = differ;
            some = inr (λ none. may.some (sym here ∙ none));
            same = λ first second. absurd (first (put_at-same both_words from 0));
          },
        );
      }

  pub new_closed : IsRenaming (bounds_of words) (tables_of words) from to new_words (swapped from to) None
  new_closed = record { back = swapped_back from to differ; is = inl refl }

  -- the second root holds its word at each of them

  pub held_before : (tables_of words).root (same_name to) ≡ (tables_of words).word to
  held_before i = plain_roots i to

  pub held_with_both : (tables_of words).root (swapped from to to) ≡ both_words to
  held_with_both = ap t.root (swapped_to from to differ) ∙ may.named ∙ sym (put_at-same t.word to at)

  pub held_new : (tables_of words).root (swapped from to to) ≡ new_words to
  held_new = sym (λ i. as_moved i to)
