-- A block of a slab comes to its root, or goes from it, under an entry: what is read behind the stores, what each image of a
-- crash is, and the sequence whole.
use Rattle.std.proofs.Common.{◌≡◌, ℕ, ◌*◌, ◌<◌, List, subst, arith, ◌≢◌, ◌⊎◌, Bool, true, false, length, refl, sym, ap, ◌∙◌, inl, inr, ⊎_elim, Option, Some, None}
use Rattle.attach_steps.proofs.Common.{word_at, put_word, word_at-put_other, PmemState, words_of, Appends, reading, IsQuietStep, pair_events, IsOldOrNewPair, Opens, length-put_word, root_word, WalEntry, Tables, tables_of, HaveSameHeap, sizes_of, IsStage, word_events, wal_word, HasNoMove, entry_word, OpensOrNot, Closes, ClosesOrNot, Range, IsDoneSlab, IsEitherHeap, under_entry}
use Rattle.pmem_lines.specs.declared.event.Event.{Event}
use Rattle.pmem_lines.specs.Events.{IsQuiet}
use Rattle.pmem_lines.proofs.Steps.{step_of, step_then}
use Rattle.durable_steps.proofs.Steps.{IsQuiet-pair, pair_crash}
use Rattle.attach_steps.proofs.Stages.{BlockSite, IsBlockSite, start_low, in_heap, tables_with, IsStageOf, stage_root, root_before, stage_open, stage_close}
use Rattle.std.proofs.lemmas.Bool.{cases_eq}
use Rattle.durable_steps.specs.Steps.{IsOldOrNewWord}
use Rattle.heap_check.specs.Heap.{heap}
use Rattle.heap_check.specs.Image.{IsSteadyImage, IsExactImage, IsExactButImage}
use Rattle.heap_check.specs.State.{KeepsBlocks}
use Rattle.heap_check.proofs.BlockWords.{block_word-heap, block_word-header}
use Rattle.heap_check.proofs.OneBlock.{IsSteady-one, heap-one_other, heap-one_some, heap-one_none, IsExactBut-one, IsExact-one}
use Rattle.heap_check.specs.Sound.{HasOther}
use Rattle.attach_steps.specs.Steps.{GivesOne}

-- behind a pair of stores
pub reading_pair : (words : List ℕ) (a x b y : ℕ) → reading words (pair_events (8 * a) x (8 * b) y) ≡ put_word (put_word words a x) b y
reading_pair words a x b y = grind arith

-- a pair of stores under one fence is a step
pub pair_step : {s t : PmemState} {events : List Event} (at value after word : ℕ) → events ≡ pair_events at value after word → Appends s t events → IsQuiet s.events → IsQuietStep s t (pair_events at value after word) (IsOldOrNewPair (words_of s) at value after word)
pair_step {s} {t} at value after word is done quiet =
    step_of (subst (λ (es : List Event). Appends s t es) is done) (IsQuiet-pair at value after word) quiet (pair_crash (words_of s) at value after word)

-- the entry is open, and the header's word is as it was
pub opened_word : {words : List ℕ} {line root : ℕ} {site : BlockSite} → IsBlockSite words root site → line < 8 → (made : List ℕ) → Opens words line site.own made → word_at made site.k ≡ word_at words site.k
opened_word {words} {line} {root} {site} is line_below made opens = grind (arith, word_at-put_other, start_low)

module _ {words : List ℕ} {line root : ℕ} {site : BlockSite} (is : IsBlockSite words root site) (line_below : line < 8) where
  abbrev t : Tables
  t = tables_of words

  abbrev at : ℕ
  at = site.block.at

  -- the stages that may be

  pub while_open : (on : Bool) (word : ℕ) → (word ≡ 0) ⊎ (word ≡ site.block.at) → IsStage site.own site.block.at on word (Some site.own)
  while_open on word either = record { is = inl (refl, either) }

  pub with_none : IsStage site.own site.block.at false 0 None
  with_none = record { is = inr (refl, inl (refl, refl)) }

  pub with_both : IsStage site.own site.block.at true site.block.at None
  with_both = record { is = inr (refl, inr (refl, refl)) }

  module _ {on : Bool} {word : ℕ} {entry : Option WalEntry} {image : List ℕ} (may : IsStage site.own site.block.at on word entry) (stage : IsStageOf words line root site on word entry image) where
    -- each is steady
    pub steady : IsSteadyImage image
    steady = record { formed = stage.formed; steady = rw (stage.bounds, stage.tables) (IsSteady-one is.one on word entry may) }

    -- keeps the words of blocks
    pub keeps : KeepsBlocks words image
    keeps = record {
      each = λ r other range k was _ within.
          let but = is.one.but in
          let sizes = sizes_of words is.formed in
          let high = block_word-heap but.sound but.closed r range was k within in
          let off = block_word-header but.sound but.closed r range was k within site.start is.one.lies.slab in
          grind (arith, root_before);
    }

    -- and has the old heap, but for the root
    pub heap_other : (r : ℕ) → r ≢ root → heap (tables_of image) r ≡ heap (tables_of words) r
    heap_other r differ = ap (λ (x : Tables). heap x r) stage.tables ∙ heap-one_other is.one on word entry may r differ

    pub heap_some : word ≡ site.block.at → heap (tables_of image) root ≡ Some site.block
    heap_some has = ap (λ (x : Tables). heap x root) stage.tables ∙ heap-one_some is.one on word entry may has

    pub heap_none : word ≡ 0 → heap (tables_of image) root ≡ None
    heap_none none = ap (λ (x : Tables). heap x root) stage.tables ∙ ap (λ w. heap (tables_with words root site on w entry) root) none ∙ heap-one_none is.one on entry

  -- two stages in which the root has the block, or has none, have one heap
  pub same_heap : {on other_on : Bool} {word other_word : ℕ} {entry other_entry : Option WalEntry} {image other : List ℕ} → IsStage site.own site.block.at on word entry → IsStage site.own site.block.at other_on other_word other_entry →
      IsStageOf words line root site on word entry image → IsStageOf words line root site other_on other_word other_entry other →
      ((word ≡ 0) × (other_word ≡ 0)) ⊎ ((word ≡ site.block.at) × (other_word ≡ site.block.at)) → HaveSameHeap other image
  same_heap {on} {other_on} {word} {other_word} {entry} {other_entry} {image} {other} first second here there both =
      let at_root : heap (tables_of image) root ≡ heap (tables_of other) root =
      ⊎_elim (λ none. heap_none first here none.0 ∙ sym (heap_none second there none.1)) (λ has. heap_some first here has.0 ∙ sym (heap_some second there has.1)) both in
      record {
        each = λ r. ⊎_elim
            (λ (same : r ≡ root). ap (heap (tables_of image)) same ∙ at_root ∙ ap (heap (tables_of other)) (sym same))
            (λ (differ : r ≢ root). heap_other first here r differ ∙ sym (heap_other second there r differ))
            (cases_eq r root);
      }

  -- images under the open entry

  -- some stage with the entry open
  pub record IsUnderEntry (image : List ℕ) : Type 0 where
    pub on : Bool
    pub word : ℕ
    pub either : (word ≡ 0) ⊎ (word ≡ site.block.at)
    pub stage : IsStageOf words line root site on word (Some site.own) image

  -- A value makes the slab hold the block, or not, over any words of a stage that have the same word there.
  pub record PutsOver (made : List ℕ) (value : ℕ) (new_on : Bool) : Type 0 where
    pub each : (on : Bool) (word : ℕ) (image : List ℕ) → length image ≡ length made → word_at image site.k ≡ word_at made site.k → IsStageOf words line root site on word (Some site.own) image →
        IsStageOf words line root site new_on word (Some site.own) (put_word image site.k value)

  -- a word is put, or not
  put_or_not : (made : List ℕ) (k value : ℕ) (image : List ℕ) → IsUnderEntry made → IsUnderEntry (put_word made k value) → IsOldOrNewWord made (8 * k) value image → IsUnderEntry image
  put_or_not made k value image old new either = grind arith

  header_under : (made between : List ℕ) (value : ℕ) (new_on : Bool) → PutsOver made value new_on → length between ≡ length made → word_at between site.k ≡ word_at made site.k → IsUnderEntry between →
      (image : List ℕ) → IsOldOrNewWord between (8 * site.k) value image → IsUnderEntry image
  header_under made between value new_on over size same under image left =
      put_or_not between site.k value image under (record { on = new_on; word = under.word; either = under.either; stage = over.each under.on under.word between size same under.stage }) left

  root_under : (made : List ℕ) (value : ℕ) → (value ≡ 0) ⊎ (value ≡ site.block.at) → IsUnderEntry made → (image : List ℕ) → IsOldOrNewWord made (8 * root_word root) value image → IsUnderEntry image
  root_under made value either under image left =
      put_or_not made (root_word root) value image under (record { on = under.on; word = value; either = either; stage = stage_root is line_below under.stage value }) left

  -- the header's word and then the root's
  pub mark_under : (made : List ℕ) (value : ℕ) → IsUnderEntry made → PutsOver made value true →
      (image : List ℕ) → IsOldOrNewPair made (8 * site.k) value (8 * root_word root) site.block.at image → IsUnderEntry image
  mark_under made value under over image left =
      root_under left.between site.block.at (inr refl) (header_under made made value true over refl refl under left.between left.first_word) image left.second_word

  -- a store of the root leaves the header's word
  pub kept_by_root : (made between : List ℕ) (value : ℕ) → IsOldOrNewWord made (8 * root_word root) value between → (length between ≡ length made) × (word_at between site.k ≡ word_at made site.k)
  kept_by_root made between value left = grind (arith, length-put_word, word_at-put_other, start_low, in_heap, root_before)

  -- the root's word and then the header's
  pub unmark_under : (made : List ℕ) (value : ℕ) → IsUnderEntry made → PutsOver made value false →
      (image : List ℕ) → IsOldOrNewPair made (8 * root_word root) 0 (8 * site.k) value image → IsUnderEntry image
  unmark_under made value under over image left =
      let kept = kept_by_root made left.between 0 left.first_word in
      header_under made left.between value false over kept.0 kept.1 (root_under made 0 (inl refl) under left.between left.first_word) image left.second_word

  -- The slab holds the block or not, and the root has it or not, before a sequence and behind it.
  pub record IsPassage (on new_on : Bool) (word new_word : ℕ) : Type 0 where
    pub before : IsStage site.own site.block.at on word None
    pub behind : IsStage site.own site.block.at new_on new_word None
    pub ways : ((word ≡ 0) × (new_word ≡ site.block.at)) ⊎ ((word ≡ site.block.at) × (new_word ≡ 0))

  pub comes : IsPassage false true 0 site.block.at
  comes = record { before = with_none; behind = with_both; ways = inl (refl, refl) }

  pub goes : IsPassage true false site.block.at 0
  goes = record { before = with_both; behind = with_none; ways = inr (refl, refl) }

  -- Two stores under one fence lead from the one stage to the other, and each crash within leaves some stage.
  pub record Leads (made left : List ℕ) (first a second b : ℕ) (on new_on : Bool) (word new_word : ℕ) : Type 0 where
    pub stage : IsStageOf words line root site on word (Some site.own) made → IsStageOf words line root site new_on new_word (Some site.own) left
    pub under : IsUnderEntry made → (image : List ℕ) → IsOldOrNewPair made first a second b image → IsUnderEntry image

  -- the header's word and then the root's
  pub marks : (made left : List ℕ) (value : ℕ) → PutsOver made value true → left ≡ reading made (pair_events (8 * site.k) value (8 * root_word root) site.block.at) →
      Leads made left (8 * site.k) value (8 * root_word root) site.block.at false true 0 site.block.at
  marks made left value puts left_is = record {
    stage = λ stage. rw (left_is, reading_pair made site.k value (root_word root) at) (stage_root is line_below (puts.each false 0 made refl refl stage) at);
    under = λ under. mark_under made value under puts;
  }

  -- the root's word and then the header's
  pub unmarks : (made left : List ℕ) (value : ℕ) → PutsOver made value false → left ≡ reading made (pair_events (8 * root_word root) 0 (8 * site.k) value) →
      Leads made left (8 * root_word root) 0 (8 * site.k) value true false site.block.at 0
  unmarks made left value puts left_is = record {
    stage = λ stage.
        let kept = kept_by_root made (put_word made (root_word root) 0) 0 (record { is = inr (ap (λ i. put_word made i 0) (omega arith)) }) in
        rw (left_is, reading_pair made (root_word root) 0 site.k value) (puts.each true 0 (put_word made (root_word root) 0) kept.0 kept.1 (stage_root is line_below stage 0));
    under = λ under. unmark_under made value under puts;
  }

  -- behind a sequence
  module _ {on : Bool} {word : ℕ} {new : List ℕ} (may : IsStage site.own site.block.at on word None) (ends : IsStageOf words line root site on word None new) where
    pub exact_but : IsExactButImage new site.start
    exact_but = record { formed = ends.formed; but = rw (ends.bounds, ends.tables) (IsExactBut-one is.one on word may) }

    pub exact_end : ¬ (IsDoneSlab (tables_with words root site on word None) site.start) → (word ≡ site.block.at) ⊎ HasOther (tables_of words) root site.start → IsExactImage new
    exact_end lively held = record { formed = ends.formed; exact = rw (ends.bounds, ends.tables) (IsExact-one is.one on word may lively held) }

    pub gives_end : (given : Option Range) → heap (tables_of new) root ≡ given → GivesOne words root given new
    gives_end given here = record { here = here; others = heap_other may ends }

  module _ {on new_on : Bool} {word new_word : ℕ} (passage : IsPassage on new_on word new_word) (begins : IsStageOf words line root site on word None words) {made left new : List ℕ} (opens : Opens words line site.own made)
      {first a second b : ℕ} (leads : Leads made left first a second b on new_on word new_word) (closes : Closes left line new) where
    led : IsStageOf words line root site new_on new_word (Some site.own) left
    led = leads.stage (stage_open is line_below begins made refl opens)

    pub ends : IsStageOf words line root site new_on new_word None new
    ends = stage_close is line_below led new closes

    -- In each image of a crash the root has the block or not, and where it is so, the heap is that of the old words or of the
    -- new.

    judged : {image_on : Bool} {image_word : ℕ} {entry : Option WalEntry} {image : List ℕ} → (image_word ≡ 0) ⊎ (image_word ≡ site.block.at) → IsStage site.own site.block.at image_on image_word entry →
        IsStageOf words line root site image_on image_word entry image → IsEitherHeap words new image
    judged either may stage =
        let as_old = same_heap may passage.before stage begins in
        let as_new = same_heap may passage.behind stage ends in
        record { steady = steady may stage; bounds = stage.bounds; heap = grind arith; words = keeps may stage; still = subst HasNoMove (sym (ap (λ (x : Tables). x.open_entry) stage.tables)) stage.plain }

    word_either : (word ≡ 0) ⊎ (word ≡ site.block.at)
    word_either = grind arith

    new_either : (new_word ≡ 0) ⊎ (new_word ≡ site.block.at)
    new_either = grind arith

    under_judged : (image : List ℕ) → IsUnderEntry image → IsEitherHeap words new image
    under_judged image under = judged under.either (while_open under.on under.word under.either) under.stage

    opened_under : (image : List ℕ) → Opens words line site.own image → IsUnderEntry image
    opened_under image opens = record { on = on; word = word; either = word_either; stage = stage_open is line_below begins image refl opens }

    open_judged : (image : List ℕ) → OpensOrNot words line site.own image → IsEitherHeap words new image
    open_judged image either =
        ⊎_elim (λ (same : image ≡ words). subst (IsEitherHeap words new) (sym same) (judged word_either passage.before begins)) (λ opens. under_judged image (opened_under image opens)) either

    close_judged : (image : List ℕ) → ClosesOrNot left line image → IsEitherHeap words new image
    close_judged image either = ⊎_elim
        (λ (same : image ≡ left). subst (IsEitherHeap words new) (sym same) (under_judged left (record { on = new_on; word = new_word; either = new_either; stage = led })))
        (λ closes. judged new_either passage.behind (stage_close is line_below led image closes))
        either

    pub sequence_step : {s t u v : PmemState} → IsQuietStep s t (word_events (8 * wal_word line) (entry_word site.own)) (OpensOrNot words line site.own) →
        IsQuietStep t u (pair_events first a second b) (IsOldOrNewPair made first a second b) →
        IsQuietStep u v (word_events (8 * wal_word line) 0) (ClosesOrNot left line) →
        IsQuietStep s v (under_entry line site.own (pair_events first a second b)) (IsEitherHeap words new)
    sequence_step opening putting closing =
        let P : List ℕ → Type 0 = IsEitherHeap words new in
        let put = step_then P (λ ws. pair_events first a second b) opening putting open_judged (λ image is. under_judged image (leads.under (opened_under made opens) image is)) in
        step_then P (λ ws. word_events (8 * wal_word line) 0) put closing (λ image is. is) close_judged
