-- An open move entry is settled: the images.
use Rattle.std.proofs.Common.{◌≡◌, ◌≢◌, ◌&&◌, ℕ, ◌*◌, ◌<◌, Bool, true, false, cond, ltb, List, refl, sym, ap, subst, ◌∙◌, arith, inl, inr, ⊎_elim, Some, None}
use Rattle.settle_steps.proofs.Common.{and_parts, ltb-true, word_at, PmemState, IsQuietStep, word_events, root_word, wal_word, WalEntry, Move, put_at, with_open_entry, put_at-same, put_at-other, few_lines, extent_at-put_root, tables_store_root, word_table, Closes, ClosesOrNot, Range, heap, IsOpenMove, IsSteady, LoosensNothing, bounds_of, IsWordOf, block_word-heap, AreSlabsInHeap-sound, IsFormed-put_root, sizes_of}
use Rattle.image_tables.specs.Tables.{held_of, Tables, AreSlabsInHeap, is_slab_of, tables_of}
use Rattle.settle_steps.specs.Settled.{KeepsHeap}
use Rattle.settle_steps.specs.Moves.{both_named, release_events, move_events, released, ReleasesOrNot, IsOpenForMove, IsMoveSettled}
use Rattle.settle_steps.proofs.MoveTables.{reworded, IsMoveStage, IsSteady-reworded, heap-reworded, loosens_left, loosens_nothing, held_released, held_settled}
use Rattle.settle_steps.proofs.Images.{IsNear, IsShutIn, IsRootPlace, root_place, entry_is, near_begin, near_put, near_close, keeps_begin, keeps_as, settled_as, settle_step}

-- what roots hold is read off their words by the open entry
held_table : (words : List ℕ) → (tables_of words).root ≡ held_of (tables_of words).open_entry (tables_of words).word
unfolding tables_of
held_table words = refl

module _ (words : List ℕ) (line from to : ℕ) (line_below : line < 8) (may : IsOpenForMove words line from to) where
  abbrev t : Tables
  t = tables_of words

  abbrev own : WalEntry
  own = Move from to

  abbrev both : Bool
  both = both_named words from to

  -- the root words behind the step
  abbrev behind : ℕ → ℕ
  behind = cond both (put_at t.word from 0) t.word

  steady : IsSteady (bounds_of words) t
  steady = may.image.steady

  slabs : AreSlabsInHeap words
  slabs = AreSlabsInHeap-sound words steady.sound

  entry_open : t.open_entry ≡ Some own
  entry_open = entry_is words line line_below own may

  opened : IsOpenMove (bounds_of words) t from to
  opened = (steady.sound.owned.open_entry own entry_open).entry

  pub from_place : IsRootPlace words from
  from_place = root_place words from may.image.formed opened.low

  pub to_place : IsRootPlace words to
  to_place = root_place words to may.image.formed opened.high

  -- what is read of the two is what the tables say
  pub reads_both : (ltb 0 (word_at words (root_word from)) && ltb 0 (word_at words (root_word to))) ≡ both_named words from to
  reads_both =
      let first = word_table words from opened.low in
      let second = word_table words to opened.high in
      λ i. ltb 0 (sym first i) && ltb 0 (sym second i)

  -- what roots hold

  held : (r : ℕ) → t.root r ≡ behind r
  held r = ap (λ (f : ℕ → ℕ). f r) (held_table words ∙ ap (λ e. held_of e t.word) entry_open) ∙ held_settled t.word from to r

  held_all : behind ≡ t.root
  held_all i r = sym (held r) i

  -- both have a word
  both_some : both ≡ true → (t.word from ≢ 0) × (t.word to ≢ 0)
  both_some is =
      let parts = and_parts (ltb 0 (t.word from)) (ltb 0 (t.word to)) is in
      (λ none. omega (arith, none, ltb-true 0 (t.word from) parts.0), λ none. omega (arith, none, ltb-true 0 (t.word to) parts.1))

  -- the entry may be open still
  open_behind : (b : Bool) → both ≡ b → IsOpenMove (bounds_of words) (reworded t (cond b (put_at t.word from 0) t.word) t.open_entry) from to
  open_behind true is =
      let other : put_at t.word from 0 to ≡ t.word to = put_at-other t.word from to 0 (λ same. opened.differ (sym same)) in
      record {
        low = opened.low;
        high = opened.high;
        differ = opened.differ;
        some = inr (λ none. (both_some is).1 (sym other ∙ none));
        same = λ first. absurd (first (put_at-same t.word from 0));
      }
  open_behind false is = record { low = opened.low; high = opened.high; differ = opened.differ; some = opened.some; same = opened.same }

  still : IsMoveStage (bounds_of words) t from to behind t.open_entry
  still = record { is = inr (entry_open, open_behind both refl) }

  shut : IsMoveStage (bounds_of words) t from to behind None
  shut = record { is = inl refl }

  shut_steady : IsSteady (bounds_of words) (reworded t behind None)
  shut_steady = IsSteady-reworded from to steady entry_open behind None shut

  shut_heap : (r : ℕ) → heap (reworded t behind None) r ≡ heap t r
  shut_heap = heap-reworded from to steady entry_open behind None shut

  off : (r : ℕ) (range : Range) (j : ℕ) → heap (reworded t behind None) r ≡ Some range → IsWordOf range j → j ≢ root_word from
  off r range j is word e =
      let sizes = sizes_of words may.image.formed in
      omega (arith, e, block_word-heap shut_steady.sound refl r range is j word, sizes.first, sizes.roots, opened.low)

  shut_in : IsShutIn words (root_word from) (reworded t behind None)
  shut_in = record { steady = shut_steady; closed = refl; same = shut_heap; off = off }

  -- the root's word is stored, or nothing

  near_by : (b : Bool) → IsNear words line (root_word from) (released words from b)
  near_by true =
      let sizes = sizes_of words may.image.formed in
      near_put words line line_below own may (root_word from) 0
      (IsFormed-put_root words from 0 may.image.formed opened.low from_place.inside slabs)
      (λ other. ap is_slab_of (extent_at-put_root words from 0 other opened.low))
      (λ e. omega (arith, e))
      (λ other below e. omega (arith, e, few_lines, below))
  near_by false = near_begin words line line_below own may (root_word from)

  tables_by : (b : Bool) → both ≡ b → tables_of (released words from b) ≡ reworded t (cond b (put_at t.word from 0) t.word) t.open_entry
  tables_by true is =
      let word = put_at t.word from 0 in
      let holds : held_of t.open_entry word ≡ t.root =
      ap (λ e. held_of e word) entry_open ∙ (λ i r. held_released word from to r (put_at-same t.word from 0) i) ∙ ap (λ b. cond b word t.word) (sym is) ∙ held_all in
      tables_store_root words from 0 opened.low from_place.inside slabs ∙ (λ i. record t { word = word; root = holds i })
  tables_by false is = refl

  abbrev made : List ℕ
  made = released words from both

  made_near : IsNear words line (root_word from) made
  made_near = near_by both

  made_tables : tables_of made ≡ reworded t behind t.open_entry
  made_tables = tables_by both refl

  made_keeps : KeepsHeap words made
  made_keeps =
      keeps_as words line line_below own may (root_word from) made (reworded t behind None) (reworded t behind t.open_entry) shut_in made_near made_tables
      (IsSteady-reworded from to steady entry_open behind t.open_entry still) (heap-reworded from to steady entry_open behind t.open_entry still)

  release_keeps : (image : List ℕ) → ReleasesOrNot words from both image → KeepsHeap words image
  release_keeps image left = ⊎_elim
      (λ (same : image ≡ words). subst (KeepsHeap words) (sym same) (keeps_begin words line line_below own may))
      (λ (put : image ≡ made). subst (KeepsHeap words) (sym put) made_keeps)
      left

  module _ (new : List ℕ) (closes : Closes (released words from (both_named words from to)) line new) where
    new_near : IsNear words line (root_word from) new
    new_near = near_close words line line_below own may (root_word from) made new made_near closes

    new_tables : tables_of new ≡ reworded t behind None
    new_tables =
        closes.tables made_near.slabs made_near.alone
        ∙ ap (λ (x : Tables). with_open_entry x None) made_tables
        ∙ (λ i. record t { word = behind; root = held_all i; open_entry = None })

    pub move_settled : IsMoveSettled words line from to new
    move_settled = record {
      settled = settled_as words line line_below own may (root_word from) new (reworded t behind None) shut_in new_near new_tables (loosens_left from to steady entry_open behind None shut);
      tables = new_tables;
      loose = subst (λ (x : Tables). LoosensNothing t x) (sym new_tables) (loosens_nothing from to steady entry_open behind None shut);
    }

  pub move_step : {s u v : PmemState} → IsQuietStep s u (release_events from (both_named words from to)) (ReleasesOrNot words from (both_named words from to)) →
      IsQuietStep u v (word_events (8 * wal_word line) 0) (ClosesOrNot (released words from (both_named words from to)) line) → IsQuietStep s v (move_events words line from to) (KeepsHeap words)
  move_step putting closing = settle_step words line line_below own may (release_events from both) made putting closing release_keeps made_keeps (λ image closes. (move_settled image closes).settled.keeps)
