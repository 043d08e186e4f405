-- Images while an open entry is settled: all is as in the words but for one word and that of the entry's line.
use Rattle.std.proofs.Common.{◌≡◌, ◌≢◌, ◌==◌, ℕ, zero, suc, ◌+◌, ◌*◌, ◌/◌, ◌^◌, ◌<◌, ◌≤◌, true, List, ◌++◌, length, refl, sym, ap, subst, ◌∙◌, arith, ⊎_elim, Some, None}
use Rattle.settle_steps.proofs.Common.{cases_eq, cond-true, cond-false, eq-eqb, ne_eqb, word_at, put_word, Event, PmemState, IsQuietStep, step_then, word_events, IsOldOrNewWord, fields_word, root_word, wal_word, WalEntry, IsWalWord, few_lines, IsOffLog-wal, slab_table, slab_fields, HasNoOther, Closes, ClosesOrNot, Bounds, Range, heap, IsSound, IsSteady, bounds_of, IsFormed, IsWordOf, AreSlabsInHeap-sound, bounds_of-put_word, IsFormed-put_wal, granules_at-slab, index_count_few, sizes_of, root_inside, block_word-heap}
use Rattle.pmem_lines.proofs.Words.{word_at-put_other, length-put_word}
use Rattle.pool_layout.specs.Layout.{layout_of}
use Rattle.pool_layout.specs.Header.{version_in}
use Rattle.image_tables.specs.Tables.{Tables, entry_of_word, entry_among, AreSlabsInHeap, is_slab_of, is_slab, state_field, wal_lines, tables_of}
use Rattle.image_tables.proofs.Extents.{extent_at-elsewhere}
use Rattle.settle_steps.specs.Settled.{IsOpenIn, KeepsHeap, KeepsAllButOne, LoosensLeft, IsSettled}

-- the image is well formed, has the same numbers, no entry in another line, and the same words but for those two
pub record IsNear (words : List ℕ) (line k : ℕ) (image : List ℕ) : Type 0 where
  pub formed : IsFormed image
  pub bounds : bounds_of image ≡ bounds_of words
  pub slabs : AreSlabsInHeap image
  pub alone : HasNoOther image line
  pub rest : KeepsAllButOne words line k image

-- Tables in which the entry is settled and none is open: they are steady, with the same heap, in which no block has the word
-- at k.
pub record IsShutIn (words : List ℕ) (k : ℕ) (shut : Tables) : Type 0 where
  pub steady : IsSteady (bounds_of words) shut
  pub closed : shut.open_entry ≡ None
  pub same : (root : ℕ) → heap shut root ≡ heap (tables_of words) root
  pub off : (root : ℕ) (range : Range) (j : ℕ) → heap shut root ≡ Some range → IsWordOf range j → j ≢ k

-- where the word of a root lies
pub record IsRootPlace (words : List ℕ) (root : ℕ) : Type 0 where
  pub low : root < 2 ^ 16
  pub inside : root_word root < length words

pub root_place : (words : List ℕ) (root : ℕ) → IsFormed words → root < (bounds_of words).roots → IsRootPlace words root
root_place words root formed rooted = let sizes = sizes_of words formed in record { low = omega (arith, sizes.roots, rooted); inside = root_inside words root formed rooted }

-- where a slab lies in the words
pub record LiesInWords (words : List ℕ) (start : ℕ) : Type 0 where
  pub low : (layout_of (version_in words)).first_granule ≤ start
  pub high : start < 2 ^ 16
  pub header : 2048 * start + 256 ≤ length words
  pub here : is_slab words start ≡ true

pub slab_lies : (words : List ℕ) → IsFormed words → IsSound (bounds_of words) (tables_of words) → (start : ℕ) → (tables_of words).slab start ≡ true → LiesInWords words start
slab_lies words formed sound start slab =
    let sizes = sizes_of words formed in
    let four = granules_at-slab (tables_of words) start slab in
    let bounds = sound.extents.starts start (omega (arith, four)) in
    record { low = bounds.0; high = omega (arith, sizes.most, bounds.1, four); header = omega (arith, sizes.size, bounds.1, four); here = sym (slab_table words start) ∙ slab }

-- no slab of a sound image has more than 64 index entries
pub few_entries : (words : List ℕ) → IsSound (bounds_of words) (tables_of words) → (other : ℕ) → is_slab words other ≡ true → state_field words other 24 ≤ 64
few_entries words sound other is = omega (arith, index_count_few (sound.slabs other (slab_table words other ∙ is)), (slab_fields words other).index_count)

-- the only entry among the lines is the open one
entry_one : (row : ℕ → ℕ) (n line : ℕ) → line < n → row line ≢ 0 → ((other : ℕ) → other < n → other ≢ line → row other ≡ 0) → entry_among row n ≡ Some (entry_of_word (row line))
entry_one row zero line below some alone = absurd (omega arith)
entry_one row (suc n) line below some alone = ⊎_elim
    (λ (same : n ≡ line). cond-false (row n == 0) (entry_among row n) (Some (entry_of_word (row n))) (ne_eqb (row n) 0 (λ none. some (ap row (sym same) ∙ none))) ∙ ap (λ n. Some (entry_of_word (row n))) same)
    (λ (differ : n ≢ line).
    cond-true (row n == 0) (entry_among row n) (Some (entry_of_word (row n))) (eq-eqb (row n) 0 (alone n (omega arith) differ))
    ∙ entry_one row n line (omega (arith, below, differ)) some (λ other lower apart. alone other (omega (arith, lower)) apart))
    (cases_eq n line)

-- the word of an entry is not 0
entry_some : (word : ℕ) → IsWalWord word → word ≢ 0
entry_some word form none = ⊎_elim (λ place. omega (arith, none, place.some)) (λ move. omega (arith, none, move.flags)) form

module _ (words : List ℕ) (line : ℕ) (line_below : line < 8) (entry : WalEntry) (open_in : IsOpenIn words line entry) where
  here_some : word_at words (wal_word line) ≢ 0
  here_some = entry_some (word_at words (wal_word line)) open_in.here.form

  pub line_one : line < wal_lines
  line_one = omega (arith, few_lines, line_below)

  pub wal_inside : wal_word line < length words
  wal_inside = let sizes = sizes_of words open_in.image.formed in omega (arith, sizes.size, sizes.least, line_below)

  pub no_other : HasNoOther words line
  no_other = record {
    closed = λ other below apart. ⊎_elim
        (λ none. none)
        (λ some. absurd (apart (open_in.image.formed.wal.one other line below line_one some here_some)))
        (cases_eq (word_at words (wal_word other)) 0);
  }

  -- the entry is open
  pub entry_is : (tables_of words).open_entry ≡ Some entry
  unfolding tables_of
  entry_is =
      entry_one (λ l. word_at words (wal_word l)) wal_lines line line_one here_some no_other.closed
      ∙ ap (λ e. Some e) open_in.here.says

  -- the words as they are
  pub near_begin : (k : ℕ) → IsNear words line k words
  near_begin k = record {
    formed = open_in.image.formed;
    bounds = refl;
    slabs = AreSlabsInHeap-sound words open_in.image.steady.sound;
    alone = no_other;
    rest = record { same_length = refl; others = λ j wal one. refl };
  }

  pub keeps_begin : KeepsHeap words words
  keeps_begin = record { steady = open_in.image; bounds = refl; heap = record { each = λ root. refl }; blocks = record { each = λ root other range j was is word. refl } }

  -- the one word is stored
  pub near_put : (k value : ℕ) → IsFormed (put_word words k value) → ((other : ℕ) → is_slab (put_word words k value) other ≡ is_slab words other) → fields_word ≢ k → ((other : ℕ) → other < wal_lines → wal_word other ≢ k) →
      IsNear words line k (put_word words k value)
  near_put k value well slab off_fields off_wal =
      let bounds = bounds_of-put_word words k value off_fields in
      let was = AreSlabsInHeap-sound words open_in.image.steady.sound in
      record {
        formed = well;
        bounds = bounds;
        slabs = record { low = λ other is. subst (λ (b : Bounds). b.first ≤ other) (sym bounds) (was.low other (sym (slab other) ∙ is)) };
        alone = record { closed = λ other below apart. word_at-put_other words k (wal_word other) value (off_wal other below) ∙ no_other.closed other below apart };
        rest = record { same_length = length-put_word words k value; others = λ j wal one. word_at-put_other words k j value one };
      }

  -- the entry is closed
  pub near_close : (k : ℕ) (left image : List ℕ) → IsNear words line k left → Closes left line image → IsNear words line k image
  near_close k left image near closes =
      let at = wal_word line in
      let bounds = bounds_of-put_word left at 0 (λ e. omega (arith, e)) in
      subst (IsNear words line k) (sym closes.is) (record {
        formed = IsFormed-put_wal left line 0 near.formed line_one near.slabs near.alone.closed (λ some. absurd (some refl)) (omega (arith, wal_inside, near.rest.same_length));
        bounds = bounds ∙ near.bounds;
        slabs = record {
          low = λ other is. subst (λ (b : Bounds). b.first ≤ other) (sym bounds) (near.slabs.low other (sym (ap is_slab_of (extent_at-elsewhere left at 0 other (IsOffLog-wal left line line_one))) ∙ is));
        };
        alone = record { closed = λ other below apart. word_at-put_other left at (wal_word other) 0 (λ e. apart (omega (arith, e))) ∙ near.alone.closed other below apart };
        rest = record { same_length = length-put_word left at 0 ∙ near.rest.same_length; others = λ j wal one. word_at-put_other left at j 0 wal ∙ near.rest.others j wal one };
      })

  -- An image whose tables these are. Blocks keep their words, since the one word is none of theirs; where they lie is read
  -- off the tables in which no entry is open.
  pub keeps_as : (k : ℕ) (image : List ℕ) (shut now : Tables) → IsShutIn words k shut → IsNear words line k image → tables_of image ≡ now → IsSteady (bounds_of words) now → ((root : ℕ) → heap now root ≡ heap (tables_of words) root) → KeepsHeap words image
  keeps_as k image shut now is near says steady heaps = record {
    steady = record { formed = near.formed; steady = subst (λ (b : Bounds). IsSteady b (tables_of image)) (sym near.bounds) (subst (IsSteady (bounds_of words)) (sym says) steady) };
    bounds = near.bounds;
    heap = record { each = λ root. ap (λ (x : Tables). heap x root) says ∙ heaps root };
    blocks = record {
      each = λ root other range j was also word.
          let named = is.same root ∙ was in
          let high = block_word-heap is.steady.sound is.closed root range named j word in
          let sizes = sizes_of words open_in.image.formed in
          near.rest.others j (λ e. omega (arith, e, high, sizes.first, line_below)) (is.off root range j named word);
    };
  }

  -- the one word is the old or the new one
  pub word_keeps : (k value : ℕ) → KeepsHeap words (put_word words k value) → (image : List ℕ) → IsOldOrNewWord words (8 * k) value image → KeepsHeap words image
  word_keeps k value kept image left = ⊎_elim
      (λ (same : image ≡ words). subst (KeepsHeap words) (sym same) keeps_begin)
      (λ (put : image ≡ put_word words (8 * k / 8) value). subst (KeepsHeap words) (sym (put ∙ ap (λ i. put_word words i value) (omega arith))) kept)
      left.is

  -- an image in which the entry is settled and closed
  pub settled_as : (k : ℕ) (new : List ℕ) (shut : Tables) → IsShutIn words k shut → IsNear words line k new → tables_of new ≡ shut → LoosensLeft (tables_of words) shut → IsSettled words line k new
  settled_as k new shut is near says loose = record {
    keeps = keeps_as k new shut shut is near says is.steady is.same;
    rest = near.rest;
    closed = ap (λ (x : Tables). x.open_entry) says ∙ is.closed;
    loose = subst (λ (x : Tables). LoosensLeft (tables_of words) x) (sym says) loose;
  }

  -- the one word is put, and then the entry is closed
  pub settle_step : {s t u : PmemState} {Left : List ℕ → Type 0} (events : List Event) (left : List ℕ) → IsQuietStep s t events Left → IsQuietStep t u (word_events (8 * wal_word line) 0) (ClosesOrNot left line) →
      ((image : List ℕ) → Left image → KeepsHeap words image) → KeepsHeap words left → ((image : List ℕ) → Closes left line image → KeepsHeap words image) →
      IsQuietStep s u (events ++ word_events (8 * wal_word line) 0) (KeepsHeap words)
  settle_step events left putting closing before between behind =
      step_then (KeepsHeap words) (λ ws. word_events (8 * wal_word line) 0) putting closing before
      (λ image either. ⊎_elim (λ same. subst (KeepsHeap words) (sym same) between) (λ closes. behind image closes) either)
