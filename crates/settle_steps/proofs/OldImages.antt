-- The live bit of the open entry's old block becomes what the root says, and then the entry is closed: the images.
use Rattle.std.proofs.Common.{◌≡◌, ◌≢◌, ◌⊎◌, ◌==◌, ℕ, ◌*◌, ◌/◌, ◌%◌, ◌^◌, ◌<◌, Bool, true, true≢false, List, length, refl, sym, ap, subst, ◌∙◌, arith, inl, inr, ⊎_elim, Option, Some, None}
use Rattle.settle_steps.proofs.Common.{word_at, put_word, PmemState, IsQuietStep, word_events, IsOldOrNewWord, root_word, wal_word, WalEntry, Place, morphed_kind, IsIndexWord, Tables, AreSlabsInHeap, index_word, tables_of, bit_rows, live_rows, number_rows, put_in, put_live, with_rows, with_open_entry, HasNoMove, put_in-own, IsSameOffHeader-put, is_slab-off_header, few_lines, roots_plain, root_table, number_table, IndexEntry, word_of_index, PutsIndexOver, Closes, ClosesOrNot, Bounds, Range, heap, IsInSlab, IsOldEntry, IsOpenPlace, IsSound, IsSteady, bounds_of, IsWordOf, block_word-header, AreSlabsInHeap-sound, index_count_few, sizes_of, one_slab, old_in}
use Rattle.pmem_lines.proofs.Words.{word_at-put_same}
use Rattle.attach_steps.specs.declared.block.OldBlock.{OldBlock}
use Rattle.settle_steps.specs.Settled.{KeepsHeap}
use Rattle.settle_steps.specs.ClassBlocks.{is_named}
use Rattle.settle_steps.specs.OldBlocks.{entry_put, live_put, old_block_events, IsOpenForOldBlock, IsOldBlockSettled}
use Rattle.settle_steps.proofs.OneRoot.{changed, IsSettling, IsSteady-settling, heap-settling, loosens_left}
use Rattle.heap_check.proofs.IndexForms.{IsFormed-put_index}
use Rattle.settle_steps.proofs.OldTables.{IsSettling-live}
use Rattle.settle_steps.proofs.EntrySlabs.{in_slab_old}
use Rattle.settle_steps.proofs.Images.{IsNear, IsShutIn, IsRootPlace, root_place, entry_is, LiesInWords, slab_lies, near_put, near_close, keeps_as, word_keeps, settled_as, settle_step}

-- The old block that an open entry names, in the slab that has its address.
record IsOldThere (t : Tables) (start at place : ℕ) : Type 0 where
  pub kind : (t.header start).kind ≡ morphed_kind
  pub below : place < (t.header start).index_count
  pub is : at ≡ (old_in t start place).at

old_there : {b : Bounds} {t : Tables} → IsSound b t → (start at place : ℕ) → IsOldEntry t at place → IsInSlab t start at → IsOldThere t start at place
old_there {b} {t} sound start at place entry inside =
    subst (λ s. IsOldThere t s at place) (one_slab sound entry.start start at (in_slab_old sound at place entry) inside) (record { kind = entry.kind; below = entry.below; is = entry.is })

module _ (words : List ℕ) (line root : ℕ) (block : OldBlock) (line_below : line < 8) (may : IsOpenForOldBlock words line root block) where
  abbrev t : Tables
  t = tables_of words

  abbrev start : ℕ
  start = block.start

  abbrev range : Range
  range = old_in t block.start block.place

  abbrev own : WalEntry
  own = Place root block.at true block.place

  abbrev named : Bool
  named = is_named words root block.at

  steady : IsSteady (bounds_of words) t
  steady = may.open_in.image.steady

  sound : IsSound (bounds_of words) t
  sound = steady.sound

  entry_open : t.open_entry ≡ Some own
  entry_open = entry_is words line line_below own may.open_in

  placed : IsOpenPlace (bounds_of words) t root block.at true block.place
  placed = (sound.owned.open_entry own entry_open).entry

  there : IsOldThere t block.start block.at block.place
  there = ⊎_elim (λ class. absurd (true≢false class.0)) (λ old. old_there sound block.start block.at block.place old.1 may.inside) placed.block

  opens : t.open_entry ≡ Some (Place root range.at true block.place)
  opens = entry_open ∙ ap (λ a. Some (Place root a true block.place)) there.is

  plain : HasNoMove t.open_entry
  plain = subst HasNoMove (sym entry_open) tt

  slabs : AreSlabsInHeap words
  slabs = AreSlabsInHeap-sound words sound

  lies : LiesInWords words block.start
  lies = slab_lies words may.open_in.image.formed sound block.start may.inside.slab

  -- where things lie

  pub place_low : block.place < 64
  place_low = omega (arith, there.below, index_count_few (sound.slabs start may.inside.slab))

  pub old_root_there : IsRootPlace words root
  old_root_there = root_place words root may.open_in.image.formed placed.rooted

  -- what is read of the root is what it holds
  pub reads_named_old : (word_at words (root_word root) == block.at) ≡ is_named words root block.at
  reads_named_old = ap (λ w. w == block.at) (sym (root_table words root plain placed.rooted))

  -- and what is read of the entry is its number
  pub reads_number : word_at words (index_word block.start block.place) / 2 ^ 16 % 2 ^ 16 ≡ ((tables_of words).header block.start).number block.place
  reads_number = sym (number_table words start block.place lies.here place_low)

  -- with the entry open, and closed

  abbrev lives : ℕ → ℕ → Bool
  lives = put_in (live_rows t) start block.place named

  settling : (entry : Option WalEntry) → (entry ≡ Some (Place root range.at true block.place)) ⊎ (entry ≡ None) → IsSettling (bounds_of words) t (bit_rows t) lives entry root range
  settling entry stage =
      subst (λ on. IsSettling (bounds_of words) t (bit_rows t) (put_in (live_rows t) start block.place on) entry root range) (ap (λ a. t.root root == a) (sym there.is))
      (IsSettling-live root start block.place steady opens may.inside.slab there.kind there.below entry stage)

  still : IsSettling (bounds_of words) t (bit_rows t) lives t.open_entry root range
  still = settling t.open_entry (inl opens)

  shut : IsSettling (bounds_of words) t (bit_rows t) lives None root range
  shut = settling None (inr refl)

  abbrev settled : Tables
  settled = changed t (bit_rows t) lives None

  off : (r : ℕ) (other : Range) (j : ℕ) → heap settled r ≡ Some other → IsWordOf other j → j ≢ index_word block.start block.place
  off r other j is word e = omega (arith, e, block_word-header (IsSteady-settling shut).sound refl r other is j word start may.inside.slab, place_low)

  shut_in : IsShutIn words (index_word block.start block.place) settled
  shut_in = record { steady = IsSteady-settling shut; closed = refl; same = heap-settling shut; off = off }

  module _ (over : PutsIndexOver words block.start block.place (entry_put words block (is_named words root block.at))) where
    abbrev k : ℕ
    k = index_word block.start block.place

    abbrev value : ℕ
    value = live_put words block named

    abbrev made : List ℕ
    made = put_word words k value

    k_inside : k < length words
    k_inside = omega (arith, lies.header, place_low)

    form : IsIndexWord value
    form = subst IsIndexWord (word_at-put_same words k k value refl k_inside) (over.each words refl).says.form

    made_near : IsNear words line k made
    made_near =
        let sizes = sizes_of words may.open_in.image.formed in
        near_put words line line_below own may.open_in k value
        (IsFormed-put_index words start block.place value may.open_in.image.formed lies.low place_low k_inside form)
        (λ other. is_slab-off_header words made start other (IsSameOffHeader-put words start k value lies.low (omega arith) (omega (arith, place_low))))
        (λ e. omega (arith, e, lies.low, place_low, sizes.first))
        (λ other below e. omega (arith, e, lies.low, sizes.first, few_lines, below))

    made_tables : tables_of made ≡ changed t (bit_rows t) lives t.open_entry
    made_tables = (over.each words refl).tables slabs lies.here ∙ (λ i. with_rows t (bit_rows t) lives (put_in-own (number_rows t) start block.place i))

    made_keeps : KeepsHeap words made
    made_keeps = keeps_as words line line_below own may.open_in k made settled (changed t (bit_rows t) lives t.open_entry) shut_in made_near made_tables (IsSteady-settling still) (heap-settling still)

    module _ (new : List ℕ) (closes : Closes made line new) where
      new_near : IsNear words line k new
      new_near = near_close words line line_below own may.open_in k made new made_near closes

      new_tables : tables_of new ≡ record (put_live t start block.place named) { open_entry = None }
      new_tables =
          closes.tables made_near.slabs made_near.alone
          ∙ ap (λ (x : Tables). with_open_entry x None) made_tables
          ∙ (λ i. record (put_live t start block.place named) { root = sym (roots_plain words plain) i; open_entry = None })

      made_settled : IsOldBlockSettled words line root block new
      made_settled = record {
        settled = settled_as words line line_below own may.open_in k new settled shut_in new_near new_tables (loosens_left shut);
        tables = new_tables;
      }

    -- by the words that the index word's store left, and what was read of the root and the entry
    pub old_block_settled : {left new : List ℕ} → left ≡ put_word words (index_word block.start block.place) (live_put words block (is_named words root block.at)) → Closes left line new → IsOldBlockSettled words line root block new
    old_block_settled {left} {new} is closes = made_settled new (subst (λ (ws : List ℕ). Closes ws line new) is closes)

    pub old_block_step : {s u v : PmemState} {left : List ℕ} {e : IndexEntry} → e ≡ entry_put words block (is_named words root block.at) →
        left ≡ put_word words (index_word block.start block.place) (live_put words block (is_named words root block.at)) →
        IsQuietStep s u (word_events (8 * index_word block.start block.place) (word_of_index e)) (IsOldOrNewWord words (8 * index_word block.start block.place) (word_of_index e)) →
        IsQuietStep u v (word_events (8 * wal_word line) 0) (ClosesOrNot left line) → IsQuietStep s v (old_block_events words line root block) (KeepsHeap words)
    old_block_step {s} {u} {v} entry is putting closing =
        settle_step words line line_below own may.open_in (word_events (8 * k) value) made
        (subst (λ (e : IndexEntry). IsQuietStep s u (word_events (8 * k) (word_of_index e)) (IsOldOrNewWord words (8 * k) (word_of_index e))) entry putting)
        (subst (λ (ws : List ℕ). IsQuietStep u v (word_events (8 * wal_word line) 0) (ClosesOrNot ws line)) is closing) (word_keeps words line line_below own may.open_in k value made_keeps) made_keeps
        (λ image closes. (made_settled image closes).settled.keeps)
