-- The bit of the open entry's block becomes what the root says, and then the entry is closed: the images.
use Rattle.std.proofs.Common.{◌≡◌, ◌≢◌, ◌==◌, ℕ, ◌*◌, ◌<◌, Bool, List, refl, sym, ap, subst, ◌∙◌, arith, inl, inr, Some, None}
use Rattle.settle_steps.proofs.Common.{word_at, put_word, PmemState, IsQuietStep, word_events, IsOldOrNewWord, root_word, wal_word, WalEntry, Tables, AreSlabsInHeap, tables_of, bit_rows, live_rows, put_in, put_bit, with_open_entry, HasNoMove, IsSameOffHeader-put, is_slab-off_header, few_lines, roots_plain, root_table, PutsBitOver, Closes, ClosesOrNot, Range, heap, LoosensNothing, IsSound, IsSteady, bounds_of, IsWordOf, block_word-header, AreSlabsInHeap-sound, IsFormed-put_bitmap, number_few, sizes_of, small_entry, block_in, entry_for, bit_word, bit_put}
use Rattle.attach_steps.specs.declared.block.SmallBlock.{SmallBlock}
use Rattle.settle_steps.specs.Settled.{KeepsHeap}
use Rattle.settle_steps.specs.ClassBlocks.{is_named, class_block_events, IsOpenForBlock, IsClassBlockSettled}
use Rattle.settle_steps.proofs.OneRoot.{changed, IsSettling, IsSteady-settling, heap-settling, loosens_left, loosens_nothing}
use Rattle.settle_steps.proofs.ClassTables.{IsSettling-bit}
use Rattle.settle_steps.proofs.Images.{IsNear, IsShutIn, IsRootPlace, root_place, entry_is, LiesInWords, slab_lies, few_entries, near_put, near_close, keeps_as, word_keeps, settled_as, settle_step}

module _ (words : List ℕ) (line root : ℕ) (block : SmallBlock) (line_below : line < 8) (may : IsOpenForBlock words line root block) where
  abbrev t : Tables
  t = tables_of words

  abbrev start : ℕ
  start = block.start

  abbrev range : Range
  range = block_in t block.start block.number

  abbrev own : WalEntry
  own = entry_for root block

  abbrev named : Bool
  named = is_named words root block.at

  steady : IsSteady (bounds_of words) t
  steady = may.open_in.image.steady

  sound : IsSound (bounds_of words) t
  sound = steady.sound

  entry_open : t.open_entry ≡ Some own
  entry_open = entry_is words line line_below own may.open_in

  opens : t.open_entry ≡ Some (small_entry root range.at)
  opens = entry_open ∙ ap (λ a. Some (small_entry root a)) may.at

  plain : HasNoMove t.open_entry
  plain = subst HasNoMove (sym entry_open) tt

  slabs : AreSlabsInHeap words
  slabs = AreSlabsInHeap-sound words sound

  lies : LiesInWords words block.start
  lies = slab_lies words may.open_in.image.formed sound block.start may.slab

  -- where things lie

  pub number_low : block.number < 4096
  number_low = number_few (t.header start).class block.number (sound.slabs start may.slab).state.is_class may.below

  rooted : root < (bounds_of words).roots
  rooted = (sound.owned.open_entry own entry_open).entry.rooted

  pub root_there : IsRootPlace words root
  root_there = root_place words root may.open_in.image.formed rooted

  -- what is read of the root is what it holds
  pub reads_named : (word_at words (root_word root) == block.at) ≡ is_named words root block.at
  reads_named = ap (λ w. w == block.at) (sym (root_table words root plain rooted))

  -- with the entry open, and closed

  still : IsSettling (bounds_of words) t (put_in (bit_rows t) start block.number named) (live_rows t) t.open_entry root range
  still = IsSettling-bit root start block.number steady opens may.slab may.below named t.open_entry (record { is = inl opens })

  shut : IsSettling (bounds_of words) t (put_in (bit_rows t) start block.number named) (live_rows t) None root range
  shut = IsSettling-bit root start block.number steady opens may.slab may.below named None (record { is = inr (refl, ap (λ a. t.root root == a) may.at) })

  abbrev settled : Tables
  settled = changed t (put_in (bit_rows t) start block.number named) (live_rows t) None

  off : (r : ℕ) (other : Range) (j : ℕ) → heap settled r ≡ Some other → IsWordOf other j → j ≢ bit_word block
  off r other j is word e = omega (arith, e, block_word-header (IsSteady-settling shut).sound refl r other is j word start may.slab, number_low)

  shut_in : IsShutIn words (bit_word block) settled
  shut_in = record { steady = IsSteady-settling shut; closed = refl; same = heap-settling shut; off = off }

  module _ (over : PutsBitOver words block.start block.number (is_named words root block.at)) where
    abbrev made : List ℕ
    made = put_word words (bit_word block) (bit_put words block named)

    made_near : IsNear words line (bit_word block) made
    made_near =
        let k = bit_word block in
        let value = bit_put words block named in
        near_put words line line_below own may.open_in k value
        (IsFormed-put_bitmap words start block.number value may.open_in.image.formed lies.low number_low (few_entries words sound))
        (λ other. is_slab-off_header words made start other (IsSameOffHeader-put words start k value lies.low (omega arith) (omega (arith, number_low))))
        (λ e. omega (arith, e, lies.low, number_low, (sizes_of words may.open_in.image.formed).first))
        (λ other below e. omega (arith, e, lies.low, (sizes_of words may.open_in.image.formed).first, few_lines, below))

    made_tables : tables_of made ≡ put_bit t start block.number named
    made_tables = (over.each words refl refl).tables slabs lies.here

    made_keeps : KeepsHeap words made
    made_keeps = keeps_as words line line_below own may.open_in (bit_word block) made settled (changed t (put_in (bit_rows t) start block.number named) (live_rows t) t.open_entry) shut_in made_near made_tables (IsSteady-settling still) (heap-settling still)

    module _ (new : List ℕ) (closes : Closes made line new) where
      new_near : IsNear words line (bit_word block) new
      new_near = near_close words line line_below own may.open_in (bit_word block) made new made_near closes

      new_tables : tables_of new ≡ record (put_bit t start block.number named) { open_entry = None }
      new_tables =
          closes.tables made_near.slabs made_near.alone
          ∙ ap (λ (x : Tables). with_open_entry x None) made_tables
          ∙ (λ i. record (put_bit t start block.number named) { root = sym (roots_plain words plain) i; open_entry = None })

      made_settled : IsClassBlockSettled words line root block new
      made_settled = record {
        settled = settled_as words line line_below own may.open_in (bit_word block) new settled shut_in new_near new_tables (loosens_left shut);
        tables = new_tables;
        loose = subst (λ (x : Tables). LoosensNothing t x) (sym new_tables) (loosens_nothing shut (λ s place. refl));
      }

    -- by the words that the bit's store left, and what was read of the root
    pub class_block_settled : {left new : List ℕ} → left ≡ put_word words (bit_word block) (bit_put words block (is_named words root block.at)) → Closes left line new → IsClassBlockSettled words line root block new
    class_block_settled {left} {new} is closes = made_settled new (subst (λ (ws : List ℕ). Closes ws line new) is closes)

    pub class_block_step : {s u v : PmemState} {left : List ℕ} {on : Bool} → on ≡ is_named words root block.at → left ≡ put_word words (bit_word block) (bit_put words block (is_named words root block.at)) →
        IsQuietStep s u (word_events (8 * bit_word block) (bit_put words block on)) (IsOldOrNewWord words (8 * bit_word block) (bit_put words block on)) → IsQuietStep u v (word_events (8 * wal_word line) 0) (ClosesOrNot left line) →
        IsQuietStep s v (class_block_events words line root block) (KeepsHeap words)
    class_block_step {s} {u} {v} on_is is putting closing =
        let at = 8 * bit_word block in
        settle_step words line line_below own may.open_in (word_events at (bit_put words block named)) made
        (subst (λ on. IsQuietStep s u (word_events at (bit_put words block on)) (IsOldOrNewWord words at (bit_put words block on))) on_is putting)
        (subst (λ (ws : List ℕ). IsQuietStep u v (word_events (8 * wal_word line) 0) (ClosesOrNot ws line)) is closing)
        (word_keeps words line line_below own may.open_in (bit_word block) (bit_put words block named) made_keeps) made_keeps (λ image closes. (made_settled image closes).settled.keeps)
