-- A slab is opened: the image at each of its steps, and what a crash leaves.
use Rattle.std.proofs.Common.{◌≡◌, ◌≢◌, ◌⊎◌, ℕ, ◌+◌, ◌*◌, ◌/◌, ◌%◌, ◌^◌, ◌<◌, ◌≤◌, true, false, List, sym, ap, ◌∙◌, arith, inl, ⊎_elim, Some}
use Rattle.extent_steps.proofs.Common.{cases_eq, false_from_ne_true, layout_of, version_in, granules_in, extent_at, Tables, AreSlabsInHeap, is_slab_of, is_slab, state_field, tables_of, IsSameOffLog, tables_off_log-same, slab_table, slab_fields, Slab, AreDisjoint, KeepsRest, IsLogged, IsLoggedOrNot, off_log, disjoint_of, Bounds, Range, heap, IsSound, bounds_of, IsWordOf, IsEitherHeap, AreSlabsInHeap-sound, bounds_of-off_log, IsFormed-off_log, IsFormed-logged, sizes_of, KeepsAllButSlab, granule_word, heap-slab, IsSlabMore-logged, IsSlabPlace}
use Rattle.pmem_lines.specs.Words.{word_at}
use Rattle.pool_layout.specs.Places.{fields_word, heap_word}
use Rattle.pool_layout.specs.Header.{version_field}
use Rattle.pool_layout.proofs.Layouts.{layout_rules}
use Rattle.image_tables.specs.declared.extent.Extent.TheVariants as extent
use Rattle.image_tables.specs.Tables.{state_word}
use Rattle.image_tables.proofs.Headers.{IsSameOffHeader, SameLog-off_header}
use Rattle.image_tables.proofs.Stores.{heap_word-off_log, slab_bit-same}
use Rattle.image_tables.proofs.Tables.{large_table, bit_table}
use Rattle.slab_header.specs.Steps.{KeepsOutside, IsMade}
use Rattle.book_log.specs.Book.{Book}
use Rattle.book_log.proofs.Books.{Reads-same}
use Rattle.log_steps.specs.Log.{IsBookOf}
use Rattle.heap_check.specs.Sound.{IsVacant, IsExactBut}
use Rattle.heap_check.specs.Slabs.{IsWithSlab}
use Rattle.heap_check.specs.Image.{HasSlabHeader}
use Rattle.heap_check.proofs.Blank.{law_of_steady, IsSteady-but}
use Rattle.heap_check.proofs.BlockWords.{block_word-vacant}
use Rattle.heap_check.proofs.Forms.{bounds_of-same, IsFormed-off_header}
use Rattle.heap_check.proofs.Geometry.{Covers-slab, number_few}
use Rattle.heap_check.proofs.SlabPlaces.{IsSlabPlace-vacant}
use Rattle.heap_check.proofs.SlabSound.{IsExactBut-slab}
use Rattle.extent_steps.specs.Slabs.{MayBeCreated, IsSlabCreated}
use Rattle.extent_steps.proofs.Images.{IsNear, IsSame, few_entries, keeps_blocks, either}

-- the fields of a slab's state word
field_of : (words : List ℕ) (start bits : ℕ) → is_slab words start ≡ true → state_field words start bits ≡ word_at words (state_word start) / 2 ^ bits % 2 ^ 8
field_of words start bits is = grind arith

module _ {words : List ℕ} {start class : ℕ} (may : MayBeCreated words start) (below : class < 36) where
  abbrev t : Tables
  t = tables_of words

  here : IsVacant (bounds_of words) t start
  here = may.vacant start (omega arith) (omega arith)

  no_slab : t.slab start ≡ false
  no_slab = false_from_ne_true (t.slab start) (λ slab. here.none start (Covers-slab t start start slab (omega arith) (omega arith)))

  pub words_none : is_slab words start ≡ false
  words_none = sym (slab_table words start) ∙ no_slab

  no_large : t.large start ≡ 0
  no_large = grind arith

  pub in_heap : (layout_of (version_in words)).first_granule ≤ start
  in_heap = here.low

  pub start_high : start + 4 ≤ granules_in words
  start_high = omega (arith, (may.vacant (start + 3) (omega arith) (omega arith)).high)

  off_header : (root : ℕ) (range : Range) (k : ℕ) → heap t root ≡ Some range → IsWordOf range k → (k < granule_word start) ⊎ (granule_word start + 256 ≤ k)
  off_header root range k named word = let off = block_word-vacant may.image.exact.sound may.image.exact.closed root range named k word start here in grind arith

  -- while the header is made

  module _ {image : List ℕ} (keeps : KeepsOutside words start image) where
    off : IsSameOffHeader words image start
    off = record { in_heap = in_heap; others = λ k outside. keeps.others k (grind arith) }

    same_fields : word_at image fields_word ≡ word_at words fields_word
    same_fields = keeps.others fields_word (inl (omega (arith, in_heap, (sizes_of words may.image.formed).first)))

    -- so the numbers are those of the same version
    pub made_version : version_in image ≡ version_in words
    made_version = ap version_field same_fields

    pub made_same : IsSame words start image
    made_same = grind (arith, IsFormed-off_header, off, words_none, few_entries, bounds_of-same, same_fields, in_heap)

    pub made_book : (book : Book) → IsBookOf book words → IsBookOf book image
    made_book book log = let reads = Reads-same book words image (SameLog-off_header words image start off) keeps.same_length log.reads in grind (arith, made_same)

    pub made_sound : IsSound (bounds_of image) (tables_of image)
    made_sound = rw (made_same.near.bounds, made_same.tables) may.image.exact.sound

    pub made_disjoint : AreDisjoint (extent_at image)
    made_disjoint = disjoint_of image made_same.near.formed made_sound

  same_either : (new image : List ℕ) → IsSame words start image → IsEitherHeap words new image
  same_either new image same =
      let steady = law_of_steady (bounds_of words) t may.image.exact in
      let keeps = keeps_blocks words start image may.image.formed may.image.exact.sound may.image.exact.closed off_header same.near.rest in
      grind (arith, either)

  pub made_either : (new image : List ℕ) → KeepsOutside words start image → IsEitherHeap words new image
  made_either new image keeps = same_either new image (made_same keeps)

  -- once it is made

  module _ {made : List ℕ} (is_made : IsMade words made start class) where
    was : IsSame words start made
    was = made_same is_made.kept

    slabs : AreSlabsInHeap made
    slabs = AreSlabsInHeap-sound made (made_sound is_made.kept)

    made_none : is_slab made start ≡ false
    made_none = sym (slab_table made start) ∙ ap (λ (x : Tables). x.slab start) was.tables ∙ no_slab

    same_heap_word : heap_word (version_in made) ≡ heap_word (version_in words)
    same_heap_word = ap (λ (b : Bounds). 2048 * b.first) was.near.bounds

    rest_then : (image : List ℕ) → KeepsRest made image → KeepsAllButSlab words start image
    rest_then image rest = grind (arith, version_in, was, same_heap_word, same_fields)

    -- the log is changed, and the extents are as before
    log_same : (image : List ℕ) → KeepsRest made image → ((other : ℕ) → extent_at image other ≡ extent_at made other) → IsSame words start image
    log_same image rest extents =
        let off = off_log made image rest in
        record {
          near = record {
            formed = IsFormed-off_log made image was.near.formed off slabs rest.log (λ other. ap is_slab_of (extents other));
            bounds = bounds_of-off_log made image off ∙ was.near.bounds;
            rest = rest_then image rest;
          };
          tables = tables_off_log-same made image off slabs extents ∙ was.tables;
        }

    -- the extent is in the log

    module _ {image : List ℕ} (logged : IsLogged made (Slab start) image) where
      off_made : IsSameOffLog made image
      off_made = off_log made image logged.rest

      slab_here : extent_at image start ≡ Some extent.Slab
      slab_here = grind arith

      slab_other : (other : ℕ) → other ≢ start → extent_at image other ≡ extent_at made other
      slab_other other differ = grind arith

      is_here : is_slab image start ≡ true
      is_here = ap is_slab_of slab_here

      state_here : word_at image (state_word start) ≡ word_at made (state_word start)
      state_here = heap_word-off_log made image (state_word start) off_made (omega (arith, same_heap_word, in_heap))

      field_here : (bits value : ℕ) → word_at made (state_word start) / 2 ^ bits % 2 ^ 8 ≡ value → state_field image start bits ≡ value
      field_here bits value says = field_of image start bits is_here ∙ ap (λ w. w / 2 ^ bits % 2 ^ 8) state_here ∙ says

      pub with_it : IsWithSlab t (tables_of image) start class
      with_it = record {
        more = rw (← was.tables) (IsSlabMore-logged made image start
            (record { off_log = off_made; slabs = slabs; none = made_none; no_large = sym (large_table made start) ∙ ap (λ (x : Tables). x.large start) was.tables ∙ no_large; slab = slab_here; others = slab_other }));
        fresh = record {
          kind = (slab_fields image start).kind ∙ field_here 0 1 is_made.says.kind;
          class_is = (slab_fields image start).class ∙ field_here 8 class is_made.says.class;
          old = (slab_fields image start).old ∙ field_here 16 0 is_made.says.old;
          index_count = (slab_fields image start).index_count ∙ field_here 24 0 is_made.says.entries;
          clear = λ i among. let few = number_few class i below among in grind (arith, bit_table, is_here, slab_bit-same, heap_word-off_log, off_made, same_heap_word, in_heap);
        };
      }

      pub open_place : IsSlabPlace (bounds_of words) t (tables_of image) start
      open_place = IsSlabPlace-vacant may.image.exact.sound may.image.exact.closed (omega (arith, (sizes_of words may.image.formed).first)) with_it may.vacant

      header_here : HasSlabHeader image start
      header_here = grind (arith, state_here, field_here)

      open_near : IsNear words start image
      open_near = record {
        formed = IsFormed-logged made image was.near.formed off_made slabs logged.rest.log (λ other is. grind (arith, header_here, slab_other, cases_eq));
        bounds = bounds_of-off_log made image off_made ∙ was.near.bounds;
        rest = rest_then image logged.rest;
      }

      open_but : IsExactBut (bounds_of words) (tables_of image) start
      open_but = IsExactBut-slab open_place with_it.fresh below may.image.exact

      pub opened : IsSlabCreated words start class image
      opened = record {
        image = record { formed = open_near.formed; but = rw open_near.bounds open_but };
        bounds = open_near.bounds;
        slab = with_it;
        heap = record { each = heap-slab open_place };
        rest = open_near.rest;
      }

      open_either : (new : List ℕ) → IsEitherHeap words new image
      open_either new = either words start new image open_near (IsSteady-but open_but) (heap-slab open_place)
          (keeps_blocks words start image may.image.formed may.image.exact.sound may.image.exact.closed off_header open_near.rest) open_but.closed

    pub logged_either : (new image : List ℕ) → IsLoggedOrNot made (Slab start) image → IsEitherHeap words new image
    logged_either new image either =
        ⊎_elim (λ same. same_either new image (log_same image either.rest same)) (λ more. open_either (record { rest = either.rest; extents = more }) new) either.extents

-- how many events an entry has, and a slab, of the version before the header is made
pub made_events : (words image : List ℕ) → version_in image ≡ version_in words → (layout_of (version_in image)).entry_events + 75 ≤ (layout_of (version_in words)).slab_events
made_events words image same = grind (arith, layout_rules)
