-- Words that differ within the block of a root alone: what stands beside the words of an arena stays what they say.
use Rattle.std.proofs.Common.{◌≡◌, ◌<◌, ◌↔◌, ℕ, true, List, Some, sym, ap, subst, ◌∙◌, cond}
use Rattle.arena_core.proofs.Common.{class_capacity, PmemState, words_of, granules_in, Tables, Book, FreeSet, Supply, MayBeGiven, Bounds, Range, live_below, heap, IsUnusedIn, granules_at, IsExactImage, IsBookOf, Volatile, Lives, normal_at, IsIndexOf, IsSlabsOf, live_in, normal_of, AreLivesOf, IsArena, IsReady, tables_of, counts_kept, IsSameOffBlock, slabs_kept, bounds_kept, exact_kept}
use Rattle.arena_core.proofs.Arenas.{index_as, book_same}
use Rattle.arena_core.proofs.LiveSlabs.{lives_kept}
use Rattle.heap_check.proofs.OffBlocks.{tables_kept, log}

module _ {words new : List ℕ} {range : Range} (image : IsExactImage words) (root : ℕ) (named : heap (tables_of words) root ≡ Some range) (same : IsSameOffBlock words new range) where
  granules : granules_in new ≡ granules_in words
  granules = ap (λ (b : Bounds). b.granules) (bounds_kept image root named same)

  pub book_kept : (book : Book) → IsBookOf book words → IsBookOf book new
  book_kept book = book_same book (log image root named same) same.same_length (bounds_kept image root named same)

  pub index_kept : (set : FreeSet) → IsIndexOf set words → IsIndexOf set new
  index_kept set = index_as set (bounds_kept image root named same) (λ start. ap (λ (t : Tables). granules_at t start) (tables_kept image root named same))

  pub classes_kept : (set : Supply) → IsSlabsOf set words → IsSlabsOf set new
  classes_kept set was = record {
    granules = was.granules ∙ sym granules;
    classes = λ start. was.classes start ∙ sym (slabs_kept image root named same start);
    blocks = subst (λ (t : Tables). (start i : ℕ) → t.slab start ≡ true → i < class_capacity (t.header start).class → MayBeGiven set start i ↔ IsUnusedIn t start (t.header start).class i) (sym (tables_kept image root named same)) was.blocks;
  }

  lives : (start : ℕ) → live_in new start ≡ live_in words start
  lives start i = cond ((tables_kept image root named same i).slab start) (live_below (heap (tables_kept image root named same i)) start (bounds_kept image root named same i).roots) 0

  pub lives_same : (l : Lives) → AreLivesOf l words → AreLivesOf l new
  lives_same l was = lives_kept words new l l (counts_kept words new l.counts granules lives was.counts) was (λ s i. normal_at l s) (λ s. ap (λ (t : Tables). normal_of t s) (tables_kept image root named same)) (λ i. l.unfit)
      (λ s class number. subst (λ (t : Tables). IsUnusedIn t s class number) (tables_kept image root named same))

-- a memory that is ready, of which the words differ so from those that an arena had
pub IsArena-block : {old new : PmemState} {was : Volatile} {range : Range} (root : ℕ) → IsArena old was → heap (tables_of (words_of old)) root ≡ Some range → IsSameOffBlock (words_of old) (words_of new) range → IsReady new → IsArena new was
IsArena-block {old} {new} {was} {range} root arena named same ready =
    let image = arena.current.exact in
    record {
      current = record {
        ready = ready;
        exact = exact_kept image root named same;
        log = book_kept image root named same was.log arena.current.log;
        index = index_kept image root named same was.free arena.current.index;
      };
      slabs = classes_kept image root named same was.supply arena.slabs;
      lives = lives_same image root named same was.lives arena.lives;
      few = arena.few;
    }
