-- A large block came to a root, or went from it: what an arena keeps holds again.
use Rattle.std.proofs.Common.{◌≡◌, ◌↔◌, ◌⊎◌, ◌+◌, ◌*◌, ◌<◌, ◌≤◌, ℕ, List, Some, None, refl, sym, ap, subst, ◌∙◌, inl, inr}
use Rattle.arena_core.proofs.Common.{word_at, fields_word, put_word, PmemState, words_of, IsQuietStep, layout_of, root_word, version_in, tables_of, Tables, put_at-same, Book, Large, Tomb, FreeSet, IsFree, Bounds, slabs, bounds_of, IsEitherHeap, with_large, IsBookOf, IsLogged, IsLoggedOrNot, IsExtentGone, root_events, PutsRootOrNot, Volatile, IsArena, IsDone, place_events, take_events, IsGivable, IsTakable, log_events, IsStageOf}
use Rattle.arena_core.proofs.Readiness.{ready_after}
use Rattle.image_tables.proofs.Stores.{fields-put_root, fields-off_log}
use Rattle.log_steps.proofs.Entries.{off_log}
use Rattle.heap_check.proofs.LargeHeaps.{IsVacant-placed, IsVacant-freed}
use Rattle.arena_core.proofs.Arenas.{book_root, slabs_stage, index_stage, index_less, index_more}
use Rattle.arena_core.proofs.CallEvents.{IsDone-large}
use Rattle.arena_core.proofs.LargeCalls.{give_place, nothing, given_extent, given, give_step, live_given_large, take_place, taken_root, take_step, live_taken_large}
use Rattle.arena_core.proofs.LargeStages.{stage_gone, gives_some, gives_none}
use Rattle.heap_check.proofs.LargeImages.{exact_stage}

-- the extent came into the log, the root has its address, and its granules are not free any more
pub large_given : {old mid new : PmemState} {was : Volatile} {root start count at : ℕ} → IsArena old was → IsGivable (bounds_of (words_of old)) (tables_of (words_of old)) root start count → (less : FreeSet) (log : Book) →
    IsLogged (words_of old) (Large start count) (words_of mid) → IsQuietStep old mid (log_events (words_of old) (Large start count)) (IsLoggedOrNot (words_of old) (Large start count)) → IsBookOf log (words_of mid) →
    less.granules ≡ was.free.granules → ((k : ℕ) → IsFree less k ↔ (IsFree was.free k × ((k < start) ⊎ (start + count ≤ k)))) → at ≡ 16384 * start → words_of new ≡ put_word (words_of mid) (root_word root) at → IsQuietStep mid new (root_events root at) (PutsRootOrNot (words_of mid) root at) →
    IsDone old new (record was { log = log; free = less }) root (Some (record { at = 16384 * start; size = 16384 * count })) (slabs (tables_of (words_of old))) (place_events (words_of old) root start count)
large_given {old} {mid} {new} {was} {root} {start} {count} {at} arena may less log logged first book granules free at_is put second =
    let words = words_of old in
    let made = words_of mid in
    let after = words_of new in
    let current = arena.current in
    let exact = current.exact in
    let is : after ≡ put_word made (root_word root) (16384 * start) = put ∙ ap (put_word made (root_word root)) at_is in
    let header : word_at after fields_word ≡ word_at words fields_word = ap (λ ws. word_at ws fields_word) is ∙ fields-put_root made root (16384 * start) ∙ fields-off_log words made (off_log words made logged.rest) in
    let place = give_place words root start count exact may in
    let done : IsStageOf words root start count (16384 * start) after = given words root start count exact may made after logged is in
    let middle = given_extent words root start count exact may made logged in
    let ended = exact_stage exact place count (16384 * start) after (record { is = inr (refl, refl) }) done in
    let among : root < (layout_of (version_in made)).roots = subst (λ (b : Bounds). root < b.roots) (sym middle.bounds) may.below in
    IsDone-large arena refl refl
    (live_given_large words after root start count exact may ended (gives_some exact place after header done) (slabs_stage done) (ap (λ (x : Tables). x.large start) done.tables ∙ put_at-same (tables_of words).large start count))
    (give_step words root start count exact may after done made middle first (subst (λ (a : ℕ). IsQuietStep mid new (root_events root a) (PutsRootOrNot made root a)) at_is second))
    (record {
      ready = ready_after current.ready (second.appends.room ∙ first.appends.room) second.quiet header;
      exact = ended;
      log = subst (λ (ws : List ℕ). IsBookOf log ws) (sym is) (book_root log made root (16384 * start) among book);
      index = index_stage less done (granules ∙ current.index.granules)
          (index_less was.free less (bounds_of words) (tables_of words) (with_large (tables_of words) start count root (16384 * start)) start count
          current.index.each free (λ k. IsVacant-placed place (16384 * start) k (nothing words root start count exact may)));
    })
    (gives_some exact place after header done)
    (slabs_stage done)

-- the root's word is 0, the extent went from the log, and its granules are free
pub large_taken : {old mid new : PmemState} {was : Volatile} {root start count : ℕ} → IsArena old was → IsTakable (bounds_of (words_of old)) (tables_of (words_of old)) root start count → (more : FreeSet) (log : Book) →
    words_of mid ≡ put_word (words_of old) (root_word root) 0 → IsQuietStep old mid (root_events root 0) (PutsRootOrNot (words_of old) root 0) → IsExtentGone (words_of mid) start (words_of new) →
    IsQuietStep mid new (log_events (words_of mid) (Tomb start)) (IsEitherHeap (words_of mid) (words_of new)) → IsBookOf log (words_of new) →
    more.granules ≡ was.free.granules → ((k : ℕ) → IsFree more k ↔ (IsFree was.free k ⊎ ((start ≤ k) × (k < start + count)))) →
    IsDone old new (record was { log = log; free = more }) root None (slabs (tables_of (words_of old))) (take_events (words_of old) root start)
large_taken {old} {mid} {new} {was} {root} {start} {count} arena may more log put first gone second book granules free =
    let words = words_of old in
    let made = words_of mid in
    let after = words_of new in
    let current = arena.current in
    let exact = current.exact in
    let header : word_at after fields_word ≡ word_at words fields_word = fields-off_log made after (off_log made after gone.rest) ∙ ap (λ ws. word_at ws fields_word) put ∙ fields-put_root words root 0 in
    let place = take_place words root start count exact may in
    let stage : IsStageOf words root start count 0 made = subst (λ (ws : List ℕ). IsStageOf words root start count 0 ws) (sym put) (taken_root words root start count exact may) in
    let done : IsStageOf words root start 0 0 after = stage_gone words root start count 0 made after stage gone in
    IsDone-large arena refl refl (live_taken_large words after root start count exact may (gives_none exact place 0 after header done) (slabs_stage done))
    (take_step words root start count exact may after put gone.heap first second)
    (record {
      ready = ready_after current.ready (second.appends.room ∙ first.appends.room) second.quiet header;
      exact = exact_stage exact place 0 0 after (record { is = inl (refl, refl) }) done;
      log = book;
      index = index_stage more done (granules ∙ current.index.granules)
          (index_more was.free more (bounds_of words) (tables_of words) (with_large (tables_of words) start 0 root 0) start count
          current.index.each free (λ k. IsVacant-freed place 0 k may.live));
    })
    (gives_none exact place 0 after header done)
    (slabs_stage done)
