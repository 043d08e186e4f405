-- A block moved from a root to another: what stands beside the words is what they say still, the step of the heap machine,
-- and what a move did behind its begin.
use Rattle.std.proofs.Common.{◌≡◌, ◌≢◌, ℕ, ◌<◌, List, Option, Some, None, sym, ap, ◌∙◌, arith, ◌⊎◌, ◌+◌, ◌/◌, ◌≤◌, Err, refl, inl, inr, ⊎_elim, ◌%◌, []}
use Rattle.arena_core.proofs.Common.{IsUnusedIn-same, entry_slot, version_in, granules_in, Tables, tables_of, SameLog, root_word-low, Book, FreeSet, Bounds, Range, with_key, heap, granules_at, bounds_of, heap-none, IsBookOf, Lives, normal_at, IsIndexOf, live_in, AreLivesOf, KeepsSlabs, Reply, Machine, IsExactImage, HasValue, HasState, move_reply, IsStepOfAny, AreRoots, IsMovePlan, PmemState, words_of, IsQuietStep, step_by, step_none, HasNoMove-closed, roots_plain, law_of_steady, Volatile, IsArena, call_events, line_after, IsToMove, IsMoveCarried, log_start-low, entry_slot-low, same_log, counts_kept, normal_of-same, named_at}
use Rattle.heap_check.specs.Heap.{slabs}
use Rattle.heap_check.specs.Slabs.{IsSameSlab}
use Rattle.std.specs.Prelude.{if◌then◌else◌}
use Rattle.move_steps.specs.Moves.{IsMovable, IsMoved, IsEitherMoved}
use Rattle.arena_core.proofs.Arenas.{index_as, book_same, slabs_kept}
use Rattle.arena_core.proofs.LiveSlabs.{lives_kept}
use Rattle.heap_model.specs.declared.call.Call.TheVariants as calls
use Rattle.heap_model.specs.declared.call.Reply.TheVariants as replies
use Rattle.heap_model.specs.Step.{handed_over, with_moved, IsMove}
use Rattle.arena_core.specs.declared.answer.MoveRefusal.{MoveRefusal}
use Rattle.arena_core.specs.declared.answer.MoveRefusal.TheVariants.{NoRoot, Empty, Occupied}
use Rattle.arena_core.specs.Moving.{IsMoveStep}
use Rattle.arena_core.proofs.Readiness.{ready_after}
use Rattle.attach_steps.specs.Steps.{move_events}
use Rattle.heap_model.proofs.Counts.{live_moved}

module _ {words new : List ℕ} {line from to at : ℕ} (may : IsMovable words from to at) (few : line < 8) (moved : IsMoved words line from to at new) where
  abbrev t : Tables
  t = tables_of words

  pub from_to : from ≢ to
  from_to same = grind arith

  -- the words of the log are the same
  log_moved : SameLog words new
  log_moved = same_log words new (λ k low. moved.rest.others k (λ e. omega (arith, e, low)) (λ e. omega (arith, e, low)) (λ e. omega (arith, e, low))) (λ c e few_chunks below.
      let version = version_in words in
      let low = entry_slot-low version c e in
      moved.rest.others (entry_slot version c e) (λ is. omega (arith, is, low, log_start-low version, few)) (λ is. omega (arith, is, low, root_word-low version from may.from_rooted)) (λ is. omega (arith, is, low, root_word-low version to may.to_rooted)))

  pub granules_moved : granules_in new ≡ granules_in words
  granules_moved = ap (λ (b : Bounds). b.granules) moved.bounds

  pub book_moved : (book : Book) → IsBookOf book words → IsBookOf book new
  book_moved book = book_same book log_moved moved.rest.same_length moved.bounds

  -- the same granules are vacant
  pub index_moved : (set : FreeSet) → IsIndexOf set words → IsIndexOf set new
  index_moved set = index_as set moved.bounds (λ start. ap (λ (x : Tables). granules_at x start) moved.tables)

  -- the slabs are the same
  pub slabs_moved : KeepsSlabs words new
  slabs_moved = record { each = moved.slabs }

  -- and so are the numbers of their live blocks
  live_in_moved : (range : Range) → heap t from ≡ Some range → (s : ℕ) → live_in new s ≡ live_in words s
  live_in_moved range named s =
      let same = live_moved (heap t) (heap (tables_of new)) s (bounds_of words).roots from to range may.from_rooted may.to_rooted from_to named (heap-none t to may.none) (moved.moves.here ∙ named) moved.moves.gone moved.moves.others in
      grind arith

  pub lives_moved : (range : Range) → heap (tables_of words) from ≡ Some range → (lives : Lives) → AreLivesOf lives words → AreLivesOf lives new
  lives_moved range named lives were = lives_kept words new lives lives (counts_kept words new lives.counts granules_moved (live_in_moved range named) were.counts) were (λ s i. normal_at lives s) (λ s. normal_of-same t (tables_of new) s (moved.slabs s)) (λ i. lives.unfit) (λ s class number. (IsUnusedIn-same (moved.slabs s) class number).1)

-- whichever seat calls, and whatever stands on the stacks, it is a step of the machine
pub any_seat : (old new : List ℕ) (from to : ℕ) (reply : Reply) → IsMoveStep old new from to reply → IsStepOfAny old new (calls.Move from to) reply
any_seat old new from to reply step seat stacks = grind arith

-- a map in which what was at one key is at another
moved_map : (old new : ℕ → Option Range) (from to : ℕ) (range : Range) → from ≢ to → new to ≡ Some range → new from ≡ None → ((other : ℕ) → other ≢ from → other ≢ to → new other ≡ old other) → (k : ℕ) → new k ≡ with_key (with_key old from None) to (Some range) k
moved_map old new from to range apart here gone others k = grind arith

-- a word that is handed over was the first root's, or is another root's
handed : (value : ℕ → ℕ → Option ℕ) (from to other index word : ℕ) → handed_over value from to other index ≡ Some word →
    ((other ≡ to) × (value from index ≡ Some word)) ⊎ ((other ≢ to) × (other ≢ from) × (value other index ≡ Some word))
handed value from to other index word is = grind arith

-- both are roots of the arena
in_arena : {words : List ℕ} {from to : ℕ} → AreRoots words from to → ¬ (((bounds_of words).roots ≤ from) ⊎ ((bounds_of words).roots ≤ to))
in_arena {words} {from} {to} roots past = grind arith

module _ {words new : List ℕ} {line from to at : ℕ} (may : IsMovable words from to at) (few : line < 8) (moved : IsMoved words line from to at new) (range : Range) (named : heap (tables_of words) from ≡ Some range) (m : Machine)
    (state : HasState words m) where
  abbrev next : Machine
  next = with_moved m from to range

  apart : from ≢ to
  apart = from_to may few moved

  -- the blocks of the state behind it
  blocks : (root : ℕ) → heap (tables_of new) root ≡ next.block root
  blocks root = moved_map m.block (heap (tables_of new)) from to range apart (moved.moves.here ∙ named) moved.moves.gone (λ other not_from not_to. moved.moves.others other not_from not_to ∙ state.blocks other) root

  -- its words

  value_moved : (other owner index word : ℕ) → heap (tables_of new) other ≡ heap (tables_of words) owner → m.value owner index ≡ Some word → HasValue new next other index word
  value_moved other owner index word same is =
      let value = state.values owner index word is in
      let was = state.blocks owner ∙ value.named in
      record {
        range = value.range;
        named = sym (blocks other) ∙ same ∙ was;
        within = value.within;
        here = moved.keeps.each owner other value.range (value.range.at / 8 + index) was (same ∙ was) (record { low = omega arith; high = omega (arith, value.within) }) ∙ value.here;
      }

  slab_same : {start : ℕ} → IsSameSlab (tables_of words) (tables_of new) start → slabs (tables_of new) start ≡ slabs (tables_of words) start
  slab_same same = λ i. if same.slab i then Some (same.header i).class else None

  state_moved : HasState new next
  state_moved = record {
    blocks = blocks;
    slabs = λ start. slab_same (moved.slabs start) ∙ state.slabs start;
    values = λ other index word is. ⊎_elim
        (λ here. value_moved other from index word (ap (heap (tables_of new)) here.0 ∙ moved.moves.here) here.1)
        (λ rest. value_moved other other index word (moved.moves.others other rest.1 rest.0) rest.2)
        (handed m.value from to other index word is);
  }

  move_is : IsMove (bounds_of words) m from to (replies.Moved range.at range.size) (with_moved m from to range)
  move_is = inr (
    in_arena (record { first = may.from_rooted; second = may.to_rooted }),
    inl (record { range = range; named = sym (state.blocks from) ∙ named }, inr (λ has. let none = sym (state.blocks to) ∙ heap-none (tables_of words) to may.none in absurd (cc (none, has.named)), (refl, refl))),
  )

-- a block moved
pub step_moved : {words new : List ℕ} {line from to at : ℕ} (may : IsMovable words from to at) → line < 8 → IsMoved words line from to at new → (range : Range) → heap (tables_of words) from ≡ Some range →
    IsMoveStep words new from to (replies.Moved range.at range.size)
step_moved {words} {new} {line} {from} {to} {at} may few moved range named = record {
  header = (log_moved may few moved).fields;
  each = λ m state. (with_moved m from to range, move_is may few moved range named m state, state_moved may few moved range named m state);
}

-- a move is refused
pub step_unmoved : {words : List ℕ} {from to : ℕ} (refusal : MoveRefusal) → IsExactImage words → IsMovePlan words from to (Err refusal) → IsMoveStep words words from to (move_reply (Err refusal))
step_unmoved {words} {from} {to} NoRoot image past = record { header = refl; each = λ m state. (m, inl (past, (refl, refl)), state) }
step_unmoved {words} {from} {to} Empty image plan = record { header = refl; each = λ m state. (m, let was = state.blocks from in grind arith, state) }
step_unmoved {words} {from} {to} (Occupied at) image plan = record {
  header = refl;
  each = λ m state. (m, inr (in_arena plan.roots, inl (record { range = plan.range; named = sym (state.blocks from) ∙ plan.named }, inl (record { range = _; named = named_at image state to at plan.place plan.some }, (refl, refl)))), state);
}

-- what is planned may move
pub movable : {words : List ℕ} {from to : ℕ} {range : Range} → IsExactImage words → IsToMove words from to range → IsMovable words from to range.at
movable {words} {from} {to} {range} image plan = grind arith

-- a block moved
pub carried_moved : {old new : PmemState} {was : Volatile} {from to : ℕ} (range : Range) → IsArena old was → IsToMove (words_of old) from to range →
    IsQuietStep old new (move_events was.line from to range.at) (IsEitherMoved (words_of old) (words_of new) to) → IsMoved (words_of old) was.line from to range.at (words_of new) →
    IsMoveCarried old new was (record was { line = (was.line + 1) % 8 }) from to (replies.Moved range.at range.size)
carried_moved {old} {new} {was} {from} {to} range arena plan step moved =
    let may = movable arena.current.exact plan in
    record {
      carried = step;
      arena = record {
        current = record {
          ready = ready_after arena.current.ready step.appends.room step.quiet (log_moved may arena.few moved).fields;
          exact = moved.exact;
          log = book_moved may arena.few moved was.log arena.current.log;
          index = index_moved may arena.few moved was.free arena.current.index;
        };
        slabs = slabs_kept was.supply (slabs_moved may arena.few moved) (granules_moved may arena.few moved) arena.slabs;
        lives = lives_moved may arena.few moved range plan.named was.lives arena.lives;
        few = omega arith;
      };
      line_is = refl;
      supply = refl;
      step = step_moved may arena.few moved range plan.named;
      keeps = moved.keeps;
    }

-- a crash in which nothing is done
IsEitherMoved-same : (words : List ℕ) (to : ℕ) → IsExactImage words → IsEitherMoved words words to words
IsEitherMoved-same words to image = grind (arith, law_of_steady, roots_plain, HasNoMove-closed)

-- a refusal has no event, and leaves the line
pub none_moved : (words : List ℕ) (line from to : ℕ) (refusal : MoveRefusal) → (call_events words line (calls.Move from to) (move_reply (Err refusal)) ≡ []) × (line_after line (move_reply (Err refusal)) ≡ line)
none_moved words line from to refusal = grind arith

-- it is refused
pub carried_unmoved : {old : PmemState} {was : Volatile} {from to : ℕ} (refusal : MoveRefusal) → IsArena old was → IsMovePlan (words_of old) from to (Err refusal) → IsMoveCarried old old was was from to (move_reply (Err refusal))
carried_unmoved {old} {was} {from} {to} refusal arena plan =
    let words = words_of old in
    let none = none_moved words was.line from to refusal in
    record {
      carried = step_by [] (call_events words was.line (calls.Move from to) (move_reply (Err refusal))) (sym none.0) (step_none arena.current.ready.quiet (IsEitherMoved-same words to arena.current.exact));
      arena = arena;
      line_is = sym none.1;
      supply = refl;
      step = step_unmoved refusal arena.current.exact plan;
      keeps = record { each = λ root other range k here is word. refl };
    }
