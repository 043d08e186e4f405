-- What one call of an arena leaves its caller, over any roots and sizes: the reply that it had, which root has the block now,
-- and that the others have theirs; and what a crash within the call leaves of that.
use Rattle.std.proofs.Common.{◌≡◌, ◌≢◌, ◌⊎◌, ◌==◌, ℕ, ◌+◌, ◌-◌, ◌*◌, ◌/◌, ◌<◌, ◌≤◌, Bool, true, false, if◌then◌else◌, List, [], length, Option, Some, None, refl, sym, ap, ◌∙◌, subst, arith, ⊎_elim}
use Rattle.size_classes.specs.Classes.{class_size, IsClassOf}
use Rattle.pmem_lines.specs.declared.event.Event.{Event}
use Rattle.pmem_lines.specs.Words.{word_at}
use Rattle.pmem_lines.specs.Pmem.{PmemState}
use Rattle.image_tables.specs.Tables.{tables_of}
use Rattle.heap_model.specs.declared.call.Reply.{Reply}
use Rattle.heap_model.specs.declared.call.Reply.TheVariants as replies
use Rattle.heap_model.specs.declared.call.Call.TheVariants as calls
use Rattle.heap_model.specs.Machine.{Bounds, Range, Machine, AreApart, with_key}
use Rattle.heap_model.specs.Placement.{Stacks}
use Rattle.heap_model.specs.Slabs.{view_of}
use Rattle.heap_model.specs.Choice.{View, Site, range_of, IsSite, HasNoSite}
use Rattle.heap_model.specs.Choice.Site.{Granules, InSlab, InMorph, InNewSlab}
use Rattle.heap_model.specs.Step.{IsRefused, IsGrant, IsMalloc}
use Rattle.heap_model.proofs.Maps.{with_key-here, with_key-other}
use Rattle.heap_model.proofs.Sites.{site_apart}
use Rattle.heap_check.specs.Heap.{heap, slabs, size_at}
use Rattle.heap_check.specs.Image.{bounds_of, IsExactImage, IsSteadyImage}
use Rattle.heap_check.specs.State.{IsWordOf, HasState, HaveSameHeap}
use Rattle.heap_check.proofs.Blank.{law_of_steady}
use Rattle.heap_check.proofs.ExactStates.{law_of_exact_state}
use Rattle.move_steps.specs.Moves.{MovesOne}
use Rattle.arena_core.specs.Answered.{IsOneCall}
use Rattle.arena_core.specs.Call.{IsStepOf, IsStepOfAny}
use Rattle.arena_core.specs.Payload.{IsWriteStep, IsNamedWord, HasWritten, IsEitherWords}

-- a state that the words have, with no word written
abbrev pub state_in : List ℕ → Machine
state_in words = record { block = heap (tables_of words); slab = slabs (tables_of words); value = λ root index. None }

pub has_state : (words : List ℕ) → HasState words (state_in words)
has_state words = record { blocks = λ root. refl; slabs = λ start. refl; values = λ root index word is. absurd (cc is) }

-- a root that names a block is one of the arena's
pub rooted : (words : List ℕ) (root : ℕ) (range : Range) → IsExactImage words → heap (tables_of words) root ≡ Some range → root < (bounds_of words).roots
rooted words root range exact named = (law_of_exact_state words (state_in words) exact (has_state words)).rooted root range named

-- blocks of two roots lie apart
pub blocks_apart : (words : List ℕ) (root other : ℕ) (range another : Range) → IsExactImage words → root ≢ other → heap (tables_of words) root ≡ Some range → heap (tables_of words) other ≡ Some another → AreApart range another
blocks_apart words root other range another exact differ named also = (law_of_exact_state words (state_in words) exact (has_state words)).apart root other range another differ named also

-- an exact image is steady
pub exact_steady : (image : List ℕ) → IsExactImage image → IsSteadyImage image
exact_steady image exact = record { formed = exact.formed; steady = law_of_steady (bounds_of image) (tables_of image) exact.exact }

-- two ranges that one root names
pub one_range : (one other : Range) → Some one ≡ Some other → one ≡ other
one_range one other is = cc is

-- a root that names a block holds its address
place_of : (b : Bool) (held range : Range) → (if b then None else Some held) ≡ Some range → held ≡ range
place_of true held range is = absurd (cc is)
place_of false held range is = cc is

pub root_place : (words : List ℕ) (root : ℕ) (range : Range) → heap (tables_of words) root ≡ Some range → (tables_of words).root root ≡ range.at
root_place words root range named =
    let t = tables_of words in
    ap (λ (r : Range). r.at) (place_of (t.root root == 0) (record { at = t.root root; size = size_at t root (t.root root) }) range named)

-- a call of which each crash leaves more
pub leaves : {old new : PmemState} {events : List Event} (P Q : List ℕ → Type 0) → ((image : List ℕ) → P image → Q image) → IsOneCall old new events P → IsOneCall old new events Q
leaves P Q more call = record { device = call.device; was_exact = call.was_exact; exact = call.exact; ready = call.ready; crash = record { each = λ n image is. more image (call.crash.each n image is) } }

-- a root's block comes or goes

-- every root but one names the block that it named
pub record KeepsOthers (old new : List ℕ) (root : ℕ) : Type 0 where
  pub each : (other : ℕ) → other ≢ root → heap (tables_of new) other ≡ heap (tables_of old) other

-- so it is of an image with the heap of either
pub left_others : (old new image : List ℕ) (root : ℕ) → KeepsOthers old new root → HaveSameHeap old image ⊎ HaveSameHeap new image → KeepsOthers old image root
left_others old new image root keeps heap = record { each = λ other differs. ⊎_elim (λ before. before.each other) (λ behind. behind.each other ∙ keeps.each other differs) heap }

-- malloc

-- no state of the words has a site for the size
abbrev pub HasNoPlaceFor : List ℕ → ℕ → Type 0
HasNoPlaceFor words size = (m : Machine) → HasState words m → HasNoSite (view_of (bounds_of words) m) size

-- a small site has the size of the least class that holds the request
pub site_class : (v : View) (size : ℕ) (site : Site) → IsSite v size site → size ≤ 16384 → (class : ℕ) × IsClassOf size class × ((range_of site).size ≡ class_size class)
site_class v size (Granules start count) is small = absurd (omega (arith, is.large, small))
site_class v size (InSlab start class number) is small = (class, is.least, refl)
site_class v size (InMorph start class number) is small = (class, is.least, refl)
site_class v size (InNewSlab start class number) is small = (class, is.least, refl)

-- a root was given this block, of the class of the request where that is small
pub record IsGiven (old new : List ℕ) (root asked at size : ℕ) : Type 0 where
  pub here : heap (tables_of new) root ≡ Some (record { at = at; size = size })
  pub others : KeepsOthers old new root
  pub class_is : asked ≤ 16384 → (class : ℕ) × IsClassOf asked class × (size ≡ class_size class)
  pub place : ¬ (HasNoPlaceFor old asked)

-- a malloc that is answered by a block was granted it
granted : (b : Bounds) (m : Machine) (root size at given : ℕ) (next : Machine) → IsMalloc b m root size (replies.Placed at given) next → IsGrant b m root size (replies.Placed at given) next
granted b m root size at given next is = ⊎_elim
    (λ past. absurd (let no = past.1.0 in cc no))
    (λ below. ⊎_elim
    (λ taken. absurd (let no = taken.1.0 in cc no))
    (λ free. ⊎_elim
    (λ zero. absurd (let no = zero.1.0 in cc no))
    (λ some. ⊎_elim
    (λ large. absurd (let no = large.1.0 in cc no))
    (λ rest. ⊎_elim (λ grant. grant) (λ full. absurd (let no = full.1.0 in cc no)) rest.1)
    some.1)
    free.1)
    below.1)
    is

module _ (old new : List ℕ) (seat : ℕ) (was after : Stacks) (root size : ℕ) (reply : Reply) (step : IsStepOf seat old was new after (calls.Malloc root size) reply) where
  pub given : (at got : ℕ) → reply ≡ replies.Placed at got → IsGiven old new root size at got
  given at got is =
      let found = step.each (state_in old) (has_state old) in
      let grant : IsGrant (bounds_of old) (state_in old) root size (replies.Placed at got) found.0 =
      granted (bounds_of old) (state_in old) root size at got found.0 (subst (λ (r : Reply). IsMalloc (bounds_of old) (state_in old) root size r found.0) is found.1.step) in
      let same : replies.Placed at got ≡ replies.Placed (range_of grant.site).at (range_of grant.site).size = grant.is in
      let at_is : (range_of grant.site).at ≡ at = cc same in
      let size_is : (range_of grant.site).size ≡ got = cc same in
      let range : range_of grant.site ≡ record { at = at; size = got } = λ i. record { at = at_is i; size = size_is i } in
      record {
        here = found.2.blocks root ∙ (ap (λ (m : Machine). m.block root) grant.after ∙ (with_key-here (heap (tables_of old)) root (Some (range_of grant.site)) ∙ ap Some range));
        others = record { each = λ other differs. found.2.blocks other ∙ (ap (λ (m : Machine). m.block other) grant.after ∙ with_key-other (heap (tables_of old)) root other (Some (range_of grant.site)) differs) };
        class_is = λ small. let c = site_class (view_of (bounds_of old) (state_in old)) size grant.site grant.chosen small in (c.0, c.1, sym size_is ∙ c.2);
        place = λ lacks. site_apart (view_of (bounds_of old) (state_in old)) size grant.site grant.chosen (lacks (state_in old) (has_state old));
      }

  -- where a root without a block asks for what a heap may have and is given none, there is no place
  module _ (low : root < (bounds_of old).roots) (none : heap (tables_of old) root ≡ None) (some : size ≢ 0) (most : size ≤ ((bounds_of old).granules - (bounds_of old).first) * 16384) where
    answered : (m : Machine) (state : HasState old m) → IsGrant (bounds_of old) m root size reply (step.each m state).0 ⊎ (HasNoSite (view_of (bounds_of old) m) size × IsRefused m replies.NoSpace reply (step.each m state).0)
    answered m state = ⊎_elim
        (λ past. absurd (omega (arith, past.0, low)))
        (λ below. ⊎_elim
        (λ taken. absurd (let named = taken.0.named in let blocks = state.blocks root in cc (named, blocks, none)))
        (λ free. ⊎_elim
        (λ zero. absurd (some zero.0))
        (λ more. ⊎_elim (λ large. absurd (omega (arith, large.0, most))) (λ rest. rest.1) more.1)
        free.1)
        below.1)
        (step.each m state).1.step

    module _ (refused : (at got : ℕ) → reply ≢ replies.Placed at got) where
      pub lacking : HasNoPlaceFor old size
      lacking m state = ⊎_elim (λ grant. absurd (refused _ _ grant.is)) (λ full. full.0) (answered m state)

      pub no_space : reply ≡ replies.NoSpace
      no_space = ⊎_elim (λ grant. absurd (refused _ _ grant.is)) (λ full. full.1.0) (answered (state_in old) (has_state old))

-- free

-- a root lost this block
pub record IsLost (old new : List ℕ) (root : ℕ) (range : Range) (reply : Reply) : Type 0 where
  pub is : reply ≡ replies.Freed range.at range.size
  pub gone : heap (tables_of new) root ≡ None
  pub others : KeepsOthers old new root

pub lost : (old new : List ℕ) (seat : ℕ) (was after : Stacks) (root : ℕ) (range : Range) (reply : Reply) → IsStepOf seat old was new after (calls.Free root) reply → IsExactImage old → heap (tables_of old) root ≡ Some range → IsLost old new root range reply
lost old new seat was after root range reply step exact named =
    let found = step.each (state_in old) (has_state old) in
    ⊎_elim
    (λ past. absurd (omega (arith, past.0, rooted old root range exact named)))
    (λ below. ⊎_elim
    (λ held.
    let same : held.0.range ≡ range = one_range held.0.range range (sym held.0.named ∙ named) in
    record {
      is = held.1.0 ∙ ap (λ (r : Range). replies.Freed r.at r.size) same;
      gone = found.2.blocks root ∙ (ap (λ (m : Machine). m.block root) held.1.1 ∙ with_key-here (heap (tables_of old)) root None);
      others = record { each = λ other differs. found.2.blocks other ∙ (ap (λ (m : Machine). m.block other) held.1.1 ∙ with_key-other (heap (tables_of old)) root other None differs) };
    })
    (λ empty. absurd (empty.0 (record { range = range; named = named })))
    below.1)
    found.1.step

-- move

-- this block passed from a root to another
pub record IsPassed (old new : List ℕ) (from to : ℕ) (range : Range) (reply : Reply) : Type 0 where
  pub is : reply ≡ replies.Moved range.at range.size
  pub moves : MovesOne old from to new

pub passed : (old new : List ℕ) (from to : ℕ) (range : Range) (reply : Reply) → IsStepOfAny old new (calls.Move from to) reply → IsExactImage old → heap (tables_of old) from ≡ Some range → to < (bounds_of old).roots → heap (tables_of old) to ≡ None → IsPassed old new from to range reply
passed old new from to range reply step exact named low none =
    let found = (step 0 (λ seat class. [])).each (state_in old) (has_state old) in
    let apart : to ≢ from = λ is. let other : heap (tables_of old) to ≡ Some range = ap (λ (r : ℕ). heap (tables_of old) r) is ∙ named in cc (other, none) in
    let back : from ≢ to = λ is. apart (sym is) in
    let block : ℕ → Option Range = heap (tables_of old) in
    ⊎_elim
    (λ past. absurd (⊎_elim (λ one. omega (arith, one, rooted old from range exact named)) (λ other. omega (arith, other, low)) past.0))
    (λ below. ⊎_elim
    (λ held. ⊎_elim
    (λ taken. absurd (let also = taken.0.named in cc (also, none)))
    (λ free.
    let same : held.0.range ≡ range = one_range held.0.range range (sym held.0.named ∙ named) in
    record {
      is = free.1.0 ∙ ap (λ (r : Range). replies.Moved r.at r.size) same;
      moves = record {
        here = found.2.blocks to ∙ (ap (λ (m : Machine). m.block to) free.1.1 ∙ (with_key-here (with_key block from None) to (Some held.0.range) ∙ sym held.0.named));
        gone = found.2.blocks from ∙ (ap (λ (m : Machine). m.block from) free.1.1 ∙ (with_key-other (with_key block from None) to from (Some held.0.range) back ∙ with_key-here block from None));
        others = λ other one two. found.2.blocks other ∙ (ap (λ (m : Machine). m.block other) free.1.1 ∙ (with_key-other (with_key block from None) to other (Some held.0.range) two ∙ with_key-other block from other None one));
      };
    })
    held.1)
    (λ empty. absurd (empty.0 (record { range = range; named = named })))
    below.1)
    found.1.step

-- write

-- words that the block has room for are written
pub wrote : (old new : List ℕ) (root from : ℕ) (words : List ℕ) (range : Range) (reply : Reply) → IsWriteStep old new root from words reply → IsExactImage old → heap (tables_of old) root ≡ Some range → from + length words ≤ range.size / 8 → reply ≡ replies.Wrote
wrote old new root from words range reply step exact named room =
    let found = step.each (state_in old) (has_state old) in
    ⊎_elim
    (λ past. absurd (omega (arith, past.0, rooted old root range exact named)))
    (λ below. ⊎_elim
    (λ held.
    let same : held.0.range ≡ range = one_range held.0.range range (sym held.0.named ∙ named) in
    ⊎_elim (λ short. absurd (omega (arith, short.0, room, ap (λ (r : Range). r.size) same))) (λ fits. fits.1.0) held.1)
    (λ empty. absurd (empty.0 (record { range = range; named = named })))
    below.1)
    found.1

-- the words of every other root's block are as they were, and so are those of an image of a crash
module _ (old new : List ℕ) (exact : IsExactImage old) (root from : ℕ) (range : Range) (named : heap (tables_of old) root ≡ Some range) (words : List ℕ) (room : from + length words ≤ range.size / 8) (written : HasWritten old root from words new) where
  unnamed : (other k : ℕ) (another : Range) → other ≢ root → heap (tables_of old) other ≡ Some another → IsWordOf another k → ¬ (IsNamedWord old root from (length words) k)
  unnamed other k another differs is word in_root =
      let place : (tables_of old).root root ≡ range.at = root_place old root range named in
      ⊎_elim
      (λ below. omega (arith, below, word.high, in_root.low, place))
      (λ above. omega (arith, above, word.low, in_root.high, place, room))
      (blocks_apart old other root another range exact differs is named)

  pub same_word : (other k : ℕ) (another : Range) → other ≢ root → heap (tables_of old) other ≡ Some another → IsWordOf another k → word_at new k ≡ word_at old k
  same_word other k another differs is word = written.others k (unnamed other k another differs is word)

  pub left_word : (image : List ℕ) → IsEitherWords old new image → (other k : ℕ) (another : Range) → other ≢ root → heap (tables_of old) other ≡ Some another → IsWordOf another k → word_at image k ≡ word_at old k
  left_word image left other k another differs is word = ⊎_elim (λ before. before) (λ behind. behind ∙ same_word other k another differs is word) (left.each k)
