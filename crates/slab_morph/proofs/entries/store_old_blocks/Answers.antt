use Rattle.std.proofs.Common.{◌≡◌, ◌+◌, ◌*◌, ◌/◌, ◌<◌, ◌≤◌, ◌∙◌, ℕ, true, false, length, sym, ap, arith, subst}
use Rattle.slab_morph.proofs.Common.{PmemState, words_of, appended, Appends-state, class_capacity, index_word, slab_bit, numbers_below, index_stores}
use Rattle.slab_morph.specs.SlabHeaders.{header_at}
use Rattle.slab_morph.proofs.Numbers.{count_more}
use Rattle.slab_morph.proofs.Storing.{bit_was, place_below, stored, skipped}
use Rattle.slab_morph.proofs.entries.store_old_blocks.Goals as goal
use Rattle.slab_morph.proofs.entries.store_old_blocks.Goals.{then-bit_at, else-bit_at}

-- at most 64 blocks up to the loop's end
few_by : (s : PmemState) (start end capacity : ℕ) → end ≡ capacity → length (numbers_below (header_at (words_of s) start).bit capacity) ≤ 64 → length (numbers_below (header_at (words_of s) start).bit end) ≤ 64
few_by s start end capacity is few = subst (λ (n : ℕ). length (numbers_below (header_at (words_of s) start).bit n) ≤ 64) (sym is) few

-- there is a place for a block whose bit is set
room_for : (s t : PmemState) (start n end : ℕ) {capacity : ℕ} → end ≡ capacity → n < end → end ≤ 4096 → length (numbers_below (header_at (words_of s) start).bit capacity) ≤ 64 →
    t ≡ appended s (index_stores start 0 (numbers_below (header_at (words_of s) start).bit n)) → true ≡ slab_bit (words_of t) start n →
    (length (numbers_below (header_at (words_of s) start).bit n) + 1 ≤ length (numbers_below (header_at (words_of s) start).bit capacity)) × (length (numbers_below (header_at (words_of s) start).bit n) < 64)
room_for s t start n end {capacity} is below most few whole read =
    let few_there = few_by s start end capacity is few in
    let room = place_below s t start n end below most few_there whole read in
    (subst (λ (m : ℕ). length (numbers_below (header_at (words_of s) start).bit n) + 1 ≤ length (numbers_below (header_at (words_of s) start).bit m)) is room, omega (arith, room, few_there))

pub index_at-requires-clause-place : goal.index_at-requires-clause-place
index_at-requires-clause-place g c =
    let so_far = c.loop-number.invariant in
    let room = room_for (g.P.Pmem.state c.args.p.now) (g.P.Pmem.state c.loop-number.p) (c.args.slab / 16384) c.loop-number.number c.capacity-number-end.result c.capacity-number-end.ensures.count c.loop-number-test.true (omega arith) c.requires.few so_far.whole c.if-bit_at.ensures.bit in
    omega (arith, room.1, so_far.place)

pub store-requires : goal.store-requires
store-requires g c =
    let so_far = c.loop-number.invariant in
    let room = room_for (g.P.Pmem.state c.args.p.now) (g.P.Pmem.state c.loop-number.p) (c.args.slab / 16384) c.loop-number.number c.capacity-number-end.result c.capacity-number-end.ensures.count c.loop-number-test.true (omega arith) c.requires.few so_far.whole c.if-bit_at.ensures.bit in
    record {
      place = record { aligned = omega (arith, c.index_at.ensures); inside = omega (arith, c.index_at.ensures, room.1, so_far.place, so_far.size) };
      room = omega (arith, room.0, c.requires.room, so_far.place, so_far.count, so_far.room);
    }

pub loop-number-preserved : goal.loop-number-preserved
loop-number-preserved g c =
    let s = g.P.Pmem.state c.args.p.now in
    let t = g.P.Pmem.state c.loop-number.p in
    let start = c.args.slab / 16384 in
    let n = c.loop-number.number in
    let end = c.capacity-number-end.result in
    let so_far = c.loop-number.invariant in
    let few = few_by s start end _ c.capacity-number-end.ensures.count c.requires.few in
    elim c.if-bit_at.branch [
      | then-bit_at w ↦
          let more = count_more (header_at (words_of s) start).bit n true (bit_was s t start n end c.loop-number-test.true (omega arith) few so_far.whole true w.if-bit_at.ensures.bit) in
          let place : w.index_at.result ≡ 8 * index_word start (length (numbers_below (header_at (words_of s) start).bit n)) =
          (let here : w.index_at.result ≡ 8 * index_word start c.loop-number.place = omega (arith, w.index_at.ensures) in here ∙ ap (λ k. 8 * index_word start k) so_far.place) in
          let same = ap g.P.Pmem.state w.p-is in
          let put = stored s t start n end c.loop-number-test.true (omega arith) few so_far.whole (g.P.Pmem.state w.store.new.self) w.index_at.result w.index_word.result w.if-bit_at.ensures.bit place w.index_word.ensures.word w.store.ensures in
          record {
            whole = same ∙ put;
            size = ap (λ (x : PmemState). length (words_of x)) same ∙ w.store.ensures.size ∙ so_far.size;
            room = ap (λ (x : PmemState). x.room) same ∙ w.store.ensures.room ∙ so_far.room;
            count = omega (arith, ap (λ (x : PmemState). length x.events) same, w.store.ensures.count, so_far.count, w.place-is);
            place = omega (arith, more, w.place-is, so_far.place);
          }
      | else-bit_at w ↦
          let more = count_more (header_at (words_of s) start).bit n false (bit_was s t start n end c.loop-number-test.true (omega arith) few so_far.whole false w.if-bit_at.ensures.bit) in
          let same = ap g.P.Pmem.state w.p-is in
          record {
            whole = same ∙ skipped s t start n end c.loop-number-test.true (omega arith) few so_far.whole w.if-bit_at.ensures.bit;
            size = ap (λ (x : PmemState). length (words_of x)) same ∙ so_far.size;
            room = ap (λ (x : PmemState). x.room) same ∙ so_far.room;
            count = omega (arith, ap (λ (x : PmemState). length x.events) same, so_far.count, w.place-is);
            place = omega (arith, more, w.place-is, so_far.place);
          }
    ]

pub returns-clause-appends : goal.returns-clause-appends
returns-clause-appends g c =
    let s = g.P.Pmem.state c.args.p.now in
    let start = c.args.slab / 16384 in
    let last : c.loop-number.number ≡ c.capacity-number-end.result = omega arith in
    Appends-state s (g.P.Pmem.state c.loop-number.p) (index_stores start 0 (numbers_below (header_at (words_of s) start).bit (class_capacity c.args.class)))
    (subst (λ (n : ℕ). g.P.Pmem.state c.loop-number.p ≡ appended s (index_stores start 0 (numbers_below (header_at (words_of s) start).bit n))) (last ∙ c.capacity-number-end.ensures.count) c.loop-number.invariant.whole)
