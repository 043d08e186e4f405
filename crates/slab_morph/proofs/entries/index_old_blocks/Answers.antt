use Rattle.std.proofs.Common.{◌≡◌, ◌+◌, ◌*◌, ◌/◌, ◌≤◌, ◌<◌, ◌++◌, ◌∷◌, ◌^◌, [], min, List, ℕ, sym, subst, length, get_or, arith}
use Rattle.slab_morph.proofs.Common.{word_at, Event, Fence, reading, words_of, Appends, then_step, step_of, flushes_of, class_capacity, granule_word, blocks_place, IsIndexWord, index_word, SlabHeader, index_stores, index_events}
use Rattle.slab_morph.specs.SlabHeaders.{header_at}
use Rattle.slab_morph.specs.Stages.{numbers_of, with_index, IsOffIndex, Changes}
use Rattle.slab_morph.proofs.Fitting.{capacity_most}
use Rattle.slab_morph.proofs.Numbers.{numbers_pass}
use Rattle.slab_morph.proofs.HeaderTables.{changes_by}
use Rattle.slab_morph.proofs.HeaderWords.{off_index}
use Rattle.slab_morph.proofs.IndexEvents.{length-index_stores, IsQuiet-index, index_crash, index_left, entries_formed, header_index}
use Rattle.slab_morph.proofs.entries.index_old_blocks.Goals as goal

pub flush_lines-requires-clause-room : goal.flush_lines-requires-clause-room
flush_lines-requires-clause-room g c =
    let stored = c.store_old_blocks-count.ensures in
    let long = length-index_stores (c.args.slab / 16384) 0 (numbers_of (header_at (words_of (g.P.Pmem.state c.args.p.now)) (c.args.slab / 16384)) c.args.class) in
    omega (arith, stored.appends.count, stored.appends.room, long, c.min.ensures, c.requires.room, stored.count)

pub fence-requires : goal.fence-requires
fence-requires g c =
    let stored = c.store_old_blocks-count.ensures in
    let long = length-index_stores (c.args.slab / 16384) 0 (numbers_of (header_at (words_of (g.P.Pmem.state c.args.p.now)) (c.args.slab / 16384)) c.args.class) in
    omega (arith, stored.appends.count, stored.appends.room, c.flush_lines.ensures.count, c.flush_lines.ensures.appends.room, long, c.min.ensures, c.requires.room, stored.count)

pub returns-clause-step : goal.returns-clause-step
returns-clause-step g c =
    let state = g.P.Pmem.state in
    let start = c.args.slab / 16384 in
    let numbers = numbers_of (header_at (words_of (state c.args.p.now)) start) c.args.class in
    let stored = then_step c.store_old_blocks-count.ensures.appends c.flush_lines.ensures.appends in
    let line : c.args.slab / 64 + 9 ≡ 8 * index_word start 0 / 64 = omega arith in
    let lines : c.min.result ≡ min (length numbers) 8 = omega (arith, c.min.ensures, c.store_old_blocks-count.ensures.count) in
    step_of
    (subst (λ (es : List Event). Appends (state c.args.p.now) (state c.fence.new.self) es)
    (λ i. index_stores start 0 numbers ++ flushes_of (line i) (lines i) ++ Fence ∷ [])
    (then_step stored c.fence.ensures))
    (IsQuiet-index start numbers c.requires.few) c.requires.quiet
    (index_crash (words_of (state c.args.p.now)) start numbers c.requires.few)

pub returns-clause-count : goal.returns-clause-count
returns-clause-count g c = omega (arith, c.store_old_blocks-count.ensures.count, c.requires.few)

fits : (h : SlabHeader) (class : ℕ) → class < 36 → (i : ℕ) → i < length (numbers_of h class) → get_or (numbers_of h class) i 0 < 2 ^ 16
fits h class is_class i below = omega (arith, (numbers_pass h.bit (class_capacity class) i below).below, capacity_most class is_class)

pub returns-clause-indexed : goal.returns-clause-indexed
returns-clause-indexed g c =
    let words = words_of (g.P.Pmem.state c.args.p.now) in
    let start = c.args.slab / 16384 in
    let h = header_at words start in
    let numbers = numbers_of h c.args.class in
    let inside : granule_word start + blocks_place ≤ length words = omega arith in
    subst (λ (ws : List ℕ). Changes words ws start (λ h. with_index h (numbers_of h c.args.class))) (sym (returns-clause-step g c).appends.words)
    (changes_by words (reading words (index_events start numbers)) start (λ h. with_index h (numbers_of h c.args.class)) (off_index words (reading words (index_events start numbers)) start (index_left words start numbers c.requires.few)) (header_index words start numbers c.requires.few inside (fits h c.args.class c.requires.class)))

pub returns-clause-others : goal.returns-clause-others
returns-clause-others g c =
    let words = words_of (g.P.Pmem.state c.args.p.now) in
    let start = c.args.slab / 16384 in
    subst (IsOffIndex words start) (sym (returns-clause-step g c).appends.words) (index_left words start (numbers_of (header_at words start) c.args.class) c.requires.few)

pub returns-clause-entries : goal.returns-clause-entries
returns-clause-entries g c place below =
    let words = words_of (g.P.Pmem.state c.args.p.now) in
    let start = c.args.slab / 16384 in
    let h = header_at words start in
    let numbers = numbers_of h c.args.class in
    let inside : granule_word start + blocks_place ≤ length words = omega arith in
    subst (λ (ws : List ℕ). IsIndexWord (word_at ws (index_word start place))) (sym (returns-clause-step g c).appends.words)
    (entries_formed words start numbers c.requires.few inside (fits h c.args.class c.requires.class) place (omega (arith, below, returns-clause-count g c)))
