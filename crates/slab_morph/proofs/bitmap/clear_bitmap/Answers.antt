use Rattle.std.proofs.Common.{◌≡◌, ◌+◌, ◌*◌, ◌/◌, ◌≤◌, ◌++◌, ◌∷◌, [], List, ℕ, sym, subst, length, arith}
use Rattle.slab_morph.proofs.Common.{Event, Fence, reading, words_of, Appends, then_step, step_of, stores_at, flushes_of, granule_word, blocks_place, clear_events}
use Rattle.slab_morph.specs.Stages.{with_no_bit, IsOffBitmap, Changes}
use Rattle.slab_morph.proofs.HeaderTables.{changes_by}
use Rattle.slab_morph.proofs.HeaderWords.{off_bitmap}
use Rattle.slab_morph.proofs.BitmapEvents.{IsQuiet-clear, clear_crash, clear_left, header_clear}
use Rattle.slab_morph.proofs.bitmap.clear_bitmap.Goals as goal

pub returns-clause-step : goal.returns-clause-step
returns-clause-step g c =
    let state = g.P.Pmem.state in
    let stored = then_step c.store_words.ensures.appends c.flush_lines.ensures.appends in
    let from : c.slab_header_at.result ≡ 16384 * (c.args.slab / 16384) + 64 = omega (arith, c.slab_header_at.ensures) in
    let line : c.args.slab / 64 + 1 ≡ (16384 * (c.args.slab / 16384) + 64) / 64 = omega arith in
    step_of
    (subst (λ (es : List Event). Appends (state c.args.p.now) (state c.fence.new.self) es)
    (λ i. stores_at (from i) (c.no_bits-clear.ensures.words i) ++ flushes_of (line i) 8 ++ Fence ∷ [])
    (then_step stored c.fence.ensures))
    (IsQuiet-clear (c.args.slab / 16384)) c.requires.quiet
    (clear_crash (words_of (state c.args.p.now)) (c.args.slab / 16384))

pub returns-clause-cleared : goal.returns-clause-cleared
returns-clause-cleared g c =
    let words = words_of (g.P.Pmem.state c.args.p.now) in
    let start = c.args.slab / 16384 in
    let new = reading words (clear_events start) in
    let inside : granule_word start + blocks_place ≤ length words = omega arith in
    subst (λ (ws : List ℕ). Changes words ws start with_no_bit) (sym (returns-clause-step g c).appends.words)
    (changes_by words new start with_no_bit (off_bitmap words new start (clear_left words start)) (header_clear words start inside))

pub returns-clause-others : goal.returns-clause-others
returns-clause-others g c = subst (IsOffBitmap (words_of (g.P.Pmem.state c.args.p.now)) (c.args.slab / 16384)) (sym (returns-clause-step g c).appends.words) (clear_left (words_of (g.P.Pmem.state c.args.p.now)) (c.args.slab / 16384))
