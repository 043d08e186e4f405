use Rattle.std.proofs.Common.{◌≡◌, ◌*◌, ◌-◌, ◌+◌, ◌<◌, ◌++◌, ◌∙◌, List, ℕ, Option, length, ap, sym, subst, arith, append_assoc}
use Rattle.nvheap.proofs.Common.{PmemState, words_of, fresh, layout_of, part_of, IfDefect, IsSoundImage, HasVersionRoom, IsRecovered, IsOwnDefect, heap_lines, heaps_from}
use Rattle.pool_layout.specs.declared.layout.Layout.{Layout}
use Rattle.pool_layout.proofs.Images.{length-part_of}
use Rattle.nvheap.specs.Recovering.{HasRecovered}
use Rattle.nvheap.proofs.Recoveries.{few_granules, pool_room, heaps_more, recovered_more, unsound_here, unsound_later}
use Rattle.nvheap.proofs.recovering.+recover_from.Goals as goal

pub take_image-requires-clause-whole : goal.take_image-requires-clause-whole
take_image-requires-clause-whole g t c =
    let header = c.args.header.now in
    let below : c.args.arena < header.arenas = omega (arith, c.if-arena-header.false, c.requires.inside) in
    let size : length c.parts.result.now ≡ 2048 * header.granules = ap length c.parts.ensures ∙ length-part_of c.args.words.now header.granules header.arenas c.args.arena c.requires.pool.size below in
    omega (arith, size)

pub take_image-requires-clause-few : goal.take_image-requires-clause-few
take_image-requires-clause-few g t c =
    let header = c.args.header.now in
    let below : c.args.arena < header.arenas = omega (arith, c.if-arena-header.false, c.requires.inside) in
    let size : length c.parts.result.now ≡ 2048 * header.granules = ap length c.parts.ensures ∙ length-part_of c.args.words.now header.granules header.arenas c.args.arena c.requires.pool.size below in
    omega (arith, size, few_granules header c.requires.pool.first)

pub recover_arena-requires-clause-room : goal.recover_arena-requires-clause-room
recover_arena-requires-clause-room g t c =
    let header = c.args.header.now in
    let below : c.args.arena < header.arenas = omega (arith, c.if-arena-header.false, c.requires.inside) in
    let room = c.layout_of.result.room in
    let is : room ≡ (layout_of header.version).room = ap (λ (row : Layout). row.room) c.layout_of.ensures.row in
    subst HasVersionRoom (sym (c.in-Ok.ensures.device ∙ ap (λ (ws : List ℕ). fresh ws room) c.parts.ensures))
    (pool_room c.args.words.now header c.args.arena room c.requires.pool below is)

pub returns-in-Err-recover_arena-clause-unsound : goal.returns-in-Err-recover_arena-clause-unsound
returns-in-Err-recover_arena-clause-unsound g t c =
    let below : c.args.arena < c.args.header.now.arenas = omega (arith, c.if-arena-header.false, c.requires.inside) in
    let same = ap (λ (s : PmemState). words_of s) c.in-Ok.ensures.device ∙ c.parts.ensures in
    unsound_here c.args.words.now c.args.header.now c.args.arena c.in-Err-recover_arena.fault below
    (subst (λ (ws : List ℕ). IfDefect c.in-Err-recover_arena.fault (IsOwnDefect ws c.args.arena)) same c.in-Err-recover_arena.ensures.defect)

pub returns-in-Err-recover_from-clause-unsound : goal.returns-in-Err-recover_from-clause-unsound
returns-in-Err-recover_from-clause-unsound g t c =
    let same = ap (λ (s : PmemState). words_of s) c.in-Ok.ensures.device ∙ c.parts.ensures in
    unsound_later c.args.words.now c.args.header.now c.args.arena c.in-Err-recover_from.fault
    (subst (λ (ws : List ℕ). IsSoundImage ws) same c.in-Ok-recover_arena.ensures.sound) c.in-Err-recover_from.ensures.unsound

pub returns-clause-text : goal.returns-clause-text
returns-clause-text g t c =
    let words = c.args.words.now in
    let header = c.args.header.now in
    let k = c.args.arena in
    let old = c.args.text.now.items in
    let rest = heaps_from words header.granules (k + 1) (header.arenas - (k + 1)) in
    let below : k < header.arenas = omega (arith, c.if-arena-header.false, c.requires.inside) in
    let same = ap (λ (s : PmemState). words_of s) c.in-Ok.ensures.device ∙ c.parts.ensures in
    c.in-Ok-recover_from.ensures.text
    ∙ ap (λ (x : List ℕ). x ++ rest) (c.in-Ok-recover_arena.ensures.text ∙ ap (λ (ws : List ℕ). old ++ heap_lines k ws) same)
    ∙ append_assoc old (heap_lines k (part_of words header.granules k)) rest
    ∙ ap (λ (x : List ℕ). old ++ x) (sym (heaps_more words header.granules k header.arenas below))

pub returns-clause-recovered : goal.returns-clause-recovered
returns-clause-recovered g t c =
    let words = c.args.words.now in
    let header = c.args.header.now in
    let k = c.args.arena in
    let device = g.H.Device.Pmem.state c.in-Ok-recover_arena.device in
    let old = g.H.Shelf.places c.args.shelf.now in
    let rest = g.H.Shelf.places c.recover_from.new.shelf in
    let below : k < header.arenas = omega (arith, c.if-arena-header.false, c.requires.inside) in
    let same = ap (λ (s : PmemState). words_of s) c.in-Ok.ensures.device ∙ c.parts.ensures in
    recovered_more words header.granules k header.arenas c.layout_of.result.room device old rest (g.H.Shelf.places c.put.new.self) below
    (subst (λ (ws : List ℕ). IsSoundImage ws) same c.in-Ok-recover_arena.ensures.sound)
    (subst (λ (s : PmemState). IsRecovered s device) (c.in-Ok.ensures.device ∙ ap (λ (ws : List ℕ). fresh ws c.layout_of.result.room) c.parts.ensures) c.in-Ok-recover_arena.ensures.recovered)
    (subst (λ (p : Option (List (Option PmemState))). HasRecovered words header.granules (k + 1) (header.arenas - (k + 1)) p rest) c.take_image.ensures.places c.in-Ok-recover_from.ensures.recovered)
    c.put.ensures.places
