use Rattle.std.proofs.Common.{sym, ap, ◌∙◌, true≢false, arith}
use Rattle.slab_morph.proofs.Common.{words_of, kind_of, entries_of}
use Rattle.slab_morph.proofs.OldBlocks.{morphed_of, kind_is, entries_is, done_by}
use Rattle.slab_morph.proofs.old_blocks.is_done.Goals as goal

pub returns-then-is_normal : goal.returns-then-is_normal
returns-then-is_normal g c = (
  λ is. absurd (true≢false (sym is)),
  λ done. absurd (omega (arith, c.is_normal.ensures.0 c.if-is_normal.true, done.kind)),
)

pub returns-in-Morphed : goal.returns-in-Morphed
returns-in-Morphed g c =
    let words = words_of (g.P.Pmem.state c.args.p.now) in
    let says = c.state_at.ensures.says in
    done_by words c.args.slab c.requires.here c.from.result c.has_live.result
    (c.from.ensures ∙ ap entries_of (sym c.in-Morphed.is) ∙ entries_is words c.args.slab c.requires.here c.state_at.result says)
    (sym (kind_is words c.args.slab c.requires.here c.state_at.result says) ∙ ap kind_of c.in-Morphed.is) c.has_live.ensures.some c.has_live.ensures.none

pub returns-in_default : goal.returns-in_default
returns-in_default g c =
    let words = words_of (g.P.Pmem.state c.args.p.now) in (
      λ is. absurd (true≢false (sym is)),
      λ done.
          let is = morphed_of c.state_at.result (kind_is words c.args.slab c.requires.here c.state_at.result c.state_at.ensures.says ∙ done.kind) in
          absurd (c.in_default.not-Morphed is.0 is.1 is.2 is.3),
    )
