use Rattle.std.proofs.Common.{◌≡◌, subst, arith}
use borrow.Author.Count.{below_more}
use Rattle.pool_layout.specs.Header.{IsHeaderLine}
use Rattle.pool_layout.specs.Image.{part_of, header_of_arena}
use Rattle.pool_layout.proofs.Images.{header_line-first, bad_arena}
use Rattle.pool_layout.proofs.image.check_arenas.Goals as goal

pub loop-arena-init : goal.loop-arena-init
loop-arena-init c earlier below =
    let zero' : 0 ≡ earlier = omega arith in
    subst (λ n. IsHeaderLine c.args.variant (part_of c.args.words.now c.args.header.now.granules n) (header_of_arena c.args.header.now n)) zero'
    (header_line-first c.args.variant c.args.words.now c.args.header.now c.requires.size c.requires.line)

pub returns-in-Err-clause-bad : goal.returns-in-Err-clause-bad
returns-in-Err-clause-bad c image is size =
    bad_arena c.args.variant image c.args.words.now c.args.header.now c.loop-arena.arena c.in-Err.defect is size c.requires.line c.loop-arena.auto.arena c.loop-arena-test.true c.loop-arena.invariant c.in-Err.ensures

pub loop-arena-preserved : goal.loop-arena-preserved
loop-arena-preserved c = below_more _ _ c.loop-arena.invariant c.in-Ok.ensures

pub returns-clause-all : goal.returns-clause-all
returns-clause-all c = record {
  first = c.requires.line.valid;
  size = c.requires.size;
  each = λ arena below. c.loop-arena.invariant arena (omega arith);
}
