use Rattle.std.proofs.Common.{arith}
use Rattle.book_log.proofs.Places.{header_within}
use Rattle.book_log.proofs.taking.next_place.Goals as goal

pub version_in-version-requires : goal.version_in-version-requires
version_in-version-requires c = omega (arith, header_within c.requires.log.0 c.args.words.now c.requires.log.1 c.requires.inside)

pub word_at-requires : goal.word_at-requires
word_at-requires c = record {
  aligned = omega (arith, c.directory_at.ensures);
  inside = omega (arith, c.directory_at.ensures, header_within c.requires.log.0 c.args.words.now c.requires.log.1 c.requires.inside);
}
