use Rattle.std.proofs.Common.{arith, sym}
use Rattle.gc_search.proofs.Premises.{size_of, few_granules, granules_word}
use Rattle.gc_search.proofs.search.granules_of.Goals.{then-granules-lt16-via-then-granules-lt16, then-granules-lt16-via-else-granules-lt16+then-granules-gt1024}
use Rattle.gc_search.proofs.search.granules_of.Goals as goal

pub returns-then-words-lt2-clause-room : goal.returns-then-words-lt2-clause-room
returns-then-words-lt2-clause-room c = record { fits = λ header. absurd (omega (arith, header.whole, c.if-words-lt2.true)) }

pub returns-then-granules-lt16-clause-room : goal.returns-then-granules-lt16-clause-room
returns-then-granules-lt16-clause-room c =
    let words = c.args.words.now in
    record {
      fits = λ header. absurd (elim c.then-granules-lt16.branch [
        | then-granules-lt16-via-then-granules-lt16 w ↦ omega (arith, granules_word words, (size_of words header).least, w.if-granules-lt16.true)
        | then-granules-lt16-via-else-granules-lt16+then-granules-gt1024 w ↦ omega (arith, granules_word words, few_granules words header, w.if-granules-gt1024.true)
      ]);
    }

pub returns-clause-room : goal.returns-clause-room
returns-clause-room c = record { fits = λ header. sym (granules_word c.args.words.now) }
