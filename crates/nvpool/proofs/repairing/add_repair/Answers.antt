use Rattle.std.proofs.Common.{◌≡◌, List, ℕ, length, refl, ap, subst, arith}
use Rattle.pmem_lines.specs.Pmem.{PmemState, words_of}
use Rattle.nvpool.proofs.repairing.add_repair.Goals as goal

pub add_bytes-requires-clause-whole : goal.add_bytes-requires-clause-whole
add_bytes-requires-clause-whole g c =
    let had : length (words_of c.in-Ok.device) ≡ length c.args.words.now = ap (λ (s : PmemState). length (words_of s)) c.in-Ok.ensures in
    let size = g.met.V.Variant.same_size (words_of c.in-Ok.device) (words_of c.in-Ok-repaired.done) c.in-Ok-repaired.ensures.repaired in
    omega (arith, had, size, ap length c.all_words-new.ensures, c.requires.whole)

pub returns-in-Err-Defect-clause-defect : goal.returns-in-Err-Defect-clause-defect
returns-in-Err-Defect-clause-defect g c =
    let own = rw c.in-Err-Defect.field-0-is at c.in-Err-Defect.ensures.defect in
    record { same = refl; first = subst (λ (ws : List ℕ). g.V.Variant.rules.IsFirst ws c.in-Err-Defect.defect) (ap (λ (s : PmemState). words_of s) c.in-Ok.ensures) own }
