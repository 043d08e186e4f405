use Rattle.std.proofs.Common.{◌≡◌, ◌≢◌, ◌≤◌, ◌∙◌, ℕ, List, length, sym, ap, subst, arith}
use Rattle.defect_search.proofs.Common.{AllPairs, false≢true, eqb-true, eqb-false, active_chunks}
use Rattle.defect_search.proofs.DirectoryBytes.{few_chunks, small_chunks}
use Rattle.defect_search.proofs.directory.is_directory.Goals as goal

pub returns-then-not-is_whole : goal.returns-then-not-is_whole
returns-then-not-is_whole c = (λ e. absurd (false≢true e), λ is. sym c.if-not-is_whole.true ∙ c.is_whole.ensures.1 is.word)

pub returns-then-is_empty : goal.returns-then-is_empty
returns-then-is_empty c =
    let items : c.as_slice-chunks.result.now ≡ active_chunks c.args.directory = c.as_slice-chunks.ensures.value ∙ c.active_chunks-active.ensures in
    let none = eqb-true (length c.as_slice-chunks.result.now) 0 (sym c.is_empty.ensures ∙ c.if-is_empty.true) in
    (λ e. absurd (false≢true e), λ is. absurd (omega (arith, is.some, none, ap length items)))

pub returns : goal.returns
returns c =
    let items : c.as_slice-chunks.result.now ≡ active_chunks c.args.directory = c.as_slice-chunks.ensures.value ∙ c.active_chunks-active.ensures in
    let none : length c.as_slice-chunks.result.now ≢ 0 = eqb-false (length c.as_slice-chunks.result.now) 0 (sym c.is_empty.ensures ∙ c.if-is_empty.false) in
    let some : 1 ≤ length (active_chunks c.args.directory) = omega (arith, none, ap length items) in
    let Once : List ℕ → Type 0 = λ chunks. AllPairs (λ chunk later. chunk ≢ later) chunks in (
      λ e. record {
        word = c.is_whole.ensures.0 c.if-not-is_whole.false;
        some = some;
        most = few_chunks c.args.directory;
        small = small_chunks c.args.directory;
        once = subst Once items (c.are_distinct.ensures.0 e);
      },
      λ is. c.are_distinct.ensures.1 (subst Once (sym items) is.once),
    )
