use Rattle.std.proofs.Common.{◌≡◌, ◌*◌, replicate, ap, ◌∙◌}
use Rattle.extent_index.specs.Runs.{words_of}
use Rattle.extent_index.proofs.Changes.{IsIndex-full, none_free}
use Rattle.extent_index.proofs.index.ExtentIndex.full.Goals as goal

pub invariant_of-result : goal.invariant_of-result
invariant_of-result c =
    let granules = c.args.granules in
    let starts : c.in_ok-starts.starts ≡ replicate (words_of granules * granules) 0 = c.in_ok-starts.ensures ∙ ap (λ words. replicate (words * granules) 0) c.words_for-words.ensures.value in
    let lengths : c.in_ok-lengths.lengths ≡ replicate (words_of granules) 0 = c.in_ok-lengths.ensures ∙ ap (λ words. replicate words 0) c.words_for-words.ensures.value in
    let length_at = c.in_ok-length_at.ensures.items_if_clones_equal (λ y h. h) in
    let start_at = c.in_ok-start_at.ensures.items_if_clones_equal (λ y h. h) in
    rw (starts, lengths, length_at, start_at) (IsIndex-full granules c.requires.least c.requires.most)

pub returns-clause-held : goal.returns-clause-held
returns-clause-held c =
    let length_at = c.in_ok-length_at.ensures.items_if_clones_equal (λ y h. h) in
    λ k. rw length_at (none_free c.args.granules k)
