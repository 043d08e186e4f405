-- The lines of the arenas that were looked at, one after another.
use Rattle.std.proofs.Common.{◌≡◌, ℕ, ◌+◌, ◌<◌, List, [], ◌∷◌, ◌++◌, length, sym, ap, subst, ◌∙◌, arith, append_assoc, length-append, refl, suc}
use Rattle.std.proofs.lemmas.List.{append-nil}
use Rattle.pool_layout.specs.Image.{part_of}
use Rattle.heap_check.specs.Image.{IsSoundImage}
use Rattle.image_defects.specs.declared.summary.Summary.{Summary}
use Rattle.image_defects.specs.Summaries.{IsSummary}
use Rattle.trace_runs.proofs.Each.{EachFrom-more, EachFrom-at}
use Rattle.image_runs.specs.Checks.{line_of, lines_of, HasLines, AddsLine}

module _ (words : List ℕ) (granules : ℕ) where
  -- an arena is sound, and has these counts
  abbrev HasCounts : ℕ → Summary → Type 0
  HasCounts arena s = IsSoundImage (part_of words granules arena) × IsSummary (part_of words granules arena) s

  pub sound_before : {count : ℕ} {text : List ℕ} → HasLines words granules count text → (earlier : ℕ) → earlier < count → IsSoundImage (part_of words granules earlier)
  sound_before lines earlier below = subst (λ a. IsSoundImage (part_of words granules a)) (omega arith) (EachFrom-at HasCounts 0 lines.summaries earlier lines.sound (omega (arith, below, lines.all))).1.0

  -- one more line
  pub lines_more : {count : ℕ} {text new : List ℕ} → HasLines words granules count text → AddsLine (part_of words granules count) count text new → HasLines words granules (count + 1) new
  lines_more {count} {text} {new} lines adds = record {
    summaries = lines.summaries ++ adds.summary ∷ [];
    all = length-append lines.summaries (adds.summary ∷ []) ∙ omega (arith, lines.all);
    sound = EachFrom-more HasCounts 0 lines.summaries adds.summary lines.sound (subst (λ n. HasCounts n adds.summary) (omega (arith, lines.all)) (adds.sound, adds.says));
    is = adds.is ∙ ap (λ (t : List ℕ). t ++ line_of count adds.summary) lines.is ∙ ap (λ n. lines_of 0 lines.summaries ++ line_of n adds.summary) (omega (arith, lines.all)) ∙ sym (text_more 0 lines.summaries adds.summary);
  }
    where
      text_more : (arena : ℕ) (ss : List Summary) (s : Summary) → lines_of arena (ss ++ s ∷ []) ≡ lines_of arena ss ++ line_of (arena + length ss) s
      text_more arena [] s = append-nil (line_of arena s) ∙ ap (λ a. line_of a s) (omega arith)
      text_more arena (x ∷ ss) s =
          ap (λ (t : List ℕ). line_of arena x ++ t) (text_more (arena + 1) ss s)
          ∙ ap (λ a. line_of arena x ++ (lines_of (arena + 1) ss ++ line_of a s)) (omega arith)
          ∙ sym (append_assoc (line_of arena x) (lines_of (arena + 1) ss) (line_of (arena + suc (length ss)) s))

-- no line yet
pub no_lines : (words : List ℕ) (granules : ℕ) → HasLines words granules 0 []
no_lines words granules = record { summaries = []; all = refl; sound = tt; is = refl }
