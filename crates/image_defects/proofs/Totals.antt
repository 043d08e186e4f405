-- There is one summary at most.
use Rattle.std.proofs.Common.{◌≡◌, ℕ, ◌*◌, List, ap, ◌∙◌, arith}
use Rattle.pool_layout.specs.Layout.{layout_of}
use Rattle.pool_layout.specs.Header.{version_in, granules_in}
use Rattle.image_tables.specs.Tables.{Tables, tables_of}
use Rattle.heap_check.specs.Sound.{IsLooseLarge, IsEmptySlab, IsMorphing, IsDoneSlab}
use Rattle.image_defects.specs.declared.summary.Summary.{Summary}
use Rattle.image_defects.specs.Summaries.{HasLarge, HasSlab, HasRoot, IsLooseBlock, IsLooseTotal, IsSummary}
use Rattle.image_defects.proofs.Counts.{count_once}

total_once : (t : Tables) (n a b : ℕ) → IsLooseTotal t n a → IsLooseTotal t n b → a ≡ b
total_once t n a b p q =
    let held = count_once (IsLooseBlock t) (16384 * n) p.held q.held p.blocks q.blocks in
    let large = count_once (IsLooseLarge t) n p.loose.large q.loose.large p.are.large q.are.large in
    let empty = count_once (IsEmptySlab t) n p.loose.empty q.loose.empty p.are.empty q.are.empty in
    let morphing = count_once (IsMorphing t) n p.loose.morphing q.loose.morphing p.are.morphing q.are.morphing in
    let done = count_once (IsDoneSlab t) n p.loose.done q.loose.done p.are.done q.are.done in
    omega (arith, p.is, q.is, held, large, empty, morphing, done)

abbrev summary_of : ℕ → ℕ → ℕ → ℕ → Summary
summary_of large slabs blocks loose = record { large = large; slabs = slabs; blocks = blocks; loose = loose }

same_summary : (a b c d e f g h : ℕ) → a ≡ e → b ≡ f → c ≡ g → d ≡ h → summary_of a b c d ≡ summary_of e f g h
same_summary a b c d e f g h p q r s = ap (λ n. summary_of n b c d) p ∙ ap (λ n. summary_of e n c d) q ∙ ap (λ n. summary_of e f n d) r ∙ ap (λ n. summary_of e f g n) s

pub one_summary : (words : List ℕ) (summary other : Summary) → IsSummary words summary → IsSummary words other → summary ≡ other
one_summary words summary other is also =
    let t = tables_of words in
    let n = granules_in words in
    let large = count_once (HasLarge t) n summary.large other.large is.large also.large in
    let slabs = count_once (HasSlab t) n summary.slabs other.slabs is.slabs also.slabs in
    let blocks = count_once (HasRoot t) (layout_of (version_in words)).roots summary.blocks other.blocks is.blocks also.blocks in
    let loose = total_once t n summary.loose other.loose is.loose also.loose in
    same_summary summary.large summary.slabs summary.blocks summary.loose other.large other.slabs other.blocks other.loose large slabs blocks loose
