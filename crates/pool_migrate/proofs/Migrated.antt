-- Words that were made exact and then raised are a migration.
use Rattle.std.proofs.Common.{◌≡◌, ⊎_elim, ℕ, ◌+◌, ◌-◌, ◌<◌, ◌≤◌, List, sym, ap, subst, ◌∙◌, arith, option_map}
use Rattle.std.proofs.lemmas.Bool.{cases_lt}
use Rattle.pool_layout.specs.Places.{heap_word}
use Rattle.pool_layout.specs.declared.header.PoolHeader.{PoolHeader}
use Rattle.pool_layout.specs.Header.{IsHeader}
use Rattle.image_tables.specs.Tables.{tables_of}
use Rattle.heap_check.specs.Heap.{slabs}
use Rattle.heap_check.proofs.BlockWords.{block_word-heap}
use Rattle.image_raise.specs.Rise.{rise, raised, raised_header, IsRaisedImage}
use Rattle.pool_migrate.specs.Migrated.{IsMadeExact, IsMigrated}

pub migrated_by : (words exact new : List ℕ) (header : PoolHeader) → IsHeader words header → IsMadeExact words exact → IsRaisedImage exact new → IsHeader new (raised_header header) → IsMigrated words new
migrated_by words exact new header was made raises now = record {
  header = header;
  was = was;
  now = now;
  exact = raises.exact;
  blocks = λ root. raises.blocks root ∙ ap (option_map (raised rise)) (made.heap.each root);
  values = λ root range k block within.
      let here = made.heap.each root ∙ block in
      raises.word k (subst (λ v. heap_word v ≤ k) made.version (block_word-heap made.image.exact.sound made.image.exact.closed root range here k within))
      ∙ made.blocks.each root root range k block here within;
  classes = λ start class slab. ⊎_elim
      (λ (low : start < rise). absurd (let none = raises.no_slab start low in let e = sym slab ∙ none in cc))
      (λ (high : rise ≤ start).
      let k = start - rise in
      let at : start ≡ k + rise = omega (arith, high) in
      (k, at, made.slabs.classes k class (sym (raises.slab k) ∙ ap (slabs (tables_of new)) (sym at) ∙ slab)))
      (cases_lt start rise);
}
