use Rattle.std.proofs.Common.{◌≡◌, ◌++◌, sym, subst}
use Rattle.std.specs.Prelude.{OnOk}
use Rattle.heap_map.specs.declared.facts.Variant.{Variant}
use Rattle.map_text.specs.Facts.{variant_line}
use Rattle.map_text.proofs.facts.write_variant.Goals as goal

pub returns-in-Gc : goal.returns-in-Gc
returns-in-Gc c = subst (λ (v : Variant). OnOk c.write_words.result (c.write_words.new.out.items ≡ c.args.out.now.items ++ variant_line c.args.arena v)) (sym c.in-Gc.is) c.write_words.ensures
