use Rattle.std.proofs.Common.{List, length, subst, arith, refl}
use Rattle.image_defects.specs.Count.{IsCount}
use Rattle.heap_map.specs.declared.cell.Cell.{Cell}
use Rattle.heap_map.specs.LogRules.{log_rules}
use Rattle.heap_map.specs.Cells.{IsFreeCell, IsTurningCell}
use Rattle.heap_map.specs.Facts.{IsLongestRow}
use Rattle.heap_map.proofs.Premises.{laid}
use Rattle.heap_map.proofs.Told.{free_told, longest_told, turning_told}
use Rattle.heap_map.proofs.mapping.draw.Goals as goal

pub returns-clause-facts : goal.returns-clause-facts
returns-clause-facts c =
    let words = c.args.words.now in
    let cells = c.in_ok-cells.cells.items in
    let lies = laid words c.requires.sound in
    let are = c.in_ok-cells.ensures in
    record {
      variant = refl;
      version = c.version_of.ensures;
      granules = omega (arith, c.len.ensures, are.all);
      free = free_told log_rules words cells lies are c.free_counts-counts.result.free
          (subst (λ (cs : List Cell). IsCount (IsFreeCell cs) (length cs) c.free_counts-counts.result.free) c.deref.ensures.value c.free_counts-counts.ensures.free);
      longest = longest_told log_rules words cells lies are c.free_counts-counts.result.longest
          (subst (λ (cs : List Cell). IsLongestRow (IsFreeCell cs) c.free_counts-counts.result.longest) c.deref.ensures.value c.free_counts-counts.ensures.longest);
      transitions = turning_told log_rules words cells lies are c.count_transitions.result
          (subst (λ (cs : List Cell). IsCount (IsTurningCell cs) (length cs) c.count_transitions.result) c.deref-2.ensures.value c.count_transitions.ensures);
      summary = record { large = c.requires.summary.large; slabs = c.requires.summary.slabs; blocks = c.requires.summary.blocks; loose = c.requires.summary.loose };
    }
