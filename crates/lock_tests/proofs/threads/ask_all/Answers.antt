use Rattle.std.proofs.Common.{rules, ◌∷◌, [], ◌∙◌, ap, sym, get_or, take, map, List}
use Rattle.std.proofs.lemmas.List.{map_more}
use Rattle.heap_model.specs.declared.call.Entry.{Entry}
use Rattle.lock_tests.specs.Tally.{refusal}
use Rattle.lock_tests.proofs.Asking.{turned_once}
use Rattle.lock_tests.proofs.threads.ask_all.Goals as goal

pub loop-size-preserved : goal.loop-size-preserved
loop-size-preserved g c =
    let i = c.loop-size.size-index in let sizes = c.args.sizes.now in let invariant = c.loop-size.invariant in let asked = refusal c.args.number in (
      search rules,
      search rules,
      turned_once c.args.number (get_or sizes i 0) c.in_default.field-0 c.loop-size.seat c.with_turn.new.seat (map asked (take i sizes)) invariant.1 invariant.2 c.in_default.ensures.turned
          ∙ ap (λ (l : List Entry). l ∷ []) (sym (map_more asked sizes i 0 c.loop-size-test.true)),
      search rules,
    )
