use Rattle.std.proofs.Common.{◌+◌, ◌-◌, ◌≤◌, length, get_or, arith}
use Rattle.pmem_lines.specs.Pmem.{words_of}
use Rattle.attach_dict.specs.Dict.{head_words, most_values}
use Rattle.attach_dict.proofs.Readings.{lent_ok, view_of, room_in, few_in, lent_value}
use Rattle.attach_dict.proofs.reading.value_at.Goals as goal

pub unwrap-words-requires : goal.unwrap-words-requires
unwrap-words-requires g c = lent_ok (words_of c.args.arena.now.device) c.args.root c.view.result c.view.ensures.exact (record { range = c.requires.pair.range; named = c.requires.pair.named }) c.view.ensures.view

pub overflow_add-result : goal.overflow_add-result
overflow_add-result g c =
    let words = words_of c.args.arena.now.device in
    let few : get_or c.unwrap-words.result.now 2 0 ≤ most_values =
    few_in words c.args.root c.unwrap-words.result.now c.view.ensures.exact c.requires (view_of words c.args.root c.view.result c.unwrap-words.result c.unwrap-words.ensures c.view.ensures.view) in
    omega arith

pub slice_bounds-result-end : goal.slice_bounds-result-end
slice_bounds-result-end g c =
    let words = words_of c.args.arena.now.device in
    let room : head_words + get_or c.unwrap-words.result.now 2 0 ≤ length c.unwrap-words.result.now =
    room_in words c.args.root c.unwrap-words.result.now c.view.ensures.exact c.requires (view_of words c.args.root c.view.result c.unwrap-words.result c.unwrap-words.ensures c.view.ensures.view) in
    omega arith

pub returns : goal.returns
returns g c =
    let words = words_of c.args.arena.now.device in
    lent_value words c.args.root c.unwrap-words.result.now c.view.ensures.exact c.requires (view_of words c.args.root c.view.result c.unwrap-words.result c.unwrap-words.ensures c.view.ensures.view)
    (3 + get_or c.unwrap-words.result.now 2 0 - 3) (omega arith)
