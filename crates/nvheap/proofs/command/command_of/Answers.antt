use Rattle.std.proofs.Common.{◌≡◌, ◌∷◌, [], map}
use Rattle.std.specs.String.{string_bytes}
use Rattle.nvheap.proofs.Words.{one_word, four_words}
use Rattle.nvheap.proofs.command.command_of.Goals as goal

pub returns-then-words-eq1 : goal.returns-then-words-eq1
returns-then-words-eq1 c = rw (one_word string_bytes c.args.words.now c.index-words-0.result c.if-words-eq1.true c.index-words-0.is) c.plain_command.ensures

pub returns-then-words-eq4 : goal.returns-then-words-eq4
returns-then-words-eq4 c =
    let first = c.as_bytes-then-words-eq4.ensures.value in
    let second = c.as_bytes-then-words-eq4-2.ensures.value in
    let third = c.as_bytes-then-words-eq4-3.ensures.value in
    let whole = four_words string_bytes c.args.words.now c.index-words-0-then-words-eq4.result c.index-words-1-then-words-eq4.result c.index-words-2-then-words-eq4.result c.index-words-3.result
    c.if-words-eq4.true c.index-words-0-then-words-eq4.is c.index-words-1-then-words-eq4.is c.index-words-2-then-words-eq4.is c.index-words-3.is in
    let all : map string_bytes c.args.words.now ≡ string_bytes c.index-words-0-then-words-eq4.result ∷ c.as_bytes-then-words-eq4.result.now ∷ c.as_bytes-then-words-eq4-2.result.now ∷ c.as_bytes-then-words-eq4-3.result.now ∷ [] = cc (whole, first, second, third) in
    rw all c.with_three.ensures
