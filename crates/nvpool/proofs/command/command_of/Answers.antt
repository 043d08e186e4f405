use Rattle.std.proofs.Common.{◌≡◌, ◌∷◌, [], map, codes}
use Rattle.std.specs.String.{string_bytes}
use Rattle.nvheap.proofs.Words.{one_word, three_words, four_words}
use Rattle.nvpool.proofs.command.command_of.Goals as goal

pub returns-then-words-eq1 : goal.returns-then-words-eq1
returns-then-words-eq1 c = rw (one_word string_bytes c.args.words.now c.index-words-0.result c.if-words-eq1.true c.index-words-0.is) c.plain_command.ensures

pub returns-then-is_word : goal.returns-then-is_word
returns-then-is_word c =
    let first = c.as_bytes.ensures.value in
    let second = c.as_bytes-then-is_word.ensures.value in
    let whole = three_words string_bytes c.args.words.now c.index-words-0-then-words-eq3.result c.index-words-1.result c.index-words-2.result
    c.if-words-eq3.true c.index-words-0-then-words-eq3.is c.index-words-1.is c.index-words-2.is in
    let said : string_bytes c.index-words-0-then-words-eq3.result ≡ codes "dump" = c.is_word.ensures.0 c.if-is_word.true in
    let all : map string_bytes c.args.words.now ≡ codes "dump" ∷ c.as_bytes.result.now ∷ c.as_bytes-then-is_word.result.now ∷ [] = cc (whole, said, first, second) in
    rw all c.dump_of.ensures

pub returns-then-is_word-2 : goal.returns-then-is_word-2
returns-then-is_word-2 c =
    let first = c.as_bytes-then-is_word-2.ensures.value in
    let second = c.as_bytes-then-is_word-2-2.ensures.value in
    let third = c.as_bytes-then-is_word-2-3.ensures.value in
    let whole = four_words string_bytes c.args.words.now c.index-words-0-then-words-eq4.result c.index-words-1-then-is_word-2.result c.index-words-2-then-is_word-2.result c.index-words-3.result
    c.if-words-eq4.true c.index-words-0-then-words-eq4.is c.index-words-1-then-is_word-2.is c.index-words-2-then-is_word-2.is c.index-words-3.is in
    let said : string_bytes c.index-words-0-then-words-eq4.result ≡ codes "cut" = c.is_word-then-words-eq4.ensures.0 c.if-is_word-2.true in
    let all : map string_bytes c.args.words.now ≡ codes "cut" ∷ c.as_bytes-then-is_word-2.result.now ∷ c.as_bytes-then-is_word-2-2.result.now ∷ c.as_bytes-then-is_word-2-3.result.now ∷ [] = cc (whole, said, first, second, third) in
    rw all c.cut_of.ensures
