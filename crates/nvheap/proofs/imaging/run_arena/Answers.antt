use Rattle.std.proofs.Common.{◌≡◌, ◌∙◌, ◌++◌, List, ℕ, ap, length, arith}
use Rattle.nvheap.proofs.Common.{words_of, bytes_of_words}
use Rattle.nvheap.proofs.Images.{all_words}
use Rattle.nvheap.proofs.Devices.{few_words}
use Rattle.nvheap.proofs.imaging.run_arena.Goals as goal

pub add_bytes-requires-clause-whole : goal.add_bytes-requires-clause-whole
add_bytes-requires-clause-whole g c =
    let words = words_of (g.H.Device.Pmem.state c.in_ok-left.left) in
    let lent = ap length (c.words.ensures ∙ all_words words c.size_words.result c.size_words.ensures.size) in
    let size = c.in_ok-left.ensures.run.exact.formed.size in
    omega (arith, lent, size)

pub add_bytes-requires-clause-few : goal.add_bytes-requires-clause-few
add_bytes-requires-clause-few g c =
    let words = words_of (g.H.Device.Pmem.state c.in_ok-left.left) in
    let lent = ap length (c.words.ensures ∙ all_words words c.size_words.result c.size_words.ensures.size) in
    let exact = c.in_ok-left.ensures.run.exact in
    let few = (few_words words (record { formed = exact.formed; sound = exact.exact.sound })).0 in
    omega (arith, lent, few)

pub returns-clause-bytes : goal.returns-clause-bytes
returns-clause-bytes g c =
    let words = words_of (g.H.Device.Pmem.state c.in_ok-left.left) in
    c.in_ok-add_bytes.ensures.bytes ∙ ap (λ (ws : List ℕ). c.args.bytes.now.items ++ bytes_of_words ws) (c.words.ensures ∙ all_words words c.size_words.result c.size_words.ensures.size)
