use Rattle.std.proofs.Common.{◌≡◌, ◌∙◌, sym, ap, subst, refl, Some}
use Rattle.heap_model.specs.Machine.{Range}
use Rattle.gc_check.specs.Heap.{gc_tables, gc_block}
use Rattle.gc_check.specs.Sound.{IsGcStanding}
use Rattle.gc_check.proofs.Heaps.{gc_heap-none, gc_heap-some}
use Rattle.gc_search.proofs.Premises.{roots_inside}
use Rattle.gc_search.proofs.Standing.{gc_word}
use Rattle.gc_search.proofs.claims.claim_of.Goals as goal

pub root_word-word-requires : goal.root_word-word-requires
root_word-word-requires c = roots_inside c.args.words.now c.requires.read.header c.requires.read.size

pub returns-then-word-eq0 : goal.returns-then-word-eq0
returns-then-word-eq0 c =
    let words = c.args.words.now in
    record { none = gc_heap-none (gc_tables words) c.args.root (gc_word words c.args.root ∙ sym c.root_word-word.ensures ∙ c.if-word-eq0.true) }

pub size_of-requires-clause-standing : goal.size_of-requires-clause-standing
size_of-requires-clause-standing c =
    let words = c.args.words.now in
    let is = gc_word words c.args.root ∙ sym c.root_word-word.ensures in
    subst (IsGcStanding (gc_tables words)) is (c.requires.standing c.args.root (λ none. c.if-word-eq0.false (sym is ∙ none)))

pub returns : goal.returns
returns c =
    let words = c.args.words.now in
    let t = gc_tables words in
    let word = c.root_word-word.result in
    let is = gc_word words c.args.root ∙ sym c.root_word-word.ensures in
    let same : gc_block t.large word ≡ record { at = c.address_of.result; size = c.size_of.result } =
    ap (λ n. let r : Range = record { at = n; size = (gc_block t.large word).size } in r) (sym c.address_of.ensures.field) ∙ ap (λ n. let r : Range = record { at = c.address_of.result; size = n } in r) (sym c.size_of.ensures) in
    record { root_is = refl; block = gc_heap-some t c.args.root (λ none. c.if-word-eq0.false (sym is ∙ none)) ∙ ap (λ w. Some (gc_block t.large w)) is ∙ ap (λ (r : Range). Some r) same }
