use Rattle.std.proofs.Common.{◌≡◌, ◌/◌, ◌<◌, Bool, true, false, true≢false, not, refl, sym, ap, subst, ◌∙◌, ⊎_elim}
use Rattle.slab_morph.proofs.Common.{cases_Bool, words_of, class_capacity, tables_of, number_few}
use Rattle.slab_morph.proofs.UnusedBlocks.{IsRead_by, small_numbers, unused_read, used_marked, used_covered}
use Rattle.slab_morph.proofs.unused.is_unused.Goals as goal

not_true : (b : Bool) → not b ≡ true → b ≡ false
not_true true is = absurd (true≢false (sym is))
not_true false is = refl

pub is_marked-requires-clause-number : goal.is_marked-requires-clause-number
is_marked-requires-clause-number g c = number_few (((tables_of (words_of (g.P.Pmem.state c.args.p.now))).header (c.args.slab / 16384)).class) c.args.number c.requires.here.valid.state.is_class c.requires.number

pub is_covered-requires-clause-number : goal.is_covered-requires-clause-number
is_covered-requires-clause-number g c =
    let fields = c.fields_of-state.ensures in
    let read = IsRead_by c.requires.here c.state_at.ensures.says fields.class fields.old fields.entries fields.reads_bits in
    subst (λ n. c.args.number < class_capacity n) (sym read.class_is) c.requires.number

pub is_covered-requires-clause-numbers : goal.is_covered-requires-clause-numbers
is_covered-requires-clause-numbers g c =
    let fields = c.fields_of-state.ensures in
    let read = IsRead_by c.requires.here c.state_at.ensures.says fields.class fields.old fields.entries fields.reads_bits in
    small_numbers c.requires.here read c.args.number c.requires.number

pub returns-then-not-is_marked : goal.returns-then-not-is_marked
returns-then-not-is_marked g c =
    let fields = c.fields_of-state.ensures in
    let read = IsRead_by c.requires.here c.state_at.ensures.says fields.class fields.old fields.entries fields.reads_bits in
    let unmarked = c.if-not-is_marked.true in (
      λ is. unused_read c.requires.here read c.args.number c.requires.number (λ both. true≢false (sym (c.is_marked.ensures.1 both) ∙ unmarked)) (c.is_covered.ensures.none (not_true c.is_covered.result is)),
      λ unused. ⊎_elim
          (λ (covered : c.is_covered.result ≡ true).
          let found = c.is_covered.ensures.some covered in
          absurd (used_covered c.requires.here read c.args.number c.requires.number found.0 found.1 found.2 found.3 unused))
          (λ (free : c.is_covered.result ≡ false). ap not free)
          (cases_Bool c.is_covered.result),
    )

pub returns-else-not-is_marked : goal.returns-else-not-is_marked
returns-else-not-is_marked g c =
    let fields = c.fields_of-state.ensures in
    let read = IsRead_by c.requires.here c.state_at.ensures.says fields.class fields.old fields.entries fields.reads_bits in
    let marked = c.if-not-is_marked.false in (
      λ is. absurd (true≢false (sym is ∙ ap not marked)),
      λ unused. absurd (used_marked c.requires.here read c.args.number c.requires.number (c.is_marked.ensures.0 marked) unused),
    )
