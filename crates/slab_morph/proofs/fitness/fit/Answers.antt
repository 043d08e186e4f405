use Rattle.std.proofs.Common.{◌∙◌, ◌≡◌, ◌/◌, Bool, true, false, true≢false, not, refl, sym, ⊎_elim}
use Rattle.slab_morph.proofs.Common.{cases_Bool, words_of}
use Rattle.slab_morph.specs.SlabHeaders.{header_at}
use Rattle.slab_morph.specs.Fitness.{IsFitHeader}
use Rattle.slab_morph.proofs.Fitting.{read_by, none_same, none_old, fits_untold, fits_told, told_counts, told_clear}
use Rattle.slab_morph.proofs.TableFits.{fit_of_slab}
use Rattle.slab_morph.proofs.fitness.fit.Goals as goal
use Rattle.slab_morph.proofs.fitness.fit.Goals.{then-state-class-via-then-state-class, then-state-class-via-else-state-class+then-has_live}

not_true : (b : Bool) → not b ≡ true → b ≡ false
not_true true is = absurd (true≢false (sym is))
not_true false is = refl

not_false : (b : Bool) → not b ≡ false → b ≡ true
not_false true is = refl
not_false false is = absurd (true≢false is)

pub returns-then-state-class-clause-fit : goal.returns-then-state-class-clause-fit
returns-then-state-class-clause-fit g c =
    let start = c.args.slab / 16384 in
    let fields = c.fields_of-state.ensures in
    let read = read_by c.state_at.ensures.says c.state_at.ensures.valid fields.class fields.entries fields.reads_bits in
    let none : ¬ (IsFitHeader (header_at (words_of (g.P.Pmem.state c.args.p.now)) start) start c.args.class) = elim c.then-state-class.branch [
      | then-state-class-via-then-state-class w ↦ none_same read start c.args.class c.requires.class w.if-state-class.true
      | then-state-class-via-else-state-class+then-has_live w ↦ let old = w.if-has_live.ensures.some refl in none_old read start c.args.class c.requires.class old.0 old.1 old.2
    ] in
    (λ wrong. absurd (true≢false (sym wrong)), λ fit. absurd (none fit))

pub returns-then-not-state-clause-fit : goal.returns-then-not-state-clause-fit
returns-then-not-state-clause-fit g c =
    let fields = c.fields_of-state.ensures in
    let read = read_by c.state_at.ensures.says c.state_at.ensures.valid fields.class fields.entries fields.reads_bits in (
      λ is. fits_untold read (c.args.slab / 16384) c.args.class c.requires.class c.if-state-class.false (c.if-has_live.ensures.none refl) (not_true c.fields_of-state.result.reads_bits c.if-not-state.true),
      λ fit. c.if-not-state.true,
    )

pub returns-then-is_sparse-clause-fit : goal.returns-then-is_sparse-clause-fit
returns-then-is_sparse-clause-fit g c =
    let start = c.args.slab / 16384 in
    let fields = c.fields_of-state.ensures in
    let read = read_by c.state_at.ensures.says c.state_at.ensures.valid fields.class fields.entries fields.reads_bits in
    let tells = not_false c.fields_of-state.result.reads_bits c.if-not-state.false in
    let none = c.if-has_live.ensures.none refl in
    let sparse = c.is_sparse.ensures.0 c.if-is_sparse.true in (
      λ is. let found = c.has_room.ensures.some is in fits_told read start c.args.class c.requires.class c.if-state-class.false none tells found.0 sparse.0 sparse.1 found.1,
      λ fit. ⊎_elim
          (λ (is : c.has_room.result ≡ true). is)
          (λ (is : c.has_room.result ≡ false). absurd (c.has_room.ensures.none is fit.number (told_clear read start c.args.class c.requires.class c.if-state-class.false none tells fit)))
          (cases_Bool c.has_room.result),
    )

pub returns-else-is_sparse-clause-fit : goal.returns-else-is_sparse-clause-fit
returns-else-is_sparse-clause-fit g c =
    let fields = c.fields_of-state.ensures in
    let read = read_by c.state_at.ensures.says c.state_at.ensures.valid fields.class fields.entries fields.reads_bits in
    let tells = not_false c.fields_of-state.result.reads_bits c.if-not-state.false in (
      λ is. absurd (true≢false (sym is ∙ c.if-is_sparse.false)),
      λ fit. c.is_sparse.ensures.1 (told_counts read (c.args.slab / 16384) c.args.class c.requires.class c.if-state-class.false (c.if-has_live.ensures.none refl) tells fit),
    )

pub returns-then-state-class-clause-table : goal.returns-then-state-class-clause-table
returns-then-state-class-clause-table g c is = fit_of_slab (words_of (g.P.Pmem.state c.args.p.now)) (c.args.slab / 16384) c.args.class is (returns-then-state-class-clause-fit g c)

pub returns-then-not-state-clause-table : goal.returns-then-not-state-clause-table
returns-then-not-state-clause-table g c is = fit_of_slab (words_of (g.P.Pmem.state c.args.p.now)) (c.args.slab / 16384) c.args.class is (returns-then-not-state-clause-fit g c)

pub returns-then-is_sparse-clause-table : goal.returns-then-is_sparse-clause-table
returns-then-is_sparse-clause-table g c is = fit_of_slab (words_of (g.P.Pmem.state c.args.p.now)) (c.args.slab / 16384) c.args.class is (returns-then-is_sparse-clause-fit g c)

pub returns-else-is_sparse-clause-table : goal.returns-else-is_sparse-clause-table
returns-else-is_sparse-clause-table g c is = fit_of_slab (words_of (g.P.Pmem.state c.args.p.now)) (c.args.slab / 16384) c.args.class is (returns-else-is_sparse-clause-fit g c)
