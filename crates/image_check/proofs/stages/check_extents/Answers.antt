use Rattle.std.proofs.Common.{inr, sym, subst}
use Rattle.image_reading.specs.Slabs.{AreSlabs}
use Rattle.image_defects.specs.Defects.{FromWal, FromExtents}
use Rattle.image_check.proofs.Outcomes.{defect_lift}
use Rattle.image_check.proofs.Premises.{roots_inside, log_read, extents_of, slabs_inside, slabs_at, arena_of}
use Rattle.image_check.proofs.stages.check_extents.Goals as goal

pub first_overlap-requires-clause-extents : goal.first_overlap-requires-clause-extents
first_overlap-requires-clause-extents c = extents_of c.args.words.now c.requires.header (log_read c.args.log.now c.args.words.now c.requires.reads c.requires.granules)

pub bad_slab-requires-clause-slabs : goal.bad_slab-requires-clause-slabs
bad_slab-requires-clause-slabs c = slabs_inside c.args.words.now c.requires.size (extents_of c.args.words.now c.requires.header (log_read c.args.log.now c.args.words.now c.requires.reads c.requires.granules))

pub slabs_of-requires-clause-inside : goal.slabs_of-requires-clause-inside
slabs_of-requires-clause-inside c = slabs_inside c.args.words.now c.requires.size (extents_of c.args.words.now c.requires.header (log_read c.args.log.now c.args.words.now c.requires.reads c.requires.granules))

pub slabs_of-requires-clause-slabs : goal.slabs_of-requires-clause-slabs
slabs_of-requires-clause-slabs c =
    let extents = extents_of c.args.words.now c.requires.header (log_read c.args.log.now c.args.words.now c.requires.reads c.requires.granules) in
    slabs_at c.args.words.now (slabs_inside c.args.words.now c.requires.size extents) c.in_default-bad_slab.ensures

pub check_roots-requires : goal.check_roots-requires
check_roots-requires c =
    let words = c.args.words.now in
    let log = log_read c.args.log.now words c.requires.reads c.requires.granules in
    let extents = extents_of words c.requires.header log in
    record {
      known = record {
        arena = arena_of words c.requires.header c.requires.size log c.in_default-bad_slab.ensures;
        reads = c.requires.reads;
        granules = c.requires.granules;
        extents = extents;
        inside = roots_inside words c.requires.header c.requires.size;
        good = slabs_at words (slabs_inside words c.requires.size extents) c.in_default-bad_slab.ensures;
        all = subst (AreSlabs words) (sym c.deref.ensures.value) c.in-Ok.ensures;
      };
    }

pub returns-clause-defect : goal.returns-clause-defect
returns-clause-defect c =
    let words = c.args.words.now in
    defect_lift (FromWal words) (FromExtents words) c.check_roots.result (λ d is. inr (c.in_default.ensures, inr (c.in_default-bad_slab.ensures, is))) c.check_roots.ensures.defect
