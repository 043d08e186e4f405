use Rattle.std.proofs.Common.{subst, inr}
use Rattle.pool_layout.specs.Header.{IsHeader}
use Rattle.heap_check.specs.Image.{IsSoundImage}
use Rattle.image_defects.specs.Defects.{HasLength, FromLength, IsFirstDefect}
use Rattle.image_defects.proofs.Faultless.{sound_of}
use Rattle.image_check.specs.Faults.{HasGoodLog}
use Rattle.image_check.proofs.Outcomes.{defect_lift, ok_both}
use Rattle.image_check.proofs.Premises.{header_same}
use Rattle.image_check.proofs.checking.check_arena.Goals as goal

pub check_length-requires-clause-header : goal.check_length-requires-clause-header
check_length-requires-clause-header c = subst (IsHeader c.args.words.now) (header_same c.args.words.now c.in-Ok.header c.in-Ok.ensures.header) c.in-Ok.ensures.header

pub check_length-requires-clause-same : goal.check_length-requires-clause-same
check_length-requires-clause-same c = header_same c.args.words.now c.in-Ok.header c.in-Ok.ensures.header

pub returns-in-Ok-clause-sound : goal.returns-in-Ok-clause-sound
returns-in-Ok-clause-sound c =
    let words = c.args.words.now in
    let header = subst (IsHeader words) (header_same words c.in-Ok.header c.in-Ok.ensures.header) c.in-Ok.ensures.header in
    ok_both (HasLength words) (HasGoodLog words) (IsSoundImage words) c.check_length.result (λ size good. sound_of words (record {
      header = header;
      size = size;
      directory = good.directory;
      entries = good.entries;
      disjoint = good.extents.disjoint;
      slabs = good.extents.slabs;
      wal = good.extents.roots.wal;
      standing = good.extents.roots.standing;
      apart = good.extents.roots.blocks.apart;
      rooted = good.extents.roots.blocks.rooted;
      few = good.extents.roots.blocks.few;
    })) c.check_length.ensures.size c.check_length.ensures.good

pub returns-in-Ok-clause-defect : goal.returns-in-Ok-clause-defect
returns-in-Ok-clause-defect c =
    let words = c.args.words.now in
    let header = subst (IsHeader words) (header_same words c.in-Ok.header c.in-Ok.ensures.header) c.in-Ok.ensures.header in
    defect_lift (FromLength words) (IsFirstDefect words) c.check_length.result (λ d is. inr (header, is)) c.check_length.ensures.defect
