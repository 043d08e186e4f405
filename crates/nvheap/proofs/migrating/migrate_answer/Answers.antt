use Rattle.std.proofs.Common.{refl, sym, ◌∙◌, inl, inr}
use Rattle.image_runs.proofs.Faults.{image_of}
use Rattle.nvheap.specs.declared.cause.Cause.TheVariants.{Image, Version}
use Rattle.nvheap.specs.Migrating.{migrating}
use Rattle.nvheap.proofs.Answering.{refused_image}
use Rattle.nvheap.proofs.migrating.migrate_answer.Goals as goal

pub returns-in-Err : goal.returns-in-Err
returns-in-Err c =
    refused_image migrating c.args.words.now c.args.bytes (Image c.in-Err.found.arena c.in-Err.found.defect) c.fault_line.result (λ image are. inl (c.in-Err.ensures.defect image are)) c.fault_line.ensures

pub returns-in-Ok-migrate_pool : goal.returns-in-Ok-migrate_pool
returns-in-Ok-migrate_pool c image places are = record {
  words = c.args.words.now;
  image = image_of image c.args.words.now c.args.bytes c.in-Ok.header are c.in-Ok.ensures.whole c.in-Ok.ensures.pool;
  migrated = c.in-Ok-migrate_pool.ensures.migrated;
  stays = refl;
}

pub returns-in-Err-Newer : goal.returns-in-Err-Newer
returns-in-Err-Newer c =
    let why = rw c.in-Err-Newer.field-0-is at c.in-Err-Newer.ensures.refused in
    refused_image migrating c.args.words.now c.args.bytes (Version c.in-Err-Newer.version) c.fault_line-in-Err-Newer.result
    (λ image are. record {
      words = c.args.words.now;
      image = image_of image c.args.words.now c.args.bytes c.in-Ok.header are c.in-Ok.ensures.whole c.in-Ok.ensures.pool;
      is = sym why.1;
      later = why.0;
    })
    c.fault_line-in-Err-Newer.ensures

pub returns-in-Err-Defect : goal.returns-in-Err-Defect
returns-in-Err-Defect c =
    let why = rw c.in-Err-Defect.field-0-is at c.in-Err-Defect.ensures.refused in
    refused_image migrating c.args.words.now c.args.bytes (Image c.in-Err-Defect.arena c.in-Err-Defect.defect) c.fault_line-in-Err-Defect.result
    (λ image are. inr (record {
      words = c.args.words.now;
      image = image_of image c.args.words.now c.args.bytes c.in-Ok.header are c.in-Ok.ensures.whole c.in-Ok.ensures.pool;
      first = why.0;
      unsound = why.1;
    }))
    c.fault_line-in-Err-Defect.ensures
