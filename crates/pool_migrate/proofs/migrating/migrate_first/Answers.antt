use Rattle.std.proofs.Common.{◌∙◌, List, ℕ, ap, subst, sym}
use Rattle.pmem_lines.specs.Pmem.{words_of}
use Rattle.pool_layout.specs.Header.{granules_in}
use Rattle.image_raise.specs.Rise.{IsRaisedImage}
use Rattle.pool_migrate.specs.Faults.{IsCause}
use Rattle.pool_migrate.proofs.Made.{granules_is, check_cause}
use Rattle.pool_migrate.proofs.Migrated.{migrated_by}
use Rattle.pool_migrate.proofs.migrating.migrate_first.Goals as goal

pub returns-in-Err-clause-refused : goal.returns-in-Err-clause-refused
returns-in-Err-clause-refused c = subst (IsCause c.args.words.now) (sym c.of_check.ensures) (check_cause c.args.words.now c.in-Err.fault c.in-Err.ensures.defect)

pub exact_device-requires-clause-granules : goal.exact_device-requires-clause-granules
exact_device-requires-clause-granules c = granules_is c.args.words.now c.args.header.now c.requires.header

pub raised_words-requires-clause-granules : goal.raised_words-requires-clause-granules
raised_words-requires-clause-granules c = granules_is c.args.words.now c.args.header.now c.requires.header ∙ sym c.in_ok-device.ensures.granules ∙ ap granules_in (sym c.all_words.ensures)

pub returns-clause-migrated : goal.returns-clause-migrated
returns-clause-migrated c =
    let new = c.in_ok-new.new.items in
    migrated_by c.args.words.now (words_of c.in_ok-device.device) new c.args.header.now c.requires.header c.in_ok-device.ensures
    (subst (λ (ws : List ℕ). IsRaisedImage ws new) c.all_words.ensures c.in_ok-new.ensures.raised) c.in_ok-new.ensures.header
