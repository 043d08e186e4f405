use Rattle.std.proofs.Common.{◌∙◌, ◌≢◌, ◌+◌, ◌*◌, ap, sym, subst}
use Rattle.size_classes.specs.Classes.{class_size}
use Rattle.image_tables.specs.Forms.{normal_kind}
use Rattle.image_tables.specs.Tables.{tables_of}
use Rattle.image_tables.proofs.Tables.{slab_table}
use Rattle.slab_header.specs.State.{old_of}
use Rattle.heap_map.proofs.filling.fill_of.Goals as goal

pub returns-clause-fill : goal.returns-clause-fill
returns-clause-fill c =
    let of = c.requires.of in
    record {
      slab = slab_table c.args.words.now c.args.slab.start ∙ c.requires.at.slab;
      state = of;
      live = c.live_of-live.ensures.count;
      old = c.old_of-old.ensures.count;
      bytes = record {
        live = c.live_of-live.result;
        old = c.old_of-old.result;
        are_live = c.live_of-live.ensures.count;
        are_old = c.old_of-old.ensures.count;
        is = c.bytes_of.ensures ∙ ap (λ n. c.live_of-live.result * class_size n + c.old_of-old.result * class_size (old_of c.args.slab.state)) (sym of.class)
            ∙ ap (λ n. c.live_of-live.result * class_size ((tables_of c.args.words.now).header c.args.slab.start).class + c.old_of-old.result * class_size n) (sym of.old);
      };
      turns = (λ is. subst (λ n. n ≢ normal_kind) (sym of.kind) (c.is_turning.ensures.0 is), λ other. c.is_turning.ensures.1 (subst (λ n. n ≢ normal_kind) of.kind other));
    }
