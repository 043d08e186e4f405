use Rattle.std.proofs.Common.{◌+◌}
use Rattle.std.specs.List.{slice_range}
use Rattle.dict_runs.proofs.Turns.{put_made, removal_made, get_made}
use Rattle.dict_runs.proofs.making.make_call.Goals as goal

pub returns-in_ok-put-in-Put-clause-made : goal.returns-in_ok-put-in-Put-clause-made
returns-in_ok-put-in-Put-clause-made g c b s n at =
    rw c.in-Put.is (put_made g.L.Look.sees b n s c.in-Put.key (slice_range c.args.values.now c.in-Put.from (c.in-Put.from + c.in-Put.count)) c.in_ok-put-in-Put.field-0 c.args.dict.now c.args.look.now c.put.new.dict c.put.new.look at c.in_ok-put-in-Put.ensures.kept c.in_ok-put-in-Put.ensures.put)

pub returns-in-Get-clause-made : goal.returns-in-Get-clause-made
returns-in-Get-clause-made g c b s n at = rw c.in-Get.is (get_made g.L.Look.sees b n s c.in-Get.key c.args.dict.now c.args.look.now at)

pub returns-in_ok-remove-in-Del-clause-made : goal.returns-in_ok-remove-in-Del-clause-made
returns-in_ok-remove-in-Del-clause-made g c b s n at =
    rw c.in-Del.is (removal_made g.L.Look.sees b n s c.in-Del.key c.in_ok-remove-in-Del.field-0 c.args.dict.now c.args.look.now c.remove.new.dict c.remove.new.look at c.in_ok-remove-in-Del.ensures.kept c.in_ok-remove-in-Del.ensures.removed)
