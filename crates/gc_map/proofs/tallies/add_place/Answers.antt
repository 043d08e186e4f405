use Rattle.std.proofs.Common.{arith}
use Rattle.gc_map.proofs.Slabs.{slab_lies}
use Rattle.gc_map.proofs.SlabTallies.{tallies_put}
use Rattle.gc_map.proofs.tallies.add_place.Goals as goal

pub returns : goal.returns
returns c =
    let lies = (slab_lies c.args.words.now c.requires.sound c.args.place.start c.requires.place.lies.inside.slab).1 in
    tallies_put c.args.words.now c.requires.sound c.args.root c.args.place c.args.tallies.now c.one_more.result c.requires.place (omega (arith, lies, c.requires.counted.all)) c.one_more.ensures c.requires.counted
