use Rattle.defect_search.proofs.Strays.{stray_normal, stray_morphing, stray_morphed}
use Rattle.defect_search.proofs.stray.stray_in_slab.Goals as goal

pub returns-in-Normal : goal.returns-in-Normal
returns-in-Normal c = stray_normal c.requires.slab c.stray_among_bits.result c.in-Normal.is c.stray_among_bits.ensures

pub returns-in-Morphing : goal.returns-in-Morphing
returns-in-Morphing c = stray_morphing c.requires.slab c.stray_among_old.result c.in-Morphing.is c.stray_among_old.ensures

pub returns-in-Morphed : goal.returns-in-Morphed
returns-in-Morphed c =
    stray_morphed c.requires.slab c.stray_among_bits-in-Morphed.result c.stray_among_old-in-Morphed.result c.in-Morphed.is c.stray_among_bits-in-Morphed.ensures c.stray_among_old-in-Morphed.ensures c.lesser.ensures
