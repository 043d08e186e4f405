-- What is told of an arena in numbers: a line for each. Every line ends with a line feed.
use Rattle.std.specs.Prelude.{ℕ, ◌*◌, ◌==◌, ◌&&◌, nat_lt, List, [], ◌∷◌, ◌++◌, decimal, codes, if◌then◌else◌}
use Rattle.size_classes.specs.Classes.{class_size, class_capacity}
use Rattle.heap_map.specs.declared.facts.ClassFill.{ClassFill}
use Rattle.heap_map.specs.declared.facts.Facts.{Facts}
use Rattle.heap_map.specs.declared.facts.Variant.{Variant}
use Rattle.heap_map.specs.declared.facts.Variant.TheVariants.{Log, Gc}
use Rattle.heap_map.specs.Facts.{fill_in}
use Rattle.map_text.specs.Pieces.{text_below}

-- the largest request that whole granules are found for, in bytes, where so many are free in a row: it needs two at least
abbrev pub request_of : ℕ → ℕ
request_of longest = if nat_lt longest 2 then 0 else 16384 * longest

-- a number of an arena, behind its name
unfoldable pub fact_line : ℕ → List ℕ → ℕ → List ℕ
fact_line arena name value = codes "arena " ++ decimal arena ++ name ++ decimal value ++ 10 ∷ []

-- how full the slabs of a class are, and how many blocks of it live in others; nothing where there is neither
abbrev pub class_line : ℕ → ℕ → ClassFill → List ℕ
class_line arena class fill =
    if (fill.slabs == 0) && (fill.old == 0) then []
    else codes "arena " ++ decimal arena ++ codes " class " ++ decimal (class_size class) ++ codes " slabs " ++ decimal fill.slabs ++ codes " live " ++ decimal fill.live
    ++ codes " of " ++ decimal (fill.slabs * class_capacity class) ++ codes " old " ++ decimal fill.old ++ 10 ∷ []

-- the granules
unfoldable pub granule_lines : ℕ → Facts → List ℕ
granule_lines arena facts =
    fact_line arena (codes " version ") facts.version ++ fact_line arena (codes " granules ") facts.granules ++ fact_line arena (codes " free ") facts.free
    ++ fact_line arena (codes " longest ") facts.longest ++ fact_line arena (codes " request ") (request_of facts.longest)

-- the extents, and what is loose
unfoldable pub extent_lines : ℕ → Facts → List ℕ
extent_lines arena facts =
    fact_line arena (codes " large ") facts.summary.large ++ fact_line arena (codes " slabs ") facts.summary.slabs ++ fact_line arena (codes " transition ") facts.transitions
    ++ fact_line arena (codes " live ") facts.summary.blocks ++ fact_line arena (codes " loose ") facts.summary.loose

-- the classes
unfoldable pub class_lines : ℕ → List ClassFill → List ℕ
class_lines arena fills = text_below (λ class. class_line arena class (fill_in fills class)) 36

-- what is said of an arena in words
unfoldable pub word_line : ℕ → List ℕ → List ℕ
word_line arena says = codes "arena " ++ decimal arena ++ says ++ 10 ∷ []

-- which variant it is of, where that is not the LOG variant
abbrev pub variant_line : ℕ → Variant → List ℕ
variant_line arena Log = []
variant_line arena Gc = word_line arena (codes " variant gc")

-- all of it
abbrev pub facts_text : ℕ → Facts → List ClassFill → List ℕ
facts_text arena facts fills = variant_line arena facts.variant ++ granule_lines arena facts ++ extent_lines arena facts ++ class_lines arena fills
