-- The arenas of a pool, recovered one after another from one on.
use Rattle.std.proofs.Common.{◌≡◌, ◌⊎◌, ℕ, suc, ◌+◌, ◌-◌, ◌<◌, ◌≤◌, List, ◌++◌, Option, sym, ap, subst, ◌∙◌, inl, inr, ⊎_elim, [], arith, refl}
use Rattle.std.proofs.lemmas.Bool.{cases_lt}
use Rattle.pool_layout.specs.declared.header.PoolVariant.TheVariants.{Log}
use Rattle.nvheap.proofs.Common.{PmemState, fresh, PoolHeader, part_of, header_of_arena, IsFirstHeader, IsPoolImage, IsImageOf, IfDefect, layout_of, layout_rules, fields_of-header_word, header_fits, IsSoundImage, HasVersionRoom, IsRecovered, recovered_device, HasUnsoundFrom, IsOwnDefect, IsPoolDefect, heap_lines, heaps_from, wider}
use Rattle.pool_layout.specs.declared.defect.Defect.{Defect as Found}
use Rattle.pool_layout.specs.declared.image.ImageFault.{ImageFault}
use Rattle.pool_layout.specs.Header.{version_field, fields_of, version_in}
use Rattle.image_defects.specs.Defects.{IsFirstDefect}
use Rattle.nvheap.specs.Outside.{put_device}
use Rattle.nvheap.specs.Recovering.{HasRecovered, AnswersRecover}

split : (a b : ℕ) → a ≤ b → (a ≡ b) ⊎ (a + 1 ≤ b)
split a b low = ⊎_elim (λ (h : a < b). inr (omega (arith, h))) (λ (h : b ≤ a). inl (omega (arith, h, low))) (cases_lt a b)

-- one arena more, at the front
pub heaps_more : (words : List ℕ) (granules arena arenas : ℕ) → arena < arenas →
    heaps_from words granules arena (arenas - arena) ≡ heap_lines arena (part_of words granules arena) ++ heaps_from words granules (arena + 1) (arenas - (arena + 1))
heaps_more words granules arena arenas below =
    let more : arenas - arena ≡ suc (arenas - (arena + 1)) = omega (arith, below) in
    ap (λ n. heaps_from words granules arena n) more

pub recovered_more : (words : List ℕ) (granules arena arenas room : ℕ) (device : PmemState) (old rest new : Option (List (Option PmemState))) → arena < arenas →
    IsSoundImage (part_of words granules arena) → IsRecovered (fresh (part_of words granules arena) room) device → HasRecovered words granules (arena + 1) (arenas - (arena + 1)) old rest →
    new ≡ put_device rest arena device → HasRecovered words granules arena (arenas - arena) old new
recovered_more words granules arena arenas room device old rest new below sound is further put =
    let more : arenas - arena ≡ suc (arenas - (arena + 1)) = omega (arith, below) in
    subst (λ n. HasRecovered words granules arena n old new) (sym more)
    (device, rest, sound, recovered_device (part_of words granules arena) room device is, further, put)

-- no arena is left
pub recovered_none : (words : List ℕ) (granules arena arenas : ℕ) (places : Option (List (Option PmemState))) → arena ≡ arenas → HasRecovered words granules arena (arenas - arena) places places
recovered_none words granules arena arenas places same =
    let none : arenas - arena ≡ 0 = omega (arith, same) in
    subst (λ n. HasRecovered words granules arena n places places) (sym none) refl

pub heaps_none : (words : List ℕ) (granules arena arenas : ℕ) → arena ≡ arenas → heaps_from words granules arena (arenas - arena) ≡ []
heaps_none words granules arena arenas same =
    let none : arenas - arena ≡ 0 = omega (arith, same) in
    ap (λ n. heaps_from words granules arena n) none

-- the first arena is the one that is not sound
pub unsound_here : (words : List ℕ) (header : PoolHeader) (arena : ℕ) (fault : ImageFault) → arena < header.arenas → IfDefect fault (IsOwnDefect (part_of words header.granules arena) arena) →
    IfDefect fault (HasUnsoundFrom words header arena)
unsound_here words header arena fault below =
    wider fault (IsOwnDefect (part_of words header.granules arena) arena) (HasUnsoundFrom words header arena)
    (λ found defect own. record {
      low = omega (arith, own.same);
      inside = omega (arith, own.same, below);
      before = λ earlier from to. absurd (omega (arith, own.same, from, to));
      first = subst (λ a. IsFirstDefect (part_of words header.granules a) defect) (sym own.same) own.first;
    })

-- the first is sound, and a later one is not
pub unsound_later : (words : List ℕ) (header : PoolHeader) (arena : ℕ) (fault : ImageFault) → IsSoundImage (part_of words header.granules arena) → IfDefect fault (HasUnsoundFrom words header (arena + 1)) →
    IfDefect fault (HasUnsoundFrom words header arena)
unsound_later words header arena fault sound =
    wider fault (HasUnsoundFrom words header (arena + 1)) (HasUnsoundFrom words header arena)
    (λ found defect later. record {
      low = omega (arith, later.low);
      inside = later.inside;
      before = λ earlier from to. sound_between earlier from to later;
      first = later.first;
    })
  where
    sound_between : {found : ℕ} {defect : Found} (earlier : ℕ) → arena ≤ earlier → earlier < found → HasUnsoundFrom words header (arena + 1) found defect → IsSoundImage (part_of words header.granules earlier)
    sound_between earlier from to later = by_order (split arena earlier from)
      where
        by_order : (arena ≡ earlier) ⊎ (arena + 1 ≤ earlier) → IsSoundImage (part_of words header.granules earlier)
        by_order (inl same) = subst (λ a. IsSoundImage (part_of words header.granules a)) same sound
        by_order (inr above) = later.before earlier above to

-- from arena 0 on that is the first of all
pub unsound_of_pool : (bytes words : List ℕ) (image : IsImageOf bytes words) (fault : ImageFault) → IfDefect fault (HasUnsoundFrom words image.header 0) → IfDefect fault (IsPoolDefect bytes)
unsound_of_pool bytes words image fault =
    wider fault (HasUnsoundFrom words image.header 0) (IsPoolDefect bytes)
    (λ arena defect from. inr (record {
      words = words;
      image = image;
      unsound = from;
    }))

-- an arena of a pool has so many granules at most
pub few_granules : (header : PoolHeader) → IsFirstHeader Log header → header.granules ≤ 4096
few_granules header first = omega (arith, first.valid.greatest, (layout_rules header.version).most)

-- a device that has the words of one of them, and the room of the pool's version
pub pool_room : (words : List ℕ) (header : PoolHeader) (arena room : ℕ) → IsPoolImage words header → arena < header.arenas → room ≡ (layout_of header.version).room → HasVersionRoom (fresh (part_of words header.granules arena) room)
pool_room words header arena room pool below is found here =
    let line = pool.each arena below in
    let own = header_of_arena header arena in
    let same : found ≡ own =
    sym (fields_of-header_word found (header_fits found here.valid)) ∙ ap (λ word. fields_of word) (sym here.word ∙ line.word) ∙ fields_of-header_word own (header_fits own line.valid) in
    omega (arith, is, ap (λ (h : PoolHeader). (layout_of h.version).room) same)

-- a device that has the words of an image, and the room of their version
pub version_room : (words : List ℕ) (room : ℕ) → room ≡ (layout_of (version_in words)).room → HasVersionRoom (fresh words room)
version_room words room is header here =
    let version : version_in words ≡ header.version = ap version_field here.word ∙ ap (λ (h : PoolHeader). h.version) (fields_of-header_word header (header_fits header here.valid)) in
    omega (arith, is, ap (λ v. (layout_of v).room) version)

-- all arenas of a pool
pub answers_by : (bytes words empty text : List ℕ) (image : IsImageOf bytes words) (old new : Option (List (Option PmemState))) → empty ≡ [] →
    text ≡ empty ++ heaps_from words image.header.granules 0 (image.header.arenas - 0) → HasRecovered words image.header.granules 0 (image.header.arenas - 0) old new → AnswersRecover bytes text old new
answers_by bytes words empty text image old new none text_is shelf =
    let all : image.header.arenas - 0 ≡ image.header.arenas = omega arith in
    record {
      words = words;
      image = image;
      is = text_is ∙ ap (λ (t : List ℕ). t ++ heaps_from words image.header.granules 0 (image.header.arenas - 0)) none ∙ ap (λ n. heaps_from words image.header.granules 0 n) all;
      shelf = subst (λ n. HasRecovered words image.header.granules 0 n old new) all shelf;
    }
