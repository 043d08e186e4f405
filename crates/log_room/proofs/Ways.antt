-- A roll and a rewrite switch the directory to chunks whose log has the same live extents.
use Rattle.std.proofs.Common.{not, ◌≡◌, ◌≢◌, ◌+◌, ◌*◌, ◌^◌, ◌<◌, ◌≤◌, ⊎_elim, ℕ, zero, suc, true, false, Bool, List, [], ◌∷◌, ◌++◌, length, take, refl, sym, ap, ◌∙◌, subst, arith, length-append, append-nil, Option, Some, None, flat_map, eqb}
use Rattle.log_room.proofs.Common.{All, AllPairs, Contains, cases_Bool, cases_lt, cond-true, cond-false, and_parts, eqb-true, All-nil, All-head, All-tail, All-append, All-filter, All-weaker, All-contains, All-contains_itself, AllPairs-filter, AllPairs-cons, mod_below, div-add-mod', layout_of, layout_rules, heap_word, version_in, Extent, chunk_log, extent_behind, extent_at, directory_of, IsDirectory, IsChunk, IsLog, HasLog, chunks_of, AreDisjoint, AreLive, IsValid, live_over, live_extents, extent_at-active}
use Rattle.image_tables.specs.declared.extent.Extent.TheVariants.{Large, Slab}
use Rattle.log_room.specs.Chunks.{without, spare_chunks}
use Rattle.log_room.specs.Needless.{extent_over, same_extent, same_extents, is_needless, first_of, first_needless}
use Rattle.log_room.specs.Room.{live_log, chunks_for, kept_chunks}
use Rattle.log_room.proofs.Choices.{AreSpare, spare_taken, length-spare, length-without_one}
use Rattle.log_room.proofs.Alone.{words_valid, words_say, words_few, none_past, rewrite_few}
use Rattle.log_room.proofs.Switches.{IsSwitch}

-- needless chunks

pub same_extent-equal : (a b : Option Extent) → same_extent a b ≡ true → a ≡ b
same_extent-equal None None same = refl
same_extent-equal None (Some b) same = absurd (cc)
same_extent-equal (Some a) None same = absurd (cc)
same_extent-equal (Some (Large n)) (Some (Large m)) same = ap (λ k. Some (Large k)) (eqb-true n m same)
same_extent-equal (Some (Large n)) (Some Slab) same = absurd (cc)
same_extent-equal (Some Slab) (Some (Large m)) same = absurd (cc)
same_extent-equal (Some Slab) (Some Slab) same = refl

same_extents-at : (f h : ℕ → Option Extent) (n i : ℕ) → same_extents f h n ≡ true → i < n → f i ≡ h i
same_extents-at f h zero i same less = absurd (omega arith)
same_extents-at f h (suc n) i same less =
    let parts = and_parts (same_extents f h n) (same_extent (f n) (h n)) same in
    ⊎_elim
    (λ (lower : i < n). same_extents-at f h n i parts.0 lower)
    (λ (last : n ≤ i). let e : n ≡ i = omega arith in subst (λ k. f k ≡ h k) e (same_extent-equal (f n) (h n) parts.1))
    (cases_lt i n)

-- what starts is live, also by some of the chunks alone
over_live : (granules : ℕ) (words active chunks : List ℕ) → granules < 2 ^ 16 → IsLog granules words active → All (Contains active) chunks → AreLive (layout_of (version_in words)).first_granule granules (extent_over words chunks)
unfolding extent_over
over_live granules words active chunks few log among =
    let version = version_in words in
    live_over version granules words chunks few (All-weaker (Contains active) (IsChunk version granules words) (λ c is. All-contains (IsChunk version granules words) active c log.entries is) chunks among)

over_active : (granules : ℕ) (words active : List ℕ) (start : ℕ) → IsLog granules words active → extent_at words start ≡ extent_over words active start
unfolding extent_over
over_active granules words active start log = extent_at-active granules words active start log

-- without a needless chunk the live extents are the same, whatever the start
pub needless_same : (granules : ℕ) (words active : List ℕ) (chunk start : ℕ) → granules < 2 ^ 16 → IsLog granules words active → is_needless granules words active chunk ≡ true →
    extent_over words (without chunk active) start ≡ extent_at words start
unfolding is_needless
needless_same granules words active chunk start few log needless =
    let left = extent_over words (without chunk active) in
    let all = extent_over words active in
    let first = (layout_of (version_in words)).first_granule in
    let among = All-filter (λ c. not (eqb c chunk)) (Contains active) active (All-contains_itself active) in
    ⊎_elim
    (λ (within : start < granules). same_extents-at left all granules start needless within ∙ sym (over_active granules words active start log))
    (λ (past : granules ≤ start).
    none_past first granules left start (over_live granules words active (without chunk active) few log among) past
    ∙ sym (none_past first granules (extent_at words) start (live_extents granules words active few log) past))
    (cases_lt start granules)

-- the first that passes is one of them and passes
pub first_passes : (test : ℕ → Bool) (chunks : List ℕ) (chunk : ℕ) → first_of test chunks ≡ Some chunk → (test chunk ≡ true) × Contains chunks chunk
first_passes test [] chunk is = absurd (cc)
first_passes test (c ∷ chunks) chunk is = ⊎_elim
    (λ (here : test c ≡ true).
    let same : c ≡ chunk = some_same c chunk (sym (cond-true (test c) (Some c) (first_of test chunks) here) ∙ is) in
    (ap test (sym same) ∙ here, (0, omega arith, same)))
    (λ (later : test c ≡ false).
    let rest = first_passes test chunks chunk (sym (cond-false (test c) (Some c) (first_of test chunks) later) ∙ is) in
    (rest.0, (suc rest.1.0, omega (arith, rest.1.1), rest.1.2)))
    (cases_Bool (test c))
  where
    some_same : (a b : ℕ) → Some a ≡ Some b → a ≡ b
    some_same a b e = cc

-- directories

-- several that differ, and others that differ from them and from each other
differ_append : (xs ys : List ℕ) → AllPairs (λ c d. c ≢ d) xs → AllPairs (λ c d. c ≢ d) ys → All (λ y. All (λ x. x ≢ y) xs) ys → AllPairs (λ c d. c ≢ d) (xs ++ ys)
differ_append [] ys first second apart = second
differ_append (x ∷ xs) ys first second apart =
    AllPairs-cons (λ c d. c ≢ d) x (xs ++ ys)
    (All-append (λ d. x ≢ d) xs ys (λ i d inside. first 0 (suc i) d (omega arith) (omega arith))
    (All-weaker (λ y. All (λ c. c ≢ y) (x ∷ xs)) (λ y. x ≢ y) (λ y all. All-head (λ c. c ≢ y) x xs all) ys apart))
    (differ_append xs ys (λ i j d less inside. first (suc i) (suc j) d (omega arith) (omega arith)) second
    (All-weaker (λ y. All (λ c. c ≢ y) (x ∷ xs)) (λ y. All (λ c. c ≢ y) xs) (λ y all. All-tail (λ c. c ≢ y) x xs all) ys apart))

-- some of the active chunks, and spare ones
pub record IsChoice (active kept fresh : List ℕ) : Type 0 where
  pub small : All (λ c. c < 16) kept
  pub once : AllPairs (λ c d. c ≢ d) kept
  pub among : All (Contains active) kept
  pub spare : AreSpare active fresh
  pub some : 1 ≤ length kept + length fresh
  pub most : length kept + length fresh ≤ 8

choice_directory : (active kept fresh : List ℕ) → IsChoice active kept fresh → IsDirectory (directory_of (kept ++ fresh)) (kept ++ fresh)
choice_directory active kept fresh choice = record {
  word = refl;
  some = omega (arith, length-append kept fresh, choice.some);
  most = omega (arith, length-append kept fresh, choice.most);
  small = All-append (λ c. c < 16) kept fresh choice.small choice.spare.small;
  once = differ_append kept fresh choice.once choice.spare.once
      (All-weaker (λ y. All (λ x. x ≢ y) active) (λ y. All (λ x. x ≢ y) kept) (λ y all. All-weaker (Contains active) (λ x. x ≢ y) (λ x is. All-contains (λ c. c ≢ y) active x all is) kept choice.among) fresh choice.spare.apart);
}

-- the log of an arena that a way is taken in
pub record IsArenaLog (granules : ℕ) (words active : List ℕ) : Type 0 where
  pub log : IsLog granules words active
  pub inside : heap_word (version_in words) ≤ length words
  pub few : granules ≤ (layout_of (version_in words)).most_granules

-- what is known of the log of these words
pub arena_log : {granules : ℕ} {words : List ℕ} → HasLog granules words → heap_word (version_in words) ≤ length words → granules ≤ (layout_of (version_in words)).most_granules → IsArenaLog granules words (chunks_of words)
arena_log log inside few = record { log = log; inside = inside; few = few }

-- its granules are few, whatever its version
small_arena : (granules : ℕ) (words active : List ℕ) → IsArenaLog granules words active → granules < 2 ^ 16
small_arena granules words active arena = omega (arith, arena.few, (layout_rules (version_in words)).most)

-- a switch to a choice of its chunks
switch_by : {granules : ℕ} {words active kept fresh entries : List ℕ} → IsArenaLog granules words active → IsChoice active kept fresh → All (IsValid (layout_of (version_in words)).first_granule granules) entries →
    length entries ≤ (layout_of (version_in words)).chunk_entries * length fresh → ((start : ℕ) → extent_behind (flat_map (chunk_log (version_in words) words) kept ++ entries) start None ≡ extent_at words start) → IsSwitch granules words active kept fresh entries
switch_by {granules} {words} {active} {kept} {fresh} arena choice valid fits extents = record {
  log = arena.log;
  inside = arena.inside;
  small = choice.spare.small;
  once = choice.spare.once;
  apart = choice.spare.apart;
  among = choice.among;
  directory = choice_directory active kept fresh choice;
  valid = valid;
  fits = fits;
  extents = extents;
}

-- a roll that drops no chunk
roll_all : (granules : ℕ) (words active : List ℕ) → IsArenaLog granules words active → length active < 8 → IsSwitch granules words active active (take 1 (spare_chunks active)) []
roll_all granules words active arena room =
    let version = version_in words in
    let one = length-spare active 1 (omega arith) in
    let directory = arena.log.directory in
    let choice : IsChoice active active (take 1 (spare_chunks active)) = record {
      small = directory.small;
      once = directory.once;
      among = All-contains_itself active;
      spare = spare_taken active 1;
      some = omega (arith, one);
      most = omega (arith, one);
    } in
    switch_by arena choice (All-nil (IsValid (layout_of version).first_granule granules)) (omega arith)
    (λ start. ap (λ xs. extent_behind xs start None) (append-nil (flat_map (chunk_log version words) active)) ∙ sym (extent_at-active granules words active start arena.log))

-- a roll that drops a needless chunk
roll_but : (granules : ℕ) (words active : List ℕ) (chunk : ℕ) → IsArenaLog granules words active → is_needless granules words active chunk ≡ true → Contains active chunk →
    IsSwitch granules words active (without chunk active) (take 1 (spare_chunks active)) []
unfolding extent_over
roll_but granules words active chunk arena needless is =
    let version = version_in words in
    let kept = without chunk active in
    let directory = arena.log.directory in
    let one = length-spare active 1 (omega (arith, directory.most)) in
    let less = length-without_one chunk active is in
    let test : ℕ → Bool = λ c. not (eqb c chunk) in
    let choice : IsChoice active kept (take 1 (spare_chunks active)) = record {
      small = All-filter test (λ c. c < 16) active directory.small;
      once = AllPairs-filter (λ c d. c ≢ d) test active directory.once;
      among = All-filter test (Contains active) active (All-contains_itself active);
      spare = spare_taken active 1;
      some = omega (arith, one);
      most = omega (arith, one, less, directory.most);
    } in
    switch_by arena choice (All-nil (IsValid (layout_of version).first_granule granules)) (omega arith)
    (λ start. ap (λ xs. extent_behind xs start None) (append-nil (flat_map (chunk_log version words) kept)) ∙ needless_same granules words active chunk start (small_arena granules words active arena) arena.log needless)

-- a roll that drops the first needless chunk, where there is one
pub roll_switch : (granules : ℕ) (words active : List ℕ) (dropped : Option ℕ) → IsArenaLog granules words active → first_needless granules words active ≡ dropped → (dropped ≡ None → length active < 8) →
    IsSwitch granules words active (kept_chunks dropped active) (take 1 (spare_chunks active)) []
roll_switch granules words active None arena first room = roll_all granules words active arena (room refl)
roll_switch granules words active (Some chunk) arena first room =
    let passes = first_passes (is_needless granules words active) active chunk first in
    roll_but granules words active chunk arena passes.0 passes.1

-- the chunks of a rewrite have room for the live extents, and for one entry more
pub rewrite_fits : (version entries : ℕ) → entries < (layout_of version).chunk_entries * chunks_for version entries
rewrite_fits version entries =
    let n = (layout_of version).chunk_entries in
    let some = (layout_rules version).some_entry in
    omega (arith, div-add-mod' entries n, mod_below entries n some)

-- how many chunks a rewrite writes
pub rewrite_most : (granules : ℕ) (words active : List ℕ) → IsArenaLog granules words active → AreDisjoint (extent_at words) → chunks_for (version_in words) (length (live_log granules words)) ≤ 5
unfolding live_log
rewrite_most granules words active arena disjoint =
    let live = live_extents granules words active (small_arena granules words active arena) arena.log in
    rewrite_few (version_in words) (length (live_log granules words))
    (omega (arith, words_few (layout_of (version_in words)).first_granule granules (extent_at words) 0 granules live disjoint (omega arith), arena.few))

-- a rewrite
pub rewrite_switch : (granules : ℕ) (words active : List ℕ) → IsArenaLog granules words active → AreDisjoint (extent_at words) →
    IsSwitch granules words active [] (take (chunks_for (version_in words) (length (live_log granules words))) (spare_chunks active)) (live_log granules words)
unfolding live_log
rewrite_switch granules words active arena disjoint =
    let version = version_in words in
    let first = (layout_of version).first_granule in
    let entries = live_log granules words in
    let m = chunks_for version (length entries) in
    let few = rewrite_most granules words active arena disjoint in
    let size = length-spare active m (omega (arith, arena.log.directory.most, few)) in
    let live = live_extents granules words active (small_arena granules words active arena) arena.log in
    let choice : IsChoice active [] (take m (spare_chunks active)) = record {
      small = All-nil (λ c. c < 16);
      once = λ i j d less inside. absurd (omega arith);
      among = All-nil (Contains active);
      spare = spare_taken active m;
      some = omega (arith, size);
      most = omega (arith, size, few);
    } in
    switch_by arena choice (words_valid first granules (extent_at words) 0 granules live)
    (subst (λ k. length entries ≤ (layout_of version).chunk_entries * k) (sym size) (omega (arith, rewrite_fits version (length entries))))
    (λ start. words_say first granules (extent_at words) start live)
