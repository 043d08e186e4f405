-- The way in which room is made, and what is so afterwards.
use Rattle.std.proofs.Common.{◌≡◌, ◌≢◌, ◌||◌, ◌-◌, ◌*◌, ◌<◌, ◌≤◌, ◌⊎◌, ⊎_elim, inl, ℕ, zero, suc, true, false, Bool, cond, ltb, eqb, List, [], ◌∷◌, ◌++◌, length, get_or, drop, take, refl, sym, ap, ◌∙◌, subst, arith, length-append, length-drop, Option, Some, None, is_some}
use Rattle.std.specs.Option.{IsSome}
use Rattle.log_room.proofs.Common.{cases_Bool, cases_eq, cases_lt, cond-true, cond-false, or_cases, or_left, or_right, or_from, eq-eqb, eqb-true, ltb-true, lt-ltb, le-ltb, both_ways, get_or_past, Fence, word_at, word_at-put_same, reading, IsQuiet, CrashOnly, by_none, layout_of, layout_rules, fields_word, directory_word, entry_slot, heap_word, version_field, version_in, most_chunks, active_chunks, extent_at, log_start-low, entry_slot-low, directory_of, logged, Book, HasLog, Reads, HasFreeEntry, AreWithin, chunks_of, last_chunk, IsNextOf, active_chunks-directory, eight, AreDisjoint}
use Rattle.book_log.specs.declared.place.EntryPlace.{EntryPlace}
use Rattle.book_log.proofs.Places.{within_heap}
use Rattle.log_room.specs.declared.room.Rolled.{Rolled}
use Rattle.log_room.specs.declared.room.Rolled.TheVariants as rolled
use Rattle.log_room.specs.Chunks.{has_zero, has_space, spare_chunks}
use Rattle.log_room.specs.Needless.{first_needless}
use Rattle.log_room.specs.Copies.{copy_events, switch_events}
use Rattle.log_room.specs.Room.{live_log, chunks_for, kept_chunks, chunks_behind, way_of, events_among, room_events, KeepsLog}
use Rattle.log_room.proofs.Choices.{length-spare}
use Rattle.log_room.proofs.Filled.{ReadAs}
use Rattle.log_room.proofs.Switches.{IsSwitch, copied_same, copied_reads, switch_reading, switch_same, switch_keeps, switch_quiet, switch_crash}
use Rattle.log_room.proofs.Flushes.{directory_inside}
use Rattle.log_room.proofs.Ways.{IsArenaLog, roll_switch, rewrite_switch, rewrite_fits, rewrite_most}

-- free entries

zero_some : (row : ℕ → ℕ) (n e : ℕ) → e < n → row e ≡ 0 → has_zero row n ≡ true
zero_some row zero e below is = absurd (omega arith)
zero_some row (suc n) e below is = ⊎_elim
    (λ (same : e ≡ n). or_right (has_zero row n) (eqb (row n) 0) (eq-eqb (row n) 0 (ap row (sym same) ∙ is)))
    (λ (other : e ≢ n). or_left (has_zero row n) (eqb (row n) 0) (zero_some row n e (omega (arith, other)) is))
    (cases_eq e n)

some_zero : (row : ℕ → ℕ) (n : ℕ) → has_zero row n ≡ true → (e : ℕ) × ((e < n) × (row e ≡ 0))
some_zero row zero is = absurd (cc)
some_zero row (suc n) is = ⊎_elim
    (λ (earlier : has_zero row n ≡ true). let found = some_zero row n earlier in (found.0, (omega (arith, found.1.0), found.1.1)))
    (λ (here : eqb (row n) 0 ≡ true). (n, (omega arith, eqb-true (row n) 0 here)))
    (or_cases (has_zero row n) (eqb (row n) 0) is)

space_last : (version : ℕ) (words chunks : List ℕ) → 1 ≤ length chunks → has_space version words chunks ≡ has_zero (logged version words (get_or chunks (length chunks - 1) 0)) (layout_of version).chunk_entries
space_last version words [] some = absurd (omega arith)
space_last version words (c ∷ []) some = refl
space_last version words (c ∷ d ∷ chunks) some =
    let e : suc (length (d ∷ chunks) - 1) ≡ length (c ∷ d ∷ chunks) - 1 = omega arith in
    space_last version words (d ∷ chunks) (omega arith) ∙ ap (λ k. has_zero (logged version words (get_or (c ∷ d ∷ chunks) k 0)) (layout_of version).chunk_entries) e

-- there is space where there is a free entry
pub space_free : (granules : ℕ) (words : List ℕ) → HasLog granules words → HasFreeEntry words → has_space (version_in words) words (chunks_of words) ≡ true
space_free granules words log free =
    space_last (version_in words) words (chunks_of words) log.directory.some ∙ zero_some (logged (version_in words) words (last_chunk words)) (layout_of (version_in words)).chunk_entries free.entry free.below free.free

pub free_space : (granules : ℕ) (words : List ℕ) → HasLog granules words → has_space (version_in words) words (chunks_of words) ≡ true → HasFreeEntry words
free_space granules words log space =
    let found = some_zero (logged (version_in words) words (last_chunk words)) (layout_of (version_in words)).chunk_entries (sym (space_last (version_in words) words (chunks_of words) log.directory.some) ∙ space) in
    record { entry = found.0; below = found.1.0; free = found.1.1 }

-- where there is a free entry, the next one has a place
pub next_some : (book : Book) (words : List ℕ) → Reads book words → HasFreeEntry words → IsSome book.next
next_some book words reads free = place book.next reads.next
  where
    place : (next : Option EntryPlace) → IsNextOf words next → IsSome next
    place None full = absurd (full.each free.entry free.below free.free)
    place (Some next) is = refl

-- the way

way_cases : (granules : ℕ) (words : List ℕ) → has_space (version_in words) words (chunks_of words) ≡ false →
    way_of granules words ≡ cond (ltb (length (chunks_of words)) most_chunks || is_some (first_needless granules words (chunks_of words))) (rolled.Rolled (first_needless granules words (chunks_of words)))
    (rolled.Rewritten (chunks_for (version_in words) (length (live_log granules words))))
unfolding way_of
way_cases granules words full = cond-false (has_space (version_in words) words (chunks_of words)) rolled.Nothing _ full

pub way_nothing : (granules : ℕ) (words : List ℕ) → has_space (version_in words) words (chunks_of words) ≡ true → way_of granules words ≡ rolled.Nothing
unfolding way_of
way_nothing granules words space = cond-true (has_space (version_in words) words (chunks_of words)) rolled.Nothing _ space

pub way_roll : (granules : ℕ) (words : List ℕ) (dropped : Option ℕ) → has_space (version_in words) words (chunks_of words) ≡ false → dropped ≡ first_needless granules words (chunks_of words) →
    (length (chunks_of words) < 8) ⊎ (is_some dropped ≡ true) → way_of granules words ≡ rolled.Rolled dropped
way_roll granules words dropped full is some =
    let active = chunks_of words in
    let first = first_needless granules words active in
    way_cases granules words full
    ∙ cond-true (ltb (length active) most_chunks || is_some first) (rolled.Rolled first) (rolled.Rewritten (chunks_for (version_in words) (length (live_log granules words))))
    (⊎_elim
    (λ (few : length active < 8). or_left (ltb (length active) most_chunks) (is_some first) (lt-ltb (length active) most_chunks (omega (arith, few, eight))))
    (λ (needless : is_some dropped ≡ true). or_right (ltb (length active) most_chunks) (is_some first) (ap is_some (sym is) ∙ needless))
    some)
    ∙ ap rolled.Rolled (sym is)

pub way_rewrite : (granules : ℕ) (words : List ℕ) (dropped : Option ℕ) → has_space (version_in words) words (chunks_of words) ≡ false → dropped ≡ first_needless granules words (chunks_of words) →
    8 ≤ length (chunks_of words) → is_some dropped ≡ false → way_of granules words ≡ rolled.Rewritten (chunks_for (version_in words) (length (live_log granules words)))
way_rewrite granules words dropped full is many none =
    let active = chunks_of words in
    let first = first_needless granules words active in
    way_cases granules words full
    ∙ cond-false (ltb (length active) most_chunks || is_some first) (rolled.Rolled first) (rolled.Rewritten (chunks_for (version_in words) (length (live_log granules words))))
    (or_from (ltb (length active) most_chunks) (is_some first) (le-ltb (length active) most_chunks (omega (arith, many, eight))) (ap is_some (sym is) ∙ none))

-- what is so where the way is to do nothing, to roll, to rewrite

pub nothing_space : (granules : ℕ) (words : List ℕ) → way_of granules words ≡ rolled.Nothing → has_space (version_in words) words (chunks_of words) ≡ true
nothing_space granules words is = ⊎_elim
    (λ (space : has_space (version_in words) words (chunks_of words) ≡ true). space)
    (λ (full : has_space (version_in words) words (chunks_of words) ≡ false). absurd (neither (first_needless granules words (chunks_of words)) (chunks_for (version_in words) (length (live_log granules words))) (ltb (length (chunks_of words)) most_chunks || is_some (first_needless granules words (chunks_of words))) (sym (way_cases granules words full) ∙ is)))
    (cases_Bool (has_space (version_in words) words (chunks_of words)))
  where
    neither : (d : Option ℕ) (m : ℕ) (b : Bool) → cond b (rolled.Rolled d) (rolled.Rewritten m) ≡ rolled.Nothing → ⊥
    neither d m true e = absurd (cc)
    neither d m false e = absurd (cc)

-- what a roll drops
pub record IsRoll (granules : ℕ) (words : List ℕ) (dropped : Option ℕ) : Type 0 where
  pub first : first_needless granules words (chunks_of words) ≡ dropped
  pub few : dropped ≡ None → length (chunks_of words) < 8

pub roll_is : (granules : ℕ) (words : List ℕ) (dropped : Option ℕ) → way_of granules words ≡ rolled.Rolled dropped → IsRoll granules words dropped
roll_is granules words dropped is = ⊎_elim
    (λ (space : has_space (version_in words) words (chunks_of words) ≡ true). absurd (apart dropped (sym (way_nothing granules words space) ∙ is)))
    (λ (full : has_space (version_in words) words (chunks_of words) ≡ false).
    let active = chunks_of words in
    let first = first_needless granules words active in
    cases (ltb (length active) most_chunks || is_some first) refl (sym (way_cases granules words full) ∙ is))
    (cases_Bool (has_space (version_in words) words (chunks_of words)))
  where
    apart : (d : Option ℕ) → rolled.Nothing ≡ rolled.Rolled d → ⊥
    apart d e = absurd (cc)

    same : (d e : Option ℕ) → rolled.Rolled d ≡ rolled.Rolled e → d ≡ e
    same d e p = cc

    other : (m : ℕ) (d : Option ℕ) → rolled.Rewritten m ≡ rolled.Rolled d → ⊥
    other m d e = absurd (cc)

    cases : (b : Bool) → (ltb (length (chunks_of words)) most_chunks || is_some (first_needless granules words (chunks_of words))) ≡ b →
        cond b (rolled.Rolled (first_needless granules words (chunks_of words))) (rolled.Rewritten (chunks_for (version_in words) (length (live_log granules words)))) ≡ rolled.Rolled dropped → IsRoll granules words dropped
    cases true test e =
        let first = same (first_needless granules words (chunks_of words)) dropped e in
        record {
          first = first;
          few = λ none. ⊎_elim
              (λ (less : ltb (length (chunks_of words)) most_chunks ≡ true). omega (arith, ltb-true (length (chunks_of words)) most_chunks less, eight))
              (λ (some : is_some (first_needless granules words (chunks_of words)) ≡ true). absurd (both_ways false refl (sym (ap is_some (first ∙ none)) ∙ some)))
              (or_cases (ltb (length (chunks_of words)) most_chunks) (is_some (first_needless granules words (chunks_of words))) test);
        }
    cases false test e = absurd (other (chunks_for (version_in words) (length (live_log granules words))) dropped e)

-- a rewrite comes where as many chunks are active as may be
pub rewrite_full : (granules : ℕ) (words : List ℕ) (chunks : ℕ) → way_of granules words ≡ rolled.Rewritten chunks → most_chunks ≤ length (chunks_of words)
rewrite_full granules words chunks is = ⊎_elim
    (λ (few : length (chunks_of words) < most_chunks). absurd (neither few))
    (λ (many : most_chunks ≤ length (chunks_of words)). many)
    (cases_lt (length (chunks_of words)) most_chunks)
  where
    apart : (m : ℕ) → rolled.Nothing ≡ rolled.Rewritten m → ⊥
    apart m e = absurd (cc)

    other : (m : ℕ) (d : Option ℕ) → rolled.Rolled d ≡ rolled.Rewritten m → ⊥
    other m d e = absurd (cc)

    neither : length (chunks_of words) < most_chunks → ⊥
    neither few = ⊎_elim
        (λ (space : has_space (version_in words) words (chunks_of words) ≡ true). apart chunks (sym (way_nothing granules words space) ∙ is))
        (λ (full : has_space (version_in words) words (chunks_of words) ≡ false).
        other chunks (first_needless granules words (chunks_of words)) (sym (way_roll granules words (first_needless granules words (chunks_of words)) full refl (inl (omega (arith, few, eight)))) ∙ is))
        (cases_Bool (has_space (version_in words) words (chunks_of words)))

-- how many chunks a rewrite writes
pub rewrite_is : (granules : ℕ) (words : List ℕ) (chunks : ℕ) → way_of granules words ≡ rolled.Rewritten chunks → chunks ≡ chunks_for (version_in words) (length (live_log granules words))
rewrite_is granules words chunks is = ⊎_elim
    (λ (space : has_space (version_in words) words (chunks_of words) ≡ true). absurd (apart chunks (sym (way_nothing granules words space) ∙ is)))
    (λ (full : has_space (version_in words) words (chunks_of words) ≡ false).
    cases (ltb (length (chunks_of words)) most_chunks || is_some (first_needless granules words (chunks_of words))) (sym (way_cases granules words full) ∙ is))
    (cases_Bool (has_space (version_in words) words (chunks_of words)))
  where
    apart : (m : ℕ) → rolled.Nothing ≡ rolled.Rewritten m → ⊥
    apart m e = absurd (cc)

    same : (m n : ℕ) → rolled.Rewritten m ≡ rolled.Rewritten n → n ≡ m
    same m n p = cc

    other : (m : ℕ) (d : Option ℕ) → rolled.Rolled d ≡ rolled.Rewritten m → ⊥
    other m d e = absurd (cc)

    cases : (b : Bool) → cond b (rolled.Rolled (first_needless granules words (chunks_of words))) (rolled.Rewritten (chunks_for (version_in words) (length (live_log granules words)))) ≡ rolled.Rewritten chunks →
        chunks ≡ chunks_for (version_in words) (length (live_log granules words))
    cases true e = absurd (other chunks (first_needless granules words (chunks_of words)) e)
    cases false e = same (chunks_for (version_in words) (length (live_log granules words))) chunks e

-- room afterwards

-- the last of the chunks has a free entry, where there are fewer entries than places
read_last : (version : ℕ) (words fresh entries : List ℕ) → ReadAs version words fresh entries → length entries < (layout_of version).chunk_entries * length fresh →
    (e : ℕ) × ((e < (layout_of version).chunk_entries) × (word_at words (entry_slot version (get_or fresh (length fresh - 1) 0) e) ≡ 0))
read_last version words [] entries reads room = absurd (omega arith)
read_last version words (c ∷ []) entries reads room =
    let below : length entries < (layout_of version).chunk_entries = omega arith in
    (length entries, (below, reads.0.each (length entries) below ∙ get_or_past entries (length entries) 0 (omega arith)))
read_last version words (c ∷ d ∷ fresh) entries reads room =
    let n = (layout_of version).chunk_entries in
    let some = (layout_rules version).some_entry in
    let rest = read_last version words (d ∷ fresh) (drop n entries) reads.1 (omega (arith, length-drop n entries, some, room)) in
    let k : suc (length (d ∷ fresh) - 1) ≡ length (c ∷ d ∷ fresh) - 1 = omega arith in
    (rest.0, (rest.1.0, ap (λ i. word_at words (entry_slot version (get_or (c ∷ d ∷ fresh) i 0) rest.0)) (sym k) ∙ rest.1.1))

last_append : (xs ys : List ℕ) → 0 < length ys → get_or (xs ++ ys) (length (xs ++ ys) - 1) 0 ≡ get_or ys (length ys - 1) 0
last_append [] ys some = refl
last_append (x ∷ xs) ys some =
    let k : length (x ∷ (xs ++ ys)) - 1 ≡ suc (length (xs ++ ys) - 1) = omega (arith, length-append xs ys) in
    ap (λ i. get_or (x ∷ (xs ++ ys)) i 0) k ∙ last_append xs ys some

-- what is so once room was made
pub record IsMade (granules : ℕ) (words : List ℕ) : Type 0 where
  pub crash : CrashOnly words (room_events granules words) (KeepsLog granules words)
  pub quiet : IsQuiet (room_events granules words)
  pub keeps : KeepsLog granules words (reading words (room_events granules words))
  pub free : HasFreeEntry (reading words (room_events granules words))
  pub within : AreWithin (reading words (room_events granules words))
  pub chunks : chunks_of (reading words (room_events granules words)) ≡ chunks_behind (chunks_of words) (way_of granules words)

-- the version is kept too
pub same_version : (granules : ℕ) (words new : List ℕ) → KeepsLog granules words new → version_in new ≡ version_in words
same_version granules words new keeps =
    ap version_field (keeps.others fields_word (λ e. omega arith) (inl (omega (arith, log_start-low (version_in words)))))

-- by a switch of the directory that leaves a place free
made_switch : (granules : ℕ) (words active kept fresh entries : List ℕ) → IsSwitch granules words active kept fresh entries → length entries < (layout_of (version_in words)).chunk_entries * length fresh →
    room_events granules words ≡ switch_events (version_in words) fresh entries (kept ++ fresh) → kept ++ fresh ≡ chunks_behind (chunks_of words) (way_of granules words) → IsMade granules words
made_switch granules words active kept fresh entries switch room is behind =
    let version = version_in words in
    let chunks = kept ++ fresh in
    let events = switch_events version fresh entries chunks in
    let last = reading words events in
    let new = reading words (copy_events version fresh entries ++ Fence ∷ []) in
    let keeps = switch_keeps granules words active kept fresh entries switch in
    let same = same_version granules words last keeps in
    let some : 0 < length fresh = some_fresh fresh room in
    let place : directory_word < length new = directory_inside version (length new) (omega (arith, switch.inside, (copied_same words fresh entries).same_length)) in
    let directory : word_at last directory_word ≡ directory_of chunks =
    ap (λ ws. word_at ws directory_word) (switch_reading words fresh entries chunks) ∙ word_at-put_same new directory_word directory_word (directory_of chunks) refl place in
    let named : chunks_of last ≡ chunks = ap active_chunks directory ∙ active_chunks-directory (directory_of chunks) chunks switch.directory in
    let newest : last_chunk last ≡ get_or fresh (length fresh - 1) 0 = ap (λ cs. get_or cs (length cs - 1) 0) named ∙ last_append kept fresh some in
    let found = read_last version new fresh entries (copied_reads granules words active kept fresh entries switch) room in
    let free : HasFreeEntry last = record {
      entry = found.0;
      below = subst (λ v. found.0 < (layout_of v).chunk_entries) (sym same) found.1.0;
      free =
          ap (λ v. word_at last (entry_slot v (last_chunk last) found.0)) same
          ∙ ap (λ c. word_at last (entry_slot version c found.0)) newest
          ∙ switch_same words fresh entries chunks (entry_slot version (get_or fresh (length fresh - 1) 0) found.0)
          (λ e. omega (arith, e, log_start-low version, entry_slot-low version (get_or fresh (length fresh - 1) 0) found.0))
          ∙ found.1.1;
    } in
    let within : AreWithin last = within_heap last (subst (λ v. heap_word v ≤ length last) (sym same) (omega (arith, keeps.same_length, switch.inside))) in
    record {
      crash = subst (λ es. CrashOnly words es (KeepsLog granules words)) (sym is) (switch_crash granules words active kept fresh entries switch);
      quiet = subst IsQuiet (sym is) (switch_quiet version fresh entries chunks);
      keeps = subst (λ es. KeepsLog granules words (reading words es)) (sym is) keeps;
      free = subst (λ es. HasFreeEntry (reading words es)) (sym is) free;
      within = subst (λ es. AreWithin (reading words es)) (sym is) within;
      chunks = ap (λ es. chunks_of (reading words es)) is ∙ named ∙ behind;
    }
  where
    some_fresh : (fresh : List ℕ) → length entries < (layout_of (version_in words)).chunk_entries * length fresh → 0 < length fresh
    some_fresh [] room = absurd (omega arith)
    some_fresh (c ∷ fresh) room = omega arith

-- the events of a way
pub events_of : (granules : ℕ) (words : List ℕ) (way : Rolled) → way_of granules words ≡ way → room_events granules words ≡ events_among granules words (chunks_of words) way
unfolding room_events
events_of granules words way is = ap (events_among granules words (chunks_of words)) is

-- room is made, whatever the way
pub made : {granules : ℕ} {words : List ℕ} → IsArenaLog granules words (chunks_of words) → AreDisjoint (extent_at words) → IsMade granules words
made {granules} {words} arena disjoint = by_way (way_of granules words) refl
  where
    by_way : (way : Rolled) → way_of granules words ≡ way → IsMade granules words
    by_way rolled.Nothing is =
        let none : room_events granules words ≡ [] = events_of granules words rolled.Nothing is in
        let keeps : KeepsLog granules words words = record { same_length = refl; log = arena.log; extents = λ start. refl; others = λ k other outside. refl } in
        record {
          crash = subst (λ es. CrashOnly words es (KeepsLog granules words)) (sym none) (by_none words (KeepsLog granules words) keeps);
          quiet = subst IsQuiet (sym none) tt;
          keeps = subst (λ es. KeepsLog granules words (reading words es)) (sym none) keeps;
          free = subst (λ es. HasFreeEntry (reading words es)) (sym none) (free_space granules words arena.log (nothing_space granules words is));
          within = subst (λ es. AreWithin (reading words es)) (sym none) (within_heap words arena.inside);
          chunks = ap (λ es. chunks_of (reading words es)) none ∙ sym (ap (chunks_behind (chunks_of words)) is);
        }
    by_way (rolled.Rolled dropped) is =
        let active = chunks_of words in
        let roll = roll_is granules words dropped is in
        let one = length-spare active 1 (omega (arith, arena.log.directory.most)) in
        let some = (layout_rules (version_in words)).some_entry in
        made_switch granules words active (kept_chunks dropped active) (take 1 (spare_chunks active)) [] (roll_switch granules words active dropped arena roll.first roll.few)
        (subst (λ k. 0 < (layout_of (version_in words)).chunk_entries * k) (sym one) (omega (arith, some)))
        (events_of granules words (rolled.Rolled dropped) is)
        (sym (ap (chunks_behind active) is))
    by_way (rolled.Rewritten chunks) is =
        let active = chunks_of words in
        let version = version_in words in
        let entries = live_log granules words in
        let m = chunks_for version (length entries) in
        let few = rewrite_most granules words active arena disjoint in
        let size = length-spare active m (omega (arith, arena.log.directory.most, few)) in
        made_switch granules words active [] (take m (spare_chunks active)) entries (rewrite_switch granules words active arena disjoint)
        (subst (λ k. length entries < (layout_of version).chunk_entries * k) (sym size) (rewrite_fits version (length entries)))
        (events_of granules words (rolled.Rewritten chunks) is ∙ ap (λ k. events_among granules words active (rolled.Rewritten k)) (rewrite_is granules words chunks is))
        (sym (ap (chunks_behind active) is ∙ ap (λ k. take k (spare_chunks active)) (rewrite_is granules words chunks is)))
