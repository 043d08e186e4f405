-- What the pass over the log keeps tells of each chunk whether it is needless.
use Rattle.std.proofs.Common.{◌≡◌, ◌≢◌, ◌&&◌, ◌+◌, ◌<◌, ◌≤◌, ⊎_elim, ℕ, zero, suc, true, false, Bool, not, cond, eqb, List, [], ◌∷◌, ◌++◌, length, get_or, drop, refl, sym, ap, ◌∙◌, subst, arith, Option, Some, None, flat_map, drop-cons, replicate}
use Rattle.log_room.proofs.Common.{All, cases_eq, cases_lt, eq-eqb, ne_eqb, cond-true, cond-false, get_or-replicate, get_or_past, length-replicate, All-head, All-tail, All-weaker, version_in, Extent, entry_or_none, entries_below, chunk_log, start_of_entry, extent_of_entry, extent_after, extent_behind, extent_behind-append, extent_after-named, extent_after-other, LogEntry, SaysOf, start_of, extent_of}
use Rattle.image_tables.specs.declared.extent.Extent.TheVariants.{Large, Slab}
use Rattle.log_room.specs.declared.census.Slot.{Slot}
use Rattle.log_room.specs.Chunks.{without}
use Rattle.log_room.specs.Needless.{extent_over, same_extent, same_extents, is_needless, first_of, first_needless}
use Rattle.log_room.specs.Census.{blank_slot, slot_at, slot_noted, slot_after, slot_behind, slot_over, spares, all_spare}

pub slot_behind-append : (chunk : ℕ) (xs ys : List ℕ) (start : ℕ) (slot : Slot) → slot_behind chunk (xs ++ ys) start slot ≡ slot_behind chunk ys start (slot_behind chunk xs start slot)
slot_behind-append chunk [] ys start slot = refl
slot_behind-append chunk (x ∷ xs) ys start slot = slot_behind-append chunk xs ys start (slot_after chunk x start slot)

pub slot_over-append : (log : ℕ → List ℕ) (xs ys : List ℕ) (start : ℕ) (slot : Slot) → slot_over log (xs ++ ys) start slot ≡ slot_over log ys start (slot_over log xs start slot)
slot_over-append log [] ys start slot = refl
slot_over-append log (x ∷ xs) ys start slot = slot_over-append log xs ys start (slot_behind x (log x) start slot)

entries_next : (row : ℕ → ℕ) (i : ℕ) → entries_below row (i + 1) ≡ entries_below row i ++ entry_or_none (row i)
entries_next row i = let e : i + 1 ≡ suc i = omega arith in ap (entries_below row) e

-- one word more of a chunk
pub slot_next : (chunk : ℕ) (row : ℕ → ℕ) (i start : ℕ) (slot now new : Slot) → now ≡ slot_behind chunk (entries_below row i) start slot → new ≡ slot_behind chunk (entry_or_none (row i)) start now →
    new ≡ slot_behind chunk (entries_below row (i + 1)) start slot
slot_next chunk row i start slot now new is step =
    step
    ∙ ap (slot_behind chunk (entry_or_none (row i)) start) is
    ∙ sym (ap (λ ws. slot_behind chunk ws start slot) (entries_next row i) ∙ slot_behind-append chunk (entries_below row i) (entry_or_none (row i)) start slot)

-- a word that is no entry
pub slot_none : (chunk word start : ℕ) (slot : Slot) → word ≡ 0 → slot ≡ slot_behind chunk (entry_or_none word) start slot
slot_none chunk word start slot none = sym (ap (λ w. slot_behind chunk (entry_or_none w) start slot) none)

-- a word that is one
pub slot_some : (chunk word start : ℕ) (entry : LogEntry) (slot : Slot) → word ≢ 0 → SaysOf word entry →
    cond (eqb (start_of entry) start) (slot_noted chunk (extent_of entry) slot) slot ≡ slot_behind chunk (entry_or_none word) start slot
slot_some chunk word start entry slot some says =
    ap (λ e. cond (eqb (start_of entry) start) (slot_noted chunk e slot) slot) (sym says.says)
    ∙ ap (λ s. cond (eqb s start) (slot_noted chunk (extent_of_entry word) slot) slot) (sym says.start)
    ∙ sym (ap (λ b. slot_behind chunk (cond b [] (word ∷ [])) start slot) (ne_eqb word 0 some))

-- what a slot tells of its start: without each chunk, and of the whole
pub record Tells (slot : Slot) (left : ℕ → Option Extent) (whole : Option Extent) : Type 0 where
  pub each : (chunk : ℕ) → left chunk ≡ cond (eqb slot.owner chunk) slot.other slot.last
  pub all : whole ≡ slot.last

tells_same : (slot : Slot) (f h : ℕ → Option Extent) (whole : Option Extent) → ((chunk : ℕ) → h chunk ≡ f chunk) → Tells slot f whole → Tells slot h whole
tells_same slot f h whole same tells = record { each = λ chunk. same chunk ∙ tells.each chunk; all = tells.all }

-- what an entry of one chunk changes of what is said without another
abbrev but : ℕ → (Option Extent → Option Extent) → (ℕ → Option Extent) → ℕ → Option Extent
but chunk change left d = cond (eqb d chunk) (left d) (change (left d))

but_itself : (chunk : ℕ) (change : Option Extent → Option Extent) (left : ℕ → Option Extent) (d : ℕ) → d ≡ chunk → but chunk change left d ≡ left d
but_itself chunk change left d same = cond-true (eqb d chunk) (left d) (change (left d)) (eq-eqb d chunk same)

but_other : (chunk : ℕ) (change : Option Extent → Option Extent) (left : ℕ → Option Extent) (d : ℕ) → d ≢ chunk → but chunk change left d ≡ change (left d)
but_other chunk change left d other = cond-false (eqb d chunk) (left d) (change (left d)) (ne_eqb d chunk other)

-- behind an entry
tells_after : (chunk word start : ℕ) (slot : Slot) (left : ℕ → Option Extent) (whole : Option Extent) → Tells slot left whole →
    Tells (slot_after chunk word start slot) (but chunk (extent_after word start) left) (extent_after word start whole)
tells_after chunk word start slot left whole tells = ⊎_elim
    (λ (named : start_of_entry word ≡ start).
    let says = extent_of_entry word in
    let noted = slot_noted chunk says slot in
    subst (λ s. Tells s (but chunk (extent_after word start) left) (extent_after word start whole)) (sym (cond-true (eqb (start_of_entry word) start) noted slot (eq-eqb (start_of_entry word) start named)))
    (record {
      each = λ d. ⊎_elim
          (λ (same : d ≡ chunk).
          but_itself chunk (extent_after word start) left d same
          ∙ tells.each d
          ∙ ap (λ k. cond (eqb slot.owner k) slot.other slot.last) same
          ∙ sym (cond-true (eqb chunk d) (cond (eqb slot.owner chunk) slot.other slot.last) says (eq-eqb chunk d (sym same))))
          (λ (other : d ≢ chunk).
          but_other chunk (extent_after word start) left d other
          ∙ extent_after-named word start (left d) named
          ∙ sym (cond-false (eqb chunk d) (cond (eqb slot.owner chunk) slot.other slot.last) says (ne_eqb chunk d (λ e. other (sym e)))))
          (cases_eq d chunk);
      all = extent_after-named word start whole named;
    }))
    (λ (unnamed : start_of_entry word ≢ start).
    subst (λ s. Tells s (but chunk (extent_after word start) left) (extent_after word start whole))
    (sym (cond-false (eqb (start_of_entry word) start) (slot_noted chunk (extent_of_entry word) slot) slot (ne_eqb (start_of_entry word) start unnamed)))
    (record {
      each = λ d. ⊎_elim
          (λ (same : d ≡ chunk). but_itself chunk (extent_after word start) left d same ∙ tells.each d)
          (λ (other : d ≢ chunk). but_other chunk (extent_after word start) left d other ∙ extent_after-other word start (left d) unnamed ∙ tells.each d)
          (cases_eq d chunk);
      all = extent_after-other word start whole unnamed ∙ tells.all;
    }))
    (cases_eq (start_of_entry word) start)

-- behind the entries of a chunk
tells_behind : (chunk : ℕ) (words : List ℕ) (start : ℕ) (slot : Slot) (left : ℕ → Option Extent) (whole : Option Extent) → Tells slot left whole →
    Tells (slot_behind chunk words start slot) (but chunk (extent_behind words start) left) (extent_behind words start whole)
tells_behind chunk [] start slot left whole tells = tells_same slot left (but chunk (extent_behind [] start) left) whole (λ d. ⊎_elim
    (λ (same : d ≡ chunk). but_itself chunk (extent_behind [] start) left d same)
    (λ (other : d ≢ chunk). but_other chunk (extent_behind [] start) left d other)
    (cases_eq d chunk)) tells
tells_behind chunk (word ∷ words) start slot left whole tells =
    let next = but chunk (extent_after word start) left in
    tells_same (slot_behind chunk words start (slot_after chunk word start slot)) (but chunk (extent_behind words start) next) (but chunk (extent_behind (word ∷ words) start) left)
    (extent_behind words start (extent_after word start whole))
    (λ d. ⊎_elim
    (λ (same : d ≡ chunk).
    but_itself chunk (extent_behind (word ∷ words) start) left d same
    ∙ sym (but_itself chunk (extent_behind words start) next d same ∙ but_itself chunk (extent_after word start) left d same))
    (λ (other : d ≢ chunk).
    but_other chunk (extent_behind (word ∷ words) start) left d other
    ∙ sym (but_other chunk (extent_behind words start) next d other ∙ ap (extent_behind words start) (but_other chunk (extent_after word start) left d other)))
    (cases_eq d chunk))
    (tells_behind chunk words start (slot_after chunk word start slot) next (extent_after word start whole) (tells_after chunk word start slot left whole tells))

-- behind the entries of chunks
pub tells_over : (log : ℕ → List ℕ) (chunks : List ℕ) (start : ℕ) (slot : Slot) (left : ℕ → Option Extent) (whole : Option Extent) → Tells slot left whole →
    Tells (slot_over log chunks start slot) (λ d. extent_behind (flat_map log (without d chunks)) start (left d)) (extent_behind (flat_map log chunks) start whole)
tells_over log [] start slot left whole tells = tells
tells_over log (c ∷ chunks) start slot left whole tells =
    let next = but c (extent_behind (log c) start) left in
    let now = extent_behind (log c) start whole in
    let rest = tells_over log chunks start (slot_behind c (log c) start slot) next now (tells_behind c (log c) start slot left whole tells) in
    record {
      each = λ d. ⊎_elim
          (λ (same : d ≡ c).
          ap (λ b. extent_behind (flat_map log (cond (not b) (c ∷ without d chunks) (without d chunks))) start (left d)) (eq-eqb c d (sym same))
          ∙ ap (extent_behind (flat_map log (without d chunks)) start) (sym (but_itself c (extent_behind (log c) start) left d same))
          ∙ rest.each d)
          (λ (other : d ≢ c).
          ap (λ b. extent_behind (flat_map log (cond (not b) (c ∷ without d chunks) (without d chunks))) start (left d)) (ne_eqb c d (λ e. other (sym e)))
          ∙ extent_behind-append (log c) (flat_map log (without d chunks)) start (left d)
          ∙ ap (extent_behind (flat_map log (without d chunks)) start) (sym (but_other c (extent_behind (log c) start) left d other))
          ∙ rest.each d)
          (cases_eq d c);
      all = extent_behind-append (log c) (flat_map log chunks) start whole ∙ rest.all;
    }

-- which chunks are needed

same_itself : (x : Option Extent) → same_extent x x ≡ true
same_itself None = refl
same_itself (Some (Large n)) = eq-eqb n n refl
same_itself (Some Slab) = refl

-- a start needs no chunk but that of its last entry
pub spares_other : (slot : Slot) (chunk : ℕ) → slot.owner ≢ chunk → spares slot chunk ≡ true
spares_other slot chunk other = cond-false (eqb slot.owner chunk) (same_extent slot.other slot.last) true (ne_eqb slot.owner chunk other)

pub spares_owner : (slot : Slot) (chunk : ℕ) → slot.owner ≡ chunk → spares slot chunk ≡ same_extent slot.other slot.last
spares_owner slot chunk same = cond-true (eqb slot.owner chunk) (same_extent slot.other slot.last) true (eq-eqb slot.owner chunk same)

pub spares_same : (slot : Slot) (chunk : ℕ) → same_extent slot.other slot.last ≡ true → spares slot chunk ≡ true
spares_same slot chunk same = ⊎_elim (λ e. spares_owner slot chunk e ∙ same) (λ other. spares_other slot chunk other) (cases_eq slot.owner chunk)

-- what is live without the chunk is the same there exactly where the start does not need it
tells_spares : (slot : Slot) (left : ℕ → Option Extent) (whole : Option Extent) (chunk : ℕ) → Tells slot left whole → same_extent (left chunk) whole ≡ spares slot chunk
tells_spares slot left whole chunk tells =
    ap (λ x. same_extent x whole) (tells.each chunk)
    ∙ ap (same_extent (cond (eqb slot.owner chunk) slot.other slot.last)) tells.all
    ∙ ⊎_elim
    (λ (same : slot.owner ≡ chunk).
    ap (λ x. same_extent x slot.last) (cond-true (eqb slot.owner chunk) slot.other slot.last (eq-eqb slot.owner chunk same)) ∙ sym (spares_owner slot chunk same))
    (λ (other : slot.owner ≢ chunk).
    ap (λ x. same_extent x slot.last) (cond-false (eqb slot.owner chunk) slot.other slot.last (ne_eqb slot.owner chunk other)) ∙ same_itself slot.last ∙ sym (spares_other slot chunk other))
    (cases_eq slot.owner chunk)

pub tells_all : (slots : ℕ → Slot) (left : ℕ → ℕ → Option Extent) (whole : ℕ → Option Extent) (chunk n : ℕ) → ((start : ℕ) → Tells (slots start) (λ d. left d start) (whole start)) →
    same_extents (left chunk) whole n ≡ all_spare slots chunk n
tells_all slots left whole chunk zero tells = refl
tells_all slots left whole chunk (suc n) tells =
    ap (λ b. b && same_extent (left chunk n) (whole n)) (tells_all slots left whole chunk n tells)
    ∙ ap (λ b. all_spare slots chunk n && b) (tells_spares (slots n) (λ d. left d n) (whole n) chunk (tells n))

pub all_spare-same : (f h : ℕ → Slot) (chunk n : ℕ) → ((start : ℕ) → f start ≡ h start) → all_spare f chunk n ≡ all_spare h chunk n
all_spare-same f h chunk zero same = refl
all_spare-same f h chunk (suc n) same = ap (λ b. b && spares (f n) chunk) (all_spare-same f h chunk n same) ∙ ap (λ s. all_spare h chunk n && spares s chunk) (same n)

spare_next : (slots : ℕ → Slot) (chunk n : ℕ) → all_spare slots chunk (n + 1) ≡ (all_spare slots chunk n && spares (slots n) chunk)
spare_next slots chunk n = let e : n + 1 ≡ suc n = omega arith in ap (all_spare slots chunk) e

and_true : (b : Bool) → (b && true) ≡ b
and_true true = refl
and_true false = refl

and_false : (b : Bool) → (b && false) ≡ false
and_false true = refl
and_false false = refl

-- a start more that does not need the chunk
pub needed_same : (slots : ℕ → Slot) (chunk n : ℕ) (needed : Bool) → spares (slots n) chunk ≡ true → needed ≡ not (all_spare slots chunk n) → needed ≡ not (all_spare slots chunk (n + 1))
needed_same slots chunk n needed spare is = is ∙ sym (ap not (spare_next slots chunk n ∙ ap (λ b. all_spare slots chunk n && b) spare ∙ and_true (all_spare slots chunk n)))

-- one that needs it
pub needed_more : (slots : ℕ → Slot) (chunk n : ℕ) → spares (slots n) chunk ≡ false → true ≡ not (all_spare slots chunk (n + 1))
needed_more slots chunk n needs = sym (ap not (spare_next slots chunk n ∙ ap (λ b. all_spare slots chunk n && b) needs ∙ and_false (all_spare slots chunk n)))

-- the first of the chunks

pub first_of-same : (p q : ℕ → Bool) (chunks : List ℕ) → All (λ c. p c ≡ q c) chunks → first_of p chunks ≡ first_of q chunks
first_of-same p q [] same = refl
first_of-same p q (c ∷ chunks) same =
    ap (λ b. cond b (Some c) (first_of p chunks)) (All-head (λ c. p c ≡ q c) c chunks same)
    ∙ ap (λ r. cond (q c) (Some c) r) (first_of-same p q chunks (All-tail (λ c. p c ≡ q c) c chunks same))

pub first_here : (test : ℕ → Bool) (chunks : List ℕ) (i : ℕ) → i < length chunks → test (get_or chunks i 0) ≡ true → first_of test (drop i chunks) ≡ Some (get_or chunks i 0)
first_here test chunks i inside is =
    ap (first_of test) (drop-cons chunks i 0 inside) ∙ cond-true (test (get_or chunks i 0)) (Some (get_or chunks i 0)) (first_of test (drop (suc i) chunks)) is

pub first_later : (test : ℕ → Bool) (chunks : List ℕ) (i : ℕ) → i < length chunks → test (get_or chunks i 0) ≡ false → first_of test (drop i chunks) ≡ first_of test (drop (i + 1) chunks)
first_later test chunks i inside is =
    let e : suc i ≡ i + 1 = omega arith in
    ap (first_of test) (drop-cons chunks i 0 inside) ∙ cond-false (test (get_or chunks i 0)) (Some (get_or chunks i 0)) (first_of test (drop (suc i) chunks)) is ∙ ap (λ k. first_of test (drop k chunks)) e

-- a table of blank slots
pub blank_at : (n start : ℕ) → slot_at (replicate n blank_slot) start ≡ blank_slot
blank_at n start = ⊎_elim
    (λ (inside : start < n). get_or-replicate n start blank_slot blank_slot inside)
    (λ (past : n ≤ start). get_or_past (replicate n blank_slot) start blank_slot (omega (arith, length-replicate n blank_slot)))
    (cases_lt start n)

blank_tells : (start : ℕ) → Tells blank_slot (λ d. None) None
blank_tells start = record { each = λ d. sym (cond_same (eqb 16 d)); all = refl }
  where
    cond_same : (b : Bool) → cond {A = Option Extent} b None None ≡ None
    cond_same true = refl
    cond_same false = refl

-- the table behind the log tells which chunks are needless
pub table_tells : (granules : ℕ) (words active : List ℕ) (version : ℕ) (slots : ℕ → Slot) (chunk : ℕ) → version ≡ version_in words → ((start : ℕ) → slots start ≡ slot_over (chunk_log version words) active start blank_slot) →
    all_spare slots chunk granules ≡ is_needless granules words active chunk
unfolding is_needless extent_over
table_tells granules words active version slots chunk is table =
    let log = chunk_log (version_in words) words in
    all_spare-same slots (λ start. slot_over log active start blank_slot) chunk granules (λ start. table start ∙ ap (λ v. slot_over (chunk_log v words) active start blank_slot) is)
    ∙ sym (tells_all (λ start. slot_over log active start blank_slot) (λ d start. extent_behind (flat_map log (without d active)) start None) (λ start. extent_behind (flat_map log active) start None) chunk granules
    (λ start. tells_over log active start blank_slot (λ d. None) None (blank_tells start)))

not_not : (b : Bool) → not (not b) ≡ b
not_not true = refl
not_not false = refl

-- and so which is the first
pub table_first : (granules : ℕ) (words active : List ℕ) (version : ℕ) (slots : ℕ → Slot) (needed : ℕ → Bool) → version ≡ version_in words → ((start : ℕ) → slots start ≡ slot_over (chunk_log version words) active start blank_slot) →
    All (λ c. c < 16) active → ((chunk : ℕ) → chunk < 16 → needed chunk ≡ not (all_spare slots chunk granules)) → first_of (λ chunk. not (needed chunk)) active ≡ first_needless granules words active
table_first granules words active version slots needed is table small says =
    first_of-same (λ chunk. not (needed chunk)) (is_needless granules words active) active
    (All-weaker (λ c. c < 16) (λ c. not (needed c) ≡ is_needless granules words active c)
    (λ c few. ap not (says c few) ∙ not_not (all_spare slots c granules) ∙ table_tells granules words active version slots c is table) active small)
