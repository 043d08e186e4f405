-- Choices of chunks: how many there are, and that they differ.
use Rattle.std.proofs.Common.{Option, Some, None, ◌≡◌, ◌≢◌, ◌+◌, ◌<◌, ◌≤◌, ⊎_elim, ℕ, zero, suc, true, not, cond, eqb, List, [], ◌∷◌, length, get_or, take, refl, sym, ap, ◌∙◌, subst, arith}
use Rattle.log_room.proofs.Common.{All, AllPairs, Contains, cases_eq, eq-eqb, ne_eqb, not-true, not_from_false, eqb-false, cond-true, length-take, length-take-le, get_or-take, All-nil, All-cons, All-head, All-tail, All-weaker, All-filter, All-take, filter_passes, AllPairs-filter, AllPairs-cons}
use Rattle.log_room.specs.Room.{kept_chunks}
use Rattle.log_room.specs.Chunks.{without, chunks_from, left_by, all_chunks, spare_chunks}

-- the one that is left out is none of them
without_differ : (chunk : ℕ) (chunks : List ℕ) → All (λ c. c ≢ chunk) (without chunk chunks)
without_differ chunk chunks =
    All-weaker (λ c. not (eqb c chunk) ≡ true) (λ c. c ≢ chunk) (λ c passes. eqb-false c chunk (not-true (eqb c chunk) passes)) (without chunk chunks) (filter_passes (λ c. not (eqb c chunk)) chunks)

-- where none of them is the one, all stay
without_none : (chunk : ℕ) (chunks : List ℕ) → All (λ c. c ≢ chunk) chunks → without chunk chunks ≡ chunks
without_none chunk [] differ = refl
without_none chunk (c ∷ chunks) differ =
    cond-true (not (eqb c chunk)) (c ∷ without chunk chunks) (without chunk chunks) (not_from_false (eqb c chunk) (ne_eqb c chunk (All-head (λ c. c ≢ chunk) c chunks differ)))
    ∙ ap (λ cs. c ∷ cs) (without_none chunk chunks (All-tail (λ c. c ≢ chunk) c chunks differ))

-- the first of several that differ is none of the others
first_differs : (c : ℕ) (chunks : List ℕ) → AllPairs (λ c d. c ≢ d) (c ∷ chunks) → All (λ d. d ≢ c) chunks
first_differs c chunks once i d inside same = once 0 (suc i) d (omega arith) (omega arith) (sym same)

tail_once : (c : ℕ) (chunks : List ℕ) → AllPairs (λ c d. c ≢ d) (c ∷ chunks) → AllPairs (λ c d. c ≢ d) chunks
tail_once c chunks once i j d less inside = once (suc i) (suc j) d (omega arith) (omega arith)

-- of several that differ at most one is left out
length-without : (chunk : ℕ) (chunks : List ℕ) → AllPairs (λ c d. c ≢ d) chunks → length chunks ≤ length (without chunk chunks) + 1
length-without chunk [] once = omega arith
length-without chunk (c ∷ chunks) once = ⊎_elim
    (λ (same : c ≡ chunk).
    let rest : without chunk chunks ≡ chunks = without_none chunk chunks (subst (λ c. All (λ d. d ≢ c) chunks) same (first_differs c chunks once)) in
    let left : without chunk (c ∷ chunks) ≡ without chunk chunks = ap (λ b. cond (not b) (c ∷ without chunk chunks) (without chunk chunks)) (eq-eqb c chunk same) in
    omega (arith, ap length rest, ap length left))
    (λ (other : c ≢ chunk).
    let left : without chunk (c ∷ chunks) ≡ c ∷ without chunk chunks = ap (λ b. cond (not b) (c ∷ without chunk chunks) (without chunk chunks)) (ne_eqb c chunk other) in
    omega (arith, ap length left, length-without chunk chunks (tail_once c chunks once)))
    (cases_eq c chunk)

-- one that is among them is left out
pub length-without_one : (chunk : ℕ) (chunks : List ℕ) → Contains chunks chunk → length (without chunk chunks) + 1 ≤ length chunks
length-without_one chunk [] among = absurd (omega (arith, among.1))
length-without_one chunk (c ∷ chunks) among = ⊎_elim
    (λ (same : c ≡ chunk).
    let left : without chunk (c ∷ chunks) ≡ without chunk chunks = ap (λ b. cond (not b) (c ∷ without chunk chunks) (without chunk chunks)) (eq-eqb c chunk same) in
    omega (arith, ap length left, length-filtered chunks))
    (λ (other : c ≢ chunk).
    let left : without chunk (c ∷ chunks) ≡ c ∷ without chunk chunks = ap (λ b. cond (not b) (c ∷ without chunk chunks) (without chunk chunks)) (ne_eqb c chunk other) in
    omega (arith, ap length left, length-without_one chunk chunks (later among.0 among.1 among.2 other)))
    (cases_eq c chunk)
  where
    length-filtered : (cs : List ℕ) → length (without chunk cs) ≤ length cs
    length-filtered [] = omega arith
    length-filtered (d ∷ cs) = ⊎_elim
        (λ (same : d ≡ chunk). omega (arith, ap (λ b. length (cond (not b) (d ∷ without chunk cs) (without chunk cs))) (eq-eqb d chunk same), length-filtered cs))
        (λ (other : d ≢ chunk). omega (arith, ap (λ b. length (cond (not b) (d ∷ without chunk cs) (without chunk cs))) (ne_eqb d chunk other), length-filtered cs))
        (cases_eq d chunk)

    later : (k : ℕ) → k < length (c ∷ chunks) → get_or (c ∷ chunks) k chunk ≡ chunk → c ≢ chunk → Contains chunks chunk
    later zero inside same other = absurd (other same)
    later (suc k) inside same other = (k, omega arith, same)

-- chunks from one on

low_from : (chunk n : ℕ) → All (λ c. chunk ≤ c) (chunks_from chunk n)
low_from chunk zero = All-nil (λ c. chunk ≤ c)
low_from chunk (suc n) = All-cons (λ c. chunk ≤ c) chunk (chunks_from (chunk + 1) n) (omega arith) (All-weaker (λ c. chunk + 1 ≤ c) (λ c. chunk ≤ c) (λ c low. omega arith) (chunks_from (chunk + 1) n) (low_from (chunk + 1) n))

high_from : (chunk n : ℕ) → All (λ c. c < chunk + n) (chunks_from chunk n)
high_from chunk zero = All-nil (λ c. c < chunk + 0)
high_from chunk (suc n) = All-cons (λ c. c < chunk + suc n) chunk (chunks_from (chunk + 1) n) (omega arith) (All-weaker (λ c. c < chunk + 1 + n) (λ c. c < chunk + suc n) (λ c high. omega arith) (chunks_from (chunk + 1) n) (high_from (chunk + 1) n))

once_from : (chunk n : ℕ) → AllPairs (λ c d. c ≢ d) (chunks_from chunk n)
once_from chunk zero = λ i j d less inside. absurd (omega arith)
once_from chunk (suc n) = AllPairs-cons (λ c d. c ≢ d) chunk (chunks_from (chunk + 1) n)
    (All-weaker (λ c. chunk + 1 ≤ c) (λ c. chunk ≢ c) (λ c low same. omega arith) (chunks_from (chunk + 1) n) (low_from (chunk + 1) n)) (once_from (chunk + 1) n)

length-from : (chunk n : ℕ) → length (chunks_from chunk n) ≡ n
length-from chunk zero = refl
length-from chunk (suc n) = omega (arith, length-from (chunk + 1) n)

-- those that are left

left_holds : (P : ℕ → Type 0) (taken chunks : List ℕ) → All P chunks → All P (left_by taken chunks)
left_holds P [] chunks all = all
left_holds P (c ∷ taken) chunks all = All-filter (λ d. not (eqb d c)) P (left_by taken chunks) (left_holds P taken chunks all)

left_once : (taken chunks : List ℕ) → AllPairs (λ c d. c ≢ d) chunks → AllPairs (λ c d. c ≢ d) (left_by taken chunks)
left_once [] chunks once = once
left_once (c ∷ taken) chunks once = AllPairs-filter (λ c d. c ≢ d) (λ d. not (eqb d c)) (left_by taken chunks) (left_once taken chunks once)

-- none that is taken is left
left_apart : (taken chunks : List ℕ) → All (λ c. All (λ d. d ≢ c) taken) (left_by taken chunks)
left_apart [] chunks = λ i d inside. All-nil (λ e. e ≢ get_or (left_by [] chunks) i d)
left_apart (t ∷ taken) chunks = λ i d inside.
    let c = get_or (left_by (t ∷ taken) chunks) i d in
    All-cons (λ e. e ≢ c) t taken (λ same. without_differ t (left_by taken chunks) i d inside (sym same))
    (All-filter (λ e. not (eqb e t)) (λ c. All (λ d. d ≢ c) taken) (left_by taken chunks) (left_apart taken chunks) i d inside)

length-left : (taken chunks : List ℕ) → AllPairs (λ c d. c ≢ d) chunks → length chunks ≤ length (left_by taken chunks) + length taken
length-left [] chunks once = omega arith
length-left (c ∷ taken) chunks once = omega (arith, length-left taken chunks once, length-without c (left_by taken chunks) (left_once taken chunks once))

sixteen : all_chunks ≡ 16
unfolding all_chunks
sixteen = refl

-- so many spare chunks: they are chunks, they differ, none is active
pub record AreSpare (active fresh : List ℕ) : Type 0 where
  pub small : All (λ c. c < 16) fresh
  pub once : AllPairs (λ c d. c ≢ d) fresh
  pub apart : All (λ c. All (λ d. d ≢ c) active) fresh

-- the lowest of them
pub spare_taken : (active : List ℕ) (n : ℕ) → AreSpare active (take n (spare_chunks active))
spare_taken active n =
    let spare = spare_chunks active in
    record {
      small = All-take (λ c. c < 16) n spare (left_holds (λ c. c < 16) active (chunks_from 0 all_chunks)
          (All-weaker (λ c. c < 0 + all_chunks) (λ c. c < 16) (λ c less. omega (arith, less, sixteen)) (chunks_from 0 all_chunks) (high_from 0 all_chunks)));
      once = once_taken n spare (left_once active (chunks_from 0 all_chunks) (once_from 0 all_chunks));
      apart = All-take (λ c. All (λ d. d ≢ c) active) n spare (left_apart active (chunks_from 0 all_chunks));
    }
  where
    once_taken : (n : ℕ) (chunks : List ℕ) → AllPairs (λ c d. c ≢ d) chunks → AllPairs (λ c d. c ≢ d) (take n chunks)
    once_taken n chunks once i j d less inside same =
        let size = length-take n chunks in
        once i j d less (omega (arith, size)) (sym (get_or-take n chunks i d (omega (arith, size))) ∙ same ∙ get_or-take n chunks j d (omega (arith, size)))

-- there are enough of them
pub length-spare : (active : List ℕ) (n : ℕ) → n + length active ≤ 16 → length (take n (spare_chunks active)) ≡ n
length-spare active n few =
    length-take-le n (spare_chunks active) (omega (arith, length-left active (chunks_from 0 all_chunks) (once_from 0 all_chunks), length-from 0 all_chunks, sixteen))

-- what holds of the active chunks holds of those that a roll leaves
pub kept_holds : (P : ℕ → Type 0) (dropped : Option ℕ) (active : List ℕ) → All P active → All P (kept_chunks dropped active)
kept_holds P None active all = all
kept_holds P (Some chunk) active all = All-filter (λ c. not (eqb c chunk)) P active all

-- a list of one
one_item : (xs : List ℕ) (d : ℕ) → length xs ≡ 1 → xs ≡ get_or xs 0 d ∷ []
one_item [] d one = absurd (omega (arith, one))
one_item (x ∷ []) d one = refl
one_item (x ∷ y ∷ xs) d one = absurd (omega (arith, one))

-- the one fresh chunk of a roll
pub record IsFresh (active fresh : List ℕ) : Type 0 where
  pub inside : 0 < length fresh
  pub is : take 1 (spare_chunks active) ≡ get_or fresh 0 0 ∷ []
  pub small : get_or fresh 0 0 < 16

pub fresh_one : (active fresh : List ℕ) → fresh ≡ take 1 (spare_chunks active) → length active ≤ 8 → IsFresh active fresh
fresh_one active fresh is most =
    let one : length fresh ≡ 1 = ap length is ∙ length-spare active 1 (omega arith) in
    record {
      inside = omega (arith, one);
      is = sym is ∙ one_item fresh 0 one;
      small = subst (All (λ c. c < 16)) (sym is) (spare_taken active 1).small 0 0 (omega (arith, one));
    }
