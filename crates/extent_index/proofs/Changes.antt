-- An index after a whole run was taken out, and after one was put in.
use Rattle.std.proofs.Common.{◌≡◌, ◌≢◌, ℕ, ◌+◌, ◌-◌, ◌*◌, ◌<◌, ◌≤◌, ◌⊎◌, ◌↔◌, ⊎_elim, inl, inr, Bool, true, false, ltb, eqb, ◌&&◌, List, length, get_or, set, replicate, refl, sym, ap, ◌∙◌, arith}
use Rattle.std.proofs.lemmas.Bool.{cases_lt, cases_eq, eq-eqb, eqb-true, ne_eqb, lt-ltb, and_from, and_parts, and_right, both_ways, false≢true, true_from_ne_false, false_from_ne_true}
use Rattle.std.proofs.lemmas.List.{get_or-set_same, get_or-set_other, length-set, length-replicate}
use Rattle.bit_words.specs.Numbers.{has, IsPut, HasNoneIn}
use Rattle.bit_words.proofs.Bits.{put_here, put_beside, get_or-zeros, has-zeros}
use Rattle.extent_index.specs.FreeSet.{FreeSet, IsFree}
use Rattle.extent_index.specs.Runs.{words_of, run_number, set_of, HaveSizes, IsIndex, IsRoomFor}
use Rattle.extent_index.proofs.Members.{AreRuns, run_of, free_by, in_run, free_in, granules_of}
use Rattle.extent_index.proofs.Numbers.{enough_words, same_run}

-- one number of the list is another
pub record IsReplaced (old : List ℕ) (at value : ℕ) (new : List ℕ) : Type 0 where
  pub size : length new ≡ length old
  pub here : get_or new at 0 ≡ value
  pub others : (i : ℕ) → i ≢ at → get_or new i 0 ≡ get_or old i 0

pub IsReplaced-set : (old : List ℕ) (at value : ℕ) → at < length old → IsReplaced old at value (set old at value)
IsReplaced-set old at value inside = record {
  size = length-set old at value;
  here = get_or-set_same old at value 0 inside;
  others = λ i apart. get_or-set_other old at i value 0 apart;
}

-- whether a length is that of a run
abbrev is_length : ℕ → ℕ → Bool
is_length n value = ltb 0 n && eqb value n

is_length-same : (n value : ℕ) → 0 < n → value ≡ n → is_length n value ≡ true
is_length-same n value some same = and_from (ltb 0 n) (eqb value n) (lt-ltb 0 n some) (eq-eqb value n same)

is_length-other : (n value : ℕ) → value ≢ n → is_length n value ≡ false
is_length-other n value apart = and_right (ltb 0 n) (eqb value n) (ne_eqb value n apart)

is_length-none : (n value : ℕ) → value ≡ 0 → is_length n value ≡ false
is_length-none n value none = ⊎_elim
    (λ (zero : n ≡ 0). ap (λ m. ltb 0 m && eqb value m) zero)
    (λ (some : n ≢ 0). is_length-other n value (λ same. some (omega arith)))
    (cases_eq n 0)

-- the starts, after one run's bit and length changed
starts_after : {granules s n value : ℕ} {on : Bool} {starts starts' length_at length_at' : List ℕ} →
    ((m t : ℕ) → m < granules → t < 64 * words_of granules → has starts (run_number granules m t) ≡ is_length m (get_or length_at t 0)) →
    IsPut starts (run_number granules n s) on starts' → IsReplaced length_at s value length_at' → s < granules → on ≡ is_length n value → ((m : ℕ) → m ≢ n → is_length m (get_or length_at s 0) ≡ is_length m value) →
    (m t : ℕ) → m < granules → t < 64 * words_of granules → has starts' (run_number granules m t) ≡ is_length m (get_or length_at' t 0)
starts_after {granules} {s} {n} {value} {on} {starts} {starts'} {length_at} {length_at'} told put replaced inside here there m t below within =
    let inside' : s < 64 * words_of granules = omega (arith, enough_words granules) in
    ⊎_elim
    (λ (same : run_number granules m t ≡ run_number granules n s).
    let is = same_run granules m t n s within inside' same in
    ap (has starts') same
    ∙ put_here put
    ∙ here
    ∙ ap (λ k. is_length k value) (sym is.0)
    ∙ ap (is_length m) (sym replaced.here ∙ ap (λ i. get_or length_at' i 0) (sym is.1)))
    (λ (apart : run_number granules m t ≢ run_number granules n s).
    put_beside put (run_number granules m t) apart
    ∙ told m t below within
    ∙ ⊎_elim
    (λ (at : t ≡ s).
    let other : m ≢ n = λ e. apart (ap (λ k. run_number granules k t) e ∙ ap (run_number granules n) at) in
    ap (λ i. is_length m (get_or length_at i 0)) at
    ∙ there m other
    ∙ ap (is_length m) (sym replaced.here ∙ ap (λ i. get_or length_at' i 0) (sym at)))
    (λ (elsewhere : t ≢ s). ap (is_length m) (sym (replaced.others t elsewhere)))
    (cases_eq t s))
    (cases_eq (run_number granules m t) (run_number granules n s))

-- a run that is left is not the one that was taken, and as it was
left_of : {s : ℕ} {length_at length_at' : List ℕ} → IsReplaced length_at s 0 length_at' → (t : ℕ) → 0 < get_or length_at' t 0 → (t ≢ s) × (get_or length_at' t 0 ≡ get_or length_at t 0)
left_of {s} {length_at} {length_at'} replaced t some =
    let apart : t ≢ s = λ same. absurd (omega (arith, replaced.here, ap (λ i. get_or length_at' i 0) same)) in
    (apart, replaced.others t apart)

-- whether the row of a length has a number left
pub record IsLeft (granules n : ℕ) (starts : List ℕ) (left : Bool) : Type 0 where
  pub none : left ≡ false → (t : ℕ) → t < 64 * words_of granules → has starts (run_number granules n t) ≡ false
  pub some : left ≡ true → ¬ ((t : ℕ) → t < 64 * words_of granules → has starts (run_number granules n t) ≡ false)

-- whether the words of a length have a number tells it
pub is_left : {granules n : ℕ} {starts : List ℕ} (row end : ℕ) (left : Bool) → row ≡ words_of granules * n → end ≡ row + words_of granules → (left ≡ false) ↔ HasNoneIn starts (64 * row) (64 * end - 64 * row) → IsLeft granules n starts left
is_left {granules} {n} {starts} row end left row_is end_is tells = record {
  none = λ no' t inside. (tells.0 no').none (run_number granules n t) (omega arith) (omega arith);
  some = λ yes' all.
      both_ways left (tells.1 (record {
        none = λ k low high.
            let number : run_number granules n (k - 64 * row) ≡ k = omega arith in
            sym (ap (has starts) number) ∙ all (k - 64 * row) (omega arith);
      })) yes';
}

-- no run has one of the granules from s on or lies beside them
pub record IsClear (granules : ℕ) (length_at : List ℕ) (s n : ℕ) : Type 0 where
  pub low : 4 ≤ s
  pub high : s + n ≤ granules
  pub none : get_or length_at s 0 ≡ 0
  pub apart : (t : ℕ) → 0 < get_or length_at t 0 → (t + get_or length_at t 0 < s) ⊎ (s + n < t)

-- the tables stay as long
sizes_after : {granules k s e n v w : ℕ} {on left : Bool} {starts lengths length_at start_at starts' lengths' length_at' start_at' : List ℕ} → HaveSizes granules starts lengths length_at start_at →
    IsPut starts k on starts' → IsReplaced length_at s v length_at' → IsReplaced start_at e w start_at' → IsPut lengths n left lengths' → HaveSizes granules starts' lengths' length_at' start_at'
sizes_after sizes put replaced ended put_length = record {
  starts_size = put.size ∙ sizes.starts_size;
  lengths_size = put_length.size ∙ sizes.lengths_size;
  length_at_size = replaced.size ∙ sizes.length_at_size;
  start_at_size = ended.size ∙ sizes.start_at_size;
}

-- an index after a run was taken out
pub IsIndex-removed : {granules s n : ℕ} {left : Bool} {starts lengths length_at start_at : List ℕ} (starts' lengths' length_at' start_at' : List ℕ) →
    IsIndex granules starts lengths length_at start_at → 0 < n → get_or length_at s 0 ≡ n →
    IsReplaced length_at s 0 length_at' → IsReplaced start_at (s + n - 1) 0 start_at' → IsPut starts (run_number granules n s) false starts' → IsLeft granules n starts' left → IsPut lengths n left lengths' →
    IsIndex granules starts' lengths' length_at' start_at'
IsIndex-removed {granules} {s} {n} {left} {starts} {lengths} {length_at} {start_at} starts' lengths' length_at' start_at' index some is replaced ended put rest put_length =
    let some' : 0 < get_or length_at s 0 = omega arith in
    let told = starts_after index.starts_are put replaced (omega (arith, index.high s some')) (sym (is_length-none n 0 refl)) (λ m other. is_length-other m (get_or length_at s 0) (λ e. other (omega (arith, e))) ∙ sym (is_length-none m 0 refl)) in
    let same : (t : ℕ) → 0 < get_or length_at' t 0 → 0 < get_or length_at t 0 = λ t more. omega (arith, left_of replaced t more) in
    let below : n < granules = omega (arith, index.low s some', index.high s some') in
    let kept : (e : ℕ) → 0 < get_or start_at' e 0 → (get_or start_at' e 0 ≡ get_or start_at e 0) × (get_or length_at' (get_or start_at' e 0) 0 ≡ get_or length_at (get_or start_at e 0) 0) = λ e more.
    let away : e ≢ s + n - 1 = λ at. absurd (omega (arith, ended.here, ap (λ i. get_or start_at' i 0) at)) in
    let first : get_or start_at' e 0 ≡ get_or start_at e 0 = ended.others e away in
    let apart : get_or start_at e 0 ≢ s = λ at. away (omega (arith, index.reach e (omega (arith, first)), ap (λ i. get_or length_at i 0) at)) in
    (first, ap (λ i. get_or length_at' i 0) first ∙ replaced.others (get_or start_at e 0) apart) in
    record {
      least = index.least;
      most = index.most;
      sizes = sizes_after index.sizes put replaced ended put_length;
      low = λ t more. index.low t (same t more);
      high = λ t more. omega (arith, left_of replaced t more, index.high t (same t more));
      apart = λ t u lower more more'. omega (arith, left_of replaced t more, index.apart t u lower (same t more) (same u more'));
      ends = λ t more.
          let was = left_of replaced t more in
          let last : t + get_or length_at' t 0 - 1 ≡ t + get_or length_at t 0 - 1 = ap (λ m. t + m - 1) was.1 in
          let apart : t + get_or length_at t 0 - 1 ≢ s + n - 1 = λ e. ⊎_elim
          (λ (lower : t < s). absurd (omega (arith, e, index.apart t s lower (same t more) some')))
          (λ (higher : s ≤ t). absurd (omega (arith, e, was.0, index.apart s t (omega (arith, was.0)) some' (same t more))))
          (cases_lt t s) in
          ap (λ e. get_or start_at' e 0) last ∙ ended.others (t + get_or length_at t 0 - 1) apart ∙ index.ends t (same t more);
      begins = λ e more. omega (arith, kept e more, index.begins e (omega (arith, kept e more)));
      reach = λ e more. omega (arith, kept e more, index.reach e (omega (arith, kept e more)));
      starts_are = told;
      some = λ t more.
          let was = left_of replaced t more in
          ⊎_elim
          (λ (one : get_or length_at' t 0 ≡ n).
          let inside : t < 64 * words_of granules = omega (arith, index.high t (same t more), same t more, enough_words granules) in
          ap (has lengths') one
          ∙ put_here put_length
          ∙ true_from_ne_false left (λ none. false≢true (sym (rest.none none t inside) ∙ told n t below inside ∙ is_length-same n (get_or length_at' t 0) some one)))
          (λ (other : get_or length_at' t 0 ≢ n). put_beside put_length (get_or length_at' t 0) other ∙ ap (has lengths) was.1 ∙ index.some t (same t more))
          (cases_eq (get_or length_at' t 0) n);
      none = λ m more all. ⊎_elim
          (λ (one : m ≡ n).
          ap (has lengths') one
          ∙ put_here put_length
          ∙ false_from_ne_true left (λ is_left. rest.some is_left (λ t inside. false_from_ne_true (has starts' (run_number granules n t)) (λ found.
          let is_run : get_or length_at' t 0 ≡ n = eqb-true (get_or length_at' t 0) n (and_parts (ltb 0 n) (eqb (get_or length_at' t 0) n) (sym (told n t below inside) ∙ found)).1 in
          all t (is_run ∙ sym one)))))
          (λ (other : m ≢ n).
          put_beside put_length m other
          ∙ index.none m more (λ t is_run. ⊎_elim
          (λ (at : t ≡ s). other (sym is_run ∙ ap (λ i. get_or length_at i 0) at ∙ is))
          (λ (elsewhere : t ≢ s). all t (replaced.others t elsewhere ∙ is_run))
          (cases_eq t s)))
          (cases_eq m n);
    }

-- an index after a run was put in
pub IsIndex-inserted : {granules s n : ℕ} {starts lengths length_at start_at : List ℕ} (starts' lengths' length_at' start_at' : List ℕ) →
    IsIndex granules starts lengths length_at start_at → 0 < n → IsClear granules length_at s n →
    IsReplaced length_at s n length_at' → IsReplaced start_at (s + n - 1) s start_at' → IsPut starts (run_number granules n s) true starts' → IsPut lengths n true lengths' →
    IsIndex granules starts' lengths' length_at' start_at'
IsIndex-inserted {granules} {s} {n} {starts} {lengths} {length_at} {start_at} starts' lengths' length_at' start_at' index some clear replaced ended put put_length =
    let told = starts_after index.starts_are put replaced (omega (arith, clear.high)) (sym (is_length-same n n some refl)) (λ m other. is_length-none m (get_or length_at s 0) clear.none ∙ sym (is_length-other m n (λ e. other (sym e)))) in
    let which : (t : ℕ) → 0 < get_or length_at' t 0 → ((t ≡ s) × (get_or length_at' t 0 ≡ n)) ⊎ ((t ≢ s) × (get_or length_at' t 0 ≡ get_or length_at t 0)) = λ t more. ⊎_elim
    (λ (at : t ≡ s). inl (at, ap (λ i. get_or length_at' i 0) at ∙ replaced.here))
    (λ (elsewhere : t ≢ s). inr (elsewhere, replaced.others t elsewhere))
    (cases_eq t s) in
    let kept : (e : ℕ) → 0 < get_or start_at' e 0 → (0 < get_or length_at' (get_or start_at' e 0) 0) × (get_or start_at' e 0 + get_or length_at' (get_or start_at' e 0) 0 ≡ e + 1) = λ e more. ⊎_elim
    (λ (at : e ≡ s + n - 1).
    let first : get_or start_at' e 0 ≡ s = ap (λ i. get_or start_at' i 0) at ∙ ended.here in
    let size : get_or length_at' (get_or start_at' e 0) 0 ≡ n = ap (λ i. get_or length_at' i 0) first ∙ replaced.here in
    (omega arith, omega arith))
    (λ (elsewhere : e ≢ s + n - 1).
    let first : get_or start_at' e 0 ≡ get_or start_at e 0 = ended.others e elsewhere in
    let begun : 0 < get_or length_at (get_or start_at e 0) 0 = index.begins e (omega arith) in
    let apart : get_or start_at e 0 ≢ s = λ at. absurd (omega (arith, begun, ap (λ i. get_or length_at i 0) at, clear.none)) in
    let size : get_or length_at' (get_or start_at' e 0) 0 ≡ get_or length_at (get_or start_at e 0) 0 = ap (λ i. get_or length_at' i 0) first ∙ replaced.others (get_or start_at e 0) apart in
    (omega arith, omega (arith, index.reach e (omega arith))))
    (cases_eq e (s + n - 1)) in
    record {
      least = index.least;
      most = index.most;
      sizes = sizes_after index.sizes put replaced ended put_length;
      low = λ t more. ⊎_elim
          (λ (at : (t ≡ s) × (get_or length_at' t 0 ≡ n)). omega (arith, at, clear.low))
          (λ (was : (t ≢ s) × (get_or length_at' t 0 ≡ get_or length_at t 0)). index.low t (omega (arith, was)))
          (which t more);
      high = λ t more. ⊎_elim
          (λ (at : (t ≡ s) × (get_or length_at' t 0 ≡ n)). omega (arith, at, clear.high))
          (λ (was : (t ≢ s) × (get_or length_at' t 0 ≡ get_or length_at t 0)). omega (arith, was, index.high t (omega (arith, was))))
          (which t more);
      apart = λ t u lower more more'. ⊎_elim
          (λ (at : (t ≡ s) × (get_or length_at' t 0 ≡ n)). ⊎_elim
          (λ (same : (u ≡ s) × (get_or length_at' u 0 ≡ n)). absurd (omega (arith, at, same)))
          (λ (was : (u ≢ s) × (get_or length_at' u 0 ≡ get_or length_at u 0)). ⊎_elim
          (λ (under : u + get_or length_at u 0 < s). absurd (omega (arith, at, under)))
          (λ (over : s + n < u). omega (arith, at, over))
          (clear.apart u (omega (arith, was))))
          (which u more'))
          (λ (was : (t ≢ s) × (get_or length_at' t 0 ≡ get_or length_at t 0)). ⊎_elim
          (λ (at : (u ≡ s) × (get_or length_at' u 0 ≡ n)). ⊎_elim
          (λ (under : t + get_or length_at t 0 < s). omega (arith, at, was, under))
          (λ (over : s + n < t). absurd (omega (arith, at, over)))
          (clear.apart t (omega (arith, was))))
          (λ (was' : (u ≢ s) × (get_or length_at' u 0 ≡ get_or length_at u 0)). omega (arith, was, was', index.apart t u lower (omega (arith, was)) (omega (arith, was'))))
          (which u more'))
          (which t more);
      ends = λ t more. ⊎_elim
          (λ (at : (t ≡ s) × (get_or length_at' t 0 ≡ n)).
          let last : t + get_or length_at' t 0 - 1 ≡ s + n - 1 = omega (arith, at) in
          ap (λ e. get_or start_at' e 0) last ∙ ended.here ∙ sym at.0)
          (λ (was : (t ≢ s) × (get_or length_at' t 0 ≡ get_or length_at t 0)).
          let more_then : 0 < get_or length_at t 0 = omega (arith, was) in
          let last : t + get_or length_at' t 0 - 1 ≡ t + get_or length_at t 0 - 1 = ap (λ m. t + m - 1) was.1 in
          let apart : t + get_or length_at t 0 - 1 ≢ s + n - 1 = λ e. ⊎_elim
          (λ (under : t + get_or length_at t 0 < s). absurd (omega (arith, e, under)))
          (λ (over : s + n < t). absurd (omega (arith, e, over)))
          (clear.apart t more_then) in
          ap (λ e. get_or start_at' e 0) last ∙ ended.others (t + get_or length_at t 0 - 1) apart ∙ index.ends t more_then)
          (which t more);
      begins = λ e more. (kept e more).0;
      reach = λ e more. (kept e more).1;
      starts_are = told;
      some = λ t more. ⊎_elim
          (λ (one : get_or length_at' t 0 ≡ n). ap (has lengths') one ∙ put_here put_length)
          (λ (other : get_or length_at' t 0 ≢ n). ⊎_elim
          (λ (at : (t ≡ s) × (get_or length_at' t 0 ≡ n)). absurd (other at.1))
          (λ (was : (t ≢ s) × (get_or length_at' t 0 ≡ get_or length_at t 0)). put_beside put_length (get_or length_at' t 0) other ∙ ap (has lengths) was.1 ∙ index.some t (omega (arith, was)))
          (which t more))
          (cases_eq (get_or length_at' t 0) n);
      none = λ m more all.
          let other : m ≢ n = λ e. all s (replaced.here ∙ sym e) in
          put_beside put_length m other
          ∙ index.none m more (λ t is_run. ⊎_elim
          (λ (at : t ≡ s). absurd (omega (arith, is_run, ap (λ i. get_or length_at i 0) at, clear.none)))
          (λ (elsewhere : t ≢ s). all t (replaced.others t elsewhere ∙ is_run))
          (cases_eq t s));
    }

-- the granules after a run was taken out
pub free_removed : {granules s n : ℕ} {length_at length_at' : List ℕ} {set : FreeSet} → set_of granules length_at ≡ set → AreRuns granules length_at → AreRuns granules length_at' → 0 < n → get_or length_at s 0 ≡ n → IsReplaced length_at s 0 length_at' →
    (k : ℕ) → IsFree (set_of granules length_at') k ↔ (IsFree set k × ((k < s) ⊎ (s + n ≤ k)))
free_removed {granules} {s} {n} {length_at} {length_at'} {set} view are are' some is replaced k = (
  λ free.
      let run = in_run granules length_at' k free in
      let was = left_of replaced run.start (omega (arith, run.low, run.high)) in
      let more : 0 < get_or length_at run.start 0 = omega (arith, run.low, run.high, was) in (
        free_by view are run.start k run.low (omega (arith, run.high, was)),
        ⊎_elim
            (λ (lower : run.start < s). inl (omega (arith, run.high, was, are.apart run.start s lower more (omega arith))))
            (λ (higher : s ≤ run.start). inr (omega (arith, run.low, are.apart s run.start (omega (arith, was)) (omega arith) more)))
            (cases_lt run.start s),
      ),
  λ h.
      let run = run_of view are k h.0 in
      let apart : run.start ≢ s = λ at. ⊎_elim
      (λ (lower : k < s). absurd (omega (arith, run.low)))
      (λ (higher : s + n ≤ k). absurd (omega (arith, run.high, ap (λ i. get_or length_at i 0) at)))
      h.1 in
      free_in granules length_at' run.start k are' run.low (omega (arith, run.high, replaced.others run.start apart)),
)

-- and after one was put in
pub free_inserted : {granules s n : ℕ} {length_at length_at' : List ℕ} {set : FreeSet} → set_of granules length_at ≡ set → AreRuns granules length_at → AreRuns granules length_at' → get_or length_at s 0 ≡ 0 → IsReplaced length_at s n length_at' →
    (k : ℕ) → IsFree (set_of granules length_at') k ↔ (IsFree set k ⊎ ((s ≤ k) × (k < s + n)))
free_inserted {granules} {s} {n} {length_at} {length_at'} {set} view are are' none replaced k = (
  λ free.
      let run = in_run granules length_at' k free in
      ⊎_elim
      (λ (at : run.start ≡ s). inr (omega (arith, run.low), omega (arith, run.high, replaced.here, ap (λ i. get_or length_at' i 0) at)))
      (λ (elsewhere : run.start ≢ s). inl (free_by view are run.start k run.low (omega (arith, run.high, replaced.others run.start elsewhere))))
      (cases_eq run.start s),
  λ h. ⊎_elim
      (λ (free : IsFree set k).
      let run = run_of view are k free in
      let apart : run.start ≢ s = λ at. absurd (omega (arith, run.low, run.high, ap (λ i. get_or length_at i 0) at, none)) in
      free_in granules length_at' run.start k are' run.low (omega (arith, run.high, replaced.others run.start apart)))
      (λ (here : (s ≤ k) × (k < s + n)). free_in granules length_at' s k are' here.0 (omega (arith, here, replaced.here)))
      h,
)

-- where there is room for granules, no run has one of them or lies beside them
pub is_clear : {granules s n : ℕ} {length_at : List ℕ} {set : FreeSet} → set_of granules length_at ≡ set → AreRuns granules length_at → 0 < n → IsRoomFor set s n → IsClear granules length_at s n
is_clear {granules} {s} {n} {length_at} {set} view are some room =
    let first = room.held.each s (omega arith) (omega arith) in
    let last = room.held.each (s + n - 1) (omega arith) (omega arith) in
    let none : get_or length_at s 0 ≡ 0 = ⊎_elim
    (λ (zero : get_or length_at s 0 ≡ 0). zero)
    (λ (more : get_or length_at s 0 ≢ 0). absurd (first.2 (free_by view are s s (omega arith) (omega arith))))
    (cases_eq (get_or length_at s 0) 0) in
    record {
      low = first.0;
      high = omega (arith, last.1, granules_of granules length_at view);
      none = none;
      apart = λ t more. ⊎_elim
          (λ (lower : t < s). ⊎_elim
          (λ (under : t + get_or length_at t 0 < s). inl under)
          (λ (meets : s ≤ t + get_or length_at t 0). absurd (room.before some (s - 1) (omega arith) (free_by view are t (s - 1) (omega arith) (omega arith))))
          (cases_lt (t + get_or length_at t 0) s))
          (λ (higher : s ≤ t). ⊎_elim
          (λ (over : s + n < t). inr over)
          (λ (inside : t ≤ s + n). ⊎_elim
          (λ (within : t < s + n). absurd ((room.held.each t higher within).2 (free_by view are t t (omega arith) (omega arith))))
          (λ (beside : s + n ≤ t). absurd (room.behind some (free_by view are t (s + n) (omega arith) (omega arith))))
          (cases_lt t (s + n)))
          (cases_lt (s + n) t))
          (cases_lt t s);
    }

-- an index with no run
pub IsIndex-full : (granules : ℕ) → 16 ≤ granules → granules ≤ 4096 →
    IsIndex granules (replicate (words_of granules * granules) 0) (replicate (words_of granules) 0) (replicate granules 0) (replicate granules 0)
IsIndex-full granules least most =
    let zeros = get_or-zeros granules in
    record {
      least = least;
      most = most;
      sizes = record {
        starts_size = length-replicate {A = ℕ} (words_of granules * granules) 0;
        lengths_size = length-replicate {A = ℕ} (words_of granules) 0;
        length_at_size = length-replicate {A = ℕ} granules 0;
        start_at_size = length-replicate {A = ℕ} granules 0;
      };
      low = λ s more. absurd (omega (arith, zeros s));
      high = λ s more. absurd (omega (arith, zeros s));
      apart = λ s t lower more more'. absurd (omega (arith, zeros s));
      ends = λ s more. absurd (omega (arith, zeros s));
      begins = λ e more. absurd (omega (arith, zeros e));
      reach = λ e more. absurd (omega (arith, zeros e));
      starts_are = λ n s below inside. has-zeros (words_of granules * granules) (run_number granules n s) ∙ sym (is_length-none n (get_or {A = ℕ} (replicate granules 0) s 0) (zeros s));
      some = λ s more. absurd (omega (arith, zeros s));
      none = λ n more all. has-zeros (words_of granules) n;
    }

-- where no granule is free
pub none_free : (granules k : ℕ) → ¬ (IsFree (set_of granules (replicate granules 0)) k)
none_free granules k free =
    let run = in_run granules (replicate granules 0) k free in
    absurd (omega (arith, run.low, run.high, get_or-zeros granules run.start))
