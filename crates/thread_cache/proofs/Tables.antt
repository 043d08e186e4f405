-- The stacks that the lists of a table say.
use Rattle.std.proofs.Common.{◌≡◌, ◌≢◌, ℕ, ◌+◌, ◌*◌, ◌/◌, ◌%◌, ◌^◌, ◌<◌, ◌≤◌, ⊎_elim, Bool, true, false, eqb, ltb, not, ◌&&◌, List, [], ◌∷◌, Option, Some, None, length, get_or, set, replicate, refl, sym, ap, ◌∙◌, subst, arith}
use Rattle.std.proofs.lemmas.Bool.{cases_lt, cases_eq, lt-ltb, le-ltb, ltb-true, ltb-false, eq-eqb, ne_eqb, cond-true, cond-false, and_from, and_left, and_right}
use Rattle.std.proofs.lemmas.List.{get_or_read, set-get_or, get_or-set_same, get_or-set_other, get_or_past, get_or-replicate, length-set, length-replicate}
use Rattle.bit_words.specs.Numbers.{has, IsPut, IsLeastIn}
use Rattle.bit_words.proofs.Bits.{put_here, put_beside, has_in_word, has-zero, has-zeros}
use Rattle.std.specs.Int.{bit_at}
use Rattle.std.proofs.lemmas.Nat.Bits.{bit_at_above}
use Rattle.heap_model.specs.Placement.{no_stacks, with_stack, HasTop, AreDistinct}
use Rattle.std.specs.Option.{MatchOption}
use Rattle.thread_cache.specs.Stacks.{StackTable, stacks_of, WasEmpty, GaveTop, WereEmpty, GaveFirst}
use Rattle.thread_cache.specs.Kept.{table_of, IsNumberOf, IsKept}
use Rattle.heap_model.proofs.Distinct.{AreDistinct-none, IsOther, stack_here, stack_there, here_or_there}

-- the stack of a seat and class is that of its number
pub stack_at : (table : StackTable) (seat class : ℕ) → seat < 64 → class < 36 → stacks_of table seat class ≡ get_or table.lists (64 * class + seat) []
unfolding stacks_of
stack_at table seat class is_seat is_class =
    cond-true (ltb seat 64 && ltb class 36) (get_or table.lists (64 * class + seat) []) [] (and_from (ltb seat 64) (ltb class 36) (lt-ltb seat 64 is_seat) (lt-ltb class 36 is_class))

-- there is none of a seat or class past the last
pub no_seat : (table : StackTable) (seat class : ℕ) → 64 ≤ seat → stacks_of table seat class ≡ []
unfolding stacks_of
no_seat table seat class past = cond-false (ltb seat 64 && ltb class 36) (get_or table.lists (64 * class + seat) []) [] (and_left (ltb seat 64) (ltb class 36) (le-ltb seat 64 past))

pub no_class : (table : StackTable) (seat class : ℕ) → 36 ≤ class → stacks_of table seat class ≡ []
unfolding stacks_of
no_class table seat class past = cond-false (ltb seat 64 && ltb class 36) (get_or table.lists (64 * class + seat) []) [] (and_right (ltb seat 64) (ltb class 36) (le-ltb class 36 past))

-- a fact of each seat and class that holds of each with a stack, and past the last
pub by_range : (P : ℕ → ℕ → Type 0) → ((seat class : ℕ) → seat < 64 → class < 36 → P seat class) → ((seat class : ℕ) → 64 ≤ seat → P seat class) → ((seat class : ℕ) → 36 ≤ class → P seat class) → (seat class : ℕ) → P seat class
by_range P within past_seats past_classes seat class = ⊎_elim
    (λ (is_seat : seat < 64). ⊎_elim
    (λ (is_class : class < 36). within seat class is_seat is_class)
    (λ (past : 36 ≤ class). past_classes seat class past)
    (cases_lt class 36))
    (λ (past : 64 ≤ seat). past_seats seat class past)
    (cases_lt seat 64)

module _ {lists : List (List ℕ)} {table : StackTable} (is : table_of lists ≡ table) where
  -- the stack of a number
  pub stack_of_number : (number seat class : ℕ) → number ≡ 64 * class + seat → seat < 64 → class < 36 → stacks_of table seat class ≡ get_or lists number []
  stack_of_number number seat class at is_seat is_class =
      sym (ap (λ (t : StackTable). stacks_of t seat class) is) ∙ stack_at (table_of lists) seat class is_seat is_class ∙ ap (λ k. get_or lists k []) (sym at)

  -- a stack that is read
  pub stack_read : {number seat class : ℕ} → IsNumberOf number seat class → length lists ≡ 2304 → (stack : List ℕ) → stack ≡ get_or lists number stack → stacks_of table seat class ≡ stack
  stack_read {number} {seat} {class} at size stack read =
      stack_of_number number seat class at.value at.is_seat at.is_class ∙ sym (get_or_read lists number stack (omega (arith, at.value, at.is_seat, at.is_class)) read [])

  -- another list at a number is another stack of its seat and class
  pub stacks_after : {number seat class : ℕ} → IsNumberOf number seat class → length lists ≡ 2304 → (stack : List ℕ) → stacks_of (table_of (set lists number stack)) ≡ with_stack (stacks_of table) seat class stack
  stacks_after {number} {seat} {class} at size stack = λ i other c. each other c i
    where
      near : (other c : ℕ) → other < 64 → c < 36 → stacks_of (table_of (set lists number stack)) other c ≡ with_stack (stacks_of table) seat class stack other c
      near other c is_other is_c = ⊎_elim
          (λ (same : (other ≡ seat) × (c ≡ class)).
          stack_at (table_of (set lists number stack)) other c is_other is_c
          ∙ ap (λ k. get_or (set lists number stack) k []) (omega (arith, at.value, same.0, same.1))
          ∙ get_or-set_same lists number stack [] (omega (arith, at.value, at.is_seat, at.is_class))
          ∙ sym (stack_here (stacks_of table) seat class other c stack same.0 same.1))
          (λ (apart : IsOther seat class other c).
          let far : 64 * c + other ≢ number = λ e. apart.apart (omega (arith, at.value, at.is_seat)) (omega (arith, at.value, at.is_seat)) in
          stack_at (table_of (set lists number stack)) other c is_other is_c
          ∙ get_or-set_other lists number (64 * c + other) stack [] far
          ∙ sym (stack_of_number (64 * c + other) other c refl is_other is_c)
          ∙ sym (stack_there (stacks_of table) seat class other c stack apart))
          (here_or_there seat class other c)

      each : (other c : ℕ) → stacks_of (table_of (set lists number stack)) other c ≡ with_stack (stacks_of table) seat class stack other c
      each = by_range (λ other c. stacks_of (table_of (set lists number stack)) other c ≡ with_stack (stacks_of table) seat class stack other c)
          near
          (λ other c past. no_seat (table_of (set lists number stack)) other c past ∙ sym (no_seat table other c past) ∙ sym (stack_there (stacks_of table) seat class other c stack (record { apart = λ e _. absurd (omega (arith, at.is_seat)) })))
          (λ other c past. no_class (table_of (set lists number stack)) other c past ∙ sym (no_class table other c past) ∙ sym (stack_there (stacks_of table) seat class other c stack (record { apart = λ _ e. absurd (omega (arith, at.is_class)) })))

  -- a list that is put where it stands changes nothing
  pub table_same : {number seat class : ℕ} → IsNumberOf number seat class → length lists ≡ 2304 → (stack later : List ℕ) → stack ≡ get_or lists number stack → later ≡ stack → table_of (set lists number later) ≡ table
  table_same {number} at size stack later read same =
      ap (λ (xs : List ℕ). table_of (set lists number xs)) (same ∙ get_or_read lists number stack (omega (arith, at.value, at.is_seat, at.is_class)) read []) ∙ ap table_of (set-get_or lists number []) ∙ is

  module _ {seats : List ℕ} (kept : IsKept lists seats) where
    -- no address of the table stands in two places
    pub distinct_of : AreDistinct (stacks_of table)
    distinct_of = subst (λ (t : StackTable). AreDistinct (stacks_of t)) is kept.distinct

    -- what caches keep, after one stack and its bit were put
    pub IsKept-after : {number seat class : ℕ} → IsNumberOf number seat class → (later stack : List ℕ) (on : Bool) → IsPut seats number on later → on ≡ ltb 0 (length stack) →
        AreDistinct (with_stack (stacks_of table) seat class stack) → IsKept (set lists number stack) later
    IsKept-after {number} at later stack on put some distinct =
        let inside : number < length lists = omega (arith, kept.lists_size, at.value, at.is_seat, at.is_class) in
        record {
          lists_size = length-set lists number stack ∙ kept.lists_size;
          seats_size = put.size ∙ kept.seats_size;
          seats_are = λ k. ⊎_elim
              (λ (here : k ≡ number).
              ap (has later) here ∙ put_here put ∙ some ∙ sym (ap (λ j. ltb 0 (length (get_or (set lists number stack) j []))) here ∙ ap (λ (xs : List ℕ). ltb 0 (length xs)) (get_or-set_same lists number stack [] inside)))
              (λ (there : k ≢ number).
              put_beside put k there ∙ kept.seats_are k ∙ sym (ap (λ (xs : List ℕ). ltb 0 (length xs)) (get_or-set_other lists number k stack [] there)))
              (cases_eq k number);
          distinct = subst AreDistinct (sym (stacks_after at kept.lists_size stack)) distinct;
        }

    -- a stack whose bit is clear is empty
    pub none_by_bit : (seat class : ℕ) → seat < 64 → class < 36 → has seats (64 * class + seat) ≡ false → stacks_of table seat class ≡ []
    none_by_bit seat class is_seat is_class clear =
        stack_of_number (64 * class + seat) seat class refl is_seat is_class ∙ nil (get_or lists (64 * class + seat) []) (ltb-false 0 (length (get_or lists (64 * class + seat) [])) (sym (kept.seats_are (64 * class + seat)) ∙ clear))
      where
        nil : (xs : List ℕ) → length xs ≤ 0 → xs ≡ []
        nil [] none = refl
        nil (x ∷ xs) none = absurd (omega arith)

    -- one whose bit is set has a top
    pub top_by_bit : (seat class : ℕ) → seat < 64 → class < 36 → has seats (64 * class + seat) ≡ true → HasTop (stacks_of table) seat class
    top_by_bit seat class is_seat is_class found =
        top (get_or lists (64 * class + seat) []) (stack_of_number (64 * class + seat) seat class refl is_seat is_class) (ltb-true 0 (length (get_or lists (64 * class + seat) [])) (sym (kept.seats_are (64 * class + seat)) ∙ found))
      where
        top : (xs : List ℕ) → stacks_of table seat class ≡ xs → 0 < length xs → HasTop (stacks_of table) seat class
        top [] none some = absurd (omega arith)
        top (x ∷ xs) has some = record { top = x; rest = xs; is = has }

    -- all stacks of a class whose word is 0 are empty
    pub none_by_word : (class : ℕ) → class < 36 → get_or seats class 0 ≡ 0 → (seat : ℕ) → stacks_of table seat class ≡ []
    none_by_word class is_class zero seat = ⊎_elim
        (λ (is_seat : seat < 64).
        let place : (64 * class + seat) / 64 ≡ class = omega arith in
        none_by_bit seat class is_seat is_class (has-zero seats (64 * class + seat) (ap (λ k. get_or seats k 0) place ∙ zero)))
        (λ (past : 64 ≤ seat). no_seat table seat class past)
        (cases_lt seat 64)

    -- where a class's word has no bit from a seat on, the stacks from there on are empty
    pub none_from : (class seat : ℕ) → class < 36 → get_or seats class 0 < 2 ^ seat → (other : ℕ) → seat ≤ other → stacks_of table other class ≡ []
    none_from class seat is_class low other past = ⊎_elim
        (λ (is_seat : other < 64).
        let number = 64 * class + other in
        let word : number / 64 ≡ class = omega arith in
        let bit : number % 64 ≡ other = omega arith in
        none_by_bit other class is_seat is_class
        (has_in_word seats number (get_or seats class 0) (ap (λ k. get_or seats k 0) word) ∙ ap (λ b. eqb (bit_at (get_or seats class 0) b) 1) bit ∙ ap (λ b. eqb b 1) (bit_at_above (get_or seats class 0) seat other low past)))
        (λ (last : 64 ≤ other). no_seat table other class last)
        (cases_lt other 64)

    -- the least bit of a class's word is that of the seat that is stolen from
    pub steals : (class number seat : ℕ) → class < 36 → seat ≡ number % 64 → IsLeastIn seats (64 * class) 64 number → (result : Option ℕ) (new : StackTable) →
        MatchOption result (WasEmpty table seat class new) (λ at. GaveTop (stacks_of table) seat class at (stacks_of new)) → MatchOption result (WereEmpty table class new) (λ at. GaveFirst (stacks_of table) class at (stacks_of new))
    steals class number seat is_class seat_is least None new was_empty =
        let there : number ≡ 64 * class + seat = omega (arith, least.low, least.high) in
        let top = (top_by_bit seat class (omega arith) is_class (ap (has seats) (sym there) ∙ least.is)).is in
        let none = was_empty.empty in
        absurd (cc)
    steals class number seat is_class seat_is least (Some at) new gave =
        record {
          stacked = record {
            seat = seat;
            first = record {
              top = gave.top;
              first = λ other lower has_top.
                  let low : 64 * class + other < number = omega (arith, least.low, least.high) in
                  let none = none_by_bit other class (omega arith) is_class (least.least (64 * class + other) (omega arith) low) in
                  let top = has_top.is in
                  absurd (cc);
            };
          };
          pop = gave.pop;
        }

-- whether a list has an address, by its length
pub some_by_length : (n : ℕ) → not (eqb n 0) ≡ ltb 0 n
some_by_length n = ⊎_elim
    (λ (none : n ≡ 0). ap not (eq-eqb n 0 none) ∙ sym (le-ltb 0 n (omega arith)))
    (λ (some : n ≢ 0). ap not (ne_eqb n 0 some) ∙ sym (lt-ltb 0 n (omega arith)))
    (cases_eq n 0)

-- empty stacks

empty_lists : (n number : ℕ) → get_or {A = List ℕ} (replicate n []) number [] ≡ []
empty_lists n number = ⊎_elim
    (λ (within : number < n). get_or-replicate n number [] [] within)
    (λ (past : n ≤ number). get_or_past (replicate n []) number [] (omega (arith, length-replicate {A = List ℕ} n [])))
    (cases_lt number n)

-- a table of empty lists says that all stacks are empty
pub stacks-empty : (n : ℕ) → stacks_of (table_of (replicate n [])) ≡ no_stacks
stacks-empty n = λ i seat class. each seat class i
  where
    each : (seat class : ℕ) → stacks_of (table_of (replicate n [])) seat class ≡ []
    each = by_range (λ seat class. stacks_of (table_of (replicate n [])) seat class ≡ [])
        (λ seat class is_seat is_class. stack_at (table_of (replicate n [])) seat class is_seat is_class ∙ empty_lists n (64 * class + seat))
        (λ seat class past. no_seat (table_of (replicate n [])) seat class past)
        (λ seat class past. no_class (table_of (replicate n [])) seat class past)

IsKept-none : (n m : ℕ) → n ≡ 2304 → m ≡ 36 → IsKept (replicate n []) (replicate m 0)
IsKept-none n m stacks classes = record {
  lists_size = length-replicate {A = List ℕ} n [] ∙ stacks;
  seats_size = length-replicate {A = ℕ} m 0 ∙ classes;
  seats_are = λ number. has-zeros m number ∙ sym (ap (λ (xs : List ℕ). ltb 0 (length xs)) (empty_lists n number));
  distinct = subst AreDistinct (sym (stacks-empty n)) AreDistinct-none;
}

-- caches of empty stacks
pub IsKept-empty : (n m : ℕ) (lists : List (List ℕ)) (seats : List ℕ) → lists ≡ replicate n [] → seats ≡ replicate m 0 → n ≡ 2304 → m ≡ 36 → IsKept lists seats
IsKept-empty n m lists seats lists_are seats_are stacks classes = rw (lists_are, seats_are) (IsKept-none n m stacks classes)
