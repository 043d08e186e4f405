-- The word of an entry has the form of one and says the entry, and a word of that form is its entry's.
use Rattle.std.proofs.Common.{◌≡◌, ◌≢◌, ◌⊎◌, ℕ, ◌+◌, ◌*◌, ◌/◌, ◌%◌, ◌^◌, ◌==◌, Bool, true, false, true≢false, cond, refl, sym, ap, ◌∙◌, subst, inl, inr, ⊎_elim, arith}
use Rattle.std.proofs.lemmas.Bool.{cases_Bool, cond-true, cond-false, eq-eqb, ne_eqb, eqb-true}
use Rattle.image_tables.specs.declared.entry.WalEntry.{WalEntry}
use Rattle.image_tables.specs.declared.entry.WalEntry.TheVariants.{Place, Move}
use Rattle.image_tables.specs.Forms.{IsPlaceWord, IsMoveWord, IsWalWord}
use Rattle.image_tables.specs.Tables.{entry_of_word}
use Rattle.attach_wal.specs.Entry.{entry_word, FitsWord, IsEntryWord}

-- 0 is the word of no entry
pub entry_word-some : (entry : WalEntry) → entry_word entry ≢ 0
entry_word-some (Place root at old place) e = omega (arith, e)
entry_word-some (Move from to) e = omega (arith, e)

-- the fields of a word that is no move entry's, and of one that is

unfoldable pub place_of : ℕ → WalEntry
place_of word = Place (word / 2 ^ 16 % 2 ^ 16) (word / 2 ^ 32) (word / 2 % 2 == 1) (word / 2 ^ 8 % 2 ^ 8)

unfoldable pub move_of : ℕ → WalEntry
move_of word = Move (word / 2 ^ 16 % 2 ^ 16) (word / 2 ^ 32 % 2 ^ 16)

pub says_place : (word : ℕ) → word / 2 ^ 2 % 2 ≡ 0 → entry_of_word word ≡ place_of word
unfolding entry_of_word place_of
says_place word bit = cond-false (word / 2 ^ 2 % 2 == 1) _ _ (ne_eqb (word / 2 ^ 2 % 2) 1 (λ e. omega (arith, e, bit)))

pub says_move : (word : ℕ) → word / 2 ^ 2 % 2 ≡ 1 → entry_of_word word ≡ move_of word
unfolding entry_of_word move_of
says_move word bit = cond-true (word / 2 ^ 2 % 2 == 1) _ _ (eq-eqb (word / 2 ^ 2 % 2) 1 bit)

-- an entry's word, by the entry

-- bit 1 of a place entry's word
old_bit : (old : Bool) (rest : ℕ) → ((1 + cond old 2 0 + 2 ^ 8 * rest) / 2 % 2 == 1) ≡ old
old_bit true rest = let one : (1 + 2 + 2 ^ 8 * rest) / 2 % 2 ≡ 1 = omega arith in ap (λ n. n == 1) one
old_bit false rest = let none : (1 + 0 + 2 ^ 8 * rest) / 2 % 2 ≡ 0 = omega arith in ap (λ n. n == 1) none

even : (old : Bool) → let bit : ℕ = cond old 2 0 in (bit ≡ 2) ⊎ (bit ≡ 0)
even true = inl refl
even false = inr refl

-- the fields of an entry's word are the entry's
pub entry_of_word-back : (entry : WalEntry) → FitsWord entry → entry_of_word (entry_word entry) ≡ entry
unfolding place_of move_of
entry_of_word-back (Place root at old place) (root_fits, place_fits, new) =
    let few = even old in
    let word = entry_word (Place root at old place) in
    let rest = place + 2 ^ 8 * root + 2 ^ 24 * at in
    let split : word ≡ 1 + cond old 2 0 + 2 ^ 8 * rest = omega arith in
    let was = ap (λ w. w / 2 % 2 == 1) split ∙ old_bit old rest in
    let bit : word / 2 ^ 2 % 2 ≡ 0 = omega (arith, few) in
    let root_is : word / 2 ^ 16 % 2 ^ 16 ≡ root = omega (arith, root_fits, place_fits, few) in
    let at_is : word / 2 ^ 32 ≡ at = omega (arith, root_fits, place_fits, few) in
    let place_is : word / 2 ^ 8 % 2 ^ 8 ≡ place = omega (arith, root_fits, place_fits, few) in
    says_place word bit ∙ (λ k. Place (root_is k) (at_is k) (was k) (place_is k))
entry_of_word-back (Move from to) (from_fits, to_fits) =
    let word = entry_word (Move from to) in
    let bit : word / 2 ^ 2 % 2 ≡ 1 = omega arith in
    let from_is : word / 2 ^ 16 % 2 ^ 16 ≡ from = omega (arith, from_fits, to_fits) in
    let to_is : word / 2 ^ 32 % 2 ^ 16 ≡ to = omega (arith, from_fits, to_fits) in
    says_move word bit ∙ (λ k. Move (from_is k) (to_is k))

-- and it has the form of one
pub IsWalWord-entry : (entry : WalEntry) → FitsWord entry → IsWalWord (entry_word entry)
IsWalWord-entry (Place root at true place) (root_fits, place_fits, new) = inl (record {
  some = omega arith;
  unused = omega arith;
  place = omega (arith, root_fits, place_fits);
  no_place = λ bit. absurd (omega (arith, bit));
})
IsWalWord-entry (Place root at false place) (root_fits, place_fits, new) = let none = new refl in inl (record {
  some = omega arith;
  unused = omega arith;
  place = omega (arith, root_fits, none);
  no_place = λ bit. omega (arith, root_fits, none);
})
IsWalWord-entry (Move from to) (from_fits, to_fits) = inr (record { flags = omega arith; small = omega (arith, from_fits, to_fits) })

-- a word of the form, by its entry

new_part : (word : ℕ) → (word / 2 % 2 == 1) ≡ false → word / 2 % 2 ≡ 0
new_part word clear =
    let zero_bit : word / 2 % 2 ≢ 1 = λ e. true≢false (sym (eq-eqb (word / 2 % 2) 1 e) ∙ clear) in
    omega (arith, zero_bit)

old_part : (word : ℕ) → cond (word / 2 % 2 == 1) 2 0 ≡ 2 * (word / 2 % 2)
old_part word = ⊎_elim
    (λ (set : (word / 2 % 2 == 1) ≡ true). ap (λ b. cond b 2 0) set ∙ omega (arith, eqb-true (word / 2 % 2) 1 set))
    (λ (clear : (word / 2 % 2 == 1) ≡ false). ap (λ b. cond b 2 0) clear ∙ omega (arith, new_part word clear))
    (cases_Bool (word / 2 % 2 == 1))

-- the word is that of the entry that its fields say
pub IsEntryWord-form : (word : ℕ) → IsWalWord word → IsEntryWord word (entry_of_word word)
unfolding place_of move_of
IsEntryWord-form word form = ⊎_elim
    (λ (place : IsPlaceWord word).
    let says = says_place word (omega (arith, place.unused)) in
    subst (IsEntryWord word) (sym says) (record {
      form = form;
      word = omega (arith, old_part word, place.some, place.unused);
      fits = (omega arith, place.place, λ new. place.no_place (new_part word new));
      says = says;
    }))
    (λ (move : IsMoveWord word).
    let says = says_move word (omega (arith, move.flags)) in
    subst (IsEntryWord word) (sym says) (record { form = form; word = omega (arith, move.flags, move.small); fits = (omega arith, omega arith); says = says }))
    form

-- an entry's word is that entry's
pub IsEntryWord-entry : (entry : WalEntry) → FitsWord entry → IsEntryWord (entry_word entry) entry
IsEntryWord-entry entry fits = record { form = IsWalWord-entry entry fits; word = refl; fits = fits; says = entry_of_word-back entry fits }
