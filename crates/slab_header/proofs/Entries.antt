-- The words of index entries.
use Rattle.std.proofs.Common.{◌≡◌, ◌+◌, ◌*◌, ◌/◌, ◌%◌, ◌^◌, ◌<◌, ◌≤◌, ◌≢◌, ℕ, Bool, true, false, true≢false, eqb, cond, sym, ap, ◌∙◌, ⊎_elim, arith}
use Rattle.std.proofs.lemmas.Bool.{cases_Bool, eq-eqb, eqb-true}
use Rattle.image_tables.specs.Forms.{IsIndexWord}
use Rattle.image_tables.specs.Tables.{bit_of_word}
use Rattle.slab_header.specs.declared.index.IndexEntry.{IndexEntry}
use Rattle.slab_header.specs.Index.{word_of_index, read_index, IsNoIndexWord, SaysOfIndex}

-- the lowest bit is a remainder
pub bit_of_word-lowest : (word : ℕ) → bit_of_word word 0 ≡ eqb (word % 2) 1
unfolding bit_of_word
bit_of_word-lowest word = let whole : word / 2 ^ 0 ≡ word = omega arith in ap (λ w. eqb (w % 2) 1) whole

-- the fields of an entry's word
low_bit : (live : Bool) (number : ℕ) → eqb ((cond live 1 0 + 2 ^ 16 * number) % 2) 1 ≡ live
low_bit true number = let odd : (1 + 2 ^ 16 * number) % 2 ≡ 1 = omega arith in ap (λ n. eqb n 1) odd
low_bit false number = let even : (0 + 2 ^ 16 * number) % 2 ≡ 0 = omega arith in ap (λ n. eqb n 1) even

high_bits : (live : Bool) (number : ℕ) → number < 2 ^ 16 → (cond live 1 0 + 2 ^ 16 * number) / 2 ^ 16 % 2 ^ 16 ≡ number
high_bits true number fits = omega arith
high_bits false number fits = omega arith

-- an entry is read off its word
pub read_index-word : (entry : IndexEntry) → entry.number < 2 ^ 16 → read_index (word_of_index entry) ≡ entry
read_index-word entry fits =
    let live = bit_of_word-lowest (word_of_index entry) ∙ low_bit entry.live entry.number in
    let number = high_bits entry.live entry.number fits in
    λ i. record { live = live i; number = number i }

-- what an entry's word says
flag_alone : (live : Bool) (number : ℕ) → (cond live 1 0 + 2 ^ 16 * number) % 2 ^ 16 ≤ 1
flag_alone true number = omega arith
flag_alone false number = omega arith

word_small : (live : Bool) (number : ℕ) → number < 2 ^ 16 → cond live 1 0 + 2 ^ 16 * number < 2 ^ 32
word_small true number fits = omega arith
word_small false number fits = omega arith

pub says_of_word : (word : ℕ) (entry : IndexEntry) → word ≡ word_of_index entry → entry.number < 2 ^ 16 → SaysOfIndex word entry
says_of_word word entry is fits =
    let inverse = ap read_index is ∙ read_index-word entry fits in
    record {
      form = record { flag = omega (arith, is, flag_alone entry.live entry.number); number = omega (arith, is, word_small entry.live entry.number fits) };
      live = ap (λ (e : IndexEntry). e.live) inverse;
      number = ap (λ (e : IndexEntry). e.number) inverse;
    }

-- a word of the form is that of what its fields say
pub word_of_read : (word : ℕ) → IsIndexWord word → word_of_index (read_index word) ≡ word
word_of_read word form = ap (λ b. cond b 1 0 + 2 ^ 16 * (word / 2 ^ 16 % 2 ^ 16)) (bit_of_word-lowest word) ∙ whole word form
  where
    whole : (word : ℕ) → IsIndexWord word → cond (eqb (word % 2) 1) 1 0 + 2 ^ 16 * (word / 2 ^ 16 % 2 ^ 16) ≡ word
    whole word form = ⊎_elim
        (λ (set : eqb (word % 2) 1 ≡ true). ap (λ b. cond b 1 0 + 2 ^ 16 * (word / 2 ^ 16 % 2 ^ 16)) set ∙ omega (arith, form.flag, form.number, eqb-true (word % 2) 1 set))
        (λ (clear : eqb (word % 2) 1 ≡ false).
        let even : word % 2 ≢ 1 = λ e. true≢false (sym (eq-eqb (word % 2) 1 e) ∙ clear) in
        ap (λ b. cond b 1 0 + 2 ^ 16 * (word / 2 ^ 16 % 2 ^ 16)) clear ∙ omega (arith, form.flag, form.number, even))
        (cases_Bool (eqb (word % 2) 1))

-- so one that is not has not the form
pub none_read : (word : ℕ) (read : IndexEntry) (back : ℕ) → read ≡ read_index word → back ≡ word_of_index read → ¬ (back ≡ word) → IsNoIndexWord word
none_read word read back is again differ form = differ (again ∙ ap word_of_index is ∙ word_of_read word form)
