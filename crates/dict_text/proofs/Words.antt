-- The words of a value in a line, one by one.
use Rattle.std.proofs.Common.{◌≡◌, ℕ, ◌+◌, ◌<◌, ◌^◌, List, [], ◌∷◌, ◌++◌, length, refl, sym, ◌∙◌, ap, subst, arith, length-append}
use Rattle.std.specs.Prelude.{decimal}
use Rattle.std.specs.List.{All}
use Rattle.std.proofs.lemmas.Grind.{flat_map-append}
use Rattle.std.proofs.lemmas.List.{append_assoc, append-nil}
use Rattle.std.proofs.lemmas.List.Elements.{All-head, All-tail, All-push}
use Rattle.trace_text.specs.Numbers.{BeginsWithoutDigit, IsNumberThen}
use Rattle.trace_text.proofs.Numbers.{same_number}
use Rattle.attach_dict.specs.Dict.{most_values}
use Rattle.dict_text.specs.Script.{words_text, IsValue}
use Rattle.dict_text.specs.Lines.{IsWordThen}

-- a number of 64 bits
abbrev Fits : ℕ → Type 0
Fits word = word < 2 ^ 64

-- words begin with no digit
pub no_digit : (words : List ℕ) → BeginsWithoutDigit (words_text words)
no_digit [] = tt
no_digit (word ∷ words) = λ r. omega (arith, r.0)

-- the first word
first_word : (word : ℕ) (words : List ℕ) → All Fits (word ∷ words) → IsWordThen (words_text (word ∷ words)) word (words_text words)
first_word word words each = record { is = refl; fits = All-head Fits word words each; ends = no_digit words }

-- a text has one word at its front
one_word : {text : List ℕ} {v w : ℕ} {x y : List ℕ} → IsWordThen text v x → IsWordThen text w y → (v ≡ w) × (x ≡ y)
one_word {text} {v} {w} {x} {y} p q =
    let both : 32 ∷ (decimal v ++ x) ≡ 32 ∷ (decimal w ++ y) = sym p.is ∙ q.is in
    let same : decimal v ++ x ≡ decimal w ++ y = cc in
    let first : IsNumberThen (decimal v ++ x) v x = record { is = refl; fits = p.fits; ends = p.ends } in
    let other : IsNumberThen (decimal v ++ x) w y = record { is = same; fits = q.fits; ends = q.ends } in
    same_number first other

-- words are said in one way
pub same_words : (v w : List ℕ) → All Fits v → All Fits w → words_text v ≡ words_text w → v ≡ w
same_words [] [] p q same = refl
same_words [] (b ∷ w) p q same = cc
same_words (a ∷ v) [] p q same = cc
same_words (a ∷ v) (b ∷ w) p q same =
    let h = one_word (first_word a v p) (subst (λ (text : List ℕ). IsWordThen text b (words_text w)) (sym same) (first_word b w q)) in
    let first : a ≡ b = h.0 in
    let rest : v ≡ w = same_words v w (All-tail Fits a v p) (All-tail Fits b w q) h.1 in
    cc

-- what the words of a value are behind those that were read
pub record Behind (words more rest : List ℕ) : Type 0 where
  pub behind : List ℕ
  pub is : more ≡ words ++ behind
  pub each : All Fits behind
  pub rest_is : rest ≡ words_text behind

-- these words were read of the text and put behind the row, so many, and then comes the rest
pub record WordsSoFar (text rest old new : List ℕ) (count : ℕ) : Type 0 where
  pub words : List ℕ
  pub is : text ≡ words_text words ++ rest
  pub row : new ≡ old ++ words
  pub many : length words ≡ count
  pub value : IsValue words
  pub other : (more : List ℕ) → IsValue more → text ≡ words_text more → Behind words more rest

-- behind the next word
next_behind : {words more rest after : List ℕ} {word : ℕ} → Behind words more rest → IsWordThen rest word after → Behind (words ++ word ∷ []) more after
next_behind {words} {more} {rest} {after} {word} b here = by b.behind b.is b.each b.rest_is
  where
    by : (behind : List ℕ) → more ≡ words ++ behind → All Fits behind → rest ≡ words_text behind → Behind (words ++ word ∷ []) more after
    by [] is each rest_is = let none : [] ≡ 32 ∷ (decimal word ++ after) = sym rest_is ∙ here.is in cc
    by (other ∷ behind) is each rest_is =
        let h = one_word here (subst (λ (text : List ℕ). IsWordThen text other (words_text behind)) (sym rest_is) (first_word other behind each)) in
        record {
          behind = behind;
          is = is ∙ ap (λ (w : ℕ). words ++ w ∷ behind) (sym h.0) ∙ sym (append_assoc words (word ∷ []) behind);
          each = All-tail Fits other behind each;
          rest_is = h.1;
        }

-- a word further
pub one_more_word : {text rest after old new later : List ℕ} {count word : ℕ} → WordsSoFar text rest old new count → IsWordThen rest word after → count < most_values → later ≡ new ++ word ∷ [] → WordsSoFar text after old later (count + 1)
one_more_word {text} {rest} {after} {old} {new} {later} {count} {word} so_far here few is = record {
  words = so_far.words ++ word ∷ [];
  is = so_far.is ∙ ap (λ (xs : List ℕ). words_text so_far.words ++ xs) here.is ∙ sym (append_assoc (words_text so_far.words) (32 ∷ decimal word) after)
      ∙ ap (λ (xs : List ℕ). xs ++ after) (ap (λ (xs : List ℕ). words_text so_far.words ++ xs) (sym (append-nil (32 ∷ decimal word))) ∙ sym (flat_map-append (λ (w : ℕ). 32 ∷ decimal w) so_far.words (word ∷ [])));
  row = is ∙ ap (λ (xs : List ℕ). xs ++ word ∷ []) so_far.row ∙ append_assoc old so_far.words (word ∷ []);
  many = length-append so_far.words (word ∷ []) ∙ ap (λ n. n + 1) so_far.many;
  value = record { each = All-push Fits so_far.words word so_far.value.each here.fits; few = omega (arith, length-append so_far.words (word ∷ []), so_far.many, few) };
  other = λ more value said. next_behind (so_far.other more value said) here;
}

-- a rest that is not empty and begins with no word
pub no_word_here : {text rest old new : List ℕ} {count : ℕ} → WordsSoFar text rest old new count → 0 < length rest → ((word : ℕ) (after : List ℕ) → ¬ (IsWordThen rest word after)) → (words : List ℕ) → IsValue words → ¬ (text ≡ words_text words)
no_word_here {text} {rest} {old} {new} {count} so_far some none words value said = by b.behind b.each b.rest_is
  where
    b : Behind so_far.words words rest
    b = so_far.other words value said

    by : (behind : List ℕ) → All Fits behind → rest ≡ words_text behind → ⊥
    by [] each is = omega (arith, some, ap length is)
    by (word ∷ behind) each is = none word (words_text behind) (subst (λ (xs : List ℕ). IsWordThen xs word (words_text behind)) (sym is) (first_word word behind each))
