-- Numbers at the front of a text, and that a text has one at most.
use Rattle.std.proofs.Common.{◌≡◌, ℕ, zero, suc, ◌+◌, ◌*◌, ◌-◌, ◌<◌, ◌≤◌, ◌^◌, List, [], ◌∷◌, ◌++◌, length, take, drop, get_or, refl, sym, ◌∙◌, ap, subst, arith, lit≤}
use Rattle.std.specs.Prelude.{decimal}
use Rattle.std.specs.Char.{digit_value}
use Rattle.std.specs.Int.{IsInRange}
use Rattle.std.specs.Str.Parse.{AllDigits, digits_value, digits_value_after}
use Rattle.std.proofs.lemmas.List.{append-nil, take_more, take-append-drop, take_at, take_rest, length-take-le, get_or-take}
use Rattle.std.proofs.lemmas.Str.{digit_value_digit}
use Rattle.std.proofs.lemmas.Str.Parse.{digit_from_value, tells_digits, numerals_by_value, digits_value-take-le, digits_value_short}
use Rattle.std.proofs.lemmas.Fmt.{decimal_is_IsNumeral, decimal_injective, decimal_nonempty, decimal_digit, first_decimal, decimal-digits_value}
use Rattle.trace_text.specs.Numbers.{BeginsWithoutDigit, HasDigits, HasTooManyDigits, IsNumberThen}

-- one more digit
pub AllDigits_push : (ds : List ℕ) (c : ℕ) → AllDigits 10 ds → IsInRange 48 57 c → AllDigits 10 (ds ++ c ∷ [])
AllDigits_push [] c h r = (omega (arith, digit_value_digit c r), tt)
AllDigits_push (d ∷ ds) c h r = (h.0, AllDigits_push ds c h.1 r)

-- the value after n with one more digit
digits_value_after_push : (ds : List ℕ) (n c : ℕ) → digits_value_after 10 n (ds ++ c ∷ []) ≡ digits_value_after 10 n ds * 10 + digit_value c
digits_value_after_push [] n c = refl
digits_value_after_push (d ∷ ds) n c = digits_value_after_push ds (n * 10 + digit_value d) c

-- the value with one more digit
pub digits_value_push : (ds : List ℕ) (c : ℕ) → IsInRange 48 57 c → digits_value 10 (ds ++ c ∷ []) ≡ digits_value 10 ds * 10 + (c - 48)
digits_value_push ds c r = digits_value_after_push ds 0 c ∙ ap (λ v. digits_value 10 ds * 10 + v) (let e : digit_value c ≡ c - 48 = omega (arith, digit_value_digit c r) in e)

-- digits up to no digit are the same in one text
same_digits : (ds es x y : List ℕ) → AllDigits 10 ds → AllDigits 10 es → BeginsWithoutDigit x → BeginsWithoutDigit y → ds ++ x ≡ es ++ y → (ds ≡ es) × (x ≡ y)
same_digits [] [] x y p q f g e = (refl, e)
same_digits [] (d ∷ es) [] y p q f g e = absurd cc
same_digits [] (d ∷ es) (b ∷ x) y p q f g e = absurd (f (let s : d ≡ b = cc in subst (IsInRange 48 57) s (digit_from_value d q.0)))
same_digits (d ∷ ds) [] x [] p q f g e = absurd cc
same_digits (d ∷ ds) [] x (b ∷ y) p q f g e = absurd (g (let s : d ≡ b = cc in subst (IsInRange 48 57) s (digit_from_value d p.0)))
same_digits (d ∷ ds) (c ∷ es) x y p q f g e =
    let s : d ≡ c = cc in
    let rest : ds ++ x ≡ es ++ y = cc in
    let h = same_digits ds es x y p.1 q.1 f g rest in
    (let t : ds ≡ es = h.0 in cc, h.1)

-- digits at the front of a text are a front of those up to no digit
digits_within : (ds es x y : List ℕ) → AllDigits 10 ds → BeginsWithoutDigit y → ds ++ x ≡ es ++ y → (fs : List ℕ) × (es ≡ ds ++ fs)
digits_within [] es x y p g e = (es, refl)
digits_within (d ∷ ds) [] x [] p g e = absurd cc
digits_within (d ∷ ds) [] x (b ∷ y) p g e = absurd (g (let s : d ≡ b = cc in subst (IsInRange 48 57) s (digit_from_value d p.0)))
digits_within (d ∷ ds) (c ∷ es) x y p g e =
    let rest : ds ++ x ≡ es ++ y = cc in
    let h = digits_within ds es x y p.1 g rest in
    (h.0, let s : d ≡ c = cc in let t : es ≡ ds ++ h.0 = h.1 in cc)

-- a text is one number at most, with one rest
pub same_number : {text : List ℕ} {m n : ℕ} {x y : List ℕ} → IsNumberThen text m x → IsNumberThen text n y → (m ≡ n) × (x ≡ y)
same_number {text} {m} {n} {x} {y} p q =
    let a = decimal_is_IsNumeral m p.fits in
    let b = decimal_is_IsNumeral n q.fits in
    let h = same_digits (decimal m) (decimal n) x y a.0.1 b.0.1 p.ends q.ends (sym p.is ∙ q.is) in
    (decimal_injective m n p.fits q.fits h.0, h.1)

-- the first digits of a text, and what they write
pub record DigitsSoFar (text : List ℕ) (value many : ℕ) : Type 0 where
  pub digits : AllDigits 10 (take many text)
  pub writes : digits_value 10 (take many text) ≡ value

-- one digit further
pub digits_further : (text : List ℕ) (value many further : ℕ) → DigitsSoFar text value many → many < length text → IsInRange 48 57 (get_or text many 0) → further ≡ value * 10 + (get_or text many 0 - 48) → DigitsSoFar text further (many + 1)
digits_further text value many further so_far lt r is =
    let e = take_more text many 0 lt in
    record {
      digits = subst (AllDigits 10) (sym e) (AllDigits_push (take many text) (get_or text many 0) so_far.digits r);
      writes = ap (digits_value 10) e ∙ digits_value_push (take many text) (get_or text many 0) r ∙ ap (λ v. v * 10 + (get_or text many 0 - 48)) so_far.writes ∙ sym is;
    }

-- behind fewer than 19 digits there is room for one more
pub one_more_fits : (text : List ℕ) (value many : ℕ) → DigitsSoFar text value many → many ≤ length text → many ≤ 18 → value * 10 + 9 < 2 ^ 64
one_more_fits text value many so_far within few =
    let long = length-take-le many text within in
    let short = digits_value_short (numerals_by_value (AllDigits 10) tells_digits) (take many text) 18 so_far.digits (omega (arith, long, few)) in
    let below : 10 ^ 18 ≤ 1844674407370955160 = lit≤ tt in
    let wide : 18446744073709551616 ≤ 2 ^ 64 = lit≤ tt in
    omega (arith, short, so_far.writes, below, wide)

-- a further digit that takes the value past 64 bits
pub too_many : (text : List ℕ) (value many : ℕ) → DigitsSoFar text value many → many < length text → IsInRange 48 57 (get_or text many 0) → 2 ^ 64 ≤ value * 10 + (get_or text many 0 - 48) → HasTooManyDigits text
too_many text value many so_far lt r large =
    let more = digits_further text value many _ so_far lt r refl in
    record { many = many + 1; digits = more.digits; large = subst (λ v. 2 ^ 64 ≤ v) (sym more.writes) large }

-- the digits of a text are those of its number
digits_of_number : (text : List ℕ) (value many number : ℕ) (rest : List ℕ) → HasDigits text value many → IsNumberThen text number rest → (take many text ≡ decimal number) × (drop many text ≡ rest)
digits_of_number text value many number rest has is =
    same_digits (take many text) (decimal number) (drop many text) rest has.digits (decimal_is_IsNumeral number is.fits).0.1 has.ends is.ends (take-append-drop many text ∙ is.is)

-- no number has more digits than 64 bits hold
pub no_number_past : (text : List ℕ) → HasTooManyDigits text → (number : ℕ) (rest : List ℕ) → ¬ (IsNumberThen text number rest)
no_number_past text long number rest is =
    let ds = take long.many text in
    let numeral = decimal_is_IsNumeral number is.fits in
    let h = digits_within ds (decimal number) (drop long.many text) rest long.digits is.ends (take-append-drop long.many text ∙ is.is) in
    let front : take (length ds) (decimal number) ≡ ds = ap (take (length ds)) h.1 ∙ take_at ds h.0 _ refl in
    let le : digits_value 10 ds ≤ digits_value 10 (decimal number) = subst (λ (xs : List ℕ). digits_value 10 xs ≤ digits_value 10 (decimal number)) front (digits_value-take-le 10 (decimal number) (length ds) (omega arith)) in
    omega (arith, long.large, is.fits, numeral.1, le)

-- no number has no digit
pub no_number_empty : (text : List ℕ) (value many : ℕ) → HasDigits text value many → many ≡ 0 → (number : ℕ) (rest : List ℕ) → ¬ (IsNumberThen text number rest)
no_number_empty text value many has none number rest is =
    let same = ap length (digits_of_number text value many number rest has is).0 in
    omega (arith, same, length-take-le many text has.within, decimal_nonempty number is.fits)

-- no number has a zero before other digits
pub no_number_padded : (text : List ℕ) (value many : ℕ) → HasDigits text value many → 1 < many → get_or text 0 0 ≡ 48 → (number : ℕ) (rest : List ℕ) → ¬ (IsNumberThen text number rest)
no_number_padded text value many has long padded zero rest is =
    let same = (digits_of_number text value many 0 rest has is).0 in
    omega (arith, ap length same, length-take-le many text has.within, ap length (decimal_digit 0 (omega arith)))
no_number_padded text value many has long padded (suc n) rest is =
    let same = (digits_of_number text value many (suc n) rest has is).0 in
    let first : get_or (decimal (suc n)) 0 0 ≡ 48 = ap (λ (xs : List ℕ). get_or xs 0 0) (sym same) ∙ get_or-take many text 0 0 (omega arith) ∙ padded in
    omega (arith, first, first_decimal (suc n) (omega arith) is.fits)

-- other digits are the number that they write
pub number_from_digits : (text : List ℕ) (value many : ℕ) → HasDigits text value many → value < 2 ^ 64 → 0 < many → ¬ ((1 < many) × (get_or text 0 0 ≡ 48)) → IsNumberThen text value (take (length text - many) (drop many text))
number_from_digits text value many has fits some plain =
    let ds = take many text in
    let long = length-take-le many text has.within in
    let first = get_or-take many text 0 0 some in
    let alone : get_or ds 0 0 ≡ 48 → length ds ≡ 1 = λ z. let not_long : ¬ (1 < many) = λ more. plain (more, sym first ∙ z) in omega (arith, long, not_long) in
    let is = decimal-digits_value (numerals_by_value (AllDigits 10) tells_digits) ds has.digits (omega (arith, long)) alone (omega (arith, has.writes)) in
    let rest : take (length text - many) (drop many text) ≡ drop many text = take_rest text many in
    record {
      is = sym (take-append-drop many text) ∙ ap (λ (xs : List ℕ). xs ++ drop many text) (sym is ∙ ap decimal has.writes) ∙ ap (λ (xs : List ℕ). decimal value ++ xs) (sym rest);
      fits = fits;
      ends = subst BeginsWithoutDigit (sym rest) has.ends;
    }

-- a number before a space
pub as_field : (line : List ℕ) (number : ℕ) (rest : List ℕ) → number < 2 ^ 64 → line ≡ decimal number ++ 32 ∷ rest → IsNumberThen line number (32 ∷ rest)
as_field line number rest fits is = record { is = is; fits = fits; ends = λ r. omega (arith, r.0) }

-- a digit before a space
pub digit_field : (line : List ℕ) (digit : ℕ) (rest : List ℕ) → digit < 10 → line ≡ (48 + digit) ∷ 32 ∷ rest → line ≡ decimal digit ++ 32 ∷ rest
digit_field line digit rest small is = is ∙ ap (λ (ds : List ℕ). ds ++ 32 ∷ rest) (sym (decimal_digit digit small))

-- a number at the end
pub as_last : (line : List ℕ) (number : ℕ) → number < 2 ^ 64 → line ≡ decimal number → IsNumberThen line number []
as_last line number fits is = record { is = is ∙ sym (append-nil (decimal number)); fits = fits; ends = tt }

-- a line of one number has no other before a space
pub other_field : (line : List ℕ) (m n : ℕ) (x y : List ℕ) → IsNumberThen line m x → n < 2 ^ 64 → line ≡ decimal n ++ 32 ∷ y → (m ≡ n) × (x ≡ 32 ∷ y)
other_field line m n x y is fits e = same_number is (as_field line n y fits e)

-- nor another as a whole
pub other_last : (line : List ℕ) (m n : ℕ) (x : List ℕ) → IsNumberThen line m x → n < 2 ^ 64 → line ≡ decimal n → (m ≡ n) × (x ≡ [])
other_last line m n x is fits e = same_number is (as_last line n fits e)
