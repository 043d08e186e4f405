-- The lines of calls, and the line of the size.
use Rattle.std.proofs.Common.{◌≡◌, ◌≢◌, ℕ, ◌-◌, ◌<◌, ◌≤◌, ◌^◌, List, ◌++◌, sym, ◌∙◌, ap, arith}
use Rattle.std.specs.Prelude.{decimal, codes, Option, Some, None, MatchOption}
use Rattle.std.proofs.lemmas.Fmt.{decimal_injective}
use Rattle.std.proofs.lemmas.List.{append_cancel_left}
use Rattle.trace_text.specs.Numbers.{IsNumberThen}
use Rattle.trace_text.proofs.Numbers.{same_number}
use Rattle.trace_text.proofs.OneText.{same_letter}
use Rattle.dict_text.specs.Script.{DictCall, Put, Get, Del, words_text, IsValue, IsDictLine, IsCallLine}
use Rattle.dict_text.proofs.OneMeaning.{few_granules, as_put}

-- a line says no size but the one that was read
pub size_read : (line words : List ℕ) (found granules : ℕ) → found < 2 ^ 64 → line ≡ codes "dict " ++ words → words ≡ decimal found → IsDictLine line granules → found ≡ granules
size_read line words found granules few is read says =
    let both : codes "dict " ++ words ≡ codes "dict " ++ decimal granules = sym is ∙ says.text in
    let same : words ≡ decimal granules = cc in
    decimal_injective found granules few (few_granules says.valid) (sym read ∙ same)

-- a key behind these bytes is the number that what follows them is as a whole
pub key_behind : (line front rest : List ℕ) (found : Option ℕ) → line ≡ front ++ rest →
    MatchOption found ((key : ℕ) → key ≤ 2 ^ 64 - 1 → rest ≢ decimal key) (λ key. (key ≤ 2 ^ 64 - 1) × (rest ≡ decimal key)) →
    MatchOption found ((key : ℕ) → key < 2 ^ 64 → line ≢ front ++ decimal key) (λ key. line ≡ front ++ decimal key)
key_behind line front rest None is none = λ key fits said. none key (omega (arith, fits)) (append_cancel_left front rest (decimal key) (sym is ∙ said))
key_behind line front rest (Some key) is found = is ∙ ap (λ (xs : List ℕ). front ++ xs) found.1

-- what begins as a put is one, with the key that was read
pub no_put : (text rest : List ℕ) (key : ℕ) → IsNumberThen text key rest → ((words : List ℕ) → IsValue words → rest ≢ words_text words) → (call : DictCall) → ¬ (IsCallLine (codes "put " ++ text) call)
no_put text rest key number none (Put k value) makes =
    let both : codes "put " ++ text ≡ codes "put " ++ (decimal k ++ words_text value) = makes.text in
    let same : text ≡ decimal k ++ words_text value = cc in
    none value makes.asked.1 (same_number number (as_put text k value makes.asked.0 same)).1
no_put text rest key number none (Get k) makes = omega (arith, same_letter 112 103 _ _ makes.text)
no_put text rest key number none (Del k) makes = omega (arith, same_letter 112 100 _ _ makes.text)
