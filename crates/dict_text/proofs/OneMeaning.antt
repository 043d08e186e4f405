-- A line of a script says one thing, so a text says one script, or has one refused line.
use Rattle.std.proofs.Common.{◌≡◌, ℕ, ◌<◌, ◌≤◌, ◌^◌, List, [], ◌∷◌, ◌++◌, refl, sym, ◌∙◌, arith}
use Rattle.std.specs.Prelude.{decimal, codes}
use Rattle.std.proofs.lemmas.Fmt.{decimal_injective}
use Rattle.pool_layout.proofs.Layouts.{layout_rules}
use Rattle.trace_text.specs.Numbers.{IsNumberThen}
use Rattle.trace_text.specs.Texts.{IsPassedOver, IsClear}
use Rattle.trace_text.proofs.Numbers.{same_number}
use Rattle.trace_text.proofs.OneText.{same_letter, law_of_one_text, law_of_none_outside, law_of_one_outside}
use Rattle.dict_text.specs.Script.{DictCall, Put, Get, Del, words_text, call_text, script_lines, IsAsked, IsDictSize, IsDictLine, IsCallLine}
use Rattle.dict_text.specs.Laws.{LawOfOneScript, LawOfNoRefusedScript, LawOfOneRefusedScript}
use Rattle.dict_text.proofs.Words.{no_digit, same_words}

-- a text that begins with a letter is not passed over
no_letter : (letter : ℕ) (line rest : List ℕ) → 36 ≤ letter → line ≡ letter ∷ rest → ¬ (IsPassedOver line)
no_letter letter [] rest high is passed = cc
no_letter letter (byte ∷ line) rest high is passed = let same : byte ≡ letter = cc in omega (arith, same, passed, high)

-- a line that is passed over says no size
no_size : (line : List ℕ) (granules : ℕ) → IsPassedOver line → ¬ (IsDictLine line granules)
no_size line granules passed says = no_letter 100 line _ (omega arith) says.text passed

-- and makes no call
no_call : (line : List ℕ) (call : DictCall) → IsPassedOver line → ¬ (IsCallLine line call)
no_call line (Put key value) passed makes = no_letter 112 line _ (omega arith) makes.text passed
no_call line (Get key) passed makes = no_letter 103 line _ (omega arith) makes.text passed
no_call line (Del key) passed makes = no_letter 100 line _ (omega arith) makes.text passed

-- a size is no large number
pub few_granules : {granules : ℕ} → IsDictSize granules → granules < 2 ^ 64
few_granules {granules} is = omega (arith, is.most, (layout_rules 1).most)

-- a line says one size
one_size : (line : List ℕ) (m n : ℕ) → IsDictLine line m → IsDictLine line n → m ≡ n
one_size line m n p q =
    let both : codes "dict " ++ decimal m ≡ codes "dict " ++ decimal n = sym p.text ∙ q.text in
    let same : decimal m ≡ decimal n = cc in
    decimal_injective m n (few_granules p.valid) (few_granules q.valid) same

-- the key and the words of a put are said in one way
pub as_put : (text : List ℕ) (key : ℕ) (value : List ℕ) → key < 2 ^ 64 → text ≡ decimal key ++ words_text value → IsNumberThen text key (words_text value)
as_put text key value fits is = record { is = is; fits = fits; ends = no_digit value }

-- two calls with one text are one
one_asked : (a b : DictCall) → IsAsked a → IsAsked b → call_text a ≡ call_text b → a ≡ b
one_asked (Put k v) (Put l w) p q same =
    let text : decimal k ++ words_text v ≡ decimal l ++ words_text w = cc in
    let h = same_number (as_put (decimal k ++ words_text v) k v p.0 refl) (as_put (decimal k ++ words_text v) l w q.0 text) in
    let key : k ≡ l = h.0 in
    let value : v ≡ w = same_words v w p.1.each q.1.each h.1 in
    cc
one_asked (Put k v) (Get l) p q same = absurd (omega (arith, same_letter 112 103 _ _ same))
one_asked (Put k v) (Del l) p q same = absurd (omega (arith, same_letter 112 100 _ _ same))
one_asked (Get k) (Put l w) p q same = absurd (omega (arith, same_letter 103 112 _ _ same))
one_asked (Get k) (Get l) p q same =
    let text : decimal k ≡ decimal l = cc in
    let key : k ≡ l = decimal_injective k l p q text in
    cc
one_asked (Get k) (Del l) p q same = absurd (omega (arith, same_letter 103 100 _ _ same))
one_asked (Del k) (Put l w) p q same = absurd (omega (arith, same_letter 100 112 _ _ same))
one_asked (Del k) (Get l) p q same = absurd (omega (arith, same_letter 100 103 _ _ same))
one_asked (Del k) (Del l) p q same =
    let text : decimal k ≡ decimal l = cc in
    let key : k ≡ l = decimal_injective k l p q text in
    cc

-- the grammar of scripts is clear
script_is_clear : IsClear script_lines
script_is_clear = record {
  no_head = no_size;
  no_call = λ granules. no_call;
  one_head = one_size;
  one_call = λ first granules line a b says p q. one_asked a b p.asked q.asked (sym p.text ∙ q.text);
}

-- a text says one script at most
pub law_of_one_script : LawOfOneScript
law_of_one_script = law_of_one_text script_lines script_is_clear

-- a script has no refused line
pub law_of_no_refused_script : LawOfNoRefusedScript
law_of_no_refused_script = law_of_none_outside script_lines script_is_clear

-- a text has one refused line at most
pub law_of_one_refused_script : LawOfOneRefusedScript
law_of_one_refused_script = law_of_one_outside script_lines script_is_clear
