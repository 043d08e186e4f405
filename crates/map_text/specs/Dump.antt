-- The words of a block, sixteen bytes a line, in hexadecimal.
use Rattle.std.specs.Prelude.{ℕ, ◌+◌, ◌-◌, ◌*◌, ◌/◌, ◌%◌, ◌^◌, nat_lt, List, [], ◌∷◌, ◌++◌, if◌then◌else◌}
use Rattle.pmem_lines.specs.Words.{word_at}
use Rattle.heap_model.specs.Machine.{Range}
use Rattle.map_text.specs.Pieces.{text_below}

-- a digit below 16
abbrev pub hex_digit : ℕ → ℕ
hex_digit digit = if nat_lt digit 10 then 48 + digit else (87 + digit)

-- the last so many digits of a number, the highest first
unfoldable pub hex : ℕ → ℕ → List ℕ
hex width number = text_below (λ i. hex_digit (number / 2 ^ (4 * (width - 1 - i)) % 16) ∷ []) width

-- a line: an address, and the two words there
unfoldable pub dump_line : List ℕ → ℕ → List ℕ
dump_line words at = hex 8 at ++ 32 ∷ hex 16 (word_at words (at / 8)) ++ 32 ∷ hex 16 (word_at words (at / 8 + 1)) ++ 10 ∷ []

-- the lines of a range, whose size is a multiple of sixteen
abbrev pub dump_text : List ℕ → Range → List ℕ
dump_text words range = text_below (λ i. dump_line words (range.at + 16 * i)) (range.size / 16)
