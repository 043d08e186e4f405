-- Lists of one word, of three and of four, word by word.
use Rattle.std.proofs.Common.{◌≡◌, List, [], ◌∷◌, length, map, get_or, sym, ap, arith}

module _ {X Y : Type 0} (f : X → Y) where
  pub one_word : (words : List X) (first : X) → length words ≡ 1 → first ≡ get_or words 0 first → map f words ≡ f first ∷ []
  one_word [] first count is = absurd (omega arith)
  one_word (x ∷ []) first count is = ap (λ y. f y ∷ []) (sym is)
  one_word (x ∷ y ∷ words) first count is = absurd (omega arith)

  pub three_words : (words : List X) (a b c : X) → length words ≡ 3 → a ≡ get_or words 0 a → b ≡ get_or words 1 b → c ≡ get_or words 2 c → map f words ≡ f a ∷ f b ∷ f c ∷ []
  three_words [] a b c count p q r = absurd (omega arith)
  three_words (w ∷ []) a b c count p q r = absurd (omega arith)
  three_words (w ∷ x ∷ []) a b c count p q r = absurd (omega arith)
  three_words (w ∷ x ∷ y ∷ []) a b c count p q r = cc
  three_words (w ∷ x ∷ y ∷ z ∷ words) a b c count p q r = absurd (omega arith)

  pub four_words : (words : List X) (a b c d : X) → length words ≡ 4 → a ≡ get_or words 0 a → b ≡ get_or words 1 b → c ≡ get_or words 2 c → d ≡ get_or words 3 d →
      map f words ≡ f a ∷ f b ∷ f c ∷ f d ∷ []
  four_words [] a b c d count p q r s = absurd (omega arith)
  four_words (w ∷ []) a b c d count p q r s = absurd (omega arith)
  four_words (w ∷ x ∷ []) a b c d count p q r s = absurd (omega arith)
  four_words (w ∷ x ∷ y ∷ []) a b c d count p q r s = absurd (omega arith)
  four_words (w ∷ x ∷ y ∷ z ∷ []) a b c d count p q r s = cc
  four_words (w ∷ x ∷ y ∷ z ∷ v ∷ words) a b c d count p q r s = absurd (omega arith)
