-- Texts that are put behind one another, piece by piece.
use Rattle.std.proofs.Common.{◌≡◌, ℕ, List, ◌++◌, sym, ap, ◌∙◌, append_assoc, Result, Ok, Err}
use Rattle.std.specs.Prelude.{OnOk, decimal}

-- a number is written for another that is the same
pub first_number : (o : List ℕ) {n : List ℕ} (k j : ℕ) → k ≡ j → n ≡ o ++ decimal k → n ≡ o ++ decimal j
first_number o k j same is = is ∙ ap (λ i. o ++ decimal i) same

-- a name and a number
pub first_word : (o : List ℕ) {n : List ℕ} (name : List ℕ) (k j : ℕ) → k ≡ j → n ≡ o ++ (name ++ decimal k) → n ≡ o ++ (name ++ decimal j)
first_word o name k j same is = is ∙ ap (λ i. o ++ (name ++ decimal i)) same

-- a text more
pub then_text : (o : List ℕ) {m n : List ℕ} (x y : List ℕ) → m ≡ o ++ x → n ≡ m ++ y → n ≡ o ++ (x ++ y)
then_text o x y before is = is ∙ ap (λ (t : List ℕ). t ++ y) before ∙ append_assoc o x y

-- a text of two parts more
pub then_line : (o : List ℕ) {m n : List ℕ} (x a b : List ℕ) → m ≡ o ++ x → n ≡ m ++ (a ++ b) → n ≡ o ++ ((x ++ a) ++ b)
then_line o x a b before is = then_text o x (a ++ b) before is ∙ ap (λ (t : List ℕ). o ++ t) (sym (append_assoc x a b))

-- a name and a number more
pub then_word : (o : List ℕ) {m n : List ℕ} (x name : List ℕ) (k j : ℕ) → k ≡ j → m ≡ o ++ x → n ≡ m ++ (name ++ decimal k) → n ≡ o ++ ((x ++ name) ++ decimal j)
then_word o x name k j same before is = then_line o x name (decimal k) before is ∙ ap (λ i. o ++ ((x ++ name) ++ decimal i)) same

-- the same of the last piece, which is written if there is memory
pub last_text : {E : Type 0} (o : List ℕ) {m : List ℕ} (n : List ℕ) (result : Result (Unit {0}) E) (x y : List ℕ) → m ≡ o ++ x → OnOk result (n ≡ m ++ y) → OnOk result (n ≡ o ++ (x ++ y))
last_text o n (Ok done) x y before is = then_text o x y before is
last_text o n (Err error) x y before is = tt

pub last_line : {E : Type 0} (o : List ℕ) {m : List ℕ} (n : List ℕ) (result : Result (Unit {0}) E) (x a b : List ℕ) → m ≡ o ++ x → OnOk result (n ≡ m ++ (a ++ b)) → OnOk result (n ≡ o ++ ((x ++ a) ++ b))
last_line o n (Ok done) x a b before is = then_line o x a b before is
last_line o n (Err error) x a b before is = tt

pub last_word : {E : Type 0} (o : List ℕ) {m : List ℕ} (n : List ℕ) (result : Result (Unit {0}) E) (x name : List ℕ) (k j : ℕ) → k ≡ j → m ≡ o ++ x → OnOk result (n ≡ m ++ (name ++ decimal k)) → OnOk result (n ≡ o ++ ((x ++ name) ++ decimal j))
last_word o n (Ok done) x name k j same before is = then_word o x name k j same before is
last_word o n (Err error) x name k j same before is = tt
