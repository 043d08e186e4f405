-- The claim of a root that the open entry does not name: its word alone says where its block is.
use Rattle.std.proofs.Common.{◌≡◌, ◌≢◌, ◌&&◌, ◌==◌, ℕ, ◌*◌, ◌/◌, Bool, true, false, cond, refl, sym, ap, ◌∙◌, arith, ⊎_elim, ltb, Option, Some, None}
use Rattle.heap_check.proofs.Common.{cases_Bool, eqb-true, cond-true, cond-false, ne_eqb, false_from_ne_true, and_parts, ltb-true, WalEntry, Place, Tables, Range}
use Rattle.heap_check.specs.Heap.{slab_of, is_large, is_old, size_by, size_at, entry_at, entry_old, claim_at, IsClaim}

-- an open place entry names this root or none
pub record NamesOnly (entry : Option WalEntry) (root : ℕ) : Type 0 where
  pub others : (other : ℕ) → other ≢ root → entry_at entry other ≡ 0

pub NamesOnly-none : (entry : Option WalEntry) (root : ℕ) → entry ≡ None → NamesOnly entry root
NamesOnly-none entry root closed = record { others = λ other apart. ap (λ e. entry_at e other) closed }

pub NamesOnly-some : (root at : ℕ) (old : Bool) (place : ℕ) → NamesOnly (Some (Place root at old place)) root
NamesOnly-some root at old place = record { others = λ other apart. cond-false (other == root) at 0 (ne_eqb other root apart) }

-- the size of a block at an address, where no entry says it
abbrev pub plain_size : Tables → ℕ → ℕ
plain_size t at = cond (is_large t.large at) (16384 * t.large (at / 16384)) (size_by t at (is_old (t.header (slab_of t.slab (at / 16384))) (slab_of t.slab (at / 16384)) at))

-- a root's word names this block
pub record IsNamed (t : Tables) (root : ℕ) (range : Range) : Type 0 where
  pub some : range.at ≢ 0
  pub word : t.root root ≡ range.at
  pub wide : plain_size t range.at ≡ range.size

is_unnamed : (named at : ℕ) → named ≡ 0 → ((named == at) && ltb 0 at) ≡ false
is_unnamed named at none = false_from_ne_true _ (λ both.
    let parts = and_parts (named == at) (ltb 0 at) both in
    omega (arith, eqb-true named at parts.0, ltb-true 0 at parts.1))

pub size_at-unnamed : (t : Tables) (root at : ℕ) → entry_at t.open_entry root ≡ 0 → size_at t root at ≡ plain_size t at
size_at-unnamed t root at none =
    ap (λ b. cond (is_large t.large at) (16384 * t.large (at / 16384)) (cond b (size_by t at (entry_old t.open_entry)) (size_by t at (is_old (t.header (slab_of t.slab (at / 16384))) (slab_of t.slab (at / 16384)) at))))
    (is_unnamed (entry_at t.open_entry root) at none)

pub claim_at-unnamed : (t : Tables) (root : ℕ) → entry_at t.open_entry root ≡ 0 → claim_at t root ≡ t.root root
claim_at-unnamed t root none = ⊎_elim
    (λ (no_word : (t.root root == 0) ≡ true). cond-true (t.root root == 0) (entry_at t.open_entry root) (t.root root) no_word ∙ none ∙ sym (eqb-true (t.root root) 0 no_word))
    (λ (a_word : (t.root root == 0) ≡ false). cond-false (t.root root == 0) (entry_at t.open_entry root) (t.root root) a_word)
    (cases_Bool (t.root root == 0))

pub IsNamed-claim : (t : Tables) (root : ℕ) (range : Range) → entry_at t.open_entry root ≡ 0 → IsClaim t root range → IsNamed t root range
IsNamed-claim t root range none claim = record {
  some = claim.some;
  word = sym (claim_at-unnamed t root none) ∙ claim.place;
  wide = ap (λ at. plain_size t at) (sym claim.place) ∙ sym (size_at-unnamed t root (claim_at t root) none) ∙ claim.wide;
}

pub IsClaim-named : (t : Tables) (root : ℕ) (range : Range) → entry_at t.open_entry root ≡ 0 → IsNamed t root range → IsClaim t root range
IsClaim-named t root range none named =
    let place = claim_at-unnamed t root none ∙ named.word in
    record {
      some = named.some;
      place = place;
      wide = size_at-unnamed t root (claim_at t root) none ∙ ap (λ at. plain_size t at) place ∙ named.wide;
    }

-- the claim of a root whose word is not 0
pub IsClaim-word : (t : Tables) (root : ℕ) → entry_at t.open_entry root ≡ 0 → t.root root ≢ 0 → IsClaim t root (record { at = t.root root; size = plain_size t (t.root root) })
IsClaim-word t root none some = IsClaim-named t root _ none (record { some = some; word = refl; wide = refl })
