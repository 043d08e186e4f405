-- What tables with one entry changed say.
use Rattle.std.proofs.Common.{◌≡◌, ◌≢◌, ◌⊎◌, ⊎_elim, inl, inr, ℕ, eqb, refl, sym, ap, ◌∙◌}
use Rattle.std.proofs.lemmas.Bool.{cases_eq, eq-eqb, ne_eqb, cond-true, cond-false}
use Rattle.image_tables.specs.Tables.{SlabHeader, Tables}
use Rattle.image_tables.specs.Updates.{put_at, put_in, put_header}

-- the entry
pub put_at-same : {X : Type 0} (table : ℕ → X) (key : ℕ) (new : X) → put_at table key new key ≡ new
put_at-same table key new = cond-true (eqb key key) new (table key) (eq-eqb key key refl)

-- any other
pub put_at-other : {X : Type 0} (table : ℕ → X) (key other : ℕ) (new : X) → other ≢ key → put_at table key new other ≡ table other
put_at-other table key other new apart = cond-false (eqb other key) new (table other) (ne_eqb other key apart)

-- changed again
pub put_at-twice : {X : Type 0} (table : ℕ → X) (key : ℕ) (old new : X) → put_at (put_at table key old) key new ≡ put_at table key new
put_at-twice table key old new i other = ⊎_elim
    (λ (is : other ≡ key). put_at-here other is)
    (λ (apart : other ≢ key). put_at-other (put_at table key old) key other new apart ∙ put_at-other table key other old apart ∙ sym (put_at-other table key other new apart))
    (cases_eq other key) i
  where
    put_at-here : (other : ℕ) → other ≡ key → put_at (put_at table key old) key new other ≡ put_at table key new other
    put_at-here other is = ap (put_at (put_at table key old) key new) is ∙ put_at-same (put_at table key old) key new ∙ sym (put_at-same table key new) ∙ ap (put_at table key new) (sym is)

-- changed to what it is
pub put_at-own : {X : Type 0} (table : ℕ → X) (key : ℕ) → put_at table key (table key) ≡ table
put_at-own table key i other = ⊎_elim
    (λ (is : other ≡ key). ap (put_at table key (table key)) is ∙ put_at-same table key (table key) ∙ ap table (sym is))
    (λ (apart : other ≢ key). put_at-other table key other (table key) apart)
    (cases_eq other key) i

-- an entry of a row

pub put_in-same : {X : Type 0} (table : ℕ → ℕ → X) (row key : ℕ) (new : X) → put_in table row key new row key ≡ new
put_in-same {X} table row key new = ap (λ (f : ℕ → X). f key) (put_at-same table row (put_at (table row) key new)) ∙ put_at-same (table row) key new

pub put_in-other : {X : Type 0} (table : ℕ → ℕ → X) (row key : ℕ) (new : X) (r k : ℕ) → (r ≢ row) ⊎ (k ≢ key) → put_in table row key new r k ≡ table r k
put_in-other {X} table row key new r k either = ⊎_elim
    (λ (apart : r ≢ row). ap (λ (f : ℕ → X). f k) (put_at-other table row r (put_at (table row) key new) apart))
    (λ (apart : k ≢ key). ⊎_elim
    (λ (is : r ≡ row).
    ap (λ r. put_in table row key new r k) is
    ∙ ap (λ (f : ℕ → X). f k) (put_at-same table row (put_at (table row) key new))
    ∙ put_at-other (table row) key k new apart
    ∙ ap (λ r. table r k) (sym is))
    (λ (other : r ≢ row). ap (λ (f : ℕ → X). f k) (put_at-other table row r (put_at (table row) key new) other))
    (cases_eq r row))
    either

pub put_in-twice : {X : Type 0} (table : ℕ → ℕ → X) (row key : ℕ) (old new : X) → put_in (put_in table row key old) row key new ≡ put_in table row key new
put_in-twice {X} table row key old new =
    let once : (put_at table row (put_at (table row) key old)) row ≡ put_at (table row) key old = put_at-same table row (put_at (table row) key old) in
    ap (λ (f : ℕ → X). put_at (put_at table row (put_at (table row) key old)) row (put_at f key new)) once
    ∙ put_at-twice table row (put_at (table row) key old) (put_at (put_at (table row) key old) key new)
    ∙ ap (put_at table row) (put_at-twice (table row) key old new)

pub put_in-own : {X : Type 0} (table : ℕ → ℕ → X) (row key : ℕ) → put_in table row key (table row key) ≡ table
put_in-own table row key = ap (put_at table row) (put_at-own (table row) key) ∙ put_at-own table row

-- a table that differs in one entry of one row is the one with that entry changed
pub put_in-is : {X : Type 0} (table new : ℕ → ℕ → X) (row key : ℕ) (value : X) → new row key ≡ value → ((other : ℕ) → other ≢ key → new row other ≡ table row other) →
    ((other k : ℕ) → other ≢ row → new other k ≡ table other k) → (r k : ℕ) → new r k ≡ put_in table row key value r k
put_in-is {X} table new row key value here same others r k = ⊎_elim
    (λ (is : r ≡ row).
    ap (λ r. new r k) is
    ∙ within k
    ∙ ap (λ (f : ℕ → X). f k) (sym (put_at-same table row (put_at (table row) key value)))
    ∙ ap (λ r. put_in table row key value r k) (sym is))
    (λ (apart : r ≢ row). others r k apart ∙ ap (λ (f : ℕ → X). f k) (sym (put_at-other table row r (put_at (table row) key value) apart)))
    (cases_eq r row)
  where
    within : (k : ℕ) → new row k ≡ put_at (table row) key value k
    within k = ⊎_elim
        (λ (is : k ≡ key). ap (new row) is ∙ here ∙ sym (put_at-same (table row) key value) ∙ ap (put_at (table row) key value) (sym is))
        (λ (apart : k ≢ key). same k apart ∙ sym (put_at-other (table row) key k value apart))
        (cases_eq k key)

-- a header

pub put_header-same : (t : Tables) (start : ℕ) (h : SlabHeader) → (put_header t start h).header start ≡ h
put_header-same t start h = put_at-same t.header start h

pub put_header-other : (t : Tables) (start : ℕ) (h : SlabHeader) (other : ℕ) → other ≢ start → (put_header t start h).header other ≡ t.header other
put_header-other t start h other apart = put_at-other t.header start other h apart

-- what is changed to what it is stays
pub put_header-own : (t : Tables) (start : ℕ) → put_header t start (t.header start) ≡ t
put_header-own t start i = record t { header = put_at-own t.header start i }

-- what holds of each header but the one that changed, and of that one, holds of each: `was` where the granule is another
pub put_header-is : (t : Tables) (start : ℕ) (h : SlabHeader) (other : ℕ) → ((other ≡ start) × ((put_header t start h).header other ≡ h)) ⊎ ((other ≢ start) × ((put_header t start h).header other ≡ t.header other))
put_header-is t start h other = ⊎_elim
    (λ (here : other ≡ start). inl (here, ap (put_at t.header start h) here ∙ put_header-same t start h))
    (λ (apart : other ≢ start). inr (apart, put_header-other t start h other apart))
    (cases_eq other start)
