-- What raised words say, table by table, and that they have the form of an arena.
use Rattle.std.proofs.Common.{◌≡◌, ◌≢◌, ⊎_elim, ◌&&◌, ℕ, zero, suc, ◌+◌, ◌-◌, ◌*◌, ◌/◌, ◌%◌, ◌^◌, ◌<◌, ◌≤◌, Bool, true, false, true≢false, cond, ltb, List, refl, sym, ap, subst, ◌∙◌, arith, None}
use Rattle.image_raise.proofs.Common.{cases_lt, cases_eq, and_parts, word_at, Layout, layout_of, first_row, root_word, wal_word, granule_word, line_place, version_in, granules_in, extent_at, bounds_of, HasSlabHeader, IsFormed, IsExactImage, entry_at, sizes_of}
use Rattle.image_tables.specs.Forms.{HasStateBits, IsIndexWord}
use Rattle.image_tables.specs.Tables.{Tables, tables_of, large_of, is_slab_of, is_slab, state_word, index_word, bit_at, live_at, number_at, bit_of_word, state_field, entry_among, wal_lines}
use Rattle.image_tables.proofs.Tables.{root_table, root_table-past}
use Rattle.image_tables.proofs.Stores.{HasNoMove-closed}
use Rattle.heap_check.proofs.Claims.{plain_size, IsClaim-word}
use Rattle.heap_check.proofs.Within.{IsWithin-claim}
use Rattle.heap_check.proofs.Forms.{AreSlabsInHeap-sound}
use Rattle.image_raise.specs.Rise.{rise, raised_at}
use Rattle.image_raise.specs.Front.{HasSmallRoots}
use Rattle.image_raise.proofs.Heights.{IsRaised, IsWider}
use Rattle.image_raise.proofs.Rows.{rises, more_roots}
use Rattle.image_raise.proofs.Raised.{IsRaisedWords}
use Rattle.image_raise.proofs.Logs.{version_now, granules_now, extent_now, extent_low, log_now}

and_same : (a b x y : Bool) → a ≡ b → (b ≡ true → x ≡ y) → (a && x) ≡ (b && y)
and_same a true x y is same = ap (λ z. z && x) is ∙ same refl
and_same a false x y is same = ap (λ z. z && x) is

cond_same : {X : Type 0} (a b : Bool) (x y z : X) → a ≡ b → (b ≡ true → x ≡ y) → cond a x z ≡ cond b y z
cond_same a true x y z is same = ap (λ c. cond c x z) is ∙ same refl
cond_same a false x y z is same = ap (λ c. cond c x z) is

none_among : (row : ℕ → ℕ) (n : ℕ) → ((line : ℕ) → line < n → row line ≡ 0) → entry_among row n ≡ None
none_among row zero none = refl
none_among row (suc n) none = rw (none n (omega arith), none_among row n (λ line below. none line (omega arith))) refl

module _ {words new : List ℕ} (image : IsExactImage words) (version : version_in words ≡ 1) (is : IsRaisedWords words new) where
  few : granules_in words ≤ 4096
  few = (sizes_of words image.formed).most

  abbrev t : Tables
  t = tables_of words

  abbrev u : Tables
  u = tables_of new

  now : version_in new ≡ 2
  now = version_now version image.formed.log few is

  extent : (start : ℕ) → extent_at new (start + rise) ≡ extent_at words start
  extent = extent_now version image.formed.log few is

  slab_at : (s : ℕ) → is_slab new (s + rise) ≡ is_slab words s
  slab_at s = ap is_slab_of (extent s)

  -- a slab lies in the heap
  slab_low : (s : ℕ) → is_slab words s ≡ true → 4 ≤ s
  slab_low s slab = omega (arith, (AreSlabsInHeap-sound words image.exact.sound).low s slab, (sizes_of words image.formed).first)

  -- the words of a slab are as much higher
  word_now : (s j : ℕ) → 4 ≤ s → word_at new (granule_word (s + rise) + j) ≡ word_at words (granule_word s + j)
  word_now s j low =
      let place : granule_word (s + rise) + j ≡ granule_word s + j + 2048 * rise = omega arith in
      ap (word_at new) place ∙ is.heap (granule_word s + j) (omega (arith, low, ap (λ (r : Layout). r.first_granule) first_row))

  state_now : (s : ℕ) → is_slab words s ≡ true → word_at new (state_word (s + rise)) ≡ word_at words (state_word s)
  state_now s slab = word_now s (line_place 0 0) (slab_low s slab)

  index_now : (s place : ℕ) → is_slab words s ≡ true → word_at new (index_word (s + rise) place) ≡ word_at words (index_word s place)
  index_now s place slab = word_now s _ (slab_low s slab)

  field_now : (s bits : ℕ) → state_field new (s + rise) bits ≡ state_field words s bits
  field_now s bits = cond_same (is_slab new (s + rise)) (is_slab words s) _ _ 0 (slab_at s) (λ slab. ap (λ w. w / 2 ^ bits % 2 ^ 8) (state_now s slab))

  bit_now : (s i : ℕ) → bit_at new (s + rise) i ≡ bit_at words s i
  bit_now s i = and_same (is_slab new (s + rise)) (is_slab words s) _ _ (slab_at s) (λ slab. ap (λ w. ltb i 4096 && bit_of_word w (i / 8 % 64)) (word_now s _ (slab_low s slab)))

  live_now : (s place : ℕ) → live_at new (s + rise) place ≡ live_at words s place
  live_now s place = and_same (is_slab new (s + rise)) (is_slab words s) _ _ (slab_at s) (λ slab. ap (λ w. ltb place 64 && bit_of_word w 0) (index_now s place slab))

  number_now : (s place : ℕ) → number_at new (s + rise) place ≡ number_at words s place
  number_now s place = cond_same (is_slab new (s + rise) && ltb place 64) (is_slab words s && ltb place 64) _ _ 0 (ap (λ b. b && ltb place 64) (slab_at s))
      (λ both. ap (λ w. w / 2 ^ 16 % 2 ^ 16) (index_now s place (and_parts (is_slab words s) (ltb place 64) both).0))

  shut_now : u.open_entry ≡ None
  unfolding tables_of
  shut_now = none_among (λ line. word_at new (wal_word line)) wal_lines is.wal

  root_now : (r : ℕ) → u.root r ≡ raised_at rise (t.root r)
  root_now r = ⊎_elim
      (λ (first : r < (layout_of 1).roots).
      let old : t.root r ≡ word_at words (root_word r) = root_table words r (HasNoMove-closed image.exact.closed) (subst (λ v. r < (layout_of v).roots) (sym version) first) in
      new_root (omega (arith, first, more_roots)) ∙ is.root r first ∙ ap (raised_at rise) (sym old))
      (λ (past : (layout_of 1).roots ≤ r).
      let none : t.root r ≡ 0 = root_table-past words r (subst (λ v. (layout_of v).roots ≤ r) (sym version) past) in
      ⊎_elim
      (λ (second : r < (layout_of 2).roots). new_root second ∙ is.no_root r past second)
      (λ (beyond : (layout_of 2).roots ≤ r). root_table-past new r (subst (λ v. (layout_of v).roots ≤ r) (sym now) beyond))
      (cases_lt r (layout_of 2).roots)
      ∙ ap (raised_at rise) (sym none))
      (cases_lt r (layout_of 1).roots)
    where
      new_root : r < (layout_of 2).roots → u.root r ≡ word_at new (root_word r)
      new_root second = root_table new r (HasNoMove-closed shut_now) (subst (λ v. r < (layout_of v).roots) (sym now) second)

  none_slab : (s : ℕ) → s < rise → is_slab new s ≡ false
  none_slab s low = ap is_slab_of (extent_low version image.formed.log few is s low)

  pub raised_tables : IsRaised rise (tables_of words) (tables_of new)
  unfolding tables_of
  raised_tables = record {
    closed = image.exact.closed;
    shut = shut_now;
    root = root_now;
    none_large = λ s low. ap large_of (extent_low version image.formed.log few is s low);
    none_slab = none_slab;
    large = λ s. ap large_of (extent s);
    slab = slab_at;
    header = λ s k. record {
      kind = field_now s 0 k;
      class = field_now s 8 k;
      old = field_now s 16 k;
      index_count = field_now s 24 k;
      bit = λ i. bit_now s i k;
      live = λ place. live_now s place k;
      number = λ place. number_now s place k;
    };
  }

  slab_header : (s : ℕ) → is_slab new s ≡ true → HasSlabHeader new s
  slab_header s slab = ⊎_elim
      (λ (low : s < rise). absurd (true≢false (sym slab ∙ none_slab s low)))
      (λ (high : rise ≤ s).
      let k = s - rise in
      let at : s ≡ k + rise = omega (arith, high) in
      let here : is_slab words k ≡ true = sym (slab_at k) ∙ ap (is_slab new) (sym at) ∙ slab in
      let was = image.formed.slabs k here in
      subst (HasSlabHeader new) (sym at) (record {
        state = subst HasStateBits (sym (state_now k here)) was.state;
        index = λ place below. subst IsIndexWord (sym (index_now k place here)) (was.index place (omega (arith, below, field_now k 24)));
      }))
      (cases_lt s 9)

  pub formed_now : IsFormed new
  formed_now = record {
    header = is.header;
    size = omega (arith, is.size, image.formed.size, granules_now version image.formed.log few is);
    log = log_now version image.formed.log few is;
    wal = record { entry = λ line below some. absurd (some (is.wal line below)); one = λ line other below under some another. absurd (some (is.wal line below)) };
    slabs = slab_header;
  }

  pub wider : IsWider rise (bounds_of words) (bounds_of new)
  wider = record {
    first = ap (λ v. (layout_of v).first_granule) now ∙ rises ∙ ap (λ v. (layout_of v).first_granule + rise) (sym version);
    granules = granules_now version image.formed.log few is;
    low = (sizes_of words image.formed).first.0;
  }

module _ {words : List ℕ} (image : IsExactImage words) (version : version_in words ≡ 1) where
  abbrev held : ℕ → ℕ
  held = (tables_of words).root

  -- each root holds 0 or an address of the heap
  held_low : (r : ℕ) → held r < 2 ^ 32
  held_low r = ⊎_elim
      (λ (none : held r ≡ 0). omega (arith, none))
      (λ (some : held r ≢ 0).
      let unnamed = ap (λ e. entry_at e r) image.exact.closed in
      let within = IsWithin-claim image.exact.sound r (record { at = held r; size = plain_size (tables_of words) (held r) }) unnamed (IsClaim-word (tables_of words) r unnamed some) in
      let lies = image.exact.sound.extents.starts within.0 (omega (arith, within.1.low, within.1.high, within.1.some)) in
      omega (arith, within.1.high, within.1.some, lies.1, (sizes_of words image.formed).most))
      (cases_eq (held r) 0)

  pub small_roots : HasSmallRoots words
  small_roots = record { each = λ r below. omega (arith, held_low r, root_table words r (HasNoMove-closed image.exact.closed) (subst (λ v. r < (layout_of v).roots) (sym version) below)) }
