-- Each root holds what another held, by a renaming of the roots that is its own inverse, and a move entry is open or none:
-- the image stays steady, nothing comes to be loose, and its heap is the old one by the new names.
use Rattle.std.proofs.Common.{◌≡◌, ◌≢◌, ◌⊎◌, ℕ, true, sym, ap, subst, ◌∙◌, arith, inl, inr, ⊎_elim, Option, Some, None}
use Rattle.settle_steps.proofs.Common.{cases_eq, WalEntry, Move, Tables, Bounds, Range, entry_at, heap, IsClaim, Holds, IsOpen, IsOpenMove, IsHeld, IsStanding, IsMorphing, IsNearlyDone, IsSound, IsSteady, LoosensNothing, IsNamed-claim, IsClaim-named, AtMostOne-fewer}
use Rattle.heap_check.proofs.Heaps.{heap-none, heap-some}

-- other root words and another entry; each root holds what the one that it is renamed to held
abbrev pub renamed : Tables → (ℕ → ℕ) → (ℕ → ℕ) → Option WalEntry → Tables
renamed t word name entry = record t { word = word; root = λ r. t.root (name r); open_entry = entry }

-- the renaming is its own inverse, and no entry is open, or a move entry that these words allow
pub record IsRenaming (b : Bounds) (t : Tables) (from to : ℕ) (word name : ℕ → ℕ) (entry : Option WalEntry) : Type 0 where
  pub back : (r : ℕ) → name (name r) ≡ r
  pub is : (entry ≡ None) ⊎ ((entry ≡ Some (Move from to)) × IsOpenMove b (renamed t word name entry) from to)

module _ {b : Bounds} {t : Tables} (steady : IsSteady b t) (unnamed : (r : ℕ) → entry_at t.open_entry r ≡ 0) (none_morphing : (start : ℕ) → ¬ (IsMorphing t start)) (from to : ℕ) (word name : ℕ → ℕ) (entry : Option WalEntry) (renaming : IsRenaming b t from to word name entry) where
  abbrev new : Tables
  new = renamed t word name entry

  sound : IsSound b t
  sound = steady.sound

  new_unnamed : (r : ℕ) → entry_at entry r ≡ 0
  new_unnamed r = ⊎_elim (λ shut. ap (λ e. entry_at e r) shut) (λ still. ap (λ e. entry_at e r) still.0) renaming.is

  -- the root that has the old name of another is that one
  root_back : (r : ℕ) → new.root (name r) ≡ t.root r
  root_back r = ap t.root (renaming.back r)

  -- claims go by the names

  forth : (r : ℕ) (range : Range) → IsClaim t (name r) range → IsClaim new r range
  forth r range claim =
      let named = IsNamed-claim t (name r) range (unnamed (name r)) claim in
      IsClaim-named new r range (new_unnamed r) (record { some = named.some; word = named.word; wide = named.wide })

  back : (r : ℕ) (range : Range) → IsClaim new r range → IsClaim t (name r) range
  back r range claim =
      let named = IsNamed-claim new r range (new_unnamed r) claim in
      IsClaim-named t (name r) range (unnamed (name r)) (record { some = named.some; word = named.word; wide = named.wide })

  apart_names : (one other : ℕ) → one ≢ other → name one ≢ name other
  apart_names one other differ same = differ (sym (renaming.back one) ∙ ap name same ∙ renaming.back other)

  stands : (r : ℕ) → new.root r ≢ 0 → IsStanding new r (new.root r)
  stands r some = ⊎_elim
      (λ large. inl large)
      (λ rest. ⊎_elim
      (λ (held : IsHeld t (t.root (name r))). inr (inl held))
      (λ by_entry. absurd (some (sym by_entry ∙ unnamed (name r))))
      rest)
      (sound.owned.rooted (name r) some)

  owned : (start : ℕ) (range : Range) → Holds new start range → (root : ℕ) × IsClaim new root range
  owned start range holds =
      let owner = sound.owned.claimed start range holds in
      (name owner.0, forth (name owner.0) range (subst (λ r. IsClaim t r range) (sym (renaming.back owner.0)) owner.1))

  open_entry : (e : WalEntry) → entry ≡ Some e → IsOpen b new e
  open_entry e is = ⊎_elim
      (λ shut. absurd (cc))
      (λ still.
      let own = still.0 in
      let same : Move from to ≡ e = cc in
      subst (IsOpen b new) same (record { entry = still.1; none_morphing = λ start slab kind. none_morphing start (record { slab = slab; kind = kind }) }))
      renaming.is

  -- nothing comes to be loose

  pub loosens_renamed : LoosensNothing t (renamed t word name entry)
  loosens_renamed = record {
    large = λ start loose. record { live = loose.live; unnamed = λ r at. loose.unnamed (name r) (root_back r ∙ at) };
    empty = λ start empty. record {
      slab = empty.slab;
      none = λ r some inside.
          let here = root_back r in
          empty.none (name r) (λ none. some (sym here ∙ none)) (record { slab = inside.slab; low = omega (arith, inside.low, here); high = omega (arith, inside.high, here) });
    };
    morphing = λ start morphing. morphing;
    done = λ start done. done;
  }

  pub nearly_back : (start : ℕ) → IsNearlyDone (renamed t word name entry) start → IsNearlyDone t start
  nearly_back start done = record {
    slab = done.slab;
    kind = done.kind;
    none = λ place below live.
        let by_entry = done.none place below live in
        let is = by_entry.entry in
        absurd (⊎_elim (λ shut. cc) (λ still. let own = still.0 in cc) renaming.is);
  }

  pub IsSound-renamed : IsSound b (renamed t word name entry)
  IsSound-renamed = record {
    extents = sound.extents;
    slabs = sound.slabs;
    owned = record {
      open_entry = open_entry;
      rooted = stands;
      apart = λ one other range another differ first second. sound.owned.apart (name one) (name other) range another (apart_names one other differ) (back one range first) (back other another second);
      claimed = owned;
    };
    loose = record {
      large = AtMostOne-fewer loosens_renamed.large sound.loose.large;
      empty = AtMostOne-fewer loosens_renamed.empty sound.loose.empty;
      morphing = sound.loose.morphing;
      done = sound.loose.done;
    };
  }

  pub IsSteady-renamed : IsSteady b (renamed t word name entry)
  IsSteady-renamed = record { sound = IsSound-renamed; one_done = AtMostOne-fewer nearly_back steady.one_done }

  -- the heap, by the names
  pub heap-renamed : (r : ℕ) → heap (renamed t word name entry) r ≡ heap t (name r)
  heap-renamed r = ⊎_elim
      (λ (none : t.root (name r) ≡ 0). heap-none new r none ∙ sym (heap-none t (name r) none))
      (λ (some : t.root (name r) ≢ 0). heap-some new r (new_unnamed r) some ∙ sym (heap-some t (name r) (unnamed (name r)) some))
      (cases_eq (t.root (name r)) 0)
