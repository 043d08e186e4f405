-- What the slabs of an arena hold, where the header of one changes and holds the same.
use Rattle.std.proofs.Common.{◌≡◌, ◌≢◌, ◌↔◌, ⊎_elim, ℕ, true, List, refl, sym, ap, subst, ◌∙◌}
use Rattle.slab_morph.proofs.Common.{cases_eq, Tables, is_slab, AreSlabsInHeap, tables_of, SlabHeader, slab_table, Range, Holds, put_header}
use Rattle.image_tables.proofs.Updates.{put_header-other}
use Rattle.heap_check.specs.Slabs.{IsSameSlab}
use Rattle.heap_check.proofs.SameSlabs.{Holds-same, Holds-same_back}
use Rattle.slab_morph.specs.SlabHeaders.{header_at, alone}
use Rattle.slab_morph.specs.Stages.{IsOffHeader, HoldSame, AllHoldSame}
use Rattle.slab_morph.proofs.HeaderTables.{header_of-slab, tables_off}
use Rattle.slab_morph.proofs.Holding.{Holds-slab}

-- the other slabs
other_slab : (t : Tables) (start s : ℕ) (h : SlabHeader) → s ≢ start → IsSameSlab t (put_header t start h) s
other_slab t start s h apart = record { slab = refl; header = put_header-other t start h s apart }

module _ (words image : List ℕ) (start : ℕ) (off : IsOffHeader words start image) (held : HoldSame start (header_at words start) (header_at image start)) (slabs : AreSlabsInHeap words) (is : is_slab words start ≡ true) where
  tables : tables_of image ≡ put_header (tables_of words) start (header_at image start)
  tables = tables_off words image start off slabs is

  is_still : is_slab image start ≡ true
  is_still = sym (slab_table image start) ∙ ap (λ (t : Tables). t.slab start) tables ∙ slab_table words start ∙ is

  -- by the words of the header
  of_words : (ws : List ℕ) → is_slab ws start ≡ true → (range : Range) → Holds (tables_of ws) start range ↔ Holds (alone (header_at ws start)) start range
  of_words ws slab range = subst (λ (h : SlabHeader). Holds (tables_of ws) start range ↔ Holds (alone h) start range) (header_of-slab ws start slab) (Holds-slab (tables_of ws) start (slab_table ws start ∙ slab) range)

  here : (range : Range) → Holds (tables_of image) start range ↔ Holds (tables_of words) start range
  here range = (
    λ holds. (of_words words is range).1 ((held.each range).0 ((of_words image is_still range).0 holds)),
    λ holds. (of_words image is_still range).1 ((held.each range).1 ((of_words words is range).0 holds)),
  )

  same_slab : (s : ℕ) → s ≢ start → IsSameSlab (tables_of words) (tables_of image) s
  same_slab s apart = subst (λ (t : Tables). IsSameSlab (tables_of words) t s) (sym tables) (other_slab (tables_of words) start s (header_at image start) apart)

  pub all_hold_same : AllHoldSame (tables_of words) (tables_of image)
  all_hold_same = record {
    each = λ s range. ⊎_elim
        (λ (own : s ≡ start). subst (λ (g : ℕ). Holds (tables_of image) g range ↔ Holds (tables_of words) g range) (sym own) (here range))
        (λ (apart : s ≢ start). (
          λ holds. Holds-same_back (same_slab s apart) range holds,
          λ holds. Holds-same (same_slab s apart) range holds,
        ))
        (cases_eq s start);
  }
