-- Where no slab is done beside another that is nearly so, a sound image is steady; where one is, its transition may end.
use Rattle.std.proofs.Common.{◌≡◌, ◌≢◌, ◌⊎◌, ◌<◌, ℕ, true, List, refl, sym, ap, subst, ◌∙◌, inl, inr, ⊎_elim, Option, Some}
use Rattle.recovery_steps.proofs.Common.{cases_eq, WalEntry, Place, Tables, tables_of, Bounds, slab_block, IsInSlab, IsSound, AtMostOne, IsMorphing, IsDoneSlab, IsLeaving, IsNearlyDone, IsSoundImage, IsSteadyImage, one_slab, HasNone, IsEndable, IsEnded, nearly_done}
use Rattle.image_tables.specs.Forms.{morphing_kind, morphed_kind}
use Rattle.settle_steps.proofs.EntrySlabs.{in_slab_old}
use Rattle.recovery_steps.specs.Nearly.{IsDoneBesides}
use Rattle.recovery_steps.specs.Parts.{IsSteadied}
use Rattle.defect_search.proofs.NoneLoose.{search_below}
use Rattle.recovery_steps.proofs.Books.{same_off_header}
use Rattle.recovery_steps.proofs.Leaving.{classes_self, classes_ended}

-- the last live old block of a slab is leaving
record IsLeavingLast (t : Tables) (start : ℕ) : Type 0 where
  pub place : ℕ
  pub slab : t.slab start ≡ true
  pub kind : (t.header start).kind ≡ morphed_kind
  pub below : place < (t.header start).index_count
  pub leaving : IsLeaving t start place

-- what a slab that is nearly done may be
abbrev IsNear : Tables → ℕ → Type 0
IsNear t start = IsDoneSlab t start ⊎ (IsMorphing t start ⊎ IsLeavingLast t start)

near_kinds : {b : Bounds} {t : Tables} → IsSound b t → (start : ℕ) → IsNearlyDone t start → IsNear t start
near_kinds {b} {t} sound start near = ⊎_elim
    (λ normal. absurd (near.kind normal))
    (λ rest. ⊎_elim
    (λ (morphing : (t.header start).kind ≡ morphing_kind). inr (inl (record { slab = near.slab; kind = morphing })))
    (λ (morphed : (t.header start).kind ≡ morphed_kind). ⊎_elim
    (λ found. inr (inr (record { place = found.0; slab = near.slab; kind = morphed; below = found.1; leaving = near.none found.0 found.1 found.2 })))
    (λ none. inl (record { slab = near.slab; kind = morphed; none = none }))
    (search_below (t.header start).live (t.header start).index_count))
    rest)
    (sound.slabs start near.slab).state.kinds

-- the address of an entry
abbrev place_at : Option WalEntry → ℕ
place_at (Some (Place root at old place)) = at
place_at other = 0

module _ {b : Bounds} {t : Tables} (sound : IsSound b t) where
  -- the open entry is of a block in the slab whose last one is leaving
  leaving_inside : (start : ℕ) (last : IsLeavingLast t start) → IsInSlab t start (slab_block start (t.header start).old ((t.header start).number last.place)).at
  leaving_inside start last =
      in_slab_old sound (slab_block start (t.header start).old ((t.header start).number last.place)).at last.place (record { start = start; slab = last.slab; kind = last.kind; below = last.below; is = refl })

  -- so there is one such slab
  one_leaving : (one other : ℕ) → IsLeavingLast t one → IsLeavingLast t other → one ≡ other
  one_leaving one other first second =
      let same : (slab_block one (t.header one).old ((t.header one).number first.place)).at ≡ (slab_block other (t.header other).old ((t.header other).number second.place)).at =
      ap place_at (sym first.leaving.entry ∙ second.leaving.entry) in
      one_slab sound one other (slab_block one (t.header one).old ((t.header one).number first.place)).at (leaving_inside one first)
      (subst (λ at. IsInSlab t other at) (sym same) (leaving_inside other second))

  -- while the entry is open no slab is in Morphing
  not_both : (one other : ℕ) → IsMorphing t one → IsLeavingLast t other → ⊥
  not_both one other morphing last = (sound.owned.open_entry _ last.leaving.entry).none_morphing one morphing.slab morphing.kind

  neither : (one other : ℕ) → (IsMorphing t one ⊎ IsLeavingLast t one) → (IsMorphing t other ⊎ IsLeavingLast t other) → one ≡ other
  neither one other first second = ⊎_elim
      (λ (m : IsMorphing t one). ⊎_elim (λ n. sound.loose.morphing.same one other m n) (λ last. absurd (not_both one other m last)) second)
      (λ (last : IsLeavingLast t one). ⊎_elim (λ (n : IsMorphing t other). absurd (not_both other one n last)) (λ also. one_leaving one other last also) second)
      first

  pub one_near : HasNone (IsDoneBesides t) → AtMostOne (IsNearlyDone t)
  one_near none = record { same = same }
    where
      same : (one other : ℕ) → IsNearlyDone t one → IsNearlyDone t other → one ≡ other
      same one other first second = ⊎_elim
          (λ is. is)
          (λ (differ : one ≢ other). ⊎_elim
          (λ done. absurd (none.none one (record { done = done; another = record { other = other; differ = λ e. differ (sym e); near = second } })))
          (λ rest. ⊎_elim
          (λ done. absurd (none.none other (record { done = done; another = record { other = one; differ = differ; near = first } })))
          (λ also. neither one other rest also)
          (near_kinds sound other second))
          (near_kinds sound one first))
          (cases_eq one other)

  -- the open entry is of none of its old blocks
  elsewhere : (start : ℕ) → IsDoneBesides t start → (root at place : ℕ) → t.open_entry ≡ Some (Place root at true place) → ¬ (IsInSlab t start at)
  elsewhere start besides root at place opens inside =
      let another = besides.another in
      ⊎_elim
      (λ (done : IsDoneSlab t another.other). another.differ (sound.loose.done.same another.other start done besides.done))
      (λ rest. ⊎_elim
      (λ (morphing : IsMorphing t another.other). (sound.owned.open_entry (Place root at true place) opens).none_morphing another.other morphing.slab morphing.kind)
      (λ (last : IsLeavingLast t another.other).
      let same : (slab_block another.other (t.header another.other).old ((t.header another.other).number last.place)).at ≡ at = ap place_at (sym last.leaving.entry ∙ opens) in
      another.differ (one_slab sound another.other start at (subst (λ a. IsInSlab t another.other a) same (leaving_inside another.other last)) inside))
      rest)
      (near_kinds sound another.other another.near)

pub steady_of : (words : List ℕ) → IsSoundImage words → HasNone (IsDoneBesides (tables_of words)) → IsSteadyImage words
steady_of words image none = record { formed = image.formed; steady = record { sound = image.sound; one_done = one_near image.sound none } }

pub endable_of : (words : List ℕ) → IsSoundImage words → (start : ℕ) → IsDoneBesides (tables_of words) start → IsEndable words start
endable_of words image start besides = record { image = image; here = besides.done; elsewhere = elsewhere image.sound start besides }

-- of a steady image no slab is done beside another that is nearly so
pub none_besides : (words : List ℕ) → IsSteadyImage words → HasNone (IsDoneBesides (tables_of words))
none_besides words image = record {
  none = λ start besides. besides.another.differ (image.steady.one_done.same besides.another.other start besides.another.near (nearly_done (tables_of words) start besides.done));
}

-- once its transition has ended the image is steady
pub steadied_of : (words : List ℕ) (start : ℕ) (new : List ℕ) → IsSoundImage words → IsDoneBesides (tables_of words) start → IsEnded words start new → IsSteadied words new
steadied_of words start new image besides ended = record {
  keeps = record {
    steady = steady_of new ended.image (record {
      none = λ other again.
          (ended.nearly other (nearly_done (tables_of new) other again.done)).1
          (image.sound.loose.done.same other start (ended.loose.done other again.done) besides.done);
    });
    bounds = ended.bounds;
    heap = ended.heap;
    blocks = ended.blocks;
  };
  header = (same_off_header start image besides.done.slab ended.off).fields;
  roots = ap (λ (t : Tables). t.root) ended.tables;
  slabs = classes_ended ended;
}

pub steadied_self : (words : List ℕ) → IsSteadyImage words → IsSteadied words words
steadied_self words image = record {
  keeps = record { steady = image; bounds = refl; heap = record { each = λ root. refl }; blocks = record { each = λ root other range k was is word. refl } };
  header = refl;
  roots = refl;
  slabs = classes_self (tables_of words);
}
