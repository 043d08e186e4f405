-- The first two roots whose blocks overlap, in a list of claims and in an image.
use Rattle.std.proofs.Common.{◌≡◌, ℕ, ◌+◌, ◌-◌, ◌/◌, ◌^◌, ◌<◌, List, length, Some, refl, sym, ap, subst, ◌∙◌, arith, ⊎_elim}
use Rattle.size_classes.proofs.Spacing.{class_size-least, class_size-most}
use Rattle.image_tables.specs.Tables.{Tables}
use Rattle.heap_model.specs.Machine.{Range}
use Rattle.heap_check.proofs.Geometry.{is_large-parts}
use Rattle.book_log.specs.Book.{Book}
use Rattle.image_defects.specs.declared.found.Pair.{Pair}
use Rattle.image_defects.specs.Blocks.{DoOverlap}
use Rattle.image_defects.specs.Least.{HasNone, IsLeast}
use Rattle.defect_search.specs.declared.claim.Claim.{Claim}
use Rattle.defect_search.specs.Claims.{claim_in, range_of, IsRising}
use Rattle.defect_search.specs.Pairs.{DoClash}
use Rattle.gc_check.specs.Heap.{address_field, class_field, gc_size, gc_tables, gc_heap}
use Rattle.gc_check.specs.Defects.{AreGcStanding, HasGcShared, IsGcSharing, AreGcUnshared}
use Rattle.gc_check.proofs.Heaps.{size_large, size_small, IsNamed-heap}
use Rattle.gc_search.specs.Known.{IsLogRead}
use Rattle.gc_search.specs.Claims.{AreGcClaims}
use Rattle.gc_search.specs.Pairs.{AreInOrder, IsClashing, HasNoClashing, IsFirstClashing, IsPartner, DoShare, HasNoSharing, IsFirstSharing}
use Rattle.gc_search.proofs.Premises.{large_lies, few_granules}
use Rattle.gc_search.proofs.Standing.{gc_large}

-- in a list

pub none_sharing : (claims : List Claim) → HasNoClashing claims (length claims) → HasNoSharing claims
none_sharing claims none = record { none = λ root sharing. let s = sharing.shared in none.none s.i s.clash.first (record { other = s.j; clash = s.clash }) }

pub first_sharing : (claims : List Claim) (i second : ℕ) → AreInOrder claims → IsFirstClashing claims (length claims) i → IsLeast (IsPartner claims i) second → IsFirstSharing claims (record { first = (claim_in claims i).root; second = second })
first_sharing claims i second order is partner =
    let p = partner.here in
    let shared : DoShare claims (claim_in claims i).root second = record { i = i; j = p.j; clash = p.clash; first = refl; second = p.is } in
    record {
      first = record {
        here = record { other = second; shared = shared };
        least = λ root sharing.
            let s = sharing.shared in
            omega (arith, is.least s.i s.clash.first (record { other = s.j; clash = s.clash }), s.first);
      };
      second = record {
        here = shared;
        least = λ other s.
            let same : s.i ≡ i = order.once s.i i s.clash.first is.below s.first in
            partner.least other (record { j = s.j; clash = subst (λ k. DoClash claims k s.j) same s.clash; is = s.second });
      };
    }

-- a claim that overlaps another has a partner
pub has_partner : (claims : List Claim) (i : ℕ) → IsClashing claims i → HasNone (IsPartner claims i) → ⊥
has_partner claims i clashing none = none.none (claim_in claims clashing.other).root (record { j = clashing.other; clash = clashing.clash; is = refl })

-- in an image

module _ (t : Tables) (claims : List Claim) (are : AreGcClaims t claims) where
  share_of : (root other : ℕ) → HasGcShared t root other → DoShare claims root other
  share_of root other shared =
      let one = are.all root shared.range shared.block in
      let two = are.all other shared.another shared.second in
      record {
        i = one.0;
        j = two.0;
        clash = record {
          first = one.1;
          second = two.1;
          differ = λ same. shared.differ (sym one.2 ∙ same ∙ two.2);
          overlap = subst (λ r. DoOverlap r (range_of (claim_in claims two.0))) (sym one.3) (subst (λ r. DoOverlap shared.range r) (sym two.3) shared.overlap);
        };
        first = one.2;
        second = two.2;
      }

  shared_of : (root other : ℕ) → DoShare claims root other → HasGcShared t root other
  shared_of root other share = record {
    differ = λ same. share.clash.differ (share.first ∙ same ∙ sym share.second);
    range = range_of (claim_in claims share.i);
    another = range_of (claim_in claims share.j);
    block = ap (gc_heap t) (sym share.first) ∙ are.each share.i share.clash.first;
    second = ap (gc_heap t) (sym share.second) ∙ are.each share.j share.clash.second;
    overlap = share.clash.overlap;
  }

  pub unshared_of : HasNoSharing claims → AreGcUnshared t
  unshared_of none = record { none = λ root sharing. none.none root (record { other = sharing.other; shared = share_of root sharing.other sharing.shared }) }

  pub first_of : (pair : Pair) → IsFirstSharing claims pair → IsLeast (IsGcSharing t) pair.first
  first_of pair is = record {
    here = let s = is.first.here in record { other = s.other; shared = shared_of pair.first s.other s.shared };
    least = λ other sharing. is.first.least other (record { other = sharing.other; shared = share_of other sharing.other sharing.shared });
  }

  pub second_of : (pair : Pair) → IsFirstSharing claims pair → IsLeast (HasGcShared t pair.first) pair.second
  second_of pair is = record {
    here = shared_of pair.first pair.second is.second.here;
    least = λ other shared. is.second.least other (share_of pair.first other shared);
  }

-- the blocks of an image have some bytes, and not too many
module _ {words : List ℕ} {log : Book} (read : IsLogRead words log) (standing : AreGcStanding (gc_tables words)) where
  sized : (root : ℕ) (range : Range) → gc_heap (gc_tables words) root ≡ Some range → (0 < range.size) × (range.at + range.size < 2 ^ 64)
  sized root range block =
      let t = gc_tables words in
      let is = IsNamed-heap t root range block in
      let word = t.word root in
      let stands = standing root is.some in
      let at : range.at ≡ address_field word = ap (λ (r : Range). r.at) is.is in
      let size : range.size ≡ gc_size t.large word = ap (λ (r : Range). r.size) is.is in
      ⊎_elim
      (λ large.
      let wide = size_large t.large word large.0 in
      let parts = is_large-parts t.large (address_field word) large.1 in
      let own = address_field word / 16384 in
      let lies = large_lies read own (omega (arith, gc_large words own, parts.1)) in
      (omega (arith, size, wide, parts.1), omega (arith, size, wide, at, gc_large words own, lies.1, few_granules words read.header)))
      (λ small.
      let wide = size_small t.large word small.0 in
      let is_class : class_field word - 1 < 36 = omega (arith, small.0, stands.form.class) in
      (omega (arith, size, wide, class_size-least (class_field word - 1) is_class), omega (arith, size, wide, at, class_size-most (class_field word - 1) is_class)))
      stands.stands

  pub in_order : (claims : List Claim) → AreGcClaims (gc_tables words) claims → IsRising claims → AreInOrder claims
  in_order claims are rising = record {
    rising = rising;
    once = are.once;
    some = λ i below. (sized (claim_in claims i).root (range_of (claim_in claims i)) (are.each i below)).0;
    fits = λ i below. (sized (claim_in claims i).root (range_of (claim_in claims i)) (are.each i below)).1;
  }
