-- The side of a call on which an image stands that a crash left, by whether the call's root has a block in it.
use Rattle.std.proofs.Common.{◌≡◌, ◌≢◌, ◌↔◌, ◌⊎◌, ℕ, Bool, true, false, not, IsTrue, List, Option, is_some, sym, ap, ◌∙◌, refl, subst, ⊎_elim}
use Rattle.trace_crashes.proofs.Common.{cases_eq, word_at, root_word, Range, Reply, CrashSide}
use Rattle.trace_text.specs.declared.call.CrashSide.TheVariants.{Same, Before, After}
use Rattle.trace_crashes.specs.Crash.{Variant, IsSide}
use Rattle.trace_crashes.specs.Sides.{side_of, side_by}
use Rattle.trace_crashes.proofs.Changes.{IsChange, Effect}
use Rattle.trace_crashes.proofs.Changes.Effect.{Changed, Kept}

-- the root's block

not_told : (has : Bool) → (IsTrue has → ⊥) → has ≡ false
not_told true never = absurd (never refl)
not_told false never = refl

-- a root has a block where its word is not 0, once it has none at 0 and one otherwise
pub is_some-told : (words : List ℕ) (root : ℕ) (block : Option Range) (has : Bool) → (word_at words (root_word root) ≡ 0 → is_some block ≡ false) → (word_at words (root_word root) ≢ 0 → is_some block ≡ true) →
    (IsTrue has ↔ (word_at words (root_word root) ≢ 0)) → is_some block ≡ has
is_some-told words root block has none some reads = ⊎_elim
    (λ (is : word_at words (root_word root) ≡ 0). none is ∙ sym (not_told has (λ yes'. reads.0 yes' is)))
    (λ (is : word_at words (root_word root) ≢ 0). some is ∙ sym (reads.1 is))
    (cases_eq (word_at words (root_word root)) 0)

-- the side

before : (given : Bool) → side_of (not given) given ≡ Before
before true = refl
before false = refl

after : (given : Bool) → side_of given given ≡ After
after true = refl
after false = refl

apart : (given : Bool) → not given ≡ given → ⊥
apart true e = absurd (cc)
apart false e = absurd (cc)

-- of an image that has the heap from before a call or from after it
module _ (variant : Variant) (heap : List ℕ → ℕ → Option Range) (each : (words image : List ℕ) → variant.HaveSame words image → (root : ℕ) → heap image root ≡ heap words root)
    (all : (words image : List ℕ) → ((root : ℕ) → heap image root ≡ heap words root) → variant.HaveSame words image) (old new image : List ℕ) (either : variant.HaveSame old image ⊎ variant.HaveSame new image) where
  abbrev Side : CrashSide → Type 0
  Side = IsSide variant old new image

  -- of a call that changes the heap
  IsSide-changed : (root : ℕ) (given has : Bool) → IsChange heap old new root given → is_some (heap image root) ≡ has → Side (side_of has given)
  IsSide-changed root given has change told =
      let differ : ¬ (variant.HaveSame old new) = λ same. apart given (sym change.before ∙ ap is_some (sym (each old new same root)) ∙ change.after) in
      ⊎_elim
      (λ (same : variant.HaveSame old image).
      let is : has ≡ not given = sym told ∙ ap is_some (each old image same root) ∙ change.before in
      subst Side (sym (ap (λ h. side_of h given) is ∙ before given)) (differ, same))
      (λ (same : variant.HaveSame new image).
      let is : has ≡ given = sym told ∙ ap is_some (each new image same root) ∙ change.after in
      subst Side (sym (ap (λ h. side_of h given) is ∙ after given)) (differ, same))
      either

  -- of a call that leaves it
  IsSide-same : ((root : ℕ) → heap new root ≡ heap old root) → Side Same
  IsSide-same still = (
    all old new still,
    ⊎_elim
        (λ (same : variant.HaveSame old image). all new image (λ root. each old image same root ∙ sym (still root)))
        (λ (same : variant.HaveSame new image). same)
        either,
  )

  -- by the call's reply, and by whether the call's root has a block
  pub IsSide-told : (root : ℕ) (reply : Reply) (has : Bool) → Effect heap old new root reply → is_some (heap image root) ≡ has → Side (side_by reply has)
  IsSide-told root reply has effect told = elim effect [
    | Changed given change side ↦ subst Side (side has) (IsSide-changed root given has change told)
    | Kept same side ↦ subst Side (side has) (IsSide-same same)
  ]
