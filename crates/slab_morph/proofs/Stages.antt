-- What the slab holds stays at each stage, and so the steps' crash clauses are put together.
use Rattle.std.proofs.Common.{◌≡◌, ◌⊎◌, ◌<◌, ◌++◌, ⊎_elim, inl, inr, ℕ, false, List, length, refl, sym, ap, ◌∙◌, subst}
use Rattle.slab_morph.proofs.Common.{word_at, Event, reading, IsQuiet, CrashOnly, then, weaker, normal_kind, morphing_kind, morphed_kind, IsState, IsStateWord, IsIndexWord, state_word, index_word, SlabHeader}
use Rattle.slab_morph.specs.SlabHeaders.{header_at}
use Rattle.slab_morph.specs.Stages.{set_numbers, with_no_bit, morphing, finished, settled, IsSameButBits, IsFinishStage, IsMorphStage, IsSettleStage, IsOffHeader, IsOffState, IsOffBitmap, IsOffIndex, HoldSame, IsValidHeader, KeepsHeld, Changes}
use Rattle.slab_morph.proofs.HeaderTables.{leaves_by, off_then, off_none}
use Rattle.slab_morph.proofs.HeaderWords.{header_off_index, header_off_bitmap, off_index, off_bitmap, off_state}
use Rattle.slab_morph.proofs.Holding.{same_none, same_then, same_index, same_bits, same_finished, same_settled, same_morphing}
use Rattle.slab_morph.proofs.TableHolds.{all_hold_same}
use Rattle.slab_morph.proofs.Validity.{valid_bitmap, valid_index, valid_morphing, valid_finished, valid_settled}

-- the words of a step's last fence or of its next
abbrev OneOf : List ℕ → List ℕ → List ℕ → Type 0
OneOf old new image = (image ≡ old) ⊎ (image ≡ new)

pub keeps_by : (words image : List ℕ) (start : ℕ) (Stage : SlabHeader → Type 0) → IsOffHeader words start image → Stage (header_at image start) → HoldSame start (header_at words start) (header_at image start) →
    (IsValidHeader words start → IsValidHeader image start) → KeepsHeld words start Stage image
keeps_by words image start Stage off stage held valid = record { left = leaves_by words image start Stage off stage; held = held; valid = valid; all_held = all_hold_same words image start off held }

-- where the header changes in this way
pub keeps_changed : {words image : List ℕ} {start : ℕ} {change : SlabHeader → SlabHeader} → Changes words image start change → HoldSame start (header_at words start) (header_at image start) → (IsValidHeader words start → IsValidHeader image start) →
    KeepsHeld words start (λ (g : SlabHeader). g ≡ change (header_at words start)) image
keeps_changed {words} {image} {start} {change} done held valid = keeps_by words image start (λ (g : SlabHeader). g ≡ change (header_at words start)) done.off done.header held valid

-- what is said of the header, said more widely
pub keeps_wider : {words : List ℕ} {start : ℕ} {Stage Wider : SlabHeader → Type 0} {image : List ℕ} → ((h : SlabHeader) → Stage h → Wider h) → KeepsHeld words start Stage image → KeepsHeld words start Wider image
keeps_wider {words} {start} {Stage} {Wider} {image} implies kept = record {
  left = record { off = kept.left.off; header = implies (header_at image start) kept.left.header; tables = kept.left.tables };
  held = kept.held;
  valid = kept.valid;
  all_held = kept.all_held;
}

-- a header that is this one
keeps_is : (words image : List ℕ) (start : ℕ) (Stage : SlabHeader → Type 0) (g : SlabHeader) → IsOffHeader words start image → header_at image start ≡ g → Stage g → HoldSame start (header_at words start) g →
    (IsValidHeader words start → IsValidHeader image start) → KeepsHeld words start Stage image
keeps_is words image start Stage g off is stage held valid =
    keeps_by words image start Stage off (subst Stage (sym is) stage) (subst (HoldSame start (header_at words start)) (sym is) held) valid

-- both of two
either : (P : List ℕ → Type 0) {old new : List ℕ} → P old → P new → (image : List ℕ) → OneOf old new image → P image
either P {old} {new} first second image is = ⊎_elim (λ same. subst P (sym same) first) (λ same. subst P (sym same) second) is

no_bit_left : (h : SlabHeader) → IsSameButBits h (with_no_bit h)
no_bit_left h = record { state = record { kind = refl; class = refl; old = refl; index_count = refl }; live = refl; number = refl }

-- a slab on its way to its class
module _ (words : List ℕ) (start : ℕ) (is : (header_at words start).kind ≡ morphing_kind) where
  abbrev h : SlabHeader
  h = header_at words start

  abbrev Finish : List ℕ → Type 0
  Finish = KeepsHeld words start (IsFinishStage h)

  clearing : (image : List ℕ) → IsOffBitmap words start image → Finish image
  clearing image off =
      let same = header_off_bitmap words image start off in
      keeps_by words image start (IsFinishStage h) (off_bitmap words image start off) (inl same) (same_bits start h (header_at image start) is same) (valid_bitmap words image start off)

  module _ (cleared new : List ℕ) (off : IsOffBitmap words start cleared) (no_bit : header_at cleared start ≡ with_no_bit h) (told : IsOffState cleared start new) (state : IsStateWord (word_at new (state_word start))) (there : header_at new start ≡ finished h) where
    -- the state word says so
    pub finishing : Finish new
    finishing =
        let same : header_at new start ≡ finished (header_at cleared start) = there ∙ ap finished (sym no_bit) in
        let way : (header_at cleared start).kind ≡ morphing_kind = ap (λ (g : SlabHeader). g.kind) no_bit ∙ is in
        keeps_is words new start (IsFinishStage h) (finished h) (off_then words cleared new start (off_bitmap words cleared start off) (off_state cleared new start told)) there (inr refl) (same_finished start h is)
        (λ valid. valid_finished cleared new start told state way same (valid_bitmap words cleared start off valid))

    pub finish_crash : (e f : List Event) → IsQuiet e → cleared ≡ reading words e → CrashOnly words e (IsOffBitmap words start) → CrashOnly cleared f (OneOf cleared new) → CrashOnly words (e ++ f) Finish
    finish_crash e f quiet left first second =
        then words e f Finish quiet
        (weaker words e (IsOffBitmap words start) Finish clearing first)
        (subst (λ (ws : List ℕ). CrashOnly ws f Finish) left (weaker cleared f (OneOf cleared new) Finish (either Finish (clearing cleared off) finishing) second))

-- a slab in which no old block lives
module _ (words new : List ℕ) (start : ℕ) (is : (header_at words start).kind ≡ morphed_kind) (none : (place : ℕ) → place < (header_at words start).index_count → (header_at words start).live place ≡ false)
    (off : IsOffState words start new) (state : IsStateWord (word_at new (state_word start))) (there : header_at new start ≡ settled (header_at words start)) where
  abbrev Settle : List ℕ → Type 0
  Settle = KeepsHeld words start (IsSettleStage (header_at words start))

  unsettled : Settle words
  unsettled = keeps_by words words start (IsSettleStage (header_at words start)) (off_none words start) (inl refl) (same_none start (header_at words start)) (λ valid. valid)

  pub settling : Settle new
  settling = keeps_is words new start (IsSettleStage (header_at words start)) (settled (header_at words start)) (off_state words new start off) there (inr refl) (same_settled start (header_at words start) is none)
      (valid_settled words new start off state there)

  pub settle_crash : (e : List Event) → CrashOnly words e (OneOf words new) → CrashOnly words e Settle
  settle_crash e left = weaker words e (OneOf words new) Settle (either Settle unsettled settling) left

-- a normal slab
module _ (words : List ℕ) (start class : ℕ) (normal : (header_at words start).kind ≡ normal_kind) (none : (header_at words start).index_count ≡ 0) where
  abbrev n : SlabHeader
  n = header_at words start

  abbrev Morph : List ℕ → Type 0
  Morph = KeepsHeld words start (IsMorphStage n class)

  bits_alone : IsSameButBits (morphing n class) (morphing n class)
  bits_alone = record { state = record { kind = refl; class = refl; old = refl; index_count = refl }; live = refl; number = refl }

  indexing : (image : List ℕ) → IsOffIndex words start image → Morph image
  indexing image off =
      let same = header_off_index words image start off in
      keeps_by words image start (IsMorphStage n class) (off_index words image start off) (inl same) (same_index start n (header_at image start) none same) (valid_index words image start off none)

  module _ (indexed told : List ℕ) (off : IsOffIndex words start indexed) (index : (place : ℕ) → place < length (set_numbers n) → IsIndexWord (word_at indexed (index_word start place)))
      (tells : IsOffState indexed start told) (state : IsStateWord (word_at told (state_word start))) (there : header_at told start ≡ morphing n class) (fields : IsState morphing_kind class n.class (length (set_numbers n))) where
    told_off : IsOffHeader words start told
    told_off = off_then words indexed told start (off_index words indexed start off) (off_state indexed told start tells)

    pub told_valid : IsValidHeader told start
    told_valid = valid_morphing indexed told start class n tells state there index normal none fields

    telling : Morph told
    telling = keeps_is words told start (IsMorphStage n class) (morphing n class) told_off there (inr (inl bits_alone)) (same_morphing start class n normal none) (λ _. told_valid)

    pub finishing_it : (image : List ℕ) → KeepsHeld told start (IsFinishStage (header_at told start)) image → Morph image
    finishing_it image kept =
        keeps_by words image start (IsMorphStage n class) (off_then words told image start told_off kept.left.off)
        (inr (subst (λ (g : SlabHeader). IsFinishStage g (header_at image start)) there kept.left.header))
        (same_then start n (morphing n class) (header_at image start) (same_morphing start class n normal none) (subst (λ (g : SlabHeader). HoldSame start g (header_at image start)) there kept.held))
        (λ _. kept.valid told_valid)

    pub morph_crash : (e f k : List Event) → IsQuiet e → IsQuiet (e ++ f) → indexed ≡ reading words e → told ≡ reading words (e ++ f) → CrashOnly words e (IsOffIndex words start) → CrashOnly indexed f (OneOf indexed told) →
        CrashOnly told k (KeepsHeld told start (IsFinishStage (header_at told start))) → CrashOnly words (e ++ f ++ k) Morph
    morph_crash e f k first_quiet quiet first second put last finish =
        then words (e ++ f) k Morph quiet
        (then words e f Morph first_quiet
        (weaker words e (IsOffIndex words start) Morph indexing put)
        (subst (λ (ws : List ℕ). CrashOnly ws f Morph) first (weaker indexed f (OneOf indexed told) Morph (either Morph (indexing indexed off) telling) last)))
        (subst (λ (ws : List ℕ). CrashOnly ws k Morph) second (weaker told k (KeepsHeld told start (IsFinishStage (header_at told start))) Morph finishing_it finish))
