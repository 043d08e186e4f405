-- What `dump` has to say of an arena, as one of its pool.
use Rattle.std.proofs.Common.{◌≡◌, ℕ, ◌<◌, List, Result, subst, inr}
use Rattle.std.specs.Result.{IfOk}
use Rattle.pool_layout.specs.declared.header.PoolHeader.{PoolHeader}
use Rattle.pool_layout.specs.Image.{part_of, AreWordsOf}
use Rattle.program_io.specs.declared.answer.Answer.{Answer}
use Rattle.program_io.specs.declared.answer.Answer.TheVariants.{Output, FaultLine}
use Rattle.nvpool.specs.declared.cause.Cause.{Cause}
use Rattle.nvpool.specs.declared.cause.Cause.TheVariants.{Text, Image, NoArena, NoBlock}
use Rattle.nvpool.specs.Rules.{PoolRules}
use Rattle.nvpool.specs.Dumping.{dumping_by, IsBlockDump, HasArena, RefusesDump, RefusesArena, HaveWholeLines}
use Rattle.nvpool.specs.Ends.{IsAnswer, IsArenaAnswer, IsDumpAnswer, IsFaultLine}
use Rattle.nvpool.proofs.Answering.{ok_more}

module _ (r : PoolRules) (words own : List ℕ) (arena root : ℕ) (header : PoolHeader) (inside : arena < header.arenas) (part : own ≡ part_of words header.granules arena) where
  has_arena : (input : List ℕ) (Is : List ℕ → Type 0) → r.IsImage input words header → Is own → HasArena r input arena Is
  has_arena input Is image is = record { words = words; header = header; image = image; inside = inside; holds = subst Is part is }

  why_not : (input : List ℕ) (why : Cause) → r.IsImage input words header → RefusesArena r own arena root why → RefusesDump r arena root input why
  why_not input (Image found defect) image is = inr (is.0, has_arena input _ image is.1)
  why_not input (NoArena asked arenas) image is = absurd is
  why_not input (NoBlock asked named) image is = (is.0, is.1, has_arena input _ image is.2)
  why_not input (Text refusal) image is = absurd is

  one_answer : HaveWholeLines r.maps → (input : List ℕ) (answer : Answer) → r.IsImage input words header → IsArenaAnswer r own arena root answer → IsAnswer (dumping_by r arena root) input answer
  one_answer lines input (Output text) image is =
      has_arena input (λ ws. IsBlockDump r.maps ws root text.items) image (record { dump = is; whole = lines own root is.range is.named })
  one_answer lines input (FaultLine text) image is = record { why = is.why; cause = why_not input is.why image is.cause; line = is.line }

  pub arena_answer : {E : Type 0} (size : ℕ) (result : Result Answer E) → HaveWholeLines r.maps → ((image : List ℕ) → AreWordsOf words size image → r.IsImage image words header) → IfOk result (IsArenaAnswer r own arena root) →
      IfOk result (λ answer. (image : List ℕ) → AreWordsOf words size image → IsAnswer (dumping_by r arena root) image answer)
  arena_answer size result lines image_of =
      ok_more result (IsArenaAnswer r own arena root) (λ answer. (image : List ℕ) → AreWordsOf words size image → IsAnswer (dumping_by r arena root) image answer) (λ answer is image are. one_answer lines image answer (image_of image are) is)

-- the answers of an arena

module _ (r : PoolRules) (words : List ℕ) (arena root : ℕ) where
  -- the words of a block are one
  pub dumped : {E : Type 0} (result : Result Answer E) → IfOk result (IsDumpAnswer r words root) → IfOk result (IsArenaAnswer r words arena root)
  dumped result = ok_more result (IsDumpAnswer r words root) (IsArenaAnswer r words arena root) by
    where
      by : (answer : Answer) → IsDumpAnswer r words root answer → IsArenaAnswer r words arena root answer
      by (Output text) is = is
      by (FaultLine text) is = absurd is

  -- and so is a line that says why there is none
  pub not_dumped : {E : Type 0} (why : Cause) (result : Result Answer E) → RefusesArena r words arena root why → IfOk result (IsFaultLine why) → IfOk result (IsArenaAnswer r words arena root)
  not_dumped why result cause = ok_more result (IsFaultLine why) (IsArenaAnswer r words arena root) by
    where
      by : (answer : Answer) → IsFaultLine why answer → IsArenaAnswer r words arena root answer
      by (Output text) line = absurd line
      by (FaultLine text) line = record { why = why; cause = cause; line = line }
