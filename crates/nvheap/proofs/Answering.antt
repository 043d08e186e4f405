-- What a command has to say, from what its parts say.
use Rattle.std.proofs.Common.{ℕ, List, refl, Result, Ok, Err}
use Rattle.std.specs.Result.{IfOk}
use Rattle.nvheap.proofs.Common.{AreWordsOf, BadLine}
use Rattle.nvheap.specs.declared.cause.Cause.{Cause}
use Rattle.nvheap.specs.declared.cause.Cause.TheVariants.{Text}
use Rattle.program_io.specs.declared.answer.Answer.{Answer}
use Rattle.program_io.specs.declared.answer.Answer.TheVariants.{Output, FaultLine}
use Rattle.nvheap.specs.Meaning.{Places, Meaning}
use Rattle.nvheap.specs.Ends.{IsAnswer, IsFaultLine, IsBadLine}

-- what an Ok says implies more
pub IfOk-more : {X E : Type 0} (r : Result X E) (P Q : X → Type 0) → ((x : X) → P x → Q x) → IfOk r P → IfOk r Q
IfOk-more (Ok x) P Q more is = more x is
IfOk-more (Err e) P Q more is = tt

-- a line that says why is the answer where the cause holds
pub IsAnswer-refused : (m : Meaning) (input : List ℕ) (places : Places) (why : Cause) (answer : Answer) →
    m.refuses input why → IsFaultLine why answer → IsAnswer m input places places answer
IsAnswer-refused m input places why (Output text) cause line = absurd line
IsAnswer-refused m input places why (FaultLine text) cause line = record { why = why; cause = cause; line = line; aside = refl }

-- a call that makes that line has the answer
pub refused : {E : Type 0} (m : Meaning) (input : List ℕ) (places : Places) (why : Cause) (result : Result Answer E) → m.refuses input why → IfOk result (IsFaultLine why) → IfOk result (IsAnswer m input places places)
refused m input places why result cause line = IfOk-more result (IsFaultLine why) (IsAnswer m input places places) (λ answer. IsAnswer-refused m input places why answer cause) line

-- and so has one that makes the line of a text that is refused, of a command that refuses such texts
pub refused_line : {E : Type 0} (m : Meaning) (input : List ℕ) (places : Places) (IsRefused : ℕ → Type 0) (result : Result Answer E) → ((line : ℕ) → IsRefused line → m.refuses input (Text (BadLine line))) →
    IfOk result (IsBadLine IsRefused) → IfOk result (IsAnswer m input places places)
refused_line m input places IsRefused result refuses = IfOk-more result (IsBadLine IsRefused) (IsAnswer m input places places) (λ answer bad. IsAnswer-refused m input places (Text (BadLine bad.0)) answer (refuses bad.0 bad.1) bad.2)

-- and so has one that makes the line of an image that is refused, whichever bytes its words are of
pub refused_image : {E : Type 0} (m : Meaning) (words : List ℕ) (size : ℕ) (why : Cause) (result : Result Answer E) → ((image : List ℕ) → AreWordsOf words size image → m.refuses image why) →
    IfOk result (IsFaultLine why) → IfOk result (λ answer. (image : List ℕ) (places : Places) → AreWordsOf words size image → IsAnswer m image places places answer)
refused_image m words size why result cause = IfOk-more result (IsFaultLine why) (λ answer. (image : List ℕ) (places : Places) → AreWordsOf words size image → IsAnswer m image places places answer) (λ answer line image places are. IsAnswer-refused m image places why answer (cause image are) line)
