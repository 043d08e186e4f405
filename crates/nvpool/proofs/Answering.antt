-- What a command has to say, from what its parts say.
use Rattle.std.proofs.Common.{ℕ, List, Result, Ok, Err}
use Rattle.std.specs.Result.{IfOk, IfErr}
use Rattle.pool_layout.specs.Image.{AreWordsOf}
use Rattle.trace_text.specs.declared.call.Refusal.TheVariants.{BadLine}
use Rattle.program_io.specs.declared.answer.Answer.{Answer}
use Rattle.program_io.specs.declared.answer.Answer.TheVariants.{Output, FaultLine}
use Rattle.nvpool.specs.declared.cause.Cause.{Cause}
use Rattle.nvpool.specs.declared.cause.Cause.TheVariants.{Text}
use Rattle.nvpool.specs.Meaning.{Meaning}
use Rattle.nvpool.specs.Ends.{IsAnswer, IsFaultLine, IsBadLine}

-- what an Ok says implies more
pub ok_more : {X E : Type 0} (r : Result X E) (P Q : X → Type 0) → ((x : X) → P x → Q x) → IfOk r P → IfOk r Q
ok_more (Ok x) P Q more is = more x is
ok_more (Err e) P Q more is = tt

-- and so does what an Err says
pub err_more : {X E : Type 0} (r : Result X E) (P Q : E → Type 0) → ((e : E) → P e → Q e) → IfErr r P → IfErr r Q
err_more (Ok x) P Q more is = tt
err_more (Err e) P Q more is = more e is

-- a line that says why is the answer where the cause holds
refused_by : (m : Meaning) (input : List ℕ) (why : Cause) (answer : Answer) → m.refuses input why → IsFaultLine why answer → IsAnswer m input answer
refused_by m input why (Output text) cause line = absurd line
refused_by m input why (FaultLine text) cause line = record { why = why; cause = cause; line = line }

-- a call that makes that line has the answer
pub refused : {E : Type 0} (m : Meaning) (input : List ℕ) (why : Cause) (result : Result Answer E) → m.refuses input why → IfOk result (IsFaultLine why) → IfOk result (IsAnswer m input)
refused m input why result cause = ok_more result (IsFaultLine why) (IsAnswer m input) (λ answer. refused_by m input why answer cause)

-- and so has one that makes the line of a text that is refused, of a command that refuses such texts
pub refused_line : {E : Type 0} (m : Meaning) (input : List ℕ) (IsRefused : ℕ → Type 0) (result : Result Answer E) → ((line : ℕ) → IsRefused line → m.refuses input (Text (BadLine line))) → IfOk result (IsBadLine IsRefused) → IfOk result (IsAnswer m input)
refused_line m input IsRefused result refuses = ok_more result (IsBadLine IsRefused) (IsAnswer m input) (λ answer bad. refused_by m input (Text (BadLine bad.0)) answer (refuses bad.0 bad.1) bad.2)

-- and so has a call that makes the line of an image that is refused, whichever bytes its words are of
pub refused_image : {E : Type 0} (m : Meaning) (words : List ℕ) (size : ℕ) (why : Cause) (result : Result Answer E) → ((image : List ℕ) → AreWordsOf words size image → m.refuses image why) →
    IfOk result (IsFaultLine why) → IfOk result (λ answer. (image : List ℕ) → AreWordsOf words size image → IsAnswer m image answer)
refused_image m words size why result cause = ok_more result (IsFaultLine why) (λ answer. (image : List ℕ) → AreWordsOf words size image → IsAnswer m image answer) (λ answer line image are. refused_by m image why answer (cause image are) line)
