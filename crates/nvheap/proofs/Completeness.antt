-- Without a fault a command is done on what it accepts, or wants memory.
use Rattle.std.proofs.Common.{◌≡◌, ◌⊎◌, ℕ, List, refl, subst, inl, inr}
use Rattle.nvheap.specs.declared.command.Command.{Command}
use Rattle.nvheap.specs.declared.cause.Cause.{Cause}
use Rattle.program_io.specs.declared.status.Status.{Status}
use Rattle.program_io.specs.declared.status.Status.TheVariants as ends
use Rattle.nvheap.specs.Outside.{Outside}
use Rattle.program_io.specs.Inputs.{limit_of}
use Rattle.nvheap.specs.Meaning.{Meaning}
use Rattle.nvheap.specs.Command.{meaning_of, IsCommand, IsSaid}
use Rattle.nvheap.specs.Ends.{Ends, HasAcceptable}
use Rattle.program_io.proofs.Whole.{one_input, not_more}
use Rattle.nvheap.proofs.Table.{settled, said_holds}

-- how a command ends on what it accepts, where neither the source nor the sink failed
ends_well : (m : Meaning) → ((input : List ℕ) (why : Cause) → m.accepts input → ¬ (m.refuses input why)) → (old new : Outside) (status : Status) → Ends m old new status → HasAcceptable m old.left → ¬ (status ≡ ends.ReadFault) → ¬ (status ≡ ends.WriteFault) →
    (status ≡ ends.Done) ⊎ (status ≡ ends.Memory)
ends_well m settled old new ends.Done is has reads writes = inl refl
ends_well m settled old new ends.Usage is has reads writes = absurd is
ends_well m settled old new ends.Refused is has reads writes =
    let same : is.input ≡ has.input = one_input (limit_of m.reads) old.left new.left has.input is.input has.left_is is.read in
    absurd (settled has.input is.says.why has.accepts (subst (λ (bytes : List ℕ). m.refuses bytes is.says.why) same is.says.cause))
ends_well m settled old new ends.ReadFault is has reads writes = absurd (reads refl)
ends_well m settled old new ends.WriteFault is has reads writes = absurd (writes refl)
ends_well m settled old new ends.Memory is has reads writes = inr refl
ends_well m settled old new ends.TooLong is has reads writes = absurd (not_more (limit_of m.reads) old.left new.left has.input has.left_is is)

-- the same by the words, where the counts of faults did not rise
pub completes : (words : List (List ℕ)) (command : Command) (old new : Outside) (status : Status) (Read Written : Type 0) → IsCommand words command → Ends (meaning_of command) old new status →
    (status ≡ ends.ReadFault → Read) → (status ≡ ends.WriteFault → Written) → IsSaid words (λ m. HasAcceptable m old.left) → ¬ Read → ¬ Written → (status ≡ ends.Done) ⊎ (status ≡ ends.Memory)
completes words command old new status Read Written said is read written accepted reads writes =
    ends_well (meaning_of command) (settled command) old new status is (said_holds words command (λ m. HasAcceptable m old.left) said accepted) (λ fault. reads (read fault)) (λ fault. writes (written fault))
