-- The side of a call under way on which a heap stands, by whether the call's root has a block in it.
use Rattle.std.specs.Prelude.{Bool, true, false}
use Rattle.heap_model.specs.declared.call.Reply.{Reply}
use Rattle.heap_model.specs.declared.call.Reply.TheVariants.{Placed, Freed, Moved}
use Rattle.trace_text.specs.declared.call.CrashSide.{CrashSide}
use Rattle.trace_text.specs.declared.call.CrashSide.TheVariants.{Same, Before, After}

-- whether the root has the block, and whether the call gives it: a call that gives it has it after, one that takes it before
abbrev pub side_of : Bool → Bool → CrashSide
side_of true true = After
side_of true false = Before
side_of false true = Before
side_of false false = After

-- the same by the call's reply: a block that moves comes to the root, and a call that gives none, takes none and moves none
-- changes no heap
abbrev pub side_by : Reply → Bool → CrashSide
side_by (Placed at size) has = side_of has true
side_by (Freed at size) has = side_of has false
side_by (Moved at size) has = side_of has true
side_by reply has = Same
