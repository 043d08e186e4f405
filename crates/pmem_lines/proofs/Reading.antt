-- What is read after events.
use Rattle.std.proofs.Common.{◌≡◌, ℕ, ◌/◌, List, [], ◌∷◌, ◌++◌, length, ◌∙◌, refl}
use Rattle.pmem_lines.specs.declared.event.Event.{Event}
use Rattle.pmem_lines.specs.declared.event.Event.TheVariants.{Store, Flush, Fence}
use Rattle.pmem_lines.specs.Words.{put_word}
use Rattle.pmem_lines.proofs.Words.{length-put_word}
use Rattle.pmem_lines.specs.Events.{reading}

-- events change no length
pub length-reading : (base : List ℕ) (events : List Event) → length (reading base events) ≡ length base
length-reading base [] = refl
length-reading base (Store at value ∷ events) = length-reading (put_word base (at / 8) value) events ∙ length-put_word base (at / 8) value
length-reading base (Flush line ∷ events) = length-reading base events
length-reading base (Fence ∷ events) = length-reading base events

-- events that follow others
pub reading-append : (base : List ℕ) (e f : List Event) → reading base (e ++ f) ≡ reading (reading base e) f
reading-append base [] f = refl
reading-append base (Store at value ∷ e) f = reading-append (put_word base (at / 8) value) e f
reading-append base (Flush line ∷ e) f = reading-append base e f
reading-append base (Fence ∷ e) f = reading-append base e f
