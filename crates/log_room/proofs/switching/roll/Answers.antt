use Rattle.std.proofs.Common.{◌≡◌, ◌<◌, ◌∙◌, ◌∷◌, ◌++◌, [], List, ℕ, sym, ap, subst, take, arith, length, get_or, refl}
use Rattle.log_room.proofs.Common.{All, All-push, Event, words_of, Appends, then_step}
use Rattle.log_room.specs.Chunks.{spare_chunks}
use Rattle.log_room.specs.Copies.{copy_events, directory_events}
use Rattle.log_room.specs.Room.{kept_chunks}
use Rattle.log_room.proofs.Choices.{fresh_one, kept_holds}
use Rattle.log_room.proofs.Flushes.{flushed_copy, directory_inside, copy_one}
use Rattle.log_room.proofs.switching.roll.Goals as goal

pub bounds-as_slice-0 : goal.bounds-as_slice-0
bounds-as_slice-0 g c = (fresh_one c.args.active.now c.as_slice.result.now (c.as_slice.ensures.value ∙ c.spare_chunks-fresh.ensures) c.requires.most).inside

pub zero_chunk-requires-clause-chunk : goal.zero_chunk-requires-clause-chunk
zero_chunk-requires-clause-chunk g c = (fresh_one c.args.active.now c.as_slice.result.now (c.as_slice.ensures.value ∙ c.spare_chunks-fresh.ensures) c.requires.most).small

pub switch_directory-requires-clause-small : goal.switch_directory-requires-clause-small
switch_directory-requires-clause-small g c =
    let fresh = fresh_one c.args.active.now c.as_slice.result.now (c.as_slice.ensures.value ∙ c.spare_chunks-fresh.ensures) c.requires.most in
    let Few : ℕ → Type 0 = λ chunk. chunk < 16 in
    subst (All Few) (sym (c.as_slice-2.ensures.value ∙ c.push.ensures.items ∙ ap (λ (cs : List ℕ). cs ++ get_or c.as_slice.result.now 0 0 ∷ []) c.kept_chunks-chunks.ensures))
    (All-push Few (kept_chunks c.args.dropped c.args.active.now) (get_or c.as_slice.result.now 0 0) (kept_holds Few c.args.dropped c.args.active.now c.requires.small) fresh.small)

pub switch_directory-requires-clause-inside : goal.switch_directory-requires-clause-inside
switch_directory-requires-clause-inside g c =
    directory_inside c.args.version (length (words_of (g.P.Pmem.state c.zero_chunk.new.device))) (omega (arith, c.requires.inside, c.zero_chunk.ensures.appends.size))

pub switch_directory-requires-clause-flushed : goal.switch_directory-requires-clause-flushed
switch_directory-requires-clause-flushed g c =
    let state = g.P.Pmem.state in
    let version = c.args.version in
    let chunk = get_or c.as_slice.result.now 0 0 in
    let one = chunk ∷ [] in
    flushed_copy version one [] (subst (λ (es : List Event). Appends (state c.args.device.now) (state c.zero_chunk.new.device) es) (copy_one version chunk one refl) c.zero_chunk.ensures.appends) c.requires.quiet

pub returns : goal.returns
returns g c =
    let s = g.P.Pmem.state c.args.device.now in
    let u = g.P.Pmem.state c.switch_directory.new.device in
    let version = c.args.version in
    let chunk = get_or c.as_slice.result.now 0 0 in
    let one = take 1 (spare_chunks c.args.active.now) in
    let fresh = fresh_one c.args.active.now c.as_slice.result.now (c.as_slice.ensures.value ∙ c.spare_chunks-fresh.ensures) c.requires.most in
    let chunks : c.as_slice-2.result.now ≡ kept_chunks c.args.dropped c.args.active.now ++ one =
    c.as_slice-2.ensures.value ∙ c.push.ensures.items ∙ ap (λ (cs : List ℕ). cs ++ chunk ∷ []) c.kept_chunks-chunks.ensures ∙ ap (λ (cs : List ℕ). kept_chunks c.args.dropped c.args.active.now ++ cs) (sym fresh.is) in
    let first = subst (λ (es : List Event). Appends s (g.P.Pmem.state c.zero_chunk.new.device) es) (copy_one version chunk one fresh.is) c.zero_chunk.ensures.appends in
    subst (λ (cs : List ℕ). Appends s u (copy_events version one [] ++ directory_events cs)) chunks (then_step first c.switch_directory.ensures)
