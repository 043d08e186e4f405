use Rattle.std.proofs.Common.{arith, subst, sym, ap, ◌∙◌, ◌≡◌, ◌++◌, ℕ, List, Option, length}
use Rattle.heap_model.specs.declared.block.Block.{Block}
use Rattle.trace_text.specs.Report.{crash_text}
use Rattle.gc_check.specs.Image.{IsGcSoundImage}
use Rattle.gc_check.proofs.Faultless.{faultless_of}
use Rattle.gc_check.proofs.Order.{no_defect}
use Rattle.gc_recover.specs.Recovered.{IsGcRecovered}
use Rattle.gc_recover.proofs.Recoveries.{gc_recovered_device}
use Rattle.gc_heap.proofs.Sizes.{first_sizes}
use Rattle.gc_runs.proofs.Listing.{gc_blocks_in-same}
use Rattle.nvheap.proofs.Common.{PmemState, words_of, fresh}
use Rattle.nvheap.specs.Outside.{put_device}
use Rattle.nvheap.proofs.gc_crashing.recovered_report.Goals as goal

pub take_image-requires-clause-few : goal.take_image-requires-clause-few
take_image-requires-clause-few g c =
    let sizes = first_sizes c.args.crashed.now.image.items c.requires.sound.formed in
    omega (arith, ap length c.deref-image.ensures.value, sizes.size, sizes.most)

pub unreachable-requires : goal.unreachable-requires
unreachable-requires g c =
    let words = words_of (g.H.Device.Pmem.state c.in_ok-device.device) in
    let same : words ≡ c.args.crashed.now.image.items = ap (λ (s : PmemState). words_of s) c.in_ok-device.ensures.device ∙ c.deref-image.ensures.value in
    no_defect words c.in-Err-Defect-default.field-0-0-0 (faultless_of words (subst IsGcSoundImage (sym same) c.requires.sound)) (rw c.in-Err-Defect-default.field-0-0-is at c.in-Err-Defect-default.ensures.defect)

pub returns-clause-text : goal.returns-clause-text
returns-clause-text g c =
    let crashed = c.args.crashed.now in
    let device : PmemState = c.in-Ok.recovered.device in
    let begun : g.H.Device.Pmem.state c.in_ok-device.device ≡ fresh crashed.image.items c.args.room = c.in_ok-device.ensures.device ∙ ap (λ (ws : List ℕ). fresh ws c.args.room) c.deref-image.ensures.value in
    let keeps = (gc_recovered_device crashed.image.items c.args.room device (subst (λ (s : PmemState). IsGcRecovered s device) begun c.in-Ok.ensures.recovered)).keeps in
    let same = gc_blocks_in-same crashed.image.items (words_of device) keeps.bounds keeps.heap in
    c.in-Ok-heap_text.ensures ∙ ap (λ (blocks : List Block). crash_text crashed.call crashed.side blocks) same

pub returns-clause-put : goal.returns-clause-put
returns-clause-put g c =
    let image = c.args.crashed.now.image.items in
    let device : PmemState = c.in-Ok.recovered.device in
    let begun : g.H.Device.Pmem.state c.in_ok-device.device ≡ fresh image c.args.room = c.in_ok-device.ensures.device ∙ ap (λ (ws : List ℕ). fresh ws c.args.room) c.deref-image.ensures.value in (
      device,
      gc_recovered_device image c.args.room device (subst (λ (s : PmemState). IsGcRecovered s device) begun c.in-Ok.ensures.recovered),
      c.put.ensures.places
          ∙ ap (λ (places : Option (List (Option PmemState))). put_device places c.args.arena (g.H.Device.Pmem.state c.into_pmem.result)) c.in_ok-device.ensures.places
          ∙ ap (λ (d : PmemState). put_device (g.H.Shelf.places c.args.shelf.now) c.args.arena d) c.into_pmem.ensures.device,
    )
