use Rattle.std.proofs.Common.{arith, subst, sym, ap, ◌∙◌, ◌≡◌, ℕ, List, Option, length}
use Rattle.nvheap.proofs.Common.{PmemState, words_of, fresh, IsSoundImage, faultless_of, no_defect, HasVersionRoom, IsRecovered, recovered_device}
use Rattle.nvheap.specs.Outside.{put_device}
use Rattle.nvheap.proofs.Devices.{few_words}
use Rattle.nvheap.proofs.Recoveries.{version_room}
use Rattle.nvheap.proofs.crashing.recovered_report.Goals as goal

pub take_image-requires : goal.take_image-requires
take_image-requires g c =
    let same = ap length c.deref-image.ensures.value in
    let fits = few_words c.args.crashed.now.image.items c.requires.sound in
    record { whole = omega (arith, same, fits.2); some = omega (arith, same, fits.1); few = omega (arith, same, fits.0) }

pub room_of-requires : goal.room_of-requires
room_of-requires g c = subst IsSoundImage (sym c.deref-image.ensures.value) c.requires.sound

pub recover_heap-requires-clause-room : goal.recover_heap-requires-clause-room
recover_heap-requires-clause-room g c = subst HasVersionRoom (sym c.in_ok-device.ensures.device) (version_room c.deref-image.result.now c.room_of.result c.room_of.ensures)

pub unreachable-requires : goal.unreachable-requires
unreachable-requires g c =
    let words = words_of (g.H.Device.Pmem.state c.in_ok-device.device) in
    let same : words ≡ c.args.crashed.now.image.items = ap (λ (s : PmemState). words_of s) c.in_ok-device.ensures.device ∙ c.deref-image.ensures.value in
    no_defect words c.in-Err-Defect.field-0-0 (faultless_of words (subst IsSoundImage (sym same) c.requires.sound)) (rw c.in-Err-Defect.field-0-is at c.in-Err-Defect.ensures.defect)

pub returns-clause-put : goal.returns-clause-put
returns-clause-put g c =
    let image = c.args.crashed.now.image.items in
    let room = c.room_of.result in
    let device : PmemState = g.H.Device.Pmem.state c.in-Ok.recovered.device in (
      device,
      recovered_device image room device (subst (λ (s : PmemState). IsRecovered s device) (c.in_ok-device.ensures.device ∙ ap (λ (ws : List ℕ). fresh ws room) c.deref-image.ensures.value) c.in-Ok.ensures.recovered),
      c.put.ensures.places ∙ ap (λ (places : Option (List (Option PmemState))). put_device places c.args.arena device) c.in_ok-device.ensures.places,
    )
