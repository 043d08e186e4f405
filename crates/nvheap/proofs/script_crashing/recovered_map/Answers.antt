use Rattle.std.proofs.Common.{arith, subst, sym, ap, ◌∙◌, ℕ, List, Option, length}
use Rattle.nvheap.proofs.Common.{PmemState, words_of, fresh, IsSoundImage, sound_of, HasVersionRoom, IsRecovered, recovered_device, IsSteadyDict}
use Rattle.dict_runs.specs.Watching.{HasSteadyDict}
use Rattle.nvheap.specs.Outside.{put_device}
use Rattle.nvheap.proofs.Devices.{few_words}
use Rattle.nvheap.proofs.Recoveries.{version_room}
use Rattle.nvheap.proofs.script_crashing.recovered_map.Goals as goal

pub take_image-requires : goal.take_image-requires
take_image-requires g c =
    let same = ap length c.deref-image.ensures.value in
    let fits = few_words c.args.crashed.now.image.items (sound_of c.args.crashed.now.image.items c.requires.steady.steady.steady) in
    record { whole = omega (arith, same, fits.2); some = omega (arith, same, fits.1); few = omega (arith, same, fits.0) }

pub room_of-requires : goal.room_of-requires
room_of-requires g c = subst IsSoundImage (sym c.deref-image.ensures.value) (sound_of c.args.crashed.now.image.items c.requires.steady.steady.steady)

pub reopen-requires-clause-room : goal.reopen-requires-clause-room
reopen-requires-clause-room g c = subst HasVersionRoom (sym c.in_ok-device.ensures.device) (version_room c.deref-image.result.now c.room_of.result c.room_of.ensures)

pub reopen-requires-clause-steady : goal.reopen-requires-clause-steady
reopen-requires-clause-steady g c = subst HasSteadyDict (sym (ap (λ (s : PmemState). words_of s) c.in_ok-device.ensures.device ∙ c.deref-image.ensures.value)) c.requires.steady

pub returns-clause-text : goal.returns-clause-text
returns-clause-text g c =
    let dict = c.in_ok-dict.dict in
    let told = c.in-Ok.ensures in
    record {
      pairs = dict.pairs;
      side = told.side;
      steady = subst (IsSteadyDict dict.pairs) (ap (λ (s : PmemState). words_of s) c.in_ok-device.ensures.device ∙ c.deref-image.ensures.value) c.in_ok-dict.ensures.same;
      is_side = told.is_side;
      is = told.text;
    }

pub returns-clause-put : goal.returns-clause-put
returns-clause-put g c =
    let image = c.args.crashed.now.image.items in
    let room = c.room_of.result in
    let device : PmemState = g.H.Device.Pmem.state c.into_pmem.result in (
      device,
      recovered_device image room device (subst (λ (s : PmemState). IsRecovered s device) (c.in_ok-device.ensures.device ∙ ap (λ (ws : List ℕ). fresh ws room) c.deref-image.ensures.value)
          (subst (λ (s : PmemState). IsRecovered (g.H.Device.Pmem.state c.in_ok-device.device) s) (sym (c.into_pmem.ensures.device ∙ ap (λ a. a.device) c.into_arena.ensures.arena)) c.in_ok-dict.ensures.recovered)),
      c.put.ensures.places ∙ ap (λ (places : Option (List (Option PmemState))). put_device places 0 device) c.in_ok-device.ensures.places,
    )
