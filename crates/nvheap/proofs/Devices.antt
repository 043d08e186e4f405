-- Devices of several arenas, one arena further.
use Rattle.std.proofs.Common.{◌≡◌, ℕ, suc, ◌+◌, List, [], ◌∷◌, ◌++◌, length, map, ◌≤◌, ◌%◌, Option, sym, ap, ◌∙◌, refl, subst, arith}
use Rattle.std.proofs.lemmas.List.{append_assoc, append-nil, length-map}
use mathlib.Core.List.{map-append}
use Rattle.nvheap.proofs.Common.{IsSoundImage, PmemState, words_of, bytes_of_words, PoolSize, TraceCall, header_for, EachFrom-more}
use Rattle.heap_check.proofs.Sizes.{sizes_of}
use Rattle.trace_runs.specs.Calls.{calls_of}
use Rattle.trace_runs.specs.Journals.{IsRunThrough}
use Rattle.nvheap.specs.Outside.{put_device, put_devices}
use Rattle.nvheap.specs.Imaging.{AreRunThrough, images_of}

-- the last device is put first
pub put_devices-last : (places : Option (List (Option PmemState))) (arena : ℕ) (devices : List PmemState) (last : PmemState) →
    put_devices places arena (devices ++ last ∷ []) ≡ put_devices (put_device places (arena + length devices) last) arena devices
put_devices-last places arena [] last = ap (λ n. put_device places n last) (let here : arena ≡ arena + 0 = omega arith in here)
put_devices-last places arena (d ∷ ds) last =
    let next : suc arena + length ds ≡ arena + suc (length ds) = omega arith in
    ap (λ (rest : Option (List (Option PmemState))). put_device rest arena d) (put_devices-last places (suc arena) ds last ∙ ap (λ n. put_devices (put_device places n last) (suc arena) ds) next)

-- no device
pub put_devices-none : {D : Type 0} (state : D → PmemState) (places : Option (List (Option PmemState))) (devices : List D) → length devices ≡ 0 → put_devices places 0 (map state devices) ≡ places
put_devices-none state places [] none = refl
put_devices-none state places (d ∷ ds) none = absurd (omega (arith, none))

-- the same where the devices are read off other things
pub put_devices-popped : {D : Type 0} (state : D → PmemState) (places : Option (List (Option PmemState))) (devices rest : List D) (last : D) → devices ≡ rest ++ last ∷ [] →
    put_devices places 0 (map state devices) ≡ put_devices (put_device places (length rest) (state last)) 0 (map state rest)
put_devices-popped state places devices rest last whole =
    ap (λ ds. put_devices places 0 (map state ds)) whole ∙ ap (put_devices places 0) (map-append state rest (last ∷ []))
    ∙ put_devices-last places 0 (map state rest) (state last)
    ∙ ap (λ n. put_devices (put_device places n (state last)) 0 (map state rest)) (let many : 0 + length (map state rest) ≡ length rest = omega (arith, length-map rest state) in many)

-- the words of the devices, one device further
pub images_of-more : {D : Type 0} (state : D → PmemState) (devices : List D) (last : D) (old new : List ℕ) → old ≡ images_of (map state devices) → new ≡ old ++ bytes_of_words (words_of (state last)) →
    new ≡ images_of (map state (devices ++ last ∷ []))
images_of-more state devices last old new was is =
    is ∙ ap (λ (bs : List ℕ). bs ++ bytes_of_words (words_of (state last))) was
    ∙ sym (ap images_of (map-append state devices (last ∷ [])) ∙ flat_map-one (map state devices) (state last))
  where
    flat_map-one : (ds : List PmemState) (d : PmemState) → images_of (ds ++ d ∷ []) ≡ images_of ds ++ bytes_of_words (words_of d)
    flat_map-one [] d = append-nil (bytes_of_words (words_of d))
    flat_map-one (e ∷ ds) d = ap (λ (bs : List ℕ). bytes_of_words (words_of e) ++ bs) (flat_map-one ds d) ∙ sym (append_assoc (bytes_of_words (words_of e)) (images_of ds) (bytes_of_words (words_of d)))

pub AreRunThrough-pushed : {D : Type 0} (state : D → PmemState) (pool : PoolSize) (calls : List TraceCall) (devices : List D) (last : D) (arena : ℕ) → length devices ≡ arena → AreRunThrough pool calls 0 (map state devices) →
    IsRunThrough (header_for pool arena) (calls_of arena calls) (state last) → AreRunThrough pool calls 0 (map state (devices ++ last ∷ []))
AreRunThrough-pushed state pool calls devices last arena many are run =
    let here : arena ≡ 0 + length (map state devices) = omega (arith, many, length-map devices state) in
    subst (AreRunThrough pool calls 0) (sym (map-append state devices (last ∷ [])))
    (EachFrom-more (λ n device. IsRunThrough (header_for pool n) (calls_of n calls) device) 0 (map state devices) (state last) are (subst (λ n. IsRunThrough (header_for pool n) (calls_of n calls) (state last)) here run))

-- the words of a sound image are as many as a device may have
pub few_words : (words : List ℕ) → IsSoundImage words → (length words ≤ 8388608) × (32768 ≤ length words) × (length words % 8 ≡ 0)
few_words words sound =
    let sizes = sizes_of words sound.formed in
    (omega (arith, sizes.size, sizes.most), omega (arith, sizes.size, sizes.least), omega (arith, sizes.size))
