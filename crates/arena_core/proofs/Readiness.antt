-- A memory that is ready: which events there is room for, and that it stays so.
use Rattle.std.proofs.Common.{◌≡◌, ◌+◌, ◌<◌, ◌≤◌, ℕ, List, ap, arith, inl}
use Rattle.arena_core.proofs.Common.{IsQuiet, PmemState, words_of, version_in, layout_rules, IsReady, word_at, fields_word, log_start-low, sizes_of, root_inside}
use Rattle.pool_layout.specs.declared.layout.Layout.{Layout}
use Rattle.pool_layout.specs.Layout.{layout_of}
use Rattle.pool_layout.specs.Header.{version_field}
use Rattle.pool_layout.proofs.Layouts.{first_row, second_row}
use Rattle.image_tables.proofs.Stores.{version_in-put_root}
use Rattle.extent_steps.specs.Slabs.{KeepsAllButSlab}
use Rattle.log_steps.proofs.Entries.{most_few}

-- it is ready again where it is quiet and its header has the same fields
pub ready_after : {old new : PmemState} → IsReady old → new.room ≡ old.room → IsQuiet new.events → word_at (words_of new) fields_word ≡ word_at (words_of old) fields_word → IsReady new
ready_after {old} {new} ready same quiet header = record { quiet = quiet; room = omega (arith, ready.room, same, ap (λ fields. (layout_of (version_field fields)).room) header) }

-- the fields stay where a slab is opened or dropped
pub fields_kept : {words new : List ℕ} {start : ℕ} → KeepsAllButSlab words start new → 0 < start → word_at new fields_word ≡ word_at words fields_word
fields_kept {words} rest some = rest.others fields_word (λ e. omega (arith, e)) (inl (omega (arith, log_start-low (version_in words)))) (inl (omega (arith, some)))

-- the version stays where a root's word is stored
pub ruleset root_rules = (version_in-put_root)

-- the room of any version
pub room_of : {device : PmemState} → IsReady device → 2048 ≤ device.room
room_of {device} ready = omega (arith, ready.room, (layout_rules (version_in (words_of device))).room)

-- a slab may be opened, and a block of it given out
pub slab_room : {device : PmemState} → IsReady device → (layout_of (version_in (words_of device))).slab_events + 11 ≤ device.room
slab_room {device} ready = omega (arith, ready.room, (layout_rules (version_in (words_of device))).call)

-- an entry may be put into the log, and 86 events besides
pub entry_room : {device : PmemState} → IsReady device → (layout_of (version_in (words_of device))).entry_events + 86 ≤ device.room
entry_room {device} ready = omega (arith, slab_room ready, (layout_rules (version_in (words_of device))).slab)

-- what a memory that is ready has room for, and the numbers of its image
pub ruleset room_rules = (room_of, slab_room, entry_room, most_few, sizes_of, root_inside)

-- the numbers of version 1, which an arena is made of
pub first_room : (layout_of 1).room ≡ 2048
first_room = ap (λ (r : Layout). r.room) first_row

pub first_most : (layout_of 1).most_granules ≡ 1024
first_most = ap (λ (r : Layout). r.most_granules) first_row

-- and those of version 2
pub second_room : (layout_of 2).room ≡ 4096
second_room = ap (λ (r : Layout). r.room) second_row

pub second_least : (layout_of 2).least_granules ≡ 25
second_least = ap (λ (r : Layout). r.least_granules) second_row

pub second_most : (layout_of 2).most_granules ≡ 4096
second_most = ap (λ (r : Layout). r.most_granules) second_row
