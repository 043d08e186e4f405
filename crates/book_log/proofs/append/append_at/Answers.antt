use Rattle.std.proofs.Common.{◌≡◌, ◌*◌, ◌∙◌, ap, sym, subst, length, List, ℕ, arith}
use Rattle.book_log.proofs.Common.{words_of, layout_of, entry_slot, version_in, extent_at}
use Rattle.durable_steps.proofs.Steps.{word_step}
use Rattle.pool_layout.specs.declared.layout.Layout.{Layout}
use Rattle.book_log.specs.Table.{extent_in}
use Rattle.book_log.specs.Book.{HasLog, AreWithin, IsNextOf, IsPlaceAfter, chunks_of}
use Rattle.book_log.proofs.Places.{header_within, place_at}
use Rattle.book_log.proofs.Appending.{with_entry-same}
use Rattle.book_log.proofs.Puts.{append_of, put_entry_word, version_put, chunks_put, place_in_log, log_put, within_put, extents_put, next_put, crash_put, IsPut, says_put, words_put}
use Rattle.book_log.proofs.append.append_at.Given as given
use Rattle.book_log.proofs.append.append_at.Goals as goal

pub version_of-version-requires : goal.version_of-version-requires
version_of-version-requires g c =
    omega (arith, header_within (length c.args.live.now) (words_of (g.P.Pmem.state c.args.device.now)) c.requires.place.log c.requires.place.inside)

pub write_word-requires-clause-place : goal.write_word-requires-clause-place
write_word-requires-clause-place g c =
    let a = c.args in
    let words = words_of (g.P.Pmem.state a.device.now) in
    place_at (g.P.Pmem.state a.device.now) c.entry_at.result (entry_slot (version_in words) a.place.chunk a.place.entry)
    (c.entry_at.ensures ∙ ap (λ v. 8 * entry_slot v a.place.chunk a.place.entry) c.version_of-version.ensures)
    (append_of c.requires.place).inside

-- it puts the entry
put : (g : given.Over) (c : goal.After-place_after g) → IsPut (words_of (g.P.Pmem.state c.args.device.now)) c.args.place c.args.entry c.entry_at.result c.log_word-word.result
put g c = record {
  at_is = c.entry_at.ensures ∙ ap (λ v. 8 * entry_slot v c.args.place.chunk c.args.place.entry) c.version_of-version.ensures;
  value_is = c.log_word-word.ensures.word;
  says = c.log_word-word.ensures.says;
}

-- it leaves the words with the entry at its place
left : (g : given.Over) (c : goal.After-place_after g) → put_entry_word (words_of (g.P.Pmem.state c.args.device.now)) c.args.place c.args.entry ≡ words_of (g.P.Pmem.state c.write_word.new.device)
left g c = sym (c.write_word.ensures.appends.words ∙ words_put (put g c))

pub returns-clause-extents : goal.returns-clause-extents
returns-clause-extents g c start =
    ap (λ (ws : List ℕ). extent_at ws start) (sym (left g c)) ∙ extents_put c.requires.place (says_put (put g c)) start

pub returns-clause-live : goal.returns-clause-live
returns-clause-live g c start =
    let words = words_of (g.P.Pmem.state c.args.device.now) in
    c.put_entry.ensures start
    ∙ with_entry-same (extent_in c.args.live.now) (extent_at words) c.args.entry start (c.requires.live start)
    ∙ sym (extents_put c.requires.place (says_put (put g c)) start)
    ∙ ap (λ (ws : List ℕ). extent_at ws start) (left g c)

pub returns-clause-log : goal.returns-clause-log
returns-clause-log g c =
    subst (HasLog (length c.put_entry.new.live)) (left g c)
    (subst (λ n. HasLog n (put_entry_word (words_of (g.P.Pmem.state c.args.device.now)) c.args.place c.args.entry)) (sym c.put_entry.auto.live) (log_put c.requires.place))

pub returns-clause-inside : goal.returns-clause-inside
returns-clause-inside g c = subst AreWithin (left g c) (within_put c.requires.place)

pub returns-clause-next : goal.returns-clause-next
returns-clause-next g c =
    let words = words_of (g.P.Pmem.state c.args.device.now) in
    let entries : c.layout_of.result.chunk_entries ≡ (layout_of (version_in words)).chunk_entries =
    ap (λ (row : Layout). row.chunk_entries) (c.layout_of.ensures.row ∙ ap layout_of c.version_of-version.ensures) in
    subst (λ (ws : List ℕ). IsNextOf ws c.place_after.result) (left g c)
    (next_put c.place_after.result c.requires.place (subst (λ n. IsPlaceAfter n c.args.place c.place_after.result) entries c.place_after.ensures))

pub returns-clause-step : goal.returns-clause-step
returns-clause-step g c =
    word_step c.entry_at.result c.log_word-word.result (put g c).at_is (put g c).value_is (crash_put c.requires.place (says_put (put g c))) c.write_word.ensures

pub returns-clause-place : goal.returns-clause-place
returns-clause-place g c = place_in_log c.requires.place

pub returns-clause-version : goal.returns-clause-version
returns-clause-version g c = ap (λ (ws : List ℕ). version_in ws) (sym (left g c)) ∙ version_put (words_of (g.P.Pmem.state c.args.device.now)) c.args.place c.args.entry

pub returns-clause-chunks : goal.returns-clause-chunks
returns-clause-chunks g c = ap chunks_of (sym (left g c)) ∙ chunks_put (words_of (g.P.Pmem.state c.args.device.now)) c.args.place c.args.entry
