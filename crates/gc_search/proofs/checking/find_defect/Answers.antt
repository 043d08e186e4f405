use Rattle.std.proofs.lemmas.Result.{err_from_is_err_and}
use Rattle.std.proofs.Common.{inl, inr, sym, subst, ◌∙◌}
use Rattle.book_log.specs.Book.{HasLog}
use Rattle.gc_check.specs.Defects.{FromExtents, IsFirstGcDefect}
use Rattle.gc_check.proofs.Faultless.{sound_of}
use Rattle.gc_search.specs.Image.{HasGoodHeap, IsSoundBy}
use Rattle.gc_search.specs.Names.{AreNamesOf}
use Rattle.gc_search.proofs.Outcomes.{ok_both, err_lift}
use Rattle.gc_search.proofs.Premises.{header_there, log_inside}
use Rattle.gc_search.proofs.checking.find_defect.Goals as goal

pub returns-in_err-check_length-clause-defect : goal.returns-in_err-check_length-clause-defect
returns-in_err-check_length-clause-defect c =
    let p = err_from_is_err_and c.from_residual-in_err-check_length.result c.from_residual-in_err-check_length.ensures.1 in
    let header = header_there c.args.words.now c.in_ok-header.header c.in_ok-header.ensures.header in
    rw (p.1, p.2) (inr (header, inl c.in_err-check_length.ensures.defect))

pub returns-in_err-check_directory-clause-defect : goal.returns-in_err-check_directory-clause-defect
returns-in_err-check_directory-clause-defect c =
    let p = err_from_is_err_and c.from_residual-in_err-check_directory.result c.from_residual-in_err-check_directory.ensures.1 in
    let header = header_there c.args.words.now c.in_ok-header.header c.in_ok-header.ensures.header in
    rw (p.1, p.2) (inr (header, inr (c.in_ok-check_length.ensures.size, inl c.in_err-check_directory.ensures.defect)))

pub returns-in_err-check_entries-clause-defect : goal.returns-in_err-check_entries-clause-defect
returns-in_err-check_entries-clause-defect c =
    let p = err_from_is_err_and c.from_residual-in_err-check_entries.result c.from_residual-in_err-check_entries.ensures.1 in
    let header = header_there c.args.words.now c.in_ok-header.header c.in_ok-header.ensures.header in
    rw (p.1, p.2) (inr (header, inr (c.in_ok-check_length.ensures.size, inr (c.in_ok-check_directory.ensures.directory, inl c.in_err-check_entries.ensures.defect))))

pub load_words-requires-clause-log : goal.load_words-requires-clause-log
load_words-requires-clause-log c =
    let words = c.args.words.now in
    let header = header_there words c.in_ok-header.header c.in_ok-header.ensures.header in
    subst (λ n. HasLog n words) (sym (c.requires.granules.fits header)) (record { directory = c.in_ok-check_directory.ensures.directory; entries = c.in_ok-check_entries.ensures.entries })

pub load_words-requires-clause-inside : goal.load_words-requires-clause-inside
load_words-requires-clause-inside c =
    let words = c.args.words.now in
    log_inside words (header_there words c.in_ok-header.header c.in_ok-header.ensures.header) c.in_ok-check_length.ensures.size

pub find_in_heap-requires-clause-read : goal.find_in_heap-requires-clause-read
find_in_heap-requires-clause-read c =
    let words = c.args.words.now in
    let header = header_there words c.in_ok-header.header c.in_ok-header.ensures.header in
    record { header = header; size = c.in_ok-check_length.ensures.size; reads = c.load_words.ensures.reads; granules = c.load_words.ensures.granules ∙ c.requires.granules.fits header }

pub returns-clause-sound : goal.returns-clause-sound
returns-clause-sound c =
    let words = c.args.words.now in
    let header = header_there words c.in_ok-header.header c.in_ok-header.ensures.header in
    ok_both (HasGoodHeap words) (AreNamesOf words c.find_in_heap.new.names) (IsSoundBy words c.load_words.new.self c.find_in_heap.new.names) c.find_in_heap.result (λ good names. record {
      sound = sound_of words (record {
        header = header;
        size = c.in_ok-check_length.ensures.size;
        directory = c.in_ok-check_directory.ensures.directory;
        entries = c.in_ok-check_entries.ensures.entries;
        disjoint = good.disjoint;
        slabs = good.slabs;
        standing = good.standing;
        apart = good.apart;
        few = good.few;
      });
      book = record { header = header; size = c.in_ok-check_length.ensures.size; reads = c.load_words.ensures.reads; granules = c.load_words.ensures.granules ∙ c.requires.granules.fits header };
      marks = names;
    }) c.find_in_heap.ensures.good c.find_in_heap.ensures.names

pub returns-clause-defect : goal.returns-clause-defect
returns-clause-defect c =
    let words = c.args.words.now in
    let header = header_there words c.in_ok-header.header c.in_ok-header.ensures.header in
    err_lift (FromExtents words) (IsFirstGcDefect words) c.find_in_heap.result (λ d is. inr (header, inr (c.in_ok-check_length.ensures.size, inr (c.in_ok-check_directory.ensures.directory, inr (c.in_ok-check_entries.ensures.entries, is)))))
    c.find_in_heap.ensures.defect
