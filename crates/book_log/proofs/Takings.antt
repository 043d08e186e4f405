-- What a pass over the log makes of a table of live extents.
use Rattle.std.proofs.Common.{◌≡◌, ◌<◌, ◌≤◌, ◌+◌, ◌++◌, ℕ, List, [], ◌∷◌, length, get_or, take, None, Option, ap, ◌∙◌, add-one, append-nil, flat_map}
use Rattle.book_log.proofs.Common.{take_more, take_all, Extent, version_in, extent_behind-append}
use Rattle.std.proofs.lemmas.List.Concat.{flat_map-append}
use Rattle.image_tables.specs.Log.{entry_or_none, entries_below, chunk_log, log_of}
use Rattle.image_tables.specs.Extents.{extent_behind, extent_at}
use Rattle.book_log.specs.Book.{chunks_of}

-- one word more of a row
pub behind_row : (row : ℕ → ℕ) (n start : ℕ) (before : Option Extent) →
    extent_behind (entries_below row (n + 1)) start before ≡ extent_behind (entry_or_none (row n)) start (extent_behind (entries_below row n) start before)
behind_row row n start before =
    ap (λ m. extent_behind (entries_below row m) start before) (add-one n)
    ∙ extent_behind-append (entries_below row n) (entry_or_none (row n)) start before

-- one chunk more
pub behind_chunks : (f : ℕ → List ℕ) (chunks : List ℕ) (i d start : ℕ) (before : Option Extent) → i < length chunks →
    extent_behind (flat_map f (take (i + 1) chunks)) start before ≡ extent_behind (f (get_or chunks i d)) start (extent_behind (flat_map f (take i chunks)) start before)
behind_chunks f chunks i d start before below =
    ap (λ cs. extent_behind (flat_map f cs) start before) (take_more chunks i d below)
    ∙ ap (λ ws. extent_behind ws start before) (flat_map-append f (take i chunks) (get_or chunks i d ∷ []))
    ∙ ap (λ ws. extent_behind (flat_map f (take i chunks) ++ ws) start before) (append-nil (f (get_or chunks i d)))
    ∙ extent_behind-append (flat_map f (take i chunks)) (f (get_or chunks i d)) start before

-- all chunks
pub behind_all : (words : List ℕ) (version : ℕ) (chunks : List ℕ) (n start : ℕ) → version ≡ version_in words → chunks ≡ chunks_of words → length chunks ≤ n →
    extent_behind (flat_map (chunk_log version words) (take n chunks)) start None ≡ extent_at words start
unfolding extent_at log_of
behind_all words version chunks n start same all whole =
    ap (λ cs. extent_behind (flat_map (chunk_log version words) cs) start None) (take_all n chunks whole ∙ all)
    ∙ ap (λ v. extent_behind (flat_map (chunk_log v words) (chunks_of words)) start None) same
