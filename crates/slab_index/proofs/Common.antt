-- What the proofs of this crate cite of the crates below, in one place.
pub use Rattle.std.proofs.lemmas.Bool.{cases_lt, cases_eq, eq-eqb, ne_eqb, cond-true, cond-false, and_from, and_left, and_right, both_ways, false≢true, eqb-true, ltb-true, ltb-false, and_parts, le-ltb, le-leb, leb-true, lt-ltb, false_from_ne_true, cases_Bool}
pub use Rattle.std.proofs.lemmas.List.{append-nil, get_or-replicate, get_or_past, length-replicate, get_or-set_same, get_or-set_other, length-set, get_or_read, with_items_is}
pub use Rattle.std.proofs.lemmas.Nat.{and_le_l}
pub use Rattle.std.proofs.lemmas.Nat.Bits.{bit_at-lt, bit_at_and, bit_at_not, bit_at-zero, bit_at-trailing_zeros}
pub use Rattle.std.proofs.lemmas.Option.{none-some, same_Some}
pub use Rattle.std.specs.Int.{bit_at, trailing_zeros}
pub use Rattle.std.specs.Option.{IfSome}
pub use Rattle.std.specs.Vec.{with_items}
pub use Rattle.size_classes.specs.Classes.{class_capacity}
pub use Rattle.bit_words.proofs.Bits.{has-zeros, get_or-zeros, has-zero, has_in_word, bit_of_ones, ones_fit, put_beside, told_after, has-set, put_here}
pub use Rattle.bit_words.proofs.Fills.{fits_filled, has_filled, some_filled, some_if_more}
pub use Rattle.bit_words.specs.Numbers.{has, IsPut, ones, IsFilled, IsLeastIn}
pub use Rattle.heap_model.specs.Machine.{with_key}
