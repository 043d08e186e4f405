-- Raised words are an exact image, with the same heap so much higher.
use Rattle.std.proofs.Common.{◌≡◌, ℕ, List}
use Rattle.image_raise.proofs.Common.{version_in, tables_of, bounds_of, IsExactImage}
use Rattle.image_raise.specs.Rise.{rise, IsRaisedImage}
use Rattle.image_raise.proofs.Exact.{raised_exact}
use Rattle.image_raise.proofs.Raised.{IsRaisedWords}
use Rattle.image_raise.proofs.Tables.{raised_tables, formed_now, wider}

pub raised_image : {words new : List ℕ} → IsExactImage words → version_in words ≡ 1 → IsRaisedWords words new → IsRaisedImage words new
raised_image {words} {new} image version is =
    let both = raised_exact rise (bounds_of words) (bounds_of new) (tables_of words) (tables_of new) image.exact (wider image version is) (raised_tables image version is) in
    record {
      exact = record { formed = formed_now image version is; exact = both.0 };
      blocks = both.1.blocks;
      no_slab = both.1.no_slab;
      slab = both.1.slab;
      word = is.heap;
    }
