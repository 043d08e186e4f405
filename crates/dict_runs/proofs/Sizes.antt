-- How large the arena of a script is.
use Rattle.std.proofs.Common.{◌≡◌, ℕ, ◌≤◌, refl, arith}
use Rattle.pool_layout.specs.Layout.{layout_of}
use Rattle.dict_text.specs.Script.{IsDictSize}

pub few_granules : (granules : ℕ) → IsDictSize granules → granules ≤ 1024
unfolding layout_of
few_granules granules size = let most : (layout_of 1).most_granules ≡ 1024 = refl in let few = size.most in omega (arith, most, few)
