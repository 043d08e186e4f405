use Rattle.pool_layout.proofs.OneImage.{law_of_images}
use Rattle.pool_layout.proofs.laws.law_of_images.Goals as goal

pub returns : goal.returns
returns c = law_of_images
