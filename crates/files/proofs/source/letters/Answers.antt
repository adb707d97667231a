use Rattle.std.proofs.Common.{refl}
use Rattle.files.specs.Letters.{all_letters}
use Rattle.files.proofs.source.letters.Goals as goal

-- so that other letters are refused at once, and not by a limit
pub returns : goal.returns
unfolding all_letters
returns c = refl
