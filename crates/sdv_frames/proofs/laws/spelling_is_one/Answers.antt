use Rattle.sdv_frames.proofs.Spelled.{one_spelling}
use Rattle.sdv_frames.proofs.laws.spelling_is_one.Goals as goal

pub returns : goal.returns
returns c = one_spelling
